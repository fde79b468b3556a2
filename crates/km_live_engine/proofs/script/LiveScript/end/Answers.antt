use Rattle.std.proofs.Common.{ap, ◌∙◌, not, is_none}
use Rattle.km_live_engine.proofs.Lines.{ends_open}
use Rattle.km_live_engine.proofs.script.LiveScript.end.Goals as goal

pub returns-then-is_open : goal.returns-then-is_open
returns-then-is_open g c =
    ends_open c.args.self.now.threads.opened c.args.self.now.number _ _ _ c.refuse.result c.is_open.result c.if-is_open.true
    (c.is_open.ensures ∙ ap (λ s. not (is_none s.threads.opened)) c.self.view_is) (ap (λ s. s.number) c.self.view_is) c.refuse.ensures
