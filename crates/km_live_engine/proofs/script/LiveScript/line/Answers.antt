use Rattle.std.proofs.Common.{ℕ, ◌<◌, List, [], ◌∷◌, length, ◌≡◌, refl, arith, ap, sym, subst, ◌∙◌}
use Rattle.km_engine.specs.Session.{HasLed}
use Rattle.km_live_engine.proofs.Lines.{empty_runs}
use Rattle.km_live_engine.proofs.script.LiveScript.line.Goals as goal

pub returns-in-empty-clause-runs : goal.returns-in-empty-clause-runs
returns-in-empty-clause-runs g c =
    λ p stands. empty_runs _ p c.args.bytes.now (g.K.Sink.state c.args.sink.now)
    (record {
      led = subst (λ m. HasLed m p.script.script) (sym (ap (λ s. s.machine) c.self.view_is)) stands.come.led;
      threads = ap (λ s. s.threads) c.self.view_is ∙ stands.come.threads;
    })
    (none_there c.args.bytes.now c.in-empty.len_below) where
      none_there : (bytes : List ℕ) → length bytes < 1 → bytes ≡ []
      none_there [] lt = refl
      none_there (b ∷ bs) lt = absurd (omega (arith, lt))
