use Rattle.std.proofs.Common.{sym, subst}
use Rattle.km_base.specs.declared.acts.Answer.{Answer}
use Rattle.km_base.specs.declared.acts.Answer.TheVariants.{Refused}
use Rattle.km_base.specs.declared.acts.Refusal.TheVariants.{Disabled}
use Rattle.km_objects.specs.Objects.{annotated}
use Rattle.km_core.specs.Kernels.{act_of, answered}
use Rattle.km_core.specs.Parts.{Answers, IsReady, Parts, Touches}
use Rattle.km_core.proofs.Marks.{after_note}
use Rattle.km_core.proofs.Standing.{refused_now}
use Rattle.km_core.proofs.NoteActs.{disabled_note, note_still, noted, noted_hosts, quietly_if, note_done, note_refused}
use Rattle.km_core.proofs.kernel.Kernel.annotate.Goals as goal

pub returns-then-not-self-clause-answers : goal.returns-then-not-self-clause-answers
returns-then-not-self-clause-answers g c =
    let i = c.self.inside in
    let p : Parts = record { words = i.words; hosts = i.hosts; objects = i.objects; settings = i.settings } in
    let ready = subst IsReady (sym c.self.view_is) c.requires.ready in
    let act = act_of c.args.note c.args.start.0 in
    subst (λ x. Answers x x act (Refused Disabled)) c.self.view_is
    (refused_now p act Disabled ready.whole (note_still c.args.note c.args.start.0) (λ s stands reached. disabled_note p c.args.note c.args.start.0 s stands c.if-not-self.true))

pub returns-clause-answers : goal.returns-clause-answers
returns-clause-answers g c =
    let i = c.self.inside in
    let p : Parts = record { words = i.words; hosts = i.hosts; objects = i.objects; settings = i.settings } in
    let ready = subst IsReady (sym c.self.view_is) c.requires.ready in
    let a = c.args.start.0 in
    let n = c.args.note in
    let act = act_of n a in
    let q : Parts = record p { objects = c.annotate.new.self } in
    let e = c.annotate.ensures in
    subst (λ x. Answers x q act (answered c.done_where.result)) c.self.view_is (subst (λ (x : Answer). Answers p q act x) (sym c.done_where.ensures)
    (noted p c.annotate.new.self n a c.annotate.result (annotated n a) ready.whole c.if-not-self.false e.answer e.state e.agree e.places e.none
    (λ s. after_note n s a) (λ s r. noted_hosts p s n a r)))

pub returns-then-not-self-clause-quiet : goal.returns-then-not-self-clause-quiet
returns-then-not-self-clause-quiet g c = λ t. note_refused c.args.note c.args.start.0 Disabled t

pub returns-clause-quiet : goal.returns-clause-quiet
returns-clause-quiet g c = λ t. subst (λ (x : Answer). Touches (act_of c.args.note c.args.start.0) x t t) (sym c.done_where.ensures) (quietly_if (act_of c.args.note c.args.start.0) c.annotate.result (note_done c.args.note c.args.start.0) (note_refused c.args.note c.args.start.0) t)
