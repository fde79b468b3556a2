use Rattle.std.proofs.Common.{refl, sym, subst, ◌≡◌, Result, Ok, Err, rules}
use Rattle.km_base.specs.declared.acts.Act.TheVariants as acts
use Rattle.km_base.specs.declared.acts.Answer.{Answer}
use Rattle.km_base.specs.declared.acts.Answer.TheVariants.{Refused, Done}
use Rattle.km_base.specs.declared.acts.Refusal.TheVariants.{BadAddress, BadSize, Disabled}
use Rattle.km_core.specs.Parts.{Answers, IsReady, Parts}
use Rattle.km_core.proofs.Standing.{refused_now}
use Rattle.km_core.proofs.NoteActs.{area_answers, area_disabled, area_outside, area_uneven}
use Rattle.km_core.specs.Kernels.{answered}
use Rattle.km_base.specs.declared.acts.Refusal.{Refusal}
use Rattle.km_core.proofs.kernel.Kernel.scan_area.Goals as goal

pub returns-then-not-self-clause-answers : goal.returns-then-not-self-clause-answers
returns-then-not-self-clause-answers g c =
    let i = c.self.inside in
    let p : Parts = record { words = i.words; hosts = i.hosts; objects = i.objects; settings = i.settings } in
    let ready = subst IsReady (sym c.self.view_is) c.requires.ready in
    subst (λ x. Answers x x (acts.ScanArea c.args.a.0 c.args.size) (Refused Disabled)) c.self.view_is
    (refused_now p (acts.ScanArea c.args.a.0 c.args.size) Disabled ready.whole refl (λ s stands reached. area_disabled p c.args.a.0 c.args.size s stands c.if-not-self.true))

pub returns-then-not-in_memory-clause-answers : goal.returns-then-not-in_memory-clause-answers
returns-then-not-in_memory-clause-answers g c =
    let i = c.self.inside in
    let p : Parts = record { words = i.words; hosts = i.hosts; objects = i.objects; settings = i.settings } in
    let ready = subst IsReady (sym c.self.view_is) c.requires.ready in
    subst (λ x. Answers x x (acts.ScanArea c.args.a.0 c.args.size) (Refused BadAddress)) c.self.view_is
    (refused_now p (acts.ScanArea c.args.a.0 c.args.size) BadAddress ready.whole refl (λ s stands reached. area_outside p c.args.a.0 c.args.size s stands c.if-not-self.false (sym c.if-not-in_memory.ensures)))

pub returns-then-is_uneven-clause-answers : goal.returns-then-is_uneven-clause-answers
returns-then-is_uneven-clause-answers g c =
    let i = c.self.inside in
    let p : Parts = record { words = i.words; hosts = i.hosts; objects = i.objects; settings = i.settings } in
    let ready = subst IsReady (sym c.self.view_is) c.requires.ready in
    subst (λ x. Answers x x (acts.ScanArea c.args.a.0 c.args.size) (Refused BadSize)) c.self.view_is
    (refused_now p (acts.ScanArea c.args.a.0 c.args.size) BadSize ready.whole refl (λ s stands reached. area_uneven p c.args.a.0 c.args.size s stands c.if-not-self.false (sym c.if-not-in_memory.ensures) (sym c.if-is_uneven.ensures)))

pub returns-in_err-add_area-clause-answers : goal.returns-in_err-add_area-clause-answers
returns-in_err-add_area-clause-answers g c =
    let i = c.self.inside in
    let p : Parts = record { words = i.words; hosts = i.hosts; objects = i.objects; settings = i.settings } in
    let ready = subst IsReady (sym c.self.view_is) c.requires.ready in
    let act = acts.ScanArea c.args.a.0 c.args.size in
    let q : Parts = record p { objects = c.add_area.new.self } in
    let e = c.in_err-add_area.ensures in
    let why = c.in_err-add_area.field-0.0 in
    let is : c.from_residual.result ≡ Err why = search rules in
    subst (λ x. Answers x q act (answered c.from_residual.result)) c.self.view_is (subst (λ (o : Result Answer Refusal). Answers p q act (answered o)) (sym is)
    (area_answers p c.add_area.new.self c.args.a.0 c.args.size (Err why) ready.whole c.if-not-self.false (sym c.if-not-in_memory.ensures) (sym c.if-is_uneven.ensures) e.answer e.state e.refused e.agree e.places))

pub returns-clause-answers : goal.returns-clause-answers
returns-clause-answers g c =
    let i = c.self.inside in
    let p : Parts = record { words = i.words; hosts = i.hosts; objects = i.objects; settings = i.settings } in
    let ready = subst IsReady (sym c.self.view_is) c.requires.ready in
    let act = acts.ScanArea c.args.a.0 c.args.size in
    let q : Parts = record p { objects = c.add_area.new.self } in
    let e = c.in_ok-add_area.ensures in
    subst (λ x. Answers x q act Done) c.self.view_is
    (area_answers p c.add_area.new.self c.args.a.0 c.args.size (Ok tt) ready.whole c.if-not-self.false (sym c.if-not-in_memory.ensures) (sym c.if-is_uneven.ensures) e.answer e.state e.refused e.agree e.places)
