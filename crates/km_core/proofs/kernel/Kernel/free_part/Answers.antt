use Rattle.std.proofs.Common.{◌+◌, ◌∙◌, refl, sym, subst, arith, ◌≡◌, Result, Ok, Err, rules}
use Rattle.km_base.specs.declared.acts.Act.TheVariants as acts
use Rattle.km_base.specs.declared.acts.Answer.{Answer}
use Rattle.km_base.specs.declared.acts.Answer.TheVariants.{Refused, Done}
use Rattle.km_base.specs.declared.acts.Refusal.TheVariants.{BadAddress, BadSize, NotBoot}
use Rattle.km_objects.specs.Objects.{AreOf}
use Rattle.km_core.specs.Parts.{Answers, IsReady, Parts}
use Rattle.km_core.proofs.Standing.{refused_now}
use Rattle.km_core.proofs.NoteActs.{behind_inside, part_answers, part_elsewhere, part_outside, part_room, part_there, part_uneven}
use Rattle.km_core.specs.Kernels.{answered}
use Rattle.km_base.specs.declared.acts.Refusal.{Refusal}
use Rattle.km_core.proofs.kernel.Kernel.free_part.Goals as goal

pub returns-then-not-in_memory-clause-answers : goal.returns-then-not-in_memory-clause-answers
returns-then-not-in_memory-clause-answers g c =
    let i = c.self.inside in
    let p : Parts = record { words = i.words; hosts = i.hosts; objects = i.objects; settings = i.settings } in
    let ready = subst IsReady (sym c.self.view_is) c.requires.ready in
    subst (λ x. Answers x x (acts.FreePart c.args.a.0 c.args.size) (Refused BadAddress)) c.self.view_is
    (refused_now p (acts.FreePart c.args.a.0 c.args.size) BadAddress ready.whole refl (λ s stands reached. part_outside p c.args.a.0 c.args.size s stands (sym c.if-not-in_memory.ensures)))

pub returns-then-is_uneven-clause-answers : goal.returns-then-is_uneven-clause-answers
returns-then-is_uneven-clause-answers g c =
    let i = c.self.inside in
    let p : Parts = record { words = i.words; hosts = i.hosts; objects = i.objects; settings = i.settings } in
    let ready = subst IsReady (sym c.self.view_is) c.requires.ready in
    subst (λ x. Answers x x (acts.FreePart c.args.a.0 c.args.size) (Refused BadSize)) c.self.view_is
    (refused_now p (acts.FreePart c.args.a.0 c.args.size) BadSize ready.whole refl (λ s stands reached. part_uneven p c.args.a.0 c.args.size s stands (sym c.if-not-in_memory.ensures) (sym c.if-is_uneven.ensures)))

pub returns-then-not-is_boot-clause-answers : goal.returns-then-not-is_boot-clause-answers
returns-then-not-is_boot-clause-answers g c =
    let i = c.self.inside in
    let p : Parts = record { words = i.words; hosts = i.hosts; objects = i.objects; settings = i.settings } in
    let ready = subst IsReady (sym c.self.view_is) c.requires.ready in
    subst (λ x. Answers x x (acts.FreePart c.args.a.0 c.args.size) (Refused NotBoot)) c.self.view_is
    (refused_now p (acts.FreePart c.args.a.0 c.args.size) NotBoot ready.whole refl (λ s stands reached. part_elsewhere p c.args.a.0 c.args.size s stands (sym c.if-not-in_memory.ensures) (sym c.if-is_uneven.ensures) (sym (c.if-not-is_boot.ensures s.used stands.hosts.held))))

pub returns-then-size-gt-MOST_BYTES-clause-answers : goal.returns-then-size-gt-MOST_BYTES-clause-answers
returns-then-size-gt-MOST_BYTES-clause-answers g c =
    let i = c.self.inside in
    let p : Parts = record { words = i.words; hosts = i.hosts; objects = i.objects; settings = i.settings } in
    let ready = subst IsReady (sym c.self.view_is) c.requires.ready in
    subst (λ x. Answers x x (acts.FreePart c.args.a.0 c.args.size) (Refused c.part_behind.result)) c.self.view_is
    (refused_now p (acts.FreePart c.args.a.0 c.args.size) c.part_behind.result ready.whole refl (λ s stands reached. c.part_behind.ensures s (c.args.a.0 + c.args.size) (subst (λ x. AreOf x.objects s) c.self.view_is stands.objects) (behind_inside p c.args.a.0 c.args.size ready s stands reached (omega arith) (sym c.if-not-in_memory.ensures)) ∙ sym (part_there p c.args.a.0 c.args.size s stands (sym c.if-not-in_memory.ensures) (sym c.if-is_uneven.ensures) (sym (c.if-not-is_boot.ensures s.used stands.hosts.held)))))

pub free_part-requires-clause-spare : goal.free_part-requires-clause-spare
free_part-requires-clause-spare g c = λ l found keep front rear.
    let i = c.self.inside in
    let p : Parts = record { words = i.words; hosts = i.hosts; objects = i.objects; settings = i.settings } in
    let ready = subst IsReady (sym c.self.view_is) c.requires.ready in
    part_room p c.args.a.0 c.args.size l ready (sym c.if-not-in_memory.ensures) (sym c.if-is_uneven.ensures) found front rear

pub returns-in_err-free_part-clause-answers : goal.returns-in_err-free_part-clause-answers
returns-in_err-free_part-clause-answers g c =
    let i = c.self.inside in
    let p : Parts = record { words = i.words; hosts = i.hosts; objects = i.objects; settings = i.settings } in
    let ready = subst IsReady (sym c.self.view_is) c.requires.ready in
    let act = acts.FreePart c.args.a.0 c.args.size in
    let q : Parts = record p { objects = c.free_part.new.self } in
    let e = c.in_err-free_part.ensures in
    let why = c.in_err-free_part.field-0.0 in
    let is : c.from_residual.result ≡ Err why = search rules in
    subst (λ x. Answers x q act (answered c.from_residual.result)) c.self.view_is (subst (λ (o : Result Answer Refusal). Answers p q act (answered o)) (sym is)
    (part_answers p c.free_part.new.self c.args.a.0 c.args.size (Err why) ready.whole (sym c.if-not-in_memory.ensures) (sym c.if-is_uneven.ensures)
    (λ s stands. sym (c.if-not-is_boot.ensures s.used stands.hosts.held)) e.answer e.state e.refused e.agree e.places))

pub returns-clause-answers : goal.returns-clause-answers
returns-clause-answers g c =
    let i = c.self.inside in
    let p : Parts = record { words = i.words; hosts = i.hosts; objects = i.objects; settings = i.settings } in
    let ready = subst IsReady (sym c.self.view_is) c.requires.ready in
    let act = acts.FreePart c.args.a.0 c.args.size in
    let q : Parts = record p { objects = c.free_part.new.self } in
    let e = c.in_ok-free_part.ensures in
    subst (λ x. Answers x q act Done) c.self.view_is
    (part_answers p c.free_part.new.self c.args.a.0 c.args.size (Ok tt) ready.whole (sym c.if-not-in_memory.ensures) (sym c.if-is_uneven.ensures)
    (λ s stands. sym (c.if-not-is_boot.ensures s.used stands.hosts.held)) e.answer e.state e.refused e.agree e.places)
