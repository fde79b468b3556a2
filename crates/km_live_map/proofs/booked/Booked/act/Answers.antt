use Rattle.std.proofs.Common.{rules, ap, subst, ◌∙◌, arith, ◌≡◌, ◌≤◌, ◌+◌, length, length-append, ◌++◌, ◌∷◌, []}
use Rattle.km_base.specs.declared.acts.Act.TheVariants.{Halt}
use Rattle.km_core.specs.Cores.{Stands}
use Rattle.km_model.specs.History.{History, ticks_of}
use Rattle.km_state.specs.State.{State}
use Rattle.km_state.specs.StateAfter.{state_after}
use Rattle.km_rounds.specs.Journals.{entry}
use Rattle.km_live_map.proofs.Books.{acted, last_halts, ticks_snoc}
use Rattle.km_live_map.proofs.booked.Booked.act.Goals as goal
use Rattle.km_live_map.proofs.booked.Booked.act.Goals.{in-Halt, in_default}

pub invariant_of-self : goal.invariant_of-self
invariant_of-self g c =
    let b = c.self.invariant.0 in
    let j = c.self.inside.journal.items in
    let a = c.apply-answer.result in
    let e = entry c.args.by c.args.act a in
    let items : c.push_reserved.new.self.items ≡ j ++ e ∷ [] = c.push_reserved.ensures.items in
    let len : length (j ++ e ∷ []) ≡ length j + 1 = length-append j (e ∷ []) in
    let bound : length j + 1 ≤ c.self.inside.entries + 1 = elim c.match-act.branch [ in-Halt w ↦ omega arith | in_default w ↦ omega arith ] in
    let halt : length j ≡ c.self.inside.entries → c.args.act ≡ Halt = λ l. elim c.match-act.branch [ in-Halt w ↦ w.in-Halt.is | in_default w ↦ absurd (omega arith) ] in
    let applied = c.apply-answer.ensures in
    let same = c.copied.ensures in
    let was : c.deref_mut.result.now ≡ c.self.inside.core.value = search rules in
    let with_act = subst (λ act. (h : History) (s : State) → Stands c.deref_mut.result.now h s → Stands c.apply-answer.new.self (record { act = act; answer = a } ∷ h) (state_after s act a)) same applied.stands in
    let stands = subst (λ core. (h : History) (s : State) → Stands core h s → Stands c.apply-answer.new.self (record { act = c.args.act; answer = a } ∷ h) (state_after s c.args.act a)) was with_act in
    let words = applied.words ∙ ap (λ core. core.parts.words) was in
    rw items (
      record {
        follows = acted c.self.inside.opening.value c.self.inside.core.value c.apply-answer.new.self j e b.follows b.words words stands;
        room = omega arith;
        last = last_halts j e c.self.inside.entries b.last halt;
        words = words ∙ b.words;
        events = let n = applied.events in let m = b.events in let o = ap (λ core. core.events) was in omega (arith, n, m, o);
        now = let n = applied.now in let m = b.now in let t = ticks_snoc j e in let k = ap ticks_of same in let o = ap (λ core. core.parts.settings.now) was in omega (arith, n, m, t, k, o);
      },
      search rules,
      c.self.invariant.2,
    )
