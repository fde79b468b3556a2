use Rattle.std.proofs.Common.{◌≡◌, ℕ, true, false, refl, sym, ap, ◌∙◌, subst, arith}
use Rattle.km_base.specs.declared.acts.Act.{Act}
use Rattle.km_base.specs.declared.acts.Act.TheVariants.{Load, Step}
use Rattle.km_base.specs.declared.acts.Answer.{Answer}
use Rattle.km_base.specs.declared.acts.Answer.TheVariants.{At}
use Rattle.km_base.specs.declared.acts.Refusal.TheVariants.{BadSize}
use Rattle.km_model.specs.History.{value_of}
use Rattle.km_model.specs.Placement.{kmalloc_place}
use Rattle.km_model.specs.World.{World}
use Rattle.km_model.specs.Past.{Past, world, is_loaded, is_refused}
use Rattle.km_model.specs.Answers.{answer, at_place, is_bad_size}
use Rattle.km_model.specs.Follows.{past_of}
use Rattle.km_model.proofs.AnswerLaws.{answers_have}
use Rattle.km_laws.specs.Laws.{may_load, OnlyLoadsLoad, BlockLies, BlocksLie}
use Rattle.km_laws.proofs.Accepted.{unless_open, at_open, good_size, within_size}
use Rattle.km_laws.proofs.Slabs.{kmalloc_is_free}
use Rattle.km_laws.proofs.Apart.{history_placed}

-- an act that can't load is answered the same, whatever value is brought
same_answer : (words : ℕ) (past : Past) (act : Act) (v w : ℕ) → may_load act ≡ false → answer words past act v ≡ answer words past act w
unfolding answer
same_answer words past (Load task reg a) v w e = absurd (let z : ⊥ = cc in z)
same_answer words past Step v w e = absurd (let z : ⊥ = cc in z)
same_answer words past act v w e = refl

-- a load brings the value
brought : (words : ℕ) (past : Past) (act : Act) (v : ℕ) → is_loaded (answer words past act v) ≡ true → value_of (answer words past act v) ≡ v
brought words past act v =
    answers_have words past act v (λ x. is_loaded x ≡ true → value_of x ≡ v) (record {
      refused = λ r e. absurd (let z : ⊥ = cc in z);
      done = λ e. absurd (let z : ⊥ = cc in z);
      at = λ a e. absurd (let z : ⊥ = cc in z);
      skipped = λ e. absurd (let z : ⊥ = cc in z);
      dumped = λ i e. absurd (let z : ⊥ = cc in z);
      loaded = λ a e. refl;
      stopped = λ k running e. absurd (let z : ⊥ = cc in z);
    }) (λ step k running none e. absurd (let z : ⊥ = cc in z))

not_loaded : (words : ℕ) (past : Past) (act : Act) (v : ℕ) → may_load act ≡ false → is_loaded (answer words past act v) ≡ true → ⊥
not_loaded words past act v may loaded =
    let zero_is = same_answer words past act v 0 may in
    let one_is = same_answer words past act v 1 may in
    let none : value_of (answer words past act 0) ≡ 0 = brought words past act 0 (subst (λ x. is_loaded x ≡ true) zero_is loaded) in
    let one : value_of (answer words past act 1) ≡ 1 = brought words past act 1 (subst (λ x. is_loaded x ≡ true) one_is loaded) in
    let same : value_of (answer words past act 0) ≡ value_of (answer words past act 1) = ap value_of (sym zero_is ∙ one_is) in
    omega (arith, none, one, same)

pub only_loads_load : OnlyLoadsLoad
only_loads_load words past act v may =
    elim (is_loaded (answer words past act v)) as (λ q. is_loaded (answer words past act v) ≡ q → q ≡ false) [
      | true ↦ λ e. absurd (not_loaded words past act v may e)
      | false ↦ λ _. refl
    ] refl

pub blocks_lie : BlocksLie
unfolding answer
blocks_lie words h size a value memory f e =
    let w : World = world (past_of h) in
    let p = history_placed words h memory.0 f in
    let u = unless_open (is_bad_size 32768 size) BadSize (at_place (kmalloc_place words w.used size)) (subst (λ (t : Answer). is_refused t ≡ false) (sym e) refl) in
    let k = at_open (kmalloc_place words w.used size) u.2 in
    let found : At k.0 ≡ At a = sym (u.1 ∙ k.2) ∙ e in
    let same : k.0 ≡ a = cc in
    let free = kmalloc_is_free words w.used size k.0 (good_size 32768 size u.0) p.sound p.pages k.1 in
    let high = free.0.1.1 in
    let least = memory.1 in
    let lies : BlockLies words size k.0 = record {
      small = within_size 32768 size u.0;
      whole = free.0.3;
      inside = free.0.1;
      end = omega (arith, high, least);
    } in
    subst (λ n. BlockLies words size n) same lies
