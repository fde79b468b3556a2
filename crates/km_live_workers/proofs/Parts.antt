-- Parts of a journal.
use Rattle.std.proofs.Common.{◌≡◌, ℕ, suc, ◌+◌, ◌≤◌, ◌==◌, Bool, true, false, List, [], ◌∷◌, ◌++◌, length, drop, if◌then◌else◌, refl, sym, ◌∙◌, ap, arith, eq-eqb}
use Rattle.std.proofs.lemmas.Bool.{both_ways}
use Rattle.std.proofs.lemmas.List.Sums.{sum_by-cons}
use Rattle.km_base.specs.declared.acts.Act.{Act}
use Rattle.km_base.specs.declared.acts.Act.TheVariants.{Tick}
use Rattle.km_model.specs.History.{ticks_of}
use Rattle.km_rounds.specs.declared.entry.Entry.{Entry}
use Rattle.km_rounds.specs.Journals.{entries_by, ticks_in}
use Rattle.km_live_map.specs.Ticks.{OnlyFirstTicks}

-- a part is no longer than its whole
pub part_length : (k : ℕ) (es : List Entry) → length (entries_by es k) ≤ length es
part_length k [] = omega arith
part_length k (e ∷ es) = go (k == e.by) (part_length k es)
  where
    go : (q : Bool) → length (entries_by es k) ≤ length es → length (if q then e ∷ entries_by es k else entries_by es k) ≤ suc (length es)
    go true less = omega (arith, less)
    go false less = omega (arith, less)

timeless : (what : Act) → ((n : ℕ) → what ≡ Tick n → ⊥) → ticks_of what ≡ 0
timeless (Tick n) none = absurd (none n refl)
timeless _ none = refl

-- where only number 1 lets time pass, its part tells how much
pub ticks_first : (es : List Entry) → OnlyFirstTicks es → ticks_in es ≡ ticks_in (entries_by es 1)
ticks_first [] only = refl
ticks_first (e ∷ es) only = sum_by-cons (λ (x : Entry). ticks_of x.act) e es ∙ go (1 == e.by) refl (ticks_first es only.1)
  where
    nothing : (n m k : ℕ) → n ≡ 0 → m ≡ k → n + m ≡ k
    nothing n m k none same = omega (arith, none, same)

    go : (q : Bool) → (1 == e.by) ≡ q → ticks_in es ≡ ticks_in (entries_by es 1) → ticks_of e.act + ticks_in es ≡ ticks_in (if q then e ∷ entries_by es 1 else entries_by es 1)
    go true is same = ap (λ n. ticks_of e.act + n) same ∙ sym (sum_by-cons (λ (x : Entry). ticks_of x.act) e (entries_by es 1))
    go false is same =
        nothing (ticks_of e.act) (ticks_in es) (ticks_in (entries_by es 1)) (timeless e.act (λ n tick. both_ways (1 == e.by) is (eq-eqb 1 e.by (sym (only.0 n tick))))) same

-- what is left after the first of two lists
pub drop_first : (xs ys : List Entry) → drop (length xs) (xs ++ ys) ≡ ys
drop_first [] ys = refl
drop_first (x ∷ xs) ys = drop_first xs ys
