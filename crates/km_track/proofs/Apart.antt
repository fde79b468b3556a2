use Rattle.std.proofs.Common.{◌≡◌, ℕ, ◌≤◌, true, false, ◌==◌, ◌⊎◌, List, [], ◌∷◌, map, inl, inr, refl, sym, ap, ◌∙◌, subst}
use Rattle.std.proofs.lemmas.Bool.{or_left, or_right, eq-eqb, both_ways}
use Rattle.km_links.specs.Chains.{is_in, IsDistinct}
use Rattle.km_map.specs.declared.entries.Entry.{Entry}
use Rattle.km_map.specs.Entries.{end_of, StartFrom, IsRising}
use Rattle.km_track.specs.declared.slots.Slot.{Slot}
use Rattle.km_track.specs.Tracker.{IsApartFrom, NeverMeet}
use Rattle.km_track.specs.Holds.{IsAmong, entry_at, live_at}
use Rattle.km_track.proofs.Members.{start_among, sized}

-- live blocks never meet

-- of two entries with different slots, one ends before the other starts
entries_apart : (es : List Entry) (e f : Entry) → IsRising es → IsAmong es e → IsAmong es f → (e.slot ≡ f.slot → ⊥) → (end_of e ≤ f.span.start.0) ⊎ (end_of f ≤ e.span.start.0)
entries_apart [] e f r i j d = absurd i
entries_apart (x ∷ es) e f r i j d =
    elim i as (λ _. (end_of e ≤ f.span.start.0) ⊎ (end_of f ≤ e.span.start.0)) [
      | inl u ↦ elim j as (λ _. (end_of e ≤ f.span.start.0) ⊎ (end_of f ≤ e.span.start.0)) [
        | inl v ↦ absurd (d (ap (λ (y : Entry). y.slot) (u ∙ sym v)))
        | inr v ↦ inl (start_among (end_of e) es f (subst (λ (y : Entry). StartFrom (end_of y) es) (sym u) r.1) v)
      ]
      | inr u ↦ elim j as (λ _. (end_of e ≤ f.span.start.0) ⊎ (end_of f ≤ e.span.start.0)) [
        | inl v ↦ inr (start_among (end_of f) es e (subst (λ (y : Entry). StartFrom (end_of y) es) (sym v) r.1) u)
        | inr v ↦ entries_apart es e f r.2 u v d
      ]
    ]

pub never_meet : (S : List Slot) (es : List Entry) (order : List ℕ) → IsRising es → IsDistinct order → ((n : ℕ) → is_in n order ≡ true → IsAmong es (entry_at S n)) → NeverMeet (map (live_at S) order)
never_meet S es [] r d k = tt
never_meet S es (n ∷ ns) r d k =
    let here : IsAmong es (entry_at S n) = k n (or_left _ _ (eq-eqb n n refl)) in
    (sized es (entry_at S n) r here, from n here ns d.0 (λ m i. k m (or_right (n == m) _ i)), never_meet S es ns r d.1 (λ m i. k m (or_right (n == m) _ i)))
  where
    rest : (n m : ℕ) (ms : List ℕ) → is_in n (m ∷ ms) ≡ false → is_in n ms ≡ false
    rest n m ms out = elim (is_in n ms) as (λ b. is_in n ms ≡ b → b ≡ false) [ true ↦ λ t. absurd (both_ways (is_in n (m ∷ ms)) out (or_right (m == n) _ t)) | false ↦ λ _. refl ] refl

    from : (n : ℕ) → IsAmong es (entry_at S n) → (ms : List ℕ) → is_in n ms ≡ false → ((m : ℕ) → is_in m ms ≡ true → IsAmong es (entry_at S m)) → IsApartFrom (live_at S n).tracked.block (map (live_at S) ms)
    from n here [] out k = tt
    from n here (m ∷ ms) out k = (
      entries_apart es (entry_at S n) (entry_at S m) r here (k m (or_left _ _ (eq-eqb m m refl))) (λ e. both_ways (is_in n (m ∷ ms)) out (or_left _ _ (eq-eqb m n (sym e)))),
      from n here ms (rest n m ms out) (λ j i. k j (or_right (m == j) _ i)),
    )
