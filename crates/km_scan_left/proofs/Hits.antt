-- What a load makes ripe was white.
use Rattle.std.proofs.Common.{◌≡◌, ℕ, ◌+◌, Bool, true, false, ◌&&◌, not, ◌==◌, List, Option, Some, None, if◌then◌else◌, refl, sym, ◌∙◌, subst, ◌⊎◌, inl, inr, eqb-true}
use Rattle.km_model.specs.Blocks.{Block, is_black, needs, points_into}
use Rattle.km_model.specs.Past.{Place}
use Rattle.km_model.specs.Scan.{differs, first_of, is_holder, last_word}
use Rattle.km_model.proofs.Cases.{elim_false, if_some, none_some, right_true, some_same}
use Rattle.km_state.specs.State.{Tracked, is_white_now, tracked_where}
use Rattle.km_state.specs.StateNext.{changed_by, excess_in, hit_block_in, hit_in, hit_white_in, ripe_by}
use Rattle.km_laws.proofs.Lists.{In, find_in}
use Rattle.km_scan_left.proofs.Once.{Once}

-- a white block with an id
abbrev IsWhiteOne : List Tracked → ℕ → Type 0
IsWhiteOne ts n = (u : Tracked) × In u ts × (u.block.id ≡ n) × (is_white_now u ≡ true)

found : (test : Block → Bool) (ts : List Tracked) (u : Tracked) → tracked_where test ts ≡ Some u → (test u.block ≡ true) × In u ts
found test ts u e = find_in (λ (t : Tracked). test t.block) ts u e

hit_one : (ts : List Tracked) (p : Place) (u : Tracked) (n : ℕ) → In u ts → hit_white_in p u ≡ Some n → IsWhiteOne ts n
hit_one ts p u n i h =
    elim (if_some (not (is_holder p u.block) && is_white_now u) (Some u.block.id) None n h) [
      | inl k ↦ (u, i, some_same u.block.id n k.1, right_true (not (is_holder p u.block)) (is_white_now u) k.0)
      | inr k ↦ absurd (none_some n k.1)
    ]

hit_passed : (ts : List Tracked) (p : Place) (n : ℕ) (o : Option Tracked) → ((u : Tracked) → o ≡ Some u → In u ts) → (elim o as (λ _. Option ℕ) [ None ↦ None | Some e ↦ hit_white_in p e ]) ≡ Some n → IsWhiteOne ts n
hit_passed ts p n None g h = absurd (none_some n h)
hit_passed ts p n (Some u) g h = hit_one ts p u n (g u refl) h

at_excess : (ts : List Tracked) (o : Option ℕ) (u : Tracked) → (elim o as (λ _. Option Tracked) [ None ↦ None | Some a ↦ tracked_where (λ (c : Block). c.start == a) ts ]) ≡ Some u → In u ts
at_excess ts None u e = absurd (none_some u e)
at_excess ts (Some a) u e = (found (λ (c : Block). c.start == a) ts u e).1

hit_block : (ts : List Tracked) (p : Place) (u : Tracked) (n : ℕ) → In u ts → hit_block_in ts p u ≡ Some n → IsWhiteOne ts n
hit_block ts p u n i h =
    let passed = elim (excess_in ts u.block) as (λ _. Option ℕ) [ None ↦ None | Some e ↦ hit_white_in p e ] in
    let other = if is_black u.block then None else passed in
    elim (if_some (is_holder p u.block) None (if is_white_now u then Some u.block.id else other) n h) [
      | inl k ↦ absurd (none_some n k.1)
      | inr k ↦ elim (if_some (is_white_now u) (Some u.block.id) other n k.1) [
        | inl w ↦ (u, i, some_same u.block.id n w.1, w.0)
        | inr o ↦ elim (if_some (is_black u.block) None passed n o.1) [
          | inl b ↦ absurd (none_some n b.1)
          | inr e ↦ hit_passed ts p n (excess_in ts u.block) (at_excess ts u.block.excess) e.1
        ]
      ]
    ]

pointed : (ts : List Tracked) (p : Place) (n : ℕ) (o : Option Tracked) → ((u : Tracked) → o ≡ Some u → In u ts) → (elim o as (λ _. Option ℕ) [ None ↦ None | Some t ↦ hit_block_in ts p t ]) ≡ Some n → IsWhiteOne ts n
pointed ts p n None g h = absurd (none_some n h)
pointed ts p n (Some u) g h = hit_block ts p u n (g u refl) h

hit_is_white : (ts : List Tracked) (p : Place) (value n : ℕ) → hit_in ts p value ≡ Some n → IsWhiteOne ts n
hit_is_white ts p value n h =
    elim (if_some (p.phase == 3) None (elim (tracked_where (points_into value) ts) as (λ _. Option ℕ) [ None ↦ None | Some t ↦ hit_block_in ts p t ]) n h) [
      | inl k ↦ absurd (none_some n k.1)
      | inr k ↦ pointed ts p n (tracked_where (points_into value) ts) (λ u e. (found (points_into value) ts u e).1) k.1
    ]

-- what is ripe was hit
ripe_is_hit : (ts : List Tracked) (hit : Option ℕ) (n : ℕ) → ripe_by ts hit ≡ Some n → hit ≡ Some n
ripe_is_hit ts None n h = absurd (none_some n h)
ripe_is_hit ts (Some m) n h = needed (tracked_where (λ (b : Block). b.id == m) ts) h where
  needed : (o : Option Tracked) → (elim o as (λ _. Option ℕ) [ None ↦ None | Some t ↦ if needs (t.count + 1) t.block then Some m else None ]) ≡ Some n → Some m ≡ Some n
  needed None g = absurd (none_some n g)
  needed (Some t) g = elim (if_some (needs (t.count + 1) t.block) (Some m) None n g) [ inl k ↦ k.1 | inr k ↦ absurd (none_some n k.1) ]

-- or its sum changed, which the third phase alone finds
first_true : (a b c : Bool) → (a && b && c) ≡ true → a ≡ true
first_true true b c e = refl
first_true false b c e = absurd (elim_false e)

changed_is_held : (ts : List Tracked) (p : Place) (sum n : ℕ) → changed_by ts p sum ≡ Some n → (p.phase ≡ 3) × (n ≡ p.holder)
changed_is_held ts p sum n h = summed (tracked_where (λ (b : Block). b.id == p.holder) ts) (λ u e. (found (λ (b : Block). b.id == p.holder) ts u e).0) h where
  summed : (o : Option Tracked) → ((u : Tracked) → o ≡ Some u → (u.block.id == p.holder) ≡ true)
      → (elim o as (λ _. Option ℕ) [ None ↦ None | Some t ↦ if p.phase == 3 && p.word == last_word t.block && differs t.kept sum then Some t.block.id else None ]) ≡ Some n → (p.phase ≡ 3) × (n ≡ p.holder)
  summed None g e = absurd (none_some n e)
  summed (Some u) g e =
      elim (if_some (p.phase == 3 && p.word == last_word u.block && differs u.kept sum) (Some u.block.id) None n e) [
        | inl k ↦ (eqb-true p.phase 3 (first_true (p.phase == 3) (p.word == last_word u.block) (differs u.kept sum) k.0), sym (some_same u.block.id n k.1) ∙ eqb-true u.block.id p.holder (g u refl))
        | inr k ↦ absurd (none_some n k.1)
      ]

first_cases : (o r : Option ℕ) (n : ℕ) → first_of o r ≡ Some n → (o ≡ Some n) ⊎ (r ≡ Some n)
first_cases None r n e = inr e
first_cases (Some m) r n e = inl e

pub ripe_is_white : (ts : List Tracked) (p : Place) (value sum : ℕ) → Once ts → ((u : Tracked) → In u ts → u.block.id ≡ p.holder → p.phase ≡ 3 → is_white_now u ≡ true)
    → (u : Tracked) → In u ts → first_of (changed_by ts p sum) (ripe_by ts (hit_in ts p value)) ≡ Some u.block.id → is_white_now u ≡ true
ripe_is_white ts p value sum one white u i h =
    elim (first_cases (changed_by ts p sum) (ripe_by ts (hit_in ts p value)) u.block.id h) [
      | inl c ↦ let k = changed_is_held ts p sum u.block.id c in white u i k.1 k.0
      | inr r ↦
          let k = hit_is_white ts p value u.block.id (ripe_is_hit ts (hit_in ts p value) u.block.id r) in
          subst (λ v. is_white_now v ≡ true) (one k.0 u k.1 i k.2) k.3
    ]
