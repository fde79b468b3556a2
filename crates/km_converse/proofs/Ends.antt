use Rattle.std.proofs.Common.{◌≡◌, ℕ, ◌+◌, ◌≤◌, ◌==◌, Bool, true, false, ◌&&◌, ◌||◌, not, nat_le, List, [], ◌∷◌, ◌++◌, filter, refl, sym, ap, subst, arith, eqb-true, le-leb}
use Rattle.std.proofs.lemmas.Bool.{and_from, or_left, or_right, both_ways}
use Rattle.km_model.specs.History.{History}
use Rattle.km_model.specs.Blocks.{Block, is_among, can_be_reported}
use Rattle.km_model.specs.Past.{Past, Moment, world, completes, begin_moment}
use Rattle.km_model.specs.Scan.{is_white}
use Rattle.km_model.specs.Verdict.{is_unreferenced, unreferenced, last_unreferenced, was_unreferenced, new_blocks, times_new, is_listed, listing_ids}
use Rattle.km_model.specs.Follows.{past_of, moment}
use Rattle.km_model.proofs.VerdictLaws.{new_at_most_once}
use Rattle.km_model.proofs.Lists.{In, in_filter, find_in, map_in, among_in, in_among}
use Rattle.km_converse.specs.Converse.{UnreferencedAreListed}

-- a white block that is old enough is unreferenced where the scan ends
pub white_unreferenced : (past : Past) (b : Block) → In b (world past).blocks → is_white past b ≡ true → b.born + 1000 ≤ begin_moment past → is_among b.id (unreferenced past) ≡ true
white_unreferenced past b i white old =
    in_among b.id (unreferenced past)
    (map_in (λ (c : Block). c.id) (filter (is_unreferenced past) (world past).blocks) b
    (in_filter (is_unreferenced past) (world past).blocks b i (and_from (is_white past b) (nat_le (b.born + 1000) (begin_moment past)) white (le-leb (b.born + 1000) (begin_moment past) old))))

-- what was unreferenced at the last completed scan was so at some
last_was : (past : Past) (id : ℕ) → is_among id (last_unreferenced past) ≡ true → was_unreferenced past id ≡ true
last_was [] id e = cc
last_was (m ∷ past) id e =
    elim (completes m.answer) as (λ q. is_among id (elim q as (λ _. List ℕ) [ true ↦ unreferenced past | false ↦ last_unreferenced past ]) ≡ true
    → (elim q as (λ _. Bool) [ true ↦ is_among id (unreferenced past) || was_unreferenced past id | false ↦ was_unreferenced past id ]) ≡ true) [
      | true ↦ λ f. or_left (is_among id (unreferenced past)) (was_unreferenced past id) f
      | false ↦ λ f. last_was past id f
    ] e

first_time : (past : Past) (id : ℕ) → is_among id (unreferenced past) ≡ true → was_unreferenced past id ≡ false → is_among id (new_blocks past) ≡ true
first_time past id e f =
    in_among id (new_blocks past) (in_filter (λ n. not (was_unreferenced past n)) (unreferenced past) id (among_in id (unreferenced past) e) (ap not f))

-- what was unreferenced was new
was_new : (past : Past) (id : ℕ) → was_unreferenced past id ≡ true → 1 ≤ times_new past id
was_new [] id e = cc
was_new (m ∷ past) id e =
    elim (completes m.answer) as (λ q. (elim q as (λ _. Bool) [ true ↦ is_among id (unreferenced past) || was_unreferenced past id | false ↦ was_unreferenced past id ]) ≡ true
    → 1 ≤ (elim (q && is_among id (new_blocks past)) as (λ _. ℕ) [ true ↦ times_new past id + 1 | false ↦ times_new past id ])) [
      | true ↦ λ f. now (was_new past id) (was_unreferenced past id) refl f
      | false ↦ λ f. was_new past id f
    ] e
  where
    now : (was_unreferenced past id ≡ true → 1 ≤ times_new past id) → (q : Bool) → was_unreferenced past id ≡ q → (is_among id (unreferenced past) || was_unreferenced past id) ≡ true
        → 1 ≤ (elim (is_among id (new_blocks past)) as (λ _. ℕ) [ true ↦ times_new past id + 1 | false ↦ times_new past id ])
    now earlier true g f =
        let before : 1 ≤ times_new past id = earlier g in
        elim (is_among id (new_blocks past)) as (λ r. 1 ≤ (elim r as (λ _. ℕ) [ true ↦ times_new past id + 1 | false ↦ times_new past id ])) [ true ↦ omega (arith, before) | false ↦ before ]
    now earlier false g f =
        subst (λ r. 1 ≤ (elim r as (λ _. ℕ) [ true ↦ times_new past id + 1 | false ↦ times_new past id ])) (sym (first_time past id (found (is_among id (unreferenced past)) f) g)) (omega arith)
      where
        found : (x : Bool) → (x || was_unreferenced past id) ≡ true → x ≡ true
        found true e' = refl
        found false e' = absurd (both_ways (was_unreferenced past id) g e')

-- what was unreferenced at some completed scan was so at each later moment
still_was : (m : Moment) (past : Past) (id : ℕ) → was_unreferenced past id ≡ true → was_unreferenced (m ∷ past) id ≡ true
still_was m past id e =
    elim (completes m.answer) as (λ q. (elim q as (λ _. Bool) [ true ↦ is_among id (unreferenced past) || was_unreferenced past id | false ↦ was_unreferenced past id ]) ≡ true) [
      | true ↦ or_right (is_among id (unreferenced past)) (was_unreferenced past id) e
      | false ↦ e
    ]

was_later : (h later : History) (id : ℕ) → was_unreferenced (past_of h) id ≡ true → was_unreferenced (past_of (later ++ h)) id ≡ true
was_later h [] id e = e
was_later h (x ∷ later) id e = still_was (moment (past_of (later ++ h)) x.act x.answer) (past_of (later ++ h)) id (was_later h later id e)

pub unreferenced_are_listed : UnreferencedAreListed
unreferenced_are_listed h id e = (
  (λ later.
      let low : 1 ≤ times_new (past_of (later ++ h)) id = was_new (past_of (later ++ h)) id (was_later h later id (last_was (past_of h) id e)) in
      let high : times_new (past_of (later ++ h)) id ≤ 1 = new_at_most_once (later ++ h) id in
      omega (arith, low, high)),
  (λ c found can.
      let at = find_in (λ (b : Block). b.id == id) (world (past_of h)).blocks c found in
      let same : c.id ≡ id = eqb-true c.id id at.0 in
      in_among id (listing_ids (past_of h))
      (subst (λ n. In n (listing_ids (past_of h))) same
      (map_in (λ (b : Block). b.id) (filter (is_listed (past_of h)) (world (past_of h)).blocks) c
      (in_filter (is_listed (past_of h)) (world (past_of h)).blocks c at.1
      (and_from (is_among c.id (last_unreferenced (past_of h))) (can_be_reported c) (subst (λ n. is_among n (last_unreferenced (past_of h)) ≡ true) (sym same) e) can))))),
)
