use Rattle.std.proofs.Common.{◌≡◌, ℕ, ◌+◌, ◌-◌, ◌<◌, ◌≤◌, Bool, true, false, ◌&&◌, ◌==◌, nat_le, nat_lt, List, [], ◌∷◌, ◌++◌, Option, Some, None, if◌then◌else◌, refl, sym, subst, arith, ◌⊎◌, inl, inr, eqb-true, ltb-true, leb-true}
use Rattle.std.specs.List.{list_any}
use Rattle.std.proofs.lemmas.Bool.{and_parts, cases_Bool}
use Rattle.km_model.specs.Blocks.{Block, contains, is_within, block_with, without_block}
use Rattle.km_model.specs.Placement.{Allocation, Use, BootRun}
use Rattle.km_model.specs.World.{World, with_rest}
use Rattle.km_model.specs.Changes.{world_without_part}
use Rattle.km_model.specs.Answers.{is_boot_with}
use Rattle.km_laws.specs.Placed.{BlockPlaced}
use Rattle.km_laws.proofs.Lists.{In, each_in, in_push_cases, in_push_left, find_in, any_in}
use Rattle.km_laws.proofs.Placings.{one_with}
use Rattle.km_laws.proofs.Apart.{PlacedIn}
use Rattle.km_converse.proofs.Slots.{Slots, is_other}
use Rattle.km_converse.proofs.Headed.{Old, Stays}
use Rattle.km_converse.proofs.Moves.{Moves, itself, other_kind, stands, was_block, still_block}

-- what is left where a part of a block was given back: the other blocks, and new ones in the same allocation
record IsParted (w : World) (b : Block) (x : Allocation) (u : World) : Type 0 where
  used : u.used ≡ w.used
  more : w.registered ≤ u.registered
  blocks : (d : Block) → In d u.blocks → Old w.blocks d ⊎ ((w.registered ≤ d.id) × (d.excess ≡ None) × (x.start ≤ d.start) × (d.start < x.start + x.size))
  stays : (c : Block) → In c w.blocks → Stays u.blocks c ⊎ (c.start ≡ b.start)

module _ (w : World) (b : Block) (x : Allocation) where
  removed : IsParted w b x (record w { blocks = without_block w.blocks b.start })
  removed = record {
    used = refl;
    more = omega arith;
    blocks = λ d i. inl (itself w.blocks d (was_block w.blocks b.start d i).0);
    stays = λ c i. elim (cases_Bool (c.start == b.start)) [
      | inl here ↦ inr (eqb-true c.start b.start here)
      | inr there ↦ inl (c, still_block w.blocks b.start c i there, refl, refl)
    ];
  }

  rest_left : (u : World) (start size : ℕ) → (0 < size → (x.start ≤ start) × (start < x.start + x.size)) → IsParted w b x u → IsParted w b x (with_rest u b start size)
  rest_left u start size inside p = go (u.enabled && nat_lt 0 size) (λ e. inside (ltb-true 0 size (and_parts u.enabled (nat_lt 0 size) e).1))
    where
      rest : Block
      rest = record b { id = u.registered; start = start; size = size; areas = []; excess = None }

      go : (q : Bool) → (q ≡ true → (x.start ≤ start) × (start < x.start + x.size)) → IsParted w b x (if q then record u { registered = u.registered + 1; blocks = u.blocks ++ rest ∷ [] } else u)
      go false f = p
      go true f = record {
        used = p.used;
        more = (let more = p.more in omega (arith, more));
        blocks = λ d i. elim (in_push_cases u.blocks d rest i) [
          | inl j ↦ p.blocks d j
          | inr same ↦ inr (subst (λ (k : Block). (w.registered ≤ k.id) × (k.excess ≡ None) × (x.start ≤ k.start) × (k.start < x.start + x.size)) (sym same) (p.more, refl, (f refl).0, (f refl).1))
        ];
        stays = λ c i. elim (p.stays c i) [
          | inl d ↦ inl (d.0, in_push_left u.blocks d.0 rest d.1, d.2, d.3)
          | inr here ↦ inr here
        ];
      }

-- so it is after the event
parted_moves : (room : ℕ) (w u : World) (b : Block) (x : Allocation) → PlacedIn room u → Slots w.used → In x w.used → is_other x.«use» ≡ true → x.start ≤ b.start → b.start < x.start + x.size
    → IsParted w b x u → Moves w u
parted_moves room w u b x placed slots i other lo hi p =
    let kept : Slots u.used = subst (λ (xs : List Allocation). Slots xs) (sym p.used) slots in
    let there : In x u.used = subst (λ xs. In x xs) (sym p.used) i in (
      kept,
      record {
        used_by = inl (λ y j. subst (λ xs. In y xs) (sym p.used) j);
        blocks_by = λ d j. elim (p.blocks d j) [
          | inl old ↦ inl old
          | inr new ↦ inr (new.0, other_kind room u.used u.blocks u.tasks x d placed kept there other new.2 new.3 new.1)
        ];
        stays = λ c j. elim (p.stays c j) [
          | inl stay ↦ inl stay
          | inr here ↦ inr (inr (inl (x, i, other, omega (arith, here, lo), omega (arith, here, hi))))
        ];
      },
    )

boot_kind : (u : Use) (r : Bool) → (elim u as (λ _. Bool) [ BootRun ↦ r | _ ↦ false ]) ≡ true → (r ≡ true) × (is_other u ≡ true)
boot_kind BootRun r e = (e, refl)
boot_kind _ r e = absurd cc

-- a part of a block of boot memory is given back
pub parted : (room : ℕ) (w : World) (a size : ℕ) (o : Option Block) → list_any (is_boot_with a) w.used ≡ true → block_with w.blocks a ≡ o → PlacedIn room w → Slots w.used
    → PlacedIn room (world_without_part w a size o) → Moves w (world_without_part w a size o)
parted room w a size None boot found p slots after = stands w slots
parted room w a size (Some b) boot found p slots after =
    let f = find_in (contains a) w.blocks b found in
    let within = and_parts (nat_le b.start a) (nat_lt a (b.start + b.size)) f.0 in
    let low : b.start ≤ a = leb-true b.start a within.0 in
    let high : a < b.start + b.size = ltb-true a (b.start + b.size) within.1 in
    let place = each_in (BlockPlaced w.used) w.blocks b p.blocks_in f.1 in
    let x : Allocation = place.0 in
    let x_low : x.start ≤ b.start = place.3 in
    let x_high : b.start + b.size ≤ x.start + x.size = place.4 in
    let y = any_in (is_boot_with a) w.used boot in
    let k = boot_kind y.0.«use» (is_within y.0.start y.0.size a) y.2 in
    let span = and_parts (nat_le y.0.start a) (nat_lt a (y.0.start + y.0.size)) k.0 in
    let same : y.0 ≡ x = one_with room w.used w.blocks w.tasks y.0 x a p y.1 place.1 (leb-true y.0.start a span.0) (ltb-true a (y.0.start + y.0.size) span.1) (omega (arith, low, x_low)) (omega (arith, high, x_high)) in
    let other : is_other x.«use» ≡ true = subst (λ (z : Allocation). is_other z.«use» ≡ true) same k.1 in
    let left : World = record w { blocks = without_block w.blocks b.start } in
    parted_moves room w (world_without_part w a size (Some b)) b x after slots place.1 other x_low (omega (arith, low, high, x_high))
    (rest_left w b x (with_rest left b b.start (a - b.start)) (a + size) (b.start + b.size - (a + size)) (λ some. (omega (arith, low, x_low), omega (arith, some, x_high)))
    (rest_left w b x left b.start (a - b.start) (λ some. (x_low, omega (arith, low, high, x_high))) (removed w b x)))
