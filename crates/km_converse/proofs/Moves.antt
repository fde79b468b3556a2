use Rattle.std.proofs.Common.{◌≡◌, ℕ, zero, suc, ◌+◌, ◌*◌, ◌<◌, ◌≤◌, Bool, true, false, not, ◌==◌, List, [], ◌∷◌, ◌++◌, Option, Some, None, if◌then◌else◌, refl, sym, ap, ◌∙◌, subst, arith, ◌⊎◌, inl, inr, eqb-true, eq-eqb}
use Rattle.std.specs.List.{list_any}
use Rattle.std.proofs.lemmas.Bool.{not-true, both_ways, cases_Bool, eqb-false}
use Rattle.km_model.specs.Blocks.{Block, AtLeast, without_block, changed_where}
use Rattle.km_model.specs.Placement.{Allocation, Use, HeadBlock, AreaRun, pages_for, least_from, has_slot, lowest_slot, without_allocation, slot_of_area, head_with}
use Rattle.km_model.specs.Tasks.{Task}
use Rattle.km_model.specs.World.{World, next_block, with_block, with_allocation}
use Rattle.km_model.specs.Changes.{with_vmalloc, world_after_vfree, world_without}
use Rattle.km_laws.proofs.Lists.{In, each_in, in_push_cases, in_push_left, in_push_right, in_filter, filter_in, in_map, map_in, none_in}
use Rattle.km_laws.proofs.Pages.{Sound}
use Rattle.km_laws.proofs.Placings.{Placed, one_with, one_at}
use Rattle.km_laws.proofs.Apart.{PlacedIn}
use Rattle.km_converse.proofs.Slots.{Slots, is_other, no_other_area, no_other_table, no_head_area, no_head_table, no_area_table, was_in, slots_grow, slots_drop, slots_pair, slots_unpair, slot_area, slot_head}
use Rattle.km_converse.proofs.Headed.{IsPainted, Old, IsKind, Step}

-- what an event does to allocations and blocks
abbrev pub Moves : World → World → Type 0
Moves w v = Slots v.used × Step w.used w.blocks w.registered v.used v.blocks

pub itself : (bs : List Block) (b : Block) → In b bs → Old bs b
itself bs b i = (b, i, refl, refl, refl, refl, inl refl)

-- a new block in another allocation than a head, an area and the table
pub other_kind : (room : ℕ) (used : List Allocation) (bs : List Block) (ts : List Task) (x : Allocation) (b : Block) → Placed room used bs ts → Slots used → In x used → is_other x.«use» ≡ true
    → x.start ≤ b.start → b.start < x.start + x.size → b.excess ≡ None → IsKind used bs b
other_kind room used bs ts x b p slots i other lo hi none = record {
  head = inl none;
  area = λ y s j e f. absurd (no_other_area x.«use» s other (ap (λ (z : Allocation). z.«use») (same y j e) ∙ f));
  table = λ e. let t = slots.table in absurd (no_other_table x.«use» other (ap (λ (z : Allocation). z.«use») (same t.0 t.1 (t.3 ∙ sym e)) ∙ t.2));
}
  where
    same : (y : Allocation) → In y used → y.start ≡ b.start → x ≡ y
    same y j e =
        let some : 0 < y.size = (each_in (Sound room) used y p.sound j).0 in
        one_with room used bs ts x y b.start p i j lo hi (omega (arith, e)) (omega (arith, e, some))

-- nothing changes
pub stands : (w : World) → Slots w.used → Moves w w
stands w slots = (slots, record { used_by = inl (λ x i. i); blocks_by = λ b i. inl (itself w.blocks b i); stays = λ c i. inl (c, i, refl, refl) })

-- another allocation is made
pub made : (w : World) (z : Allocation) → is_other z.«use» ≡ true → Slots w.used → Moves w (record w { used = w.used ++ z ∷ [] })
made w z other slots =
    (slots_grow w.used z other slots, record { used_by = inl (λ x i. in_push_left w.used x z i); blocks_by = λ b i. inl (itself w.blocks b i); stays = λ c i. inl (c, i, refl, refl) })

-- with a block at its start, unless `off` was written
pub made_block : (room : ℕ) (q : Bool) (w : World) (what : Use) (start size bytes references : ℕ) → is_other what ≡ true → Slots w.used
    → PlacedIn room (with_block (with_allocation (record w { enabled = q }) what start size) start bytes references None)
    → Moves (record w { enabled = q }) (with_block (with_allocation (record w { enabled = q }) what start size) start bytes references None)
made_block room false w what start size bytes references other slots p = made (record w { enabled = false }) (record { «use» = what; start = start; size = size }) other slots
made_block room true w what start size bytes references other slots p =
    let z : Allocation = record { «use» = what; start = start; size = size } in
    let b : Block = next_block w start bytes references None in
    let grown = slots_grow w.used z other slots in
    let some : 0 < size = (each_in (Sound room) (w.used ++ z ∷ []) z p.sound (in_push_right w.used z)).0 in (
      grown,
      record {
        used_by = inl (λ x i. in_push_left w.used x z i);
        blocks_by = λ c i. elim (in_push_cases w.blocks c b i) [
          | inl j ↦ inl (itself w.blocks c j)
          | inr same ↦ inr (subst (λ (d : Block). (w.registered ≤ d.id) × IsKind (w.used ++ z ∷ []) (w.blocks ++ b ∷ []) d) (sym same)
              (omega arith, other_kind room (w.used ++ z ∷ []) (w.blocks ++ b ∷ []) w.tasks z b p grown (in_push_right w.used z) other (omega arith) (omega (arith, some)) refl))
        ];
        stays = λ c i. inl (c, in_push_left w.blocks c b i, refl, refl);
      },
    )

-- blocks are changed
abbrev pub Paints : (Block → Block) → Type 0
Paints f = (b : Block) → ((f b).id ≡ b.id) × ((f b).start ≡ b.start) × ((f b).size ≡ b.size) × ((f b).excess ≡ b.excess) × (((f b).minimum ≡ b.minimum) ⊎ IsPainted (f b).minimum)

pub painted : (w : World) (test : Block → Bool) (f : Block → Block) → Paints f → Slots w.used → Moves w (record w { blocks = changed_where test f w.blocks })
painted w test f same slots = (
  slots,
  record {
    used_by = inl (λ x i. i);
    blocks_by = λ c i.
        let b = in_map (λ d. if test d then f d else d) w.blocks c i in
        let k = where_same b.0 (test b.0) in
        inl (subst (λ d. Old w.blocks d) (sym b.2) (b.0, b.1, sym k.0, sym k.1, sym k.2, sym k.3, k.4));
    stays = λ c i.
        let k = where_same c (test c) in
        inl ((if test c then f c else c), map_in (λ d. if test d then f d else d) w.blocks c i, k.0, k.3);
  },
)
  where
    where_same : (b : Block) (q : Bool) → ((if q then f b else b).id ≡ b.id) × ((if q then f b else b).start ≡ b.start) × ((if q then f b else b).size ≡ b.size)
        × ((if q then f b else b).excess ≡ b.excess) × (((if q then f b else b).minimum ≡ b.minimum) ⊎ IsPainted (if q then f b else b).minimum)
    where_same b true = same b
    where_same b false = (refl, refl, refl, refl, inl refl)

-- all blocks are unregistered
pub emptied : (w : World) → Slots w.used → Moves w (record w { blocks = [] })
emptied w slots = (slots, record { used_by = inl (λ x i. i); blocks_by = λ b i. absurd i; stays = λ c i. inr (inr (inr refl)) })

-- another allocation is given back
pub dropped : (w : World) (a : ℕ) → ((x : Allocation) → In x w.used → x.start ≡ a → is_other x.«use» ≡ true) → Slots w.used → Moves w (record w { used = without_allocation w.used a })
dropped w a other slots =
    (slots_drop w.used a other slots, record { used_by = inr (λ x i. (was_in w.used a x i).0); blocks_by = λ b i. inl (itself w.blocks b i); stays = λ c i. inl (c, i, refl, refl) })

pub was_block : (bs : List Block) (a : ℕ) (b : Block) → In b (without_block bs a) → In b bs × (b.start ≡ a → ⊥)
was_block bs a b i =
    let at = filter_in (λ (c : Block). not (c.start == a)) bs b i in
    (at.1, λ e. both_ways (b.start == a) (not-true (b.start == a) at.0) (eq-eqb b.start a e))

pub still_block : (bs : List Block) (a : ℕ) (b : Block) → In b bs → (b.start == a) ≡ false → In b (without_block bs a)
still_block bs a b i e = in_filter (λ (c : Block). not (c.start == a)) bs b i (ap not e)

-- and its block is unregistered
pub freed : (w : World) (a : ℕ) → ((x : Allocation) → In x w.used → x.start ≡ a → is_other x.«use» ≡ true) → Slots w.used → Moves w (world_without w a)
freed w a other slots = (
  slots_drop w.used a other slots,
  record {
    used_by = inr (λ x i. (was_in w.used a x i).0);
    blocks_by = λ b i. inl (itself w.blocks b (was_block w.blocks a b i).0);
    stays = λ c i. elim (cases_Bool (c.start == a)) [
      | inl here ↦ inr (inl (λ x j e. (was_in w.used a x j).1 (e ∙ eqb-true c.start a here)))
      | inr there ↦ inl (c, still_block w.blocks a c i there, refl, refl)
    ];
  },
)

-- an area is given back, and its head
pub unpaired : (room : ℕ) (w : World) (a b n : ℕ) → PlacedIn room w → slot_of_area w.used a ≡ Some n → head_with w.used n ≡ Some b → Slots w.used → Moves w (world_without (world_without w a) b)
unpaired room w a b n p area head slots =
    let y = slot_area w.used a n area in
    let z = slot_head w.used n b head in (
      slots_unpair w.used a b n
          (λ x i e. ap (λ (v : Allocation). v.«use») (one_at room w.used w.blocks w.tasks x y.0 p i y.1 (e ∙ sym y.2)) ∙ y.3)
          (λ x i e. ap (λ (v : Allocation). v.«use») (one_at room w.used w.blocks w.tasks x z.0 p i z.1 (e ∙ sym z.2)) ∙ z.3)
          y.0 y.1 y.2 z.0 z.1 z.2 slots,
      record {
        used_by = inr (λ x i. (was_in w.used a x (was_in (without_allocation w.used a) b x i).0).0);
        blocks_by = λ c i. inl (itself w.blocks c (was_block w.blocks a c (was_block (without_block w.blocks a) b c i).0).0);
        stays = λ c i. elim (cases_Bool (c.start == a)) [
          | inl here ↦ inr (inl (λ x j e. (was_in w.used a x (was_in (without_allocation w.used a) b x j).0).1 (e ∙ eqb-true c.start a here)))
          | inr there ↦ elim (cases_Bool (c.start == b)) [
            | inl here ↦ inr (inl (λ x j e. (was_in (without_allocation w.used a) b x j).1 (e ∙ eqb-true c.start b here)))
            | inr there' ↦ inl (c, still_block (without_block w.blocks a) b c (still_block w.blocks a c i there) there', refl, refl)
          ]
        ];
      },
    )

pub unpaired_by : (room : ℕ) (w : World) (a n : ℕ) (o : Option ℕ) → PlacedIn room w → slot_of_area w.used a ≡ Some n → head_with w.used n ≡ o → Slots w.used
    → Moves w (elim o as (λ _. World) [ None ↦ w | Some head ↦ world_without (world_without w a) head ])
unpaired_by room w a n None p area head slots = stands w slots
unpaired_by room w a n (Some b) p area head slots = unpaired room w a b n p area head slots

pub area_freed : (room : ℕ) (w : World) (a : ℕ) (o : Option ℕ) → PlacedIn room w → slot_of_area w.used a ≡ o → Slots w.used → Moves w (world_after_vfree w a o)
area_freed room w a None p area slots = stands w slots
area_freed room w a (Some n) p area slots = unpaired_by room w a n (head_with w.used n) p area refl slots

-- a search finds one that passes, or none up to its end
least : (test : ℕ → Bool) (left n : ℕ) → ((test (least_from test left n) ≡ true) × (least_from test left n < n + left)) ⊎ (least_from test left n ≡ n + left)
least test zero n = inr (omega arith)
least test (suc left) n =
    elim (test n) as (λ q. test n ≡ q → ((test (elim q as (λ _. ℕ) [ true ↦ n | false ↦ least_from test left (n + 1) ]) ≡ true) × ((elim q as (λ _. ℕ) [ true ↦ n | false ↦ least_from test left (n + 1) ]) < n + suc left))
    ⊎ ((elim q as (λ _. ℕ) [ true ↦ n | false ↦ least_from test left (n + 1) ]) ≡ n + suc left)) [
      | true ↦ λ e. inl (e, omega arith)
      | false ↦ λ e. elim (least test left (n + 1)) [
        | inl found ↦ inl (found.0, (let lt = found.1 in omega (arith, lt)))
        | inr last ↦ inr (omega (arith, last))
      ]
    ] refl

-- the lowest slot is free
pub lowest_free : (used : List Allocation) → (lowest_slot used == 512) ≡ false → (lowest_slot used < 512) × ((x : Allocation) → In x used → x.«use» ≡ AreaRun (lowest_slot used) → ⊥)
lowest_free used e =
    elim (least (λ s. not (list_any (has_slot s) used)) 512 0) [
      | inl found ↦ (
        found.1,
        λ x i f.
            both_ways (has_slot (lowest_slot used) x) (none_in (has_slot (lowest_slot used)) used x (not-true (list_any (has_slot (lowest_slot used)) used) found.0) i) (slot_is x.«use» (lowest_slot used) f),
      )
      | inr last ↦ absurd (eqb-false (lowest_slot used) 512 e last)
    ]
  where
    slot_is : (u : Use) (s : ℕ) → u ≡ AreaRun s → (elim u as (λ _. Bool) [ AreaRun t ↦ t == s | _ ↦ false ]) ≡ true
    slot_is u s f = subst (λ v. (elim v as (λ _. Bool) [ AreaRun t ↦ t == s | _ ↦ false ]) ≡ true) (sym f) (eq-eqb s s refl)

-- a head and its area are made, with their blocks unless `off` was written
pub paired : (room : ℕ) (q : Bool) (w : World) (size head area : ℕ) → (lowest_slot w.used == 512) ≡ false → Slots w.used → PlacedIn room (with_vmalloc (record w { enabled = q }) size head area)
    → Moves (record w { enabled = q }) (with_vmalloc (record w { enabled = q }) size head area)
paired room false w size head area e slots p =
    let n = lowest_slot w.used in
    let z : Allocation = record { «use» = HeadBlock n; start = head; size = 64 } in
    let y : Allocation = record { «use» = AreaRun n; start = area; size = 4096 * pages_for size } in
    let free = lowest_free w.used e in (
      slots_pair w.used z y n refl refl free.0 free.1 slots,
      record {
        used_by = inl (λ x i. in_push_left (w.used ++ z ∷ []) x y (in_push_left w.used x z i));
        blocks_by = λ b i. inl (itself w.blocks b i);
        stays = λ c i. inl (c, i, refl, refl);
      },
    )
paired room true w size head area e slots p =
    let n = lowest_slot w.used in
    let z : Allocation = record { «use» = HeadBlock n; start = head; size = 64 } in
    let y : Allocation = record { «use» = AreaRun n; start = area; size = 4096 * pages_for size } in
    let after : List Allocation = (w.used ++ z ∷ []) ++ y ∷ [] in
    let b : Block = next_block w head 64 1 (Some area) in
    let c : Block = record { id = w.registered + 1; start = area; size = 4096 * pages_for size; born = w.now; minimum = AtLeast 2; no_scan = false; areas = []; excess = None } in
    let cs : List Block = (w.blocks ++ b ∷ []) ++ c ∷ [] in
    let free = lowest_free w.used e in
    let grown : Slots after = slots_pair w.used z y n refl refl free.0 free.1 slots in
    let z_in : In z after = in_push_left (w.used ++ z ∷ []) z y (in_push_right w.used z) in
    let y_in : In y after = in_push_right (w.used ++ z ∷ []) y in
    let t = grown.table in
    let head_kind : IsKind after cs b = record {
      head = inr (record { head = z; area = y; slot = n; head_in = z_in; area_in = y_in; head_use = refl; area_use = refl; start = refl; excess = refl; size = refl });
      area = λ x s i f g. absurd (no_head_area x.«use» n s (ap (λ (v : Allocation). v.«use») (one_at room after cs w.tasks x z p i z_in f)) g);
      table = λ f. absurd (no_head_table t.0.«use» n (ap (λ (v : Allocation). v.«use») (one_at room after cs w.tasks t.0 z p t.1 z_in (t.3 ∙ sym f))) t.2);
    } in
    let area_kind : IsKind after cs c = record {
      head = inl refl;
      area = λ x s i f g. (inl refl, (b, in_push_left (w.blocks ++ b ∷ []) b c (in_push_right w.blocks b), refl, refl));
      table = λ f. absurd (no_area_table t.0.«use» n (ap (λ (v : Allocation). v.«use») (one_at room after cs w.tasks t.0 y p t.1 y_in (t.3 ∙ sym f))) t.2);
    } in (
      grown,
      record {
        used_by = inl (λ x i. in_push_left (w.used ++ z ∷ []) x y (in_push_left w.used x z i));
        blocks_by = λ d i. elim (in_push_cases (w.blocks ++ b ∷ []) d c i) [
          | inl j ↦ elim (in_push_cases w.blocks d b j) [
            | inl k ↦ inl (itself w.blocks d k)
            | inr same ↦ inr (subst (λ (k : Block). (w.registered ≤ k.id) × IsKind after cs k) (sym same) (omega arith, head_kind))
          ]
          | inr same ↦ inr (subst (λ (k : Block). (w.registered ≤ k.id) × IsKind after cs k) (sym same) (omega arith, area_kind))
        ];
        stays = λ d i. inl (d, in_push_left (w.blocks ++ b ∷ []) d c (in_push_left w.blocks d b i), refl, refl);
      },
    )
