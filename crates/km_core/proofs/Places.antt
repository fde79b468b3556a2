-- A block that the definitions place can be registered.
use Rattle.std.proofs.Common.{◌≡◌, ℕ, suc, ◌+◌, ◌*◌, ◌<◌, ◌≤◌, ◌^◌, ◌&&◌, nat_lt, Bool, true, false, length, List, [], ◌∷◌, ◌++◌, map, find, cond, Some, None, refl, sym, ap, ◌∙◌, subst, arith, inl, inr, ltb-true}
use Rattle.std.proofs.lemmas.List.{length-append, length-map}
use Rattle.km_base.specs.declared.spans.Span.{Span}
use Rattle.km_model.specs.Blocks.{Block}
use Rattle.km_model.specs.Placement.{Allocation}
use Rattle.km_model.proofs.Lists.{Each, Pairs, each_in, in_each, in_append_right}
use Rattle.km_state.specs.State.{Tracked, blocks_in}
use Rattle.km_laws.specs.Placed.{Apart, BlocksApart, BlockPlaced, InMemory, WholeWords}
use Rattle.km_laws.specs.Left.{total}
use Rattle.km_track.specs.Tracker.{Live, meets, tracked_in}
use Rattle.km_objects.specs.Objects.{Objects, places}
use Rattle.km_core.specs.Parts.{HasPlace}

-- blocks of a word at least have 8 bytes each
pub bytes_most : (used : List Allocation) (bs : List Block) → Each (BlockPlaced used) bs → 8 * length bs ≤ total (λ (b : Block). b.size) bs
bytes_most used [] e = omega arith
bytes_most used (b ∷ bs) e =
    let rest = bytes_most used bs e.1 in
    let n = (each_in (BlockPlaced used) (b ∷ bs) b e (inl refl)).6.1 in
    let size = n.1 in omega (arith, rest, size)

pairs_last : {X : Type 0} (R : X → X → Type 0) (xs : List X) (y : X) (zs : List X) → Pairs R (xs ++ y ∷ zs) → Each (λ x. R x y) xs
pairs_last R [] y zs p = tt
pairs_last R (x ∷ xs) y zs p = (each_in (R x) (xs ++ y ∷ zs) y p.0 (in_append_right xs (y ∷ zs) y (inl refl)), pairs_last R xs y zs p.1)

-- a block that is apart from each live one meets none
meets_no : (span : Span) (ls : List Live) → Each (λ (b : Block). Apart b.start b.size span.start.0 span.size) (blocks_in (map (λ (l : Live). l.tracked) ls))
    → find (λ (l : Live). meets span l.tracked.block) ls ≡ None
meets_no span [] e = refl
meets_no span (l ∷ ls) e =
    let b = l.tracked.block in
    let s = span.start.0 + span.size in
    let P = λ (q r : Bool). nat_lt b.start s ≡ q → nat_lt span.start.0 (b.start + b.size) ≡ r → cond (q && r) (Some l) (find (λ (l : Live). meets span l.tracked.block) ls) ≡ None in
    elim (nat_lt b.start s) as (λ q. P q (nat_lt span.start.0 (b.start + b.size))) [
      | false ↦ λ f g. meets_no span ls e.1
      | true ↦ elim (nat_lt span.start.0 (b.start + b.size)) as (λ r. P true r) [
        | false ↦ λ f g. meets_no span ls e.1
        | true ↦ λ f g. absurd (elim e.0 [
          | inl before ↦ (let k = ltb-true span.start.0 (b.start + b.size) g in omega (arith, k, before))
          | inr behind ↦ (let k = ltb-true b.start s f in omega (arith, k, behind))
        ])
      ]
    ] refl refl

-- where a block stands among placed ones behind those that are live, it can be registered
pub has_place : (o : Objects) (words : ℕ) (used : List Allocation) (b : Block) (later : List Block) (span : Span)
    → words ≤ 4194304
    → places o ≡ words
    → o.tracker.registered + 1 < 2 ^ 64
    → Each (λ (x : Allocation). (0 < x.size) × InMemory words x.start x.size × WholeWords x.start x.size) used
    → Each (BlockPlaced used) (blocks_in (tracked_in o.tracker) ++ b ∷ later)
    → Pairs BlocksApart (blocks_in (tracked_in o.tracker) ++ b ∷ later)
    → total (λ (b : Block). b.size) (blocks_in (tracked_in o.tracker) ++ b ∷ later) ≤ 8 * words
    → span.start.0 ≡ b.start → span.size ≡ b.size
    → HasPlace o span
has_place o words used b later span small room ids inside each pairs bytes start size =
    let bs = blocks_in (tracked_in o.tracker) in
    let placed = each_in (BlockPlaced used) (bs ++ b ∷ later) b each (in_append_right bs (b ∷ later) b (inl refl)) in
    let x = placed.0 in
    let memory = (each_in (λ (x : Allocation). (0 < x.size) × InMemory words x.start x.size × WholeWords x.start x.size) used x inside placed.1).1 in
    let low = memory.0 in let high = memory.1 in let front = placed.3 in let rear = placed.4 in
    let word = placed.6.0.1 in let n = placed.6.1.0 in let whole = placed.6.1.1 in
    let most = bytes_most used (bs ++ b ∷ later) each in
    let count : length (bs ++ b ∷ later) ≡ length o.tracker.live + suc (length later) = length-append bs (b ∷ later) ∙ ap (λ n. n + suc (length later)) (length-map (tracked_in o.tracker) (λ (t : Tracked). t.block) ∙ length-map o.tracker.live (λ (l : Live). l.tracked)) in
    record {
      start = omega (arith, word, start);
      size = omega (arith, whole, size);
      sized = omega (arith, whole, size);
      end = omega (arith, low, high, rear, start, size, small);
      spare = omega (arith, most, count, bytes, room);
      ids = ids;
      apart = meets_no span o.tracker.live (in_each (λ (c : Block). Apart c.start c.size span.start.0 span.size) bs (λ c i.
          subst (λ s. Apart c.start c.size s span.size) (sym start) (subst (λ s. Apart c.start c.size b.start s) (sym size)
          (each_in (λ c. BlocksApart c b) bs c (pairs_last BlocksApart bs b later pairs) i))));
    }
