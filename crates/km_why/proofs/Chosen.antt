-- Live blocks by their ids, one after another.
use Rattle.std.proofs.Common.{◌≡◌, ℕ, zero, suc, ◌+◌, ◌-◌, ◌<◌, ◌≤◌, Bool, List, [], ◌∷◌, ◌++◌, length, drop, get_or, Some, None, flat_map, refl, sym, ◌∙◌, ap, subst, arith, option_map}
use Rattle.std.specs.List.{cons_option}
use Rattle.km_model.proofs.Lists.{In, Each, each_in, find_in, map_in}
use Rattle.km_base.specs.declared.spans.Span.{Span}
use Rattle.km_model.specs.Blocks.{Block, scanned_words}
use Rattle.km_model.specs.Tasks.{Task, stack_words}
use Rattle.km_record.specs.declared.kinds.RecId.{RecId}
use Rattle.km_record.specs.declared.record.Record.{Record}
use Rattle.km_record.specs.Records.{block_of}
use Rattle.km_state.specs.State.{Tracked}
use Rattle.km_track.specs.Tracker.{Live, Tracker, is_id, live_with, tracked_of, tracked_in}
use Rattle.km_words.specs.Told.{Told}
use Rattle.km_why.specs.Told.{AreReadable, IsInMemory, IsOfWords, TellsSame, block_by, blocks_by, blocks_of, memory_of, stacks_of}
use Rattle.km_why.specs.References.{references}
use Rattle.km_why.proofs.Walks.{IsLacking, memory_same, references_append}
use Rattle.km_why.proofs.Stacks.{tells_after}

-- the scanned words of the blocks from a place on
abbrev pub blocks_after : Tracker → List RecId → ℕ → List ℕ
blocks_after t ids i = flat_map scanned_words (blocks_by t (drop i ids))

pub drop_at : {A : Type 0} (xs : List A) (i : ℕ) (x : A) → i < length xs → x ≡ get_or xs i x → drop i xs ≡ x ∷ drop (i + 1) xs
drop_at [] i x lt e = absurd (omega (arith, lt))
drop_at (y ∷ xs) zero x lt e = ap (λ z. z ∷ xs) (sym e)
drop_at (y ∷ xs) (suc i) x lt e =
    drop_at xs i x (omega (arith, lt)) e ∙ ap (λ n. x ∷ drop n (y ∷ xs)) (let f : suc (i + 1) ≡ suc i + 1 = omega arith in f)

pub drop_over : {A : Type 0} (xs : List A) (i : ℕ) → length xs ≤ i → drop i xs ≡ []
drop_over [] zero le = refl
drop_over [] (suc i) le = refl
drop_over (x ∷ xs) zero le = absurd (omega (arith, le))
drop_over (x ∷ xs) (suc i) le = drop_over xs i (omega (arith, le))

-- the record of a live block, and the block
pub record IsRecord (t : Tracker) (id : RecId) (r : Record) : Type 0 where
  pub block : Block
  pub is : block_by t id ≡ Some block
  pub same : block ≡ block_of id.generation r
  pub live : In block (blocks_of t)

pub record_is : (t : Tracker) (id : RecId) (r : Record) → Some (record { slot = id.slot; tracked = tracked_of id.generation r }) ≡ live_with id t → IsRecord t id r
record_is t id r e = record {
  block = block_of id.generation r;
  is = ap (option_map (λ (l : Live). l.tracked.block)) (sym e);
  same = refl;
  live = map_in (λ (x : Tracked). x.block) (tracked_in t) (tracked_of id.generation r) (map_in (λ (l : Live). l.tracked) t.live (record { slot = id.slot; tracked = tracked_of id.generation r }) (find_in (is_id id) t.live (record { slot = id.slot; tracked = tracked_of id.generation r }) (sym e)).1);
}

record_block : (t : Tracker) (id : RecId) (r : Record) → Some (record { slot = id.slot; tracked = tracked_of id.generation r }) ≡ live_with id t → block_by t id ≡ Some (block_of id.generation r)
record_block t id r e = ap (option_map (λ (l : Live). l.tracked.block)) (sym e)

pub chosen_goes_on : (t u : Told) (target but : Span) (wanted : ℕ) (all : List ℕ) (lacking : ℕ) (tracker : Tracker) (ids : List RecId) (i : ℕ) (id : RecId) (r : Record)
    → TellsSame t u → i < length ids → id ≡ get_or ids i id → Some (record { slot = id.slot; tracked = tracked_of id.generation r }) ≡ live_with id tracker
    → IsLacking (memory_of t) target but wanted all lacking (blocks_after tracker ids i)
    → (after : ℕ) → after ≡ lacking - references (memory_of u) target but (scanned_words (block_of 0 r)) → IsLacking (memory_of t) target but wanted all after (blocks_after tracker ids (i + 1))
chosen_goes_on t u target but wanted all lacking tracker ids i id r same lt at e l after is =
    let split : blocks_after tracker ids i ≡ scanned_words (block_of 0 r) ++ blocks_after tracker ids (i + 1) =
    ap (λ xs. flat_map scanned_words (blocks_by tracker xs)) (drop_at ids i id lt at) ∙ ap (λ o. flat_map scanned_words (cons_option o (blocks_by tracker (drop (i + 1) ids)))) (record_block tracker id r e) in
    let counted : references (memory_of t) target but (blocks_after tracker ids i) ≡ references (memory_of t) target but (scanned_words (block_of 0 r)) + references (memory_of t) target but (blocks_after tracker ids (i + 1)) =
    ap (references (memory_of t) target but) split ∙ references_append (memory_of t) target but (scanned_words (block_of 0 r)) (blocks_after tracker ids (i + 1)) in
    let is' : after ≡ lacking - references (memory_of t) target but (scanned_words (block_of 0 r)) = is ∙ ap (λ m. lacking - references m target but (scanned_words (block_of 0 r))) (memory_same t u same) in
    let still = l.still in
    record { still = omega (arith, still, counted, is') }

pub chosen_passes : (memory : List ℕ) (target but : Span) (wanted : ℕ) (all : List ℕ) (lacking : ℕ) (tracker : Tracker) (ids : List RecId) (i : ℕ) (id : RecId)
    → i < length ids → id ≡ get_or ids i id → None ≡ live_with id tracker
    → IsLacking memory target but wanted all lacking (blocks_after tracker ids i) → IsLacking memory target but wanted all lacking (blocks_after tracker ids (i + 1))
chosen_passes memory target but wanted all lacking tracker ids i id lt at e l =
    subst (IsLacking memory target but wanted all lacking)
    (ap (λ xs. flat_map scanned_words (blocks_by tracker xs)) (drop_at ids i id lt at) ∙ ap (λ o. flat_map scanned_words (cons_option (option_map (λ (x : Live). x.tracked.block) o) (blocks_by tracker (drop (i + 1) ids)))) (sym e)) l

pub chosen_over : (tracker : Tracker) (ids : List RecId) (i : ℕ) → length ids ≤ i → blocks_after tracker ids i ≡ []
chosen_over tracker ids i le = ap (λ xs. flat_map scanned_words (blocks_by tracker xs)) (drop_over ids i le)

pub chosen_laid : (t u : Told) (tracker : Tracker) (id : RecId) (r : Record) → Some (record { slot = id.slot; tracked = tracked_of id.generation r }) ≡ live_with id tracker → TellsSame t u
    → Each (λ (b : Block). IsInMemory t.size b.start b.size × IsOfWords b.start b.size) (blocks_of tracker)
    → IsInMemory u.size r.span.start.0 r.span.size × IsOfWords r.span.start.0 r.span.size
chosen_laid t u tracker id r e same each =
    let here = record_is tracker id r e in
    subst (λ n. IsInMemory n r.span.start.0 r.span.size × IsOfWords r.span.start.0 r.span.size) (sym same.size)
    (subst (λ (b : Block). IsInMemory t.size b.start b.size × IsOfWords b.start b.size) here.same
    (each_in (λ (b : Block). IsInMemory t.size b.start b.size × IsOfWords b.start b.size) (blocks_of tracker) here.block each here.live))

pub in_both : (memory : List ℕ) (target but : Span) (wanted lacking after : ℕ) (stacks : Bool) (tasks : List Task) (blocks : List ℕ)
    → lacking ≡ wanted - references memory target but (flat_map stack_words (stacks_of stacks tasks))
    → after ≡ lacking - references memory target but blocks
    → after ≡ wanted - references memory target but (flat_map stack_words (stacks_of stacks tasks) ++ blocks)
in_both memory target but wanted lacking after stacks tasks blocks e f =
    let both : references memory target but (flat_map stack_words (stacks_of stacks tasks) ++ blocks) ≡ references memory target but (flat_map stack_words (stacks_of stacks tasks)) + references memory target but blocks =
    references_append memory target but (flat_map stack_words (stacks_of stacks tasks)) blocks in
    omega (arith, e, f, both)

-- what lies in a memory lies in one of the same size
pub all_within : (t u : Told) (blocks : List Block) → TellsSame t u → Each (λ (b : Block). IsInMemory t.size b.start b.size × IsOfWords b.start b.size) blocks
    → Each (λ (b : Block). IsInMemory u.size b.start b.size × IsOfWords b.start b.size) blocks
all_within t u blocks same each = subst (λ n. Each (λ (b : Block). IsInMemory n b.start b.size × IsOfWords b.start b.size) blocks) (sym same.size) each

pub stacks_all_within : (t u : Told) (tasks : List Task) → TellsSame t u → Each (λ (x : Task). IsInMemory t.size x.stack 4096 × IsOfWords x.stack 4096) tasks
    → Each (λ (x : Task). IsInMemory u.size x.stack 4096 × IsOfWords x.stack 4096) tasks
stacks_all_within t u tasks same each = subst (λ n. Each (λ (x : Task). IsInMemory n x.stack 4096 × IsOfWords x.stack 4096) tasks) (sym same.size) each

pub readable_after : (t u : Told) (blocks : List Block) (tasks : List Task) → AreReadable t blocks tasks → TellsSame t u → AreReadable u blocks tasks
readable_after t u blocks tasks r same = record {
  told = tells_after t u r.told same;
  small = subst (λ n. n ≤ 4194304) (sym same.size) r.small;
  blocks_in = all_within t u blocks same r.blocks_in;
  stacks_in = stacks_all_within t u tasks same r.stacks_in;
}
