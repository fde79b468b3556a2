use Rattle.std.proofs.Common.{◌≡◌, ℕ, ◌+◌, ◌*◌, ◌/◌, ◌<◌, ◌≤◌, max, List, arith, inl, inr}
use Rattle.km_model.specs.Memory.{base}
use Rattle.km_model.specs.Blocks.{Block}
use Rattle.km_model.specs.Tasks.{Task}
use Rattle.km_model.specs.Placement.{Allocation}
use Rattle.km_model.specs.Past.{Past, Place, world, last_load}
use Rattle.km_model.specs.Follows.{past_of}
use Rattle.km_laws.specs.Placed.{Words, BlockPlaced, StackPlaced}
use Rattle.km_laws.specs.Laws.{NextIsAWord}
use Rattle.km_laws.proofs.Lists.{In, each_in}
use Rattle.km_laws.proofs.Pages.{Sound}
use Rattle.km_laws.proofs.Placings.{Placed}
use Rattle.km_laws.proofs.Apart.{PlacedIn, history_placed}
use Rattle.km_model.proofs.Places.{Word, NextPlace, next_is}

-- a word of the memory
abbrev IsWord : ℕ → ℕ → ℕ → Type 0
IsWord z words a = (i : ℕ) × (i < words) × (a ≡ z + 8 * i)

-- a word of some whole words of the memory
word_of : (z words start size from a : ℕ) → start ≡ z + 8 * from → Words size → start + size ≤ z + 8 * words → Word (max 1 (size / 8)) start a → IsWord z words a
word_of z words start size from a e whole end w =
    let n = whole.1 in
    let k = w.1 in
    let f = w.2 in
    (from + w.0, omega (arith, e, n, end, k), omega (arith, e, f))

block_word : (words : ℕ) (used : List Allocation) (bs : List Block) (ts : List Task) (b : Block) (a : ℕ) → Placed words used bs ts → In b bs
    → Word (max 1 (b.size / 8)) b.start a → IsWord base words a
block_word words used bs ts b a p i w =
    let h = each_in (BlockPlaced used) bs b p.blocks_in i in
    let end = h.4 in
    let most = (each_in (Sound words) used h.0 p.sound h.1).1.1 in
    word_of base words b.start b.size h.6.0.0 a h.6.0.1 h.6.1 (omega (arith, end, most)) w

stack_word : (words : ℕ) (used : List Allocation) (bs : List Block) (ts : List Task) (t : Task) (a : ℕ) → Placed words used bs ts → In t ts
    → Word 512 t.stack a → IsWord base words a
stack_word words used bs ts t a p i w =
    let h = each_in (StackPlaced used) ts t p.stacks_in i in
    let s = each_in (Sound words) used h.0 p.sound h.1 in
    let whole = s.3 in
    word_of base words h.0.start h.0.size whole.0.0 a whole.0.1 whole.1 s.1.1
    (let k = w.1 in let f = w.2 in let e = h.3 in let n = h.4 in (w.0, omega (arith, k, n), omega (arith, f, e)))

at_most : (c : Block) (a : ℕ) → Word (c.size / 8) c.start a → Word (max 1 (c.size / 8)) c.start a
at_most c a w = let k = w.1 in (w.0, omega (arith, k), w.2)

of_place : (words : ℕ) (past : Past) (place : Place) → PlacedIn words (world past) → NextPlace past (last_load past) place → IsWord base words place.word
of_place words past place p (inl stack) =
    let t = stack.1.1 in
    stack_word words (world past).used (world past).blocks (world past).tasks t.0 place.word p t.1 t.3
of_place words past place p (inr (inl grey)) =
    let b = grey.1.1 in
    block_word words (world past).used (world past).blocks (world past).tasks b.0 place.word p b.1 (at_most b.0 place.word b.3)
of_place words past place p (inr (inr (inl sum))) =
    let b = sum.1.1 in
    block_word words (world past).used (world past).blocks (world past).tasks b.0 place.word p b.1 b.3
of_place words past place p (inr (inr (inr grey))) =
    let b = grey.1 in
    block_word words (world past).used (world past).blocks (world past).tasks b.0 place.word p b.1 (at_most b.0 place.word b.3)

pub next_is_a_word : NextIsAWord
next_is_a_word words h place size f e = of_place words (past_of h) place (history_placed words h size.0 f) (next_is (past_of h) place e)
