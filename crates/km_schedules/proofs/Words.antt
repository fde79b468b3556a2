-- What legal steps leave of the words: as many, and each of 64 bits.
use Rattle.std.proofs.Common.{◌≡◌, ℕ, zero, suc, ◌+◌, ◌-◌, ◌*◌, ◌/◌, ◌%◌, ◌<◌, ◌≤◌, ◌&&◌, ◌==◌, nat_le, nat_lt, Bool, true, false, List, [], ◌∷◌, ◌++◌, length, map, Option, Some, None, if◌then◌else◌, refl, sym, ◌∙◌, subst, arith, le-leb, lt-ltb, eq-eqb, mod-lt, slice_index, slice_set}
use Rattle.std.proofs.lemmas.Bool.{and_from}
use Rattle.std.proofs.lemmas.List.{length-set, map-append}
use Rattle.km_base.specs.declared.acts.Answer.{Answer}
use Rattle.km_model.specs.Memory.{base, index_of, in_memory, words_from}
use Rattle.km_model.specs.Members.{Each}
use Rattle.km_model.specs.Placement.{kmalloc_span}
use Rattle.km_words.specs.Told.{WordStep, LoadStep, StoreStep}
use Rattle.km_laws.specs.Laws.{BlockLies}
use Rattle.km_rounds.specs.Orders.{OrderStep, Order, IsLegal, IsLegalStep, words_after, words_after_step}
use Rattle.km_live_model.specs.declared.jobs.JobLine.{JobLine}
use Rattle.km_live_model.specs.declared.jobs.JobLine.TheVariants.{Load, Store, Erase, Kzalloc}
use Rattle.km_live_model.specs.declared.jobs.JobOperand.{JobOperand}
use Rattle.km_live_model.specs.Courses.{base_in, value_in, step_at, zeroed, made_at, steps_in}
use Rattle.km_schedules.specs.Schedules.{IsWord}
use Rattle.km_schedules.proofs.Parts.{by_hand}

-- a word of 64 bits is found, whichever place is asked for
pub found_word : (ws : List ℕ) (i : ℕ) → Each IsWord ws → IsWord (slice_index ws i)
found_word [] i f = omega arith
found_word (w ∷ ws) zero f = f.0
found_word (w ∷ ws) (suc i) f = found_word ws i f.1

pub set_words : (ws : List ℕ) (i v : ℕ) → IsWord v → Each IsWord ws → Each IsWord (slice_set ws i v)
set_words [] i v small f = tt
set_words (w ∷ ws) zero v small f = (small, f.1)
set_words (w ∷ ws) (suc i) v small f = (f.0, set_words ws i v small f.1)

-- a step stores 64 bits
abbrev pub StoresWord : WordStep → Type 0
StoresWord (LoadStep a v) = Unit {0}
StoresWord (StoreStep a v) = IsWord v

step_words : (ws : List ℕ) (s : WordStep) → StoresWord s → Each IsWord ws → Each IsWord (words_after_step ws s)
step_words ws (LoadStep a v) small f = f
step_words ws (StoreStep a v) small f = set_words ws (index_of a) v small f

step_length : (ws : List ℕ) (s : WordStep) → length (words_after_step ws s) ≡ length ws
step_length ws (LoadStep a v) = refl
step_length ws (StoreStep a v) = length-set ws (index_of a) v

pub order_words : (ws : List ℕ) (order : Order) → Each (λ (x : OrderStep). StoresWord x.step) order → Each IsWord ws → Each IsWord (words_after ws order)
order_words ws [] s f = f
order_words ws (x ∷ order) s f = order_words (words_after_step ws x.step) order s.1 (step_words ws x.step s.0 f)

pub order_length : (ws : List ℕ) (order : Order) → length (words_after ws order) ≡ length ws
order_length ws [] = refl
order_length ws (x ∷ order) = order_length (words_after_step ws x.step) order ∙ step_length ws x.step

-- one order after another
pub words_after_both : (ws : List ℕ) (xs ys : Order) → words_after ws (xs ++ ys) ≡ words_after (words_after ws xs) ys
words_after_both ws [] ys = refl
words_after_both ws (x ∷ xs) ys = words_after_both (words_after_step ws x.step) xs ys

pub legal_both : (ws : List ℕ) (xs ys : Order) → IsLegal ws xs → IsLegal (words_after ws xs) ys → IsLegal ws (xs ++ ys)
legal_both ws [] ys f g = g
legal_both ws (x ∷ xs) ys f g = (f.0, legal_both (words_after_step ws x.step) xs ys f.1 g)

-- the order of one hand
pub by_hand_both : (k : ℕ) (xs ys : List WordStep) → by_hand k (xs ++ ys) ≡ by_hand k xs ++ by_hand k ys
by_hand_both k xs ys = map-append (λ (s : WordStep). record { by = k; step = s }) xs ys

pub by_hand_stores : (k : ℕ) (xs : List WordStep) → Each StoresWord xs → Each (λ (x : OrderStep). StoresWord x.step) (by_hand k xs)
by_hand_stores k [] f = tt
by_hand_stores k (x ∷ xs) f = (f.0, by_hand_stores k xs f.1)

-- the steps of a line store 64 bits
value_is_word : (registers : List ℕ) (o : JobOperand) → IsWord (value_in registers o)
value_is_word registers o = mod-lt (base_in registers o.base + o.plus) (omega arith)

at_stores : (words a : ℕ) (s : WordStep) → StoresWord s → Each StoresWord (step_at words a s)
at_stores words a s f = go (in_memory words a)
  where
    go : (q : Bool) → Each StoresWord (if q then s ∷ [] else [])
    go true = (f, tt)
    go false = tt

zeroes_store : (n a : ℕ) → Each StoresWord (map (λ b. StoreStep b 0) (words_from n a))
zeroes_store zero a = tt
zeroes_store (suc n) a = (omega arith, zeroes_store n (a + 8))

zeroed_stores : (size : ℕ) (o : Option ℕ) → Each StoresWord (zeroed size o)
zeroed_stores size None = tt
zeroed_stores size (Some a) = zeroes_store (kmalloc_span size / 8) a

pub line_stores : (words : ℕ) (registers : List ℕ) (line : JobLine) (value : ℕ) (given : Option Answer) → Each StoresWord (steps_in words registers line value given)
line_stores words registers (Load reg addr) value given = at_stores words (value_in registers addr) (LoadStep (value_in registers addr) value) tt
line_stores words registers (Store addr new) value given =
    at_stores words (value_in registers addr) (StoreStep (value_in registers addr) (value_in registers new)) (value_is_word registers new)
line_stores words registers (Erase addr) value given = at_stores words (value_in registers addr) (StoreStep (value_in registers addr) 0) (omega arith)
line_stores words registers (Kzalloc size _) value given = zeroed_stores size (made_at given)
line_stores words registers _ value given = tt

-- a word of the memory, by its number
pub word_is_in : (words i a : ℕ) → i < words → a ≡ base + 8 * i → in_memory words a ≡ true
word_is_in words i a low is =
    and_from (nat_le base a && (a - base) % 8 == 0) (nat_lt (a - base) (8 * words))
    (and_from (nat_le base a) ((a - base) % 8 == 0) (le-leb base a (omega (arith, is))) (eq-eqb ((a - base) % 8) 0 (omega (arith, is))))
    (lt-ltb (a - base) (8 * words) (omega (arith, is, low)))

-- the steps of a hand at one word
pub at_legal : (words k a : ℕ) (ws : List ℕ) (s : WordStep) → (in_memory words a ≡ true → IsLegalStep ws s) → IsLegal ws (by_hand k (step_at words a s))
at_legal words k a ws s f = go (in_memory words a) refl
  where
    go : (q : Bool) → in_memory words a ≡ q → IsLegal ws (by_hand k (if q then s ∷ [] else []))
    go true e = (f e, tt)
    go false e = tt

-- a new block is zeroed in the memory
zeroes_legal : (k n i a : ℕ) (ws : List ℕ) → a ≡ base + 8 * i → i + n ≤ length ws → IsLegal ws (by_hand k (map (λ b. StoreStep b 0) (words_from n a)))
zeroes_legal k zero i a ws is le = tt
zeroes_legal k (suc n) i a ws is le = (
  word_is_in (length ws) i a (omega (arith, le)) is,
  zeroes_legal k n (i + 1) (a + 8) (slice_set ws (index_of a) 0) (omega (arith, is)) (let e = length-set ws (index_of a) 0 in omega (arith, le, e)),
)

block_ends : (z i a span words : ℕ) → a ≡ z + 8 * i → a + span ≤ z + 8 * words → i + span / 8 ≤ words
block_ends z i a span words is end = omega (arith, is, end)

pub zeroed_legal : (words k size a : ℕ) (ws : List ℕ) → length ws ≡ words → BlockLies words size a → IsLegal ws (by_hand k (zeroed size (Some a)))
zeroed_legal words k size a ws whole block =
    let there = block.whole.0 in
    zeroes_legal k (kmalloc_span size / 8) there.0 a ws there.1
    (subst (λ n. there.0 + kmalloc_span size / 8 ≤ n) (sym whole) (block_ends base there.0 a (kmalloc_span size) words there.1 block.inside.1))
