-- Walks over words that are counted.
use Rattle.std.proofs.Common.{append-nil, ◌≡◌, ℕ, ◌+◌, ◌-◌, ◌*◌, ◌/◌, ◌^◌, ◌<◌, ◌≤◌, leb, ltb, List, [], ◌∷◌, ◌++◌, length, Some, None, find, filter, flat_map, refl, sym, ◌∙◌, ap, subst, arith, lt-ltb, length-append}
use Rattle.std.proofs.lemmas.List.{append_assoc}
use Rattle.km_model.proofs.Lists.{In, Each, each_in, each_weaker}
use Rattle.km_model.specs.Memory.{base, index_of, words_from}
use Rattle.km_model.specs.Blocks.{Block, is_scanned, scanned_words}
use Rattle.km_model.specs.Tasks.{Task, stack_words}
use Rattle.km_tasks.specs.Lives.{AreNumbered}
use Rattle.km_track.specs.Tracker.{Tracker}
use Rattle.km_words.specs.Told.{Told}
use Rattle.km_why.specs.Told.{IsInMemory, IsOfWords, TellsSame, blocks_of, memory_of}
use Rattle.km_why.proofs.Walks.{above, memory_same, none_left, rest, rest_of, rest_of_stack, stacks_after, tasks_split, words_next}
use Rattle.km_why.proofs.Stacks.{IsNext}
use Rattle.km_why.specs.declared.counts.Count.{Count}
use Rattle.km_why.specs.Counts.{AreCounted, AreSpread, HaveRoom, count_at}

-- which of the words are counted, and which are left
pub record HasPassed (memory : List ℕ) (blocks : List Block) (all : List ℕ) (old now : List Count) (left : List ℕ) : Type 0 where
  pub prefix : List ℕ
  pub was : all ≡ prefix ++ left
  pub counted : (ws : List ℕ) → AreCounted memory blocks ws old → AreCounted memory blocks (ws ++ prefix) now

-- a walk, in a memory that stays as it is, over a table that stays as long
pub record IsCounting (t u : Told) (blocks : List Block) (all : List ℕ) (old now : List Count) (left : List ℕ) : Type 0 where
  pub told : TellsSame t u
  pub long : length now ≡ length old
  pub passed : HasPassed (memory_of t) blocks all old now left

pub begins : (t u : Told) (blocks : List Block) (all : List ℕ) (old : List Count) (left : List ℕ) → TellsSame t u → all ≡ left → IsCounting t u blocks all old old left
begins t u blocks all old left same e = record {
  told = same;
  long = refl;
  passed = record { prefix = []; was = e; counted = λ ws c. subst (λ vs. AreCounted (memory_of t) blocks vs old) (sym (append-nil ws)) c };
}

-- the next words are counted
pub goes_on : (t u v : Told) (blocks : List Block) (all : List ℕ) (old now after : List Count) (left xs more : List ℕ) → IsCounting t u blocks all old now left → left ≡ xs ++ more
    → ((ws : List ℕ) → AreCounted (memory_of u) blocks ws now → AreCounted (memory_of u) blocks (ws ++ xs) after) → length after ≡ length now → TellsSame u v
    → IsCounting t v blocks all old after more
goes_on t u v blocks all old now after left xs more w e step long same = record {
  told = record { size = same.size ∙ w.told.size; place = same.place ∙ w.told.place; memory = same.memory ∙ w.told.memory; given = same.given ∙ w.told.given };
  long = long ∙ w.long;
  passed = record {
    prefix = w.passed.prefix ++ xs;
    was = w.passed.was ∙ ap (λ vs. w.passed.prefix ++ vs) e ∙ sym (append_assoc w.passed.prefix xs more);
    counted = λ ws c. subst (λ vs. AreCounted (memory_of t) blocks vs after) (append_assoc ws w.passed.prefix xs)
        (subst (λ m. AreCounted m blocks ((ws ++ w.passed.prefix) ++ xs) after) (memory_same t u w.told)
        (step (ws ++ w.passed.prefix) (subst (λ m. AreCounted m blocks (ws ++ w.passed.prefix) now) (sym (memory_same t u w.told)) (w.passed.counted ws c))));
  };
}

-- there is room for the next words
pub has_room : (t u : Told) (blocks : List Block) (all : List ℕ) (old now : List Count) (left xs more : List ℕ) → HaveRoom (memory_of t) blocks old all → IsCounting t u blocks all old now left → left ≡ xs ++ more
    → HaveRoom (memory_of u) blocks now xs
has_room t u blocks all old now left xs more r w e =
    let few = r.few in
    let whole : length all ≡ length w.passed.prefix + (length xs + length more) =
    ap length (w.passed.was ∙ ap (λ vs. w.passed.prefix ++ vs) e) ∙ length-append w.passed.prefix (xs ++ more) ∙ ap (λ n. length w.passed.prefix + n) (length-append xs more) in
    record {
      words = r.words ++ w.passed.prefix;
      few = few_are (length r.words) (length w.passed.prefix) (length xs) (length more) (length all) (2 ^ 30) (length (r.words ++ w.passed.prefix)) few whole (length-append r.words w.passed.prefix);
      counted = subst (λ m. AreCounted m blocks (r.words ++ w.passed.prefix) now) (sym (memory_same t u w.told)) (w.passed.counted r.words r.counted);
    }
  where
    few_are : (a b c d n m k : ℕ) → a + n ≤ m → n ≡ b + (c + d) → k ≡ a + b → k + c ≤ m
    few_are a b c d n m k f g h = omega (arith, f, g, h)

pub is_over : (t u : Told) (blocks : List Block) (all : List ℕ) (old now : List Count) (left : List ℕ) → IsCounting t u blocks all old now left → left ≡ []
    → (ws : List ℕ) → AreCounted (memory_of t) blocks ws old → AreCounted (memory_of t) blocks (ws ++ all) now
is_over t u blocks all old now left w e ws c =
    subst (λ vs. AreCounted (memory_of t) blocks (ws ++ vs) now) (sym (w.passed.was ∙ ap (λ vs. w.passed.prefix ++ vs) e ∙ append-nil w.passed.prefix)) (w.passed.counted ws c)

pub spread_same : (t u : Told) (tracker : Tracker) → TellsSame t u → AreSpread t.size tracker → AreSpread u.size tracker
spread_same t u tracker same s = subst (λ n. AreSpread n tracker) (sym same.size) s

pub long_same : (t u : Told) (old now : List Count) → TellsSame t u → length now ≡ length old → t.size ≤ length old → u.size ≤ length now
long_same t u old now same long le = let e = same.size in omega (arith, e, long, le)

pub block_begins : (b : Block) → scanned_words b ≡ rest b 0
block_begins b = sym (above (is_scanned b) (b.size / 8) b.start (b.start + 8 * 0) (omega arith))

-- the next word of a block, and the others
pub block_split : (b : Block) (from i : ℕ) → Some (b.start + 8 * i) ≡ find (leb (b.start + 8 * from)) (scanned_words b) → rest b from ≡ ((b.start + 8 * i) ∷ []) ++ rest b (i + 1)
block_split b from i e =
    let next : b.start + 8 * i + 8 ≡ b.start + 8 * (i + 1) = omega arith in
    rest_of (is_scanned b) (b.size / 8) b.start (b.start + 8 * from) (b.start + 8 * i) (sym e) ∙ ap (λ x. (b.start + 8 * i) ∷ filter (leb x) (scanned_words b)) next

pub block_over : (b : Block) (from : ℕ) → None ≡ find (leb (b.start + 8 * from)) (scanned_words b) → rest b from ≡ []
block_over b from e = none_left (is_scanned b) (b.size / 8) b.start (b.start + 8 * from) (sym e)

pub stack_begins : (stack : ℕ) → words_from 512 stack ≡ rest_of_stack stack 0
stack_begins stack = ap (λ x. words_from 512 x) (let e : stack ≡ stack + 8 * 0 = omega arith in e)

pub stack_split : (stack i : ℕ) → i < 512 → rest_of_stack stack i ≡ ((stack + 8 * i) ∷ []) ++ rest_of_stack stack (i + 1)
stack_split stack i lt =
    words_next (512 - i) (stack + 8 * i) (omega (arith, lt)) ∙ ap (λ n. (stack + 8 * i) ∷ words_from n (stack + 8 * i + 8)) (let e : 512 - i - 1 ≡ 512 - (i + 1) = omega arith in e)
    ∙ ap (λ x. (stack + 8 * i) ∷ words_from (512 - (i + 1)) x) (let e : stack + 8 * i + 8 ≡ stack + 8 * (i + 1) = omega arith in e)

pub tasks_begin : (high : ℕ) (tasks : List Task) → AreNumbered 0 tasks high → flat_map stack_words tasks ≡ stacks_after tasks 0
tasks_begin high tasks numbers = ap (flat_map stack_words) (sym (all tasks 0 numbers))
  where
    all : (ts : List Task) (low : ℕ) → AreNumbered low ts high → filter (λ (t : Task). ltb 0 t.number) ts ≡ ts
    all [] low n = refl
    all (t ∷ ts) low n = let lt = n.0 in rw (lt-ltb 0 t.number (omega (arith, lt))) (ap (λ xs. t ∷ xs) (all ts t.number n.1))

-- the stack of the next task, and the others
pub tasks_next : (high : ℕ) (tasks : List Task) (last number stack : ℕ) → AreNumbered 0 tasks high → IsNext tasks last number stack → stacks_after tasks last ≡ words_from 512 stack ++ stacks_after tasks number
tasks_next high tasks last number stack numbers next =
    ap (flat_map stack_words) (tasks_split tasks 0 high last next.task numbers next.found)
    ∙ ap (λ a. words_from 512 a ++ stacks_after tasks next.task.number) next.stack_is
    ∙ ap (λ n. words_from 512 stack ++ stacks_after tasks n) next.number_is

-- the place of a block
pub placed : (z start size words : ℕ) → z ≤ start → start + size ≤ z + 8 * words → 0 < size → (start - z) / 8 < words
placed z start size words low end some = omega (arith, low, end, some)

pub place_within : (words : ℕ) (t : Tracker) (cs : List Count) → AreSpread words t → words ≤ length cs → (b : Block) → In b (blocks_of t) → index_of b.start < length cs
place_within words t cs s long b i =
    let w = (each_in (λ (x : Block). IsInMemory words x.start x.size × IsOfWords x.start x.size) (blocks_of t) b s.within i).0 in
    let pos = each_in (λ (x : Block). 0 < x.size) (blocks_of t) b s.some i in
    let lt : index_of b.start < words = placed base b.start b.size words w.0 w.1 pos in
    below (index_of b.start) words (length cs) lt long
  where
    below : (a b' c : ℕ) → a < b' → b' ≤ c → a < c
    below a b' c f g = omega (arith, f, g)

pub all_low : (words : ℕ) (t : Tracker) → AreSpread words t → Each (λ (b : Block). base ≤ b.start) (blocks_of t)
all_low words t s = each_weaker (λ (b : Block). IsInMemory words b.start b.size × IsOfWords b.start b.size) (λ (b : Block). base ≤ b.start) (λ b w. w.0.0) (blocks_of t) s.within

pub all_aligned : (words : ℕ) (t : Tracker) → AreSpread words t → Each (λ (b : Block). IsOfWords b.start b.size) (blocks_of t)
all_aligned words t s = each_weaker (λ (b : Block). IsInMemory words b.start b.size × IsOfWords b.start b.size) (λ (b : Block). IsOfWords b.start b.size) (λ b w. w.1) (blocks_of t) s.within

-- a count has room for one more word
pub all_small : (memory : List ℕ) (blocks : List Block) (cs : List Count) (a : ℕ) → HaveRoom memory blocks cs (a ∷ []) → (b : Block) → In b blocks
    → ((count_at cs (index_of b.start)).found + 2 < 2 ^ 32) × ((count_at cs (index_of b.start)).outside + 1 < 2 ^ 32)
all_small memory blocks cs a r b i =
    let few = r.few in let f = r.counted.found b i in let g = r.counted.few b i in let h = r.counted.fewer b i in (omega (arith, few, f, g), omega (arith, few, h))
