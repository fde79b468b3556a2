use Rattle.std.proofs.Common.{◌≡◌, ℕ, zero, suc, ◌+◌, ◌/◌, ◌≤◌, ◌<◌, ◌==◌, ◌⊎◌, inl, inr, Bool, true, false, cond, ltb, List, [], ◌∷◌, Option, Some, None, find, filter, refl, sym, ◌∙◌, ap, subst, arith, eqb-true, lt-ltb, le-leb, if◌then◌else◌}
use Rattle.km_laws.proofs.Lists.{In, Pairs, each_in, each_weaker, pairs_filter}
use Rattle.km_model.proofs.Cases.{elim_false, some_same, none_some}
use Rattle.km_laws.proofs.Queues.{in_behind, behind_behind}
use Rattle.km_model.proofs.Places.{or_else_some, or_else_none, place_in_is, place_in_none, not_over, if_place, grey_is, sum_is, Word, word_in, words_each, stack_word_in}
use Rattle.km_laws.proofs.Firsts.{Ordered, first_least, above_least, above_none, FirstIn, first_in_some, first_in_none}
use Rattle.km_model.specs.Memory.{words_from}
use Rattle.km_model.specs.Blocks.{Block, block_of, words_of, scanned_words, is_scanned}
use Rattle.km_model.specs.Tasks.{Task, stack_words}
use Rattle.km_model.specs.Past.{Past, Place, ScanLoad, world}
use Rattle.km_model.specs.Scan.{behind, place_in, or_else, word_above, live_words, first_in, grey_next, first_stack, stack_of, stack_next, phase_of, unless_over, next_after, first_queue, second_queue}

words_ordered : (n a : ℕ) → Ordered (words_from n a)
words_ordered zero a = tt
words_ordered (suc n) a = (each_weaker (Word n (a + 8)) (λ b. a < b) (λ b w. let e = w.2 in omega (arith, e)) (words_from n (a + 8)) (words_each n (a + 8)), words_ordered n (a + 8))

pub live_ordered : (blocks : List Block) (id : ℕ) → Ordered (live_words blocks id)
live_ordered blocks id = ordered (block_of blocks id)
  where
    ordered : (o : Option Block) → Ordered (elim o as (λ _. List ℕ) [ None ↦ [] | Some b ↦ scanned_words b ])
    ordered None = tt
    ordered (Some b) = pairs_filter (λ a c. a < c) (is_scanned b) (words_of b) (words_ordered (b.size / 8) b.start)

-- a word of a queued block that the first grey pass has still to load
abbrev pub IsWaiting : List ℕ → Option ScanLoad → ℕ → ℕ → Type 0
IsWaiting q None id a = Unit {0}
IsWaiting q (Some l) id a =
    (l.place.phase ≤ 1) ⊎ ((l.place.phase ≡ 2) × (((l.place.holder ≡ id) × (l.place.word < a)) ⊎ In id (behind l.place.holder q)))

-- a load at a place comes not behind that of a word of a queued block
abbrev pub IsReached : List ℕ → Place → ℕ → ℕ → Type 0
IsReached q p id a = ((p.holder ≡ id) × (p.word ≤ a)) ⊎ In id (behind p.holder q)

-- what the pass from a holder on, or else from a queue on, gives
abbrev pass : Past → ScanLoad → List ℕ → Option Place
pass past l q =
    or_else
    (place_in 2 l.place.holder (word_above l.place.word (live_words (world past).blocks l.place.holder)))
    (first_in 2 (world past).blocks (behind l.place.holder q))

pub record GreyNext (blocks : List Block) (q : List ℕ) (p : Place) (last : Option ScanLoad) : Type 0 where
  pub phase_is : p.phase ≡ 2
  pub member : In p.holder q
  pub reached : (id a : ℕ) → In id q → In a (live_words blocks id) → IsWaiting q last id a → IsReached q p id a

start_reached : (blocks : List Block) (q : List ℕ) (p : Place) (id a : ℕ) → FirstIn 2 blocks q p → In id q → In a (live_words blocks id) → IsReached q p id a
start_reached blocks q p id a first i j =
    elim (first.others id a i j) [
      | inl same ↦ inl (same, first_least (live_words blocks p.holder) p.word a (live_ordered blocks p.holder) first.word_is (subst (λ h. In a (live_words blocks h)) (sym same) j))
      | inr b ↦ inr b
    ]

-- the holder of a load of phase 2 is queued
abbrev pub HolderQueued : List ℕ → Option ScanLoad → Type 0
HolderQueued q None = Unit {0}
HolderQueued q (Some l) = l.place.phase ≡ 2 → In l.place.holder q

first_next : (blocks : List Block) (q : List ℕ) (p : Place) (last : Option ScanLoad) → first_in 2 blocks q ≡ Some p → GreyNext blocks q p last
first_next blocks q p last e =
    let first : FirstIn 2 blocks q p = first_in_some 2 blocks q p e in
    record { phase_is = first.phase_is; member = first.member; reached = λ id a i j _. start_reached blocks q p id a first i j }

pass_next : (past : Past) (q : List ℕ) (p : Place) (l : ScanLoad) → l.place.phase ≡ 2 → HolderQueued q (Some l) → pass past l q ≡ Some p → GreyNext (world past).blocks q p (Some l)
pass_next past q p l two queued e =
    elim (or_else_some (place_in 2 l.place.holder (word_above l.place.word (live_words (world past).blocks l.place.holder))) (first_in 2 (world past).blocks (behind l.place.holder q)) p e) [
      | inl same ↦ let parts : (p.phase ≡ 2) × (p.holder ≡ l.place.holder) × (word_above l.place.word (live_words (world past).blocks l.place.holder) ≡ Some p.word) = place_in_is 2 l.place.holder _ p same in record {
        phase_is = parts.0;
        member = subst (λ h. In h q) (sym parts.1) (queued two);
        reached = λ id a i j waits. elim waits [
          | inl one ↦ absurd (let f : 2 ≤ 1 = subst (λ n. n ≤ 1) two one in omega (arith, f))
          | inr rest ↦ elim (rest.1) [
            | inl above ↦ inl (
              parts.1 ∙ above.0,
              above_least (live_words (world past).blocks l.place.holder) l.place.word p.word a (live_ordered (world past).blocks l.place.holder) parts.2
                  (subst (λ h. In a (live_words (world past).blocks h)) (sym above.0) j) above.1,
            )
            | inr b ↦ inr (subst (λ h. In id (behind h q)) (sym parts.1) b)
          ]
        ];
      }
      | inr other ↦ let first : FirstIn 2 (world past).blocks (behind l.place.holder q) p = first_in_some 2 (world past).blocks (behind l.place.holder q) p other.1 in record {
        phase_is = first.phase_is;
        member = in_behind l.place.holder p.holder q first.member;
        reached = λ id a i j waits. elim waits [
          | inl one ↦ absurd (let f : 2 ≤ 1 = subst (λ n. n ≤ 1) two one in omega (arith, f))
          | inr rest ↦ elim (rest.1) [
            | inl above ↦ absurd (above_none (live_words (world past).blocks l.place.holder) l.place.word a (place_in_none 2 l.place.holder _ other.0)
                (subst (λ h. In a (live_words (world past).blocks h)) (sym above.0) j) above.1)
            | inr b ↦ elim (start_reached (world past).blocks (behind l.place.holder q) p id a first b j) [
              | inl here ↦ inl here
              | inr further ↦ inr (behind_behind q l.place.holder p.holder id further)
            ]
          ]
        ];
      }
    ]

-- the next load of the first grey pass
pub grey_some : (past : Past) (q : List ℕ) (p : Place) (last : Option ScanLoad) → HolderQueued q last → grey_next 2 past q last ≡ Some p → GreyNext (world past).blocks q p last
grey_some past q p None queued e = first_next (world past).blocks q p None e
grey_some past q p (Some l) queued e =
    elim (l.place.phase == 2) as (λ r. (l.place.phase == 2) ≡ r → (if r then pass past l q else first_in 2 (world past).blocks q) ≡ Some p → GreyNext (world past).blocks q p (Some l)) [
      | true ↦ λ two f. pass_next past q p l (eqb-true l.place.phase 2 two) queued f
      | false ↦ λ _ f. first_next (world past).blocks q p (Some l) f
    ] refl e

-- where the first grey pass has no further load, no word waits
pub grey_none : (past : Past) (q : List ℕ) (last : Option ScanLoad) (id a : ℕ) → grey_next 2 past q last ≡ None
    → In id q → In a (live_words (world past).blocks id) → IsWaiting q last id a → ⊥
grey_none past q None id a e i j waits = first_in_none 2 (world past).blocks q id a e i j
grey_none past q (Some l) id a e i j waits =
    elim (l.place.phase == 2) as (λ r. (l.place.phase == 2) ≡ r → (if r then pass past l q else first_in 2 (world past).blocks q) ≡ None → ⊥) [
      | true ↦ λ two f.
          let both = or_else_none (place_in 2 l.place.holder (word_above l.place.word (live_words (world past).blocks l.place.holder))) (first_in 2 (world past).blocks (behind l.place.holder q)) f in
          let is_two : l.place.phase ≡ 2 = eqb-true l.place.phase 2 two in
          elim waits [
            | inl one ↦ omega (arith, is_two, one)
            | inr rest ↦ elim (rest.1) [
              | inl above ↦ above_none (live_words (world past).blocks l.place.holder) l.place.word a (place_in_none 2 l.place.holder _ both.0)
                  (subst (λ h. In a (live_words (world past).blocks h)) (sym above.0) j) above.1
              | inr b ↦ first_in_none 2 (world past).blocks (behind l.place.holder q) id a both.1 b j
            ]
          ]
      | false ↦ λ _ f. first_in_none 2 (world past).blocks q id a f i j
    ] refl e

-- a word of a task's stack that the first phase has still to load
abbrev pub IsStackWaiting : Option ScanLoad → ℕ → ℕ → Type 0
IsStackWaiting None n a = Unit {0}
IsStackWaiting (Some l) n a = (l.place.phase ≤ 1) × ((l.place.holder < n) ⊎ ((l.place.holder ≡ n) × (l.place.word < a)))

abbrev pub IsStackReached : Place → ℕ → ℕ → Type 0
IsStackReached p n a = (p.holder < n) ⊎ ((p.holder ≡ n) × (p.word ≤ a))

-- the numbers of tasks rise
abbrev pub TasksRise : List Task → Type 0
TasksRise ts = Pairs (λ (t u : Task). t.number < u.number) ts

-- the words of the stack of what was found
abbrev words_in : Option Task → List ℕ
words_in o = elim o [ None ↦ [] | Some t ↦ stack_words t ]

first_stack_some : (ts : List Task) (p : Place) (n a : ℕ) → TasksRise ts → first_stack ts ≡ Some p → In a (stack_of ts n) → (p.phase ≡ 1) × IsStackReached p n a
first_stack_some [] p n a r e i = absurd (none_some p e)
first_stack_some (t ∷ ts) p n a r e i =
    let same : record { phase = 1; holder = t.number; word = t.stack } ≡ p = some_same _ p e in
    let held : t.number ≡ p.holder = ap (λ (x : Place). x.holder) same in
    let word : t.stack ≡ p.word = ap (λ (x : Place). x.word) same in (
      sym (ap (λ (x : Place). x.phase) same),
      elim (t.number == n) as (λ q. (t.number == n) ≡ q → In a (words_in (cond q (Some t) (find (λ (u : Task). u.number == n) ts))) → IsStackReached p n a) [
        | true ↦ λ f j. let is : t.number ≡ n = eqb-true t.number n f in let w = (word_in 512 t.stack a j).2 in let above : t.stack ≤ a = omega (arith, w) in inr (omega (arith, held, is), omega (arith, word, above))
        | false ↦ λ _ j. let owner = stack_word_in ts n a j in
            let above : t.number < (owner.0).number = each_in (λ (u : Task). t.number < u.number) ts owner.0 r.0 owner.1 in inl (omega (arith, held, above, owner.2))
      ] refl i,
    )

first_stack_none : (ts : List Task) (n a : ℕ) → first_stack ts ≡ None → In a (stack_of ts n) → ⊥
first_stack_none [] n a e i = i
first_stack_none (t ∷ ts) n a e i = none_some _ (sym e)

later_stack : (ts : List Task) (h n a : ℕ) → h < n → In a (stack_of ts n) → In a (stack_of (filter (λ (t : Task). ltb h t.number) ts) n)
later_stack [] h n a lt i = i
later_stack (t ∷ ts) h n a lt i =
    elim (ltb h t.number) as (λ q. ltb h t.number ≡ q → In a (stack_of (cond q (t ∷ filter (λ (u : Task). ltb h u.number) ts) (filter (λ (u : Task). ltb h u.number) ts)) n)) [
      | true ↦ λ _. elim (t.number == n) as (λ r. In a (words_in (cond r (Some t) (find (λ (u : Task). u.number == n) ts))) → In a (words_in (cond r (Some t) (find (λ (u : Task). u.number == n) (filter (λ (u : Task). ltb h u.number) ts))))) [
        | true ↦ λ j. j
        | false ↦ λ j. later_stack ts h n a lt j
      ] i
      | false ↦ λ below. elim (t.number == n) as (λ r. (t.number == n) ≡ r → In a (words_in (cond r (Some t) (find (λ (u : Task). u.number == n) ts))) → In a (stack_of (filter (λ (u : Task). ltb h u.number) ts) n)) [
        | true ↦ λ f _. absurd (elim_false (sym below ∙ lt-ltb h t.number (subst (λ z. h < z) (sym (eqb-true t.number n f)) lt)))
        | false ↦ λ _ j. later_stack ts h n a lt j
      ] refl i
    ] refl

-- the next load of the first phase comes not behind a word that waits
pub stack_some : (past : Past) (last : Option ScanLoad) (p : Place) → TasksRise (world past).tasks → stack_next past last ≡ Some p
    → (n a : ℕ) → In a (stack_of (world past).tasks n) → IsStackWaiting last n a → IsStackReached p n a
stack_some past None p r e n a i waits = (first_stack_some (world past).tasks p n a r e i).1
stack_some past (Some l) p r e n a i waits =
    elim (or_else_some (place_in 1 l.place.holder (word_above l.place.word (stack_of (world past).tasks l.place.holder))) (first_stack (filter (λ (t : Task). ltb l.place.holder t.number) (world past).tasks)) p e) [
      | inl same ↦ let parts = place_in_is 1 l.place.holder _ p same in elim (waits.1) [
        | inl lt ↦ inl (omega (arith, parts.1, lt))
        | inr here ↦ inr (
          parts.1 ∙ here.0,
          above_least (stack_of (world past).tasks l.place.holder) l.place.word p.word a (stack_ordered (find (λ (t : Task). t.number == l.place.holder) (world past).tasks)) parts.2
              (subst (λ h. In a (stack_of (world past).tasks h)) (sym here.0) i) here.1,
        )
      ]
      | inr other ↦ elim (waits.1) [
        | inl lt ↦ (first_stack_some (filter (λ (t : Task). ltb l.place.holder t.number) (world past).tasks) p n a (pairs_filter (λ (t u : Task). t.number < u.number) _ (world past).tasks r) other.1
            (later_stack (world past).tasks l.place.holder n a lt i)).1
        | inr here ↦ absurd (above_none (stack_of (world past).tasks l.place.holder) l.place.word a (place_in_none 1 l.place.holder _ other.0)
            (subst (λ h. In a (stack_of (world past).tasks h)) (sym here.0) i) here.1)
      ]
    ]
  where
    stack_ordered : (o : Option Task) → Ordered (words_in o)
    stack_ordered None = tt
    stack_ordered (Some t) = words_ordered 512 t.stack

pub stack_none : (past : Past) (last : Option ScanLoad) (n a : ℕ) → stack_next past last ≡ None → In a (stack_of (world past).tasks n) → IsStackWaiting last n a → ⊥
stack_none past None n a e i waits = first_stack_none (world past).tasks n a e i
stack_none past (Some l) n a e i waits =
    let both = or_else_none _ _ e in
    elim (waits.1) [
      | inl lt ↦ first_stack_none _ n a both.1 (later_stack (world past).tasks l.place.holder n a lt i)
      | inr here ↦ above_none (stack_of (world past).tasks l.place.holder) l.place.word a (place_in_none 1 l.place.holder _ both.0)
          (subst (λ h. In a (stack_of (world past).tasks h)) (sym here.0) i) here.1
    ]

-- the first phase is over, and the second
abbrev pub StacksOver : Past → Option ScanLoad → Type 0
StacksOver past last = phase_of last ≤ 1 → (world past).stacks ≡ true → stack_next past last ≡ None

abbrev pub QueueOver : Past → Option ScanLoad → Type 0
QueueOver past last = phase_of last ≤ 2 → grey_next 2 past (first_queue past) last ≡ None

-- of which phase the next load is
pub data NextCase (past : Past) (last : Option ScanLoad) (p : Place) : Type 0 where
  in_stacks : phase_of last ≤ 1 → (world past).stacks ≡ true → stack_next past last ≡ Some p → NextCase past last p
  in_queue : StacksOver past last → phase_of last ≤ 2 → grey_next 2 past (first_queue past) last ≡ Some p → NextCase past last p
  later : StacksOver past last → QueueOver past last → 3 ≤ p.phase → NextCase past last p

over_none : (phase present : ℕ) (o : Option Place) → unless_over phase present o ≡ None → present ≤ phase → o ≡ None
over_none phase present o e le = subst (λ q. (if q then o else None) ≡ None) (le-leb present phase le) e

stacks_none : (q : Bool) (o : Option Place) → (if q then o else None) ≡ None → q ≡ true → o ≡ None
stacks_none true o e f = e
stacks_none false o e f = absurd (elim_false f)

pub next_some : (past : Past) (last : Option ScanLoad) (p : Place) → next_after past last ≡ Some p → NextCase past last p
next_some past last p e =
    elim (or_else_some _ _ p e) [
      | inl first ↦
          let parts = not_over 1 (phase_of last) _ p first in
          let on = if_place (world past).stacks (stack_next past last) p parts.1 in
          in_stacks parts.0 on.0 on.1
      | inr second ↦
          let over : StacksOver past last = λ le on. stacks_none (world past).stacks (stack_next past last) (over_none 1 (phase_of last) _ second.0 le) on in
          elim (or_else_some _ _ p second.1) [
            | inl grey ↦ let parts = not_over 2 (phase_of last) _ p grey in in_queue over parts.0 parts.1
            | inr third ↦
                let empty : QueueOver past last = λ le. over_none 2 (phase_of last) _ third.0 le in
                elim (or_else_some _ _ p third.1) [
                  | inl sum ↦ let is : p.phase ≡ 3 = (sum_is past last p (not_over 3 (phase_of last) _ p sum).1).0 in later over empty (omega (arith, is))
                  | inr fourth ↦ let is : p.phase ≡ 4 = (grey_is 4 past (second_queue past) last p fourth.1).0 in later over empty (omega (arith, is))
                ]
          ]
    ]

pub next_none : (past : Past) (last : Option ScanLoad) → next_after past last ≡ None → StacksOver past last × QueueOver past last
next_none past last e =
    let first = or_else_none _ _ e in
    let second = or_else_none _ _ first.1 in (
      λ le on. stacks_none (world past).stacks (stack_next past last) (over_none 1 (phase_of last) _ first.0 le) on,
      λ le. over_none 2 (phase_of last) _ second.0 le,
    )
