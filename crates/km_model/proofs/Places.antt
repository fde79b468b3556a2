use Rattle.std.proofs.Common.{◌≡◌, ℕ, zero, suc, ◌+◌, ◌*◌, ◌/◌, ◌<◌, ◌≤◌, max, Bool, true, false, ◌==◌, nat_lt, nat_le, eqb, find, filter, List, [], ◌∷◌, Option, Some, None, if◌then◌else◌, refl, sym, subst, arith, ◌⊎◌, inl, inr, eqb-true, ltb-true, leb-true}
use Rattle.std.proofs.lemmas.Bool.{eqb-false}
use Rattle.km_model.specs.Memory.{words_from}
use Rattle.km_model.specs.Blocks.{Block, is_scanned, scanned_words, words_of, block_of}
use Rattle.km_model.specs.Tasks.{Task, stack_words}
use Rattle.km_model.specs.Past.{Past, Place, ScanLoad, world, last_load}
use Rattle.km_model.specs.Scan.{is_white, behind, place_in, or_else, word_above, first_word, live_words, first_in, grey_next, first_stack, stack_of, stack_next, first_white, white_words, sum_next, phase_of, unless_over, next_after, next, first_queue, second_queue}
use Rattle.km_model.proofs.Lists.{Each, each_weaker, each_in, In, find_in, filter_in}
use Rattle.km_model.proofs.Cases.{none_some}

-- the newest of these loads
abbrev pub newest : List ScanLoad → Option ScanLoad
newest [] = None
newest (l ∷ _) = Some l

-- a word of those from a start on
abbrev pub Word : ℕ → ℕ → ℕ → Type 0
Word n start a = (i : ℕ) × (i < n) × (a ≡ start + 8 * i)

pub words_each : (n s : ℕ) → Each (Word n s) (words_from n s)
words_each zero s = tt
words_each (suc n) s = (
  (0, omega arith, omega arith),
  each_weaker (Word n (s + 8)) (Word (suc n) s) (λ a w. (suc w.0, omega (arith, w.1), omega (arith, w.2))) (words_from n (s + 8)) (words_each n (s + 8)),
)

pub word_in : (n s a : ℕ) → In a (words_from n s) → Word n s a
word_in n s a i = each_in (Word n s) (words_from n s) a (words_each n s) i

word_above_in : (a c : ℕ) (ws : List ℕ) → word_above a ws ≡ Some c → (a < c) × In c ws
word_above_in a c ws h = let f = find_in (nat_lt a) ws c h in (ltb-true a c f.0, f.1)

first_word_in : (c : ℕ) (ws : List ℕ) → first_word ws ≡ Some c → In c ws
first_word_in c [] h = cc
first_word_in c (w ∷ ws) h = inl cc

-- a live block with a word
abbrev pub BlockWord : List Block → ℕ → ℕ → Type 0
BlockWord blocks id a = (b : Block) × In b blocks × (b.id ≡ id) × Word (b.size / 8) b.start a

live_word_of : (blocks : List Block) (id a : ℕ) (o : Option Block) → ((b : Block) → o ≡ Some b → In b blocks × (b.id ≡ id))
    → In a (elim o as (λ _. List ℕ) [ None ↦ [] | Some b ↦ scanned_words b ]) → BlockWord blocks id a
live_word_of blocks id a None f i = absurd i
live_word_of blocks id a (Some b) f i =
    let g = f b refl in
    (b, g.0, g.1, word_in (b.size / 8) b.start a (filter_in (is_scanned b) (words_of b) a i).1)

block_of_in : (blocks : List Block) (id : ℕ) (b : Block) → block_of blocks id ≡ Some b → In b blocks × (b.id ≡ id)
block_of_in blocks id b h = let f = find_in (λ (c : Block). c.id == id) blocks b h in (f.1, eqb-true b.id id f.0)

pub live_word_in : (blocks : List Block) (id a : ℕ) → In a (live_words blocks id) → BlockWord blocks id a
live_word_in blocks id a i = live_word_of blocks id a (block_of blocks id) (block_of_in blocks id) i

-- a live white block with a word, or with its start
abbrev pub WhiteWord : Past → ℕ → ℕ → Type 0
WhiteWord past id a = (b : Block) × In b (world past).blocks × (b.id ≡ id) × Word (max 1 (b.size / 8)) b.start a × (is_white past b ≡ true)

white_some : (past : Past) (id a : ℕ) (b : Block) → In b (world past).blocks × (b.id ≡ id) → In a (if is_white past b then words_of b else []) → WhiteWord past id a
white_some past id a b g i =
    let P = λ (q : Bool). is_white past b ≡ q → In a (if q then words_of b else []) → WhiteWord past id a in
    elim (is_white past b) as P [
      | true ↦ λ w j. let k = word_in (b.size / 8) b.start a j in (b, g.0, g.1, (k.0, omega (arith, k.1), k.2), w)
      | false ↦ λ w j. absurd j
    ] refl i

white_word_of : (past : Past) (id a : ℕ) (o : Option Block) → ((b : Block) → o ≡ Some b → In b (world past).blocks × (b.id ≡ id))
    → In a (elim o as (λ _. List ℕ) [ None ↦ [] | Some b ↦ if is_white past b then words_of b else [] ]) → WhiteWord past id a
white_word_of past id a None f i = absurd i
white_word_of past id a (Some b) f i = white_some past id a b (f b refl) i

white_word_in : (past : Past) (id a : ℕ) → In a (white_words past id) → WhiteWord past id a
white_word_in past id a i = white_word_of past id a (block_of (world past).blocks id) (block_of_in (world past).blocks id) i

-- a live task with a word of its stack
abbrev pub StackWord : List Task → ℕ → ℕ → Type 0
StackWord tasks n a = (t : Task) × In t tasks × (t.number ≡ n) × Word 512 t.stack a

stack_word_of : (tasks : List Task) (n a : ℕ) (o : Option Task) → ((t : Task) → o ≡ Some t → In t tasks × (t.number ≡ n))
    → In a (elim o as (λ _. List ℕ) [ None ↦ [] | Some t ↦ stack_words t ]) → StackWord tasks n a
stack_word_of tasks n a None f i = absurd i
stack_word_of tasks n a (Some t) f i = let g = f t refl in (t, g.0, g.1, word_in 512 t.stack a i)

pub stack_word_in : (tasks : List Task) (n a : ℕ) → In a (stack_of tasks n) → StackWord tasks n a
stack_word_in tasks n a i =
    stack_word_of tasks n a (find (λ (t : Task). t.number == n) tasks)
    (λ t h. let f = find_in (λ (t : Task). t.number == n) tasks t h in (f.1, eqb-true t.number n f.0)) i

pub or_else_some : (x y : Option Place) (p : Place) → or_else x y ≡ Some p → (x ≡ Some p) ⊎ ((x ≡ None) × (y ≡ Some p))
or_else_some None y p e = inr (refl, e)
or_else_some (Some x) y p e = inl e

pub or_else_none : (x y : Option Place) → or_else x y ≡ None → (x ≡ None) × (y ≡ None)
or_else_none None y e = (refl, e)
or_else_none (Some x) y e = absurd (none_some x (sym e))

-- a place in a phase, of a holder, with a word
abbrev pub PlaceIn : ℕ → ℕ → Option ℕ → Place → Type 0
PlaceIn phase holder o place = (place.phase ≡ phase) × (place.holder ≡ holder) × (o ≡ Some place.word)

pub place_in_is : (phase holder : ℕ) (o : Option ℕ) (place : Place) → place_in phase holder o ≡ Some place → PlaceIn phase holder o place
place_in_is phase holder None place h = cc
place_in_is phase holder (Some a) place h =
    let same : (record { phase = phase; holder = holder; word = a }) ≡ place = cc in
    subst (λ (q : Place). PlaceIn phase holder (Some a) q) same (refl, refl, refl)

pub not_over : (p present : ℕ) (o : Option Place) (place : Place) → unless_over p present o ≡ Some place → (present ≤ p) × (o ≡ Some place)
not_over p present o place h =
    let P = λ (q : Bool). nat_le present p ≡ q → (if q then o else None) ≡ Some place → (present ≤ p) × (o ≡ Some place) in
    elim (nat_le present p) as P [
      | true ↦ λ e i. (leb-true present p e, i)
      | false ↦ λ e i. cc
    ] refl h

pub place_in_none : (phase holder : ℕ) (o : Option ℕ) → place_in phase holder o ≡ None → o ≡ None
place_in_none phase holder None e = refl
place_in_none phase holder (Some a) e = absurd (none_some _ (sym e))

-- a grey phase: the word of a live block, of the last holder behind the last word, or of a holder behind it in the queue
abbrev pub GreyFrom : ℕ → List ℕ → Option ScanLoad → Place → Type 0
GreyFrom phase queue None place = In place.holder queue
GreyFrom phase queue (Some l) place =
    ((l.place.phase ≡ phase) × (((place.holder ≡ l.place.holder) × (l.place.word < place.word)) ⊎ In place.holder (behind l.place.holder queue)))
    ⊎ ((l.place.phase ≡ phase → ⊥) × In place.holder queue)

abbrev pub GreyPlace : ℕ → List Block → List ℕ → Option ScanLoad → Place → Type 0
GreyPlace phase blocks queue last place = (place.phase ≡ phase) × BlockWord blocks place.holder place.word × GreyFrom phase queue last place

abbrev FirstIn : ℕ → List Block → List ℕ → Place → Type 0
FirstIn phase blocks queue place = (place.phase ≡ phase) × BlockWord blocks place.holder place.word × In place.holder queue

first_in_is : (phase : ℕ) (blocks : List Block) (queue : List ℕ) (place : Place) → first_in phase blocks queue ≡ Some place → FirstIn phase blocks queue place
first_in_is phase blocks [] place h = cc
first_in_is phase blocks (id ∷ queue) place h =
    elim (or_else_some (place_in phase id (first_word (live_words blocks id))) (first_in phase blocks queue) place h) [
      | inl here ↦
          let p = place_in_is phase id (first_word (live_words blocks id)) place here in
          (p.0, subst (λ n. BlockWord blocks n place.word) (sym p.1) (live_word_in blocks id place.word (first_word_in place.word (live_words blocks id) p.2)), inl p.1)
      | inr later ↦ let f = first_in_is phase blocks queue place later.1 in (f.0, f.1, inr f.2)
    ]

grey_some : (phase : ℕ) (past : Past) (queue : List ℕ) (l : ScanLoad) (place : Place) → grey_next phase past queue (Some l) ≡ Some place
    → GreyPlace phase (world past).blocks queue (Some l) place
grey_some phase past queue l place h =
    let blocks = (world past).blocks in
    let P = λ (q : Bool). eqb l.place.phase phase ≡ q → (if q then or_else
    (place_in phase l.place.holder (word_above l.place.word (live_words (world past).blocks l.place.holder)))
    (first_in phase (world past).blocks (behind l.place.holder queue))
    else first_in phase (world past).blocks queue) ≡ Some place → GreyPlace phase (world past).blocks queue (Some l) place in
    elim (eqb l.place.phase phase) as P [
      | true ↦ λ e i. elim (or_else_some (place_in phase l.place.holder (word_above l.place.word (live_words (world past).blocks l.place.holder))) (first_in phase (world past).blocks (behind l.place.holder queue)) place i) [
        | inl same ↦
            let p = place_in_is phase l.place.holder (word_above l.place.word (live_words (world past).blocks l.place.holder)) place same in
            let w = word_above_in l.place.word place.word (live_words (world past).blocks l.place.holder) p.2 in
            (p.0, subst (λ n. BlockWord (world past).blocks n place.word) (sym p.1) (live_word_in (world past).blocks l.place.holder place.word w.1), inl (eqb-true l.place.phase phase e, inl (p.1, w.0)))
        | inr behind' ↦
            let f = first_in_is phase (world past).blocks (behind l.place.holder queue) place behind'.1 in
            (f.0, f.1, inl (eqb-true l.place.phase phase e, inr f.2))
      ]
      | false ↦ λ e i. let f = first_in_is phase (world past).blocks queue place i in (f.0, f.1, inr (eqb-false l.place.phase phase e, f.2))
    ] refl h

pub grey_is : (phase : ℕ) (past : Past) (queue : List ℕ) (last : Option ScanLoad) (place : Place) → grey_next phase past queue last ≡ Some place
    → GreyPlace phase (world past).blocks queue last place
grey_is phase past queue None place h = first_in_is phase (world past).blocks queue place h
grey_is phase past queue (Some l) place h = grey_some phase past queue l place h

-- the first phase: a word of a live stack, of the last task behind the last word, or of a later task
abbrev pub StackFrom : Option ScanLoad → Place → Type 0
StackFrom None place = Unit {0}
StackFrom (Some l) place = ((place.holder ≡ l.place.holder) × (l.place.word < place.word)) ⊎ (l.place.holder < place.holder)

abbrev pub StackPlace : List Task → Option ScanLoad → Place → Type 0
StackPlace tasks last place = (place.phase ≡ 1) × StackWord tasks place.holder place.word × StackFrom last place

first_stack_is : (tasks : List Task) (place : Place) → first_stack tasks ≡ Some place → (place.phase ≡ 1) × StackWord tasks place.holder place.word
first_stack_is [] place h = cc
first_stack_is (t ∷ ts) place h =
    let same : (record { phase = 1; holder = t.number; word = t.stack }) ≡ place = cc in
    subst (λ (q : Place). (q.phase ≡ 1) × StackWord (t ∷ ts) q.holder q.word) same (refl, (t, inl refl, refl, (0, omega arith, omega arith)))

pub stack_is : (past : Past) (last : Option ScanLoad) (place : Place) → stack_next past last ≡ Some place → StackPlace (world past).tasks last place
stack_is past None place h = let f = first_stack_is (world past).tasks place h in (f.0, f.1, tt)
stack_is past (Some l) place h =
    let later = filter (λ (t : Task). nat_lt l.place.holder t.number) (world past).tasks in
    elim (or_else_some (place_in 1 l.place.holder (word_above l.place.word (stack_of (world past).tasks l.place.holder))) (first_stack later) place h) [
      | inl same ↦
          let p = place_in_is 1 l.place.holder (word_above l.place.word (stack_of (world past).tasks l.place.holder)) place same in
          let w = word_above_in l.place.word place.word (stack_of (world past).tasks l.place.holder) p.2 in
          (p.0, subst (λ n. StackWord (world past).tasks n place.word) (sym p.1) (stack_word_in (world past).tasks l.place.holder place.word w.1), inl (p.1, w.0))
      | inr next' ↦
          let f = first_stack_is later place next'.1 in
          let t = f.1.0 in
          let m = filter_in (λ (t : Task). nat_lt l.place.holder t.number) (world past).tasks t f.1.1 in
          (f.0, (t, m.1, f.1.2, f.1.3), inr (subst (λ n. l.place.holder < n) f.1.2 (ltb-true l.place.holder t.number m.0)))
    ]

-- the third phase: a word of a live white block, of the last one behind the last word, or of a later one
abbrev pub SumFrom : Option ScanLoad → Place → Type 0
SumFrom None place = Unit {0}
SumFrom (Some l) place =
    ((l.place.phase ≡ 3) × (((place.holder ≡ l.place.holder) × (l.place.word < place.word)) ⊎ (l.place.holder < place.holder)))
    ⊎ (l.place.phase ≡ 3 → ⊥)

abbrev pub SumPlace : Past → Option ScanLoad → Place → Type 0
SumPlace past last place = (place.phase ≡ 3) × WhiteWord past place.holder place.word × SumFrom last place

first_white_of : (past : Past) (place : Place) (o : Option Block) → ((b : Block) → o ≡ Some b → (is_white past b ≡ true) × In b (world past).blocks)
    → (elim o as (λ _. Option Place) [ None ↦ None | Some b ↦ Some (record { phase = 3; holder = b.id; word = b.start }) ]) ≡ Some place
    → (place.phase ≡ 3) × WhiteWord past place.holder place.word
first_white_of past place None f h = cc
first_white_of past place (Some b) f h =
    let same : (record { phase = 3; holder = b.id; word = b.start }) ≡ place = cc in
    let g = f b refl in
    subst (λ (q : Place). (q.phase ≡ 3) × WhiteWord past q.holder q.word) same (refl, (b, g.1, refl, (0, omega arith, omega arith), g.0))

first_white_is : (past : Past) (place : Place) → first_white past (world past).blocks ≡ Some place → (place.phase ≡ 3) × WhiteWord past place.holder place.word
first_white_is past place h = first_white_of past place (find (is_white past) (world past).blocks) (λ b s. find_in (is_white past) (world past).blocks b s) h

later_of : (past : Past) (id : ℕ) (place : Place) (o : Option Block) → ((b : Block) → o ≡ Some b → (is_white past b ≡ true) × In b (world past).blocks × (id < b.id))
    → (elim o as (λ _. Option Place) [ None ↦ None | Some b ↦ Some (record { phase = 3; holder = b.id; word = b.start }) ]) ≡ Some place
    → (place.phase ≡ 3) × WhiteWord past place.holder place.word × (id < place.holder)
later_of past id place None f h = cc
later_of past id place (Some b) f h =
    let same : (record { phase = 3; holder = b.id; word = b.start }) ≡ place = cc in
    let g = f b refl in
    subst (λ (q : Place). (q.phase ≡ 3) × WhiteWord past q.holder q.word × (id < q.holder)) same (refl, (b, g.1, refl, (0, omega arith, omega arith), g.0), g.2)

later_white_is : (past : Past) (id : ℕ) (place : Place) → first_white past (filter (λ (b : Block). nat_lt id b.id) (world past).blocks) ≡ Some place
    → (place.phase ≡ 3) × WhiteWord past place.holder place.word × (id < place.holder)
later_white_is past id place h =
    let later = filter (λ (b : Block). nat_lt id b.id) (world past).blocks in
    later_of past id place (find (is_white past) later)
    (λ b s. let f = find_in (is_white past) later b s in let m = filter_in (λ (b : Block). nat_lt id b.id) (world past).blocks b f.1 in (f.0, m.1, ltb-true id b.id m.0)) h

sum_some : (past : Past) (l : ScanLoad) (place : Place) → sum_next past (Some l) ≡ Some place → SumPlace past (Some l) place
sum_some past l place h =
    let P = λ (q : Bool). eqb l.place.phase 3 ≡ q → (if q then or_else
    (place_in 3 l.place.holder (word_above l.place.word (white_words past l.place.holder)))
    (first_white past (filter (λ (b : Block). nat_lt l.place.holder b.id) (world past).blocks))
    else first_white past (world past).blocks) ≡ Some place → SumPlace past (Some l) place in
    elim (eqb l.place.phase 3) as P [
      | true ↦ λ e i. elim (or_else_some (place_in 3 l.place.holder (word_above l.place.word (white_words past l.place.holder))) (first_white past (filter (λ (b : Block). nat_lt l.place.holder b.id) (world past).blocks)) place i) [
        | inl same ↦
            let p = place_in_is 3 l.place.holder (word_above l.place.word (white_words past l.place.holder)) place same in
            let w = word_above_in l.place.word place.word (white_words past l.place.holder) p.2 in
            (p.0, subst (λ n. WhiteWord past n place.word) (sym p.1) (white_word_in past l.place.holder place.word w.1), inl (eqb-true l.place.phase 3 e, inl (p.1, w.0)))
        | inr later ↦ let f = later_white_is past l.place.holder place later.1 in (f.0, f.1, inl (eqb-true l.place.phase 3 e, inr f.2))
      ]
      | false ↦ λ e i. let f = first_white_is past place i in (f.0, f.1, inr (eqb-false l.place.phase 3 e))
    ] refl h

pub sum_is : (past : Past) (last : Option ScanLoad) (place : Place) → sum_next past last ≡ Some place → SumPlace past last place
sum_is past None place h = let f = first_white_is past place h in (f.0, f.1, tt)
sum_is past (Some l) place h = sum_some past l place h

-- where the next load is made
abbrev pub NextPlace : Past → Option ScanLoad → Place → Type 0
NextPlace past last place =
    ((phase_of last ≤ 1) × StackPlace (world past).tasks last place)
    ⊎ (((phase_of last ≤ 2) × GreyPlace 2 (world past).blocks (first_queue past) last place)
    ⊎ (((phase_of last ≤ 3) × SumPlace past last place)
    ⊎ GreyPlace 4 (world past).blocks (second_queue past) last place))

pub if_place : (q : Bool) (o : Option Place) (place : Place) → (if q then o else None) ≡ Some place → (q ≡ true) × (o ≡ Some place)
if_place true o place h = (refl, h)
if_place false o place h = cc

after_is : (past : Past) (last : Option ScanLoad) (place : Place) → next_after past last ≡ Some place → NextPlace past last place
after_is past last place h =
    let a : Option Place = unless_over 1 (phase_of last) (if (world past).stacks then stack_next past last else None) in
    let b : Option Place = unless_over 2 (phase_of last) (grey_next 2 past (first_queue past) last) in
    let c : Option Place = unless_over 3 (phase_of last) (sum_next past last) in
    let d : Option Place = grey_next 4 past (second_queue past) last in
    elim (or_else_some a (or_else b (or_else c d)) place h) [
      | inl one ↦ let n = not_over 1 (phase_of last) (if (world past).stacks then stack_next past last else None) place one in inl (n.0, stack_is past last place (if_place (world past).stacks (stack_next past last) place n.1).1)
      | inr more ↦ elim (or_else_some b (or_else c d) place more.1) [
        | inl two ↦ let n = not_over 2 (phase_of last) (grey_next 2 past (first_queue past) last) place two in inr (inl (n.0, grey_is 2 past (first_queue past) last place n.1))
        | inr rest ↦ elim (or_else_some c d place rest.1) [
          | inl three ↦ let n = not_over 3 (phase_of last) (sum_next past last) place three in inr (inr (inl (n.0, sum_is past last place n.1)))
          | inr four ↦ inr (inr (inr (grey_is 4 past (second_queue past) last place four.1)))
        ]
      ]
    ]

pub next_is : (past : Past) (place : Place) → next past ≡ Some place → NextPlace past (last_load past) place
unfolding next
next_is past place h = after_is past (last_load past) place h
