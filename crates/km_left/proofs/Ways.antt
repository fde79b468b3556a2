-- Where the next load of a history is, in the words of the state.
use Rattle.std.proofs.Common.{◌≡◌, ℕ, ◌+◌, ◌/◌, ◌<◌, ◌≤◌, Bool, true, false, ◌==◌, nat_lt, List, map, filter, Option, Some, None, if◌then◌else◌, refl, sym, ap, ◌∙◌, subst, arith, ◌⊎◌, inl, inr, ltb-true}
use Rattle.std.proofs.lemmas.Bool.{cases_order}
use Rattle.km_model.specs.Blocks.{Block, is_among}
use Rattle.km_model.specs.Tasks.{Task}
use Rattle.km_model.specs.Past.{Past, Place, ScanLoad, world}
use Rattle.km_model.specs.Scan.{phase_of, behind, first_queue, second_queue}
use Rattle.km_model.proofs.Cases.{elim_false}
use Rattle.km_model.proofs.Lists.{in_among}
use Rattle.km_model.proofs.Places.{Word, BlockWord, WhiteWord, StackWord, StackFrom, SumFrom, GreyFrom, NextPlace}
use Rattle.km_state.specs.State.{Tracked, Cursor, Start, Last, Behind, Scanning}
use Rattle.km_state.specs.StateNext.{phase_at, is_at}
use Rattle.km_state.specs.StandsFor.{is_live, left_of, cursor_at, tracked}
use Rattle.km_state.proofs.NextLaws.{Staged}
use Rattle.km_state.proofs.QueueLaws.{left_2, left_3, left_4}
use Rattle.km_laws.specs.Placed.{Words}
use Rattle.km_laws.proofs.Lists.{In, in_map, map_in, in_filter, Rising, rising_unique}
use Rattle.km_left.specs.LeftIn.{is_ahead}
use Rattle.km_left.proofs.Runs.{Comes, ComesTo, ahead_low, ahead_later, at_from}
use Rattle.km_left.proofs.Loads.{blocks_numbered, stacks_numbered, Holds, Way}

-- the cursor is the last load, or behind its block that is gone
abbrev pub CursorIs : List Block → ScanLoad → Cursor → Type 0
CursorIs bs l c = (c ≡ Last l.place) ⊎ ((c ≡ Behind l.place.phase l.place.holder) × (1 < l.place.phase) × (is_live bs l.place.holder ≡ false))

pub cursor_is : (bs : List Block) (l : ScanLoad) → CursorIs bs l (cursor_at bs (Some l))
cursor_is bs l =
    elim (nat_lt 1 l.place.phase) as (λ q. nat_lt 1 l.place.phase ≡ q → CursorIs bs l (if q then (if is_live bs l.place.holder then Last l.place else Behind l.place.phase l.place.holder) else Last l.place)) [
      | true ↦ λ e. elim (is_live bs l.place.holder) as (λ r. is_live bs l.place.holder ≡ r → CursorIs bs l (if r then Last l.place else Behind l.place.phase l.place.holder)) [
        | true ↦ λ _. inl refl
        | false ↦ λ f. inr (refl, ltb-true 1 l.place.phase e, f)
      ] refl
      | false ↦ λ e. inl refl
    ] refl

pub phase_is : (bs : List Block) (last : Option ScanLoad) → phase_at (cursor_at bs last) ≡ phase_of last
phase_is bs None = refl
phase_is bs (Some l) = elim (cursor_is bs l) [ inl e ↦ ap phase_at e | inr e ↦ ap phase_at e.0 ]

-- by how much a load lowers what is left
abbrev pub Cost : Cursor → Place → ℕ
Cost c place = if is_at place.phase place.holder c then 1 else 2

cost_most : (c : Cursor) (place : Place) → Cost c place ≤ 2
cost_most c place = elim (is_at place.phase place.holder c) as (λ q. (if q then 1 else 2) ≤ 2) [ true ↦ omega arith | false ↦ omega arith ]

-- a load goes on with the holder of the last one
goes_on : (ahead : Bool) (bs : List Block) (l : ScanLoad) (place : Place) (q : ℕ) → l.place.phase ≡ q → place.phase ≡ q → place.holder ≡ l.place.holder → l.place.word < place.word
    → cursor_at bs (Some l) ≡ Last l.place → Comes ahead (is_at q place.holder (cursor_at bs (Some l))) (cursor_at bs (Some l)) place (Cost (cursor_at bs (Some l)) place)
goes_on ahead bs l place q e f same lt last =
    let here = at_from q place.holder l.place e (sym same) in
    let cost : Cost (Last l.place) place ≤ 1 = subst (λ r. (if r then 1 else 2) ≤ 1) (sym (at_from place.phase place.holder l.place (e ∙ sym f) (sym same))) (omega arith) in
    subst (λ c. Comes ahead (is_at q place.holder c) c place (Cost c place)) (sym last) (inr (here, lt, cost))

-- the phase comes to a later holder
comes_later : (q : ℕ) (bs : List Block) (l : ScanLoad) (place : Place) → l.place.phase ≡ q → l.place.holder < place.holder
    → ComesTo q (cursor_at bs (Some l)) place (Cost (cursor_at bs (Some l)) place)
comes_later q bs l place e lt =
    let later = ahead_later q place.holder l.place.phase l.place.holder e lt in
    inl (
      elim (cursor_is bs l) [
        | inl c ↦ ap (is_ahead q place.holder) c ∙ later
        | inr c ↦ ap (is_ahead q place.holder) c.0 ∙ later
      ],
      cost_most (cursor_at bs (Some l)) place,
    )

-- the holder of a place, among blocks with different ids
block_held : (p : Past) (bs : List Block) (high : ℕ) (place : Place) → Rising (λ (b : Block). b.id) 0 bs high → BlockWord bs place.holder place.word → Holds blocks_numbered (map (tracked p) bs) place
block_held p bs high place r w = (
  (λ t i same.
      let o = in_map (tracked p) bs t i in
      let one : w.0 ≡ t.block = rising_unique (λ (b : Block). b.id) bs 0 high w.0 o.0 r w.1 o.1 (w.2 ∙ sym same ∙ ap (λ (x : Tracked). x.block.id) o.2) ∙ sym (ap (λ (x : Tracked). x.block) o.2) in
      subst (λ (b : Block). Word (b.size / 8) b.start place.word) one w.3),
  tracked p w.0,
  map_in (tracked p) bs w.0 w.1,
  w.2,
)

stack_held : (ts : List Task) (high : ℕ) (place : Place) → Rising (λ (t : Task). t.number) 0 ts high → StackWord ts place.holder place.word → Holds stacks_numbered ts place
stack_held ts high place r w = (
  (λ t i same. subst (λ (u : Task). Word 512 u.stack place.word) (rising_unique (λ (t : Task). t.number) ts 0 high w.0 t r w.1 i (w.2 ∙ sym same)) w.3),
  w.0,
  w.1,
  w.2,
)

-- a white block has a word, since it is whole words
white_block : (p : Past) (id a : ℕ) → ((b : Block) → In b (world p).blocks → Words b.size) → WhiteWord p id a → BlockWord (world p).blocks id a
white_block p id a whole w =
    let size = whole w.0 w.1 in let n = size.0 in let is = size.1 in
    (w.0, w.1, w.2, (w.3.0, (let low = w.3.1 in omega (arith, low, is)), w.3.2))

live_block : (bs : List Block) (id a : ℕ) → ((b : Block) → In b bs → is_live bs b.id ≡ true) → BlockWord bs id a → is_live bs id ≡ true
live_block bs id a live w = subst (λ n. is_live bs n ≡ true) w.2 (live w.0 w.1)

below : (n m : ℕ) → n ≤ m → (n ≡ m → ⊥) → n < m
below n m le other = elim (cases_order n m) [ inl same ↦ absurd (other same) | inr k ↦ elim k [ inl lt ↦ lt | inr more ↦ absurd (omega (arith, le, more)) ] ]

-- the phases that go by numbers
stack_comes : (bs : List Block) (last : Option ScanLoad) (place : Place) → phase_of last ≤ 1 → 1 ≤ phase_of last → place.phase ≡ 1 → StackFrom last place
    → ComesTo 1 (cursor_at bs last) place (Cost (cursor_at bs last) place)
stack_comes bs None place le low e from = inl (refl, cost_most Start place)
stack_comes bs (Some l) place le low e (inr lt) = comes_later 1 bs l place (omega (arith, le, low)) lt
stack_comes bs (Some l) place le low e (inl same) =
    goes_on (is_ahead 1 place.holder (cursor_at bs (Some l))) bs l place 1 (omega (arith, le, low)) e same.0 same.1
    (elim (cursor_is bs l) [ inl c ↦ c | inr c ↦ absurd (let high = c.1 in omega (arith, high, le)) ])

alive : (bs : List Block) (l : ScanLoad) (holder : ℕ) → is_live bs holder ≡ true → holder ≡ l.place.holder → cursor_at bs (Some l) ≡ Last l.place
alive bs l holder live same =
    elim (cursor_is bs l) [ inl c ↦ c | inr c ↦ absurd (elim_false (sym c.2 ∙ subst (λ n. is_live bs n ≡ true) same live)) ]

sum_comes : (bs : List Block) (last : Option ScanLoad) (place : Place) → phase_of last ≤ 3 → place.phase ≡ 3 → is_live bs place.holder ≡ true → SumFrom last place
    → ComesTo 3 (cursor_at bs last) place (Cost (cursor_at bs last) place)
sum_comes bs None place le e live from = inl (refl, cost_most Start place)
sum_comes bs (Some l) place le e live (inl on) =
    elim on.1 [
      | inl same ↦ goes_on (is_ahead 3 place.holder (cursor_at bs (Some l))) bs l place 3 on.0 e same.0 same.1 (alive bs l place.holder live same.0)
      | inr lt ↦ comes_later 3 bs l place on.0 lt
    ]
sum_comes bs (Some l) place le e live (inr other) =
    let low = below l.place.phase 3 le other in
    inl (ahead_low 3 place.holder (cursor_at bs (Some l)) (let same = phase_is bs (Some l) in omega (arith, same, low)), cost_most (cursor_at bs (Some l)) place)

-- the grey passes
abbrev queue_of : Past → Option ScanLoad → List ℕ
queue_of p last = filter (is_live (world p).blocks) (left_of (first_queue p) (second_queue p) last)

queued : (p : Past) (last : Option ScanLoad) (place : Place) (held : Bool) (q : List ℕ) → is_live (world p).blocks place.holder ≡ true → left_of (first_queue p) (second_queue p) last ≡ q → In place.holder q
    → Comes (is_among place.holder (queue_of p last)) held (cursor_at (world p).blocks last) place (Cost (cursor_at (world p).blocks last) place)
queued p last place held q live left i =
    inl (
      in_among place.holder (queue_of p last) (in_filter (is_live (world p).blocks) (left_of (first_queue p) (second_queue p) last) place.holder (subst (In place.holder) (sym left) i) live),
      cost_most (cursor_at (world p).blocks last) place,
    )

left_1 : (f s : List ℕ) (l : ScanLoad) → l.place.phase ≡ 1 → left_of f s (Some l) ≡ f
left_1 f s l e = rw (ap (λ k. k == 1) e) refl

abbrev GreyComes : Past → Option ScanLoad → Place → ℕ → Type 0
GreyComes p last place q =
    Comes (is_among place.holder (queue_of p last)) (is_at q place.holder (cursor_at (world p).blocks last)) (cursor_at (world p).blocks last) place (Cost (cursor_at (world p).blocks last) place)

-- the last load was of the same pass
grey_on : (p : Past) (l : ScanLoad) (place : Place) (q : ℕ) (queue : List ℕ) → l.place.phase ≡ q → place.phase ≡ q → is_live (world p).blocks place.holder ≡ true
    → left_of (first_queue p) (second_queue p) (Some l) ≡ behind l.place.holder queue → ((place.holder ≡ l.place.holder) × (l.place.word < place.word)) ⊎ In place.holder (behind l.place.holder queue) → GreyComes p (Some l) place q
grey_on p l place q queue e f live left (inl same) = goes_on (is_among place.holder (queue_of p (Some l))) (world p).blocks l place q e f same.0 same.1 (alive (world p).blocks l place.holder live same.0)
grey_on p l place q queue e f live left (inr i) = queued p (Some l) place (is_at q place.holder (cursor_at (world p).blocks (Some l))) (behind l.place.holder queue) live left i

first_comes : (p : Past) (last : Option ScanLoad) (place : Place) → phase_of last ≤ 2 → 1 ≤ phase_of last → place.phase ≡ 2 → is_live (world p).blocks place.holder ≡ true → GreyFrom 2 (first_queue p) last place
    → GreyComes p last place 2
first_comes p None place le low e live i = queued p None place (is_at 2 place.holder Start) (first_queue p) live refl i
first_comes p (Some l) place le low e live (inl on) = grey_on p l place 2 (first_queue p) on.0 e live (left_2 (first_queue p) (second_queue p) l on.0) on.1
first_comes p (Some l) place le low e live (inr anew) =
    let one : l.place.phase ≡ 1 = (let less = below l.place.phase 2 le anew.0 in omega (arith, less, low)) in
    queued p (Some l) place (is_at 2 place.holder (cursor_at (world p).blocks (Some l))) (first_queue p) live (left_1 (first_queue p) (second_queue p) l one) anew.1

second_comes : (p : Past) (last : Option ScanLoad) (place : Place) → Staged p last → place.phase ≡ 4 → is_live (world p).blocks place.holder ≡ true → GreyFrom 4 (second_queue p) last place
    → GreyComes p last place 4
second_comes p None place none e live i = absurd (subst (In place.holder) none i)
second_comes p (Some l) place staged e live (inl on) = grey_on p l place 4 (second_queue p) on.0 e live (left_4 (first_queue p) (second_queue p) l on.0) on.1
second_comes p (Some l) place (inl k) e live (inr anew) = absurd (subst (In place.holder) k.1 anew.1)
second_comes p (Some l) place (inr (inl k)) e live (inr anew) = absurd (subst (In place.holder) k.1 anew.1)
second_comes p (Some l) place (inr (inr (inl three))) e live (inr anew) =
    queued p (Some l) place (is_at 4 place.holder (cursor_at (world p).blocks (Some l))) (second_queue p) live (left_3 (first_queue p) (second_queue p) l three) anew.1
second_comes p (Some l) place (inr (inr (inr four))) e live (inr anew) = absurd (anew.0 four)

-- what is known of what stands
pub record Ordered (p : Past) : Type 0 where
  pub blocks : Rising (λ (b : Block). b.id) 0 (world p).blocks (world p).registered
  pub tasks : Rising (λ (t : Task). t.number) 0 (world p).tasks ((world p).started + 1)
  pub live : (b : Block) → In b (world p).blocks → is_live (world p).blocks b.id ≡ true
  pub whole : (b : Block) → In b (world p).blocks → Words b.size

abbrev scanning_last : Past → Option ScanLoad → ℕ → Scanning
scanning_last p last sum = record { queue = queue_of p last; cursor = cursor_at (world p).blocks last; sum = sum }

abbrev WayOf : Past → Option ScanLoad → ℕ → Place → Type 0
WayOf p last sum place =
    (phase_at (cursor_at (world p).blocks last) ≤ place.phase)
    × Way (scanning_last p last sum) (map (tracked p) (world p).blocks) (world p).tasks place (Cost (cursor_at (world p).blocks last) place)

pub way : (p : Past) (last : Option ScanLoad) (sum : ℕ) (place : Place) → Ordered p → Staged p last → 1 ≤ phase_of last → phase_of last ≤ 4 → NextPlace p last place → WayOf p last sum place
way p last sum place o staged low high (inl n) =
    let same = phase_is (world p).blocks last in let le = n.0 in let e = n.1.0 in
    (omega (arith, same, le, e), inl (n.1.0, stack_comes (world p).blocks last place n.0 low n.1.0 n.1.2, stack_held (world p).tasks ((world p).started + 1) place o.tasks n.1.1))
way p last sum place o staged low high (inr (inl n)) =
    let same = phase_is (world p).blocks last in let le = n.0 in let e = n.1.0 in
    let live = live_block (world p).blocks place.holder place.word o.live n.1.1 in (
      omega (arith, same, le, e),
      inr (inr (
        inl n.1.0,
        subst (λ q. GreyComes p last place q) (sym n.1.0) (first_comes p last place n.0 low n.1.0 live n.1.2),
        block_held p (world p).blocks (world p).registered place o.blocks n.1.1,
      )),
    )
way p last sum place o staged low high (inr (inr (inl n))) =
    let same = phase_is (world p).blocks last in let le = n.0 in let e = n.1.0 in
    let word = white_block p place.holder place.word o.whole n.1.1 in
    let live = live_block (world p).blocks place.holder place.word o.live word in
    (omega (arith, same, le, e), inr (inl (n.1.0, sum_comes (world p).blocks last place n.0 n.1.0 live n.1.2, block_held p (world p).blocks (world p).registered place o.blocks word)))
way p last sum place o staged low high (inr (inr (inr n))) =
    let same = phase_is (world p).blocks last in let e = n.0 in
    let live = live_block (world p).blocks place.holder place.word o.live n.1 in (
      omega (arith, same, high, e),
      inr (inr (
        inr n.0,
        subst (λ q. GreyComes p last place q) (sym n.0) (second_comes p last place staged n.0 live n.2),
        block_held p (world p).blocks (world p).registered place o.blocks n.1,
      )),
    )
