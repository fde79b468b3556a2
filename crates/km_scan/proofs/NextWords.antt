use Rattle.std.proofs.Common.{◌≡◌, ℕ, zero, suc, ◌+◌, ◌*◌, ◌/◌, ◌<◌, ◌≤◌, Bool, true, false, cond, leb, ltb, List, [], ◌∷◌, filter, Option, Some, None, if◌then◌else◌, refl, sym, ap, ◌∙◌, subst, arith}
use Rattle.std.specs.Prelude.{find, ◌==◌}
use Rattle.std.specs.List.{All}
use Rattle.std.proofs.lemmas.List.Elements.{All-filter, All-head, All-map}
use Rattle.km_model.specs.Blocks.{Block, block_of, is_scanned, scanned_words, words_of}
use Rattle.km_model.specs.Memory.{words_from}
use Rattle.km_model.specs.Past.{Place}
use Rattle.km_model.specs.Scan.{first_in, first_stack, first_word, live_words, or_else, place_in, stack_of, unless_over, word_above}
use Rattle.km_model.specs.Tasks.{Task, stack_words}
use Rattle.km_state.specs.State as state
use Rattle.km_state.specs.State.{Scanning, State, Tracked, blocks_in, is_white_now, tracked_where}
use Rattle.km_state.specs.StateNext.{first_white_in, grey_next_in, next_in, phase_at, stack_next_in, sum_next_in, white_behind, white_words_in}
use Rattle.km_scan.proofs.Words.{found_all}
use Rattle.km_scan.specs.Stand.{EachStackWordPasses, EachWordPasses, IsWordOf}

-- the word of the next load is one of a live block or of the stack of a live task

abbrev HasEachWord : (ℕ → Type 0) → Block → Type 0
HasEachWord P b = (8 ≤ b.size) × ((a : ℕ) → IsWordOf b a → P a)

abbrev HasEachStackWord : (ℕ → Type 0) → Task → Type 0
HasEachStackWord P t = (i : ℕ) → i < 512 → P (t.stack + 8 * i)

found_word : (P : ℕ → Type 0) (test scanned : ℕ → Bool) (n s a : ℕ) → ((i : ℕ) → i < n → P (s + 8 * i)) → find test (filter scanned (words_from n s)) ≡ Some a → P a
found_word P test scanned zero s a each e = absurd (let z : ⊥ = cc in z)
found_word P test scanned (suc n) s a each e =
    elim (scanned s) as (λ b. find test (cond b (s ∷ filter scanned (words_from n (s + 8))) (filter scanned (words_from n (s + 8)))) ≡ Some a → P a) [
      | true ↦ λ f.
          elim (test s) as (λ b. cond b (Some s) (find test (filter scanned (words_from n (s + 8)))) ≡ Some a → P a) [
            | true ↦ λ g. let same : s ≡ a = cc in subst P same (subst P (let z : s + 8 * 0 ≡ s = omega arith in z) (each 0 (omega arith)))
            | false ↦ λ g. found_word P test scanned n (s + 8) a later g
          ] f
      | false ↦ λ f. found_word P test scanned n (s + 8) a later f
    ] e
  where
    later : (i : ℕ) → i < n → P (s + 8 + 8 * i)
    later i lt = subst P (let z : s + 8 * (i + 1) ≡ s + 8 + 8 * i = omega arith in z) (each (i + 1) (omega (arith, lt)))

plain_word : (P : ℕ → Type 0) (test : ℕ → Bool) (n s a : ℕ) → ((i : ℕ) → i < n → P (s + 8 * i)) → find test (words_from n s) ≡ Some a → P a
plain_word P test n s a each e = found_word P test (λ _. true) n s a each (ap (find test) (all n s) ∙ e)
  where
    all : (n s : ℕ) → filter (λ _. true) (words_from n s) ≡ words_from n s
    all zero s = refl
    all (suc n) s = ap (λ ws. s ∷ ws) (all n (s + 8))

-- places
place_word : (phase holder : ℕ) (o : Option ℕ) (p : Place) → place_in phase holder o ≡ Some p → o ≡ Some p.word
place_word phase holder None p e = absurd (let z : ⊥ = cc in z)
place_word phase holder (Some a) p e = let same : record { phase = phase; holder = holder; word = a } ≡ p = cc in ap (λ (q : Place). Some q.word) same

either : (P : ℕ → Type 0) (a b : Option Place) (p : Place) → (a ≡ Some p → P p.word) → (b ≡ Some p → P p.word) → or_else a b ≡ Some p → P p.word
either P None b p f g e = g e
either P (Some q) b p f g e = f e

unless : (P : ℕ → Type 0) (c : Bool) (o : Option Place) (p : Place) → (o ≡ Some p → P p.word) → (if c then o else None) ≡ Some p → P p.word
unless P true o p f e = f e
unless P false o p f e = absurd (let z : ⊥ = cc in z)

otherwise : (P : ℕ → Type 0) (c : Bool) (a b : Option Place) (p : Place) → (a ≡ Some p → P p.word) → (b ≡ Some p → P p.word) → (if c then a else b) ≡ Some p → P p.word
otherwise P true a b p f g e = f e
otherwise P false a b p f g e = g e

-- stacks
stack_word : (P : ℕ → Type 0) (tasks : List Task) (n w a : ℕ) → All (HasEachStackWord P) tasks → word_above w (stack_of tasks n) ≡ Some a → P a
stack_word P tasks n w a all e = on (find (λ (t : Task). t.number == n) tasks) refl e
  where
    on : (o : Option Task) → find (λ (t : Task). t.number == n) tasks ≡ o → word_above w (elim o as (λ _. List ℕ) [ None ↦ [] | Some t ↦ stack_words t ]) ≡ Some a → P a
    on None f g = absurd (let z : ⊥ = cc in z)
    on (Some t) f g = plain_word P (ltb w) 512 t.stack a (found_all (HasEachStackWord P) (λ (u : Task). u.number == n) tasks t all f) g

start_word : (P : ℕ → Type 0) (tasks : List Task) (p : Place) → All (HasEachStackWord P) tasks → first_stack tasks ≡ Some p → P p.word
start_word P [] p all e = absurd (let z : ⊥ = cc in z)
start_word P (t ∷ tasks) p all e =
    let same : record { phase = 1; holder = t.number; word = t.stack } ≡ p = cc in
    subst (λ (q : Place). P q.word) same (subst P (let z : t.stack + 8 * 0 ≡ t.stack = omega arith in z) (All-head (HasEachStackWord P) t tasks all 0 (omega arith)))

stacks_word : (P : ℕ → Type 0) (tasks : List Task) (cursor : state.Cursor) (p : Place) → All (HasEachStackWord P) tasks → stack_next_in tasks cursor ≡ Some p → P p.word
stacks_word P tasks state.Start p all e = start_word P tasks p all e
stacks_word P tasks (state.Last q) p all e =
    either P (place_in 1 q.holder (word_above q.word (stack_of tasks q.holder))) (first_stack (filter (λ (t : Task). ltb q.holder t.number) tasks)) p
    (λ f. stack_word P tasks q.holder q.word p.word all (place_word 1 q.holder (word_above q.word (stack_of tasks q.holder)) p f))
    (λ f. start_word P (filter (λ (t : Task). ltb q.holder t.number) tasks) p (All-filter (λ (t : Task). ltb q.holder t.number) (HasEachStackWord P) tasks all) f) e
stacks_word P tasks (state.Behind phase id) p all e = start_word P tasks p all e

-- blocks
each_word : (P : ℕ → Type 0) (b : Block) → HasEachWord P b → (i : ℕ) → i < b.size / 8 → P (b.start + 8 * i)
each_word P b h i lt = h.1 (b.start + 8 * i) (i, lt, refl)

held_word : (P : ℕ → Type 0) (test : ℕ → Bool) (blocks : List Block) (id a : ℕ) → All (HasEachWord P) blocks → find test (live_words blocks id) ≡ Some a → P a
held_word P test blocks id a all e = on (block_of blocks id) refl e
  where
    on : (o : Option Block) → block_of blocks id ≡ o → find test (elim o as (λ _. List ℕ) [ None ↦ [] | Some b ↦ scanned_words b ]) ≡ Some a → P a
    on None f g = absurd (let z : ⊥ = cc in z)
    on (Some b) f g = found_word P test (is_scanned b) (b.size / 8) b.start a (each_word P b (found_all (HasEachWord P) (λ (c : Block). c.id == id) blocks b all f)) g

-- the first word is found by a test that all pass
first_found : (ws : List ℕ) → first_word ws ≡ find (λ _. true) ws
first_found [] = refl
first_found (w ∷ ws) = refl

queue_word : (P : ℕ → Type 0) (phase : ℕ) (blocks : List Block) (queue : List ℕ) (p : Place) → All (HasEachWord P) blocks → first_in phase blocks queue ≡ Some p → P p.word
queue_word P phase blocks [] p all e = absurd (let z : ⊥ = cc in z)
queue_word P phase blocks (id ∷ queue) p all e =
    either P (place_in phase id (first_word (live_words blocks id))) (first_in phase blocks queue) p
    (λ f. held_word P (λ _. true) blocks id p.word all (sym (first_found (live_words blocks id)) ∙ place_word phase id (first_word (live_words blocks id)) p f))
    (λ f. queue_word P phase blocks queue p all f) e

grey_word : (P : ℕ → Type 0) (phase : ℕ) (blocks : List Block) (queue : List ℕ) (cursor : state.Cursor) (p : Place) → All (HasEachWord P) blocks → grey_next_in phase blocks queue cursor ≡ Some p → P p.word
grey_word P phase blocks queue state.Start p all e = queue_word P phase blocks queue p all e
grey_word P phase blocks queue (state.Last q) p all e =
    otherwise P (q.phase == phase) (or_else (place_in phase q.holder (word_above q.word (live_words blocks q.holder))) (first_in phase blocks queue)) (first_in phase blocks queue) p
    (either P (place_in phase q.holder (word_above q.word (live_words blocks q.holder))) (first_in phase blocks queue) p
    (λ f. held_word P (ltb q.word) blocks q.holder p.word all (place_word phase q.holder (word_above q.word (live_words blocks q.holder)) p f))
    (λ f. queue_word P phase blocks queue p all f))
    (λ f. queue_word P phase blocks queue p all f) e
grey_word P phase blocks queue (state.Behind m id) p all e = queue_word P phase blocks queue p all e

white_word : (P : ℕ → Type 0) (ts : List Tracked) (p : Place) → All (λ (u : Tracked). HasEachWord P u.block) ts → first_white_in ts ≡ Some p → P p.word
white_word P ts p all e = on (find is_white_now ts) refl e
  where
    on : (o : Option Tracked) → find is_white_now ts ≡ o → (elim o as (λ _. Option Place) [ None ↦ None | Some t ↦ Some (record { phase = 3; holder = t.block.id; word = t.block.start }) ]) ≡ Some p → P p.word
    on None f g = absurd (let z : ⊥ = cc in z)
    on (Some t) f g =
        let h = found_all (λ (u : Tracked). HasEachWord P u.block) is_white_now ts t all f in
        let size = h.0 in
        let same : record { phase = 3; holder = t.block.id; word = t.block.start } ≡ p = cc in
        subst (λ (q : Place). P q.word) same (subst P (let z : t.block.start + 8 * 0 ≡ t.block.start = omega arith in z) (each_word P t.block h 0 (omega (arith, size))))

summed_word : (P : ℕ → Type 0) (ts : List Tracked) (id w a : ℕ) → All (λ (u : Tracked). HasEachWord P u.block) ts → word_above w (white_words_in ts id) ≡ Some a → P a
summed_word P ts id w a all e = on (tracked_where (λ (b : Block). b.id == id) ts) refl e
  where
    white : (b : Bool) (t : Tracked) → HasEachWord P t.block → word_above w (if b then words_of t.block else []) ≡ Some a → P a
    white true t h g = plain_word P (ltb w) (t.block.size / 8) t.block.start a (each_word P t.block h) g
    white false t h g = absurd (let z : ⊥ = cc in z)

    on : (o : Option Tracked) → tracked_where (λ (b : Block). b.id == id) ts ≡ o → word_above w (elim o as (λ _. List ℕ) [ None ↦ [] | Some t ↦ if is_white_now t then words_of t.block else [] ]) ≡ Some a → P a
    on None f g = absurd (let z : ⊥ = cc in z)
    on (Some t) f g = white (is_white_now t) t (found_all (λ (u : Tracked). HasEachWord P u.block) (λ (u : Tracked). u.block.id == id) ts t all f) g

behind_word : (P : ℕ → Type 0) (ts : List Tracked) (id : ℕ) (p : Place) → All (λ (u : Tracked). HasEachWord P u.block) ts → white_behind id ts ≡ Some p → P p.word
behind_word P ts id p all e = white_word P (filter (λ (t : Tracked). ltb id t.block.id) ts) p (All-filter (λ (t : Tracked). ltb id t.block.id) (λ (u : Tracked). HasEachWord P u.block) ts all) e

sums_word : (P : ℕ → Type 0) (ts : List Tracked) (cursor : state.Cursor) (p : Place) → All (λ (u : Tracked). HasEachWord P u.block) ts → sum_next_in ts cursor ≡ Some p → P p.word
sums_word P ts state.Start p all e = white_word P ts p all e
sums_word P ts (state.Last q) p all e =
    otherwise P (q.phase == 3) (or_else (place_in 3 q.holder (word_above q.word (white_words_in ts q.holder))) (white_behind q.holder ts)) (first_white_in ts) p
    (either P (place_in 3 q.holder (word_above q.word (white_words_in ts q.holder))) (white_behind q.holder ts) p
    (λ f. summed_word P ts q.holder q.word p.word all (place_word 3 q.holder (word_above q.word (white_words_in ts q.holder)) p f))
    (λ f. behind_word P ts q.holder p all f))
    (λ f. white_word P ts p all f) e
sums_word P ts (state.Behind phase id) p all e = otherwise P (phase == 3) (white_behind id ts) (first_white_in ts) p (λ f. behind_word P ts id p all f) (λ f. white_word P ts p all f) e

next_word_has : (P : ℕ → Type 0) (s : State) (c : Scanning) (p : Place) → All (λ (u : Tracked). HasEachWord P u.block) s.tracked → All (HasEachStackWord P) s.tasks → next_in s c ≡ Some p → P p.word
next_word_has P s c p blocks stacks e =
    let plain = All-map (HasEachWord P) (λ (u : Tracked). u.block) s.tracked blocks in
    let one = if s.stacks then stack_next_in s.tasks c.cursor else None in
    let two = grey_next_in 2 (blocks_in s.tracked) c.queue c.cursor in
    let three = sum_next_in s.tracked c.cursor in
    let four = grey_next_in 4 (blocks_in s.tracked) c.queue c.cursor in
    let last = if leb (phase_at c.cursor) 2 then None else four in
    either P (unless_over 1 (phase_at c.cursor) one) (or_else (unless_over 2 (phase_at c.cursor) two) (or_else (unless_over 3 (phase_at c.cursor) three) last)) p
    (unless P (leb (phase_at c.cursor) 1) one p (unless P s.stacks (stack_next_in s.tasks c.cursor) p (stacks_word P s.tasks c.cursor p stacks)))
    (either P (unless_over 2 (phase_at c.cursor) two) (or_else (unless_over 3 (phase_at c.cursor) three) last) p
    (unless P (leb (phase_at c.cursor) 2) two p (grey_word P 2 (blocks_in s.tracked) c.queue c.cursor p plain))
    (either P (unless_over 3 (phase_at c.cursor) three) last p
    (unless P (leb (phase_at c.cursor) 3) three p (sums_word P s.tracked c.cursor p blocks))
    (otherwise P (leb (phase_at c.cursor) 2) None four p (λ f. absurd (let z : ⊥ = cc in z)) (grey_word P 4 (blocks_in s.tracked) c.queue c.cursor p plain)))) e

pub next_passes : (test : ℕ → Bool) (s : State) (c : Scanning) (p : Place) → All (λ (u : Tracked). EachWordPasses test u.block) s.tracked → All (EachStackWordPasses test) s.tasks → next_in s c ≡ Some p → test p.word ≡ true
next_passes test s c p blocks stacks e = next_word_has (λ a. test a ≡ true) s c p blocks stacks e
