use Rattle.std.proofs.Common.{◌≡◌, ℕ, ◌+◌, ◌≤◌, ◌<◌, ◌==◌, ◌⊎◌, inl, inr, Bool, true, false, ◌&&◌, ◌||◌, cond, List, [], ◌∷◌, ◌++◌, Option, Some, None, filter, map, refl, sym, ◌∙◌, ap, subst, arith, eq-eqb, ne_eqb, if◌then◌else◌, append_assoc}
use Rattle.std.proofs.lemmas.Bool.{cases_lt, lt-leb}
use Rattle.km_laws.proofs.Lists.{In, find_in, in_append_left, in_append_right, in_append_cases}
use Rattle.km_laws.proofs.Queues.{behind_grows, behind_end}
use Rattle.km_model.proofs.Ripe.{more_of, ripe_here, ripe_there}
use Rattle.km_model.proofs.Places.{newest, stack_is}
use Rattle.km_laws.proofs.Hits.{early, hits, IsPure, early_pure, tally_hits, IsApart, option_here}
use Rattle.km_laws.proofs.Counts.{IsCounted, counted_none, counted_fewer, counted_more}
use Rattle.km_laws.proofs.Next.{IsWaiting, IsReached, HolderQueued, GreyNext, grey_some, grey_none, IsStackWaiting, IsStackReached, TasksRise, stack_some, stack_none, StacksOver, QueueOver, in_stacks, in_queue, later, next_some}
use Rattle.km_model.specs.Memory.{words_from}
use Rattle.km_model.specs.Blocks.{Block, Black, AtLeast, block_of, needs, option_is, scanned_words}
use Rattle.km_model.specs.Past.{Past, Place, ScanLoad, world, loads, at_begin}
use Rattle.km_model.specs.Scan.{ripe_in, phase_of, stack_of, stack_next, live_words, scan_load, ripe_by_hit, first_of, last_word, differs, kept_sum, sum_step, sum_so_far, tally, next_after, behind}

-- the blocks that needed no reference at the begin
abbrev pub init_of : Past → List ℕ
init_of past = map (λ (b : Block). b.id) (filter (needs 0) (world (at_begin past)).blocks)

-- the first queue, by what it begins with
abbrev pub queue : List ℕ → List ScanLoad → List ℕ
queue init ls = init ++ ripe_in 1 2 ls

-- a word was loaded for a holder
abbrev pub WasLoaded : ℕ → ℕ → ℕ → List ScanLoad → Type 0
WasLoaded phase holder a ls = (l : ScanLoad) × In l ls × (l.place.phase ≡ phase) × (l.place.holder ≡ holder) × (l.place.word ≡ a)

pub loaded_more : (phase holder a : ℕ) (l : ScanLoad) (ls : List ScanLoad) → WasLoaded phase holder a ls → WasLoaded phase holder a (l ∷ ls)
loaded_more phase holder a l ls w = (w.0, inr w.1, w.2, w.3, w.4)

-- what holds at each moment of a scan, of the blocks and tasks that stand since its begin
pub record Inv (Stands : Block → Type 0) (Lives : ℕ → ℕ → Type 0) (init : List ℕ) (ls : List ScanLoad) : Type 0 where
  pub pure : phase_of (newest ls) ≤ 2 → IsPure ls
  pub queued : HolderQueued (queue init ls) (newest ls)
  pub counted : IsCounted Stands (early ls)
  pub ripe : (b : Block) (m : ℕ) → Stands b → b.minimum ≡ AtLeast m → m ≤ hits b.id (early ls) → In b.id (queue init ls)
  pub content : (b : Block) (a : ℕ) → Stands b → In b.id (queue init ls) → In a (scanned_words b)
      → WasLoaded 2 b.id a ls ⊎ IsWaiting (queue init ls) (newest ls) b.id a
  pub stacks : (n start a : ℕ) → Lives n start → In a (words_from 512 start)
      → WasLoaded 1 n a ls ⊎ IsStackWaiting (newest ls) n a

-- at the begin
pub inv_begin : (Stands : Block → Type 0) (Lives : ℕ → ℕ → Type 0) (init : List ℕ)
    → ((b : Block) → Stands b → b.minimum ≡ AtLeast 0 → In b.id init) → Inv Stands Lives init []
inv_begin Stands Lives init first = record {
  pure = λ _ l i. absurd i;
  queued = tt;
  counted = counted_none Stands;
  ripe = λ b m s e le. in_append_left init [] b.id (first b s (let none : m ≡ 0 = omega (arith, le) in e ∙ ap AtLeast none));
  content = λ b a s i j. inr tt;
  stacks = λ n start a s i. inr tt;
}

-- fewer stand later
pub inv_fewer : (Stands Fewer : Block → Type 0) (Lives Less : ℕ → ℕ → Type 0) (init : List ℕ) (ls : List ScanLoad)
    → ((b : Block) → Fewer b → Stands b) → ((n start : ℕ) → Less n start → Lives n start)
    → Inv Stands Lives init ls → Inv Fewer Less init ls
inv_fewer Stands Fewer Lives Less init ls weaker lesser v = record {
  pure = v.pure;
  queued = v.queued;
  counted = counted_fewer Stands Fewer (early ls) weaker v.counted;
  ripe = λ b m s e le. v.ripe b m (weaker b s) e le;
  content = λ b a s i j. v.content b a (weaker b s) i j;
  stacks = λ n start a s i. v.stacks n start a (lesser n start s) i;
}

-- whether a phase is one whose ripe blocks come to the first queue
abbrev is_first : ℕ → Bool
is_first phase = (phase == 1) || (phase == 2)

pub queue_first : (init : List ℕ) (l : ScanLoad) (ls : List ScanLoad) → is_first l.place.phase ≡ true → queue init (l ∷ ls) ≡ queue init ls ++ more_of l.ripe
queue_first init l ls e =
    ap (λ q. init ++ q) (ripe_here 1 2 l ls e) ∙ sym (append_assoc init (ripe_in 1 2 ls) (more_of l.ripe))

pub queue_late : (init : List ℕ) (l : ScanLoad) (ls : List ScanLoad) → is_first l.place.phase ≡ false → queue init (l ∷ ls) ≡ queue init ls
queue_late init l ls e = ap (λ q. init ++ q) (ripe_there 1 2 l ls e)

-- a load
module _ (past : Past) (place : Place) (value : ℕ) (Stands : Block → Type 0) (Lives : ℕ → ℕ → Type 0)
    (apart : IsApart (world past).blocks) (rise : TasksRise (world past).tasks)
    (there : (b : Block) → Stands b → block_of (world past).blocks b.id ≡ Some b)
    (live : (n start : ℕ) → Lives n start → (stack_of (world past).tasks n ≡ words_from 512 start) × ((world past).stacks ≡ true))
    (old : Inv Stands Lives (init_of past) (loads past)) where
  abbrev l : ScanLoad
  l = scan_load past place value

  abbrev ls : List ScanLoad
  ls = loads past

  abbrev q : List ℕ
  q = queue (init_of past) ls

  abbrev q' : List ℕ
  q' = queue (init_of past) (l ∷ ls)

  stands_in : (b : Block) → Stands b → In b (world past).blocks
  stands_in b s = (find_in (λ (c : Block). c.id == b.id) (world past).blocks b (there b s)).1

  in_words : (b : Block) (a : ℕ) → Stands b → In a (scanned_words b) → In a (live_words (world past).blocks b.id)
  in_words b a s i = subst (λ o. In a (elim o as (λ _. List ℕ) [ None ↦ [] | Some c ↦ scanned_words c ])) (sym (there b s)) i

  is_early_phase : (n : ℕ) → (n ≡ 1) ⊎ (n ≡ 2) → is_first n ≡ true
  is_early_phase n (inl e) = subst (λ m. is_first m ≡ true) (sym e) refl
  is_early_phase n (inr e) = subst (λ m. is_first m ≡ true) (sym e) refl

  is_late_phase : (n : ℕ) → 3 ≤ n → is_first n ≡ false
  is_late_phase n le = rw (ne_eqb n 1 (λ e. omega (arith, le, e)), ne_eqb n 2 (λ e. omega (arith, le, e))) refl

  none_changed : (place.phase == 3) ≡ false → l.changed ≡ None
  none_changed e = go (block_of (world past).blocks place.holder)
    where
      go : (o : Option Block) → (elim o as (λ _. Option ℕ) [
        | None ↦ None
        | Some b ↦ if place.phase == 3 && place.word == last_word b && differs (kept_sum past b) (sum_step (sum_so_far (loads past) b.id) value) then Some b.id else None
      ]) ≡ None
      go None = refl
      go (Some b) = rw e refl

  -- at a load of the first two phases
  module _ (first : (place.phase ≡ 1) ⊎ (place.phase ≡ 2)) (before : phase_of (newest ls) ≤ 2) where
    not_sum : (place.phase == 3) ≡ false
    not_sum = elim first [ inl e ↦ ne_eqb place.phase 3 (λ f. omega (arith, e, f)) | inr e ↦ ne_eqb place.phase 3 (λ f. omega (arith, e, f)) ]

    at_most_two : place.phase ≤ 2
    at_most_two = elim first [ inl e ↦ omega (arith, e) | inr e ↦ omega (arith, e) ]

    pure_first : IsPure (l ∷ ls)
    pure_first k (inl e) = subst (λ (x : ScanLoad). (x.place.phase ≤ 2) × (x.changed ≡ None)) (sym e) (at_most_two, none_changed not_sum)
    pure_first k (inr i) = old.pure before k i

    grows : q' ≡ q ++ more_of l.ripe
    grows = queue_first (init_of past) l ls (is_early_phase place.phase first)

    counted_first : IsCounted Stands (early (l ∷ ls))
    counted_first =
        subst (λ xs. IsCounted Stands xs) (sym (early_pure (l ∷ ls) pure_first))
        (counted_more past place value apart (old.pure before) not_sum Stands stands_in
        (subst (λ xs. IsCounted Stands xs) (early_pure ls (old.pure before)) old.counted))

    by_hit : (b : Block) (m : ℕ) → Stands b → b.minimum ≡ AtLeast m → l.hit ≡ Some b.id → m ≡ tally past b + 1 → l.ripe ≡ Some b.id
    by_hit b m s e hit is =
        subst (λ o. first_of o (ripe_by_hit past l.hit) ≡ Some b.id) (sym (none_changed not_sum))
        (subst (λ o. ripe_by_hit past o ≡ Some b.id) (sym hit)
        (subst (λ o. (elim o as (λ _. Option ℕ) [ None ↦ None | Some c ↦ if needs (tally past c + 1) c then Some b.id else None ]) ≡ Some b.id) (sym (there b s))
        (subst (λ x. (if (elim x as (λ _. Bool) [ Black ↦ false | AtLeast n ↦ n == (tally past b + 1) ]) then Some b.id else None) ≡ Some b.id) (sym e)
        (rw (eq-eqb m (tally past b + 1) is) refl))))

    ripe_first_phases : (b : Block) (m : ℕ) → Stands b → b.minimum ≡ AtLeast m → m ≤ hits b.id (early (l ∷ ls)) → In b.id q'
    ripe_first_phases b m s e le =
        subst (λ x. In b.id x) (sym grows)
        (elim (cases_lt (hits b.id ls) m) [
          | inr enough ↦ in_append_left q (more_of l.ripe) b.id (old.ripe b m s e (let same : hits b.id (early ls) ≡ hits b.id ls = ap (hits b.id) (early_pure ls (old.pure before)) in omega (arith, enough, same)))
          | inl lt ↦ in_append_right q (more_of l.ripe) b.id (now lt (option_is l.hit b.id) refl)
        ])
      where
        total_now : m ≤ hits b.id (l ∷ ls)
        total_now = let same : hits b.id (early (l ∷ ls)) ≡ hits b.id (l ∷ ls) = ap (hits b.id) (early_pure (l ∷ ls) pure_first) in omega (arith, le, same)

        now : hits b.id ls < m → (r : Bool) → option_is l.hit b.id ≡ r → In b.id (more_of l.ripe)
        now lt false f = absurd (let total : m ≤ cond false 1 0 + hits b.id ls = subst (λ x. m ≤ cond x 1 0 + hits b.id ls) f total_now in omega (arith, total, lt))
        now lt true f =
            let total : m ≤ cond true 1 0 + hits b.id ls = subst (λ x. m ≤ cond x 1 0 + hits b.id ls) f total_now in
            let same : tally past b ≡ hits b.id ls = tally_hits past b in
            let ripe : l.ripe ≡ Some b.id = by_hit b m s e (option_here l.hit b.id f) (omega (arith, total, lt, same)) in
            subst (λ o. In b.id (more_of o)) (sym ripe) (inl refl)

  -- by a load of the first phase
  inv_stacks : phase_of (newest ls) ≤ 1 → (world past).stacks ≡ true → stack_next past (newest ls) ≡ Some place → Inv Stands Lives (init_of past) (l ∷ ls)
  inv_stacks before on e =
      let one : place.phase ≡ 1 = (stack_is past (newest ls) place e).0 in
      record {
        pure = λ _. pure_first (inl one) (omega (arith, before));
        queued = λ two. absurd (omega (arith, one, two));
        counted = counted_first (inl one) (omega (arith, before));
        ripe = ripe_first_phases (inl one) (omega (arith, before));
        content = λ b a s i j. inr (inl (omega (arith, one)));
        stacks = λ n start a s i. elim (old.stacks n start a s i) [
          | inl w ↦ inl (loaded_more 1 n a l ls w)
          | inr waits ↦ reach n a one (stack_some past (newest ls) place rise e n a (subst (λ ws. In a ws) (sym (live n start s).0) i) waits)
        ];
      }
    where
      reach : (n a : ℕ) → place.phase ≡ 1 → IsStackReached place n a → WasLoaded 1 n a (l ∷ ls) ⊎ IsStackWaiting (Some l) n a
      reach n a one (inl lt) = inr (omega (arith, one), inl lt)
      reach n a one (inr (here)) = elim (cases_lt place.word a) [
        | inl lt ↦ inr (omega (arith, one), inr (here.0, lt))
        | inr le ↦ inl (l, inl refl, one, here.0, omega (arith, le, here.1))
      ]

  -- where the first phase is over, its words are loaded
  pub stacks_over : StacksOver past (newest ls) → (n start a : ℕ) → Lives n start → In a (words_from 512 start) → WasLoaded 1 n a ls
  stacks_over over n start a s i =
      elim (old.stacks n start a s i) [
        | inl w ↦ w
        | inr waits ↦ absurd (stack_none past (newest ls) n a (over (early_phase (newest ls) waits) (live n start s).1) (subst (λ ws. In a ws) (sym (live n start s).0) i) waits)
      ]
    where
      early_phase : (o : Option ScanLoad) → IsStackWaiting o n a → phase_of o ≤ 1
      early_phase None w = omega arith
      early_phase (Some k) w = w.0

  -- where the second phase is over, the scanned words of what is queued are loaded
  pub content_over : QueueOver past (newest ls) → (b : Block) (a : ℕ) → Stands b → In b.id q → In a (scanned_words b) → WasLoaded 2 b.id a ls
  content_over over b a s i j =
      elim (old.content b a s i j) [
        | inl w ↦ w
        | inr waits ↦ absurd (grey_none past q (newest ls) b.id a (over (early_phase (newest ls) waits)) i (in_words b a s j) waits)
      ]
    where
      early_phase : (o : Option ScanLoad) → IsWaiting q o b.id a → phase_of o ≤ 2
      early_phase None w = omega arith
      early_phase (Some k) w = elim w [ inl one ↦ omega (arith, one) | inr two ↦ omega (arith, two.0) ]

  -- by a load of the second phase
  inv_queue : StacksOver past (newest ls) → phase_of (newest ls) ≤ 2 → GreyNext (world past).blocks q place (newest ls) → Inv Stands Lives (init_of past) (l ∷ ls)
  inv_queue over before grey =
      let two : place.phase ≡ 2 = grey.phase_is in
      record {
        pure = λ _. pure_first (inr two) before;
        queued = λ _. subst (λ x. In place.holder x) (sym (grows (inr two) before)) (in_append_left q (more_of l.ripe) place.holder grey.member);
        counted = counted_first (inr two) before;
        ripe = ripe_first_phases (inr two) before;
        content = λ b a s i j. elim (in_append_cases q (more_of l.ripe) b.id (subst (λ x. In b.id x) (grows (inr two) before) i)) [
          | inl k ↦ elim (old.content b a s k j) [
            | inl w ↦ inl (loaded_more 2 b.id a l ls w)
            | inr waits ↦ reach b a two (grows (inr two) before) (grey.reached b.id a k (in_words b a s j) waits)
          ]
          | inr k ↦ inr (inr (two, inr (subst (λ x. In b.id (behind place.holder x)) (sym (grows (inr two) before)) (behind_end q (more_of l.ripe) place.holder b.id grey.member k))))
        ];
        stacks = λ n start a s i. inl (loaded_more 1 n a l ls (stacks_over over n start a s i));
      }
    where
      reach : (b : Block) (a : ℕ) → place.phase ≡ 2 → q' ≡ q ++ more_of l.ripe → IsReached q place b.id a → WasLoaded 2 b.id a (l ∷ ls) ⊎ IsWaiting q' (Some l) b.id a
      reach b a two e (inl here) = elim (cases_lt place.word a) [
        | inl lt ↦ inr (inr (two, inl (here.0, lt)))
        | inr le ↦ inl (l, inl refl, two, here.0, omega (arith, le, here.1))
      ]
      reach b a two e (inr further) = inr (inr (two, inr (subst (λ x. In b.id (behind place.holder x)) (sym e) (behind_grows q (more_of l.ripe) place.holder b.id further))))

  -- by a later load
  inv_later : StacksOver past (newest ls) → QueueOver past (newest ls) → 3 ≤ place.phase → Inv Stands Lives (init_of past) (l ∷ ls)
  inv_later over empty late =
      let same : early (l ∷ ls) ≡ early ls = rw (lt-leb place.phase 2 (omega (arith, late))) refl in
      let same_queue : q' ≡ q = queue_late (init_of past) l ls (is_late_phase place.phase late) in
      record {
        pure = λ two. absurd (omega (arith, late, two));
        queued = λ two. absurd (omega (arith, late, two));
        counted = subst (λ xs. IsCounted Stands xs) (sym same) old.counted;
        ripe = λ b m s e le. subst (λ x. In b.id x) (sym same_queue) (old.ripe b m s e (subst (λ xs. m ≤ hits b.id xs) same le));
        content = λ b a s i j. inl (loaded_more 2 b.id a l ls (content_over empty b a s (subst (λ x. In b.id x) same_queue i) j));
        stacks = λ n start a s i. inl (loaded_more 1 n a l ls (stacks_over over n start a s i));
      }

  -- by the next load
  pub inv_load : next_after past (newest ls) ≡ Some place → Inv Stands Lives (init_of past) (l ∷ ls)
  inv_load e =
      elim (next_some past (newest ls) place e) [
        | in_stacks before on f ↦ inv_stacks before on f
        | in_queue over before f ↦ inv_queue over before (grey_some past q place (newest ls) old.queued f)
        | later over empty late ↦ inv_later over empty late
      ]
