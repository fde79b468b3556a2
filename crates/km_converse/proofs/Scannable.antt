use Rattle.std.proofs.Common.{◌≡◌, ℕ, suc, ◌+◌, ◌*◌, ◌/◌, ◌<◌, ◌≤◌, ◌==◌, Bool, true, false, ◌&&◌, ◌||◌, not, nat_le, nat_lt, List, [], ◌∷◌, Option, Some, None, if◌then◌else◌, refl, sym, ◌∙◌, ap, subst, arith, ◌⊎◌, inl, inr, eqb-true, lt-ltb, le-leb}
use Rattle.std.specs.List.{list_any}
use Rattle.std.proofs.lemmas.Bool.{and_parts, and_from, both_ways, cases_Bool, or_left, or_right}
use Rattle.km_model.specs.History.{History}
use Rattle.km_model.specs.Memory.{base}
use Rattle.km_model.specs.Blocks.{Block, is_among, contains, is_scanned, scanned_words, words_of, block_of}
use Rattle.km_model.specs.Tasks.{Task, in_stack}
use Rattle.km_model.specs.World.{World}
use Rattle.km_model.specs.Past.{Past, Place, ScanLoad, world, last_load}
use Rattle.km_model.specs.Scan.{next, next_after, scan_load, grey_next, stack_next, sum_next, first_in, live_words, place_in, or_else, word_above, first_word, behind, phase_of, unless_over, first_queue, second_queue}
use Rattle.km_model.specs.Follows.{past_of}
use Rattle.km_model.specs.Mention.{is_scannable, is_own_link, names, is_in_set, mentions}
use Rattle.km_model.proofs.Cases.{none_some, some_same}
use Rattle.km_model.proofs.Lists.{In, find_in, filter_in, each_in, any_in}
use Rattle.km_model.proofs.Places.{Word, or_else_some, place_in_is, not_over, stack_is, sum_is, if_place, word_in}
use Rattle.km_laws.specs.Placed.{BlockPlaced, StackPlaced}
use Rattle.km_laws.proofs.Pages.{Sound}
use Rattle.km_laws.proofs.Apart.{PlacedIn, answered_placed}
use Rattle.km_laws.proofs.Since.{IsAnswered}
use Rattle.km_converse.specs.Converse.{is_clear}
use Rattle.km_converse.proofs.Hits.{any_from}
use Rattle.km_converse.proofs.Links.{IsGrey}
use Rattle.km_converse.proofs.Facts.{distinct_now, place_now}

-- a grey phase loads scanned words of live blocks
abbrev pub IsScannedWord : List Block → Place → Type 0
IsScannedWord blocks place = (b : Block) × In b blocks × (b.id ≡ place.holder) × (is_scanned b place.word ≡ true) × Word (b.size / 8) b.start place.word

scanned_live : (blocks : List Block) (id a : ℕ) → In a (live_words blocks id) → (b : Block) × In b blocks × (b.id ≡ id) × (is_scanned b a ≡ true) × Word (b.size / 8) b.start a
scanned_live blocks id a i = go (block_of blocks id) refl i
  where
    go : (o : Option Block) → block_of blocks id ≡ o → In a (elim o as (λ _. List ℕ) [ None ↦ [] | Some b ↦ scanned_words b ])
        → (b : Block) × In b blocks × (b.id ≡ id) × (is_scanned b a ≡ true) × Word (b.size / 8) b.start a
    go None e j = absurd j
    go (Some b) e j =
        let at = find_in (λ (c : Block). c.id == id) blocks b e in
        let k = filter_in (is_scanned b) (words_of b) a j in
        (b, at.1, eqb-true b.id id at.0, k.0, word_in (b.size / 8) b.start a k.1)

first_here : (a : ℕ) (ws : List ℕ) → first_word ws ≡ Some a → In a ws
first_here a [] e = absurd (none_some a e)
first_here a (w ∷ ws) e = inl (sym (some_same w a e))

placed_word : (phase holder : ℕ) (blocks : List Block) (o : Option ℕ) (place : Place) → ((a : ℕ) → o ≡ Some a → In a (live_words blocks holder)) → place_in phase holder o ≡ Some place → (place.phase ≡ phase) × IsScannedWord blocks place
placed_word phase holder blocks o place f e =
    let p = place_in_is phase holder o place e in
    let k = scanned_live blocks holder place.word (f place.word p.2) in
    (p.0, (k.0, k.1, k.2 ∙ sym p.1, k.3, k.4))

first_scanned : (phase : ℕ) (blocks : List Block) (queue : List ℕ) (place : Place) → first_in phase blocks queue ≡ Some place → (place.phase ≡ phase) × IsScannedWord blocks place
first_scanned phase blocks [] place e = absurd (none_some place e)
first_scanned phase blocks (id ∷ queue) place e =
    elim (or_else_some (place_in phase id (first_word (live_words blocks id))) (first_in phase blocks queue) place e) [
      | inl here ↦ placed_word phase id blocks (first_word (live_words blocks id)) place (λ a f. first_here a (live_words blocks id) f) here
      | inr later ↦ first_scanned phase blocks queue place later.1
    ]

grey_scanned : (phase : ℕ) (past : Past) (queue : List ℕ) (last : Option ScanLoad) (place : Place) → grey_next phase past queue last ≡ Some place → (place.phase ≡ phase) × IsScannedWord (world past).blocks place
grey_scanned phase past queue None place e = first_scanned phase (world past).blocks queue place e
grey_scanned phase past queue (Some l) place e = go (l.place.phase == phase) e
  where
    go : (q : Bool) → (if q then or_else
        (place_in phase l.place.holder (word_above l.place.word (live_words (world past).blocks l.place.holder)))
        (first_in phase (world past).blocks (behind l.place.holder queue))
        else first_in phase (world past).blocks queue) ≡ Some place → (place.phase ≡ phase) × IsScannedWord (world past).blocks place
    go false f = first_scanned phase (world past).blocks queue place f
    go true f =
        elim (or_else_some (place_in phase l.place.holder (word_above l.place.word (live_words (world past).blocks l.place.holder))) (first_in phase (world past).blocks (behind l.place.holder queue)) place f) [
          | inl on ↦ placed_word phase l.place.holder (world past).blocks (word_above l.place.word (live_words (world past).blocks l.place.holder)) place
              (λ a g. (find_in (nat_lt l.place.word) (live_words (world past).blocks l.place.holder) a g).1) on
          | inr later ↦ first_scanned phase (world past).blocks (behind l.place.holder queue) place later.1
        ]

-- what a load that isn't of the sums reads
abbrev pub IsRead : Past → Place → Type 0
IsRead past place =
    ((place.phase ≡ 1) × ((world past).stacks ≡ true) × ((t : Task) × In t (world past).tasks × Word 512 t.stack place.word))
    ⊎ (IsGrey place × IsScannedWord (world past).blocks place)

read_after : (past : Past) (last : Option ScanLoad) (place : Place) → (place.phase ≡ 3 → ⊥) → next_after past last ≡ Some place → IsRead past place
read_after past last place counts h =
    let a : Option Place = unless_over 1 (phase_of last) (if (world past).stacks then stack_next past last else None) in
    let b : Option Place = unless_over 2 (phase_of last) (grey_next 2 past (first_queue past) last) in
    let c : Option Place = unless_over 3 (phase_of last) (sum_next past last) in
    let d : Option Place = grey_next 4 past (second_queue past) last in
    elim (or_else_some a (or_else b (or_else c d)) place h) [
      | inl one ↦
          let n = not_over 1 (phase_of last) (if (world past).stacks then stack_next past last else None) place one in
          let on = if_place (world past).stacks (stack_next past last) place n.1 in
          let s = stack_is past last place on.1 in
          inl (s.0, on.0, (s.1.0, s.1.1, s.1.3))
      | inr more ↦ elim (or_else_some b (or_else c d) place more.1) [
        | inl two ↦ let g = grey_scanned 2 past (first_queue past) last place (not_over 2 (phase_of last) (grey_next 2 past (first_queue past) last) place two).1 in inr (inl g.0, g.1)
        | inr rest ↦ elim (or_else_some c d place rest.1) [
          | inl three ↦ absurd (counts (sum_is past last place (not_over 3 (phase_of last) (sum_next past last) place three).1).0)
          | inr four ↦ let g = grey_scanned 4 past (second_queue past) last place four.1 in inr (inr g.0, g.1)
        ]
      ]
    ]

pub next_read : (past : Past) (place : Place) → (place.phase ≡ 3 → ⊥) → next past ≡ Some place → IsRead past place
unfolding next
next_read past place counts h = read_after past (last_load past) place counts h

stack_within : (t : Task) (a : ℕ) → Word 512 t.stack a → in_stack a t ≡ true
stack_within t a w =
    let lt = w.1 in let e = w.2 in
    and_from (nat_le t.stack a) (nat_lt a (t.stack + 4096)) (le-leb t.stack a (omega (arith, e))) (lt-ltb a (t.stack + 4096) (omega (arith, lt, e)))

-- such a word is scannable
pub read_scannable : (past : Past) (place : Place) → IsRead past place → is_scannable (world past) place.word ≡ true
read_scannable past place (inl s) =
    or_right (list_any (λ b. is_scanned b place.word) (world past).blocks) ((world past).stacks && list_any (in_stack place.word) (world past).tasks)
    (and_from (world past).stacks (list_any (in_stack place.word) (world past).tasks) s.1
    (any_from (in_stack place.word) (world past).tasks s.2.0 s.2.1 (stack_within s.2.0 place.word s.2.2)))
read_scannable past place (inr g) =
    or_left (list_any (λ b. is_scanned b place.word) (world past).blocks) ((world past).stacks && list_any (in_stack place.word) (world past).tasks)
    (any_from (λ b. is_scanned b place.word) (world past).blocks g.1.0 g.1.1 g.1.3)

-- a word of a run of words of the memory
run_word : (z words start size from i a : ℕ) → start ≡ z + 8 * from → 8 * suc i ≤ size → start + size ≤ z + 8 * words → a ≡ start + 8 * i → (k : ℕ) × (k < words) × (a ≡ z + 8 * k)
run_word z words start size from i a e some end f = (from + i, omega (arith, e, some, end), omega (arith, e, f))

-- and a word of the memory
pub read_word : (words : ℕ) (h : History) (place : Place) → 512 ≤ words → IsAnswered words h → IsRead (past_of h) place → (k : ℕ) × (k < words) × (place.word ≡ base + 8 * k)
read_word words h place most a (inl s) =
    let w : World = world (past_of h) in
    let p : PlacedIn words w = answered_placed words words (omega arith) most h a in
    let t = s.2.0 in
    let x = each_in (StackPlaced w.used) w.tasks t p.stacks_in s.2.1 in
    let sound = each_in (Sound words) w.used x.0 p.sound x.1 in
    let whole = sound.3 in
    let k = s.2.2 in
    let start : x.0.start ≡ t.stack = x.3 in
    let size : x.0.size ≡ 4096 = x.4 in
    let lt = k.1 in
    let at : place.word ≡ t.stack + 8 * k.0 = k.2 in
    run_word base words x.0.start x.0.size whole.0.0 k.0 place.word whole.0.1 (omega (arith, size, lt)) sound.1.1 (omega (arith, at, start))
read_word words h place most a (inr g) =
    let w : World = world (past_of h) in
    let p : PlacedIn words w = answered_placed words words (omega arith) most h a in
    let b = g.1.0 in
    let x = each_in (BlockPlaced w.used) w.blocks b p.blocks_in g.1.1 in
    let sound = each_in (Sound words) w.used x.0 p.sound x.1 in
    let k = g.1.4 in
    let lt = k.1 in
    let n = x.6.1.1 in
    let end = x.4 in
    let top = sound.1.1 in
    run_word base words b.start b.size x.6.0.0 k.0 place.word x.6.0.1 (omega (arith, n, lt)) (omega (arith, end, top)) k.2

-- where a word that a load reads doesn't mention a block, the load is clear
pub unmentioned_clear : (words : ℕ) (h : History) (place : Place) (value : ℕ) (ids : List ℕ) (b : Block) → IsAnswered words h → next (past_of h) ≡ Some place → (place.phase ≡ 3 → ⊥)
    → mentions (world (past_of h)) ids b place.word value ≡ false → is_clear (world (past_of h)) ids b (scan_load (past_of h) place value) ≡ true
unmentioned_clear words h place value ids b a n counts none =
    let w : World = world (past_of h) in
    let member : Bool = nat_lt 1 place.phase && is_among place.holder ids in
    let own : Bool = is_own_link w b place.word value in
    elim (cases_Bool own) [
      | inl linked ↦ or_left (member || own) (not (names w b value)) (or_right member own linked)
      | inr other ↦ elim (cases_Bool (names w b value)) [
        | inr unnamed ↦ or_right (member || own) (not (names w b value)) (ap not unnamed)
        | inl named ↦ elim (cases_Bool (is_in_set w.blocks ids place.word)) [
          | inl inside ↦ or_left (member || own) (not (names w b value)) (or_left member own (held inside))
          | inr outside ↦ absurd (both_ways (mentions w ids b place.word value) none
              (and_from (is_scannable w place.word && not (is_in_set w.blocks ids place.word) && not own) (names w b value)
              (and_from (is_scannable w place.word && not (is_in_set w.blocks ids place.word)) (not own)
              (and_from (is_scannable w place.word) (not (is_in_set w.blocks ids place.word)) (read_scannable (past_of h) place (next_read (past_of h) place counts n)) (ap not outside)) (ap not other)) named))
        ]
      ]
    ]
  where
    -- a word of a block of the set is loaded for that block
    held : is_in_set (world (past_of h)).blocks ids place.word ≡ true → (nat_lt 1 place.phase && is_among place.holder ids) ≡ true
    held inside = from (any_in (λ (c : Block). is_among c.id ids && contains place.word c) (world (past_of h)).blocks inside)
      where
        from : (c : Block) × In c (world (past_of h)).blocks × ((is_among c.id ids && contains place.word c) ≡ true) → (nat_lt 1 place.phase && is_among place.holder ids) ≡ true
        from c =
            let parts = and_parts (is_among c.0.id ids) (contains place.word c.0) c.2 in
            let fit = place_now words h place a n in
            elim (next_read (past_of h) place counts n) [
              | inl stack ↦ absurd (both_ways (contains place.word c.0) (fit.outside stack.0 c.0 c.1) parts.1)
              | inr grey ↦
                  let k = fit.inside grey.0 in
                  let same : k.0 ≡ c.0 = (distinct_now words h a).bytes place.word k.0 c.0 k.1 c.1 k.3 parts.1 in
                  let holder : c.0.id ≡ place.holder = ap (λ (x : Block). x.id) (sym same) ∙ k.2 in
                  and_from (nat_lt 1 place.phase) (is_among place.holder ids) (lt-ltb 1 place.phase (above grey.0)) (subst (λ x. is_among x ids ≡ true) holder parts.0)
            ]
          where
            above : IsGrey place → 1 < place.phase
            above (inl two) = omega (arith, two)
            above (inr four) = omega (arith, four)
