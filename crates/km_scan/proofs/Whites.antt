use Rattle.std.proofs.Common.{◌≡◌, ℕ, ◌+◌, ◌-◌, ◌/◌, ◌%◌, ◌<◌, ◌≤◌, Bool, true, false, ◌||◌, cond, ltb, List, [], ◌∷◌, ◌++◌, map, filter, length, Option, Some, None, option_map, refl, sym, ap, ◌∙◌, subst, arith}
use Rattle.std.specs.Prelude.{find, if◌then◌else◌, IfSome}
use Rattle.std.specs.List.{list_any}
use Rattle.std.proofs.lemmas.List.{append_assoc}
use Rattle.std.proofs.lemmas.Bool.{lt-ltb, le-ltb}
use Rattle.km_record.specs.declared.kinds.RecId.{RecId}
use Rattle.km_model.specs.Blocks.{Block, words_of}
use Rattle.km_model.specs.Scan.{word_above}
use Rattle.km_model.specs.Past.{Place}
use Rattle.km_state.specs.State.{Tracked, is_white_now}
use Rattle.km_state.specs.StateNext.{first_white_in, white_behind, white_words_in}
use Rattle.km_track.specs.Tracker.{AreRising, Live, NeverMeet, Tracker, first_live, id_of, is_id, live_behind, live_from, live_with, tracked_in}
use Rattle.km_track.proofs.Lives.{finds_it, found_its, found_tracked, behind_it, from_rest, is_its, rising_rest}
use Rattle.km_scan.specs.Stand.{IsWordOf}
use Rattle.km_scan.proofs.Words.{next_word, no_word}
use Rattle.km_scan.proofs.Held.{found_any}

-- walks over the live blocks in order of registration

-- those that a walk passed by, and the rest, on whose first it stands
pub record Walking (live : List Live) (next : Option RecId) : Type 0 where
  pub front : List Live
  pub rest : List Live
  pub was : live ≡ front ++ rest
  pub at : next ≡ option_map id_of (first_live rest)

-- the block that it stands on
pub record StandsOn (live : List Live) (front rest : List Live) (id : RecId) : Type 0 where
  pub it : Live
  pub more : List Live
  pub there : rest ≡ it ∷ more
  pub its : id ≡ id_of it
  pub found : find (is_id id) live ≡ Some it
  pub behind : live_behind id live ≡ first_live more

pub walk_stands_on : (live : List Live) (high : ℕ) (next : Option RecId) (id : RecId) (w : Walking live next) → AreRising 0 live high → next ≡ Some id → StandsOn live w.front w.rest id
walk_stands_on live high next id w r e = on w.rest w.was (sym e ∙ w.at)
  where
    on : (rest : List Live) → live ≡ w.front ++ rest → Some id ≡ option_map id_of (first_live rest) → StandsOn live w.front rest id
    on [] was at = absurd (let z : ⊥ = cc in z)
    on (l ∷ rest) was at =
        let its : id ≡ id_of l = cc in
        let rising = subst (λ ls. AreRising 0 ls high) was r in
        record {
          it = l;
          more = rest;
          there = refl;
          its = its;
          found = subst (λ (j : RecId). find (is_id j) live ≡ Some l) (sym its) (subst (λ ls. find (is_id (id_of l)) ls ≡ Some l) (sym was) (finds_it 0 high w.front rest l rising));
          behind = subst (λ (j : RecId). live_behind j live ≡ first_live rest) (sym its) (subst (λ ls. live_behind (id_of l) ls ≡ first_live rest) (sym was) (behind_it 0 high w.front rest l rising));
        }

-- what is left of it
pub walk_rest : (live : List Live) (high : ℕ) (next : Option RecId) (w : Walking live next) → AreRising 0 live high → live_from next live ≡ w.rest
walk_rest live high next w r = ap (λ (n : Option RecId). live_from n live) w.at ∙ ap (live_from (option_map id_of (first_live w.rest))) w.was ∙ from_rest 0 high w.front w.rest (subst (λ ls. AreRising 0 ls high) w.was r)

-- it goes on
pub walk_on : (live : List Live) (high : ℕ) (next behind : Option RecId) (id : RecId) (w : Walking live next) → AreRising 0 live high → next ≡ Some id → behind ≡ option_map id_of (live_behind id live)
    → (g : Walking live behind) × (l : Live) × (w.rest ≡ l ∷ g.rest) × (find (is_id id) live ≡ Some l)
walk_on live high next behind id w r e n =
    let s = walk_stands_on live high next id w r e in (
      record {
        front = w.front ++ s.it ∷ [];
        rest = s.more;
        was = w.was ∙ ap (λ ls. w.front ++ ls) s.there ∙ sym (append_assoc w.front (s.it ∷ []) s.more);
        at = n ∙ ap (option_map id_of) s.behind;
      },
      s.it,
      s.there,
      s.found,
    )

-- it has ended
pub walk_ends : (live : List Live) (next : Option RecId) (w : Walking live next) → next ≡ None → w.rest ≡ []
walk_ends live next w e = on w.rest (sym e ∙ w.at)
  where
    on : (rest : List Live) → None ≡ option_map id_of (first_live rest) → rest ≡ []
    on [] h = refl
    on (l ∷ rest) h = absurd (let z : ⊥ = cc in z)

-- it begins at a live block
pub walk_from : (live : List Live) (from : Option RecId) → IfSome from (λ id. list_any (is_id id) live ≡ true) → (w : Walking live from) × (w.rest ≡ live_from from live)
walk_from live None h = (record { front = live; rest = []; was = none live; at = refl }, refl)
  where
    none : (ls : List Live) → ls ≡ ls ++ []
    none [] = refl
    none (l ∷ ls) = ap (λ xs. l ∷ xs) (none ls)
walk_from live (Some id) h =
    let s = split live h in
    (record { front = s.0; rest = live_from (Some id) live; was = s.1; at = s.2 }, refl)
  where
    id_is : (l : Live) → is_id id l ≡ true → id ≡ id_of l
    id_is l e = let its = is_its id l e in λ i. record { slot = sym its.0 i; generation = sym its.1 i }

    split : (ls : List Live) → list_any (is_id id) ls ≡ true → (front : List Live) × (ls ≡ front ++ live_from (Some id) ls) × (Some id ≡ option_map id_of (first_live (live_from (Some id) ls)))
    split [] f = absurd (let z : ⊥ = cc in z)
    split (l ∷ ls) f =
        elim (is_id id l) as (λ b. is_id id l ≡ b → (b || list_any (is_id id) ls) ≡ true → (front : List Live) × (l ∷ ls ≡ front ++ (if b then l ∷ ls else live_from (Some id) ls)) × (Some id ≡ option_map id_of (first_live (if b then l ∷ ls else live_from (Some id) ls)))) [
          | true ↦ λ e _. ([], refl, ap (λ (i : RecId). Some i) (id_is l e))
          | false ↦ λ e g. let s = split ls g in (l ∷ s.0, ap (λ xs. l ∷ xs) s.1, s.2)
        ] refl f

-- a walk that looks for a white block
pub record Seeking (target : Option Place) (live : List Live) (next : Option RecId) : Type 0 where
  pub walk : Walking live next
  pub same : first_white_in (map (λ (l : Live). l.tracked) walk.rest) ≡ target

abbrev place_found : Option Tracked → Option Place
place_found None = None
place_found (Some t) = Some (record { phase = 3; holder = t.block.id; word = t.block.start })

white_cons : (l : Live) (ls : List Live) (b : Bool) → is_white_now l.tracked ≡ b
    → first_white_in (map (λ (x : Live). x.tracked) (l ∷ ls)) ≡ (if b then Some (record { phase = 3; holder = l.tracked.block.id; word = l.tracked.block.start }) else first_white_in (map (λ (x : Live). x.tracked) ls))
white_cons l ls b e = ap (λ c. place_found (cond c (Some l.tracked) (find is_white_now (map (λ (x : Live). x.tracked) ls)))) e ∙ at b
  where
    at : (b : Bool) → place_found (cond b (Some l.tracked) (find is_white_now (map (λ (x : Live). x.tracked) ls))) ≡ (if b then Some (record { phase = 3; holder = l.tracked.block.id; word = l.tracked.block.start }) else first_white_in (map (λ (x : Live). x.tracked) ls))
    at true = refl
    at false = refl

pub seek_begins : (live : List Live) (from : Option RecId) → IfSome from (λ id. list_any (is_id id) live ≡ true) → Seeking (first_white_in (map (λ (l : Live). l.tracked) (live_from from live))) live from
seek_begins live from h = let w = walk_from live from h in record { walk = w.0; same = ap (λ ls. first_white_in (map (λ (l : Live). l.tracked) ls)) w.1 }

pub seek_passes : (target : Option Place) (live : List Live) (high : ℕ) (next behind : Option RecId) (id : RecId) (w : Seeking target live next) → AreRising 0 live high → next ≡ Some id → behind ≡ option_map id_of (live_behind id live)
    → ((l : Live) → find (is_id id) live ≡ Some l → false ≡ is_white_now l.tracked) → Seeking target live behind
seek_passes target live high next behind id w r e n not_white =
    let g = walk_on live high next behind id w.walk r e n in
    record { walk = g.0; same = sym (white_cons g.1 g.0.rest false (sym (not_white g.1 g.3))) ∙ ap (λ ls. first_white_in (map (λ (l : Live). l.tracked) ls)) (sym g.2) ∙ w.same }

pub seek_finds : (target : Option Place) (live : List Live) (high : ℕ) (next : Option RecId) (id : RecId) (w : Seeking target live next) → AreRising 0 live high → next ≡ Some id
    → ((l : Live) → find (is_id id) live ≡ Some l → true ≡ is_white_now l.tracked)
    → (l : Live) × (find (is_id id) live ≡ Some l) × (is_white_now l.tracked ≡ true) × (Some (record { phase = 3; holder = id.generation; word = l.tracked.block.start }) ≡ target)
seek_finds target live high next id w r e white =
    let s = walk_stands_on live high next id w.walk r e in
    let is_white = sym (white s.it s.found) in (
      s.it,
      s.found,
      is_white,
      ap (λ (i : RecId). Some (record { phase = 3; holder = i.generation; word = s.it.tracked.block.start })) s.its ∙ sym (white_cons s.it s.more true is_white) ∙ ap (λ ls. first_white_in (map (λ (l : Live). l.tracked) ls)) (sym s.there) ∙ w.same,
    )

pub seek_ends : (target : Option Place) (live : List Live) (next : Option RecId) (w : Seeking target live next) → next ≡ None → None ≡ target
seek_ends target live next w e = ap (λ ls. first_white_in (map (λ (l : Live). l.tracked) ls)) (sym (walk_ends live next w.walk e)) ∙ w.same

-- a walk gets shorter
pub walk_shorter : (live : List Live) (high : ℕ) (next behind : Option RecId) (id : RecId) (w : Walking live next) → AreRising 0 live high → next ≡ Some id → behind ≡ option_map id_of (live_behind id live)
    → length (live_from behind live) < length (live_from next live)
walk_shorter live high next behind id w r e n =
    let g = walk_on live high next behind id w r e n in
    omega (arith, ap length (walk_rest live high behind g.0 r), ap length (walk_rest live high next w r), ap length g.2)

-- each live block has a word
has_bytes : (id : RecId) (ls : List Live) (l : Live) → NeverMeet ls → find (is_id id) ls ≡ Some l → 0 < l.tracked.block.size
has_bytes id [] l n e = absurd (let z : ⊥ = cc in z)
has_bytes id (x ∷ ls) l n e =
    elim (is_id id x) as (λ b. cond b (Some x) (find (is_id id) ls) ≡ Some l → 0 < l.tracked.block.size) [
      | true ↦ λ f. let same : x ≡ l = cc in subst (λ (y : Live). 0 < y.tracked.block.size) same n.0
      | false ↦ λ f. has_bytes id ls l n.2 f
    ] e

pub first_is_word : (id : RecId) (live : List Live) (k l : Live) → NeverMeet live → find (is_id id) live ≡ Some k → find (is_id id) live ≡ Some l → k.tracked.block.size % 8 ≡ 0 → IsWordOf l.tracked.block k.tracked.block.start
first_is_word id live k l n e f whole =
    let same : k ≡ l = cc in
    let bytes = has_bytes id live k n e in
    subst (λ (x : Live). IsWordOf x.tracked.block k.tracked.block.start) same (0, omega (arith, bytes, whole), omega arith)

-- where a walk stands, a block is live
pub walk_live : (live : List Live) (high : ℕ) (next : Option RecId) → Walking live next → AreRising 0 live high → IfSome next (λ id. list_any (is_id id) live ≡ true)
walk_live live high None w r = tt
walk_live live high (Some id) w r = let s = walk_stands_on live high (Some id) id w r refl in found_any (is_id id) live s.it s.found

-- the blocks that were registered behind a number
above_all : (gen low high : ℕ) (ls : List Live) → AreRising low ls high → gen < low → filter (λ (l : Live). ltb gen l.tracked.block.id) ls ≡ ls
above_all gen low high [] r lt = refl
above_all gen low high (l ∷ ls) r lt =
    let above = r.0 in
    rw (lt-ltb gen l.tracked.block.id (omega (arith, above, lt))) (ap (λ xs. l ∷ xs) (above_all gen (l.tracked.block.id + 1) high ls r.1 (omega (arith, above, lt))))

above_rest : (gen low high : ℕ) (front rest : List Live) (l : Live) → AreRising low (front ++ l ∷ rest) high → l.tracked.block.id ≡ gen → filter (λ (x : Live). ltb gen x.tracked.block.id) (front ++ l ∷ rest) ≡ rest
above_rest gen low high [] rest l r e = rw (le-ltb gen l.tracked.block.id (omega (arith, e))) (above_all gen (l.tracked.block.id + 1) high rest r.1 (omega (arith, e)))
above_rest gen low high (x ∷ front) rest l r e =
    let later = (rising_rest (x.tracked.block.id + 1) high front (l ∷ rest) r.1).0 in
    rw (le-ltb gen x.tracked.block.id (omega (arith, later, e))) (above_rest gen (x.tracked.block.id + 1) high front rest l r.1 e)

pub record Skipping (gen : ℕ) (live : List Live) (next : Option RecId) : Type 0 where
  pub walk : Walking live next
  pub same : filter (λ (l : Live). ltb gen l.tracked.block.id) live ≡ filter (λ (l : Live). ltb gen l.tracked.block.id) walk.rest

pub skip_begins : (gen : ℕ) (live : List Live) (next : Option RecId) → next ≡ option_map id_of (first_live live) → Skipping gen live next
skip_begins gen live next e = record { walk = record { front = []; rest = live; was = refl; at = e }; same = refl }

pub skip_passes : (gen : ℕ) (live : List Live) (high : ℕ) (next behind : Option RecId) (id : RecId) (w : Skipping gen live next) → AreRising 0 live high → next ≡ Some id → behind ≡ option_map id_of (live_behind id live)
    → id.generation ≤ gen → Skipping gen live behind
skip_passes gen live high next behind id w r e n le =
    let g = walk_on live high next behind id w.walk r e n in
    let its = (is_its id g.1 (found_its id live g.1 g.3)).1 in
    let out : filter (λ (l : Live). ltb gen l.tracked.block.id) (g.1 ∷ g.0.rest) ≡ filter (λ (l : Live). ltb gen l.tracked.block.id) g.0.rest = rw (le-ltb gen g.1.tracked.block.id (omega (arith, its, le))) refl in
    record { walk = g.0; same = w.same ∙ ap (filter (λ (l : Live). ltb gen l.tracked.block.id)) g.2 ∙ out }

pub skip_finds : (gen : ℕ) (live : List Live) (high : ℕ) (next : Option RecId) (id : RecId) (w : Skipping gen live next) → AreRising 0 live high → next ≡ Some id → gen < id.generation
    → live_from next live ≡ filter (λ (l : Live). ltb gen l.tracked.block.id) live
skip_finds gen live high next id w r e lt =
    let s = walk_stands_on live high next id w.walk r e in
    let rising = subst (λ ls. AreRising 0 ls high) (ap (λ ls. w.walk.front ++ ls) s.there) (subst (λ ls. AreRising 0 ls high) w.walk.was r) in
    let rest = rising_rest 0 high w.walk.front (s.it ∷ s.more) rising in
    let its = ap (λ (i : RecId). i.generation) s.its in
    let all = above_all gen s.it.tracked.block.id high (s.it ∷ s.more) (omega arith, rest.1) (omega (arith, its, lt)) in
    walk_rest live high next w.walk r ∙ s.there ∙ sym (w.same ∙ ap (filter (λ (l : Live). ltb gen l.tracked.block.id)) s.there ∙ all)

pub skip_ends : (gen : ℕ) (live : List Live) (next : Option RecId) (w : Skipping gen live next) → next ≡ None → [] ≡ filter (λ (l : Live). ltb gen l.tracked.block.id) live
skip_ends gen live next w e = ap (filter (λ (l : Live). ltb gen l.tracked.block.id)) (sym (walk_ends live next w.walk e)) ∙ sym w.same

-- behind a live block are those that were registered behind it
pub behind_rest : (live : List Live) (high : ℕ) (next : Option RecId) (id : RecId) → AreRising 0 live high → list_any (is_id id) live ≡ true → next ≡ option_map id_of (live_behind id live)
    → (Walking live next) × (live_from next live ≡ filter (λ (l : Live). ltb id.generation l.tracked.block.id) live)
behind_rest live high next id r h n =
    let w = walk_from live (Some id) h in
    let s = walk_stands_on live high (Some id) id w.0 r refl in
    let g = walk_on live high (Some id) next id w.0 r refl n in
    let was = w.0.was ∙ ap (λ ls. w.0.front ++ ls) g.2 in
    let its = (is_its id g.1 (found_its id live g.1 g.3)).1 in
    let rest = above_rest id.generation 0 high w.0.front g.0.rest g.1 (subst (λ ls. AreRising 0 ls high) was r) its in
    (g.0, walk_rest live high next g.0 r ∙ sym (ap (filter (λ (l : Live). ltb id.generation l.tracked.block.id)) was ∙ rest))

-- a choice among live blocks is one among their tracked parts
pub tracked_above : (gen : ℕ) (ls : List Live) → map (λ (l : Live). l.tracked) (filter (λ (l : Live). ltb gen l.tracked.block.id) ls) ≡ filter (λ (t : Tracked). ltb gen t.block.id) (map (λ (l : Live). l.tracked) ls)
tracked_above gen [] = refl
tracked_above gen (l ∷ ls) =
    elim (ltb gen l.tracked.block.id) as (λ b. map (λ (x : Live). x.tracked) (cond b (l ∷ filter (λ (x : Live). ltb gen x.tracked.block.id) ls) (filter (λ (x : Live). ltb gen x.tracked.block.id) ls))
    ≡ cond b (l.tracked ∷ filter (λ (t : Tracked). ltb gen t.block.id) (map (λ (x : Live). x.tracked) ls)) (filter (λ (t : Tracked). ltb gen t.block.id) (map (λ (x : Live). x.tracked) ls))) [
      | true ↦ ap (λ xs. l.tracked ∷ xs) (tracked_above gen ls)
      | false ↦ tracked_above gen ls
    ]

pub white_rest : (gen : ℕ) (live rest : List Live) → rest ≡ filter (λ (l : Live). ltb gen l.tracked.block.id) live → first_white_in (map (λ (l : Live). l.tracked) rest) ≡ white_behind gen (map (λ (l : Live). l.tracked) live)
white_rest gen live rest e = ap (λ ls. first_white_in (map (λ (l : Live). l.tracked) ls)) e ∙ ap first_white_in (tracked_above gen live)

-- the words of a live block, where that is white
pub white_words : (t : Tracker) (id : RecId) (l : Live) (b : Bool) → AreRising 0 t.live t.registered → live_with id t ≡ Some l → is_white_now l.tracked ≡ b
    → white_words_in (tracked_in t) id.generation ≡ (if b then words_of l.tracked.block else [])
white_words t id l b r e w =
    ap (λ (o : Option Tracked). elim o [ None ↦ [] | Some u ↦ if is_white_now u then words_of u.block else [] ]) (found_tracked id 0 t.registered t.live l r e) ∙ ap (λ c. if c then words_of l.tracked.block else []) w

-- a word of a block is its last one, or another is behind it
pub last_word_of : (b : Block) (w start size : ℕ) → IsWordOf b w → b.start ≡ start → b.size ≡ size → size ≤ w - start + 8 → word_above w (words_of b) ≡ None
last_word_of b w start size h s z le = let is = h.2 in no_word (b.size / 8) b.start w h.0 h.2 (omega (arith, is, s, z, le))

pub more_word_of : (b : Block) (w start size : ℕ) → IsWordOf b w → b.start ≡ start → b.size ≡ size → size % 8 ≡ 0 → w - start + 8 < size → (word_above w (words_of b) ≡ Some (w + 8)) × IsWordOf b (w + 8)
more_word_of b w start size h s z m lt =
    let is = h.2 in
    let i = h.0 in
    let more : i + 1 < b.size / 8 = omega (arith, is, s, z, lt, m) in
    (next_word (b.size / 8) b.start w i is more, (i + 1, more, omega (arith, is)))
