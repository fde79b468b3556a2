use Rattle.std.proofs.Common.{◌≡◌, ℕ, ◌+◌, ◌<◌, ◌≤◌, Bool, true, false, ◌==◌, List, [], ◌∷◌, ◌++◌, map, cond, Option, Some, option_map, if◌then◌else◌, inl, inr, refl, sym, ap, ◌∙◌, subst, arith}
use Rattle.std.specs.Prelude.{find}
use Rattle.std.proofs.lemmas.List.{map-append, append_assoc}
use Rattle.std.proofs.lemmas.Bool.{and_parts, and_from, eqb-true, eq-eqb, ne_eqb}
use Rattle.km_record.specs.declared.kinds.RecId.{RecId}
use Rattle.km_model.specs.Blocks.{Block, block_of}
use Rattle.km_state.specs.State.{Tracked, blocks_in, tracked_where}
use Rattle.km_track.specs.Tracker.{AreApart, AreRising, IsApartFrom, Live, NeverMeet, begins, first_live, id_of, is_id, live_behind, live_from}

-- live blocks in order of registration, by their ids

-- the block with an id has its slot and its number
pub is_its : (id : RecId) (l : Live) → is_id id l ≡ true → (l.slot ≡ id.slot) × (l.tracked.block.id ≡ id.generation)
is_its id l h =
    let p = and_parts (l.slot == id.slot) (l.tracked.block.id == id.generation) h in
    (eqb-true l.slot id.slot p.0, eqb-true l.tracked.block.id id.generation p.1)

pub has_its : (l : Live) → is_id (id_of l) l ≡ true
has_its l = and_from (l.slot == l.slot) (l.tracked.block.id == l.tracked.block.id) (eq-eqb l.slot l.slot refl) (eq-eqb l.tracked.block.id l.tracked.block.id refl)

pub found_its : (id : RecId) (ls : List Live) (l : Live) → find (is_id id) ls ≡ Some l → is_id id l ≡ true
found_its id [] l h = absurd (let z : ⊥ = cc in z)
found_its id (x ∷ ls) l h =
    elim (is_id id x) as (λ b. is_id id x ≡ b → cond b (Some x) (find (is_id id) ls) ≡ Some l → is_id id l ≡ true) [
      | true ↦ λ e g. let same : x ≡ l = cc in subst (λ (y : Live). is_id id y ≡ true) same e
      | false ↦ λ e g. found_its id ls l g
    ] refl h

-- a lower bound
pub rising_from : (low least high : ℕ) (ls : List Live) → low ≤ least → AreRising least ls high → AreRising low ls high
rising_from low least high [] le r = omega (arith, le, r)
rising_from low least high (l ∷ ls) le r = (let h = r.0 in omega (arith, le, h), r.1)

pub found_above : (id : RecId) (low high : ℕ) (ls : List Live) (l : Live) → AreRising low ls high → find (is_id id) ls ≡ Some l → low ≤ l.tracked.block.id
found_above id low high [] l r h = absurd (let z : ⊥ = cc in z)
found_above id low high (x ∷ ls) l r h =
    elim (is_id id x) as (λ b. cond b (Some x) (find (is_id id) ls) ≡ Some l → low ≤ l.tracked.block.id) [
      | true ↦ λ g. let same : x ≡ l = cc in subst (λ (y : Live). low ≤ y.tracked.block.id) same r.0
      | false ↦ λ g. let above = found_above id (x.tracked.block.id + 1) high ls l r.1 g in let h = r.0 in omega (arith, above, h)
    ] h

-- the block with an id is the one with its number
pub found_tracked : (id : RecId) (low high : ℕ) (ls : List Live) (l : Live) → AreRising low ls high → find (is_id id) ls ≡ Some l
    → tracked_where (λ (b : Block). b.id == id.generation) (map (λ (x : Live). x.tracked) ls) ≡ Some l.tracked
found_tracked id low high [] l r h = absurd (let z : ⊥ = cc in z)
found_tracked id low high (x ∷ ls) l r h =
    let Goal = λ (b : Bool). is_id id x ≡ b → cond b (Some x) (find (is_id id) ls) ≡ Some l
    → (if x.tracked.block.id == id.generation then Some x.tracked else tracked_where (λ (b : Block). b.id == id.generation) (map (λ (y : Live). y.tracked) ls)) ≡ Some l.tracked in
    elim (is_id id x) as Goal [
      | true ↦ λ e g. let same : x ≡ l = cc in
          rw (eq-eqb x.tracked.block.id id.generation (is_its id x e).1) (ap (λ (y : Live). Some y.tracked) same)
      | false ↦ λ e g.
          let above = found_above id (x.tracked.block.id + 1) high ls l r.1 g in
          let its = (is_its id l (found_its id ls l g)).1 in
          rw (ne_eqb x.tracked.block.id id.generation (λ n. omega (arith, above, its, n))) (found_tracked id (x.tracked.block.id + 1) high ls l r.1 g)
    ] refl h

pub found_block : (id : RecId) (low high : ℕ) (ls : List Live) (l : Live) → AreRising low ls high → find (is_id id) ls ≡ Some l
    → block_of (blocks_in (map (λ (x : Live). x.tracked) ls)) id.generation ≡ Some l.tracked.block
found_block id low high ls l r h = blocks (map (λ (x : Live). x.tracked) ls) ∙ ap (option_map (λ (t : Tracked). t.block)) (found_tracked id low high ls l r h)
  where
    blocks : (ts : List Tracked) → block_of (blocks_in ts) id.generation ≡ option_map (λ (t : Tracked). t.block) (tracked_where (λ (b : Block). b.id == id.generation) ts)
    blocks [] = refl
    blocks (t ∷ ts) =
        elim (t.block.id == id.generation) as (λ b. cond b (Some t.block) (block_of (blocks_in ts) id.generation) ≡ option_map (λ (u : Tracked). u.block) (cond b (Some t) (tracked_where (λ (c : Block). c.id == id.generation) ts))) [
          | true ↦ refl
          | false ↦ blocks ts
        ]

-- ids behind some blocks are none of theirs
pub rising_rest : (low high : ℕ) (front rest : List Live) → AreRising low (front ++ rest) high → AreRising low rest high
rising_rest low high [] rest r = r
rising_rest low high (x ∷ front) rest r = rising_from low (x.tracked.block.id + 1) high rest (let h = r.0 in omega (arith, h)) (rising_rest (x.tracked.block.id + 1) high front rest r.1)

pub not_before : (low high : ℕ) (x l : Live) (front rest : List Live) → AreRising low (x ∷ front ++ l ∷ rest) high → is_id (id_of l) x ≡ false
not_before low high x l front rest r =
    let above = (rising_rest (x.tracked.block.id + 1) high front (l ∷ rest) r.1).0 in
    elim (is_id (id_of l) x) as (λ b. is_id (id_of l) x ≡ b → b ≡ false) [
      | true ↦ λ e. let same = (is_its (id_of l) x e).1 in absurd (omega (arith, above, same))
      | false ↦ λ e. refl
    ] refl

-- a block among the live ones is found by its id
pub finds_it : (low high : ℕ) (front rest : List Live) (l : Live) → AreRising low (front ++ l ∷ rest) high → find (is_id (id_of l)) (front ++ l ∷ rest) ≡ Some l
finds_it low high [] rest l r = rw (has_its l) refl
finds_it low high (x ∷ front) rest l r = rw (not_before low high x l front rest r) (finds_it (x.tracked.block.id + 1) high front rest l r.1)

-- and so is the one behind it
pub behind_it : (low high : ℕ) (front rest : List Live) (l : Live) → AreRising low (front ++ l ∷ rest) high → live_behind (id_of l) (front ++ l ∷ rest) ≡ first_live rest
behind_it low high [] rest l r = rw (has_its l) refl
behind_it low high (x ∷ front) rest l r = rw (not_before low high x l front rest r) (behind_it (x.tracked.block.id + 1) high front rest l r.1)

-- and it alone is changed
pub changes_it : (low high : ℕ) (change : Live → Live) (front rest : List Live) (l : Live) → AreRising low (front ++ l ∷ rest) high
    → map (λ (x : Live). if is_id (id_of l) x then change x else x) (front ++ l ∷ rest) ≡ front ++ change l ∷ rest
changes_it low high change [] rest l r =
    rw (has_its l) (ap (λ xs. change l ∷ xs) (none l.tracked.block.id rest r.1 refl))
  where
    none : (low : ℕ) (xs : List Live) → AreRising (low + 1) xs high → l.tracked.block.id ≡ low → map (λ (x : Live). if is_id (id_of l) x then change x else x) xs ≡ xs
    none low [] s e = refl
    none low (x ∷ xs) s e =
        let above = s.0 in
        let out : is_id (id_of l) x ≡ false = elim (is_id (id_of l) x) as (λ b. is_id (id_of l) x ≡ b → b ≡ false) [ true ↦ λ f. let same = (is_its (id_of l) x f).1 in absurd (omega (arith, above, same, e)) | false ↦ λ f. refl ] refl in
        rw out (ap (λ ys. x ∷ ys) (none low xs (rising_from (low + 1) (x.tracked.block.id + 1) high xs (omega (arith, above)) s.1) e))
changes_it low high change (x ∷ front) rest l r =
    rw (not_before low high x l front rest r) (ap (λ ys. x ∷ ys) (changes_it (x.tracked.block.id + 1) high change front rest l r.1))

-- the blocks from the first of some on are these
pub from_rest : (low high : ℕ) (front rest : List Live) → AreRising low (front ++ rest) high → live_from (option_map id_of (first_live rest)) (front ++ rest) ≡ rest
from_rest low high [] [] r = refl
from_rest low high [] (l ∷ rest) r = rw (has_its l) refl
from_rest low high (x ∷ front) [] r = refl
from_rest low high (x ∷ front) (l ∷ rest) r = rw (not_before low high x l front rest r) (from_rest (x.tracked.block.id + 1) high front (l ∷ rest) r.1)

-- a change that leaves the ids leaves them rising
pub rising_changed : (low high : ℕ) (f : Live → Live) (front rest : List Live) → ((l : Live) → (f l).tracked.block.id ≡ l.tracked.block.id) → AreRising low (front ++ rest) high → AreRising low (map f front ++ rest) high
rising_changed low high f [] rest same r = r
rising_changed low high f (x ∷ front) rest same r =
    rw (same x) (r.0, rising_changed (x.tracked.block.id + 1) high f front rest same r.1)

-- a walk in order of registration: it has passed by some blocks, which it changed, and stands on the first of the rest
pub record Walked (f : Live → Live) (old now : List Live) (next : Option RecId) : Type 0 where
  pub front : List Live
  pub rest : List Live
  pub was : old ≡ front ++ rest
  pub is : now ≡ map f front ++ rest
  pub at : next ≡ option_map id_of (first_live rest)

-- the block that a walk stands on
pub record Standing (f : Live → Live) (old now : List Live) (id : RecId) (front rest : List Live) : Type 0 where
  pub it : Live
  pub more : List Live
  pub was : old ≡ front ++ it ∷ more
  pub is : now ≡ map f front ++ it ∷ more
  pub there : rest ≡ it ∷ more
  pub its : id ≡ id_of it
  pub found : find (is_id id) now ≡ Some it
  pub behind : live_behind id now ≡ first_live more

pub walk_stands : (f : Live → Live) (low high : ℕ) (old now : List Live) (next : Option RecId) (id : RecId) (w : Walked f old now next) → ((l : Live) → (f l).tracked.block.id ≡ l.tracked.block.id)
    → AreRising low old high → next ≡ Some id → Standing f old now id w.front w.rest
walk_stands f low high old now next id w same r e = on w.rest w.was w.is (sym e ∙ w.at)
  where
    on : (rest : List Live) → old ≡ w.front ++ rest → now ≡ map f w.front ++ rest → Some id ≡ option_map id_of (first_live rest) → Standing f old now id w.front rest
    on [] was is at = absurd (let z : ⊥ = cc in z)
    on (l ∷ rest) was is at =
        let its : id ≡ id_of l = cc in
        let rising = rising_changed low high f w.front (l ∷ rest) same (subst (λ ls. AreRising low ls high) was r) in
        record {
          it = l;
          more = rest;
          was = was;
          is = is;
          there = refl;
          its = its;
          found = subst (λ (i : RecId). find (is_id i) now ≡ Some l) (sym its) (subst (λ ls. find (is_id (id_of l)) ls ≡ Some l) (sym is) (finds_it low high (map f w.front) rest l rising));
          behind = subst (λ (i : RecId). live_behind i now ≡ first_live rest) (sym its) (subst (λ ls. live_behind (id_of l) ls ≡ first_live rest) (sym is) (behind_it low high (map f w.front) rest l rising));
        }

-- a walk goes on behind the block that it stood on, which it changed
pub walk_goes_on : (f change : Live → Live) (low high : ℕ) (old now : List Live) (id : RecId) (front rest : List Live) (s : Standing f old now id front rest) → ((l : Live) → (f l).tracked.block.id ≡ l.tracked.block.id) → AreRising low old high
    → (after : List Live) → after ≡ map (λ (x : Live). if is_id id x then change x else x) now → change s.it ≡ f s.it → (next : Option RecId) → next ≡ option_map id_of (live_behind id now)
    → (w : Walked f old after next) × (w.rest ≡ s.more)
walk_goes_on f change low high old now id front rest s same r after e c next n =
    let rising = rising_changed low high f front (s.it ∷ s.more) same (subst (λ ls. AreRising low ls high) s.was r) in
    let one : map (λ (x : Live). if is_id id x then change x else x) now ≡ map f front ++ f s.it ∷ s.more =
    ap (λ ls. map (λ (x : Live). if is_id id x then change x else x) ls) s.is
    ∙ ap (λ (i : RecId). map (λ (x : Live). if is_id i x then change x else x) (map f front ++ s.it ∷ s.more)) s.its
    ∙ changes_it low high change (map f front) s.more s.it rising
    ∙ ap (λ (l : Live). map f front ++ l ∷ s.more) c in (
      record {
        front = front ++ s.it ∷ [];
        rest = s.more;
        was = s.was ∙ sym (append_assoc front (s.it ∷ []) s.more);
        is = e ∙ one ∙ sym (ap (λ ls. ls ++ s.more) (map-append f front (s.it ∷ [])) ∙ append_assoc (map f front) (f s.it ∷ []) s.more);
        at = n ∙ ap (option_map id_of) s.behind;
      },
      refl,
    )

-- what is left of a walk
pub walk_left : (f : Live → Live) (low high : ℕ) (old now : List Live) (next : Option RecId) (w : Walked f old now next) → ((l : Live) → (f l).tracked.block.id ≡ l.tracked.block.id) → AreRising low old high → live_from next now ≡ w.rest
walk_left f low high old now next w same r =
    ap (λ (n : Option RecId). live_from n now) w.at ∙ ap (live_from (option_map id_of (first_live w.rest))) w.is
    ∙ from_rest low high (map f w.front) w.rest (rising_changed low high f w.front w.rest same (subst (λ ls. AreRising low ls high) w.was r))

-- a block that some search finds is found by its id
pub found_again : (test : Live → Bool) (low high : ℕ) (ls : List Live) (l : Live) → AreRising low ls high → find test ls ≡ Some l → find (is_id (id_of l)) ls ≡ Some l
found_again test low high ls l r h = let s = split ls h in subst (λ xs. find (is_id (id_of l)) xs ≡ Some l) (sym s.2) (finds_it low high s.0 s.1 l (subst (λ xs. AreRising low xs high) s.2 r))
  where
    split : (ls : List Live) → find test ls ≡ Some l → (front : List Live) × (rest : List Live) × (ls ≡ front ++ l ∷ rest)
    split [] e = absurd (let z : ⊥ = cc in z)
    split (x ∷ ls) e =
        elim (test x) as (λ b. cond b (Some x) (find test ls) ≡ Some l → (front : List Live) × (rest : List Live) × (x ∷ ls ≡ front ++ l ∷ rest)) [
          | true ↦ λ g. let same : x ≡ l = cc in ([], ls, ap (λ (y : Live). y ∷ ls) same)
          | false ↦ λ g. let s = split ls g in (x ∷ s.0, s.1, ap (λ xs. x ∷ xs) s.2)
        ] e

-- a search among blocks is one among their tracked parts
pub tracked_found : (test : Block → Bool) (ls : List Live) → tracked_where test (map (λ (l : Live). l.tracked) ls) ≡ option_map (λ (l : Live). l.tracked) (find (λ (l : Live). test l.tracked.block) ls)
tracked_found test [] = refl
tracked_found test (l ∷ ls) =
    elim (test l.tracked.block) as (λ b. cond b (Some l.tracked) (tracked_where test (map (λ (x : Live). x.tracked) ls)) ≡ option_map (λ (x : Live). x.tracked) (cond b (Some l) (find (λ (x : Live). test x.tracked.block) ls))) [
      | true ↦ refl
      | false ↦ tracked_found test ls
    ]

-- a block begins where no other does
apart_starts : (b c : Block) → AreApart b c → 0 < b.size → 0 < c.size → b.start ≡ c.start → ⊥
apart_starts b c h s t e = elim h as (λ _. ⊥) [ inl u ↦ omega (arith, u, s, e) | inr u ↦ omega (arith, u, t, e) ]

none_begin : (b : Block) (f : Live → Live) (ls : List Live) → 0 < b.size → IsApartFrom b ls → NeverMeet ls → map (λ (x : Live). if begins b.start x.tracked.block then f x else x) ls ≡ ls
none_begin b f [] s a n = refl
none_begin b f (x ∷ ls) s a n =
    rw (ne_eqb x.tracked.block.start b.start (λ e. apart_starts b x.tracked.block a.0 s n.0 (sym e))) (ap (λ ys. x ∷ ys) (none_begin b f ls s a.1 n.2))

none_ids : (id : RecId) (f : Live → Live) (low high : ℕ) (ls : List Live) → AreRising low ls high → id.generation < low → map (λ (x : Live). if is_id id x then f x else x) ls ≡ ls
none_ids id f low high [] r lt = refl
none_ids id f low high (x ∷ ls) r lt =
    let above = r.0 in
    let out : is_id id x ≡ false = elim (is_id id x) as (λ b. is_id id x ≡ b → b ≡ false) [ true ↦ λ e. let same = (is_its id x e).1 in absurd (omega (arith, above, same, lt)) | false ↦ λ e. refl ] refl in
    rw out (ap (λ ys. x ∷ ys) (none_ids id f (x.tracked.block.id + 1) high ls r.1 (omega (arith, above, lt))))

found_apart : (b : Block) (id : RecId) (ls : List Live) (l : Live) → IsApartFrom b ls → NeverMeet ls → find (is_id id) ls ≡ Some l → AreApart b l.tracked.block × (0 < l.tracked.block.size)
found_apart b id [] l a n h = absurd (let z : ⊥ = cc in z)
found_apart b id (x ∷ ls) l a n h =
    elim (is_id id x) as (λ t. cond t (Some x) (find (is_id id) ls) ≡ Some l → AreApart b l.tracked.block × (0 < l.tracked.block.size)) [
      | true ↦ λ g. let same : x ≡ l = cc in subst (λ (y : Live). AreApart b y.tracked.block × (0 < y.tracked.block.size)) same (a.0, n.0)
      | false ↦ λ g. found_apart b id ls l a.1 n.2 g
    ] h

-- what changes the blocks that begin where one does changes that one
pub changes_one : (id : RecId) (f : Live → Live) (low high : ℕ) (ls : List Live) (l : Live) → AreRising low ls high → NeverMeet ls → find (is_id id) ls ≡ Some l
    → map (λ (x : Live). if begins l.tracked.block.start x.tracked.block then f x else x) ls ≡ map (λ (x : Live). if is_id id x then f x else x) ls
changes_one id f low high [] l r n h = absurd (let z : ⊥ = cc in z)
changes_one id f low high (x ∷ ls) l r n h =
    let Goal = λ (b : Bool). is_id id x ≡ b → cond b (Some x) (find (is_id id) ls) ≡ Some l
    → (if begins l.tracked.block.start x.tracked.block then f x else x) ∷ map (λ (y : Live). if begins l.tracked.block.start y.tracked.block then f y else y) ls
    ≡ (if b then f x else x) ∷ map (λ (y : Live). if is_id id y then f y else y) ls in
    elim (is_id id x) as Goal [
      | true ↦ λ e g.
          let same : x ≡ l = cc in
          let its = (is_its id x e).1 in
          subst (λ (y : Live). (if begins y.tracked.block.start x.tracked.block then f x else x) ∷ map (λ (z : Live). if begins y.tracked.block.start z.tracked.block then f z else z) ls ≡ f x ∷ map (λ (z : Live). if is_id id z then f z else z) ls) same
          (rw (eq-eqb x.tracked.block.start x.tracked.block.start refl, none_begin x.tracked.block f ls n.0 n.1 n.2, none_ids id f (x.tracked.block.id + 1) high ls r.1 (omega (arith, its))) refl)
      | false ↦ λ e g.
          let a = found_apart x.tracked.block id ls l n.1 n.2 g in
          rw (ne_eqb x.tracked.block.start l.tracked.block.start (apart_starts x.tracked.block l.tracked.block a.0 n.0 a.1)) (ap (λ ys. x ∷ ys) (changes_one id f (x.tracked.block.id + 1) high ls l r.1 n.2 g))
    ] refl h
