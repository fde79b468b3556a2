-- A list that grows until the block that is sought comes.
use Rattle.std.proofs.Common.{append-nil, ◌≡◌, ℕ, ◌+◌, ◌-◌, ◌<◌, ◌≤◌, ◌==◌, inl, inr, Bool, true, false, ◌&&◌, ◌||◌, cond, List, [], ◌∷◌, ◌++◌, length, filter, Option, Some, None, refl, sym, ◌∙◌, ap, subst, vec_len, vec_capacity, not, arith, eqb-true, ne_eqb, option_map, if◌then◌else◌}
use Rattle.std.specs.List.{list_any}
use Rattle.std.specs.BinaryHeap.{heap_capacity, heap_items, heap_len}
use Rattle.std.proofs.lemmas.Bool.{and_parts, or_left}
use Rattle.std.proofs.lemmas.List.{append_assoc}
use Rattle.std.proofs.lemmas.List.Folds.{list_any-append}
use Rattle.km_certificates.specs.Certificates.{is_held, is_member, list_of, up_to}
use Rattle.km_held.proofs.Prefixes.{IsPrefix, comes_next, not_in_all, prefix_begins, prefix_ends, prefix_goes_on, root_next}
use Rattle.km_model.proofs.Cases.{elim_false, not_true}
use Rattle.km_model.proofs.Lists.{Each, Pairs, In, each_none, each_weaker, in_each, in_filter, pairs_filter}
use Rattle.km_model.specs.Blocks.{Block, needs}
use Rattle.km_model.specs.Tasks.{Task}
use Rattle.km_record.specs.declared.kinds.RecId.{RecId}
use Rattle.km_track.specs.Tracker.{AreRising, Live, Tracker, first_live, id_of, is_live, live_behind, live_from, live_with}
use Rattle.km_track.proofs.Lives.{from_rest}
use Rattle.km_why.specs.declared.search.Search.{Search}
use Rattle.km_why.specs.Counts.{AreCounted, AreSpread}
use Rattle.km_why.specs.Next.{StandsFor}
use Rattle.km_why.specs.References.{sources}
use Rattle.km_why.proofs.Placed.{in_blocks}
use Rattle.km_why.proofs.Stacks.{tells_after}
use Rattle.km_why.specs.Search.{CanSearch, HasAppended, HasListed, HasRoots, IsAnswered, KeepsPlaces, members_in}
use Rattle.km_why.specs.Told.{TellsSame, blocks_of, standing_of}
use Rattle.km_words.specs.Told.{Told}
use Rattle.km_why.specs.Waiting.{AreWaiting, IsFirst, IsTaken, Key, is_ripe, is_waiting, key_of}
use Rattle.km_why.proofs.Cleared.{IsTour, on_is}
use Rattle.km_why.proofs.Heads.{blocks_on, is_there, stands_on, walk_goes_on, walk_left}
use Rattle.km_why.proofs.Laid.{ids_rise}
use Rattle.km_why.proofs.Listed.{are_apart, found_at, inside}
use Rattle.km_why.proofs.Next.{first_follows, none_follows}
use Rattle.km_why.proofs.Tested.{apart_push, member_in}

-- whether a block with this number of registration is among these
abbrev pub has_id : ℕ → List Block → Bool
has_id id bs = list_any (λ (b : Block). b.id == id) bs

-- the blocks before one that need no reference are listed, and the one that is sought isn't among them
pub record IsAtRoot (t : Tracker) (stacks : List Task) (memory : List ℕ) (id : ℕ) (next : Option RecId) (s : Search) : Type 0 where
  pub roots : List Block
  pub split : filter (needs 0) (blocks_of t) ≡ roots ++ filter (needs 0) (blocks_on (live_from next t.live))
  pub state : HasListed t stacks memory s roots roots
  pub out : has_id id roots ≡ false

-- a prefix of the list of all that is held is listed, and the one that is sought isn't in it
pub record IsAtOther (t : Tracker) (stacks : List Task) (memory : List ℕ) (id : ℕ) (s : Search) : Type 0 where
  pub members : List Block
  pub state : HasListed t stacks memory s members members
  pub prefix : IsPrefix (standing_of t stacks true memory) members
  pub roots : Each (λ (b : Block). needs 0 b ≡ true → is_member members b ≡ true) (blocks_of t)
  pub out : has_id id members ≡ false

is_false : (q : Bool) → (q ≡ true → ⊥) → q ≡ false
is_false true f = absurd (f refl)
is_false false f = refl

or_none : (q : Bool) → (q || false) ≡ q
or_none true = refl
or_none false = refl

out_push : (id : ℕ) (bs : List Block) (b : Block) → has_id id bs ≡ false → (b.id == id) ≡ false → has_id id (bs ++ b ∷ []) ≡ false
out_push id bs b e f = list_any-append (λ (x : Block). x.id == id) bs (b ∷ []) ∙ ap (λ q. q || ((b.id == id) || false)) e ∙ or_none (b.id == id) ∙ f

-- the roots, one after another
pub roots_begin : (t : Tracker) (stacks : List Task) (memory : List ℕ) (id : ℕ) (next : Option RecId) (s : Search) → AreRising 0 t.live t.registered → next ≡ option_map id_of (first_live t.live) → HasListed t stacks memory s [] []
    → IsAtRoot t stacks memory id next s
roots_begin t stacks memory id next s rising e h = record {
  roots = [];
  split = ap (filter (needs 0)) (on_is t.live ∙ ap blocks_on (sym (ap (λ (o : Option RecId). live_from o t.live) e ∙ from_rest 0 t.registered [] t.live rising)));
  state = h;
  out = refl;
}

filter_first : (b : Block) (bs : List Block) → filter (needs 0) (b ∷ bs) ≡ filter (needs 0) (b ∷ []) ++ filter (needs 0) bs
filter_first b bs = elim (needs 0 b) as (λ q. cond q (b ∷ filter (needs 0) bs) (filter (needs 0) bs) ≡ cond q (b ∷ []) [] ++ filter (needs 0) bs) [ true ↦ refl | false ↦ refl ]

pairs_before : {X : Type 0} (R : X → X → Type 0) (xs ys : List X) (y : X) → Pairs R (xs ++ y ∷ ys) → (x : X) → In x xs → R x y
pairs_before R [] ys y p x i = absurd i
pairs_before {X = X} R (z ∷ xs) ys y p x (inl same) = subst (λ w. R w y) (sym same) (each_last xs p.0)
  where
    each_last : (ws : List X) → Each (R z) (ws ++ y ∷ ys) → R z y
    each_last [] e = e.0
    each_last (w ∷ ws) e = each_last ws e.1
pairs_before R (z ∷ xs) ys y p x (inr i) = pairs_before R xs ys y p.1 x i

module _ (t : Tracker) (stacks : List Task) (memory : List ℕ) (id : ℕ) (next after : Option RecId) (s : Search) (l : Live) (rising : AreRising 0 t.live t.registered) (at : IsAtRoot t stacks memory id next s) (step : live_from next t.live ≡ l ∷ live_from after t.live) (now : List ℕ) (alike : now ≡ memory) where
  pub root_state : HasListed t stacks now s at.roots at.roots
  root_state = subst (λ m. HasListed t stacks m s at.roots at.roots) (sym alike) at.state

  split_here : filter (needs 0) (blocks_of t) ≡ at.roots ++ filter (needs 0) (l.tracked.block ∷ blocks_on (live_from after t.live))
  split_here = at.split ∙ ap (λ ls. at.roots ++ filter (needs 0) (blocks_on ls)) step

  root_here : needs 0 l.tracked.block ≡ true → filter (needs 0) (blocks_of t) ≡ at.roots ++ l.tracked.block ∷ filter (needs 0) (blocks_on (live_from after t.live))
  root_here e = split_here ∙ ap (λ q. at.roots ++ cond q (l.tracked.block ∷ filter (needs 0) (blocks_on (live_from after t.live))) (filter (needs 0) (blocks_on (live_from after t.live)))) e

  -- a root that comes isn't listed yet
  pub root_is_new : needs 0 l.tracked.block ≡ true → is_member at.roots l.tracked.block ≡ false
  root_is_new e = each_none (λ (c : Block). c.id == l.tracked.block.id) at.roots (λ x i.
      let lt = pairs_before (λ (b c : Block). b.id < c.id) at.roots (filter (needs 0) (blocks_on (live_from after t.live))) l.tracked.block
      (subst (λ bs. Pairs (λ (b c : Block). b.id < c.id) bs) (root_here e) (pairs_filter (λ (b c : Block). b.id < c.id) (needs 0) (blocks_of t) (ids_rise 0 t.registered t.live rising).0)) x i in
      ne_eqb x.id l.tracked.block.id (λ f. omega (arith, lt, f)))

  pub root_goes_on : (u : Search) (found : Bool) → found ≡ (needs 0 l.tracked.block && (l.tracked.block.id == id)) → found ≡ false
      → HasAppended t stacks now u (at.roots ++ filter (needs 0) (l.tracked.block ∷ [])) found → IsAtRoot t stacks memory id after u
  root_goes_on u found is none h = record {
    roots = at.roots ++ filter (needs 0) (l.tracked.block ∷ []);
    split = split_here ∙ ap (λ bs. at.roots ++ bs) (filter_first l.tracked.block (blocks_on (live_from after t.live))) ∙ sym (append_assoc at.roots (filter (needs 0) (l.tracked.block ∷ [])) (filter (needs 0) (blocks_on (live_from after t.live))));
    state = subst (λ m. HasListed t stacks m u (at.roots ++ filter (needs 0) (l.tracked.block ∷ [])) (at.roots ++ filter (needs 0) (l.tracked.block ∷ []))) alike (h.state none);
    out = go (needs 0 l.tracked.block) (sym is ∙ none);
  }
    where
      go : (q : Bool) → (q && (l.tracked.block.id == id)) ≡ false → has_id id (at.roots ++ cond q (l.tracked.block ∷ []) []) ≡ false
      go true e = out_push id at.roots l.tracked.block at.out e
      go false e = subst (λ bs. has_id id bs ≡ false) (sym (append-nil at.roots)) at.out

  pub root_found : (u : Search) (found : Bool) → found ≡ (needs 0 l.tracked.block && (l.tracked.block.id == id)) → found ≡ true
      → HasAppended t stacks now u (at.roots ++ filter (needs 0) (l.tracked.block ∷ [])) found → IsAnswered t stacks memory u.members.items id true
  root_found u found is some h =
      let both = and_parts (needs 0 l.tracked.block) (l.tracked.block.id == id) (sym is ∙ some) in
      let same : l.tracked.block.id ≡ id = eqb-true l.tracked.block.id id both.1 in
      let ends = root_next (standing_of t stacks true memory) at.roots (filter (needs 0) (blocks_on (live_from after t.live))) l.tracked.block (root_here both.0) (subst (λ n. has_id n at.roots ≡ false) (sym same) at.out) in
      record {
        held_is = sym (ap (is_held (standing_of t stacks true memory)) (sym same) ∙ ends.held);
        told = h.told ∙ ap (λ m. members_in t (standing_of t stacks true m) (at.roots ++ filter (needs 0) (l.tracked.block ∷ []))) alike ∙ ap (λ q. members_in t (standing_of t stacks true memory) (at.roots ++ cond q (l.tracked.block ∷ []) [])) both.0
            ∙ ap (members_in t (standing_of t stacks true memory)) (sym ends.list ∙ ap (list_of (standing_of t stacks true memory)) same);
      }

pub roots_end : (t : Tracker) (stacks : List Task) (memory : List ℕ) (id : ℕ) (next : Option RecId) (s : Search) → IsAtRoot t stacks memory id next s → next ≡ None → HasRoots t stacks memory s id
roots_end t stacks memory id next s at e =
    let all : filter (needs 0) (blocks_of t) ≡ at.roots = at.split ∙ ap (λ (o : Option RecId). at.roots ++ filter (needs 0) (blocks_on (live_from o t.live))) e ∙ append-nil at.roots in
    record {
      state = subst (λ bs. HasListed t stacks memory s bs bs) (sym all) at.state;
      out = ap (has_id id) all ∙ at.out;
    }

-- the others
pub others_begin : (t : Tracker) (stacks : List Task) (memory : List ℕ) (id : ℕ) (s : Search) → HasRoots t stacks memory s id → IsAtOther t stacks memory id s
others_begin t stacks memory id s h = record {
  members = filter (needs 0) (blocks_of t);
  state = h.state;
  prefix = prefix_begins (standing_of t stacks true memory);
  roots = in_each (λ (b : Block). needs 0 b ≡ true → is_member (filter (needs 0) (blocks_of t)) b ≡ true) (blocks_of t) (λ b i e. member_in (filter (needs 0) (blocks_of t)) b (in_filter (needs 0) (blocks_of t) b i e));
  out = h.out;
}

-- a list with no such block is all that there is up to it
up_to_all : (id : ℕ) (bs : List Block) → has_id id bs ≡ false → up_to id bs ≡ bs
up_to_all id [] e = refl
up_to_all id (b ∷ bs) e = go (up_to_all id bs) (b.id == id) e
  where
    go : (has_id id bs ≡ false → up_to id bs ≡ bs) → (q : Bool) → (q || has_id id bs) ≡ false → (if q then b ∷ [] else b ∷ up_to id bs) ≡ b ∷ bs
    go rest true f = absurd (elim_false (sym f))
    go rest false f = ap (λ xs. b ∷ xs) (rest f)

module _ (t : Tracker) (stacks : List Task) (memory : List ℕ) (id : ℕ) (s : Search) (rising : AreRising 0 t.live t.registered) (at : IsAtOther t stacks memory id s) (now : List ℕ) (alike : now ≡ memory) where
  stands : StandsFor t stacks true memory at.members s.counts.items
  stands = record {
    rising = rising;
    laid = at.state.laid;
    inside = inside t stacks memory s at.members at.members at.state;
    apart = at.state.apart;
    roots = at.roots;
    counted = at.state.table;
  }

  follows : (key : Key) (f : IsFirst t.live s.counts.items at.members key) → IsPrefix (standing_of t stacks true memory) (at.members ++ (f.it).tracked.block ∷ [])
  follows key f = prefix_goes_on (standing_of t stacks true memory) at.members (f.it).tracked.block at.prefix (first_follows t stacks true memory at.members s.counts.items stands key f)

  -- the first that waits comes next
  pub other_next : (keys : List Key) (len capacity : ℕ) (key : Key) (k : IsTaken t.live s.counts.items at.members keys len capacity key) (u : Search) → u.counts.items ≡ s.counts.items → heap_items u.waiting ≡ keys → heap_len u.waiting ≡ len → heap_capacity u.waiting ≡ capacity
      → u.members.items ≡ s.members.items → vec_len u.members ≡ vec_len s.members → vec_capacity u.members ≡ vec_capacity s.members
      → HasListed t stacks now u at.members (at.members ++ (k.first.it).tracked.block ∷ [])
  other_next keys len capacity key k u counts items long room members many places =
      subst (λ m. HasListed t stacks m u at.members (at.members ++ (k.first.it).tracked.block ∷ [])) (sym alike)
      (record {
        laid = at.state.laid;
        table = subst (λ cs. AreCounted memory (blocks_of t) (sources stacks at.members) cs) (sym counts) at.state.table;
        waiting = subst (λ cs. AreWaiting t.live cs (at.members ++ (k.first.it).tracked.block ∷ []) (heap_items u.waiting) (heap_len u.waiting) (heap_capacity u.waiting)) (sym counts)
            (subst (λ ks. AreWaiting t.live s.counts.items (at.members ++ (k.first.it).tracked.block ∷ []) ks (heap_len u.waiting) (heap_capacity u.waiting)) (sym items)
            (subst (λ n. AreWaiting t.live s.counts.items (at.members ++ (k.first.it).tracked.block ∷ []) keys n (heap_capacity u.waiting)) (sym long)
            (subst (λ n. AreWaiting t.live s.counts.items (at.members ++ (k.first.it).tracked.block ∷ []) keys len n) (sym room) k.waiting)));
        told = members ∙ at.state.told;
        len = many ∙ at.state.len;
        apart = (apart_push t (length memory) stacks at.members (k.first.it).tracked.block at.state.laid (are_apart t stacks memory s at.members at.members at.state) (in_blocks t.live k.first.it k.first.there) fresh).apart;
        places = subst (λ cs. length memory ≤ length cs) (sym counts) at.state.places;
        room = subst (λ n. length memory ≤ n) (sym places) at.state.room;
      })
    where
      fresh : is_member at.members (k.first.it).tracked.block ≡ false
      fresh = not_true (is_member at.members (k.first.it).tracked.block) (and_parts (is_ripe s.counts.items (k.first.it).tracked.block) (not (is_member at.members (k.first.it).tracked.block)) k.first.waits).1

  pub other_goes_on : (key : Key) (f : IsFirst t.live s.counts.items at.members key) (u : Search) → ((f.it).tracked.block.id == id) ≡ false
      → HasListed t stacks now u (at.members ++ (f.it).tracked.block ∷ []) (at.members ++ (f.it).tracked.block ∷ []) → IsAtOther t stacks memory id u
  other_goes_on key f u none h = record {
    members = at.members ++ (f.it).tracked.block ∷ [];
    state = subst (λ m. HasListed t stacks m u (at.members ++ (f.it).tracked.block ∷ []) (at.members ++ (f.it).tracked.block ∷ [])) alike h;
    prefix = follows key f;
    roots = each_weaker (λ (b : Block). needs 0 b ≡ true → is_member at.members b ≡ true) (λ (b : Block). needs 0 b ≡ true → is_member (at.members ++ (f.it).tracked.block ∷ []) b ≡ true)
        (λ b g e. list_any-append (λ (x : Block). x.id == b.id) at.members ((f.it).tracked.block ∷ []) ∙ or_left (is_member at.members b) (((f.it).tracked.block.id == b.id) || false) (g e)) (blocks_of t) at.roots;
    out = out_push id at.members (f.it).tracked.block at.out none;
  }

  pub other_found : (key : Key) (f : IsFirst t.live s.counts.items at.members key) (u : Search) → ((f.it).tracked.block.id == id) ≡ true
      → u.members.items ≡ members_in t (standing_of t stacks true now) (at.members ++ (f.it).tracked.block ∷ []) → IsAnswered t stacks memory u.members.items id true
  other_found key f u some told =
      let same : (f.it).tracked.block.id ≡ id = eqb-true (f.it).tracked.block.id id some in
      let ends = comes_next (standing_of t stacks true memory) at.members (f.it).tracked.block (follows key f) (subst (λ n. has_id n at.members ≡ false) (sym same) at.out) in
      record {
        held_is = sym (ap (is_held (standing_of t stacks true memory)) (sym same) ∙ ends.held);
        told = told ∙ ap (λ m. members_in t (standing_of t stacks true m) (at.members ++ (f.it).tracked.block ∷ [])) alike ∙ ap (members_in t (standing_of t stacks true memory)) (sym ends.list ∙ ap (list_of (standing_of t stacks true memory)) same);
      }

  pub others_end : ((l : Live) → In l t.live → is_waiting s.counts.items at.members l.tracked.block ≡ false) → IsAnswered t stacks memory s.members.items id false
  others_end none =
      let all = prefix_ends (standing_of t stacks true memory) at.members at.prefix (none_follows t stacks true memory at.members s.counts.items stands none) in
      record {
        held_is = sym (not_in_all (standing_of t stacks true memory) at.members id all at.out);
        told = at.state.told ∙ ap (members_in t (standing_of t stacks true memory)) (sym (ap (up_to id) all ∙ up_to_all id at.members at.out));
      }

pub keeps_same : (s : Search) → KeepsPlaces s s
keeps_same s = record { counts = refl; waiting = omega arith; members = refl }

pub keeps_then : (s u v : Search) → KeepsPlaces s u → KeepsPlaces u v → KeepsPlaces s v
keeps_then s u v k l = record {
  counts = l.counts ∙ k.counts;
  waiting = (let a = k.waiting in let b = l.waiting in omega (arith, a, b));
  members = l.members ∙ k.members;
}

pub can_after : (u v : Told) (t : Tracker) → CanSearch u t → TellsSame u v → CanSearch v t
can_after u v t can same = record {
  told = tells_after u v can.told same;
  small = subst (λ n. n ≤ 4194304) (sym same.size) can.small;
  rising = can.rising;
  spread = subst (λ n. AreSpread n t) (sym same.size) can.spread;
}

-- a walk that stands on a live block
pub record IsStop (t : Tracker) (next : Option RecId) (id : RecId) : Type 0 where
  pub it : Live
  pub there : live_with id t ≡ Some it
  pub live : is_live id t ≡ true
  pub split : live_from next t.live ≡ it ∷ live_from (option_map id_of (live_behind id t.live)) t.live
  pub tour : (after : Option RecId) → after ≡ option_map id_of (live_behind id t.live) → IsTour t.live after

pub tour_stops : (t : Tracker) (next : Option RecId) (id : RecId) → AreRising 0 t.live t.registered → IsTour t.live next → next ≡ Some id → IsStop t next id
tour_stops t next id rising w e =
    let s = stands_on (λ _. 0) 0 t.live t.registered next 0 id w rising e in
    let was : t.live ≡ (w.prefix ++ s.it ∷ []) ++ s.more = w.was ∙ ap (λ ls. w.prefix ++ ls) s.there ∙ sym (append_assoc w.prefix (s.it ∷ []) s.more) in
    record {
      it = s.it;
      there = s.found;
      live = is_there t id s.it s.found;
      split = walk_left (λ _. 0) 0 t.live t.registered next 0 w rising ∙ s.there
          ∙ ap (λ ls. s.it ∷ ls) (sym (ap (λ (o : Option RecId). live_from o t.live) (ap (option_map id_of) s.behind) ∙ ap (live_from (option_map id_of (first_live s.more))) was
          ∙ from_rest 0 t.registered (w.prefix ++ s.it ∷ []) s.more (subst (λ ls. AreRising 0 ls t.registered) was rising)));
      tour = λ after n. walk_goes_on (λ _. 0) 0 t.live next after 0 0 id w s refl n;
    }

-- a block is that of a key
pub by_key : (t : Tracker) (id : RecId) (l : Live) → AreRising 0 t.live t.registered → In l t.live → key_of (id_of l) ≡ key_of id → live_with id t ≡ Some l
by_key t id l rising i e = subst (λ (x : RecId). live_with x t ≡ Some l) (same_id (ap (λ (k : Key). k.1) e) (ap (λ (k : Key). k.0.0) e)) (found_at 0 t.registered t.live l rising i)
  where
    rec : ℕ → ℕ → RecId
    rec m n = record { slot = m; generation = n }

    same_id : l.slot ≡ id.slot → l.tracked.block.id ≡ id.generation → id_of l ≡ id
    same_id f g = ap (λ n. rec n l.tracked.block.id) f ∙ ap (rec id.slot) g

pub key_number : (id : RecId) (l : Live) → key_of (id_of l) ≡ key_of id → l.tracked.block.id ≡ id.generation
key_number id l e = ap (λ (k : Key). k.0.0) e

pub stop_split : (t : Tracker) (next after : Option RecId) (id : RecId) (stop : IsStop t next id) → after ≡ option_map id_of (live_behind id t.live) → live_from next t.live ≡ stop.it ∷ live_from after t.live
stop_split t next after id stop e = stop.split ∙ ap (λ (o : Option RecId). stop.it ∷ live_from o t.live) (sym e)

pub stop_smaller : (t : Tracker) (next after : Option RecId) (id : RecId) (stop : IsStop t next id) → after ≡ option_map id_of (live_behind id t.live) → length (live_from after t.live) < length (live_from next t.live)
stop_smaller t next after id stop e = let more = ap length (stop_split t next after id stop e) in omega (arith, more)

pub fewer_left : (n m a b c : ℕ) → n ≡ m → b ≡ a + 1 → a ≡ c → c < m → n - b < n - a
fewer_left n m a b c e f g h = omega (arith, e, f, g, h)
