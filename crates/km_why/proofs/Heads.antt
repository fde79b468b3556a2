-- A walk over all blocks that looks at the references that they pass on.
use Rattle.std.proofs.Common.{◌≡◌, ℕ, ◌+◌, ◌-◌, ◌<◌, ◌≤◌, Bool, true, false, ◌||◌, cond, List, [], ◌∷◌, ◌++◌, length, Option, Some, None, find, map, sum_by, refl, sym, ◌∙◌, ap, subst, arith, option_map}
use Rattle.std.specs.List.{list_any}
use Rattle.std.proofs.lemmas.List.{append_assoc}
use Rattle.std.proofs.lemmas.List.Sums.{sum_by-cons}
use Rattle.km_model.proofs.Cases.{none_some, some_same}
use Rattle.km_base.specs.declared.spans.Span.{Span}
use Rattle.km_model.specs.Blocks.{Block}
use Rattle.km_record.specs.declared.kinds.RecId.{RecId}
use Rattle.km_record.specs.declared.record.Record.{Record}
use Rattle.km_record.specs.Records.{block_of}
use Rattle.km_track.specs.Tracker.{AreRising, Live, Tracker, first_live, id_of, is_id, is_live, live_behind, live_from, live_with, tracked_of}
use Rattle.km_track.proofs.Lives.{finds_it, behind_it, from_rest}
use Rattle.km_words.specs.Told.{Told}
use Rattle.km_why.specs.Told.{TellsSame, memory_of}
use Rattle.km_why.specs.References.{passed_to}
use Rattle.km_why.proofs.Walks.{memory_same}

-- the blocks of live ones
abbrev pub blocks_on : List Live → List Block
blocks_on ls = map (λ (l : Live). l.tracked.block) ls

-- a walk, by what it has passed by and what is left, and how much is lacking there
pub record IsWalk (f : Block → ℕ) (wanted : ℕ) (live : List Live) (next : Option RecId) (lacking : ℕ) : Type 0 where
  pub prefix : List Live
  pub rest : List Live
  pub was : live ≡ prefix ++ rest
  pub at : next ≡ option_map id_of (first_live rest)
  pub still : wanted - sum_by f (blocks_on live) ≡ lacking - sum_by f (blocks_on rest)
  pub fewer : lacking ≤ wanted

pub walk_begins : (f : Block → ℕ) (wanted : ℕ) (live : List Live) (next : Option RecId) → next ≡ option_map id_of (first_live live) → IsWalk f wanted live next wanted
walk_begins f wanted live next e = record { prefix = []; rest = live; was = refl; at = e; still = refl; fewer = omega arith }

-- the block that it stands on
pub record StandsOn (live prefix rest : List Live) (id : RecId) : Type 0 where
  pub it : Live
  pub more : List Live
  pub there : rest ≡ it ∷ more
  pub found : find (is_id id) live ≡ Some it
  pub behind : live_behind id live ≡ first_live more

pub stands_on : (f : Block → ℕ) (wanted : ℕ) (live : List Live) (high : ℕ) (next : Option RecId) (lacking : ℕ) (id : RecId) (w : IsWalk f wanted live next lacking) → AreRising 0 live high → next ≡ Some id
    → StandsOn live w.prefix w.rest id
stands_on f wanted live high next lacking id w r e = on w.rest w.was (sym e ∙ w.at)
  where
    on : (rest : List Live) → live ≡ w.prefix ++ rest → Some id ≡ option_map id_of (first_live rest) → StandsOn live w.prefix rest id
    on [] was at = absurd (let z : ⊥ = cc in z)
    on (l ∷ rest) was at =
        let its : id ≡ id_of l = cc in
        let rising = subst (λ ls. AreRising 0 ls high) was r in
        record {
          it = l;
          more = rest;
          there = refl;
          found = subst (λ (i : RecId). find (is_id i) live ≡ Some l) (sym its) (subst (λ ls. find (is_id (id_of l)) ls ≡ Some l) (sym was) (finds_it 0 high w.prefix rest l rising));
          behind = subst (λ (i : RecId). live_behind i live ≡ first_live rest) (sym its) (subst (λ ls. live_behind (id_of l) ls ≡ first_live rest) (sym was) (behind_it 0 high w.prefix rest l rising));
        }

pub walk_goes_on : (f : Block → ℕ) (wanted : ℕ) (live : List Live) (next after : Option RecId) (lacking left : ℕ) (id : RecId) (w : IsWalk f wanted live next lacking) (s : StandsOn live w.prefix w.rest id)
    → left ≡ lacking - f s.it.tracked.block → after ≡ option_map id_of (live_behind id live) → IsWalk f wanted live after left
walk_goes_on f wanted live next after lacking left id w s e n =
    let one : sum_by f (blocks_on w.rest) ≡ f s.it.tracked.block + sum_by f (blocks_on s.more) = ap (λ ls. sum_by f (blocks_on ls)) s.there ∙ sum_by-cons f s.it.tracked.block (blocks_on s.more) in
    let still = w.still in let fewer = w.fewer in
    record {
      prefix = w.prefix ++ s.it ∷ [];
      rest = s.more;
      was = w.was ∙ ap (λ ls. w.prefix ++ ls) s.there ∙ sym (append_assoc w.prefix (s.it ∷ []) s.more);
      at = n ∙ ap (option_map id_of) s.behind;
      still = omega (arith, still, one, e);
      fewer = omega (arith, fewer, e);
    }

pub walk_over : (f : Block → ℕ) (wanted : ℕ) (live : List Live) (next : Option RecId) (lacking : ℕ) → IsWalk f wanted live next lacking → next ≡ None → lacking ≡ wanted - sum_by f (blocks_on live)
walk_over f wanted live next lacking w e = go w.rest (sym e ∙ w.at) w.still
  where
    go : (rest : List Live) → None ≡ option_map id_of (first_live rest) → wanted - sum_by f (blocks_on live) ≡ lacking - sum_by f (blocks_on rest) → lacking ≡ wanted - sum_by f (blocks_on live)
    go [] at still = let now : wanted - sum_by f (blocks_on live) ≡ lacking - 0 = still in omega (arith, now)
    go (l ∷ rest) at still = absurd (none_some (id_of l) at)

pub walk_left : (f : Block → ℕ) (wanted : ℕ) (live : List Live) (high : ℕ) (next : Option RecId) (lacking : ℕ) (w : IsWalk f wanted live next lacking) → AreRising 0 live high → live_from next live ≡ w.rest
walk_left f wanted live high next lacking w r =
    ap (λ (n : Option RecId). live_from n live) w.at ∙ ap (live_from (option_map id_of (first_live w.rest))) w.was ∙ from_rest 0 high w.prefix w.rest (subst (λ ls. AreRising 0 ls high) w.was r)

-- a walk that has gone on from a live block
pub record IsStep (f : Block → ℕ) (wanted : ℕ) (live : List Live) (next after : Option RecId) (left : ℕ) (l : Live) : Type 0 where
  pub walk : IsWalk f wanted live after left
  pub split : live_from next live ≡ l ∷ live_from after live

pub walk_steps : (f : Block → ℕ) (wanted : ℕ) (tracker : Tracker) (next after : Option RecId) (lacking left : ℕ) (id : RecId) (r : Record)
    → AreRising 0 tracker.live tracker.registered → IsWalk f wanted tracker.live next lacking → next ≡ Some id
    → Some (record { slot = id.slot; tracked = tracked_of id.generation r }) ≡ live_with id tracker
    → left ≡ lacking - f (block_of id.generation r) → after ≡ option_map id_of (live_behind id tracker.live)
    → IsStep f wanted tracker.live next after left (record { slot = id.slot; tracked = tracked_of id.generation r })
walk_steps f wanted tracker next after lacking left id r rising w e found is n =
    let l : Live = record { slot = id.slot; tracked = tracked_of id.generation r } in
    let s = stands_on f wanted tracker.live tracker.registered next lacking id w rising e in
    let it : s.it ≡ l = some_same s.it l (sym (found ∙ s.found)) in
    record {
      walk = walk_goes_on f wanted tracker.live next after lacking left id w s (is ∙ ap (λ (x : Live). lacking - f x.tracked.block) (sym it)) n;
      split = walk_left f wanted tracker.live tracker.registered next lacking w rising ∙ s.there ∙ ap (λ (x : Live). x ∷ s.more) it ∙ ap (λ ls. l ∷ ls) (sym (left_after s));
    }
  where
    left_after : (s : StandsOn tracker.live w.prefix w.rest id) → live_from after tracker.live ≡ s.more
    left_after s =
        let rising' = subst (λ ls. AreRising 0 ls tracker.registered) (w.was ∙ ap (λ ls. w.prefix ++ ls) s.there ∙ sym (append_assoc w.prefix (s.it ∷ []) s.more)) rising in
        ap (λ (o : Option RecId). live_from o tracker.live) (n ∙ ap (option_map id_of) s.behind)
        ∙ ap (live_from (option_map id_of (first_live s.more))) (w.was ∙ ap (λ ls. w.prefix ++ ls) s.there ∙ sym (append_assoc w.prefix (s.it ∷ []) s.more))
        ∙ from_rest 0 tracker.registered (w.prefix ++ s.it ∷ []) s.more rising'

-- a walk that looks at a head
pub record IsLook (f : Block → ℕ) (wanted : ℕ) (live : List Live) (next after : Option RecId) (left : ℕ) : Type 0 where
  pub walk : IsWalk f wanted live after left
  pub smaller : length (live_from after live) < length (live_from next live)

pub walk_looks : (t u : Told) (srcs : List ℕ) (to : Span) (wanted : ℕ) (tracker : Tracker) (next after : Option RecId) (lacking left : ℕ) (id : RecId) (r : Record)
    → TellsSame t u → AreRising 0 tracker.live tracker.registered → IsWalk (passed_to (memory_of t) srcs to) wanted tracker.live next lacking → next ≡ Some id
    → Some (record { slot = id.slot; tracked = tracked_of id.generation r }) ≡ live_with id tracker
    → left ≡ lacking - passed_to (memory_of u) srcs to (block_of 0 r) → after ≡ option_map id_of (live_behind id tracker.live)
    → IsLook (passed_to (memory_of t) srcs to) wanted tracker.live next after left
walk_looks t u srcs to wanted tracker next after lacking left id r same rising w e found is n =
    let s = walk_steps (passed_to (memory_of t) srcs to) wanted tracker next after lacking left id r rising w e found (is ∙ ap (λ m. lacking - passed_to m srcs to (block_of 0 r)) (memory_same t u same)) n in
    let more = ap length s.split in
    record { walk = s.walk; smaller = omega (arith, more) }

-- a live block is there
pub stands_live : (f : Block → ℕ) (wanted : ℕ) (tracker : Tracker) (next : Option RecId) (lacking : ℕ) (id : RecId) → AreRising 0 tracker.live tracker.registered → IsWalk f wanted tracker.live next lacking → next ≡ Some id
    → (l : Live) × (live_with id tracker ≡ Some l)
stands_live f wanted tracker next lacking id rising w e = let s = stands_on f wanted tracker.live tracker.registered next lacking id w rising e in (s.it, s.found)

live_any : (test : Live → Bool) (ls : List Live) (l : Live) → find test ls ≡ Some l → list_any test ls ≡ true
live_any test [] l e = absurd (none_some l e)
live_any test (x ∷ ls) l e = elim (test x) as (λ q. cond q (Some x) (find test ls) ≡ Some l → (q || list_any test ls) ≡ true) [ true ↦ λ _. refl | false ↦ λ g. live_any test ls l g ] e

pub is_there : (tracker : Tracker) (id : RecId) (l : Live) → live_with id tracker ≡ Some l → is_live id tracker ≡ true
is_there tracker id l e = live_any (is_id id) tracker.live l e
