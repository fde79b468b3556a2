-- A table that is cleared, block after block.
use Rattle.std.proofs.Common.{◌≡◌, ℕ, ◌+◌, ◌-◌, ◌<◌, ◌==◌, inl, inr, ◌⊎◌, Bool, true, false, ◌&&◌, not, List, [], ◌∷◌, length, set, sum_by, Option, Some, None, map, refl, sym, ◌∙◌, ap, subst, arith, eq-eqb, option_map, if◌then◌else◌}
use Rattle.std.proofs.lemmas.List.Sums.{sum_by-cons}
use Rattle.std.proofs.Math.ListN.{length-set}
use Rattle.km_base.specs.declared.spans.Span.{Span}
use Rattle.km_model.proofs.Lists.{In}
use Rattle.km_model.specs.Blocks.{Block, is_black, option_is, references_of}
use Rattle.km_model.specs.Memory.{index_of}
use Rattle.km_record.specs.declared.kinds.RecId.{RecId}
use Rattle.km_record.specs.declared.record.Record.{Record}
use Rattle.km_record.specs.Records.{block_of}
use Rattle.km_state.specs.State.{blocks_in}
use Rattle.km_track.specs.Tracker.{AreRising, Live, Tracker, first_live, id_of, live_behind, live_from, live_with, tracked_of}
use Rattle.km_track.proofs.Lives.{from_rest}
use Rattle.km_why.specs.Told.{blocks_of}
use Rattle.km_why.specs.References.{found_in, passed_to, span_of}
use Rattle.km_why.specs.declared.counts.Count.{Count}
use Rattle.km_why.specs.Counts.{AreCounted, count_at, none_found}
use Rattle.km_why.proofs.Counted.{at_place}
use Rattle.km_why.proofs.Chosen.{record_is}
use Rattle.km_why.proofs.Heads.{IsWalk, blocks_on, walk_begins, walk_steps}

-- a walk from block to block
abbrev pub IsTour : List Live → Option RecId → Type 0
IsTour live next = IsWalk (λ _. 0) 0 live next 0

-- nothing is found at a block
abbrev pub IsNone : List Count → Block → Type 0
IsNone cs b = count_at cs (index_of b.start) ≡ none_found

-- nothing is found at the blocks that a walk has passed
pub record IsClearing (t : Tracker) (next : Option RecId) (old now : List Count) : Type 0 where
  pub tour : IsTour t.live next
  pub none : (b : Block) → In b (blocks_of t) → IsNone now b ⊎ In b (blocks_on (live_from next t.live))
  pub long : length now ≡ length old

pub on_is : (ls : List Live) → blocks_in (map (λ (l : Live). l.tracked) ls) ≡ blocks_on ls
on_is [] = refl
on_is (l ∷ ls) = ap (λ bs. l.tracked.block ∷ bs) (on_is ls)

pub clearing_begins : (t : Tracker) (next : Option RecId) (old : List Count) → AreRising 0 t.live t.registered → next ≡ option_map id_of (first_live t.live) → IsClearing t next old old
clearing_begins t next old rising e =
    let all : live_from next t.live ≡ t.live = ap (λ (o : Option RecId). live_from o t.live) e ∙ from_rest 0 t.registered [] t.live rising in
    record {
      tour = walk_begins (λ _. 0) 0 t.live next e;
      none = λ b i. inr (subst (λ bs. In b bs) (on_is t.live ∙ ap blocks_on (sym all)) i);
      long = refl;
    }

-- the block that is reset
pub record_live : (t : Tracker) (id : RecId) (r : Record) → Some (record { slot = id.slot; tracked = tracked_of id.generation r }) ≡ live_with id t → In (block_of id.generation r) (blocks_of t)
record_live t id r e = let at = record_is t id r e in subst (λ (b : Block). In b (blocks_of t)) at.same at.live

pub record_within : (t : Tracker) (next : Option RecId) (old now : List Count) (id : RecId) (r : Record) → IsClearing t next old now → ((b : Block) → In b (blocks_of t) → index_of b.start < length old)
    → Some (record { slot = id.slot; tracked = tracked_of id.generation r }) ≡ live_with id t → index_of r.span.start.0 < length now
record_within t next old now id r w room e = subst (λ n. index_of r.span.start.0 < n) (sym w.long) (room (block_of id.generation r) (record_live t id r e))

-- after one more block
pub record IsFurther (t : Tracker) (next after : Option RecId) (old later : List Count) : Type 0 where
  pub clearing : IsClearing t after old later
  pub smaller : length (live_from after t.live) < length (live_from next t.live)

pub clearing_goes_on : (t : Tracker) (next after : Option RecId) (old now later : List Count) (id : RecId) (r : Record) → AreRising 0 t.live t.registered → IsClearing t next old now → next ≡ Some id
    → Some (record { slot = id.slot; tracked = tracked_of id.generation r }) ≡ live_with id t → index_of r.span.start.0 < length now → later ≡ set now (index_of r.span.start.0) none_found
    → after ≡ option_map id_of (live_behind id t.live) → IsFurther t next after old later
clearing_goes_on t next after old now later id r rising w e found lt is n =
    let s = walk_steps (λ _. 0) 0 t next after 0 0 id r rising w.tour e found refl n in
    let more = ap length s.split in
    record {
      clearing = record {
        tour = s.walk;
        none = λ b i. passed b (ap blocks_on s.split) (w.none b i);
        long = ap length is ∙ length-set now (index_of r.span.start.0) none_found ∙ w.long;
      };
      smaller = omega (arith, more);
    }
  where
    either : (q : Bool) (c : Count) → c ≡ none_found → (if q then none_found else c) ≡ none_found
    either true c f = refl
    either false c f = f

    at : (q : ℕ) → count_at later q ≡ (if index_of r.span.start.0 == q then none_found else count_at now q)
    at q = ap (λ cs. count_at cs q) is ∙ at_place now (index_of r.span.start.0) q none_found lt

    here : IsNone later (tracked_of id.generation r).block
    here = at (index_of r.span.start.0) ∙ ap (λ q. if q then none_found else count_at now (index_of r.span.start.0)) (eq-eqb (index_of r.span.start.0) (index_of r.span.start.0) refl)

    left : (b : Block) → In b ((tracked_of id.generation r).block ∷ blocks_on (live_from after t.live)) → IsNone later b ⊎ In b (blocks_on (live_from after t.live))
    left b (inl same) = inl (subst (IsNone later) (sym same) here)
    left b (inr j) = inr j

    passed : (b : Block) → blocks_on (live_from next t.live) ≡ (tracked_of id.generation r).block ∷ blocks_on (live_from after t.live) → IsNone now b ⊎ In b (blocks_on (live_from next t.live))
        → IsNone later b ⊎ In b (blocks_on (live_from after t.live))
    passed b split (inl f) = inl (at (index_of b.start) ∙ either (index_of r.span.start.0 == index_of b.start) (count_at now (index_of b.start)) f)
    passed b split (inr j) = left b (subst (λ bs. In b bs) split j)

none_passed : (memory : List ℕ) (to : Span) (bs : List Block) → sum_by (passed_to memory [] to) bs ≡ 0
none_passed memory to [] = refl
none_passed memory to (h ∷ bs) = sum_by-cons (passed_to memory [] to) h bs ∙ ap (λ n. n + sum_by (passed_to memory [] to) bs) (none (option_is h.excess to.start.0 && not (is_black h))) ∙ ap (λ n. 0 + n) (none_passed memory to bs)
  where
    none : (q : Bool) → (if q then 0 - references_of h else 0) ≡ 0
    none true = omega arith
    none false = refl

pub nothing_found : (memory : List ℕ) (bs : List Block) (b : Block) → found_in memory bs [] b ≡ 0
nothing_found memory bs b = ap (λ n. 0 + n) (none_passed memory (span_of b) bs)

-- a table that is cleared stands for no words
pub cleared : (memory : List ℕ) (t : Tracker) (next : Option RecId) (old now : List Count) → IsClearing t next old now → next ≡ None → AreCounted memory (blocks_of t) [] now
cleared memory t next old now w e = record {
  found = λ b i. ap (λ (c : Count). c.found) (none b i) ∙ sym (nothing_found memory (blocks_of t) b);
  outside = λ h b i j is black. ap (λ (c : Count). c.outside) (none h i);
  few = λ b i. let nothing = nothing_found memory (blocks_of t) b in omega (arith, nothing);
  fewer = λ b i. let f = ap (λ (c : Count). c.outside) (none b i) in omega (arith, f);
}
  where
    over : (b : Block) → IsNone now b ⊎ In b (blocks_on (live_from next t.live)) → IsNone now b
    over b (inl f) = f
    over b (inr j) = absurd (subst (λ (o : Option RecId). In b (blocks_on (live_from o t.live))) e j)

    none : (b : Block) → In b (blocks_of t) → IsNone now b
    none b i = over b (w.none b i)
