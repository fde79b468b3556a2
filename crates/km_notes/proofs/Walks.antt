-- The walk over the listed blocks, and the lines that it writes.
use Rattle.std.proofs.Common.{◌≡◌, ℕ, suc, ◌<◌, ◌≤◌, true, false, List, [], ◌∷◌, ◌++◌, length, map, filter, cond, Option, Some, None, option_map, refl, sym, ap, ◌∙◌, subst, arith, append_assoc, length-append}
use Rattle.std.specs.Prelude.{find}
use Rattle.std.proofs.lemmas.List.{append-nil}
use Rattle.std.proofs.lemmas.List.Concat.{flat_map-cons}
use Rattle.km_edge.specs.Streams.{SinkState, Wrote}
use Rattle.km_edge.proofs.Writing.{wrote_more, wrote_none}
use Rattle.km_model.specs.Blocks.{Block}
use Rattle.km_record.specs.declared.kinds.RecId.{RecId}
use Rattle.km_state.specs.State.{blocks_in, is_listed_now}
use Rattle.km_track.specs.Tracker.{AreRising, Live, Tracker, id_of, is_id, is_live, live_with}
use Rattle.km_scan.proofs.Held.{found_any}
use Rattle.km_track.proofs.Lives.{finds_it}
use Rattle.km_verdict.specs.Listing.{behind, listed_in}
use Rattle.km_verdict.proofs.Listings.{behind_its}
use Rattle.km_machine.proofs.Pieces.{Stops, stops_behind, stops_early}
use Rattle.km_entries.specs.File.{listed_text}
use Rattle.km_notes.specs.Notes.{listed_line, starts_in}

-- the lines of the listed ones of these blocks
abbrev pub lines_in : List Live → List ℕ
lines_in ls = listed_text (starts_in ls)

-- the first listed one of some live blocks
record Found (ls : List Live) (id : RecId) : Type 0 where
  pub passed : List Live
  pub it : Live
  pub more : List Live
  pub there : ls ≡ passed ++ it ∷ more
  pub its : id ≡ id_of it
  pub starts : starts_in ls ≡ it.tracked.block.start ∷ starts_in more

finds : (ls : List Live) (id : RecId) → Some id ≡ listed_in ls → Found ls id
finds [] id e = absurd (let z : ⊥ = cc in z)
finds (l ∷ ls) id e =
    let rest = filter is_listed_now (map (λ (x : Live). x.tracked) ls) in
    elim (is_listed_now l.tracked) as (λ b. Some id ≡ option_map id_of (cond b (Some l) (find (λ (x : Live). is_listed_now x.tracked) ls))
    → starts_in (l ∷ ls) ≡ map (λ (x : Block). x.start) (blocks_in (cond b (l.tracked ∷ rest) rest)) → Found (l ∷ ls) id) [
      | true ↦ λ f t. record { passed = []; it = l; more = ls; there = refl; its = cc; starts = t }
      | false ↦ λ f t.
          let r = finds ls id f in
          record { passed = l ∷ r.passed; it = r.it; more = r.more; there = ap (λ xs. l ∷ xs) r.there; its = r.its; starts = t ∙ r.starts }
    ] e refl

finds_none : (ls : List Live) → None ≡ listed_in ls → starts_in ls ≡ []
finds_none [] e = refl
finds_none (l ∷ ls) e =
    let rest = filter is_listed_now (map (λ (x : Live). x.tracked) ls) in
    elim (is_listed_now l.tracked) as (λ b. None ≡ option_map id_of (cond b (Some l) (find (λ (x : Live). is_listed_now x.tracked) ls)) → map (λ (x : Block). x.start) (blocks_in (cond b (l.tracked ∷ rest) rest)) ≡ []) [
      | true ↦ λ f. absurd (let z : ⊥ = cc in z)
      | false ↦ λ f. finds_none ls f
    ] e

-- a walk over the listed blocks: what it has passed by and the rest, and what it wrote
pub record Walk (t : Tracker) (k k' : SinkState) (next : Option RecId) : Type 0 where
  pub front : List Live
  pub rest : List Live
  pub was : t.live ≡ front ++ rest
  pub at : next ≡ listed_in rest
  pub done : List ℕ
  pub text : lines_in t.live ≡ done ++ lines_in rest
  pub wrote : Wrote k k' done

-- how many blocks it may still come to, at most
abbrev pub left : Option RecId → List Live → ℕ
left None ls = 0
left (Some id) ls = suc (length (behind id ls))

pub walk_begins : (t : Tracker) (k : SinkState) (next : Option RecId) → next ≡ listed_in t.live → Walk t k k next
walk_begins t k next e = record { front = []; rest = t.live; was = refl; at = e; done = []; text = refl; wrote = wrote_none k }

-- the block that it stands on
record At (t : Tracker) (done : List ℕ) (rest : List Live) (id : RecId) : Type 0 where
  pub it : Live
  pub more : List Live
  pub passed : List Live
  pub there : rest ≡ passed ++ it ∷ more
  pub found : live_with id t ≡ Some it
  pub behind : behind id t.live ≡ more
  pub text : done ++ lines_in rest ≡ (done ++ listed_line it.tracked.block.start) ++ lines_in more

stands : (t : Tracker) (k k' : SinkState) (next : Option RecId) (id : RecId) (w : Walk t k k' next) → AreRising 0 t.live t.registered → next ≡ Some id → At t w.done w.rest id
stands t k k' next id w rising e =
    let f = finds w.rest id (sym e ∙ w.at) in
    let was : t.live ≡ w.front ++ f.passed ++ f.it ∷ f.more = w.was ∙ ap (λ ls. w.front ++ ls) f.there ∙ sym (append_assoc w.front f.passed (f.it ∷ f.more)) in
    let rises = subst (λ ls. AreRising 0 ls t.registered) was rising in
    let line = listed_line f.it.tracked.block.start in
    record {
      it = f.it;
      more = f.more;
      passed = f.passed;
      there = f.there;
      found = subst (λ (i : RecId). find (is_id i) t.live ≡ Some f.it) (sym f.its) (subst (λ ls. find (is_id (id_of f.it)) ls ≡ Some f.it) (sym was) (finds_it 0 t.registered (w.front ++ f.passed) f.more f.it rises));
      behind = subst (λ (i : RecId). behind i t.live ≡ f.more) (sym f.its) (subst (λ ls. behind (id_of f.it) ls ≡ f.more) (sym was) (behind_its 0 t.registered (w.front ++ f.passed) f.more f.it rises));
      text = ap (λ xs. w.done ++ listed_text xs) f.starts ∙ ap (λ xs. w.done ++ xs) (flat_map-cons listed_line f.it.tracked.block.start (starts_in f.more)) ∙ sym (append_assoc w.done line (lines_in f.more));
    }

-- what is written of a block
abbrev pub WritesLine : Tracker → RecId → (List ℕ → Type 0) → Type 0
WritesLine t id Writes = (l : Live) → live_with id t ≡ Some l → Writes (listed_line l.tracked.block.start)

pub walk_is_live : (t : Tracker) (k k' : SinkState) (next : Option RecId) (id : RecId) → Walk t k k' next → AreRising 0 t.live t.registered → next ≡ Some id → is_live id t ≡ true
walk_is_live t k k' next id w rising e = let s = stands t k k' next id w rising e in found_any (is_id id) t.live s.it s.found

within : (t : Tracker) (k k' : SinkState) (next : Option RecId) (w : Walk t k k' next) → AreRising 0 t.live t.registered → (o : Option RecId) → next ≡ o → left o t.live ≤ length w.rest
within t k k' next w rising None e = omega arith
within t k k' next w rising (Some id) e =
    let s = stands t k k' next id w rising e in
    omega (arith, ap length s.behind, ap length s.there, length-append s.passed (s.it ∷ s.more))

-- it goes on after a block whose line is written
pub walk_goes_on : (t : Tracker) (k k' k'' : SinkState) (next after : Option RecId) (id : RecId) → Walk t k k' next → AreRising 0 t.live t.registered → next ≡ Some id
    → after ≡ listed_in (behind id t.live) → WritesLine t id (λ xs. Wrote k' k'' xs) → Walk t k k'' after × (left after t.live < left next t.live)
walk_goes_on t k k' k'' next after id w rising e on writes =
    let s = stands t k k' next id w rising e in
    let line = listed_line s.it.tracked.block.start in
    let g : Walk t k k'' after = record {
      front = w.front ++ s.passed ++ s.it ∷ [];
      rest = s.more;
      was = w.was ∙ ap (λ ls. w.front ++ ls) s.there ∙ sym (append_assoc w.front s.passed (s.it ∷ s.more)) ∙ sym (append_assoc (w.front ++ s.passed) (s.it ∷ []) s.more);
      at = on ∙ ap listed_in s.behind;
      done = w.done ++ line;
      text = w.text ∙ s.text;
      wrote = wrote_more k k' k'' w.done line w.wrote (writes s.it s.found);
    } in
    (g, omega (arith, within t k k'' after g rising after refl, ap length s.behind, ap (λ o. left o t.live) e))

-- it stops where a write fails
pub walk_stops : (t : Tracker) (k k' k'' : SinkState) (next : Option RecId) (id : RecId) → Walk t k k' next → AreRising 0 t.live t.registered → next ≡ Some id
    → WritesLine t id (λ xs. Stops k' k'' xs) → Stops k k'' (lines_in t.live)
walk_stops t k k' k'' next id w rising e fails =
    let s = stands t k k' next id w rising e in
    let line = listed_line s.it.tracked.block.start in
    subst (λ xs. Stops k k'' xs) (sym (w.text ∙ s.text))
    (stops_early k k'' (w.done ++ line) (lines_in s.more) (stops_behind k k' k'' w.done line w.wrote (fails s.it s.found)))

-- and ends where no listed block is left
pub walk_ends : (t : Tracker) (k k' : SinkState) (next : Option RecId) → Walk t k k' next → next ≡ None → Wrote k k' (lines_in t.live)
walk_ends t k k' next w e =
    subst (λ xs. Wrote k k' xs) (sym (w.text ∙ ap (λ xs. w.done ++ listed_text xs) (finds_none w.rest (sym e ∙ w.at)) ∙ append-nil w.done)) w.wrote
