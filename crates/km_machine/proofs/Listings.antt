-- The walk over the listed blocks, and the text that it writes.
use Rattle.std.proofs.Common.{◌≡◌, ℕ, suc, ◌<◌, ◌≤◌, true, false, List, [], ◌∷◌, ◌++◌, length, map, filter, cond, Option, Some, None, option_map, refl, sym, ap, ◌∙◌, subst, arith, append_assoc, length-append}
use Rattle.std.specs.Prelude.{find, flat_map}
use Rattle.std.proofs.lemmas.List.{append-nil}
use Rattle.std.proofs.lemmas.List.Concat.{flat_map-cons}
use Rattle.km_edge.specs.Streams.{SinkState, Wrote}
use Rattle.km_edge.proofs.Writing.{wrote_more, wrote_none}
use Rattle.km_core.specs.declared.settings.Settings.{Settings}
use Rattle.km_laws.specs.Placed.{BlockPlaced, InMemory, WholeWords}
use Rattle.km_laws.proofs.Laws.{all_is_placed}
use Rattle.km_model.specs.Placement.{Allocation}
use Rattle.km_model.specs.Follows.{Run, past_of}
use Rattle.km_model.specs.Output.{listing_text}
use Rattle.km_model.specs.Past.{world}
use Rattle.km_model.specs.Text.{entry}
use Rattle.km_model.proofs.Lists.{Each, each_in, find_each, in_each, map_in}
use Rattle.km_record.specs.declared.kinds.RecId.{RecId}
use Rattle.km_scan.proofs.Held.{found_any}
use Rattle.km_state.specs.State.{Tracked, blocks_in, is_listed_now, listing_in}
use Rattle.km_state.proofs.StandsLaws.{listing_stands}
use Rattle.km_track.specs.Tracker.{AreRising, Live, Tracker, id_of, is_id, is_live, live_with, tracked_in}
use Rattle.km_track.proofs.Lives.{finds_it}
use Rattle.km_verdict.specs.Listing.{behind, listed_in}
use Rattle.km_verdict.proofs.Listings.{behind_its}
use Rattle.km_machine.specs.Machines.{Simulation, For}
use Rattle.km_machine.proofs.Pieces.{Stops, stops_behind, stops_early}

-- the entries of the listed ones among live blocks
abbrev pub entries : ℕ → List ℕ → List Live → List ℕ
entries now memory ls = flat_map (entry now memory) (listing_in (map (λ (l : Live). l.tracked) ls))

-- live blocks lie in a memory of so many words
abbrev pub LieIn : ℕ → List Live → Type 0
LieIn words ls = Each (λ (l : Live). InMemory words l.tracked.block.start l.tracked.block.size) ls

-- the first listed one of some live blocks
pub record Found (now : ℕ) (memory : List ℕ) (ls : List Live) (id : RecId) : Type 0 where
  pub passed : List Live
  pub it : Live
  pub more : List Live
  pub there : ls ≡ passed ++ it ∷ more
  pub its : id ≡ id_of it
  pub text : entries now memory ls ≡ entry now memory it.tracked.block ++ entries now memory more

finds : (now : ℕ) (memory : List ℕ) (ls : List Live) (id : RecId) → Some id ≡ listed_in ls → Found now memory ls id
finds now memory [] id e = absurd (let z : ⊥ = cc in z)
finds now memory (l ∷ ls) id e =
    let rest = filter is_listed_now (map (λ (x : Live). x.tracked) ls) in
    elim (is_listed_now l.tracked) as (λ b. Some id ≡ option_map id_of (cond b (Some l) (find (λ (x : Live). is_listed_now x.tracked) ls))
    → entries now memory (l ∷ ls) ≡ flat_map (entry now memory) (blocks_in (cond b (l.tracked ∷ rest) rest)) → Found now memory (l ∷ ls) id) [
      | true ↦ λ f t. record { passed = []; it = l; more = ls; there = refl; its = cc; text = t ∙ flat_map-cons (entry now memory) l.tracked.block (blocks_in rest) }
      | false ↦ λ f t.
          let r = finds now memory ls id f in
          record { passed = l ∷ r.passed; it = r.it; more = r.more; there = ap (λ xs. l ∷ xs) r.there; its = r.its; text = t ∙ r.text }
    ] e refl

finds_none : (now : ℕ) (memory : List ℕ) (ls : List Live) → None ≡ listed_in ls → entries now memory ls ≡ []
finds_none now memory [] e = refl
finds_none now memory (l ∷ ls) e =
    let rest = filter is_listed_now (map (λ (x : Live). x.tracked) ls) in
    elim (is_listed_now l.tracked) as (λ b. None ≡ option_map id_of (cond b (Some l) (find (λ (x : Live). is_listed_now x.tracked) ls)) → flat_map (entry now memory) (blocks_in (cond b (l.tracked ∷ rest) rest)) ≡ []) [
      | true ↦ λ f. absurd (let z : ⊥ = cc in z)
      | false ↦ λ f. finds_none now memory ls f
    ] e

-- a walk over the listed blocks: what it has passed by and the rest, and what it wrote, where the blocks lie in the memory
pub record Listing (t : Tracker) (now : ℕ) (memory : List ℕ) (k k' : SinkState) (next : Option RecId) : Type 0 where
  pub front : List Live
  pub rest : List Live
  pub was : t.live ≡ front ++ rest
  pub at : next ≡ listed_in rest
  pub done : List ℕ
  pub text : entries now memory t.live ≡ done ++ entries now memory rest
  pub wrote : LieIn (length memory) t.live → Wrote k k' done

-- how many blocks it may still come to, at most
abbrev pub left : Option RecId → List Live → ℕ
left None ls = 0
left (Some id) ls = suc (length (behind id ls))

pub listing_begins : (t : Tracker) (now : ℕ) (memory : List ℕ) (k : SinkState) (next : Option RecId) → next ≡ listed_in t.live → Listing t now memory k k next
listing_begins t now memory k next e = record { front = []; rest = t.live; was = refl; at = e; done = []; text = refl; wrote = λ _. wrote_none k }

-- the block that it stands on
pub record ListedAt (t : Tracker) (now : ℕ) (memory done : List ℕ) (rest : List Live) (id : RecId) : Type 0 where
  pub it : Live
  pub more : List Live
  pub passed : List Live
  pub there : rest ≡ passed ++ it ∷ more
  pub found : live_with id t ≡ Some it
  pub behind : behind id t.live ≡ more
  pub text : done ++ entries now memory rest ≡ done ++ entry now memory it.tracked.block ++ entries now memory more

stands : (t : Tracker) (now : ℕ) (memory : List ℕ) (k k' : SinkState) (next : Option RecId) (id : RecId) (w : Listing t now memory k k' next) → AreRising 0 t.live t.registered → next ≡ Some id
    → ListedAt t now memory w.done w.rest id
stands t now memory k k' next id w rising e =
    let f = finds now memory w.rest id (sym e ∙ w.at) in
    let was : t.live ≡ w.front ++ f.passed ++ f.it ∷ f.more = w.was ∙ ap (λ ls. w.front ++ ls) f.there ∙ sym (append_assoc w.front f.passed (f.it ∷ f.more)) in
    let rises = subst (λ ls. AreRising 0 ls t.registered) was rising in
    record {
      it = f.it;
      more = f.more;
      passed = f.passed;
      there = f.there;
      found = subst (λ (i : RecId). find (is_id i) t.live ≡ Some f.it) (sym f.its) (subst (λ ls. find (is_id (id_of f.it)) ls ≡ Some f.it) (sym was) (finds_it 0 t.registered (w.front ++ f.passed) f.more f.it rises));
      behind = subst (λ (i : RecId). behind i t.live ≡ f.more) (sym f.its) (subst (λ ls. behind (id_of f.it) ls ≡ f.more) (sym was) (behind_its 0 t.registered (w.front ++ f.passed) f.more f.it rises));
      text = ap (λ xs. w.done ++ xs) f.text ∙ sym (append_assoc w.done (entry now memory f.it.tracked.block) (entries now memory f.more));
    }

-- what is written of a block
abbrev pub WritesEntry : Tracker → ℕ → List ℕ → RecId → (List ℕ → Type 0) → Type 0
WritesEntry t now memory id Writes = (l : Live) → live_with id t ≡ Some l → InMemory (length memory) l.tracked.block.start l.tracked.block.size → Writes (entry now memory l.tracked.block)

pub listing_is_live : (t : Tracker) (now : ℕ) (memory : List ℕ) (k k' : SinkState) (next : Option RecId) (id : RecId) → Listing t now memory k k' next → AreRising 0 t.live t.registered → next ≡ Some id → is_live id t ≡ true
listing_is_live t now memory k k' next id w rising e = let s = stands t now memory k k' next id w rising e in found_any (is_id id) t.live s.it s.found

lies : (t : Tracker) (words : ℕ) (id : RecId) (l : Live) → live_with id t ≡ Some l → LieIn words t.live → InMemory words l.tracked.block.start l.tracked.block.size
lies t words id l found all = (find_each (λ (x : Live). InMemory words x.tracked.block.start x.tracked.block.size) (is_id id) t.live l found all).1

within : (t : Tracker) (now : ℕ) (memory : List ℕ) (k k' : SinkState) (next : Option RecId) (w : Listing t now memory k k' next) → AreRising 0 t.live t.registered → (o : Option RecId) → next ≡ o → left o t.live ≤ length w.rest
within t now memory k k' next w rising None e = omega arith
within t now memory k k' next w rising (Some id) e =
    let s = stands t now memory k k' next id w rising e in
    omega (arith, ap length s.behind, ap length s.there, length-append s.passed (s.it ∷ s.more))

-- it goes on behind a block whose entry is written
pub listing_goes_on : (t : Tracker) (now : ℕ) (memory words : List ℕ) (k k' k'' : SinkState) (next after : Option RecId) (id : RecId) → Listing t now memory k k' next → AreRising 0 t.live t.registered → next ≡ Some id
    → after ≡ listed_in (behind id t.live) → words ≡ memory → WritesEntry t now words id (λ xs. Wrote k' k'' xs) → Listing t now memory k k'' after × (left after t.live < left next t.live)
listing_goes_on t now memory words k k' k'' next after id w rising e on same writes =
    let wrote = subst (λ m. WritesEntry t now m id (λ xs. Wrote k' k'' xs)) same writes in
    let s = stands t now memory k k' next id w rising e in
    let g : Listing t now memory k k'' after = record {
      front = w.front ++ s.passed ++ s.it ∷ [];
      rest = s.more;
      was = w.was ∙ ap (λ ls. w.front ++ ls) s.there ∙ sym (append_assoc w.front s.passed (s.it ∷ s.more)) ∙ sym (append_assoc (w.front ++ s.passed) (s.it ∷ []) s.more);
      at = on ∙ ap listed_in s.behind;
      done = w.done ++ entry now memory s.it.tracked.block;
      text = w.text ∙ s.text;
      wrote = λ all. wrote_more k k' k'' w.done (entry now memory s.it.tracked.block) (w.wrote all) (wrote s.it s.found (lies t (length memory) id s.it s.found all));
    } in
    (g, omega (arith, within t now memory k k'' after g rising after refl, ap length s.behind, ap (λ o. left o t.live) e))

-- it stops where a write fails
pub listing_stops : (t : Tracker) (now : ℕ) (memory words : List ℕ) (k k' k'' : SinkState) (next : Option RecId) (id : RecId) → Listing t now memory k k' next → AreRising 0 t.live t.registered → next ≡ Some id
    → words ≡ memory → WritesEntry t now words id (λ xs. Stops k' k'' xs) → LieIn (length memory) t.live → Stops k k'' (entries now memory t.live)
listing_stops t now memory words k k' k'' next id w rising e same writes all =
    let fails = subst (λ m. WritesEntry t now m id (λ xs. Stops k' k'' xs)) same writes in
    let s = stands t now memory k k' next id w rising e in
    let text = entry now memory s.it.tracked.block in
    subst (λ xs. Stops k k'' xs) (sym (w.text ∙ s.text))
    (stops_early k k'' (w.done ++ text) (entries now memory s.more) (stops_behind k k' k'' w.done text (w.wrote all) (fails s.it s.found (lies t (length memory) id s.it s.found all))))

-- and ends where no listed block is left
pub listing_ends : (t : Tracker) (now : ℕ) (memory : List ℕ) (k k' : SinkState) (next : Option RecId) → Listing t now memory k k' next → next ≡ None → LieIn (length memory) t.live → Wrote k k' (entries now memory t.live)
listing_ends t now memory k k' next w e all =
    subst (λ xs. Wrote k k' xs) (sym (w.text ∙ ap (λ xs. w.done ++ xs) (finds_none now memory w.rest (sym e ∙ w.at)) ∙ append-nil w.done)) (w.wrote all)

-- what a machine's listed blocks print is what a read of its run prints
pub listing_is : (machine : Simulation) (run : Run) → For machine run → entries machine.core.parts.settings.now machine.memory machine.core.parts.objects.tracker.live ≡ listing_text run.memory run.history
listing_is machine run f =
    let history = f.stands.history in
    let w = world (past_of run.history) in
    let now : machine.core.parts.settings.now ≡ w.now = sym (ap (λ (s : Settings). s.now) f.stands.parts.hosts.settings) ∙ history.moment in
    ap (λ n. entries n machine.memory machine.core.parts.objects.tracker.live) now ∙ ap (λ m. entries w.now m machine.core.parts.objects.tracker.live) f.memory
    ∙ ap (flat_map (entry w.now run.memory)) (sym (ap listing_in f.stands.parts.objects.tracked) ∙ listing_stands machine.core.parts.words run.history f.state history)

-- its blocks lie in its memory
pub all_lie : (machine : Simulation) (run : Run) → For machine run → LieIn (length machine.memory) machine.core.parts.objects.tracker.live
all_lie machine run f =
    let t = machine.core.parts.objects.tracker in
    let w = world (past_of run.history) in
    let blocks : blocks_in (tracked_in t) ≡ w.blocks = sym (ap blocks_in f.stands.parts.objects.tracked) ∙ f.stands.history.blocks in
    let placed = all_is_placed machine.core.parts.words run.history f.size f.stands.follows in
    let size : length machine.memory ≡ machine.core.parts.words = f.whole in
    let each = subst (λ bs. Each (BlockPlaced w.used) bs) (sym blocks) placed.blocks in
    in_each (λ (l : Live). InMemory (length machine.memory) l.tracked.block.start l.tracked.block.size) t.live (λ l i.
    let b = each_in (BlockPlaced w.used) (blocks_in (tracked_in t)) l.tracked.block each (map_in (λ (u : Tracked). u.block) (tracked_in t) l.tracked (map_in (λ (x : Live). x.tracked) t.live l i)) in
    let x = b.0 in
    let inside = (each_in (λ (y : Allocation). (0 < y.size) × InMemory machine.core.parts.words y.start y.size × WholeWords y.start y.size) w.used x placed.allocations b.1).1 in
    let from = inside.0 in let to = inside.1 in let low = b.3 in let high = b.4 in
    (omega (arith, from, low), omega (arith, to, high, size)))
