-- What a look among the live blocks finds.
use Rattle.std.proofs.Common.{◌≡◌, ℕ, zero, suc, ◌+◌, ◌<◌, ◌==◌, inl, inr, Bool, true, false, ◌&&◌, not, cond, List, [], ◌∷◌, length, slice_index, Option, Some, None, find, map, refl, sym, ◌∙◌, ap, subst, option_map}
use Rattle.km_model.proofs.Cases.{elim_false, none_some, some_same}
use Rattle.km_model.proofs.Lists.{In, find_in}
use Rattle.km_base.specs.Spans.{untagged}
use Rattle.km_base.specs.declared.spans.Span.{Span}
use Rattle.km_model.specs.Blocks.{Block, block_at, contains}
use Rattle.km_record.specs.declared.kinds.RecId.{RecId}
use Rattle.km_record.specs.declared.record.Record.{Record}
use Rattle.km_record.specs.Records.{block_of}
use Rattle.km_state.specs.State.{Tracked, blocks_in}
use Rattle.km_track.specs.Tracker.{AreRising, Live, Tracker, begins, id_of, is_id, live_where, live_with, tracked_of}
use Rattle.km_scan.proofs.Referred.{looked, looked_start}
use Rattle.km_model.proofs.Lists.{Pairs}
use Rattle.km_model.specs.Memory.{index_of, word_at}
use Rattle.std.specs.Prelude.{is_some}
use Rattle.km_words.specs.Told.{Told, IsGiven}
use Rattle.km_why.specs.Told.{AreApart, blocks_of, memory_of}
use Rattle.km_why.proofs.Delta.{at_home}
use Rattle.km_why.specs.References.{has, refers_to, span_of}
use Rattle.km_why.proofs.Chosen.{record_is}
use Rattle.std.proofs.Math.ListN.{length-set}
use Rattle.km_why.specs.declared.counts.Count.{Count}
use Rattle.km_why.specs.Counts.{IsReferred, count_at, raised}
use Rattle.km_why.specs.Waiting.{live_as}

-- a search among the blocks is one among the live ones
searched : (p : Block → Bool) (ls : List Live) → find p (blocks_in (map (λ (l : Live). l.tracked) ls)) ≡ option_map (λ (l : Live). l.tracked.block) (find (λ (l : Live). p l.tracked.block) ls)
searched p [] = refl
searched p (l ∷ ls) =
    elim (p l.tracked.block) as (λ q. cond q (Some l.tracked.block) (find p (blocks_in (map (λ (x : Live). x.tracked) ls))) ≡ option_map (λ (x : Live). x.tracked.block) (cond q (Some l) (find (λ (x : Live). p x.tracked.block) ls))) [
      | true ↦ refl
      | false ↦ searched p ls
    ]

nothing : {A B : Type 0} (f : A → B) (o : Option A) → None ≡ option_map f o → o ≡ None
nothing f None e = refl
nothing f (Some x) e = absurd (none_some (f x) e)

found_none : (p : Block → Bool) (t : Tracker) → None ≡ option_map id_of (live_where p t) → find p (blocks_of t) ≡ None
found_none p t e = searched p t.live ∙ ap (option_map (λ (l : Live). l.tracked.block)) (nothing id_of (live_where p t) e)

pub begin_none : (t : Tracker) (a : ℕ) → None ≡ option_map id_of (live_where (begins a) t) → None ≡ option_map span_of (block_at (blocks_of t) a)
begin_none t a e = ap (option_map span_of) (sym (found_none (begins a) t e))

pub begin_is : (t : Tracker) (a : ℕ) (id : RecId) (r : Record) → AreRising 0 t.live t.registered → Some id ≡ option_map id_of (live_where (begins a) t)
    → Some (record { slot = id.slot; tracked = tracked_of id.generation r }) ≡ live_with id t → Some r.span ≡ option_map span_of (block_at (blocks_of t) a)
begin_is t a id r rising e found =
    let k = looked (begins a) t id e in
    ap (λ (u : Tracked). Some (span_of u.block)) (sym (looked_start (begins a) t id k r rising found))
    ∙ ap (option_map span_of) (sym (searched (begins a) t.live ∙ ap (option_map (λ (x : Live). x.tracked.block)) k.found))

-- a record is that of a live block
pub is_there_as : (t : Tracker) (id : RecId) (r : Record) → Some (live_as id r) ≡ live_with id t → In (live_as id r) t.live
is_there_as t id r e = (find_in (is_id id) t.live (live_as id r) (sym e)).1

-- none of these passes
missing : (p : Block → Bool) (bs : List Block) → find p bs ≡ None → (c : Block) → In c bs → p c ≡ false
missing p [] e c i = absurd i
missing p (b ∷ bs) e c i = go (missing p bs) (p b) refl e i
  where
    go : (find p bs ≡ None → (x : Block) → In x bs → p x ≡ false) → (q : Bool) → p b ≡ q → cond q (Some b) (find p bs) ≡ None → In c (b ∷ bs) → p c ≡ false
    go rest true f g j = absurd (none_some b (sym g))
    go rest false f g (inl same) = ap p same ∙ f
    go rest false f g (inr j) = rest g c j

pub none_referred : (t : Tracker) (a value : ℕ) → None ≡ option_map id_of (live_where (contains (untagged value)) t) → (c : Block) (but : Span) → In c (blocks_of t) → refers_to (span_of c) but a value ≡ false
none_referred t a value e c but i =
    ap (λ q. (q && not (has (span_of c) a)) && not (has but a)) (missing (contains (untagged value)) (blocks_of t) (found_none (contains (untagged value)) t e) c i)

pointed : (t : Tracker) (value : ℕ) (id : RecId) (r : Record) → AreRising 0 t.live t.registered → Some id ≡ option_map id_of (live_where (contains (untagged value)) t)
    → Some (record { slot = id.slot; tracked = tracked_of id.generation r }) ≡ live_with id t → has (span_of (block_of id.generation r)) (untagged value) ≡ true
pointed t value id r rising e found =
    let k = looked (contains (untagged value)) t id e in
    subst (λ (u : Tracked). contains (untagged value) u.block ≡ true) (looked_start (contains (untagged value)) t id k r rising found) (passing t.live k.it k.found)
  where
    passing : (ls : List Live) (l : Live) → find (λ (x : Live). contains (untagged value) x.tracked.block) ls ≡ Some l → contains (untagged value) l.tracked.block ≡ true
    passing [] l f = absurd (none_some l f)
    passing (x ∷ ls) l f = elim (contains (untagged value) x.tracked.block) as (λ q. contains (untagged value) x.tracked.block ≡ q → cond q (Some x) (find (λ (y : Live). contains (untagged value) y.tracked.block) ls) ≡ Some l → contains (untagged value) l.tracked.block ≡ true) [
      | true ↦ λ g h. subst (λ (y : Live). contains (untagged value) y.tracked.block ≡ true) (some_same x l h) g
      | false ↦ λ g h. passing ls l h
    ] refl f

pub is_referred : (t : Tracker) (a value : ℕ) (id : RecId) (r : Record) → AreRising 0 t.live t.registered → Some id ≡ option_map id_of (live_where (contains (untagged value)) t)
    → Some (record { slot = id.slot; tracked = tracked_of id.generation r }) ≡ live_with id t → has r.span a ≡ false → IsReferred (blocks_of t) a value r
is_referred t a value id r rising e found out = record {
  id = id.generation;
  live = subst (λ (b : Block). In b (blocks_of t)) (record_is t id r found).same (record_is t id r found).live;
  aimed = pointed t value id r rising e found;
  out = out;
}

-- the same by the address that a value names
pub none_at : (t : Tracker) (a value u : ℕ) → u ≡ untagged value → None ≡ option_map id_of (live_where (contains u) t) → (c : Block) (but : Span) → In c (blocks_of t) → refers_to (span_of c) but a value ≡ false
none_at t a value u s e c but i = none_referred t a value (subst (λ n. None ≡ option_map id_of (live_where (contains n) t)) s e) c but i

pub referred_at : (t : Tracker) (a value u : ℕ) (id : RecId) (r : Record) → u ≡ untagged value → AreRising 0 t.live t.registered → Some id ≡ option_map id_of (live_where (contains u) t)
    → Some (record { slot = id.slot; tracked = tracked_of id.generation r }) ≡ live_with id t → has r.span a ≡ false → IsReferred (blocks_of t) a value r
referred_at t a value u id r s rising e found out = is_referred t a value id r rising (subst (λ n. Some id ≡ option_map id_of (live_where (contains n) t)) s e) found out

-- a word that points into the block that it is in refers to none
pub home_at : (t : Tracker) (memory : List ℕ) (a value u : ℕ) (id : RecId) (r : Record) → Pairs (λ (b c : Block). b.id < c.id) (blocks_of t) → Pairs (λ (b c : Block). AreApart b.start b.size c.start c.size) (blocks_of t)
    → u ≡ untagged value → AreRising 0 t.live t.registered → Some id ≡ option_map id_of (live_where (contains u) t)
    → Some (record { slot = id.slot; tracked = tracked_of id.generation r }) ≡ live_with id t → has r.span a ≡ true → word_at memory a ≡ value → (c : Block) (but : Span) → In c (blocks_of t) → refers_to (span_of c) but a value ≡ false
home_at t memory a value u id r rise apart s rising e found inside is c but i =
    let at = record_is t id r found in
    let aim : has (span_of (block_of id.generation r)) (untagged value) ≡ true = pointed t value id r rising (subst (λ n. Some id ≡ option_map id_of (live_where (contains n) t)) s e) found in
    subst (λ v. refers_to (span_of c) but a v ≡ false) is
    (at_home memory (blocks_of t) rise apart a (block_of id.generation r) (subst (λ (b : Block). In b (blocks_of t)) at.same at.live)
    (subst (λ v. has (span_of (block_of id.generation r)) (untagged v) ≡ true) (sym is) aim) inside c i but)

-- a memory with a value at a place
told : (n v : ℕ) → (m : List ℕ) × (slice_index m n ≡ v)
told zero v = (v ∷ [], refl)
told (suc n) v = let rest = told n v in (0 ∷ rest.0, rest.1)

pub in_its_own : (t : Tracker) (a value u : ℕ) (id : RecId) (r : Record) → Pairs (λ (b c : Block). b.id < c.id) (blocks_of t) → Pairs (λ (b c : Block). AreApart b.start b.size c.start c.size) (blocks_of t)
    → u ≡ untagged value → AreRising 0 t.live t.registered → Some id ≡ option_map id_of (live_where (contains u) t)
    → Some (record { slot = id.slot; tracked = tracked_of id.generation r }) ≡ live_with id t → has r.span a ≡ true → (c : Block) (but : Span) → In c (blocks_of t) → refers_to (span_of c) but a value ≡ false
in_its_own t a value u id r rise apart s rising e found inside c but i =
    let m = told (index_of a) value in home_at t m.0 a value u id r rise apart s rising e found inside m.1 c but i

-- the block that begins where a span does
pub begun_block : (bs : List Block) (a : ℕ) (s : Span) → Some s ≡ option_map span_of (block_at bs a) → (e : Block) × In e bs × (span_of e ≡ s)
begun_block bs a s e = go (block_at bs a) refl e
  where
    go : (o : Option Block) → block_at bs a ≡ o → Some s ≡ option_map span_of o → (b : Block) × In b bs × (span_of b ≡ s)
    go None f g = absurd (none_some s (sym g))
    go (Some b) f g = (b, (find_in (λ (x : Block). x.start == a) bs b f).1, sym (some_same s (span_of b) g))

pub raised_long : (cs : List Count) (p : ℕ) → length (raised cs p) ≡ length cs
raised_long cs p = length-set cs p (record { found = (count_at cs p).found + 1; outside = (count_at cs p).outside })

-- the value of a load is that of the memory
pub value_is : (t : Told) (a v : ℕ) → is_some t.memory ≡ true → IsGiven t.memory a v → v ≡ word_at (memory_of t) a
value_is t a v some given = go t.memory some given
  where
    go : (o : Option (List ℕ)) → is_some o ≡ true → IsGiven o a v → v ≡ word_at (elim o as (λ _. List ℕ) [ None ↦ [] | Some memory ↦ memory ]) a
    go None e g = absurd (elim_false e)
    go (Some m) e g = g
