use Rattle.std.proofs.Common.{◌≡◌, ℕ, ◌+◌, ◌*◌, ◌/◌, ◌<◌, Bool, true, false, ◌||◌, not, cond, leb, List, [], ◌∷◌, filter, Option, Some, None, option_map, if◌then◌else◌, inl, inr, refl, sym, ap, ◌∙◌, subst, arith}
use Rattle.std.specs.Prelude.{find, ◌==◌, is_some}
use Rattle.std.proofs.lemmas.Bool.{ne_eqb, eqb-false}
use Rattle.km_base.specs.declared.spans.Addr.{Addr}
use Rattle.km_links.specs.Chains.{is_in}
use Rattle.km_record.specs.declared.kinds.RecId.{RecId}
use Rattle.km_model.specs.Blocks.{Block}
use Rattle.km_model.specs.Past.{Place}
use Rattle.km_model.specs.Scan.{behind}
use Rattle.km_state.specs.State.{is_white_now}
use Rattle.km_state.specs.StateNext.{is_at, phase_at, queue_at}
use Rattle.km_tasks.specs.Roll.{Roll}
use Rattle.km_track.specs.Tracker.{AreApart, IsApartFrom, Live, NeverMeet, Tracker, begins, is_id, is_live, live_with, unregistered_at}
use Rattle.km_track.specs.Tracker as tracker
use Rattle.km_track.proofs.Lives.{is_its}
use Rattle.km_scan.specs.declared.places.At.{At}
use Rattle.km_scan.specs.declared.places.At.TheVariants.{Stack, Block as InBlock}
use Rattle.km_scan.specs.declared.places.Pass.{Pass}
use Rattle.km_scan.specs.declared.places.Pass.TheVariants.{First, Sums, Second}
use Rattle.km_scan.specs.declared.places.Cursor.{Cursor}
use Rattle.km_scan.specs.declared.places.Cursor.TheVariants.{Start, Last, Behind}
use Rattle.km_scan.specs.declared.sweep.Sweep.{Sweep}
use Rattle.km_scan.proofs.Held.{any_found, live_is}
use Rattle.km_scan.specs.Stand.{FitsAt, FitsCursor, FitsDue, FitsSweep, IsHeldIn, IsWordOf, cursor_without, ready_without, scanning_of, sweep_without}

-- what keeps a scanner's places

-- a live block is still there, where it was; it isn't white anew, nor queued anew
pub record Kept (id : RecId) (t u : Tracker) (l : Live) : Type 0 where
  pub it : Live
  pub found : live_with id u ≡ Some it
  pub start : it.tracked.block.start ≡ l.tracked.block.start
  pub size : it.tracked.block.size ≡ l.tracked.block.size
  pub dark : is_white_now l.tracked ≡ false → is_white_now it.tracked ≡ false
  pub out : is_in l.tracked.block.id t.queue ≡ false → is_in it.tracked.block.id u.queue ≡ false

pub word_kept : (id : RecId) (t u : Tracker) (l : Live) (k : Kept id t u l) (w : ℕ) → IsWordOf l.tracked.block w → IsWordOf k.it.tracked.block w
word_kept id t u l k w h = (h.0, subst (λ n. h.0 < n / 8) (sym k.size) h.1, h.2 ∙ ap (λ n. n + 8 * h.0) (sym k.start))

held_kept : (pass : Pass) (id : RecId) (t u : Tracker) (l : Live) (k : Kept id t u l) → IsHeldIn pass l t → IsHeldIn pass k.it u
held_kept First id t u l k h = (k.dark h.0, k.out h.1)
held_kept Sums id t u l k h = tt
held_kept Second id t u l k h = (k.dark h.0, k.out h.1)

pub at_kept : (stacks : Bool) (pass : Pass) (id : RecId) (word : Addr) (t u : Tracker) (roll : Roll) → ((l : Live) → live_with id t ≡ Some l → Kept id t u l) → FitsAt stacks (InBlock pass id word) t roll → FitsAt stacks (InBlock pass id word) u roll
at_kept stacks pass id word t u roll kept f =
    let k = kept f.0 f.1 in
    (k.it, k.found, word_kept id t u f.0 k word.0 f.2, held_kept pass id t u f.0 k f.3)

pub cursor_kept : (stacks : Bool) (cursor : Cursor) (t u : Tracker) (roll : Roll) → ((id : RecId) (l : Live) → live_with id t ≡ Some l → Kept id t u l) → FitsCursor stacks cursor t roll → FitsCursor stacks cursor u roll
cursor_kept stacks Start t u roll kept f = tt
cursor_kept stacks (Last (Stack task word)) t u roll kept f = f
cursor_kept stacks (Last (InBlock pass id word)) t u roll kept f = at_kept stacks pass id word t u roll (kept id) f
cursor_kept stacks (Behind pass gen) t u roll kept f = tt

-- a shorter queue
pub queue_kept : (t : Tracker) (q : List ℕ) → ((n : ℕ) → is_in n t.queue ≡ false → is_in n q ≡ false) → (id : RecId) (l : Live) → live_with id t ≡ Some l → Kept id t (record t { queue = q }) l
queue_kept t q shorter id l e = record { it = l; found = e; start = refl; size = refl; dark = λ h. h; out = shorter l.tracked.block.id }

behind_out : (n h : ℕ) (q : List ℕ) → is_in n q ≡ false → is_in n (behind h q) ≡ false
behind_out n h [] out = refl
behind_out n h (m ∷ q) out =
    elim (m == h) as (λ b. is_in n (if b then q else behind h q) ≡ false) [ true ↦ rest (m == n) out | false ↦ behind_out n h q (rest (m == n) out) ]
  where
    rest : (b : Bool) → (b || is_in n q) ≡ false → is_in n q ≡ false
    rest true f = absurd (let z : ⊥ = cc in z)
    rest false f = f

pub queue_at_out : (w : Sweep) (t : Tracker) (p : Place) (n : ℕ) → is_in n t.queue ≡ false → is_in n (queue_at (scanning_of t w) p) ≡ false
queue_at_out w t p n out =
    at (p.phase == 1) (p.phase == 3) (leb (phase_at (scanning_of t w).cursor) 2) (is_at p.phase p.holder (scanning_of t w).cursor)
  where
    at : (a b c d : Bool) → is_in n (if a then t.queue else (if b then (if c then [] else t.queue) else (if d then t.queue else behind p.holder t.queue))) ≡ false
    at true b c d = out
    at false true true d = refl
    at false true false d = out
    at false false c true = out
    at false false c false = behind_out n p.holder t.queue out

-- where a block is unregistered, others stay
find_kept : (test keep : Live → Bool) (ls : List Live) (l : Live) → find test ls ≡ Some l → keep l ≡ true → find test (filter keep ls) ≡ Some l
find_kept test keep [] l e k = absurd (let z : ⊥ = cc in z)
find_kept test keep (x ∷ ls) l e k =
    elim (test x) as (λ b. test x ≡ b → cond b (Some x) (find test ls) ≡ Some l → find test (filter keep (x ∷ ls)) ≡ Some l) [
      | true ↦ λ t f. let same : x ≡ l = cc in rw (subst (λ (y : Live). keep y ≡ true) (sym same) k, t) (ap (λ (y : Live). Some y) same)
      | false ↦ λ t f. elim (keep x) as (λ b. find test (cond b (x ∷ filter keep ls) (filter keep ls)) ≡ Some l) [ true ↦ rw t (find_kept test keep ls l f k) | false ↦ find_kept test keep ls l f k ]
    ] refl e

apart_from : (id : RecId) (b : Block) (ls : List Live) (l : Live) → IsApartFrom b ls → NeverMeet ls → find (is_id id) ls ≡ Some l → AreApart b l.tracked.block × (0 < l.tracked.block.size)
apart_from id b [] l a n e = absurd (let z : ⊥ = cc in z)
apart_from id b (x ∷ ls) l a n e =
    elim (is_id id x) as (λ c. cond c (Some x) (find (is_id id) ls) ≡ Some l → AreApart b l.tracked.block × (0 < l.tracked.block.size)) [
      | true ↦ λ f. let same : x ≡ l = cc in subst (λ (y : Live). AreApart b y.tracked.block × (0 < y.tracked.block.size)) same (a.0, n.0)
      | false ↦ λ f. apart_from id b ls l a.1 n.2 f
    ] e

starts_differ : (b c : Block) → AreApart b c → 0 < b.size → 0 < c.size → b.start ≡ c.start → ⊥
starts_differ b c h s t e = elim h as (λ _. ⊥) [ inl u ↦ omega (arith, u, s, e) | inr u ↦ omega (arith, u, t, e) ]

pub begin_apart : (id i : RecId) (ls : List Live) (l k : Live) → NeverMeet ls → find (is_id id) ls ≡ Some l → find (is_id i) ls ≡ Some k → (i.generation ≡ id.generation → ⊥) → k.tracked.block.start ≡ l.tracked.block.start → ⊥
begin_apart id i [] l k n e f ne same = let z : ⊥ = cc in z
begin_apart id i (x ∷ ls) l k n e f ne same = on (λ g h. begin_apart id i ls l k n.2 g h ne same) (is_id id x) (is_id i x) refl refl e f
  where
    on : (find (is_id id) ls ≡ Some l → find (is_id i) ls ≡ Some k → ⊥) → (a b : Bool) → is_id id x ≡ a → is_id i x ≡ b → cond a (Some x) (find (is_id id) ls) ≡ Some l → cond b (Some x) (find (is_id i) ls) ≡ Some k → ⊥
    on rest true true g h u v = ne (sym (is_its i x h).1 ∙ (is_its id x g).1)
    on rest true false g h u v =
        let here : x ≡ l = cc in
        let a = apart_from i x.tracked.block ls k n.1 n.2 v in
        starts_differ x.tracked.block k.tracked.block a.0 n.0 a.1 (ap (λ (y : Live). y.tracked.block.start) here ∙ sym same)
    on rest false true g h u v =
        let here : x ≡ k = cc in
        let a = apart_from id x.tracked.block ls l n.1 n.2 u in
        starts_differ x.tracked.block l.tracked.block a.0 n.0 a.1 (ap (λ (y : Live). y.tracked.block.start) here ∙ same)
    on rest false false g h u v = rest u v

filter_out : (keep : ℕ → Bool) (n : ℕ) (q : List ℕ) → is_in n q ≡ false → is_in n (filter keep q) ≡ false
filter_out keep n [] out = refl
filter_out keep n (m ∷ q) out =
    elim (keep m) as (λ b. is_in n (cond b (m ∷ filter keep q) (filter keep q)) ≡ false) [
      | true ↦ here (λ o. filter_out keep n q o) (m == n) out
      | false ↦ filter_out keep n q (rest (m == n) out)
    ]
  where
    rest : (b : Bool) → (b || is_in n q) ≡ false → is_in n q ≡ false
    rest true f = absurd (let z : ⊥ = cc in z)
    rest false f = f

    here : (is_in n q ≡ false → is_in n (filter keep q) ≡ false) → (b : Bool) → (b || is_in n q) ≡ false → (b || is_in n (filter keep q)) ≡ false
    here more true f = absurd (let z : ⊥ = cc in z)
    here more false f = more f

pub other_kept : (t : Tracker) (id i : RecId) (l k : Live) → NeverMeet t.live → live_with id t ≡ Some l → (i.generation ≡ id.generation → ⊥) → live_with i t ≡ Some k → Kept i t (unregistered_at l.tracked.block.start t) k
other_kept t id i l k n e ne f = record {
  it = k;
  found = find_kept (is_id i) (λ (x : Live). not (begins l.tracked.block.start x.tracked.block)) t.live k f (ap not (ne_eqb k.tracked.block.start l.tracked.block.start (begin_apart id i t.live l k n e f ne)));
  start = refl;
  size = refl;
  dark = λ h. h;
  out = filter_out (λ m. not (tracker.is_at l.tracked.block.start m t.live)) k.tracked.block.id t.queue;
}

cursor_left : (stacks : Bool) (cursor : Cursor) (t : Tracker) (roll : Roll) (id : RecId) (l : Live) → NeverMeet t.live → live_with id t ≡ Some l → FitsCursor stacks cursor t roll → FitsCursor stacks (cursor_without id.generation cursor) (unregistered_at l.tracked.block.start t) roll
cursor_left stacks Start t roll id l n e f = tt
cursor_left stacks (Last (Stack task word)) t roll id l n e f = f
cursor_left stacks (Last (InBlock pass i word)) t roll id l n e f =
    elim (i.generation == id.generation) as (λ b. (i.generation == id.generation) ≡ b → FitsCursor stacks (if b then Behind pass i.generation else Last (InBlock pass i word)) (unregistered_at l.tracked.block.start t) roll) [
      | true ↦ λ _. tt
      | false ↦ λ g. at_kept stacks pass i word t (unregistered_at l.tracked.block.start t) roll (λ k h. other_kept t id i l k n e (eqb-false i.generation id.generation g) h) f
    ] refl
cursor_left stacks (Behind pass gen) t roll id l n e f = tt

due_left : (stacks : Bool) (o : Option At) (t : Tracker) (roll : Roll) (id : RecId) (l : Live) → NeverMeet t.live → live_with id t ≡ Some l → FitsDue stacks o t roll → FitsDue stacks (ready_without id.generation o) (unregistered_at l.tracked.block.start t) roll
unfolding other_kept
due_left stacks None t roll id l n e f = tt
due_left stacks (Some (Stack task word)) t roll id l n e f = f
due_left stacks (Some (InBlock pass i word)) t roll id l n e f =
    elim (i.generation == id.generation) as (λ b. (i.generation == id.generation) ≡ b → FitsDue stacks (if b then None else Some (InBlock pass i word)) (unregistered_at l.tracked.block.start t) roll) [
      | true ↦ λ _. tt
      | false ↦ λ g. on pass f (eqb-false i.generation id.generation g)
    ] refl
  where
    on : (pass : Pass) → FitsDue stacks (Some (InBlock pass i word)) t roll → (i.generation ≡ id.generation → ⊥) → FitsDue stacks (Some (InBlock pass i word)) (unregistered_at l.tracked.block.start t) roll
    on First h ne = at_kept stacks First i word t (unregistered_at l.tracked.block.start t) roll (λ k g. other_kept t id i l k n e ne g) h
    on Sums h ne = let k = other_kept t id i l h.0 n e ne h.1 in (h.0, k.found, h.2, h.3)
    on Second h ne = at_kept stacks Second i word t (unregistered_at l.tracked.block.start t) roll (λ k g. other_kept t id i l k n e ne g) h

pub sweep_left : (stacks : Bool) (w : Sweep) (t : Tracker) (roll : Roll) (id : RecId) (l : Live) → NeverMeet t.live → live_with id t ≡ Some l → FitsSweep stacks w t roll → FitsSweep stacks (sweep_without id.generation w) (unregistered_at l.tracked.block.start t) roll
sweep_left stacks w t roll id l n e f = record {
  cursor = cursor_left stacks w.cursor t roll id l n e f.cursor;
  ready = due_left stacks w.ready t roll id l n e f.ready;
  stacks_end = f.stacks_end;
}

-- a block was found, or none is there
pub none_found : {A : Type 0} (o : Option A) (f : A → Live) (id : RecId) (t : Tracker) → option_map f o ≡ live_with id t → is_some o ≡ false → live_with id t ≡ None
none_found None f id t e h = sym e
none_found (Some r) f id t e h = absurd (let z : ⊥ = cc in z)

pub some_found : {A : Type 0} (o : Option A) (f : A → Live) (id : RecId) (t : Tracker) → option_map f o ≡ live_with id t → is_some o ≡ true → is_live id t ≡ true
some_found None f id t e h = absurd (let z : ⊥ = cc in z)
some_found (Some r) f id t e h = live_is id t (f r) (sym e)

pub none_live : (id : RecId) (t : Tracker) → live_with id t ≡ None → is_live id t ≡ true → ⊥
none_live id t e f = let l = any_found (is_id id) t.live f in let there = l.1 in let z : ⊥ = cc in z

-- a running scan of a scanner
pub sweep_of : (stacks now_stacks : Bool) (sweep : Option Sweep) (w : Sweep) (t : Tracker) (roll : Roll) → ((v : Sweep) → sweep ≡ Some v → FitsSweep stacks v t roll) → sweep ≡ Some w → now_stacks ≡ stacks → FitsSweep now_stacks w t roll
sweep_of stacks now_stacks sweep w t roll f e s = subst (λ b. FitsSweep b w t roll) (sym s) (f w e)
