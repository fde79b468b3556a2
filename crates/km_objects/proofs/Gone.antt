use Rattle.std.proofs.Common.{◌≡◌, ℕ, ◌+◌, ◌<◌, Bool, true, false, ◌&&◌, ◌||◌, not, cond, List, [], ◌∷◌, map, filter, length, Option, Some, None, option_map, if◌then◌else◌, inl, inr, refl, sym, ap, ◌∙◌, subst, arith}
use Rattle.std.specs.Prelude.{find, is_ok, nat_lt, Result, Ok, Err, ◌==◌}
use Rattle.std.specs.Result.{result_ok}
use Rattle.std.proofs.lemmas.Bool.{eq-eqb, ne_eqb, eqb-true, eqb-false}
use Rattle.km_model.specs.Blocks.{Block}
use Rattle.km_record.specs.declared.kinds.RecId.{RecId}
use Rattle.km_state.specs.State as state
use Rattle.km_state.specs.State.{Scanning, State, Tracked}
use Rattle.km_state.specs.StateAfter.{begins_at, moved, scan_without, unregistered}
use Rattle.km_tasks.specs.Roll.{Roll}
use Rattle.km_free_part.proofs.Found.{passes}
use Rattle.km_track.specs.declared.faults.NoObject.{NoObject}
use Rattle.km_track.specs.Tracker as tracker
use Rattle.km_track.specs.Tracker.{AreApart, AreRising, IsApartFrom, Live, NeverMeet, Tracker, begins, id_of, is_live, live_where, live_with, tracked_in, unregistered_at}
use Rattle.km_scan.specs.declared.places.At.TheVariants.{Stack, Block as InBlock}
use Rattle.km_scan.specs.declared.places.Pass.{Pass}
use Rattle.km_scan.specs.declared.places.Pass.TheVariants.{First, Sums, Second}
use Rattle.km_scan.specs.declared.places.Cursor.{Cursor}
use Rattle.km_scan.specs.declared.places.Cursor.TheVariants.{Start, Last, Behind}
use Rattle.km_scan.specs.declared.sweep.Sweep.{Sweep}
use Rattle.km_scan.specs.Places.{cursor_of, phase_of, place_of}
use Rattle.km_scan.specs.Stand.{Fits, IsSettled, Stand, cursor_without, scanning_of, sweep_without}
use Rattle.km_scan.proofs.Held.{live_is}
use Rattle.km_scan.proofs.Referred.{looked, looked_live}
use Rattle.km_objects.specs.Objects.{Agree, AreOf, Objects}

-- a block is unregistered, and the scanner leaves it

-- blocks that are apart begin at different addresses
swap : (b c : Block) → AreApart b c → AreApart c b
swap b c h = elim h as (λ _. AreApart c b) [ inl u ↦ inr u | inr u ↦ inl u ]

starts_apart : (b c : Block) → AreApart b c → 0 < b.size → 0 < c.size → (c.start == b.start) ≡ false
starts_apart b c h s z = ne_eqb c.start b.start (λ e. elim h as (λ _. ⊥) [ inl u ↦ omega (arith, u, s, e) | inr u ↦ omega (arith, u, z, e) ])

none_starts : (b : Block) (ls : List Live) → 0 < b.size → IsApartFrom b ls → NeverMeet ls → find (λ (x : Live). begins b.start x.tracked.block) ls ≡ None
none_starts b [] s i n = refl
none_starts b (x ∷ ls) s i n = rw (starts_apart b x.tracked.block i.0 s n.0) (none_starts b ls s i.1 n.2)

apart_found : (test : Live → Bool) (b : Block) (ls : List Live) (l : Live) → IsApartFrom b ls → NeverMeet ls → find test ls ≡ Some l → AreApart b l.tracked.block × (0 < l.tracked.block.size)
apart_found test b [] l i n f = absurd (let z : ⊥ = cc in z)
apart_found test b (x ∷ ls) l i n f =
    elim (test x) as (λ c. cond c (Some x) (find test ls) ≡ Some l → AreApart b l.tracked.block × (0 < l.tracked.block.size)) [
      | true ↦ λ e. let same : x ≡ l = cc in subst (λ (y : Live). AreApart b y.tracked.block × (0 < y.tracked.block.size)) same (i.0, n.0)
      | false ↦ λ e. apart_found test b ls l i.1 n.2 e
    ] f

-- where no block begins, none is gone
none_at : (a n : ℕ) (ls : List Live) → find (λ (x : Live). begins a x.tracked.block) ls ≡ None → begins_at (map (λ (x : Live). x.tracked) ls) a n ≡ false
none_at a n [] e = refl
none_at a n (x ∷ ls) e =
    elim (x.tracked.block.start == a) as (λ c. cond c (Some x) (find (λ (y : Live). begins a y.tracked.block) ls) ≡ None → ((c && (x.tracked.block.id == n)) || begins_at (map (λ (y : Live). y.tracked) ls) a n) ≡ false) [
      | true ↦ λ f. absurd (let z : ⊥ = cc in z)
      | false ↦ λ f. none_at a n ls f
    ] e

none_out : (a : ℕ) (ls : List Live) → find (λ (x : Live). begins a x.tracked.block) ls ≡ None → filter (λ (x : Live). not (begins a x.tracked.block)) ls ≡ ls
none_out a [] e = refl
none_out a (x ∷ ls) e =
    elim (x.tracked.block.start == a) as (λ c. cond c (Some x) (find (λ (y : Live). begins a y.tracked.block) ls) ≡ None
    → cond (not c) (x ∷ filter (λ (y : Live). not (begins a y.tracked.block)) ls) (filter (λ (y : Live). not (begins a y.tracked.block)) ls) ≡ x ∷ ls) [
      | true ↦ λ f. absurd (let z : ⊥ = cc in z)
      | false ↦ λ f. ap (λ ys. x ∷ ys) (none_out a ls f)
    ] e

-- where one begins, it alone is gone
only_at : (test : Live → Bool) (n : ℕ) (ls : List Live) (l : Live) → NeverMeet ls → find test ls ≡ Some l → begins_at (map (λ (x : Live). x.tracked) ls) l.tracked.block.start n ≡ (l.tracked.block.id == n)
only_at test n [] l m f = absurd (let z : ⊥ = cc in z)
only_at test n (x ∷ ls) l m f =
    elim (test x) as (λ c. cond c (Some x) (find test ls) ≡ Some l → begins_at (map (λ (y : Live). y.tracked) (x ∷ ls)) l.tracked.block.start n ≡ (l.tracked.block.id == n)) [
      | true ↦ λ e.
          let same : x ≡ l = cc in
          subst (λ (y : Live). begins_at (map (λ (k : Live). k.tracked) (x ∷ ls)) y.tracked.block.start n ≡ (y.tracked.block.id == n)) same
          (rw (eq-eqb x.tracked.block.start x.tracked.block.start refl, none_at x.tracked.block.start n ls (none_starts x.tracked.block ls m.0 m.1 m.2)) (or_false (x.tracked.block.id == n)))
      | false ↦ λ e.
          let a = apart_found test x.tracked.block ls l m.1 m.2 e in
          rw (starts_apart l.tracked.block x.tracked.block (swap x.tracked.block l.tracked.block a.0) a.1 m.0) (only_at test n ls l m.2 e)
    ] f
  where
    or_false : (b : Bool) → (b || false) ≡ b
    or_false true = refl
    or_false false = refl

pub one_out : (test : Live → Bool) (ls : List Live) (l : Live) → NeverMeet ls → find test ls ≡ Some l → length (filter (λ (x : Live). not (begins l.tracked.block.start x.tracked.block)) ls) + 1 ≡ length ls
one_out test [] l m f = absurd (let z : ⊥ = cc in z)
one_out test (x ∷ ls) l m f =
    elim (test x) as (λ c. cond c (Some x) (find test ls) ≡ Some l → length (filter (λ (y : Live). not (begins l.tracked.block.start y.tracked.block)) (x ∷ ls)) + 1 ≡ length (x ∷ ls)) [
      | true ↦ λ e.
          let same : x ≡ l = cc in
          let rest = ap (λ (ys : List Live). length ys) (none_out x.tracked.block.start ls (none_starts x.tracked.block ls m.0 m.1 m.2)) in
          subst (λ (y : Live). length (filter (λ (k : Live). not (begins y.tracked.block.start k.tracked.block)) (x ∷ ls)) + 1 ≡ length (x ∷ ls)) same
          (rw (eq-eqb x.tracked.block.start x.tracked.block.start refl) (omega (arith, rest)))
      | false ↦ λ e.
          let a = apart_found test x.tracked.block ls l m.1 m.2 e in
          let rest = one_out test ls l m.2 e in
          rw (starts_apart l.tracked.block x.tracked.block (swap x.tracked.block l.tracked.block a.0) a.1 m.0) (omega (arith, rest))
    ] f

-- the blocks that are left, and their ids in the queue
left_in : (a : ℕ) (ls : List Live) → filter (λ (u : Tracked). not (u.block.start == a)) (map (λ (x : Live). x.tracked) ls) ≡ map (λ (x : Live). x.tracked) (filter (λ (x : Live). not (begins a x.tracked.block)) ls)
left_in a [] = refl
left_in a (x ∷ ls) =
    elim (x.tracked.block.start == a) as (λ c. cond (not c) (x.tracked ∷ filter (λ (u : Tracked). not (u.block.start == a)) (map (λ (y : Live). y.tracked) ls)) (filter (λ (u : Tracked). not (u.block.start == a)) (map (λ (y : Live). y.tracked) ls))
    ≡ map (λ (y : Live). y.tracked) (cond (not c) (x ∷ filter (λ (y : Live). not (begins a y.tracked.block)) ls) (filter (λ (y : Live). not (begins a y.tracked.block)) ls))) [
      | true ↦ left_in a ls
      | false ↦ ap (λ us. x.tracked ∷ us) (left_in a ls)
    ]

same_gone : (a n : ℕ) (ls : List Live) → begins_at (map (λ (x : Live). x.tracked) ls) a n ≡ tracker.is_at a n ls
same_gone a n [] = refl
same_gone a n (x ∷ ls) = ap (λ b. ((x.tracked.block.start == a) && (x.tracked.block.id == n)) || b) (same_gone a n ls)

-- the cursor that is left
flip : (m n : ℕ) → (m == n) ≡ (n == m)
flip m n = elim (n == m) as (λ b. (n == m) ≡ b → (m == n) ≡ b) [ true ↦ λ e. eq-eqb m n (sym (eqb-true n m e)) | false ↦ λ e. ne_eqb m n (λ h. eqb-false n m e (sym h)) ] refl

cursor_left : (gone : ℕ → Bool) (id : ℕ) → ((n : ℕ) → gone n ≡ (n == id)) → (cursor : Cursor) → moved gone (cursor_of cursor) ≡ cursor_of (cursor_without id cursor)
cursor_left gone id same Start = refl
cursor_left gone id same (Last (Stack task word)) = refl
cursor_left gone id same (Last (InBlock pass i word)) = by_pass pass ∙ left pass (gone i.generation) ∙ ap (λ b. cursor_of (if b then Behind pass i.generation else Last (InBlock pass i word))) (same i.generation)
  where
    by_pass : (q : Pass) → moved gone (cursor_of (Last (InBlock q i word))) ≡ (if gone i.generation then state.Behind (phase_of q) i.generation else state.Last (place_of (InBlock q i word)))
    by_pass First = refl
    by_pass Sums = refl
    by_pass Second = refl

    left : (q : Pass) (b : Bool) → (if b then state.Behind (phase_of q) i.generation else state.Last (place_of (InBlock q i word))) ≡ cursor_of (if b then Behind q i.generation else Last (InBlock q i word))
    left q true = refl
    left q false = refl
cursor_left gone id same (Behind pass gen) = refl

scan_left : (test : Live → Bool) (t : Tracker) (l : Live) → NeverMeet t.live → find test t.live ≡ Some l → (x : Option Sweep)
    → scan_without (begins_at (tracked_in t) l.tracked.block.start) (option_map (scanning_of t) x) ≡ option_map (scanning_of (unregistered_at l.tracked.block.start t)) (option_map (sweep_without l.tracked.block.id) x)
scan_left test t l m f None = refl
scan_left test t l m f (Some w) = λ i. Some (record {
  queue = filter (λ n. not (same_gone l.tracked.block.start n t.live i)) t.queue;
  cursor = cursor_left (begins_at (tracked_in t) l.tracked.block.start) l.tracked.block.id (λ n. only_at test n t.live l m f ∙ flip l.tracked.block.id n) w.cursor i;
  sum = w.sum;
})

none_left : (gone : ℕ → Bool) → ((n : ℕ) → gone n ≡ false) → (x : Option Scanning) → scan_without gone x ≡ x
none_left gone none None = refl
none_left gone none (Some c) = (λ i. Some (record { queue = filter (λ n. not (none n i)) c.queue; cursor = moved (λ n. none n i) c.cursor; sum = c.sum })) ∙ (λ i. Some (record { queue = all c.queue i; cursor = stays c.cursor i; sum = c.sum }))
  where
    all : (q : List ℕ) → filter (λ n. true) q ≡ q
    all [] = refl
    all (n ∷ q) = ap (λ r. n ∷ r) (all q)

    stays : (cursor : state.Cursor) → moved (λ n. false) cursor ≡ cursor
    stays state.Start = refl
    stays (state.Last p) = elim (nat_lt 1 p.phase) as (λ b. (if b && false then state.Behind p.phase p.holder else state.Last p) ≡ state.Last p) [ true ↦ refl | false ↦ refl ]
    stays (state.Behind phase id) = refl

-- the objects without a block
stays_scanned : {B : Type 0} (f : Sweep → Sweep) (x : Option Sweep) → ((w : Sweep) → x ≡ Some w → B) → (w : Sweep) → option_map f x ≡ Some w → B
stays_scanned f None all w e = absurd (let z : ⊥ = cc in z)
stays_scanned f (Some v) all w e = all v refl

pub left_are : (test : Live → Bool) (o : Objects) (t u : Tracker) (k j : Stand) (l : Live) (s : State) → record { tracker = t; stand = k } ≡ o → NeverMeet t.live → find test t.live ≡ Some l
    → u ≡ unregistered_at l.tracked.block.start t → j ≡ record k { sweep = option_map (sweep_without l.tracked.block.id) k.sweep } → AreOf o s → AreOf (record { tracker = u; stand = j }) (unregistered s l.tracked.block.start)
left_are test o t u k j l s view m f after stand are =
    let a = l.tracked.block.start in
    let old : AreOf (record { tracker = t; stand = k }) s = subst (λ (x : Objects). AreOf x s) (sym view) are in
    let new : AreOf (record { tracker = unregistered_at a t; stand = record k { sweep = option_map (sweep_without l.tracked.block.id) k.sweep } }) (unregistered s a) = record {
      registered = old.registered;
      tracked = ap (filter (λ (v : Tracked). not (v.block.start == a))) old.tracked ∙ left_in a t.live;
      scans = old.scans;
      begun = old.begun;
      scan = (λ i. scan_without (begins_at (old.tracked i) a) (old.scan i)) ∙ scan_left test t l m f k.sweep;
      stacks = stays_scanned (sweep_without l.tracked.block.id) k.sweep old.stacks;
    } in
    subst (λ (x : Tracker). AreOf (record { tracker = x; stand = j }) (unregistered s a)) (sym after)
    (subst (λ (x : Stand). AreOf (record { tracker = unregistered_at a t; stand = x }) (unregistered s a)) (sym stand) new)

pub none_are : (o : Objects) (s : State) (a : ℕ) → find (λ (x : Live). begins a x.tracked.block) o.tracker.live ≡ None → AreOf o s → AreOf o (unregistered s a)
none_are o s a none are = record {
  registered = are.registered;
  tracked = ap (filter (λ (v : Tracked). not (v.block.start == a))) are.tracked ∙ left_in a o.tracker.live ∙ ap (map (λ (x : Live). x.tracked)) (none_out a o.tracker.live none);
  scans = are.scans;
  begun = are.begun;
  scan = (λ i. scan_without (begins_at (are.tracked i) a) s.scan) ∙ none_left (begins_at (tracked_in o.tracker) a) (λ n. none_at a n o.tracker.live none) s.scan ∙ are.scan;
  stacks = are.stacks;
}

-- a block that was found, and its id
pub record Found (test : Block → Bool) (t : Tracker) (id : RecId) : Type 0 where
  pub it : Live
  pub found : live_where test t ≡ Some it
  pub live : live_with id t ≡ Some it
  pub its : id.generation ≡ it.tracked.block.id
  pub apart : NeverMeet t.live

pub is_it : (test : Block → Bool) (o : Objects) (t : Tracker) (k : Stand) (id : RecId) → record { tracker = t; stand = k } ≡ o → Some id ≡ option_map id_of (live_where test o.tracker) → NeverMeet o.tracker.live → AreRising 0 o.tracker.live o.tracker.registered → Found test t id
is_it test o t k id view e apart rising = subst (λ (x : Objects). Found test x.tracker id) (sym view) (
    let h = looked test o.tracker id e in
    record { it = h.it; found = h.found; live = looked_live test o.tracker id h rising; its = ap (λ (i : RecId). i.generation) h.its; apart = apart })

-- what a tracker tells where it is unregistered
pub is_out : (r : Result RecId NoObject) (x : Option Live) (t u : Tracker) (a : ℕ) (l : Live) → x ≡ Some l → result_ok r ≡ option_map id_of x → u ≡ (if is_ok r then unregistered_at a t else t) → u ≡ unregistered_at a t
is_out (Ok i) x t u a l e r after = after
is_out (Err n) x t u a l e r after = let z : None ≡ Some (id_of l) = r ∙ ap (option_map id_of) e in absurd (let y : ⊥ = cc in y)

pub is_none : (x : Option Live) → None ≡ option_map id_of x → x ≡ None
is_none None e = refl
is_none (Some l) e = absurd (let z : ⊥ = cc in z)

-- the scanner has left it
pub is_left : (test : Block → Bool) (t : Tracker) (k j : Stand) (id : RecId) (h : Found test t id) → (is_live id t ≡ true → j ≡ record k { sweep = option_map (sweep_without id.generation) k.sweep })
    → j ≡ record k { sweep = option_map (sweep_without h.it.tracked.block.id) k.sweep }
is_left test t k j id h forgot = forgot (live_is id t h.it h.live) ∙ ap (λ n. record k { sweep = option_map (sweep_without n) k.sweep }) h.its

pub left_agree : (o : Objects) (t u : Tracker) (k j : Stand) (l : Live) (roll : Roll) → record { tracker = t; stand = k } ≡ o → u ≡ unregistered_at l.tracked.block.start t → (Fits k t roll → Fits j (unregistered_at l.tracked.block.start t) roll) → (IsSettled k → IsSettled j)
    → Agree o roll → Agree (record { tracker = u; stand = j }) roll
left_agree o t u k j l roll view after fits settled agree =
    let old : Agree (record { tracker = t; stand = k }) roll = subst (λ (x : Objects). Agree x roll) (sym view) agree in
    record { settled = settled old.settled; fits = subst (λ (x : Tracker). Fits j x roll) (sym after) (fits old.fits) }

-- the block that begins at an address is unregistered
pub leaves : (o : Objects) (t u : Tracker) (k j : Stand) (a : ℕ) (id : RecId) (r : Result RecId NoObject) → record { tracker = t; stand = k } ≡ o
    → Some id ≡ option_map id_of (live_where (begins a) o.tracker) → NeverMeet o.tracker.live → AreRising 0 o.tracker.live o.tracker.registered
    → (is_live id t ≡ true → j ≡ record k { sweep = option_map (sweep_without id.generation) k.sweep })
    → ((roll : Roll) (l : Live) → Fits k t roll → live_with id t ≡ Some l → Fits j (unregistered_at l.tracked.block.start t) roll) → (IsSettled k → IsSettled j)
    → result_ok r ≡ option_map id_of (live_where (begins a) t) → u ≡ (if is_ok r then unregistered_at a t else t)
    → ((s : State) → AreOf o s → AreOf (record { tracker = u; stand = j }) (unregistered s a)) × ((roll : Roll) → Agree o roll → Agree (record { tracker = u; stand = j }) roll)
leaves o t u k j a id r view found apart rising sweep fits settled answer after =
    let h = is_it (begins a) o t k id view found apart rising in
    let at : h.it.tracked.block.start ≡ a = eqb-true h.it.tracked.block.start a (passes (λ (l : Live). begins a l.tracked.block) t.live h.it h.found) in
    let out : u ≡ unregistered_at h.it.tracked.block.start t = is_out r (live_where (begins a) t) t u a h.it h.found answer after ∙ ap (λ b. unregistered_at b t) (sym at) in (
      (λ s are. subst (λ (b : ℕ). AreOf (record { tracker = u; stand = j }) (unregistered s b)) at
          (left_are (λ (l : Live). begins a l.tracked.block) o t u k j h.it s view h.apart h.found out (is_left (begins a) t k j id h sweep) are)),
      (λ roll agree. left_agree o t u k j h.it roll view out (λ f. fits roll h.it f h.live) settled agree),
    )
