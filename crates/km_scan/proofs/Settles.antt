use Rattle.std.proofs.Common.{◌≡◌, ℕ, ◌+◌, Bool, true, false, ◌&&◌, ◌||◌, not, cond, ltb, List, [], ◌∷◌, ◌++◌, map, Option, Some, None, if◌then◌else◌, refl, sym, ap, ◌∙◌, subst, arith}
use Rattle.std.specs.Prelude.{find, ◌==◌, IfSome, option_map}
use Rattle.std.proofs.lemmas.Bool.{ne_eqb, eqb-false, ltb-false, le-ltb}
use Rattle.km_links.specs.Chains.{is_in}
use Rattle.km_record.specs.declared.kinds.RecId.{RecId}
use Rattle.km_model.specs.Blocks as model
use Rattle.km_model.specs.Blocks.{Block, Minimum, is_black, needs, option_is, points_into, references_of}
use Rattle.km_model.specs.Past.{Place, ScanLoad}
use Rattle.km_model.specs.Scan.{first_of}
use Rattle.km_state.specs.State.{Tracked, is_white_now, tracked_where}
use Rattle.km_state.specs.StateNext.{excess_in, hit_block_in, hit_in, hit_white_in, load_at, next_in, queue_at, ripe_by, sum_after, told, with_last}
use Rattle.km_tasks.specs.Roll.{Roll}
use Rattle.km_track.specs.Tracker.{Live, Tracker, is_id, live_with, tracked_in}
use Rattle.km_track.proofs.Lives.{found_its, is_its}
use Rattle.km_scan.specs.declared.places.At.{At}
use Rattle.km_scan.specs.declared.places.At.TheVariants.{Stack, Block as InBlock}
use Rattle.km_scan.specs.declared.places.Pass.TheVariants.{First, Sums, Second}
use Rattle.km_scan.specs.declared.places.Cursor.{Cursor}
use Rattle.km_scan.specs.declared.places.Cursor.TheVariants.{Start, Last, Behind}
use Rattle.km_scan.specs.declared.sweep.Sweep.{Sweep}
use Rattle.km_scan.specs.Places.{cursor_of, place_of}
use Rattle.km_scan.specs.Stand.{FitsAt, FitsCursor, FitsDue, FitsSweep, IsDue, Stand, due_in, going_on, load_told, scanning_of, seen, sweep_told}
use Rattle.km_scan.proofs.Kept.{Kept, at_kept, cursor_kept, queue_at_out, queue_kept}
use Rattle.km_scan.proofs.Moves.{none_changed}

-- what a due load is, and what it leaves

-- the load that is due at a cursor is the next one
pub going_next : (stacks : Bool) (w : Sweep) (t : Tracker) (roll : Roll) (cursor : Cursor) (p : Place) → w.cursor ≡ cursor → FitsCursor stacks cursor t roll → going_on (tracked_in t) roll.tasks (cursor_of cursor) ≡ Some p
    → next_in (seen stacks t roll) (record { queue = t.queue; cursor = cursor_of cursor; sum = w.sum }) ≡ Some p
going_next stacks w t roll Start p c f e = absurd (let z : ⊥ = cc in z)
going_next stacks w t roll (Last (Stack task word)) p c f e = rw (f.0, e) refl
going_next stacks w t roll (Last (InBlock First id word)) p c f e = rw e refl
going_next stacks w t roll (Last (InBlock Sums id word)) p c f e = rw e refl
going_next stacks w t roll (Last (InBlock Second id word)) p c f e = rw e refl
going_next stacks w t roll (Behind pass gen) p c f e = absurd (let z : ⊥ = cc in z)

pub due_next : (stacks : Bool) (w : Sweep) (t : Tracker) (roll : Roll) (p : Place) → FitsSweep stacks w t roll → w.ready ≡ None → due_in w t roll ≡ Some p → next_in (seen stacks t roll) (scanning_of t w) ≡ Some p
due_next stacks w t roll p f r e = going_next stacks w t roll w.cursor p refl f.cursor (sym (ap (λ (o : Option At). elim o as (λ _. Option Place) [ None ↦ going_on (tracked_in t) roll.tasks (cursor_of w.cursor) | Some at ↦ Some (place_of at) ]) r) ∙ e)

-- a load that is due, by its place
pub is_due : (o : Option At) (s : Stand) (w : Sweep) (t : Tracker) (roll : Roll) → s.sweep ≡ Some w → option_map place_of o ≡ due_in w t roll → FitsDue s.stacks o t roll → IfSome o (λ at. IsDue s at t roll)
is_due None s w t roll r e f = tt
is_due (Some at) s w t roll r e f = record { sweep = w; running = r; place = sym e; fits = f }

-- a scanner that moved on
pub moved_fits : (stacks : Bool) (w : Sweep) (t u : Tracker) (roll : Roll) (at : At) → FitsSweep stacks w t roll → u ≡ record t { queue = queue_at (scanning_of t w) (place_of at) } → FitsDue stacks (Some at) u roll → FitsSweep stacks (record w { ready = Some at }) u roll
moved_fits stacks w t u roll at f e d = record {
  cursor = subst (λ (x : Tracker). FitsCursor stacks w.cursor x roll) (sym e) (cursor_kept stacks w.cursor t (record t { queue = queue_at (scanning_of t w) (place_of at) }) roll (queue_kept t (queue_at (scanning_of t w) (place_of at)) (queue_at_out w t (place_of at))) f.cursor);
  ready = d;
  stacks_end = f.stacks_end;
}

-- a load leaves each block where it is
find_mapped : (id : RecId) (l : ScanLoad) (sum : ℕ) (ls : List Live) (x : Live) → find (is_id id) ls ≡ Some x → find (is_id id) (map (λ (y : Live). record y { tracked = told l sum y.tracked }) ls) ≡ Some (record x { tracked = told l sum x.tracked })
find_mapped id l sum [] x e = absurd (let z : ⊥ = cc in z)
find_mapped id l sum (y ∷ ls) x e =
    elim (is_id id y) as (λ b. cond b (Some y) (find (is_id id) ls) ≡ Some x → cond b (Some (record y { tracked = told l sum y.tracked })) (find (is_id id) (map (λ (z : Live). record z { tracked = told l sum z.tracked }) ls)) ≡ Some (record x { tracked = told l sum x.tracked })) [
      | true ↦ λ f. let same : y ≡ x = cc in ap (λ (z : Live). Some (record z { tracked = told l sum z.tracked })) same
      | false ↦ λ f. find_mapped id l sum ls x f
    ] e

-- no load makes a block white
stays_dark : (m : Minimum) (c : ℕ) (a b : Bool) → (elim m as (λ _. Bool) [ model.Black ↦ false | model.AtLeast k ↦ ltb c k ]) ≡ false
    → (elim m as (λ _. Bool) [ model.Black ↦ false | model.AtLeast k ↦ ltb (if a then (elim m as (λ _. ℕ) [ model.Black ↦ 0 | model.AtLeast j ↦ j ]) else (if b then c + 1 else c)) k ]) ≡ false
stays_dark model.Black c a b e = refl
stays_dark (model.AtLeast k) c true b e = le-ltb k k (omega arith)
stays_dark (model.AtLeast k) c false true e = let low = ltb-false c k e in le-ltb (c + 1) k (omega (arith, low))
stays_dark (model.AtLeast k) c false false e = e

told_dark : (l : ScanLoad) (sum : ℕ) (u : Tracked) → is_white_now u ≡ false → is_white_now (told l sum u) ≡ false
told_dark l sum u e = stays_dark u.block.minimum u.count (option_is l.changed u.block.id) (option_is l.hit u.block.id) e

-- the holder isn't hit
white_not : (p : Place) (h : ℕ) (u : Tracked) → ltb 1 p.phase ≡ true → hit_white_in p u ≡ Some h → h ≡ p.holder → ⊥
white_not p h u g e s = on (p.holder == u.block.id) refl (is_white_now u) (sym (ap (λ b. if not (b && (p.holder == u.block.id)) && is_white_now u then Some u.block.id else None) g) ∙ e)
  where
    on : (b : Bool) → (p.holder == u.block.id) ≡ b → (c : Bool) → (if not b && c then Some u.block.id else None) ≡ Some h → ⊥
    on true f c k = let z : ⊥ = cc in z
    on false f true k = let same : u.block.id ≡ h = cc in eqb-false p.holder u.block.id f (sym s ∙ sym same)
    on false f false k = let z : ⊥ = cc in z

block_not : (ts : List Tracked) (p : Place) (h : ℕ) (u : Tracked) → ltb 1 p.phase ≡ true → hit_block_in ts p u ≡ Some h → h ≡ p.holder → ⊥
block_not ts p h u g e s =
    on (p.holder == u.block.id) refl (is_white_now u) (is_black u.block) (excess_in ts u.block)
    (sym (ap (λ b. if b && (p.holder == u.block.id) then None else (if is_white_now u then Some u.block.id else (if is_black u.block then None else (elim (excess_in ts u.block) as (λ _. Option ℕ) [ None ↦ None | Some x ↦ hit_white_in p x ])))) g) ∙ e)
  where
    on : (b : Bool) → (p.holder == u.block.id) ≡ b → (c d : Bool) (o : Option Tracked) → (if b then None else (if c then Some u.block.id else (if d then None else (elim o as (λ _. Option ℕ) [ None ↦ None | Some x ↦ hit_white_in p x ])))) ≡ Some h → ⊥
    on true f c d o k = let z : ⊥ = cc in z
    on false f true d o k = let same : u.block.id ≡ h = cc in eqb-false p.holder u.block.id f (sym s ∙ sym same)
    on false f false true o k = let z : ⊥ = cc in z
    on false f false false None k = let z : ⊥ = cc in z
    on false f false false (Some x) k = white_not p h x g k s

hit_not : (ts : List Tracked) (p : Place) (value h : ℕ) → ltb 1 p.phase ≡ true → hit_in ts p value ≡ Some h → h ≡ p.holder → ⊥
hit_not ts p value h g e s = on (p.phase == 3) (tracked_where (points_into value) ts) e
  where
    on : (b : Bool) (o : Option Tracked) → (if b then None else (elim o as (λ _. Option ℕ) [ None ↦ None | Some u ↦ hit_block_in ts p u ])) ≡ Some h → ⊥
    on true o k = let z : ⊥ = cc in z
    on false None k = let z : ⊥ = cc in z
    on false (Some u) k = block_not ts p h u g k s

ripe_is : (ts : List Tracked) (o : Option ℕ) (r : ℕ) → ripe_by ts o ≡ Some r → o ≡ Some r
ripe_is ts None r e = e
ripe_is ts (Some n) r e = on (tracked_where (λ (b : Block). b.id == n) ts) e
  where
    at : (b : Bool) → (if b then Some n else None) ≡ Some r → Some n ≡ Some r
    at true k = k
    at false k = absurd (let z : ⊥ = cc in z)

    on : (o : Option Tracked) → (elim o as (λ _. Option ℕ) [ None ↦ None | Some u ↦ if needs (u.count + 1) u.block then Some n else None ]) ≡ Some r → Some n ≡ Some r
    on None k = absurd (let z : ⊥ = cc in z)
    on (Some u) k = at (needs (u.count + 1) u.block) k

last_out : (n r : ℕ) (q : List ℕ) → is_in n q ≡ false → (r ≡ n → ⊥) → is_in n (q ++ r ∷ []) ≡ false
last_out n r [] out ne = rw (ne_eqb r n ne) refl
last_out n r (m ∷ q) out ne = on (λ o. last_out n r q o ne) (m == n) out
  where
    on : (is_in n q ≡ false → is_in n (q ++ r ∷ []) ≡ false) → (b : Bool) → (b || is_in n q) ≡ false → (b || is_in n (q ++ r ∷ [])) ≡ false
    on more true k = absurd (let z : ⊥ = cc in z)
    on more false k = more k

with_last_out : (n : ℕ) (q : List ℕ) (o : Option ℕ) → is_in n q ≡ false → ((r : ℕ) → o ≡ Some r → r ≡ n → ⊥) → is_in n (with_last q o) ≡ false
with_last_out n q None out ne = out
with_last_out n q (Some r) out ne = last_out n r q out (ne r refl)

-- a load in a grey pass leaves its holder grey, and out of the queue
holder_kept : (stacks : Bool) (w : Sweep) (p : Place) (value : ℕ) (t : Tracker) (roll : Roll) (id : RecId) → ltb 1 p.phase ≡ true → (p.phase == 3) ≡ false → p.holder ≡ id.generation → (l : Live) → live_with id t ≡ Some l → Kept id t (load_told stacks w p value t roll) l
holder_kept stacks w p value t roll id g e h l f =
    let load = load_at (seen stacks t roll) (scanning_of t w) p value in
    let sum = sum_after (scanning_of t w) p value in
    let its = (is_its id l (found_its id t.live l f)).1 in
    let ripe = ap (λ o. first_of o (ripe_by (tracked_in t) (hit_in (tracked_in t) p value))) (none_changed (tracked_in t) p sum e) in
    record {
      it = record l { tracked = told load sum l.tracked };
      found = find_mapped id load sum t.live l f;
      start = refl;
      size = refl;
      dark = told_dark load sum l.tracked;
      out = λ o. with_last_out l.tracked.block.id t.queue load.ripe o (λ r k s. hit_not (tracked_in t) p value r g (ripe_is (tracked_in t) (hit_in (tracked_in t) p value) r (sym ripe ∙ k)) (s ∙ its ∙ sym h));
    }

told_at : (stacks : Bool) (w : Sweep) (at : At) (value : ℕ) (t : Tracker) (roll : Roll) → FitsDue stacks (Some at) t roll → FitsAt stacks at (load_told stacks w (place_of at) value t roll) roll
told_at stacks w (Stack task word) value t roll d = d
told_at stacks w (InBlock First id word) value t roll d =
    at_kept stacks First id word t (load_told stacks w (place_of (InBlock First id word)) value t roll) roll (holder_kept stacks w (place_of (InBlock First id word)) value t roll id refl refl refl) d
told_at stacks w (InBlock Sums id word) value t roll d =
    let p = place_of (InBlock Sums id word) in
    let load = load_at (seen stacks t roll) (scanning_of t w) p value in
    let sum = sum_after (scanning_of t w) p value in
    (record d.0 { tracked = told load sum d.0.tracked }, find_mapped id load sum t.live d.0 d.1, d.2, tt)
told_at stacks w (InBlock Second id word) value t roll d =
    at_kept stacks Second id word t (load_told stacks w (place_of (InBlock Second id word)) value t roll) roll (holder_kept stacks w (place_of (InBlock Second id word)) value t roll id refl refl refl) d

pub told_fits : (stacks : Bool) (w v : Sweep) (t u : Tracker) (roll : Roll) (at : At) (value : ℕ) → FitsSweep stacks w t roll → FitsDue stacks (Some at) t roll → u ≡ load_told stacks w (place_of at) value t roll → v ≡ sweep_told w at value t → FitsSweep stacks v u roll
told_fits stacks w v t u roll at value f d e s = subst (λ (x : Sweep). FitsSweep stacks x u roll) (sym s) (record {
  cursor = subst (λ (x : Tracker). FitsAt stacks at x roll) (sym e) (told_at stacks w at value t roll d);
  ready = tt;
  stacks_end = f.stacks_end;
})
