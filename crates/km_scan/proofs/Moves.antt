use Rattle.std.proofs.Common.{◌≡◌, ◌⊎◌, inl, inr, ℕ, ◌+◌, Bool, true, false, ◌&&◌, ◌||◌, eqb, leb, List, [], ◌∷◌, map, Option, Some, None, option_map, if◌then◌else◌, refl, sym, ap, ◌∙◌, subst, arith}
use Rattle.std.specs.Prelude.{IfSome, ◌==◌}
use Rattle.std.proofs.lemmas.Bool.{eq-eqb, ne_eqb}
use Rattle.km_base.specs.declared.spans.Addr.{Addr}
use Rattle.km_links.specs.Chains.{is_in}
use Rattle.km_record.specs.declared.kinds.RecId.{RecId}
use Rattle.km_model.specs.Blocks.{Block, option_is, references_of}
use Rattle.km_model.specs.Past.{Place}
use Rattle.km_model.specs.Scan.{behind, differs, first_in, last_word, first_of, first_word, live_words, or_else, place_in, unless_over}
use Rattle.km_state.specs.State.{Tracked, blocks_in, tracked_where}
use Rattle.km_state.specs.StateNext.{changed_by, hit_in, is_at, load_at, phase_at, queue_at, ripe_by, sum_after, told, with_last}
use Rattle.km_tasks.specs.Roll.{Roll}
use Rattle.km_track.specs.Tracker.{Live, Tracker, counted, is_live, live_with, tracked_in}
use Rattle.km_track.proofs.Lives.{found_its, is_its}
use Rattle.km_scan.specs.declared.places.At.{At}
use Rattle.km_scan.specs.declared.places.At.TheVariants.{Stack, Block as InBlock}
use Rattle.km_scan.specs.declared.places.Pass.{Pass}
use Rattle.km_scan.specs.declared.places.Pass.TheVariants.{First, Sums, Second}
use Rattle.km_scan.specs.declared.places.Cursor.{Cursor}
use Rattle.km_scan.specs.declared.places.Cursor.TheVariants.{Start, Last, Behind}
use Rattle.km_scan.specs.declared.sweep.Sweep.{Sweep}
use Rattle.km_scan.specs.Places.{cursor_of, place_of}
use Rattle.km_scan.specs.Stand.{FitsAt, FitsCursor, FitsDue, hit_told, holder_of, load_told, scanning_of, seen}
use Rattle.km_scan.proofs.Held.{live_is}

-- how a scan moves on

-- a stack is scanned where stacks are
pub stack_due : (stacks : Bool) (at : At) (task : ℕ) (word : Addr) (o : Option At) (t : Tracker) (roll : Roll) → at ≡ Stack task word → FitsAt stacks at t roll → FitsDue true o t roll → FitsDue stacks o t roll
stack_due stacks at task word o t roll e f d = let g = subst (λ (a : At). FitsAt stacks a t roll) e f in subst (λ b. FitsDue b o t roll) (sym g.0) d

-- the first word in a queue
pub record IsQueued (phase : ℕ) (queue : List ℕ) (p : Place) : Type 0 where
  pub holder : ℕ
  pub word : ℕ
  pub is : p ≡ record { phase = phase; holder = holder; word = word }
  pub there : is_in holder queue ≡ true

pub is_queued : (phase : ℕ) (blocks : List Block) (queue : List ℕ) (p : Place) → Some p ≡ first_in phase blocks queue → IsQueued phase queue p
is_queued phase blocks [] p e = absurd (let z : ⊥ = cc in z)
is_queued phase blocks (id ∷ queue) p e = on (first_word (live_words blocks id)) e (is_queued phase blocks queue p)
  where
    on : (o : Option ℕ) → Some p ≡ or_else (place_in phase id o) (first_in phase blocks queue) → (Some p ≡ first_in phase blocks queue → IsQueued phase queue p) → IsQueued phase (id ∷ queue) p
    on None f rest =
        let r = rest f in
        record { holder = r.holder; word = r.word; is = r.is; there = elim (id == r.holder) as (λ b. (b || is_in r.holder queue) ≡ true) [ true ↦ refl | false ↦ r.there ] }
    on (Some a) f rest =
        let same : p ≡ record { phase = phase; holder = id; word = a } = cc in
        record { holder = id; word = a; is = same; there = rw (eq-eqb id id refl) refl }

-- what waits isn't what is held
not_held : (id : RecId) (t : Tracker) (h : ℕ) (l : Live) → live_with id t ≡ Some l → is_in l.tracked.block.id t.queue ≡ false → is_in h t.queue ≡ true → eqb id.generation h ≡ false
not_held id t h l e out here =
    let its = (is_its id l (found_its id t.live l e)).1 in
    ne_eqb id.generation h (λ same. let z : ⊥ = (let a = sym out ∙ ap (λ n. is_in n t.queue) (its ∙ same) ∙ here in let y : ⊥ = cc in y) in z)

first_not_at : (stacks : Bool) (cursor : Cursor) (t : Tracker) (roll : Roll) (h : ℕ) → FitsCursor stacks cursor t roll → is_in h t.queue ≡ true → is_at 2 h (cursor_of cursor) ≡ false
first_not_at stacks Start t roll h f here = refl
first_not_at stacks (Last (Stack task word)) t roll h f here = refl
first_not_at stacks (Last (InBlock First id word)) t roll h f here = not_held id t h f.0 f.1 f.3.1 here
first_not_at stacks (Last (InBlock Sums id word)) t roll h f here = refl
first_not_at stacks (Last (InBlock Second id word)) t roll h f here = refl
first_not_at stacks (Behind pass gen) t roll h f here = refl

second_not_at : (stacks : Bool) (cursor : Cursor) (t : Tracker) (roll : Roll) (h : ℕ) → FitsCursor stacks cursor t roll → is_in h t.queue ≡ true → is_at 4 h (cursor_of cursor) ≡ false
second_not_at stacks Start t roll h f here = refl
second_not_at stacks (Last (Stack task word)) t roll h f here = refl
second_not_at stacks (Last (InBlock First id word)) t roll h f here = refl
second_not_at stacks (Last (InBlock Sums id word)) t roll h f here = refl
second_not_at stacks (Last (InBlock Second id word)) t roll h f here = not_held id t h f.0 f.1 f.3.1 here
second_not_at stacks (Behind pass gen) t roll h f here = refl

-- the queue at the next holder
pub grey_queue : (stacks : Bool) (w : Sweep) (t : Tracker) (roll : Roll) (p : Place) → FitsCursor stacks w.cursor t roll → Some p ≡ unless_over 2 (phase_at (cursor_of w.cursor)) (first_in 2 (blocks_in (tracked_in t)) t.queue)
    → behind p.holder t.queue ≡ queue_at (scanning_of t w) p
grey_queue stacks w t roll p f e = on (leb (phase_at (cursor_of w.cursor)) 2) e
  where
    at : IsQueued 2 t.queue p → behind p.holder t.queue ≡ queue_at (scanning_of t w) p
    at q = subst (λ (r : Place). behind r.holder t.queue ≡ queue_at (scanning_of t w) r) (sym q.is) (rw (first_not_at stacks w.cursor t roll q.holder f q.there) refl)

    on : (b : Bool) → Some p ≡ (if b then first_in 2 (blocks_in (tracked_in t)) t.queue else None) → behind p.holder t.queue ≡ queue_at (scanning_of t w) p
    on true g = at (is_queued 2 (blocks_in (tracked_in t)) t.queue p g)
    on false g = absurd (let z : ⊥ = cc in z)

pub last_queue : (stacks : Bool) (w : Sweep) (t now after : Tracker) (roll : Roll) (o : Option At) → FitsCursor stacks w.cursor t roll → now ≡ record t { queue = if leb (phase_at (cursor_of w.cursor)) 2 then [] else t.queue }
    → option_map place_of o ≡ first_in 4 (blocks_in (tracked_in now)) now.queue → IfSome o (λ at. after ≡ record now { queue = behind (place_of at).holder now.queue })
    → IfSome o (λ at. after ≡ record t { queue = queue_at (scanning_of t w) (place_of at) })
last_queue stacks w t now after roll None f e p q = tt
last_queue stacks w t now after roll (Some at) f e p q = on (leb (phase_at (cursor_of w.cursor)) 2) e
  where
    at_queue : IsQueued 4 t.queue (place_of at) → behind (place_of at).holder t.queue ≡ queue_at (scanning_of t w) (place_of at)
    at_queue k = subst (λ (r : Place). behind r.holder t.queue ≡ queue_at (scanning_of t w) r) (sym k.is) (rw (second_not_at stacks w.cursor t roll k.holder f k.there) refl)

    on : (b : Bool) → now ≡ record t { queue = if b then [] else t.queue } → after ≡ record t { queue = queue_at (scanning_of t w) (place_of at) }
    on true g = absurd (let a = p ∙ ap (λ (x : Tracker). first_in 4 (blocks_in (tracked_in x)) x.queue) g in let z : ⊥ = cc in z)
    on false g =
        let k = is_queued 4 (blocks_in (tracked_in t)) t.queue (place_of at) (p ∙ ap (λ (x : Tracker). first_in 4 (blocks_in (tracked_in x)) x.queue) g) in
        q ∙ ap (λ (x : Tracker). record x { queue = behind (place_of at).holder x.queue }) g ∙ ap (λ ns. record t { queue = ns }) (at_queue k)

-- the block of the cursor is live
pub summed_live : (stacks : Bool) (cursor : Cursor) (t now : Tracker) (roll : Roll) (q : List ℕ) (id : RecId) (word : Addr) → FitsCursor stacks cursor t roll → now ≡ record t { queue = q } → cursor ≡ Last (InBlock Sums id word) → is_live id now ≡ true
summed_live stacks cursor t now roll q id word f e c =
    let g = subst (λ (k : Cursor). FitsCursor stacks k t roll) c f in
    ap (is_live id) e ∙ live_is id t g.0 g.1

-- a load outside the sums counts its hit alone
pub map_same : (f g : Live → Live) (ls : List Live) → ((x : Live) → f x ≡ g x) → map f ls ≡ map g ls
map_same f g [] same = refl
map_same f g (x ∷ ls) same = ap (λ y. y ∷ map f ls) (same x) ∙ ap (λ ys. g x ∷ ys) (map_same f g ls same)

pub none_changed : (ts : List Tracked) (p : Place) (sum : ℕ) → (p.phase == 3) ≡ false → changed_by ts p sum ≡ None
none_changed ts p sum e = on (tracked_where (λ (b : Block). b.id == p.holder) ts)
  where
    on : (o : Option Tracked) → (elim o as (λ _. Option ℕ) [ None ↦ None | Some t ↦ if (p.phase == 3) && (p.word == last_word t.block) && differs t.kept sum then Some t.block.id else None ]) ≡ None
    on None = refl
    on (Some t) = rw e refl

hit_block : (p : Place) (value : ℕ) (hit changed ripe : Option ℕ) (sum : ℕ) (x : Live) → (p.phase == 3) ≡ false → changed ≡ None
    → record x { tracked = told (record { place = p; value = value; hit = hit; changed = changed; ripe = ripe }) sum x.tracked } ≡ (if option_is hit x.tracked.block.id then record x { tracked = counted x.tracked } else x)
hit_block p value hit changed ripe sum x e none =
    (λ i. record x { tracked = record x.tracked { count = count i; kept = kept i } }) ∙ at (option_is hit x.tracked.block.id)
  where
    count : (if option_is changed x.tracked.block.id then references_of x.tracked.block else (if option_is hit x.tracked.block.id then x.tracked.count + 1 else x.tracked.count)) ≡ (if option_is hit x.tracked.block.id then x.tracked.count + 1 else x.tracked.count)
    count = ap (λ (o : Option ℕ). if option_is o x.tracked.block.id then references_of x.tracked.block else (if option_is hit x.tracked.block.id then x.tracked.count + 1 else x.tracked.count)) none

    kept : (if ((p.phase == 3) && (p.holder == x.tracked.block.id)) && (p.word == last_word x.tracked.block) then Some sum else x.tracked.kept) ≡ x.tracked.kept
    kept = ap (λ b. if (b && (p.holder == x.tracked.block.id)) && (p.word == last_word x.tracked.block) then Some sum else x.tracked.kept) e

    at : (b : Bool) → record x { tracked = record x.tracked { count = if b then x.tracked.count + 1 else x.tracked.count } } ≡ (if b then record x { tracked = counted x.tracked } else x)
    at true = refl
    at false = refl

pub hit_load : (stacks : Bool) (w : Sweep) (p : Place) (value : ℕ) (t : Tracker) (roll : Roll) → (p.phase ≡ 3 → ⊥) → hit_told (hit_in (tracked_in t) p value) t ≡ load_told stacks w p value t roll
hit_load stacks w p value t roll ne = sym (λ i. record t { live = live i; queue = with_last t.queue (first_of (none i) (ripe_by (tracked_in t) (hit_in (tracked_in t) p value))) })
  where
    none : changed_by (tracked_in t) p (sum_after (scanning_of t w) p value) ≡ None
    none = none_changed (tracked_in t) p (sum_after (scanning_of t w) p value) (ne_eqb p.phase 3 ne)

    live : map (λ (x : Live). record x { tracked = told (load_at (seen stacks t roll) (scanning_of t w) p value) (sum_after (scanning_of t w) p value) x.tracked }) t.live ≡ map (λ (x : Live). if option_is (hit_in (tracked_in t) p value) x.tracked.block.id then record x { tracked = counted x.tracked } else x) t.live
    live = map_same _ _ t.live (λ x. hit_block p value (hit_in (tracked_in t) p value) (changed_by (tracked_in t) p (sum_after (scanning_of t w) p value)) (load_at (seen stacks t roll) (scanning_of t w) p value).ripe (sum_after (scanning_of t w) p value) x (ne_eqb p.phase 3 ne) (none_changed (tracked_in t) p (sum_after (scanning_of t w) p value) (ne_eqb p.phase 3 ne)))

-- loads of stacks and of grey passes are such
pub stack_is : (at : At) (task : ℕ) (word : Addr) → at ≡ Stack task word → ((place_of at).phase ≡ 3 → ⊥) × (None ≡ holder_of (place_of at))
stack_is at task word e = subst (λ (a : At). ((place_of a).phase ≡ 3 → ⊥) × (None ≡ holder_of (place_of a))) (sym e) ((λ (f : 1 ≡ 3). let z : ⊥ = omega (arith, f) in z), refl)

pub grey_is : (at : At) (pass : Pass) (id : RecId) (word : Addr) → at ≡ InBlock pass id word → (pass ≡ First) ⊎ (pass ≡ Second) → ((place_of at).phase ≡ 3 → ⊥) × (Some id.generation ≡ holder_of (place_of at))
grey_is at pass id word e (inl f) =
    subst (λ (a : At). ((place_of a).phase ≡ 3 → ⊥) × (Some id.generation ≡ holder_of (place_of a))) (sym (e ∙ ap (λ (p : Pass). InBlock p id word) f)) ((λ (f : 2 ≡ 3). let z : ⊥ = omega (arith, f) in z), refl)
grey_is at pass id word e (inr f) =
    subst (λ (a : At). ((place_of a).phase ≡ 3 → ⊥) × (Some id.generation ≡ holder_of (place_of a))) (sym (e ∙ ap (λ (p : Pass). InBlock p id word) f)) ((λ (f : 4 ≡ 3). let z : ⊥ = omega (arith, f) in z), refl)
