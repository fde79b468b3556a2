use Rattle.std.proofs.Common.{◌≡◌, ℕ, ◌+◌, ◌-◌, Bool, true, false, ◌&&◌, List, map, Option, Some, None, if◌then◌else◌, refl, sym, ap, ◌∙◌, arith}
use Rattle.std.specs.Prelude.{◌==◌}
use Rattle.std.proofs.lemmas.Bool.{eq-eqb, ne_eqb}
use Rattle.km_record.specs.declared.kinds.RecId.{RecId}
use Rattle.km_model.specs.Blocks.{Block, option_is, references_of}
use Rattle.km_model.specs.Past.{ScanLoad}
use Rattle.km_model.specs.Scan.{differs, first_of, last_word}
use Rattle.km_state.specs.State.{Tracked, tracked_where}
use Rattle.km_state.specs.StateNext.{changed_by, sum_after, told, with_last}
use Rattle.km_tasks.specs.Roll.{Roll}
use Rattle.km_track.specs.Tracker.{AreRising, Live, Tracker, changed, is_id, live_with, queued, summed, tracked_in}
use Rattle.km_track.proofs.Lives.{found_its, found_tracked, is_its}
use Rattle.km_scan.specs.declared.sweep.Sweep.{Sweep}
use Rattle.km_scan.specs.Stand.{IsWordOf, load_told, scanning_of, told_in}
use Rattle.km_scan.proofs.Ones.{map_all, map_one}

-- what a load of the sums changes

abbrev sum_load : ℕ → ℕ → ℕ → Option ℕ → ScanLoad
sum_load id w value c = record { place = record { phase = 3; holder = id; word = w }; value = value; hit = None; changed = c; ripe = first_of c None }

-- whether a word is the last of a block
abbrev is_last : ℕ → Tracked → Bool
is_last w u = w == last_word u.block

changed_is : (ts : List Tracked) (id w sum : ℕ) (u : Tracked) (last : Bool) → tracked_where (λ (b : Block). b.id == id) ts ≡ Some u → u.block.id ≡ id → is_last w u ≡ last
    → changed_by ts (record { phase = 3; holder = id; word = w }) sum ≡ (if last && differs u.kept sum then Some id else None)
changed_is ts id w sum u last e its l =
    ap (λ (o : Option Tracked). elim o [ None ↦ None | Some t ↦ if (w == last_word t.block) && differs t.kept sum then Some t.block.id else None ]) e
    ∙ ap (λ b. if b && differs u.kept sum then Some u.block.id else None) l ∙ ap (λ i. if last && differs u.kept sum then Some i else None) its

-- other blocks stay
others_stay : (id w value sum : ℕ) (c : Option ℕ) → ((n : ℕ) → c ≡ Some n → n ≡ id) → (x : Live) → (x.tracked.block.id ≡ id → ⊥) → record x { tracked = told (sum_load id w value c) sum x.tracked } ≡ x
others_stay id w value sum c only x ne = λ i. record x { tracked = record x.tracked { count = count c only i; kept = kept i } }
  where
    count : (c : Option ℕ) → ((n : ℕ) → c ≡ Some n → n ≡ id) → (if option_is c x.tracked.block.id then references_of x.tracked.block else x.tracked.count) ≡ x.tracked.count
    count None o = refl
    count (Some n) o = let same = o n refl in rw (ne_eqb n x.tracked.block.id (λ e. ne (sym e ∙ same))) refl

    kept : (if (id == x.tracked.block.id) && (w == last_word x.tracked.block) then Some sum else x.tracked.kept) ≡ x.tracked.kept
    kept = rw (ne_eqb id x.tracked.block.id (λ e. ne (sym e))) refl

only_it : (id : ℕ) (b : Bool) (n : ℕ) → (if b then Some id else None) ≡ Some n → n ≡ id
only_it id true n e = cc
only_it id false n e = absurd (let z : ⊥ = cc in z)

-- the last word of a block: its sum is kept
last_told : (id w value sum : ℕ) (l : Live) (d : Bool) → l.tracked.block.id ≡ id → is_last w l.tracked ≡ true → d ≡ differs l.tracked.kept sum
    → record l { tracked = told (sum_load id w value (if d then Some id else None)) sum l.tracked } ≡ record l { tracked = summed sum l.tracked }
last_told id w value sum l d its last same = λ i. record l { tracked = record l.tracked { count = (count d ∙ ap (λ b. if b then references_of l.tracked.block else l.tracked.count) same) i; kept = kept i } }
  where
    count : (d : Bool) → (if option_is (if d then Some id else None) l.tracked.block.id then references_of l.tracked.block else l.tracked.count) ≡ (if d then references_of l.tracked.block else l.tracked.count)
    count true = rw (eq-eqb id l.tracked.block.id (sym its)) refl
    count false = refl

    kept : (if (id == l.tracked.block.id) && (w == last_word l.tracked.block) then Some sum else l.tracked.kept) ≡ Some sum
    kept = rw (eq-eqb id l.tracked.block.id (sym its), last) refl

-- another word: nothing is kept
more_told : (id w value sum : ℕ) (l : Live) → is_last w l.tracked ≡ false → record l { tracked = told (sum_load id w value None) sum l.tracked } ≡ l
more_told id w value sum l last = λ i. record l { tracked = record l.tracked { kept = kept i } }
  where
    at : (a b : Bool) → b ≡ false → (if a && b then Some sum else l.tracked.kept) ≡ l.tracked.kept
    at true b e = rw e refl
    at false b e = refl

    kept : (if (id == l.tracked.block.id) && (w == last_word l.tracked.block) then Some sum else l.tracked.kept) ≡ l.tracked.kept
    kept = at (id == l.tracked.block.id) (w == last_word l.tracked.block) last

pub sum_kept : (stacks : Bool) (s : Sweep) (w value sum : ℕ) (t : Tracker) (roll : Roll) (id : RecId) (l : Live) (d : Bool) → AreRising 0 t.live t.registered → live_with id t ≡ Some l → is_last w l.tracked ≡ true → d ≡ differs l.tracked.kept sum
    → sum ≡ sum_after (scanning_of t s) (record { phase = 3; holder = id.generation; word = w }) value
    → queued d id.generation (changed (is_id id) (summed sum) t) ≡ load_told stacks s (record { phase = 3; holder = id.generation; word = w }) value t roll
sum_kept stacks s w value sum t roll id l d r e last dis is =
    let its = (is_its id l (found_its id t.live l e)).1 in
    let now = sum_after (scanning_of t s) (record { phase = 3; holder = id.generation; word = w }) value in
    let c = changed_is (tracked_in t) id.generation w now l.tracked true (found_tracked id 0 t.registered t.live l r e) its last in
    let dn : d ≡ differs l.tracked.kept now = dis ∙ ap (differs l.tracked.kept) is in
    sym (
    ap (λ (k : Option ℕ). told_in (sum_load id.generation w value k) now t) (c ∙ ap (λ b. if b then Some id.generation else None) (sym dn))
    ∙ ap (λ (ls : List Live). record t { live = ls; queue = with_last t.queue (first_of (if d then Some id.generation else None) None) })
    (map_one id (λ (x : Live). record x { tracked = told (sum_load id.generation w value (if d then Some id.generation else None)) now x.tracked }) (λ (x : Live). record x { tracked = summed now x.tracked }) 0 t.registered t.live l r e
    (last_told id.generation w value now l d its last dn)
    (others_stay id.generation w value now (if d then Some id.generation else None) (only_it id.generation d)))
    ∙ ap (λ (n : ℕ). record t { live = map (λ (x : Live). if is_id id x then record x { tracked = summed n x.tracked } else x) t.live; queue = with_last t.queue (first_of (if d then Some id.generation else None) None) }) (sym is)
    ∙ queue d
    )
  where
    queue : (b : Bool) → record t { live = map (λ (x : Live). if is_id id x then record x { tracked = summed sum x.tracked } else x) t.live; queue = with_last t.queue (first_of (if b then Some id.generation else None) None) } ≡ queued b id.generation (changed (is_id id) (summed sum) t)
    queue true = refl
    queue false = refl

pub sum_goes_on : (stacks : Bool) (s : Sweep) (w value : ℕ) (t : Tracker) (roll : Roll) (id : RecId) (l : Live) → AreRising 0 t.live t.registered → live_with id t ≡ Some l → is_last w l.tracked ≡ false
    → t ≡ load_told stacks s (record { phase = 3; holder = id.generation; word = w }) value t roll
sum_goes_on stacks s w value t roll id l r e last =
    let its = (is_its id l (found_its id t.live l e)).1 in
    let now = sum_after (scanning_of t s) (record { phase = 3; holder = id.generation; word = w }) value in
    let c = changed_is (tracked_in t) id.generation w now l.tracked false (found_tracked id 0 t.registered t.live l r e) its last in
    sym (
    ap (λ (k : Option ℕ). told_in (sum_load id.generation w value k) now t) c
    ∙ ap (λ (ls : List Live). record t { live = ls })
    (map_all id (λ (x : Live). record x { tracked = told (sum_load id.generation w value None) now x.tracked }) 0 t.registered t.live l r e (more_told id.generation w value now l last)
    (others_stay id.generation w value now None (λ n f. absurd (let z : ⊥ = cc in z))))
    )

pub is_last_word : (u : Tracked) (w start size : ℕ) → IsWordOf u.block w → u.block.start ≡ start → u.block.size ≡ size → w - start + 8 ≡ size → is_last w u ≡ true
is_last_word u w start size h s z e = let is = h.2 in eq-eqb w (last_word u.block) (omega (arith, is, s, z, e))

pub is_no_last_word : (u : Tracked) (w start size : ℕ) → IsWordOf u.block w → u.block.start ≡ start → u.block.size ≡ size → (w - start + 8 ≡ size → ⊥) → is_last w u ≡ false
is_no_last_word u w start size h s z ne =
    let is = h.2 in
    let within = h.1 in
    ne_eqb w (last_word u.block) (λ e. ne (omega (arith, is, within, s, z, e)))
