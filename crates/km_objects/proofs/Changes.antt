use Rattle.std.proofs.Common.{◌≡◌, ℕ, ◌+◌, Bool, true, false, cond, List, [], ◌∷◌, map, Option, Some, None, option_map, if◌then◌else◌, refl, sym, ap, ◌∙◌, subst}
use Rattle.std.specs.Prelude.{find, is_some, nat_lt, length, ◌==◌, Result, Ok, Err}
use Rattle.std.specs.List.{list_any}
use Rattle.km_base.specs.declared.acts.Answer.{Answer}
use Rattle.km_base.specs.declared.acts.Answer.TheVariants.{Done, Refused}
use Rattle.km_base.specs.declared.acts.Refusal.TheVariants.{AreaOverlap, NotInside, TooManyAreas}
use Rattle.km_model.specs.Answers.{areas_meet, unless}
use Rattle.km_record.specs.declared.kinds.AreaFault.TheVariants as fault
use Rattle.km_track.specs.Areas.{area_answer, unless_refused}
use Rattle.km_track.specs.declared.faults.AreaRefusal.{AreaRefusal}
use Rattle.km_record.specs.Records.{with_area}
use Rattle.km_model.specs.Blocks.{Block, block_with, contains}
use Rattle.km_state.specs.State.{State, Tracked, blocks_in}
use Rattle.km_tasks.specs.Roll.{Roll}
use Rattle.km_track.specs.Tracker.{Live, Tracker, changed, live_where, tracked_in}
use Rattle.km_scan.specs.declared.sweep.Sweep.{Sweep}
use Rattle.km_scan.specs.Places.{cursor_of}
use Rattle.km_scan.specs.Stand.{Fits, KeepsPlaces, Stand}
use Rattle.km_scan.proofs.FitLaws.{changed_kept}
use Rattle.km_objects.specs.Objects.{Agree, AreOf, Objects, area_answered, refusal_of}

-- calls that change some blocks where they are

-- the block that a search finds is the one that it finds among the blocks alone
pub found_in : (test : Block → Bool) (o : Objects) (s : State) → AreOf o s → option_map (λ (l : Live). l.tracked.block) (live_where test o.tracker) ≡ find test (blocks_in s.tracked)
found_in test o s are = search_in o.tracker.live ∙ ap (λ us. find test (blocks_in us)) (sym are.tracked)
  where
    search_in : (ls : List Live) → option_map (λ (l : Live). l.tracked.block) (find (λ (l : Live). test l.tracked.block) ls) ≡ find test (blocks_in (map (λ (l : Live). l.tracked) ls))
    search_in [] = refl
    search_in (x ∷ ls) =
        elim (test x.tracked.block) as (λ b. option_map (λ (l : Live). l.tracked.block) (cond b (Some x) (find (λ (l : Live). test l.tracked.block) ls)) ≡ cond b (Some x.tracked.block) (find test (blocks_in (map (λ (l : Live). l.tracked) ls)))) [ true ↦ refl | false ↦ search_in ls ]

pub is_found : (test : Block → Bool) (o : Objects) (t : Tracker) (k : Stand) (s : State) → record { tracker = t; stand = k } ≡ o → AreOf o s → is_some (live_where test t) ≡ is_some (find test (blocks_in s.tracked))
is_found test o t k s view are =
    ap (λ (x : Objects). is_some (live_where test x.tracker)) view ∙ some_of (live_where test o.tracker) ∙ ap (λ (x : Option Block). is_some x) (found_in test o s are)
  where
    some_of : (x : Option Live) → is_some x ≡ is_some (option_map (λ (l : Live). l.tracked.block) x)
    some_of None = refl
    some_of (Some l) = refl

-- other blocks, with the same queue
pub with_blocks : (o : Objects) (t : Tracker) (us : List Tracked) (s : State) → AreOf o s → us ≡ tracked_in t → t.registered ≡ o.tracker.registered → t.queue ≡ o.tracker.queue
    → AreOf (record { tracker = t; stand = o.stand }) (record s { tracked = us })
with_blocks o t us s are tracked registered queue = record {
  registered = are.registered ∙ sym registered;
  tracked = tracked;
  scans = are.scans;
  begun = are.begun;
  scan = are.scan ∙ ap (λ q. option_map (λ (w : Sweep). record { queue = q; cursor = cursor_of w.cursor; sum = w.sum }) o.stand.sweep) (sym queue);
  stacks = are.stacks;
}

-- the blocks that pass are changed
change_in : (test : Tracked → Bool) (change : Tracked → Tracked) (ls : List Live)
    → map (λ (u : Tracked). if test u then change u else u) (map (λ (l : Live). l.tracked) ls) ≡ map (λ (l : Live). l.tracked) (map (λ (l : Live). if test l.tracked then record l { tracked = change l.tracked } else l) ls)
change_in test change [] = refl
change_in test change (x ∷ ls) =
    (λ i. here (test x.tracked) i ∷ change_in test change ls i)
  where
    here : (b : Bool) → (if b then change x.tracked else x.tracked) ≡ (if b then record x { tracked = change x.tracked } else x).tracked
    here true = refl
    here false = refl

pub changed_are : (test : Tracked → Bool) (change : Tracked → Tracked) (o : Objects) (t u : Tracker) (k : Stand) (s : State) → record { tracker = t; stand = k } ≡ o → u ≡ changed (λ (l : Live). test l.tracked) change t → AreOf o s
    → AreOf (record { tracker = u; stand = k }) (record s { tracked = map (λ (v : Tracked). if test v then change v else v) s.tracked })
changed_are test change o t u k s view after are =
    let old : AreOf (record { tracker = t; stand = k }) s = subst (λ (x : Objects). AreOf x s) (sym view) are in
    subst (λ (x : Tracker). AreOf (record { tracker = x; stand = k }) (record s { tracked = map (λ (v : Tracked). if test v then change v else v) s.tracked })) (sym after)
    (with_blocks (record { tracker = t; stand = k }) (changed (λ (l : Live). test l.tracked) change t) _ s old (ap (map (λ (v : Tracked). if test v then change v else v)) old.tracked ∙ change_in test change t.live) refl refl)

pub changed_agree : (test : Live → Bool) (change : Tracked → Tracked) (o : Objects) (t u : Tracker) (k : Stand) (roll : Roll) → KeepsPlaces change → record { tracker = t; stand = k } ≡ o → u ≡ changed test change t → Agree o roll
    → Agree (record { tracker = u; stand = k }) roll
changed_agree test change o t u k roll keeps view after agree =
    let old : Agree (record { tracker = t; stand = k }) roll = subst (λ (x : Objects). Agree x roll) (sym view) agree in
    record { settled = old.settled; fits = subst (λ (x : Tracker). Fits k x roll) (sym after) (changed_kept k t roll test change keeps old.settled old.fits) }

pub area_keeps : (a size : ℕ) → KeepsPlaces (λ u. record u { block = with_area a size u.block })
area_keeps a size u = (refl, refl, refl, λ h. h)

pub excess_keeps : (excess : Option ℕ) → KeepsPlaces (λ u. record u { block = record u.block { excess = excess } })
excess_keeps excess u = (refl, refl, refl, λ h. h)

-- the answer to an added area
abbrev pub answer_of : Result (Unit {0}) AreaRefusal → Answer
answer_of (Ok _) = Done
answer_of (Err f) = Refused (refusal_of f)

area_same : (x : Option Live) (a size : ℕ) → answer_of (area_answer x a size) ≡ area_answered (option_map (λ (l : Live). l.tracked.block) x) a size
area_same None a size = refl
area_same (Some l) a size = by_test (nat_lt (l.tracked.block.start + l.tracked.block.size) (a + size)) (list_any (areas_meet a size) l.tracked.block.areas) (length l.tracked.block.areas == 4)
  where
    by_test : (p q r : Bool) → answer_of (unless_refused (if p then Some fault.NotInside else (if q then Some fault.AreaOverlap else (if r then Some fault.TooManyAreas else None))))
        ≡ unless p NotInside (unless q AreaOverlap (unless r TooManyAreas Done))
    by_test true q r = refl
    by_test false true r = refl
    by_test false false true = refl
    by_test false false false = refl

pub area_answers : (o : Objects) (t : Tracker) (k : Stand) (s : State) (a size : ℕ) (r : Result (Unit {0}) AreaRefusal) → record { tracker = t; stand = k } ≡ o → AreOf o s → r ≡ area_answer (live_where (contains a) t) a size
    → answer_of r ≡ area_answered (block_with (blocks_in s.tracked) a) a size
area_answers o t k s a size r view are e =
    ap answer_of e ∙ area_same (live_where (contains a) t) a size
    ∙ ap (λ (x : Objects). area_answered (option_map (λ (l : Live). l.tracked.block) (live_where (contains a) x.tracker)) a size) view
    ∙ ap (λ x. area_answered x a size) (found_in (contains a) o s are)
