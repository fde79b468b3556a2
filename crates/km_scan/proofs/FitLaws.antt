use Rattle.std.proofs.Common.{◌≡◌, ℕ, ◌+◌, ◌<◌, ◌≤◌, ◌^◌, Bool, true, false, ◌&&◌, cond, List, [], ◌∷◌, ◌++◌, map, Some, if◌then◌else◌, refl, ap, ◌∙◌, arith}
use Rattle.std.specs.Prelude.{find, ◌==◌, bytes_eq, not, slice_set}
use Rattle.std.specs.List.{All}
use Rattle.std.proofs.lemmas.Bool.{le-ltb}
use Rattle.std.proofs.lemmas.List.Elements.{All-filter, All-map, All-push, All-weaker}
use Rattle.km_base.specs.declared.acts.Reg.{Reg}
use Rattle.km_base.specs.declared.spans.Span.{Span}
use Rattle.km_links.specs.Chains.{is_in}
use Rattle.km_record.specs.declared.kinds.RecId.{RecId}
use Rattle.km_record.specs.declared.kinds.Note.{Note}
use Rattle.km_record.specs.declared.kinds.Note.TheVariants.{NotLeak, Ignore, NoScan, TransientLeak}
use Rattle.km_model.specs.Tasks.{Task, place_of, with_register}
use Rattle.km_state.specs.State.{Tracked, is_white_now}
use Rattle.km_tasks.specs.Roll.{Roll, with_task, with_value, without}
use Rattle.km_track.specs.Tracker.{Live, Tracker, changed, is_id, live_with, registered_in, tracked_noted}
use Rattle.km_scan.specs.declared.places.At.TheVariants.{Stack, Block as InBlock}
use Rattle.km_scan.specs.declared.places.Cursor.{Cursor}
use Rattle.km_scan.specs.declared.places.Cursor.TheVariants.{Start, Last, Behind}
use Rattle.km_scan.specs.Stand.{Fits, FitsCursor, IsSettled, IsStackWord, KeepsPlaces, Stand, StackEnds}
use Rattle.km_scan.proofs.Held.{due_none}
use Rattle.km_scan.proofs.Kept.{Kept, cursor_kept}

-- what other calls leave of a scanner that fits

-- another tracker that keeps the blocks
blocks_kept : (s : Stand) (t u : Tracker) (roll : Roll) → ((id : RecId) (l : Live) → live_with id t ≡ Some l → Kept id t u l) → IsSettled s → Fits s t roll → Fits s u roll
blocks_kept s t u roll kept settled f = λ w e. record {
  cursor = cursor_kept s.stacks w.cursor t u roll kept (f w e).cursor;
  ready = due_none s.stacks w.ready u roll (settled w e);
  stacks_end = (f w e).stacks_end;
}

-- a block more
find_more : (test : Live → Bool) (ls : List Live) (x l : Live) → find test ls ≡ Some l → find test (ls ++ x ∷ []) ≡ Some l
find_more test [] x l e = absurd (let z : ⊥ = cc in z)
find_more test (y ∷ ls) x l e =
    elim (test y) as (λ b. cond b (Some y) (find test ls) ≡ Some l → cond b (Some y) (find test (ls ++ x ∷ [])) ≡ Some l) [ true ↦ λ f. f | false ↦ λ f. find_more test ls x l f ] e

pub registered_kept : (s : Stand) (t : Tracker) (roll : Roll) (slot : ℕ) (span : Span) (references born : ℕ) → IsSettled s → Fits s t roll → Fits s (registered_in slot span references born t) roll
registered_kept s t roll slot span references born settled f =
    blocks_kept s t (registered_in slot span references born t) roll (λ id l e. record { it = l; found = find_more (is_id id) t.live _ l e; start = refl; size = refl; dark = λ h. h; out = λ o. o }) settled f

-- blocks that are changed where they are
find_changed : (id : RecId) (test : Live → Bool) (change : Tracked → Tracked) (ls : List Live) (l : Live) → KeepsPlaces change → find (is_id id) ls ≡ Some l
    → find (is_id id) (map (λ (x : Live). if test x then record x { tracked = change x.tracked } else x) ls) ≡ Some (if test l then record l { tracked = change l.tracked } else l)
find_changed id test change [] l k e = absurd (let z : ⊥ = cc in z)
find_changed id test change (x ∷ ls) l k e =
    ap (λ b. cond b (Some (if test x then record x { tracked = change x.tracked } else x)) (find (is_id id) (map (λ (y : Live). if test y then record y { tracked = change y.tracked } else y) ls))) (same (test x))
    ∙ elim (is_id id x) as (λ b. cond b (Some x) (find (is_id id) ls) ≡ Some l
    → cond b (Some (if test x then record x { tracked = change x.tracked } else x)) (find (is_id id) (map (λ (y : Live). if test y then record y { tracked = change y.tracked } else y) ls)) ≡ Some (if test l then record l { tracked = change l.tracked } else l)) [
      | true ↦ λ f. let here : x ≡ l = cc in ap (λ (y : Live). Some (if test y then record y { tracked = change y.tracked } else y)) here
      | false ↦ λ f. find_changed id test change ls l k f
    ] e
  where
    same : (b : Bool) → is_id id (if b then record x { tracked = change x.tracked } else x) ≡ is_id id x
    same true = ap (λ n. (x.slot == id.slot) && (n == id.generation)) (k x.tracked).0
    same false = refl

change_kept : (t : Tracker) (test : Live → Bool) (change : Tracked → Tracked) → KeepsPlaces change → (id : RecId) (l : Live) → live_with id t ≡ Some l → Kept id t (changed test change t) l
change_kept t test change k id l e = record {
  it = if test l then record l { tracked = change l.tracked } else l;
  found = find_changed id test change t.live l k e;
  start = elim (test l) as (λ b. (if b then record l { tracked = change l.tracked } else l).tracked.block.start ≡ l.tracked.block.start) [ true ↦ (k l.tracked).1 | false ↦ refl ];
  size = elim (test l) as (λ b. (if b then record l { tracked = change l.tracked } else l).tracked.block.size ≡ l.tracked.block.size) [ true ↦ (k l.tracked).2 | false ↦ refl ];
  dark = λ h. elim (test l) as (λ b. is_white_now (if b then record l { tracked = change l.tracked } else l).tracked ≡ false) [ true ↦ (k l.tracked).3 h | false ↦ h ];
  out = λ o. elim (test l) as (λ b. is_in (if b then record l { tracked = change l.tracked } else l).tracked.block.id t.queue ≡ false) [ true ↦ ap (λ n. is_in n t.queue) (k l.tracked).0 ∙ o | false ↦ o ];
}

pub changed_kept : (s : Stand) (t : Tracker) (roll : Roll) (test : Live → Bool) (change : Tracked → Tracked) → KeepsPlaces change → IsSettled s → Fits s t roll → Fits s (changed test change t) roll
changed_kept s t roll test change k settled f = blocks_kept s t (changed test change t) roll (change_kept t test change k) settled f

pub note_keeps : (note : Note) → KeepsPlaces (tracked_noted note)
note_keeps NotLeak u = (refl, refl, refl, λ h. le-ltb u.count 0 (omega arith))
note_keeps Ignore u = (refl, refl, refl, λ h. refl)
note_keeps NoScan u = (refl, refl, refl, λ h. h)
note_keeps TransientLeak u = (refl, refl, refl, λ h. h)

-- other tasks
cursor_stays : (stacks : Bool) (cursor : Cursor) (t : Tracker) (roll now : Roll) → roll.started ≤ now.started → ((task a : ℕ) → task ≤ roll.started → All (IsStackWord task a) roll.tasks → All (IsStackWord task a) now.tasks)
    → FitsCursor stacks cursor t roll → FitsCursor stacks cursor t now
cursor_stays stacks Start t roll now le words f = tt
cursor_stays stacks (Last (Stack task word)) t roll now le words f = let low = f.1 in (f.0, omega (arith, low, le), words task word.0 f.1 f.2)
cursor_stays stacks (Last (InBlock pass id word)) t roll now le words f = f
cursor_stays stacks (Behind pass gen) t roll now le words f = tt

tasks_kept : (s : Stand) (t : Tracker) (roll now : Roll) → roll.started ≤ now.started → ((task a : ℕ) → task ≤ roll.started → All (IsStackWord task a) roll.tasks → All (IsStackWord task a) now.tasks)
    → (All StackEnds roll.tasks → All StackEnds now.tasks) → IsSettled s → Fits s t roll → Fits s t now
tasks_kept s t roll now le words ends settled f = λ w e. record {
  cursor = cursor_stays s.stacks w.cursor t roll now le words (f w e).cursor;
  ready = due_none s.stacks w.ready t now (settled w e);
  stacks_end = ends (f w e).stacks_end;
}

-- a task more
pub start_kept : (s : Stand) (t : Tracker) (roll : Roll) (name : List ℕ) (stack : ℕ) → stack + 4096 < 2 ^ 64 → IsSettled s → Fits s t roll → Fits s t (with_task roll name stack)
start_kept s t roll name stack lt settled f =
    tasks_kept s t roll (with_task roll name stack) (omega arith) (λ task a le all. All-push (IsStackWord task a) roll.tasks _ all (λ e. absurd (omega (arith, le, e)))) (λ all. All-push StackEnds roll.tasks _ all lt) settled f

-- one less
pub exit_kept : (s : Stand) (t : Tracker) (roll : Roll) (name : List ℕ) → IsSettled s → Fits s t roll → Fits s t (without roll name)
exit_kept s t roll name settled f =
    tasks_kept s t roll (without roll name) (omega arith) (λ task a le all. All-filter (λ (u : Task). not (bytes_eq u.name name)) (IsStackWord task a) roll.tasks all)
    (λ all. All-filter (λ (u : Task). not (bytes_eq u.name name)) StackEnds roll.tasks all) settled f

-- and another register
set_all : (P : Task → Type 0) (name : List ℕ) (reg : Reg) (value : ℕ) (tasks : List Task) → ((u : Task) (registers : List ℕ) → P u → P (record u { registers = registers })) → All P tasks → All P (with_register tasks name reg value)
set_all P name reg value tasks same all =
    All-map P (λ (u : Task). if bytes_eq u.name name then record u { registers = slice_set u.registers (place_of reg) value } else u) tasks
    (All-weaker P (λ (u : Task). P (if bytes_eq u.name name then record u { registers = slice_set u.registers (place_of reg) value } else u))
    (λ u p. elim (bytes_eq u.name name) as (λ b. P (if b then record u { registers = slice_set u.registers (place_of reg) value } else u)) [ true ↦ same u (slice_set u.registers (place_of reg) value) p | false ↦ p ]) tasks all)

pub register_kept : (s : Stand) (t : Tracker) (roll : Roll) (name : List ℕ) (reg : Reg) (value : ℕ) → IsSettled s → Fits s t roll → Fits s t (with_value roll name reg value)
register_kept s t roll name reg value settled f =
    tasks_kept s t roll (with_value roll name reg value) (omega arith) (λ task a le all. set_all (IsStackWord task a) name reg value roll.tasks (λ u registers p. p) all)
    (λ all. set_all StackEnds name reg value roll.tasks (λ u registers p. p) all) settled f
