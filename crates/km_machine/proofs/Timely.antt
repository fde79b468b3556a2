-- When automatic scans fall due.
use Rattle.std.proofs.Common.{◌≡◌, ℕ, zero, suc, ◌+◌, ◌-◌, ◌*◌, ◌≤◌, Bool, true, false, ◌&&◌, ◌==◌, not, nat_lt, List, [], ◌∷◌, ◌++◌, Option, Some, None, is_some, MatchBool, refl, sym, ap, ◌∙◌, subst, arith, if◌then◌else◌}
use Rattle.km_base.specs.declared.acts.Act.{Act}
use Rattle.km_base.specs.declared.acts.Act.TheVariants.{Section, TaskExit, Kmalloc, VmTake, VmGive, BootMem, FreePart, File, AutoBegin, Step}
use Rattle.km_base.specs.declared.acts.FileCmd.{FileCmd}
use Rattle.km_base.specs.declared.acts.FileCmd.TheVariants.{Off, ScanOff, ScanOn, ScanEvery, Clear}
use Rattle.km_base.specs.declared.acts.Answer.{Answer}
use Rattle.km_base.specs.declared.acts.Answer.TheVariants.{Done, Skipped, Refused}
use Rattle.km_base.specs.declared.acts.Refusal.TheVariants.{Disabled}
use Rattle.km_laws.proofs.Since.{IsAnswered}
use Rattle.km_model.specs.History.{History}
use Rattle.km_model.specs.Blocks.{Block, block_with, without_block, changed_where, painted_grey, is_among}
use Rattle.km_model.specs.Placement.{pages_for, lowest_run, lowest_slab, lowest_slot, kmalloc_span, kmalloc_use, slot_of_area, head_with, page_start, HeadBlock, AreaRun, BootRun, SectionRun}
use Rattle.km_model.specs.Tasks.{Task, task_named}
use Rattle.km_model.specs.World.{World, next_block, with_block, with_rest, with_allocation}
use Rattle.km_model.specs.Past.{is_refused, running_scan}
use Rattle.km_model.specs.Changes.{world_after_event, world_after_act, world_after_word, world_after_exit, with_vmalloc, world_after_vfree, world_without, world_without_part}
use Rattle.km_model.specs.Answers.{answer, unless}
use Rattle.km_model.specs.Verdict.{listing_ids}
use Rattle.km_model.specs.Follows.{Run, happens, past_of, told_answer}
use Rattle.km_model.specs.Expansion.{Finishes, ScansIfBegun, run_at, newest_is_done, newest_is_loaded, steps, world_after}

-- automatic scans lie a second apart at least, and are due only while `off` was not written
pub record Sets (enabled : Bool) (period : ℕ) (due : Option ℕ) : Type 0 where
  pub apart : 1000 ≤ period
  pub on : (m : ℕ) → due ≡ Some m → enabled ≡ true

abbrev pub Timely : World → Type 0
Timely w = Sets w.enabled w.period w.due

either : (q : Bool) (x y : World) → Timely x → Timely y → Timely (if q then x else y)
either true x y s t = s
either false x y s t = t

block : (w : World) (start size references : ℕ) (excess : Option ℕ) → Timely w → Timely (with_block w start size references excess)
block w start size references excess t =
    either w.enabled (record w { registered = w.registered + 1; blocks = w.blocks ++ next_block w start size references excess ∷ [] }) w t t

rest : (w : World) (b : Block) (start size : ℕ) → Timely w → Timely (with_rest w b start size)
rest w b start size t =
    either (w.enabled && nat_lt 0 size) (record w { registered = w.registered + 1; blocks = w.blocks ++ record b { id = w.registered; start = start; size = size; areas = []; excess = None } ∷ [] }) w t t

parted : (w : World) (a size : ℕ) (o : Option Block) → Timely w → Timely (world_without_part w a size o)
parted w a size None t = t
parted w a size (Some b) t =
    let left : World = record w { blocks = without_block w.blocks b.start } in
    rest (with_rest left b b.start (a - b.start)) b (a + size) (b.start + b.size - (a + size)) (rest left b b.start (a - b.start) t)

exited : (w : World) (o : Option Task) → Timely w → Timely (world_after_exit w o)
exited w None t = t
exited w (Some x) t = t

headed : (w : World) (a : ℕ) (o : Option ℕ) → Timely w → Timely (elim o as (λ _. World) [ None ↦ w | Some head ↦ world_without (world_without w a) head ])
headed w a None t = t
headed w a (Some head) t = t

vfreed : (w : World) (a : ℕ) (slot : Option ℕ) → Timely w → Timely (world_after_vfree w a slot)
vfreed w a None t = t
vfreed w a (Some slot) t = headed w a (head_with w.used slot) t

vmalloced : (w : World) (size head area : ℕ) → Timely w → Timely (with_vmalloc w size head area)
vmalloced w size head area t =
    let slot = lowest_slot w.used in
    let placed = with_allocation (with_allocation w (HeadBlock slot) head 64) (AreaRun slot) area (4096 * pages_for size) in
    block (with_block placed head 64 1 (Some area)) area (4096 * pages_for size) 2 None (block placed head 64 1 (Some area) t)

cleared : (w : World) (listed : List ℕ) → Timely w → Timely (world_after_word w listed Clear)
cleared w listed t =
    either w.enabled (record w { blocks = changed_where (λ (b : Block). is_among b.id listed) painted_grey w.blocks }) (record w { blocks = [] }) t t

none_due : (enabled : Bool) (period : ℕ) → 1000 ≤ period → Sets enabled period None
none_due enabled period p = record { apart = p; on = λ m e. absurd (let z : ⊥ = cc in z) }

every : (w : World) (n : ℕ) (q : Bool) → n == 0 ≡ q → w.enabled ≡ true → Timely w
    → Timely (if q then record w { due = None } else record w { period = 1000 * n; due = Some (w.now + 1000 * n) })
every w n true e on t = none_due w.enabled w.period t.apart
every w n false e on t = record { apart = some_seconds n e; on = λ m _. on }
  where
    some_seconds : (n : ℕ) → n == 0 ≡ false → 1000 ≤ 1000 * n
    some_seconds zero e = absurd (let z : ⊥ = cc in z)
    some_seconds (suc n) e = omega arith

-- a word that is refused where `off` was written
written : (w : World) (listed : List ℕ) (word : FileCmd) → w.enabled ≡ true → Timely w → Timely (world_after_word w listed word)
written w listed Off on t = none_due false w.period t.apart
written w listed ScanOff on t = none_due w.enabled w.period t.apart
written w listed ScanOn on t = either (is_some w.due) w (record w { due = Some (w.now + w.period) }) t (record { apart = t.apart; on = λ m _. on })
written w listed (ScanEvery n) on t = every w n (n == 0) refl on t
written w listed Clear on t = cleared w listed t
written w listed _ on t = t

guarded : (w x : World) (given : Answer) (q : Bool) → w.enabled ≡ q → Timely w → (w.enabled ≡ true → Timely x) → Timely (if is_refused (unless (not q) Disabled given) then w else x)
guarded w x given false e t f = t
guarded w x given true e t f = either (is_refused given) w x t (f e)

event_timely : (words : ℕ) (h : History) (act : Act) (value : ℕ) → Timely (world_after h) → Timely (world_after_event (world_after h) (listing_ids (past_of h)) act (answer words (past_of h) act value))
unfolding answer world_after_act
event_timely words h act value t = by_act act
  where
    accepted : (act : Act) → Timely (world_after_act (world_after h) (listing_ids (past_of h)) act (answer words (past_of h) act value))
        → Timely (world_after_event (world_after h) (listing_ids (past_of h)) act (answer words (past_of h) act value))
    accepted act u = either (is_refused (answer words (past_of h) act value)) (world_after h) (world_after_act (world_after h) (listing_ids (past_of h)) act (answer words (past_of h) act value)) t u

    by_word : (word : FileCmd) → Timely (world_after_event (world_after h) (listing_ids (past_of h)) (File word) (answer words (past_of h) (File word) value))
    by_word Clear = accepted (File Clear) (cleared (world_after h) (listing_ids (past_of h)) t)
    by_word word = guarded (world_after h) (world_after_word (world_after h) (listing_ids (past_of h)) word) _ (world_after h).enabled refl t (λ on. written (world_after h) (listing_ids (past_of h)) word on t)

    by_act : (act : Act) → Timely (world_after_event (world_after h) (listing_ids (past_of h)) act (answer words (past_of h) act value))
    by_act (Section name n) = accepted (Section name n) (block (with_allocation (world_after h) (SectionRun name) (page_start (lowest_run (world_after h).used (pages_for (8 * n)))) (4096 * pages_for (8 * n))) _ (8 * n) 0 None t)
    by_act (TaskExit name) = accepted (TaskExit name) (exited (world_after h) (task_named (world_after h).tasks name) t)
    by_act (Kmalloc size) = accepted (Kmalloc size) (block (with_allocation (world_after h) (kmalloc_use size) _ (kmalloc_span size)) _ (kmalloc_span size) 1 None t)
    by_act (VmTake size) = accepted (VmTake size) (vmalloced (world_after h) size (lowest_slab (world_after h).used 64) _ t)
    by_act (VmGive a) = accepted (VmGive a) (vfreed (world_after h) a (slot_of_area (world_after h).used a) t)
    by_act (BootMem size) = accepted (BootMem size) (block (with_allocation (world_after h) BootRun _ (4096 * pages_for size)) _ size 0 None t)
    by_act (FreePart a size) = accepted (FreePart a size) (parted (world_after h) a size (block_with (world_after h).blocks a) t)
    by_act (File word) = by_word word
    by_act AutoBegin = guarded (world_after h) (record (world_after h) { due = Some ((world_after h).now + (world_after h).period) }) _ (world_after h).enabled refl t (λ on. record { apart = t.apart; on = λ m _. on })
    by_act act = accepted act t

-- at each moment of a history
pub timely : (words : ℕ) (h : History) → IsAnswered words h → Timely (world_after h)
timely words [] follows = record { apart = omega arith; on = λ m e. refl }
timely words (x ∷ h) follows =
    subst (λ a. Timely (world_after_event (world_after h) (listing_ids (past_of h)) x.act a)) (sym follows.0.1) (event_timely words h x.act follows.0.0 (timely words h follows.1))

-- a scanner's step changes nothing but the scan
same_if : (q : Bool) (w : World) → (if q then w else w) ≡ w
same_if true w = refl
same_if false w = refl

step_keeps : (run : Run) → world_after (happens run Step).history ≡ world_after run.history
unfolding world_after_act
step_keeps run = same_if (is_refused (told_answer run Step)) (world_after run.history)

steps_keep : (n : ℕ) (run : Run) → world_after (steps n run).history ≡ world_after run.history
steps_keep zero run = refl
steps_keep (suc n) run =
    let stepped = happens run Step in
    elim (newest_is_loaded stepped.history) as (λ q. world_after (elim q as (λ _. Run) [ true ↦ steps n stepped | false ↦ stepped ]).history ≡ world_after run.history) [
      | true ↦ steps_keep n stepped ∙ step_keeps run
      | false ↦ step_keeps run
    ]

scan_keeps : (run behind : Run) (q : Bool) → MatchBool q (Finishes run behind) (run ≡ behind) → world_after behind.history ≡ world_after run.history
scan_keeps run behind true f = ap (λ (r : Run). world_after r.history) (sym f.1) ∙ steps_keep (suc f.0) run
scan_keeps run behind false e = ap (λ (r : Run). world_after r.history) (sym e)

-- time moves
moved : (run : Run) (m : ℕ) → world_after (run_at run m).history ≡ record (world_after run.history) { now = (world_after run.history).now + (m - (world_after run.history).now) }
unfolding answer world_after_act
moved run m = refl

-- an automatic scan is begun, or left out; the next lies a period behind it
begun : (run : Run) → (world_after run.history).enabled ≡ true
    → world_after (happens run AutoBegin).history ≡ record (world_after run.history) { due = Some ((world_after run.history).now + (world_after run.history).period) }
unfolding answer world_after_act
begun run on = by_enabled (world_after run.history).enabled on
  where
    by_enabled : (q : Bool) → q ≡ true
        → (if is_refused (if not q then Refused Disabled else (elim (running_scan (past_of run.history)) as (λ _. Answer) [ None ↦ Done | Some _ ↦ Skipped ])) then world_after run.history else record (world_after run.history) { due = Some ((world_after run.history).now + (world_after run.history).period) })
        ≡ record (world_after run.history) { due = Some ((world_after run.history).now + (world_after run.history).period) }
    by_enabled false e = absurd (let z : ⊥ = cc in z)
    by_enabled true e =
        elim (running_scan (past_of run.history)) as (λ o. (if is_refused (elim o as (λ _. Answer) [ None ↦ Done | Some _ ↦ Skipped ]) then world_after run.history else record (world_after run.history) { due = Some ((world_after run.history).now + (world_after run.history).period) })
        ≡ record (world_after run.history) { due = Some ((world_after run.history).now + (world_after run.history).period) }) [ None ↦ refl | Some k ↦ refl ]

-- when an automatic scan was made, and when the next is due
pub record Paced (w v : World) (due : ℕ) : Type 0 where
  pub now : v.now ≡ w.now + (due - w.now)
  pub next : (m : ℕ) → v.due ≡ Some m → v.now + 1000 ≤ m

pub scan_paced : (run behind : Run) (due : ℕ) → IsAnswered run.words run.history → (world_after run.history).due ≡ Some due → ScansIfBegun (happens (run_at run due) AutoBegin) behind
    → Paced (world_after run.history) (world_after behind.history) due
scan_paced run behind due follows is scans =
    let w = world_after run.history in
    let at_due = run_at run due in
    let t = timely run.words run.history follows in
    let on : (world_after at_due.history).enabled ≡ true = ap (λ (x : World). x.enabled) (moved run due) ∙ t.on due is in
    let after : world_after behind.history ≡ record w { now = w.now + (due - w.now); due = Some (w.now + (due - w.now) + w.period) } =
    scan_keeps (happens at_due AutoBegin) behind (newest_is_done (happens at_due AutoBegin).history) scans ∙ begun at_due on
    ∙ ap (λ (x : World). record x { due = Some (x.now + x.period) }) (moved run due) in
    let now : (world_after behind.history).now ≡ w.now + (due - w.now) = ap (λ (x : World). x.now) after in
    record {
      now = now;
      next = λ m e.
          let same : Some m ≡ Some (w.now + (due - w.now) + w.period) = sym e ∙ ap (λ (x : World). x.due) after in
          let m_is : m ≡ w.now + (due - w.now) + w.period = cc in
          omega (arith, now, m_is, t.apart);
    }
