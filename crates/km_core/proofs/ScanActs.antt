-- Acts of the file, of time and of the scanner.
use Rattle.std.proofs.Common.{◌≡◌, ℕ, ◌+◌, ◌*◌, ◌<◌, ◌≤◌, ◌^◌, ◌==◌, Bool, true, false, not, is_some, List, [], ◌∷◌, Option, Some, None, Ok, Err, option_map, if◌then◌else◌, refl, sym, ap, ◌∙◌, subst, arith}
use Rattle.std.specs.List.{All}
use Rattle.std.proofs.lemmas.List.Elements.{All-cons}
use Rattle.km_base.specs.declared.acts.Act.{Act}
use Rattle.km_base.specs.declared.acts.Act.TheVariants as acts
use Rattle.km_base.specs.declared.acts.FileCmd.{FileCmd}
use Rattle.km_base.specs.declared.acts.FileCmd.TheVariants as file
use Rattle.km_base.specs.declared.acts.Answer.{Answer}
use Rattle.km_base.specs.declared.acts.Answer.TheVariants.{At, Done, Dumped, Ended, Loaded, Skipped, Stopped, Refused}
use Rattle.km_base.specs.declared.acts.Info.{Info}
use Rattle.km_base.specs.declared.acts.Refusal.{Refusal}
use Rattle.km_base.specs.declared.acts.Refusal.TheVariants.{Busy, Disabled, NoObject, NoScanRunning}
use Rattle.km_model.specs.History.{value_of}
use Rattle.km_model.specs.Answers.{stop_answer, unless, unless_busy, why_answer}
use Rattle.km_model.specs.Blocks.{block_with, contains, painted_grey}
use Rattle.km_model.specs.Memory.{in_memory}
use Rattle.km_model.specs.Past.{Place, is_loaded, is_refused}
use Rattle.km_model.specs.Placement.{Allocation}
use Rattle.km_model.specs.Tasks.{Task}
use Rattle.km_model.specs.World.{World}
use Rattle.km_model.proofs.Lists.{Each, each_in}
use Rattle.km_laws.specs.Placed.{InMemory, StackPlaced, WholeWords}
use Rattle.km_state.specs.State.{State, Scanning, Tracked, blocks_in, is_listed_now, opened, running_of, tracked_where, world_of}
use Rattle.km_state.specs.StateAnswers.{dump_in, info_in, state_answer, stepped, word_answer}
use Rattle.km_state.specs.StateAfter.{painted, marked, state_after, changed, word_written}
use Rattle.km_state.specs.StateNext.{next_in, state_next}
use Rattle.km_reach.specs.Reached.{IsReached}
use Rattle.km_scan.specs.Stand.{StackEnds, scanning_of, seen}
use Rattle.km_scan.specs.declared.sweep.Sweep.{Sweep}
use Rattle.km_record.specs.declared.kinds.RecId.{RecId}
use Rattle.km_tasks.specs.Roll.{Roll}
use Rattle.km_track.specs.Tracker.{Live, Tracker, id_of, live_where}
use Rattle.km_words.specs.Told.{IsGiven, Told, loaded_in}
use Rattle.km_hosts.specs.Hosting.{Hold}
use Rattle.km_objects.specs.Objects.{Agree, AreOf, IfLoaded, Objects, all_dropped, places, scan_begun, scan_stopped}
use Rattle.km_core.specs.declared.settings.Settings.{Settings}
use Rattle.km_core.specs.Parts.{Answers, HostsStand, IsReady, IsWhole, Parts, StandsAs, Touches, set_in}
use Rattle.km_objects.proofs.Changes.{is_found}
use Rattle.km_core.specs.Kernels.{done_if, heeded, is_setting}
use Rattle.km_core.proofs.Marks.{counted, quiet, answer_word, answer_read, answer_tick, answer_automatic, answer_halt, after_off, after_off_stopped, after_begin, after_clear, after_dump, after_why, after_read, after_tick, after_automatic, after_skipped, after_halt}
use Rattle.km_core.proofs.Standing.{counted_hosts, counted_stands, does, does_objects, enabled_is, over_objects, refused, refused_now, same_objects, with_objects}
use Rattle.km_core.proofs.NoteActs.{painted_hosts}

-- a word that is refused, and one that isn't
usual : (e : Bool) (run : Option ℕ) (x : Answer) (r : Refusal) → heeded e run ≡ Err r → Refused r ≡ unless (not e) Disabled (unless_busy run x)
usual false run x r e = let same : Disabled ≡ r = cc in ap Refused (sym same)
usual true None x r e = absurd (let z : ⊥ = cc in z)
usual true (Some k) x r e = let same : Busy k ≡ r = cc in ap Refused (sym same)

passed : (e : Bool) (run : Option ℕ) (x : Answer) → heeded e run ≡ Ok tt → unless (not e) Disabled (unless_busy run x) ≡ x
passed false run x e = absurd (let z : ⊥ = cc in z)
passed true None x e = refl
passed true (Some k) x e = absurd (let z : ⊥ = cc in z)

pub free : (e : Bool) (run : Option ℕ) → heeded e run ≡ Ok tt → run ≡ None
free false run e = absurd (let z : ⊥ = cc in z)
free true None e = refl
free true (Some k) e = absurd (let z : ⊥ = cc in z)

-- where no scan runs in the state, none runs
no_scan : (s : State) → running_of s ≡ None → s.scan ≡ None
no_scan s e = elim s.scan as (λ o. (elim o as (λ _. Option ℕ) [ None ↦ None | Some _ ↦ Some s.scans ]) ≡ None → o ≡ None) [
  | None ↦ λ _. refl
  | Some c ↦ λ f. absurd (let z : ⊥ = cc in z)
] e

no_sweep : {A B : Type 0} (f : A → B) (o : Option A) → None ≡ option_map f o → o ≡ None
no_sweep f None e = refl
no_sweep f (Some w) e = absurd (let z : ⊥ = cc in z)

idle : (o : Objects) (s : State) → AreOf o s → running_of s ≡ None → o.stand.sweep ≡ None
idle o s r e = no_sweep (scanning_of o.tracker) o.stand.sweep (sym (no_scan s e) ∙ r.scan)

-- words but `off`, `clear`, `dump` and `why`
set_word : (s : State) (word : FileCmd) → is_setting word ≡ true → word_answer (world_of s) (running_of s) s.tracked word ≡ unless (not s.enabled) Disabled (unless_busy (running_of s) Done)
set_word s file.Off e = absurd (let z : ⊥ = cc in z)
set_word s file.StackOn e = refl
set_word s file.StackOff e = refl
set_word s file.ScanOn e = refl
set_word s file.ScanOff e = refl
set_word s (file.ScanEvery n) e = refl
set_word s file.Scan e = refl
set_word s file.Clear e = absurd (let z : ⊥ = cc in z)
set_word s (file.Dump a) e = absurd (let z : ⊥ = cc in z)
set_word s (file.Why a) e = absurd (let z : ⊥ = cc in z)

pub set_refused : (p : Parts) (word : FileCmd) (r : Refusal) (s : State) → is_setting word ≡ true → heeded s.enabled (running_of s) ≡ Err r → Refused r ≡ state_answer s (acts.File word) 0
set_refused p word r s setting e = usual s.enabled (running_of s) Done r e ∙ sym (set_word s word setting) ∙ sym (answer_word s word 0)

pub scan_refused : (r : Refusal) (s : State) → heeded s.enabled (running_of s) ≡ Err r → Refused r ≡ state_answer s (acts.File file.Scan) 0
scan_refused r s e = usual s.enabled (running_of s) Done r e ∙ sym (answer_word s file.Scan 0)

pub dump_refused : (a : ℕ) (r : Refusal) (s : State) → heeded s.enabled (running_of s) ≡ Err r → Refused r ≡ state_answer s (acts.File (file.Dump a)) 0
dump_refused a r s e = usual s.enabled (running_of s) (dump_in s.tracked a) r e ∙ sym (answer_word s (file.Dump a) 0)

pub why_refused : (a : ℕ) (r : Refusal) (s : State) → heeded s.enabled (running_of s) ≡ Err r → Refused r ≡ state_answer s (acts.File (file.Why a)) 0
why_refused a r s e = usual s.enabled (running_of s) (why_answer (world_of s) a) r e ∙ sym (answer_word s (file.Why a) 0)

after_set : (s : State) (word : FileCmd) → is_setting word ≡ true → state_after s (acts.File word) Done ≡ word_written (counted s) word
unfolding changed
after_set s file.Off e = absurd (let z : ⊥ = cc in z)
after_set s file.StackOn e = ap (λ (x : State). word_written x file.StackOn) (quiet s)
after_set s file.StackOff e = ap (λ (x : State). word_written x file.StackOff) (quiet s)
after_set s file.ScanOn e = ap (λ (x : State). word_written x file.ScanOn) (quiet s)
after_set s file.ScanOff e = ap (λ (x : State). word_written x file.ScanOff) (quiet s)
after_set s (file.ScanEvery n) e = ap (λ (x : State). word_written x (file.ScanEvery n)) (quiet s)
after_set s file.Scan e = absurd (let z : ⊥ = cc in z)
after_set s file.Clear e = absurd (let z : ⊥ = cc in z)
after_set s (file.Dump a) e = absurd (let z : ⊥ = cc in z)
after_set s (file.Why a) e = absurd (let z : ⊥ = cc in z)

-- two states that differ in what is set alone
record SetAside (s t : State) : Type 0 where
  words : t.words ≡ s.words
  used : t.used ≡ s.used
  started : t.started ≡ s.started
  tasks : t.tasks ≡ s.tasks
  registered : t.registered ≡ s.registered
  tracked : t.tracked ≡ s.tracked
  scans : t.scans ≡ s.scans
  begun : t.begun ≡ s.begun
  scan : t.scan ≡ s.scan

aside_same : (s t : State) → t ≡ s → SetAside s t
aside_same s t e = record { words = ap (λ x. x.words) e; used = ap (λ x. x.used) e; started = ap (λ x. x.started) e; tasks = ap (λ x. x.tasks) e; registered = ap (λ x. x.registered) e; tracked = ap (λ x. x.tracked) e; scans = ap (λ x. x.scans) e; begun = ap (λ x. x.begun) e; scan = ap (λ x. x.scan) e }

aside : (s : State) (word : FileCmd) → is_setting word ≡ true → SetAside s (word_written s word)
aside s file.StackOn e = record { words = refl; used = refl; started = refl; tasks = refl; registered = refl; tracked = refl; scans = refl; begun = refl; scan = refl }
aside s file.StackOff e = record { words = refl; used = refl; started = refl; tasks = refl; registered = refl; tracked = refl; scans = refl; begun = refl; scan = refl }
aside s file.ScanOff e = record { words = refl; used = refl; started = refl; tasks = refl; registered = refl; tracked = refl; scans = refl; begun = refl; scan = refl }
aside s file.ScanOn e = elim (is_some s.due) as (λ q. SetAside s (if q then s else record s { due = Some (s.now + s.period) })) [
  | true ↦ aside_same s s refl
  | false ↦ record { words = refl; used = refl; started = refl; tasks = refl; registered = refl; tracked = refl; scans = refl; begun = refl; scan = refl }
]
aside s (file.ScanEvery n) e = elim (n == 0) as (λ q. SetAside s (if q then record s { due = None } else record s { period = 1000 * n; due = Some (s.now + 1000 * n) })) [
  | true ↦ record { words = refl; used = refl; started = refl; tasks = refl; registered = refl; tracked = refl; scans = refl; begun = refl; scan = refl }
  | false ↦ record { words = refl; used = refl; started = refl; tasks = refl; registered = refl; tracked = refl; scans = refl; begun = refl; scan = refl }
]
aside s file.Off e = absurd (let z : ⊥ = cc in z)
aside s file.Scan e = absurd (let z : ⊥ = cc in z)
aside s file.Clear e = absurd (let z : ⊥ = cc in z)
aside s (file.Dump a) e = absurd (let z : ⊥ = cc in z)
aside s (file.Why a) e = absurd (let z : ⊥ = cc in z)

aside_stands : (p : Parts) (q : Settings) (s t : State) → StandsAs p s → SetAside s t → set_in t ≡ q → p.objects.stand.sweep ≡ None → StandsAs (record p { settings = q }) t
aside_stands p q s t stands a set none = record {
  hosts = record {
    memory = a.words ∙ stands.hosts.memory;
    held = subst (λ used. Hold p.hosts used) (sym a.used) stands.hosts.held;
    started = a.started ∙ stands.hosts.started;
    tasks = a.tasks ∙ stands.hosts.tasks;
    settings = set;
  };
  objects = record {
    registered = a.registered ∙ stands.objects.registered;
    tracked = a.tracked ∙ stands.objects.tracked;
    scans = a.scans ∙ stands.objects.scans;
    begun = a.begun ∙ stands.objects.begun;
    scan = a.scan ∙ stands.objects.scan;
    stacks = λ w e. absurd (let z : ⊥ = cc in z);
  };
}

set_whole : (p : Parts) (q : Settings) → IsWhole p → q.now ≤ 2 ^ 62 → q.period < 2 ^ 43 → IsWhole (record p { settings = q })
set_whole p q w now period = record { memory = w.memory; pages = w.pages; agree = w.agree; places = w.places; now = now; period = period }

pub set_done : (p : Parts) (q : Settings) (word : FileCmd) → IsWhole p → is_setting word ≡ true
    → ((s : State) → StandsAs p s → heeded s.enabled (running_of s) ≡ Ok tt)
    → ((s : State) → set_in s ≡ p.settings → q ≡ set_in (word_written s word)) → q.now ≡ p.settings.now → q.period < 2 ^ 43
    → Answers p (record p { settings = q }) (acts.File word) Done
set_done p q word w setting passes set now period = record {
  answer = λ s stands reached. sym (answer_word s word 0 ∙ set_word s word setting ∙ passed s.enabled (running_of s) Done (passes s stands));
  state = λ s stands reached. subst (λ y. StandsAs (record p { settings = q }) y) (sym (after_set s word setting))
      (aside_stands p q (counted s) (word_written (counted s) word) (counted_stands p s stands) (aside (counted s) word setting) (sym (set (counted s) stands.hosts.settings))
      (idle p.objects s stands.objects (free s.enabled (running_of s) (passes s stands))));
  whole = set_whole p q w (let a = w.now in omega (arith, a, now)) period;
  words = refl;
  now = (let a = now in omega (arith, a));
  refused = λ bad. absurd (let z : ⊥ = cc in z);
}

-- time passes
pub ticked : (p : Parts) (n : ℕ) → IsWhole p → p.settings.now + n ≤ 2 ^ 62 → Answers p (record p { settings = record p.settings { now = p.settings.now + n } }) (acts.Tick n) Done
ticked p n w small = record {
  answer = λ s stands reached. sym (answer_tick s n 0);
  state = λ s stands reached. subst (λ y. StandsAs (record p { settings = record p.settings { now = p.settings.now + n } }) y) (sym (after_tick s n)) (record {
    hosts = record {
      memory = stands.hosts.memory;
      held = stands.hosts.held;
      started = stands.hosts.started;
      tasks = stands.hosts.tasks;
      settings = ap (λ (x : Settings). record x { now = x.now + n }) stands.hosts.settings;
    };
    objects = same_objects p.objects s (record (counted s) { now = s.now + n }) refl refl refl refl refl refl stands.objects;
  });
  whole = set_whole p (record p.settings { now = p.settings.now + n }) w small w.period;
  words = refl;
  now = refl;
  refused = λ bad. absurd (let z : ⊥ = cc in z);
}

-- `off`
disabled_word : (p : Parts) (word : FileCmd) (x : Answer) (s : State) → StandsAs p s → p.settings.enabled ≡ false → word_answer (world_of s) (running_of s) s.tracked word ≡ unless (not s.enabled) Disabled x → Refused Disabled ≡ state_answer s (acts.File word) 0
disabled_word p word x s stands off is = sym (answer_word s word 0 ∙ is ∙ ap (λ q. unless (not q) Disabled x) (enabled_is p s stands.hosts ∙ off))

pub off_refused : (p : Parts) (s : State) → StandsAs p s → p.settings.enabled ≡ false → Refused Disabled ≡ state_answer s (acts.File file.Off) 0
off_refused p s stands off = disabled_word p file.Off (stop_answer (running_of s) Done) s stands off refl

-- what is answered where a scan is stopped, or where there is none
abbrev pub stopped : Option ℕ → Answer
stopped None = Done
stopped (Some k) = Stopped k

stopped_is : (o : Option ℕ) → stop_answer o Done ≡ stopped o
stopped_is None = refl
stopped_is (Some k) = refl

off_stands : (p : Parts) (o : Objects) (s : State) → HostsStand p s → AreOf o (scan_stopped s) → HostsStand (record p { objects = o; settings = record p.settings { enabled = false; due = None } }) (record (scan_stopped s) { enabled = false; due = None })
off_stands p o s r of = record {
  memory = r.memory;
  held = r.held;
  started = r.started;
  tasks = r.tasks;
  settings = ap (λ (q : Settings). record q { enabled = false; due = None }) r.settings;
}

pub off_answers : (p : Parts) (o : Objects) (found : Option ℕ) → IsWhole p → p.settings.enabled ≡ true
    → ((s : State) → AreOf p.objects s → found ≡ running_of s)
    → ((s : State) → AreOf p.objects s → AreOf o (scan_stopped s))
    → ((roll : Roll) → Agree o roll) → places o ≡ places p.objects
    → Answers p (record p { objects = o; settings = record p.settings { enabled = false; due = None } }) (acts.File file.Off) (stopped found)
off_answers p o found w on running state agree room =
    does p (record p { objects = o; settings = record p.settings { enabled = false; due = None } }) (acts.File file.Off) (stopped found) (λ x. record (scan_stopped x) { enabled = false; due = None })
    (record { memory = w.memory; pages = w.pages; agree = agree p.hosts.roll; places = room ∙ w.places; now = w.now; period = w.period }) refl (omega arith)
    (λ s stands reached. sym (answer_word s file.Off 0 ∙ ap (λ q. unless (not q) Disabled (stop_answer (running_of s) Done)) (enabled_is p s stands.hosts ∙ on) ∙ ap (λ r. stop_answer r Done) (sym (running s stands.objects)) ∙ stopped_is found))
    (λ s stands reached. after found s (running s stands.objects))
    (λ s stands reached. off_stands p o (counted s) (counted_hosts p s stands.hosts) (state (counted s) (counted_stands p s stands).objects))
    (λ s stands reached. same_objects o (scan_stopped (counted s)) (record (scan_stopped (counted s)) { enabled = false; due = None }) refl refl refl refl refl refl (state (counted s) (counted_stands p s stands).objects))
    (none found) (good found) where
      after : (found : Option ℕ) (s : State) → found ≡ running_of s → state_after s (acts.File file.Off) (stopped found) ≡ record (scan_stopped (counted s)) { enabled = false; due = None }
      after None s e = after_off s ∙ ap (λ (c : Option Scanning). record (counted s) { enabled = false; due = None; scan = c }) (no_scan s (sym e))
      after (Some k) s e = after_off_stopped s k

      none : (found : Option ℕ) → value_of (stopped found) ≡ 0
      none None = refl
      none (Some k) = refl

      good : (found : Option ℕ) → is_refused (stopped found) ≡ false
      good None = refl
      good (Some k) = refl

pub quietly_stopped : (act : Act) (found : Option ℕ) → ((t : Told) → Touches act Done t t) → ((k : ℕ) (t : Told) → Touches act (Stopped k) t t) → (t : Told) → Touches act (stopped found) t t
quietly_stopped act None d r t = d t
quietly_stopped act (Some k) d r t = r k t

-- a scanner is told to stop
abbrev pub halted : Option ℕ → Answer
halted None = Refused NoScanRunning
halted (Some k) = Stopped k

pub halt_answers : (p : Parts) (o : Objects) (found : Option ℕ) → IsWhole p
    → ((s : State) → AreOf p.objects s → found ≡ running_of s)
    → ((s : State) → AreOf p.objects s → AreOf o (scan_stopped s))
    → (found ≡ None → o ≡ p.objects)
    → ((roll : Roll) → Agree o roll) → places o ≡ places p.objects
    → Answers p (record p { objects = o }) acts.Halt (halted found)
halt_answers p o None w running state same agree room =
    refused p (record p { objects = o }) acts.Halt NoScanRunning w (ap (λ (x : Objects). record p { objects = x }) (same refl)) refl
    (λ s stands reached. sym (answer_halt s 0 ∙ ap (λ r. stop_answer r (Refused NoScanRunning)) (sym (running s stands.objects))))
halt_answers p o (Some k) w running state same agree room =
    does_objects p o acts.Halt (Stopped k) scan_stopped w (agree p.hosts.roll) room refl
    (λ s stands reached. sym (answer_halt s 0 ∙ ap (λ r. stop_answer r (Refused NoScanRunning)) (sym (running s stands.objects))))
    (λ s stands reached. after_halt s k)
    (λ s r. record { memory = r.memory; held = r.held; started = r.started; tasks = r.tasks; settings = r.settings })
    (λ s stands reached. state (counted s) (counted_stands p s stands).objects) refl refl

pub quietly_halted : (found : Option ℕ) (t : Told) → Touches acts.Halt (halted found) t t
quietly_halted None t = refl
quietly_halted (Some k) t = refl

-- the file is read
abbrev pub busy_or_done : Option ℕ → Answer
busy_or_done None = Done
busy_or_done (Some k) = Refused (Busy k)

pub read_answers : (p : Parts) (found : Option ℕ) → IsWhole p → ((s : State) → AreOf p.objects s → found ≡ running_of s) → Answers p p acts.Read (busy_or_done found)
read_answers p None w running =
    does p p acts.Read Done (λ x. x) w refl (omega arith)
    (λ s stands reached. sym (answer_read s 0 ∙ ap (λ r. unless_busy r Done) (sym (running s stands.objects))))
    (λ s stands reached. after_read s) (λ s stands reached. counted_hosts p s stands.hosts) (λ s stands reached. (counted_stands p s stands).objects) refl refl
read_answers p (Some k) w running =
    refused_now p acts.Read (Busy k) w refl (λ s stands reached. sym (answer_read s 0 ∙ ap (λ r. unless_busy r Done) (sym (running s stands.objects))))

pub quietly_read : (found : Option ℕ) (t : Told) → Touches acts.Read (busy_or_done found) t t
quietly_read None t = refl
quietly_read (Some k) t = refl

-- the listed blocks are painted, or all are dropped
pub clear_refused : (k : ℕ) (s : State) → Some k ≡ running_of s → Refused (Busy k) ≡ state_answer s (acts.File file.Clear) 0
clear_refused k s e = ap (λ r. unless_busy r Done) e ∙ sym (answer_word s file.Clear 0)

clear_done : (s : State) → None ≡ running_of s → Done ≡ state_answer s (acts.File file.Clear) 0
clear_done s e = ap (λ r. unless_busy r Done) e ∙ sym (answer_word s file.Clear 0)

pub cleared : (p : Parts) (o : Objects) → IsWhole p → p.settings.enabled ≡ true → ((s : State) → AreOf p.objects s → None ≡ running_of s)
    → ((s : State) → AreOf p.objects s → AreOf o (painted is_listed_now painted_grey s)) → ((roll : Roll) → Agree p.objects roll → Agree o roll) → places o ≡ places p.objects
    → Answers p (record p { objects = o }) (acts.File file.Clear) Done
cleared p o w on running state agree room =
    does_objects p o (acts.File file.Clear) Done (λ x. painted is_listed_now painted_grey x) w (agree p.hosts.roll w.agree) room refl
    (λ s stands reached. clear_done s (running s stands.objects))
    (λ s stands reached. after_clear s ∙ ap (λ (q : Bool). if q then painted is_listed_now painted_grey (counted s) else all_dropped (counted s)) (enabled_is p s stands.hosts ∙ on))
    (λ s r. painted_hosts p s is_listed_now painted_grey r)
    (λ s stands reached. state (counted s) (counted_stands p s stands).objects) refl refl

pub dropped : (p : Parts) (o : Objects) → IsWhole p → p.settings.enabled ≡ false → ((s : State) → AreOf p.objects s → None ≡ running_of s)
    → ((s : State) → AreOf p.objects s → AreOf o (all_dropped s)) → ((roll : Roll) → Agree o roll) → places o ≡ places p.objects
    → Answers p (record p { objects = o }) (acts.File file.Clear) Done
dropped p o w off running state agree room =
    does_objects p o (acts.File file.Clear) Done all_dropped w (agree p.hosts.roll) room refl
    (λ s stands reached. clear_done s (running s stands.objects))
    (λ s stands reached. after_clear s ∙ ap (λ (q : Bool). if q then painted is_listed_now painted_grey (counted s) else all_dropped (counted s)) (enabled_is p s stands.hosts ∙ off))
    (λ s r. record { memory = r.memory; held = r.held; started = r.started; tasks = r.tasks; settings = r.settings })
    (λ s stands reached. state (counted s) (counted_stands p s stands).objects) refl refl

-- what is shown of a block
abbrev pub shown : Option Info → Answer
shown None = Refused NoObject
shown (Some i) = Dumped i

shown_is : (ts : List Tracked) (a : ℕ) → dump_in ts a ≡ shown (option_map info_in (tracked_where (contains a) ts))
shown_is ts a = elim (tracked_where (contains a) ts) as (λ o. (elim o as (λ _. Answer) [ None ↦ Refused NoObject | Some t ↦ Dumped (info_in t) ]) ≡ shown (option_map info_in o)) [ None ↦ refl | Some t ↦ refl ]

pub dump_answers : (p : Parts) (a : ℕ) (found : Option Info) → IsWhole p → ((s : State) → StandsAs p s → heeded s.enabled (running_of s) ≡ Ok tt)
    → ((s : State) → AreOf p.objects s → found ≡ option_map info_in (tracked_where (contains a) s.tracked)) → Answers p p (acts.File (file.Dump a)) (shown found)
dump_answers p a None w passes found =
    refused_now p (acts.File (file.Dump a)) NoObject w refl
    (λ s stands reached. sym (answer_word s (file.Dump a) 0 ∙ passed s.enabled (running_of s) (dump_in s.tracked a) (passes s stands) ∙ shown_is s.tracked a ∙ ap shown (sym (found s stands.objects))))
dump_answers p a (Some i) w passes found =
    does p p (acts.File (file.Dump a)) (Dumped i) (λ x. x) w refl (omega arith)
    (λ s stands reached. sym (answer_word s (file.Dump a) 0 ∙ passed s.enabled (running_of s) (dump_in s.tracked a) (passes s stands) ∙ shown_is s.tracked a ∙ ap shown (sym (found s stands.objects))))
    (λ s stands reached. after_dump s a i) (λ s stands reached. counted_hosts p s stands.hosts) (λ s stands reached. (counted_stands p s stands).objects) refl refl

pub quietly_shown : (a : ℕ) (found : Option Info) (t : Told) → Touches (acts.File (file.Dump a)) (shown found) t t
quietly_shown a None t = refl
quietly_shown a (Some i) t = refl

-- whether a look at the tracker finds the block that contains an address
pub looked : (o : Objects) (s : State) (a : ℕ) (t : Tracker) (found : Option RecId) → found ≡ option_map id_of (live_where (contains a) t) → t ≡ o.tracker → AreOf o s
    → is_some found ≡ is_some (block_with (blocks_in s.tracked) a)
looked o s a t found is same of =
    ap (λ (f : Option RecId). is_some f) (is ∙ ap (λ (x : Tracker). option_map id_of (live_where (contains a) x)) same)
    ∙ mapped (live_where (contains a) o.tracker)
    ∙ is_found (contains a) o o.tracker o.stand s refl of
  where
    mapped : (x : Option Live) → is_some (option_map id_of x) ≡ is_some x
    mapped None = refl
    mapped (Some l) = refl

why_is : (w : World) (a : ℕ) → why_answer w a ≡ done_if (is_some (block_with w.blocks a))
why_is w a = elim (block_with w.blocks a) as (λ o. (elim o as (λ _. Answer) [ None ↦ Refused NoObject | Some _ ↦ Done ]) ≡ done_if (is_some o)) [ None ↦ refl | Some b ↦ refl ]

pub why_answers : (p : Parts) (a : ℕ) (there : Bool) → IsWhole p → ((s : State) → StandsAs p s → heeded s.enabled (running_of s) ≡ Ok tt)
    → ((s : State) → AreOf p.objects s → there ≡ is_some (block_with (blocks_in s.tracked) a)) → Answers p p (acts.File (file.Why a)) (done_if there)
why_answers p a false w passes there =
    refused_now p (acts.File (file.Why a)) NoObject w refl
    (λ s stands reached. sym (answer_word s (file.Why a) 0 ∙ passed s.enabled (running_of s) (why_answer (world_of s) a) (passes s stands) ∙ why_is (world_of s) a ∙ ap done_if (sym (there s stands.objects))))
why_answers p a true w passes there =
    does p p (acts.File (file.Why a)) Done (λ x. x) w refl (omega arith)
    (λ s stands reached. sym (answer_word s (file.Why a) 0 ∙ passed s.enabled (running_of s) (why_answer (world_of s) a) (passes s stands) ∙ why_is (world_of s) a ∙ ap done_if (sym (there s stands.objects))))
    (λ s stands reached. after_why s a) (λ s stands reached. counted_hosts p s stands.hosts) (λ s stands reached. (counted_stands p s stands).objects) refl refl

-- the stacks of the tasks end in the memory
stacks_end : (s : State) (ts : List Task) → IsReached s → Each (StackPlaced s.used) ts → All StackEnds ts
stacks_end s [] r e = λ k d low. absurd (omega (arith, low))
stacks_end s (t ∷ ts) r e =
    let x = e.0 in
    let memory = (each_in (λ (x : Allocation). (0 < x.size) × InMemory s.words x.start x.size × WholeWords x.start x.size) s.used x.0 r.placed.allocations x.1).1 in
    let high = memory.1 in let begins = x.3 in let size = x.4 in let small = r.memory.1 in
    All-cons StackEnds t ts (omega (arith, high, begins, size, small)) (stacks_end s ts r e.1)

agrees_begun : (p : Parts) (o : Objects) → (r : IsReady p) → ((roll : Roll) → All StackEnds roll.tasks → Agree o roll) → Agree o p.hosts.roll
agrees_begun p o r agree = agree p.hosts.roll (subst (λ ts. All StackEnds ts) r.stands.hosts.tasks (stacks_end r.state r.state.tasks r.reached r.reached.placed.stacks))

pub begin_answers : (p : Parts) (o : Objects) → IsReady p → ((s : State) → StandsAs p s → heeded s.enabled (running_of s) ≡ Ok tt)
    → ((s : State) → s.now ≡ p.settings.now → s.stacks ≡ p.settings.stacks → AreOf p.objects s → AreOf o (scan_begun s)) → ((roll : Roll) → All StackEnds roll.tasks → Agree o roll) → places o ≡ places p.objects
    → Answers p (record p { objects = o }) (acts.File file.Scan) Done
begin_answers p o r passes state agree room =
    does_objects p o (acts.File file.Scan) Done scan_begun r.whole (agrees_begun p o r agree) room refl
    (λ s stands reached. sym (answer_word s file.Scan 0 ∙ passed s.enabled (running_of s) Done (passes s stands)))
    (λ s stands reached. after_begin s)
    (λ s h. record { memory = h.memory; held = h.held; started = h.started; tasks = h.tasks; settings = h.settings })
    (λ s stands reached. state (counted s) (ap (λ (q : Settings). q.now) stands.hosts.settings) (ap (λ (q : Settings). q.stacks) stands.hosts.settings) (counted_stands p s stands).objects) refl refl

-- automatic scans
pub automatic_refused : (p : Parts) (s : State) → StandsAs p s → p.settings.enabled ≡ false → Refused Disabled ≡ state_answer s acts.AutoBegin 0
automatic_refused p s stands off =
    sym (answer_automatic s 0 ∙ ap (λ q. unless (not q) Disabled (elim (running_of s) as (λ _. Answer) [ None ↦ Done | Some _ ↦ Skipped ])) (enabled_is p s stands.hosts ∙ off))

automatic_is : (p : Parts) (s : State) → StandsAs p s → p.settings.enabled ≡ true → state_answer s acts.AutoBegin 0 ≡ elim (running_of s) as (λ _. Answer) [ None ↦ Done | Some _ ↦ Skipped ]
automatic_is p s stands on = answer_automatic s 0 ∙ ap (λ q. unless (not q) Disabled (elim (running_of s) as (λ _. Answer) [ None ↦ Done | Some _ ↦ Skipped ])) (enabled_is p s stands.hosts ∙ on)

running_some : (o : Option ℕ) → true ≡ is_some o → Skipped ≡ elim o as (λ _. Answer) [ None ↦ Done | Some _ ↦ Skipped ]
running_some None e = absurd (let z : ⊥ = cc in z)
running_some (Some k) e = refl

running_none : (o : Option ℕ) → false ≡ is_some o → Done ≡ elim o as (λ _. Answer) [ None ↦ Done | Some _ ↦ Skipped ]
running_none None e = refl
running_none (Some k) e = absurd (let z : ⊥ = cc in z)

due_hosts : (p : Parts) (o : Objects) (s : State) → HostsStand p s → HostsStand (record p { objects = o; settings = record p.settings { due = Some (p.settings.now + p.settings.period) } }) (record s { due = Some (s.now + s.period) })
due_hosts p o s r = record {
  memory = r.memory;
  held = r.held;
  started = r.started;
  tasks = r.tasks;
  settings = ap (λ (q : Settings). record q { due = Some (q.now + q.period) }) r.settings;
}

pub skip_answers : (p : Parts) (found : Option ℕ) → IsWhole p → p.settings.enabled ≡ true → ((s : State) → AreOf p.objects s → found ≡ running_of s) → true ≡ is_some found
    → Answers p (record p { settings = record p.settings { due = Some (p.settings.now + p.settings.period) } }) acts.AutoBegin Skipped
skip_answers p found w on running there =
    does p (record p { settings = record p.settings { due = Some (p.settings.now + p.settings.period) } }) acts.AutoBegin Skipped (λ x. record x { due = Some (x.now + x.period) })
    (record { memory = w.memory; pages = w.pages; agree = w.agree; places = w.places; now = w.now; period = w.period }) refl (omega arith)
    (λ s stands reached. running_some (running_of s) (there ∙ ap is_some (running s stands.objects)) ∙ sym (automatic_is p s stands on))
    (λ s stands reached. after_skipped s)
    (λ s stands reached. due_hosts p p.objects (counted s) (counted_hosts p s stands.hosts))
    (λ s stands reached. same_objects p.objects s (record (counted s) { due = Some (s.now + s.period) }) refl refl refl refl refl refl stands.objects) refl refl

pub automatic_answers : (p : Parts) (o : Objects) (found : Option ℕ) → IsReady p → p.settings.enabled ≡ true → ((s : State) → AreOf p.objects s → found ≡ running_of s) → false ≡ is_some found
    → ((s : State) → s.now ≡ p.settings.now → s.stacks ≡ p.settings.stacks → AreOf p.objects s → AreOf o (scan_begun s)) → ((roll : Roll) → All StackEnds roll.tasks → Agree o roll) → places o ≡ places p.objects
    → Answers p (record p { objects = o; settings = record p.settings { due = Some (p.settings.now + p.settings.period) } }) acts.AutoBegin Done
automatic_answers p o found r on running there state agree room =
    let w = r.whole in
    does p (record p { objects = o; settings = record p.settings { due = Some (p.settings.now + p.settings.period) } }) acts.AutoBegin Done (λ x. record (scan_begun x) { due = Some (x.now + x.period) })
    (record { memory = w.memory; pages = w.pages; agree = agrees_begun p o r agree; places = room ∙ w.places; now = w.now; period = w.period }) refl (omega arith)
    (λ s stands reached. running_none (running_of s) (there ∙ ap is_some (running s stands.objects)) ∙ sym (automatic_is p s stands on))
    (λ s stands reached. after_automatic s)
    (λ s stands reached. due_hosts p o (scan_begun (counted s)) (begun_hosts s (counted_hosts p s stands.hosts)))
    (λ s stands reached. same_objects o (scan_begun (counted s)) (record (scan_begun (counted s)) { due = Some (s.now + s.period) }) refl refl refl refl refl refl
    (state (counted s) (ap (λ (q : Settings). q.now) stands.hosts.settings) (ap (λ (q : Settings). q.stacks) stands.hosts.settings) (counted_stands p s stands).objects)) refl refl where
      begun_hosts : (s : State) → HostsStand p (counted s) → HostsStand p (scan_begun (counted s))
      begun_hosts s h = record { memory = h.memory; held = h.held; started = h.started; tasks = h.tasks; settings = h.settings }

-- the scanner's step
next_same : (s : State) (o : Objects) (roll : Roll) (w : Sweep) → AreOf o s → s.tasks ≡ roll.tasks → o.stand.sweep ≡ Some w → next_in s (scanning_of o.tracker w) ≡ next_in (seen o.stand.stacks o.tracker roll) (scanning_of o.tracker w)
next_same s o roll w r tasks run =
    let c = scanning_of o.tracker w in
    ap (λ q. next_in (record (opened 0) { stacks = q; tasks = s.tasks; tracked = s.tracked }) c) (r.stacks w run)
    ∙ ap (λ ts. next_in (record (opened 0) { stacks = o.stand.stacks; tasks = ts; tracked = s.tracked }) c) tasks
    ∙ ap (λ ts. next_in (record (opened 0) { stacks = o.stand.stacks; tasks = roll.tasks; tracked = ts }) c) r.tracked

state_next_is : (s : State) (c : Scanning) → s.scan ≡ Some c → state_next s ≡ next_in s c
unfolding state_next
state_next_is s c e = ap (λ o. elim o as (λ _. Option Place) [ None ↦ None | Some x ↦ next_in s x ]) e

pub step_word : (p : Parts) (now : Roll) (size : ℕ) (w : Sweep) (at : Place) → (r : IsReady p) → now ≡ p.hosts.roll → size ≡ p.words → p.objects.stand.sweep ≡ Some w
    → next_in (seen p.objects.stand.stacks p.objects.tracker now) (scanning_of p.objects.tracker w) ≡ Some at → in_memory size at.word ≡ true
step_word p now size w at r same is run e =
    let s = r.state in
    let tasks = r.stands.hosts.tasks ∙ ap (λ (x : Roll). x.tasks) (sym same) in
    let scan : s.scan ≡ Some (scanning_of p.objects.tracker w) = r.stands.objects.scan ∙ ap (option_map (scanning_of p.objects.tracker)) run in
    let next = r.reached.next at (state_next_is s (scanning_of p.objects.tracker w) scan ∙ next_same s p.objects now w r.stands.objects tasks run ∙ e) in
    subst (λ n. in_memory n at.word ≡ true) (r.stands.hosts.memory ∙ sym is) next

pub step_answers : (p : Parts) (o : Objects) (given : Answer) (now : Roll) → IsWhole p → now ≡ p.hosts.roll
    → ((s : State) → AreOf p.objects s → s.tasks ≡ now.tasks → given ≡ state_answer s acts.Step (value_of given))
    → ((s : State) → AreOf p.objects s → s.tasks ≡ now.tasks → AreOf o (state_after s acts.Step given))
    → (is_refused given ≡ true → o ≡ p.objects) → Agree o now → places o ≡ places p.objects
    → Answers p (record p { objects = o }) acts.Step given
unfolding changed
step_answers p o given now w same answer state unchanged agree room = record {
  answer = λ s stands reached. answer s stands.objects (stands.hosts.tasks ∙ ap (λ (x : Roll). x.tasks) (sym same));
  state = λ s stands reached. record {
    hosts = over_objects p o (state_after s acts.Step given) (stepped_hosts s stands.hosts);
    objects = state s stands.objects (stands.hosts.tasks ∙ ap (λ (x : Roll). x.tasks) (sym same));
  };
  whole = with_objects p o w (subst (λ r. Agree o r) same agree) room;
  words = refl;
  now = omega arith;
  refused = λ bad. ap (λ (x : Objects). record p { objects = x }) (unchanged bad);
} where
  stepped_hosts : (s : State) → HostsStand p s → HostsStand p (state_after s acts.Step given)
  stepped_hosts s h = elim (is_refused given) as (λ q. HostsStand p (if q then counted s else changed (marked s acts.Step given) acts.Step given)) [
    | true ↦ counted_hosts p s h
    | false ↦ record { memory = h.memory; held = h.held; started = h.started; tasks = h.tasks; settings = h.settings }
  ]

-- a loaded word is one of the memory
loaded_word : (s : State) (a v : ℕ) → IsReached s → Loaded a v ≡ state_answer s acts.Step v → in_memory s.words a ≡ true
unfolding state_answer
loaded_word s a v r e =
    elim s.scan as (λ o. Loaded a v ≡ (elim o as (λ _. Answer) [ None ↦ Refused NoScanRunning | Some _ ↦ stepped s (state_next s) v ]) → in_memory s.words a ≡ true) [
      | None ↦ λ f. absurd (let z : ⊥ = cc in z)
      | Some c ↦ λ f. elim (state_next s) as (λ o. state_next s ≡ o → Loaded a v ≡ stepped s o v → in_memory s.words a ≡ true) [
        | None ↦ λ n g. absurd (let z : ⊥ = cc in z)
        | Some at ↦ λ n g. let same : a ≡ at.word = cc in subst (λ x. in_memory s.words x ≡ true) (sym same) (r.next at n)
      ] refl f
    ] e

pub step_touches : (p : Parts) (given : Answer) (t u : Told) → (r : IsReady p) → t.size ≡ p.words
    → given ≡ state_answer r.state acts.Step (value_of given)
    → IfLoaded given (λ a value. (value < 2 ^ 64) × IsGiven t.given a value × IsGiven t.memory a value × (u ≡ loaded_in t a value))
    → (is_loaded given ≡ false → u ≡ t)
    → Touches acts.Step given t u
step_touches p (Loaded a v) t u r size answer loaded unloaded = record {
  word = subst (λ n. in_memory n a ≡ true) (r.stands.hosts.memory ∙ sym size) (loaded_word r.state a v r.reached answer);
  given = loaded.1;
  memory = loaded.2;
  range = loaded.0;
  after = loaded.3;
}
step_touches p Done t u r size answer loaded unloaded = unloaded refl
step_touches p (At a) t u r size answer loaded unloaded = unloaded refl
step_touches p (Ended k n) t u r size answer loaded unloaded = unloaded refl
step_touches p (Stopped k) t u r size answer loaded unloaded = unloaded refl
step_touches p Skipped t u r size answer loaded unloaded = unloaded refl
step_touches p (Dumped i) t u r size answer loaded unloaded = unloaded refl
step_touches p (Refused x) t u r size answer loaded unloaded = unloaded refl
