-- Acts of tasks, and untracked pages.
use Rattle.std.proofs.Common.{◌≡◌, ℕ, ◌*◌, true, false, not, is_some, length, List, Option, Some, None, Result, Ok, Err, IfOk, OnErr, refl, sym, ap, ◌∙◌, subst, arith, bytes_eq}
use Rattle.std.specs.List.{list_any}
use Rattle.km_base.specs.declared.acts.Act.TheVariants as acts
use Rattle.km_base.specs.declared.acts.Reg.{Reg}
use Rattle.km_base.specs.declared.acts.Answer.{Answer}
use Rattle.km_base.specs.declared.acts.Answer.TheVariants.{At, Done, Loaded, Refused}
use Rattle.km_base.specs.declared.acts.Refusal.{Refusal}
use Rattle.km_base.specs.declared.acts.Refusal.TheVariants.{BadAddress, NoTask, NotAllocated}
use Rattle.km_base.specs.declared.spans.Addr.{Addr}
use Rattle.km_model.specs.Memory.{in_memory}
use Rattle.km_model.specs.Answers.{unless, is_plain_at}
use Rattle.km_model.specs.Placement.{Allocation, PlainRun, without_allocation}
use Rattle.km_model.specs.Tasks.{Task, task_named, with_register, without_task}
use Rattle.km_model.proofs.Lists.{find_in}
use Rattle.km_tasks.proofs.Names.{same_name}
use Rattle.km_state.specs.State.{State}
use Rattle.km_state.specs.StateAnswers.{state_answer}
use Rattle.km_state.specs.StateAfter.{allocated, given_back, task_exited}
use Rattle.km_tasks.specs.Roll.{Roll, without, with_value}
use Rattle.km_scan.proofs.FitLaws.{exit_kept, register_kept}
use Rattle.km_hosts.specs.Hosting.{Hold, Hosting, at, done, pages_answer, with_use, words_in}
use Rattle.km_objects.specs.Objects.{Agree, AreOf, Objects}
use Rattle.km_core.specs.Parts.{Answers, HostsStand, IsReady, IsWhole, Parts, StandsAs}
use Rattle.km_core.proofs.Marks.{counted, answer_exit, after_exit, answer_set_reg, after_set_reg, answer_load, after_load, answer_pages, after_pages, answer_free_pages, after_free_pages}
use Rattle.km_core.proofs.Standing.{counted_hosts, same_objects, allocated_hosts}
use Rattle.km_core.proofs.HostActs.{done_by_hosts, refused_by_hosts, words_of}

-- a task that is there
named : (o : Option Task) → Done ≡ unless (not (is_some o)) NoTask Done → (t : Task) × (o ≡ Some t)
named None e = absurd (let z : ⊥ = cc in z)
named (Some t) e = (t, refl)

unless_named : (p : Parts) (given : Answer) (name : List ℕ) (s : State) → StandsAs p s → given ≡ unless (not (is_some (task_named p.hosts.roll.tasks name))) NoTask Done
    → given ≡ unless (not (is_some (task_named s.tasks name))) NoTask Done
unless_named p given name s stands answer = answer ∙ ap (λ ts. unless (not (is_some (task_named ts name))) NoTask Done) (sym stands.hosts.tasks)

-- a task ends
exited : (p : Parts) (h : Hosting) (name : List ℕ) (s : State) (t : Task) → StandsAs p s → h.roll ≡ without p.hosts.roll name → Hold h (without_allocation s.used t.stack) → task_named s.tasks name ≡ Some t
    → HostsStand (record p { hosts = h }) (task_exited (counted s) (task_named s.tasks name))
exited p h name s t stands roll held is = subst (λ o. HostsStand (record p { hosts = h }) (task_exited (counted s) o)) (sym is) (record {
  memory = stands.hosts.memory;
  held = held;
  started = stands.hosts.started ∙ ap (λ x. x.started) (sym roll);
  tasks = gone ∙ ap (λ x. x.tasks) (sym roll);
  settings = stands.hosts.settings;
}) where
  gone : (task_exited (counted s) (Some t)).tasks ≡ (without p.hosts.roll name).tasks
  gone =
      let same = same_name t.name name (find_in (λ (u : Task). bytes_eq u.name name) s.tasks t is).0 in
      ap (λ n. without_task s.tasks n) same ∙ ap (λ ts. without_task ts name) stands.hosts.tasks

exit_objects : (o : Objects) (s : State) (t : Option Task) → AreOf o s → AreOf o (task_exited s t)
exit_objects o s None r = r
exit_objects o s (Some t) r = same_objects o s (task_exited s (Some t)) refl refl refl refl refl refl r

pub exit_answers : (p : Parts) (h : Hosting) (name : List ℕ) (o : Result (Unit {0}) Refusal) → IsReady p
    → done o ≡ unless (not (is_some (task_named p.hosts.roll.tasks name))) NoTask Done
    → IfOk o (λ _. h.roll ≡ without p.hosts.roll name)
    → IfOk o (λ _. (used : List Allocation) (t : Task) → Hold p.hosts used → task_named p.hosts.roll.tasks name ≡ Some t → Hold h (without_allocation used t.stack))
    → OnErr o (h ≡ p.hosts) → length h.pages ≡ length p.hosts.pages
    → Answers p (record p { hosts = h }) (acts.TaskExit name) (done o)
exit_answers p h name (Err r) ready answer roll held same pages =
    refused_by_hosts p h (acts.TaskExit name) r ready.whole same refl (λ s stands. unless_named p (Refused r) name s stands answer ∙ sym (answer_exit s name 0))
exit_answers p h name (Ok _) ready answer roll held same pages =
    done_by_hosts p h (acts.TaskExit name) Done (λ x. task_exited x (task_named x.tasks name)) ready.whole pages
    (subst (λ r. Agree p.objects r) (sym roll) (record { settled = ready.whole.agree.settled; fits = exit_kept p.objects.stand p.objects.tracker p.hosts.roll name ready.whole.agree.settled ready.whole.agree.fits }))
    (λ s stands. unless_named p Done name s stands answer ∙ sym (answer_exit s name 0))
    (λ s stands. after_exit s name)
    (λ s stands.
    let t = named (task_named p.hosts.roll.tasks name) answer in
    exited p h name s t.0 stands roll (held s.used t.0 stands.hosts.held t.1) (ap (λ ts. task_named ts name) stands.hosts.tasks ∙ t.1))
    (λ s r. exit_objects p.objects s (task_named s.tasks name) r)
    refl refl refl

-- a register is set
held_over : (v : Hosting) (roll : Roll) (used : List Allocation) → Hold v used → Hold (record v { roll = roll }) used
held_over v roll used r = record { laid = r.laid; blocks = r.blocks; areas = r.areas; sections = r.sections }

set_hosts : (p : Parts) (s : State) (name : List ℕ) (reg : Reg) (value : ℕ) → HostsStand p s
    → HostsStand (record p { hosts = record p.hosts { roll = with_value p.hosts.roll name reg value } }) (record s { tasks = with_register s.tasks name reg value })
set_hosts p s name reg value r = record {
  memory = r.memory;
  held = held_over p.hosts (with_value p.hosts.roll name reg value) s.used r.held;
  started = r.started;
  tasks = ap (λ ts. with_register ts name reg value) r.tasks;
  settings = r.settings;
}

agrees_set : (p : Parts) → IsWhole p → (name : List ℕ) (reg : Reg) (value : ℕ) → Agree p.objects (with_value p.hosts.roll name reg value)
agrees_set p w name reg value = record { settled = w.agree.settled; fits = register_kept p.objects.stand p.objects.tracker p.hosts.roll name reg value w.agree.settled w.agree.fits }

pub set_answers : (p : Parts) (h : Hosting) (name : List ℕ) (reg : Reg) (value : ℕ) (o : Result (Unit {0}) Refusal) → IsReady p
    → done o ≡ unless (not (is_some (task_named p.hosts.roll.tasks name))) NoTask Done
    → IfOk o (λ _. h ≡ record p.hosts { roll = with_value p.hosts.roll name reg value })
    → OnErr o (h ≡ p.hosts)
    → Answers p (record p { hosts = h }) (acts.SetReg name reg value) (done o)
set_answers p h name reg value (Err r) ready answer set same =
    refused_by_hosts p h (acts.SetReg name reg value) r ready.whole same refl (λ s stands. unless_named p (Refused r) name s stands answer ∙ sym (answer_set_reg s name reg value 0))
set_answers p h name reg value (Ok _) ready answer set same =
    subst (λ x. Answers p (record p { hosts = x }) (acts.SetReg name reg value) Done) (sym set)
    (done_by_hosts p (record p.hosts { roll = with_value p.hosts.roll name reg value }) (acts.SetReg name reg value) Done (λ x. record x { tasks = with_register x.tasks name reg value }) ready.whole refl
    (agrees_set p ready.whole name reg value)
    (λ s stands. unless_named p Done name s stands answer ∙ sym (answer_set_reg s name reg value 0))
    (λ s stands. after_set_reg s name reg value)
    (λ s stands. set_hosts p (counted s) name reg value (counted_hosts p s stands.hosts))
    (λ s r. same_objects p.objects s (record s { tasks = with_register s.tasks name reg value }) refl refl refl refl refl refl r)
    refl refl refl)

-- a load into a register
pub loaded_answers : (p : Parts) (h : Hosting) (name : List ℕ) (reg : Reg) (a value : ℕ) → IsReady p
    → is_some (task_named p.hosts.roll.tasks name) ≡ true → in_memory p.words a ≡ true
    → h ≡ record p.hosts { roll = with_value p.hosts.roll name reg value }
    → Answers p (record p { hosts = h }) (acts.Load name reg a) (Loaded a value)
loaded_answers p h name reg a value ready there inside set =
    subst (λ x. Answers p (record p { hosts = x }) (acts.Load name reg a) (Loaded a value)) (sym set) (record {
      answer = λ s stands reached.
          sym (answer_load s name reg a value ∙ ap (λ q. unless (not q) NoTask (unless (not (in_memory s.words a)) BadAddress (Loaded a value))) (ap (λ ts. is_some (task_named ts name)) stands.hosts.tasks ∙ there)
          ∙ ap (λ q. unless (not q) BadAddress (Loaded a value)) (ap (λ n. in_memory n a) stands.hosts.memory ∙ inside));
      state = λ s stands reached. subst (λ y. StandsAs (record p { hosts = record p.hosts { roll = with_value p.hosts.roll name reg value } }) y) (sym (after_load s name reg a value)) (record {
        hosts = set_hosts p (counted s) name reg value (counted_hosts p s stands.hosts);
        objects = same_objects p.objects s (record (counted s) { tasks = with_register s.tasks name reg value }) refl refl refl refl refl refl stands.objects;
      });
      whole = record {
        memory = ready.whole.memory;
        pages = ready.whole.pages;
        agree = agrees_set p ready.whole name reg value;
        places = ready.whole.places;
        now = ready.whole.now;
        period = ready.whole.period;
      };
      words = refl;
      now = omega arith;
      refused = λ bad. absurd (let z : ⊥ = cc in z);
    })

-- untracked pages are taken
pub pages_answers : (p : Parts) (h : Hosting) (n : ℕ) (o : Result Addr Refusal) → IsReady p
    → ((used : List Allocation) → Hold p.hosts used → at o ≡ pages_answer (words_in p.hosts) used n)
    → IfOk o (λ a. (used : List Allocation) → Hold p.hosts used → Hold h (with_use used PlainRun a.0 (4096 * n)))
    → h.roll ≡ p.hosts.roll → OnErr o (h ≡ p.hosts) → length h.pages ≡ length p.hosts.pages
    → Answers p (record p { hosts = h }) (acts.Pages n) (at o)
pages_answers p h n (Err r) ready answer held roll same pages =
    refused_by_hosts p h (acts.Pages n) r ready.whole same refl (λ s stands. answer s.used stands.hosts.held ∙ ap (λ w. pages_answer w s.used n) (words_of p s ready.whole stands) ∙ sym (answer_pages s n 0))
pages_answers p h n (Ok a) ready answer held roll same pages =
    done_by_hosts p h (acts.Pages n) (At a.0) (λ x. allocated x PlainRun a.0 (4096 * n)) ready.whole pages
    (subst (λ r. Agree p.objects r) (sym roll) ready.whole.agree)
    (λ s stands. answer s.used stands.hosts.held ∙ ap (λ w. pages_answer w s.used n) (words_of p s ready.whole stands) ∙ sym (answer_pages s n 0))
    (λ s stands. after_pages s n a.0)
    (λ s stands. allocated_hosts p h (counted s) PlainRun a.0 (4096 * n) (counted_hosts p s stands.hosts) (held s.used stands.hosts.held) roll)
    (λ s r. same_objects p.objects s (allocated s PlainRun a.0 (4096 * n)) refl refl refl refl refl refl r)
    refl refl refl

-- untracked pages are given back
pub free_answers : (p : Parts) (h : Hosting) (a : ℕ) (o : Result (Unit {0}) Refusal) → IsReady p
    → ((used : List Allocation) → Hold p.hosts used → done o ≡ unless (not (list_any (is_plain_at a) used)) NotAllocated Done)
    → IfOk o (λ _. (used : List Allocation) → Hold p.hosts used → Hold h (without_allocation used a))
    → h.roll ≡ p.hosts.roll → OnErr o (h ≡ p.hosts) → length h.pages ≡ length p.hosts.pages
    → Answers p (record p { hosts = h }) (acts.FreePages a) (done o)
free_answers p h a (Err r) ready answer held roll same pages =
    refused_by_hosts p h (acts.FreePages a) r ready.whole same refl (λ s stands. answer s.used stands.hosts.held ∙ sym (answer_free_pages s a 0))
free_answers p h a (Ok _) ready answer held roll same pages =
    done_by_hosts p h (acts.FreePages a) Done (λ x. given_back x a) ready.whole pages
    (subst (λ r. Agree p.objects r) (sym roll) ready.whole.agree)
    (λ s stands. answer s.used stands.hosts.held ∙ sym (answer_free_pages s a 0))
    (λ s stands. after_free_pages s a)
    (λ s stands. record {
      memory = stands.hosts.memory;
      held = held s.used stands.hosts.held;
      started = stands.hosts.started ∙ ap (λ x. x.started) (sym roll);
      tasks = stands.hosts.tasks ∙ ap (λ x. x.tasks) (sym roll);
      settings = stands.hosts.settings;
    })
    (λ s r. same_objects p.objects s (given_back s a) refl refl refl refl refl refl r)
    refl refl refl

-- loads that are refused
pub load_unnamed : (p : Parts) (name : List ℕ) (reg : Reg) (a : ℕ) (s : State) → StandsAs p s → is_some (task_named p.hosts.roll.tasks name) ≡ false → Refused NoTask ≡ state_answer s (acts.Load name reg a) 0
load_unnamed p name reg a s stands none =
    sym (answer_load s name reg a 0 ∙ ap (λ q. unless (not q) NoTask (unless (not (in_memory s.words a)) BadAddress (Loaded a 0))) (ap (λ ts. is_some (task_named ts name)) stands.hosts.tasks ∙ none))

pub load_outside : (p : Parts) (name : List ℕ) (reg : Reg) (a : ℕ) (s : State) → StandsAs p s → is_some (task_named p.hosts.roll.tasks name) ≡ true → in_memory p.words a ≡ false
    → Refused BadAddress ≡ state_answer s (acts.Load name reg a) 0
load_outside p name reg a s stands there out =
    sym (answer_load s name reg a 0 ∙ ap (λ q. unless (not q) NoTask (unless (not (in_memory s.words a)) BadAddress (Loaded a 0))) (ap (λ ts. is_some (task_named ts name)) stands.hosts.tasks ∙ there)
    ∙ ap (λ q. unless (not q) BadAddress (Loaded a 0)) (ap (λ n. in_memory n a) stands.hosts.memory ∙ out))

-- where the task is there, its register is set
pub set_by : (p : Parts) (h : Hosting) (name : List ℕ) (reg : Reg) (value : ℕ) (o : Result (Unit {0}) Refusal) → is_some (task_named p.hosts.roll.tasks name) ≡ true
    → done o ≡ unless (not (is_some (task_named p.hosts.roll.tasks name))) NoTask Done
    → IfOk o (λ _. h ≡ record p.hosts { roll = with_value p.hosts.roll name reg value })
    → h ≡ record p.hosts { roll = with_value p.hosts.roll name reg value }
set_by p h name reg value (Ok _) there answer set = set
set_by p h name reg value (Err r) there answer set = absurd (let bad : Refused r ≡ Done = answer ∙ ap (λ q. unless (not q) NoTask Done) there in let z : ⊥ = cc in z)
