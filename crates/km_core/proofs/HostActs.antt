-- Acts of the hosts.
use Rattle.std.proofs.Common.{◌≡◌, ℕ, ◌+◌, ◌*◌, ◌<◌, ◌^◌, false, length, replicate, List, [], ◌∷◌, ◌++◌, None, Result, Ok, Err, IfOk, OnErr, refl, sym, ap, ◌∙◌, subst, arith}
use Rattle.km_base.specs.declared.acts.Act.{Act}
use Rattle.km_base.specs.declared.acts.Act.TheVariants as acts
use Rattle.km_base.specs.declared.acts.Answer.{Answer}
use Rattle.km_base.specs.declared.acts.Answer.TheVariants.{At, Done, Refused}
use Rattle.km_base.specs.declared.acts.Refusal.{Refusal}
use Rattle.km_base.specs.declared.spans.Addr.{Addr}
use Rattle.km_base.specs.declared.spans.Span.{Span}
use Rattle.km_model.specs.History.{ticks_of, value_of}
use Rattle.km_model.specs.Past.{is_refused}
use Rattle.km_model.specs.Tasks.{Task}
use Rattle.km_model.proofs.Lists.{each_in, in_push_right}
use Rattle.km_model.specs.Placement.{Allocation, BootRun, SectionRun, StackPage, pages_for, kmalloc_span, kmalloc_use, lowest_run, page_start, run_place}
use Rattle.km_state.specs.State.{State, world_of}
use Rattle.km_state.specs.StateAnswers.{state_answer}
use Rattle.km_state.specs.StateAfter.{state_after, allocated, registered_at, task_started}
use Rattle.km_slab.specs.Blocks.{kmalloc_answer}
use Rattle.km_sections.specs.Named.{section_answer}
use Rattle.km_hosts.specs.Hosting.{Hold, boot_answer, Hosting, done, with_use, words_in}
use Rattle.km_objects.specs.Objects.{Agree, AreOf}
use Rattle.km_laws.specs.Laws.{IsPlaced}
use Rattle.km_laws.specs.Placed.{InMemory, StackPlaced, WholeWords}
use Rattle.km_scan.proofs.FitLaws.{start_kept}
use Rattle.km_tasks.specs.Roll.{start_answer, with_task}
use Rattle.km_core.specs.Parts.{Answers, HostsStand, IsReady, IsWhole, Parts, StandsAs}
use Rattle.km_core.proofs.Marks.{counted, answer_kmalloc, after_kmalloc, answer_section, after_section, answer_boot, after_boot, answer_start, after_start}
use Rattle.km_core.proofs.Standing.{counted_stands, refused, same_objects}

-- the hosts have the words of the memory
pub words_of : (p : Parts) (s : State) → IsWhole p → StandsAs p s → words_in p.hosts ≡ s.words
words_of p s w r = w.pages ∙ sym r.hosts.memory

-- a refusal of the hosts
pub refused_by_hosts : (p : Parts) (h : Hosting) (act : Act) (r : Refusal) → IsWhole p → h ≡ p.hosts → ticks_of act ≡ 0
    → ((s : State) → StandsAs p s → Refused r ≡ state_answer s act 0) → Answers p (record p { hosts = h }) act (Refused r)
refused_by_hosts p h act r whole same still answer =
    refused p (record p { hosts = h }) act r whole (ap (λ (x : Hosting). record p { hosts = x }) same) still (λ s stands reached. answer s stands)

-- a block of kmalloc, a section and boot memory: the answer, and what is registered
pub kmalloc_answers : (p : Parts) (size : ℕ) (given : Answer) → IsWhole p → ((used : List Allocation) → Hold p.hosts used → given ≡ kmalloc_answer (words_in p.hosts) used size)
    → (s : State) → StandsAs p s → given ≡ state_answer s (acts.Kmalloc size) 0
kmalloc_answers p size given w answer s stands =
    answer s.used stands.hosts.held ∙ ap (λ n. kmalloc_answer n s.used size) (words_of p s w stands) ∙ sym (answer_kmalloc s size 0)

pub kmalloc_places : (p : Parts) (size : ℕ) (span : Span) → span.size ≡ kmalloc_span size → (s : State) → StandsAs p s
    → state_after s (acts.Kmalloc size) (At span.start.0) ≡ registered_at (allocated (counted s) (kmalloc_use size) span.start.0 (kmalloc_span size)) span.start.0 span.size 1 None
kmalloc_places p size span is s stands =
    after_kmalloc s size span.start.0 ∙ ap (λ n. registered_at (allocated (counted s) (kmalloc_use size) span.start.0 (kmalloc_span size)) span.start.0 n 1 None) (sym is)

pub section_answers : (p : Parts) (name : List ℕ) (n : ℕ) (given : Answer) → IsWhole p
    → ((used : List Allocation) → Hold p.hosts used → given ≡ section_answer used name n (run_place (words_in p.hosts) used (pages_for (8 * n))))
    → (s : State) → StandsAs p s → given ≡ state_answer s (acts.Section name n) 0
section_answers p name n given w answer s stands =
    answer s.used stands.hosts.held ∙ ap (λ m. section_answer s.used name n (run_place m s.used (pages_for (8 * n)))) (words_of p s w stands) ∙ sym (answer_section s name n 0)

pub section_places : (p : Parts) (name : List ℕ) (n : ℕ) (span : Span) → ((used : List Allocation) → Hold p.hosts used → span.start.0 ≡ page_start (lowest_run used (pages_for (8 * n)))) → span.size ≡ 8 * n
    → (s : State) → StandsAs p s
    → state_after s (acts.Section name n) Done ≡ registered_at (allocated (counted s) (SectionRun name) span.start.0 (4096 * pages_for (8 * n))) span.start.0 span.size 0 None
section_places p name n span start size s stands =
    after_section s name n ∙ ap (λ a. registered_at (allocated (counted s) (SectionRun name) a (4096 * pages_for (8 * n))) a (8 * n) 0 None) (sym (start s.used stands.hosts.held))
    ∙ ap (λ m. registered_at (allocated (counted s) (SectionRun name) span.start.0 (4096 * pages_for (8 * n))) span.start.0 m 0 None) (sym size)

pub boot_answers : (p : Parts) (size : ℕ) (given : Answer) → IsWhole p → ((used : List Allocation) → Hold p.hosts used → given ≡ boot_answer (words_in p.hosts) used size)
    → (s : State) → StandsAs p s → given ≡ state_answer s (acts.BootMem size) 0
boot_answers p size given w answer s stands =
    answer s.used stands.hosts.held ∙ ap (λ n. boot_answer n s.used size) (words_of p s w stands) ∙ sym (answer_boot s size 0)

pub boot_places : (p : Parts) (size : ℕ) (start : Addr) (s : State) → StandsAs p s
    → state_after s (acts.BootMem size) (At start.0) ≡ registered_at (allocated (counted s) BootRun start.0 (4096 * pages_for size)) start.0 size 0 None
boot_places p size start s stands = after_boot s size start.0

-- the kernel with other hosts, of as many pages, over which the same blocks and scans agree
pub with_hosts : (p : Parts) (h : Hosting) → IsWhole p → length h.pages ≡ length p.hosts.pages → Agree p.objects h.roll → IsWhole (record p { hosts = h })
with_hosts p h w pages agree = record {
  memory = w.memory;
  pages = (let a = w.pages in omega (arith, a, pages));
  agree = agree;
  places = w.places;
  now = w.now;
  period = w.period;
}

-- an act of the hosts alone that is done, after which the hosts are these
pub done_by_hosts : (p : Parts) (h : Hosting) (act : Act) (given : Answer) (next : State → State) → IsWhole p → length h.pages ≡ length p.hosts.pages → Agree p.objects h.roll
    → ((s : State) → StandsAs p s → given ≡ state_answer s act 0)
    → ((s : State) → StandsAs p s → state_after s act given ≡ next (counted s))
    → ((s : State) → StandsAs p s → HostsStand (record p { hosts = h }) (next (counted s)))
    → ((s : State) → AreOf p.objects s → AreOf p.objects (next s))
    → ticks_of act ≡ 0 → value_of given ≡ 0 → is_refused given ≡ false
    → Answers p (record p { hosts = h }) act given
done_by_hosts p h act given next w pages agree answer after hosts objects still none good = record {
  answer = λ s stands reached. subst (λ v. given ≡ state_answer s act v) (sym none) (answer s stands);
  state = λ s stands reached. subst (λ y. StandsAs (record p { hosts = h }) y) (sym (after s stands)) (record {
    hosts = hosts s stands;
    objects = objects (counted s) (counted_stands p s stands).objects;
  });
  whole = with_hosts p h w pages agree;
  words = refl;
  now = (let n = still in omega (arith, n));
  refused = λ bad. absurd (let z : ⊥ = cc in z);
}

-- a task starts, with a stack that lies in the memory
start_answer_is : (p : Parts) (name : List ℕ) (given : Answer) → IsWhole p
    → ((used : List Allocation) → Hold p.hosts used → given ≡ start_answer p.hosts.roll.tasks name (run_place (words_in p.hosts) used 1))
    → (s : State) → StandsAs p s → given ≡ state_answer s (acts.TaskStart name) 0
start_answer_is p name given w answer s stands =
    answer s.used stands.hosts.held ∙ ap (λ n. start_answer p.hosts.roll.tasks name (run_place n s.used 1)) (words_of p s w stands)
    ∙ ap (λ ts. start_answer ts name (run_place s.words s.used 1)) (sym stands.hosts.tasks) ∙ sym (answer_start s name 0)

agrees_started : (p : Parts) → IsWhole p → (name : List ℕ) (stack : ℕ) → stack + 4096 < 2 ^ 64 → Agree p.objects (with_task p.hosts.roll name stack)
agrees_started p w name stack end = record {
  settled = w.agree.settled;
  fits = start_kept p.objects.stand p.objects.tracker p.hosts.roll name stack end w.agree.settled w.agree.fits;
}

stack_ends : (p : Parts) (name : List ℕ) → (r : IsReady p)
    → ((used : List Allocation) → Hold p.hosts used → Done ≡ start_answer p.hosts.roll.tasks name (run_place (words_in p.hosts) used 1))
    → page_start (lowest_run r.state.used 1) + 4096 < 2 ^ 64
stack_ends p name r answer =
    let s = r.state in
    let stack = page_start (lowest_run s.used 1) in
    let t : Task = record { number = s.started + 1; name = name; stack = stack; registers = replicate 4 0 } in
    let placed = subst (λ y. IsPlaced s.words (world_of (state_after s (acts.TaskStart name) y))) (sym (start_answer_is p name Done r.whole answer s r.stands)) (r.reached.after (acts.TaskStart name) 0 (omega arith)) in
    let after = subst (λ y. IsPlaced s.words (world_of y)) (after_start s name) placed in
    let x = each_in (StackPlaced (task_started (counted s) name stack).used) (s.tasks ++ t ∷ []) t after.stacks (in_push_right s.tasks t) in
    let inside = (each_in (λ (x : Allocation). (0 < x.size) × InMemory s.words x.start x.size × WholeWords x.start x.size) (task_started (counted s) name stack).used x.0 after.allocations x.1).1 in
    let high = inside.1 in let begins = x.3 in let size = x.4 in let small = r.reached.memory.1 in
    omega (arith, high, begins, size, small)

pub start_answers : (p : Parts) (h : Hosting) (name : List ℕ) (o : Result (Unit {0}) Refusal) → IsReady p
    → ((used : List Allocation) → Hold p.hosts used → done o ≡ start_answer p.hosts.roll.tasks name (run_place (words_in p.hosts) used 1))
    → IfOk o (λ _. (used : List Allocation) → Hold p.hosts used → h.roll ≡ with_task p.hosts.roll name (page_start (lowest_run used 1)))
    → IfOk o (λ _. (used : List Allocation) → Hold p.hosts used → Hold h (with_use used StackPage (page_start (lowest_run used 1)) 4096))
    → OnErr o (h ≡ p.hosts) → length h.pages ≡ length p.hosts.pages
    → Answers p (record p { hosts = h }) (acts.TaskStart name) (done o)
start_answers p h name (Err r) ready answer roll held same pages =
    refused_by_hosts p h (acts.TaskStart name) r ready.whole same refl (λ s stands. start_answer_is p name (Refused r) ready.whole answer s stands)
start_answers p h name (Ok _) ready answer roll held same pages =
    done_by_hosts p h (acts.TaskStart name) Done (λ x. task_started x name (page_start (lowest_run x.used 1))) ready.whole pages
    (subst (λ r. Agree p.objects r) (sym (roll ready.state.used ready.stands.hosts.held)) (agrees_started p ready.whole name (page_start (lowest_run ready.state.used 1)) (stack_ends p name ready answer)))
    (start_answer_is p name Done ready.whole answer)
    (λ s stands. after_start s name)
    (λ s stands. record {
      memory = stands.hosts.memory;
      held = held s.used stands.hosts.held;
      started = ap (λ n. n + 1) stands.hosts.started ∙ ap (λ x. x.started) (sym (roll s.used stands.hosts.held));
      tasks = ap (λ ts. ts ++ record { number = s.started + 1; name = name; stack = page_start (lowest_run s.used 1); registers = replicate 4 0 } ∷ []) stands.hosts.tasks
          ∙ ap (λ n. p.hosts.roll.tasks ++ record { number = n + 1; name = name; stack = page_start (lowest_run s.used 1); registers = replicate 4 0 } ∷ []) stands.hosts.started
          ∙ ap (λ x. x.tasks) (sym (roll s.used stands.hosts.held));
      settings = stands.hosts.settings;
    })
    (λ s r. same_objects p.objects s (task_started s name (page_start (lowest_run s.used 1))) refl refl refl refl refl refl r)
    refl refl refl
