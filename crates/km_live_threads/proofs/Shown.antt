-- What a core shows of the world of a history.
use Rattle.std.proofs.Common.{◌≡◌, ℕ, Bool, true, List, Option, Some, None, Err, if◌then◌else◌, is_some, refl, sym, ◌∙◌, ap, subst, ◌⊎◌, inl, inr}
use Rattle.std.specs.List.{list_all}
use Rattle.km_base.specs.declared.acts.Refusal.TheVariants.{Busy, NoTask}
use Rattle.km_model.specs.Follows.{past_of}
use Rattle.km_model.specs.History.{History}
use Rattle.km_model.specs.Past.{Past, running_scan, scans, world}
use Rattle.km_model.specs.Tasks.{Task, task_named}
use Rattle.km_model.specs.World.{World}
use Rattle.km_state.specs.State.{State, Scanning, running_of}
use Rattle.km_state.proofs.QuietLaws.{running_is_last}
use Rattle.km_core.specs.Cores.{Seen, Stands}
use Rattle.km_sections.specs.Named.{AreSections}
use Rattle.km_live_model.specs.Rounds.{all_of, job_of, jobs_at, jobs_in}
use Rattle.km_live_model.specs.Threads.{Thread}
use Rattle.km_live_map.specs.Books.{IsCoreFor}
use Rattle.km_live_threads.specs.Worlds.{Shows}
use Rattle.km_live_threads.proofs.Registers.{have_four}

-- the tasks and the sections
pub shown : (c : Seen) (h : History) → IsCoreFor c h → Shows c (world (past_of h))
shown c h (s, stands) = record {
  tasks = sym stands.parts.hosts.tasks ∙ stands.history.tasks;
  registers = have_four h;
  sections = subst (λ used. AreSections c.parts.hosts.sections used) stands.history.allocations stands.parts.hosts.held.sections;
}

-- whether `off` was not written
pub shown_enabled : (c : Seen) (h : History) → IsCoreFor c h → c.parts.settings.enabled ≡ (world (past_of h)).enabled
shown_enabled c h (s, stands) = sym (ap (λ x. x.enabled) stands.parts.hosts.settings) ∙ stands.history.enabled

-- the running scan
pub shown_running : (c : Seen) (h : History) (s : State) → Stands c h s → running_of s ≡ running_scan (past_of h)
shown_running c h s stands =
    by_scan s.scan s.scans (running_scan (past_of h)) (scans (past_of h)) stands.history.running stands.history.scans (running_is_last (past_of h))
  where
    by_scan : (o : Option Scanning) (k : ℕ) (r : Option ℕ) (n : ℕ) → is_some o ≡ is_some r → k ≡ n → (r ≡ None) ⊎ (r ≡ Some n)
        → (elim o [ None ↦ None | Some _ ↦ Some k ]) ≡ r
    by_scan None k None n e same last = refl
    by_scan None k (Some m) n e same last = absurd cc
    by_scan (Some c) k None n e same last = absurd cc
    by_scan (Some c) k (Some m) n e same (inl none) = absurd cc
    by_scan (Some c) k (Some m) n e same (inr last) = cc

-- a scan is running
pub shown_busy : (c : Seen) (h : History) (threads : List Thread) (k : ℕ) → c.parts.settings.enabled ≡ true → IsCoreFor c h
    → ((g : History) (s : State) → Stands c g s → Some k ≡ running_of s) → Err (Busy k) ≡ jobs_at (past_of h) threads
shown_busy c h threads k on for running = sym (busy (past_of h) threads k (sym (shown_enabled c h for) ∙ on) (sym (running h for.0 for.1 ∙ shown_running c h for.0 for.1)))
  where
    busy : (past : Past) (threads : List Thread) (k : ℕ) → (world past).enabled ≡ true → running_scan past ≡ Some k → jobs_at past threads ≡ Err (Busy k)
    busy past threads k e r = rw (e, r) refl

-- none is running, and `off` was not written
pub shown_idle : (c : Seen) (h : History) (threads : List Thread) → c.parts.settings.enabled ≡ true → IsCoreFor c h
    → ((g : History) (s : State) → Stands c g s → None ≡ running_of s) → jobs_at (past_of h) threads ≡ jobs_in (world (past_of h)) threads
shown_idle c h threads on for running = idle (past_of h) threads (sym (shown_enabled c h for) ∙ on) (sym (running h for.0 for.1 ∙ shown_running c h for.0 for.1))
  where
    idle : (past : Past) (threads : List Thread) → (world past).enabled ≡ true → running_scan past ≡ None → jobs_at past threads ≡ jobs_in (world past) threads
    idle past threads e r = rw (e, r) refl

-- the jobs, by whether the task of each thread is live
pub shown_jobs : (c : Seen) (w : World) (threads : List Thread) (q : Bool) → Shows c w → q ≡ list_all (λ (t : Thread). is_some (task_named c.parts.hosts.roll.tasks t.name)) threads
    → jobs_in w threads ≡ (if q then all_of (job_of w) threads else Err NoTask)
shown_jobs c w threads q shows e =
    ap (λ r. if r then all_of (job_of w) threads else Err NoTask)
    (sym (e ∙ ap (λ (tasks : List Task). list_all (λ (t : Thread). is_some (task_named tasks t.name)) threads) shows.tasks))
