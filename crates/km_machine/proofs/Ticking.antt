-- Time that moves over automatic scans.
use Rattle.std.proofs.Common.{◌≡◌, ℕ, zero, suc, ◌+◌, ◌-◌, ◌*◌, ◌<◌, ◌≤◌, Bool, true, false, nat_le, Option, Some, None, is_none, Result, Ok, sym, ap, ◌∙◌, subst, arith, if◌then◌else◌}
use Rattle.km_base.specs.declared.acts.Act.TheVariants.{AutoBegin}
use Rattle.km_edge.specs.declared.errors.Failed.{Failed}
use Rattle.km_edge.specs.Streams.{SinkState}
use Rattle.km_model.specs.Follows.{Run, Follows, happens}
use Rattle.km_model.specs.Expansion.{due_by, run_at, world_after}
use Rattle.km_core.specs.declared.settings.Settings.{Settings}
use Rattle.km_machine.specs.Machines.{Simulation, For}
use Rattle.km_machine.specs.Lines.{SoFar}
use Rattle.km_machine.specs.Sayings.{Saying}
use Rattle.km_machine.specs.Scans.{ReachesOver, Scanned, ScansUntil}
use Rattle.km_machine.proofs.Sayings.{begun}
use Rattle.km_laws.proofs.Since.{follows_answered}
use Rattle.km_machine.proofs.Timely.{scan_paced}

-- the moment of a core
pub now_is : (machine : Simulation) (run : Run) → For machine run → (world_after run.history).now ≡ machine.core.parts.settings.now
now_is machine run stands = sym stands.stands.history.moment ∙ ap (λ (q : Settings). q.now) stands.stands.parts.hosts.settings

-- so many automatic scans were made, each but the first a second after the last at least
pub record Pacing (says : Saying) (target : ℕ) (run : Run) (made : ℕ) (machine : Simulation) (k k' : SinkState) (written : Result (Unit {0}) Failed) : Type 0 where
  pub behind : Run
  pub over : (run' : Run) → ReachesOver target behind run' → ReachesOver target run run'
  pub so_far : SoFar says run behind machine k k' written
  pub since : (world_after run.history).now ≤ (world_after behind.history).now
  pub paced : (world_after run.history).now + 1000 * made ≤ (world_after behind.history).now + 1000
  pub next : 0 < made → (m : ℕ) → (world_after behind.history).due ≡ Some m → (world_after behind.history).now + 1000 ≤ m

pub pacing_none : (says : Saying) (target : ℕ) (run : Run) (machine : Simulation) (k : SinkState) → For machine run → Pacing says target run 0 machine k k (Ok tt)
pacing_none says target run machine k stands = record {
  behind = run;
  over = λ run' r. r;
  so_far = begun says machine run k stands;
  since = omega arith;
  paced = omega arith;
  next = λ none. absurd (omega arith);
}

due_is : (target : ℕ) (o : Option ℕ) (due : ℕ) → (elim o as (λ _. Option ℕ) [ None ↦ None | Some m ↦ if nat_le m target then Some m else None ]) ≡ Some due → o ≡ Some due
due_is target None due e = absurd (let z : ⊥ = cc in z)
due_is target (Some m) due e = by_test (nat_le m target) e
  where
    by_test : (q : Bool) → (if q then Some m else None) ≡ Some due → Some m ≡ Some due
    by_test true e = e
    by_test false e = absurd (let z : ⊥ = cc in z)

a_second_on : (made start now later due : ℕ) → later ≡ now + (due - now) → start ≤ now → start + 1000 * made ≤ now + 1000 → (0 < made → now + 1000 ≤ due)
    → start + 1000 * (made + 1) ≤ later + 1000
a_second_on zero start now later due is since paced far = omega (arith, is, since)
a_second_on (suc n) start now later due is since paced far = let second = far (omega arith) in omega (arith, is, paced, second)

-- one more
pub pacing_more : (says : Saying) (target : ℕ) (run : Run) (made due : ℕ) (machine next : Simulation) (k k' k'' : SinkState) (written written' : Result (Unit {0}) Failed)
    → (s : Pacing says target run made machine k k' written)
    → due_by target (world_after s.behind.history) ≡ Some due
    → Scanned says run (happens (run_at s.behind due) AutoBegin) next k k'' written'
    → Pacing says target run (made + 1) next k k'' written'
pacing_more says target run made due machine next k k' k'' written written' s is_due scan =
    let due_then = due_is target (world_after s.behind.history).due due is_due in
    let f = s.so_far.stands in
    let follows = subst (λ w. Follows w s.behind.history) (sym f.words) f.stands.follows in
    let pace = scan_paced s.behind scan.behind due (follows_answered s.behind.words s.behind.history follows) due_then scan.makes in
    let now = pace.now in let since = s.since in
    record {
      behind = scan.behind;
      over = λ run' r. s.over run' (suc r.0, (due, is_due, scan.behind, scan.makes, r.1));
      so_far = scan.so_far;
      since = omega (arith, now, since);
      paced = a_second_on made (world_after run.history).now (world_after s.behind.history).now (world_after scan.behind.history).now due pace.now s.since s.paced (λ some. s.next some due due_then);
      next = λ _. pace.next;
    }

-- an hour has no more
pub paced_out : (says : Saying) (target : ℕ) (run : Run) (made start : ℕ) (machine : Simulation) (k k' : SinkState) (written : Result (Unit {0}) Failed)
    → Pacing says target run made machine k k' written → 3602 ≤ made → (world_after run.history).now ≡ start → target ≤ start + 3600000 → machine.core.parts.settings.now ≤ target
    → ScansUntil says target run machine k k' written
paced_out says target run made start machine k k' written s many begin hour ahead =
    let now = now_is machine s.behind s.so_far.stands in let paced = s.paced in absurd (omega (arith, now, paced, many, begin, hour, ahead))

-- none is due any more
pub paced_until : (says : Saying) (target : ℕ) (run : Run) (made : ℕ) (machine : Simulation) (k k' : SinkState) (written : Result (Unit {0}) Failed)
    → (s : Pacing says target run made machine k k' written) → due_by target (world_after s.behind.history) ≡ None → ScansUntil says target run machine k k' written
paced_until says target run made machine k k' written s none = record { behind = s.behind; over = s.over; none_due = ap is_none none; so_far = s.so_far }
