use Rattle.std.proofs.Common.{◌≡◌, ℕ, ◌≤◌, length}
use Rattle.km_live_model.specs.Courses.{AtStep}
use Rattle.km_rounds.specs.Journals.{ticks_in}
use Rattle.km_workers.specs.Workers.{Acts, Leads}
use Rattle.km_workers.proofs.scanner.steps.Given as goal

abbrev pub invariant-loop-turn : goal.invariant-loop-turn
invariant-loop-turn g l =
    (made : Acts (g.A.Acts.acting l.fn.acts) (g.A.Acts.acting l.acts) (g.W.Words.told l.fn.words) (g.W.Words.told l.words))
    × ((gap n : ℕ) → Leads gap (AtStep n) made.entries (AtStep n)) × (ticks_in made.entries ≡ 0) × (l._turn ≤ length made.entries)
