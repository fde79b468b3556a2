-- How live scripts end, and what they print at their end.
use Rattle.std.proofs.Common.{◌≡◌, codes, refl}
use Rattle.std.specs.Fmt.{digits}
use Rattle.km_base.specs.declared.status.Status.TheVariants as status
use Rattle.km_model.specs.Answers.{answer}
use Rattle.km_model.specs.Scan.{next}
use Rattle.km_model.specs.Grammar.{line_by}
use Rattle.km_model.specs.Changes.{world_after_act}
use Rattle.km_live_model.specs.LiveGrammar.{live_line_of}
use Rattle.km_live_model.specs.Threads.{live_status_of}
use Rattle.km_live_model.specs.Lives.{LiveOut}

-- the end of the input within a thread
within_a_thread : live_status_of (codes "memory 1024\ntask a\nthread a\nset a.r0 1\n") ≡ status.NotACommand 5 1
unfolding live_line_of
within_a_thread = refl

within_prints : LiveOut (codes "memory 1024\ntask a\nthread a\nset a.r0 1\n") (codes "not a command: line 5, column 1\n")
unfolding digits answer next line_by world_after_act live_line_of
within_prints = (_, (_, _, _, (refl, refl), (_, _, _, (_, refl, refl, refl), (_, _, _, (refl, refl), (_, _, _, (refl, refl), (refl, refl), refl), refl), refl), refl))

-- a thread before `memory`
thread_first : live_status_of (codes "thread a\n") ≡ status.NotACommand 1 1
unfolding live_line_of
thread_first = refl

first_prints : LiveOut (codes "thread a\n") (codes "not a command: line 1, column 1\n")
unfolding digits answer next line_by world_after_act live_line_of
first_prints = (_, (refl, refl))

-- another task in a thread, at its column; the foreign word that comes first in the line
another_task : live_status_of (codes "memory 1024\nthread a\nstore a.r0 b.r1\n") ≡ status.NotACommand 3 12
unfolding live_line_of
another_task = refl

wrong_before : live_status_of (codes "memory 1024\nthread a\nstore 1x b.r1\n") ≡ status.NotACommand 3 7
unfolding live_line_of
wrong_before = refl

-- a command that no thread holds, and `end` outside a thread
no_tick : live_status_of (codes "memory 1024\nthread a\ntick x\n") ≡ status.NotACommand 3 1
unfolding live_line_of
no_tick = refl

no_end : live_status_of (codes "memory 1024\nend\n") ≡ status.NotACommand 2 1
unfolding live_line_of
no_end = refl

-- a name that stands already, a round out of range, and one word too many
again : live_status_of (codes "memory 1024\nthread a\nend\n thread a\n") ≡ status.NotACommand 4 2
unfolding live_line_of
again = refl

no_scans : live_status_of (codes "memory 1024\nround 0 0 1\n") ≡ status.NotACommand 2 7
unfolding live_line_of
no_scans = refl

too_long : live_status_of (codes "memory 1024\nround 1 0 1 1\n") ≡ status.NotACommand 2 13
unfolding live_line_of
too_long = refl

-- a round without threads, and a ninth thread
ninth : live_status_of (codes "memory 1024\nthread a\nend\nthread b\nend\nthread c\nend\nthread d\nend\nthread e\nend\nthread f\nend\nthread g\nend\nthread h\nend\nthread i\n") ≡ status.NotACommand 18 1
unfolding live_line_of
ninth = refl

again_after_a_round : live_status_of (codes "memory 1024\nthread a\nend\nround 1 0 1\nthread a\nend\n") ≡ status.Ok
unfolding live_line_of
again_after_a_round = refl
