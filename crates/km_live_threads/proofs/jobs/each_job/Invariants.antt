use Rattle.std.proofs.Common.{◌≡◌, ◌≤◌, length, map, vec_len}
use Rattle.std.specs.Prelude.{vec_capacity}
use Rattle.km_model.specs.World.{World}
use Rattle.km_live_model.specs.Rounds.{job_of as job_of_thread}
use Rattle.km_live_workers.specs.Jobs.{job_of}
use Rattle.km_live_threads.specs.Worlds.{Shows}
use Rattle.km_live_threads.proofs.Made.{IsMade}
use Rattle.km_live_threads.proofs.jobs.each_job.Given as goal

abbrev pub invariant-loop-thread : goal.invariant-loop-thread
invariant-loop-thread l = record {
  count : vec_len l.jobs ≡ l.thread-index;
  room : length l.threads ≤ vec_capacity l.jobs;
  made : (w : World) → Shows l.core w → IsMade (job_of_thread w) l.threads l.thread-index (map job_of l.jobs.items);
}
