use Rattle.std.proofs.Common.{◌≡◌, ◌≤◌, length, vec_len}
use Rattle.std.specs.Prelude.{vec_capacity}
use Rattle.km_model.specs.World.{World}
use Rattle.km_live_model.specs.Rounds.{job_line}
use Rattle.km_live_threads.specs.Worlds.{Shows}
use Rattle.km_live_threads.proofs.Made.{IsMade}
use Rattle.km_live_threads.proofs.lines.job_lines.Given as goal

abbrev pub invariant-loop-command : goal.invariant-loop-command
invariant-loop-command l = record {
  count : vec_len l.lines ≡ l.command-index;
  room : length l.commands ≤ vec_capacity l.lines;
  made : (w : World) → Shows l.core w → IsMade (job_line w) l.commands l.command-index l.lines.items;
}
