-- How much room the lines of a live script take.
use Rattle.std.proofs.Common.{◌≡◌, ℕ, ◌+◌, ◌*◌, ◌^◌, ◌≤◌, is_none, List, length, Option, Some, None, Ok, sym, subst, ◌∙◌, arith}
use Rattle.std.proofs.lemmas.Nat.{mul-le}
use Rattle.km_base.specs.declared.lines.Command.{Command}
use Rattle.km_base.specs.declared.lines.Line.TheVariants as line
use Rattle.km_machine.specs.Machines.{Simulation}
use Rattle.km_live_model.specs.declared.lines.LiveLine.{LiveLine}
use Rattle.km_live_model.specs.declared.lines.LiveLine.TheVariants as live
use Rattle.km_live_model.specs.Threads.{Threads, line_at}
use Rattle.km_engine.specs.Session.{SpendsOn as SpendsOnCommand}
use Rattle.km_engine.proofs.Fit.{later_is_long}
use Rattle.km_live_engine.specs.Session.{HasRoomFor, HasRoomForRound, HasRoomToRun, SpendsOn, SpendsOnRound}
use Rattle.km_live_engine.specs.Steps.{IsFewInRound}
use Rattle.km_live_engine.proofs.Fit.{command_is_line}

-- room for bytes is room for fewer
pub less_room : (m : Option Simulation) (a b : ℕ) → b ≤ a → HasRoomFor m a → HasRoomFor m b
less_room None a b h r = omega (arith, h, r)
less_room (Some m) a b h r = (r.0, omega (arith, h, r.1), omega (arith, h, r.2))

round_room : (m : Option Simulation) (bytes : ℕ) → HasRoomFor m bytes → HasRoomForRound m
round_room None bytes r = tt
round_room (Some m) bytes r = record { size = r.0; events = omega (arith, r.1); moment = omega (arith, r.2) }

-- a line has room where its bytes have
pub room_to_run : (m : Option Simulation) (t : Threads) (bytes : List ℕ) (l : LiveLine) → line_at (is_none m) t bytes ≡ Ok l → HasRoomFor m (length bytes) → HasRoomToRun m l
room_to_run None t bytes (live.Command c) e r = tt
room_to_run (Some m) t bytes (live.Command c) e r =
    let long = later_is_long bytes c (command_is_line (is_none (Some m)) t bytes c e) in
    record { size = r.0; events = omega (arith, long, r.1); moment = omega (arith, long, r.2) }
room_to_run None t bytes (live.Round _ _ _) e r = tt
room_to_run (Some m) t bytes (live.Round _ _ _) e r = round_room (Some m) (length bytes) r
room_to_run None t bytes live.Blank e r = tt
room_to_run (Some m) t bytes live.Blank e r = tt
room_to_run None t bytes (live.Thread _) e r = tt
room_to_run (Some m) t bytes (live.Thread _) e r = tt
room_to_run None t bytes live.End e r = tt
room_to_run (Some m) t bytes live.End e r = tt
room_to_run None t bytes (live.InThread _) e r = tt
room_to_run (Some m) t bytes (live.InThread _) e r = tt

-- a line that takes none
none_taken : (old new : Option Simulation) (bytes : List ℕ) (more : ℕ) → new ≡ old → HasRoomFor old (length bytes + 1 + more) → HasRoomFor new more
none_taken old new bytes more same r = subst (λ m. HasRoomFor m more) (sym same) (less_room old (length bytes + 1 + more) more (omega arith) r)

command_takes : (old new : Option Simulation) (t : Threads) (bytes : List ℕ) (c : Command) (more : ℕ) → line_at (is_none old) t bytes ≡ Ok (live.Command c)
    → SpendsOnCommand old (line.Command c) new → HasRoomFor old (length bytes + 1 + more) → HasRoomFor new more
command_takes None None t bytes c more e spent r = absurd spent
command_takes (Some m) None t bytes c more e spent r = absurd spent
command_takes None (Some n) t bytes c more e spent r = (spent.0, omega (arith, spent.1, r), omega (arith, spent.2, r))
command_takes (Some m) (Some n) t bytes c more e spent r =
    let long = later_is_long bytes c (command_is_line (is_none (Some m)) t bytes c e) in
    (spent.size ∙ r.0 ∙ sym spent.words, omega (arith, long, spent.events, r.1), omega (arith, long, spent.moment, r.2))

round_takes : (old new : Option Simulation) (bytes : List ℕ) (more : ℕ) → SpendsOnRound old new → HasRoomFor old (length bytes + 1 + more) → HasRoomFor new more
round_takes None new bytes more spent r = absurd spent
round_takes (Some m) None bytes more spent r = absurd spent
round_takes (Some m) (Some n) bytes more spent r = (spent.size ∙ r.0 ∙ sym spent.words, omega (arith, spent.events, r.1), omega (arith, spent.moment, r.2))

-- a line and its line feed take the room of their bytes
pub line_takes : (old new : Option Simulation) (t : Threads) (bytes : List ℕ) (l : LiveLine) (more : ℕ) → line_at (is_none old) t bytes ≡ Ok l → SpendsOn old l new
    → HasRoomFor old (length bytes + 1 + more) → HasRoomFor new more
line_takes old new t bytes (live.Command c) more e spent r = command_takes old new t bytes c more e spent r
line_takes old new t bytes (live.Round _ _ _) more e spent r = round_takes old new bytes more spent r
line_takes old new t bytes live.Blank more e spent r = none_taken old new bytes more spent r
line_takes old new t bytes (live.Thread _) more e spent r = none_taken old new bytes more spent r
line_takes old new t bytes live.End more e spent r = none_taken old new bytes more spent r
line_takes old new t bytes (live.InThread _) more e spent r = none_taken old new bytes more spent r

-- what a round takes is at most what its numbers allow
pub few_in_round : (scans gap entries tasks : ℕ) → IsFewInRound scans gap entries → tasks ≤ 8 → (entries + 1 + 4 * tasks + 1 ≤ 2 ^ 36) × (scans * gap ≤ 360000000)
few_in_round scans gap entries tasks few short = (omega (arith, few.3, short), mul-le scans gap 100 3600000 few.0 few.1)
