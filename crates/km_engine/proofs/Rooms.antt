-- How much room the lines of a script take.
use Rattle.std.proofs.Common.{◌≡◌, ℕ, ◌+◌, ◌≤◌, is_none, List, length, Option, Some, None, Ok, sym, subst, ◌∙◌, arith}
use Rattle.km_base.specs.declared.lines.Line.{Line}
use Rattle.km_base.specs.declared.lines.Line.TheVariants as line
use Rattle.km_model.specs.Grammar.{line_of}
use Rattle.km_machine.specs.Machines.{Simulation}
use Rattle.km_engine.specs.Session.{Session, HasRoomFor, HasRoomToRun, SpendsOn}
use Rattle.km_engine.specs.Steps.{TakesRoom}
use Rattle.km_engine.proofs.Fit.{later_is_long}

-- room for bytes is room for fewer
pub less_room : (m : Option Simulation) (a b : ℕ) → b ≤ a → HasRoomFor m a → HasRoomFor m b
less_room None a b h r = omega (arith, h, r)
less_room (Some m) a b h r = (r.0, omega (arith, h, r.1), omega (arith, h, r.2))

-- a line has room where its bytes have
pub room_to_run : (m : Option Simulation) (bytes : List ℕ) (l : Line) → line_of (is_none m) bytes ≡ Ok l → HasRoomFor m (length bytes) → HasRoomToRun m l
room_to_run None bytes line.Blank e r = tt
room_to_run None bytes (line.Command c) e r = tt
room_to_run (Some m) bytes line.Blank e r = tt
room_to_run (Some m) bytes (line.Command c) e r =
    let long = later_is_long bytes c e in
    record { size = r.0; events = omega (arith, long, r.1); moment = omega (arith, long, r.2) }

-- a line and its line feed take the room of their bytes
pub line_takes : (old new : Option Simulation) (bytes : List ℕ) (l : Line) (more : ℕ) → line_of (is_none old) bytes ≡ Ok l → SpendsOn old l new
    → HasRoomFor old (length bytes + 1 + more) → HasRoomFor new more
line_takes old new bytes line.Blank more e spent r =
    subst (λ m. HasRoomFor m more) (sym spent) (less_room old (length bytes + 1 + more) more (omega arith) r)
line_takes None None bytes (line.Command c) more e spent r = absurd spent
line_takes (Some m) None bytes (line.Command c) more e spent r = absurd spent
line_takes None (Some n) bytes (line.Command c) more e spent r = (spent.0, omega (arith, spent.1, r), omega (arith, spent.2, r))
line_takes (Some m) (Some n) bytes (line.Command c) more e spent r =
    let long = later_is_long bytes c e in
    (spent.size ∙ r.0 ∙ sym spent.words, omega (arith, long, spent.events, r.1), omega (arith, long, spent.moment, r.2))

-- and so do several lines
pub takes_more : (s s' s'' : Session) (a b n c : ℕ) → TakesRoom s s' a b → TakesRoom s' s'' n 0 → n + c ≤ b → TakesRoom s s'' a c
takes_more s s' s'' a b n c first next same =
    λ more r. less_room s''.machine (0 + (c + more)) (c + more) (omega arith) (next (c + more) (less_room s'.machine (b + more) (n + (c + more)) (omega (arith, same)) (first more r)))
