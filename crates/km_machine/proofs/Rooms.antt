-- Room for events and milliseconds, and what is spent of it.
use Rattle.std.proofs.Common.{ℕ, ◌+◌, ◌≤◌, refl, sym, ◌∙◌, arith}
use Rattle.km_machine.specs.Machines.{Simulation, HasRoom, Spent}

-- nothing is spent
pub spent_none : (machine : Simulation) → Spent machine machine 0 0
spent_none machine = record { size = refl; words = refl; events = omega arith; moment = omega arith }

-- in two calls
pub spent_more : (a b c : Simulation) (n m i j k l : ℕ) → Spent a b n i → Spent b c m j → n + m ≤ k → i + j ≤ l → Spent a c k l
spent_more a b c n m i j k l s t few short = record {
  size = t.size ∙ s.size;
  words = t.words ∙ s.words;
  events = omega (arith, few, s.events, t.events);
  moment = omega (arith, short, s.moment, t.moment);
}

-- what is left
pub room_left : (a b : Simulation) (n m i j k l : ℕ) → HasRoom a k l → Spent a b n i → n + m ≤ k → i + j ≤ l → HasRoom b m j
room_left a b n m i j k l room s few short = record {
  size = s.size ∙ room.size ∙ sym s.words;
  events = omega (arith, few, s.events, room.events);
  moment = omega (arith, short, s.moment, room.moment);
}
