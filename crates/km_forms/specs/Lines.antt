-- How a refusal is written.
use Rattle.std.specs.Prelude.{◌≡◌, ℕ}
use Rattle.km_base.specs.declared.status.Status.{Status}
use Rattle.km_base.specs.declared.status.Status.TheVariants as status
use Rattle.km_model.specs.Text.{not_a_command_text}
use Rattle.km_edge.specs.Streams.{SinkState, Wrote, StoppedAt}

-- a refusal is written, or stops at a fault
abbrev pub Refuses : ℕ → ℕ → SinkState → SinkState → Status → Type 0
Refuses n c k k' (status.NotACommand m d) = (m ≡ n) × (d ≡ c) × Wrote k k' (not_a_command_text n c)
Refuses n c k k' status.WriteFault = (m : ℕ) × StoppedAt k k' (not_a_command_text n c) m
Refuses n c k k' status.Ok = ⊥
Refuses n c k k' status.ReadFault = ⊥
Refuses n c k k' status.NoMemory = ⊥
Refuses n c k k' (status.BadWords _) = ⊥
Refuses n c k k' status.TooLong = ⊥
