-- What the run of a generated script comes to, and what a bench writes of it.
use Rattle.std.specs.Prelude.{◌≡◌, ℕ, min, List, ◌++◌, length, Some}
use Rattle.km_base.specs.declared.status.Status.{Status}
use Rattle.km_base.specs.declared.status.Status.TheVariants as status
use Rattle.km_model.specs.Follows.{past_of}
use Rattle.km_model.specs.Output.{Script, Fresh, Begun, IsRun, lines_of}
use Rattle.km_model.specs.Verdict.{listing}
use Rattle.km_edge.specs.Streams.{SourceState, SinkState, Wrote, StoppedAt, greatest}
use Rattle.km_gen.specs.Generated.{generated_script}
use Rattle.km_text.specs.Bench.{bench_number_text, bench_result_text}
use Rattle.km_engine.specs.declared.bench.Summary.{Summary}

-- a source over bytes that are held tells what is left of them, and never fails
abbrev pub held_state : List ℕ → SourceState
held_state bytes = record { left = Some bytes; faults = 0 }

-- how many blocks are listed where lines led
abbrev pub listed_at : Script → ℕ
listed_at Fresh = 0
listed_at (Begun run) = length (listing (past_of run.history))

-- the script of a number with so many steps comes to a summary: its lines, the bytes of its output as far as they can
-- be counted, and the blocks that are listed at its end
pub record SumsUp (number steps : ℕ) (s : Summary) : Type 0 where
  pub end : Script
  pub out : List ℕ
  pub run : IsRun (generated_script number steps) end out
  pub lines : s.lines ≡ length (lines_of (generated_script number steps))
  pub bytes : s.bytes ≡ min (length out) greatest
  pub listed : s.listed ≡ listed_at end

-- the two lines of a summary
abbrev pub summary_text : ℕ → ℕ → Summary → List ℕ
summary_text number steps s = bench_number_text number steps ++ bench_result_text s.lines s.bytes s.listed

-- how a bench ends: its summary is written, or stops at a fault; or there was no memory, and the sink is as it was
abbrev pub BenchEnds : ℕ → ℕ → SinkState → SinkState → Status → Type 0
BenchEnds number steps k k' status.Ok = (s : Summary) × SumsUp number steps s × Wrote k k' (summary_text number steps s)
BenchEnds number steps k k' status.WriteFault =
    (s : Summary) × SumsUp number steps s × ((n : ℕ) × StoppedAt k k' (summary_text number steps s) n)
BenchEnds number steps k k' status.NoMemory = k' ≡ k
BenchEnds number steps k k' _ = ⊥
