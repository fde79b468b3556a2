use Rattle.std.specs.Prelude.{◌≡◌, ℕ, true, [], ◌∷◌, Some, MatchBool}
use Rattle.km_model.specs.History.{History, value_of}
use Rattle.km_model.specs.Memory.{words_from}
use Rattle.km_model.specs.Blocks.{Block, block_of}
use Rattle.km_model.specs.Past.{Past, begins}
use Rattle.km_model.specs.Scan.{stack_of}
use Rattle.km_model.specs.Answers.{answer}
use Rattle.km_model.specs.Follows.{Follows, FollowsMemory, past_of, run_of, told_value}

-- a block stands at each moment from just after the begin of the running or last scan on
abbrev pub StandsSince : Past → Block → Type 0
StandsSince [] b = ⊥
StandsSince (m ∷ past) b = (block_of m.after.blocks b.id ≡ Some b) × MatchBool (begins m.act m.answer) (Unit {0}) (StandsSince past b)

-- so does a task, by its number, with its stack, and stacks are scanned
abbrev pub LivesSince : Past → ℕ → ℕ → Type 0
LivesSince [] n start = ⊥
LivesSince (m ∷ past) n start =
    ((stack_of m.after.tasks n ≡ words_from 512 start) × (m.after.stacks ≡ true)) × MatchBool (begins m.act m.answer) (Unit {0}) (LivesSince past n start)

-- each event has its answer, whatever its loads bring
abbrev pub IsAnswered : ℕ → History → Type 0
IsAnswered words [] = Unit {0}
IsAnswered words (e ∷ h) = ((value : ℕ) × (e.answer ≡ answer words (past_of h) e.act value)) × IsAnswered words h

-- so it is in a history that follows
pub follows_answered : (words : ℕ) (h : History) → Follows words h → IsAnswered words h
follows_answered words [] f = tt
follows_answered words (e ∷ h) f = ((value_of e.answer, f.0), follows_answered words h f.2)

-- and in one over a told memory
pub memory_answered : (words : ℕ) (h : History) → FollowsMemory words h → IsAnswered words h
memory_answered words [] f = tt
memory_answered words (e ∷ h) f = ((told_value (run_of words h) e.act, f.0), memory_answered words h f.1)
