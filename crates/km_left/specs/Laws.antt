use Rattle.std.specs.Prelude.{◌≡◌, ℕ, ◌+◌, ◌*◌, ◌<◌, ◌≤◌, true, false, nat_lt, length, filter, List, ◌∷◌, Some, None, if◌then◌else◌}
use Rattle.km_base.specs.declared.acts.Act.{Act}
use Rattle.km_base.specs.declared.acts.Act.TheVariants.{Step}
use Rattle.km_base.specs.declared.acts.Answer.{Answer}
use Rattle.km_base.specs.declared.acts.Answer.TheVariants.{Loaded}
use Rattle.km_model.specs.History.{History}
use Rattle.km_model.specs.Memory.{words_from}
use Rattle.km_model.specs.Members.{In}
use Rattle.km_model.specs.Tasks.{Task}
use Rattle.km_model.specs.Past.{Place, begins}
use Rattle.km_model.specs.Follows.{Follows}
use Rattle.km_model.specs.Headline.{IsMemorySize}
use Rattle.km_state.specs.State.{State, Tracked, Behind, Scanning, is_white_now}
use Rattle.km_state.specs.StateNext.{state_next, phase_at, is_at, load_in}
use Rattle.km_state.specs.StateAfter.{state_after}
use Rattle.km_state.specs.StandsFor.{StandsFor}
use Rattle.km_left.specs.LeftIn.{words_above, is_ahead, scan_left, left_in}

-- the words above an address are as many as a count of them finds
abbrev pub WordsAreCounted : Type 0
WordsAreCounted = (start words a : ℕ) → words_above start words a ≡ length (filter (nat_lt a) (words_from words start))

-- each load of the scan lowers what is left by one, and by two where it doesn't go on with the holder of the last load
abbrev pub LoadsLowerIn : Type 0
LoadsLowerIn =
    (words : ℕ) (h : History) (s : State) (c : Scanning) (place : Place) (value : ℕ) → IsMemorySize words → Follows words h → StandsFor words h s
    → s.scan ≡ Some c → state_next s ≡ Some place
    → left_in (state_after s Step (Loaded place.word value)) + (if is_at place.phase place.holder c.cursor then 1 else 2) ≤ left_in s

-- at most twice the words and the blocks, and four
abbrev pub LeftInIsBounded : Type 0
LeftInIsBounded =
    (words : ℕ) (h : History) (s : State) → IsMemorySize words → Follows words h → StandsFor words h s
    → left_in s ≤ 2 * words + 2 * length s.tracked + 4

-- in any state, no event but a load, the begin of a scan, registering a block and starting a task raises it
abbrev pub NothingRaisesIn : Type 0
NothingRaisesIn =
    (s : State) (act : Act) (given : Answer) → begins act given ≡ false → load_in s act given ≡ None
    → (state_after s act given).registered ≡ s.registered → (state_after s act given).started ≡ s.started
    → left_in (state_after s act given) ≤ left_in s

-- while a scan runs something is left, so that its end lowers it
abbrev pub SomeIsLeft : Type 0
SomeIsLeft = (words : ℕ) (h : History) (s : State) (c : Scanning) → StandsFor words h s → s.scan ≡ Some c → 1 ≤ left_in s

-- each move lowers it: to the next entry of the queue, past a stack or a block in a phase that goes by numbers, and to a later phase.
-- To leave out entries of the queue raises nothing
pub record MovesLowerIn (c : Scanning) (ts : List Tracked) (tasks : List Task) : Type 0 where
  pub pop : (t : Tracked) (queue : List ℕ) → In t ts → is_white_now t ≡ false → (In t.block.id queue → ⊥)
      → is_at 2 t.block.id c.cursor ≡ false → is_at 4 t.block.id c.cursor ≡ false
      → scan_left (record c { queue = queue }) ts tasks + 1 ≤ scan_left (record c { queue = t.block.id ∷ queue }) ts tasks
  pub skip : (queue fewer : List ℕ) → ((t : Tracked) → In t ts → In t.block.id fewer → In t.block.id queue)
      → scan_left (record c { queue = fewer }) ts tasks ≤ scan_left (record c { queue = queue }) ts tasks
  pub pass_stack : (t : Task) → In t tasks → phase_at c.cursor ≤ 1 → is_ahead 1 t.number c.cursor ≡ true
      → scan_left (record c { cursor = Behind 1 t.number }) ts tasks + 1 ≤ scan_left c ts tasks
  pub pass_block : (t : Tracked) → In t ts → phase_at c.cursor ≤ 3 → is_ahead 3 t.block.id c.cursor ≡ true
      → scan_left (record c { cursor = Behind 3 t.block.id }) ts tasks + 1 ≤ scan_left c ts tasks
  pub to_phase : (phase id : ℕ) → phase_at c.cursor < phase → phase ≤ 4 → scan_left (record c { cursor = Behind phase id }) ts tasks + 1 ≤ scan_left c ts tasks

-- that is so of any lists
abbrev pub AllMovesLowerIn : Type 0
AllMovesLowerIn = (c : Scanning) (ts : List Tracked) (tasks : List Task) → MovesLowerIn c ts tasks
