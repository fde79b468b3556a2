-- What the lines so far of a journal lead to, in the code.
use Rattle.std.specs.Prelude.{◌≡◌, ℕ, ◌^◌, ◌<◌, true, false, List, [], ◌++◌, map, Option, None, Some, IfSome}
use Rattle.km_base.specs.declared.acts.Act.{Act}
use Rattle.km_base.specs.declared.acts.Act.TheVariants as acts
use Rattle.km_base.specs.declared.acts.Answer.{Answer}
use Rattle.km_base.specs.declared.acts.Answer.TheVariants as answer
use Rattle.km_model.specs.Blocks.{Block}
use Rattle.km_model.specs.Past.{Past}
use Rattle.km_model.specs.Verdict.{listing}
use Rattle.km_record.specs.declared.kinds.RecId.{RecId}
use Rattle.km_state.specs.State.{State, listing_in}
use Rattle.km_track.specs.Tracker.{Live, Tracker, tracked_in}
use Rattle.km_verdict.specs.Listing.{listed_in}
use Rattle.km_core.specs.Cores.{Stands}
use Rattle.km_rounds.specs.declared.entry.Entry.{Entry}
use Rattle.km_entries.specs.File.{Checked, Unbegun, Going, Over, Verdict, Right, IsWrong, IsNoLine, history_in, scans_completed}
use Rattle.km_journal.specs.declared.replay.Replay.{Replay}
use Rattle.km_journal.specs.declared.replay.Judged.{Judged}
use Rattle.km_journal.specs.declared.replay.Judged.TheVariants as judged

-- the starts of the listed ones of these blocks
abbrev pub starts_in : List Live → List ℕ
starts_in ls = map (λ (b : Block). b.start) (listing_in (map (λ (l : Live). l.tracked) ls))

-- the blocks that are still to be listed are the listed ones from one on
pub record Owes (t : Tracker) (next : Option RecId) (owed : List ℕ) : Type 0 where
  pub prefix : List Live
  pub rest : List Live
  pub was : t.live ≡ prefix ++ rest
  pub at : next ≡ listed_in rest
  pub starts : owed ≡ starts_in rest

-- after a read that was done the listing is that of the blocks
abbrev pub HasListing : Past → Act → Answer → Tracker → Type 0
HasListing past act given t = act ≡ acts.Read → given ≡ answer.Done → listing past ≡ listing_in (tracked_in t)

-- the core stands for the events that were read
pub record Stood (r : Replay) (words : ℕ) (ns : List Entry) (owed : List ℕ) : Type 0 where
  pub state : State
  pub stands : Stands r.core (history_in ns) state
  pub size : r.core.parts.words ≡ words
  pub scans : r.scans ≡ scans_completed ns
  pub owes : Owes r.core.parts.objects.tracker r.owed owed

-- a replay stands for what the lines so far say
abbrev pub IsAt : Replay → Checked → Type 0
IsAt r Unbegun = ⊥
IsAt r (Going words ns owed) = Stood r words ns owed × (r.over ≡ false)
IsAt r (Over words ns) = Stood r words ns [] × (r.over ≡ true)

-- there is a replay exactly after the first line, and it stands for what the lines so far say
abbrev pub HasRead : Option Replay → Checked → Type 0
HasRead None Unbegun = Unit {0}
HasRead None (Going _ _ _) = ⊥
HasRead None (Over _ _) = ⊥
HasRead (Some r) c = IsAt r c

-- a line is judged as the definitions do, and where it is right what it leads to is kept
abbrev pub Judges : Verdict → Judged → Option Replay → Type 0
Judges (Right c) judged.Right o = HasRead o c
Judges (Right c) judged.Wrong o = ⊥
Judges (Right c) judged.NoLine o = ⊥
Judges IsWrong judged.Right o = ⊥
Judges IsWrong judged.Wrong o = Unit {0}
Judges IsWrong judged.NoLine o = ⊥
Judges IsNoLine judged.Right o = ⊥
Judges IsNoLine judged.Wrong o = ⊥
Judges IsNoLine judged.NoLine o = Unit {0}

-- a replay, if there is one, has room for one more event
abbrev pub HasRoom : Option Replay → Type 0
HasRoom o = IfSome o (λ (r : Replay). r.core.events < 2 ^ 62)
