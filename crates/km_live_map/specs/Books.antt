-- What contracts see of a book, and what its type keeps.
use Rattle.std.specs.Prelude.{◌≡◌, ℕ, ◌+◌, ◌≤◌, List, [], ◌∷◌, ◌++◌, length, slice_get, Some}
use Rattle.km_base.specs.declared.acts.Act.{Act}
use Rattle.km_base.specs.declared.acts.Answer.{Answer}
use Rattle.km_base.specs.declared.acts.Act.TheVariants.{Halt}
use Rattle.km_core.specs.Cores.{Seen, Stands}
use Rattle.km_core.specs.Parts.{Touches}
use Rattle.km_model.specs.History.{History}
use Rattle.km_state.specs.State.{State}
use Rattle.km_state.specs.StateAfter.{state_after}
use Rattle.km_words.specs.Told.{Told}
use Rattle.km_rounds.specs.declared.entry.Entry.{Entry}
use Rattle.km_rounds.specs.Journals.{FollowsOn, entry, room_for, ticks_in, with_journal}

-- a core with its journal. The opening state is what the core was without it, which contracts alone see
pub record Book : Type 0 where
  pub opening : Seen
  pub core : Seen
  pub journal : List Entry
  pub entries : ℕ  -- how many the journal has room for, and one more for a last halt

-- a core stands for a history, by some state
abbrev pub IsCoreFor : Seen → History → Type 0
IsCoreFor c h = (s : State) × Stands c h s

-- what the type of a book keeps
pub record IsBook (b : Book) : Type 0 where
  -- for each history for which the opening state stands, the journal follows it, and the core stands for it with the journal
  pub follows : (h : History) → IsCoreFor b.opening h → FollowsOn b.opening.parts.words h b.journal × IsCoreFor b.core (with_journal h b.journal)
  pub room : length b.journal ≤ b.entries + 1
  pub last : (e : Entry) → slice_get b.journal b.entries ≡ Some e → e.act ≡ Halt
  pub words : b.core.parts.words ≡ b.opening.parts.words
  pub events : b.core.events ≡ b.opening.events + length b.journal
  pub now : b.core.parts.settings.now ≡ b.opening.parts.settings.now + ticks_in b.journal

-- the journal has no room for an act
abbrev pub IsFullFor : Book → Act → Type 0
IsFullFor b act = room_for b.entries act ≤ length b.journal

-- an act was made on a book, by a worker of this number, over words that told t and then u
pub record Made (b c : Book) (by : ℕ) (what : Act) (given : Answer) (t u : Told) : Type 0 where
  -- there was room for its entry
  pub free : ¬ IsFullFor b what
  -- its entry is the newest, and only the core is another besides
  pub noted : c ≡ record b { core = c.core; journal = b.journal ++ entry by what given ∷ [] }
  -- for each history for which the core stood, it stands for that with this event
  pub stands : (h : History) (s : State) → Stands b.core h s → Stands c.core (record { act = what; answer = given } ∷ h) (state_after s what given)
  -- the words are touched as this event says
  pub words : Touches what given t u

-- the journal of a book had no room for an act, and nothing changed
pub record NotMade (b c : Book) (what : Act) (told : ℕ) (t u : Told) : Type 0 where
  pub full : IsFullFor b what
  pub limit : told ≡ b.entries
  pub book : c ≡ b
  pub words : u ≡ t
