-- The acts of several workers on one core.
use Rattle.std.specs.Prelude.{ℕ, ◌+◌, List, [], ◌∷◌, sum_by}
use Rattle.km_base.specs.declared.acts.Act.{Act}
use Rattle.km_base.specs.declared.acts.Act.TheVariants.{Halt}
use Rattle.km_base.specs.declared.acts.Answer.{Answer}
use Rattle.km_base.specs.declared.acts.Answer.TheVariants.{Loaded}
use Rattle.km_model.specs.History.{Event, History, ticks_of}
use Rattle.km_model.specs.Follows.{Follows}
use Rattle.km_numbered.specs.Members.{part}
use Rattle.km_words.specs.Told.{WordStep, LoadStep}
use Rattle.km_rounds.specs.declared.entry.Entry.{Entry}

-- the acts of all workers, one after another
abbrev pub Journal : Type 0
Journal = List Entry

-- the entry of a worker's act
abbrev pub entry : ℕ → Act → Answer → Entry
entry k act given = record { by = k; act = act; answer = given }

-- how many entries may stand before an act, in a journal with room for so many: a halt has a place of its own
abbrev pub room_for : ℕ → Act → ℕ
room_for limit Halt = limit + 1
room_for limit _ = limit

-- the event of an entry
abbrev pub event_of : Entry → Event
event_of e = record { act = e.act; answer = e.answer }

-- a history with a journal appended
abbrev pub with_journal : History → Journal → History
with_journal h [] = h
with_journal h (e ∷ journal) = with_journal (event_of e ∷ h) journal

-- a journal follows a history: each entry has its answer. The value of a load is its own
abbrev pub FollowsOn : ℕ → History → Journal → Type 0
FollowsOn words h journal = Follows words (with_journal h journal)

-- by how much a journal moves the moment
abbrev pub ticks_in : Journal → ℕ
ticks_in journal = sum_by (λ (e : Entry). ticks_of e.act) journal

-- the part of a number: its entries, in order
abbrev pub entries_by : Journal → ℕ → Journal
entries_by journal k = part (λ (e : Entry). e.by) (λ (e : Entry). e) k journal

-- the load that an answer tells of, in front of others
abbrev pub with_loaded : Answer → List WordStep → List WordStep
with_loaded (Loaded a value) steps = LoadStep a value ∷ steps
with_loaded _ steps = steps

-- the loads of a journal
abbrev pub loads_in : Journal → List WordStep
loads_in [] = []
loads_in (e ∷ journal) = with_loaded e.answer (loads_in journal)
