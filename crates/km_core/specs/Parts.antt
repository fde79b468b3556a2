-- What a kernel is seen as, how it stands as a state, and what an act does to it.
use Rattle.std.specs.Prelude.{◌≡◌, ℕ, ◌+◌, ◌%◌, ◌<◌, ◌≤◌, ◌^◌, true, None}
use Rattle.km_base.specs.declared.acts.Act.{Act}
use Rattle.km_base.specs.declared.acts.Act.TheVariants.{Store}
use Rattle.km_base.specs.declared.acts.Answer.{Answer}
use Rattle.km_base.specs.declared.acts.Answer.TheVariants.{Done, Loaded}
use Rattle.km_base.specs.declared.spans.Span.{Span}
use Rattle.km_model.specs.History.{ticks_of, value_of}
use Rattle.km_model.specs.Memory.{in_memory}
use Rattle.km_model.specs.Past.{is_refused}
use Rattle.km_model.specs.Headline.{IsMemorySize}
use Rattle.km_state.specs.State.{State}
use Rattle.km_state.specs.StateAnswers.{state_answer}
use Rattle.km_state.specs.StateAfter.{state_after}
use Rattle.km_reach.specs.Reached.{IsReached}
use Rattle.km_hosts.specs.Hosting.{Hosting, Hold, words_in}
use Rattle.km_objects.specs.Objects.{Objects, Agree, AreOf, places}
use Rattle.km_track.specs.Tracker.{live_where, meets}
use Rattle.km_core.specs.declared.settings.Settings.{Settings}
use Rattle.km_words.specs.Told.{GivesMemory, IsGiven, StoreStep, Told, loaded_in, stored, with_step}

-- a kernel: the words of its memory, the hosts, the live blocks with their scanner, and what is set
pub record Parts : Type 0 where
  pub words : ℕ
  pub hosts : Hosting
  pub objects : Objects
  pub settings : Settings

-- what is set in a state
abbrev pub set_in : State → Settings
set_in s = record { enabled = s.enabled; stacks = s.stacks; period = s.period; due = s.due; now = s.now }

-- a kernel stands as a state, but for the blocks and the scans
pub record HostsStand (p : Parts) (s : State) : Type 0 where
  pub memory : s.words ≡ p.words
  pub held : Hold p.hosts s.used
  pub started : s.started ≡ p.hosts.roll.started
  pub tasks : s.tasks ≡ p.hosts.roll.tasks
  pub settings : set_in s ≡ p.settings

-- a kernel stands as a state
pub record StandsAs (p : Parts) (s : State) : Type 0 where
  pub hosts : HostsStand p s
  pub objects : AreOf p.objects s

-- the parts of a kernel agree, and no moment leaves 64 bits
pub record IsWhole (p : Parts) : Type 0 where
  pub memory : IsMemorySize p.words
  pub pages : words_in p.hosts ≡ p.words
  pub agree : Agree p.objects p.hosts.roll
  pub places : places p.objects ≡ p.words
  pub now : p.settings.now ≤ 2 ^ 62
  pub period : p.settings.period < 2 ^ 43

-- a kernel stands as a state that few enough events lead to
pub record IsReady (p : Parts) : Type 0 where
  pub state : State
  pub stands : StandsAs p state
  pub reached : IsReached state
  pub few : state.events < 2 ^ 62
  pub whole : IsWhole p

-- an act is answered by the definitions, and what stands then is what they say; a refusal changes nothing
pub record Answers (p q : Parts) (act : Act) (given : Answer) : Type 0 where
  pub answer : (s : State) → StandsAs p s → IsReached s → given ≡ state_answer s act (value_of given)
  pub state : (s : State) → StandsAs p s → IsReached s → StandsAs q (state_after s act given)
  pub whole : IsWhole q
  pub words : q.words ≡ p.words
  pub now : q.settings.now ≡ p.settings.now + ticks_of act
  pub refused : is_refused given ≡ true → q ≡ p

-- a block can be registered: it is whole words, meets no other, and there is a place for it
pub record HasPlace (o : Objects) (span : Span) : Type 0 where
  pub start : span.start.0 % 8 ≡ 0
  pub size : span.size % 8 ≡ 0
  pub sized : 0 < span.size
  pub end : span.start.0 + span.size < 2 ^ 64
  pub spare : 0 < o.tracker.spare
  pub ids : o.tracker.registered + 1 < 2 ^ 64
  pub apart : live_where (meets span) o.tracker ≡ None

-- a store of a value
pub record Stores (t u : Told) (a value : ℕ) : Type 0 where
  pub memory : u.memory ≡ stored t.memory a value
  pub given : GivesMemory u
  pub steps : u.steps ≡ with_step t.steps (StoreStep a value)
  pub size : u.size ≡ t.size
  pub place : u.place ≡ t.place

-- a load of a value
pub record Loads (t u : Told) (a value : ℕ) : Type 0 where
  pub word : in_memory t.size a ≡ true
  pub given : IsGiven t.given a value
  pub memory : IsGiven t.memory a value
  pub range : value < 2 ^ 64
  pub after : u ≡ loaded_in t a value

-- what an answered act does to the words: the one load, the one store, or nothing
abbrev pub Touches : Act → Answer → Told → Told → Type 0
Touches act (Loaded a value) t u = Loads t u a value
Touches (Store a value) Done t u = Stores t u a value
Touches act answer t u = u ≡ t
