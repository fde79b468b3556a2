-- What a worker knows of the journal, and what its calls make of it and of the words.
use Rattle.std.specs.Prelude.{◌≡◌, ℕ, suc, ◌+◌, ◌-◌, ◌<◌, ◌≤◌, ◌^◌, ◌⊎◌, ◌||◌, Bool, true, false, List, [], ◌∷◌, ◌++◌, length, Option, Some, None, option_map, MatchOption, if◌then◌else◌}
use Rattle.km_base.specs.declared.acts.Act.{Act}
use Rattle.km_base.specs.declared.acts.Act.TheVariants as act
use Rattle.km_base.specs.declared.acts.Answer.{Answer}
use Rattle.km_base.specs.declared.acts.Reg.{Reg}
use Rattle.km_base.specs.declared.acts.Answer.TheVariants.{At}
use Rattle.km_model.specs.Memory.{in_memory}
use Rattle.km_model.specs.Past.{is_loaded}
use Rattle.km_laws.specs.Laws.{BlockLies, may_load}
use Rattle.km_words.specs.Told.{Told, WordStep, LoadStep}
use Rattle.km_live_model.specs.declared.jobs.JobLine.{JobLine}
use Rattle.km_live_model.specs.declared.jobs.JobLine.TheVariants.{Kzalloc}
use Rattle.km_workers.specs.declared.scanner.Turn.{Turn}
use Rattle.km_workers.specs.declared.scanner.Turn.TheVariants as turn
use Rattle.km_rounds.specs.Journals.{Journal, loads_in, room_for, ticks_in, with_loaded}
use Rattle.km_live_model.specs.Courses.{Mutator, Stage, AtTick, AtStep, Makes, Course, act_in, ends_at, entry_of, is_next_act, is_scanner_course, leaves_out, stage_after, made_at, registers_after, step_at, steps_in, with_value}

-- what a worker knows: its number, which book it is at, as numbers, how many entries the journal may have beside a halt,
-- the number of words of the core and the moment at the begin of the round; its own entries; and the greatest length of
-- the journal that it saw
pub record Acting : Type 0 where
  pub by : ℕ
  pub book : List ℕ
  pub limit : ℕ
  pub words : ℕ
  pub moment : ℕ
  pub own : Journal
  pub most : ℕ

-- whether an act stores a word. A worker stores by its hand alone
abbrev pub is_store : Act → Bool
is_store (act.Store _ _) = true
is_store _ = false

-- an act may be made: the words are those of the core, only the scanner lets time pass, for which there is room, and no
-- worker stores by an act
pub record May (a : Acting) (size : ℕ) (what : Act) : Type 0 where
  pub words : a.words ≡ size
  pub ticks : (n : ℕ) → what ≡ act.Tick n → (a.by ≡ 1) × (a.moment + ticks_in a.own + n ≤ 2 ^ 62)
  pub stores : is_store what ≡ false

-- an answer to an act: an allocation is given a block, and what can't load isn't answered by a load
pub record IsFit (words : ℕ) (what : Act) (answer : Answer) : Type 0 where
  pub block : (size a : ℕ) → what ≡ act.Kmalloc size → answer ≡ At a → BlockLies words size a
  pub plain : may_load what ≡ false → is_loaded answer ≡ false

-- an act was answered, and is the worker's newest entry; or the journal had no room for it
pub record Acted (a b : Acting) (what : Act) (result : Option Answer) : Type 0 where
  pub same : b ≡ record a { own = b.own; most = b.most }
  pub more : a.most ≤ b.most
  pub seen : length b.own ≤ b.most
  pub within : b.most ≤ a.limit + 1
  pub made : MatchOption result ((b.own ≡ a.own) × (room_for a.limit what ≤ b.most))
      (λ answer. (b.own ≡ a.own ++ record { by = a.by; act = what; answer = answer } ∷ []) × (a.most < room_for a.limit what) × IsFit a.words what answer)

-- the load of an act, if it was answered by one
abbrev pub loads_of : Option Answer → List WordStep
loads_of None = []
loads_of (Some answer) = with_loaded answer []

-- told steps with more
abbrev pub with_steps : Option (List WordStep) → List WordStep → Option (List WordStep)
with_steps told more = option_map (λ (steps : List WordStep). steps ++ more) told

-- words after some steps of their own hand: these are told, and how many words there are and whose hand it is stays
pub record Stepped (t u : Told) (steps : List WordStep) : Type 0 where
  pub told : u.steps ≡ with_steps t.steps steps
  pub size : u.size ≡ t.size
  pub place : u.place ≡ t.place

-- the block of an allocation can be zeroed
abbrev pub IsZeroable : ℕ → JobLine → Option Answer → Type 0
IsZeroable words (Kzalloc size _) answer = (a : ℕ) → made_at answer ≡ Some a → BlockLies words size a
IsZeroable words _ answer = Unit {0}

-- a load into a register, if there is a word at the address
pub record LoadsInto (t u : Told) (before after : List ℕ) (reg : Reg) (a : ℕ) : Type 0 where
  pub value : ℕ
  pub stepped : Stepped t u (step_at t.size a (LoadStep a value))
  pub registers : after ≡ (if in_memory t.size a then with_value before reg value else before)

-- after the answer to its act a line has made its steps and set its registers
pub record Followed (t u : Told) (before after : List ℕ) (line : JobLine) (answer : Option Answer) : Type 0 where
  pub value : ℕ
  pub stepped : Stepped t u (steps_in t.size before line value answer)
  pub registers : after ≡ registers_after t.size before line value answer

-- a mutator with these registers, and whether it has left an act out
abbrev pub standing : List ℕ → Bool → Mutator
standing registers full = record { registers = registers; full = full }

-- the act of a line, if it has one, was answered, or left out
pub record Asked (a b : Acting) (t u : Told) (registers : List ℕ) (before after : Bool) (line : JobLine) (answer : Option Answer) : Type 0 where
  pub stepped : Stepped t u []
  pub same : b ≡ record a { own = b.own; most = b.most }
  pub more : a.most ≤ b.most
  pub own : b.own ≡ a.own ++ entry_of a.by (act_in registers line) answer
  pub last : before ≡ true → entry_of a.by (act_in registers line) answer ≡ []
  pub full : after ≡ (before || leaves_out (act_in registers line) answer)
  pub knows : after ≡ true → a.limit ≤ b.most
  pub zeroable : IsZeroable t.size line answer

-- what a mutator made of one line
pub record LineMade (a b : Acting) (t u : Told) (before after : Mutator) (line : JobLine) : Type 0 where
  pub steps : List WordStep
  pub entries : Journal
  pub stepped : Stepped t u steps
  pub same : b ≡ record a { own = b.own; most = b.most }
  pub own : b.own ≡ a.own ++ entries
  pub more : a.most ≤ b.most
  pub makes : Makes t.size a.by before line steps entries after

-- what a mutator made on its words and in the journal is the course of its lines
pub record IsCourse (a b : Acting) (t u : Told) (before after : Mutator) (lines : List JobLine) : Type 0 where
  pub steps : List WordStep
  pub entries : Journal
  pub stepped : Stepped t u steps
  pub same : b ≡ record a { own = b.own; most = b.most }
  pub own : b.own ≡ a.own ++ entries
  pub more : a.most ≤ b.most
  pub course : Course t.size a.by before lines steps entries after

-- where a mutator has left an act out, the journal is full
abbrev pub IsFull : Acting → Mutator → Type 0
IsFull a m = m.full ≡ true → a.limit ≤ a.most

-- acts of the scanner lead from one stage of its course to another
abbrev pub Leads : ℕ → Stage → Journal → Stage → Type 0
Leads gap stage [] after = stage ≡ after
Leads gap stage (e ∷ entries) after = (is_next_act gap stage e.act ≡ true) × Leads gap (stage_after stage e.act e.answer) entries after

-- what the scanner made on its words and in the journal
pub record Acts (a b : Acting) (t u : Told) : Type 0 where
  pub entries : Journal
  pub stepped : Stepped t u (loads_in entries)
  pub same : b ≡ record a { own = b.own; most = b.most }
  pub own : b.own ≡ a.own ++ entries
  pub more : a.most ≤ b.most
  pub seen : length b.own ≤ b.most
  pub within : b.most ≤ a.limit + 1

-- a worker has seen a journal as long as its own entries, and none is longer than its entries and a halt
abbrev pub IsSeen : Acting → Type 0
IsSeen a = (length a.own ≤ a.most) × (a.most ≤ a.limit + 1)

-- one act was answered, or the journal had no room for it
abbrev pub MakesOne : (a b : Acting) → Journal → Act → Bool → Type 0
MakesOne a b entries what true = (answer : Answer) × (entries ≡ record { by = a.by; act = what; answer = answer } ∷ [])
MakesOne a b entries what false = (entries ≡ []) × (a.limit ≤ b.most)

-- the scanner couldn't even make its halt: a scan of it is running, and someone else's halt has the place
abbrev pub IsOusted : (a b : Acting) → ℕ → Stage → Journal → Type 0
IsOusted a b gap stage entries = (n : ℕ) × Leads gap stage entries (AtStep n) × (b.most ≡ a.limit + 1)

-- the scanner was cut: after its halt, or where no scan runs, or where someone else's halt has its place
abbrev pub IsCut : (a b : Acting) → ℕ → Stage → Journal → Type 0
IsCut a b gap stage entries = (a.limit ≤ b.most) × (((after : Stage) × Leads gap stage entries after × (ends_at after false ≡ true)) ⊎ IsOusted a b gap stage entries)

-- a turn of the scanner: a step that goes on with the scan, one that ends it, or the halt
abbrev pub IsTurn : (a b : Acting) → Journal → Turn → Type 0
IsTurn a b entries turn.Goes = ((gap n : ℕ) → Leads gap (AtStep n) entries (AtStep n)) × (length entries ≡ 1) × (ticks_in entries ≡ 0)
IsTurn a b entries turn.Ended = ((gap n : ℕ) → Leads gap (AtStep n) entries (AtTick (n - 1))) × (ticks_in entries ≡ 0)
IsTurn a b entries turn.Cut = (gap n : ℕ) → IsCut a b gap (AtStep n) entries

-- the steps of a scan, to its end or to its halt
abbrev pub AreSteps : (a b : Acting) → Journal → Bool → Type 0
AreSteps a b entries true = ((gap n : ℕ) → Leads gap (AtStep n) entries (AtTick (n - 1))) × (ticks_in entries ≡ 0)
AreSteps a b entries false = (gap n : ℕ) → IsCut a b gap (AtStep n) entries

-- one scan, or what was made of it
abbrev pub IsOneScan : (a b : Acting) → ℕ → Journal → Bool → Type 0
IsOneScan a b gap entries true = ((n : ℕ) → Leads gap (AtTick (suc n)) entries (AtTick n)) × (ticks_in entries ≡ gap)
IsOneScan a b gap entries false = (n : ℕ) → IsCut a b gap (AtTick (suc n)) entries

-- the scanner's course, whole, or cut
abbrev pub IsScan : (a b : Acting) → ℕ → ℕ → Journal → Bool → Type 0
IsScan a b scans gap entries true = is_scanner_course gap (AtTick scans) entries true ≡ true
IsScan a b scans gap entries false = (a.limit ≤ b.most) × ((is_scanner_course gap (AtTick scans) entries false ≡ true) ⊎ IsOusted a b gap (AtTick scans) entries)
