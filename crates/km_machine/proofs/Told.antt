-- What one act is answered and leaves over told words.
use Rattle.std.proofs.Common.{◌≡◌, ℕ, not, Bool, true, false, List, [], ◌∷◌, length, Option, Some, None, refl, sym, ap, ◌∙◌, subst}
use Rattle.km_base.specs.declared.acts.Act.{Act}
use Rattle.km_base.specs.declared.acts.Act.TheVariants.{Load, Store, Step}
use Rattle.km_base.specs.declared.acts.Answer.{Answer}
use Rattle.km_base.specs.declared.acts.Answer.TheVariants.{Done, Loaded, Ended, Refused}
use Rattle.km_base.specs.declared.acts.Refusal.TheVariants.{NoTask, BadAddress, NoScanRunning}
use Rattle.km_model.specs.Headline.{IsMemorySize}
use Rattle.km_model.specs.History.{History, value_of}
use Rattle.km_model.specs.Memory.{in_memory, memory_after_act, word_at}
use Rattle.km_model.specs.Past.{Past, Place, world, running_scan, scans}
use Rattle.km_model.specs.Scan.{next}
use Rattle.km_model.specs.Verdict.{new_blocks}
use Rattle.km_model.specs.Answers.{answer, unless, has_task, loads_from}
use Rattle.km_model.specs.Follows.{Run, past_of, told_answer, told_value, happens}
use Rattle.km_model.proofs.MemoryLaws.{length-memory_after_act}
use Rattle.km_state.specs.State.{State}
use Rattle.km_words.specs.Told.{Told, of_memory}
use Rattle.km_core.specs.Cores.{Stands}
use Rattle.km_core.specs.Parts.{Touches}
use Rattle.km_machine.specs.Machines.{Simulation, For}

load_value : (c d : Bool) (a v w : ℕ) → (unless c NoTask (unless d BadAddress (Loaded a v)) ≡ Loaded a v → v ≡ w)
    → unless c NoTask (unless d BadAddress (Loaded a v)) ≡ unless c NoTask (unless d BadAddress (Loaded a w))
load_value true d a v w f = refl
load_value false true a v w f = refl
load_value false false a v w f = ap (Loaded a) (f refl)

abbrev stepped : Past → Option ℕ → Option Place → ℕ → Answer
stepped p r o v =
    elim r as (λ _. Answer) [ None ↦ Refused NoScanRunning | Some _ ↦ elim o as (λ _. Answer) [ None ↦ Ended (scans p) (length (new_blocks p)) | Some x ↦ Loaded x.word v ] ]

abbrev word_of : Option Place → Option ℕ
word_of o = elim o as (λ _. Option ℕ) [ None ↦ None | Some x ↦ Some x.word ]

step_value : (p : Past) (r : Option ℕ) (o : Option Place) (v w : ℕ) → ((a : ℕ) → stepped p r o v ≡ Loaded a v → word_of o ≡ Some a → v ≡ w) → stepped p r o v ≡ stepped p r o w
step_value p None o v w f = refl
step_value p (Some k) None v w f = refl
step_value p (Some k) (Some x) v w f = ap (Loaded x.word) (f x.word refl refl)

-- an answer depends on a value only where it loads it, from where its act loads
answer_value : (words : ℕ) (p : Past) (act : Act) (v w : ℕ) → ((a : ℕ) → answer words p act v ≡ Loaded a v → loads_from p act ≡ Some a → v ≡ w) → answer words p act v ≡ answer words p act w
unfolding answer
answer_value words p (Load task reg a) v w f = load_value (not (has_task (world p) task)) (not (in_memory words a)) a v w (λ e. f a e refl)
answer_value words p Step v w f = step_value p (running_scan p) (next p) v w f
answer_value words p act v w f = refl

-- a load brings what the word holds
pub answer_told : (run : Run) (act : Act) (given : Answer) (t u : List ℕ) → t ≡ run.memory
    → given ≡ answer run.words (past_of run.history) act (value_of given) → Touches act given (of_memory t) (of_memory u) → given ≡ told_answer run act
answer_told run act given t u memory answered touches =
    answered ∙ answer_value run.words (past_of run.history) act (value_of given) (told_value run act)
    (λ a loaded from.
    let is : given ≡ Loaded a (value_of given) = answered ∙ loaded in
    let loads = subst (λ x. Touches act x (of_memory t) (of_memory u)) is touches in
    loads.memory ∙ ap (λ m. word_at m a) memory
    ∙ sym (ap (λ (o : Option ℕ). elim o as (λ _. ℕ) [ None ↦ 0 | Some b ↦ word_at run.memory b ]) from))

-- the words of a told memory
words_of : Told → List ℕ
words_of t = elim t.memory as (λ _. List ℕ) [ None ↦ [] | Some words ↦ words ]

-- an accepted store changes its word, and nothing else does
memory_told : (act : Act) (given : Answer) (t u : List ℕ) → Touches act given (of_memory t) (of_memory u) → u ≡ memory_after_act t act given
unfolding words_of
memory_told (Store a v) Done t u e = (cc)
memory_told (Store a v) (Loaded b w) t u e = ap words_of e.after
memory_told (Store a v) given t u e = ap words_of e
memory_told act (Loaded b w) t u e = ap words_of e.after
memory_told act given t u e = ap words_of e

-- an answer of the core, over told words
pub core_told : (machine : Simulation) (after : List ℕ) (run : Run) (act : Act) (given : Answer) → For machine run
    → given ≡ answer machine.core.parts.words (past_of run.history) act (value_of given) → Touches act given (of_memory machine.memory) (of_memory after) → given ≡ told_answer run act
core_told machine after run act given r answered touches =
    answer_told run act given machine.memory after r.memory (subst (λ n. given ≡ answer n (past_of run.history) act (value_of given)) (sym r.words) answered) touches

-- one act, over told words
pub act_happens : (machine next : Simulation) (run : Run) (act : Act) (given : Answer) (s : State) → For machine run
    → given ≡ answer machine.core.parts.words (past_of run.history) act (value_of given) → Stands next.core (record { act = act; answer = given } ∷ run.history) s
    → Touches act given (of_memory machine.memory) (of_memory next.memory) → next.core.parts.words ≡ machine.core.parts.words → For next (happens run act)
act_happens machine next run act given s r answered stands touches words =
    let stored = memory_told act given machine.memory next.memory touches in
    subst (λ x. For next (record run { history = record { act = act; answer = x } ∷ run.history; memory = memory_after_act run.memory act x }))
    (core_told machine next.memory run act given r answered touches) (record {
      size = subst IsMemorySize (sym words) r.size;
      words = r.words ∙ sym words;
      whole = ap length stored ∙ length-memory_after_act machine.memory act given ∙ r.whole ∙ sym words;
      state = s;
      stands = stands;
      memory = stored ∙ ap (λ m. memory_after_act m act given) r.memory;
    })

-- whatever a history stored, a core that stands for it stands with any words, as many as it has, for a run
pub any_words : (machine : Simulation) (h : History) (s : State) → Stands machine.core h s → IsMemorySize machine.core.parts.words → length machine.memory ≡ machine.core.parts.words
    → For machine (record { words = machine.core.parts.words; history = h; memory = machine.memory })
any_words machine h s stands size whole = record { size = size; words = refl; whole = whole; state = s; stands = stands; memory = refl }
