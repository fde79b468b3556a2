-- What an event keeps of a sound run.
use Rattle.std.proofs.Common.{◌≡◌, ℕ, true, false, List, [], ◌∷◌, ◌++◌, length, Option, Some, None, refl, sym, ◌∙◌, ap, subst, arith}
use Rattle.km_base.specs.declared.acts.Act.{Act}
use Rattle.km_base.specs.declared.acts.Act.TheVariants.{Store, Kmalloc, Step}
use Rattle.km_base.specs.declared.acts.Answer.{Answer}
use Rattle.km_base.specs.declared.acts.Answer.TheVariants.{Done, At, Loaded, Ended, Refused}
use Rattle.km_base.specs.declared.acts.Refusal.{Refusal}
use Rattle.km_base.specs.declared.acts.Refusal.TheVariants.{NoScanRunning}
use Rattle.km_model.specs.History.{value_of}
use Rattle.km_model.specs.Memory.{index_of, in_memory, word_at, memory_after_act}
use Rattle.km_model.specs.Members.{Each}
use Rattle.km_model.specs.Past.{Past, Place, is_loaded, running_scan, scans}
use Rattle.km_model.specs.Scan.{next}
use Rattle.km_model.specs.Verdict.{new_blocks}
use Rattle.km_model.specs.Answers.{answer, loads_from}
use Rattle.km_model.specs.Follows.{Run, Follows, past_of, told_value, told_answer, happens, all_happen}
use Rattle.km_model.proofs.AnswerLaws.{answers_have}
use Rattle.km_model.proofs.MemoryLaws.{length-memory_after_act}
use Rattle.km_words.specs.Told.{LoadStep}
use Rattle.km_laws.specs.Laws.{BlockLies, may_load}
use Rattle.km_laws.proofs.Answered.{blocks_lie, only_loads_load}
use Rattle.km_laws.proofs.NextWord.{next_is_a_word}
use Rattle.km_state.proofs.CodeLaws.{answer_again}
use Rattle.km_rounds.specs.Orders.{OrderStep, Order, IsLegalStep, words_after}
use Rattle.km_rounds.specs.Journals.{Journal, with_journal}
use Rattle.km_live_model.specs.Lives.{with_round}
use Rattle.km_schedules.specs.Schedules.{IsWord, IsSoundRun}
use Rattle.km_schedules.proofs.Parts.{joined}
use Rattle.km_schedules.proofs.Words.{StoresWord, found_word, set_words, order_length, order_words, word_is_in, words_after_both}

-- the value that an answer brings is 0 or the one that was found
value_is_word : (words : ℕ) (p : Past) (act : Act) (v : ℕ) → IsWord v → IsWord (value_of (answer words p act v))
value_is_word words p act v small =
    answers_have words p act v (λ x. IsWord (value_of x)) (record {
      refused = λ r. omega arith;
      done = omega arith;
      at = λ a. omega arith;
      skipped = omega arith;
      dumped = λ i. omega arith;
      loaded = λ a. small;
      stopped = λ k e. omega arith;
    }) (λ step k running none. omega arith)

told_is_word : (r : Run) (act : Act) → Each IsWord r.memory → IsWord (told_value r act)
told_is_word r act small = go (loads_from (past_of r.history) act)
  where
    go : (o : Option ℕ) → IsWord (elim o as (λ _. ℕ) [ None ↦ 0 | Some a ↦ word_at r.memory a ])
    go None = omega arith
    go (Some a) = found_word r.memory (index_of a) small

-- a run with an act and its answer, before its words change
abbrev pub answered : Run → Act → Run
answered r act = record r { history = record { act = act; answer = told_answer r act } ∷ r.history }

pub event_follows : (r : Run) (act : Act) → IsSoundRun r → Follows r.words (answered r act).history
event_follows r act s = (
  sym (answer_again r.words (past_of r.history) act (told_value r act)),
  value_is_word r.words (past_of r.history) act (told_value r act) (told_is_word r act s.small),
  s.follows,
)

pub answered_keeps : (r : Run) (act : Act) → IsSoundRun r → IsSoundRun (answered r act)
answered_keeps r act s = record { size = s.size; whole = s.whole; small = s.small; follows = event_follows r act s }

-- an act stores 64 bits
abbrev pub ActStoresWord : Act → Type 0
ActStoresWord (Store a v) = IsWord v
ActStoresWord _ = Unit {0}

act_words : (memory : List ℕ) (act : Act) (given : Answer) → ActStoresWord act → Each IsWord memory → Each IsWord (memory_after_act memory act given)
act_words memory (Store a v) Done stores f = set_words memory (index_of a) v stores f
act_words memory _ _ stores f = f

-- an event keeps a run sound
pub happens_keeps : (r : Run) (act : Act) → ActStoresWord act → IsSoundRun r → IsSoundRun (happens r act)
happens_keeps r act stores s = record {
  size = s.size;
  whole = length-memory_after_act r.memory act (told_answer r act) ∙ s.whole;
  small = act_words r.memory act (told_answer r act) stores s.small;
  follows = event_follows r act s;
}

-- and so do several
pub all_happen_keep : (r : Run) (acts : List Act) → Each ActStoresWord acts → IsSoundRun r → IsSoundRun (all_happen r acts)
all_happen_keep r [] stores s = s
all_happen_keep r (act ∷ acts) stores s = all_happen_keep (happens r act) acts stores.1 (happens_keeps r act stores.0 s)

pub all_happen_words : (r : Run) (acts : List Act) → (all_happen r acts).words ≡ r.words
all_happen_words r [] = refl
all_happen_words r (act ∷ acts) = all_happen_words (happens r act) acts

-- a step of the scanner that loads finds what the word holds
pub step_loads : (r : Run) (a v : ℕ) → IsSoundRun r → told_answer r Step ≡ Loaded a v → IsLegalStep r.memory (LoadStep a v)
unfolding answer
step_loads r a v s e = go (running_scan (past_of r.history)) (next (past_of r.history)) refl e
  where
    refused_no : (x : Refusal) → Refused x ≡ Loaded a v → ⊥
    refused_no x f = cc

    ended_no : (k n : ℕ) → Ended k n ≡ Loaded a v → ⊥
    ended_no k n f = cc

    same_place : (b u : ℕ) → Loaded b u ≡ Loaded a v → b ≡ a
    same_place b u f = cc

    same_value : (b u : ℕ) → Loaded b u ≡ Loaded a v → u ≡ v
    same_value b u f = cc

    go : (o : Option ℕ) (p : Option Place) → next (past_of r.history) ≡ p
        → (elim o as (λ _. Answer) [
          | None ↦ Refused NoScanRunning
          | Some _ ↦ elim p as (λ _. Answer) [
            | None ↦ Ended (scans (past_of r.history)) (length (new_blocks (past_of r.history)))
            | Some place ↦
                Loaded place.word (elim (elim p as (λ _. Option ℕ) [ None ↦ None | Some x ↦ Some x.word ]) as (λ _. ℕ) [ None ↦ 0 | Some b ↦ word_at r.memory b ])
          ]
        ]) ≡ Loaded a v → IsLegalStep r.memory (LoadStep a v)
    go None p f g = absurd (refused_no NoScanRunning g)
    go (Some k) None f g = absurd (ended_no (scans (past_of r.history)) (length (new_blocks (past_of r.history))) g)
    go (Some k) (Some place) f g =
        let at = next_is_a_word r.words r.history place s.size s.follows f in
        let here : place.word ≡ a = same_place place.word (word_at r.memory place.word) g in (
          subst (λ n. in_memory n a ≡ true) (sym s.whole) (subst (λ b. in_memory r.words b ≡ true) here (word_is_in r.words at.0 place.word at.1 at.2)),
          subst (λ b. v ≡ word_at r.memory b) here (sym (same_value place.word (word_at r.memory place.word) g)),
        )

-- no other act of a round loads
pub unloaded : (r : Run) (act : Act) → may_load act ≡ false → is_loaded (told_answer r act) ≡ false
unloaded r act may = only_loads_load r.words (past_of r.history) act (told_value r act) may

-- a new block lies in the memory
pub block_lies : (r : Run) (size a : ℕ) → IsSoundRun r → told_answer r (Kmalloc size) ≡ At a → BlockLies r.words size a
block_lies r size a s e = blocks_lie r.words r.history size a (told_value r (Kmalloc size)) s.size s.follows e

-- a journal that follows and an order whose stores are of 64 bits keep a run sound
pub round_sound : (r : Run) (journal : Journal) (order : Order) → IsSoundRun r → Each (λ (x : OrderStep). StoresWord x.step) order
    → Follows r.words (with_journal r.history journal) → IsSoundRun (with_round r journal order)
round_sound r journal order s stores f = record {
  size = s.size;
  whole = order_length r.memory order ∙ s.whole;
  small = order_words r.memory order stores s.small;
  follows = f;
}

-- one part of a round after another
pub round_both : (r : Run) (first rest : Journal) (order later : Order)
    → with_round (with_round r first order) rest later ≡ with_round r (first ++ rest) (order ++ later)
round_both r first rest order later =
    ap (λ h. record r { history = h; memory = words_after (words_after r.memory order) later }) (sym (joined r.history first rest))
    ∙ ap (λ ws. record r { history = with_journal r.history (first ++ rest); memory = ws }) (sym (words_after_both r.memory order later))
