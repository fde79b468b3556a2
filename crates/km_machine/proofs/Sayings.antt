-- What was said of the events of a line, one after the other.
use Rattle.std.proofs.Common.{◌≡◌, ℕ, zero, suc, List, [], ◌∷◌, ◌++◌, Result, Ok, refl, ap, subst, arith}
use Rattle.km_base.specs.declared.acts.Act.{Act}
use Rattle.km_base.specs.declared.acts.Answer.{Answer}
use Rattle.km_edge.specs.declared.errors.Failed.{Failed}
use Rattle.km_edge.specs.Streams.{SinkState, WritesAll}
use Rattle.km_edge.proofs.Writing.{wrote_none}
use Rattle.km_model.specs.History.{History}
use Rattle.km_model.specs.Follows.{Run, happens, told_answer}
use Rattle.km_model.specs.Output.{answer_text, events_text}
use Rattle.km_machine.specs.Machines.{Simulation, For}
use Rattle.km_machine.specs.Lines.{HasSaid, SoFar}
use Rattle.km_machine.specs.Sayings.{Saying, said_of}

-- a line begins
pub said_none : (says : Saying) (run : Run) (k : SinkState) → HasSaid says run run k k (Ok tt)
said_none says run k = record { count = 0; grown = (omega arith); wrote = wrote_none k }

pub begun : (says : Saying) (machine : Simulation) (run : Run) (k : SinkState) → For machine run → SoFar says run run machine k k (Ok tt)
begun says machine run k f = record { stands = f; said = said_none says run k }

-- one event more
pub said_more : (says : Saying) (first run : Run) (k k' k'' : SinkState) (written result : Result (Unit {0}) Failed) (a : Act) (given : Answer)
    → (s : HasSaid says first run k k' written) → given ≡ told_answer run a
    → WritesAll k k'' (said_of says first.memory s.count run.history ++ says first.memory run.history a given) result → HasSaid says first (happens run a) k k'' result
said_more says first run k k' k'' written result a given s answered wrote = record {
  count = suc s.count;
  grown = (let e = s.grown in omega (arith, e));
  wrote = subst (λ x. WritesAll k k'' (said_of says first.memory s.count run.history ++ says first.memory run.history a x) result) answered wrote;
}

-- where each is said by its text, the text of the events was said
pub said_texts : (word memory : List ℕ) (n : ℕ) (h : History) → said_of (λ memory h act given. answer_text memory word h act given) memory n h ≡ events_text memory word n h
said_texts word memory zero h = refl
said_texts word memory (suc n) [] = refl
said_texts word memory (suc n) (e ∷ h) = ap (λ t. t ++ answer_text memory word h e.act e.answer) (said_texts word memory n h)
