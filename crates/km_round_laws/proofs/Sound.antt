-- No listed block was held throughout the last completed scan of a journal.
use Rattle.std.proofs.Common.{◌≡◌, ℕ, List, [], ◌∷◌, ◌++◌, Option, refl, sym, ◌∙◌, ap, subst, arith, inl, inr, append-nil}
use Rattle.km_model.specs.History.{History}
use Rattle.km_model.specs.Memory.{base}
use Rattle.km_model.specs.Members.{In}
use Rattle.km_model.specs.Past.{ScanLoad, loads, end_of}
use Rattle.km_model.specs.Follows.{Follows, past_of}
use Rattle.km_words.specs.Told.{LoadStep}
use Rattle.km_laws.specs.Soundness.{IsValueAt, AreFound}
use Rattle.km_laws.proofs.Since.{follows_answered}
use Rattle.km_laws.proofs.Completed.{at_completion}
use Rattle.km_laws.proofs.NotHeld.{completed_at, listed_not_held_by_loads}
use Rattle.km_rounds.specs.Orders.{Order}
use Rattle.km_rounds.specs.Journals.{Journal, with_journal}
use Rattle.km_round_laws.specs.RoundLaws.{AreTied, steps_of, unstored, ListedAreNotHeldInJournals}
use Rattle.km_round_laws.proofs.Steps.{part_in, found_value}
use Rattle.km_round_laws.proofs.Journals.{LoadIn, news, appended, each_news, entry_load, in_first}
use Rattle.km_round_laws.proofs.Moments.{GoesOn, earlier, all_there}

found_all : (values : List (Option ℕ)) (ls : List ScanLoad) → ((l : ScanLoad) → In l ls → (u : ℕ) → IsValueAt base values l.place.word u → l.value ≡ u) → AreFound values ls
found_all values [] each = tt
found_all values (l ∷ ls) each = ((λ _ u at. each l (inl refl) u at), found_all values ls (λ k i. each k (inr i)))

-- the first entries of a journal go on from a history, by loads that are steps of the order
pub goes_on : (words : ℕ) (h : History) (memory : List ℕ) (first rest : Journal) (order : Order) → AreTied words h memory (first ++ rest) order → Follows words (with_journal h first)
    → GoesOn words h (LoadIn (steps_of order)) (with_journal h first)
goes_on words h memory first rest order tied follows = (
  follows,
  inl (
    news first,
    appended h first,
    each_news (LoadIn (steps_of order)) first (λ e i a v is.
        part_in 1 order (LoadStep a v) (subst (λ steps. In (LoadStep a v) steps) tied.scanned (entry_load (first ++ rest) e (in_first first rest e i) a v is))),
  ),
)

pub listed_not_held_in_journals : ListedAreNotHeldInJournals
listed_not_held_in_journals words h memory journal order k id tied later last listed held =
    let g : History = with_journal h journal in
    let was = completed_at words (GoesOn words h (LoadIn (steps_of order))) (earlier words h (LoadIn (steps_of order))) (λ x on. follows_answered words x on.0) g k
    (goes_on words h memory journal [] order (subst (λ x. AreTied words h memory x order) (sym (append-nil journal)) tied) tied.follows) last in
    let a = follows_answered words (was.event ∷ was.before) was.follows.0 in
    let number = was.number in
    let found : AreFound (unstored order memory) (loads (past_of was.before)) =
    found_all (unstored order memory) (loads (past_of was.before)) (λ l i u at.
    found_value memory order l.place.word l.value u tied.legal
    (all_there words h (steps_of order) was.before (earlier words h (LoadIn (steps_of order)) was.event was.before was.follows) (omega (arith, later, number)) l i) at) in
    listed_not_held_by_loads words g (unstored order memory) k id tied.follows last
    (subst (λ p. AreFound (unstored order memory) (loads p)) (sym (was.ended ∙ ap (λ n. end_of n (past_of (was.event ∷ was.before))) number))
    (at_completion words was.before (was.event).act (was.event).answer a.0.0 (λ p. AreFound (unstored order memory) (loads p)) a.0.1 was.done (λ j n run none. found)))
    listed held
