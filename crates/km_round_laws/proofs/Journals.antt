-- A journal as the newest events of a history.
use Rattle.std.proofs.Common.{◌≡◌, ℕ, List, [], ◌∷◌, ◌++◌, refl, sym, ◌∙◌, ap, subst, inl, inr, append_assoc}
use Rattle.km_base.specs.declared.acts.Answer.{Answer}
use Rattle.km_base.specs.declared.acts.Answer.TheVariants.{Loaded}
use Rattle.km_model.specs.History.{Event, History}
use Rattle.km_model.specs.Members.{In}
use Rattle.km_model.specs.Follows.{Follows}
use Rattle.km_words.specs.Told.{WordStep, LoadStep}
use Rattle.km_rounds.specs.declared.entry.Entry.{Entry}
use Rattle.km_rounds.specs.Journals.{Journal, event_of, with_journal, with_loaded, loads_in}

-- the events of a journal, the newest first
abbrev pub news : Journal → History
news [] = []
news (e ∷ journal) = news journal ++ event_of e ∷ []

pub appended : (h : History) (journal : Journal) → with_journal h journal ≡ news journal ++ h
appended h [] = refl
appended h (e ∷ journal) = appended (event_of e ∷ h) journal ∙ sym (append_assoc (news journal) (event_of e ∷ []) h)

pub joined : (h : History) (first rest : Journal) → with_journal h (first ++ rest) ≡ with_journal (with_journal h first) rest
joined h [] rest = refl
joined h (e ∷ first) rest = joined (event_of e ∷ h) first rest

-- what a history follows, each earlier one follows
pub followed : (words : ℕ) (h : History) (journal : Journal) → Follows words (with_journal h journal) → Follows words h
followed words h [] f = f
followed words h (e ∷ journal) f = (followed words (event_of e ∷ h) journal f).2

-- what holds of each event of a history
abbrev pub EachEvent : (Event → Type 0) → History → Type 0
EachEvent P [] = Unit {0}
EachEvent P (e ∷ h) = P e × EachEvent P h

each_both : (P : Event → Type 0) (g h : History) → EachEvent P g → EachEvent P h → EachEvent P (g ++ h)
each_both P [] h f k = k
each_both P (e ∷ g) h f k = (f.0, each_both P g h f.1 k)

-- it holds of the events of a journal, if it does of those of its entries
pub each_news : (P : Event → Type 0) (journal : Journal) → ((e : Entry) → In e journal → P (event_of e)) → EachEvent P (news journal)
each_news P [] f = tt
each_news P (e ∷ journal) f = each_both P (news journal) (event_of e ∷ []) (each_news P journal (λ x i. f x (inr i))) (f e (inl refl), tt)

-- the load of an event, if it made one, is one of the steps
abbrev pub LoadIn : List WordStep → Event → Type 0
LoadIn steps e = (a v : ℕ) → e.answer ≡ Loaded a v → In (LoadStep a v) steps

in_loaded : (answer : Answer) (steps : List WordStep) (a v : ℕ) → answer ≡ Loaded a v → In (LoadStep a v) (with_loaded answer steps)
in_loaded answer steps a v e = subst (λ x. In (LoadStep a v) (with_loaded x steps)) (sym e) (inl refl)

after_loaded : (answer : Answer) (steps : List WordStep) (s : WordStep) → In s steps → In s (with_loaded answer steps)
after_loaded (Loaded a v) steps s i = inr i
after_loaded _ steps s i = i

-- the load of an entry is one of the journal's
pub entry_load : (journal : Journal) (e : Entry) → In e journal → LoadIn (loads_in journal) (event_of e)
entry_load [] e i = absurd i
entry_load (x ∷ journal) e (inl same) = λ a v is. in_loaded x.answer (loads_in journal) a v (ap (λ (y : Entry). y.answer) (sym same) ∙ is)
entry_load (x ∷ journal) e (inr i) = λ a v is. after_loaded x.answer (loads_in journal) (LoadStep a v) (entry_load journal e i a v is)

-- the first entries are entries
pub in_first : (first rest : Journal) (e : Entry) → In e first → In e (first ++ rest)
in_first [] rest e i = absurd i
in_first (x ∷ first) rest e (inl same) = inl same
in_first (x ∷ first) rest e (inr i) = inr (in_first first rest e i)
