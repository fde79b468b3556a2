-- What a token tells of a worker's journal, and what an act on the book makes.
use Rattle.std.specs.Prelude.{◌≡◌, ℕ, ◌+◌, ◌<◌, ◌^◌, false, [], ◌∷◌, ◌++◌, Option, Some, None, MatchOption}
use Rattle.atomic_table.specs.Seated.{TableId}
use Rattle.km_base.specs.declared.acts.Act.{Act}
use Rattle.km_base.specs.declared.acts.Answer.{Answer}
use Rattle.km_core.specs.Cores.{Seen}
use Rattle.km_model.specs.History.{History}
use Rattle.km_model.specs.Headline.{IsMemorySize}
use Rattle.km_rounds.specs.Journals.{entry}
use Rattle.km_live_words.specs.Hands.{HandOn, name_of, told_of}
use Rattle.km_live_map.specs.Books.{Book, IsBook, IsCoreFor, IsFullFor}
use Rattle.km_live_map.specs.Views.{TokenOf, View}
use Rattle.km_workers.specs.Workers.{Acting, IsFit, Stepped, loads_of}

-- what is known of the book at its begin: how many entries it has room for, its words and its moment
abbrev pub limit_of : Option (Seen × ℕ) → ℕ
limit_of None = 0
limit_of (Some a) = a.1

abbrev pub words_of : Option (Seen × ℕ) → ℕ
words_of None = 0
words_of (Some a) = a.0.parts.words

abbrev pub moment_of : Option (Seen × ℕ) → ℕ
moment_of None = 0
moment_of (Some a) = a.0.parts.settings.now

-- what a worker knows of the journal at a baton, by what its token knows
abbrev pub acting_at : TableId → View → Acting
acting_at baton v = record {
  by = v.member.number;
  book = name_of baton;
  limit = limit_of v.about;
  words = words_of v.about;
  moment = moment_of v.about;
  own = v.member.own;
  most = v.most;
}

-- what a worker knows of the journal by its token
abbrev pub acting_of : TokenOf → Acting
acting_of t = acting_at t.baton t.view

-- the opening state stands for a history, its memory has an allowed size, and few enough events lead to the end of the journal
pub record IsOpening (core : Seen) (entries : ℕ) : Type 0 where
  pub past : History
  pub stands : IsCoreFor core past
  pub memory : IsMemorySize core.parts.words
  pub few : core.events + entries + 1 < 2 ^ 62

abbrev pub IsBegunAs : Option (Seen × ℕ) → Type 0
IsBegunAs None = ⊥
IsBegunAs (Some a) = IsOpening a.0 a.1

-- what a token knows that its book began with is such a state. A split, a take and a give keep it
abbrev pub IsBegun : View → Type 0
IsBegun v = IsBegunAs v.about

-- a token of this baton and number may take the book
pub record IsIdle (t : TokenOf) (table : TableId) (n : ℕ) : Type 0 where
  pub baton : t.baton ≡ table
  pub holding : t.view.holding ≡ false
  pub number : t.view.member.number ≡ n
  pub begun : IsBegun t.view

-- what an act on the book by a token that took it made of the book and of the hand
pub record Answered (v : View) (b c : Book) (what : Act) (s t : HandOn) (result : Option Answer) : Type 0 where
  pub about : (c.opening ≡ b.opening) × (c.entries ≡ b.entries)
  pub kept : IsBook c
  pub made : MatchOption result ((c.journal ≡ b.journal) × IsFullFor b what)
      (λ answer. (c.journal ≡ b.journal ++ entry v.member.number what answer ∷ []) × ¬ IsFullFor b what × IsFit (words_of v.about) what answer)
  pub stepped : Stepped (told_of s) (told_of t) (loads_of result)
