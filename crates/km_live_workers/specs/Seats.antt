-- The first hand and the first token of a round, and those that are split off.
use Rattle.std.specs.Prelude.{◌≡◌, ℕ, false, length}
use Rattle.atomic_table.specs.Seated.{TableId}
use Rattle.km_live_map.specs.Views.{TokenOf, View, split_off}
use Rattle.km_live_words.specs.Hands.{HandOf, HandOn, Opened}
use Rattle.km_live_workers.specs.AtBooks.{IsBegun, words_of}
use Rattle.km_numbered.specs.Members.{fresh}

-- a hand and a token are the first of these words and of this baton; the words are as many as the core's, and the book
-- has begun
pub record IsChief (live : Opened) (baton : TableId) (hand : HandOf) (token : TokenOf) : Type 0 where
  pub on_words : (hand.table ≡ live.table) × (hand.hand.number ≡ 0)
  pub at_book : (token.baton ≡ baton) × (token.view.member.number ≡ 0) × (token.view.holding ≡ false)
  pub size : words_of token.view.about ≡ length live.words
  pub begun : IsBegun token.view

-- a hand on these words that has made no step
abbrev pub newly_on : Opened → ℕ → HandOn
newly_on live number = record { words = live; hand = record { table = live.table; hand = fresh number } }

-- a token at this baton that was split off and has made no entry
abbrev pub newly_at : TableId → View → TokenOf
newly_at baton first = record { baton = baton; view = split_off first }

-- a hand is of these words, and a token of this baton
pub record IsSeated (live : Opened) (baton : TableId) (s : HandOn) (b : TokenOf) : Type 0 where
  pub hand : s.hand.table ≡ live.table
  pub token : b.baton ≡ baton
