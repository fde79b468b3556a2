-- How the first hand and the first token split others off, and take them in.
use Rattle.std.proofs.Common.{◌≡◌, ℕ, ◌+◌, ◌≤◌, false, List, [], ◌∷◌, sym, ◌∙◌, ap, subst, arith}
use Rattle.atomic_table.specs.Seated.{TableId}
use Rattle.km_numbered.specs.Members.{fresh, with_kept, with_next}
use Rattle.km_words.specs.Told.{WordStep}
use Rattle.km_rounds.specs.Journals.{Journal}
use Rattle.km_live_words.specs.Hands.{HandOn, Opened}
use Rattle.km_live_map.specs.Views.{TokenOf, View, after_join, after_split}
use Rattle.km_live_workers.specs.declared.seats.Chief.{Chief}
use Rattle.km_live_workers.specs.AtBooks.{IsBegunAs, words_of}
use Rattle.km_live_workers.specs.Seats.{IsChief, newly_at}
use Rattle.km_live.specs.Crews.{About, AreWaiting, IsFor, new_token, waiting}

module _ (live : Opened) (baton : TableId) (about : About) (next : ℕ) (steps : List (ℕ × List WordStep)) (entries : List (ℕ × Journal)) where
  -- they are the first
  pub is_chief : (chief : Chief) → IsFor live about → AreWaiting live baton about next steps entries chief → IsChief live baton chief.hand chief.token
  is_chief chief for w = record {
    on_words = (ap (λ h. h.table) w.hand, ap (λ h. h.hand.number) w.hand);
    at_book = (w.at_baton, ap (λ m. m.number) w.member, w.idle);
    size = ap words_of w.about ∙ for.0;
    begun = subst IsBegunAs (sym w.about) for.1;
  }

  -- the next hand and the next token have one number
  pub next_number : (chief : Chief) → AreWaiting live baton about next steps entries chief → (chief.hand.hand.next ≡ next) × (chief.token.view.member.next ≡ next)
  next_number chief w = (ap (λ h. h.hand.next) w.hand, ap (λ m. m.next) w.member)

  -- after they split off others of the next number
  pub after_seat : (c d : Chief) → AreWaiting live baton about next steps entries c → IsChief live baton d.hand d.token → d.hand.hand ≡ with_next c.hand.hand → d.token.view ≡ after_split c.token.view
      → AreWaiting live baton about (next + 1) steps entries d
  after_seat c d w is hand token =
      let same = hand ∙ ap (λ h. with_next h.hand) w.hand in
      record {
        hand = λ i. record { table = is.on_words.0 i; hand = same i };
        at_baton = is.at_book.0;
        member = ap (λ (v : View). v.member) token ∙ ap with_next w.member;
        idle = is.at_book.2;
        about = ap (λ (v : View). v.about) token ∙ w.about;
      }

  -- the token that they split off has made no entry
  pub token_of_seat : (chief : Chief) → AreWaiting live baton about next steps entries chief → newly_at baton chief.token.view ≡ new_token baton about next
  token_of_seat chief w =
      let number = ap (λ m. m.next) w.member in
      λ i. record { baton = baton; view = record { member = fresh (number i); most = 0; holding = false; taken = []; about = w.about i } }

  -- after they took in others of a number
  pub after_unseat : (c d : Chief) (s : HandOn) (b : TokenOf) (k : ℕ) → AreWaiting live baton about next steps entries c → IsChief live baton d.hand d.token
      → d.hand.hand ≡ with_kept c.hand.hand s.hand.hand → d.token.view ≡ after_join c.token.view b.view → s.hand.hand.number ≡ k → b.view.member.number ≡ k
      → AreWaiting live baton about next ((k, s.hand.hand.own) ∷ steps) ((k, b.view.member.own) ∷ entries) d
  after_unseat c d s b k w is hand token mine its =
      let same = hand ∙ (ap (λ h. with_kept h.hand s.hand.hand) w.hand ∙ ap (λ n. waiting next ((n, s.hand.hand.own) ∷ steps)) mine) in
      record {
        hand = λ i. record { table = is.on_words.0 i; hand = same i };
        at_baton = is.at_book.0;
        member = ap (λ (v : View). v.member) token ∙ (ap (λ m. with_kept m b.view.member) w.member ∙ ap (λ n. waiting next ((n, b.view.member.own) ∷ entries)) its);
        idle = is.at_book.2;
        about = ap (λ (v : View). v.about) token ∙ w.about;
      }

-- they have seen each journal that those saw whom they took in
pub seen_more : (v w u : View) → u ≡ after_join v w → (v.most ≤ u.most) × (w.most ≤ u.most)
seen_more v w u e = let most = ap (λ (x : View). x.most) e in (omega (arith, most), omega (arith, most))
