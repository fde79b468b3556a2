-- What a seat that was just given may do, and that it stays a seat.
use Rattle.std.proofs.Common.{◌≡◌, ℕ, ◌+◌, ◌*◌, ◌<◌, ◌≤◌, ◌^◌, false, sym, ap, subst, ◌∙◌, arith}
use Rattle.std.proofs.lemmas.Bool.{both_ways}
use Rattle.atomic_table.specs.Seated.{TableId}
use Rattle.km_live_words.specs.Hands.{HandOf, HandOn, Opened, told_of}
use Rattle.km_live_map.specs.Views.{TokenOf, View}
use Rattle.km_live_workers.specs.AtBooks.{acting_of, limit_of, moment_of}
use Rattle.km_live_workers.specs.Runs.{IsReady, IsSameSeat, MayScan, Working}
use Rattle.km_live_workers.specs.Seats.{IsChief, IsSeated, newly_at, newly_on}

module _ (live : Opened) (baton : TableId) where
  -- a mutator in a new seat may begin
  pub ready : (hand : HandOf) (t : TokenOf) (k : ℕ) (w : Working) → IsChief live baton hand t → w.words ≡ newly_on live k → w.book ≡ newly_at baton t.view → w.stand.full ≡ false → IsReady w
  ready hand t k w chief words book none = record {
    words = ap (λ b. (acting_of b).words) book ∙ (chief.size ∙ sym (ap (λ s. (told_of s).size) words));
    full = λ is. absurd (both_ways w.stand.full none is);
  }

  -- and so may the scanner, whose number is 1
  pub may_scan : (hand : HandOf) (t : TokenOf) (s : HandOn) (b : TokenOf) (scans gap : ℕ) → IsChief live baton hand t → s ≡ newly_on live 1 → b ≡ newly_at baton t.view → t.view.member.next ≡ 1
      → limit_of t.view.about < 2 ^ 32 → moment_of t.view.about + scans * gap ≤ 2 ^ 62 → MayScan s b scans gap
  may_scan hand t s b scans gap chief words book next few room = subst (λ x. MayScan s x scans gap) (sym book) (record {
    words = chief.size ∙ sym (ap (λ x. (told_of x).size) words);
    seen = (omega arith, omega arith);
    few = few;
    ticks = (next, omega (arith, room));
  })

  -- a new seat is one
  pub seated_new : (v : View) (k : ℕ) (s : HandOn) (b : TokenOf) → s ≡ newly_on live k → b ≡ newly_at baton v → IsSeated live baton s b
  seated_new v k s b words book = record { hand = ap (λ x. x.hand.table) words; token = ap (λ x. x.baton) book }

  -- and stays one
  pub seated_still : (s t : HandOn) (b c : TokenOf) → IsSeated live baton s b → IsSameSeat s t b c → IsSeated live baton t c
  seated_still s t b c is same = record { hand = same.words ∙ is.hand; token = same.baton ∙ is.token }
