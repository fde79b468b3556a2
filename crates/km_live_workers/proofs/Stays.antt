-- A worker keeps its hand and its token.
use Rattle.std.proofs.Common.{◌≡◌, List, ◌∷◌, ap}
use Rattle.atomic_table.specs.Seated.{TableId}
use Rattle.km_numbered.specs.Members.{fresh}
use Rattle.km_words.specs.Told.{WordStep}
use Rattle.km_live_words.specs.Hands.{HandOn, name_of, told_of}
use Rattle.km_live_words.proofs.Places.{places_tell}
use Rattle.km_live_map.specs.Views.{TokenOf}
use Rattle.km_workers.specs.Workers.{Acting, Stepped}
use Rattle.km_live_workers.specs.AtBooks.{acting_of}
use Rattle.km_live_workers.specs.Runs.{IsSameSeat}

-- the numbers of a table tell it
tables_tell : (t u : TableId) → name_of t ≡ name_of u → t ≡ u
tables_tell t u e = (places_tell (record { table = t; hand = fresh 0 }) (record { table = u; hand = fresh 0 }) (ap (λ ns. 0 ∷ ns) e)).0

pub stays : (s t : HandOn) (b c : TokenOf) (steps : List WordStep) → Stepped (told_of s) (told_of t) steps
    → acting_of c ≡ record (acting_of b) { own = (acting_of c).own; most = (acting_of c).most } → IsSameSeat s t b c
stays s t b c steps f same =
    let hand = places_tell t.hand s.hand f.place in
    record {
      words = hand.0;
      hand = hand.1;
      baton = tables_tell c.baton b.baton (ap (λ (a : Acting). a.book) same);
      token = ap (λ (a : Acting). a.by) same;
    }
