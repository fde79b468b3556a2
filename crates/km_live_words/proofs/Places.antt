-- What the place of a hand tells.
use Rattle.std.proofs.Common.{◌≡◌}
use Rattle.atomic_table.specs.Seated.{TableId}
use Rattle.km_live_words.specs.Hands.{HandOf, name_of, place_of}

named : (t u : TableId) → name_of t ≡ name_of u → t ≡ u
named t u e =
    let words : t.words ≡ u.words = cc in
    let slots : t.slots ≡ u.slots = cc in
    let views_name : t.views_name ≡ u.views_name = cc in
    let atom : t.atom ≡ u.atom = cc in
    let block : t.block ≡ u.block = cc in
    let offset : t.offset ≡ u.offset = cc in
    let slot_names : t.slot_names ≡ u.slot_names = cc in
    λ i. record { words = words i; slots = slots i; views_name = views_name i; atom = atom i; block = block i; offset = offset i; slot_names = slot_names i }

-- hands at one place are of one table and have one number
pub places_tell : (a b : HandOf) → place_of a ≡ place_of b → (a.table ≡ b.table) × (a.hand.number ≡ b.hand.number)
places_tell a b e =
    let number : a.hand.number ≡ b.hand.number = cc in
    let name : name_of a.table ≡ name_of b.table = cc in
    (named a.table b.table name, number)
