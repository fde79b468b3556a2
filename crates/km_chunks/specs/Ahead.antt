-- The loads of a scan that are known before their values: those that are left of one stack, holder or summed block.
use Rattle.std.specs.Prelude.{ℕ, zero, suc, Bool, false, ◌&&◌, ◌==◌, nat_le, List, [], ◌∷◌, filter, Option, Some, None, if◌then◌else◌}
use Rattle.km_model.specs.Past.{Past, Place, ScanLoad, world, last_load, running_scan}
use Rattle.km_model.specs.Scan.{live_words, next, stack_of, white_words}

-- the words of what a place is in: a stack, the scanned words of a holder, or a block that is summed
abbrev pub run_words : Past → Place → List ℕ
run_words past place =
    if place.phase == 1 then stack_of (world past).tasks place.holder
    else (if place.phase == 3 then white_words past place.holder else live_words (world past).blocks place.holder)

-- whether a load goes on where the last one was
abbrev pub goes_on : Option ScanLoad → Place → Bool
goes_on None place = false
goes_on (Some l) place = l.place.phase == place.phase && l.place.holder == place.holder

-- a member of a list, by its number from 0
abbrev pub member_at : ℕ → List ℕ → Option ℕ
member_at n [] = None
member_at zero (a ∷ as') = Some a
member_at (suc n) (a ∷ as') = member_at n as'

-- the loads that are left there from the next one on, unless the scan has to go on first
abbrev pub known_from : Past → Option Place → List ℕ
known_from past None = []
known_from past (Some place) =
    if goes_on (last_load past) place then filter (nat_le place.word) (run_words past place) else []

-- the loads of the running scan that are known, none where no scan runs
abbrev pub known_loads : Past → List ℕ
known_loads past = elim (running_scan past) [ None ↦ [] | Some _ ↦ known_from past (next past) ]

-- the load that comes after so many more
abbrev pub ahead : Past → ℕ → Option ℕ
ahead past n = member_at n (known_loads past)
