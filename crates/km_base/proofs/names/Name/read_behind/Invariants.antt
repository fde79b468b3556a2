use Rattle.std.proofs.Common.{◌≡◌, ◌+◌, ◌∷◌, drop, take, replicate}
use Rattle.std.specs.List.{list_all}
use Rattle.km_base.specs.Names.{is_name_byte}
use Rattle.km_base.proofs.names.Name.read_behind.Given as goal

-- the bytes so far are kept, and whether all are a name's hangs on those that are left
abbrev pub invariant-loop-i : goal.invariant-loop-i
invariant-loop-i l =
    (take (l.i + 1) l.bytes ≡ l.first ∷ take l.i l.rest)
    × (drop (l.i + 1) l.bytes ≡ drop (l.i + 1) (replicate 16 0))
    × (list_all is_name_byte l.rest ≡ list_all is_name_byte (drop l.i l.rest))
