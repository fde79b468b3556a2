use Rattle.std.specs.Prelude.{ℕ, Bool, ◌&&◌, nat_le}

-- a digit from `0` to `9`
abbrev pub is_digit : ℕ → Bool
is_digit c = nat_le 48 c && nat_le c 57

-- a byte from `/` to `~`: of a word, and neither `.` nor `+`
abbrev pub is_plain : ℕ → Bool
is_plain c = nat_le 47 c && nat_le c 126
