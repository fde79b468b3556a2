use Rattle.std.specs.Prelude.{◌≡◌, ℕ, ◌≤◌, ◌<◌, Bool, true, false, nat_lt, Option, Some, None, if◌then◌else◌}

-- the least number from one on, below a bound, that passes a test
abbrev pub IsLeast : (ℕ → Bool) → ℕ → ℕ → Option ℕ → Type 0
IsLeast test from bound None = (i : ℕ) → from ≤ i → i < bound → test i ≡ false
IsLeast test from bound (Some n) = (from ≤ n) × (n < bound) × (test n ≡ true) × ((i : ℕ) → from ≤ i → i < n → test i ≡ false)

-- the lesser of two numbers, where they are there
abbrev pub lesser : Option ℕ → Option ℕ → Option ℕ
lesser None b = b
lesser (Some m) None = Some m
lesser (Some m) (Some n) = if nat_lt n m then Some n else Some m
