use Rattle.std.proofs.Common.{ℕ, zero, suc, ◌+◌, ◌*◌, ◌%◌, ◌<◌, ◌≤◌, ◌^◌, Bool, true, false, nat_lt, ◌==◌, List, [], ◌++◌, length, codes, if◌then◌else◌, arith, length-append}
use Rattle.std.proofs.lemmas.Fmt.{length-decimal-le}
use Rattle.std.proofs.lemmas.Nat.{mod_below}
use Rattle.km_model.specs.Text.{as_text_line}
use Rattle.km_gen.specs.Generated.{drawn, drawn_size, drawn_offset, drawn_time, next_state, next_kind, number_line, allocation_text, clear_text, wait_text, state_after, step_text, steps_text, generated_script}

-- a line with a number of so many digits
number_line_short : (before behind : List ℕ) (k n : ℕ) → 0 < k → n < 10 ^ k → n < 2 ^ 64 → length (number_line before n behind) ≤ length before + k + length behind + 1
number_line_short before behind k n p h fits =
    simp length-append (omega (arith, length-decimal-le k n p h fits))

size_short : (x : ℕ) → drawn_size x < 10 ^ 3
size_short x = omega (arith, mod_below (drawn x) 512 (omega arith))

offset_short : (x : ℕ) → drawn_offset x < 10 ^ 4
offset_short x = omega (arith, mod_below (drawn x) 512 (omega arith))

time_short : (x : ℕ) → drawn_time x < 10 ^ 3
time_short x = omega (arith, mod_below (drawn x) 500 (omega arith))

-- whichever of two texts is chosen, it is short
either_short : (b : Bool) (s t : List ℕ) → length s ≤ 38 → length t ≤ 38 → length (if b then s else t) ≤ 38
either_short true s t h g = h
either_short false s t h g = g

both_short : (s t : List ℕ) (m n : ℕ) → length s ≤ m → length t ≤ n → m + n ≤ 38 → length (s ++ t) ≤ 38
both_short s t m n h g le = simp length-append (omega (arith, h, g, le))

allocation_short : (x : ℕ) → length (allocation_text x) ≤ 38
allocation_short x =
    both_short (number_line (codes "kmalloc ") (drawn_size (next_state x)) (codes " t.r0")) (number_line (codes "store data+") (drawn_offset (next_state (next_state x))) (codes " t.r0")) 17 21
    (number_line_short (codes "kmalloc ") (codes " t.r0") 3 (drawn_size (next_state x)) (omega arith) (size_short (next_state x)) (omega (arith, size_short (next_state x))))
    (number_line_short (codes "store data+") (codes " t.r0") 4 (drawn_offset (next_state (next_state x))) (omega arith) (offset_short (next_state (next_state x))) (omega (arith, offset_short (next_state (next_state x)))))
    (omega arith)

load_short : (x : ℕ) → length (number_line (codes "load t.r1 data+") (drawn_offset (next_state x)) []) ≤ 20
load_short x = number_line_short (codes "load t.r1 data+") [] 4 (drawn_offset (next_state x)) (omega arith) (offset_short (next_state x)) (omega (arith, offset_short (next_state x)))

clear_short : (x : ℕ) → length (clear_text x) ≤ 18
clear_short x = number_line_short (codes "store data+") (codes " 0") 4 (drawn_offset (next_state x)) (omega arith) (offset_short (next_state x)) (omega (arith, offset_short (next_state x)))

wait_short : (x : ℕ) → length (wait_text x) ≤ 9
wait_short x = number_line_short (codes "tick ") [] 3 (drawn_time (next_state x)) (omega arith) (time_short (next_state x)) (omega (arith, time_short (next_state x)))

step_short : (kind x : ℕ) → length (step_text kind x) ≤ 38
step_short kind x =
    either_short (nat_lt kind 3) _ _ (allocation_short x)
    (either_short (kind == 3) _ _ (omega (arith, clear_short x))
    (either_short (kind == 4) _ _ (both_short (number_line (codes "load t.r1 data+") (drawn_offset (next_state x)) []) (as_text_line (codes "kfree t.r1")) 20 11 (load_short x) (omega arith) (omega arith))
    (either_short (kind == 5) _ _ (both_short (number_line (codes "load t.r1 data+") (drawn_offset (next_state x)) []) (as_text_line (codes "store t.r1 t.r0")) 20 16 (load_short x) (omega arith) (omega arith))
    (either_short (kind == 6) _ _ (omega (arith, wait_short x))
    (either_short (drawn (next_state x) % 4 == 0) _ _ (omega arith) (omega arith))))))

steps_short : (n x : ℕ) → length (steps_text n x) ≤ 38 * n
steps_short zero x = omega arith
steps_short (suc n) x =
    simp length-append (omega (arith, step_short (next_kind x) (next_state x), steps_short n (state_after (next_kind x) (next_state x))))

-- a script has at most 38 bytes a step
pub script_short : (number steps : ℕ) → length (generated_script number steps) ≤ 81 + 38 * steps
script_short number steps = simp length-append (omega (arith, steps_short steps number))
