use Rattle.std.specs.Prelude.{ℕ, zero, suc, ◌+◌, ◌*◌, ◌/◌, ◌%◌, ◌^◌, nat_lt, ◌==◌, List, [], ◌++◌, codes, decimal, if◌then◌else◌}
use Rattle.km_model.specs.Text.{as_text_line}

-- the state behind a draw
unfoldable pub next_state : ℕ → ℕ
next_state x = (x * 6364136223846793005 + 1442695040888963407) % 2 ^ 64

-- what the draw gives that leads to a state
unfoldable pub drawn : ℕ → ℕ
drawn x = x / 2 ^ 33

-- a size in bytes, by the draw that leads to a state
abbrev pub drawn_size : ℕ → ℕ
drawn_size x = 1 + drawn x % 512

-- the offset of a word of the section
abbrev pub drawn_offset : ℕ → ℕ
drawn_offset x = 8 * (drawn x % 512)

-- a time in milliseconds
abbrev pub drawn_time : ℕ → ℕ
drawn_time x = drawn x % 500

-- a line with a number
abbrev pub number_line : List ℕ → ℕ → List ℕ → List ℕ
number_line before n behind = as_text_line (before ++ decimal n ++ behind)

-- a block whose register is stored into the section
abbrev pub allocation_text : ℕ → List ℕ
allocation_text x =
    number_line (codes "kmalloc ") (drawn_size (next_state x)) (codes " t.r0")
    ++ number_line (codes "store data+") (drawn_offset (next_state (next_state x))) (codes " t.r0")

-- a word of the section is set to 0
abbrev pub clear_text : ℕ → List ℕ
clear_text x = number_line (codes "store data+") (drawn_offset (next_state x)) (codes " 0")

-- a block that the section names is freed
abbrev pub free_text : ℕ → List ℕ
free_text x = number_line (codes "load t.r1 data+") (drawn_offset (next_state x)) [] ++ as_text_line (codes "kfree t.r1")

-- a block that the section names is made to name the last one
abbrev pub link_text : ℕ → List ℕ
link_text x = number_line (codes "load t.r1 data+") (drawn_offset (next_state x)) [] ++ as_text_line (codes "store t.r1 t.r0")

-- time passes
abbrev pub wait_text : ℕ → List ℕ
wait_text x = number_line (codes "tick ") (drawn_time (next_state x)) []

-- a scan begins or goes on
abbrev pub scan_text : ℕ → List ℕ
scan_text x = if drawn (next_state x) % 4 == 0 then as_text_line (codes "begin") else as_text_line (codes "step 64")

-- the lines of a step of a kind, from the state behind the draw of the kind
abbrev pub step_text : ℕ → ℕ → List ℕ
step_text kind x =
    if nat_lt kind 3 then allocation_text x
    else (if kind == 3 then clear_text x
    else (if kind == 4 then free_text x
    else (if kind == 5 then link_text x
    else (if kind == 6 then wait_text x
    else scan_text x))))

-- the state behind such a step
abbrev pub state_after : ℕ → ℕ → ℕ
state_after kind x = if nat_lt kind 3 then next_state (next_state x) else next_state x

-- the kind of the next step
abbrev pub next_kind : ℕ → ℕ
next_kind x = drawn (next_state x) % 8

-- the lines of some steps, from a state
abbrev pub steps_text : ℕ → ℕ → List ℕ
steps_text zero x = []
steps_text (suc n) x = step_text (next_kind x) (next_state x) ++ steps_text n (state_after (next_kind x) (next_state x))

-- what stands before the steps
abbrev pub opening_lines : List ℕ
opening_lines = as_text_line (codes "memory 65536") ++ as_text_line (codes "section data 512") ++ as_text_line (codes "task t")

-- what stands behind them
abbrev pub closing_lines : List ℕ
closing_lines =
    as_text_line (codes "finish") ++ as_text_line (codes "tick 1000") ++ as_text_line (codes "write scan")
    ++ as_text_line (codes "write scan") ++ as_text_line (codes "read")

-- the script of a number with some steps
abbrev pub generated_script : ℕ → ℕ → List ℕ
generated_script number steps = opening_lines ++ steps_text steps number ++ closing_lines
