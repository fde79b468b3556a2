-- What `why` and `held` answer and print.
use Rattle.std.specs.Prelude.{ℕ, not, ◌++◌, List, [], ◌∷◌, length, flat_map, codes, decimal, Option, Some, None, Result, Ok, Err, is_none, if◌then◌else◌}
use Rattle.km_base.specs.declared.acts.Answer.{Answer}
use Rattle.km_base.specs.declared.acts.Answer.TheVariants.{Done}
use Rattle.km_base.specs.declared.acts.Refusal.{Refusal}
use Rattle.km_base.specs.declared.acts.Refusal.TheVariants.{Disabled, NoObject}
use Rattle.km_base.specs.Digits.{hex}
use Rattle.km_base.specs.declared.lines.Operand.{Operand}
use Rattle.km_model.specs.History.{History}
use Rattle.km_model.specs.Blocks.{Block, block_at, block_with, references_of}
use Rattle.km_model.specs.World.{World}
use Rattle.km_model.specs.Past.{Past, world, running_scan}
use Rattle.km_model.specs.Follows.{past_of}
use Rattle.km_model.specs.Answers.{unless, unless_busy}
use Rattle.km_model.specs.Operands.{then_do, found_or, operand_value}
use Rattle.km_model.specs.Text.{as_text_line, refusal_text}
use Rattle.km_model.specs.Held.{Standing}
use Rattle.km_certificates.specs.Certificates.{Counted, counted, first_unfit, is_held, list_of, standing_after}

-- the answer to `why` at an address
abbrev pub why_answer : Past → ℕ → Answer
why_answer past a =
    unless (not (world past).enabled) Disabled
    (unless_busy (running_scan past) (unless (is_none (block_with (world past).blocks a)) NoObject Done))

-- the first line of `why`
abbrev pub why_head : ℕ → ℕ → List ℕ
why_head start members = as_text_line (codes "kmemleak: why " ++ hex start ++ codes ": " ++ decimal members ++ codes " members")

-- the line of a member
abbrev pub why_member : ℕ → ℕ → ℕ → List ℕ
why_member start min found = as_text_line (codes "kmemleak:   " ++ hex start ++ codes " min " ++ decimal min ++ codes " found " ++ decimal found)

-- a block that isn't held
abbrev pub not_held : ℕ → List ℕ
not_held start = as_text_line (codes "kmemleak: " ++ hex start ++ codes " is not held")

-- why a block is held
abbrev pub why_block : Standing → Block → List ℕ
why_block s b =
    if is_held s b.id
    then why_head b.start (length (list_of s b.id))
    ++ flat_map (λ (m : Counted). why_member m.block.start (references_of m.block) m.found) (counted s (list_of s b.id))
    else not_held b.start

-- what an accepted `why` prints
abbrev pub why_text : ℕ → History → ℕ → List ℕ
why_text words h a = elim (block_with (world (past_of h)).blocks a) [ None ↦ [] | Some b ↦ why_block (standing_after words h) b ]

-- the values of operands, or the refusal of the first that is missing
abbrev pub operand_values : World → List Operand → Result (List ℕ) Refusal
operand_values w [] = Ok []
operand_values w (o ∷ os) = then_do (operand_value w o) (λ a. then_do (operand_values w os) (λ as'. Ok (a ∷ as')))

-- the blocks that begin at these addresses, or the refusal where none does at one
abbrev pub blocks_at : List Block → List ℕ → Result (List Block) Refusal
blocks_at blocks [] = Ok []
blocks_at blocks (a ∷ addresses) = then_do (found_or (block_at blocks a) NoObject) (λ b. then_do (blocks_at blocks addresses) (λ bs. Ok (b ∷ bs)))

-- whether each block may stand where it does, and else the first that may not
abbrev pub held : Option ℕ → List ℕ
held None = as_text_line (codes "held: yes")
held (Some n) = as_text_line (codes "held: no at " ++ decimal n)

-- what a check prints, or its refusal
abbrev pub held_or_refused : Standing → Result (List Block) Refusal → List ℕ
held_or_refused s (Ok bs) = held (first_unfit s 1 [] bs)
held_or_refused s (Err r) = refusal_text r

-- what `held` prints
abbrev pub held_text : ℕ → History → List Operand → List ℕ
held_text words h operands =
    held_or_refused (standing_after words h)
    (then_do (operand_values (world (past_of h)) operands) (blocks_at (world (past_of h)).blocks))
