-- Certificates of small worlds, computed by the definitions.
use Rattle.std.proofs.Common.{◌≡◌, ℕ, ◌+◌, List, [], ◌∷◌, codes, refl}
use Rattle.std.specs.Fmt.{digits}
use Rattle.km_base.specs.declared.acts.Act.TheVariants.{Section, Kmalloc, Store, VmTake}
use Rattle.km_base.specs.declared.acts.Answer.TheVariants.{Refused}
use Rattle.km_base.specs.declared.acts.Refusal.TheVariants.{NoObject}
use Rattle.km_base.specs.declared.lines.Base.TheVariants as base
use Rattle.km_base.specs.declared.lines.Operand.{Operand}
use Rattle.km_model.specs.Answers.{answer}
use Rattle.km_model.specs.Changes.{world_after_act}
use Rattle.km_model.specs.Scan.{next}
use Rattle.km_model.specs.Follows.{Run, all_happen, first_run, past_of}
use Rattle.km_certificates.specs.Texts.{why_answer, why_text, held_text}

abbrev at : ℕ → Operand
at a = record { base = base.Number a; plus = 0 }

abbrev in_section : ℕ → Operand
in_section plus = record { base = base.Section (codes "data"); plus = plus }

-- a section refers to a block, and that to another
abbrev chain : Run
chain =
    all_happen (first_run 4096) (Section (codes "data") 1 ∷ Kmalloc 16 ∷ Kmalloc 16 ∷ Store 0xffff888000001000 0xffff888000002010 ∷ Store 0xffff888000002010 0xffff888000002000 ∷ [])

last_of_a_chain : why_text 4096 chain.history 0xffff888000002008 ≡ codes "kmemleak: why 0xffff888000002000: 4 members\nkmemleak:   0xffff888000000000 min 0 found 0\nkmemleak:   0xffff888000001000 min 0 found 0\nkmemleak:   0xffff888000002010 min 1 found 1\nkmemleak:   0xffff888000002000 min 1 found 1\n"
unfolding digits answer next world_after_act
last_of_a_chain = refl

held_in_order : held_text 4096 chain.history (in_section 0 ∷ at 0xffff888000002010 ∷ at 0xffff888000002000 ∷ []) ≡ codes "held: yes\n"
unfolding digits answer next world_after_act
held_in_order = refl

held_before_its_reason : held_text 4096 chain.history (at 0xffff888000002000 ∷ in_section 0 ∷ []) ≡ codes "held: no at 1\n"
unfolding digits answer next world_after_act
held_before_its_reason = refl

cut_off : why_text 4096 (all_happen chain (Store 0xffff888000001000 0 ∷ [])).history 0xffff888000002000 ≡ codes "kmemleak: 0xffff888000002000 is not held\n"
unfolding digits answer next world_after_act
cut_off = refl

abbrev one_section : Run
one_section = all_happen (first_run 4096) (Section (codes "data") 1 ∷ [])

no_block : why_answer (past_of one_section.history) 0xffff888000002000 ≡ Refused NoObject
unfolding digits answer next world_after_act
no_block = refl

named_twice : held_text 4096 one_section.history (in_section 0 ∷ in_section 0 ∷ []) ≡ codes "held: no at 2\n"
unfolding digits answer next world_after_act
named_twice = refl

inside_a_block : held_text 4096 one_section.history (in_section 8 ∷ []) ≡ codes "refused: no object\n"
unfolding digits answer next world_after_act
inside_a_block = refl

-- a block points to itself
abbrev own : Run
own = all_happen (first_run 1536) (Kmalloc 16 ∷ Store 0xffff888000001000 0xffff888000001008 ∷ [])

own_words_do_not_count : held_text 1536 own.history (at 0xffff888000001000 ∷ []) ≡ codes "held: no at 1\n"
unfolding digits answer next world_after_act
own_words_do_not_count = refl

-- a head has two references, of which it needs one
abbrev area : Run
area =
    all_happen (first_run 2048) (Section (codes "data") 1 ∷ VmTake 4096 ∷ Store 0xffff888000002008 0xffff888000003000 ∷ Store 0xffff888000000000 0xffff888000002000 ∷ Store 0xffff888000001000 0xffff888000002000 ∷ [])

area_by_its_head : why_text 2048 area.history 0xffff888000003000 ≡ codes "kmemleak: why 0xffff888000003000: 4 members\nkmemleak:   0xffff888000000000 min 0 found 0\nkmemleak:   0xffff888000001000 min 0 found 0\nkmemleak:   0xffff888000002000 min 1 found 2\nkmemleak:   0xffff888000003000 min 2 found 2\n"
unfolding digits answer next world_after_act
area_by_its_head = refl
