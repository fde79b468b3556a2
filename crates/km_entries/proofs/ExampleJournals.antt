-- Small journals, worked by the definitions.
use Rattle.std.proofs.Common.{◌≡◌, [], ◌∷◌, codes, refl}
use Rattle.std.specs.Fmt.{digits}
use Rattle.km_base.specs.declared.acts.Act.TheVariants.{Kmalloc, Read}
use Rattle.km_base.specs.declared.acts.Answer.TheVariants.{At, Done}
use Rattle.km_model.specs.Answers.{answer}
use Rattle.km_model.specs.Changes.{world_after_act}
use Rattle.km_entries.specs.declared.status.CheckStatus.TheVariants as check
use Rattle.km_entries.specs.Words.{plain_number, plain_address}
use Rattle.km_entries.specs.Reading.{journal_line}
use Rattle.km_entries.specs.File.{journal_text, outcome_of, check_text}

-- a block and a read that lists nothing
a_small_journal : journal_text 1024 (record { by = 0; act = Read; answer = Done } ∷ record { by = 0; act = Kmalloc 8; answer = At 0xffff888000001000 } ∷ [])
    ≡ codes "kmjournal 1 1024\n0 kmalloc 8 = at 0xffff888000001000\n0 read = done\nend 2\n"
unfolding digits world_after_act
a_small_journal = refl

is_right : check_text (codes "kmjournal 1 1024\n0 kmalloc 8 = at 0xffff888000001000\n0 read = done\nend 2\n") ≡ codes "kmcheck: ok, 2 events, 0 scans\n"
unfolding digits answer world_after_act plain_number plain_address journal_line
is_right = refl

a_wrong_address : (outcome_of (codes "kmjournal 1 1024\n0 kmalloc 8 = at 0xffff888000001008\n0 read = done\nend 2\n")).status ≡ check.Wrong 2
unfolding digits answer world_after_act plain_number plain_address journal_line
a_wrong_address = refl

no_end : (outcome_of (codes "kmjournal 1 1024\n0 kmalloc 8 = at 0xffff888000001000\n0 read = done\n")).status ≡ check.Cut
unfolding digits answer world_after_act plain_number plain_address journal_line
no_end = refl

two_ends : (outcome_of (codes "kmjournal 1 1024\n0 kmalloc 8 = at 0xffff888000001000\n0 read = done\nend 2\nend 2\n")).status ≡ check.NotALine 5
unfolding digits answer world_after_act plain_number plain_address journal_line
two_ends = refl

no_line_feed : (outcome_of (codes "kmjournal 1 1024\nend 0")).status ≡ check.NotALine 2
unfolding digits answer world_after_act plain_number plain_address journal_line
no_line_feed = refl

no_bytes : (outcome_of []).status ≡ check.Cut
no_bytes = refl

a_leading_zero : (outcome_of (codes "kmjournal 1 01024\n")).status ≡ check.NotALine 1
unfolding digits answer world_after_act plain_number plain_address journal_line
a_leading_zero = refl

two_spaces : (outcome_of (codes "kmjournal 1  1024\n")).status ≡ check.NotALine 1
unfolding digits answer world_after_act plain_number plain_address journal_line
two_spaces = refl

a_space_after : (outcome_of (codes "kmjournal 1 1024 \n")).status ≡ check.NotALine 1
unfolding digits answer world_after_act plain_number plain_address journal_line
a_space_after = refl

an_upper_case_digit : (outcome_of (codes "kmjournal 1 1024\n0 kfree 0xFfff888000001000 = refused 5\n")).status ≡ check.NotALine 2
unfolding digits answer world_after_act plain_number plain_address journal_line
an_upper_case_digit = refl

a_busy_without_its_scan : (outcome_of (codes "kmjournal 1 1024\n0 read = refused 16\n")).status ≡ check.NotALine 2
unfolding digits answer world_after_act plain_number plain_address journal_line
a_busy_without_its_scan = refl

a_wrong_number_of_events : (outcome_of (codes "kmjournal 1 1024\n0 tick 5 = done\nend 2\n")).status ≡ check.Wrong 3
unfolding digits answer world_after_act plain_number plain_address journal_line
a_wrong_number_of_events = refl

too_late : (outcome_of (codes "kmjournal 1 1024\n0 tick 4611686018427387904 = done\n0 tick 1 = done\n")).status ≡ check.NotALine 3
unfolding digits answer world_after_act plain_number plain_address journal_line
too_late = refl

a_block_that_isnt_listed : (outcome_of (codes "kmjournal 1 1024\n0 read = done\nlisted 0xffff888000001000\n")).status ≡ check.Wrong 3
unfolding digits answer world_after_act plain_number plain_address journal_line
a_block_that_isnt_listed = refl
