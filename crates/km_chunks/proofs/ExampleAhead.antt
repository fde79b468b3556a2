-- What is ahead in a small scan.
use Rattle.std.proofs.Common.{◌≡◌, [], ◌∷◌, Some, None, refl}
use Rattle.km_base.specs.declared.acts.Act.TheVariants.{File, Kmalloc, Step}
use Rattle.km_base.specs.declared.acts.FileCmd.TheVariants.{Scan}
use Rattle.km_base.specs.declared.acts.Answer.TheVariants.{At, Done, Loaded}
use Rattle.km_model.specs.History.{History}
use Rattle.km_model.specs.Scan.{next}
use Rattle.km_model.specs.Changes.{world_after_act}
use Rattle.km_model.specs.Follows.{past_of}
use Rattle.km_chunks.specs.Ahead.{ahead}

abbrev begun : History
begun = record { act = File Scan; answer = Done } ∷ record { act = Kmalloc 16; answer = At 0xffff888000001000 } ∷ []

abbrev first : History
first = record { act = Step; answer = Loaded 0xffff888000000000 0 } ∷ begun

-- the scan has to go on first
none_at_first : ahead (past_of begun) 0 ≡ None
unfolding next world_after_act
none_at_first = refl

-- the table of slots has 511 words more
second_word : ahead (past_of first) 0 ≡ Some 0xffff888000000008
unfolding next world_after_act
second_word = refl

last_word : ahead (past_of first) 510 ≡ Some 0xffff888000000ff8
unfolding next world_after_act
last_word = refl

no_more : ahead (past_of first) 511 ≡ None
unfolding next world_after_act
no_more = refl
