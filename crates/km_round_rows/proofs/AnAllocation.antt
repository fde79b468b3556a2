-- A thread allocates, stores the address, and frees nothing.
use Rattle.std.proofs.Common.{◌≡◌, true, false, List, [], ◌∷◌, Some, codes, refl}
use Rattle.std.specs.Fmt.{digits}
use Rattle.km_base.specs.declared.acts.Reg.TheVariants.{R0}
use Rattle.km_base.specs.declared.lines.Command.TheVariants as command
use Rattle.km_model.specs.Answers.{answer}
use Rattle.km_model.specs.Scan.{next}
use Rattle.km_model.specs.Grammar.{line_by}
use Rattle.km_model.specs.Changes.{world_after_act}
use Rattle.km_live_model.specs.declared.jobs.JobBase.TheVariants as job
use Rattle.km_live_model.specs.declared.jobs.JobLine.TheVariants as line
use Rattle.km_live_model.specs.LiveGrammar.{live_line_of}
use Rattle.km_model.specs.Follows.{Run, first_run}
use Rattle.km_model.specs.Expansion.{behind_line}
use Rattle.km_live_model.specs.Rounds.{Job}
use Rattle.km_live_model.specs.Lives.{LiveOut}
use Rattle.km_round_rows.proofs.Serial.{ran, journal, order, is_serial, serial_is_round}

abbrev run : Run
run = behind_line (first_run 4096) (command.Task (codes "a"))

abbrev jobs : List Job
jobs =
    record {
      task = codes "a";
      registers = 0 ∷ 0 ∷ 0 ∷ 0 ∷ [];
      lines = line.Kmalloc 64 (Some R0) ∷ line.Store (record { base = job.Number 0xffff888000001000; plus = 0 }) (record { base = job.Reg R0; plus = 0 }) ∷ line.Kfree (record { base = job.Number 0; plus = 0 }) ∷ [];
    } ∷ []

checked : is_serial 4096 run.history run.memory jobs 1 0 100000 1200 true ≡ true
unfolding digits answer next line_by world_after_act live_line_of
checked = refl

pub an_allocation_in_a_thread : LiveOut (codes "memory 4096\ntask a\nthread a\nkmalloc 64 a.r0\nstore a.stack a.r0\nkfree 0\nend\nround 1 0 100000\nprint a.r0\nload a.r1 a.stack\nprint a.r1\n") (codes "0xffff888000002000\n0xffff888000002000\n")
unfolding digits answer next line_by world_after_act live_line_of
an_allocation_in_a_thread = (_, (_, _, _, (refl, refl), (_, _, _, (_, refl, refl, refl), (_, _, _, (refl, refl), (_, _, _, (refl, refl), (_, _, _, (refl, refl), (_, _, _, (refl, refl), (_, _, _, (refl, refl), (_, _, _, (_, record { journal = journal 4096 run.history run.memory jobs 1 0 100000 1200; order = order 4096 run.history run.memory jobs 1 0 100000 1200; ends = (ran 4096 run.history run.memory jobs 1 0 100000 1200).ends; full = false; is_round = serial_is_round 4096 run.history run.memory jobs 1 0 100000 1200 true checked; after = refl; printed = refl }, refl), (_, _, _, (_, refl, refl, refl), (_, _, _, (_, refl, refl, refl), (_, _, _, (_, refl, refl, refl), (refl, refl), refl), refl), refl), refl), refl), refl), refl), refl), refl), refl), refl))
