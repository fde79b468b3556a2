-- A journal of one entry: the scanner is cut before its scan begins.
use Rattle.std.proofs.Common.{◌≡◌, true, false, List, [], ◌∷◌, None, codes, refl}
use Rattle.std.specs.Fmt.{digits}
use Rattle.km_base.specs.declared.acts.Reg.TheVariants.{R0}
use Rattle.km_base.specs.declared.lines.Base.TheVariants as base
use Rattle.km_base.specs.declared.lines.Command.TheVariants as command
use Rattle.km_model.specs.Answers.{answer}
use Rattle.km_model.specs.Scan.{next}
use Rattle.km_model.specs.Grammar.{line_by}
use Rattle.km_model.specs.Changes.{world_after_act}
use Rattle.km_live_model.specs.declared.jobs.JobBase.TheVariants as job
use Rattle.km_live_model.specs.declared.jobs.JobLine.TheVariants as line
use Rattle.km_live_model.specs.LiveGrammar.{live_line_of}
use Rattle.km_model.specs.Follows.{Run, first_run}
use Rattle.km_model.specs.Expansion.{behind_line, run_at}
use Rattle.km_live_model.specs.Rounds.{Job}
use Rattle.km_live_model.specs.Lives.{LiveOut}
use Rattle.km_round_rows.proofs.Serial.{ran, journal, order, is_serial, serial_is_round}

abbrev run : Run
run =
    run_at (behind_line (behind_line (behind_line (behind_line (behind_line (behind_line (first_run 4096)
    (command.Section (codes "data") 16)) (command.Task (codes "a"))) (command.Task (codes "b")))
    (command.Kmalloc 64 None)) (command.Kmalloc 64 None))
    (command.Store (record { base = base.Section (codes "data"); plus = 0 }) (record { base = base.Number 0xffff888000004000; plus = 0 }))) 1000

abbrev jobs : List Job
jobs =
    record {
      task = codes "a";
      registers = 0 ∷ 0 ∷ 0 ∷ 0 ∷ [];
      lines =
          line.Store (record { base = job.Number 0xffff888000001000; plus = 8 }) (record { base = job.Number 1; plus = 0 })
          ∷ line.Load R0 (record { base = job.Number 0xffff888000001000; plus = 8 })
          ∷ line.Store (record { base = job.Number 0xffff888000001000; plus = 16 }) (record { base = job.Number 2; plus = 0 })
          ∷ [];
    } ∷ record {
      task = codes "b";
      registers = 0 ∷ 0 ∷ 0 ∷ 0 ∷ [];
      lines = line.Store (record { base = job.Number 0xffff888000001000; plus = 24 }) (record { base = job.Number 3; plus = 0 }) ∷ line.Store (record { base = job.Number 0xffff888000001000; plus = 32 }) (record { base = job.Number 4; plus = 0 }) ∷ [];
    } ∷ []

checked : is_serial 4096 run.history run.memory jobs 1 0 1 10 false ≡ true
unfolding digits answer next line_by world_after_act live_line_of
checked = refl

pub one_entry : LiveOut (codes "memory 4096\nsection data 16\ntask a\ntask b\nkmalloc 64\nkmalloc 64\nstore data 0xffff888000004000\ntick 1000\nthread a\nstore data+8 1\nload a.r0 data+8\nstore data+16 2\nend\nthread b\nstore data+24 3\nstore data+32 4\nend\nround 1 0 1\nread\nprint a.r0\n") (codes "kmalloc 0xffff888000004000\nkmalloc 0xffff888000004040\nkmlive: journal full at 1 entries\n0x0000000000000001\n")
unfolding digits answer next line_by world_after_act live_line_of
one_entry = (_, (_, _, _, (refl, refl), (_, _, _, (_, refl, refl, refl), (_, _, _, (_, refl, refl, refl), (_, _, _, (_, refl, refl, refl), (_, _, _, (_, refl, refl, refl), (_, _, _, (_, refl, refl, refl), (_, _, _, (_, refl, refl, refl), (_, _, _, (_, (0, (refl, refl)), refl, refl), (_, _, _, (refl, refl), (_, _, _, (refl, refl), (_, _, _, (refl, refl), (_, _, _, (refl, refl), (_, _, _, (refl, refl), (_, _, _, (refl, refl), (_, _, _, (refl, refl), (_, _, _, (refl, refl), (_, _, _, (refl, refl), (_, _, _, (_, record { journal = journal 4096 run.history run.memory jobs 1 0 1 10; order = order 4096 run.history run.memory jobs 1 0 1 10; ends = (ran 4096 run.history run.memory jobs 1 0 1 10).ends; full = true; is_round = serial_is_round 4096 run.history run.memory jobs 1 0 1 10 false checked; after = refl; printed = refl }, refl), (_, _, _, (_, refl, refl, refl), (_, _, _, (_, refl, refl, refl), (refl, refl), refl), refl), refl), refl), refl), refl), refl), refl), refl), refl), refl), refl), refl), refl), refl), refl), refl), refl), refl), refl))
