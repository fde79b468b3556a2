-- Two threads store while two scans load.
use Rattle.std.proofs.Common.{◌≡◌, true, false, List, [], ◌∷◌, None, codes, refl}
use Rattle.std.specs.Fmt.{digits}
use Rattle.km_base.specs.declared.acts.Reg.TheVariants.{R0}
use Rattle.km_base.specs.declared.lines.Base.TheVariants as base
use Rattle.km_base.specs.declared.lines.Command.TheVariants as command
use Rattle.km_model.specs.Answers.{answer}
use Rattle.km_model.specs.Scan.{next}
use Rattle.km_model.specs.Grammar.{line_by}
use Rattle.km_model.specs.Changes.{world_after_act}
use Rattle.km_live_model.specs.declared.jobs.JobBase.TheVariants as job
use Rattle.km_live_model.specs.declared.jobs.JobLine.TheVariants as line
use Rattle.km_live_model.specs.LiveGrammar.{live_line_of}
use Rattle.km_model.specs.Follows.{Run, first_run}
use Rattle.km_model.specs.Expansion.{behind_line, run_at}
use Rattle.km_live_model.specs.Rounds.{Job, IsRound}
use Rattle.km_live_model.specs.Lives.{round_text}
use Rattle.km_round_rows.proofs.Serial.{ran, journal, order, is_serial, serial_is_round}

abbrev run : Run
run =
    run_at (behind_line (behind_line (behind_line (behind_line (behind_line (behind_line (first_run 4096)
    (command.Section (codes "data") 16)) (command.Task (codes "a"))) (command.Task (codes "b")))
    (command.Kmalloc 64 None)) (command.Kmalloc 64 None))
    (command.Store (record { base = base.Section (codes "data"); plus = 0 }) (record { base = base.Number 0xffff888000004000; plus = 0 }))) 1000

abbrev jobs : List Job
jobs =
    record {
      task = codes "a";
      registers = 0 ∷ 0 ∷ 0 ∷ 0 ∷ [];
      lines =
          line.Store (record { base = job.Number 0xffff888000001000; plus = 8 }) (record { base = job.Number 1; plus = 0 })
          ∷ line.Load R0 (record { base = job.Number 0xffff888000001000; plus = 8 })
          ∷ line.Store (record { base = job.Number 0xffff888000001000; plus = 16 }) (record { base = job.Number 2; plus = 0 })
          ∷ [];
    } ∷ record {
      task = codes "b";
      registers = 0 ∷ 0 ∷ 0 ∷ 0 ∷ [];
      lines = line.Store (record { base = job.Number 0xffff888000001000; plus = 24 }) (record { base = job.Number 3; plus = 0 }) ∷ line.Store (record { base = job.Number 0xffff888000001000; plus = 32 }) (record { base = job.Number 4; plus = 0 }) ∷ [];
    } ∷ []

checked : is_serial 4096 run.history run.memory jobs 2 0 100000 4000 true ≡ true
unfolding digits answer next line_by world_after_act live_line_of
checked = refl

-- the workers' journal and order are those of a round
pub two_threads : IsRound 4096 run.history run.memory jobs 2 0 100000 (journal 4096 run.history run.memory jobs 2 0 100000 4000) (order 4096 run.history run.memory jobs 2 0 100000 4000) (ran 4096 run.history run.memory jobs 2 0 100000 4000).ends false
two_threads = serial_is_round 4096 run.history run.memory jobs 2 0 100000 4000 true checked

-- which ends with these registers
ends : (ran 4096 run.history run.memory jobs 2 0 100000 4000).ends ≡ record { registers = 1 ∷ 0 ∷ 0 ∷ 0 ∷ []; full = false } ∷ record { registers = 0 ∷ 0 ∷ 0 ∷ 0 ∷ []; full = false } ∷ []
unfolding digits answer next line_by world_after_act live_line_of
ends = refl

-- and prints this
prints : round_text 100000 (journal 4096 run.history run.memory jobs 2 0 100000 4000) false ≡ codes "kmemleak: 1 new suspected memory leaks (see /sys/kernel/debug/kmemleak)\n"
unfolding digits answer next line_by world_after_act live_line_of
prints = refl
