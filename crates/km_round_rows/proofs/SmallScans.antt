-- Two small scans, while threads store, allocate, annotate, and are refused.
use Rattle.std.proofs.Common.{◌≡◌, ℕ, true, false, List, [], ◌∷◌, Some, None, codes, refl}
use Rattle.std.specs.Fmt.{digits}
use Rattle.km_base.specs.declared.acts.Reg.TheVariants.{R0, R1}
use Rattle.km_base.specs.declared.acts.Act.{Act}
use Rattle.km_base.specs.declared.acts.Act.TheVariants as act
use Rattle.km_base.specs.declared.acts.Answer.{Answer}
use Rattle.km_base.specs.declared.acts.Answer.TheVariants.{Done, At, Loaded, Ended, Refused}
use Rattle.km_base.specs.declared.acts.Refusal.TheVariants.{NotAllocated}
use Rattle.km_base.specs.declared.acts.FileCmd.TheVariants as file
use Rattle.km_base.specs.declared.acts.FileCmd.TheVariants.{StackOff}
use Rattle.km_base.specs.declared.lines.Base.TheVariants as base
use Rattle.km_base.specs.declared.lines.Command.TheVariants as command
use Rattle.km_model.specs.Answers.{answer}
use Rattle.km_model.specs.Scan.{next}
use Rattle.km_model.specs.Grammar.{line_by}
use Rattle.km_model.specs.Changes.{world_after_act}
use Rattle.km_live_model.specs.declared.jobs.JobBase.TheVariants as job
use Rattle.km_live_model.specs.declared.jobs.JobLine.TheVariants as line
use Rattle.km_rounds.specs.declared.entry.Entry.{Entry}
use Rattle.km_rounds.specs.Journals.{Journal}
use Rattle.km_live_model.specs.LiveGrammar.{live_line_of}
use Rattle.km_model.specs.Follows.{Run, first_run}
use Rattle.km_model.specs.Expansion.{behind_line, run_at}
use Rattle.km_live_model.specs.Rounds.{Job}
use Rattle.km_live_model.specs.Lives.{LiveOut}
use Rattle.km_round_rows.proofs.Serial.{ran, journal, order, is_serial, serial_is_round}

abbrev run : Run
run =
    run_at (behind_line (behind_line (behind_line (behind_line (behind_line (behind_line (behind_line (behind_line (first_run 4096)
    (command.NoScan (record { base = base.Number 0xffff888000000000; plus = 0 }))) (command.Write (Some StackOff)))
    (command.Section (codes "data") 16)) (command.Task (codes "a"))) (command.Task (codes "b")))
    (command.Kmalloc 64 None)) (command.Kmalloc 64 None))
    (command.Store (record { base = base.Section (codes "data"); plus = 0 }) (record { base = base.Number 0xffff888000004000; plus = 0 }))) 1000

abbrev jobs : List Job
jobs =
    record {
      task = codes "a";
      registers = 0 ∷ 0 ∷ 0 ∷ 0 ∷ [];
      lines =
          line.Store (record { base = job.Number 0xffff888000001000; plus = 8 }) (record { base = job.Number 1; plus = 0 })
          ∷ line.Load R0 (record { base = job.Number 0xffff888000001000; plus = 8 })
          ∷ line.Store (record { base = job.Number 0xffff888000001000; plus = 16 }) (record { base = job.Number 2; plus = 0 })
          ∷ [];
    } ∷ record {
      task = codes "b";
      registers = 0 ∷ 0 ∷ 0 ∷ 0 ∷ [];
      lines =
          line.Store (record { base = job.Number 0xffff888000001000; plus = 24 }) (record { base = job.Number 3; plus = 0 })
          ∷ line.Kzalloc 16 (Some R1)
          ∷ line.Store (record { base = job.Number 0xffff888000001000; plus = 32 }) (record { base = job.Reg R1; plus = 0 })
          ∷ line.NotLeak (record { base = job.Reg R1; plus = 0 })
          ∷ line.Kfree (record { base = job.Number 5; plus = 0 })
          ∷ line.Store (record { base = job.Number 7; plus = 0 }) (record { base = job.Number 7; plus = 0 })
          ∷ [];
    } ∷ []

abbrev entry : ℕ → Act → Answer → Entry
entry by what given = record { by = by; act = what; answer = given }

-- the journal, as another program has it that was written apart
abbrev other : Journal
other =
    entry 3 (act.Kmalloc 16) (At 0xffff888000005000)
    ∷ entry 3 (act.NotLeak 0xffff888000005000) Done
    ∷ entry 3 (act.Kfree 5) (Refused NotAllocated)
    ∷ entry 1 (act.Tick 500) Done
    ∷ entry 1 (act.File file.Scan) Done
    ∷ entry 1 act.Step (Loaded 0xffff888000001000 18446612682070048768)
    ∷ entry 1 act.Step (Loaded 0xffff888000001008 1)
    ∷ entry 1 act.Step (Loaded 0xffff888000001010 2)
    ∷ entry 1 act.Step (Loaded 0xffff888000001018 3)
    ∷ entry 1 act.Step (Loaded 0xffff888000001020 18446612682070052864)
    ∷ entry 1 act.Step (Loaded 0xffff888000001028 0)
    ∷ entry 1 act.Step (Loaded 0xffff888000001030 0)
    ∷ entry 1 act.Step (Loaded 0xffff888000001038 0)
    ∷ entry 1 act.Step (Loaded 0xffff888000001040 0)
    ∷ entry 1 act.Step (Loaded 0xffff888000001048 0)
    ∷ entry 1 act.Step (Loaded 0xffff888000001050 0)
    ∷ entry 1 act.Step (Loaded 0xffff888000001058 0)
    ∷ entry 1 act.Step (Loaded 0xffff888000001060 0)
    ∷ entry 1 act.Step (Loaded 0xffff888000001068 0)
    ∷ entry 1 act.Step (Loaded 0xffff888000001070 0)
    ∷ entry 1 act.Step (Loaded 0xffff888000001078 0)
    ∷ entry 1 act.Step (Loaded 0xffff888000005000 0)
    ∷ entry 1 act.Step (Loaded 0xffff888000005008 0)
    ∷ entry 1 act.Step (Loaded 0xffff888000004000 0)
    ∷ entry 1 act.Step (Loaded 0xffff888000004008 0)
    ∷ entry 1 act.Step (Loaded 0xffff888000004010 0)
    ∷ entry 1 act.Step (Loaded 0xffff888000004018 0)
    ∷ entry 1 act.Step (Loaded 0xffff888000004020 0)
    ∷ entry 1 act.Step (Loaded 0xffff888000004028 0)
    ∷ entry 1 act.Step (Loaded 0xffff888000004030 0)
    ∷ entry 1 act.Step (Loaded 0xffff888000004038 0)
    ∷ entry 1 act.Step (Loaded 0xffff888000004040 0)
    ∷ entry 1 act.Step (Loaded 0xffff888000004048 0)
    ∷ entry 1 act.Step (Loaded 0xffff888000004050 0)
    ∷ entry 1 act.Step (Loaded 0xffff888000004058 0)
    ∷ entry 1 act.Step (Loaded 0xffff888000004060 0)
    ∷ entry 1 act.Step (Loaded 0xffff888000004068 0)
    ∷ entry 1 act.Step (Loaded 0xffff888000004070 0)
    ∷ entry 1 act.Step (Loaded 0xffff888000004078 0)
    ∷ entry 1 act.Step (Loaded 0xffff888000004040 0)
    ∷ entry 1 act.Step (Loaded 0xffff888000004048 0)
    ∷ entry 1 act.Step (Loaded 0xffff888000004050 0)
    ∷ entry 1 act.Step (Loaded 0xffff888000004058 0)
    ∷ entry 1 act.Step (Loaded 0xffff888000004060 0)
    ∷ entry 1 act.Step (Loaded 0xffff888000004068 0)
    ∷ entry 1 act.Step (Loaded 0xffff888000004070 0)
    ∷ entry 1 act.Step (Loaded 0xffff888000004078 0)
    ∷ entry 1 act.Step (Ended 1 0)
    ∷ entry 1 (act.Tick 500) Done
    ∷ entry 1 (act.File file.Scan) Done
    ∷ entry 1 act.Step (Loaded 0xffff888000001000 18446612682070048768)
    ∷ entry 1 act.Step (Loaded 0xffff888000001008 1)
    ∷ entry 1 act.Step (Loaded 0xffff888000001010 2)
    ∷ entry 1 act.Step (Loaded 0xffff888000001018 3)
    ∷ entry 1 act.Step (Loaded 0xffff888000001020 18446612682070052864)
    ∷ entry 1 act.Step (Loaded 0xffff888000001028 0)
    ∷ entry 1 act.Step (Loaded 0xffff888000001030 0)
    ∷ entry 1 act.Step (Loaded 0xffff888000001038 0)
    ∷ entry 1 act.Step (Loaded 0xffff888000001040 0)
    ∷ entry 1 act.Step (Loaded 0xffff888000001048 0)
    ∷ entry 1 act.Step (Loaded 0xffff888000001050 0)
    ∷ entry 1 act.Step (Loaded 0xffff888000001058 0)
    ∷ entry 1 act.Step (Loaded 0xffff888000001060 0)
    ∷ entry 1 act.Step (Loaded 0xffff888000001068 0)
    ∷ entry 1 act.Step (Loaded 0xffff888000001070 0)
    ∷ entry 1 act.Step (Loaded 0xffff888000001078 0)
    ∷ entry 1 act.Step (Loaded 0xffff888000005000 0)
    ∷ entry 1 act.Step (Loaded 0xffff888000005008 0)
    ∷ entry 1 act.Step (Loaded 0xffff888000004000 0)
    ∷ entry 1 act.Step (Loaded 0xffff888000004008 0)
    ∷ entry 1 act.Step (Loaded 0xffff888000004010 0)
    ∷ entry 1 act.Step (Loaded 0xffff888000004018 0)
    ∷ entry 1 act.Step (Loaded 0xffff888000004020 0)
    ∷ entry 1 act.Step (Loaded 0xffff888000004028 0)
    ∷ entry 1 act.Step (Loaded 0xffff888000004030 0)
    ∷ entry 1 act.Step (Loaded 0xffff888000004038 0)
    ∷ entry 1 act.Step (Loaded 0xffff888000004040 0)
    ∷ entry 1 act.Step (Loaded 0xffff888000004048 0)
    ∷ entry 1 act.Step (Loaded 0xffff888000004050 0)
    ∷ entry 1 act.Step (Loaded 0xffff888000004058 0)
    ∷ entry 1 act.Step (Loaded 0xffff888000004060 0)
    ∷ entry 1 act.Step (Loaded 0xffff888000004068 0)
    ∷ entry 1 act.Step (Loaded 0xffff888000004070 0)
    ∷ entry 1 act.Step (Loaded 0xffff888000004078 0)
    ∷ entry 1 act.Step (Ended 2 1)
    ∷ []

same : journal 4096 run.history run.memory jobs 2 500 100000 400 ≡ other
unfolding digits answer next line_by world_after_act live_line_of
same = refl

checked : is_serial 4096 run.history run.memory jobs 2 500 100000 400 true ≡ true
unfolding digits answer next line_by world_after_act live_line_of
checked = refl

pub small_scans : LiveOut (codes "memory 4096\nno_scan 0xffff888000000000\nwrite stack=off\nsection data 16\ntask a\ntask b\nkmalloc 64\nkmalloc 64\nstore data 0xffff888000004000\ntick 1000\nthread a\nstore data+8 1\nload a.r0 data+8\nstore data+16 2\nend\nthread b\nstore data+24 3\nkzalloc 16 b.r1\nstore data+32 b.r1\nnot_leak b.r1\nkfree 5\nstore 7 7\nend\nround 2 500 100000\nread\nprint a.r0\nload b.r2 data+32\nprint b.r2\n") (codes "kmalloc 0xffff888000004000\nkmalloc 0xffff888000004040\nkmemleak: 1 new suspected memory leaks (see /sys/kernel/debug/kmemleak)\nunreferenced object 0xffff888000004040 (size 64):\n  allocated at 0 ms, age 2000 ms\n  hex dump (first 32 bytes):\n    00 00 00 00 00 00 00 00 00 00 00 00 00 00 00 00\n    00 00 00 00 00 00 00 00 00 00 00 00 00 00 00 00\n0x0000000000000001\n0xffff888000005000\n")
unfolding digits answer next line_by world_after_act live_line_of
small_scans = (_, (_, _, _, (refl, refl), (_, _, _, (_, refl, refl, refl), (_, _, _, (_, refl, refl, refl), (_, _, _, (_, refl, refl, refl), (_, _, _, (_, refl, refl, refl), (_, _, _, (_, refl, refl, refl), (_, _, _, (_, refl, refl, refl), (_, _, _, (_, refl, refl, refl), (_, _, _, (_, refl, refl, refl), (_, _, _, (_, (0, (refl, refl)), refl, refl), (_, _, _, (refl, refl), (_, _, _, (refl, refl), (_, _, _, (refl, refl), (_, _, _, (refl, refl), (_, _, _, (refl, refl), (_, _, _, (refl, refl), (_, _, _, (refl, refl), (_, _, _, (refl, refl), (_, _, _, (refl, refl), (_, _, _, (refl, refl), (_, _, _, (refl, refl), (_, _, _, (refl, refl), (_, _, _, (refl, refl), (_, _, _, (_, record { journal = journal 4096 run.history run.memory jobs 2 500 100000 400; order = order 4096 run.history run.memory jobs 2 500 100000 400; ends = (ran 4096 run.history run.memory jobs 2 500 100000 400).ends; full = false; is_round = serial_is_round 4096 run.history run.memory jobs 2 500 100000 400 true checked; after = refl; printed = refl }, refl), (_, _, _, (_, refl, refl, refl), (_, _, _, (_, refl, refl, refl), (_, _, _, (_, refl, refl, refl), (_, _, _, (_, refl, refl, refl), (refl, refl), refl), refl), refl), refl), refl), refl), refl), refl), refl), refl), refl), refl), refl), refl), refl), refl), refl), refl), refl), refl), refl), refl), refl), refl), refl), refl), refl), refl))
