-- What a job is to the definitions.
use Rattle.km_live_model.specs.Rounds.{Job}
use Rattle.km_live_workers.specs.declared.workers.Job.{Job as Task}

-- a job, as the definitions see it
abbrev pub job_of : Task → Job
job_of t = record { task = t.task; registers = t.regs; lines = t.lines.items }
