use Rattle.std.proofs.Common.{refl, subst}
use Rattle.km_live_words.specs.Hands.{told_of}
use Rattle.km_workers.specs.Workers.{IsCourse, standing}
use Rattle.km_live_workers.specs.AtBooks.{acting_of}
use Rattle.km_live_workers.specs.Runs.{HasRun, Working}
use Rattle.km_live_workers.proofs.Stays.{stays}
use Rattle.km_live_workers.proofs.workers.Worker.run.Goals as goal

pub returns : goal.returns
returns g c =
    let old = c.self.inside in
    let words = c.run.new.self.words in
    let stand = standing c.run.new.self.registers c.run.new.self.full in
    let new : Working = record { words = words; book = c.run.new.acts; stand = stand; task = old.task; lines = old.lines.items } in
    let f = c.run.ensures.course in
    subst (λ v. HasRun v new) c.self.view_is (record {
      seat = stays old.mutator.words words old.book c.run.new.acts f.steps f.stepped f.same;
      job = (refl, refl);
      course = subst (λ lines. IsCourse (acting_of old.book) (acting_of c.run.new.acts) (told_of old.mutator.words) (told_of words) (standing old.mutator.registers old.mutator.full) stand lines) c.as_slice.ensures.value f;
      full = c.run.ensures.full;
    })
