use Rattle.km_rounds.specs.Journals.{loads_in}
use Rattle.km_live_workers.proofs.Stays.{stays}
use Rattle.km_live_workers.proofs.seats.Seat.scan.Goals as goal

pub returns : goal.returns
returns g c =
    let made = c.scan.ensures.0 in
    record { seat = stays c.args.self.now.words c.scan.new.words c.args.self.now.book c.scan.new.acts (loads_in made.entries) made.stepped made.same; made = made; scan = c.scan.ensures.1 }
