use Rattle.std.proofs.Common.{◌*◌, List, length, sym, subst}
use Rattle.km_edge.specs.Streams.{WritesAll}
use Rattle.km_model.specs.Follows.{Run, all_happen}
use Rattle.km_rounds.specs.declared.entry.Entry.{Entry}
use Rattle.km_live_workers.specs.declared.workers.Job.{Job as Task}
use Rattle.km_live.specs.Made.{HasMade}
use Rattle.km_machine.specs.Machines.{For, HasRoom, Spent}
use Rattle.km_live_machine.specs.RoundRuns.{MayRunRound, RunsRound, acts_of_jobs, told_text}
use Rattle.km_live_machine.proofs.Running.{book_of, machine_of, put_together, room_between, runs_round}
use Rattle.km_live_machine.proofs.rounds.run_round.Goals as goal

pub put_all_back-requires : goal.put_all_back-requires
put_all_back-requires g c =
    let m = machine_of c.into_parts-core.result.0 c.into_parts-core.result.1 in
    let tasks = c.args.jobs.items in
    let out = c.in_ok-book-2.field-0 in
    let may = subst (λ x. MayRunRound x tasks c.args.scans c.args.gap c.args.entries) {y = m} c.into_parts-core.ensures c.requires in
    let made = subst (λ b. HasMade b m.memory tasks c.args.scans c.args.gap out.book out.words out.jobs.items out.full) {y = book_of m c.args.entries} c.in_ok-book.ensures.book c.in_ok-book-2.ensures in
    let whole = put_together c.of_parts-machine.result c.into_core.result out.book.core out.words c.of_parts-machine.ensures c.into_core.ensures.core in
    subst (λ x. HasRoom x (4 * length c.as_slice.result.now) 0) (sym whole)
    (subst (λ (xs : List Task). HasRoom (machine_of out.book.core out.words) (4 * length xs) 0) (sym c.as_slice.ensures.value)
    (room_between m tasks c.args.scans c.args.gap c.args.entries out.book out.words out.jobs.items out.full made c.into_core.ensures.kept may))

pub returns-clause-ran : goal.returns-clause-ran
returns-clause-ran g c =
    let m = machine_of c.into_parts-core.result.0 c.into_parts-core.result.1 in
    let tasks = c.args.jobs.items in
    let out = c.in_ok-book-2.field-0 in
    let k = g.K.Sink.state c.args.sink.now in
    let k' = g.K.Sink.state c.round_text-written.new.sink in
    let next = c.put_all_back.new.machine in
    let may = subst (λ x. MayRunRound x tasks c.args.scans c.args.gap c.args.entries) {y = m} c.into_parts-core.ensures c.requires in
    let made = subst (λ b. HasMade b m.memory tasks c.args.scans c.args.gap out.book out.words out.jobs.items out.full) {y = book_of m c.args.entries} c.in_ok-book.ensures.book c.in_ok-book-2.ensures in
    let wrote = subst (λ (es : List Entry). WritesAll k k' (told_text es out.full) c.round_text-written.result) c.journal.ensures.journal c.round_text-written.ensures in
    let whole = put_together c.of_parts-machine.result c.into_core.result out.book.core out.words c.of_parts-machine.ensures c.into_core.ensures.core in
    let back =
    subst (λ x. (run : Run) → For x run → For next (all_happen run (acts_of_jobs out.jobs.items))) whole
    (subst (λ (xs : List Task). (run : Run) → For c.of_parts-machine.result run → For next (all_happen run (acts_of_jobs xs))) c.as_slice.ensures.value c.put_all_back.ensures.happens) in
    let spent =
    subst (λ x. Spent x next (4 * length out.jobs.items) 0) whole
    (subst (λ (xs : List Task). Spent c.of_parts-machine.result next (4 * length xs) 0) c.as_slice.ensures.value c.put_all_back.ensures.spent) in
    subst (λ x. RunsRound x tasks c.args.scans c.args.gap c.args.entries next k k' c.round_text-written.result) (sym c.into_parts-core.ensures)
    (runs_round m tasks c.args.scans c.args.gap c.args.entries out.book out.words out.jobs.items out.full made c.into_core.ensures.kept may next k k' c.round_text-written.result wrote back spent)
