-- A worker may go to another thread, where the runtime and the gate may be shared.
use denote.RattleType.{RattleType}
use denote.Ref.{NamedLft}
use denote.Param.Send.{IsSend, IsSync, sendable, shr_send, view_send, fixed_send}
use denote.Param.SendFields.{declared_send}
use Rattle.std.proofs.Crossing.{crosses}
use Rattle.km_live_map.proofs.Crossing.{token_send, baton_sync}
use Rattle.km_base.specs.contracts.names.Name as name
use Rattle.km_base.specs.contracts.names.Name.TheInside as letters
use Rattle.km_base.specs.declared.names.Name.TheView as seen
use Rattle.km_workers.specs.contracts.mutator.Mutator as mutator
use Rattle.km_workers.proofs.mutator.Mutator.TheSendSync as mutators
use Rattle.km_live_model.proofs.jobs.JobLine.TheSendSync as lines
use Rattle.km_live_workers.proofs.gated.Gated.TheSendSync as gates
use Rattle.km_live_workers.specs.contracts.at_book.AtBook as at_book
use Rattle.km_live_workers.specs.contracts.at_book.AtBook.TheInside as inside
use Rattle.km_live_workers.specs.contracts.gated.Gated as gated
use Rattle.km_live_workers.specs.contracts.seats.Seat as seat
use Rattle.km_live_workers.specs.contracts.threads.Scanner as scanner
use Rattle.km_live_workers.specs.contracts.workers.Worker as worker
use Rattle.km_live_workers.specs.contracts.workers.Worker.TheInside as working

book_send : (a : NamedLft) (R : RattleType) → IsSync R → IsSend (inside.the_row a R)
book_send a R shared = declared_send (inside.the_type a R) (shr_send _ _ _ shared, (shr_send _ _ _ baton_sync, (token_send, (search sendable, tt))))

pub at_book_send : (a : NamedLft) (R : RattleType) → IsSync R → IsSend (at_book.the_row a R)
at_book_send a R shared = view_send _ _ _ _ _ (book_send a R shared)

gated_send : (a : NamedLft) (G : RattleType) → IsSync G → IsSend (gated.the_row a G)
gated_send a G gate = gates.the_send a G gate

mutator_send : (a : NamedLft) (G : RattleType) → IsSync G → IsSend (mutator.the_row (gated.the_row a G))
mutator_send a G gate = mutators.the_send (gated.the_row a G) (gated_send a G gate)

name_send : IsSend name.the_row
name_send = fixed_send _ _ _ _ seen.view seen.invariant (declared_send letters.the_type (search sendable depth 10, (search sendable depth 10, tt)))

worker_inside : (a : NamedLft) (R G : RattleType) → IsSync R → IsSync G → IsSend (working.the_row a R G)
worker_inside a R G shared gate = declared_send (working.the_type a R G) (mutator_send a G gate, (at_book_send a R shared, (name_send, (search (sendable, crosses, lines.the_send) depth 20, tt))))

pub worker_send : (a : NamedLft) (R G : RattleType) → IsSync R → IsSync G → IsSend (worker.the_row a R G)
worker_send a R G shared gate = view_send _ _ _ _ _ (worker_inside a R G shared gate)

seat_send : (a : NamedLft) (R G : RattleType) → IsSync R → IsSync G → IsSend (seat.the_row a R G)
seat_send a R G shared gate = declared_send (seat.the_type a R G) (gated_send a G gate, (at_book_send a R shared, tt))

pub scanner_send : (a : NamedLft) (R G : RattleType) → IsSync R → IsSync G → IsSend (scanner.the_row a R G)
scanner_send a R G shared gate = declared_send (scanner.the_type a R G) (seat_send a R G shared gate, (search sendable, (search sendable, (search sendable, tt))))
