-- A token may go to another thread, and a baton may be shared.
use denote.RattleType.{RattleType}
use denote.Param.Send.{IsSend, IsSync, sendable}
use denote.Param.SendFields.{declared_send, declared_sync, as_row_send, as_row_sync}
use Rattle.std.proofs.Crossing.{crosses, send, sync, frees}
use Rattle.std.specs.contracts.option.Option as option
use Rattle.std.specs.contracts.alloc.Global as heap
use Rattle.std.specs.contracts.impls.GlobalAllocator.TheImpl.{ghosts as allocs}
use Rattle.atomic_table.specs.contracts.shared.Seat as seat
use Rattle.atomic_table.proofs.shared.Seat.TheSendSync as seats
use Rattle.crossbeam_queue.specs.contracts.array_queue.Doing as doing
use Rattle.crossbeam_queue.specs.contracts.array_queue.Turns as turns
use Rattle.crossbeam_queue.specs.contracts.array_queue.TurnsTableRuleOptionDoingUnit.TheImpl as rules
use Rattle.crossbeam_queue.specs.contracts.array_queue.Slotted as slotted
use Rattle.crossbeam_queue.proofs.array_queue.Slotted.TheSendSync as queues
use Rattle.km_core.specs.contracts.events.Core as core
use Rattle.km_core.proofs.events.Core.TheSendSync as cores
use Rattle.km_tree.specs.contracts.tree.TreeMap as tree
use Rattle.km_tree.proofs.tree.TreeMap.TheSendSync as trees
use Rattle.km_tree.specs.contracts.tree.TreeMapObjectMap.TheImpl as maps
use Rattle.km_live_map.specs.contracts.booked.Booked as booked
use Rattle.km_live_map.specs.contracts.booked.Booked.TheInside as book
use Rattle.km_live_map.specs.contracts.baton.Baton.TheInside as queued
use Rattle.km_rounds.proofs.entry.Entry.TheSendSync as entries
use Rattle.km_live_map.specs.contracts.known.Known as known
use Rattle.km_live_map.specs.contracts.rule.OneBook as one_book
use Rattle.km_live_map.specs.contracts.rule.OneBookProtocolBookedKnown.TheImpl as protocols
use Rattle.km_live_map.specs.contracts.baton.Token as token
use Rattle.km_live_map.specs.contracts.baton.Baton as baton

abbrev Slot : RattleType
Slot = option.the_row booked.the_row

abbrev Knows : RattleType
Knows = doing.the_row booked.the_row known.the_row

core_send : IsSend (core.the_row tree.the_row maps.ghosts)
core_send = cores.the_send tree.the_row maps.ghosts trees.the_send

book_send : IsSend book.the_row
book_send = declared_send book.the_type (search (sendable, crosses, core_send) depth 20, (search (sendable, crosses, entries.the_send) depth 20, (search sendable, (search (sendable, crosses) depth 20, tt))))

booked_send : IsSend booked.the_row
booked_send = search (sendable, book_send) depth 20

slot_send : IsSend Slot
slot_send = search (sendable, booked_send) depth 20

pass_send : IsSend (seat.the_row Slot Knows)
pass_send = seats.the_send Slot Knows slot_send

queued_sync : IsSync queued.the_row
queued_sync = declared_sync queued.the_type
    (as_row_sync (slotted.the_field Slot Knows (turns.the_row one_book.the_row) heap.the_row (rules.ghosts booked.the_row known.the_row one_book.the_row protocols.ghosts protocols.dict) allocs) (queues.the_field_sync Slot Knows (turns.the_row one_book.the_row) heap.the_row (rules.ghosts booked.the_row known.the_row one_book.the_row protocols.ghosts protocols.dict) allocs slot_send send sync frees), tt)

pub token_send : IsSend token.the_row
token_send = search (sendable, pass_send) depth 20

pub baton_sync : IsSync baton.the_row
baton_sync = search (sendable, queued_sync) depth 20
