use Rattle.std.proofs.Common.{◌≡◌, ◌+◌, ◌∷◌, true, subst, sym, if◌then◌else◌}
use Rattle.std.specs.List.Sorted.{IsPermutation}
use Rattle.std.specs.BinaryHeap.{heap_capacity, heap_items, heap_len}
use Rattle.km_record.specs.Records.{minimum_of}
use Rattle.km_why.specs.Waiting.{AreWaiting, is_ripening, key_of, live_as}
use Rattle.km_why.proofs.Raised.{has_place, raised_waits}
use Rattle.km_why.proofs.waiting.raise_block.Goals as goal

pub returns-clause-waits : goal.returns-clause-waits
returns-clause-waits c live high members placed i w =
    subst (λ cs. AreWaiting live cs members (heap_items c.notice.new.waiting) (heap_len c.notice.new.waiting) (heap_capacity c.notice.new.waiting)) (sym c.raise-found.ensures.items)
    (raised_waits live high placed.rise c.args.counts.now.items (live_as c.args.id c.args.block.now) i c.requires.within
    (λ z j other e. other (placed.own z (live_as c.args.id c.args.block.now) j i e)) members (heap_items c.args.waiting.now) (heap_len c.args.waiting.now) (heap_capacity c.args.waiting.now) w
    (heap_items c.notice.new.waiting) (heap_len c.notice.new.waiting) (heap_capacity c.notice.new.waiting)
    (subst (λ n. IsPermutation (if is_ripening (minimum_of c.args.block.now.minimum) n then key_of c.args.id ∷ heap_items c.args.waiting.now else heap_items c.args.waiting.now) (heap_items c.notice.new.waiting)) c.raise-found.ensures.found c.notice.ensures.items)
    (subst (λ n. heap_len c.notice.new.waiting ≡ (if is_ripening (minimum_of c.args.block.now.minimum) n then heap_len c.args.waiting.now + 1 else heap_len c.args.waiting.now)) c.raise-found.ensures.found c.notice.ensures.len)
    c.notice.ensures.capacity c.notice.ensures.ordered)

pub notice-requires : goal.notice-requires
notice-requires c = record {
  room = λ e.
      has_place c.requires.room.live c.requires.room.high c.requires.room.placed.rise c.args.counts.now.items (live_as c.args.id c.args.block.now) c.requires.room.there c.requires.within
      (λ z j other same. other (c.requires.room.placed.own z (live_as c.args.id c.args.block.now) j c.requires.room.there same)) c.requires.room.members.members _ _ _ c.requires.room.members.waiting
      (subst (λ n. is_ripening (minimum_of c.args.block.now.minimum) n ≡ true) c.raise-found.ensures.found e);
}
