use Rattle.std.proofs.Common.{◌≡◌, true, length, length-set, sym, ap, ◌∙◌, subst, arith}
use Rattle.km_links.specs.Chains.{Lists, is_in}
use Rattle.km_track.specs.Slots.{slot_at, slot_started, started_slots, started_queue}
use Rattle.km_track.proofs.Starts.{behind_in, from_step}
use Rattle.km_track.proofs.slots.start_all.Goals as goal

pub start-is_root-requires : goal.start-is_root-requires
start-is_root-requires c =
    let i = c.loop-next.invariant in
    omega (arith, i.long, c.requires.within c.in-Some.n (subst (λ ns. is_in c.in-Some.n ns ≡ true) i.order (i.at c.in-Some.n c.in-Some.is)))

pub requeue-requires : goal.requeue-requires
requeue-requires c =
    let i = c.loop-next.invariant in
    record { table = omega (arith, i.table, c.requires.table c.in-Some.n (subst (λ ns. is_in c.in-Some.n ns ≡ true) i.order (i.at c.in-Some.n c.in-Some.is))) }

pub loop-next-smaller : goal.loop-next-smaller
loop-next-smaller c =
    let i = c.loop-next.invariant in
    let e = from_step c.loop-next.next c.in-Some.n c.loop-next.links.order i.distinct (i.at c.in-Some.n c.in-Some.is) c.in-Some.is in
    rw (c.next-next.ensures, c.requeue.ensures) (omega (arith, ap length e))

pub loop-next-preserved : goal.loop-next-preserved
loop-next-preserved c =
    let i = c.loop-next.invariant in
    let e = from_step c.loop-next.next c.in-Some.n c.loop-next.links.order i.distinct (i.at c.in-Some.n c.in-Some.is) c.in-Some.is in
    record {
      distinct = rw c.requeue.ensures i.distinct;
      at = λ n f. behind_in c.in-Some.n n c.requeue.new.links.order (sym c.next-next.ensures ∙ f);
      items = rw (c.next-next.ensures, c.requeue.ensures, c.start-is_root.ensures.items) (subst (λ ns. started_slots c.loop-next.slots.items ns ≡ started_slots c.args.slots.now.items c.args.links.now.order) e i.items);
      lists = rw (c.next-next.ensures, c.requeue.ensures, c.start-is_root.ensures.items, c.start-is_root.ensures.answer) (subst (λ ns. ◌≡◌ {A = Lists} (record c.loop-next.links { grey = started_queue c.loop-next.slots.items c.loop-next.links.grey ns }) (record c.args.links.now { grey = started_queue c.args.slots.now.items c.args.links.now.grey c.args.links.now.order })) e i.lists);
      order = rw c.requeue.ensures i.order;
      table = rw c.requeue.ensures i.table;
      long = ap length c.start-is_root.ensures.items ∙ (length-set c.loop-next.slots.items c.in-Some.n (slot_started (slot_at c.loop-next.slots.items c.in-Some.n)) ∙ i.long);
      capacity = c.start-is_root.ensures.capacity ∙ i.capacity;
    }
