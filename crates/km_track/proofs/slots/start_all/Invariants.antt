use Rattle.std.proofs.Common.{ℕ, ◌≡◌, length, vec_capacity, true, Some}
use Rattle.km_links.specs.Chains.{Lists, is_in, IsDistinct}
use Rattle.km_track.specs.Slots.{started_slots, started_queue}
use Rattle.km_track.proofs.Starts.{from}
use Rattle.km_track.proofs.slots.start_all.Given as goal

abbrev pub invariant-loop-next : goal.invariant-loop-next
invariant-loop-next l = record {
  distinct : IsDistinct l.links.order;
  at : (n : ℕ) → l.next ≡ Some n → is_in n l.links.order ≡ true;
  items : started_slots l.slots.items (from l.next l.links.order) ≡ started_slots l.initial.slots.items l.initial.links.order;
  lists : ◌≡◌ {A = Lists} (record l.links { grey = started_queue l.slots.items l.links.grey (from l.next l.links.order) }) (record l.initial.links { grey = started_queue l.initial.slots.items l.initial.links.grey l.initial.links.order });
  order : l.links.order ≡ l.initial.links.order;
  table : l.links.capacity ≡ l.initial.links.capacity;
  long : length l.slots.items ≡ length l.initial.slots.items;
  capacity : vec_capacity l.slots ≡ vec_capacity l.initial.slots;
}

abbrev pub decreases-loop-next : goal.decreases-loop-next
decreases-loop-next l = length (from l.next l.links.order)
