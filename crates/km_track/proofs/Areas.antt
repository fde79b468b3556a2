use Rattle.std.proofs.Common.{◌≡◌, ℕ, List, Option, Some, None, Ok, Err, refl, sym, ap, ◌∙◌}
use Rattle.km_base.specs.declared.spans.Span.{Span}
use Rattle.km_model.specs.Blocks.{contains}
use Rattle.km_state.specs.State.{Tracked, is_white_now}
use Rattle.km_map.specs.declared.entries.Entry.{Entry}
use Rattle.km_map.specs.Entries.{has_byte, slot_where}
use Rattle.km_record.specs.declared.kinds.AreaFault.{AreaFault}
use Rattle.km_record.specs.declared.record.Record.{Record}
use Rattle.km_record.specs.Records.{block_of, unless_fault, with_area}
use Rattle.km_track.specs.declared.slots.Slot.{Slot}
use Rattle.km_track.specs.Areas.{refusal_of, unless_refused}
use Rattle.km_track.specs.Slots.{IsWithArea, slot_at}
use Rattle.km_track.specs.Tracker.{Live, tracked_of}
use Rattle.km_track.specs.Holds.{Holds}
use Rattle.km_track.proofs.Members.{one_byte}
use Rattle.km_track.proofs.Searches.{where_some}
use Rattle.km_track.proofs.Writes.{Wrote, wrote}

-- an area is added

pub refused_as : (o : Option AreaFault) (f : AreaFault) → Err f ≡ unless_fault o → Err (refusal_of f) ≡ unless_refused o
refused_as None f e = absurd (let z : ⊥ = cc in z)
refused_as (Some g) f e = let same : f ≡ g = cc in ap (λ x. Err (refusal_of x)) same

pub done_as : (o : Option AreaFault) → Ok tt ≡ unless_fault o → Ok tt ≡ unless_refused o
done_as None e = refl
done_as (Some g) e = absurd (let z : ⊥ = cc in z)

pub wrote_area : (area : Span) (S T : List Slot) (order grey free : List ℕ) (es : List Entry) (reg n : ℕ) → Holds S order grey free es reg → Some n ≡ slot_where (has_byte area.start.0) es → IsWithArea area S T n
    → Wrote S T order grey free es reg (λ (l : Live). contains area.start.0 l.tracked.block) (λ (u : Tracked). record u { block = with_area area.start.0 area.size u.block })
wrote_area area S T order grey free es reg n h w a =
    let p = where_some S order grey free es reg (has_byte area.start.0) (λ (l : Live). contains area.start.0 l.tracked.block) n h (λ m. refl) (λ e f. one_byte area.start.0 es e f h.rising) w in
    let block = a.block a.after.generation ∙ ap (λ k. with_area area.start.0 area.size (block_of k (slot_at S n).«record»)) a.id in
    wrote S T order grey free es reg n a.after (λ (l : Live). contains area.start.0 l.tracked.block) (λ (u : Tracked). record u { block = with_area area.start.0 area.size u.block }) h p.0 a.items a.id (ap (λ (r : Record). r.span) a.others) a.sound
    (λ f. sym (ap (λ (r : Record). is_white_now (tracked_of 0 r)) a.others) ∙ f)
    (λ i. record { block = block i; count = (ap (λ (r : Record). r.count) a.others) i; kept = (ap (λ (r : Record). r.sum) a.others) i; flagged = (ap (λ (r : Record). r.flagged) a.others) i; white_last = (ap (λ (r : Record). r.white_last) a.others) i })
    p.2 p.3
