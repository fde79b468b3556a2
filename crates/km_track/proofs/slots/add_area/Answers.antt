use Rattle.std.proofs.Common.{ℕ, ◌≡◌, Ok, Err, refl, ap, set, if◌then◌else◌}
use Rattle.std.specs.Prelude.{OnOk, is_ok}
use Rattle.km_record.specs.Records.{block_of, with_area}
use Rattle.km_track.specs.Slots.{IsWithArea}
use Rattle.km_track.proofs.Searches.{read}
use Rattle.km_track.proofs.Writes.{sound_with}
use Rattle.km_track.specs.declared.slots.Slot.{Slot}
use Rattle.km_track.proofs.slots.add_area.Goals as goal

pub returns-clause-items : goal.returns-clause-items
returns-clause-items c =
    let same = read c.args.slots.now.items c.args.n c.index_mut.result.now c.requires.within c.index_mut.ensures.value in
    elim c.add_area.result as (λ r. ((id : ℕ) → block_of id c.add_area.new.self ≡ (if is_ok r then with_area c.args.area.start.0 c.args.area.size (block_of id c.index_mut.result.now.«record») else block_of id c.index_mut.result.now.«record»)) → OnOk r (IsWithArea c.args.area c.args.slots.now.items (set c.args.slots.now.items c.args.n (record { generation = c.index_mut.result.now.generation; «record» = c.add_area.new.self })) c.args.n)) [
      | Ok u ↦ λ b. record { after = record { generation = c.index_mut.result.now.generation; «record» = c.add_area.new.self }; items = refl; id = ap (λ (y : Slot). y.generation) same; others = rw (← same) c.add_area.ensures.others; block = λ id. rw (← same) (b id); sound = sound_with c.index_mut.result.now.«record» _ (rw same c.requires.sound) c.add_area.ensures.others c.add_area.ensures.laid }
      | Err f ↦ λ _. tt
    ] c.add_area.ensures.block
