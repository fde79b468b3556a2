use Rattle.std.proofs.Common.{false, ◌≡◌, refl, sym}
use Rattle.km_model.specs.Placement.{Allocation, is_slab_block}
use Rattle.km_vmalloc.specs.Areas.{is_part}
use Rattle.km_hosts.proofs.Opening.{all_one, opened}
use Rattle.km_hosts.proofs.hosts.Hosts.new.Goals as goal

pub returns-clause-held : goal.returns-clause-held
returns-clause-held c = record {
  laid = opened c.take.result c.in_ok-held.held c.take.new.self c.args.pages c.requires.some c.in_ok-held.ensures.free c.in_ok-held.ensures.size c.take.ensures.place_among c.take.ensures.laid;
  blocks = c.in_ok-slab.ensures.blocks _ (all_one (λ (x : Allocation). is_slab_block x ≡ false) _ refl);
  areas = c.in_ok-vmalloc.ensures.areas _ (all_one (λ (x : Allocation). is_part x ≡ false) _ refl);
  sections = sym c.in_ok-sections.ensures;
}
