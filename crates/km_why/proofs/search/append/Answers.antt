use Rattle.std.proofs.Common.{◌∙◌, sym}
use Rattle.km_model.proofs.Cases.{elim_false, none_some}
use Rattle.km_why.proofs.Appended.{can_count, can_push, counted_now, has_places, have_members, is_laid, is_low, is_within, told_now}
use Rattle.km_why.proofs.search.append.Goals as goal

pub unreachable-requires : goal.unreachable-requires
unreachable-requires g c = none_some c.requires.next.it (c.in_default.ensures.block ∙ c.requires.next.there)

pub member_of-member-requires-clause-low : goal.member_of-member-requires-clause-low
member_of-member-requires-clause-low g c = is_low _ _ _ c.in-Some.block.now c.requires.can c.in-Some.ensures.block

pub member_of-member-requires-clause-within : goal.member_of-member-requires-clause-within
member_of-member-requires-clause-within g c = is_within _ _ _ c.in-Some.block.now c.requires.can c.in-Some.ensures.block _ _ _ _ c.requires.next.there c.requires.next.state

pub push_reserved-requires : goal.push_reserved-requires
push_reserved-requires g c = can_push _ _ _ c.in-Some.block.now c.requires.can c.in-Some.ensures.block _ _ _ _ c.requires.next.there c.requires.next.state

pub count_block-requires-clause-within : goal.count_block-requires-clause-within
count_block-requires-clause-within g c = (is_laid _ _ _ c.in-Some.block.now c.requires.can c.in-Some.ensures.block).0

pub count_block-requires-clause-aligned : goal.count_block-requires-clause-aligned
count_block-requires-clause-aligned g c = (is_laid _ _ _ c.in-Some.block.now c.requires.can c.in-Some.ensures.block).1

pub count_block-requires-clause-can : goal.count_block-requires-clause-can
count_block-requires-clause-can g c = record {
  told = c.requires.can.told;
  spread = c.requires.can.spread;
  long = has_places _ _ _ c.in-Some.block.now c.requires.can c.in-Some.ensures.block _ _ _ _ c.requires.next.there c.requires.next.state;
  room = can_count _ _ _ c.in-Some.block.now c.requires.can c.in-Some.ensures.block _ _ _ _ c.requires.next.there c.requires.next.state;
  waits = have_members _ _ _ c.in-Some.block.now c.requires.can c.in-Some.ensures.block _ _ _ _ c.requires.next.there c.requires.next.state;
}

pub returns-clause-listed : goal.returns-clause-listed
returns-clause-listed g c = λ stacks listed l there h.
    let told = told_now _ _ _ c.in-Some.block.now c.requires.can c.in-Some.ensures.block _ stacks listed l there h c.member_of-member.result c.member_of-member.ensures _ c.push_reserved.ensures.items in
    record {
      told = told;
      state = λ _.
          counted_now _ _ _ c.in-Some.block.now c.requires.can c.in-Some.ensures.block _ stacks listed l there h _ (c.count_block.ensures.counted _ h.table) (c.count_block.ensures.waits _ h.waiting) told
          c.push_reserved.ensures.len c.push_reserved.ensures.capacity c.count_block.ensures.long;
    }

pub returns-then-id-sought-clause-listed : goal.returns-then-id-sought-clause-listed
returns-then-id-sought-clause-listed g c = λ stacks listed l there h. record {
  told = told_now _ _ _ c.in-Some.block.now c.requires.can c.in-Some.ensures.block _ stacks listed l there h c.member_of-member.result c.member_of-member.ensures _ c.push_reserved.ensures.items;
  state = λ e. absurd (elim_false (sym e));
}
