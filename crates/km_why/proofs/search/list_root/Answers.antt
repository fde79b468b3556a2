use Rattle.std.proofs.Common.{◌∙◌, sym}
use Rattle.km_why.proofs.Appended.{root_listed, root_next}
use Rattle.km_why.proofs.search.list_root.Goals as goal

pub append-requires-clause-next : goal.append-requires-clause-next
append-requires-clause-next g c = record {
  stacks = c.requires.next.stacks;
  listed = c.requires.next.roots;
  it = c.requires.next.it;
  there = c.requires.next.there;
  state = root_next _ _ _ c.in-Some.block.now c.requires.can c.in-Some.ensures.block _ _ _ _ c.requires.next.there c.requires.next.state (sym c.is_root.ensures ∙ c.if-not-is_root.false) c.requires.next.new;
}

pub returns-clause-listed : goal.returns-clause-listed
returns-clause-listed g c = λ stacks roots l there new h.
    root_listed _ _ _ c.in-Some.block.now c.requires.can c.in-Some.ensures.block _ stacks roots l there h _ _ (sym c.is_root.ensures ∙ c.if-not-is_root.false)
    (c.append.ensures.listed stacks roots l there (root_next _ _ _ c.in-Some.block.now c.requires.can c.in-Some.ensures.block _ stacks roots l there h (sym c.is_root.ensures ∙ c.if-not-is_root.false) new))
