use Rattle.km_vmalloc.proofs.parts.give_head.Goals as goal

pub unreachable-requires : goal.unreachable-requires
unreachable-requires c = let e = (c.in-Err.ensures.live 64 c.requires.live).1 in cc

pub returns-clause-loses : goal.returns-clause-loses
returns-clause-loses c = (c.in-Ok.ensures.live 64 c.requires.live).0.1

pub returns-clause-others : goal.returns-clause-others
returns-clause-others c = c.in-Ok.ensures.small 64 c.requires.live
