use Rattle.std.proofs.Common.{map, slice_set, ap, sym, subst}
use Rattle.km_tasks.specs.Lives.{task, AreNamed, AreNumbered}
use Rattle.km_tasks.proofs.Names as names
use Rattle.km_tasks.proofs.Numbers.{numbered_set}
use Rattle.km_tasks.proofs.tasks.set_at.Goals as goal

pub returns-clause-set : goal.returns-clause-set
returns-clause-set c =
    names.set_at c.args.lives.now.items c.args.name c.args.i c.args.reg c.args.value c.index_mut-live.result.now _
    (names.is_at c.args.lives.now.items c.args.name c.args.i c.index_mut-live.result.now c.requires.names c.requires.place) c.index_mut-live.ensures.value
    (ap (λ k. record (task c.index_mut-live.result.now) { registers = slice_set c.index_mut-live.result.now.registers k c.args.value }) c.place.ensures.place)

pub returns-clause-names : goal.returns-clause-names
returns-clause-names c =
    subst AreNamed (sym (names.set_at c.args.lives.now.items c.args.name c.args.i c.args.reg c.args.value c.index_mut-live.result.now _
    (names.is_at c.args.lives.now.items c.args.name c.args.i c.index_mut-live.result.now c.requires.names c.requires.place) c.index_mut-live.ensures.value
    (ap (λ k. record (task c.index_mut-live.result.now) { registers = slice_set c.index_mut-live.result.now.registers k c.args.value }) c.place.ensures.place)))
    (names.named_set (map task c.args.lives.now.items) c.args.name c.args.reg c.args.value c.requires.names)

pub returns-clause-numbers : goal.returns-clause-numbers
returns-clause-numbers c = λ high numbered.
    subst (λ ts. AreNumbered 0 ts high) (sym (names.set_at c.args.lives.now.items c.args.name c.args.i c.args.reg c.args.value c.index_mut-live.result.now _
    (names.is_at c.args.lives.now.items c.args.name c.args.i c.index_mut-live.result.now c.requires.names c.requires.place) c.index_mut-live.ensures.value
    (ap (λ k. record (task c.index_mut-live.result.now) { registers = slice_set c.index_mut-live.result.now.registers k c.args.value }) c.place.ensures.place)))
    (numbered_set 0 high (map task c.args.lives.now.items) c.args.name c.args.reg c.args.value numbered)
