use Rattle.std.proofs.Common.{◌≡◌, false, map, not, bytes_eq, ap, sym, subst, ◌∙◌}
use Rattle.std.proofs.lemmas.List.Kept.{AllPairs-filter}
use Rattle.km_model.specs.Tasks.{Task}
use Rattle.km_tasks.specs.Lives.{task, AreNamed, AreNumbered}
use Rattle.km_tasks.proofs.Names.{is_at, gone_at}
use Rattle.km_tasks.proofs.Numbers.{numbered_filter}
use Rattle.km_tasks.proofs.tasks.remove_at.Goals as goal

pub returns-clause-gone : goal.returns-clause-gone
returns-clause-gone c =
    ap (map task) c.remove.ensures.items ∙ gone_at c.args.lives.now.items c.args.name c.args.i (is_at c.args.lives.now.items c.args.name c.args.i c.remove.result c.requires.names c.requires.place)

pub returns-clause-names : goal.returns-clause-names
returns-clause-names c =
    subst AreNamed (sym (ap (map task) c.remove.ensures.items ∙ gone_at c.args.lives.now.items c.args.name c.args.i (is_at c.args.lives.now.items c.args.name c.args.i c.remove.result c.requires.names c.requires.place)))
    (AllPairs-filter (λ (t u : Task). bytes_eq u.name t.name ≡ false) (λ (t : Task). not (bytes_eq t.name c.args.name)) (map task c.args.lives.now.items) c.requires.names)

pub returns-clause-numbers : goal.returns-clause-numbers
returns-clause-numbers c = λ high numbered.
    subst (λ ts. AreNumbered 0 ts high) (sym (ap (map task) c.remove.ensures.items ∙ gone_at c.args.lives.now.items c.args.name c.args.i (is_at c.args.lives.now.items c.args.name c.args.i c.remove.result c.requires.names c.requires.place)))
    (numbered_filter 0 high (λ (t : Task). not (bytes_eq t.name c.args.name)) (map task c.args.lives.now.items) numbered)
