use Rattle.std.proofs.Common.{◌≡◌, List, ℕ, Option, Some, None, Bor, option_map, refl, ap, ◌∙◌}
use Rattle.std.specs.Option.{is_some}
use Rattle.km_base.specs.Prefix.{bytes_of}
use Rattle.km_base.proofs.Prefix.{whole}
use Rattle.km_base.proofs.compare.is.Goals as goal

some_bytes : (o : Option (Bor (List ℕ))) → is_some o ≡ is_some (option_map bytes_of o)
some_bytes None = refl
some_bytes (Some rest) = refl

pub returns-then-word-keyword : goal.returns-then-word-keyword
returns-then-word-keyword c =
    c.is_some.ensures
    ∙ some_bytes c.behind.result
    ∙ ap is_some c.behind.ensures
    ∙ whole c.args.keyword.now c.args.word.now c.if-word-keyword.true
