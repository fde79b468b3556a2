use Rattle.std.proofs.Common.{◌*◌, sym, ap, ◌∙◌, arith}
use Rattle.km_pages.specs.Uses.{use_of}
use Rattle.km_slab.proofs.large.take_large.Goals as goal

pub returns-clause-laid : goal.returns-clause-laid
returns-clause-laid c = λ used x laid kind size start.
    let pages = c.pages_needed-count.ensures.pages in
    let some = c.pages_needed-count.ensures.some c.requires.some in
    c.in-Ok.ensures.laid used x laid (record {
      its_use = sym (ap use_of kind);
      start = start;
      long = omega (arith, size, pages, some);
      fits = omega (arith, size, pages);
      whole = λ e. size ∙ ap (λ n. 4096 * n) (sym pages);
    })
