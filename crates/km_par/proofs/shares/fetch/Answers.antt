use Rattle.std.proofs.Common.{◌++◌, length, sym, ap, ◌∙◌, arith}
use Rattle.std.specs.List.{flat_map}
use Rattle.km_par.specs.Loaders.{LoaderOf}
use Rattle.km_par.proofs.Runs.{as_many, joined, stepped}
use Rattle.km_chunks.specs.Loads.{words_of}
use Rattle.km_par.proofs.shares.fetch.Goals as goal

pub gather-requires : goal.gather-requires
gather-requires g c =
    let none = ap (λ o. length o.loads) c.begin.ensures in
    let many = as_many c.args.at.now _ c.args.loaders.now c.load_shares.new.loaders c.load_shares.ensures c.plan-threads.ensures.2 in
    let few = c.requires.few in
    omega (arith, none, many, few)

pub returns : goal.returns
returns g c =
    let shares = flat_map (λ (l : LoaderOf). l.share) c.load_shares.new.loaders in
    let loads = ap (λ o. o.loads) c.gather.ensures ∙ ap (λ o. o.loads ++ shares) c.begin.ensures in
    record {
      size = ap (λ o. o.size) c.gather.ensures ∙ (ap (λ o. o.size) c.begin.ensures ∙ c.words.ensures);
      words = ap words_of loads ∙ joined c.args.at.now _ c.args.loaders.now c.load_shares.new.loaders c.load_shares.ensures c.plan-threads.ensures.2;
      shares = sym loads;
      stepped = stepped c.args.at.now _ c.args.loaders.now c.load_shares.new.loaders c.load_shares.ensures;
    }
