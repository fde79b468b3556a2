use Rattle.std.proofs.Common.{sym, ap, subst, ◌∙◌}
use Rattle.km_chunks.specs.Loads.{value_in}
use Rattle.km_par.specs.Loaders.{Ascending}
use Rattle.km_par.proofs.Loads.{placed, nowhere, ascending, given_at}
use Rattle.km_par.proofs.fetched.FetchedWords.load.Goals as goal

pub returns-then-loads-self-clause-given : goal.returns-then-loads-self-clause-given
returns-then-loads-self-clause-given c =
    let same = c.as_slice-loads.ensures.value in
    let a = c.args.a.0 in
    sym (ascending c.as_slice-loads.result.now a c.self.inside.next _ (subst Ascending (sym same) (c.self.invariant c.if-self.true)) c.if-self-loads.true c.if-loads-self.true)
    ∙ ap (λ loads. value_in loads a) (same ∙ ap (λ v. v.loads) c.self.view_is)
    ∙ sym (given_at c.args.self.now.size c.args.self.now.loads a c.requires)

pub returns-in-Some-clause-given : goal.returns-in-Some-clause-given
returns-in-Some-clause-given c =
    let same = c.as_slice-loads.ensures.value in
    let a = c.args.a.0 in
    sym (placed c.as_slice-loads.result.now a c.in-Some.i _ (sym c.place_of.ensures ∙ c.in-Some.is))
    ∙ ap (λ loads. value_in loads a) (same ∙ ap (λ v. v.loads) c.self.view_is)
    ∙ sym (given_at c.args.self.now.size c.args.self.now.loads a c.requires)

pub returns-in-None-clause-given : goal.returns-in-None-clause-given
returns-in-None-clause-given c =
    let same = c.as_slice-loads.ensures.value in
    let a = c.args.a.0 in
    sym (nowhere c.as_slice-loads.result.now a (sym c.place_of.ensures ∙ c.in-None.is))
    ∙ ap (λ loads. value_in loads a) (same ∙ ap (λ v. v.loads) c.self.view_is)
    ∙ sym (given_at c.args.self.now.size c.args.self.now.loads a c.requires)
