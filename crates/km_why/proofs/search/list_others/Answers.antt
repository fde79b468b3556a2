use Rattle.std.proofs.Common.{◌∙◌, ◌==◌, sym, refl, ap, arith}
use Rattle.km_why.proofs.Listed.{has_place}
use Rattle.km_why.proofs.Sought.{by_key, can_after, fewer_left, keeps_same, keeps_then, key_number, other_found, other_goes_on, other_next, others_begin, others_end}
use Rattle.km_why.proofs.Walks.{memory_same, told_same, told_then}
use Rattle.km_why.proofs.search.list_others.Goals as goal

pub loop-id-init : goal.loop-id-init
loop-id-init g c = (told_same _, keeps_same _, λ stacks h. others_begin _ stacks _ _ _ h)

pub append-requires-clause-can : goal.append-requires-clause-can
append-requires-clause-can g c = can_after _ _ _ c.requires.can c.loop-id.invariant.0

pub append-requires-clause-next : goal.append-requires-clause-next
append-requires-clause-next g c =
    let at = c.loop-id.invariant.2 c.requires.roots.stacks c.requires.roots.roots in
    let k = c.in-Some.ensures.taken _ _ _ _ c.requires.can.rising at.state.waiting in
    record {
      stacks = c.requires.roots.stacks;
      listed = at.members;
      it = k.first.it;
      there = by_key c.args.track.now _ _ c.requires.can.rising k.first.there k.first.its;
      state = other_next _ _ _ _ _ c.requires.can.rising at _ (memory_same _ _ c.loop-id.invariant.0) _ _ _ _ k _ refl refl refl refl refl refl refl;
    }

pub loop-id-smaller : goal.loop-id-smaller
loop-id-smaller g c =
    let at = c.loop-id.invariant.2 c.requires.roots.stacks c.requires.roots.roots in
    let k = c.in-Some.ensures.taken _ _ _ _ c.requires.can.rising at.state.waiting in
    fewer_left _ _ _ _ _ c.requires.can.told.whole c.append.ensures.len at.state.len
    (has_place _ _ _ _ at.members k.first.it c.requires.can.rising c.requires.can.spread.some k.first.there
    (other_next _ _ _ _ _ c.requires.can.rising at _ refl _ _ _ _ k (record c.loop-id.search { waiting = c.take_first.new.waiting }) refl refl refl refl refl refl refl))

pub loop-id-preserved : goal.loop-id-preserved
loop-id-preserved g c = (
  told_then _ _ _ c.loop-id.invariant.0 c.append.ensures.told,
  keeps_then _ c.loop-id.search _ c.loop-id.invariant.1
      (keeps_then _ (record c.loop-id.search { waiting = c.take_first.new.waiting }) _ (record { counts = refl; waiting = (let e = c.in-Some.ensures.capacity in omega (arith, e)); members = refl }) c.append.ensures.places),
  λ stacks h.
      let at = c.loop-id.invariant.2 stacks h in
      let k = c.in-Some.ensures.taken _ _ _ _ c.requires.can.rising at.state.waiting in
      let was = other_next _ _ _ _ _ c.requires.can.rising at _ (memory_same _ _ c.loop-id.invariant.0) _ _ _ _ k (record c.loop-id.search { waiting = c.take_first.new.waiting }) refl refl refl refl refl refl refl in
      let done = c.append.ensures.listed stacks at.members k.first.it (by_key c.args.track.now _ _ c.requires.can.rising k.first.there k.first.its) was in
      other_goes_on _ _ _ _ _ c.requires.can.rising at _ (memory_same _ _ c.loop-id.invariant.0) _ k.first c.append.new.search
      (ap (λ n. n == c.args.sought.generation) (key_number _ k.first.it k.first.its) ∙ sym c.append.ensures.answer ∙ c.if-append.false) (done.state c.if-append.false),
)

pub returns-then-append-clause-answer : goal.returns-then-append-clause-answer
returns-then-append-clause-answer g c = λ stacks h.
    let at = c.loop-id.invariant.2 stacks h in
    let k = c.in-Some.ensures.taken _ _ _ _ c.requires.can.rising at.state.waiting in
    let was = other_next _ _ _ _ _ c.requires.can.rising at _ (memory_same _ _ c.loop-id.invariant.0) _ _ _ _ k (record c.loop-id.search { waiting = c.take_first.new.waiting }) refl refl refl refl refl refl refl in
    let done = c.append.ensures.listed stacks at.members k.first.it (by_key c.args.track.now _ _ c.requires.can.rising k.first.there k.first.its) was in
    other_found _ _ _ _ _ c.requires.can.rising at _ (memory_same _ _ c.loop-id.invariant.0) _ k.first c.append.new.search
    (ap (λ n. n == c.args.sought.generation) (key_number _ k.first.it k.first.its) ∙ sym c.append.ensures.answer ∙ c.if-append.true) done.told

pub returns-clause-answer : goal.returns-clause-answer
returns-clause-answer g c = λ stacks h.
    let at = c.loop-id.invariant.2 stacks h in
    others_end _ _ _ _ _ c.requires.can.rising at _ (memory_same _ _ c.loop-id.invariant.0) (c.in_default.ensures.none _ _ _ at.state.waiting)
