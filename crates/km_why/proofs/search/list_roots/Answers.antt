use Rattle.km_why.proofs.Heads.{walk_begins}
use Rattle.km_why.proofs.Sought.{can_after, keeps_same, keeps_then, root_found, root_goes_on, root_is_new, root_state, roots_begin, roots_end, stop_smaller, stop_split, tour_stops}
use Rattle.km_why.proofs.Walks.{memory_same, told_same, told_then}
use Rattle.km_why.proofs.search.list_roots.Goals as goal

pub loop-next-init : goal.loop-next-init
loop-next-init g c = (
  told_same _,
  keeps_same _,
  walk_begins (λ _. 0) 0 _ _ c.first-next.ensures.first,
  λ stacks h. roots_begin _ stacks _ _ _ _ c.first-next.ensures.rising c.first-next.ensures.first h,
)

pub list_root-requires-clause-can : goal.list_root-requires-clause-can
list_root-requires-clause-can g c = can_after _ _ _ c.requires.can c.loop-next.invariant.0

pub list_root-requires-clause-next : goal.list_root-requires-clause-next
list_root-requires-clause-next g c =
    let stop = tour_stops c.args.track.now _ c.in-Some.id c.first-next.ensures.rising c.loop-next.invariant.2 c.in-Some.is in
    let at = c.loop-next.invariant.3 c.requires.begun.stacks c.requires.begun.state in
    record {
      stacks = c.requires.begun.stacks;
      roots = at.roots;
      it = stop.it;
      there = stop.there;
      new = root_is_new _ _ _ _ _ _ _ stop.it c.first-next.ensures.rising at stop.split _ (memory_same _ _ c.loop-next.invariant.0);
      state = root_state _ _ _ _ _ _ _ stop.it c.first-next.ensures.rising at stop.split _ (memory_same _ _ c.loop-next.invariant.0);
    }

pub next-next-requires : goal.next-next-requires
next-next-requires g c = (tour_stops c.args.track.now _ c.in-Some.id c.first-next.ensures.rising c.loop-next.invariant.2 c.in-Some.is).live

pub loop-next-smaller : goal.loop-next-smaller
loop-next-smaller g c =
    stop_smaller c.args.track.now _ _ c.in-Some.id (tour_stops c.args.track.now _ c.in-Some.id c.first-next.ensures.rising c.loop-next.invariant.2 c.in-Some.is) c.next-next.ensures

pub loop-next-preserved : goal.loop-next-preserved
loop-next-preserved g c =
    let stop = tour_stops c.args.track.now _ c.in-Some.id c.first-next.ensures.rising c.loop-next.invariant.2 c.in-Some.is in (
      told_then _ _ _ c.loop-next.invariant.0 c.list_root.ensures.told,
      keeps_then _ _ _ c.loop-next.invariant.1 c.list_root.ensures.places,
      stop.tour _ c.next-next.ensures,
      λ stacks h.
          let at = c.loop-next.invariant.3 stacks h in
          let split = stop_split c.args.track.now _ _ c.in-Some.id stop c.next-next.ensures in
          let new = root_is_new _ _ _ _ _ _ _ stop.it c.first-next.ensures.rising at split _ (memory_same _ _ c.loop-next.invariant.0) in
          let was = root_state _ _ _ _ _ _ _ stop.it c.first-next.ensures.rising at split _ (memory_same _ _ c.loop-next.invariant.0) in
          root_goes_on _ _ _ _ _ _ _ stop.it c.first-next.ensures.rising at split _ (memory_same _ _ c.loop-next.invariant.0) _ _ (c.list_root.ensures.answer stop.it stop.there) c.if-list_root.false
          (c.list_root.ensures.listed stacks at.roots stop.it stop.there new was),
    )

pub returns-then-list_root-clause-found : goal.returns-then-list_root-clause-found
returns-then-list_root-clause-found g c = λ stacks h _.
    let stop = tour_stops c.args.track.now _ c.in-Some.id c.first-next.ensures.rising c.loop-next.invariant.2 c.in-Some.is in
    let at = c.loop-next.invariant.3 stacks h in
    let new = root_is_new _ _ _ _ _ _ _ stop.it c.first-next.ensures.rising at stop.split _ (memory_same _ _ c.loop-next.invariant.0) in
    let was = root_state _ _ _ _ _ _ _ stop.it c.first-next.ensures.rising at stop.split _ (memory_same _ _ c.loop-next.invariant.0) in
    root_found _ _ _ _ _ _ _ stop.it c.first-next.ensures.rising at stop.split _ (memory_same _ _ c.loop-next.invariant.0) _ _ (c.list_root.ensures.answer stop.it stop.there) c.if-list_root.true
    (c.list_root.ensures.listed stacks at.roots stop.it stop.there new was)

pub returns-clause-others : goal.returns-clause-others
returns-clause-others g c = λ stacks h _. roots_end _ _ _ _ _ _ (c.loop-next.invariant.3 stacks h) c.in_default.is
