use Rattle.std.proofs.Common.{◌≡◌, ℕ, List, ◌<◌, ◌≢◌, ◌∙◌, ◌+◌, sym, ap, subst, length, slice_set, get_or-set_other, get_or-set_same, length-set, below_more, arith}
use Rattle.km_numbered.specs.Members.{Member}
use Rattle.km_words.specs.Told.{WordStep}
use Rattle.km_live_words.specs.Hands.{LeftBy}
use Rattle.km_live_words.proofs.Keeps.{closes, unloads, read_at}
use Rattle.km_live_words.proofs.Words.{index_back, there}
use Rattle.km_live_words.proofs.hands.LiveWords.close.Goals as goal

pub store-requires : goal.store-requires
store-requires c = there (length c.loop-i.into) c.loop-i.i (omega (arith, c.loop-i-test.true, c.loop-i.invariant.0, ap length c.values-count.ensures.values))

pub loop-i-preserved : goal.loop-i-preserved
loop-i-preserved c =
    let i = c.loop-i.i in
    let into = c.loop-i.into in
    let stored = c.store.ensures.memory in
    let is : c.store.new.self ≡ slice_set into i c.word.result = let e = index_back i in cc in
    let lt : i < length into = omega (arith, c.loop-i-test.true, c.loop-i.invariant.0, ap length c.values-count.ensures.values) in (
      ap length is ∙ length-set into i c.word.result ∙ c.loop-i.invariant.0,
      rw is (below_more _ _
          (λ k h. let ne : k ≢ i = omega arith in rw get_or-set_other (c.loop-i.invariant.1 k h))
          (rw (get_or-set_same into i c.word.result 0 lt) (sym (read_at c.close_with-closed.result.words.items (i + 1) c.word.result c.word.ensures)))),
    )

abbrev Closed : List ℕ → List ℕ × Member WordStep → Type 0
Closed into p = LeftBy p.0 p.1 into

pub returns : goal.returns
returns c =
    let into = c.loop-i.into in
    let key = c.self.inside.table.shared.key in
    let me = c.main.inside.seat.me.0 in
    let alone = subst (λ m. Rattle.km_numbered.specs.Members.IsAlone m) (λ i. (sym c.main.view_is i).hand) c.requires.alone in
    let number = ap (λ h. h.hand.number) c.main.view_is ∙ c.requires.main in
    let end = closes key _ me _ _ c.main.invariant.0 number alone c.close_with-closed.ensures.values.2 in
    let size = ap (λ w. length w.words) c.self.view_is in
    let values = ap length c.values-count.ensures.values in
    let here : Closed into (key, me) = record {
      order = end.0;
      legal = end.1;
      parts = end.2;
      leaves = unloads key _ into end.0 end.3 (omega (arith, c.loop-i.invariant.0, c.requires.size, size)) (λ k h. c.loop-i.invariant.1 k (omega (arith, h, c.loop-i-test.false, values, c.loop-i.invariant.0)));
    } in
    record { left = subst (Closed into) (λ i. ((c.self.view_is i).words, (c.main.view_is i).hand)) here }
