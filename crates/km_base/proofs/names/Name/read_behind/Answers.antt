use Rattle.std.proofs.Common.{◌≡◌, ℕ, ◌∷◌, ◌+◌, ◌-◌, ◌<◌, ◌≤◌, [], ◌++◌, ◌&&◌, length, length-drop, length-take, take, subst, replicate, drop, slice_index_or, ap, sym, ◌∙◌, arith}
use Rattle.std.specs.List.{list_all}
use Rattle.std.proofs.lemmas.List.{take_more, take_more_set, drop-set-lt, at_drop_more}
use Rattle.std.proofs.lemmas.Grind.{drop_more_same}
use Rattle.km_base.specs.Names.{is_name_byte}
use Rattle.km_base.proofs.Padded.{padded}
use Rattle.km_base.proofs.names.Name.read_behind.Goals as goal

pub loop-i-preserved : goal.loop-i-preserved
loop-i-preserved c =
    let i = c.loop-i.i in
    let x = slice_index_or c.args.rest.now i 0 in
    let h : i + 1 < length c.loop-i.bytes =
    omega (arith, ap length c.loop-i.invariant.1, length-drop (i + 1) c.loop-i.bytes, length-drop {A = ℕ} (i + 1) (replicate 16 0)) in (
      take_more_set c.loop-i.bytes (i + 1) x h
          ∙ ap (λ t. t ++ x ∷ []) c.loop-i.invariant.0
          ∙ ap (λ t. c.args.first ∷ t) (sym (take_more c.args.rest.now i 0 c.loop-i-test.true)),
      drop-set-lt (i + 1 + 1) c.loop-i.bytes (i + 1) x (omega arith)
          ∙ drop_more_same c.loop-i.bytes (replicate 16 0) (i + 1) c.loop-i.invariant.1,
      c.loop-i.invariant.2
          ∙ at_drop_more (list_all is_name_byte) c.args.rest.now i 0 c.loop-i-test.true
          ∙ ap (λ b. b && list_all is_name_byte (drop (i + 1) c.args.rest.now)) (sym c.is_part.ensures ∙ c.if-not-is_part.false),
    )

pub invariant_of-result : goal.invariant_of-result
invariant_of-result c =
    let i = c.loop-i.i in
    let bytes = c.loop-i.bytes in
    let e : i ≡ length c.args.rest.now = omega arith in
    let P : ℕ → Type 0 = λ k. (k + 1 ≤ 16) × (bytes ≡ take (k + 1) bytes ++ replicate (16 - (k + 1)) 0) × (length (take (k + 1) bytes) ≡ k + 1) in
    subst P e (padded (i + 1) (c.args.first ∷ take i c.args.rest.now) bytes (omega arith) c.loop-i.invariant.0 (omega (arith, length-take i c.args.rest.now)) c.loop-i.invariant.1)
