use Rattle.std.proofs.Common.{◌≡◌, ◌*◌, ◌++◌, ◌∷◌, [], List, true, false, nat_le, if◌then◌else◌, sym, ap, ◌∙◌}
use Rattle.std.proofs.lemmas.Bool.{le-leb, lt-leb}
use Rattle.std.proofs.lemmas.Result.{IfOk-weaker}
use Rattle.km_base.specs.declared.spans.Span.{Span}
use Rattle.km_model.specs.Placement.{Allocation, LargeRun, class_of, is_slab_block, pages_for}
use Rattle.km_pages.specs.Laid.{AreLaid}
use Rattle.km_slab.specs.Blocks.{AreBlocks, IsBlock}
use Rattle.km_slab.specs.Tables.{sheets}
use Rattle.km_slab.proofs.Owners.{blocks_more}
use Rattle.km_slab.proofs.blocks.take_block.Goals as goal

pub returns-then-size-le-PAGE-clause-laid : goal.returns-then-size-le-PAGE-clause-laid
returns-then-size-le-PAGE-clause-laid c =
    let small = le-leb c.args.size 4096 c.if-size-le-PAGE.true in
    let span = ap (λ q. if q then class_of c.args.size else 4096 * pages_for c.args.size) small ∙ sym c.class_for.ensures.class in
    IfOk-weaker c.take_small.result
    (λ (s : Span). (used : List Allocation) (x : Allocation) → AreLaid c.args.pages.now used → is_slab_block x ≡ true → x.size ≡ c.class_for.result → x.start ≡ s.start.0 → AreLaid c.take_small.new.pages (used ++ x ∷ []))
    (λ (s : Span). (used : List Allocation) (x : Allocation) → AreLaid c.args.pages.now used → IsBlock c.args.size s.start.0 x → AreLaid c.take_small.new.pages (used ++ x ∷ []))
    (λ s h used x laid b. h used x laid (b.small ∙ small) (b.span ∙ span) b.start) c.take_small.ensures.laid

pub returns-then-size-le-PAGE-clause-blocks : goal.returns-then-size-le-PAGE-clause-blocks
returns-then-size-le-PAGE-clause-blocks c =
    let small = le-leb c.args.size 4096 c.if-size-le-PAGE.true in
    let span = ap (λ q. if q then class_of c.args.size else 4096 * pages_for c.args.size) small ∙ sym c.class_for.ensures.class in
    IfOk-weaker c.take_small.result
    (λ (s : Span). (used : List Allocation) (x : Allocation) → AreBlocks (sheets c.args.table.now) used → is_slab_block x ≡ true → x.size ≡ c.class_for.result → x.start ≡ s.start.0 → AreBlocks (sheets c.take_small.new.table) (used ++ x ∷ []))
    (λ (s : Span). (used : List Allocation) (x : Allocation) → AreBlocks (sheets c.args.table.now) used → IsBlock c.args.size s.start.0 x → AreBlocks (sheets c.take_small.new.table) (used ++ x ∷ []))
    (λ s h used x blocks b. h used x blocks (b.small ∙ small) (b.span ∙ span) b.start) c.take_small.ensures.blocks

pub returns-else-size-le-PAGE-clause-laid : goal.returns-else-size-le-PAGE-clause-laid
returns-else-size-le-PAGE-clause-laid c =
    let large : nat_le c.args.size 4096 ≡ false = lt-leb c.args.size 4096 c.if-size-le-PAGE.false in
    let span = ap (λ q. if q then class_of c.args.size else 4096 * pages_for c.args.size) large in
    IfOk-weaker c.take_large.result
    (λ (s : Span). (used : List Allocation) (x : Allocation) → AreLaid c.args.pages.now used → x.«use» ≡ LargeRun → x.size ≡ 4096 * pages_for c.args.size → x.start ≡ s.start.0 → AreLaid c.take_large.new.pages (used ++ x ∷ []))
    (λ (s : Span). (used : List Allocation) (x : Allocation) → AreLaid c.args.pages.now used → IsBlock c.args.size s.start.0 x → AreLaid c.take_large.new.pages (used ++ x ∷ []))
    (λ s h used x laid b. h used x laid (b.large large) (b.span ∙ span) b.start) c.take_large.ensures.laid

pub returns-else-size-le-PAGE-clause-blocks : goal.returns-else-size-le-PAGE-clause-blocks
returns-else-size-le-PAGE-clause-blocks c =
    let large : nat_le c.args.size 4096 ≡ false = lt-leb c.args.size 4096 c.if-size-le-PAGE.false in
    IfOk-weaker c.take_large.result (λ (s : Span). s.size ≡ 4096 * pages_for c.args.size)
    (λ (s : Span). (used : List Allocation) (x : Allocation) → AreBlocks (sheets c.args.table.now) used → IsBlock c.args.size s.start.0 x → AreBlocks (sheets c.args.table.now) (used ++ x ∷ []))
    (λ s h used x blocks b. blocks_more (sheets c.args.table.now) used x blocks (b.small ∙ large)) c.take_large.ensures.size
