use Rattle.std.proofs.Common.{◌≡◌, ℕ, ◌/◌, ◌<◌, ◌≤◌, List, Some, None, true, false, slice_index_or, refl, sym, ap, subst, ◌∙◌, arith, ltb-true}
use Rattle.std.specs.List.{All, list_any}
use Rattle.std.proofs.lemmas.Result.{IfOk-weaker}
use Rattle.km_base.specs.declared.spans.Span.{Span}
use Rattle.km_model.specs.Placement.{Allocation, without_allocation}
use Rattle.km_pages.specs.Laid.{AreLaid}
use Rattle.km_slab.specs.Blocks.{AreBlocks, Fits, IsSlot, Loses, Sheets, Takes, class_at, has_place, is_block_at, is_large_at, is_live, slot_start}
use Rattle.km_slab.specs.Tables.{sheets}
use Rattle.km_slab.proofs.Places.{slot_within}
use Rattle.km_slab.proofs.Owners.{blocks_left, no_slab_at, only_large, slot_found_at, slot_size, slot_is, slot_there, no_slot_there, large_at}
use Rattle.km_slab.proofs.Undoing.{takes_there}
use Rattle.km_slab.proofs.slab.Slab.kfree.Goals as goal

pub returns-in_default-clause-answer : goal.returns-in_default-clause-answer
returns-in_default-clause-answer c = λ used laid blocks.
    let t = c.self.inside.table in
    let none = no_slab_at (sheets t) used c.args.start.0 (subst (λ s. AreBlocks s used) (sym c.self.view_is) blocks) (λ p class at. (c.self.invariant.sizes p class at).0) (c.in_default.ensures.none refl) in
    c.give_large.ensures.answer used laid ∙ sym (only_large used c.args.start.0 none)

pub returns-in_default-clause-span : goal.returns-in_default-clause-span
returns-in_default-clause-span c =
    let t = c.self.inside.table in
    IfOk-weaker c.give_large.result
    (λ (s : Span). (used : List Allocation) → AreLaid c.args.pages.now used → All (λ (x : Allocation). is_large_at c.args.start.0 x ≡ true → x.size ≡ s.size) used)
    (λ (s : Span). (used : List Allocation) → AreLaid c.args.pages.now used → AreBlocks c.args.self.now used → All (λ (x : Allocation). is_block_at c.args.start.0 x ≡ true → x.size ≡ s.size) used)
    (λ s h used laid blocks k d lt b.
    let none = no_slab_at (sheets t) used c.args.start.0 (subst (λ s. AreBlocks s used) (sym c.self.view_is) blocks) (λ p class at. (c.self.invariant.sizes p class at).0) (c.in_default.ensures.none refl) in
    h used laid k d lt (large_at c.args.start.0 (slice_index_or used k d) (none k d lt) b)) c.give_large.ensures.span

pub returns-in_default-clause-laid : goal.returns-in_default-clause-laid
returns-in_default-clause-laid c =
    IfOk-weaker c.give_large.result
    (λ (s : Span). (used : List Allocation) → AreLaid c.args.pages.now used → AreLaid c.give_large.new.pages (without_allocation used c.args.start.0))
    (λ (s : Span). (used : List Allocation) → AreLaid c.args.pages.now used → AreBlocks c.args.self.now used → AreLaid c.give_large.new.pages (without_allocation used c.args.start.0))
    (λ s h used laid blocks. h used laid) c.give_large.ensures.laid

pub returns-in_default-clause-blocks : goal.returns-in_default-clause-blocks
returns-in_default-clause-blocks c =
    let t = c.self.inside.table in
    IfOk-weaker c.give_large.result (λ (s : Span). s.start ≡ c.args.start)
    (λ (s : Span). (used : List Allocation) → AreBlocks c.args.self.now used → AreBlocks c.args.self.now (without_allocation used c.args.start.0))
    (λ s h used blocks. blocks_left c.args.self.now used c.args.start.0 blocks
    (no_slab_at c.args.self.now used c.args.start.0 blocks
    (subst (λ (s : Sheets). (p class : ℕ) → slice_index_or s.classes p None ≡ Some class → 8 ≤ class) c.self.view_is (λ p class at. (c.self.invariant.sizes p class at).0))
    (subst (λ (s : Sheets). (p class i : ℕ) → class_at s p ≡ Some class → i < 512 → c.args.start.0 ≡ slot_start class p i → is_live s p i ≡ false) c.self.view_is (c.in_default.ensures.none refl)))) c.give_large.ensures.start

pub returns-clause-answer : goal.returns-clause-answer
returns-clause-answer c = λ used laid blocks.
    let t = c.self.inside.table in let p = c.in-Some.page in let class = c.in-Some.class in let i = c.in-Some.slot in
    let within = ltb-true i (4096 / class) (subst (λ o. has_place o i ≡ true) c.in-Some.ensures.class (c.self.invariant.live_in p i c.in-Some.ensures.small c.in-Some.ensures.live)) in
    sym (subst (λ a. list_any (is_block_at a) used ≡ true) (sym c.in-Some.ensures.start)
    (slot_found_at (sheets t) used class p i (subst (λ s. AreBlocks s used) (sym c.self.view_is) blocks) c.in-Some.ensures.class within c.in-Some.ensures.live))

pub returns-clause-span : goal.returns-clause-span
returns-clause-span c = λ used laid blocks.
    let t = c.self.inside.table in let p = c.in-Some.page in let class = c.in-Some.class in let i = c.in-Some.slot in
    let size = (c.self.invariant.sizes p class c.in-Some.ensures.class).0 in
    let some : 0 < c.in-Some.class = omega (arith, size) in
    let within = ltb-true i (4096 / class) (subst (λ o. has_place o i ≡ true) c.in-Some.ensures.class (c.self.invariant.live_in p i c.in-Some.ensures.small c.in-Some.ensures.live)) in
    subst (λ a. All (λ (x : Allocation). is_block_at a x ≡ true → x.size ≡ c.in-Some.class) used) (sym c.in-Some.ensures.start)
    (slot_size (sheets t) c.args.pages.now used class p i laid (subst (λ s. AreBlocks s used) (sym c.self.view_is) blocks)
    (subst (λ s. Fits s c.args.pages.now) (sym c.self.view_is) c.requires) some (slot_within class i some within) c.in-Some.ensures.class)

pub returns-clause-laid : goal.returns-clause-laid
returns-clause-laid c = λ used laid blocks.
    subst (λ a. AreLaid c.give_small.new.pages (without_allocation used a)) (sym c.in-Some.ensures.start)
    (c.give_small.ensures.laid used laid (subst (λ s. AreBlocks s used) (sym c.self.view_is) blocks))

pub returns-clause-blocks : goal.returns-clause-blocks
returns-clause-blocks c = λ used blocks.
    subst (λ a. AreBlocks (sheets c.give_small.new.table) (without_allocation used a)) (sym c.in-Some.ensures.start)
    (c.give_small.ensures.blocks used (subst (λ s. AreBlocks s used) (sym c.self.view_is) blocks))

pub returns-in_default-clause-live : goal.returns-in_default-clause-live
returns-in_default-clause-live c = λ n s.
    absurd (no_slot_there (sheets c.self.inside.table) n c.args.start.0 (λ p class at. (c.self.invariant.sizes p class at).0) (c.in_default.ensures.none refl) (subst (λ s. IsSlot s n c.args.start.0) (sym c.self.view_is) s))

pub returns-clause-live : goal.returns-clause-live
returns-clause-live c = λ n s.
    let t = c.self.inside.table in let p = c.in-Some.page in let class = c.in-Some.class in let i = c.in-Some.slot in
    let size = (c.self.invariant.sizes p class c.in-Some.ensures.class).0 in
    let some : 0 < c.in-Some.class = omega (arith, size) in
    let within = ltb-true i (4096 / class) (subst (λ o. has_place o i ≡ true) c.in-Some.ensures.class (c.self.invariant.live_in p i c.in-Some.ensures.small c.in-Some.ensures.live)) in
    let old = subst (IsSlot (sheets t) n) c.in-Some.ensures.start (subst (λ s. IsSlot s n c.args.start.0) (sym c.self.view_is) s) in
    let is = slot_is (sheets t) n class p i (c.self.invariant.sizes old.page n old.class).0 some (slot_within class i some within) c.in-Some.ensures.class old in
    let loses = subst (λ s. Loses s (sheets c.give_small.new.table) c.args.start.0) c.self.view_is (subst (Loses (sheets t) (sheets c.give_small.new.table)) (sym c.in-Some.ensures.start) c.give_small.ensures.loses) in
    ((is, loses), refl)

pub returns-clause-large : goal.returns-clause-large
returns-clause-large c = λ none.
    let t = c.self.inside.table in let p = c.in-Some.page in let class = c.in-Some.class in let i = c.in-Some.slot in
    let size = (c.self.invariant.sizes p class c.in-Some.ensures.class).0 in
    let some : 0 < c.in-Some.class = omega (arith, size) in
    let within = ltb-true i (4096 / class) (subst (λ o. has_place o i ≡ true) c.in-Some.ensures.class (c.self.invariant.live_in p i c.in-Some.ensures.small c.in-Some.ensures.live)) in
    absurd (none class (subst (λ s. IsSlot s class c.args.start.0) c.self.view_is (subst (IsSlot (sheets t) class) (sym c.in-Some.ensures.start)
    (slot_there (sheets t) class p i c.in-Some.ensures.class (slot_within class i some within) c.in-Some.ensures.live))))

pub returns-in_default-clause-small : goal.returns-in_default-clause-small
returns-in_default-clause-small c = λ n s.
    absurd (no_slot_there (sheets c.self.inside.table) n c.args.start.0 (λ p class at. (c.self.invariant.sizes p class at).0) (c.in_default.ensures.none refl) (subst (λ s. IsSlot s n c.args.start.0) (sym c.self.view_is) s))

pub returns-clause-still : goal.returns-clause-still
returns-clause-still c = λ n b s far.
    c.give_small.ensures.loses.still n b (subst (λ s. IsSlot s n b) (sym c.self.view_is) s) (λ e. far (e ∙ sym c.in-Some.ensures.start))

pub returns-in_default-clause-back : goal.returns-in_default-clause-back
returns-in_default-clause-back c = λ before held n takes.
    absurd (no_slot_there (sheets c.self.inside.table) n c.args.start.0 (λ p class at. (c.self.invariant.sizes p class at).0) (c.in_default.ensures.none refl)
    (subst (λ s. IsSlot s n c.args.start.0) (sym c.self.view_is) (record { page = takes.page; place = takes.place; class = takes.class; fits = takes.fits; start = takes.start; live = takes.live })))

pub returns-clause-back : goal.returns-clause-back
returns-clause-back c = λ before held n takes.
    let t = c.self.inside.table in let p = c.in-Some.page in let class = c.in-Some.class in let i = c.in-Some.slot in
    let size = (c.self.invariant.sizes p class c.in-Some.ensures.class).0 in
    let some : 0 < c.in-Some.class = omega (arith, size) in
    let within = ltb-true i (4096 / class) (subst (λ o. has_place o i ≡ true) c.in-Some.ensures.class (c.self.invariant.live_in p i c.in-Some.ensures.small c.in-Some.ensures.live)) in
    c.give_small.ensures.back before held
    (takes_there before (sheets t) held c.args.pages.now n class p i some (slot_within class i some within) c.in-Some.ensures.class
    (subst (Takes before (sheets t) held c.args.pages.now n) c.in-Some.ensures.start (subst (λ s. Takes before s held c.args.pages.now n c.args.start.0) (sym c.self.view_is) takes))
    (c.self.invariant.sizes takes.page n (ap (λ s. class_at s takes.page) c.self.view_is ∙ takes.class)).0)
