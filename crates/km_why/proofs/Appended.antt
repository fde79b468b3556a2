-- A list with one more member, by the record of the block.
use Rattle.std.proofs.Common.{◌≡◌, ℕ, ◌+◌, ◌<◌, ◌≤◌, Bool, true, false, List, [], ◌∷◌, ◌++◌, length, Some, vec_len, vec_capacity, filter, sym, ◌∙◌, ap, subst, arith, append-nil, cond}
use Rattle.std.specs.BinaryHeap.{heap_capacity, heap_items, heap_len}
use Rattle.km_certificates.specs.Certificates.{is_member}
use Rattle.km_model.proofs.Cases.{some_same}
use Rattle.km_model.proofs.Lists.{In, each_in, find_in}
use Rattle.km_model.specs.Blocks.{Block, needs, references_of, scanned_words}
use Rattle.km_model.specs.Memory.{base, index_of}
use Rattle.km_model.specs.Tasks.{Task}
use Rattle.km_record.specs.declared.kinds.RecId.{RecId}
use Rattle.km_record.specs.declared.record.Record.{Record}
use Rattle.km_record.specs.Records.{block_of}
use Rattle.km_track.specs.Tracker.{Live, Tracker, is_id, live_with}
use Rattle.km_words.specs.Told.{Told}
use Rattle.km_why.specs.declared.search.Member.{Member}
use Rattle.km_why.specs.declared.search.Search.{Search}
use Rattle.km_why.specs.Counts.{AreCounted, HaveRoom, count_at}
use Rattle.km_why.specs.References.{sources}
use Rattle.km_why.specs.Search.{CanSearch, HasAppended, HasListed, members_in}
use Rattle.km_why.specs.Told.{IsInMemory, IsOfWords, blocks_of, memory_of, standing_of}
use Rattle.km_why.specs.Waiting.{AreWaiting, HaveMembers, live_as}
use Rattle.km_why.proofs.Cleared.{record_live}
use Rattle.km_why.proofs.Listed.{appended, has_place, have_room, root_comes, told_push}
use Rattle.km_why.proofs.Passed.{all_low, place_within}

-- what is known of the block with a record
module _ (u : Told) (t : Tracker) (id : RecId) (r : Record) (can : CanSearch u t) (e : Some (live_as id r) ≡ live_with id t) where
  pub record_in : In (live_as id r) t.live
  record_in = (find_in (is_id id) t.live (live_as id r) (sym e)).1

  pub is_low : base ≤ r.span.start.0
  is_low = each_in (λ (b : Block). base ≤ b.start) (blocks_of t) (block_of id.generation r) (all_low u.size t can.spread) (record_live t id r e)

  pub is_laid : IsInMemory u.size r.span.start.0 r.span.size × IsOfWords r.span.start.0 r.span.size
  is_laid = each_in (λ (b : Block). IsInMemory u.size b.start b.size × IsOfWords b.start b.size) (blocks_of t) (block_of id.generation r) can.spread.within (record_live t id r e)

  small : length (memory_of u) ≤ 4194304
  small = subst (λ n. n ≤ 4194304) can.told.whole can.small

  pub by_record : (l : Live) → live_with id t ≡ Some l → l ≡ live_as id r
  by_record l there = some_same l (live_as id r) (sym there ∙ sym e)

  module _ (s : Search) (stacks : List Task) (listed : List Block) (l : Live) (there : live_with id t ≡ Some l) (h : HasListed t stacks (memory_of u) s listed (listed ++ l.tracked.block ∷ [])) where
    state : HasListed t stacks (memory_of u) s listed (listed ++ (live_as id r).tracked.block ∷ [])
    state = subst (λ (x : Live). HasListed t stacks (memory_of u) s listed (listed ++ x.tracked.block ∷ [])) (by_record l there) h

    pub has_places : u.size ≤ length s.counts.items
    has_places = subst (λ n. n ≤ length s.counts.items) (sym can.told.whole) h.places

    pub is_within : index_of r.span.start.0 < length s.counts.items
    is_within = place_within u.size t s.counts.items can.spread has_places (block_of id.generation r) (record_live t id r e)

    pub can_push : vec_len s.members < vec_capacity s.members
    can_push = below _ _ _ _ h.len (has_place t stacks (memory_of u) s listed (live_as id r) can.rising can.spread.some record_in state) h.room
      where
        below : (a b c d : ℕ) → a ≡ b → b < c → c ≤ d → a < d
        below a b c d f g k = omega (arith, f, g, k)

    pub can_count : HaveRoom (memory_of u) (blocks_of t) s.counts.items (scanned_words (block_of 0 r))
    can_count = have_room t stacks (memory_of u) s listed (live_as id r) can.rising can.spread.some record_in state small

    pub have_members : HaveMembers t.live s.counts.items (heap_items s.waiting) (heap_len s.waiting) (heap_capacity s.waiting)
    have_members = record { members = listed ++ l.tracked.block ∷ []; waiting = h.waiting }

    -- the list after the push
    pub told_now : (m : Member) → m ≡ record { id = id; start = r.span.start; min = references_of (block_of 0 r); found = (count_at s.counts.items (index_of r.span.start.0)).found }
        → (items : List Member) → items ≡ s.members.items ++ m ∷ [] → items ≡ members_in t (standing_of t stacks true (memory_of u)) (listed ++ l.tracked.block ∷ [])
    told_now m is items f =
        f ∙ told_push t stacks (memory_of u) s listed (live_as id r) can.rising can.spread.some record_in state m is
        ∙ ap (λ (x : Live). members_in t (standing_of t stacks true (memory_of u)) (listed ++ x.tracked.block ∷ [])) (sym (by_record l there))

    -- and after the count
    pub counted_now : (v : Search) → AreCounted (memory_of u) (blocks_of t) (sources stacks listed ++ scanned_words (block_of 0 r)) v.counts.items
        → AreWaiting t.live v.counts.items (listed ++ l.tracked.block ∷ []) (heap_items v.waiting) (heap_len v.waiting) (heap_capacity v.waiting)
        → v.members.items ≡ members_in t (standing_of t stacks true (memory_of u)) (listed ++ l.tracked.block ∷ []) → vec_len v.members ≡ vec_len s.members + 1 → vec_capacity v.members ≡ vec_capacity s.members
        → length v.counts.items ≡ length s.counts.items → HasListed t stacks (memory_of u) v (listed ++ l.tracked.block ∷ []) (listed ++ l.tracked.block ∷ [])
    counted_now v table waiting told len room long =
        subst (λ (x : Live). HasListed t stacks (memory_of u) v (listed ++ x.tracked.block ∷ []) (listed ++ x.tracked.block ∷ [])) (sym (by_record l there))
        (appended t stacks (memory_of u) s listed (live_as id r) can.rising can.spread.some record_in state v table
        (subst (λ (x : Live). AreWaiting t.live v.counts.items (listed ++ x.tracked.block ∷ []) (heap_items v.waiting) (heap_len v.waiting) (heap_capacity v.waiting)) (by_record l there) waiting)
        (told ∙ ap (λ (x : Live). members_in t (standing_of t stacks true (memory_of u)) (listed ++ x.tracked.block ∷ [])) (by_record l there)) len room long)

  -- a block that needs no reference comes next
  module _ (s : Search) (stacks : List Task) (roots : List Block) (l : Live) (there : live_with id t ≡ Some l) (h : HasListed t stacks (memory_of u) s roots roots) where
    pub root_next : needs 0 (block_of 0 r) ≡ true → (needs 0 l.tracked.block ≡ true → is_member roots l.tracked.block ≡ false) → HasListed t stacks (memory_of u) s roots (roots ++ l.tracked.block ∷ [])
    root_next root new =
        root_comes t stacks (memory_of u) s roots l can.rising (subst (λ (x : Live). In x t.live) (sym (by_record l there)) record_in) (needs_is root) (new (needs_is root)) h
      where
        needs_is : needs 0 (block_of 0 r) ≡ true → needs 0 l.tracked.block ≡ true
        needs_is f = ap (λ (x : Live). needs 0 x.tracked.block) (by_record l there) ∙ f

    pub needs_same : needs 0 (block_of 0 r) ≡ needs 0 l.tracked.block
    needs_same = sym (ap (λ (x : Live). needs 0 x.tracked.block) (by_record l there))

    pub none_listed : needs 0 (block_of 0 r) ≡ false → HasAppended t stacks (memory_of u) s (roots ++ filter (needs 0) (l.tracked.block ∷ [])) false
    none_listed f =
        subst (λ bs. HasAppended t stacks (memory_of u) s bs false) (sym (append-nil roots) ∙ ap (λ q. roots ++ cond q (l.tracked.block ∷ []) []) (sym (sym needs_same ∙ f)))
        (record { told = h.told; state = λ _. h })

    pub root_listed : (v : Search) (found : Bool) → needs 0 (block_of 0 r) ≡ true → HasAppended t stacks (memory_of u) v (roots ++ l.tracked.block ∷ []) found → HasAppended t stacks (memory_of u) v (roots ++ filter (needs 0) (l.tracked.block ∷ [])) found
    root_listed v found f a = subst (λ bs. HasAppended t stacks (memory_of u) v bs found) (ap (λ q. roots ++ cond q (l.tracked.block ∷ []) []) (sym (sym needs_same ∙ f))) a
