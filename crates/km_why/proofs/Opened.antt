-- A search at first: nothing is found, nothing waits and nothing is listed.
use Rattle.std.proofs.Common.{append-nil, ◌≡◌, ℕ, ◌+◌, ◌^◌, ◌≤◌, Bool, true, false, List, [], ◌∷◌, ◌++◌, length, map, flat_map, vec_len, vec_capacity, refl, sym, ◌∙◌, ap, subst, arith}
use Rattle.std.specs.BinaryHeap.{IsHeap, heap_capacity, heap_items, heap_len}
use Rattle.km_model.specs.Blocks.{Block}
use Rattle.km_model.specs.Tasks.{Task, stack_words}
use Rattle.km_state.specs.State.{blocks_in}
use Rattle.km_track.specs.Tracker.{AreRising, Live, NeverMeet, Tracker}
use Rattle.km_words.specs.Told.{Told}
use Rattle.km_why.specs.declared.search.Search.{Search}
use Rattle.km_why.specs.Counts.{AreCounted, HaveRoom}
use Rattle.km_why.specs.Search.{CanSearch, HasListed, HasPlaces}
use Rattle.km_why.specs.Told.{AreLaidOut, TellsAll, blocks_of, memory_of, stacks_of, standing_of}
use Rattle.km_why.specs.Waiting.{AreWaiting, CanCount, HaveMembers, first_comes_first}
use Rattle.km_why.proofs.Begun.{none_wait}
use Rattle.km_why.proofs.Spread.{few_blocks, few_sources, spread_laid}
use Rattle.km_why.proofs.Tested.{source_of}

live_long : (ls : List Live) → length (blocks_in (map (λ (l : Live). l.tracked) ls)) ≡ length ls
live_long [] = refl
live_long (l ∷ ls) = let rest = live_long ls in omega (arith, rest)

-- a search where the table is cleared and the heap is empty
pub record IsFresh (memory : List ℕ) (t : Tracker) (s : Search) : Type 0 where
  pub counted : AreCounted memory (blocks_of t) [] s.counts.items
  pub items : heap_items s.waiting ≡ []
  pub len : heap_len s.waiting ≡ 0
  pub ordered : IsHeap first_comes_first (heap_items s.waiting)
  pub members : s.members.items ≡ []
  pub long : vec_len s.members ≡ 0

module _ (u : Told) (t : Tracker) (tasks : List Task) (told : TellsAll u) (small : u.size ≤ 4194304) (laid : AreLaidOut u.size (blocks_of t) tasks) (rising : AreRising 0 t.live t.registered) (apart : NeverMeet t.live) where
  pub can : CanSearch u t
  can = record { told = told; small = small; rising = rising; spread = spread_laid u.size t tasks laid rising apart }

  module _ (s : Search) (fresh : IsFresh (memory_of u) t s) (places : HasPlaces u.size s) where
    waits : AreWaiting t.live s.counts.items [] (heap_items s.waiting) (heap_len s.waiting) (heap_capacity s.waiting)
    waits = subst (λ n. AreWaiting t.live s.counts.items [] (heap_items s.waiting) n (heap_capacity s.waiting)) (sym fresh.len)
        (none_wait (memory_of u) t s.counts.items (heap_items s.waiting) (heap_capacity s.waiting) fresh.counted fresh.items
        (let few = few_blocks u.size (blocks_of t) laid.blocks_in can.spread.some laid.blocks_apart in let long = live_long t.live in let room = places.waiting in few_are _ _ _ _ few long room) fresh.ordered)
      where
        few_are : (a b c d : ℕ) → a ≤ c → a ≡ b → c ≤ d → b ≤ d
        few_are a b c d f g h = omega (arith, f, g, h)

    pub may_wait : HaveMembers t.live s.counts.items (heap_items s.waiting) (heap_len s.waiting) (heap_capacity s.waiting)
    may_wait = record { members = []; waiting = waits }

    laid_memory : AreLaidOut (length (memory_of u)) (blocks_of t) tasks
    laid_memory = subst (λ n. AreLaidOut n (blocks_of t) tasks) told.whole laid

    places_memory : length (memory_of u) ≤ length s.counts.items
    places_memory = subst (λ n. n ≤ length s.counts.items) told.whole places.counts

    room_memory : length (memory_of u) ≤ vec_capacity s.members
    room_memory = subst (λ n. n ≤ vec_capacity s.members) told.whole places.members

    -- no stack is scanned
    pub begun_alone : (stacks : Bool) → stacks ≡ false → HasListed t (stacks_of stacks tasks) (memory_of u) s [] []
    begun_alone stacks e =
        subst (λ q. HasListed t (stacks_of q tasks) (memory_of u) s [] []) (sym e)
        (record {
          laid = record { blocks_in = laid_memory.blocks_in; blocks_apart = laid_memory.blocks_apart; stacks_in = tt; stacks_apart = tt; apart = tt };
          table = fresh.counted;
          waiting = waits;
          told = fresh.members;
          len = fresh.long;
          apart = tt;
          places = places_memory;
          room = room_memory;
        })

    -- there is room for the words of all stacks
    pub stacks_fit : HaveRoom (memory_of u) (blocks_of t) s.counts.items (flat_map stack_words tasks)
    stacks_fit = record {
      words = [];
      few =
          let all = few_sources (memory_of u) (standing_of t tasks true (memory_of u)) [] (source_of t (length (memory_of u)) true tasks [] laid_memory (record { inside = tt; apart = tt })) in
          let is = ap length (append-nil (flat_map stack_words tasks)) in let whole = told.whole in
          few_are (length (flat_map stack_words tasks)) _ _ _ is all whole small;
      counted = fresh.counted;
    }
      where
        few_are : (a b c d : ℕ) → b ≡ a → b ≤ c → d ≡ c → d ≤ 4194304 → 0 + a ≤ 2 ^ 30
        few_are a b c d e f g h = omega (arith, e, f, g, h)

    -- so they can be counted
    pub may_count : CanCount u t s.counts.items (heap_items s.waiting) (heap_len s.waiting) (heap_capacity s.waiting) (flat_map stack_words tasks)
    may_count = record { told = told; spread = can.spread; long = places.counts; room = stacks_fit; waits = may_wait }

    -- and their references are counted
    pub begun_with : (stacks : Bool) → stacks ≡ true → (v : Search) → ((ws : List ℕ) → AreCounted (memory_of u) (blocks_of t) ws s.counts.items → AreCounted (memory_of u) (blocks_of t) (ws ++ flat_map stack_words tasks) v.counts.items)
        → ((members : List Block) → AreWaiting t.live s.counts.items members (heap_items s.waiting) (heap_len s.waiting) (heap_capacity s.waiting) → AreWaiting t.live v.counts.items members (heap_items v.waiting) (heap_len v.waiting) (heap_capacity v.waiting))
        → length v.counts.items ≡ length s.counts.items → v.members.items ≡ s.members.items → vec_len v.members ≡ vec_len s.members → vec_capacity v.members ≡ vec_capacity s.members
        → HasListed t (stacks_of stacks tasks) (memory_of u) v [] []
    begun_with stacks e v counted waiting long items len room =
        subst (λ q. HasListed t (stacks_of q tasks) (memory_of u) v [] []) (sym e)
        (record {
          laid = laid_memory;
          table = subst (λ ws. AreCounted (memory_of u) (blocks_of t) ws v.counts.items) (sym (append-nil (flat_map stack_words tasks))) (counted [] fresh.counted);
          waiting = waiting [] waits;
          told = items ∙ fresh.members;
          len = len ∙ fresh.long;
          apart = tt;
          places = subst (λ n. length (memory_of u) ≤ n) (sym long) places_memory;
          room = subst (λ n. length (memory_of u) ≤ n) (sym room) room_memory;
        })

pub places_stay : (words : ℕ) (s u : Search) → HasPlaces words s → length u.counts.items ≡ length s.counts.items → heap_capacity u.waiting ≡ heap_capacity s.waiting → vec_capacity u.members ≡ vec_capacity s.members → HasPlaces words u
places_stay words s u p e f g = record {
  counts = subst (λ n. words ≤ n) (sym e) p.counts;
  waiting = subst (λ n. words ≤ n) (sym f) p.waiting;
  members = subst (λ n. words ≤ n) (sym g) p.members;
}
