-- What is known of a load that is due.
use Rattle.std.proofs.Common.{◌≡◌, suc, Bool, true, false, ◌||◌, ◌/◌, List, [], ◌∷◌, Some, refl, sym, ◌∙◌, subst, arith, inl, inr}
use Rattle.std.specs.List.{All}
use Rattle.km_base.specs.declared.spans.Addr.{Addr}
use Rattle.km_record.specs.declared.kinds.RecId.{RecId}
use Rattle.km_model.specs.Blocks.{is_among}
use Rattle.km_model.proofs.Cases.{elim_false}
use Rattle.km_model.proofs.Places.{Word}
use Rattle.km_state.specs.State as state
use Rattle.km_state.specs.State.{Tracked, is_white_now}
use Rattle.km_state.specs.StateNext.{is_at}
use Rattle.km_tasks.specs.Roll.{Roll}
use Rattle.km_track.specs.Tracker.{Live, Tracker, live_with, tracked_in}
use Rattle.km_laws.proofs.Lists.{In}
use Rattle.km_scan.specs.declared.places.At.{At}
use Rattle.km_scan.specs.declared.places.At.TheVariants.{Stack, Block as InBlock}
use Rattle.km_scan.specs.declared.places.Pass.{Pass}
use Rattle.km_scan.specs.declared.places.Pass.TheVariants.{First, Sums, Second}
use Rattle.km_scan.specs.Places.{place_of}
use Rattle.km_scan.specs.Stand.{FitsDue, IsStackWord, IsWordOf}
use Rattle.km_left.proofs.Runs.{IsWordIn}
use Rattle.km_left.proofs.Loads.{Holds, blocks_numbered, holder_of, stacks_numbered}
use Rattle.km_scan_left.proofs.Once.{Once, there}

-- the block of the load is live, and the load is one of its words
its_word : (pass : Pass) (id : RecId) (word : Addr) (t : Tracker) (l : Live) → Once (tracked_in t) → live_with id t ≡ Some l → IsWordOf l.tracked.block word.0 → Holds blocks_numbered (tracked_in t) (place_of (InBlock pass id word))
its_word pass id word t l one e w =
    let i = there id t l e in (
      (λ u j same. subst (λ (v : Tracked). Word (v.block.size / 8) v.block.start word.0) (one l.tracked u i.0 j (i.1 ∙ sym same)) w),
      l.tracked,
      i.0,
      i.1,
    )

pub due_block : (stacks : Bool) (pass : Pass) (id : RecId) (word : Addr) (t : Tracker) (roll : Roll) → Once (tracked_in t) → FitsDue stacks (Some (InBlock pass id word)) t roll → Holds blocks_numbered (tracked_in t) (place_of (InBlock pass id word))
due_block stacks First id word t roll one f = its_word First id word t f.0 one f.1 f.2
due_block stacks Sums id word t roll one f = its_word Sums id word t f.0 one f.1 f.2
due_block stacks Second id word t roll one f = its_word Second id word t f.0 one f.1 f.2

-- each has what all have
each_of : {X : Type 0} (P : X → Type 0) (xs : List X) (x : X) → All P xs → In x xs → P x
each_of P [] x all i = absurd i
each_of P (y ∷ ys) x all (inl same) = subst P (sym same) (all 0 y (omega arith))
each_of P (y ∷ ys) x all (inr i) = each_of P ys x (λ k d lt. all (suc k) d (omega (arith, lt))) i

-- a load of a stack is one of its words
pub due_stack : (stacks : Bool) (at : At) (t : Tracker) (roll : Roll) → FitsDue stacks (Some at) t roll → (place_of at).phase ≡ 1 → IsWordIn stacks_numbered roll.tasks (place_of at)
due_stack stacks (Stack task word) t roll f one = λ u i same. each_of (IsStackWord task word.0) roll.tasks u f.2 i same
due_stack stacks (InBlock First id word) t roll f one = absurd (omega (arith, one))
due_stack stacks (InBlock Sums id word) t roll f one = absurd (omega (arith, one))
due_stack stacks (InBlock Second id word) t roll f one = absurd (omega (arith, one))

-- the holder of a grey pass is neither white nor queued
neither : (a b : Bool) → a ≡ false → b ≡ false → (a || b) ≡ false
neither a b e f = rw (e, f) refl

held_one : (pass : Pass) (id : RecId) (word : Addr) (t : Tracker) (l : Live) → Once (tracked_in t) → live_with id t ≡ Some l → is_white_now l.tracked ≡ false → is_among l.tracked.block.id t.queue ≡ false
    → (u : Tracked) → In u (tracked_in t) → (is_at 2 u.block.id (state.Last (place_of (InBlock pass id word))) || is_at 4 u.block.id (state.Last (place_of (InBlock pass id word)))) ≡ true
    → (is_white_now u || is_among u.block.id t.queue) ≡ false
held_one pass id word t l one e white queued u i h =
    let k = there id t l e in
    let same = one l.tracked u k.0 i (k.1 ∙ (holder_of (place_of (InBlock pass id word)) u.block.id h).1) in
    subst (λ (v : Tracked). (is_white_now v || is_among v.block.id t.queue) ≡ false) same (neither (is_white_now l.tracked) (is_among l.tracked.block.id t.queue) white queued)

pub due_held : (stacks : Bool) (at : At) (t : Tracker) (roll : Roll) → Once (tracked_in t) → FitsDue stacks (Some at) t roll
    → (u : Tracked) → In u (tracked_in t) → (is_at 2 u.block.id (state.Last (place_of at)) || is_at 4 u.block.id (state.Last (place_of at))) ≡ true → (is_white_now u || is_among u.block.id t.queue) ≡ false
due_held stacks (Stack task word) t roll one f u i h = absurd (elim_false h)
due_held stacks (InBlock First id word) t roll one f u i h = held_one First id word t f.0 one f.1 f.3.0 f.3.1 u i h
due_held stacks (InBlock Sums id word) t roll one f u i h = absurd (elim_false h)
due_held stacks (InBlock Second id word) t roll one f u i h = held_one Second id word t f.0 one f.1 f.3.0 f.3.1 u i h

-- what the third phase sums is white
pub due_white : (stacks : Bool) (at : At) (t : Tracker) (roll : Roll) → Once (tracked_in t) → FitsDue stacks (Some at) t roll
    → (u : Tracked) → In u (tracked_in t) → u.block.id ≡ (place_of at).holder → (place_of at).phase ≡ 3 → is_white_now u ≡ true
due_white stacks (Stack task word) t roll one f u i same three = absurd (omega (arith, three))
due_white stacks (InBlock First id word) t roll one f u i same three = absurd (omega (arith, three))
due_white stacks (InBlock Sums id word) t roll one f u i same three =
    let k = there id t f.0 f.1 in subst (λ (v : Tracked). is_white_now v ≡ true) (one f.0.tracked u k.0 i (k.1 ∙ sym same)) f.3
due_white stacks (InBlock Second id word) t roll one f u i same three = absurd (omega (arith, three))
