use Rattle.std.proofs.Common.{◌≡◌, ℕ, true, false, ◌||◌, List, [], ◌∷◌, cond, Option, Some, None, option_map, refl, sym, ap, ◌∙◌, subst}
use Rattle.std.specs.Prelude.{find}
use Rattle.std.specs.List.{list_any}
use Rattle.km_record.specs.declared.kinds.RecId.{RecId}
use Rattle.km_record.specs.declared.record.Record.{Record}
use Rattle.km_model.specs.Blocks.{contains, painted_grey}
use Rattle.km_state.specs.StateAnswers.{info_in}
use Rattle.km_track.specs.Tracker.{AreRising, Live, NeverMeet, Tracker, changed_at, id_of, is_id, live_where, live_with, tracked_of}
use Rattle.km_track.proofs.Lives.{changes_one, found_again, tracked_found}
use Rattle.km_verdict.specs.Listing.{painted_in, shown_at}
use Rattle.km_verdict.proofs.Clears.{grey}

-- a live block is found
pub live_found : (id : RecId) (ls : List Live) → list_any (is_id id) ls ≡ true → find (is_id id) ls ≡ None → ⊥
live_found id [] h e = let z : ⊥ = cc in z
live_found id (l ∷ ls) h e =
    elim (is_id id l) as (λ b. (b || list_any (is_id id) ls) ≡ true → cond b (Some l) (find (is_id id) ls) ≡ None → ⊥) [ true ↦ λ _ f. let z : ⊥ = cc in z | false ↦ λ g f. live_found id ls g f ] h e

-- what paints the blocks that begin where one does paints that one
pub paints_one : (t : Tracker) (id : RecId) (l : Live) → AreRising 0 t.live t.registered → NeverMeet t.live → live_with id t ≡ Some l → changed_at l.tracked.block.start painted_grey t ≡ painted_in id t
paints_one t id l r n f = ap (λ ls. record t { live = ls }) (changes_one id grey 0 t.registered t.live l r n f)

-- what is shown of a block that has a byte
pub shows : (a : ℕ) (t : Tracker) (o : Option Live) → live_where (contains a) t ≡ o → shown_at a t ≡ option_map (λ (l : Live). info_in l.tracked) o
shows a t o e =
    ap (option_map info_in) (tracked_found (contains a) t.live ∙ ap (option_map (λ (l : Live). l.tracked)) e) ∙ twice o
  where
    twice : (o : Option Live) → option_map info_in (option_map (λ (l : Live). l.tracked) o) ≡ option_map (λ (l : Live). info_in l.tracked) o
    twice None = refl
    twice (Some l) = refl

pub shows_none : (a : ℕ) (t : Tracker) → None ≡ option_map id_of (live_where (contains a) t) → None ≡ shown_at a t
shows_none a t e = on (live_where (contains a) t) refl e
  where
    on : (o : Option Live) → live_where (contains a) t ≡ o → None ≡ option_map id_of o → None ≡ shown_at a t
    on None is _ = sym (shows a t None is)
    on (Some l) is h = absurd (let z : ⊥ = cc in z)

pub shows_no_less : (a : ℕ) (t : Tracker) (id : RecId) → AreRising 0 t.live t.registered → Some id ≡ option_map id_of (live_where (contains a) t) → None ≡ live_with id t → ⊥
shows_no_less a t id r e n = on (live_where (contains a) t) refl e
  where
    on : (o : Option Live) → live_where (contains a) t ≡ o → Some id ≡ option_map id_of o → ⊥
    on None is h = let z : ⊥ = cc in z
    on (Some l) is h =
        let same : id ≡ id_of l = cc in
        let found = subst (λ (i : RecId). live_with i t ≡ Some l) (sym same) (found_again (λ (x : Live). contains a x.tracked.block) 0 t.registered t.live l r is) in
        let z : ⊥ = cc in z

pub shows_record : (a : ℕ) (t : Tracker) (id : RecId) (r : Record) → AreRising 0 t.live t.registered → Some id ≡ option_map id_of (live_where (contains a) t) → Some (record { slot = id.slot; tracked = tracked_of id.generation r }) ≡ live_with id t
    → Some (info_in (tracked_of 0 r)) ≡ shown_at a t
shows_record a t id r rising e w = on (live_where (contains a) t) refl e
  where
    on : (o : Option Live) → live_where (contains a) t ≡ o → Some id ≡ option_map id_of o → Some (info_in (tracked_of 0 r)) ≡ shown_at a t
    on None is h = absurd (let z : ⊥ = cc in z)
    on (Some l) is h =
        let same : id ≡ id_of l = cc in
        let found = subst (λ (i : RecId). live_with i t ≡ Some l) (sym same) (found_again (λ (x : Live). contains a x.tracked.block) 0 t.registered t.live l rising is) in
        let both : record { slot = id.slot; tracked = tracked_of id.generation r } ≡ l = cc in
        ap (λ (x : Live). Some (info_in x.tracked)) both ∙ sym (shows a t (Some l) is)
