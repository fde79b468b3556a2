use Rattle.std.proofs.Common.{◌≡◌, ℕ, ◌+◌, ◌<◌, Bool, true, false, ◌||◌, List, [], ◌∷◌, ◌++◌, length, cond, Option, Some, option_map, if◌then◌else◌, refl, sym, ap, ◌∙◌, subst, arith}
use Rattle.std.specs.Prelude.{find}
use Rattle.std.specs.List.{list_any}
use Rattle.std.proofs.lemmas.List.{append_assoc}
use Rattle.km_record.specs.declared.kinds.RecId.{RecId}
use Rattle.km_state.specs.State.{is_listed_now}
use Rattle.km_track.specs.Tracker.{AreRising, Live, first_live, id_of, is_id, live_behind, live_from}
use Rattle.km_track.proofs.Lives.{finds_it, behind_it, from_rest, has_its, not_before}
use Rattle.km_verdict.specs.Listing.{behind, listed_in}

-- a walk that looks for a listed block: those that it passed by, and the rest
pub record Looking (id : RecId) (live : List Live) (next : Option RecId) : Type 0 where
  pub front : List Live
  pub rest : List Live
  pub was : live ≡ front ++ rest
  pub at : next ≡ option_map id_of (first_live rest)
  pub same : listed_in rest ≡ listed_in (behind id live)

-- the block that it stands on
pub record LooksAt (id : RecId) (live : List Live) (front rest : List Live) (i : RecId) : Type 0 where
  pub it : Live
  pub more : List Live
  pub there : rest ≡ it ∷ more
  pub its : i ≡ id_of it
  pub found : find (is_id i) live ≡ Some it
  pub behind : live_behind i live ≡ first_live more
  pub left : live_from (Some i) live ≡ rest

first_behind : (id : RecId) (ls : List Live) → live_behind id ls ≡ first_live (behind id ls)
first_behind id [] = refl
first_behind id (l ∷ ls) =
    elim (is_id id l) as (λ b. (if b then first_live ls else live_behind id ls) ≡ first_live (if b then ls else behind id ls)) [ true ↦ refl | false ↦ first_behind id ls ]

before : (id : RecId) (ls : List Live) → list_any (is_id id) ls ≡ true → (front : List Live) × (ls ≡ front ++ behind id ls)
before id [] h = absurd (let z : ⊥ = cc in z)
before id (l ∷ ls) h =
    elim (is_id id l) as (λ b. (b || list_any (is_id id) ls) ≡ true → (front : List Live) × (l ∷ ls ≡ front ++ (if b then ls else behind id ls))) [
      | true ↦ λ _. (l ∷ [], refl)
      | false ↦ λ g. let r = before id ls g in (l ∷ r.0, ap (λ xs. l ∷ xs) r.1)
    ] h

pub look_begins : (id : RecId) (live : List Live) (next : Option RecId) → list_any (is_id id) live ≡ true → next ≡ option_map id_of (live_behind id live) → Looking id live next
look_begins id live next h e =
    let b = before id live h in
    record { front = b.0; rest = behind id live; was = b.1; at = e ∙ ap (option_map id_of) (first_behind id live); same = refl }

pub looks_at : (id : RecId) (live : List Live) (high : ℕ) (next : Option RecId) (i : RecId) (w : Looking id live next) → AreRising 0 live high → next ≡ Some i → LooksAt id live w.front w.rest i
looks_at id live high next i w r e = on w.rest w.was (sym e ∙ w.at)
  where
    on : (rest : List Live) → live ≡ w.front ++ rest → Some i ≡ option_map id_of (first_live rest) → LooksAt id live w.front rest i
    on [] was at = absurd (let z : ⊥ = cc in z)
    on (l ∷ rest) was at =
        let its : i ≡ id_of l = cc in
        let rising = subst (λ ls. AreRising 0 ls high) was r in
        record {
          it = l;
          more = rest;
          there = refl;
          its = its;
          found = subst (λ (j : RecId). find (is_id j) live ≡ Some l) (sym its) (subst (λ ls. find (is_id (id_of l)) ls ≡ Some l) (sym was) (finds_it 0 high w.front rest l rising));
          behind = subst (λ (j : RecId). live_behind j live ≡ first_live rest) (sym its) (subst (λ ls. live_behind (id_of l) ls ≡ first_live rest) (sym was) (behind_it 0 high w.front rest l rising));
          left = subst (λ (j : RecId). live_from (Some j) live ≡ l ∷ rest) (sym its) (subst (λ ls. live_from (Some (id_of l)) ls ≡ l ∷ rest) (sym was) (from_rest 0 high w.front (l ∷ rest) rising));
        }

listed_cons : (l : Live) (ls : List Live) (b : Bool) → is_listed_now l.tracked ≡ b → listed_in (l ∷ ls) ≡ (if b then Some (id_of l) else listed_in ls)
listed_cons l ls b e =
    let there = find (λ (x : Live). is_listed_now x.tracked) ls in
    ap (λ c. option_map id_of (cond c (Some l) there)) e ∙ elim b as (λ c. option_map id_of (cond c (Some l) there) ≡ (if c then Some (id_of l) else option_map id_of there)) [ true ↦ refl | false ↦ refl ]

-- what isn't listed is passed by
pub look_goes_on : (id : RecId) (live : List Live) (high : ℕ) (next behind : Option RecId) (i : RecId) (w : Looking id live next) → AreRising 0 live high → next ≡ Some i → behind ≡ option_map id_of (live_behind i live)
    → ((l : Live) → find (is_id i) live ≡ Some l → false ≡ is_listed_now l.tracked) → (g : Looking id live behind) × (length g.rest < length w.rest)
look_goes_on id live high next behind i w r e n not_listed =
    let s = looks_at id live high next i w r e in (
      record {
        front = w.front ++ s.it ∷ [];
        rest = s.more;
        was = w.was ∙ ap (λ ls. w.front ++ ls) s.there ∙ sym (append_assoc w.front (s.it ∷ []) s.more);
        at = n ∙ ap (option_map id_of) s.behind;
        same = sym (listed_cons s.it s.more false (sym (not_listed s.it s.found))) ∙ ap listed_in (sym s.there) ∙ w.same;
      },
      omega (arith, ap length s.there),
    )

-- what is left of it
pub look_left : (id : RecId) (live : List Live) (high : ℕ) (next : Option RecId) (w : Looking id live next) → AreRising 0 live high → live_from next live ≡ w.rest
look_left id live high next w r = ap (λ (n : Option RecId). live_from n live) w.at ∙ ap (live_from (option_map id_of (first_live w.rest))) w.was ∙ from_rest 0 high w.front w.rest (subst (λ ls. AreRising 0 ls high) w.was r)

-- it ends at a listed block, or behind all
pub look_finds : (id : RecId) (live : List Live) (high : ℕ) (next : Option RecId) (i : RecId) (w : Looking id live next) → AreRising 0 live high → next ≡ Some i
    → ((l : Live) → find (is_id i) live ≡ Some l → true ≡ is_listed_now l.tracked) → Some i ≡ listed_in (behind id live)
look_finds id live high next i w r e listed =
    let s = looks_at id live high next i w r e in
    ap Some s.its ∙ sym (listed_cons s.it s.more true (sym (listed s.it s.found))) ∙ ap listed_in (sym s.there) ∙ w.same

-- the first listed block of all
pub first_is : (live : List Live) (l : Live) → first_live live ≡ Some l → is_listed_now l.tracked ≡ true → Some (id_of l) ≡ listed_in live
first_is [] l e t = absurd (let z : ⊥ = cc in z)
first_is (x ∷ live) l e t = let same : x ≡ l = cc in subst (λ (y : Live). Some (id_of l) ≡ listed_in (y ∷ live)) (sym same) (sym (listed_cons l live true t))

-- what is registered behind a block among the live ones
pub behind_its : (low high : ℕ) (front more : List Live) (l : Live) → AreRising low (front ++ l ∷ more) high → behind (id_of l) (front ++ l ∷ more) ≡ more
behind_its low high [] more l r = rw (has_its l) refl
behind_its low high (x ∷ front) more l r = rw (not_before low high x l front more r) (behind_its (x.tracked.block.id + 1) high front more l r.1)
