-- Those that wait are those that may follow.
use Rattle.std.proofs.Common.{◌≡◌, ℕ, zero, suc, ◌<◌, ◌≤◌, ◌==◌, inl, inr, Bool, true, false, ◌&&◌, ◌||◌, not, cond, leb, List, [], ◌∷◌, length, Some, None, find, refl, sym, ◌∙◌, ap, subst, arith, lt-ltb}
use Rattle.km_certificates.specs.Certificates.{is_member, may_follow}
use Rattle.km_held.proofs.Prefixes.{first_is}
use Rattle.km_model.proofs.Cases.{elim_false}
use Rattle.km_model.proofs.Lists.{In, each_in, in_map, map_in}
use Rattle.km_model.specs.Blocks.{Block, Minimum, Black, AtLeast, is_black, needs}
use Rattle.km_model.specs.Held.{is_supported}
use Rattle.km_model.specs.Memory.{index_of}
use Rattle.km_model.specs.Tasks.{Task}
use Rattle.km_track.specs.Tracker.{Live, Tracker}
use Rattle.km_why.specs.declared.counts.Count.{Count}
use Rattle.km_why.specs.Counts.{count_at}
use Rattle.km_why.specs.References.{found_in, sources}
use Rattle.km_why.specs.Told.{blocks_of, stacks_of, standing_of}
use Rattle.km_why.specs.Next.{StandsFor}
use Rattle.km_why.specs.Waiting.{IsFirst, Key, is_ripe, is_waiting}
use Rattle.km_why.proofs.Cleared.{on_is}
use Rattle.km_why.proofs.Laid.{ids_rise}
use Rattle.km_why.proofs.Raised.{ripe_with}
use Rattle.km_why.proofs.Sources.{enough_same}
use Rattle.km_why.proofs.Tested.{source_of}

-- a block that needs references is ripe where it has enough
ripe_enough : (m : Minimum) (f g : ℕ) → f ≡ g → (elim m as (λ _. Bool) [ Black ↦ false | AtLeast n ↦ n == 0 ]) ≡ false
    → ripe_with m f ≡ (not (elim m as (λ _. Bool) [ Black ↦ true | AtLeast _ ↦ false ]) && ((elim m as (λ _. Bool) [ Black ↦ false | AtLeast n ↦ n == 0 ]) || leb (elim m as (λ _. ℕ) [ Black ↦ 0 | AtLeast n ↦ n ]) g))
ripe_enough Black f g same e = refl
ripe_enough (AtLeast n) f g same e = ap (λ q. q && leb n f) (lt-ltb 0 n (positive n e)) ∙ ap (leb n) same ∙ sym (ap (λ q. q || leb n g) e)
  where
    positive : (k : ℕ) → (k == 0) ≡ false → 0 < k
    positive zero h = absurd (elim_false (sym h))
    positive (suc k) h = omega arith

module _ (t : Tracker) (tasks : List Task) (stacks : Bool) (memory : List ℕ) (members : List Block) (counts : List Count) (s : StandsFor t tasks stacks memory members counts) where
  and_none : (q : Bool) → (q && false) ≡ false
  and_none true = refl
  and_none false = refl

  shuffle : (x y z : Bool) → ((x && y) && z) ≡ ((z && x) && y)
  shuffle true true true = refl
  shuffle true true false = refl
  shuffle true false true = refl
  shuffle true false false = refl
  shuffle false y true = refl
  shuffle false y false = refl

  abbrev follows : Block → Bool
  follows b = may_follow (standing_of t tasks stacks memory) members b

  -- a block waits exactly where it may follow
  waits_is : (b : Block) → In b (blocks_of t) → is_waiting counts members b ≡ follows b
  waits_is b i = go (needs 0 b) refl
    where
      go : (q : Bool) → needs 0 b ≡ q → is_waiting counts members b ≡ follows b
      go true e =
          let in' : is_member members b ≡ true = each_in (λ (c : Block). needs 0 c ≡ true → is_member members c ≡ true) (blocks_of t) b s.roots i e in
          ap (λ q. is_ripe counts b && not q) in' ∙ and_none (is_ripe counts b)
          ∙ sym (ap (λ q. (not q && not (is_black b)) && is_supported (standing_of t tasks stacks memory) members b) in')
      go false e =
          ap (λ q. q && not (is_member members b))
          (ripe_enough b.minimum (count_at counts (index_of b.start)).found (found_in memory (blocks_of t) (sources (stacks_of stacks tasks) members) b) (s.counted.found b i) e
          ∙ sym (enough_same memory (standing_of t tasks stacks memory) members b refl (source_of t (length memory) stacks tasks members s.laid (record { inside = s.inside; apart = s.apart }))))
          ∙ shuffle (not (is_black b)) (is_supported (standing_of t tasks stacks memory) members b) (not (is_member members b))

  live_block : (l : Live) → In l t.live → In l.tracked.block (blocks_of t)
  live_block l i = subst (λ bs. In l.tracked.block bs) (sym (on_is t.live)) (map_in (λ (x : Live). x.tracked.block) t.live l i)

  of_live : (b : Block) → In b (blocks_of t) → (l : Live) × In l t.live × (b ≡ l.tracked.block)
  of_live b i = in_map (λ (x : Live). x.tracked.block) t.live b (subst (λ bs. In b bs) (on_is t.live) i)

  pub first_follows : (key : Key) (f : IsFirst t.live counts members key) → find (may_follow (standing_of t tasks stacks memory) members) (blocks_of t) ≡ Some (f.it).tracked.block
  first_follows key f =
      first_is follows (blocks_of t) (f.it).tracked.block (ids_rise 0 t.registered t.live s.rising).0 (live_block f.it f.there) (sym (waits_is (f.it).tracked.block (live_block f.it f.there)) ∙ f.waits)
      (λ c i e.
      let l = of_live c i in
      let waits : is_waiting counts members (l.0).tracked.block ≡ true = ap (is_waiting counts members) (sym l.2) ∙ waits_is c i ∙ e in
      subst (λ (b : Block). (f.it).tracked.block.id ≤ b.id) (sym l.2) (f.least l.0 l.1 waits))

  find_none : (p : Block → Bool) (bs : List Block) → ((b : Block) → In b bs → p b ≡ false) → find p bs ≡ None
  find_none p [] each = refl
  find_none p (b ∷ bs) each = ap (λ q. cond q (Some b) (find p bs)) (each b (inl refl)) ∙ find_none p bs (λ c i. each c (inr i))

  pub none_follows : ((l : Live) → In l t.live → is_waiting counts members l.tracked.block ≡ false) → find (may_follow (standing_of t tasks stacks memory) members) (blocks_of t) ≡ None
  none_follows none = find_none follows (blocks_of t) (λ b i. let l = of_live b i in sym (waits_is b i) ∙ ap (is_waiting counts members) l.2 ∙ none l.0 l.1)
