-- What is listed was listed since the last completed scan.
use Rattle.std.proofs.Common.{◌≡◌, ℕ, ◌≤◌, ◌<◌, ◌==◌, Bool, true, false, ◌||◌, nat_lt, List, [], ◌∷◌, ◌++◌, map, filter, refl, sym, ◌∙◌, ap, subst, arith, ◌⊎◌, inl, inr, eqb-true}
use Rattle.std.specs.List.{list_any}
use Rattle.std.proofs.lemmas.Bool.{and_parts, and_from}
use Rattle.km_model.specs.History.{Event, History}
use Rattle.km_model.specs.Members.{In}
use Rattle.km_model.specs.Blocks.{Block, Minimum, Black, AtLeast, can_be_reported, is_among}
use Rattle.km_model.specs.Tasks.{Task}
use Rattle.km_model.specs.World.{World}
use Rattle.km_model.specs.Past.{world, completes}
use Rattle.km_model.specs.Verdict.{is_listed, is_unreferenced, last_unreferenced, listing_ids, unreferenced}
use Rattle.km_model.specs.Follows.{past_of}
use Rattle.km_model.proofs.Cases.{elim_false}
use Rattle.km_model.proofs.Lists.{any_in, in_map, filter_in, in_filter, map_in, in_among, in_push_cases, rising_in}
use Rattle.km_model.proofs.Worlds.{Tame, Closed, Of, event_keeps}
use Rattle.km_model.proofs.BlockLaws.{ids_rise}
use Rattle.km_round_laws.specs.RoundLaws.{ListedSinceAreListed}

-- whether a minimum is one at which a block can be reported
abbrev reports : Minimum → Bool
reports m = nat_lt 0 (elim m as (λ _. ℕ) [ Black ↦ 0 | AtLeast n ↦ n ])

-- a block that can be reported after a change could be before
could : (b c : Block) → Tame b c → can_be_reported c ≡ true → can_be_reported b ≡ true
could b c tame can = go tame.3
  where
    go : (c.minimum ≡ b.minimum) ⊎ ((c.minimum ≡ AtLeast 0) ⊎ (c.minimum ≡ Black)) → can_be_reported b ≡ true
    go (inl same) = subst (λ m. reports m ≡ true) same can
    go (inr (inl grey)) = absurd (elim_false (subst (λ m. reports m ≡ true) grey can))
    go (inr (inr black)) = absurd (elim_false (subst (λ m. reports m ≡ true) black can))

-- a block was there before, and could be reported then if it can be now
abbrev Old : World → Block → Type 0
Old w c = (b : Block) × In b w.blocks × (b.id ≡ c.id) × (can_be_reported c ≡ true → can_be_reported b ≡ true)

abbrev WasThere : World → ℕ → List Block → ℕ → List Task → Type 0
WasThere w r bs s ts = (w.registered ≤ r) × ((c : Block) → In c bs → Old w c ⊎ (w.registered ≤ c.id))

there_closed : (w : World) → Closed (WasThere w)
there_closed w = record {
  registered = λ r s bs ts b e k. (
    (let more = k.0 in omega (arith, more)),
    (λ c i. elim (in_push_cases bs c b i) [
      | inl j ↦ k.1 c j
      | inr same ↦ inr (let more = k.0 in let id : c.id ≡ b.id = ap (λ (x : Block). x.id) same in omega (arith, more, id, e))
    ]),
  );
  fewer = λ r s bs ts test k. (k.0, λ c i. k.1 c (filter_in test bs c i).1);
  none = λ r s bs ts k. (k.0, λ c i. absurd i);
  changed = λ r s bs ts change tame k. (k.0, λ c i. let b = in_map change bs c i in changed_block b.0 c (change b.0) (tame b.0) b.2 (k.1 b.0 b.1));
  started = λ r s bs ts t e k. k;
  gone = λ r s bs ts test k. k;
  set = λ r s bs ts change same k. k;
}
  where
    changed_block : (b c d : Block) → Tame b d → c ≡ d → Old w b ⊎ (w.registered ≤ b.id) → Old w c ⊎ (w.registered ≤ c.id)
    changed_block b c d tame is (inl a) =
        inl (a.0, a.1, a.2 ∙ (sym tame.0 ∙ ap (λ (x : Block). x.id) (sym is)), λ can. a.3 (could b d tame (subst (λ x. can_be_reported x ≡ true) is can)))
    changed_block b c d tame is (inr fresh) = inr (subst (λ (x : Block). w.registered ≤ x.id) (sym is) (subst (λ n. w.registered ≤ n) (sym tame.0) fresh))

was_there : (e : Event) (h : History) → Of (WasThere (world (past_of h))) (world (past_of (e ∷ h)))
was_there e h =
    event_keeps (WasThere (world (past_of h))) (there_closed (world (past_of h))) (world (past_of h)) (listing_ids (past_of h)) e.act e.answer
    (omega arith, λ c i. inl (c, i, refl, λ can. can))

-- what is among the ids of the blocks that pass is the id of a block that does
among_ids : (p : Block → Bool) (bs : List Block) (id : ℕ) → is_among id (map (λ (b : Block). b.id) (filter p bs)) ≡ true → (b : Block) × In b bs × (b.id ≡ id) × (p b ≡ true)
among_ids p bs id e =
    let found = any_in (λ m. m == id) (map (λ (b : Block). b.id) (filter p bs)) e in
    let b = in_map (λ (b : Block). b.id) (filter p bs) found.0 found.1 in
    let there = filter_in p bs b.0 b.1 in
    (b.0, there.1, sym b.2 ∙ eqb-true found.0 id found.2, there.0)

unended : (e : Event) (h : History) → completes e.answer ≡ false → last_unreferenced (past_of (e ∷ h)) ≡ last_unreferenced (past_of h)
unended e h f = ap (λ q. elim q as (λ _. List ℕ) [ true ↦ unreferenced (past_of h) | false ↦ last_unreferenced (past_of h) ]) f

-- what was unreferenced had been registered
was_registered : (h : History) (id : ℕ) → is_among id (last_unreferenced (past_of h)) ≡ true → id < (world (past_of h)).registered
was_registered [] id e = absurd (elim_false e)
was_registered (e ∷ h) id f = go (was_registered h id) (completes e.answer) f
  where
    more : (world (past_of h)).registered ≤ (world (past_of (e ∷ h))).registered
    more = (was_there e h).0

    go : (is_among id (last_unreferenced (past_of h)) ≡ true → id < (world (past_of h)).registered) → (q : Bool)
        → is_among id (elim q as (λ _. List ℕ) [ true ↦ unreferenced (past_of h) | false ↦ last_unreferenced (past_of h) ]) ≡ true → id < (world (past_of (e ∷ h))).registered
    go rest true g =
        let b = among_ids (is_unreferenced (past_of h)) (world (past_of h)).blocks id g in
        let below = (rising_in (λ (x : Block). x.id) (world (past_of h)).blocks 0 (world (past_of h)).registered b.0 (ids_rise h) b.1).1 in
        let up = more in let same = b.2 in omega (arith, below, up, same)
    go rest false g = let below = rest g in let up = more in omega (arith, below, up)

listed_before : (e : Event) (h : History) (id : ℕ) → completes e.answer ≡ false → is_among id (listing_ids (past_of (e ∷ h))) ≡ true → is_among id (listing_ids (past_of h)) ≡ true
listed_before e h id f g =
    let c = among_ids (is_listed (past_of (e ∷ h))) (world (past_of (e ∷ h))).blocks id g in
    let parts = and_parts (is_among c.0.id (last_unreferenced (past_of (e ∷ h)))) (can_be_reported c.0) c.3 in
    let among : is_among c.0.id (last_unreferenced (past_of h)) ≡ true = subst (λ ids. is_among c.0.id ids ≡ true) (unended e h f) parts.0 in
    elim ((was_there e h).1 c.0 c.1) [
      | inl b ↦ in_among id (listing_ids (past_of h))
          (subst (λ n. In n (listing_ids (past_of h))) (b.2 ∙ c.2)
          (map_in (λ (x : Block). x.id) (filter (is_listed (past_of h)) (world (past_of h)).blocks) b.0
          (in_filter (is_listed (past_of h)) (world (past_of h)).blocks b.0 b.1
          (and_from (is_among b.0.id (last_unreferenced (past_of h))) (can_be_reported b.0) (subst (λ n. is_among n (last_unreferenced (past_of h)) ≡ true) (sym b.2) among) (b.3 parts.1)))))
      | inr fresh ↦ absurd (let below : c.0.id < (world (past_of h)).registered = was_registered h c.0.id among in omega (arith, below, fresh))
    ]

pub listed_since : ListedSinceAreListed
listed_since h [] id none listed = listed
listed_since h (e ∷ later) id none listed =
    let parts = neither (completes e.answer) (list_any (λ (x : Event). completes x.answer) later) none in
    listed_since h later id parts.1 (listed_before e (later ++ h) id parts.0 listed)
  where
    neither : (p q : Bool) → (p || q) ≡ false → (p ≡ false) × (q ≡ false)
    neither true q f = absurd (elim_false (sym f))
    neither false q f = (refl, f)
