use Rattle.std.proofs.Common.{◌≡◌, ℕ, ◌+◌, ◌-◌, ◌<◌, ◌≤◌, ◌⊎◌, Bool, true, false, ltb, not, List, [], ◌∷◌, ◌++◌, cond, Some, None, Option, Result, Ok, Err, is_ok, option_map, if◌then◌else◌, inl, inr, refl, sym, ap, ◌∙◌, subst, arith}
use Rattle.std.specs.Prelude.{find, filter}
use Rattle.km_record.specs.Records.{block_of}
use Rattle.std.specs.Result.{result_ok}
use Rattle.std.proofs.lemmas.Bool.{and_right, and_left, eq-eqb, le-ltb, ltb-false, ltb-true, ne_eqb, both_ways}
use Rattle.km_base.specs.declared.spans.Span.{Span}
use Rattle.km_model.specs.Blocks.{Block, contains}
use Rattle.km_record.specs.declared.kinds.RecId.{RecId}
use Rattle.km_record.specs.declared.record.Record.{Record}
use Rattle.km_track.specs.declared.faults.NoObject.{NoObject}
use Rattle.km_track.specs.Tracker.{AreApart, AreRising, IsApartFrom, Live, NeverMeet, Tracker, begins, id_of, live_where, live_with, meets, unregistered_at}
use Rattle.km_free_part.specs.declared.parts.PartFault.TheVariants.{NotInside}
use Rattle.km_free_part.specs.Parts.{part_in, part_of, rest_block, rest_registered}
use Rattle.km_free_part.proofs.Found.{seen, inside}

-- what a part that is in a block tells
in_block : (o : Option Live) (end : ℕ) (id : RecId) → part_in o end ≡ Ok id → (l : Live) × (o ≡ Some l) × (id_of l ≡ id) × (end ≤ l.tracked.block.start + l.tracked.block.size)
in_block None end id p = absurd (let z : ⊥ = cc in z)
in_block (Some l) end id p =
    elim (ltb (l.tracked.block.start + l.tracked.block.size) end) as (λ b. ltb (l.tracked.block.start + l.tracked.block.size) end ≡ b → (if b then Err NotInside else Ok (id_of l)) ≡ Ok id → (k : Live) × (Some l ≡ Some k) × (id_of k ≡ id) × (end ≤ k.tracked.block.start + k.tracked.block.size)) [
      | true ↦ λ e z. absurd (let y : ⊥ = cc in y)
      | false ↦ λ e z. (l, refl, (let same : id_of l ≡ id = cc in same), ltb-false (l.tracked.block.start + l.tracked.block.size) end e)
    ] refl p

-- the block that a part is of, as its id gives it
pub taken : (t : Tracker) (part : Span) (id : RecId) (o : Option Live) → AreRising 0 t.live t.registered → part_of part t ≡ Ok id → o ≡ live_with id t
    → (l : Live) × (live_where (contains part.start.0) t ≡ Some l) × (o ≡ Some l) × (l.tracked.block.start ≤ part.start.0) × (part.start.0 + part.size ≤ l.tracked.block.start + l.tracked.block.size) × (part.start.0 < l.tracked.block.start + l.tracked.block.size)
taken t part id o r p w =
    let k = in_block (live_where (contains part.start.0) t) (part.start.0 + part.size) id p in
    let i = inside t part.start.0 k.0 k.1 in
    (k.0, k.1, w ∙ seen t part.start.0 id (Some k.0) r k.1 (ap (λ (x : RecId). Some x) (sym k.2)), i.0, k.3, i.1)

-- something is found where something passes
some_found : (test u : Live → Bool) (ls : List Live) (l : Live) → find test ls ≡ Some l → u l ≡ true → (m : Live) × (find u ls ≡ Some m)
some_found test u [] l f e = absurd (let z : ⊥ = cc in z)
some_found test u (m ∷ ls) l f e =
    elim (u m) as (λ b. u m ≡ b → (k : Live) × (cond b (Some m) (find u ls) ≡ Some k)) [
      | true ↦ λ _. (m, refl)
      | false ↦ λ n. some_found test u ls l (elim (test m) as (λ b. cond b (Some m) (find test ls) ≡ Some l → find test ls ≡ Some l) [
        | true ↦ λ z. absurd (let same : m ≡ l = cc in both_ways (u m) n (subst (λ (x : Live). u x ≡ true) (sym same) e))
        | false ↦ λ z. z
      ] f) e
    ] refl

-- the block at the address is unregistered
pub gone : (t new : Tracker) (a : ℕ) (l : Live) (r : Result RecId NoObject) → live_where (contains a) t ≡ Some l → result_ok r ≡ option_map id_of (live_where (begins l.tracked.block.start) t)
    → new ≡ (if is_ok r then unregistered_at l.tracked.block.start t else t) → new ≡ unregistered_at l.tracked.block.start t
gone t new a l (Ok i) f e n = n
gone t new a l (Err x) f e n =
    let m = some_found (λ (k : Live). contains a k.tracked.block) (λ (k : Live). begins l.tracked.block.start k.tracked.block) t.live l f (eq-eqb l.tracked.block.start l.tracked.block.start refl) in
    let z : None ≡ Some (id_of m.0) = e ∙ ap (option_map id_of) m.1 in
    absurd (let y : ⊥ = cc in y)

-- what can't pass for blocks apart from one
abbrev pub Fails : Block → (Block → Bool) → Type 0
Fails b q = (c : Block) → 0 < c.size → AreApart b c ⊎ AreApart c b → q c ≡ false

others : (b : Block) (q : Block → Bool) (p : Live → Bool) (ls : List Live) → Fails b q → IsApartFrom b ls → NeverMeet ls → find (λ (l : Live). q l.tracked.block) (filter p ls) ≡ None
others b q p [] f i n = refl
others b q p (m ∷ ls) f i n =
    elim (p m) as (λ d. find (λ (l : Live). q l.tracked.block) (if d then m ∷ filter p ls else filter p ls) ≡ None) [
      | true ↦ rw (f m.tracked.block n.0 (inl i.0)) (others b q p ls f i.1 n.2)
      | false ↦ others b q p ls f i.1 n.2
    ]

apart_from : (test : Live → Bool) (ls : List Live) (b : Block) (l : Live) → IsApartFrom b ls → find test ls ≡ Some l → AreApart b l.tracked.block
apart_from test [] b l i f = absurd (let z : ⊥ = cc in z)
apart_from test (m ∷ ls) b l i f =
    elim (test m) as (λ d. cond d (Some m) (find test ls) ≡ Some l → AreApart b l.tracked.block) [
      | true ↦ λ z. let same : m ≡ l = cc in subst (λ (x : Live). AreApart b x.tracked.block) same i.0
      | false ↦ λ z. apart_from test ls b l i.1 z
    ] f

-- no other block passes what can't pass for blocks apart from one
none_left : (test : Live → Bool) (q : Block → Bool) (ls : List Live) (l : Live) → Fails l.tracked.block q → NeverMeet ls → find test ls ≡ Some l
    → find (λ (k : Live). q k.tracked.block) (filter (λ (k : Live). not (begins l.tracked.block.start k.tracked.block)) ls) ≡ None
none_left test q [] l f n w = absurd (let z : ⊥ = cc in z)
none_left test q (m ∷ ls) l f n w =
    elim (test m) as (λ d. cond d (Some m) (find test ls) ≡ Some l → find (λ (k : Live). q k.tracked.block) (filter (λ (k : Live). not (begins l.tracked.block.start k.tracked.block)) (m ∷ ls)) ≡ None) [
      | true ↦ λ z.
          let same : m ≡ l = cc in
          rw (eq-eqb m.tracked.block.start l.tracked.block.start (ap (λ (x : Live). x.tracked.block.start) same))
          (others l.tracked.block q (λ (k : Live). not (begins l.tracked.block.start k.tracked.block)) ls f (subst (λ (x : Live). IsApartFrom x.tracked.block ls) same n.1) n.2)
      | false ↦ λ z.
          elim (not (begins l.tracked.block.start m.tracked.block)) as (λ d. find (λ (k : Live). q k.tracked.block) (if d then m ∷ filter (λ (k : Live). not (begins l.tracked.block.start k.tracked.block)) ls else filter (λ (k : Live). not (begins l.tracked.block.start k.tracked.block)) ls) ≡ None) [
            | true ↦ rw (f m.tracked.block n.0 (inr (apart_from test ls m.tracked.block l n.1 z))) (none_left test q ls l f n.2 z)
            | false ↦ none_left test q ls l f n.2 z
          ]
    ] w

pub none_where : (t : Tracker) (a : ℕ) (q : Block → Bool) (l : Live) → Fails l.tracked.block q → NeverMeet t.live → live_where (contains a) t ≡ Some l → live_where q (unregistered_at l.tracked.block.start t) ≡ None
none_where t a q l f n w = none_left (λ (k : Live). contains a k.tracked.block) q t.live l f n w

-- a span inside a block meets none that is apart from it
pub meets_fails : (b : Block) (s : Span) → b.start ≤ s.start.0 → s.start.0 + s.size ≤ b.start + b.size → Fails b (meets s)
meets_fails b s low high c z (inl (inl u)) = and_left _ _ (le-ltb c.start (s.start.0 + s.size) (omega (arith, u, high)))
meets_fails b s low high c z (inl (inr u)) = and_right _ _ (le-ltb s.start.0 (c.start + c.size) (omega (arith, u, low)))
meets_fails b s low high c z (inr (inl u)) = and_right _ _ (le-ltb s.start.0 (c.start + c.size) (omega (arith, u, low)))
meets_fails b s low high c z (inr (inr u)) = and_left _ _ (le-ltb c.start (s.start.0 + s.size) (omega (arith, u, high)))

pub begins_fails : (b : Block) (a : ℕ) → b.start ≤ a → a < b.start + b.size → Fails b (begins a)
begins_fails b a low high c z (inl (inl u)) = ne_eqb c.start a (λ e. omega (arith, u, e, high))
begins_fails b a low high c z (inl (inr u)) = ne_eqb c.start a (λ e. omega (arith, u, e, low, z))
begins_fails b a low high c z (inr (inl u)) = ne_eqb c.start a (λ e. omega (arith, u, e, low, z))
begins_fails b a low high c z (inr (inr u)) = ne_eqb c.start a (λ e. omega (arith, u, e, high))

-- a rest that was registered doesn't pass either
pub none_with : (t : Tracker) (o : Option RecId) (s : Span) (b : Block) (q : Block → Bool) → live_where q t ≡ None → ((id : ℕ) → q (rest_block id s b) ≡ false) → live_where q (rest_registered o s b t) ≡ None
none_with t None s b q n f = n
none_with t (Some i) s b q n f = last t.live n
  where
    last : (ls : List Live) → find (λ (l : Live). q l.tracked.block) ls ≡ None → find (λ (l : Live). q l.tracked.block) (ls ++ record { slot = i.slot; tracked = record { block = rest_block t.registered s b; count = 0; kept = None; flagged = false; white_last = false } } ∷ []) ≡ None
    last [] n = rw (f t.registered) refl
    last (m ∷ ls) n = elim (q m.tracked.block) as (λ d. cond d (Some m) (find (λ (l : Live). q l.tracked.block) ls) ≡ None → cond d (Some m) (find (λ (l : Live). q l.tracked.block) (ls ++ record { slot = i.slot; tracked = record { block = rest_block t.registered s b; count = 0; kept = None; flagged = false; white_last = false } } ∷ [])) ≡ None) [
      | true ↦ λ z. absurd (let y : ⊥ = cc in y)
      | false ↦ λ z. last ls z
    ] n

pub same_live : (o : Option Live) (l m : Live) → o ≡ Some m → o ≡ Some l → m ≡ l
same_live o l m e f = let z : Some m ≡ Some l = sym e ∙ f in let y : m ≡ l = cc in y

pub nowhere : (t : Tracker) (part : Span) (id : RecId) → AreRising 0 t.live t.registered → part_of part t ≡ Ok id → None ≡ live_with id t → ⊥
nowhere t part id r p w = let k = taken t part id None r p w in let e : None ≡ Some k.0 = k.2 in let z : ⊥ = cc in z

-- what a split knows of the block with the id
pub record Has (t : Tracker) (part : Span) (m : Live) : Type 0 where
  pub is : live_where (contains part.start.0) t ≡ Some m
  pub low : m.tracked.block.start ≤ part.start.0
  pub high : part.start.0 + part.size ≤ m.tracked.block.start + m.tracked.block.size
  pub first : part.start.0 < m.tracked.block.start + m.tracked.block.size

pub has : (t : Tracker) (part : Span) (id : RecId) (m : Live) → AreRising 0 t.live t.registered → part_of part t ≡ Ok id → Some m ≡ live_with id t → Has t part m
has t part id m r p w =
    let k = taken t part id (Some m) r p w in
    let e : Some m ≡ Some k.0 = k.2 in
    let same : k.0 ≡ m = cc in
    subst (λ (x : Live). Has t part x) same (record { is = k.1; low = k.3; high = k.4; first = k.5 })

pub spare_left : (o : Option RecId) (t : Tracker) (s : Span) (b : Block) (n : ℕ) → option_map (λ (i : RecId). i.generation) o ≡ (if ltb 0 s.size then Some n else None) → (0 < s.size → 0 < t.spare - 1) → 0 < t.spare → 0 < (rest_registered o s b t).spare
spare_left None t s b n e f z = z
spare_left (Some i) t s b n e f z =
    f (elim (ltb 0 s.size) as (λ d. ltb 0 s.size ≡ d → Some i.generation ≡ (if d then Some n else None) → 0 < s.size) [
      | true ↦ λ k _. ltb-true 0 s.size k
      | false ↦ λ _ g. absurd (let y : ⊥ = cc in y)
    ] refl e)

pub last_id : (o : Option RecId) (d : Bool) (s : Span) (b : Block) (t : Tracker) → option_map (λ (i : RecId). i.generation) o ≡ (if d then Some t.registered else None)
    → option_map (λ (i : RecId). i.generation) o ≡ (if d then Some ((rest_registered o s b t).registered - 1) else None)
last_id None true s b t e = absurd (let y : ⊥ = cc in y)
last_id None false s b t e = refl
last_id (Some i) true s b t e = let same : i.generation ≡ t.registered = cc in ap (λ n. Some n) (let k : i.generation ≡ t.registered + 1 - 1 = omega (arith, same) in k)
last_id (Some i) false s b t e = absurd (let y : ⊥ = cc in y)

pub same_rest : (o : Option RecId) (s : Span) (r : Record) (n k : ℕ) (t : Tracker) → rest_registered o s (block_of n r) t ≡ rest_registered o s (block_of k r) t
same_rest None s r n k t = refl
same_rest (Some i) s r n k t = refl
