use Rattle.std.proofs.Common.{◌≡◌, ◌≢◌, ℕ, zero, suc, ◌<◌, ◌≤◌, true, false, ◌||◌, ◌==◌, List, [], ◌∷◌, ◌++◌, length, set, refl, sym, ap, ◌∙◌, subst, arith, length-set, get_or-set_same, get_or-set_other}
use Rattle.std.proofs.lemmas.Bool.{eqb-true, eq-eqb, or_left, or_right, lt-ltb, le-ltb}
use Rattle.km_links.specs.declared.chain.Node.{Node}
use Rattle.km_links.specs.Chains.{is_in, IsDistinct}
use Rattle.km_links.specs.Linked.{no_slot, node_at, walk, IsSegment, with_next, with_previous}
use Rattle.km_links.proofs.Distinct.{other}

-- a change of nodes that leaves those of a segment
pub frame : (L M : List Node) (p a : ℕ) (ns : List ℕ) (b n : ℕ) → ((m : ℕ) → is_in m ns ≡ true → m < length L → (m < length M) × (node_at M m ≡ node_at L m)) → IsSegment L p a ns b n → IsSegment M p a ns b n
frame L M p a [] b n h s = s
frame L M p a (x ∷ ns) b n h s =
    let k = h x (or_left _ _ (eq-eqb x x refl)) s.1 in
    (s.0, k.0, ap (λ (v : Node). v.previous) k.1 ∙ s.2, rw k.1 (frame L M x (node_at L x).next ns b n (λ m i. h m (or_right (x == m) _ i)) s.3))

-- a written node that is another
pub frame_set : (L : List Node) (i : ℕ) (v : Node) (p a : ℕ) (ns : List ℕ) (b n : ℕ) → is_in i ns ≡ false → IsSegment L p a ns b n → IsSegment (set L i v) p a ns b n
frame_set L i v p a ns b n o s =
    frame L (set L i v) p a ns b n (λ m j l. (omega (arith, length-set L i v), get_or-set_other L i m v (record { previous = 0; next = 0 }) (other m i ns j o))) s

pub last_in : (L : List Node) (p a x : ℕ) (ns : List ℕ) (b n : ℕ) → IsSegment L p a (x ∷ ns) b n → is_in b (x ∷ ns) ≡ true
last_in L p a x [] b n s = rw s.3.1 (or_left _ _ (eq-eqb x x refl))
last_in L p a x (y ∷ ns) b n s = or_right (x == b) _ (last_in L x (node_at L x).next y ns b n s.3)

pub all_within : (L : List Node) (p a : ℕ) (ns : List ℕ) (b n : ℕ) → IsSegment L p a ns b n → (m : ℕ) → is_in m ns ≡ true → m < length L
all_within L p a [] b n s m i = absurd (let z : ⊥ = cc in z)
all_within L p a (x ∷ ns) b n s m i =
    elim (x == m) as (λ t. (x == m) ≡ t → (t || is_in m ns) ≡ true → m < length L) [
      | true ↦ λ e _. subst (λ k. k < length L) (eqb-true x m e) s.1
      | false ↦ λ _ j. all_within L x (node_at L x).next ns b n s.3 m j
    ] refl i

pub append : (L : List Node) (p a : ℕ) (ns : List ℕ) (q m : ℕ) (ks : List ℕ) (b n : ℕ) → IsSegment L p a ns q m → IsSegment L q m ks b n → IsSegment L p a (ns ++ ks) b n
append L p a [] q m ks b n s t = rw s.0 (subst (λ k. IsSegment L k m ks b n) s.1 t)
append L p a (x ∷ ns) q m ks b n s t = (s.0, s.1, s.2, append L x (node_at L x).next ns q m ks b n s.3 t)

-- a segment in two
pub record Split (L : List Node) (p a : ℕ) (ns ks : List ℕ) (b n : ℕ) : Type 0 where
  pub before : ℕ
  pub middle : ℕ
  pub left : IsSegment L p a ns before middle
  pub right : IsSegment L before middle ks b n

pub split : (L : List Node) (p a : ℕ) (ns ks : List ℕ) (b n : ℕ) → IsSegment L p a (ns ++ ks) b n → Split L p a ns ks b n
split L p a [] ks b n s = record { before = p; middle = a; left = (refl, refl); right = s }
split L p a (x ∷ ns) ks b n s =
    let r = split L x (node_at L x).next ns ks b n s.3 in
    record { before = r.before; middle = r.middle; left = (s.0, s.1, s.2, r.left); right = r.right }

-- where a segment begins and ends that may be empty
abbrev pub start_of : List ℕ → ℕ → ℕ → ℕ
start_of [] n a = n
start_of (_ ∷ _) n a = a

-- another slot behind the last of a segment
pub next_set : (L : List Node) (p a : ℕ) (ns : List ℕ) (q s n : ℕ) → IsDistinct ns → IsSegment L p a ns q s → IsSegment (with_next L q n) p (start_of ns n a) ns q n
next_set L p a [] q s n d g = (refl, g.1)
next_set L p a (x ∷ []) q s n d g =
    let same : q ≡ x = g.3.1 in
    let node = get_or-set_same L x (record (node_at L x) { next = n }) (record { previous = 0; next = 0 }) g.1 in
    rw same (g.0, omega (arith, g.1, length-set L x (record (node_at L x) { next = n })), ap (λ (v : Node). v.previous) node ∙ g.2, (ap (λ (v : Node). v.next) node, refl))
next_set L p a (x ∷ y ∷ ns) q s n d g =
    let apart : x ≢ q = λ e. other q x (y ∷ ns) (last_in L x (node_at L x).next y ns q s g.3) d.0 (sym e) in
    let node = get_or-set_other L q x (record (node_at L q) { next = n }) (record { previous = 0; next = 0 }) apart in
    (g.0, omega (arith, g.1, length-set L q (record (node_at L q) { next = n })), ap (λ (v : Node). v.previous) node ∙ g.2, rw node (next_set L x (node_at L x).next (y ∷ ns) q s n d.1 g.3))

-- another slot before the first of a segment
pub previous_set : (L : List Node) (s a : ℕ) (ns : List ℕ) (b e q : ℕ) → IsDistinct ns → IsSegment L s a ns b e → IsSegment (with_previous L a q) q a ns (start_of ns q b) e
previous_set L s a [] b e q d g = (g.0, refl)
previous_set L s a (x ∷ ns) b e q d g =
    let v : Node = record (node_at L x) { previous = q } in
    let node = get_or-set_same L x v (record { previous = 0; next = 0 }) g.1 in
    subst (λ k. IsSegment (with_previous L k q) q k (x ∷ ns) b e) (sym g.0) (refl, omega (arith, g.1, length-set L x v), ap (λ (v : Node). v.previous) node, rw node (frame_set L x v x (node_at L x).next ns b e d.0 g.3))

-- walking gives the list
pub walked : (L : List Node) (p a : ℕ) (ns : List ℕ) (b k : ℕ) → length L ≤ no_slot → length ns ≤ k → IsSegment L p a ns b no_slot → walk k L a ≡ ns
walked L p a [] b zero l h s = refl
walked L p a (x ∷ ns) b zero l h s = absurd (omega arith)
walked L p a [] b (suc k) l h s = rw (le-ltb a (length L) (omega (arith, s.0))) refl
walked L p a (x ∷ ns) b (suc k) l h s =
    rw (s.0, lt-ltb x (length L) s.1) (ap (λ ks. x ∷ ks) (walked L x (node_at L x).next ns b k l (omega arith) s.3))
