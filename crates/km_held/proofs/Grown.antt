-- The list of what is held: each member is in a certificate, and no further block may follow it.
use Rattle.std.proofs.Common.{append-nil, ◌≡◌, ℕ, zero, suc, ◌+◌, ◌≤◌, ◌==◌, inl, inr, Bool, true, false, ◌&&◌, ◌||◌, not, cond, List, [], ◌∷◌, ◌++◌, length, Option, Some, None, find, filter, refl, sym, ◌∙◌, ap, subst, arith, eqb-true, eq-eqb, ne_eqb, ◌<◌, if◌then◌else◌}
use Rattle.std.specs.Prelude.{filter_map}
use Rattle.std.specs.List.{list_any, cons_option}
use Rattle.std.proofs.lemmas.Bool.{and_parts, and_from, not-true, or_left, or_right}
use Rattle.km_model.proofs.Cases.{elim_false, none_some, some_same}
use Rattle.km_laws.proofs.Lists.{In, Each, find_in, any_in, each_in, in_each, each_none, count, count_more, in_push_cases}
use Rattle.km_model.proofs.Lists.{among_in}
use Rattle.km_model.specs.Blocks.{Block, Minimum, Black, AtLeast, block_of, is_black, is_scanned, needs, is_among}
use Rattle.km_model.specs.Held.{Standing, is_supported, members, is_certificate, IsHeld}
use Rattle.std.proofs.lemmas.List.{append_assoc}
use Rattle.km_laws.proofs.Counts.{IdsRise}
use Rattle.km_laws.proofs.Certificates.{id_found}
use Rattle.km_certificates.specs.Certificates.{is_member, may_follow, grown, held_blocks, up_to, is_held, list_of, first_unfit}
use Rattle.km_held.proofs.Support.{ScansMore, supported_more}

pub any_push : {X : Type 0} (p : X → Bool) (xs : List X) (y : X) → list_any p (xs ++ y ∷ []) ≡ (p y || list_any p xs)
any_push p [] y = refl
any_push p (x ∷ xs) y = ap (λ q. p x || q) (any_push p xs y) ∙ swap (p x) (p y) (list_any p xs)
  where
    swap : (a b c : Bool) → (a || (b || c)) ≡ (b || (a || c))
    swap true true c = refl
    swap true false c = refl
    swap false true c = refl
    swap false false c = refl

pub any_from : {X : Type 0} (p : X → Bool) (xs : List X) (x : X) → In x xs → p x ≡ true → list_any p xs ≡ true
any_from p [] x i e = absurd i
any_from p (y ∷ ys) x (inl same) e = or_left (p y) (list_any p ys) (ap p (sym same) ∙ e)
any_from p (y ∷ ys) x (inr i) e = or_right (p y) (list_any p ys) (any_from p ys x i e)

-- where nothing is found, no member passes
find_none : {X : Type 0} (p : X → Bool) (xs : List X) → find p xs ≡ None → (x : X) → In x xs → p x ≡ false
find_none p [] e x i = absurd i
find_none p (y ∷ ys) e x i = go (λ g. find_none p ys g x) (p y) refl e i
  where
    go : (find p ys ≡ None → In x ys → p x ≡ false) → (q : Bool) → p y ≡ q → cond q (Some y) (find p ys) ≡ None → In x (y ∷ ys) → p x ≡ false
    go rest true f g j = absurd (none_some y (sym g))
    go rest false f g (inl same) = ap p same ∙ f
    go rest false f g (inr j) = rest g j

none_found : {X : Type 0} (p : X → Bool) (xs : List X) → ((x : X) → In x xs → p x ≡ false) → find p xs ≡ None
none_found p [] each = refl
none_found p (y ∷ ys) each = rw (each y (inl refl)) (none_found p ys (λ x i. each x (inr i)))

-- what is among the blocks that are found is found
member_of : (find_one : ℕ → Option Block) (ids : List ℕ) (x : Block) → In x (filter_map find_one ids) → (id : ℕ) × In id ids × (find_one id ≡ Some x)
member_of find_one [] x i = absurd i
member_of find_one (id ∷ ids) x i = go (member_of find_one ids x) (find_one id) refl i
  where
    go : (In x (filter_map find_one ids) → (k : ℕ) × In k ids × (find_one k ≡ Some x))
        → (o : Option Block) → find_one id ≡ o → In x (cons_option o (filter_map find_one ids)) → (k : ℕ) × In k (id ∷ ids) × (find_one k ≡ Some x)
    go rest None e j = let found = rest j in (found.0, inr found.1, found.2)
    go rest (Some b) e (inl same) = (id, inl refl, e ∙ ap Some (sym same))
    go rest (Some b) e (inr j) = let found = rest j in (found.0, inr found.1, found.2)

-- blocks of which each stands, and a certificate with the same members
pub record Certified (s : Standing) (xs : List Block) : Type 0 where
  pub ids : List ℕ
  pub certificate : is_certificate s ids ≡ true
  pub same : (p : Block → Bool) → list_any p (members s ids) ≡ list_any p xs
  pub among : (id : ℕ) → is_among id ids ≡ list_any (λ (c : Block). c.id == id) xs
  pub standing : (b : Block) → In b xs → block_of s.blocks b.id ≡ Some b

pub certified_none : (s : Standing) → Certified s []
certified_none s = record { ids = []; certificate = refl; same = λ p. refl; among = λ id. refl; standing = λ b i. absurd i }

same_scans : (s : Standing) (ids : List ℕ) (xs : List Block) → ((p : Block → Bool) → list_any p (members s ids) ≡ list_any p xs) → ScansMore xs (members s ids)
same_scans s ids xs same a e = same (λ x. is_scanned x a) ∙ e

-- one more that may follow them
pub certified_push : (s : Standing) (xs : List Block) (b : Block) → block_of s.blocks b.id ≡ Some b → may_follow s xs b ≡ true → Certified s xs → Certified s (xs ++ b ∷ [])
certified_push s xs b found may c = record {
  ids = b.id ∷ c.ids;
  certificate = and_from _ (is_certificate s c.ids) (subst (λ o. (elim o as (λ _. Bool) [
    | None ↦ false
    | Some x ↦ not (is_black x) && not (is_among b.id c.ids) && is_supported s (members s c.ids) x
  ]) ≡ true) (sym found) fits) c.certificate;
  same = λ p. ap (λ o. list_any p (cons_option o (members s c.ids))) found ∙ ap (λ q. p b || q) (c.same p) ∙ sym (any_push p xs b);
  among = λ id. ap (λ q. b.id == id || q) (c.among id) ∙ sym (any_push (λ (x : Block). x.id == id) xs b);
  standing = λ x i. elim (in_push_cases xs x b i) [ inl j ↦ c.standing x j | inr e ↦ subst (λ (y : Block). block_of s.blocks y.id ≡ Some y) (sym e) found ];
}
  where
    fits : (not (is_black b) && not (is_among b.id c.ids) && is_supported s (members s c.ids) b) ≡ true
    fits =
        let parts = and_parts (not (is_member xs b) && not (is_black b)) (is_supported s xs b) may in
        let both = and_parts (not (is_member xs b)) (not (is_black b)) parts.0 in
        and_from (not (is_black b) && not (is_among b.id c.ids)) (is_supported s (members s c.ids) b)
        (and_from (not (is_black b)) (not (is_among b.id c.ids)) both.1 (ap not (c.among b.id) ∙ both.0))
        (supported_more s xs (members s c.ids) (same_scans s c.ids xs c.same) b parts.1)

-- its members are held
pub certified_held : (s : Standing) (xs : List Block) (b : Block) → Certified s xs → In b xs → IsHeld s b.id
certified_held s xs b c i =
    (c.ids, and_from (is_certificate s c.ids) (is_among b.id c.ids) c.certificate (c.among b.id ∙ any_from (λ (x : Block). x.id == b.id) xs b i (eq-eqb b.id b.id refl)))

module _ (s : Standing) where
  -- as many may follow a list as aren't in it
  abbrev pub out : List Block → Block → Bool
  out xs b = not (is_member xs b)

  pub fewer : (xs : List Block) (b : Block) → In b s.blocks → is_member xs b ≡ false → count (out (xs ++ b ∷ [])) s.blocks + 1 ≤ count (out xs) s.blocks
  fewer xs b i e =
      count_more (out xs) (out (xs ++ b ∷ [])) s.blocks b
      (λ y j f. let rest = not-true (is_member (xs ++ b ∷ []) y) f in
      ap not (right_none (b.id == y.id) (is_member xs y) (sym (any_push (λ (x : Block). x.id == y.id) xs b) ∙ rest)))
      i (ap not e)
      (ap not (any_push (λ (x : Block). x.id == b.id) xs b ∙ or_left (b.id == b.id) (is_member xs b) (eq-eqb b.id b.id refl)))
    where
      right_none : (p q : Bool) → (p || q) ≡ false → q ≡ false
      right_none true q f = absurd (elim_false (sym f))
      right_none false q f = f

  count_in : (p : Block → Bool) (bs : List Block) (b : Block) → In b bs → p b ≡ true → 1 ≤ count p bs
  count_in p [] b i e = absurd i
  count_in p (x ∷ bs) b (inl same) e = rw (ap p (sym same) ∙ e) (omega arith)
  count_in p (x ∷ bs) b (inr i) e = let rest : 1 ≤ count p bs = count_in p bs b i e in omega (arith, rest)

  pub out_of : (xs : List Block) (b : Block) → may_follow s xs b ≡ true → is_member xs b ≡ false
  out_of xs b e = not-true (is_member xs b) (and_parts (not (is_member xs b)) (not (is_black b)) (and_parts (not (is_member xs b) && not (is_black b)) (is_supported s xs b) e).0).0

  pub count_all : (p : Block → Bool) (bs : List Block) → count p bs ≤ length bs
  count_all p [] = omega arith
  count_all p (b ∷ bs) =
      let rest : count p bs ≤ length bs = count_all p bs in
      elim (p b) as (λ q. cond q 1 0 + count p bs ≤ suc (length bs)) [ true ↦ omega (arith, rest) | false ↦ omega (arith, rest) ]

-- of blocks with ids of their own
module _ (s : Standing) (rise : IdsRise s.blocks) where
  ids_found : (b : Block) → In b s.blocks → block_of s.blocks b.id ≡ Some b
  ids_found b i = id_found s.blocks b rise i

  -- what has grown so often as there are blocks has no block that may follow it
  closed : (n : ℕ) (xs : List Block) → count (out s xs) s.blocks ≤ n → find (may_follow s (grown n s xs)) s.blocks ≡ None
  closed zero xs le =
      none_found (may_follow s xs) s.blocks (λ b i.
      elim (may_follow s xs b) as (λ q. may_follow s xs b ≡ q → q ≡ false) [
        | true ↦ λ e. let more : 1 ≤ count (out s xs) s.blocks = count_in s (out s xs) s.blocks b i (ap not (out_of s xs b e)) in absurd (omega (arith, le, more))
        | false ↦ λ e. refl
      ] refl)
  closed (suc n) xs le = go (closed n) (find (may_follow s xs) s.blocks) refl
    where
      go : ((ys : List Block) → count (out s ys) s.blocks ≤ n → find (may_follow s (grown n s ys)) s.blocks ≡ None) → (o : Option Block) → find (may_follow s xs) s.blocks ≡ o
          → find (may_follow s (elim o as (λ _. List Block) [ None ↦ xs | Some b ↦ grown n s (xs ++ b ∷ []) ])) s.blocks ≡ None
      go rest None e = e
      go rest (Some b) e =
          let at = find_in (may_follow s xs) s.blocks b e in
          let less : count (out s (xs ++ b ∷ [])) s.blocks + 1 ≤ count (out s xs) s.blocks = fewer s xs b at.1 (out_of s xs b at.0) in
          rest (xs ++ b ∷ []) (omega (arith, le, less))

  -- and is in a certificate
  grown_certified : (n : ℕ) (xs : List Block) → Certified s xs → Certified s (grown n s xs)
  grown_certified zero xs c = c
  grown_certified (suc n) xs c = go (grown_certified n) (find (may_follow s xs) s.blocks) refl
    where
      go : ((ys : List Block) → Certified s ys → Certified s (grown n s ys)) → (o : Option Block) → find (may_follow s xs) s.blocks ≡ o → Certified s (elim o as (λ _. List Block) [ None ↦ xs | Some b ↦ grown n s (xs ++ b ∷ []) ])
      go rest None e = c
      go rest (Some b) e =
          let at = find_in (may_follow s xs) s.blocks b e in
          rest (xs ++ b ∷ []) (certified_push s xs b (ids_found b at.1) at.0 c)

  pub held_closed : find (may_follow s (held_blocks s)) s.blocks ≡ None
  held_closed = closed (length s.blocks) (filter (needs 0) s.blocks) (count_all s (out s (filter (needs 0) s.blocks)) s.blocks)

  black_needs : (b : Block) → needs 0 b ≡ true → is_black b ≡ false
  black_needs b e = go b.minimum e
    where
      go : (m : Minimum) → (elim m as (λ _. Bool) [ Black ↦ false | AtLeast n ↦ n == 0 ]) ≡ true → (elim m as (λ _. Bool) [ Black ↦ true | AtLeast _ ↦ false ]) ≡ false
      go Black f = absurd (elim_false f)
      go (AtLeast n) f = refl

  lower_out : (xs : List Block) (b : Block) → ((x : Block) → In x xs → x.id < b.id) → is_member xs b ≡ false
  lower_out xs b below = each_none (λ (c : Block). c.id == b.id) xs (λ x i. let lt : x.id < b.id = below x i in ne_eqb x.id b.id (λ e. omega (arith, lt, e)))

  -- the blocks that need no reference, after others
  roots : (bs xs : List Block) → ((x : Block) → In x xs → (c : Block) → In c bs → x.id < c.id) → ((c : Block) → In c bs → In c s.blocks) → IdsRise bs → Certified s xs → Certified s (xs ++ filter (needs 0) bs)
  roots [] xs below there up c = subst (Certified s) (sym (append-nil xs)) c
  roots (b ∷ bs) xs below there up c =
      elim (needs 0 b) as (λ q. needs 0 b ≡ q → Certified s (xs ++ cond q (b ∷ filter (needs 0) bs) (filter (needs 0) bs))) [
        | true ↦ λ e.
            subst (Certified s) (append_assoc xs (b ∷ []) (filter (needs 0) bs))
            (roots bs (xs ++ b ∷ []) (λ x i k j. elim (in_push_cases xs x b i) [ inl l ↦ below x l k (inr j) | inr f ↦ subst (λ (y : Block). y.id < k.id) (sym f) (each_in (λ (y : Block). b.id < y.id) bs k up.0 j) ])
            (λ k j. there k (inr j)) up.1
            (certified_push s xs b (ids_found b (there b (inl refl)))
            (and_from (not (is_member xs b) && not (is_black b)) (is_supported s xs b)
            (and_from (not (is_member xs b)) (not (is_black b)) (ap not (lower_out xs b (λ x i. below x i b (inl refl)))) (ap not (black_needs b e)))
            (or_left (needs 0 b) _ e)) c))
        | false ↦ λ _. roots bs xs (λ x i k j. below x i k (inr j)) (λ k j. there k (inr j)) up.1 c
      ] refl

  pub held_certified : Certified s (held_blocks s)
  held_certified = grown_certified (length s.blocks) (filter (needs 0) s.blocks) (roots s.blocks [] (λ x i. absurd i) (λ k j. j) rise (certified_none s))

  -- each block of a certificate is in the list
  in_held : (ids : List ℕ) → is_certificate s ids ≡ true → (id : ℕ) → In id ids → is_held s id ≡ true
  in_held [] e id i = absurd i
  in_held (k ∷ ids) e id i = go (in_held ids (and_parts _ (is_certificate s ids) e).1) i
    where
      here : ((j : ℕ) → In j ids → is_held s j ≡ true) → (o : Option Block) → block_of s.blocks k ≡ o
          → (elim o as (λ _. Bool) [ None ↦ false | Some c ↦ not (is_black c) && not (is_among k ids) && is_supported s (members s ids) c ]) ≡ true → is_held s k ≡ true
      here rest None f g = absurd (elim_false g)
      here rest (Some c) f g =
          let parts = and_parts (not (is_black c) && not (is_among k ids)) (is_supported s (members s ids) c) g in
          let black : not (is_black c) ≡ true = (and_parts (not (is_black c)) (not (is_among k ids)) parts.0).0 in
          let at = find_in (λ (x : Block). x.id == k) s.blocks c f in
          let same_id : c.id ≡ k = eqb-true c.id k at.0 in
          let more : ScansMore (members s ids) (held_blocks s) = λ a scanned.
          let x = any_in (λ (y : Block). is_scanned y a) (members s ids) scanned in
          let m = member_of (block_of s.blocks) ids x.0 x.1 in
          let y = any_in (λ (z : Block). z.id == m.0) (held_blocks s) (rest m.0 m.1) in
          let same : x.0 ≡ y.0 = some_same x.0 y.0 (sym m.2 ∙ ap (block_of s.blocks) (sym (eqb-true (y.0).id m.0 y.2)) ∙ held_certified.standing y.0 y.1) in
          any_from (λ (z : Block). is_scanned z a) (held_blocks s) y.0 y.1 (subst (λ (z : Block). is_scanned z a ≡ true) same x.2) in
          let support : is_supported s (held_blocks s) c ≡ true = supported_more s (members s ids) (held_blocks s) more c parts.1 in
          let none : may_follow s (held_blocks s) c ≡ false = find_none (may_follow s (held_blocks s)) s.blocks held_closed c at.1 in
          subst (λ n. is_held s n ≡ true) same_id
          (elim (is_member (held_blocks s) c) as (λ q. is_member (held_blocks s) c ≡ q → q ≡ true) [
            | true ↦ λ _. refl
            | false ↦ λ out'. absurd (elim_false (sym none ∙ and_from (not (is_member (held_blocks s) c) && not (is_black c)) (is_supported s (held_blocks s) c) (and_from (not (is_member (held_blocks s) c)) (not (is_black c)) (ap not out') black) support))
          ] refl)

      go : ((j : ℕ) → In j ids → is_held s j ≡ true) → In id (k ∷ ids) → is_held s id ≡ true
      go rest (inl same) = subst (λ n. is_held s n ≡ true) (sym same) (here rest (block_of s.blocks k) refl (and_parts _ (is_certificate s ids) e).0)
      go rest (inr j) = rest id j

  pub held_is : (id : ℕ) → IsHeld s id → is_held s id ≡ true
  held_is id held =
      let parts = and_parts (is_certificate s held.0) (is_among id held.0) held.1 in
      in_held held.0 parts.0 id (among_in id held.0 parts.1)

  pub is_held_held : (id : ℕ) → is_held s id ≡ true → IsHeld s id
  is_held_held id e =
      let b = any_in (λ (c : Block). c.id == id) (held_blocks s) e in
      subst (IsHeld s) (eqb-true (b.0).id id b.2) (certified_held s (held_blocks s) b.0 held_certified b.1)

  up_to_in : (id : ℕ) (bs : List Block) (b : Block) → In b (up_to id bs) → In b bs
  up_to_in id [] b i = absurd i
  up_to_in id (x ∷ bs) b i = go (up_to_in id bs b) (x.id == id) i
    where
      go : (In b (up_to id bs) → In b bs) → (q : Bool) → In b (if q then x ∷ [] else x ∷ up_to id bs) → In b (x ∷ bs)
      go rest true (inl same) = inl same
      go rest true (inr j) = absurd j
      go rest false (inl same) = inl same
      go rest false (inr j) = inr (rest j)

  pub list_held : (id : ℕ) → Each (λ (b : Block). IsHeld s b.id) (list_of s id)
  list_held id = in_each (λ (b : Block). IsHeld s b.id) (list_of s id) (λ b i. certified_held s (held_blocks s) b held_certified (up_to_in id (held_blocks s) b i))

  -- where each may stand where it does, all are in a certificate
  checked_certified : (n : ℕ) (before bs : List Block) → ((b : Block) → In b bs → In b s.blocks) → first_unfit s n before bs ≡ None → Certified s before → Certified s (before ++ bs)
  checked_certified n before [] there e c = subst (Certified s) (sym (append-nil before)) c
  checked_certified n before (b ∷ bs) there e c = go (checked_certified (n + 1) (before ++ b ∷ []) bs (λ x i. there x (inr i))) (may_follow s before b) refl e
    where
      go : (first_unfit s (n + 1) (before ++ b ∷ []) bs ≡ None → Certified s (before ++ b ∷ []) → Certified s ((before ++ b ∷ []) ++ bs))
          → (q : Bool) → may_follow s before b ≡ q → (if q then first_unfit s (n + 1) (before ++ b ∷ []) bs else Some n) ≡ None → Certified s (before ++ b ∷ bs)
      go rest true f g = subst (Certified s) (append_assoc before (b ∷ []) bs) (rest g (certified_push s before b (ids_found b (there b (inl refl))) f c))
      go rest false f g = absurd (none_some n (sym g))

  pub checked_held : (bs : List Block) → Each (λ b. In b s.blocks) bs → first_unfit s 1 [] bs ≡ None → Each (λ (b : Block). IsHeld s b.id) bs
  checked_held bs there e =
      in_each (λ (b : Block). IsHeld s b.id) bs (λ b i. certified_held s bs b (checked_certified 1 [] bs (λ x j. each_in (λ y. In y s.blocks) bs x there j) e (certified_none s)) i)
