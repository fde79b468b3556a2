-- How a list comes about: its prefixes, one block after another.
use Rattle.std.proofs.Common.{append-nil, ◌≡◌, ℕ, zero, suc, ◌+◌, ◌<◌, ◌≤◌, ◌==◌, inl, inr, Bool, true, false, ◌||◌, cond, List, [], ◌∷◌, ◌++◌, length, Option, Some, None, find, filter, refl, sym, ◌∙◌, ap, arith, eq-eqb, if◌then◌else◌}
use Rattle.std.specs.List.{list_any}
use Rattle.std.proofs.lemmas.Bool.{or_left, or_right}
use Rattle.std.proofs.lemmas.List.{append_assoc}
use Rattle.km_model.proofs.Cases.{elim_false}
use Rattle.km_laws.proofs.Counts.{IdsRise}
use Rattle.km_laws.proofs.Lists.{In, each_in, find_in, count}
use Rattle.km_model.specs.Blocks.{Block, needs}
use Rattle.km_model.specs.Held.{Standing}
use Rattle.km_certificates.specs.Certificates.{may_follow, grown, held_blocks, up_to, is_held, list_of}
use Rattle.km_held.proofs.Grown.{out, out_of, fewer, count_all}

grown_prefix : (n : ℕ) (s : Standing) (xs : List Block) → (rest : List Block) × (grown n s xs ≡ xs ++ rest)
grown_prefix zero s xs = ([], sym (append-nil xs))
grown_prefix (suc n) s xs = go (grown_prefix n s) (find (may_follow s xs) s.blocks)
  where
    go : ((ys : List Block) → (rest : List Block) × (grown n s ys ≡ ys ++ rest)) → (o : Option Block)
        → (rest : List Block) × ((elim o as (λ _. List Block) [ None ↦ xs | Some b ↦ grown n s (xs ++ b ∷ []) ]) ≡ xs ++ rest)
    go more None = ([], sym (append-nil xs))
    go more (Some b) = let r = more (xs ++ b ∷ []) in (b ∷ r.0, r.1 ∙ append_assoc xs (b ∷ []) r.0)

-- a list up to a block is its prefix with the block
pub up_to_here : (xs rest : List Block) (b : Block) → list_any (λ (c : Block). c.id == b.id) xs ≡ false → up_to b.id (xs ++ b ∷ rest) ≡ xs ++ b ∷ []
up_to_here [] rest b out' = ap (λ q. if q then b ∷ [] else b ∷ up_to b.id rest) (eq-eqb b.id b.id refl)
up_to_here (x ∷ xs) rest b out' = go (x.id == b.id) (up_to_here xs rest b) out'
  where
    go : (q : Bool) → (list_any (λ (c : Block). c.id == b.id) xs ≡ false → up_to b.id (xs ++ b ∷ rest) ≡ xs ++ b ∷ []) → (q || list_any (λ (c : Block). c.id == b.id) xs) ≡ false
        → (if q then x ∷ [] else x ∷ up_to b.id (xs ++ b ∷ rest)) ≡ x ∷ (xs ++ b ∷ [])
    go true more e = absurd (elim_false (sym e))
    go false more e = ap (λ ys. x ∷ ys) (more e)

any_here : (xs rest : List Block) (b : Block) → list_any (λ (c : Block). c.id == b.id) (xs ++ b ∷ rest) ≡ true
any_here [] rest b = or_left (b.id == b.id) (list_any (λ (c : Block). c.id == b.id) rest) (eq-eqb b.id b.id refl)
any_here (x ∷ xs) rest b = or_right (x.id == b.id) (list_any (λ (c : Block). c.id == b.id) (xs ++ b ∷ rest)) (any_here xs rest b)

-- so far a list is this prefix, and it goes on from there
pub record IsPrefix (s : Standing) (xs : List Block) : Type 0 where
  pub more : ℕ
  pub grows : held_blocks s ≡ grown more s xs
  pub enough : count (out s xs) s.blocks ≤ more

-- where the blocks that need no reference are in it
pub prefix_begins : (s : Standing) → IsPrefix s (filter (needs 0) s.blocks)
prefix_begins s = record { more = length s.blocks; grows = refl; enough = count_all s (out s (filter (needs 0) s.blocks)) s.blocks }

-- the first that may follow it comes next
pub prefix_goes_on : (s : Standing) (xs : List Block) (b : Block) → IsPrefix s xs → find (may_follow s xs) s.blocks ≡ Some b → IsPrefix s (xs ++ b ∷ [])
prefix_goes_on s xs b f e = go f.more f.grows f.enough
  where
    at : (may_follow s xs b ≡ true) × In b s.blocks
    at = find_in (may_follow s xs) s.blocks b e

    less : count (out s (xs ++ b ∷ [])) s.blocks + 1 ≤ count (out s xs) s.blocks
    less = fewer s xs b at.1 (out_of s xs b at.0)

    go : (n : ℕ) → held_blocks s ≡ grown n s xs → count (out s xs) s.blocks ≤ n → IsPrefix s (xs ++ b ∷ [])
    go zero g le = absurd (omega (arith, less, le))
    go (suc n) g le = record {
      more = n;
      grows = g ∙ ap (λ o. elim o as (λ _. List Block) [ None ↦ xs | Some c ↦ grown n s (xs ++ c ∷ []) ]) e;
      enough = omega (arith, less, le);
    }

-- where none may, it is all
pub prefix_ends : (s : Standing) (xs : List Block) → IsPrefix s xs → find (may_follow s xs) s.blocks ≡ None → held_blocks s ≡ xs
prefix_ends s xs f e = f.grows ∙ go f.more
  where
    go : (n : ℕ) → grown n s xs ≡ xs
    go zero = refl
    go (suc n) = ap (λ o. elim o as (λ _. List Block) [ None ↦ xs | Some c ↦ grown n s (xs ++ c ∷ []) ]) e

-- a block that comes next is held, and its list ends there
pub record EndsHere (s : Standing) (xs : List Block) (b : Block) : Type 0 where
  pub held : is_held s b.id ≡ true
  pub list : list_of s b.id ≡ xs ++ b ∷ []

ends_in : (s : Standing) (xs rest : List Block) (b : Block) → held_blocks s ≡ xs ++ b ∷ rest → list_any (λ (c : Block). c.id == b.id) xs ≡ false → EndsHere s xs b
ends_in s xs rest b e out' = record {
  held = ap (list_any (λ (c : Block). c.id == b.id)) e ∙ any_here xs rest b;
  list = ap (up_to b.id) e ∙ up_to_here xs rest b out';
}

pub comes_next : (s : Standing) (xs : List Block) (b : Block) → IsPrefix s (xs ++ b ∷ []) → list_any (λ (c : Block). c.id == b.id) xs ≡ false → EndsHere s xs b
comes_next s xs b f out' =
    let r = grown_prefix f.more s (xs ++ b ∷ []) in
    ends_in s xs r.0 b (f.grows ∙ r.1 ∙ append_assoc xs (b ∷ []) r.0) out'

-- so is one among those that need no reference
pub root_next : (s : Standing) (xs rest : List Block) (b : Block) → filter (needs 0) s.blocks ≡ xs ++ b ∷ rest → list_any (λ (c : Block). c.id == b.id) xs ≡ false → EndsHere s xs b
root_next s xs rest b e out' =
    let r = grown_prefix (length s.blocks) s (filter (needs 0) s.blocks) in
    ends_in s xs (rest ++ r.0) b (r.1 ∙ ap (λ ys. ys ++ r.0) e ∙ append_assoc xs (b ∷ rest) r.0) out'

-- what isn't in a list that is all isn't held
pub not_in_all : (s : Standing) (xs : List Block) (id : ℕ) → held_blocks s ≡ xs → list_any (λ (c : Block). c.id == id) xs ≡ false → is_held s id ≡ false
not_in_all s xs id e out' = ap (list_any (λ (c : Block). c.id == id)) e ∙ out'

-- the one of the least id that passes is the first
pub first_is : (p : Block → Bool) (bs : List Block) (b : Block) → IdsRise bs → In b bs → p b ≡ true → ((c : Block) → In c bs → p c ≡ true → b.id ≤ c.id) → find p bs ≡ Some b
first_is p [] b r i e least = absurd i
first_is p (x ∷ bs) b r (inl same) e least = rw (ap p (sym same) ∙ e) (ap Some (sym same))
first_is p (x ∷ bs) b r (inr i) e least =
    elim (p x) as (λ q. p x ≡ q → cond q (Some x) (find p bs) ≡ Some b) [
      | true ↦ λ f. let le : b.id ≤ x.id = least x (inl refl) f in let lt : x.id < b.id = each_in (λ (y : Block). x.id < y.id) bs b r.0 i in absurd (omega (arith, le, lt))
      | false ↦ λ _. first_is p bs b r.1 i e (λ c j. least c (inr j))
    ] refl
