-- The shares of a chunk, one after another.
use Rattle.std.proofs.Common.{◌≡◌, ℕ, zero, suc, ◌+◌, ◌*◌, ◌<◌, ◌≤◌, List, [], ◌∷◌, ◌++◌, length, get_or, take, drop, refl, sym, ap, subst, ◌∙◌, arith}
use Rattle.std.proofs.lemmas.List.{take_all, drop-drop, length-append, map-append, length-map}
use Rattle.std.specs.List.{AllZip, flat_map}
use Rattle.std.specs.Fork.{slice_chunk}
use Rattle.km_base.specs.declared.spans.Addr.{Addr}
use Rattle.km_chunks.specs.declared.load.Load.{Load}
use Rattle.km_chunks.specs.Loads.{words_of}
use Rattle.km_par.specs.Loaders.{LoaderOf, HasStepped, HaveLoaded, Covers}

take_none : {X : Type 0} (n : ℕ) → take {A = X} n [] ≡ []
take_none zero = refl
take_none (suc n) = refl

zero_more : (q : ℕ) → q ≡ 0 + q
zero_more q = omega arith

one_after : (p q : ℕ) → suc (p + q) ≡ suc p + q
one_after p q = omega arith

none_of : (each : ℕ) → 0 * each ≡ 0
none_of each = omega arith

take_two : {X : Type 0} (p q : ℕ) (xs : List X) → take p xs ++ take q (drop p xs) ≡ take (p + q) xs
take_two zero q xs = ap (λ k. take k xs) (zero_more q)
take_two (suc p) q [] = take_none q ∙ sym (take_none (suc p + q))
take_two (suc p) q (x ∷ xs) = ap (λ ys. x ∷ ys) (take_two p q xs) ∙ ap (λ k. take k (x ∷ xs)) (one_after p q)

-- runs of the same size, from one of them on
joined_from : (at : List Addr) (each n : ℕ) (ws : List LoaderOf) → ((i : ℕ) (d : LoaderOf) → i < length ws → words_of (get_or ws i d).share ≡ slice_chunk at each (n + i))
    → words_of (flat_map (λ (l : LoaderOf). l.share) ws) ≡ take (length ws * each) (drop (n * each) at)
joined_from at each n [] runs = ap (λ k. take k (drop (n * each) at)) (sym (none_of each))
joined_from at each n (w ∷ ws) runs =
    let rest = joined_from at each (n + 1) ws (λ i d lt. runs (suc i) d (omega (arith, lt)) ∙ ap (slice_chunk at each) (omega arith)) in
    map-append (λ (l : Load). l.word) w.share (flat_map (λ (l : LoaderOf). l.share) ws)
    ∙ ap (λ ys. ys ++ words_of (flat_map (λ (l : LoaderOf). l.share) ws)) (runs 0 w (omega arith) ∙ ap (slice_chunk at each) (omega arith))
    ∙ ap (λ ys. slice_chunk at each n ++ ys) (rest ∙ ap (take (length ws * each)) (ap (λ k. drop k at) (one_more n each) ∙ sym (drop-drop each (n * each) at)))
    ∙ take_two each (length ws * each) (drop (n * each) at)
    ∙ ap (λ k. take k (drop (n * each) at)) (one_less (length ws) each)
  where
    one_more : (n each : ℕ) → (n + 1) * each ≡ n * each + each
    one_more n each = grind arith

    one_less : (k each : ℕ) → each + k * each ≡ suc k * each
    one_less k each = grind arith

-- all shares are all words
pub joined : (at : List Addr) (each : ℕ) (v w : List LoaderOf) → HaveLoaded at each v w → Covers (length at) (length v) each → words_of (flat_map (λ (l : LoaderOf). l.share) w) ≡ at
joined at each v w have covers =
    joined_from at each 0 w (λ i d lt. (have.shares i d (subst (λ n. i < n) have.same lt)).words ∙ ap (slice_chunk at each) (zero_more i))
    ∙ ap (λ k. take (length w * each) (drop k at)) (none_of each)
    ∙ take_all (length w * each) at (subst (λ n. length at ≤ n * each) (sym have.same) covers)

-- what holds at each place holds of all pairs
zip_all : {X : Type 0} (R : X → X → Type 0) (xs ys : List X) → length ys ≡ length xs → ((i : ℕ) (d : X) → i < length xs → R (get_or xs i d) (get_or ys i d)) → AllZip R xs ys
zip_all R [] [] same each = tt
zip_all R [] (y ∷ ys) same each = absurd (omega (arith, same))
zip_all R (x ∷ xs) [] same each = absurd (omega (arith, same))
zip_all R (x ∷ xs) (y ∷ ys) same each = (each 0 x (omega arith), zip_all R xs ys (omega (arith, same)) (λ i d lt. each (suc i) d (omega (arith, lt))))

pub stepped : (at : List Addr) (each : ℕ) (v w : List LoaderOf) → HaveLoaded at each v w → AllZip HasStepped v w
stepped at each v w have = zip_all HasStepped v w have.same (λ i d lt. (have.shares i d lt).stepped)

-- the shares so far and one more are no longer than all
pub fits : (ws : List LoaderOf) (i : ℕ) (d : LoaderOf) → i < length ws → length (flat_map (λ (l : LoaderOf). l.share) (take i ws)) + length (get_or ws i d).share ≤ length (flat_map (λ (l : LoaderOf). l.share) ws)
fits [] i d lt = absurd (omega (arith, lt))
fits (w ∷ ws) zero d lt = let all = length-append w.share (flat_map (λ (l : LoaderOf). l.share) ws) in omega (arith, all)
fits (w ∷ ws) (suc i) d lt =
    let all = length-append w.share (flat_map (λ (l : LoaderOf). l.share) ws) in
    let some = length-append w.share (flat_map (λ (l : LoaderOf). l.share) (take i ws)) in
    let rest = fits ws i d (omega (arith, lt)) in
    omega (arith, all, some, rest)

-- there are as many loads as words
pub as_many : (at : List Addr) (each : ℕ) (v w : List LoaderOf) → HaveLoaded at each v w → Covers (length at) (length v) each → length (flat_map (λ (l : LoaderOf). l.share) w) ≡ length at
as_many at each v w have covers = sym (length-map (flat_map (λ (l : LoaderOf). l.share) w) (λ (l : Load). l.word)) ∙ ap length (joined at each v w have covers)
