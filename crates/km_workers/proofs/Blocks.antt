-- The words of a block, one after another.
use Rattle.std.proofs.Common.{◌≡◌, ℕ, zero, suc, ◌+◌, ◌-◌, ◌*◌, ◌/◌, ◌%◌, ◌^◌, ◌<◌, ◌≤◌, List, [], ◌∷◌, ◌++◌, map, Option, Some, None, refl, sym, ◌∙◌, ap, subst, arith, append_assoc, le-leb, eq-eqb, lt-ltb}
use Rattle.std.specs.Prelude.{true}
use Rattle.std.proofs.lemmas.Bool.{and_from}
use Rattle.km_model.specs.Memory.{base, in_memory, words_from}
use Rattle.km_model.specs.Placement.{kmalloc_span}
use Rattle.km_words.specs.Told.{Told, WordStep, StoreStep, with_step}
use Rattle.km_laws.specs.Laws.{BlockLies}
use Rattle.km_workers.specs.Workers.{Stepped, with_steps}

words_more : (n a : ℕ) → words_from (suc n) a ≡ words_from n a ++ (a + 8 * n) ∷ []
words_more zero a = ap (λ b. b ∷ []) (let e : a ≡ a + 8 * zero = omega arith in e)
words_more (suc n) a =
    ap (λ ws. a ∷ ws) (words_more n (a + 8) ∙ ap (λ b. words_from n (a + 8) ++ b ∷ []) (let e : a + 8 + 8 * n ≡ a + 8 * suc n = omega arith in e))

-- the address of a word of a block doesn't wrap
pub unwrapped : (words size a i : ℕ) → BlockLies words size a → i < kmalloc_span size / 8 → (a + 8 * i) % 2 ^ 64 ≡ a + 8 * i
unwrapped words size a i block lt =
    let end = block.end in
    below (a + 8 * i) (past (kmalloc_span size) a i lt end)
  where
    past : (span b j : ℕ) → j < span / 8 → b + span < 2 ^ 64 → b + 8 * j < 2 ^ 64
    past span b j less e = omega (arith, less, e)

    below : (x : ℕ) → x < 2 ^ 64 → x % 2 ^ 64 ≡ x
    below x less = omega (arith, less)

-- it is the address of a word of the memory
word_there : (z words span a j i : ℕ) → a ≡ z + 8 * j → a + span ≤ z + 8 * words → i < span / 8 → (z ≤ a + 8 * i) × ((a + 8 * i - z) % 8 ≡ 0) × (a + 8 * i - z < 8 * words)
word_there z words span a j i is end lt = (omega (arith, is), omega (arith, is), omega (arith, is, end, lt))

pub block_word : (words size a i : ℕ) → BlockLies words size a → i < kmalloc_span size / 8 → in_memory words ((a + 8 * i) % 2 ^ 64) ≡ true
block_word words size a i block lt =
    let there = word_there base words (kmalloc_span size) a block.whole.0.0 i block.whole.0.1 block.inside.1 lt in
    subst (λ b. in_memory words b ≡ true) (sym (unwrapped words size a i block lt))
    (and_from _ _ (and_from _ _ (le-leb base (a + 8 * i) there.0) (eq-eqb _ 0 there.1)) (lt-ltb _ (8 * words) there.2))

-- one more step
pub steps_more : (told : Option (List WordStep)) (xs ys : List WordStep) → with_steps (with_steps told xs) ys ≡ with_steps told (xs ++ ys)
steps_more None xs ys = refl
steps_more (Some steps) xs ys = ap Some (append_assoc steps xs ys)

pub step_is : (told : Option (List WordStep)) (s : WordStep) → with_step told s ≡ with_steps told (s ∷ [])
step_is None s = refl
step_is (Some steps) s = refl

map_more : (xs : List ℕ) (y : ℕ) → map (λ b. StoreStep b 0) (xs ++ y ∷ []) ≡ map (λ b. StoreStep b 0) xs ++ StoreStep y 0 ∷ []
map_more [] y = refl
map_more (x ∷ xs) y = ap (λ s. StoreStep x 0 ∷ s) (map_more xs y)

-- the first words of a block were zeroed, and the next one is
pub zeroed_more : (t u v : Told) (a i : ℕ) → Stepped t u (map (λ b. StoreStep b 0) (words_from i a)) → v.steps ≡ with_step u.steps (StoreStep (a + 8 * i) 0) → v.size ≡ u.size → v.place ≡ u.place
    → Stepped t v (map (λ b. StoreStep b 0) (words_from (i + 1) a))
zeroed_more t u v a i old steps size place = record {
  told = steps
      ∙ (step_is u.steps (StoreStep (a + 8 * i) 0)
      ∙ (ap (λ o. with_steps o (StoreStep (a + 8 * i) 0 ∷ [])) old.told
      ∙ (steps_more t.steps (map (λ b. StoreStep b 0) (words_from i a)) (StoreStep (a + 8 * i) 0 ∷ [])
      ∙ ap (with_steps t.steps) (sym (map_more (words_from i a) (a + 8 * i)) ∙ ap (map (λ b. StoreStep b 0)) (sym (words_more i a) ∙ ap (λ n. words_from n a) (let e : suc i ≡ i + 1 = omega arith in e))))));
  size = size ∙ old.size;
  place = place ∙ old.place;
}
