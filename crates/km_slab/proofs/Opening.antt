use Rattle.std.proofs.Common.{◌≡◌, ℕ, ◌+◌, ◌*◌, ◌/◌, ◌<◌, ◌^◌, false, not, ◌&&◌, List, length, replicate, slice_index_or, Option, None, sym, ap, ◌∙◌, subst, arith, inl, inr}
use Rattle.std.proofs.lemmas.Bool.{both_ways, cases_lt}
use Rattle.std.proofs.lemmas.List.{get_or-replicate, get_or_past, length-replicate}
use Rattle.km_marks.specs.Sets.{has}
use Rattle.km_slab.specs.Blocks.{AreMarks, has_place}
use Rattle.km_slab.proofs.Rows.{no_class}

abbrev no_classes : ℕ → List (Option ℕ)
no_classes n = replicate n None

count : (n : ℕ) → length (no_classes n) ≡ n
count n = length-replicate n None

none_at : (n p : ℕ) → slice_index_or (no_classes n) p None ≡ None
none_at n p = elim (cases_lt p n) [
  | inl less ↦ get_or-replicate n p None None less
  | inr more ↦ get_or_past (no_classes n) p None (let l = count n in omega (arith, l, more))
]

-- the marks of a memory with no slab pages
pub opening_marks : (n row : ℕ) (free live opened : List ℕ) → n < 2 ^ 32 → row ≡ n / 64 + 1 → length free ≡ 8 * n → length live ≡ 8 * n → length opened ≡ 513 * row
    → ((i : ℕ) → has free i ≡ false) → ((i : ℕ) → has live i ≡ false) → ((i : ℕ) → has opened i ≡ false) → AreMarks (replicate n None) free live opened row
opening_marks n row free live opened short rows a b c no_free no_live no_open =
    record {
      short = subst (λ k. k < 2 ^ 32) (sym (count n)) short;
      free_words = a ∙ ap (λ k. 8 * k) (sym (count n));
      live_words = b ∙ ap (λ k. 8 * k) (sym (count n));
      rows = rows ∙ ap (λ k. k / 64 + 1) (sym (count n));
      open_words = c;
      sizes = λ p class at. absurd (no_class (slice_index_or (no_classes n) p None) class (none_at n p) at);
      free_is = λ p i lt. no_free (512 * p + i) ∙ sym (ap (λ o. has_place o i && not (has live (512 * p + i))) (none_at n p));
      live_in = λ p i lt h. absurd (both_ways (has live (512 * p + i)) (no_live (512 * p + i)) h);
      open_has = λ p k lt h. absurd (both_ways (has opened (64 * (row * k) + p)) (no_open (64 * (row * k) + p)) h);
      open_all = λ p class i at lt h. absurd (no_class (slice_index_or (no_classes n) p None) class (none_at n p) at);
    }
