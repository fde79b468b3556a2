use Rattle.std.proofs.Common.{◌≡◌, ◌≢◌, ℕ, ◌+◌, ◌*◌, ◌/◌, ◌<◌, true, false, not, ◌&&◌, ◌||◌, ◌==◌, nat_lt, List, length, slice_index_or, Option, Some, None, refl, sym, ap, ◌∙◌, arith, inl, inr, lt-ltb}
use Rattle.std.proofs.lemmas.Bool.{or_left, cases_eq, eq-eqb}
use Rattle.km_marks.specs.Sets.{has}
use Rattle.km_slab.specs.Blocks.{AreMarks, has_place}
use Rattle.km_slab.proofs.Taking.{one_row}
use Rattle.km_slab.proofs.Changing.{changed_marks, apart, ne_test}

-- a live slot of a page becomes free
pub record SlotGiven (classes : List (Option ℕ)) (free live opened new_free new_live new_open : List ℕ) (row class page i : ℕ) : Type 0 where
  pub old : AreMarks classes free live opened row
  pub within : page < length classes
  pub at : slice_index_or classes page None ≡ Some class
  pub small : i < 512
  pub fits : i < 4096 / class
  pub free_words : length new_free ≡ length free
  pub live_words : length new_live ≡ length live
  pub open_words : length new_open ≡ length opened
  pub inserted : (j : ℕ) → has new_free j ≡ (j == 512 * page + i || has free j)
  pub removed : (j : ℕ) → has new_live j ≡ (not (j == 512 * page + i) && has live j)
  pub opened_now : (j : ℕ) → has new_open j ≡ (j == 64 * (row * (class / 8)) + page || has opened j)

pub slot_given : (classes : List (Option ℕ)) (free live opened new_free new_live new_open : List ℕ) (row class page i : ℕ)
    → SlotGiven classes free live opened new_free new_live new_open row class page i → AreMarks classes new_free new_live new_open row
slot_given classes free live opened new_free new_live new_open row class page i t =
    let old = t.old in
    let at = t.at in
    let rows = old.rows in let within = t.within in
    let here : has new_free (512 * page + i) ≡ true = t.inserted (512 * page + i) ∙ ap (λ b. b || has free (512 * page + i)) (eq-eqb (512 * page + i) (512 * page + i) refl) in
    let dead : has new_live (512 * page + i) ≡ false = t.removed (512 * page + i) ∙ ap (λ b. not b && has live (512 * page + i)) (eq-eqb (512 * page + i) (512 * page + i) refl) in
    let gone : (n : ℕ) → n ≢ 512 * page + i → has new_live n ≡ has live n = λ n ne. t.removed n ∙ ap (λ b. not b && has live n) (ne_test n (512 * page + i) ne) in
    let kept : (n : ℕ) → n ≢ 512 * page + i → has new_free n ≡ has free n = λ n ne. t.inserted n ∙ ap (λ b. b || has free n) (ne_test n (512 * page + i) ne) in
    let mark = 64 * (row * (class / 8)) + page in
    changed_marks classes free live opened new_free new_live new_open row class page (record {
      old = old;
      at = at;
      free_words = t.free_words;
      live_words = t.live_words;
      open_words = t.open_words;
      free_other = λ p j ne lt. kept (512 * p + j) (apart page p i j ne t.small lt);
      live_other = λ p j ne lt. gone (512 * p + j) (apart page p i j ne t.small lt);
      free_here = λ j lt. elim (cases_eq j i) [
        | inl same ↦
            let is : 512 * page + j ≡ 512 * page + i = ap (λ n. 512 * page + n) same in
            ap (has new_free) is ∙ here ∙ sym (ap (λ b. nat_lt j (4096 / class) && not b) (ap (has new_live) is ∙ dead)
            ∙ ap (λ b. b && true) (lt-ltb j (4096 / class) (let f = t.fits in omega (arith, f, same))))
        | inr ne ↦
            let far : 512 * page + j ≢ 512 * page + i = λ e. ne (omega (arith, e)) in
            kept (512 * page + j) far ∙ old.free_is page j lt ∙ ap (λ o. has_place o j && not (has live (512 * page + j))) at
            ∙ ap (λ b. nat_lt j (4096 / class) && not b) (sym (gone (512 * page + j) far))
      ];
      live_here = λ j lt h. elim (cases_eq j i) [
        | inl same ↦ lt-ltb j (4096 / class) (let f = t.fits in omega (arith, f, same))
        | inr ne ↦
            let far : 512 * page + j ≢ 512 * page + i = λ e. ne (omega (arith, e)) in
            ap (λ o. has_place o j) (sym at) ∙ old.live_in page j lt (sym (gone (512 * page + j) far) ∙ h)
      ];
      open_other = λ p k lt far. t.opened_now (64 * (row * k) + p) ∙ ap (λ b. b || has opened (64 * (row * k) + p))
          (ne_test (64 * (row * k) + p) mark (λ e. let o = one_row row k (class / 8) p page lt (omega (arith, rows, within)) e in far o.1 o.0));
      open_some = λ _. (i, t.small, here);
      open_here = λ j lt h. t.opened_now mark ∙ or_left (mark == mark) (has opened mark) (eq-eqb mark mark refl);
    })
