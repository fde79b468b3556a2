use Rattle.std.proofs.Common.{true, ◌≡◌, ℕ, ◌*◌, ◌/◌, ◌<◌, List, [], ◌∷◌, ◌++◌, length, replicate, Option, Some, None, is_none, IfOk, Result, Ok, Err, nat_le, if◌then◌else◌, refl, sym, ap, ◌∙◌, subst, arith, le-leb, inl, inr}
use Rattle.std.specs.List.{All}
use Rattle.std.proofs.lemmas.Bool.{cases_lt}
use Rattle.std.proofs.lemmas.List.{get_or-replicate, get_or_past, length-replicate}
use Rattle.std.proofs.lemmas.List.Elements.{All-push}
use Rattle.km_base.specs.declared.spans.Addr.{Addr}
use Rattle.km_model.specs.Memory.{base}
use Rattle.km_model.specs.Placement.{Allocation, SlotTable, page_start, run_place}
use Rattle.km_pages.specs.declared.errors.NoRoom.{NoRoom}
use Rattle.km_pages.specs.declared.runs.Run.{Run}
use Rattle.km_pages.specs.declared.runs.Use.TheVariants.{Section}
use Rattle.km_pages.specs.Runs.{address_of, run_with}
use Rattle.km_pages.specs.Laid.{AreLaid, Fills}

-- what holds of one allocation holds of it alone
pub all_one : (P : Allocation → Type 0) (x : Allocation) → P x → All P (x ∷ [])
all_one P x here = All-push P [] x (λ k d lt. absurd (omega (arith, lt))) here

-- free pages are held for nothing
free_laid : (n : ℕ) → AreLaid (replicate n None) []
free_laid n = record { each = λ k d lt. absurd (omega (arith, lt)); held = λ p free. ap is_none (free_at p) } where
  free_at : (p : ℕ) → run_with (replicate n None) p ≡ None
  free_at p = elim (cases_lt p n) [ inl less ↦ get_or-replicate n p None None less | inr past ↦ get_or_past (replicate n None) p None (let l = length-replicate {A = Option Run} n None in omega (arith, past, l)) ]

abbrev slots : Allocation
slots = record { «use» = SlotTable; start = base; size = 4096 }

-- the first page is that of the vmap slots
pub opened : (r : Result Addr NoRoom) (pages new : List (Option Run)) (n : ℕ) → 0 < n → pages ≡ replicate n None → length pages ≡ n
    → ((used : List Allocation) → AreLaid pages used → address_of r ≡ run_place (512 * length pages) used 1)
    → IfOk r (λ (a : Addr). (used : List Allocation) (x : Allocation) → AreLaid pages used → Fills Section 1 a.0 x → AreLaid new (used ++ x ∷ [])) → AreLaid new (slots ∷ [])
opened r pages new n some free count place laid =
    let empty : AreLaid pages [] = subst (λ m. AreLaid m []) (sym free) (free_laid n) in
    let room : nat_le 1 (512 * length pages / 512) ≡ true = le-leb 1 (512 * length pages / 512) (omega (arith, some, count)) in
    taken r (place [] empty ∙ ap (λ b. if b then Some (page_start 0) else None) room) laid empty where
      one : (a b : ℕ) → Some a ≡ Some b → a ≡ b
      one a b e = cc

      taken : (r : Result Addr NoRoom) → address_of r ≡ Some (page_start 0)
          → IfOk r (λ (a : Addr). (used : List Allocation) (x : Allocation) → AreLaid pages used → Fills Section 1 a.0 x → AreLaid new (used ++ x ∷ [])) → AreLaid pages [] → AreLaid new (slots ∷ [])
      taken (Ok a) e laid empty = laid [] slots empty (record { its_use = refl; start = sym (one a.0 (page_start 0) e); long = omega arith; fits = omega arith; whole = λ _. refl })
      taken (Err f) e laid empty = absurd cc
