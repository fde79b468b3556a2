-- Whole scans, and what begins them.
use Rattle.std.proofs.Common.{◌≡◌, Bool, true, false, ◌∷◌, [], Some, MatchBool, refl, sym, ap, ◌∙◌, subst}
use Rattle.km_base.specs.declared.acts.Answer.{Answer}
use Rattle.km_base.specs.declared.acts.Answer.TheVariants.{Done}
use Rattle.km_model.specs.History.{History}
use Rattle.km_model.specs.Past.{is_done}
use Rattle.km_model.specs.Follows.{Run}
use Rattle.km_model.specs.Expansion.{Finishes, ScansIfBegun, newest_answer, newest_is_done}

done_is : (x : Answer) → is_done x ≡ true → x ≡ Done
done_is Done d = refl
done_is x d = absurd (cc)

-- a scan that was begun
pub scan_begun : (run behind : Run) → newest_answer run.history ≡ Some Done → Finishes run behind → ScansIfBegun run behind
scan_begun run behind e f = subst (λ q. MatchBool q (Finishes run behind) (run ≡ behind)) (sym (done run.history e)) f
  where
    done : (h : History) → newest_answer h ≡ Some Done → newest_is_done h ≡ true
    done [] e = absurd (let z : ⊥ = cc in z)
    done (x ∷ h) e = let is : x.answer ≡ Done = cc in ap is_done is

-- and one that wasn't
pub scan_left_out : (run : Run) (given : Answer) → newest_answer run.history ≡ Some given → (given ≡ Done → ⊥) → ScansIfBegun run run
scan_left_out run given e other = by_answer (newest_is_done run.history) refl
  where
    was : (h : History) → newest_answer h ≡ Some given → newest_is_done h ≡ true → given ≡ Done
    was [] e d = absurd (let z : ⊥ = cc in z)
    was (x ∷ h) e d = let is : x.answer ≡ given = cc in sym is ∙ done_is x.answer d

    by_answer : (q : Bool) → newest_is_done run.history ≡ q → MatchBool q (Finishes run run) (run ≡ run)
    by_answer true d = absurd (other (was run.history e d))
    by_answer false d = refl
