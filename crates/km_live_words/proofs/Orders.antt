-- Orders that are one step longer, and the addresses of words.
use Rattle.std.proofs.Common.{◌≡◌, ◌≢◌, ℕ, ◌+◌, ◌-◌, List, [], ◌∷◌, ◌++◌, length, refl, ap, ◌∙◌, length-set, append-nil}
use Rattle.km_model.specs.Memory.{index_of}
use Rattle.km_numbered.proofs.Parts.{part_append, part_all, part_none}
use Rattle.km_words.specs.Told.{WordStep, LoadStep, StoreStep}
use Rattle.km_rounds.specs.Orders.{OrderStep, words_after_step, words_after, IsLegalStep, IsLegal, steps_by}

pub after_snoc : (ws : List ℕ) (o : List OrderStep) (x : OrderStep) → words_after ws (o ++ x ∷ []) ≡ words_after_step (words_after ws o) x.step
after_snoc ws [] x = refl
after_snoc ws (y ∷ ys) x = after_snoc (words_after_step ws y.step) ys x

pub legal_snoc : (ws : List ℕ) (o : List OrderStep) (x : OrderStep) → IsLegal ws o → IsLegalStep (words_after ws o) x.step → IsLegal ws (o ++ x ∷ [])
legal_snoc ws [] x l s = (s, tt)
legal_snoc ws (y ∷ ys) x l s = (l.0, legal_snoc (words_after_step ws y.step) ys x l.1 s)

length_after_step : (ws : List ℕ) (x : WordStep) → length (words_after_step ws x) ≡ length ws
length_after_step ws (LoadStep a value) = refl
length_after_step ws (StoreStep a value) = length-set ws (index_of a) value

pub length_after : (ws : List ℕ) (o : List OrderStep) → length (words_after ws o) ≡ length ws
length_after ws [] = refl
length_after ws (y ∷ ys) = length_after (words_after_step ws y.step) ys ∙ length_after_step ws y.step

pub steps_same : (o : List OrderStep) (x : OrderStep) → steps_by (o ++ x ∷ []) x.by ≡ steps_by o x.by ++ x.step ∷ []
steps_same o x =
    part_append (λ (y : OrderStep). y.by) (λ (y : OrderStep). y.step) x.by o (x ∷ [])
    ∙ ap (λ (l : List WordStep). steps_by o x.by ++ l) (part_all (λ (y : OrderStep). y.by) (λ (y : OrderStep). y.step) x.by (x ∷ []) (refl, tt))

pub steps_else : (o : List OrderStep) (x : OrderStep) (k : ℕ) → k ≢ x.by → steps_by (o ++ x ∷ []) k ≡ steps_by o k
steps_else o x k ne =
    part_append (λ (y : OrderStep). y.by) (λ (y : OrderStep). y.step) k o (x ∷ [])
    ∙ ap (λ (l : List WordStep). steps_by o k ++ l) (part_none (λ (y : OrderStep). y.by) (λ (y : OrderStep). y.step) k x.by (x ∷ []) ne (refl, tt))
    ∙ append-nil (steps_by o k)
