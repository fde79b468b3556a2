use Rattle.std.proofs.Common.{◌≡◌, ℕ, suc, ◌+◌, ◌-◌, ◌<◌, List, ◌++◌, Result, Ok, Err, OnOk, ap, ◌∙◌, append_assoc, arith}
use Rattle.km_gen.specs.Generated.{next_kind, next_state, state_after, step_text, steps_text}
use Rattle.km_base.specs.declared.errors.NoMemory.{NoMemory}

-- what is true of an `Ok` has a consequence there
pub on_ok : {A B : Type 0} (r : Result (Unit {0}) NoMemory) → (A → B) → OnOk r A → OnOk r B
on_ok (Ok _) f h = f h
on_ok (Err _) f h = h

-- a text is written behind another
pub written : (r : Result (Unit {0}) NoMemory) (s begun new a b : List ℕ) → begun ≡ s → a ≡ b → OnOk r (new ≡ begun ++ a) → OnOk r (new ≡ s ++ b)
written r s begun new a b e f h = on_ok r (λ h. h ∙ ap (λ t. t ++ a) e ∙ ap (λ t. s ++ t) f) h

-- two texts are written, one behind the other
pub both_written : (r : Result (Unit {0}) NoMemory) (s begun one between new a a' b b' : List ℕ)
    → begun ≡ s → one ≡ begun ++ a → a ≡ a' → between ≡ one → b ≡ b' → OnOk r (new ≡ between ++ b) → OnOk r (new ≡ s ++ (a' ++ b'))
both_written r s begun one between new a a' b b' e first f same g h =
    on_ok r (λ h. h ∙ append_assoc s a' b')
    (written r (s ++ a') between new b b' (same ∙ first ∙ ap (λ t. t ++ a) e ∙ ap (λ t. s ++ t) f) g h)

-- a step more is written
pub step_written : (n i state after : ℕ) (items new goal : List ℕ) → i < n → new ≡ items ++ step_text (next_kind state) (next_state state)
    → after ≡ state_after (next_kind state) (next_state state) → items ++ steps_text (n - i) state ≡ goal
    → new ++ steps_text (n - (i + 1)) after ≡ goal
step_written n i state after items new goal below e f h =
    ap (λ t. t ++ steps_text (n - (i + 1)) after) e
    ∙ append_assoc items (step_text (next_kind state) (next_state state)) (steps_text (n - (i + 1)) after)
    ∙ ap (λ x. items ++ (step_text (next_kind state) (next_state state) ++ steps_text (n - (i + 1)) x)) f
    ∙ ap (λ k. items ++ steps_text k state) (let one : suc (n - (i + 1)) ≡ n - i = omega arith in one)
    ∙ h
