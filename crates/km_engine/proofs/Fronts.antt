-- What the first of some lines print is at the front of what all of them print.
use Rattle.std.proofs.Common.{◌≡◌, ℕ, ◌+◌, List, [], ◌∷◌, ◌++◌, Ok, Err, refl, ap, sym, subst, ◌∙◌, append_assoc}
use Rattle.std.proofs.lemmas.List.{append-nil}
use Rattle.km_model.specs.Grammar.{line_of}
use Rattle.km_model.specs.Output.{Script, LineThen, Prints, is_fresh}
use Rattle.km_model.proofs.OutputLaws.{prints_once}
use Rattle.km_reader.specs.Lines.{IsPrefix}
use Rattle.km_engine.proofs.Running.{prints_one}

pub prefix_trans : (a b c : List ℕ) → IsPrefix a b → IsPrefix b c → IsPrefix a c
prefix_trans a b c p q = (p.0 ++ q.0, q.1 ∙ ap (λ x. x ++ q.0) p.1 ∙ append_assoc a p.0 q.0)

pub prints_front : (lines behind : List (List ℕ)) (m : Script) (n : ℕ) (s end : Script) (out whole : List ℕ)
    → Prints m n lines s out → Prints m n (lines ++ behind) end whole → IsPrefix out whole
prints_front [] behind m n s end out whole p q = (whole, ap (λ x. x ++ whole) (sym p.1))
prints_front (l ∷ ls) behind m n s end out whole p q =
    elim (line_of (is_fresh m) l) as (λ r. line_of (is_fresh m) l ≡ r → LineThen r m n (λ between e o. Prints between (n + 1) ls e o) s out → LineThen r m n (λ between e o. Prints between (n + 1) (ls ++ behind) e o) end whole → IsPrefix out whole) [
      | Err e ↦ λ read c d. ([], d.1 ∙ sym c.1 ∙ sym (append-nil out))
      | Ok x ↦ λ read c d.
          let same = prints_once (l ∷ []) m n c.0 d.0 c.1 d.1 (prints_one m c.0 n l x c.1 read c.3) (prints_one m d.0 n l x d.1 read d.3) in
          let rest = prints_front ls behind c.0 (n + 1) s end c.2 d.2 c.4 (subst (λ g. Prints g (n + 1) (ls ++ behind) end d.2) (sym same.0) d.4) in
          (rest.0, d.5 ∙ ap (λ t. t ++ d.2) (sym same.1) ∙ ap (λ t. c.1 ++ t) rest.1 ∙ sym (append_assoc c.1 c.2 rest.0) ∙ ap (λ t. t ++ rest.0) (sym c.5))
    ] refl p q
