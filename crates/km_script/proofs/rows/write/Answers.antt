use Rattle.std.proofs.Common.{◌≡◌, ℕ, List, [], ◌∷◌, drop, Ok, ap, sym, ◌∙◌}
use Rattle.km_model.specs.Pieces.{Piece}
use Rattle.km_model.specs.Grammar.{one_word, any_word, file_command}
use Rattle.km_base.specs.declared.lines.Command.{Command}
use Rattle.km_base.specs.declared.lines.Command.TheVariants.{Write}
use Rattle.km_script.specs.Left.{map_ok, if_none_left, first_said}
use Rattle.km_script.specs.Words.{bytes_of_word}
use Rattle.km_script.proofs.rows.write.Goals as goal

-- a line whose only word is any word
only_any : (end : ℕ) (ps : List Piece) (word : List ℕ) (make : List ℕ → Command) → Ok word ≡ if_none_left (first_said any_word end ps) (drop 1 ps) → Ok (make word) ≡ one_word any_word end ps make
only_any end [] word make e = absurd (cc)
only_any end (p ∷ []) word make e = let h : word ≡ p.bytes = cc in ap (λ w. Ok (make w)) h
only_any end (p ∷ q ∷ ps) word make e = absurd (cc)

pub returns-clause-read : goal.returns-clause-read
returns-clause-read c =
    ap (λ f. Ok (Write f)) c.file_command_behind.ensures
    ∙ only_any c.args.words.now.end c.args.words.now.pieces (bytes_of_word c.in_ok-word.word) (λ word. Write (file_command word)) (ap (map_ok bytes_of_word) (sym c.in_ok-word.was) ∙ c.only_word.ensures.said)
