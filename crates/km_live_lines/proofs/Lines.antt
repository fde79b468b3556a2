-- What a line of a live script is read as, by the words that a cursor gives.
use Rattle.std.proofs.Common.{◌≡◌, ℕ, ◌+◌, ◌<◌, ◌≤◌, Bool, true, false, cond, List, [], ◌∷◌, length, drop, find, position, Option, Some, None, Ok, Err, option_map, refl, ap, sym, ◌∙◌, bytes_eq, codes, if◌then◌else◌}
use Rattle.std.specs.List.{position_from}
use Rattle.std.proofs.lemmas.Bool.{lt-ltb, le-ltb}
use Rattle.std.proofs.lemmas.Iterator.Adapters.{position_from-zero}
use Rattle.km_model.specs.Pieces.{Piece, pieces}
use Rattle.km_base.specs.declared.lines.NotACommand.{NotACommand}
use Rattle.km_base.specs.declared.sizes.TheConstants.{MOST_WORDS}
use Rattle.km_model.specs.Grammar.{apply_rule, is_comment, is_foreign, number_within, rules}
use Rattle.km_live_model.specs.declared.lines.LiveLine.{LiveLine}
use Rattle.km_live_model.specs.declared.lines.LiveLine.TheVariants as live
use Rattle.km_live_model.specs.LiveGrammar.{LiveReading, as_command, as_job, inside, job_rules, live_command_line, live_line_of, names_other, none_at, only, outside, round_line, then_reads, thread_line, unless_before, words_of_line}
use Rattle.km_script.specs.declared.keywords.Keyword.{Keyword}
use Rattle.km_script.specs.Keywords.{all_keywords, keyword_in}
use Rattle.km_script.specs.Left.{Left, behind_word, first_piece, first_said, if_none_left, only_said, said, word_said}
use Rattle.km_script.proofs.RuleLaws.{apply_by_keyword, by_keyword}
use Rattle.km_live_lines.specs.Columns.{job_read, unless_before_column}

-- the first word of another task, by its column
pub before_column : (o : Option Piece) (r : LiveReading) → unless_before_column (option_map (λ (p : Piece). p.column) o) r ≡ unless_before o r
before_column None r = refl
before_column (Some p) (Ok l) = refl
before_column (Some p) (Err e) = refl

-- a line of a thread, by the first word of another task
pub inside_job : (own : List ℕ) (p : Piece) (end : ℕ) (ps : List Piece) (column : Option ℕ) (read r : LiveReading) → bytes_eq p.bytes (codes "end") ≡ false
    → r ≡ unless_before_column column read → column ≡ option_map (λ (q : Piece). q.column) (find (names_other own) ps) → read ≡ job_read p end ps → r ≡ inside own p end ps
unfolding job_read
inside_job own p end ps column read r other is at same =
    is ∙ (ap (λ o. unless_before_column o read) at ∙ (ap (unless_before_column (option_map (λ (q : Piece). q.column) (find (names_other own) ps))) same
    ∙ (before_column (find (names_other own) ps) (as_job p.column (apply_rule job_rules p end ps))
    ∙ sym (ap (λ b. if b then only ps live.End else unless_before (find (names_other own) ps) (as_job p.column (apply_rule job_rules p end ps))) other))))

-- a line outside a thread that is neither `thread` nor `round`
module _ (p : Piece) (end : ℕ) (ps : List Piece) (thread : bytes_eq p.bytes (codes "thread") ≡ false) (round : bytes_eq p.bytes (codes "round") ≡ false) where
  pub outside_by : (o : Option Keyword) → keyword_in all_keywords p.bytes ≡ o → as_command (by_keyword o p end ps) ≡ outside p end ps
  outside_by o is =
      sym (ap (λ b. if b then thread_line end ps else (if bytes_eq p.bytes (codes "round") then round_line end ps else as_command (apply_rule rules p end ps))) thread
      ∙ (ap (λ b. if b then round_line end ps else as_command (apply_rule rules p end ps)) round ∙ ap as_command (apply_by_keyword p end ps o is)))

-- the next word, by what it says
module _ {A : Type 0} (read : List ℕ → Option A) where
  then_ok : (end : ℕ) (ps : List Piece) (rest : A → List Piece → LiveReading) (a : A) → Ok a ≡ first_said read end ps → then_reads read end ps rest ≡ rest a (drop 1 ps)
  then_ok end [] rest a is = absurd cc
  then_ok end (p ∷ ps) rest a is = go (read p.bytes) is
    where
      go : (o : Option A) → Ok a ≡ said p.column o → (elim o [ None ↦ none_at p.column | Some x ↦ rest x ps ]) ≡ rest a ps
      go None is = absurd cc
      go (Some b) is = let same : b ≡ a = cc in ap (λ x. rest x ps) same

  only_ok : (end : ℕ) (ps : List Piece) (make : A → LiveLine) (a : A) → Ok a ≡ if_none_left (first_said read end ps) (drop 1 ps) → then_reads read end ps (λ x last. only last (make x)) ≡ Ok (make a)
  only_ok end [] make a is = absurd cc
  only_ok end (p ∷ ps) make a is = go (read p.bytes) ps is
    where
      go : (o : Option A) (qs : List Piece) → Ok a ≡ if_none_left (said p.column o) qs → ◌≡◌ {A = LiveReading} (elim o [ None ↦ none_at p.column | Some x ↦ only qs (make x) ]) (Ok (make a))
      go None qs is = absurd cc
      go (Some b) [] is = let same : b ≡ a = cc in ap (λ x. Ok (make x)) same
      go (Some b) (q ∷ qs) is = absurd cc

  only_err : (end : ℕ) (ps : List Piece) (make : A → LiveLine) (e : NotACommand) → Err e ≡ if_none_left (first_said read end ps) (drop 1 ps) → then_reads read end ps (λ x last. only last (make x)) ≡ Err e
  only_err end [] make e is = let same : record { column = end } ≡ e = cc in ap Err same
  only_err end (p ∷ ps) make e is = go (read p.bytes) ps is
    where
      go : (o : Option A) (qs : List Piece) → Err e ≡ if_none_left (said p.column o) qs → ◌≡◌ {A = LiveReading} (elim o [ None ↦ none_at p.column | Some x ↦ only qs (make x) ]) (Err e)
      go None qs is = let same : record { column = p.column } ≡ e = cc in ap Err same
      go (Some b) [] is = absurd cc
      go (Some b) (q ∷ qs) is = let same : record { column = q.column } ≡ e = cc in ap Err same

-- a `round` line, by what its words say
module _ (l m n : Left) (after : m ≡ behind_word l) (later : n ≡ behind_word m) (scans gap : ℕ) (first : Ok scans ≡ word_said (number_within 1 100) l) (second : Ok gap ≡ word_said (number_within 0 3600000) m) where
  begun : round_line l.end l.pieces ≡ then_reads (number_within 1 MOST_WORDS) l.end (drop 1 (drop 1 l.pieces)) (λ entries last. only last (live.Round scans gap entries))
  begun =
      then_ok (number_within 1 100) l.end l.pieces (λ x more. then_reads (number_within 0 3600000) l.end more (λ y rest. then_reads (number_within 1 MOST_WORDS) l.end rest (λ entries last. only last (live.Round x y entries)))) scans first
      ∙ then_ok (number_within 0 3600000) l.end (drop 1 l.pieces) (λ y rest. then_reads (number_within 1 MOST_WORDS) l.end rest (λ entries last. only last (live.Round scans y entries))) gap (second ∙ ap (word_said (number_within 0 3600000)) after)

  third : n ≡ behind_word (behind_word l)
  third = later ∙ ap behind_word after

  pub round_ok : (entries : ℕ) → Ok entries ≡ only_said (number_within 1 MOST_WORDS) n → Ok (live.Round scans gap entries) ≡ round_line l.end l.pieces
  round_ok entries last = sym (begun ∙ only_ok (number_within 1 MOST_WORDS) l.end (drop 1 (drop 1 l.pieces)) (live.Round scans gap) entries (last ∙ ap (only_said (number_within 1 MOST_WORDS)) third))

  pub round_err : (e : NotACommand) → Err e ≡ only_said (number_within 1 MOST_WORDS) n → Err e ≡ round_line l.end l.pieces
  round_err e last = sym (begun ∙ only_err (number_within 1 MOST_WORDS) l.end (drop 1 (drop 1 l.pieces)) (live.Round scans gap) e (last ∙ ap (only_said (number_within 1 MOST_WORDS)) third))

-- a line that is longer than a line may be
pub too_long : (first : Bool) (thread : Option (List ℕ)) (bytes : List ℕ) → 256 < length bytes → live_line_of first thread bytes ≡ none_at 257
unfolding live_line_of
too_long first thread bytes h = rw (lt-ltb 256 (length bytes) h) refl

-- a line's reading, unless it has a byte that no command has, at a place or at a column
abbrev unless_at : Option ℕ → LiveReading → LiveReading
unless_at o r = elim o [ Some i ↦ none_at (i + 1) | None ↦ r ]

abbrev pub unless_foreign : Option ℕ → LiveReading → LiveReading
unless_foreign o r = elim o [ Some column ↦ none_at column | None ↦ r ]

one_on : (i : ℕ) (bytes : List ℕ) (r : LiveReading) → unless_at (position_from is_foreign i bytes) r ≡ unless_foreign (position_from is_foreign (i + 1) bytes) r
one_on i [] r = refl
one_on i (c ∷ cs) r =
    elim (is_foreign c) as (λ b. unless_at (cond b (Some i) (position_from is_foreign (i + 1) cs)) r ≡ unless_foreign (cond b (Some (i + 1)) (position_from is_foreign (i + 1 + 1) cs)) r) [
      | true ↦ refl
      | false ↦ one_on (i + 1) cs r
    ]

at_column : (bytes : List ℕ) (r : LiveReading) → unless_at (position is_foreign bytes) r ≡ unless_foreign (position_from is_foreign 1 bytes) r
at_column bytes r = ap (λ o. unless_at o r) (position_from-zero is_foreign bytes) ∙ one_on 0 bytes r

module _ (first : Bool) (thread : Option (List ℕ)) (bytes : List ℕ) where
  abbrev by_pieces : List Piece → LiveReading
  by_pieces [] = Ok live.Blank
  by_pieces (p ∷ ps) =
      if is_comment (p ∷ ps) then Ok live.Blank
      else unless_at (position is_foreign bytes) (words_of_line first thread (length bytes + 1) (p ∷ ps))

  no_words_or_some : (ps : List Piece) → pieces bytes ≡ ps
      → (if is_comment ps then Ok live.Blank else (elim ps [ [] ↦ Ok live.Blank | _ ∷ _ ↦ live_command_line first thread bytes ])) ≡ by_pieces ps
  no_words_or_some [] e = refl
  no_words_or_some (p ∷ ps) e =
      ap (λ qs. if is_comment (p ∷ ps) then Ok live.Blank else unless_at (position is_foreign bytes) (words_of_line first thread (length bytes + 1) qs)) e

  -- a line that isn't too long
  line_of_pieces : length bytes ≤ 256 → live_line_of first thread bytes ≡ by_pieces (pieces bytes)
  unfolding live_line_of
  line_of_pieces h = rw (le-ltb 256 (length bytes) h) (no_words_or_some (pieces bytes) refl)

  by_first_word : (ps : List Piece) (p : Piece) → Some p ≡ first_piece ps
      → by_pieces ps
      ≡ (if is_comment (p ∷ []) then Ok live.Blank else unless_foreign (position_from is_foreign 1 bytes) (words_of_line first thread (length bytes + 1) (p ∷ drop 1 ps)))
  by_first_word [] p e = absurd cc
  by_first_word (q ∷ qs) p e =
      let h : q ≡ p = cc in
      ap (λ r. if is_comment (r ∷ []) then Ok live.Blank else unless_at (position is_foreign bytes) (words_of_line first thread (length bytes + 1) (r ∷ qs))) h
      ∙ ap (λ r. if is_comment (p ∷ []) then Ok live.Blank else r) (at_column bytes (words_of_line first thread (length bytes + 1) (p ∷ qs)))

  -- a line without words
  pub no_words : (left : Left) → length bytes ≤ 256 → left.pieces ≡ pieces bytes → None ≡ first_piece left.pieces → Ok live.Blank ≡ live_line_of first thread bytes
  no_words left h e n = sym (line_of_pieces h ∙ ap by_pieces (sym e) ∙ is_blank_line left.pieces n)
    where
      is_blank_line : (ps : List Piece) → None ≡ first_piece ps → by_pieces ps ≡ Ok live.Blank
      is_blank_line [] n = refl
      is_blank_line (q ∷ qs) n = absurd cc

  module _ (left : Left) (p : Piece) (short : length bytes ≤ 256) (all : left.pieces ≡ pieces bytes) (word : Some p ≡ first_piece left.pieces) where
    -- a line with words
    by_word : live_line_of first thread bytes
        ≡ (if is_comment (p ∷ []) then Ok live.Blank else unless_foreign (position_from is_foreign 1 bytes) (words_of_line first thread (length bytes + 1) (p ∷ drop 1 left.pieces)))
    by_word = line_of_pieces short ∙ ap by_pieces (sym all) ∙ by_first_word left.pieces p word

    -- a comment
    pub comment : is_comment (p ∷ []) ≡ true → Ok live.Blank ≡ live_line_of first thread bytes
    comment c = sym (by_word ∙ rw c refl)

    -- a line that is no comment, by what the words after its first are read as
    pub words_after : (after : Left) (r : LiveReading) (o : Option ℕ) → is_comment (p ∷ []) ≡ false → left.end ≡ length bytes + 1 → left.foreign ≡ position_from is_foreign 1 bytes → after ≡ behind_word left
        → r ≡ words_of_line first thread after.end (p ∷ after.pieces) → o ≡ after.foreign → unless_foreign o r ≡ live_line_of first thread bytes
    words_after after r o c end f b e k =
        ap (λ o. unless_foreign o r) (k ∙ ap (λ (l : Left). l.foreign) b ∙ f)
        ∙ ap (unless_foreign (position_from is_foreign 1 bytes)) (
        e
        ∙ ap (λ (l : Left). words_of_line first thread l.end (p ∷ l.pieces)) b
        ∙ ap (λ n. words_of_line first thread n (p ∷ drop 1 left.pieces)) end)
        ∙ sym (by_word
        ∙ ap (λ b. if b then Ok live.Blank else unless_foreign (position_from is_foreign 1 bytes) (words_of_line first thread (length bytes + 1) (p ∷ drop 1 left.pieces))) c)
