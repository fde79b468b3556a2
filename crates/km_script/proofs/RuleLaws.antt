use Rattle.std.proofs.Common.{◌≡◌, ℕ, Bool, true, false, List, [], ◌∷◌, Option, Some, None, Result, Err, map, refl, ap, sym, ◌∙◌, bytes_eq, codes, if◌then◌else◌}
use Rattle.std.proofs.lemmas.Slice.Eq.{bytes_eq-Decides}
use Rattle.km_base.specs.declared.lines.Line.{Line}
use Rattle.km_base.specs.declared.lines.NotACommand.{NotACommand}
use Rattle.km_model.specs.Held.{same_bool}
use Rattle.km_model.specs.Pieces.{Piece}
use Rattle.km_model.specs.Grammar.{Rule, Reading, rules, apply_rule, as_line, refused_at, words_read}
use Rattle.km_script.specs.declared.keywords.Keyword.{Keyword}
use Rattle.km_script.specs.Keywords.{text_of, read_as, all_keywords, keyword_in}

-- the rule of a keyword
abbrev pub rule_of : Keyword → Rule
rule_of k = record { keyword = text_of k; read = read_as k }

pub rules_are : map rule_of all_keywords ≡ rules
rules_are = refl

-- what a word is read as that is this keyword or none
abbrev pub by_keyword : Option Keyword → Piece → ℕ → List Piece → Reading
by_keyword None p end ps = refused_at p.column
by_keyword (Some k) p end ps = read_as k end ps

by_rules : (ks : List Keyword) (p : Piece) (end : ℕ) (ps : List Piece) → apply_rule (map rule_of ks) p end ps ≡ by_keyword (keyword_in ks p.bytes) p end ps
by_rules [] p end ps = refl
by_rules (k ∷ ks) p end ps =
    elim (bytes_eq (text_of k) p.bytes) as (λ b. (elim b [ true ↦ read_as k end ps | false ↦ apply_rule (map rule_of ks) p end ps ]) ≡ by_keyword (if b then Some k else keyword_in ks p.bytes) p end ps) [
      | true ↦ refl
      | false ↦ by_rules ks p end ps
    ]

-- the table of commands, by keywords
pub apply_by_keyword : (p : Piece) (end : ℕ) (ps : List Piece) (o : Option Keyword) → keyword_in all_keywords p.bytes ≡ o → apply_rule rules p end ps ≡ by_keyword o p end ps
apply_by_keyword p end ps o e =
    ap (λ rs. apply_rule rs p end ps) (sym rules_are) ∙ by_rules all_keywords p end ps ∙ ap (λ k. by_keyword k p end ps) e

pub found : (ks : List Keyword) (word : List ℕ) (k : Keyword) → keyword_in ks word ≡ Some k → text_of k ≡ word
found [] word k e = absurd (cc)
found (j ∷ ks) word k e = by_test (bytes_eq (text_of j) word) refl (found ks word k) e
  where
    by_test : (b : Bool) → bytes_eq (text_of j) word ≡ b → (keyword_in ks word ≡ Some k → text_of k ≡ word) → (if b then Some j else keyword_in ks word) ≡ Some k → text_of k ≡ word
    by_test true h rest e = ap text_of (let same : k ≡ j = cc in same) ∙ (bytes_eq-Decides (text_of j) word).0 h
    by_test false h rest e = rest e

refused_both : (b : Bool) (column : ℕ) (r : Reading) → r ≡ refused_at column
    → (let refused : Result Line NotACommand = Err (record { column = column }) in refused ≡ (if b then as_line r else refused))
refused_both true column r e = ap as_line (sym e)
refused_both false column r e = refl

-- a line whose first word is no keyword
pub words_of_none : (p : Piece) (end : ℕ) (ps : List Piece) (first : Bool) → keyword_in all_keywords p.bytes ≡ None
    → Err (record { column = p.column }) ≡ words_read rules first end (p ∷ ps)
words_of_none p end ps first e =
    refused_both (same_bool (bytes_eq p.bytes (codes "memory")) first) p.column (apply_rule rules p end ps) (apply_by_keyword p end ps None e)

-- a line whose first word is a keyword
words_of_some : (k : Keyword) (p : Piece) (end : ℕ) (ps : List Piece) (first : Bool) → keyword_in all_keywords p.bytes ≡ Some k
    → words_read rules first end (p ∷ ps) ≡ (if same_bool (bytes_eq (text_of k) (codes "memory")) first then as_line (read_as k end ps) else Err (record { column = p.column }))
words_of_some k p end ps first e =
    ap (λ r. if same_bool (bytes_eq p.bytes (codes "memory")) first then as_line r else Err (record { column = p.column })) (apply_by_keyword p end ps (Some k) e)
    ∙ ap (λ word. if same_bool (bytes_eq word (codes "memory")) first then as_line (read_as k end ps) else Err (record { column = p.column })) (sym (found all_keywords p.bytes k e))

-- a first command that isn't `memory`, or a later one that is
pub words_of_wrong : (k : Keyword) (p : Piece) (end : ℕ) (ps : List Piece) (first : Bool) → keyword_in all_keywords p.bytes ≡ Some k
    → same_bool (bytes_eq (text_of k) (codes "memory")) first ≡ false → Err (record { column = p.column }) ≡ words_read rules first end (p ∷ ps)
words_of_wrong k p end ps first e wrong =
    sym (words_of_some k p end ps first e ∙ ap (λ b. if b then as_line (read_as k end ps) else Err (record { column = p.column })) wrong)

-- a command that may stand there
pub words_of_right : (k : Keyword) (p : Piece) (end : ℕ) (ps : List Piece) (first : Bool) → keyword_in all_keywords p.bytes ≡ Some k
    → same_bool (bytes_eq (text_of k) (codes "memory")) first ≡ true → as_line (read_as k end ps) ≡ words_read rules first end (p ∷ ps)
words_of_right k p end ps first e right =
    sym (words_of_some k p end ps first e ∙ ap (λ b. if b then as_line (read_as k end ps) else Err (record { column = p.column })) right)
