-- The table of the commands that a thread may hold, by keywords.
use Rattle.std.proofs.Common.{◌≡◌, ℕ, Bool, true, false, List, [], ◌∷◌, filter, Some, None, Err, map, refl, ap, sym, ◌∙◌, bytes_eq, if◌then◌else◌}
use Rattle.std.specs.List.{list_any}
use Rattle.km_model.specs.Pieces.{Piece}
use Rattle.km_model.specs.Grammar.{Rule, Reading, apply_rule, refused_at}
use Rattle.km_live_model.specs.LiveGrammar.{as_job, job_rules, job_words}
use Rattle.km_live_lines.specs.Columns.{job_read}
use Rattle.km_script.specs.declared.keywords.Keyword.{Keyword}
use Rattle.km_script.specs.declared.keywords.Keyword.TheVariants as keyword
use Rattle.km_script.specs.Keywords.{all_keywords, keyword_in, read_as, text_of}
use Rattle.km_script.proofs.RuleLaws.{found, rule_of, rules_are}

abbrev is_job_rule : Rule → Bool
is_job_rule rule = list_any (bytes_eq rule.keyword) job_words

-- a word that is no keyword begins no command of a thread
no_rule : (ks : List Keyword) (p : Piece) (end : ℕ) (ps : List Piece) → keyword_in ks p.bytes ≡ None → apply_rule (filter is_job_rule (map rule_of ks)) p end ps ≡ refused_at p.column
no_rule [] p end ps none = refl
no_rule (k ∷ ks) p end ps none = go (bytes_eq (text_of k) p.bytes) refl none (no_rule ks p end ps)
  where
    kept : (q : Bool) → bytes_eq (text_of k) p.bytes ≡ false → apply_rule (filter is_job_rule (map rule_of ks)) p end ps ≡ refused_at p.column
        → apply_rule (if q then rule_of k ∷ filter is_job_rule (map rule_of ks) else filter is_job_rule (map rule_of ks)) p end ps ≡ refused_at p.column
    kept true other rest = ap (λ b. elim b as (λ _. Reading) [ true ↦ read_as k end ps | false ↦ apply_rule (filter is_job_rule (map rule_of ks)) p end ps ]) other ∙ rest
    kept false other rest = rest

    go : (b : Bool) → bytes_eq (text_of k) p.bytes ≡ b → (if b then Some k else keyword_in ks p.bytes) ≡ None
        → (keyword_in ks p.bytes ≡ None → apply_rule (filter is_job_rule (map rule_of ks)) p end ps ≡ refused_at p.column)
        → apply_rule (filter is_job_rule (rule_of k ∷ map rule_of ks)) p end ps ≡ refused_at p.column
    go true is none rest = absurd cc
    go false is none rest = kept (is_job_rule (rule_of k)) is (rest none)

job_of_none : (p : Piece) (end : ℕ) (ps : List Piece) → keyword_in all_keywords p.bytes ≡ None → apply_rule job_rules p end ps ≡ refused_at p.column
job_of_none p end ps none = ap (λ rs. apply_rule (filter is_job_rule rs) p end ps) (sym rules_are) ∙ no_rule all_keywords p end ps none

-- what a keyword is read as in a thread
job_of_keyword : (k : Keyword) (column end : ℕ) (ps : List Piece)
    → apply_rule job_rules (record { column = column; bytes = text_of k }) end ps ≡ (if list_any (bytes_eq (text_of k)) job_words then read_as k end ps else refused_at column)
job_of_keyword keyword.Memory column end ps = refl
job_of_keyword keyword.Section column end ps = refl
job_of_keyword keyword.Task column end ps = refl
job_of_keyword keyword.Exit column end ps = refl
job_of_keyword keyword.Set column end ps = refl
job_of_keyword keyword.Load column end ps = refl
job_of_keyword keyword.Store column end ps = refl
job_of_keyword keyword.Erase column end ps = refl
job_of_keyword keyword.Print column end ps = refl
job_of_keyword keyword.Kmalloc column end ps = refl
job_of_keyword keyword.Kzalloc column end ps = refl
job_of_keyword keyword.Kfree column end ps = refl
job_of_keyword keyword.Pages column end ps = refl
job_of_keyword keyword.FreePages column end ps = refl
job_of_keyword keyword.Vmalloc column end ps = refl
job_of_keyword keyword.Vfree column end ps = refl
job_of_keyword keyword.BootMem column end ps = refl
job_of_keyword keyword.FreePart column end ps = refl
job_of_keyword keyword.NotLeak column end ps = refl
job_of_keyword keyword.Ignore column end ps = refl
job_of_keyword keyword.NoScan column end ps = refl
job_of_keyword keyword.ScanArea column end ps = refl
job_of_keyword keyword.TransientLeak column end ps = refl
job_of_keyword keyword.Write column end ps = refl
job_of_keyword keyword.Read column end ps = refl
job_of_keyword keyword.Tick column end ps = refl
job_of_keyword keyword.Begin column end ps = refl
job_of_keyword keyword.Step column end ps = refl
job_of_keyword keyword.Finish column end ps = refl

job_of_some : (p : Piece) (end : ℕ) (ps : List Piece) (k : Keyword) → keyword_in all_keywords p.bytes ≡ Some k
    → apply_rule job_rules p end ps ≡ (if list_any (bytes_eq (text_of k)) job_words then read_as k end ps else refused_at p.column)
job_of_some p end ps k is =
    ap (λ word. apply_rule job_rules (record { column = p.column; bytes = word }) end ps) (sym (found all_keywords p.bytes k is)) ∙ job_of_keyword k p.column end ps

-- a line whose first word is no keyword
pub no_keyword : (p : Piece) (end : ℕ) (ps : List Piece) → keyword_in all_keywords p.bytes ≡ None → Err (record { column = p.column }) ≡ job_read p end ps
unfolding job_read
no_keyword p end ps none = sym (ap (as_job p.column) (job_of_none p end ps none))

-- a line that no thread may hold
pub no_job : (p : Piece) (end : ℕ) (ps : List Piece) (k : Keyword) → keyword_in all_keywords p.bytes ≡ Some k → list_any (bytes_eq (text_of k)) job_words ≡ false
    → Err (record { column = p.column }) ≡ job_read p end ps
unfolding job_read
no_job p end ps k is never = sym (ap (as_job p.column) (job_of_some p end ps k is ∙ ap (λ q. if q then read_as k end ps else refused_at p.column) never))

-- one that it may
pub a_job : (p : Piece) (end : ℕ) (ps : List Piece) (k : Keyword) → keyword_in all_keywords p.bytes ≡ Some k → list_any (bytes_eq (text_of k)) job_words ≡ true
    → as_job p.column (read_as k end ps) ≡ job_read p end ps
unfolding job_read
a_job p end ps k is may = sym (ap (as_job p.column) (job_of_some p end ps k is ∙ ap (λ q. if q then read_as k end ps else refused_at p.column) may))
