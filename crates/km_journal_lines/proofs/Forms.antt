-- The table of acts, by keywords.
use Rattle.std.proofs.Common.{◌≡◌, ℕ, true, false, List, [], ◌∷◌, ◌≤◌, ◌<◌, nat_lt, length, Option, Some, None, map, refl, ap, sym, ◌∙◌, bytes_eq, if◌then◌else◌}
use Rattle.std.proofs.lemmas.Bool.{le-ltb, lt-ltb}
use Rattle.km_base.specs.declared.acts.Act.{Act}
use Rattle.km_entries.specs.Reading.{Form, Rest, act_of, forms, read_form, journal_line, line_by_words}
use Rattle.km_entries.specs.Words.{words_in}
use Rattle.km_journal_lines.specs.declared.keywords.Keyword.{Keyword}
use Rattle.km_journal_lines.specs.Keywords.{all_keywords, keyword_in, read_as, text_of}

-- the form of a keyword
abbrev form_of : Keyword → Form
form_of k = record { keyword = text_of k; read = read_as k }

forms_are : map form_of all_keywords ≡ forms
forms_are = refl

-- what is read after a word that is this keyword or none
abbrev by_keyword : Option Keyword → List (List ℕ) → Rest Act
by_keyword None ws = None
by_keyword (Some k) ws = read_as k ws

by_forms : (ks : List Keyword) (w : List ℕ) (ws : List (List ℕ)) → read_form (map form_of ks) w ws ≡ by_keyword (keyword_in ks w) ws
by_forms [] w ws = refl
by_forms (k ∷ ks) w ws =
    elim (bytes_eq (text_of k) w) as (λ b. (elim b as (λ _. Rest Act) [ true ↦ read_as k ws | false ↦ read_form (map form_of ks) w ws ]) ≡ by_keyword (if b then Some k else keyword_in ks w) ws) [
      | true ↦ refl
      | false ↦ by_forms ks w ws
    ]

-- an act, by its keyword
pub act_by : (w : List ℕ) (ws : List (List ℕ)) (o : Option Keyword) → keyword_in all_keywords w ≡ o → act_of (w ∷ ws) ≡ by_keyword o ws
act_by w ws o e = ap (λ fs. read_form fs w ws) (sym forms_are) ∙ by_forms all_keywords w ws ∙ ap (λ k. by_keyword k ws) e

pub act_by_some : (w : List ℕ) (ws : List (List ℕ)) (k : Keyword) → keyword_in all_keywords w ≡ Some k → act_of (w ∷ ws) ≡ read_as k ws
act_by_some w ws k e = act_by w ws (Some k) e

pub act_by_none : (w : List ℕ) (ws : List (List ℕ)) → keyword_in all_keywords w ≡ None → act_of (w ∷ ws) ≡ None
act_by_none w ws e = act_by w ws None e

-- a line by its length
pub long_line : (bytes : List ℕ) → 256 < length bytes → journal_line bytes ≡ None
unfolding journal_line
long_line bytes h = let t : nat_lt 256 (length bytes) ≡ true = lt-ltb 256 (length bytes) h in rw t refl

pub short_line : (bytes : List ℕ) → length bytes ≤ 256 → journal_line bytes ≡ line_by_words (words_in bytes)
unfolding journal_line
short_line bytes h = let t : nat_lt 256 (length bytes) ≡ false = le-ltb 256 (length bytes) h in rw t refl
