-- Running lines one after another.
use Rattle.std.proofs.Common.{◌≡◌, ℕ, ◌+◌, Bool, true, false, List, [], ◌∷◌, ◌++◌, Ok, Err, refl, ap, sym, subst, ◌∙◌, arith, append_assoc, length-append}
use Rattle.std.proofs.lemmas.List.{append-nil}
use Rattle.km_base.specs.declared.lines.Command.{Command}
use Rattle.km_base.specs.declared.lines.Command.TheVariants.{Memory}
use Rattle.km_base.specs.declared.lines.Line.{Line}
use Rattle.km_base.specs.declared.lines.Line.TheVariants as line
use Rattle.km_base.specs.declared.lines.NotACommand.{NotACommand as Refused}
use Rattle.km_base.specs.declared.status.Status.{Status}
use Rattle.km_model.specs.Grammar.{rules, line_of}
use Rattle.km_model.specs.Output.{Script, Fresh, Begun, Leads, LeadsLine, LineThen, Prints, is_fresh, status_from, status_then}
use Rattle.km_model.specs.Text.{not_a_command_text}
use Rattle.km_engine.specs.Session.{Place, first_place}
use Rattle.km_engine.specs.Steps.{Ran}

-- what a line prints comes before what the lines after it print
pub prints_cons : (m next end : Script) (n : ℕ) (l : List ℕ) (ls : List (List ℕ)) (x : Line) (text out : List ℕ) → line_of (is_fresh m) l ≡ Ok x
    → LeadsLine m x next text → Prints next (n + 1) ls end out → Prints m n (l ∷ ls) end (text ++ out)
prints_cons m next end n l ls x text out read leads rest =
    subst (λ r. LineThen r m n (λ between e o. Prints between (n + 1) ls e o) end (text ++ out)) (sym read) (next, text, out, leads, rest, refl)

-- a refused line ends what is printed
pub prints_refused : (m : Script) (n : ℕ) (l : List ℕ) (ls : List (List ℕ)) (e : Refused) → line_of (is_fresh m) l ≡ Err e
    → Prints m n (l ∷ ls) m (not_a_command_text n e.column)
prints_refused m n l ls e read =
    subst (λ r. LineThen r m n (λ between end o. Prints between (n + 1) ls end o) m (not_a_command_text n e.column)) (sym read) (refl, refl)

-- a line that is run alone prints its text
pub prints_one : (m next : Script) (n : ℕ) (l : List ℕ) (x : Line) (text : List ℕ) → line_of (is_fresh m) l ≡ Ok x → LeadsLine m x next text → Prints m n (l ∷ []) next text
prints_one m next n l x text read leads =
    subst (λ t. Prints m n (l ∷ []) next t) (append-nil text) (prints_cons m next next n l [] x text [] read leads (refl, refl))

-- after a command a script has begun
pub leads_begun : (m : Script) (c : Command) (next : Script) (text : List ℕ) → Leads m c next text → is_fresh next ≡ false
leads_begun Fresh (Memory words) next text p = ap is_fresh p.0
leads_begun Fresh _ next text p = absurd p
leads_begun (Begun run) c next text p = ap is_fresh p.2

-- a status after a line that was run
pub status_on : (m : Script) (n : ℕ) (l : Line) (next : Script) (text : List ℕ) (rest : Bool → Status) → LeadsLine m l next text
    → status_then (is_fresh m) n (Ok l) rest ≡ rest (is_fresh next)
status_on m n line.Blank next text rest p = ap (λ s. rest (is_fresh s)) (sym p.0)
status_on m n (line.Command c) next text rest p = ap rest (sym (leads_begun m c next text p))

-- what a line leaves fresh is blank
blank_if_fresh : (m : Script) (l : Line) (next : Script) (text : List ℕ) → LeadsLine m l next text → is_fresh next ≡ true
    → (is_fresh m ≡ true) × (text ≡ [])
blank_if_fresh m line.Blank next text p fresh = (ap is_fresh (sym p.0) ∙ fresh, p.1)
blank_if_fresh m (line.Command c) next text p fresh = absurd (not_both (is_fresh next) fresh (leads_begun m c next text p))
  where
    not_both : (b : Bool) → b ≡ true → b ≡ false → ⊥
    not_both b e f = cc

-- the place after a line
abbrev pub after : Place → Script → Place
after p next = record { number = p.number + 1; script = next }

-- no line was run
pub ran_none : Ran [] [] first_place
ran_none = record { prints_on = λ ls end out h. h; ends_on = λ otherwise ls. refl; numbered = omega arith; still_fresh = λ fresh. refl }

-- one line more was run
pub ran_line : (lines : List (List ℕ)) (written : List ℕ) (p : Place) (l : List ℕ) (x : Line) (next : Script) (text : List ℕ) → Ran lines written p
    → line_of (is_fresh p.script) l ≡ Ok x → LeadsLine p.script x next text → Ran (lines ++ l ∷ []) (written ++ text) (after p next)
ran_line lines written p l x next text ran read leads = record {
  prints_on = λ ls end out h.
      subst (λ y. Prints Fresh 1 y end ((written ++ text) ++ out)) (sym (append_assoc lines (l ∷ []) ls))
      (subst (λ o. Prints Fresh 1 (lines ++ l ∷ ls) end o) (sym (append_assoc written text out))
      (ran.prints_on (l ∷ ls) end (text ++ out) (prints_cons p.script next end p.number l ls x text out read leads h)));
  ends_on = λ otherwise ls.
      ap (status_from rules otherwise true 1) (append_assoc lines (l ∷ []) ls) ∙ ran.ends_on otherwise (l ∷ ls)
      ∙ ap (λ r. status_then (is_fresh p.script) p.number r (λ first. status_from rules otherwise first (p.number + 1) ls)) read
      ∙ status_on p.script p.number x next text (λ first. status_from rules otherwise first (p.number + 1) ls) leads;
  numbered = omega (arith, ran.numbered, length-append lines (l ∷ []));
  still_fresh = λ fresh.
      let blank = blank_if_fresh p.script x next text leads fresh in ap (λ w. w ++ text) (ran.still_fresh blank.0) ∙ blank.1;
}

-- what the lines print that were run
pub prints_all : (lines : List (List ℕ)) (written : List ℕ) (p : Place) → Ran lines written p → Prints Fresh 1 lines p.script written
prints_all lines written p ran =
    subst (λ ls. Prints Fresh 1 ls p.script written) (append-nil lines)
    (subst (λ out. Prints Fresh 1 (lines ++ []) p.script out) (append-nil written) (ran.prints_on [] p.script [] (refl, refl)))

pub status_all : (lines : List (List ℕ)) (written : List ℕ) (p : Place) (otherwise : Status) → Ran lines written p → status_from rules otherwise true 1 lines ≡ otherwise
status_all lines written p otherwise ran = ap (status_from rules otherwise true 1) (sym (append-nil lines)) ∙ ran.ends_on otherwise []
