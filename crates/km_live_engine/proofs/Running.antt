-- Running the lines of a live script one after another.
use Rattle.std.proofs.Common.{◌≡◌, ℕ, ◌+◌, ◌≤◌, Bool, true, List, [], ◌∷◌, ◌++◌, length, Ok, Err, refl, ap, sym, subst, ◌∙◌, arith, append_assoc, length-append}
use Rattle.std.proofs.lemmas.List.{append-nil}
use Rattle.km_base.specs.declared.lines.NotACommand.{NotACommand as Refused}
use Rattle.km_base.specs.declared.status.Status.{Status}
use Rattle.km_model.specs.Output.{Script, Fresh, Begun, is_fresh}
use Rattle.km_model.specs.Text.{not_a_command_text}
use Rattle.km_live_model.specs.declared.lines.LiveLine.{LiveLine}
use Rattle.km_live_model.specs.declared.lines.LiveLine.TheVariants as live
use Rattle.km_live_model.specs.LiveGrammar.{LiveReading}
use Rattle.km_live_model.specs.Threads.{Threads, end_at, line_at, live_status_from, live_status_then, no_threads, still_first, threads_after}
use Rattle.km_live_model.specs.Lives.{LeadsLive, LiveLineThen, LivePrints, LiveScript, end_text, live_start}
use Rattle.km_engine.proofs.Running.{leads_begun}
use Rattle.km_live_engine.specs.Session.{LivePlace, first_place}
use Rattle.km_live_engine.specs.Steps.{IsFitLine, read_at}
use Rattle.km_live_engine.proofs.Fit.{read_is_fit}

-- where a line leads
abbrev pub led : LiveScript → LiveLine → Script → LiveScript
led s l next = record { script = next; threads = threads_after s.threads l }

-- a line of a script, as it stands there
abbrev pub read_in : LiveScript → List ℕ → LiveReading
read_in s l = line_at (is_fresh s.script) s.threads l

-- what a line prints comes before what the lines after it print
pub prints_cons : (otherwise : Status) (s : LiveScript) (next : Script) (end : LiveScript) (n : ℕ) (l : List ℕ) (ls : List (List ℕ)) (x : LiveLine) (text out : List ℕ)
    → read_in s l ≡ Ok x → LeadsLive s.script s.threads.standing x next text → LivePrints otherwise (led s x next) (n + 1) ls end out
    → LivePrints otherwise s n (l ∷ ls) end (text ++ out)
prints_cons otherwise s next end n l ls x text out read leads rest =
    subst (λ r. LiveLineThen r s n (λ between e o. LivePrints otherwise between (n + 1) ls e o) end (text ++ out)) (sym read) (next, text, out, leads, rest, refl)

-- a refused line ends what is printed
pub prints_refused : (otherwise : Status) (s : LiveScript) (n : ℕ) (l : List ℕ) (ls : List (List ℕ)) (e : Refused) → read_in s l ≡ Err e
    → LivePrints otherwise s n (l ∷ ls) s (not_a_command_text n e.column)
prints_refused otherwise s n l ls e read =
    subst (λ r. LiveLineThen r s n (λ between end o. LivePrints otherwise between (n + 1) ls end o) s (not_a_command_text n e.column)) (sym read) (refl, refl)

-- whether no command was read after a line is whether the script is still fresh
first_on : (s : Script) (t : Threads) (l : LiveLine) (next : Script) (text : List ℕ) → IsFitLine (is_fresh s) l → LeadsLive s t.standing l next text
    → still_first (is_fresh s) l ≡ is_fresh next
first_on s t live.Blank next text fit p = ap is_fresh (sym p.0)
first_on s t (live.Command c) next text fit p = sym (leads_begun s c next text p)
first_on Fresh t (live.Round scans gap entries) next text fit p = absurd p
first_on (Begun run) t (live.Round scans gap entries) next text fit p = ap is_fresh (sym p.2)
first_on s t (live.Thread name) next text fit p = sym fit ∙ ap is_fresh (sym p.0)
first_on s t live.End next text fit p = sym fit ∙ ap is_fresh (sym p.0)
first_on s t (live.InThread j) next text fit p = sym fit ∙ ap is_fresh (sym p.0)

-- a status after a line that was run
pub status_on : (s : LiveScript) (n : ℕ) (l : LiveLine) (next : Script) (text : List ℕ) (rest : Bool → Threads → Status) → IsFitLine (is_fresh s.script) l
    → LeadsLive s.script s.threads.standing l next text
    → live_status_then (is_fresh s.script) s.threads n (Ok l) rest ≡ rest (is_fresh next) (threads_after s.threads l)
status_on s n l next text rest fit p = ap (λ b. rest b (threads_after s.threads l)) (first_on s.script s.threads l next text fit p)

-- these lines were run from the first, and the run stands after them, whatever comes there
pub record Ran (lines : List (List ℕ)) (written : List ℕ) (q : LivePlace) : Type 0 where
  pub prints_on : (otherwise : Status) (ls : List (List ℕ)) (end : LiveScript) (out : List ℕ) → LivePrints otherwise q.script q.number ls end out
      → LivePrints otherwise live_start 1 (lines ++ ls) end (written ++ out)
  pub ends_on : (otherwise : Status) (ls : List (List ℕ))
      → live_status_from otherwise true no_threads 1 (lines ++ ls) ≡ live_status_from otherwise (is_fresh q.script.script) q.script.threads q.number ls
  pub numbered : q.number ≤ length lines + 1

-- the place after a line
abbrev pub after : LivePlace → LiveLine → Script → LivePlace
after p l next = record { number = p.number + 1; script = led p.script l next }

-- no line was run
pub ran_none : Ran [] [] first_place
ran_none = record { prints_on = λ otherwise ls end out h. h; ends_on = λ otherwise ls. refl; numbered = omega arith }

-- one line more was run
pub ran_line : (lines : List (List ℕ)) (written : List ℕ) (p : LivePlace) (l : List ℕ) (x : LiveLine) (next : Script) (text : List ℕ) → Ran lines written p
    → read_at p l ≡ Ok x → LeadsLive p.script.script p.script.threads.standing x next text → Ran (lines ++ l ∷ []) (written ++ text) (after p x next)
ran_line lines written p l x next text ran read leads = record {
  prints_on = λ otherwise ls end out h.
      subst (λ y. LivePrints otherwise live_start 1 y end ((written ++ text) ++ out)) (sym (append_assoc lines (l ∷ []) ls))
      (subst (λ o. LivePrints otherwise live_start 1 (lines ++ l ∷ ls) end o) (sym (append_assoc written text out))
      (ran.prints_on otherwise (l ∷ ls) end (text ++ out) (prints_cons otherwise p.script next end p.number l ls x text out read leads h)));
  ends_on = λ otherwise ls.
      ap (live_status_from otherwise true no_threads 1) (append_assoc lines (l ∷ []) ls) ∙ ran.ends_on otherwise (l ∷ ls)
      ∙ ap (λ r. live_status_then (is_fresh p.script.script) p.script.threads p.number r (λ first t. live_status_from otherwise first t (p.number + 1) ls)) read
      ∙ status_on p.script p.number x next text (λ first t. live_status_from otherwise first t (p.number + 1) ls)
      (read_is_fit (is_fresh p.script.script) p.script.threads l x read) leads;
  numbered = omega (arith, ran.numbered, length-append lines (l ∷ []));
}

-- what the lines print that were run, and then the end
pub prints_all : (otherwise : Status) (lines : List (List ℕ)) (written : List ℕ) (p : LivePlace) → Ran lines written p
    → LivePrints otherwise live_start 1 lines p.script (written ++ end_text (end_at otherwise p.script.threads p.number))
prints_all otherwise lines written p ran =
    subst (λ ls. LivePrints otherwise live_start 1 ls p.script (written ++ end_text (end_at otherwise p.script.threads p.number))) (append-nil lines)
    (ran.prints_on otherwise [] p.script (end_text (end_at otherwise p.script.threads p.number)) (refl, refl))

-- where nothing is printed at the end
pub prints_quiet : (otherwise : Status) (lines : List (List ℕ)) (written : List ℕ) (p : LivePlace) → Ran lines written p
    → end_text (end_at otherwise p.script.threads p.number) ≡ [] → LivePrints otherwise live_start 1 lines p.script written
prints_quiet otherwise lines written p ran quiet =
    subst (λ o. LivePrints otherwise live_start 1 lines p.script o) (ap (λ t. written ++ t) quiet ∙ append-nil written) (prints_all otherwise lines written p ran)

pub status_all : (otherwise : Status) (lines : List (List ℕ)) (written : List ℕ) (p : LivePlace) → Ran lines written p
    → live_status_from otherwise true no_threads 1 lines ≡ end_at otherwise p.script.threads p.number
status_all otherwise lines written p ran = ap (live_status_from otherwise true no_threads 1) (sym (append-nil lines)) ∙ ran.ends_on otherwise []
