-- The histories that lines lead to.
use Rattle.std.proofs.Common.{◌≡◌, ℕ, ◌+◌, List, [], ◌∷◌, ◌++◌, Ok, Err, refl, sym, subst}
use Rattle.km_base.specs.declared.lines.Command.{Command}
use Rattle.km_base.specs.declared.lines.Command.TheVariants.{Memory}
use Rattle.km_base.specs.declared.lines.Line.{Line}
use Rattle.km_base.specs.declared.lines.Line.TheVariants as line
use Rattle.km_model.specs.History.{History}
use Rattle.km_model.specs.Follows.{FollowsMemory, HasOwnWords}
use Rattle.km_model.specs.Grammar.{line_of}
use Rattle.km_model.specs.Headline.{IsMemorySize}
use Rattle.km_model.specs.Output.{Script, Fresh, Begun, Leads, LeadsLine, LineThen, Prints, is_fresh}
use Rattle.km_model.proofs.FollowLaws.{makes_own, makes_words}
use Rattle.km_engine.specs.Steps.{IsFit, IsFitLine}
use Rattle.km_engine.proofs.Fit.{read_is_fit}

-- a script that has begun has a memory, whose words hold what its history stored
abbrev pub IsSound : Script → Type 0
IsSound Fresh = Unit {0}
IsSound (Begun run) = IsMemorySize run.words × HasOwnWords run

leads_sound : (m : Script) (c : Command) (next : Script) (text : List ℕ) → IsFit (is_fresh m) c → Leads m c next text → IsSound m → IsSound next
leads_sound Fresh (Memory words) next text fit p sound = subst IsSound (sym p.0) (fit, record { memory = refl; follows = tt })
leads_sound Fresh _ next text fit p sound = absurd p
leads_sound (Begun run) c next text fit p sound =
    subst IsSound (sym p.2) (subst IsMemorySize (sym (makes_words run c p.0 p.1)) sound.0, makes_own run c p.0 p.1 sound.1)

pub line_sound : (m : Script) (l : Line) (next : Script) (text : List ℕ) → IsFitLine (is_fresh m) l → LeadsLine m l next text → IsSound m → IsSound next
line_sound m line.Blank next text fit p sound = subst IsSound (sym p.0) sound
line_sound m (line.Command c) next text fit p sound = leads_sound m c next text fit p sound

pub prints_sound : (ls : List (List ℕ)) (m : Script) (n : ℕ) (end : Script) (out : List ℕ) → Prints m n ls end out → IsSound m → IsSound end
prints_sound [] m n end out p sound = subst IsSound (sym p.0) sound
prints_sound (l ∷ ls) m n end out p sound =
    elim (line_of (is_fresh m) l) as (λ r. line_of (is_fresh m) l ≡ r → LineThen r m n (λ between e o. Prints between (n + 1) ls e o) end out → IsSound end) [
      | Err e ↦ λ read c. subst IsSound (sym c.0) sound
      | Ok x ↦ λ read c. prints_sound ls c.0 (n + 1) end c.2 c.4 (line_sound m x c.0 c.1 (read_is_fit (is_fresh m) l x read) c.3 sound)
    ] refl p

-- what follows a memory followed it at each moment
pub followed : (words : ℕ) (later before : History) → FollowsMemory words (later ++ before) → FollowsMemory words before
followed words [] before f = f
followed words (e ∷ later) before f = followed words later before f.1
