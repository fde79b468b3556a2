-- A run of a live script, as the contract of the program says it.
use Rattle.std.proofs.Common.{◌≡◌, ◌∙◌, ℕ, ◌==◌, Bool, true, false, List, [], ◌∷◌, length, map, Option, refl, sym, subst, arith}
use Rattle.std.proofs.lemmas.Bool.Decides.{nat_tests}
use Rattle.km_base.specs.declared.status.Status.{Status}
use Rattle.km_base.specs.declared.status.Status.TheVariants as status
use Rattle.km_edge.specs.Streams.{SourceState, SinkState}
use Rattle.km_machine.specs.Machines.{Simulation}
use Rattle.km_engine.proofs.Answered.{answered}
use Rattle.km_live_engine.specs.Outcome.{live_scripts}
use Rattle.km_live_engine.specs.Program.{DoesLive, RunsLive}
use Rattle.km_live_engine.specs.Steps.{RunsScript}

runs_live : (s s' : SourceState) (k k' : SinkState) (machine : Option Simulation) (ended : Status) → RunsScript s s' k k' machine ended → RunsLive s s' k k' ended
runs_live s s' k k' machine ended r = record {
  answered = record (answered live_scripts (λ x. refl) s s' k k' ended r.run) { causes = r.run };
  machine = machine;
  led = r.led;
}

-- with no word a script is run
pub runs : {S K : Type 0} (source : S → SourceState) (sink : K → SinkState) (words : List (List ℕ)) (s s' : S) (k k' : K) (machine : Option Simulation) (ended : Status) → words ≡ []
    → RunsScript (source s) (source s') (sink k) (sink k') machine ended → DoesLive source sink words s s' k k' ended
runs source sink words s s' k k' machine ended none r =
    subst (λ w. DoesLive source sink w s s' k k' ended) (sym none) (runs_live (source s) (source s') (sink k) (sink k') machine ended r)

-- a word is one too many
pub tells_word : {S K : Type 0} (source : S → SourceState) (sink : K → SinkState) (words : List (List ℕ)) (s : S) (k : K) → (words ≡ [] → ⊥)
    → DoesLive source sink words s s k k (status.BadWords 1)
tells_word source sink [] s k some = absurd (some refl)
tells_word source sink (w ∷ ws) s k some = (refl, refl, refl)

-- there is no word where none is counted
pub no_word : {A B : Type 0} (f : A → B) (words : List A) (empty : Bool) → empty ≡ true → empty ≡ (length words == 0) → map f words ≡ []
no_word f [] empty e g = refl
no_word f (w ∷ ws) empty e g =
    let some : (length (w ∷ ws) == 0) ≡ false = grind (arith, nat_tests) in
    let bad : true ≡ false = sym e ∙ g ∙ some in
    absurd (let z : ⊥ = cc in z)
