use Rattle.std.proofs.Common.{◌≡◌, ℕ, true, false, List, [], ◌∷◌, Option, Some, None, refl, ◌∙◌, ap, ◌⊎◌, inl, inr}
use Rattle.std.proofs.lemmas.Bool.{cases_Bool}
use Rattle.km_base.specs.declared.acts.Act.{Act}
use Rattle.km_base.specs.declared.acts.Act.TheVariants.{Step}
use Rattle.km_base.specs.declared.acts.Answer.{Answer}
use Rattle.km_base.specs.declared.acts.Answer.TheVariants.{Loaded}
use Rattle.km_model.specs.Past.{Past, Place, ScanLoad, loads, with_load, begins, completes_scan}
use Rattle.km_model.specs.Scan.{next, scan_load, load_of}
use Rattle.km_model.specs.Follows.{moment}

-- an event begins a scan
pub record Begun (past : Past) (act : Act) (given : Answer) : Type 0 where
  pub begun : begins act given ≡ true
  pub none : load_of past act given ≡ None
  pub loads_are : loads (moment past act given ∷ past) ≡ []

-- or makes no load
pub record Still (past : Past) (act : Act) (given : Answer) : Type 0 where
  pub going : begins act given ≡ false
  pub none : load_of past act given ≡ None
  pub loads_are : loads (moment past act given ∷ past) ≡ loads past

-- or makes the next load of a scan
pub record Made (past : Past) (act : Act) (given : Answer) : Type 0 where
  pub going : begins act given ≡ false
  pub place : Place
  pub value : ℕ
  pub found : next past ≡ Some place
  pub load : load_of past act given ≡ Some (scan_load past place value)
  pub loads_are : loads (moment past act given ∷ past) ≡ scan_load past place value ∷ loads past
  pub unended : (n : ℕ) → completes_scan n given ≡ false
  pub step : act ≡ Step
  pub address : ℕ
  pub answer_is : given ≡ Loaded address value

begun_loads : (past : Past) (act : Act) (given : Answer) → begins act given ≡ true → loads (moment past act given ∷ past) ≡ []
begun_loads past act given e = ap (λ q. elim q as (λ _. List ScanLoad) [ true ↦ [] | false ↦ with_load (load_of past act given) (loads past) ]) e

going_loads : (past : Past) (act : Act) (given : Answer) → begins act given ≡ false → loads (moment past act given ∷ past) ≡ with_load (load_of past act given) (loads past)
going_loads past act given e = ap (λ q. elim q as (λ _. List ScanLoad) [ true ↦ [] | false ↦ with_load (load_of past act given) (loads past) ]) e

unloaded : (past : Past) (act : Act) (given : Answer) → load_of past act given ≡ None → Begun past act given ⊎ (Still past act given ⊎ Made past act given)
unloaded past act given none =
    elim (cases_Bool (begins act given)) [
      | inl yes' ↦ inl (record { begun = yes'; none = none; loads_are = begun_loads past act given yes' })
      | inr other ↦ inr (inl (record { going = other; none = none; loads_are = going_loads past act given other ∙ ap (λ o. with_load o (loads past)) none }))
    ]

step_loads : (past : Past) (a value : ℕ) (o : Option Place) → next past ≡ o → Begun past Step (Loaded a value) ⊎ (Still past Step (Loaded a value) ⊎ Made past Step (Loaded a value))
step_loads past a value None e = unloaded past Step (Loaded a value) (ap (λ o. elim o as (λ _. Option ScanLoad) [ None ↦ None | Some place ↦ Some (scan_load past place value) ]) e)
step_loads past a value (Some place) e =
    let load : load_of past Step (Loaded a value) ≡ Some (scan_load past place value) = ap (λ o. elim o as (λ _. Option ScanLoad) [ None ↦ None | Some p ↦ Some (scan_load past p value) ]) e in
    inr (inr (record {
      going = refl;
      place = place;
      value = value;
      found = e;
      load = load;
      loads_are = going_loads past Step (Loaded a value) refl ∙ ap (λ o. with_load o (loads past)) load;
      unended = λ n. refl;
      step = refl;
      address = a;
      answer_is = refl;
    }))

-- what an event does to the loads of the scan
pub event_case : (past : Past) (act : Act) (given : Answer) → Begun past act given ⊎ (Still past act given ⊎ Made past act given)
event_case past Step (Loaded a value) = step_loads past a value (next past) refl
event_case past act given = unloaded past act given refl
