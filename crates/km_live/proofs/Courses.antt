-- What no act of a course is.
use Rattle.std.proofs.Common.{◌≡◌, ℕ, zero, suc, true, false, List, [], ◌∷◌, ◌++◌, Option, Some, None, refl, sym, subst}
use Rattle.km_base.specs.declared.acts.Act.{Act}
use Rattle.km_base.specs.declared.acts.Act.TheVariants as act
use Rattle.km_base.specs.declared.acts.Answer.{Answer}
use Rattle.km_laws.specs.Laws.{may_load}
use Rattle.km_model.specs.Members.{Each}
use Rattle.km_model.proofs.Cases.{elim_false}
use Rattle.km_words.specs.Told.{WordStep}
use Rattle.km_rounds.specs.declared.entry.Entry.{Entry}
use Rattle.km_rounds.specs.Journals.{Journal}
use Rattle.km_live_model.specs.declared.jobs.JobLine.{JobLine}
use Rattle.km_live_model.specs.declared.jobs.JobLine.TheVariants.{Kmalloc, Kzalloc, Kfree, NotLeak, Ignore, NoScan, ScanArea}
use Rattle.km_live_model.specs.Courses.{Mutator, Course, Stage, AtTick, AtBegin, AtStep, Halted, act_in, entry_of, is_halt, is_next_act, stage_after}
use Rattle.km_workers.specs.Workers.{Leads}

-- an act neither loads nor halts a scan
abbrev pub IsPlain : Act → Type 0
IsPlain what = (may_load what ≡ false) × (is_halt what ≡ false)

-- of an act, if there is one
abbrev IsPlainIf : Option Act → Type 0
IsPlainIf None = Unit {0}
IsPlainIf (Some what) = IsPlain what

plain_line : (registers : List ℕ) (line : JobLine) → IsPlainIf (act_in registers line)
plain_line registers (Kmalloc size _) = (refl, refl)
plain_line registers (Kzalloc size _) = (refl, refl)
plain_line registers (Kfree a) = (refl, refl)
plain_line registers (NotLeak a) = (refl, refl)
plain_line registers (Ignore a) = (refl, refl)
plain_line registers (NoScan a) = (refl, refl)
plain_line registers (ScanArea a size) = (refl, refl)
plain_line registers _ = tt

plain_entry : (by : ℕ) (made : Option Act) (answer : Option Answer) → IsPlainIf made → Each (λ (e : Entry). IsPlain e.act) (entry_of by made answer)
plain_entry by None answer plain = tt
plain_entry by (Some what) None plain = tt
plain_entry by (Some what) (Some given) plain = (plain, tt)

pub each_append : {X : Type 0} (P : X → Type 0) (xs ys : List X) → Each P xs → Each P ys → Each P (xs ++ ys)
each_append P [] ys f g = g
each_append P (x ∷ xs) ys f g = (f.0, each_append P xs ys f.1 g)

-- of the course of a mutator
pub plain_course : (words by : ℕ) (before : Mutator) (lines : List JobLine) (steps : List WordStep) (entries : Journal) (after : Mutator)
    → Course words by before lines steps entries after → Each (λ (e : Entry). IsPlain e.act) entries
plain_course words by before [] steps entries after c = subst (Each (λ (e : Entry). IsPlain e.act)) (sym c.1) tt
plain_course words by before (line ∷ lines) steps entries after c =
    subst (Each (λ (e : Entry). IsPlain e.act)) (sym c.8)
    (each_append (λ (e : Entry). IsPlain e.act) c.2 c.3
    (subst (Each (λ (e : Entry). IsPlain e.act)) (sym (c.5).made_entries) (plain_entry by (act_in before.registers line) (c.5).answer (plain_line before.registers line)))
    (plain_course words by c.4 lines c.1 c.3 after c.6))

-- from a halt on nothing leads into a scan
not_halted : (gap n : ℕ) (xs : Journal) → Leads gap Halted xs (AtStep n) → ⊥
not_halted gap n [] leads = absurd cc
not_halted gap n (x ∷ xs) leads = absurd (elim_false leads.0)

-- what leads into a scan has no halt
pub unhalted : (gap n : ℕ) (stage : Stage) (xs : Journal) → Leads gap stage xs (AtStep n) → Each (λ (e : Entry). is_halt e.act ≡ false) xs
unhalted gap n stage [] leads = tt
unhalted gap n stage (x ∷ xs) leads = (here stage x.act leads.0 leads.1, unhalted gap n (stage_after stage x.act x.answer) xs leads.1)
  where
    here : (s : Stage) (what : Act) → is_next_act gap s what ≡ true → Leads gap (stage_after s what x.answer) xs (AtStep n) → is_halt what ≡ false
    here (AtTick zero) act.Halt next later = absurd (elim_false next)
    here (AtTick (suc m)) act.Halt next later = absurd (elim_false next)
    here (AtBegin m) act.Halt next later = absurd (elim_false next)
    here (AtStep m) act.Halt next later = absurd (not_halted gap n xs later)
    here Halted act.Halt next later = absurd (elim_false next)
    here s _ next later = refl
