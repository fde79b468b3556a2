use Rattle.std.proofs.Common.{◌≡◌, ℕ, ◌+◌, ◌*◌, ◌<◌, ◌≤◌, ◌==◌, ◌||◌, Bool, true, false, List, [], ◌∷◌, length, map, drop, get_or, filter, cond, Option, Some, None, is_some, option_map, nat_lt, if◌then◌else◌, bytes_eq, codes, refl, sym, ap, ◌∙◌, subst}
use Rattle.std.specs.List.{list_any}
use Rattle.km_model.specs.Placement.{Allocation, Use, run_place, SlotTable, SectionRun, StackPage, SlabBlock, LargeRun, PlainRun, BootRun, HeadBlock, AreaRun}
use Rattle.km_model.specs.World.{is_section, is_any_section, is_given, sections, section_named}
use Rattle.std.proofs.lemmas.List.{length-map, at_drop_more}
use Rattle.std.proofs.lemmas.List.Sums.{length-filter}
use Rattle.km_base.specs.declared.acts.Refusal.TheVariants.{BadSize, SectionExists, TooManySections}
use Rattle.std.proofs.lemmas.Bool.{eq-eqb, ne_eqb, le-ltb, or_from}
use Rattle.km_base.specs.declared.spans.Addr.{Addr}
use Rattle.km_base.specs.declared.acts.Answer.TheVariants.{Refused}
use Rattle.km_pages.specs.declared.runs.Run.{Run}
use Rattle.km_pages.specs.Runs.{place}
use Rattle.km_pages.specs.Laid.{AreLaid}
use Rattle.km_pages.proofs.Touching.{place_same}
use Rattle.km_model.specs.Answers.{unless, done_at, is_bad_size}
use Rattle.km_sections.specs.declared.sections.Part.{Part}
use Rattle.km_sections.specs.Named.{AreSections, section_answer}
use Rattle.km_sections.specs.Parts.{allocation}

-- a name is given where a section has it
pub any_named : (used : List Allocation) (name : List ℕ) → list_any (is_section name) used ≡ is_some (section_named used name)
any_named [] name = refl
any_named (x ∷ used) name =
    elim (is_section name x) as (λ b. (b || list_any (is_section name) used) ≡ is_some (if b then Some x.start else section_named used name)) [
      | true ↦ refl
      | false ↦ any_named used name
    ]

-- what is no section has no name
no_section : (u : Use) (name : List ℕ) → elim u as (λ _. Bool) [ SectionRun _ ↦ true | _ ↦ false ] ≡ false → elim u as (λ _. Bool) [ SectionRun n ↦ bytes_eq n name | _ ↦ false ] ≡ false
no_section SlotTable name e = refl
no_section (SectionRun n) name e = absurd cc
no_section StackPage name e = refl
no_section SlabBlock name e = refl
no_section LargeRun name e = refl
no_section PlainRun name e = refl
no_section BootRun name e = refl
no_section (HeadBlock s) name e = refl
no_section (AreaRun s) name e = refl

-- the sections alone tell where a name's section is, and how many there are
pub named_same : (used : List Allocation) (name : List ℕ) → section_named used name ≡ section_named (filter is_any_section used) name
named_same [] name = refl
named_same (x ∷ used) name =
    let rest = named_same used name in
    let Goal = λ (b : Bool). is_any_section x ≡ b → (if is_section name x then Some x.start else section_named used name) ≡ section_named (cond b (x ∷ filter is_any_section used) (filter is_any_section used)) name in
    elim (is_any_section x) as Goal [
      | true ↦ λ e. ap (λ o. if is_section name x then Some x.start else o) rest
      | false ↦ λ e. rw (no_section x.«use» name e) rest
    ] refl

all_sections : (parts : List Part) → filter is_any_section (map allocation parts) ≡ map allocation parts
all_sections [] = refl
all_sections (part ∷ parts) = ap (λ xs. allocation part ∷ xs) (all_sections parts)

pub count_all : (parts : List Part) → sections (map allocation parts) ≡ length parts
count_all parts = sym (length-filter is_any_section (map allocation parts)) ∙ ap length (all_sections parts) ∙ length-map parts allocation

-- so they alone tell the answer
pub answer_same : (parts : List Part) (used : List Allocation) (name : List ℕ) (words : ℕ) (place : Option ℕ) → AreSections (map allocation parts) used
    → section_answer (map allocation parts) name words place ≡ section_answer used name words place
answer_same parts used name words place are =
    let any : list_any (is_section name) used ≡ list_any (is_section name) (map allocation parts) =
    any_named used name ∙ ap is_some (named_same used name ∙ ap (λ g. section_named g name) are) ∙ sym (any_named (map allocation parts) name) in
    let count : sections used ≡ sections (map allocation parts) =
    sym (length-filter is_any_section used) ∙ ap length are ∙ length-map parts allocation ∙ sym (count_all parts) in
    sym (ap (λ b. unless (is_bad_size 4096 words) BadSize (unless (bytes_eq name (codes "vmap") || b) SectionExists (unless (sections used == 32) TooManySections (done_at place)))) any
    ∙ ap (λ n. unless (is_bad_size 4096 words) BadSize (unless (is_given (map allocation parts) name) SectionExists (unless (n == 32) TooManySections (done_at place)))) count)

-- a search through the sections
pub found : (parts : List Part) (name : List ℕ) (i : ℕ) (part : Part) → i < length parts → part ≡ get_or parts i part → section_named (map allocation (drop i parts)) name ≡ section_named (map allocation parts) name
    → (if bytes_eq part.name name then Some part.start.0 else section_named (map allocation (drop (i + 1) parts)) name) ≡ section_named (map allocation parts) name
found parts name i part lt is e =
    sym (at_drop_more (λ ps. section_named (map allocation ps) name) parts i part lt
    ∙ ap (λ (p : Part). if bytes_eq p.name name then Some p.start.0 else section_named (map allocation (drop (i + 1) parts)) name) (sym is)) ∙ e

-- what is there stays there under a name
pub some_same : (o : Option Addr) → is_some o ≡ is_some (option_map (λ a. a.0) o)
some_same None = refl
some_same (Some a) = refl

-- a good size
good_size : (words : ℕ) → (words ≡ 0 → ⊥) → words ≤ 4096 → is_bad_size 4096 words ≡ false
good_size words some small = or_from (words == 0) (nat_lt 4096 words) (ne_eqb words 0 some) (le-ltb 4096 words small)

-- where there are as many as there can be
pub full : (given : List Allocation) (name : List ℕ) (words : ℕ) (place : Option ℕ) → (words ≡ 0 → ⊥) → words ≤ 4096 → is_given given name ≡ false → sections given ≡ 32
    → section_answer given name words place ≡ Refused TooManySections
full given name words place some small free many =
    ap (λ b. unless b BadSize (unless (is_given given name) SectionExists (unless (sections given == 32) TooManySections (done_at place)))) (good_size words some small)
    ∙ ap (λ b. unless b SectionExists (unless (sections given == 32) TooManySections (done_at place))) free
    ∙ ap (λ b. unless b TooManySections (done_at place)) (eq-eqb (sections given) 32 many)

-- among all that is live
pub among_same : (parts : List Part) (given used : List Allocation) (pages : List (Option Run)) (name : List ℕ) (words n : ℕ) → map allocation parts ≡ given → AreLaid pages used → AreSections given used
    → section_answer given name words (place pages n) ≡ section_answer used name words (run_place (512 * length pages) used n)
among_same parts given used pages name words n e laid are =
    subst (λ g. section_answer g name words (place pages n) ≡ section_answer used name words (run_place (512 * length pages) used n)) e
    (answer_same parts used name words (place pages n) (are ∙ sym e) ∙ ap (section_answer used name words) (place_same pages used n laid))
