use Rattle.std.specs.Prelude.{◌≡◌, ℕ, ◌*◌, ◌==◌, List, filter, Option, Some, None, Result, Ok, Err}
use Rattle.km_base.specs.declared.sizes.TheConstants.{PAGE}
use Rattle.km_base.specs.declared.spans.Span.{Span}
use Rattle.km_base.specs.declared.acts.Answer.{Answer}
use Rattle.km_base.specs.declared.acts.Answer.TheVariants.{Done, Refused}
use Rattle.km_base.specs.declared.acts.Refusal.TheVariants as refusal
use Rattle.km_model.specs.Placement.{Allocation, SectionRun, pages_for}
use Rattle.km_model.specs.World.{is_any_section, is_given, sections}
use Rattle.km_model.specs.Answers.{unless, done_at, is_bad_size}
use Rattle.km_sections.specs.declared.errors.SectionFault.{SectionFault}
use Rattle.km_sections.specs.declared.errors.SectionFault.TheVariants as fault

-- a section of so many words takes whole pages
abbrev pub section : List ℕ → ℕ → ℕ → Allocation
section name words start = record { «use» = SectionRun name; start = start; size = PAGE * pages_for (8 * words) }

-- the answer to a section of a name and so many words, among these allocations, by its place if there is room
abbrev pub section_answer : List Allocation → List ℕ → ℕ → Option ℕ → Answer
section_answer used name words place =
    unless (is_bad_size 4096 words) refusal.BadSize
    (unless (is_given used name) refusal.SectionExists
    (unless (sections used == 32) refusal.TooManySections (done_at place)))

-- a result as an answer
abbrev pub refusal_of : SectionFault → Answer
refusal_of fault.BadSize = Refused refusal.BadSize
refusal_of fault.SectionExists = Refused refusal.SectionExists
refusal_of fault.TooManySections = Refused refusal.TooManySections
refusal_of fault.NoRoom = Refused refusal.NoRoom

abbrev pub answer_of : Result Span SectionFault → Answer
answer_of (Ok _) = Done
answer_of (Err e) = refusal_of e

-- the answer where room is no matter
abbrev pub refused_first : Option SectionFault → Answer
refused_first None = Done
refused_first (Some e) = refusal_of e

-- the sections among the live allocations
abbrev pub AreSections : List Allocation → List Allocation → Type 0
AreSections given used = filter is_any_section used ≡ given
