-- Answers that are the same as they are written.
use Rattle.std.proofs.Common.{◌≡◌, ℕ, ◌==◌, true, ◌&&◌, Option, Some, None, if◌then◌else◌, refl, ap, sym, ◌∙◌, eqb-true, eq-eqb}
use Rattle.std.proofs.lemmas.Bool.{and_parts, and_from}
use Rattle.km_base.specs.declared.acts.Refusal.{Refusal}
use Rattle.km_base.specs.declared.acts.Refusal.TheVariants.{BadAddress, BadSize, NoRoom, NoSlot, NotAllocated, NoObject, NotInside, AreaOverlap, TooManyAreas, NoTask, TaskExists, TooManyTasks, NoSection, SectionExists, TooManySections, Busy, NoScanRunning, Disabled, Invalid, NotBoot}
use Rattle.km_entries.specs.declared.lines.Said.{Said}
use Rattle.km_entries.specs.declared.lines.Said.TheVariants as said
use Rattle.km_entries.specs.Lines.{refusal_number}
use Rattle.km_entries.specs.Reading.{refusal_at}
use Rattle.km_entries.specs.File.{same_said, scan_of}

-- the refusal of a number and a scan
or_first : Option Refusal → Refusal
or_first None = BadAddress
or_first (Some r) = r

refusal_from : ℕ → ℕ → Refusal
refusal_from n k = if n == 16 then Busy k else or_first (refusal_at n)

from_again : (r : Refusal) → refusal_from (refusal_number r) (scan_of r) ≡ r
unfolding refusal_from or_first
from_again BadAddress = refl
from_again BadSize = refl
from_again NoRoom = refl
from_again NoSlot = refl
from_again NotAllocated = refl
from_again NoObject = refl
from_again NotInside = refl
from_again AreaOverlap = refl
from_again TooManyAreas = refl
from_again NoTask = refl
from_again TaskExists = refl
from_again TooManyTasks = refl
from_again NoSection = refl
from_again SectionExists = refl
from_again TooManySections = refl
from_again (Busy k) = refl
from_again NoScanRunning = refl
from_again Disabled = refl
from_again Invalid = refl
from_again NotBoot = refl

refusal_was : (r q : Refusal) → (refusal_number r == refusal_number q && scan_of r == scan_of q) ≡ true → r ≡ q
refusal_was r q e =
    let parts = and_parts (refusal_number r == refusal_number q) (scan_of r == scan_of q) e in
    sym (from_again r)
    ∙ ap (λ n. refusal_from n (scan_of r)) (eqb-true (refusal_number r) (refusal_number q) parts.0)
    ∙ ap (refusal_from (refusal_number q)) (eqb-true (scan_of r) (scan_of q) parts.1)
    ∙ from_again q

pub said_is : (s : Said) → same_said s s ≡ true
said_is said.Done = refl
said_is (said.At a) = eq-eqb a a refl
said_is (said.Loaded a v) = and_from (a == a) (v == v) (eq-eqb a a refl) (eq-eqb v v refl)
said_is (said.Ended k n) = and_from (k == k) (n == n) (eq-eqb k k refl) (eq-eqb n n refl)
said_is (said.Stopped k) = eq-eqb k k refl
said_is said.Skipped = refl
said_is said.Dumped = refl
said_is (said.Refused r) = and_from (refusal_number r == refusal_number r) (scan_of r == scan_of r) (eq-eqb (refusal_number r) (refusal_number r) refl) (eq-eqb (scan_of r) (scan_of r) refl)

pub said_same : (s t : Said) → same_said s t ≡ true → s ≡ t
said_same said.Done said.Done e = refl
said_same (said.At a) (said.At b) e = ap said.At (eqb-true a b e)
said_same (said.Loaded a v) (said.Loaded b w) e = let p = and_parts (a == b) (v == w) e in ap (λ x. said.Loaded x v) (eqb-true a b p.0) ∙ ap (said.Loaded b) (eqb-true v w p.1)
said_same (said.Ended k n) (said.Ended j m) e = let p = and_parts (k == j) (n == m) e in ap (λ x. said.Ended x n) (eqb-true k j p.0) ∙ ap (said.Ended j) (eqb-true n m p.1)
said_same (said.Stopped k) (said.Stopped j) e = ap said.Stopped (eqb-true k j e)
said_same said.Skipped said.Skipped e = refl
said_same said.Dumped said.Dumped e = refl
said_same (said.Refused r) (said.Refused q) e = ap said.Refused (refusal_was r q e)
said_same s t e = absurd (cc)
