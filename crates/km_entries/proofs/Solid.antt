-- No word of a line has a space, and no line is long.
use Rattle.std.proofs.Common.{◌≡◌, ℕ, ◌+◌, ◌^◌, ◌<◌, ◌≤◌, true, List, [], ◌∷◌, length, decimal, codes, refl, arith, length-append}
use Rattle.std.proofs.lemmas.Fmt.{length-decimal-le}
use Rattle.km_base.specs.declared.acts.Reg.{Reg}
use Rattle.km_base.specs.declared.acts.Reg.TheVariants.{R0, R1, R2, R3}
use Rattle.km_base.specs.declared.acts.FileCmd.{FileCmd}
use Rattle.km_base.specs.declared.acts.FileCmd.TheVariants.{Off, StackOn, StackOff, ScanOn, ScanOff, ScanEvery, Scan, Clear, Dump, Why}
use Rattle.km_base.specs.declared.acts.Act.{Act}
use Rattle.km_base.specs.declared.acts.Act.TheVariants.{Section, TaskStart, TaskExit, SetReg, Load, Store, Kmalloc, Kfree, Pages, FreePages, VmTake, VmGive, BootMem, FreePart, NotLeak, Ignore, NoScan, ScanArea, TransientLeak, File, Read, Tick, AutoBegin, Step, Halt}
use Rattle.km_base.specs.declared.acts.Refusal.{Refusal}
use Rattle.km_base.specs.declared.acts.Refusal.TheVariants.{BadAddress, BadSize, NoRoom, NoSlot, NotAllocated, NoObject, NotInside, AreaOverlap, TooManyAreas, NoTask, TaskExists, TooManyTasks, NoSection, SectionExists, TooManySections, Busy, NoScanRunning, Disabled, Invalid, NotBoot}
use Rattle.km_base.specs.Digits.{hex}
use Rattle.km_entries.specs.declared.lines.Said.{Said}
use Rattle.km_entries.specs.declared.lines.Said.TheVariants as said
use Rattle.km_entries.specs.declared.lines.JournalLine.{JournalLine}
use Rattle.km_entries.specs.declared.lines.JournalLine.TheVariants as line
use Rattle.km_entries.specs.Words.{spaced}
use Rattle.km_entries.specs.Lines.{CanBeMade, CanBeSaid, CanBeWritten, CanStand, act_words, before_words, file_word, line_words, refusal_number, refusal_numbers, reg_number, said_words}
use Rattle.km_entries.proofs.Splits.{AreSolid, is_solid}
use Rattle.km_entries.proofs.Numbers.{solid_decimal}
use Rattle.km_entries.proofs.Addresses.{length_digits, solid_hex}
use Rattle.km_entries.proofs.Readers.{short_name, solid_file, solid_name, solid_reg}

-- the room that words take, each with a space
abbrev pub room : List (List ℕ) → ℕ
room [] = 0
room (w ∷ ws) = length w + 1 + room ws

-- words without spaces, in so much room
pub record Fits (ws : List (List ℕ)) (n : ℕ) : Type 0 where
  pub solid : AreSolid ws
  pub small : room ws ≤ n

pub spaced_fits : (ws : List (List ℕ)) → length (spaced ws) ≤ room ws
spaced_fits [] = omega arith
spaced_fits (w ∷ []) = omega arith
spaced_fits (w ∷ v ∷ ws) = let h = spaced_fits (v ∷ ws) in omega (arith, h, length-append w (32 ∷ spaced (v ∷ ws)))

digits_fit : (n : ℕ) → n < 2 ^ 64 → length (decimal n) ≤ 20
digits_fit n h = let most : 2 ^ 64 ≤ 10 ^ 20 = omega arith in length-decimal-le 20 n (omega arith) (omega (arith, h, most)) h

hex_fits : (n : ℕ) → length (hex n) ≤ 18
hex_fits n = let h = length_digits 16 n in omega (arith, h)

-- one word, two or three
fit_one : (key w : List ℕ) (k n : ℕ) → is_solid key ≡ true → length key ≤ k → is_solid w ≡ true → length w ≤ n → Fits (key ∷ w ∷ []) (k + n + 2)
fit_one key w k n s l t m = record { solid = (s, (t, tt)); small = omega (arith, l, m) }

fit_two : (key w v : List ℕ) (k n m : ℕ) → is_solid key ≡ true → length key ≤ k → is_solid w ≡ true → length w ≤ n → is_solid v ≡ true → length v ≤ m → Fits (key ∷ w ∷ v ∷ []) (k + n + m + 3)
fit_two key w v k n m s l t a u b = record { solid = (s, (t, (u, tt))); small = omega (arith, l, a, b) }

fit_three : (key w v x : List ℕ) (k n m i : ℕ) → is_solid key ≡ true → length key ≤ k → is_solid w ≡ true → length w ≤ n → is_solid v ≡ true → length v ≤ m → is_solid x ≡ true → length x ≤ i
    → Fits (key ∷ w ∷ v ∷ x ∷ []) (k + n + m + i + 4)
fit_three key w v x k n m i s l t a u b y c = record { solid = (s, (t, (u, (y, tt)))); small = omega (arith, l, a, b, c) }

wider : (ws : List (List ℕ)) (m n : ℕ) → Fits ws m → m ≤ n → Fits ws n
wider ws m n f h = let s = f.small in record { solid = f.solid; small = omega (arith, s, h) }

small_reg : (r : Reg) → length (decimal (reg_number r)) ≤ 20
small_reg R0 = digits_fit 0 (omega arith)
small_reg R1 = digits_fit 1 (omega arith)
small_reg R2 = digits_fit 2 (omega arith)
small_reg R3 = digits_fit 3 (omega arith)

file_fits : (f : FileCmd) → CanBeWritten f → length (file_word f) ≤ 25
file_fits Off h = omega arith
file_fits StackOn h = omega arith
file_fits StackOff h = omega arith
file_fits ScanOn h = omega arith
file_fits ScanOff h = omega arith
file_fits (ScanEvery n) h = let d = digits_fit n (omega (arith, h)) in omega (arith, d, length-append (codes "scan=") (decimal n))
file_fits Scan h = omega arith
file_fits Clear h = omega arith
file_fits (Dump a) h = let d = digits_fit a h in omega (arith, d, length-append (codes "dump=") (decimal a))
file_fits (Why a) h = let d = digits_fit a h in omega (arith, d, length-append (codes "why=") (decimal a))

number_fits : (key : List ℕ) (n : ℕ) → is_solid key ≡ true → length key ≤ 14 → n < 2 ^ 64 → Fits (key ∷ decimal n ∷ []) 79
number_fits key n s l h = wider _ (14 + 20 + 2) 79 (fit_one key (decimal n) 14 20 s l (solid_decimal n h) (digits_fit n h)) (omega arith)

address_fits : (key : List ℕ) (a : ℕ) → is_solid key ≡ true → length key ≤ 14 → Fits (key ∷ hex a ∷ []) 79
address_fits key a s l = wider _ (14 + 18 + 2) 79 (fit_one key (hex a) 14 18 s l (solid_hex a) (hex_fits a)) (omega arith)

pub act_fits : (a : Act) → CanBeMade a → Fits (act_words a) 79
act_fits (Section name n) h = wider _ (14 + 16 + 20 + 3) 79 (fit_two (codes "section") name (decimal n) 14 16 20 refl (omega arith) (solid_name name h.0) (short_name name h.0) (solid_decimal n h.1) (digits_fit n h.1)) (omega arith)
act_fits (TaskStart name) h = wider _ (14 + 16 + 2) 79 (fit_one (codes "task") name 14 16 refl (omega arith) (solid_name name h) (short_name name h)) (omega arith)
act_fits (TaskExit name) h = wider _ (14 + 16 + 2) 79 (fit_one (codes "exit") name 14 16 refl (omega arith) (solid_name name h) (short_name name h)) (omega arith)
act_fits (SetReg task reg value) h = wider _ (14 + 16 + 20 + 18 + 4) 79 (fit_three (codes "reg") task (decimal (reg_number reg)) (hex value) 14 16 20 18 refl (omega arith) (solid_name task h.0) (short_name task h.0) (solid_reg reg) (small_reg reg) (solid_hex value) (hex_fits value)) (omega arith)
act_fits (Load task reg a) h = wider _ (14 + 16 + 20 + 18 + 4) 79 (fit_three (codes "load") task (decimal (reg_number reg)) (hex a) 14 16 20 18 refl (omega arith) (solid_name task h.0) (short_name task h.0) (solid_reg reg) (small_reg reg) (solid_hex a) (hex_fits a)) (omega arith)
act_fits (Store a value) h = wider _ (14 + 18 + 18 + 3) 79 (fit_two (codes "store") (hex a) (hex value) 14 18 18 refl (omega arith) (solid_hex a) (hex_fits a) (solid_hex value) (hex_fits value)) (omega arith)
act_fits (Kmalloc n) h = number_fits (codes "kmalloc") n refl (omega arith) h
act_fits (Kfree a) h = address_fits (codes "kfree") a refl (omega arith)
act_fits (Pages n) h = number_fits (codes "pages") n refl (omega arith) h
act_fits (FreePages a) h = address_fits (codes "freepages") a refl (omega arith)
act_fits (VmTake n) h = number_fits (codes "vmtake") n refl (omega arith) h
act_fits (VmGive a) h = address_fits (codes "vmgive") a refl (omega arith)
act_fits (BootMem n) h = number_fits (codes "bootmem") n refl (omega arith) h
act_fits (FreePart a n) h = wider _ (14 + 18 + 20 + 3) 79 (fit_two (codes "free_part") (hex a) (decimal n) 14 18 20 refl (omega arith) (solid_hex a) (hex_fits a) (solid_decimal n h.1) (digits_fit n h.1)) (omega arith)
act_fits (NotLeak a) h = address_fits (codes "not_leak") a refl (omega arith)
act_fits (Ignore a) h = address_fits (codes "ignore") a refl (omega arith)
act_fits (NoScan a) h = address_fits (codes "no_scan") a refl (omega arith)
act_fits (ScanArea a n) h = wider _ (14 + 18 + 20 + 3) 79 (fit_two (codes "scan_area") (hex a) (decimal n) 14 18 20 refl (omega arith) (solid_hex a) (hex_fits a) (solid_decimal n h.1) (digits_fit n h.1)) (omega arith)
act_fits (TransientLeak a) h = address_fits (codes "transient_leak") a refl (omega arith)
act_fits (File word) h = wider _ (14 + 25 + 2) 79 (fit_one (codes "file") (file_word word) 14 25 refl (omega arith) (solid_file word h) (file_fits word h)) (omega arith)
act_fits Read h = record { solid = (refl, tt); small = omega arith }
act_fits (Tick n) h = number_fits (codes "tick") n refl (omega arith) h
act_fits AutoBegin h = record { solid = (refl, tt); small = omega arith }
act_fits Step h = record { solid = (refl, tt); small = omega arith }
act_fits Halt h = record { solid = (refl, tt); small = omega arith }

-- the number of a refusal is small
small_refusal : (r : Refusal) → refusal_number r ≤ 20
small_refusal BadAddress = omega arith
small_refusal BadSize = omega arith
small_refusal NoRoom = omega arith
small_refusal NoSlot = omega arith
small_refusal NotAllocated = omega arith
small_refusal NoObject = omega arith
small_refusal NotInside = omega arith
small_refusal AreaOverlap = omega arith
small_refusal TooManyAreas = omega arith
small_refusal NoTask = omega arith
small_refusal TaskExists = omega arith
small_refusal TooManyTasks = omega arith
small_refusal NoSection = omega arith
small_refusal SectionExists = omega arith
small_refusal TooManySections = omega arith
small_refusal (Busy _) = omega arith
small_refusal NoScanRunning = omega arith
small_refusal Disabled = omega arith
small_refusal Invalid = omega arith
small_refusal NotBoot = omega arith

refused_alone : (n : ℕ) → n ≤ 20 → Fits (codes "refused" ∷ decimal n ∷ []) 79
refused_alone n h = number_fits (codes "refused") n refl (omega arith) (omega (arith, h))

refusal_fits : (r : Refusal) → CanBeSaid (said.Refused r) → Fits (codes "refused" ∷ refusal_numbers r) 79
refusal_fits (Busy k) h = wider _ (14 + 20 + 20 + 3) 79 (fit_two (codes "refused") (decimal 16) (decimal k) 14 20 20 refl (omega arith) (solid_decimal 16 (omega arith)) (digits_fit 16 (omega arith)) (solid_decimal k h) (digits_fit k h)) (omega arith)
refusal_fits BadAddress h = refused_alone 1 (omega arith)
refusal_fits BadSize h = refused_alone 2 (omega arith)
refusal_fits NoRoom h = refused_alone 3 (omega arith)
refusal_fits NoSlot h = refused_alone 4 (omega arith)
refusal_fits NotAllocated h = refused_alone 5 (omega arith)
refusal_fits NoObject h = refused_alone 6 (omega arith)
refusal_fits NotInside h = refused_alone 7 (omega arith)
refusal_fits AreaOverlap h = refused_alone 8 (omega arith)
refusal_fits TooManyAreas h = refused_alone 9 (omega arith)
refusal_fits NoTask h = refused_alone 10 (omega arith)
refusal_fits TaskExists h = refused_alone 11 (omega arith)
refusal_fits TooManyTasks h = refused_alone 12 (omega arith)
refusal_fits NoSection h = refused_alone 13 (omega arith)
refusal_fits SectionExists h = refused_alone 14 (omega arith)
refusal_fits TooManySections h = refused_alone 15 (omega arith)
refusal_fits NoScanRunning h = refused_alone 17 (omega arith)
refusal_fits Disabled h = refused_alone 18 (omega arith)
refusal_fits Invalid h = refused_alone 19 (omega arith)
refusal_fits NotBoot h = refused_alone 20 (omega arith)

pub said_fits : (s : Said) → CanBeSaid s → Fits (said_words s) 79
said_fits said.Done h = record { solid = (refl, tt); small = omega arith }
said_fits (said.At a) h = address_fits (codes "at") a refl (omega arith)
said_fits (said.Loaded a value) h = wider _ (14 + 18 + 18 + 3) 79 (fit_two (codes "loaded") (hex a) (hex value) 14 18 18 refl (omega arith) (solid_hex a) (hex_fits a) (solid_hex value) (hex_fits value)) (omega arith)
said_fits (said.Ended scan new) h = wider _ (14 + 20 + 20 + 3) 79 (fit_two (codes "ended") (decimal scan) (decimal new) 14 20 20 refl (omega arith) (solid_decimal scan h.0) (digits_fit scan h.0) (solid_decimal new h.1) (digits_fit new h.1)) (omega arith)
said_fits (said.Stopped scan) h = number_fits (codes "stopped") scan refl (omega arith) h
said_fits said.Skipped h = record { solid = (refl, tt); small = omega arith }
said_fits said.Dumped h = record { solid = (refl, tt); small = omega arith }
said_fits (said.Refused r) h = refusal_fits r h

solid_before : (ws vs : List (List ℕ)) → AreSolid ws → AreSolid vs → AreSolid (before_words ws vs)
solid_before [] vs s t = t
solid_before (w ∷ ws) vs s t = (s.0, solid_before ws vs s.1 t)

room_before : (ws vs : List (List ℕ)) → room (before_words ws vs) ≡ room ws + room vs
room_before [] vs = omega arith
room_before (w ∷ ws) vs = let h = room_before ws vs in omega (arith, h)

pub line_fits : (l : JournalLine) → CanStand l → Fits (line_words l) 200
line_fits (line.Head words) h = record { solid = (refl, (refl, (solid_decimal words h, tt))); small = let d = digits_fit words h in omega (arith, d) }
line_fits (line.Event by act said) h =
    let a = act_fits act h.1 in
    let s = said_fits said h.2 in
    let small : by < 2 ^ 64 = let b = h.0 in omega (arith, b) in
    let d = digits_fit by small in
    let r = room_before (act_words act) (codes "=" ∷ said_words said) in
    let p = a.small in
    let q = s.small in
    record {
      solid = (solid_decimal by small, solid_before (act_words act) (codes "=" ∷ said_words said) a.solid (refl, s.solid));
      small = omega (arith, d, r, p, q);
    }
line_fits (line.Listed a) h = wider _ 79 200 (address_fits (codes "listed") a refl (omega arith)) (omega arith)
line_fits (line.End n) h = wider _ 79 200 (number_fits (codes "end") n refl (omega arith) h) (omega arith)
