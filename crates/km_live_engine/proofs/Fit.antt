-- What the lines of a live script that are read are fit for.
use Rattle.std.proofs.Common.{◌≡◌, ℕ, ◌+◌, ◌≤◌, Bool, true, false, ◌&&◌, nat_le, nat_lt, List, [], ◌∷◌, length, codes, bytes_eq, find, position, Option, Some, None, Result, Ok, Err, refl, ap, sym, subst, arith, if◌then◌else◌}
use Rattle.std.proofs.lemmas.Bool.Decides.{nat_tests}
use Rattle.std.specs.Bool.{Decides}
use Rattle.std.proofs.lemmas.Slice.Eq.{bytes_eq-Decides}
use Rattle.km_base.specs.Names.{name_of}
use Rattle.km_base.specs.declared.lines.Command.{Command}
use Rattle.km_base.specs.declared.lines.Line.{Line}
use Rattle.km_base.specs.declared.lines.Line.TheVariants as line
use Rattle.km_base.specs.declared.lines.NotACommand.{NotACommand as Refused}
use Rattle.km_model.specs.Held.{same_bool}
use Rattle.km_model.specs.Pieces.{Piece, pieces}
use Rattle.km_model.specs.Grammar.{Reading, apply_rule, as_line, is_comment, is_foreign, line_by, line_of, number, number_within, rules, within, words_read}
use Rattle.km_live_model.specs.declared.lines.LiveLine.{LiveLine}
use Rattle.km_live_model.specs.declared.lines.LiveLine.TheVariants as live
use Rattle.km_live_model.specs.LiveGrammar.{LiveReading, as_command, as_job, inside, job_of, job_rules, live_line_of, names_other, none_at, only, outside, round_line, then_reads, thread_line, unless_before, words_of_line}
use Rattle.km_live_model.specs.Threads.{Threads, is_too_many, first_column, line_at, open_name, unless_too_many}
use Rattle.km_engine.proofs.Fit.{read_is_fit as command_is_fit}
use Rattle.km_live_engine.specs.Steps.{IsFewInRound, IsFitLine}

-- what the reading of a first or a later line says, beside how a script without threads reads it
abbrev IsReadAs : Bool → Result Line Refused → LiveLine → Type 0
IsReadAs first r live.Blank = Unit {0}
IsReadAs first r (live.Command c) = r ≡ Ok (line.Command c)
IsReadAs first r (live.Round scans gap entries) = (first ≡ false) × IsFewInRound scans gap entries
IsReadAs first r (live.Thread _) = first ≡ false
IsReadAs first r live.End = first ≡ false
IsReadAs first r (live.InThread _) = first ≡ false

abbrev IsRead : Bool → Result Line Refused → LiveReading → Type 0
IsRead first r (Err e) = Unit {0}
IsRead first r (Ok l) = IsReadAs first r l

-- numbers in a range
bounds_at : (low high m n : ℕ) (a b : Bool) → nat_le low m ≡ a → nat_le m high ≡ b → (if a && b then Some m else None) ≡ Some n → (low ≤ n) × (n ≤ high)
bounds_at low high m n true true e f h =
    let same : m ≡ n = cc in
    let least : low ≤ n = grind (arith, nat_tests) in
    let most : n ≤ high = grind (arith, nat_tests) in
    (least, most)
bounds_at low high m n true false e f h = absurd (let z : ⊥ = cc in z)
bounds_at low high m n false true e f h = absurd (let z : ⊥ = cc in z)
bounds_at low high m n false false e f h = absurd (let z : ⊥ = cc in z)

bounds : (low high n : ℕ) (o : Option ℕ) → within low high o ≡ Some n → (low ≤ n) × (n ≤ high)
bounds low high n None h = absurd (let z : ⊥ = cc in z)
bounds low high n (Some m) h = bounds_at low high m n (nat_le low m) (nat_le m high) refl refl h

module _ (first : Bool) (r : Result Line Refused) where
  then_is_read : {A : Type 0} (read : List ℕ → Option A) (end : ℕ) (ps : List Piece) (rest : A → List Piece → LiveReading)
      → ((word : List ℕ) (a : A) (qs : List Piece) → read word ≡ Some a → IsRead first r (rest a qs)) → IsRead first r (then_reads read end ps rest)
  then_is_read read end [] rest h = tt
  then_is_read read end (p ∷ ps) rest h =
      elim (read p.bytes) as (λ o. read p.bytes ≡ o → IsRead first r (elim o as (λ _. LiveReading) [ None ↦ none_at p.column | Some a ↦ rest a ps ])) [
        | None ↦ λ e. tt
        | Some a ↦ λ e. h p.bytes a ps e
      ] refl

  only_is_read : (ps : List Piece) (l : LiveLine) → IsReadAs first r l → IsRead first r (only ps l)
  only_is_read [] l h = h
  only_is_read (p ∷ ps) l h = tt

  thread_is_read : (end : ℕ) (ps : List Piece) → first ≡ false → IsRead first r (thread_line end ps)
  thread_is_read end ps later = then_is_read name_of end ps (λ name rest. only rest (live.Thread name)) (λ word name qs e. only_is_read qs (live.Thread name) later)

  round_is_read : (end : ℕ) (ps : List Piece) → first ≡ false → IsRead first r (round_line end ps)
  round_is_read end ps later =
      then_is_read (number_within 1 100) end ps _ (λ w scans more a.
      then_is_read (number_within 0 3600000) end more _ (λ x gap rest b.
      then_is_read (number_within 1 4194304) end rest _ (λ y entries last c.
      only_is_read last (live.Round scans gap entries)
      (later, ((bounds 1 100 scans (number w) a).1, (bounds 0 3600000 gap (number x) b).1, (bounds 1 4194304 entries (number y) c).0, (bounds 1 4194304 entries (number y) c).1)))))

  before_is_read : (o : Option Piece) (x : LiveReading) → IsRead first r x → IsRead first r (unless_before o x)
  before_is_read None x h = h
  before_is_read (Some p) (Ok l) h = tt
  before_is_read (Some p) (Err e) h = by_test (nat_lt p.column e.column)
    where
      by_test : (b : Bool) → IsRead first r (if b then none_at p.column else Err e)
      by_test true = tt
      by_test false = tt

  job_is_read : (column : ℕ) (x : Reading) → first ≡ false → IsRead first r (as_job column x)
  job_is_read column (Err e) later = tt
  job_is_read column (Ok c) later =
      elim (job_of c) as (λ o. IsRead first r (elim o as (λ _. LiveReading) [ None ↦ none_at column | Some j ↦ Ok (live.InThread j) ])) [ None ↦ tt | Some j ↦ later ]

  inside_is_read : (own : List ℕ) (p : Piece) (end : ℕ) (ps : List Piece) → first ≡ false → IsRead first r (inside own p end ps)
  inside_is_read own p end ps later = by_test (bytes_eq p.bytes (codes "end"))
    where
      by_test : (b : Bool) → IsRead first r (if b then only ps live.End else unless_before (find (names_other own) ps) (as_job p.column (apply_rule job_rules p end ps)))
      by_test true = only_is_read ps live.End later
      by_test false = before_is_read (find (names_other own) ps) _ (job_is_read p.column (apply_rule job_rules p end ps) later)

-- a command is read as in a script without threads
command_is_read : (first : Bool) (x : Reading) → IsRead first (as_line x) (as_command x)
command_is_read first (Ok c) = refl
command_is_read first (Err e) = tt

outside_is_read : (p : Piece) (end : ℕ) (ps : List Piece) → IsRead false (as_line (apply_rule rules p end ps)) (outside p end ps)
outside_is_read p end ps = by_test (bytes_eq p.bytes (codes "thread")) (bytes_eq p.bytes (codes "round"))
  where
    by_test : (a b : Bool) → IsRead false (as_line (apply_rule rules p end ps)) (if a then thread_line end ps else (if b then round_line end ps else as_command (apply_rule rules p end ps)))
    by_test true b = thread_is_read false _ end ps refl
    by_test false true = round_is_read false _ end ps refl
    by_test false false = command_is_read false (apply_rule rules p end ps)

-- the words of a line whose first is `memory`
abbrev named : ℕ → List ℕ → Piece
named column bytes = record { column = column; bytes = bytes }

abbrev ReadsMemory : ℕ → ℕ → List Piece → Option (List ℕ) → List ℕ → Type 0
ReadsMemory column end ps thread bytes =
    IsRead true (as_line (apply_rule rules (named column bytes) end ps))
    (elim thread as (λ _. LiveReading) [ None ↦ outside (named column bytes) end ps | Some own ↦ inside own (named column bytes) end ps ])

memory_in : (column end : ℕ) (ps : List Piece) (thread : Option (List ℕ)) → ReadsMemory column end ps thread (codes "memory")
memory_in column end ps None = command_is_read true (apply_rule rules (named column (codes "memory")) end ps)
memory_in column end ps (Some own) = before_is_read true _ (find (names_other own) ps) _ tt

decided : (b : Bool) (xs ys : List ℕ) → bytes_eq xs ys ≡ b → Decides b (xs ≡ ys)
decided b xs ys e = subst (λ x. Decides x (xs ≡ ys)) e (bytes_eq-Decides xs ys)

word_is_read : (b first : Bool) (thread : Option (List ℕ)) (column end : ℕ) (bytes : List ℕ) (ps : List Piece) → bytes_eq bytes (codes "memory") ≡ b
    → IsRead first (if same_bool b first then as_line (apply_rule rules (named column bytes) end ps) else Err (record { column = column }))
    (if same_bool b first then (elim thread as (λ _. LiveReading) [ None ↦ outside (named column bytes) end ps | Some own ↦ inside own (named column bytes) end ps ]) else none_at column)
word_is_read true true thread column end bytes ps e =
    subst (ReadsMemory column end ps thread) (sym ((decided true bytes (codes "memory") e).0 refl)) (memory_in column end ps thread)
word_is_read true false thread column end bytes ps e = tt
word_is_read false true thread column end bytes ps e = tt
word_is_read false false None column end bytes ps e = outside_is_read (named column bytes) end ps
word_is_read false false (Some own) column end bytes ps e = inside_is_read false _ own (named column bytes) end ps refl

words_are_read : (first : Bool) (thread : Option (List ℕ)) (end : ℕ) (ps : List Piece) → IsRead first (words_read rules first end ps) (words_of_line first thread end ps)
words_are_read first thread end [] = tt
words_are_read first thread end (p ∷ ps) = word_is_read (bytes_eq p.bytes (codes "memory")) first thread p.column end p.bytes ps refl

-- both readings begin with the same tests
line_from : (first : Bool) (thread : Option (List ℕ)) (bytes : List ℕ) (ps : List Piece) (long comment : Bool) (foreign : Option ℕ)
    → IsRead first (words_read rules first (length bytes + 1) (pieces bytes)) (words_of_line first thread (length bytes + 1) (pieces bytes))
    → IsRead first
    (if long then Err (record { column = 257 })
    else (if comment then Ok line.Blank else (elim ps as (λ _. Result Line Refused) [
      | [] ↦ Ok line.Blank
      | _ ∷ _ ↦ elim foreign as (λ _. Result Line Refused) [ Some i ↦ Err (record { column = i + 1 }) | None ↦ words_read rules first (length bytes + 1) (pieces bytes) ]
    ])))
    (if long then none_at 257
    else (if comment then Ok live.Blank else (elim ps as (λ _. LiveReading) [
      | [] ↦ Ok live.Blank
      | _ ∷ _ ↦ elim foreign as (λ _. LiveReading) [ Some i ↦ none_at (i + 1) | None ↦ words_of_line first thread (length bytes + 1) (pieces bytes) ]
    ])))
line_from first thread bytes ps true comment foreign words = tt
line_from first thread bytes ps false true foreign words = tt
line_from first thread bytes [] false false foreign words = tt
line_from first thread bytes (p ∷ ps) false false None words = words
line_from first thread bytes (p ∷ ps) false false (Some i) words = tt

line_is_read : (first : Bool) (thread : Option (List ℕ)) (bytes : List ℕ) → IsRead first (line_of first bytes) (live_line_of first thread bytes)
unfolding line_by live_line_of
line_is_read first thread bytes =
    line_from first thread bytes (pieces bytes) (nat_lt 256 (length bytes)) (is_comment (pieces bytes)) (position is_foreign bytes)
    (words_are_read first thread (length bytes + 1) (pieces bytes))

-- a line that is read where it stands is allowed by itself, and isn't one too many
pub allowed : (first : Bool) (t : Threads) (bytes : List ℕ) (l : LiveLine) → line_at first t bytes ≡ Ok l
    → (live_line_of first (open_name t) bytes ≡ Ok l) × (is_too_many t l ≡ false)
allowed first t bytes l e = by_reading (live_line_of first (open_name t) bytes) e
  where
    by_test : (b : Bool) (x : LiveLine) → is_too_many t x ≡ b → (if b then none_at (first_column (pieces bytes)) else Ok x) ≡ Ok l → (x ≡ l) × (is_too_many t l ≡ false)
    by_test true x f e = absurd (let z : ⊥ = cc in z)
    by_test false x f e = let same : x ≡ l = cc in (same, subst (λ y. is_too_many t y ≡ false) same f)

    by_reading : (x : LiveReading) → unless_too_many t (pieces bytes) x ≡ Ok l → (x ≡ Ok l) × (is_too_many t l ≡ false)
    by_reading (Err r) e = absurd (let z : ⊥ = cc in z)
    by_reading (Ok x) e = let both = by_test (is_too_many t x) x refl e in (ap Ok both.0, both.1)

read_as : (first : Bool) (t : Threads) (bytes : List ℕ) (l : LiveLine) → line_at first t bytes ≡ Ok l → IsReadAs first (line_of first bytes) l
read_as first t bytes l e =
    subst (IsRead first (line_of first bytes)) (allowed first t bytes l e).0 (line_is_read first (open_name t) bytes)

-- a command is one of a script without threads
pub command_is_line : (first : Bool) (t : Threads) (bytes : List ℕ) (c : Command) → line_at first t bytes ≡ Ok (live.Command c) → line_of first bytes ≡ Ok (line.Command c)
command_is_line first t bytes c e = read_as first t bytes (live.Command c) e

-- a line that is read is fit
pub read_is_fit : (first : Bool) (t : Threads) (bytes : List ℕ) (l : LiveLine) → line_at first t bytes ≡ Ok l → IsFitLine first l
read_is_fit first t bytes live.Blank e = tt
read_is_fit first t bytes (live.Command c) e = command_is_fit first bytes (line.Command c) (command_is_line first t bytes c e)
read_is_fit first t bytes (live.Round scans gap entries) e = read_as first t bytes (live.Round scans gap entries) e
read_is_fit first t bytes (live.Thread name) e = read_as first t bytes (live.Thread name) e
read_is_fit first t bytes live.End e = read_as first t bytes live.End e
read_is_fit first t bytes (live.InThread j) e = read_as first t bytes (live.InThread j) e
