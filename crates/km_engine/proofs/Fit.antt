-- What the lines that are read are fit for: the first is `memory`, and the numbers of the later ones are in their ranges.
use Rattle.std.proofs.Common.{◌≡◌, ℕ, suc, ◌+◌, ◌%◌, ◌≤◌, ◌==◌, Bool, true, false, ◌&&◌, nat_le, nat_lt, List, [], ◌∷◌, length, codes, bytes_eq, position, Option, Some, None, IfSome, Result, Ok, Err, MatchResult, refl, ap, sym, subst, arith, if◌then◌else◌}
use Rattle.std.proofs.lemmas.Bool.Decides.{nat_tests}
use Rattle.std.specs.Bool.{Decides}
use Rattle.std.proofs.lemmas.Slice.Eq.{bytes_eq-Decides}
use Rattle.km_base.specs.Names.{name_of}
use Rattle.km_base.specs.declared.lines.Command.{Command}
use Rattle.km_base.specs.declared.lines.Command.TheVariants as command
use Rattle.km_base.specs.declared.lines.RegName.{RegName}
use Rattle.km_base.specs.declared.lines.Line.{Line}
use Rattle.km_base.specs.declared.lines.Line.TheVariants as line
use Rattle.km_base.specs.declared.lines.NotACommand.{NotACommand as Refused}
use Rattle.km_model.specs.Pieces.{Piece, pieces, pieces_from, put_byte, goes_on, is_blank}
use Rattle.km_model.specs.Grammar.{Rule, Reading, rules, number, within, number_within, multiple_of, memory_size, register_of, operand, file_command, any_word, as_line, at_end, refused_at, then_word, one_word, two_words, may_name_register, allocation, apply_rule, words_read, line_by, line_of, is_comment, is_foreign}
use Rattle.km_model.specs.Held.{same_bool}
use Rattle.km_model.specs.Headline.{IsMemorySize}
use Rattle.km_engine.specs.Steps.{IsFit, IsFitLine}

multiple : (n : ℕ) (c : Bool) → 512 ≤ n → n ≤ 4194304 → (n % 512 == 0) ≡ c → IfSome (if c then Some n else None) IsMemorySize
multiple n true low high e = (low, high, grind (arith, nat_tests))
multiple n false low high e = tt

in_range : (n : ℕ) (a b : Bool) → nat_le 512 n ≡ a → nat_le n 4194304 ≡ b → IfSome (multiple_of 512 (if a && b then Some n else None)) IsMemorySize
in_range n true true e f = multiple n (n % 512 == 0) (grind (arith, nat_tests)) (grind (arith, nat_tests)) refl
in_range n true false e f = tt
in_range n false true e f = tt
in_range n false false e f = tt

-- a word that is read as a number of words
size_is_fit : (o : Option ℕ) → IfSome (multiple_of 512 (within 512 4194304 o)) IsMemorySize
size_is_fit None = tt
size_is_fit (Some n) = in_range n (nat_le 512 n) (nat_le n 4194304) refl refl

-- what is read is fit, for a first command or a later one
abbrev Fits : Bool → Reading → Type 0
Fits first r = MatchResult r (IsFit first) (λ _. Unit {0})

end_fits : (first : Bool) (ps : List Piece) (c : Command) → IsFit first c → Fits first (at_end ps c)
end_fits first [] c h = h
end_fits first (p ∷ ps) c h = tt

word_fits : {A : Type 0} (first : Bool) (read : List ℕ → Option A) (end : ℕ) (ps : List Piece) (rest : A → List Piece → Reading)
    → ((word : List ℕ) (a : A) (qs : List Piece) → read word ≡ Some a → Fits first (rest a qs)) → Fits first (then_word read end ps rest)
word_fits first read end [] rest h = tt
word_fits first read end (p ∷ ps) rest h =
    elim (read p.bytes) as (λ o. read p.bytes ≡ o → Fits first (elim o as (λ _. Reading) [ None ↦ refused_at p.column | Some a ↦ rest a ps ])) [
      | None ↦ λ e. tt
      | Some a ↦ λ e. h p.bytes a ps e
    ] refl

one_fits : {A : Type 0} (first : Bool) (read : List ℕ → Option A) (end : ℕ) (ps : List Piece) (make : A → Command)
    → ((word : List ℕ) (a : A) → read word ≡ Some a → IsFit first (make a)) → Fits first (one_word read end ps make)
one_fits first read end ps make h = word_fits first read end ps (λ a rest. at_end rest (make a)) (λ word a qs e. end_fits first qs (make a) (h word a e))

-- one word of any form
any_fits : {A : Type 0} (read : List ℕ → Option A) (end : ℕ) (ps : List Piece) (make : A → Command)
    → ((a : A) → IsFit false (make a)) → Fits false (one_word read end ps make)
any_fits read end ps make h = one_fits false read end ps make (λ word a e. h a)

two_fit : {A B : Type 0} (read : List ℕ → Option A) (read' : List ℕ → Option B) (end : ℕ) (ps : List Piece) (make : A → B → Command)
    → ((a : A) (b : B) → IsFit false (make a b)) → Fits false (two_words read read' end ps make)
two_fit read read' end ps make h =
    word_fits false read end ps (λ a rest. one_word read' end rest (make a)) (λ word a qs e. any_fits read' end qs (make a) (h a))

register_fits : (ps : List Piece) (make : Option RegName → Command) → ((r : Option RegName) → IsFit false (make r)) → Fits false (may_name_register ps make)
register_fits [] make h = h None
register_fits (p ∷ ps) make h =
    elim (register_of p.bytes) as (λ o. Fits false (elim o as (λ _. Reading) [ None ↦ refused_at p.column | Some r ↦ at_end ps (make (Some r)) ])) [
      | None ↦ tt
      | Some r ↦ end_fits false ps (make (Some r)) (h (Some r))
    ]

allocation_fits : (end : ℕ) (ps : List Piece) (make : ℕ → Option RegName → Command)
    → ((n : ℕ) (r : Option RegName) → IsFit false (make n r)) → Fits false (allocation end ps make)
allocation_fits end ps make h =
    word_fits false number end ps (λ n rest. may_name_register rest (make n)) (λ word n qs e. register_fits qs (make n) (h n))

-- a number in a range
below_at : (low high m n : ℕ) (a b : Bool) → nat_le m high ≡ b → (if a && b then Some m else None) ≡ Some n → n ≤ high
below_at low high m n true true e h = let same : m ≡ n = cc in grind (arith, nat_tests)
below_at low high m n true false e h = absurd (cc)
below_at low high m n false true e h = absurd (cc)
below_at low high m n false false e h = absurd (cc)

below : (low high n : ℕ) (o : Option ℕ) → within low high o ≡ Some n → n ≤ high
below low high n None h = absurd (cc)
below low high n (Some m) h = below_at low high m n (nat_le low m) (nat_le m high) refl h

-- the rules of later commands: each has a word of at least 3 bytes, and reads a fit command
data Later : List Rule → Type 0 where
  none : Later []
  more : {rule : Rule} {rest : List Rule} → nat_le 3 (length rule.keyword) ≡ true → ((end : ℕ) (ps : List Piece) → Fits false (rule.read end ps)) → Later rest
      → Later (rule ∷ rest)

-- the table without its first rule
abbrev later_rules : List Rule → List Rule
later_rules [] = []
later_rules (rule ∷ rest) = rest

later : Later (later_rules rules)
later =
    more refl (λ end ps. two_fit name_of number end ps command.Section (λ a b. (refl, tt)))
    (more refl (λ end ps. any_fits name_of end ps command.Task (λ a. (refl, tt)))
    (more refl (λ end ps. any_fits name_of end ps command.Exit (λ a. (refl, tt)))
    (more refl (λ end ps. two_fit register_of operand end ps command.Set (λ a b. (refl, tt)))
    (more refl (λ end ps. two_fit register_of operand end ps command.Load (λ a b. (refl, tt)))
    (more refl (λ end ps. two_fit operand operand end ps command.Store (λ a b. (refl, tt)))
    (more refl (λ end ps. any_fits operand end ps command.Erase (λ a. (refl, tt)))
    (more refl (λ end ps. any_fits operand end ps command.Print (λ a. (refl, tt)))
    (more refl (λ end ps. allocation_fits end ps command.Kmalloc (λ n r. (refl, tt)))
    (more refl (λ end ps. allocation_fits end ps command.Kzalloc (λ n r. (refl, tt)))
    (more refl (λ end ps. any_fits operand end ps command.Kfree (λ a. (refl, tt)))
    (more refl (λ end ps. allocation_fits end ps command.Pages (λ n r. (refl, tt)))
    (more refl (λ end ps. any_fits operand end ps command.FreePages (λ a. (refl, tt)))
    (more refl (λ end ps. allocation_fits end ps command.Vmalloc (λ n r. (refl, tt)))
    (more refl (λ end ps. any_fits operand end ps command.Vfree (λ a. (refl, tt)))
    (more refl (λ end ps. allocation_fits end ps command.BootMem (λ n r. (refl, tt)))
    (more refl (λ end ps. two_fit operand number end ps command.FreePart (λ a b. (refl, tt)))
    (more refl (λ end ps. any_fits operand end ps command.NotLeak (λ a. (refl, tt)))
    (more refl (λ end ps. any_fits operand end ps command.Ignore (λ a. (refl, tt)))
    (more refl (λ end ps. any_fits operand end ps command.NoScan (λ a. (refl, tt)))
    (more refl (λ end ps. two_fit operand number end ps command.ScanArea (λ a b. (refl, tt)))
    (more refl (λ end ps. any_fits operand end ps command.TransientLeak (λ a. (refl, tt)))
    (more refl (λ end ps. any_fits any_word end ps (λ word. command.Write (file_command word)) (λ a. (refl, tt)))
    (more refl (λ end ps. end_fits false ps command.Read (refl, tt))
    (more refl (λ end ps. one_fits false (number_within 0 3600000) end ps command.Tick (λ word n e. (refl, below 0 3600000 n (number word) e)))
    (more refl (λ end ps. end_fits false ps command.Begin (refl, tt))
    (more refl (λ end ps. one_fits false (number_within 1 1000000) end ps command.Step (λ word n e. (refl, below 1 1000000 n (number word) e)))
    (more refl (λ end ps. end_fits false ps command.Finish (refl, tt))
    none)))))))))))))))))))))))))))

-- a later line of so many bytes is fit, and has at least 3 bytes if it is a command
abbrev IsGoodLine : ℕ → Line → Type 0
IsGoodLine size line.Blank = Unit {0}
IsGoodLine size (line.Command c) = IsFit false c × (3 ≤ size)

abbrev IsGood : ℕ → Result Line Refused → Type 0
IsGood size r = MatchResult r (IsGoodLine size) (λ _. Unit {0})

good_reading : (size : ℕ) (r : Reading) → Fits false r → 3 ≤ size → IsGood size (as_line r)
good_reading size (Ok c) h long = (h, long)
good_reading size (Err e) h long = tt

decided : (b : Bool) (xs ys : List ℕ) → bytes_eq xs ys ≡ b → Decides b (xs ≡ ys)
decided b xs ys e = subst (λ x. Decides x (xs ≡ ys)) e (bytes_eq-Decides xs ys)

applied : (table : List Rule) → Later table → (p : Piece) (end : ℕ) (ps : List Piece) (size : ℕ) → length p.bytes ≤ size → IsGood size (as_line (apply_rule table p end ps))
applied [] none p end ps size short = tt
applied (rule ∷ rest) (more long fits others) p end ps size short =
    elim (bytes_eq rule.keyword p.bytes) as (λ b. bytes_eq rule.keyword p.bytes ≡ b → IsGood size (as_line (elim b as (λ _. Reading) [ true ↦ rule.read end ps | false ↦ apply_rule rest p end ps ]))) [
      | true ↦ λ e.
          let same : rule.keyword ≡ p.bytes = (decided true rule.keyword p.bytes e).0 refl in
          let three : 3 ≤ length rule.keyword = grind (arith, nat_tests) in
          good_reading size (rule.read end ps) (fits end ps) (omega (arith, three, ap length same, short))
      | false ↦ λ e. applied rest others p end ps size short
    ] refl

-- a word that isn't `memory` is none of the first rule
not_first : (b : Bool) (p : Piece) (end : ℕ) (ps : List Piece) (size : ℕ) → bytes_eq p.bytes (codes "memory") ≡ false → bytes_eq (codes "memory") p.bytes ≡ b → length p.bytes ≤ size
    → IsGood size (as_line (elim b as (λ _. Reading) [ true ↦ one_word memory_size end ps command.Memory | false ↦ apply_rule (later_rules rules) p end ps ]))
not_first true p end ps size e f short =
    let bad : false ≡ true = (decided false p.bytes (codes "memory") e).1 (sym ((decided true (codes "memory") p.bytes f).0 refl)) in absurd (cc)
not_first false p end ps size e f short = applied (later_rules rules) later p end ps size short

later_word : (b : Bool) (p : Piece) (end : ℕ) (ps : List Piece) (size : ℕ) → bytes_eq p.bytes (codes "memory") ≡ b → length p.bytes ≤ size
    → IsGood size (if same_bool b false then as_line (apply_rule rules p end ps) else Err (record { column = p.column }))
later_word true p end ps size e short = tt
later_word false p end ps size e short = not_first (bytes_eq (codes "memory") p.bytes) p end ps size e refl short

-- the first word is no longer than the bytes
abbrev FirstWithin : ℕ → List Piece → Type 0
FirstWithin size [] = Unit {0}
FirstWithin size (p ∷ ps) = length p.bytes ≤ size

within_put : (b : Bool) (column c size : ℕ) (ps : List Piece) → FirstWithin size ps → FirstWithin (suc size) (put_byte column c b ps)
within_put true column c size [] h = omega arith
within_put true column c size (p ∷ ps) h = omega (arith, h)
within_put false column c size ps h = omega arith

within_more : (size : ℕ) (ps : List Piece) → FirstWithin size ps → FirstWithin (suc size) ps
within_more size [] h = tt
within_more size (p ∷ ps) h = omega (arith, h)

first_within : (column : ℕ) (cs : List ℕ) → FirstWithin (length cs) (pieces_from column cs)
first_within column [] = tt
first_within column (c ∷ cs) =
    elim (is_blank c) as (λ b. FirstWithin (length (c ∷ cs)) (if b then pieces_from (column + 1) cs else put_byte column c (goes_on cs) (pieces_from (column + 1) cs))) [
      | true ↦ within_more (length cs) (pieces_from (column + 1) cs) (first_within (column + 1) cs)
      | false ↦ within_put (goes_on cs) column c (length cs) (pieces_from (column + 1) cs) (first_within (column + 1) cs)
    ]

later_words : (end : ℕ) (ps : List Piece) (size : ℕ) → FirstWithin size ps → IsGood size (words_read rules false end ps)
later_words end [] size short = tt
later_words end (p ∷ ps) size short = later_word (bytes_eq p.bytes (codes "memory")) p end ps size refl short

-- what the words of a line give, where it is a line at all
line_from : (P : Result Line Refused → Type 0) (first : Bool) (bytes : List ℕ) (ps : List Piece) (long comment : Bool) (foreign : Option ℕ)
    → ((e : Refused) → P (Err e)) → P (Ok line.Blank) → P (words_read rules first (length bytes + 1) (pieces bytes))
    → P (if long then Err (record { column = 257 })
    else (if comment then Ok line.Blank else (elim ps as (λ _. Result Line Refused) [
      | [] ↦ Ok line.Blank
      | _ ∷ _ ↦ elim foreign as (λ _. Result Line Refused) [ Some i ↦ Err (record { column = i + 1 }) | None ↦ words_read rules first (length bytes + 1) (pieces bytes) ]
    ])))
line_from P first bytes ps true comment foreign err blank words = err _
line_from P first bytes ps false true foreign err blank words = blank
line_from P first bytes [] false false foreign err blank words = blank
line_from P first bytes (p ∷ ps) false false None err blank words = words
line_from P first bytes (p ∷ ps) false false (Some i) err blank words = err _

-- a line has what its words give
line_has : (P : Result Line Refused → Type 0) (first : Bool) (bytes : List ℕ)
    → ((e : Refused) → P (Err e)) → P (Ok line.Blank) → P (words_read rules first (length bytes + 1) (pieces bytes)) → P (line_of first bytes)
unfolding line_by
line_has P first bytes err blank words =
    line_from P first bytes (pieces bytes) (nat_lt 256 (length bytes)) (is_comment (pieces bytes)) (position is_foreign bytes) err blank words

later_is_good : (bytes : List ℕ) → IsGood (length bytes) (line_of false bytes)
later_is_good bytes = line_has (IsGood (length bytes)) false bytes (λ e. tt) tt (later_words (length bytes + 1) (pieces bytes) (length bytes) (first_within 1 bytes))

-- the first command's word is `memory`
abbrev IsGoodFirst : Result Line Refused → Type 0
IsGoodFirst r = MatchResult r (IsFitLine true) (λ _. Unit {0})

size_word : (word : List ℕ) (n : ℕ) (o : Option ℕ) → o ≡ Some n → IfSome o IsMemorySize → IsMemorySize n
size_word word n None e h = absurd (cc)
size_word word n (Some m) e h = let same : m ≡ n = cc in subst (λ x. IsMemorySize x) same h

good_first : (r : Reading) → Fits true r → IsGoodFirst (as_line r)
good_first (Ok c) h = h
good_first (Err e) h = tt

memory_is_good : (column end : ℕ) (bytes : List ℕ) (ps : List Piece) → bytes ≡ codes "memory"
    → IsGoodFirst (as_line (apply_rule rules (record { column = column; bytes = bytes }) end ps))
memory_is_good column end bytes ps e =
    subst (λ b. IsGoodFirst (as_line (apply_rule rules (record { column = column; bytes = b }) end ps))) (sym e)
    (good_first (one_word memory_size end ps command.Memory)
    (one_fits true memory_size end ps command.Memory (λ word n read. size_word word n (memory_size word) read (size_is_fit (number word)))))

first_word : (b : Bool) (column end : ℕ) (bytes : List ℕ) (ps : List Piece) → bytes_eq bytes (codes "memory") ≡ b
    → IsGoodFirst (if same_bool b true then as_line (apply_rule rules (record { column = column; bytes = bytes }) end ps) else Err (record { column = column }))
first_word true column end bytes ps e = memory_is_good column end bytes ps ((decided true bytes (codes "memory") e).0 refl)
first_word false column end bytes ps e = tt

first_words : (end : ℕ) (ps : List Piece) → IsGoodFirst (words_read rules true end ps)
first_words end [] = tt
first_words end (p ∷ ps) = first_word (bytes_eq p.bytes (codes "memory")) p.column end p.bytes ps refl

first_is_good : (bytes : List ℕ) → IsGoodFirst (line_of true bytes)
first_is_good bytes = line_has IsGoodFirst true bytes (λ e. tt) tt (first_words (length bytes + 1) (pieces bytes))

fit_later : (l : Line) (size : ℕ) → IsGoodLine size l → IsFitLine false l
fit_later line.Blank size h = tt
fit_later (line.Command c) size h = h.0

-- a line that is read is fit
pub read_is_fit : (first : Bool) (bytes : List ℕ) (l : Line) → line_of first bytes ≡ Ok l → IsFitLine first l
read_is_fit true bytes l e = subst (λ r. IsGoodFirst r) e (first_is_good bytes)
read_is_fit false bytes l e = fit_later l (length bytes) (subst (λ r. IsGood (length bytes) r) e (later_is_good bytes))

-- a later command has at least 3 bytes
pub later_is_long : (bytes : List ℕ) (c : Command) → line_of false bytes ≡ Ok (line.Command c) → 3 ≤ length bytes
later_is_long bytes c e = (subst (λ r. IsGood (length bytes) r) e (later_is_good bytes)).1
