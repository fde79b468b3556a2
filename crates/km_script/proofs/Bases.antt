use Rattle.std.proofs.Common.{◌≡◌, ℕ, zero, suc, ◌+◌, ◌≤◌, Bool, true, false, cond, ◌==◌, List, [], ◌∷◌, take, position, Option, Some, None, option_map, refl, ap, sym, ◌∙◌, arith, bytes_eq, codes, if◌then◌else◌}
use Rattle.std.specs.List.{position_from}
use Rattle.std.proofs.lemmas.Bool.{lt-ltb, le-ltb}
use Rattle.std.proofs.lemmas.Iterator.Adapters.{position_from-zero}
use Rattle.km_base.specs.Names.{is_letter, name_of}
use Rattle.km_base.specs.Numbers.{decimal_digit}
use Rattle.km_base.specs.declared.acts.Reg.{Reg}
use Rattle.km_base.specs.declared.lines.Base.{Base}
use Rattle.km_base.specs.declared.lines.Base.TheVariants as base
use Rattle.km_base.specs.declared.lines.Operand.{Operand}
use Rattle.km_base.specs.declared.lines.RegName.{RegName}
use Rattle.km_model.specs.Grammar.{base_of, number, operand, reg_name, register_base, register_of, register_suffix, with_plus}
use Rattle.km_model.specs.Pieces.{behind_first, up_to}
use Rattle.km_script.specs.Bytes.{is_digit}
use Rattle.km_script.specs.Marks.{if_below}
use Rattle.km_script.specs.Roles.{base_in, suffix_role}
use Rattle.km_script.specs.declared.operands.Role.{Role}
use Rattle.km_script.specs.declared.operands.Role.TheVariants as role

-- a number begins with a digit
no_digit : (c : ℕ) → is_digit c ≡ false → (decimal_digit c ≡ None) × ((c == 48) ≡ false)
no_digit c e = grind arith

pub no_number : (c : ℕ) (cs : List ℕ) → is_digit c ≡ false → number (c ∷ cs) ≡ None
no_number c [] e = rw ((no_digit c e).0) refl
no_number c (d ∷ ds) e = rw ((no_digit c e).1, (no_digit c e).0) refl

-- a name begins with a letter
pub no_name : (c : ℕ) (cs : List ℕ) → is_letter c ≡ false → name_of (c ∷ cs) ≡ None
no_name c cs e = rw e refl

dot_is : (c : ℕ) → (c == 46) ≡ true → (is_letter c ≡ false) × (is_digit c ≡ false)
dot_is c e = grind arith

plus_is : (c : ℕ) → (c == 43) ≡ true → (is_letter c ≡ false) × (is_digit c ≡ false)
plus_is c e = grind arith

-- a register, by the first byte of its task
abbrev register_behind : ℕ → List ℕ → Option (List ℕ) → Option RegName
register_behind c cs o = elim o [ None ↦ None | Some suffix ↦ reg_name (name_of (c ∷ up_to 46 cs)) (register_suffix suffix) ]

no_register : (c : ℕ) (cs : List ℕ) (o : Option (List ℕ)) → is_letter c ≡ false → register_behind c cs o ≡ None
no_register c cs None e = refl
no_register c cs (Some suffix) e = rw e refl

-- the same, by whether that byte is the first `.`
abbrev register_at : Bool → ℕ → List ℕ → Option RegName
register_at b c cs = elim (if b then Some cs else behind_first 46 cs) [
  | None ↦ None
  | Some suffix ↦ reg_name (name_of (if b then [] else c ∷ up_to 46 cs)) (register_suffix suffix)
]

register_by : (b : Bool) (c : ℕ) (cs : List ℕ) → (b ≡ true → is_letter c ≡ false) → register_at b c cs ≡ register_behind c cs (behind_first 46 cs)
register_by true c cs l = sym (no_register c cs (behind_first 46 cs) (l refl))
register_by false c cs l = refl

pub register_is : (c : ℕ) (cs : List ℕ) → register_of (c ∷ cs) ≡ register_behind c cs (behind_first 46 cs)
register_is c cs = register_by (c == 46) c cs (λ e. (dot_is c e).0)

-- a base with a name, by what its name stands for
abbrev pub base_with : Option Role → Option (List ℕ) → Option Base
base_with None name = None
base_with (Some role) name = option_map (base_in role) name

stack_is : (name : Option (List ℕ)) → option_map base.Stack name ≡ base_with (Some role.Stack) name
stack_is None = refl
stack_is (Some name) = refl

section_is : (name : Option (List ℕ)) → option_map base.Section name ≡ base_with (Some role.Section) name
section_is None = refl
section_is (Some name) = refl

reg_is : (name : Option (List ℕ)) (reg : Option Reg) → option_map register_base (reg_name name reg) ≡ base_with (option_map role.Reg reg) name
reg_is None None = refl
reg_is None (Some reg) = refl
reg_is (Some name) None = refl
reg_is (Some name) (Some reg) = refl

no_base_with : (r : Option Role) → base_with r None ≡ None
no_base_with None = refl
no_base_with (Some r) = refl

-- a base with a name, by the first byte of its name
abbrev pub named : ℕ → List ℕ → Option (List ℕ) → Option Base
named c cs o = elim o [
  | None ↦ base_with (Some role.Section) (name_of (c ∷ cs))
  | Some suffix ↦ base_with (suffix_role suffix) (name_of (c ∷ up_to 46 cs))
]

no_named : (c : ℕ) (cs : List ℕ) (o : Option (List ℕ)) → is_letter c ≡ false → named c cs o ≡ None
no_named c cs None e = ap (base_with (Some role.Section)) (no_name c cs e)
no_named c cs (Some suffix) e = ap (base_with (suffix_role suffix)) (no_name c (up_to 46 cs) e) ∙ no_base_with (suffix_role suffix)

by_role : (front suffix : List ℕ)
    → (if bytes_eq suffix (codes "stack") then option_map base.Stack (name_of front) else option_map register_base (reg_name (name_of front) (register_suffix suffix))) ≡ base_with (suffix_role suffix) (name_of front)
by_role front suffix =
    elim (bytes_eq suffix (codes "stack")) as (λ b. (if b then option_map base.Stack (name_of front) else option_map register_base (reg_name (name_of front) (register_suffix suffix))) ≡ base_with (if b then Some role.Stack else option_map role.Reg (register_suffix suffix)) (name_of front)) [
      | true ↦ stack_is (name_of front)
      | false ↦ reg_is (name_of front) (register_suffix suffix)
    ]

-- the base of a name, by what stands behind its first `.`
abbrev base_behind : ℕ → List ℕ → Option RegName → Option (List ℕ) → Option Base
base_behind c cs reg o = elim o [
  | None ↦ option_map base.Section (name_of (c ∷ cs))
  | Some suffix ↦ if bytes_eq suffix (codes "stack") then option_map base.Stack (name_of (c ∷ up_to 46 cs)) else option_map register_base reg
]

base_by_suffix : (c : ℕ) (cs : List ℕ) (o : Option (List ℕ)) → base_behind c cs (register_behind c cs o) o ≡ named c cs o
base_by_suffix c cs None = section_is (name_of (c ∷ cs))
base_by_suffix c cs (Some suffix) = by_role (c ∷ up_to 46 cs) suffix

no_stack : (b : Bool) (cs : List ℕ) (reg : Option RegName) → reg ≡ None → (if b then option_map base.Stack (name_of []) else option_map register_base reg) ≡ None
no_stack true cs reg e = refl
no_stack false cs reg e = ap (option_map register_base) e

-- the same, by whether the first byte is the first `.`
abbrev base_at : Bool → ℕ → List ℕ → Option RegName → Option Base
base_at b c cs reg = elim (if b then Some cs else behind_first 46 cs) [
  | None ↦ option_map base.Section (name_of (c ∷ cs))
  | Some suffix ↦
      if bytes_eq suffix (codes "stack")
      then option_map base.Stack (name_of (if b then [] else c ∷ up_to 46 cs))
      else option_map register_base reg
]

base_by : (b : Bool) (c : ℕ) (cs : List ℕ) (reg : Option RegName) → (b ≡ true → is_letter c ≡ false) → reg ≡ register_behind c cs (behind_first 46 cs)
    → base_at b c cs reg ≡ named c cs (behind_first 46 cs)
base_by true c cs reg l r =
    no_stack (bytes_eq cs (codes "stack")) cs reg (r ∙ no_register c cs (behind_first 46 cs) (l refl))
    ∙ sym (no_named c cs (behind_first 46 cs) (l refl))
base_by false c cs reg l r = ap (base_at false c cs) r ∙ base_by_suffix c cs (behind_first 46 cs)

pub base_is : (c : ℕ) (cs : List ℕ) → is_digit c ≡ false → base_of (c ∷ cs) ≡ named c cs (behind_first 46 cs)
base_is c cs n =
    ap (λ o. elim o [ Some n ↦ Some (base.Number n) | None ↦ base_at (c == 46) c cs (register_of (c ∷ cs)) ]) (no_number c cs n)
    ∙ base_by (c == 46) c cs (register_of (c ∷ cs)) (λ e. (dot_is c e).0) (register_is c cs)

no_base : (c : ℕ) (cs : List ℕ) → is_digit c ≡ false → is_letter c ≡ false → base_of (c ∷ cs) ≡ None
no_base c cs n l = base_is c cs n ∙ no_named c cs (behind_first 46 cs) l

-- an operand, by its first byte
abbrev pub operand_behind : ℕ → List ℕ → Option (List ℕ) → Option Operand
operand_behind c cs o = elim o [
  | None ↦ with_plus (base_of (c ∷ cs)) (Some 0)
  | Some digits ↦ with_plus (base_of (c ∷ up_to 43 cs)) (number digits)
]

no_operand : (c : ℕ) (cs : List ℕ) (o : Option (List ℕ)) → is_digit c ≡ false → is_letter c ≡ false → operand_behind c cs o ≡ None
no_operand c cs None n l = ap (λ b. with_plus b (Some 0)) (no_base c cs n l)
no_operand c cs (Some digits) n l = ap (λ b. with_plus b (number digits)) (no_base c (up_to 43 cs) n l)

abbrev operand_at : Bool → ℕ → List ℕ → Option Operand
operand_at b c cs = elim (if b then Some cs else behind_first 43 cs) [
  | None ↦ with_plus (base_of (c ∷ cs)) (Some 0)
  | Some digits ↦ with_plus (base_of (if b then [] else c ∷ up_to 43 cs)) (number digits)
]

operand_by : (b : Bool) (c : ℕ) (cs : List ℕ) → (b ≡ true → (is_letter c ≡ false) × (is_digit c ≡ false)) → operand_at b c cs ≡ operand_behind c cs (behind_first 43 cs)
operand_by true c cs h = sym (no_operand c cs (behind_first 43 cs) ((h refl).1) ((h refl).0))
operand_by false c cs h = refl

operand_is : (c : ℕ) (cs : List ℕ) → operand (c ∷ cs) ≡ operand_behind c cs (behind_first 43 cs)
operand_is c cs = operand_by (c == 43) c cs (plus_is c)

-- an operand whose base has a name, by what stands before and behind its first `.`
pub named_in : (c plus : ℕ) (cs task suffix : List ℕ) (role : Option Role) → is_digit c ≡ false → (up_to 46 cs ≡ task) × (behind_first 46 cs ≡ Some suffix)
    → role ≡ suffix_role suffix → with_plus (base_with role (name_of (c ∷ task))) (Some plus) ≡ with_plus (base_of (c ∷ cs)) (Some plus)
named_in c plus cs task suffix role n cut r =
    ap (λ b. with_plus b (Some plus)) (
    ap (λ o. base_with o (name_of (c ∷ task))) r
    ∙ ap (λ ds. base_with (suffix_role suffix) (name_of (c ∷ ds))) (sym cut.0)
    ∙ ap (named c cs) (sym cut.1)
    ∙ sym (base_is c cs n))

pub named_whole : (c plus : ℕ) (cs : List ℕ) → is_digit c ≡ false → behind_first 46 cs ≡ None
    → with_plus (base_with (Some role.Section) (name_of (c ∷ cs))) (Some plus) ≡ with_plus (base_of (c ∷ cs)) (Some plus)
named_whole c plus cs n none = ap (λ b. with_plus b (Some plus)) (ap (named c cs) (sym none) ∙ sym (base_is c cs n))

-- an operand, by what stands before and behind its first `+`
pub operand_in : (c : ℕ) (cs front digits : List ℕ) (plus : Option ℕ) → (up_to 43 cs ≡ front) × (behind_first 43 cs ≡ Some digits)
    → plus ≡ number digits → with_plus (base_of (c ∷ front)) plus ≡ operand (c ∷ cs)
operand_in c cs front digits plus cut n =
    ap (with_plus (base_of (c ∷ front))) n
    ∙ ap (λ ds. with_plus (base_of (c ∷ ds)) (number digits)) (sym cut.0)
    ∙ ap (operand_behind c cs) (sym cut.1)
    ∙ sym (operand_is c cs)

pub no_plus : (b : Option Base) → with_plus b None ≡ None
no_plus None = refl
no_plus (Some b) = refl

not_below : (p : ℕ → Bool) (i end : ℕ) (xs : List ℕ) → end ≤ i → if_below end (position_from p i xs) ≡ None
not_below p i end [] h = refl
not_below p i end (x ∷ xs) h =
    elim (p x) as (λ b. if_below end (cond b (Some i) (position_from p (i + 1) xs)) ≡ None) [
      | true ↦ rw (le-ltb i end h) refl
      | false ↦ not_below p (i + 1) end xs (omega (arith, h))
    ]

in_front : (p : ℕ → Bool) (i n : ℕ) (xs : List ℕ) → position_from p i (take n xs) ≡ if_below (i + n) (position_from p i xs)
in_front p i zero xs = sym (not_below p i (i + 0) xs (omega arith))
in_front p i (suc n) [] = refl
in_front p i (suc n) (x ∷ xs) =
    elim (p x) as (λ b. cond b (Some i) (position_from p (i + 1) (take n xs)) ≡ if_below (i + suc n) (cond b (Some i) (position_from p (i + 1) xs))) [
      | true ↦ rw (lt-ltb i (i + suc n) (omega arith)) refl
      | false ↦ in_front p (i + 1) n xs ∙ ap (λ e. if_below e (position_from p (i + 1) xs)) (let e : i + 1 + n ≡ i + suc n = omega arith in e)
    ]

-- the first place in the front of bytes
pub place_in_front : (p : ℕ → Bool) (n : ℕ) (bytes front : List ℕ) (place : Option ℕ) → front ≡ take n bytes → place ≡ position p bytes → if_below n place ≡ position p front
place_in_front p n bytes front place f e =
    ap (if_below n) (e ∙ position_from-zero p bytes)
    ∙ ap (λ k. if_below k (position_from p 0 bytes)) (let k : n ≡ 0 + n = omega arith in k)
    ∙ sym (in_front p 0 n bytes)
    ∙ ap (position_from p 0) (sym f)
    ∙ sym (position_from-zero p front)
