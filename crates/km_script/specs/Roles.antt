use Rattle.std.specs.Prelude.{ℕ, List, Option, Some, option_map, bytes_eq, codes, if◌then◌else◌}
use Rattle.km_base.specs.declared.lines.Base.{Base}
use Rattle.km_base.specs.declared.lines.Base.TheVariants as base
use Rattle.km_model.specs.Grammar.{register_suffix}
use Rattle.km_script.specs.declared.operands.Role.{Role}
use Rattle.km_script.specs.declared.operands.Role.TheVariants as role

-- what a task's name stands for before `.` and this
abbrev pub suffix_role : List ℕ → Option Role
suffix_role suffix = if bytes_eq suffix (codes "stack") then Some role.Stack else option_map role.Reg (register_suffix suffix)

-- the base that a name is
abbrev pub base_in : Role → List ℕ → Base
base_in role.Section name = base.Section name
base_in role.Stack name = base.Stack name
base_in (role.Reg reg) name = base.Reg name reg
