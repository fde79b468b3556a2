use Rattle.std.proofs.Common.{◌++◌, codes, option_map, ap, sym, ◌∙◌}
use Rattle.km_model.specs.Grammar.{file_command}
use Rattle.km_base.specs.Prefix.{bytes_of}
use Rattle.km_base.proofs.Prefix.{from_prefix}
use Rattle.km_script.proofs.file.scan.Goals as goal

pub returns : goal.returns
returns c =
    c.behind_scan.ensures
    ∙ ap (λ cs. file_command (codes "sc" ++ cs)) (sym (from_prefix (codes "an") c.args.rest.now c.in_ok-end.end.now (sym c.behind.ensures ∙ ap (option_map bytes_of) c.in_ok-end.was)))
