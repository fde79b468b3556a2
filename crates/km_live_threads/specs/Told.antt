-- Which lines need memory.
use Rattle.std.specs.Prelude.{Bool, true, false}
use Rattle.km_live_model.specs.declared.lines.LiveLine.{LiveLine}
use Rattle.km_live_model.specs.declared.lines.LiveLine.TheVariants.{Blank, Command, Thread, End, InThread, Round}

-- whether a line needs memory: a thread is kept, or a command in it
abbrev pub needs_memory : LiveLine → Bool
needs_memory Blank = false
needs_memory (Command _) = false
needs_memory (Thread _) = false
needs_memory End = true
needs_memory (InThread _) = true
needs_memory (Round _ _ _) = false
