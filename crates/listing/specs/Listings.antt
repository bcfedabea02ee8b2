-- What the listing of a table promises. Assumes nothing.
use Rattle.std.specs.Prelude.{◌≡◌, ℕ, List, ◌++◌, map, length, Err, Result, ◌≢◌}
use Rattle.std.specs.List.{AllByRecursion}
use Rattle.format.specs.declared.command.PatternCommand.{PatternCommand}
use Rattle.format.specs.declared.entry.Entry.{Entry}
use Rattle.format.specs.declared.fault.PatternFault.{PatternFault}
use Rattle.format.specs.Commands.{PatternOperands}
use Rattle.format.specs.Entries.{entry_of}
use Rattle.pattern.specs.Expressions.{spell}
use Rattle.listing.specs.declared.fault.Fault.{Fault}
use Rattle.listing.specs.declared.fault.Fault.TheVariants.{Pattern, NoMemory}
use Rattle.listing.specs.Text.{command_lines}

-- The fault is that of what was judged, unless memory was wanting.
abbrev pub Fails : Fault → Result (List PatternCommand) PatternFault → Type 0
Fails (Pattern fault) judged = judged ≡ Err fault
Fails NoMemory judged = Unit {0}

-- The lines of the entries' commands were added to a text, and they spell `bytes` bytes.
pub record Lines (entries : List Entry) (before after : List ℕ) (bytes : ℕ) : Type 0 where
  pub commands : List PatternCommand
  pub stand_for : entries ≡ map entry_of commands
  pub spelled : bytes ≡ length (spell commands)
  pub added : after ≡ before ++ command_lines 0 commands

-- Memory was wanting, or some entry is that of no command.
abbrev pub NoLines : Fault → List Entry → Type 0
NoLines (Pattern fault) entries = (cs : List PatternCommand) → AllByRecursion PatternOperands cs → entries ≢ map entry_of cs
NoLines NoMemory entries = Unit {0}
