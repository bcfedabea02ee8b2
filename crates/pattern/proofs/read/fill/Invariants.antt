use Rattle.std.proofs.Common.{◌≡◌, ◌++◌, map, take, drop}
use Rattle.format.specs.Entries.{entry_of}
use Rattle.pattern.proofs.read.fill.Given as goal

-- the entries of the commands so far, and behind them what the table held
abbrev pub invariant-loop-i : goal.invariant-loop-i
invariant-loop-i l = l.table ≡ map entry_of (take l.i l.commands) ++ drop l.i l.initial.table
