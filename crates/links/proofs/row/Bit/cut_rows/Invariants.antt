use Rattle.std.proofs.Common.{◌≡◌, ◌++◌, map, take, drop}
use Rattle.links.specs.Rows.{cut}
use Rattle.links.proofs.row.Bit.cut_rows.Given as goal

-- the rows so far are cut, and those behind them are as they were
abbrev pub invariant-loop-row : goal.invariant-loop-row
invariant-loop-row l = l.rows ≡ map (cut l.self.position l.instead) (take l.row-index l.initial.rows) ++ drop l.row-index l.initial.rows
