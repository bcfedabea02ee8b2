use Rattle.std.proofs.Common.{◌≡◌}
use Rattle.pattern.specs.Expressions.{Expr, commands, table}
use Rattle.links.proofs.NumberTurns.{Counted}
use Rattle.links.proofs.link.number_table.Given as goal

-- the commands so far are numbered, whichever pattern the table is of
abbrev pub invariant-loop-i : goal.invariant-loop-i
invariant-loop-i l = (e : Expr) → l.table ≡ table e → Counted (commands e) l.i l.numbering l.numbered.items
