-- What working the links of a table promises: which answer, what the lent numbers then hold, and what they mean.
-- Assumes nothing.
use Rattle.std.specs.Prelude.{◌≡◌, ℕ, ◌<◌, ◌≤◌, cond, List, ◌++◌, length, drop, Ok, Err, Result, nat_lt}
use Rattle.format.specs.declared.command.PatternCommand.{PatternCommand}
use Rattle.format.specs.declared.entry.Entry.{Entry}
use Rattle.format.specs.declared.fault.PatternFault.{PatternFault}
use Rattle.pattern.specs.Expressions.{Expr, table}
use Rattle.pattern.specs.Patterns.{Limits, NoTable}
use Rattle.pattern.specs.Positions.{positions}
use Rattle.links.specs.declared.fault.LinkFault.{LinkFault}
use Rattle.links.specs.declared.fault.LinkFault.TheVariants.{Pattern, RowsMissing}
use Rattle.links.specs.Numbering.{numbered, named}
use Rattle.links.specs.Rows.{LinkRows, link_rows}
use Rattle.links.specs.Slots.{slots}

-- The answer, by what the table is judged to be: the number of slots, if so many numbers are lent.
abbrev pub linked : ℕ → Result (List PatternCommand) PatternFault → Result ℕ LinkFault
linked room (Ok cs) = cond (nat_lt room (length (slots (positions cs)))) (Err RowsMissing) (Ok (length (slots (positions cs))))
linked room (Err fault) = Err (Pattern fault)

-- The entries are those of a pattern within the limits, and of no other. The first n of the numbers, one for each
-- slot in order, hold the slot's link: by the rules, and exactly what stands there in some numbered tree. The numbers
-- behind them are as they were. There are never more than 253 slots.
pub record Linked (entries : List Entry) (before now : List ℕ) (n : ℕ) : Type 0 where
  pub pattern : Expr
  pub limits : Limits 512 pattern
  pub holds : entries ≡ table pattern
  pub alone : (e : Expr) → entries ≡ table e → e ≡ pattern
  pub number : n ≡ length (slots (named pattern))
  pub few : n ≤ 253
  pub written : now ≡ link_rows (numbered pattern) ++ drop n before
  pub exact : LinkRows (numbered pattern) (slots (named pattern)) (link_rows (numbered pattern))

-- The entries are those of no pattern within the limits, or of one with more slots than numbers are lent; the numbers
-- are as they were.
abbrev pub Why : List Entry → ℕ → LinkFault → Type 0
Why entries room (Pattern fault) = NoTable entries
Why entries room RowsMissing = (e : Expr) × Limits 512 e × (entries ≡ table e) × (room < length (slots (named e)))

pub record Unlinked (entries : List Entry) (before now : List ℕ) (fault : LinkFault) : Type 0 where
  pub why : Why entries (length before) fault
  pub unchanged : now ≡ before
