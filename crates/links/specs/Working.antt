-- What working the links of one part after another promises, on the commands of a numbered pattern that stand up to
-- the end of the part, and on the numbers up to the end of its slots. Assumes nothing.
use Rattle.std.specs.Prelude.{◌≡◌, ℕ, ◌+◌, ◌<◌, ◌≤◌, List, ◌++◌, length, take}
use Rattle.std.specs.List.{AllByRecursion}
use Rattle.format.specs.declared.command.PatternCommand.{PatternCommand}
use Rattle.format.specs.declared.command.PatternCommand.TheVariants.{Sum, Leaf, Node, Product, Closure}
use Rattle.format.specs.declared.entry.Entry.{Entry}
use Rattle.pattern.specs.Expressions.{Expr, Parts, count, commands, parts_commands, table}
use Rattle.pattern.specs.Patterns.{Limits}
use Rattle.links.specs.declared.part.Part.{Part}
use Rattle.links.specs.Rows.{root_row, root_rows, child_rows, parts_rows, link_rows}

-- A number has a bit for each position.
abbrev pub Small : PatternCommand → Type 0
Small (Leaf b) = b < 64
Small (Node b rank points) = b < 64
Small Sum = Unit {0}
Small (Product b) = b < 64
Small (Closure b) = b < 64

-- The entries are those of a pattern within the limits.
pub record ReadyTable (entries : List Entry) : Type 0 where
  pub pattern : Expr
  pub limits : Limits 512 pattern
  pub holds : entries ≡ table pattern

-- The commands are those of a whole, with a number for each of its slots.
pub record ReadyWhole (cs : List PatternCommand) (room : ℕ) : Type 0 where
  pub whole : Expr
  pub is : cs ≡ commands whole
  pub fits : room ≡ length (link_rows whole)
  pub small : AllByRecursion Small cs

-- The commands end in those of the part e; `before` are the commands before it.
abbrev pub Ends : List PatternCommand → List PatternCommand → Expr → Type 0
Ends cs before e = cs ≡ before ++ commands e

-- The commands end in a part whose slots have numbers.
pub record Ready (cs : List PatternCommand) (room : ℕ) : Type 0 where
  pub part : Expr
  pub before : List PatternCommand
  pub ends : Ends cs before part
  pub fits : length (child_rows part) ≤ room
  pub small : AllByRecursion Small cs

-- The links of the part are worked: it begins behind `before`, its slots end where the numbers end, and the numbers
-- before its first slot are as they were.
pub record Worked (before : List PatternCommand) (e : Expr) (old new : List ℕ) (r : Part) : Type 0 where
  pub start : r.start ≡ length before
  pub slot : r.slot + length (child_rows e) ≡ length old
  pub roots : r.roots ≡ root_row e
  pub rows : new ≡ take r.slot old ++ child_rows e

-- Two parts, one behind the other.
pub record ReadyPair (cs : List PatternCommand) (room : ℕ) : Type 0 where
  pub first : Expr
  pub second : Expr
  pub before : List PatternCommand
  pub ends : Ends cs (before ++ commands first) second
  pub fits : length (child_rows first) + length (child_rows second) ≤ room
  pub small : AllByRecursion Small cs

pub record WorkedPair (before : List PatternCommand) (a b : Expr) (old new : List ℕ) (r : Part × Part) : Type 0 where
  pub start : r.0.start ≡ length before
  pub slot : r.0.slot + length (child_rows a) ≡ r.1.slot
  pub second_slot : r.1.slot + length (child_rows b) ≡ length old
  pub roots : r.0.roots ≡ root_row a
  pub second_roots : r.1.roots ≡ root_row b
  pub rows : new ≡ take r.0.slot old ++ (child_rows a ++ child_rows b)

-- The parts of a node, one behind the other: their slots have numbers, and the node has a slot of its own for each.
pub record ReadyParts (cs : List PatternCommand) (room own : ℕ) : Type 0 where
  pub parts : Parts
  pub before : List PatternCommand
  pub all : count parts ≡ own
  pub ends : cs ≡ before ++ parts_commands parts
  pub fits : length (parts_rows parts) ≤ room
  pub small : AllByRecursion Small cs

-- The links of the parts are worked: the first one begins behind `before`, their slots end where the numbers `below`
-- end, the numbers before the first one's are as they were, and each of the node's own slots has the roots of its part.
pub record WorkedParts (before : List PatternCommand) (ps : Parts) (old below own : List ℕ) (r : ℕ × ℕ) : Type 0 where
  pub start : r.0 ≡ length before
  pub slot : r.1 + length (parts_rows ps) ≡ length old
  pub rows : below ≡ take r.1 old ++ parts_rows ps
  pub roots : own ≡ root_rows ps
