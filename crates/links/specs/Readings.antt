-- A pattern and its readings: a map lies in the pattern exactly where it has a reading, and no pattern is empty.
-- Assumes nothing.
use Rattle.std.specs.Prelude.{ℕ, ◌↔◌}
use Rattle.pattern.specs.Expressions.{Expr}
use Rattle.links.specs.Trees.{Trees}
use Rattle.links.specs.Language.{In}
use Rattle.links.specs.Locality.{Operands}
use Rattle.links.specs.Numbering.{Reading}

abbrev pub Readable : Type 0
Readable = (e : Expr) → Operands e → (x : ℕ) (xs : Trees ℕ) → In e x xs ↔ ((b : ℕ) × (bs : Trees ℕ) × Reading e b bs x xs)

abbrev pub Denotes : Type 0
Denotes = (e : Expr) → (x : ℕ) × (xs : Trees ℕ) × In e x xs
