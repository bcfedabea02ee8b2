-- What a `Positions` stands for: the list of the positions named so far. Assumes nothing.
use Rattle.std.specs.Prelude.{List, take}
use Rattle.pattern.specs.declared.position.Position.{Position}
use Rattle.pattern.specs.declared.positions.Positions.{Positions}

abbrev pub listed : Positions → List Position
listed ps = take ps.count ps.list
