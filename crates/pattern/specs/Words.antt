-- Positions in words. Assumes nothing.
use Rattle.std.specs.Prelude.{ℕ, cond, List, ◌++◌, codes, decimal, ◌==◌}
use Rattle.pattern.specs.declared.position.Position.{Position}

-- A position in words: one of rank 0 is a constant.
abbrev pub position_words : Position → List ℕ
position_words p =
    cond (p.rank == 0) (codes "constant " ++ (decimal p.code ++ (codes ", points " ++ decimal p.points)))
    (codes "node " ++ (decimal p.code ++ (codes ", rank " ++ (decimal p.rank ++ (codes ", points " ++ decimal p.points)))))
