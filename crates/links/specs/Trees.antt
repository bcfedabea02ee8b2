-- Ranked trees: a tree is a root with a label, and the trees below it, from left to right. The rank of a root is the
-- number of trees below it, so a leaf has none. The labels of a map are codes, those of a numbered tree are
-- positions. Assumes nothing.
use Rattle.std.specs.Prelude.{◌≡◌, ℕ, suc, refl}

-- Trees side by side: none, or some trees and behind them, on their right, one more with its root and the trees
-- below that.
pub data Trees (L : Type 0) : Type 0 where
  none : Trees L
  more : Trees L → L → Trees L → Trees L

-- How many trees stand side by side.
abbrev pub width : {L : Type 0} → Trees L → ℕ
width none = 0
width (more ts x xs) = suc (width ts)

-- Another label at every root.
abbrev pub relabel : {L M : Type 0} → (L → M) → Trees L → Trees M
relabel f none = none
relabel f (more ts x xs) = more (relabel f ts) (f x) (relabel f xs)

-- 1(20(11), 10), as the trees below its root 1
abbrev pub lane : Trees ℕ
lane = more (more none 20 (more none 11 none)) 10 none

two_below : width lane ≡ 2
two_below = refl
