-- A map lies in a pattern exactly where it has a reading: the pattern is its numbered pattern with codes for numbers,
-- and the trees of that are the numbered trees with codes for numbers, since different constants have different
-- codes. Assumes nothing.
use Rattle.std.proofs.Common.{length, sym, subst}
use Rattle.links.specs.Language.{In}
use Rattle.links.specs.Numbering.{numbered, named, code_at, rank_at}
use Rattle.links.specs.Readings.{Readable}
use Rattle.links.proofs.NumberedFine.{numbered_fine}
use Rattle.links.proofs.NumberedCodes.{numbered_codes, constants_apart}
use Rattle.links.proofs.Relabelled.{relabelled}

pub readable : Readable
readable e o x xs =
    let trees = relabelled (code_at (named e)) (rank_at (named e)) (length (named e)) (constants_apart e o) (numbered e) 0 (length (named e)) (numbered_fine e o) x xs in
    let same = numbered_codes e in (
      λ i. let t = trees.0 (subst (λ m. In m x xs) (sym same) i) in (t.0, t.1, record { numbered_tree = t.2; root = t.3; below = t.4 }),
      λ r. subst (λ m. In m x xs) same (trees.1 (r.0, r.1, r.2.numbered_tree, r.2.root, r.2.below)),
    )
