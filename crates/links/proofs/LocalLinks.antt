-- A tree of positions is a numbered tree exactly where it looks like one from each of its positions. Forward, the tree
-- itself shows what stands in it; back, what the links hold is what the rules allow, and a tree that fits the rules is
-- a tree of the pattern. Assumes nothing.
use Rattle.std.proofs.Common.{ℕ, length, refl}
use Rattle.pattern.specs.Expressions.{Expr}
use Rattle.links.specs.Language.{In}
use Rattle.links.specs.Locality.{Operands, Local, Locality}
use Rattle.links.specs.Numbering.{numbered, named, rank_at}
use Rattle.links.specs.Slots.{child, Link}
use Rattle.links.specs.Trees.{Trees}
use Rattle.links.proofs.Fitting.{fit_mono, in_ranks, in_fits}
use Rattle.links.proofs.LocalTrees.{local_in}
use Rattle.links.proofs.NumberedFine.{numbered_fine}
use Rattle.links.proofs.Rules.{Fine, Follow}
use Rattle.links.proofs.RuleLinks.{root_link, child_link}

module _ (e : Expr) (o : Operands e) (x : ℕ) (xs : Trees ℕ) where
  rank : ℕ → ℕ
  rank = rank_at (named e)

  fine : Fine rank (length (named e)) 0 (length (named e)) (numbered e)
  unfolding rank
  fine = numbered_fine e o

  looks : In (numbered e) x xs → Local e x xs
  unfolding rank
  looks h =
      let n = length (named e) in
      let ranks = in_ranks rank n (numbered e) 0 n fine x xs h in
      record {
        rank = ranks.0;
        ranks = ranks.1;
        root_linked = (x, xs, h, refl);
        children_linked =
            fit_mono (Follow (numbered e)) (λ b i y. Link (numbered e) (child b i) y) (Follow (numbered e) x) (λ i y. Link (numbered e) (child x i) y)
            (λ b i y k. (child_link rank n (numbered e) 0 n fine b i y).0 k)
            (λ i y k. (child_link rank n (numbered e) 0 n fine x i y).0 k)
            xs
            (in_fits rank n (numbered e) 0 n fine x xs h);
      }

  is : Local e x xs → In (numbered e) x xs
  unfolding rank
  is l =
      let n = length (named e) in
      local_in rank n (numbered e) 0 n fine x xs ((root_link rank n (numbered e) 0 n fine x).1 l.root_linked) l.rank l.ranks
      (fit_mono (λ b i y. Link (numbered e) (child b i) y) (Follow (numbered e)) (λ i y. Link (numbered e) (child x i) y) (Follow (numbered e) x)
      (λ b i y k. (child_link rank n (numbered e) 0 n fine b i y).1 k)
      (λ i y k. (child_link rank n (numbered e) 0 n fine x i y).1 k)
      xs
      l.children_linked)

pub locality : Locality
locality e o x xs = (looks e o x xs, is e o x xs)
