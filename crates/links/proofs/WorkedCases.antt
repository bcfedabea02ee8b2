-- The worked cases: the links by computing the numbers and their exactness, the maps that lie in a pattern by showing
-- how, and the one that does not by the steps of the closure, of which each would put 12 where only 11 can be.
-- Assumes nothing.
use Rattle.std.proofs.Common.{ℕ, zero, suc, T, ltb, refl, inl, inr, ⊎_elim, arith, lit<, lit≤}
use Rattle.format.specs.Commands.{Code}
use Rattle.pattern.specs.Expressions.{Expr, leaf, node, closure, no_parts, ◌▸◌}
use Rattle.links.specs.Cases.{other_lane, pair, uneven, choices, different, unreached, WorkedCases}
use Rattle.links.specs.Language.{Language, In, Below, Leaf, Replaced, Put, Step}
use Rattle.links.specs.Locality.{Operands}
use Rattle.links.specs.Numbering.{sample}
use Rattle.links.specs.Trees.{Trees, none, more, lane}
use Rattle.links.proofs.WholeTurns.{exact_rows}

-- what a code and a node's operands are held to
code : {c : ℕ} → T (ltb 0 c) → T (ltb c 65536) → Code c
code p q = (lit< p, lit< q)

sample_operands : Operands sample
sample_operands =
    (code tt tt, ((code tt tt, (lit< tt, lit≤ tt), lit< tt), (code tt tt, ((code tt tt, (lit< tt, lit≤ tt), lit< tt), (code tt tt, tt)))))

unreached_operands : Operands unreached
unreached_operands = (code tt tt, (code tt tt, ((code tt tt, (lit< tt, lit≤ tt), lit< tt), (code tt tt, tt))))

lane_in : In sample 1 lane
lane_in = (
  1,
  inr (
    1,
    lane,
    (refl, ((tt, (refl, (tt, (refl, refl)))), (refl, refl))),
    inr (
      (λ l. omega (arith, l.0)),
      refl,
      ((tt, inr ((λ l. omega (arith, l.0)), refl, (tt, inr ((λ l. omega (arith, l.0)), refl, tt)))), inl ((refl, refl), (refl, refl))),
    ),
  ),
)

-- two leaves 10, side by side
tens : Trees ℕ
tens = more (more none 10 none) 10 none

pair_in : In pair 2 tens
unfolding tens
pair_in = (refl, ((tt, (refl, refl)), (refl, refl)))

uneven_in : In (closure 10 pair) 2 uneven
unfolding tens
uneven_in =
    let once : Step 10 (In pair) 1 2 tens =
    inr (2, tens, pair_in, inr ((λ l. omega (arith, l.0)), refl, ((tt, inl ((refl, refl), (refl, refl))), inl ((refl, refl), (refl, refl))))) in
    (2, inr (2, tens, pair_in, inr ((λ l. omega (arith, l.0)), refl, ((tt, inl ((refl, refl), inl (refl, refl))), inl ((refl, refl), once)))))

different_in : In choices 2 different
unfolding tens
different_in = (2, tens, pair_in, inr ((λ l. omega (arith, l.0)), refl, ((tt, inl ((refl, refl), inl (refl, refl))), inl ((refl, refl), inr (refl, refl)))))

-- Whatever is put at 10, the leaf 11 is not turned into 12, and node 20 over it not into node 20 over 12.
module _ (S : Language) where
  leaf_stays : (z : ℕ) (zs : Trees ℕ) → Leaf 11 z zs → Replaced 10 S z zs 12 none (Put 10 S zs none) → ⊥
  leaf_stays z zs is r = ⊎_elim (λ w. omega (arith, is.0, w.0.0)) (λ w. omega (arith, is.0, w.1)) r

  node_stays : (y : ℕ) (ys : Trees ℕ) → In (node 20 7 (no_parts ▸ leaf 11)) y ys → Replaced 10 S y ys 20 (more none 12 none) (Put 10 S ys (more none 12 none)) → ⊥
  node_stays y none is r = absurd is.1
  node_stays y (more zs z ws) is r = ⊎_elim (λ w. omega (arith, is.0, w.0.0)) (λ w. leaf_stays z ws is.1.1 w.2.1) r

  lane_stays : (u : ℕ) (us : Trees ℕ) → Below ((no_parts ▸ node 20 7 (no_parts ▸ leaf 11)) ▸ leaf 10) us → Put 10 S us other_lane → ⊥
  lane_stays u none is r = absurd is
  lane_stays u (more none x xs) is r = absurd is.0
  lane_stays u (more (more ts y ys) x xs) is r = node_stays y ys is.0.1 r.0.1

-- the part of which the sample is the closure
abbrev lane_part : Expr
lane_part = node 1 0 ((no_parts ▸ node 20 7 (no_parts ▸ leaf 11)) ▸ leaf 10)

no_step : (n : ℕ) → Step 10 (In lane_part) n 1 other_lane → ⊥
no_step zero s = omega (arith, s.0)
no_step (suc n) s =
    ⊎_elim (no_step n)
    (λ p. ⊎_elim (λ w. omega (arith, p.2.0, w.0.0)) (λ w. lane_stays (Step 10 (In lane_part) n) p.0 p.1 p.2.1 w.2) p.3)
    s

other_lane_out : In sample 1 other_lane → ⊥
other_lane_out h = no_step h.0 h.1

pub worked_cases : WorkedCases
worked_cases = record {
  sample_links = exact_rows sample sample_operands;
  lane_in = lane_in;
  other_lane_out = other_lane_out;
  uneven_in = uneven_in;
  different_in = different_in;
  unreached_links = exact_rows unreached unreached_operands;
}
