-- The fault that is found at a command is the first of the table of refusals that fits. By cases on the letter, on
-- how many operands there are, and on each test in turn. Assumes nothing.
use Rattle.std.proofs.Common.{◌≡◌, ℕ, suc, ◌+◌, ◌*◌, Bool, true, false, cond, not, ◌||◌, eqb, ltb, List, [], ◌∷◌, length, get_or, Ok, Err, Result, sym, refl, ap, ◌∙◌, subst, inl, inr, ⊎_elim, arith, le-ltb, eqb-true}
use Rattle.std.proofs.lemmas.Bool.{or_from, or_left, or_right, not_from_false, cond-false}
use Rattle.format.specs.declared.command.PatternCommand.{PatternCommand}
use Rattle.format.specs.declared.command.PatternCommand.TheVariants.{Sum, Leaf, Node, Product, Closure}
use Rattle.format.specs.declared.fault.ByteFault.TheVariants.{NoCommand, OperandsMissing, CodeZero, RankOutside}
use Rattle.format.specs.declared.fault.PatternFault.{PatternFault}
use Rattle.format.specs.declared.fault.PatternFault.TheVariants.{Bytes, PartsMissing, PositionsFull, TableFull}
use Rattle.format.specs.Commands.{pattern_bytes, takes}
use Rattle.pattern.specs.Judging.{Standing, after, admission, checked}
use Rattle.format.specs.Reading.{then, lone_code, pattern_lettered, pattern_first}
use Rattle.pattern.specs.Refusals.{letter, zero_code, outside, tests, refusals, First}
use Rattle.format.proofs.Spelling.{ways}

same : {X : Type 0} (f g : PatternFault) → ◌≡◌ {A = Result X PatternFault} (Err f) (Err g) → f ≡ g
same f g e = cc

no_fault : {X Y : Type 0} (x : X) (f : PatternFault) → ◌≡◌ {A = Result X PatternFault} (Ok x) (Err f) → Y
no_fault x f e = let z : ◌≡◌ {A = ℕ} 0 1 = cc in absurd (omega arith)

module _ (free at : ℕ) (s : Standing) (f : PatternFault) where
  -- the three tests of the command itself
  admission_first : (c : PatternCommand) → admission free at s c ≡ Err f → First ((ltb s.pending (takes c), PartsMissing at) ∷ (ltb 64 (length (after s c).positions), PositionsFull at) ∷ (eqb free 0, TableFull at) ∷ []) f
  admission_first c e =
      ⊎_elim (λ w. inl (w.0, same (PartsMissing at) f w.1))
      (λ u. inr (
        u.0,
        ⊎_elim (λ w. inl (w.0, same (PositionsFull at) f w.1))
            (λ v. inr (v.0, ⊎_elim (λ w. inl (w.0, same (TableFull at) f w.1)) (λ w. no_fault c f w.1) (ways (eqb free 0) _ _ (Err f) v.1)))
            (ways (ltb 64 (length (after s c).positions)) _ _ (Err f) u.1),
      ))
      (ways (ltb s.pending (takes c)) _ _ (Err f) e)

  -- a command that has a code alone
  lone_first : (make : ℕ → PatternCommand) (b : ℕ) (ops : List ℕ) → letter b ≡ true → ((n : ℕ) → length (pattern_bytes (make n)) ≡ 3) → ((n : ℕ) → zero_code (make n) ≡ eqb n 0) → ((n : ℕ) → outside (make n) ≡ false) → checked (then (lone_code at ops) (λ code. Ok (make code))) (admission free at s) ≡ Err f → First (tests free at s b (suc (length ops)) (make (get_or ops 0 0 * 256 + get_or ops 1 0))) f
  lone_first make b [] known three zero flat e =
      inr (ap not known, inl (ap (ltb 1) (three _), same (Bytes (OperandsMissing at)) f e))
  lone_first make b (h ∷ []) known three zero flat e =
      inr (ap not known, inl (ap (ltb 2) (three _), same (Bytes (OperandsMissing at)) f e))
  lone_first make b (h ∷ l ∷ rest) known three zero flat e =
      inr (ap not known, inr (ap (ltb (suc (suc (suc (length rest))))) (three (h * 256 + l)) ∙ le-ltb (suc (suc (suc (length rest)))) 3 (omega arith), code (eqb (h * 256 + l) 0) refl))
    where
      code : (t : Bool) → eqb (h * 256 + l) 0 ≡ t → First ((zero_code (make (h * 256 + l)), Bytes (CodeZero at)) ∷ (outside (make (h * 256 + l)), Bytes (RankOutside at)) ∷ (ltb s.pending (takes (make (h * 256 + l))), PartsMissing at) ∷ (ltb 64 (length (after s (make (h * 256 + l))).positions), PositionsFull at) ∷ (eqb free 0, TableFull at) ∷ []) f
      code true t = inl (zero (h * 256 + l) ∙ t, same (Bytes (CodeZero at)) f (sym (ap (λ x. checked (then (cond x (Err (CodeZero at)) (Ok (h * 256 + l))) (λ c. Ok (make c))) (admission free at s)) t) ∙ e))
      code false t =
          inr (
            zero (h * 256 + l) ∙ t,
            inr (
              flat (h * 256 + l),
              admission_first (make (h * 256 + l)) (sym (ap (λ x. checked (then (cond x (Err (CodeZero at)) (Ok (h * 256 + l))) (λ c. Ok (make c))) (admission free at s)) t) ∙ e),
            ),
          )

  -- a node whose operands are all there
  node_answer : (code r p : ℕ) → Bool → Bool → Bool → Result PatternCommand PatternFault
  node_answer code r p zero none many =
      checked (then (cond zero (Err (CodeZero at)) (Ok code)) (λ n. then (cond none (Err (RankOutside at)) (cond many (Err (RankOutside at)) (Ok r))) (λ k. Ok (Node n k p)))) (admission free at s)

  node_tests : (code r p : ℕ) (zero none many : Bool) → eqb code 0 ≡ zero → eqb r 0 ≡ none → ltb 4 r ≡ many → node_answer code r p zero none many ≡ Err f → First ((eqb code 0, Bytes (CodeZero at)) ∷ (eqb r 0 || ltb 4 r, Bytes (RankOutside at)) ∷ (ltb s.pending r, PartsMissing at) ∷ (ltb 64 (length (after s (Node code r p)).positions), PositionsFull at) ∷ (eqb free 0, TableFull at) ∷ []) f
  unfolding node_answer
  node_tests code r p true none many z n m e = inl (z, same (Bytes (CodeZero at)) f e)
  node_tests code r p false true many z n m e = inr (z, inl (or_left (eqb r 0) (ltb 4 r) n, same (Bytes (RankOutside at)) f e))
  node_tests code r p false false true z n m e = inr (z, inl (or_right (eqb r 0) (ltb 4 r) m, same (Bytes (RankOutside at)) f e))
  node_tests code r p false false false z n m e = inr (z, inr (or_from (eqb r 0) (ltb 4 r) n m, admission_first (Node code r p) e))

  node_first : (ops : List ℕ) → checked (pattern_lettered at 78 ops) (admission free at s) ≡ Err f → First (tests free at s 78 (suc (length ops)) (Node (get_or ops 0 0 * 256 + get_or ops 1 0) (get_or ops 2 0) (get_or ops 3 0))) f
  unfolding node_answer
  node_first [] e = inr (refl, inl (refl, same (Bytes (OperandsMissing at)) f e))
  node_first (h ∷ []) e = inr (refl, inl (refl, same (Bytes (OperandsMissing at)) f e))
  node_first (h ∷ l ∷ []) e = inr (refl, inl (refl, same (Bytes (OperandsMissing at)) f e))
  node_first (h ∷ l ∷ r ∷ []) e = inr (refl, inl (refl, same (Bytes (OperandsMissing at)) f e))
  node_first (h ∷ l ∷ r ∷ p ∷ rest) e =
      inr (refl, inr (le-ltb (suc (suc (suc (suc (suc (length rest)))))) 5 (omega arith), node_tests (h * 256 + l) r p (eqb (h * 256 + l) 0) (eqb r 0) (ltb 4 r) refl refl refl e))

  sum_first : (ops : List ℕ) → admission free at s Sum ≡ Err f → First (tests free at s 43 (suc (length ops)) Sum) f
  sum_first ops e = inr (refl, inr (le-ltb (suc (length ops)) 1 (omega arith), inr (refl, inr (refl, admission_first Sum e))))

  no_letter : (b : ℕ) → eqb b 76 ≡ false → eqb b 78 ≡ false → eqb b 43 ≡ false → eqb b 46 ≡ false → eqb b 42 ≡ false → not (letter b) ≡ true
  no_letter b l n p d t =
      not_from_false (letter b)
      (or_from (eqb b 76) _ l (or_from (eqb b 78) _ n (or_from (eqb b 43) _ p (or_from (eqb b 46) (eqb b 42) d t))))

  -- the letter is known
  at_letter : (b k : ℕ) (ops : List ℕ) → eqb b k ≡ true → First (refusals free at s (k ∷ ops)) f → First (refusals free at s (b ∷ ops)) f
  at_letter b k ops t h = subst (λ x. First (refusals free at s (x ∷ ops)) f) (sym (eqb-true b k t)) h

  pub first_fault : (b : ℕ) (ops : List ℕ) → checked (pattern_first at (b ∷ ops)) (admission free at s) ≡ Err f → First (refusals free at s (b ∷ ops)) f
  first_fault b ops e = leaf (eqb b 76) refl
    where
      told : (k : ℕ) → eqb b k ≡ true → checked (pattern_lettered at k ops) (admission free at s) ≡ Err f
      told k t = subst (λ x. checked (pattern_lettered at x ops) (admission free at s) ≡ Err f) (eqb-true b k t) e

      closure : (t : Bool) → eqb b 42 ≡ t → eqb b 76 ≡ false → eqb b 78 ≡ false → eqb b 43 ≡ false → eqb b 46 ≡ false → First (refusals free at s (b ∷ ops)) f
      closure true t l n p d = at_letter b 42 ops t (lone_first Closure 42 ops refl (λ _. refl) (λ _. refl) (λ _. refl) (told 42 t))
      closure false t l n p d =
          let unknown : pattern_lettered at b ops ≡ Err (NoCommand at) =
          cond-false (eqb b 76) _ _ l ∙ cond-false (eqb b 78) _ _ n ∙ cond-false (eqb b 43) _ _ p ∙ cond-false (eqb b 46) _ _ d ∙ cond-false (eqb b 42) _ _ t in
          inl (no_letter b l n p d t, same (Bytes (NoCommand at)) f (sym (ap (λ r. checked r (admission free at s)) unknown) ∙ e))

      product : (t : Bool) → eqb b 46 ≡ t → eqb b 76 ≡ false → eqb b 78 ≡ false → eqb b 43 ≡ false → First (refusals free at s (b ∷ ops)) f
      product true t l n p = at_letter b 46 ops t (lone_first Product 46 ops refl (λ _. refl) (λ _. refl) (λ _. refl) (told 46 t))
      product false t l n p = closure (eqb b 42) refl l n p t

      sum : (t : Bool) → eqb b 43 ≡ t → eqb b 76 ≡ false → eqb b 78 ≡ false → First (refusals free at s (b ∷ ops)) f
      sum true t l n = at_letter b 43 ops t (sum_first ops (told 43 t))
      sum false t l n = product (eqb b 46) refl l n t

      node : (t : Bool) → eqb b 78 ≡ t → eqb b 76 ≡ false → First (refusals free at s (b ∷ ops)) f
      node true t l = at_letter b 78 ops t (node_first ops (told 78 t))
      node false t l = sum (eqb b 43) refl l t

      leaf : (t : Bool) → eqb b 76 ≡ t → First (refusals free at s (b ∷ ops)) f
      leaf true t = at_letter b 76 ops t (lone_first Leaf 76 ops refl (λ _. refl) (λ _. refl) (λ _. refl) (told 76 t))
      leaf false t = node (eqb b 78) refl t
