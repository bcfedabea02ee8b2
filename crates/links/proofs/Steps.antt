-- Trees of a closure put at the leaves c are all of one step: a tree of a step is one of every later step, so the sum
-- of their steps does for all. By induction on the trees. Assumes nothing.
use Rattle.std.proofs.Common.{◌≡◌, ℕ, zero, suc, ◌+◌, ◌≤◌, subst, inl, inr, ⊎_elim, arith}
use Rattle.std.proofs.lemmas.Bool.{cases_eq}
use Rattle.links.specs.Trees.{Trees, none, more}
use Rattle.links.specs.Language.{Language, Put, Step}

-- a larger set
pub put_into : (c : ℕ) (P Q : Language) → ((x : ℕ) (xs : Trees ℕ) → P x xs → Q x xs) → (us ts : Trees ℕ) → Put c P us ts → Put c Q us ts
put_into c P Q into none none h = tt
put_into c P Q into none (more ts x xs) h = absurd h
put_into c P Q into (more vs u us) none h = absurd h
put_into c P Q into (more vs u us) (more ts x xs) h = (
  put_into c P Q into vs ts h.0,
  ⊎_elim (λ p. inl (p.0, into x xs p.1)) (λ p. inr (p.0, p.1, put_into c P Q into us xs p.2)) h.1,
)

module _ (c : ℕ) (P : Language) where
  later_step : (m k : ℕ) → k ≤ m → (x : ℕ) (xs : Trees ℕ) → Step c P k x xs → Step c P m x xs
  later_step zero k l x xs s = let e : k ≡ 0 = omega arith in subst (λ j. Step c P j x xs) e s
  later_step (suc m) k l x xs s =
      ⊎_elim (λ e. subst (λ j. Step c P j x xs) e s) (λ d. inl (later_step m k (omega arith) x xs s)) (cases_eq k (suc m))

  pub one_step : (us ts : Trees ℕ) → Put c (λ x xs. (k : ℕ) × Step c P k x xs) us ts → (k : ℕ) × Put c (Step c P k) us ts
  one_step none none h = (0, tt)
  one_step none (more ts x xs) h = absurd h
  one_step (more vs u us) none h = absurd h
  one_step (more vs u us) (more ts x xs) h =
      let left = one_step vs ts h.0 in
      let joined : (k m : ℕ) → k ≤ m → (ys zs : Trees ℕ) → Put c (Step c P k) ys zs → Put c (Step c P m) ys zs = λ k m l. put_into c (Step c P k) (Step c P m) (later_step m k l) in
      ⊎_elim
      (λ p. let m = left.0 + p.1.0 in (
        m,
        (joined left.0 m (omega arith) vs ts left.1, inl (p.0, later_step m p.1.0 (omega arith) x xs p.1.1)),
      ))
      (λ p. let b = one_step us xs p.2 in let m = left.0 + b.0 in (
        m,
        (joined left.0 m (omega arith) vs ts left.1, inr (p.0, p.1, joined b.0 m (omega arith) us xs b.1)),
      ))
      h.1
