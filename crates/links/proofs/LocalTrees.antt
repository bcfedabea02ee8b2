-- A tree of labels whose root is one of First and whose children are all of Follow, with the ranks right, is a tree of
-- the expression. By induction on the expression: a tree of a sum, and each tree below a node, fits the rules of one
-- part, since a label with children is in the range of one part only; a tree of a product or a closure is cut at the
-- constant, as proofs/Fitting.antt says. Assumes nothing.
use Rattle.std.proofs.Common.{◌≡◌, ℕ, suc, ◌<◌, ◌≤◌, sym, refl, ap, ◌∙◌, subst, inl, inr, ⊎_elim, arith}
use Rattle.std.proofs.lemmas.Bool.{cases_eq}
use Rattle.pattern.specs.Expressions.{Expr, leaf, node, sum, product, closure, Parts, no_parts, ◌▸◌, count}
use Rattle.links.specs.Trees.{Trees, none, more, width}
use Rattle.links.specs.Language.{In, Below}
use Rattle.links.specs.Locality.{Fit, Ranks}
use Rattle.links.proofs.Rules.{Cut, First, FirstPart, Follow, FollowParts, Fine, FineParts}
use Rattle.links.proofs.Labels.{Within, first_part_index, first_within, first_part_within, follow_from, follow_parts_from, follow_within, follow_parts_within}
use Rattle.links.proofs.FitInto.{fit_into, fit_below, Comes, cut_below}
use Rattle.links.proofs.Steps.{one_step}

-- A tree whose root is one of e and whose children are all of F, with the ranks right, is a tree of e.
abbrev pub FitsIn : (ℕ → ℕ) → (ℕ → ℕ → ℕ → Type 0) → Expr → Type 0
FitsIn rank F e = (x : ℕ) (xs : Trees ℕ) → First e x → width xs ≡ rank x → Ranks rank xs → Fit F (F x) xs → In e x xs

no_trees : (ts : Trees ℕ) → width ts ≡ 0 → ts ≡ none
no_trees none w = refl
no_trees (more ts x xs) w = absurd (omega arith)

module _ (rank : ℕ → ℕ) (n : ℕ) where
  -- rules that are those of e in its range, and those of ps
  part_in : (e : Expr) (lo hi : ℕ) → Fine rank n lo hi e → (F : ℕ → ℕ → ℕ → Type 0) → ((y i x : ℕ) → lo ≤ y → y < hi → F y i x → Follow e y i x) → FitsIn rank (Follow e) e → FitsIn rank F e
  part_in e lo hi f F same all x xs t w r h =
      all x xs t w r (fit_below rank lo hi F (Follow e) (follow_within rank n e lo hi f) same x xs (first_within rank n e lo hi f x t) w r h)

  parts_fit : (ps : Parts) (lo hi : ℕ) → FineParts rank n lo hi ps → (F : ℕ → ℕ → ℕ → Type 0) (P : ℕ → ℕ → Type 0) → ((y i x : ℕ) → lo ≤ y → y < hi → F y i x → FollowParts ps y i x) → (ts : Trees ℕ) → ((i x : ℕ) → i ≤ width ts → P i x → FirstPart ps i x) → Ranks rank ts → Fit F P ts → Fit (FollowParts ps) (FirstPart ps) ts
  parts_fit ps lo hi f F P same ts into r h =
      fit_into rank lo hi F (FollowParts ps) (follow_parts_within rank n ps lo hi f) same ts P (FirstPart ps) (λ i x _ q. into i x q) (first_part_within rank n ps lo hi f) r h

  sum_in : (a b : Expr) (lo mid hi : ℕ) → Fine rank n lo mid a → Fine rank n mid hi b → FitsIn rank (Follow a) a → FitsIn rank (Follow b) b → FitsIn rank (Follow (sum a b)) (sum a b)
  sum_in a b lo mid hi f g all_a all_b x xs t w r h =
      ⊎_elim
      (λ p. inl (part_in a lo mid f (Follow (sum a b)) (λ y i z l k. ⊎_elim (λ q. q) (λ q. absurd (omega (arith, follow_from rank n b mid hi g y i z q)))) all_a x xs p w r h))
      (λ p. inr (part_in b mid hi g (Follow (sum a b)) (λ y i z l k. ⊎_elim (λ q. absurd (omega (arith, follow_from rank n a lo mid f y i z q))) (λ q. q)) all_b x xs p w r h))
      t

  module _ (c : ℕ) (a b : Expr) (lo mid hi : ℕ) (constant : rank c ≡ 0) (f : Fine rank n lo mid a) (g : Fine rank n mid hi b) where
    -- below a label of the first part, and of the second
    first_rules : (y i x : ℕ) → lo ≤ y → y < mid → Follow (product c a b) y i x → Cut c (Follow a y i) (First b) x
    first_rules y i x l k = ⊎_elim (λ q. q) (λ q. absurd (omega (arith, follow_from rank n b mid hi g y i x q.1)))

    second_rules : (y i x : ℕ) → mid ≤ y → y < hi → Follow (product c a b) y i x → Follow b y i x
    second_rules y i x l k =
        ⊎_elim
        (⊎_elim (λ q. absurd (omega (arith, follow_from rank n a lo mid f y i x q.0))) (λ q. absurd (omega (arith, follow_from rank n a lo mid f y i c q.0))))
        (λ q. q.1)

    product_in : FitsIn rank (Follow a) a → FitsIn rank (Follow b) b → FitsIn rank (Follow (product c a b)) (product c a b)
    product_in all_a all_b x xs t w r h =
        let in_b = part_in b mid hi g (Follow (product c a b)) second_rules all_b in
        ⊎_elim
        (λ p.
        let u = cut_below rank lo mid c constant (Follow (product c a b)) (Follow a) (First b) (In b) (follow_within rank n a lo mid f) first_rules
        (λ y ys s v q k _. in_b y ys s v q k) x xs (first_within rank n a lo mid f x p.0) w r h in
        (x, u.0, all_a x u.0 p.0 (u.3 ∙ w) u.2 u.1, inr (λ m. p.1 m.0, refl, u.4)))
        (λ p. (c, none, all_a c none p.0 (sym constant) tt tt, inl ((refl, refl), in_b x xs p.1 w r h)))
        t

  module _ (c : ℕ) (a : Expr) (lo hi : ℕ) (constant : rank c ≡ 0) (f : Fine rank n lo hi a) where
    -- a tree of a closure is the leaf c, or one of its part with trees of the closure put at c
    closure_rules : (y i x : ℕ) → Follow (closure c a) y i x → Cut c (Follow a y i) (First (closure c a)) x
    closure_rules y i x h =
        ⊎_elim (λ e. inr (⊎_elim (λ q. subst (Follow a y i) e q) (λ q. q.0) h, inr e))
        (λ d. ⊎_elim (λ q. inl (q, d)) (λ q. inr (q.0, inl q.1)) h) (cases_eq x c)

    one_more_step : FitsIn rank (Follow a) a → (x : ℕ) (xs : Trees ℕ) → First (closure c a) x → width xs ≡ rank x → (Within rank lo hi x → Comes rank c (Follow a) (In (closure c a)) (Follow a x) xs) → In (closure c a) x xs
    one_more_step all_a x xs t w below =
        ⊎_elim (λ e. (0, (e, no_trees xs (w ∙ ap rank e ∙ constant))))
        (λ d.
        let p : First a x = ⊎_elim (λ q. q) (λ e. absurd (d e)) t in
        let u = below (first_within rank n a lo hi f x p) in
        let s = one_step c (In a) u.0 xs u.4 in
        (suc s.0, inr (x, u.0, all_a x u.0 p (u.3 ∙ w) u.2 u.1, inr (λ m. d m.0, refl, s.1))))
        (cases_eq x c)

    closure_in : FitsIn rank (Follow a) a → FitsIn rank (Follow (closure c a)) (closure c a)
    closure_in all_a x xs t w r h =
        one_more_step all_a x xs t w
        (λ m. cut_below rank lo hi c constant (Follow (closure c a)) (Follow a) (First (closure c a)) (In (closure c a)) (follow_within rank n a lo hi f)
        (λ y i z _ _. closure_rules y i z) (λ y ys s v _ _. one_more_step all_a y ys s v) x xs m w r h)

  mutual
    pub local_in : (e : Expr) (lo hi : ℕ) → Fine rank n lo hi e → FitsIn rank (Follow e) e
    local_in (leaf c) lo hi f x xs t w r h = (t, no_trees xs (w ∙ ap rank t ∙ f.0.1))
    local_in (node b points ps) lo hi f x xs t w r h =
        let fits = parts_fit ps lo b f.0 (Follow (node b points ps)) (Follow (node b points ps) x)
        (λ y i z l k. ⊎_elim (λ q. absurd (omega arith)) (λ q. q)) xs
        (λ i z k. ⊎_elim (λ q. q.1) (λ q. absurd (omega (arith, follow_parts_from rank n ps lo b f.0 x i z q)))) r h in
        (t, local_below ps lo b f.0 xs (w ∙ ap rank t ∙ f.2) r fits)
    local_in (sum a b) lo hi f x xs t w r h =
        sum_in a b lo f.0 hi f.1 f.2 (local_in a lo f.0 f.1) (local_in b f.0 hi f.2) x xs t w r h
    local_in (product c a b) lo hi f x xs t w r h =
        product_in c a b lo f.0 hi f.3.1 f.1 f.2 (local_in a lo f.0 f.1) (local_in b f.0 hi f.2) x xs t w r h
    local_in (closure c a) lo hi f x xs t w r h = closure_in c a lo hi f.1.1 f.0 (local_in a lo hi f.0) x xs t w r h

    local_below : (ps : Parts) (lo hi : ℕ) → FineParts rank n lo hi ps → (ts : Trees ℕ) → width ts ≡ count ps → Ranks rank ts → Fit (FollowParts ps) (FirstPart ps) ts → Below ps ts
    local_below no_parts lo hi f none w r h = tt
    local_below no_parts lo hi f (more ts x xs) w r h = absurd (omega arith)
    local_below (ps ▸ e) lo hi f none w r h = absurd (omega arith)
    local_below (ps ▸ e) lo hi f (more ts x xs) w r h =
        let fits = parts_fit ps lo f.0 f.1 (FollowParts (ps ▸ e)) (FirstPart (ps ▸ e))
        (λ y i z l k. ⊎_elim (λ q. q) (λ q. absurd (omega (arith, follow_from rank n e f.0 hi f.2 y i z q)))) ts
        (λ i z k. ⊎_elim (λ q. absurd (omega arith)) (λ q. q)) r.0 h.0 in
        let here : First e x = ⊎_elim (λ q. q.1) (λ q. absurd (omega (arith, first_part_index ps (suc (width ts)) x q))) h.1 in
        let last = part_in e f.0 hi f.2 (FollowParts (ps ▸ e))
        (λ y i z l k. ⊎_elim (λ q. absurd (omega (arith, follow_parts_from rank n ps lo f.0 f.1 y i z q))) (λ q. q)) in
        (local_below ps lo f.0 f.1 ts (omega arith) r.0 fits, last (local_in e f.0 hi f.2) x xs here r.1 r.2 h.2)
