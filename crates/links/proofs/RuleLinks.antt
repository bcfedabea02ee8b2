-- The rules say just what the links are: a label is in the link of the root slot exactly where it is one of First, and
-- in that of a child's slot exactly where it is one of Follow. What stands in trees that fit is allowed by the rules,
-- and what the rules allow stands in some tree. Assumes nothing.
use Rattle.std.proofs.Common.{ℕ, ◌↔◌, sym, refl, subst, ⊎_elim}
use Rattle.pattern.specs.Expressions.{Expr}
use Rattle.links.specs.Trees.{Trees, none, more}
use Rattle.links.specs.Locality.{Fit}
use Rattle.links.specs.Slots.{root, child, RootOf, ChildIn, Link}
use Rattle.links.proofs.Rules.{First, Follow, Fine}
use Rattle.links.proofs.Fitting.{in_first, in_fitting}
use Rattle.links.proofs.Reaching.{first_in, follow_in}

pub fit_root : (F : ℕ → ℕ → ℕ → Type 0) (P : ℕ → ℕ → Type 0) (i x : ℕ) (ts : Trees ℕ) → Fit F P ts → RootOf i x ts → P i x
fit_root F P i x none h r = absurd r
fit_root F P i x (more ts y ys) h r = ⊎_elim (λ w. rw (w.0, w.1) h.1) (λ w. fit_root F P i x ts h.0 w) r

pub fit_child : (F : ℕ → ℕ → ℕ → Type 0) (P : ℕ → ℕ → Type 0) (b i x : ℕ) (ts : Trees ℕ) → Fit F P ts → ChildIn b i x ts → F b i x
fit_child F P b i x none h r = absurd r
fit_child F P b i x (more ts y ys) h r =
    ⊎_elim (λ w. subst (λ z. F z i x) w.0 (fit_root F (F y) i x ys h.2 w.1))
    (λ v. ⊎_elim (λ w. fit_child F (F y) b i x ys h.2 w) (λ w. fit_child F P b i x ts h.0 w) v)
    r

module _ (rank : ℕ → ℕ) (n : ℕ) (e : Expr) (lo hi : ℕ) (f : Fine rank n lo hi e) where
  pub root_link : (x : ℕ) → First e x ↔ Link e root x
  root_link x = (
    (λ h. let w = first_in rank n e lo hi f x h in (x, w.0, w.1, refl)),
    (λ k. subst (First e) (sym k.3) (in_first rank n e lo hi f k.0 k.1 k.2)),
  )

  pub child_link : (b i x : ℕ) → Follow e b i x ↔ Link e (child b i) x
  child_link b i x = (
    follow_in rank n e lo hi f b i x,
    (λ k. fit_child (Follow e) (λ j. First e) b i x (more none k.0 k.1) (in_fitting rank n e lo hi f k.0 k.1 k.2) k.3),
  )
