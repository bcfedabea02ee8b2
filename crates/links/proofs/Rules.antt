-- The rules of links as relations on labels: which labels stand at the roots of an expression's trees, and which as
-- the i-th child of b. They are the bridge between the numbers of specs/Rows.antt and the trees of
-- specs/Slots.antt. `Fine` is what is known of a numbered expression. Assumes nothing.
use Rattle.std.proofs.Common.{◌≡◌, ℕ, suc, ◌<◌, ◌≤◌, ◌⊎◌}
use Rattle.pattern.specs.Expressions.{Expr, leaf, node, sum, product, closure, Parts, no_parts, ◌▸◌, count}

-- A set S of labels in which those of T stand in the stead of c.
abbrev pub Cut : ℕ → (ℕ → Type 0) → (ℕ → Type 0) → ℕ → Type 0
Cut c S T x = (S x × (x ≡ c → ⊥)) ⊎ (S c × T x)

abbrev mutual
  -- x is the root of a tree of e
  pub First : Expr → ℕ → Type 0
  First (leaf c) x = x ≡ c
  First (node b points ps) x = x ≡ b
  First (sum a b) x = First a x ⊎ First b x
  First (product c a b) x = Cut c (First a) (First b) x
  First (closure c a) x = First a x ⊎ (x ≡ c)

  -- x is the root of a tree of the i-th part
  pub FirstPart : Parts → ℕ → ℕ → Type 0
  FirstPart no_parts i x = ⊥
  FirstPart (ps ▸ e) i x = ((i ≡ suc (count ps)) × First e x) ⊎ FirstPart ps i x

abbrev mutual
  -- x is the i-th child of y in a tree of e
  pub Follow : Expr → ℕ → ℕ → ℕ → Type 0
  Follow (leaf c) y i x = ⊥
  Follow (node b points ps) y i x = ((y ≡ b) × FirstPart ps i x) ⊎ FollowParts ps y i x
  Follow (sum a b) y i x = Follow a y i x ⊎ Follow b y i x
  Follow (product c a b) y i x =
      Cut c (Follow a y i) (First b) x ⊎ ((First a c ⊎ ((z : ℕ) × (j : ℕ) × Follow a z j c)) × Follow b y i x)
  Follow (closure c a) y i x = Follow a y i x ⊎ (Follow a y i c × First a x)

  pub FollowParts : Parts → ℕ → ℕ → ℕ → Type 0
  FollowParts no_parts y i x = ⊥
  FollowParts (ps ▸ e) y i x = FollowParts ps y i x ⊎ Follow e y i x

-- c occurs in a tree of e, where it is a leaf
abbrev pub Reached : ℕ → Expr → Type 0
Reached c e = First e c ⊎ ((z : ℕ) × (j : ℕ) × Follow e z j c)

-- The labels of nodes rise from lo, and are below hi, so that each stands once; a node's rank is the number of its
-- parts, of which it has some; all other labels are constants: below n, and of rank 0.
module _ (rank : ℕ → ℕ) (n : ℕ) where
  abbrev pub Constant : ℕ → Type 0
  Constant c = (c < n) × (rank c ≡ 0)

  abbrev mutual
    pub Fine : ℕ → ℕ → Expr → Type 0
    Fine lo hi (leaf c) = Constant c × (lo ≤ hi)
    Fine lo hi (node b points ps) = FineParts lo b ps × (b < hi) × (rank b ≡ count ps) × (0 < count ps)
    Fine lo hi (sum a b) = (mid : ℕ) × Fine lo mid a × Fine mid hi b
    Fine lo hi (product c a b) = (mid : ℕ) × Fine lo mid a × Fine mid hi b × Constant c
    Fine lo hi (closure c a) = Fine lo hi a × Constant c

    pub FineParts : ℕ → ℕ → Parts → Type 0
    FineParts lo hi no_parts = lo ≤ hi
    FineParts lo hi (ps ▸ e) = (mid : ℕ) × FineParts lo mid ps × Fine mid hi e
