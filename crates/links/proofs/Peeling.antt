-- The last command of a part: it tells which kind of expression the part is, and the commands before it are those of
-- the part's own parts. So what is ready to be worked as a part is ready to be worked as its parts.
-- Assumes nothing.
use Rattle.std.proofs.Common.{◌≡◌, ℕ, suc, ◌+◌, ◌-◌, ◌<◌, ◌≤◌, Bool, ◌||◌, List, [], ◌∷◌, ◌++◌, map, length, replicate, sym, refl, ap, ◌∙◌, subst, append_assoc, append-nil, add-one, arith}
use Rattle.std.proofs.lemmas.List.{length-append, length-map, length-replicate, length_push, same_from_push}
use Rattle.std.proofs.lemmas.Bool.{cond_both}
use Rattle.std.specs.List.{AllByRecursion}
use Rattle.format.specs.declared.command.PatternCommand.{PatternCommand}
use Rattle.format.specs.declared.command.PatternCommand.TheVariants.{Sum, Leaf, Node, Product, Closure}
use Rattle.pattern.specs.Expressions.{Expr, leaf, node, sum, product, closure, Parts, no_parts, ◌▸◌, count, commands, parts_commands}
use Rattle.links.specs.Rows.{holds, cut, any_holds, kept, root_row, root_rows, child_rows, parts_rows}
use Rattle.links.proofs.Splices.{all_split}
use Rattle.links.specs.Working.{Small, Ends, Ready, ReadyPair, ReadyParts}

-- An expression's own command, and those of its parts.
abbrev head : Expr → PatternCommand
head (leaf c) = Leaf c
head (node c points ps) = Node c (count ps) points
head (sum a b) = Sum
head (product c a b) = Product c
head (closure c a) = Closure c

abbrev inner : Expr → List PatternCommand
inner (leaf c) = []
inner (node c points ps) = parts_commands ps
inner (sum a b) = commands a ++ commands b
inner (product c a b) = commands a ++ commands b
inner (closure c a) = commands a

commands_end : (e : Expr) → commands e ≡ inner e ++ head e ∷ []
commands_end (leaf c) = refl
commands_end (node c points ps) = refl
commands_end (sum a b) = sym (append_assoc (commands a) (commands b) (Sum ∷ []))
commands_end (product c a b) = sym (append_assoc (commands a) (commands b) (Product c ∷ []))
commands_end (closure c a) = refl

-- an expression has a command at least
pub some_command : (e : Expr) → 0 < length (commands e)
some_command e = omega (arith, ap length (commands_end e), length_push (inner e) (head e))

peel : (cs init before : List PatternCommand) (last : PatternCommand) (e : Expr) → cs ≡ init ++ last ∷ [] → Ends cs before e → (init ≡ before ++ inner e) × (last ≡ head e)
peel cs init before last e is ends =
    same_from_push init (before ++ inner e) last (head e)
    (sym is ∙ ends ∙ ap (λ l. before ++ l) (commands_end e) ∙ sym (append_assoc before (inner e) (head e ∷ [])))

-- two kinds of command are never equal
never : ◌≡◌ {A = ℕ} 0 1 → ⊥
never h = omega (arith, h)

is_leaf : (c : ℕ) (e : Expr) → Leaf c ≡ head e → e ≡ leaf c
is_leaf c (leaf d) h = cc
is_leaf c (node d points ps) h = cc
is_leaf c (sum a b) h = cc
is_leaf c (product d a b) h = cc
is_leaf c (closure d a) h = cc

is_node : (c rank points : ℕ) (e : Expr) → Node c rank points ≡ head e → (ps : Parts) × (e ≡ node c points ps) × (count ps ≡ rank)
is_node c rank points (leaf d) h = absurd (never (cc))
is_node c rank points (node d qoints ps) h = (ps, cc, cc)
is_node c rank points (sum a b) h = absurd (never (cc))
is_node c rank points (product d a b) h = absurd (never (cc))
is_node c rank points (closure d a) h = absurd (never (cc))

is_sum : (e : Expr) → Sum ≡ head e → (a : Expr) × (b : Expr) × (e ≡ sum a b)
is_sum (leaf d) h = absurd (never (cc))
is_sum (node d points ps) h = absurd (never (cc))
is_sum (sum a b) h = (a, b, refl)
is_sum (product d a b) h = absurd (never (cc))
is_sum (closure d a) h = absurd (never (cc))

is_product : (c : ℕ) (e : Expr) → Product c ≡ head e → (a : Expr) × (b : Expr) × (e ≡ product c a b)
is_product c (leaf d) h = absurd (never (cc))
is_product c (node d points ps) h = absurd (never (cc))
is_product c (sum a b) h = absurd (never (cc))
is_product c (product d a b) h = (a, b, cc)
is_product c (closure d a) h = absurd (never (cc))

is_closure : (c : ℕ) (e : Expr) → Closure c ≡ head e → (a : Expr) × (e ≡ closure c a)
is_closure c (leaf d) h = absurd (never (cc))
is_closure c (node d points ps) h = absurd (never (cc))
is_closure c (sum a b) h = absurd (never (cc))
is_closure c (product d a b) h = absurd (never (cc))
is_closure c (closure d a) h = (a, cc)

-- The numbers of a product are as many as those of its two parts.
pub product_length : (c : ℕ) (a b : Expr) → length (child_rows (product c a b)) ≡ length (child_rows a) + length (child_rows b)
product_length c a b =
    length-append (map (cut c (root_row b)) (child_rows a)) (kept reached (child_rows b))
    ∙ ap (λ n. n + length (kept reached (child_rows b))) (length-map (child_rows a) (cut c (root_row b)))
    ∙ ap (λ n. length (child_rows a) + n) (cond_both reached (child_rows b) (replicate (length (child_rows b)) 0) (λ l. length l ≡ length (child_rows b)) (λ _. refl) (λ _. length-replicate (length (child_rows b)) 0))
  where
    reached : Bool
    reached = holds c (root_row a) || any_holds c (child_rows a)

pub root_rows_length : (ps : Parts) → length (root_rows ps) ≡ count ps
root_rows_length no_parts = refl
root_rows_length (ps ▸ e) = length_push (root_rows ps) (root_row e) ∙ add-one (length (root_rows ps)) ∙ ap suc (root_rows_length ps)

module _ (cs init before : List PatternCommand) (last : PatternCommand) (e : Expr) (is : cs ≡ init ++ last ∷ []) (ends : Ends cs before e) where
  peeled : (init ≡ before ++ inner e) × (last ≡ head e)
  peeled = peel cs init before last e is ends

  pub peel_leaf : (c : ℕ) → last ≡ Leaf c → (e ≡ leaf c) × (init ≡ before)
  peel_leaf c kind =
      let k = is_leaf c e (sym kind ∙ peeled.1) in
      (k, peeled.0 ∙ ap (λ f. before ++ inner f) k ∙ append-nil before)

  pub peel_node : (c rank points : ℕ) → last ≡ Node c rank points → (ps : Parts) × (e ≡ node c points ps) × (count ps ≡ rank) × (init ≡ before ++ parts_commands ps)
  peel_node c rank points kind =
      let k = is_node c rank points e (sym kind ∙ peeled.1) in
      (k.0, k.1, k.2, peeled.0 ∙ ap (λ f. before ++ inner f) k.1)

  pub peel_sum : last ≡ Sum → (a : Expr) × (b : Expr) × (e ≡ sum a b) × Ends init (before ++ commands a) b
  peel_sum kind =
      let k = is_sum e (sym kind ∙ peeled.1) in
      (k.0, k.1, k.2, peeled.0 ∙ ap (λ f. before ++ inner f) k.2 ∙ sym (append_assoc before (commands k.0) (commands k.1)))

  pub peel_product : (c : ℕ) → last ≡ Product c → (a : Expr) × (b : Expr) × (e ≡ product c a b) × Ends init (before ++ commands a) b
  peel_product c kind =
      let k = is_product c e (sym kind ∙ peeled.1) in
      (k.0, k.1, k.2, peeled.0 ∙ ap (λ f. before ++ inner f) k.2 ∙ sym (append_assoc before (commands k.0) (commands k.1)))

  pub peel_closure : (c : ℕ) → last ≡ Closure c → (a : Expr) × (e ≡ closure c a) × Ends init before a
  peel_closure c kind =
      let k = is_closure c e (sym kind ∙ peeled.1) in
      (k.0, k.1, peeled.0 ∙ ap (λ f. before ++ inner f) k.1)

module _ (cs init : List PatternCommand) (last : PatternCommand) (room : ℕ) (ready : Ready cs room) (is : cs ≡ init ++ last ∷ []) where
  both_small : AllByRecursion Small init × AllByRecursion Small (last ∷ [])
  both_small = all_split Small init (last ∷ []) (subst (AllByRecursion Small) is ready.small)

  pub small_last : (kind : PatternCommand) → last ≡ kind → Small kind
  small_last kind same = subst Small same both_small.1.0

  module _ (c rank points : ℕ) (kind : last ≡ Node c rank points) where
    parts_of : (ps : Parts) × (ready.part ≡ node c points ps) × (count ps ≡ rank) × (init ≡ ready.before ++ parts_commands ps)
    parts_of = peel_node cs init ready.before last ready.part is ready.ends c rank points kind

    fits : length (parts_rows parts_of.0) + rank ≤ room
    fits =
        omega (
          arith,
          subst (λ f. length (child_rows f) ≤ room) parts_of.1 ready.fits,
          length-append (parts_rows parts_of.0) (root_rows parts_of.0),
          root_rows_length parts_of.0,
          parts_of.2,
        )

    pub own_fits : rank ≤ room
    own_fits = omega (arith, fits)

    pub ready_node : (below own : ℕ) → below ≡ room - rank → own + (room - rank) ≡ room → ReadyParts init below own
    ready_node below own front back = record {
      parts = parts_of.0;
      before = ready.before;
      all = omega (arith, parts_of.2, back, fits);
      ends = parts_of.3;
      fits = omega (arith, fits, front);
      small = both_small.0;
    }

  pub ready_sum : last ≡ Sum → ReadyPair init room
  ready_sum kind =
      let p = peel_sum cs init ready.before last ready.part is ready.ends kind in
      record {
        first = p.0;
        second = p.1;
        before = ready.before;
        ends = p.3;
        fits = omega (arith, subst (λ f. length (child_rows f) ≤ room) p.2 ready.fits, length-append (child_rows p.0) (child_rows p.1));
        small = both_small.0;
      }

  pub ready_product : (c : ℕ) → last ≡ Product c → ReadyPair init room
  ready_product c kind =
      let p = peel_product cs init ready.before last ready.part is ready.ends c kind in
      record {
        first = p.0;
        second = p.1;
        before = ready.before;
        ends = p.3;
        fits = omega (arith, subst (λ f. length (child_rows f) ≤ room) p.2 ready.fits, product_length c p.0 p.1);
        small = both_small.0;
      }

  pub ready_closure : (c : ℕ) → last ≡ Closure c → Ready init room
  ready_closure c kind =
      let p = peel_closure cs init ready.before last ready.part is ready.ends c kind in
      record {
        part = p.0;
        before = ready.before;
        ends = p.2;
        fits = omega (arith, subst (λ f. length (child_rows f) ≤ room) p.1 ready.fits, length-map (child_rows p.0) (cut c (root_row (closure c p.0))));
        small = both_small.0;
      }
