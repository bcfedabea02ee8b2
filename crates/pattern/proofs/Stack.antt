-- Commands build expressions on a stack of parts: each command takes its parts from the end of the stack and
-- leaves one expression there. Building undoes the listing of commands, and listing undoes the building where
-- no command takes more parts than there are. By induction on the expression, and on the commands.
-- Assumes nothing.
use Rattle.std.proofs.Common.{◌≡◌, ℕ, zero, suc, ◌+◌, ◌-◌, ◌≤◌, List, [], ◌∷◌, ◌++◌, sym, refl, ap, ◌∙◌, append_assoc, append-nil, arith}
use Rattle.format.specs.declared.command.PatternCommand.{PatternCommand}
use Rattle.format.specs.declared.command.PatternCommand.TheVariants.{Sum, Leaf, Node, Product, Closure}
use Rattle.format.specs.Commands.{takes}
use Rattle.pattern.specs.Expressions.{Expr, leaf, node, sum, product, closure, Parts, no_parts, ◌▸◌, count, commands, parts_commands}

-- The last part and those before it; an empty stack has a leaf 0 there, which no theorem meets.
abbrev last : Parts → Expr
last no_parts = leaf 0
last (ps ▸ e) = e

abbrev front : Parts → Parts
front no_parts = no_parts
front (ps ▸ e) = ps

-- The last n parts, and those below them.
abbrev above : ℕ → Parts → Parts
above zero ps = no_parts
above (suc n) ps = above n (front ps) ▸ last ps

abbrev below : ℕ → Parts → Parts
below zero ps = ps
below (suc n) ps = below n (front ps)

abbrev pub push : Parts → PatternCommand → Parts
push ps (Leaf code) = ps ▸ leaf code
push ps (Node code rank points) = below rank ps ▸ node code points (above rank ps)
push ps Sum = front (front ps) ▸ sum (last (front ps)) (last ps)
push ps (Product code) = front (front ps) ▸ product code (last (front ps)) (last ps)
push ps (Closure code) = front ps ▸ closure code (last ps)

abbrev pub build : Parts → List PatternCommand → Parts
build ps [] = ps
build ps (c ∷ cs) = build (push ps c) cs

-- Parts on top of others.
abbrev ◌⊕◌ : Parts → Parts → Parts
◌⊕◌ ps no_parts = ps
◌⊕◌ ps (qs ▸ e) = ◌⊕◌ ps qs ▸ e

below_count : (ps qs : Parts) → below (count qs) (◌⊕◌ ps qs) ≡ ps
below_count ps no_parts = refl
below_count ps (qs ▸ e) = below_count ps qs

above_count : (ps qs : Parts) → above (count qs) (◌⊕◌ ps qs) ≡ qs
above_count ps no_parts = refl
above_count ps (qs ▸ e) = ap (λ rs. rs ▸ e) (above_count ps qs)

-- The commands of an expression leave it on the stack.
mutual
  pub built : (e : Expr) (ps : Parts) (cs : List PatternCommand) → build ps (commands e ++ cs) ≡ build (ps ▸ e) cs
  built (leaf code) ps cs = refl
  built (node code points qs) ps cs =
      ap (build ps) (append_assoc (parts_commands qs) (Node code (count qs) points ∷ []) cs)
      ∙ built_parts qs ps (Node code (count qs) points ∷ cs)
      ∙ ap (λ rs. build (rs ▸ node code points (above (count qs) (◌⊕◌ ps qs))) cs) (below_count ps qs)
      ∙ ap (λ rs. build (ps ▸ node code points rs) cs) (above_count ps qs)
  built (sum a b) ps cs =
      ap (build ps) (append_assoc (commands a) (commands b ++ Sum ∷ []) cs)
      ∙ built a ps ((commands b ++ Sum ∷ []) ++ cs)
      ∙ ap (build (ps ▸ a)) (append_assoc (commands b) (Sum ∷ []) cs)
      ∙ built b (ps ▸ a) (Sum ∷ cs)
  built (product code a b) ps cs =
      ap (build ps) (append_assoc (commands a) (commands b ++ Product code ∷ []) cs)
      ∙ built a ps ((commands b ++ Product code ∷ []) ++ cs)
      ∙ ap (build (ps ▸ a)) (append_assoc (commands b) (Product code ∷ []) cs)
      ∙ built b (ps ▸ a) (Product code ∷ cs)
  built (closure code a) ps cs =
      ap (build ps) (append_assoc (commands a) (Closure code ∷ []) cs)
      ∙ built a ps (Closure code ∷ cs)

  built_parts : (qs : Parts) (ps : Parts) (cs : List PatternCommand) → build ps (parts_commands qs ++ cs) ≡ build (◌⊕◌ ps qs) cs
  built_parts no_parts ps cs = refl
  built_parts (qs ▸ e) ps cs =
      ap (build ps) (append_assoc (parts_commands qs) (commands e) cs)
      ∙ built_parts qs ps (commands e ++ cs)
      ∙ built e (◌⊕◌ ps qs) cs

-- An expression is known by its commands.
pub commands_known : (e f : Expr) → commands e ≡ commands f → e ≡ f
commands_known e f h =
    let one : (g : Expr) → build no_parts (commands g) ≡ no_parts ▸ g = λ g. ap (build no_parts) (sym (append-nil (commands g))) ∙ built g no_parts [] in
    ap last (sym (one e) ∙ ap (build no_parts) h ∙ one f)

-- The other way round.
split : (n : ℕ) (ps : Parts) → n ≤ count ps → parts_commands (below n ps) ++ parts_commands (above n ps) ≡ parts_commands ps
split zero ps h = append-nil (parts_commands ps)
split (suc n) no_parts h = absurd (omega arith)
split (suc n) (ps ▸ e) h =
    sym (append_assoc (parts_commands (below n ps)) (parts_commands (above n ps)) (commands e)) ∙ ap (λ l. l ++ commands e) (split n ps (omega arith))

count_above : (n : ℕ) (ps : Parts) → count (above n ps) ≡ n
count_above zero ps = refl
count_above (suc n) ps = ap suc (count_above n (front ps))

count_below : (n : ℕ) (ps : Parts) → n ≤ count ps → n + count (below n ps) ≡ count ps
count_below zero ps h = omega arith
count_below (suc n) no_parts h = absurd (omega arith)
count_below (suc n) (ps ▸ e) h = omega (arith, count_below n ps (omega arith))

two : (ps : Parts) (a b : Expr) (c : PatternCommand) → parts_commands ps ++ (commands a ++ (commands b ++ c ∷ [])) ≡ ((parts_commands ps ++ commands a) ++ commands b) ++ c ∷ []
two ps a b c =
    sym (append_assoc (parts_commands ps) (commands a) (commands b ++ c ∷ []))
    ∙ sym (append_assoc (parts_commands ps ++ commands a) (commands b) (c ∷ []))

pub pushed_commands : (ps : Parts) (c : PatternCommand) → takes c ≤ count ps → parts_commands (push ps c) ≡ parts_commands ps ++ c ∷ []
pushed_commands ps (Leaf code) h = refl
pushed_commands ps (Node code rank points) h =
    sym (append_assoc (parts_commands (below rank ps)) (parts_commands (above rank ps)) (Node code (count (above rank ps)) points ∷ []))
    ∙ ap (λ l. l ++ Node code (count (above rank ps)) points ∷ []) (split rank ps h)
    ∙ ap (λ n. parts_commands ps ++ Node code n points ∷ []) (count_above rank ps)
pushed_commands no_parts Sum h = absurd (omega arith)
pushed_commands (no_parts ▸ b) Sum h = absurd (omega arith)
pushed_commands ((ps ▸ a) ▸ b) Sum h = two ps a b Sum
pushed_commands no_parts (Product code) h = absurd (omega arith)
pushed_commands (no_parts ▸ b) (Product code) h = absurd (omega arith)
pushed_commands ((ps ▸ a) ▸ b) (Product code) h = two ps a b (Product code)
pushed_commands no_parts (Closure code) h = absurd (omega arith)
pushed_commands (ps ▸ a) (Closure code) h = sym (append_assoc (parts_commands ps) (commands a) (Closure code ∷ []))

pub pushed_count : (ps : Parts) (c : PatternCommand) → takes c ≤ count ps → count (push ps c) ≡ count ps - takes c + 1
pushed_count ps (Leaf code) h = omega arith
pushed_count ps (Node code rank points) h = omega (arith, count_below rank ps h)
pushed_count no_parts Sum h = absurd (omega arith)
pushed_count (no_parts ▸ b) Sum h = absurd (omega arith)
pushed_count ((ps ▸ a) ▸ b) Sum h = omega arith
pushed_count no_parts (Product code) h = absurd (omega arith)
pushed_count (no_parts ▸ b) (Product code) h = absurd (omega arith)
pushed_count ((ps ▸ a) ▸ b) (Product code) h = omega arith
pushed_count no_parts (Closure code) h = absurd (omega arith)
pushed_count (ps ▸ a) (Closure code) h = omega arith
