-- Commands taken apart by their bytes: what the readers of specs/Reading.antt answer, said by index and
-- length, as the code meets them. Each is by cases on the first bytes. Assumes nothing.
use Rattle.std.proofs.Common.{◌≡◌, ℕ, ◌≤◌, List, [], ◌∷◌, length, get_or, drop, Ok, refl, ap, ◌∙◌, arith}
use Rattle.format.specs.declared.command.PatternCommand.TheVariants.{Sum, Node}
use Rattle.format.specs.declared.command.MapCommand.TheVariants as mapped
use Rattle.format.specs.Reading.{code_of, rank_of, then, lone_code, pattern_lettered, pattern_first, map_lettered, map_first}

-- a code alone, behind the letter
pub lone_code_is : (at : ℕ) (bs : List ℕ) → 3 ≤ length bs → lone_code at (drop 1 bs) ≡ code_of at (get_or bs 1 0) (get_or bs 2 0)
lone_code_is at [] h = absurd (omega arith)
lone_code_is at (a ∷ []) h = absurd (omega arith)
lone_code_is at (a ∷ b ∷ []) h = absurd (omega arith)
lone_code_is at (a ∷ b ∷ c ∷ bs) h = refl

pub sum_is : (at : ℕ) (bs : List ℕ) → 1 ≤ length bs → get_or bs 0 0 ≡ 43 → pattern_first at bs ≡ Ok Sum
sum_is at [] h e = absurd (omega arith)
sum_is at (a ∷ bs) h e = ap (λ letter. pattern_lettered at letter bs) e

pub node_is : (at : ℕ) (bs : List ℕ) (code rank : ℕ) → 5 ≤ length bs → get_or bs 0 0 ≡ 78 → code_of at (get_or bs 1 0) (get_or bs 2 0) ≡ Ok code → rank_of at (get_or bs 3 0) ≡ Ok rank → pattern_first at bs ≡ Ok (Node code rank (get_or bs 4 0))
node_is at [] code rank h e p q = absurd (omega arith)
node_is at (a ∷ []) code rank h e p q = absurd (omega arith)
node_is at (a ∷ b ∷ []) code rank h e p q = absurd (omega arith)
node_is at (a ∷ b ∷ c ∷ []) code rank h e p q = absurd (omega arith)
node_is at (a ∷ b ∷ c ∷ d ∷ []) code rank h e p q = absurd (omega arith)
node_is at (a ∷ b ∷ c ∷ d ∷ f ∷ bs) code rank h e p q =
    ap (λ letter. pattern_lettered at letter (b ∷ c ∷ d ∷ f ∷ bs)) e
    ∙ ap (λ r. then r (λ x. then (rank_of at d) (λ y. Ok (Node x y f)))) p
    ∙ ap (λ r. then r (λ y. Ok (Node code y f))) q

pub map_node_is : (at : ℕ) (bs : List ℕ) (code rank : ℕ) → 4 ≤ length bs → get_or bs 0 0 ≡ 75 → code_of at (get_or bs 1 0) (get_or bs 2 0) ≡ Ok code → rank_of at (get_or bs 3 0) ≡ Ok rank → map_first at bs ≡ Ok (mapped.Node code rank)
map_node_is at [] code rank h e p q = absurd (omega arith)
map_node_is at (a ∷ []) code rank h e p q = absurd (omega arith)
map_node_is at (a ∷ b ∷ []) code rank h e p q = absurd (omega arith)
map_node_is at (a ∷ b ∷ c ∷ []) code rank h e p q = absurd (omega arith)
map_node_is at (a ∷ b ∷ c ∷ d ∷ bs) code rank h e p q =
    ap (λ letter. map_lettered at letter (b ∷ c ∷ d ∷ bs)) e
    ∙ ap (λ r. then r (λ x. then (rank_of at d) (λ y. Ok (mapped.Node x y)))) p
    ∙ ap (λ r. then r (λ y. Ok (mapped.Node code y))) q
