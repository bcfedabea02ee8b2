-- Two different expressions never have the same bytes. A command is known by its bytes, whatever lies behind
-- them; so commands are known by theirs, and an expression by its commands. Assumes nothing.
use Rattle.std.proofs.Common.{◌≡◌, ℕ, List, [], ◌∷◌, ◌++◌, length, sym, refl, ap, ◌∙◌, subst, div-add-mod', arith}
use Rattle.std.proofs.lemmas.List.{append_cancel_left, length-append}
use Rattle.format.specs.declared.command.PatternCommand.{PatternCommand}
use Rattle.format.specs.declared.command.PatternCommand.TheVariants.{Sum, Leaf, Node, Product, Closure}
use Rattle.format.specs.Commands.{pattern_bytes}
use Rattle.pattern.specs.Expressions.{Expr, commands, spell, encode}
use Rattle.pattern.specs.Refusals.{spelled}
use Rattle.format.proofs.FileCommands.{pattern_some}
use Rattle.pattern.proofs.Stack.{commands_known}

-- a command is what its bytes spell
spelled_is : (c : PatternCommand) (rest : List ℕ) → spelled (pattern_bytes c ++ rest) ≡ c
spelled_is Sum rest = refl
spelled_is (Leaf code) rest = ap Leaf (div-add-mod' code 256)
spelled_is (Node code rank points) rest = ap (λ n. Node n rank points) (div-add-mod' code 256)
spelled_is (Product code) rest = ap Product (div-add-mod' code 256)
spelled_is (Closure code) rest = ap Closure (div-add-mod' code 256)

nothing : (c : PatternCommand) (rest : List ℕ) → [] ≡ pattern_bytes c ++ rest → ⊥
nothing c rest h = omega (arith, ap length h, length-append (pattern_bytes c) rest, pattern_some c)

spell_known : (cs ds : List PatternCommand) → spell cs ≡ spell ds → cs ≡ ds
spell_known [] [] h = refl
spell_known [] (d ∷ ds) h = absurd (nothing d (spell ds) h)
spell_known (c ∷ cs) [] h = absurd (nothing c (spell cs) (sym h))
spell_known (c ∷ cs) (d ∷ ds) h =
    let same = sym (spelled_is c (spell cs)) ∙ ap spelled h ∙ spelled_is d (spell ds) in
    let rest = append_cancel_left (pattern_bytes d) (spell cs) (spell ds) (subst (λ x. pattern_bytes x ++ spell cs ≡ pattern_bytes d ++ spell ds) same h) in
    ap (λ x. x ∷ cs) same ∙ ap (λ l. d ∷ l) (spell_known cs ds rest)

pub one_meaning : (e f : Expr) → encode e ≡ encode f → e ≡ f
one_meaning e f h = commands_known e f (spell_known (commands e) (commands f) h)
