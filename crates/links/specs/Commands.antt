-- The commands of a numbered pattern, told from the commands of the pattern one after another: each gets the number
-- of the position that it names, among those named before it. Assumes nothing.
use Rattle.std.specs.Prelude.{◌≡◌, List, [], ◌∷◌, ◌++◌, length, refl}
use Rattle.format.specs.declared.command.PatternCommand.{PatternCommand}
use Rattle.format.specs.declared.command.PatternCommand.TheVariants.{Sum, Leaf, Node, Product, Closure}
use Rattle.pattern.specs.declared.position.Position.{Position}
use Rattle.pattern.specs.Expressions.{commands}
use Rattle.pattern.specs.Positions.{new_position}
use Rattle.links.specs.Numbering.{constant_number, numbered, sample}

abbrev pub numbered_command : List Position → PatternCommand → PatternCommand
numbered_command ps (Leaf code) = Leaf (constant_number code ps)
numbered_command ps (Node code rank points) = Node (length ps) rank points
numbered_command ps Sum = Sum
numbered_command ps (Product code) = Product (constant_number code ps)
numbered_command ps (Closure code) = Closure (constant_number code ps)

abbrev pub numbered_commands : List Position → List PatternCommand → List PatternCommand
numbered_commands ps [] = []
numbered_commands ps (c ∷ cs) = numbered_command ps c ∷ numbered_commands (ps ++ new_position c ps) cs

sample_commands : numbered_commands [] (commands sample) ≡ commands (numbered sample)
sample_commands = refl
