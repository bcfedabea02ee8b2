-- A command is known by its entry, and commands by their entries: the entry tells the command again.
-- Assumes nothing.
use Rattle.std.proofs.Common.{◌≡◌, cond, eqb, List, [], ◌∷◌, map, sym, refl, ap, ◌∙◌}
use Rattle.format.specs.declared.command.PatternCommand.{PatternCommand}
use Rattle.format.specs.declared.command.PatternCommand.TheVariants.{Sum, Leaf, Node, Product, Closure}
use Rattle.format.specs.declared.entry.Entry.{Entry}
use Rattle.format.specs.Entries.{entry_of}

command_in : Entry → PatternCommand
command_in e =
    cond (eqb e.kind 76) (Leaf e.code)
    (cond (eqb e.kind 78) (Node e.code e.rank e.points)
    (cond (eqb e.kind 46) (Product e.code) (cond (eqb e.kind 42) (Closure e.code) Sum)))

command_is : (c : PatternCommand) → command_in (entry_of c) ≡ c
unfolding command_in
command_is Sum = refl
command_is (Leaf code) = refl
command_is (Node code rank points) = refl
command_is (Product code) = refl
command_is (Closure code) = refl

pub entry_known : (c d : PatternCommand) → entry_of c ≡ entry_of d → c ≡ d
entry_known c d h = sym (command_is c) ∙ ap command_in h ∙ command_is d

commands_are : (cs : List PatternCommand) → map command_in (map entry_of cs) ≡ cs
commands_are [] = refl
commands_are (c ∷ cs) = ap (λ d. d ∷ map command_in (map entry_of cs)) (command_is c) ∙ ap (λ l. c ∷ l) (commands_are cs)

pub entries_known : (cs ds : List PatternCommand) → map entry_of cs ≡ map entry_of ds → cs ≡ ds
entries_known cs ds h = sym (commands_are cs) ∙ ap (map command_in) h ∙ commands_are ds
