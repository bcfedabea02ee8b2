-- Commands and faults in words. Assumes nothing.
use Rattle.std.specs.Prelude.{ℕ, List, ◌++◌, codes, decimal}
use Rattle.format.specs.declared.command.PatternCommand.{PatternCommand}
use Rattle.format.specs.declared.command.PatternCommand.TheVariants.{Sum, Leaf, Node, Product, Closure}
use Rattle.format.specs.declared.fault.ByteFault.{ByteFault}
use Rattle.format.specs.declared.fault.ByteFault.TheVariants.{FileTooLong, NoCommand, OperandsMissing, CodeZero, RankOutside}
use Rattle.format.specs.declared.fault.PatternFault.{PatternFault}
use Rattle.format.specs.declared.fault.PatternFault.TheVariants.{Bytes, PartsMissing, NotOnePart, PositionsFull, TableFull}

-- A command in words.
abbrev pub command_words : PatternCommand → List ℕ
command_words (Leaf code) = codes "leaf " ++ decimal code
command_words (Node code rank points) = codes "node " ++ (decimal code ++ (codes ", rank " ++ (decimal rank ++ (codes ", points " ++ decimal points))))
command_words Sum = codes "sum"
command_words (Product code) = codes "product at " ++ decimal code
command_words (Closure code) = codes "closure at " ++ decimal code

-- What is wrong, in a sentence.
abbrev pub byte_sentence : ByteFault → List ℕ
byte_sentence FileTooLong = codes "The file has more than 65536 bytes."
byte_sentence (NoCommand at) = codes "No pattern command begins at byte " ++ (decimal at ++ codes ": expected L, N, +, . or *.")
byte_sentence (OperandsMissing at) = codes "The file ends inside the operands of the command at byte " ++ (decimal at ++ codes ".")
byte_sentence (CodeZero at) = codes "The command at byte " ++ (decimal at ++ codes " has the code 0: a code is 1 to 65535.")
byte_sentence (RankOutside at) = codes "The node at byte " ++ (decimal at ++ codes " has a rank outside 1 to 4.")

abbrev pub sentence : PatternFault → List ℕ
sentence (Bytes fault) = byte_sentence fault
sentence (PartsMissing at) = codes "The command at byte " ++ (decimal at ++ codes " takes more parts than are pending.")
sentence (NotOnePart at pending) = codes "The file ends at byte " ++ (decimal at ++ (codes " with " ++ (decimal pending ++ codes " parts pending: a pattern is one part.")))
sentence (PositionsFull at) = codes "The command at byte " ++ (decimal at ++ codes " names a 65th position: a pattern has at most 64.")
sentence (TableFull at) = codes "The command at byte " ++ (decimal at ++ codes " finds no entry free in the table: a pattern has at most 512 commands.")
