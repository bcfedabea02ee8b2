-- What reading a pattern file promises, in terms of expressions: which files are accepted, what the table then
-- holds, and which fault a refused file has. Assumes nothing.
use Rattle.std.specs.Prelude.{◌≡◌, ℕ, ◌-◌, ◌<◌, ◌≤◌, min, ◌⊎◌, List, [], ◌∷◌, ◌++◌, map, length, drop, Ok, Err, Result, ◌≢◌}
use Rattle.std.specs.List.{AllByRecursion}
use Rattle.format.specs.declared.command.PatternCommand.{PatternCommand}
use Rattle.format.specs.declared.entry.Entry.{Entry}
use Rattle.format.specs.declared.fault.ByteFault.TheVariants.{FileTooLong}
use Rattle.format.specs.declared.fault.PatternFault.{PatternFault}
use Rattle.format.specs.declared.fault.PatternFault.TheVariants.{Bytes, NotOnePart}
use Rattle.format.specs.Commands.{takes, PatternOperands}
use Rattle.format.specs.Entries.{entry_of}
use Rattle.pattern.specs.Expressions.{Expr, commands, spell, encode, table}
use Rattle.pattern.specs.Judging.{Standing, start, after, standing}
use Rattle.pattern.specs.Positions.{positions}
use Rattle.pattern.specs.Refusals.{First, refusals}

-- The limits of a pattern: its codes, ranks and points, 512 commands, 64 positions, and the caller's table.
pub record Limits (room : ℕ) (e : Expr) : Type 0 where
  pub operands : AllByRecursion PatternOperands (commands e)
  pub few_commands : length (commands e) ≤ 512
  pub fits_table : length (commands e) ≤ room
  pub few_positions : length (positions (commands e)) ≤ 64

-- The file is the bytes of a pattern within the limits, `n` is the number of its commands, and the table, which
-- was `before`, holds its entries and is otherwise unchanged. There is no other such pattern.
pub record Accepted (file : List ℕ) (before now : List Entry) (n : ℕ) : Type 0 where
  pub pattern : Expr
  pub limits : Limits (length before) pattern
  pub bytes : file ≡ encode pattern
  pub number : n ≡ length (commands pattern)
  pub filled : now ≡ table pattern ++ drop n before
  pub alone : (e : Expr) → file ≡ encode e → e ≡ pattern

-- Commands that are in order one after another, behind commands that amount to `s`, with `free` entries left:
-- each has operands that it may have, takes no more parts than are pending, leaves at most 64 positions named,
-- and finds an entry free.
abbrev pub InOrderFrom : ℕ → Standing → List PatternCommand → Type 0
InOrderFrom free s [] = Unit {0}
InOrderFrom free s (c ∷ cs) =
    PatternOperands c × (takes c ≤ s.pending) × (length (after s c).positions ≤ 64) × (0 < free) × InOrderFrom (free - 1) (after s c) cs

abbrev pub InOrder : ℕ → List PatternCommand → Type 0
InOrder room cs = InOrderFrom (min room 512) start cs

-- The fault `f` is met where the commands `before` are read and `rest` is left: the first refusal that fits the
-- next command, or at the end of the file that other than one part is pending.
abbrev pub Met : ℕ → List ℕ → List PatternCommand → List ℕ → PatternFault → Type 0
Met room file before [] f = ((standing before).pending ≢ 1) × (f ≡ NotOnePart (length file) (standing before).pending)
Met room file before (b ∷ bs) f = First (refusals (min room 512 - length before) (length (spell before)) (standing before) (b ∷ bs)) f

-- The first fault of a file that is not too long: the file begins with commands that are in order, and the fault is
-- met behind them.
pub record FirstFault (room : ℕ) (file : List ℕ) (f : PatternFault) : Type 0 where
  pub before : List PatternCommand
  pub rest : List ℕ
  pub short : length file ≤ 65536
  pub begins : file ≡ spell before ++ rest
  pub in_order : InOrder room before
  pub met : Met room file before rest f

-- The file is refused with `f`, that it is too long or its first fault, and is indeed no pattern within the limits.
pub record Refused (room : ℕ) (file : List ℕ) (f : PatternFault) : Type 0 where
  pub fault : ((65536 < length file) × (f ≡ Bytes FileTooLong)) ⊎ FirstFault room file f
  pub no_pattern : (e : Expr) → Limits room e → file ≢ encode e

-- The answer, and what the table then holds, by what the file is judged to be.
abbrev pub counted : Result (List PatternCommand) PatternFault → Result ℕ PatternFault
counted (Ok cs) = Ok (length cs)
counted (Err f) = Err f

abbrev pub filled_by : Result (List PatternCommand) PatternFault → List Entry → List Entry
filled_by (Ok cs) entries = map entry_of cs ++ drop (length cs) entries
filled_by (Err f) entries = entries

-- The entries are the table of a pattern within the limits, whose commands amount to `s`: one part is pending, and
-- the positions are those that the pattern names.
pub record TableOf (entries : List Entry) (s : Standing) : Type 0 where
  pub pattern : Expr
  pub limits : Limits 512 pattern
  pub holds : entries ≡ table pattern
  pub amounts : s ≡ standing (commands pattern)
  pub one : s.pending ≡ 1
  pub named : s.positions ≡ positions (commands pattern)

-- The entries are the table of no pattern within the limits.
abbrev pub NoTable : List Entry → Type 0
NoTable entries = (e : Expr) → Limits 512 e → entries ≢ table e
