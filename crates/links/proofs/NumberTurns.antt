-- Numbering the commands of a table, one after another: what is numbered so far is the front of the numbered
-- pattern's commands. Assumes nothing.
use Rattle.std.proofs.Common.{◌≡◌, ℕ, ◌+◌, ◌<◌, ◌≤◌, List, [], ◌∷◌, ◌++◌, length, get_or, take, drop, sym, refl, ap, ◌∙◌, arith}
use Rattle.std.proofs.ByRecursion.{All-get_or}
use Rattle.std.proofs.lemmas.List.{length-map, length_push, get_or-map, take_more, take_all, take-append-drop}
use Rattle.std.specs.List.{AllByRecursion}
use Rattle.format.specs.declared.command.PatternCommand.{PatternCommand}
use Rattle.format.specs.declared.command.PatternCommand.TheVariants.{Sum, Node, Product, Closure}
use Rattle.format.specs.declared.entry.Entry.{Entry}
use Rattle.format.specs.Commands.{PatternOperands}
use Rattle.format.specs.Entries.{entry_of}
use Rattle.format.proofs.EntryKnown.{entry_known, entries_known}
use Rattle.pattern.specs.declared.position.Position.{Position}
use Rattle.pattern.specs.Expressions.{Expr, leaf, node, sum, product, closure, Parts, no_parts, ◌▸◌, count, commands, parts_commands, table}
use Rattle.pattern.specs.Positions.{new_position, positions_after, positions}
use Rattle.pattern.proofs.Stack.{commands_known}
use Rattle.links.specs.Commands.{numbered_command, numbered_commands}
use Rattle.links.specs.Numbering.{numbered_behind, parts_behind, numbered}
use Rattle.links.proofs.Naming.{after_length, after_append, after_one}
use Rattle.links.proofs.NumberedFine.{count_behind}

-- a pattern is known by its table
pub table_known : (e f : Expr) → table e ≡ table f → e ≡ f
table_known e f h = commands_known e f (entries_known (commands e) (commands f) h)

-- the numbered commands of a pattern are the commands of the numbered pattern
numbered_append : (cs ds : List PatternCommand) (ps : List Position) → numbered_commands ps (cs ++ ds) ≡ numbered_commands ps cs ++ numbered_commands (positions_after ps cs) ds
numbered_append [] ds ps = refl
numbered_append (c ∷ cs) ds ps = ap (λ l. numbered_command ps c ∷ l) (numbered_append cs ds (ps ++ new_position c ps))

numbered_two : (cs ds : List PatternCommand) (c : PatternCommand) (ps : List Position) → numbered_commands ps (cs ++ (ds ++ c ∷ [])) ≡ numbered_commands ps cs ++ (numbered_commands (positions_after ps cs) ds ++ numbered_command (positions_after (positions_after ps cs) ds) c ∷ [])
numbered_two cs ds c ps =
    numbered_append cs (ds ++ c ∷ []) ps ∙ ap (λ l. numbered_commands ps cs ++ l) (numbered_append ds (c ∷ []) (positions_after ps cs))

mutual
  commands_behind : (e : Expr) (ps : List Position) → numbered_commands ps (commands e) ≡ commands (numbered_behind e ps)
  commands_behind (leaf c) ps = refl
  commands_behind (node c points qs) ps =
      numbered_append (parts_commands qs) (Node c (count qs) points ∷ []) ps
      ∙ ap (λ l. l ++ Node (length (positions_after ps (parts_commands qs))) (count qs) points ∷ []) (parts_commands_behind qs ps)
      ∙ ap (λ n. parts_commands (parts_behind qs ps) ++ Node (length (positions_after ps (parts_commands qs))) n points ∷ []) (sym (count_behind qs ps))
  commands_behind (sum a b) ps =
      numbered_two (commands a) (commands b) Sum ps
      ∙ ap (λ l. l ++ (numbered_commands (positions_after ps (commands a)) (commands b) ++ Sum ∷ [])) (commands_behind a ps)
      ∙ ap (λ l. commands (numbered_behind a ps) ++ (l ++ Sum ∷ [])) (commands_behind b (positions_after ps (commands a)))
  commands_behind (product c a b) ps =
      let last = numbered_command (positions_after (positions_after ps (commands a)) (commands b)) (Product c) in
      numbered_two (commands a) (commands b) (Product c) ps
      ∙ ap (λ l. l ++ (numbered_commands (positions_after ps (commands a)) (commands b) ++ last ∷ [])) (commands_behind a ps)
      ∙ ap (λ l. commands (numbered_behind a ps) ++ (l ++ last ∷ [])) (commands_behind b (positions_after ps (commands a)))
  commands_behind (closure c a) ps =
      numbered_append (commands a) (Closure c ∷ []) ps
      ∙ ap (λ l. l ++ numbered_command (positions_after ps (commands a)) (Closure c) ∷ []) (commands_behind a ps)

  parts_commands_behind : (qs : Parts) (ps : List Position) → numbered_commands ps (parts_commands qs) ≡ parts_commands (parts_behind qs ps)
  parts_commands_behind no_parts ps = refl
  parts_commands_behind (qs ▸ e) ps =
      numbered_append (parts_commands qs) (commands e) ps
      ∙ ap (λ l. l ++ numbered_commands (positions_after ps (parts_commands qs)) (commands e)) (parts_commands_behind qs ps)
      ∙ ap (λ l. parts_commands (parts_behind qs ps) ++ l) (commands_behind e (positions_after ps (parts_commands qs)))

-- How far the numbering of the commands `cs` has come: the first i are numbered, and they name the positions `ps`.
pub record Counted (cs : List PatternCommand) (i : ℕ) (ps : List Position) (numbered : List PatternCommand) : Type 0 where
  pub names : ps ≡ positions (take i cs)
  pub many : length numbered ≡ i
  pub front : numbered ≡ numbered_commands [] (take i cs)

-- the positions of all commands begin with those of the first, and are no fewer
fewer_first : (cs : List PatternCommand) (i : ℕ) → length (positions (take i cs)) ≤ length (positions cs)
fewer_first cs i =
    let whole : positions_after (positions (take i cs)) (drop i cs) ≡ positions cs = sym (after_append (take i cs) (drop i cs) []) ∙ ap positions (take-append-drop i cs) in
    omega (arith, ap length whole, after_length (positions (take i cs)) (drop i cs))

module _ (cs : List PatternCommand) (i : ℕ) (ps : List Position) (numbered : List PatternCommand) (so : Counted cs i ps numbered) (c : PatternCommand) (h : i < length cs) (is : get_or cs i Sum ≡ c) where
  more : take (i + 1) cs ≡ take i cs ++ c ∷ []
  more = take_more cs i Sum h ∙ ap (λ d. take i cs ++ d ∷ []) is

  after : ps ++ new_position c ps ≡ positions (take (i + 1) cs)
  after = ap (λ l. l ++ new_position c l) so.names ∙ sym (after_one (take i cs) c []) ∙ ap positions (sym more)

  pub next_within : length (ps ++ new_position c ps) ≤ length (positions cs)
  next_within = omega (arith, ap length after, fewer_first cs (i + 1))

  pub one_numbered : Counted cs (i + 1) (ps ++ new_position c ps) (numbered ++ numbered_command ps c ∷ [])
  one_numbered = record {
    names = after;
    many = omega (arith, length_push numbered (numbered_command ps c), so.many);
    front =
        ap (λ l. l ++ numbered_command ps c ∷ []) so.front
        ∙ ap (λ l. numbered_commands [] (take i cs) ++ numbered_command l c ∷ []) so.names
        ∙ sym (numbered_append (take i cs) (c ∷ []) [])
        ∙ ap (numbered_commands []) (sym more);
  }

-- all are numbered
pub all_numbered : (e : Expr) (i : ℕ) (ps : List Position) (numbers : List PatternCommand) → Counted (commands e) i ps numbers → length (commands e) ≤ i → numbers ≡ commands (numbered e)
all_numbered e i ps numbers so long =
    so.front
    ∙ ap (numbered_commands []) (take_all i (commands e) long)
    ∙ commands_behind e []

pub as_many : (e : Expr) (entries : List Entry) → entries ≡ table e → length entries ≡ length (commands e)
as_many e entries is = ap length is ∙ length-map (commands e) entry_of

-- the command of an entry of a pattern's table
module _ (e : Expr) (entries : List Entry) (is : entries ≡ table e) (i : ℕ) (h : i < length entries) where
  entry_there : (d : Entry) → get_or entries i d ≡ entry_of (get_or (commands e) i Sum)
  entry_there d = ap (λ l. get_or l i d) is ∙ get_or-map entry_of (commands e) i Sum d (omega (arith, as_many e entries is))

  pub command_there : (d : Entry) (c : PatternCommand) → get_or entries i d ≡ entry_of c → get_or (commands e) i Sum ≡ c
  command_there d c k = entry_known (get_or (commands e) i Sum) c (sym (entry_there d) ∙ k)

  pub no_fault : (d : Entry) → AllByRecursion PatternOperands (commands e) → ((c : PatternCommand) → PatternOperands c → get_or entries i d ≡ entry_of c → ⊥) → ⊥
  no_fault d ops wrong =
      wrong (get_or (commands e) i Sum) (All-get_or PatternOperands (commands e) i Sum (omega (arith, as_many e entries is)) ops) (entry_there d)
