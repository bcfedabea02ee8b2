-- Lines are added one after another: a turn of the loop over the commands, and of that over the positions.
-- Assumes nothing.
use Rattle.std.proofs.Common.{◌≡◌, ℕ, ◌+◌, ◌*◌, ◌<◌, ◌≤◌, List, [], ◌∷◌, ◌++◌, map, length, get_or, take, sym, refl, ap, ◌∙◌, append_assoc, append-nil, add-zero, add_assoc, arith}
use Rattle.std.proofs.lemmas.List.{take_more, map_push, length_push, length-append, length-map, length-take-le, get_or-map}
use Rattle.std.proofs.ByRecursion.{All-get_or}
use Rattle.std.specs.List.{AllByRecursion}
use Rattle.format.specs.declared.command.PatternCommand.{PatternCommand}
use Rattle.format.specs.declared.command.PatternCommand.TheVariants.{Sum}
use Rattle.format.specs.declared.entry.Entry.{Entry}
use Rattle.pattern.specs.declared.position.Position.{Position}
use Rattle.format.specs.Commands.{pattern_bytes, PatternOperands}
use Rattle.format.specs.Entries.{entry_of}
use Rattle.pattern.specs.Expressions.{spell}
use Rattle.pattern.proofs.Accepting.{spell_push}
use Rattle.pattern.proofs.Completing.{spell_few}
use Rattle.listing.specs.Text.{command_line, command_lines, position_line, position_lines}

-- one more line at the end
lines_push : (at : ℕ) (cs : List PatternCommand) (c : PatternCommand) → command_lines at (cs ++ c ∷ []) ≡ command_lines at cs ++ command_line (at + length (spell cs)) c
lines_push at [] c = append-nil (command_line at c) ∙ ap (λ n. command_line n c) (sym (add-zero at))
lines_push at (d ∷ cs) c =
    let w = length (pattern_bytes d) in
    ap (λ l. command_line at d ++ l) (lines_push (at + w) cs c)
    ∙ sym (append_assoc (command_line at d) (command_lines (at + w) cs) (command_line (at + w + length (spell cs)) c))
    ∙ ap (λ n. (command_line at d ++ command_lines (at + w) cs) ++ command_line n c)
    (add_assoc at w (length (spell cs)) ∙ ap (λ n. at + n) (sym (length-append (pattern_bytes d) (spell cs))))

-- The first i entries are listed behind `before`, and their commands spell `at` bytes.
pub record Sofar (entries : List Entry) (i : ℕ) (before text : List ℕ) (at : ℕ) : Type 0 where
  pub commands : List PatternCommand
  pub number : length commands ≡ i
  pub stand_for : take i entries ≡ map entry_of commands
  pub spelled : at ≡ length (spell commands)
  pub added : text ≡ before ++ command_lines 0 commands

pub none_yet : (entries : List Entry) (before : List ℕ) → Sofar entries 0 before before 0
none_yet entries before =
    record { commands = []; number = refl; stand_for = refl; spelled = refl; added = sym (append-nil before) }

module _ {entries : List Entry} {i : ℕ} {before text : List ℕ} {at : ℕ} (so : Sofar entries i before text at) where
  pub one_more : (d : Entry) (c : PatternCommand) (longer : List ℕ) (w : ℕ) → i < length entries → get_or entries i d ≡ entry_of c → longer ≡ text ++ command_line at c → w ≡ length (pattern_bytes c) → Sofar entries (i + 1) before longer (at + w)
  one_more d c longer w h is long wide =
      let cs = so.commands in
      record {
        commands = cs ++ c ∷ [];
        number = length_push cs c ∙ ap (λ n. n + 1) so.number;
        stand_for = take_more entries i d h ∙ ap (λ l. l ++ get_or entries i d ∷ []) so.stand_for ∙ ap (λ e. map entry_of cs ++ e ∷ []) is ∙ sym (map_push entry_of cs c);
        spelled = ap (λ n. at + n) wide ∙ ap (λ n. n + length (pattern_bytes c)) so.spelled ∙ sym (ap length (spell_push cs c) ∙ length-append (spell cs) (pattern_bytes c));
        added =
            long ∙ ap (λ l. l ++ command_line at c) so.added ∙ append_assoc before (command_lines 0 cs) (command_line at c)
            ∙ ap (λ n. before ++ (command_lines 0 cs ++ command_line n c)) so.spelled
            ∙ ap (λ l. before ++ l) (sym (lines_push 0 cs c ∙ ap (λ n. command_lines 0 cs ++ command_line n c) (zero_more (length (spell cs)))));
      }
    where
      zero_more : (n : ℕ) → 0 + n ≡ n
      zero_more n = omega arith

  -- the commands have few bytes
  pub short : at ≤ 5 * i
  short = omega (arith, so.spelled, spell_few so.commands, so.number)

-- an entry of no command
pub no_lines : (entries : List Entry) (i : ℕ) (d : Entry) → i < length entries → ((c : PatternCommand) → PatternOperands c → get_or entries i d ≡ entry_of c → ⊥) → (cs : List PatternCommand) → AllByRecursion PatternOperands cs → entries ≡ map entry_of cs → ⊥
no_lines entries i d h none cs all e =
    let long = ap length e ∙ length-map cs entry_of in
    let within : i < length cs = omega (arith, long) in
    none (get_or cs i Sum) (All-get_or PatternOperands cs i Sum within all) (ap (λ l. get_or l i d) e ∙ get_or-map entry_of cs i Sum d within)

-- the lines of the first i positions
positions_push : (n : ℕ) (ps : List Position) (p : Position) → position_lines n (ps ++ p ∷ []) ≡ position_lines n ps ++ position_line (n + length ps) p
positions_push n [] p = append-nil (position_line n p) ∙ ap (λ k. position_line k p) (sym (add-zero n))
positions_push n (q ∷ ps) p =
    ap (λ l. position_line n q ++ l) (positions_push (n + 1) ps p)
    ∙ sym (append_assoc (position_line n q) (position_lines (n + 1) ps) (position_line (n + 1 + length ps) p))
    ∙ ap (λ k. (position_line n q ++ position_lines (n + 1) ps) ++ position_line k p) (omega arith)

pub position_more : (before : List ℕ) (ps : List Position) (i : ℕ) (d : Position) → i < length ps → (before ++ position_lines 0 (take i ps)) ++ position_line i (get_or ps i d) ≡ before ++ position_lines 0 (take (i + 1) ps)
position_more before ps i d h =
    let front = take i ps in
    let number : i ≡ 0 + length front = omega (arith, length_front) in
    append_assoc before (position_lines 0 front) (position_line i (get_or ps i d))
    ∙ ap (λ n. before ++ (position_lines 0 front ++ position_line n (get_or ps i d))) number
    ∙ ap (λ l. before ++ l) (sym (positions_push 0 front (get_or ps i d)))
    ∙ ap (λ l. before ++ position_lines 0 l) (sym (take_more ps i d h))
  where
    length_front : length (take i ps) ≡ i
    length_front = length-take-le i ps (omega arith)
