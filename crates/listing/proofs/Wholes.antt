-- From the lines to the whole listing: the commands that the entries stand for are those of the pattern that the
-- table was judged to be, and those of the file that filled it. Assumes nothing.
use Rattle.std.proofs.Common.{◌≡◌, ℕ, List, [], ◌++◌, length, take, drop, Ok, Err, Result, sym, ap, ◌∙◌, subst, append_assoc, arith}
use Rattle.std.proofs.lemmas.List.{length-map, take_at}
use Rattle.format.specs.declared.command.PatternCommand.{PatternCommand}
use Rattle.format.specs.declared.entry.Entry.{Entry}
use Rattle.format.specs.declared.fault.PatternFault.{PatternFault}
use Rattle.pattern.specs.declared.position.Position.{Position}
use Rattle.format.specs.Entries.{entry_of}
use Rattle.pattern.specs.Expressions.{commands, table, spell}
use Rattle.pattern.specs.Judging.{Standing, judged, table_judged}
use Rattle.pattern.specs.Patterns.{Limits, Accepted, TableOf, counted}
use Rattle.pattern.specs.Positions.{positions}
use Rattle.format.proofs.EntryKnown.{entries_known}
use Rattle.pattern.proofs.Completing.{accepts}
use Rattle.pattern.proofs.TableCompleting.{table_accepts}
use Rattle.listing.specs.Listings.{Lines}
use Rattle.listing.specs.Text.{command_lines, position_lines, summary, listing}

pub listed : (entries : List Entry) (s : Standing) (ps : List Position) (one two three : List ℕ) (bytes : ℕ) → TableOf entries s → Lines entries [] one bytes → ps ≡ s.positions → two ≡ one ++ position_lines 0 ps → three ≡ two ++ summary (length entries) (length ps) bytes → (cs : List PatternCommand) × (table_judged entries ≡ Ok cs) × (three ≡ listing cs)
listed entries s ps one two three bytes t l p e f =
    let cs = commands t.pattern in
    let line = summary (length entries) (length ps) bytes in
    let same : l.commands ≡ cs = entries_known l.commands cs (sym l.stand_for ∙ t.holds) in
    let named : ps ≡ positions cs = p ∙ t.named in
    let number : length entries ≡ length cs = ap length t.holds ∙ length-map cs entry_of in
    let first : one ≡ command_lines 0 cs = l.added ∙ ap (command_lines 0) same in
    let size : bytes ≡ length (spell cs) = l.spelled ∙ ap (λ x. length (spell x)) same in
    let last : line ≡ summary (length cs) (length (positions cs)) (length (spell cs)) =
    ap (λ n. summary n (length ps) bytes) number ∙ ap (λ x. summary (length cs) (length x) bytes) named ∙ ap (summary (length cs) (length (positions cs))) size in (
      cs,
      table_accepts entries t.pattern t.limits t.holds,
      f ∙ ap (λ x. x ++ line) e ∙ append_assoc one (position_lines 0 ps) line
          ∙ ap (λ x. x ++ (position_lines 0 ps ++ line)) first
          ∙ ap (λ x. command_lines 0 cs ++ (position_lines 0 x ++ line)) named
          ∙ ap (λ x. command_lines 0 cs ++ (position_lines 0 (positions cs) ++ x)) last,
    )

-- A table that an accepted file has filled is judged as the file is.
pub same_judged : (file : List ℕ) (before now : List Entry) (n : ℕ) → length before ≡ 512 → Accepted file before now n → table_judged (take n now) ≡ judged 512 file
same_judged file before now n long a =
    let p = a.pattern in
    let front : take n now ≡ table p =
    ap (take n) a.filled ∙ take_at (table p) (drop n before) n (length-map (commands p) entry_of ∙ sym a.number) in
    let limits = subst (λ r. Limits r p) long a.limits in
    table_accepts (take n now) p limits front ∙ sym (accepts 512 file p limits a.bytes)

-- the fault of a file is the fault that reading it answers
pub judged_fault : (j : Result (List PatternCommand) PatternFault) (f : PatternFault) → Err f ≡ counted j → j ≡ Err f
judged_fault (Ok cs) f e = absurd (let z : ◌≡◌ {A = ℕ} 0 1 = cc in omega arith)
judged_fault (Err g) f e = let same : g ≡ f = cc in ap Err same
