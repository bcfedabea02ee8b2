-- Working the parts of a node, the last one first: the links of a part are worked, its roots are written into the last
-- of the node's own slots that has none yet, and the parts before it are left. Assumes nothing.
use Rattle.std.proofs.Common.{◌≡◌, ℕ, ◌-◌, ◌<◌, ◌≤◌, List, [], ◌∷◌, ◌++◌, length, take, drop, set, sym, ap, ◌∙◌, append_assoc, append-nil, arith}
use Rattle.std.proofs.ByRecursion.{All-take}
use Rattle.std.proofs.lemmas.Grind.{drop-set_at}
use Rattle.std.proofs.lemmas.List.{length-append, length-take-le, length-drop, length-set, take_at, take-take, take-append-drop, drop_at}
use Rattle.std.specs.List.{AllByRecursion}
use Rattle.format.specs.declared.command.PatternCommand.{PatternCommand}
use Rattle.pattern.specs.Expressions.{Parts, no_parts, ◌▸◌, count, commands, parts_commands}
use Rattle.links.specs.declared.part.Part.{Part}
use Rattle.links.specs.Rows.{root_row, root_rows, child_rows, parts_rows}
use Rattle.links.specs.Working.{Small, Ends, Ready, WorkedParts}
use Rattle.links.proofs.PartTurns.{PartLaw, front_commands}

-- Of the parts `ps` those of `left` are still to be worked: their commands end at `start` and their slots at `slot`.
-- Those behind them are worked, and have their roots in the node's own slots from `i` on.
pub record Left (cs before : List PatternCommand) (ps : Parts) (old below own : List ℕ) (i start slot : ℕ) (left : Parts) : Type 0 where
  pub all : count left ≡ i
  pub within : i ≤ length own
  pub ends : take start cs ≡ before ++ parts_commands left
  pub fits : length (parts_rows left) ≤ slot
  pub front : take slot below ≡ take slot old
  pub back : parts_rows ps ≡ parts_rows left ++ drop slot below
  pub roots : root_rows ps ≡ root_rows left ++ drop i own

-- What the loop keeps, for all parts that the commands may end in.
abbrev pub SomeLeft : List PatternCommand → ℕ → List ℕ → List ℕ → List ℕ → ℕ → ℕ → ℕ → Type 0
SomeLeft cs number old below own i start slot =
    (ps : Parts) (before : List PatternCommand) → count ps ≡ number → cs ≡ before ++ parts_commands ps → length (parts_rows ps) ≤ length old → (left : Parts) × Left cs before ps old below own i start slot left

module _ {cs before : List PatternCommand} {ps : Parts} {old below own : List ℕ} {i start slot : ℕ} (in_commands : start ≤ length cs) (in_rows : slot ≤ length below) where
  -- the last of the parts that are left is ready to be worked
  pub ready_last : (left : Parts) → Left cs before ps old below own i start slot left → 0 < i → AllByRecursion Small cs → Ready (take start cs) (length (take slot below))
  ready_last no_parts l some small = absurd (omega (arith, l.all, some))
  ready_last (qs ▸ e) l some small = record {
    part = e;
    before = before ++ parts_commands qs;
    ends = l.ends ∙ sym (append_assoc before (parts_commands qs) (commands e));
    fits = omega (arith, l.fits, length-append (parts_rows qs) (child_rows e), length-take-le slot below in_rows);
    small = All-take Small start cs small;
  }

  -- that part worked
  pub one_less : (left : Parts) → Left cs before ps old below own i start slot left → 0 < i → (mid : List ℕ) (r : Part) → PartLaw (take start cs) (take slot below) mid r → (less : Parts) × Left cs before ps old (mid ++ drop slot below) (set own (i - 1) r.roots) (i - 1) r.start r.slot less
  one_less no_parts l some mid r law = absurd (omega (arith, l.all, some))
  one_less (qs ▸ e) l some mid r law =
      let ahead = before ++ parts_commands qs in
      let is : Ends (take start cs) ahead e = l.ends ∙ sym (append_assoc before (parts_commands qs) (commands e)) in
      let rows = length-append (parts_rows qs) (child_rows e) in
      let long = length-take-le slot below in_rows in
      let w = law e ahead is (omega (arith, l.fits, rows, long)) in
      let first : r.slot ≤ slot = omega (arith, w.slot, long) in
      let earlier : r.start ≤ start = omega (arith, w.start, ap length is, length-append ahead (commands e), length-take-le start cs in_commands) in
      let low = take r.slot (take slot below) in
      let reach : length low ≡ r.slot = length-take-le r.slot (take slot below) (omega (arith, first, long)) in
      let now : mid ++ drop slot below ≡ low ++ (child_rows e ++ drop slot below) =
      ap (λ l. l ++ drop slot below) w.rows ∙ append_assoc low (child_rows e) (drop slot below) in (
        qs,
        record {
          all = omega (arith, l.all);
          within = omega (arith, l.within, length-set own (i - 1) r.roots);
          ends = sym (take-take r.start start cs earlier) ∙ front_commands (take start cs) ahead e (take slot below) mid r is w;
          fits = omega (arith, l.fits, rows, w.slot, long);
          front =
              ap (take r.slot) now ∙ take_at low (child_rows e ++ drop slot below) r.slot reach
              ∙ ap (take r.slot) l.front ∙ take-take r.slot slot old first;
          back =
              l.back ∙ append_assoc (parts_rows qs) (child_rows e) (drop slot below)
              ∙ ap (λ l. parts_rows qs ++ l) (sym (ap (drop r.slot) now ∙ drop_at low (child_rows e ++ drop slot below) r.slot reach));
          roots =
              l.roots ∙ append_assoc (root_rows qs) (root_row e ∷ []) (drop i own)
              ∙ ap (λ n. root_rows qs ++ n ∷ drop i own) (sym w.roots)
              ∙ ap (λ k. root_rows qs ++ r.roots ∷ drop k own) (omega (arith, some))
              ∙ ap (λ l. root_rows qs ++ l) (sym (drop-set_at own (i - 1) (i - 1) r.roots (omega arith) (omega (arith, some, l.within))));
        },
      )

  -- no part is left
  pub none_left : (left : Parts) → Left cs before ps old below own i start slot left → i ≤ 0 → length below ≡ length old → WorkedParts before ps old below own (start, slot)
  none_left no_parts l none same = let first : 0 ≡ i = omega (arith, none) in record {
    start = sym (length-take-le start cs in_commands) ∙ ap length (l.ends ∙ append-nil before);
    slot = omega (arith, ap length l.back, length-drop slot below, in_rows, same);
    rows = sym (take-append-drop slot below) ∙ ap (λ l. l ++ drop slot below) l.front ∙ ap (λ l. take slot old ++ l) (sym l.back);
    roots = ap (λ k. drop k own) first ∙ sym l.roots;
  }
  none_left (qs ▸ e) l none same = absurd (omega (arith, l.all, none))
