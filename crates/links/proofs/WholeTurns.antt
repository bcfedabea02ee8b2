-- The links of a whole pattern: that its numbered commands are in range, that it has a number for each slot, and what
-- the parts of the work come to. Assumes nothing.
use Rattle.std.proofs.Common.{◌≡◌, ℕ, suc, ◌+◌, ◌-◌, ◌<◌, ◌≤◌, ltb, List, [], ◌∷◌, ◌++◌, length, take, drop, set, Ok, Err, sym, refl, ap, ◌∙◌, subst, append-nil, arith}
use borrow.Rule.Slice.PartMut.{put_mid}
use Rattle.std.proofs.ByRecursion.{All-append, All-push}
use Rattle.std.proofs.lemmas.List.{length-append, length-map, drop_all}
use Rattle.std.proofs.lemmas.Bool.{cond-true, cond-false, lt-ltb, le-ltb}
use Rattle.std.specs.List.{AllByRecursion}
use Rattle.format.specs.declared.command.PatternCommand.TheVariants.{Sum, Node, Product, Closure}
use Rattle.format.specs.declared.entry.Entry.{Entry}
use Rattle.pattern.specs.Expressions.{Expr, leaf, node, sum, product, closure, Parts, no_parts, ◌▸◌, count, commands, parts_commands}
use Rattle.pattern.specs.Judging.{Standing, table_judged}
use Rattle.pattern.specs.Patterns.{Limits, TableOf}
use Rattle.pattern.proofs.TableCompleting.{table_accepts}
use Rattle.links.specs.declared.fault.LinkFault.TheVariants.{RowsMissing}
use Rattle.links.specs.declared.part.Part.{Part}
use Rattle.links.specs.Links.{linked, Linked}
use Rattle.links.specs.Locality.{Operands}
use Rattle.links.specs.Numbering.{numbered, named, rank_at}
use Rattle.links.specs.Rows.{LinkRows, root_rows, child_rows, parts_rows, link_rows}
use Rattle.links.specs.Slots.{root, slots, slots_under}
use Rattle.links.specs.Working.{Small, Worked}
use Rattle.links.proofs.ExactRows.{rows_exact}
use Rattle.links.proofs.FewSlots.{few_slots}
use Rattle.links.proofs.Labels.{fine_rises}
use Rattle.links.proofs.NumberedFine.{numbered_fine}
use Rattle.links.proofs.NumberedSlots.{slots_of, slots_of_parts, numbered_slots}
use Rattle.links.proofs.Places.{under_length}
use Rattle.links.proofs.NumberTurns.{table_known}
use Rattle.links.proofs.Peeling.{product_length, root_rows_length}
use Rattle.links.proofs.Rules.{Fine, FineParts}

-- position numbers below 64
module _ (rank : ℕ → ℕ) (n : ℕ) (few : n ≤ 64) where
  mutual
    fine_small : (e : Expr) (lo hi : ℕ) → hi ≤ 64 → Fine rank n lo hi e → AllByRecursion Small (commands e)
    fine_small (leaf c) lo hi h f = (omega (arith, f.0.0), tt)
    fine_small (node b points ps) lo hi h f = All-push Small (parts_commands ps) (Node b (count ps) points) (parts_small ps lo b (omega (arith, f.1)) f.0) (omega (arith, f.1))
    fine_small (sum a b) lo hi h f =
        All-append Small (commands a) (commands b ++ Sum ∷ []) (fine_small a lo f.0 (omega (arith, fine_rises rank n b f.0 hi f.2)) f.1)
        (All-push Small (commands b) Sum (fine_small b f.0 hi h f.2) tt)
    fine_small (product c a b) lo hi h f =
        All-append Small (commands a) (commands b ++ Product c ∷ []) (fine_small a lo f.0 (omega (arith, fine_rises rank n b f.0 hi f.2)) f.1)
        (All-push Small (commands b) (Product c) (fine_small b f.0 hi h f.2) (omega (arith, f.3.0)))
    fine_small (closure c a) lo hi h f = All-push Small (commands a) (Closure c) (fine_small a lo hi h f.0) (omega (arith, f.1.0))

    parts_small : (ps : Parts) (lo hi : ℕ) → hi ≤ 64 → FineParts rank n lo hi ps → AllByRecursion Small (parts_commands ps)
    parts_small no_parts lo hi h f = tt
    parts_small (ps ▸ e) lo hi h f =
        All-append Small (parts_commands ps) (commands e) (parts_small ps lo f.0 (omega (arith, fine_rises rank n e f.0 hi f.2)) f.1) (fine_small e f.0 hi h f.2)

pub numbered_small : (e : Expr) → Limits 512 e → AllByRecursion Small (commands (numbered e))
numbered_small e l = fine_small (rank_at (named e)) (length (named e)) l.few_positions (numbered e) 0 (length (named e)) l.few_positions (numbered_fine e l.operands)

-- a number for each slot
mutual
  rows_many : (e : Expr) → length (child_rows e) ≡ length (slots_of e)
  rows_many (leaf c) = refl
  rows_many (node b points ps) =
      length-append (parts_rows ps) (root_rows ps)
      ∙ ap (λ k. k + length (root_rows ps)) (parts_rows_many ps)
      ∙ ap (λ k. length (slots_of_parts ps) + k) (root_rows_length ps ∙ sym (under_length b (count ps)))
      ∙ sym (length-append (slots_of_parts ps) (slots_under b (count ps)))
  rows_many (sum a b) =
      length-append (child_rows a) (child_rows b) ∙ ap (λ k. k + length (child_rows b)) (rows_many a) ∙ ap (λ k. length (slots_of a) + k) (rows_many b)
      ∙ sym (length-append (slots_of a) (slots_of b))
  rows_many (product c a b) =
      product_length c a b ∙ ap (λ k. k + length (child_rows b)) (rows_many a) ∙ ap (λ k. length (slots_of a) + k) (rows_many b)
      ∙ sym (length-append (slots_of a) (slots_of b))
  rows_many (closure c a) = length-map (child_rows a) _ ∙ rows_many a

  parts_rows_many : (ps : Parts) → length (parts_rows ps) ≡ length (slots_of_parts ps)
  parts_rows_many no_parts = refl
  parts_rows_many (ps ▸ e) =
      length-append (parts_rows ps) (child_rows e)
      ∙ ap (λ k. k + length (child_rows e)) (parts_rows_many ps)
      ∙ ap (λ k. length (slots_of_parts ps) + k) (rows_many e)
      ∙ sym (length-append (slots_of_parts ps) (slots_of e))

pub slots_many : (e : Expr) → length (slots (named e)) ≡ length (link_rows (numbered e))
slots_many e = ap suc (ap length (sym (numbered_slots e)) ∙ sym (rows_many (numbered e)))

-- the numbers of a whole pattern, the root's written last
pub all_rows : (e : Expr) (rows old new : List ℕ) (r : Part) → length rows ≡ length (link_rows e) → length old ≡ length rows - 1 → Worked [] e old new r → set (put_mid 1 (length rows - 1) rows new) 0 r.roots ≡ link_rows e
all_rows e [] old new r long same w = absurd (omega arith)
all_rows e (x ∷ xs) old new r long same w =
    let first : r.slot ≡ 0 = omega (arith, w.slot, same, long) in
    ap (λ l. r.roots ∷ (new ++ l)) (drop_all (length (x ∷ xs) - 1) xs (omega arith))
    ∙ ap (λ l. r.roots ∷ l) (append-nil new)
    ∙ ap (λ l. r.roots ∷ l) (w.rows ∙ ap (λ k. take k old ++ child_rows e) first)
    ∙ ap (λ k. k ∷ child_rows e) w.roots

-- the numbers are the links
pub exact_rows : (e : Expr) → Operands e → LinkRows (numbered e) (slots (named e)) (link_rows (numbered e))
exact_rows e o =
    let n = length (named e) in
    subst (λ ss. LinkRows (numbered e) (root ∷ ss) (link_rows (numbered e))) (numbered_slots e) (rows_exact (rank_at (named e)) n (numbered e) 0 n (numbered_fine e o))

-- the answer, for the table of a pattern
module _ (entries : List Entry) (s : Standing) (t : TableOf entries s) (room : ℕ) where
  judged_ok : table_judged entries ≡ Ok (commands t.pattern)
  judged_ok = table_accepts entries t.pattern t.limits t.holds

  pub rows_missing : (n : ℕ) → n ≡ length (slots s.positions) → room < n → linked room (table_judged entries) ≡ Err RowsMissing
  rows_missing n is h =
      let k = length (slots (named t.pattern)) in
      let more : room < k = omega (arith, is, ap (λ ps. length (slots ps)) t.named) in
      ap (linked room) judged_ok ∙ cond-true (ltb room k) (Err RowsMissing) (Ok k) (lt-ltb room k more)

  pub rows_there : (n : ℕ) → n ≡ length (slots s.positions) → n ≤ room → linked room (table_judged entries) ≡ Ok n
  rows_there n is h =
      let k = length (slots (named t.pattern)) in
      let same : n ≡ k = is ∙ ap (λ ps. length (slots ps)) t.named in
      ap (linked room) judged_ok ∙ cond-false (ltb room k) (Err RowsMissing) (Ok k) (le-ltb room k (omega (arith, same))) ∙ ap Ok (sym same)

  pub whole_linked : (rows new : List ℕ) (n : ℕ) → n ≡ length (slots s.positions) → new ≡ link_rows (numbered t.pattern) → Linked entries rows (new ++ drop n rows) n
  whole_linked rows new n is work = record {
    pattern = t.pattern;
    limits = t.limits;
    holds = t.holds;
    alone = λ e h. table_known e t.pattern (sym h ∙ t.holds);
    number = is ∙ ap (λ ps. length (slots ps)) t.named;
    few = omega (arith, few_slots t.pattern t.limits, is, ap (λ ps. length (slots ps)) t.named);
    written = ap (λ l. l ++ drop n rows) work;
    exact = exact_rows t.pattern t.limits.operands;
  }
