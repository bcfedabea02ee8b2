-- The bytes of an expression within the limits are accepted, and are judged to be its commands. The commands of
-- an expression never take more parts than are pending, and leave one more; positions only grow in number; so
-- each command is in order where it stands. Assumes nothing.
use Rattle.std.proofs.Common.{◌≡◌, ℕ, suc, ◌+◌, ◌-◌, ◌*◌, ◌<◌, ◌≤◌, min, eqb, ltb, List, [], ◌∷◌, ◌++◌, length, drop, Ok, sym, refl, ap, ◌∙◌, subst, append_assoc, append-nil, arith, le-ltb, eq-eqb, ne_eqb}
use Rattle.std.proofs.lemmas.List.{drop_at, length-append}
use Rattle.std.proofs.lemmas.Bool.{cond-true, cond-false}
use Rattle.std.specs.List.{AllByRecursion}
use Rattle.format.specs.declared.command.PatternCommand.{PatternCommand}
use Rattle.format.specs.declared.command.PatternCommand.TheVariants.{Sum, Leaf, Node, Product, Closure}
use Rattle.format.specs.Commands.{pattern_bytes, takes, PatternOperands}
use Rattle.pattern.specs.Expressions.{Expr, leaf, node, sum, product, closure, Parts, no_parts, ◌▸◌, count, commands, parts_commands, spell, encode}
use Rattle.pattern.specs.Judging.{Standing, start, after, standing_from, standing, admission, judged_from, judged}
use Rattle.pattern.specs.Patterns.{Limits}
use Rattle.pattern.specs.Positions.{new_position}
use Rattle.pattern.proofs.Accepting.{spell_push}
use Rattle.pattern.proofs.Assembling.{standing_positions}
use Rattle.format.proofs.FileCommands.{pattern_some, pattern_found}
use Rattle.pattern.proofs.Turns.{standing_push, judged_end, judged_more}

-- No command takes more parts than are pending, and `m` are pending in the end.
abbrev pub Fed : ℕ → List PatternCommand → ℕ → Type 0
Fed n [] m = n ≡ m
Fed n (c ∷ cs) m = (takes c ≤ n) × Fed (n - takes c + 1) cs m

fed_at : (cs : List PatternCommand) (m n k : ℕ) → n ≡ k → Fed n cs m → Fed k cs m
fed_at cs m n k e f = subst (λ x. Fed x cs m) e f

mutual
  pub fed : (e : Expr) (n m : ℕ) (cs : List PatternCommand) → Fed (n + 1) cs m → Fed n (commands e ++ cs) m
  fed (leaf code) n m cs f = (omega arith, fed_at cs m (n + 1) (n - 0 + 1) (omega arith) f)
  fed (node code points ps) n m cs f =
      subst (λ l. Fed n l m) (sym (append_assoc (parts_commands ps) (Node code (count ps) points ∷ []) cs))
      (fed_parts ps n m (Node code (count ps) points ∷ cs) (omega arith, fed_at cs m (n + 1) (n + count ps - count ps + 1) (omega arith) f))
  fed (sum a b) n m cs f =
      subst (λ l. Fed n l m) (sym (append_assoc (commands a) (commands b ++ Sum ∷ []) cs))
      (fed a n m ((commands b ++ Sum ∷ []) ++ cs)
      (subst (λ l. Fed (n + 1) l m) (sym (append_assoc (commands b) (Sum ∷ []) cs))
      (fed b (n + 1) m (Sum ∷ cs) (omega arith, fed_at cs m (n + 1) (n + 1 + 1 - 2 + 1) (omega arith) f))))
  fed (product code a b) n m cs f =
      subst (λ l. Fed n l m) (sym (append_assoc (commands a) (commands b ++ Product code ∷ []) cs))
      (fed a n m ((commands b ++ Product code ∷ []) ++ cs)
      (subst (λ l. Fed (n + 1) l m) (sym (append_assoc (commands b) (Product code ∷ []) cs))
      (fed b (n + 1) m (Product code ∷ cs) (omega arith, fed_at cs m (n + 1) (n + 1 + 1 - 2 + 1) (omega arith) f))))
  fed (closure code a) n m cs f =
      subst (λ l. Fed n l m) (sym (append_assoc (commands a) (Closure code ∷ []) cs))
      (fed a n m (Closure code ∷ cs) (omega arith, fed_at cs m (n + 1) (n + 1 - 1 + 1) (omega arith) f))

  fed_parts : (ps : Parts) (n m : ℕ) (cs : List PatternCommand) → Fed (n + count ps) cs m → Fed n (parts_commands ps ++ cs) m
  fed_parts no_parts n m cs f = fed_at cs m (n + 0) n (omega arith) f
  fed_parts (ps ▸ e) n m cs f =
      subst (λ l. Fed n l m) (sym (append_assoc (parts_commands ps) (commands e) cs))
      (fed_parts ps n m (commands e ++ cs) (fed e (n + count ps) m cs (fed_at cs m (n + suc (count ps)) (n + count ps + 1) (omega arith) f)))

-- positions only grow in number
pub positions_grow : (s : Standing) (cs : List PatternCommand) → length s.positions ≤ length (standing_from s cs).positions
positions_grow s [] = omega arith
positions_grow s (c ∷ cs) =
    omega (arith, positions_grow (after s c) cs, length-append s.positions (new_position c s.positions))

-- a command has at most five bytes
pub bytes_few : (c : PatternCommand) → length (pattern_bytes c) ≤ 5
bytes_few Sum = omega arith
bytes_few (Leaf code) = omega arith
bytes_few (Node code rank points) = omega arith
bytes_few (Product code) = omega arith
bytes_few (Closure code) = omega arith

pub spell_few : (cs : List PatternCommand) → length (spell cs) ≤ 5 * length cs
spell_few [] = omega arith
spell_few (c ∷ cs) = omega (arith, spell_few cs, bytes_few c, length-append (pattern_bytes c) (spell cs))

pub admits : (free at : ℕ) (s : Standing) (c : PatternCommand) → takes c ≤ s.pending → length (after s c).positions ≤ 64 → 0 < free → admission free at s c ≡ Ok c
admits free at s c t p f =
    cond-false (ltb s.pending (takes c)) _ _ (le-ltb s.pending (takes c) t)
    ∙ cond-false (ltb 64 (length (after s c).positions)) _ _ (le-ltb 64 (length (after s c).positions) p)
    ∙ cond-false (eqb free 0) _ _ (ne_eqb free 0 (λ e. omega (arith, e)))

module _ (file : List ℕ) (short : length file ≤ 65536) where
  complete : (cs : List PatternCommand) (free : ℕ) (before : List PatternCommand) (at : ℕ) → file ≡ spell before ++ spell cs → length (spell before) ≡ at → AllByRecursion PatternOperands cs → Fed (standing before).pending cs 1 → length cs ≤ free → length (standing_from (standing before) cs).positions ≤ 64 → judged_from free file before at ≡ Ok (before ++ cs)
  complete [] free before at whole place ops f few named =
      judged_end free file before at (omega (arith, ap length (whole ∙ append-nil (spell before)), place))
      ∙ cond-true (eqb (standing before).pending 1) _ _ (eq-eqb (standing before).pending 1 f)
      ∙ ap Ok (sym (append-nil before))
  complete (c ∷ cs) free before at whole place ops f few named =
      let here : drop at file ≡ pattern_bytes c ++ spell cs = ap (drop at) whole ∙ drop_at (spell before) (pattern_bytes c ++ spell cs) at place in
      let there = pattern_found file at c (spell cs) (record { short = short; here = here; operands = ops.0 }) in
      let long = ap length whole ∙ length-append (spell before) (pattern_bytes c ++ spell cs) in
      let more = length-append (pattern_bytes c) (spell cs) in
      let within : at < length file = omega (arith, long, more, place, pattern_some c) in
      let positions = positions_grow (after (standing before) c) cs in
      let fits : length (after (standing before) c).positions ≤ 64 = omega (arith, positions, named) in
      let grown = standing_push start before c in
      judged_more free file before at within c (free - 1) there (admits free at (standing before) c f.0 fits (omega (arith, few))) (omega (arith, few))
      ∙ complete cs (free - 1) (before ++ c ∷ []) (at + length (pattern_bytes c))
      (whole ∙ sym (append_assoc (spell before) (pattern_bytes c) (spell cs)) ∙ ap (λ l. l ++ spell cs) (sym (spell_push before c)))
      (ap length (spell_push before c) ∙ length-append (spell before) (pattern_bytes c) ∙ ap (λ k. k + length (pattern_bytes c)) place)
      ops.1
      (subst (λ (s : Standing). Fed s.pending cs 1) (sym grown) f.1)
      (omega (arith, few))
      (subst (λ (s : Standing). length (standing_from s cs).positions ≤ 64) (sym grown) named)
      ∙ ap Ok (append_assoc before (c ∷ []) cs)

-- the commands of an expression leave one part pending
pub fed_whole : (e : Expr) → Fed 0 (commands e) 1
fed_whole e = subst (λ cs. Fed 0 cs 1) (append-nil (commands e)) (fed e 0 1 [] refl)

pub accepts : (room : ℕ) (file : List ℕ) (e : Expr) → Limits room e → file ≡ encode e → judged room file ≡ Ok (commands e)
accepts room file e l h =
    let bytes = spell_few (commands e) in
    complete file (omega (arith, bytes, ap length h, l.few_commands)) (commands e) (min room 512) [] 0 h refl l.operands
    (fed_whole e)
    (omega (arith, l.few_commands, l.fits_table))
    (subst (λ ps. length ps ≤ 64) (sym (standing_positions start (commands e))) l.few_positions)
