-- Working the links of a part: what its own parts give, put together. The numbers are followed as lists: those before
-- the part's slots stay, and behind them stand the links of the part. Assumes nothing.
use Rattle.std.proofs.Common.{◌≡◌, ℕ, ◌+◌, ◌-◌, ◌^◌, ◌≤◌, ◌||◌, List, [], ◌∷◌, ◌++◌, map, length, take, drop, sym, ap, ◌∙◌, subst, append_assoc, append-nil, arith}
use lib.Bits.{bit_or}
use Rattle.std.proofs.lemmas.List.{length-append, length-map, length-take-le, take_at, take_all, take-take, drop_at}
use Rattle.format.specs.declared.command.PatternCommand.{PatternCommand}
use Rattle.format.specs.declared.command.PatternCommand.TheVariants.{Sum, Leaf, Node, Product, Closure}
use Rattle.pattern.specs.Expressions.{Expr, node, product, closure, Parts, count, commands, parts_commands}
use Rattle.links.specs.declared.part.Part.{Part}
use Rattle.links.specs.Rows.{holds, any_holds, cut, kept, root_row, root_rows, child_rows, parts_rows}
use Rattle.links.specs.Working.{Ends, Worked, WorkedPair, WorkedParts}
use Rattle.links.proofs.Peeling.{peel_leaf, peel_node, peel_sum, peel_product, peel_closure, product_length, root_rows_length}

-- the commands before a part, and the numbers before its slots
module _ (cs before : List PatternCommand) (e : Expr) (old new : List ℕ) (r : Part) (ends : Ends cs before e) (w : Worked before e old new r) where
  pub front_commands : take r.start cs ≡ before
  front_commands = ap (take r.start) ends ∙ take_at before (commands e) r.start (sym w.start)

  reach : length (take r.slot old) ≡ r.slot
  reach = length-take-le r.slot old (omega (arith, w.slot))

  pub front_rows : take r.slot new ≡ take r.slot old
  front_rows = ap (take r.slot) w.rows ∙ take_at (take r.slot old) (child_rows e) r.slot reach

  pub front_length : length (take r.slot new) ≡ r.slot
  front_length = ap length front_rows ∙ reach

  pub back_rows : drop r.slot new ≡ child_rows e
  back_rows = ap (drop r.slot) w.rows ∙ drop_at (take r.slot old) (child_rows e) r.slot reach

-- what working a part, two parts and the parts of a node promises
abbrev pub PartLaw : List PatternCommand → List ℕ → List ℕ → Part → Type 0
PartLaw cs old new r = (e : Expr) (before : List PatternCommand) → Ends cs before e → length (child_rows e) ≤ length old → Worked before e old new r

abbrev PairLaw : List PatternCommand → List ℕ → List ℕ → Part × Part → Type 0
PairLaw cs old new q =
    (a b : Expr) (before : List PatternCommand) → Ends cs (before ++ commands a) b → length (child_rows a) + length (child_rows b) ≤ length old → WorkedPair before a b old new q

abbrev PartsLaw : List PatternCommand → ℕ → List ℕ → List ℕ → List ℕ → ℕ × ℕ → Type 0
PartsLaw cs number old below own q =
    (ps : Parts) (before : List PatternCommand) → count ps ≡ number → cs ≡ before ++ parts_commands ps → length (parts_rows ps) ≤ length old → WorkedParts before ps old below own q

-- two parts
pub worked_pair : (cs before : List PatternCommand) (a b : Expr) (old mid new : List ℕ) (r s : Part) → Ends cs (before ++ commands a) b → Worked (before ++ commands a) b old mid s → Worked before a (take s.slot mid) new r → WorkedPair before a b old (new ++ drop s.slot mid) (r, s)
worked_pair cs before a b old mid new r s ends w v =
    let front = front_rows cs (before ++ commands a) b old mid s ends w in
    let long = front_length cs (before ++ commands a) b old mid s ends w in
    record {
      start = v.start;
      slot = v.slot ∙ long;
      second_slot = w.slot;
      roots = v.roots;
      second_roots = w.roots;
      rows =
          ap (λ l. l ++ drop s.slot mid) (v.rows ∙ ap (λ l. take r.slot l ++ child_rows a) front)
          ∙ ap (λ l. (take r.slot (take s.slot old) ++ child_rows a) ++ l) (back_rows cs (before ++ commands a) b old mid s ends w)
          ∙ ap (λ l. (l ++ child_rows a) ++ child_rows b) (take-take r.slot s.slot old (omega (arith, v.slot, long)))
          ∙ append_assoc (take r.slot old) (child_rows a) (child_rows b);
    }

-- the parts of an expression, by its last command
module _ (cs init before : List PatternCommand) (last : PatternCommand) (e : Expr) (old : List ℕ) (is : cs ≡ init ++ last ∷ []) (ends : Ends cs before e) (fits : length (child_rows e) ≤ length old) where
  pub worked_leaf : (c : ℕ) (r : Part) → last ≡ Leaf c → r.start ≡ length init → r.slot ≡ length old → r.roots ≡ 2 ^ c → Worked before e old old r
  worked_leaf c r kind start slot roots =
      let p = peel_leaf cs init before last e is ends c kind in
      subst (λ f. Worked before f old old r) (sym p.0)
      (record { start = start ∙ ap length p.1; slot = omega (arith, slot); roots = roots; rows = sym (append-nil (take r.slot old) ∙ ap (λ n. take n old) slot ∙ take_all (length old) old (omega arith)) })

  pub worked_node : (c rank points : ℕ) (front low own : List ℕ) (number : ℕ) (q : ℕ × ℕ) (r : Part) → last ≡ Node c rank points → front ≡ take (length old - rank) old → number + (length old - rank) ≡ length old → PartsLaw init number front low own q → r.start ≡ q.0 → r.slot ≡ q.1 → r.roots ≡ 2 ^ c → Worked before e old (low ++ own) r
  worked_node c rank points front low own number q r kind cutting split parts start slot roots =
      let p = peel_node cs init before last e is ends c rank points kind in
      let ps = p.0 in
      let all = length-append (parts_rows ps) (root_rows ps) in
      let room : length (parts_rows ps) + rank ≤ length old = omega (arith, subst (λ f. length (child_rows f) ≤ length old) p.1 fits, all, root_rows_length ps, p.2) in
      let long : length front ≡ length old - rank = ap length cutting ∙ length-take-le (length old - rank) old (omega arith) in
      let w = parts ps before (omega (arith, p.2, split, room)) p.3 (omega (arith, room, long)) in
      subst (λ f. Worked before f old (low ++ own) r) (sym p.1)
      (record {
        start = start ∙ w.start;
        slot = omega (arith, slot, w.slot, all, root_rows_length ps, p.2, room, long);
        roots = roots;
        rows =
            ap (λ l. l ++ own) w.rows ∙ ap (λ l. (take q.1 front ++ parts_rows ps) ++ l) w.roots
            ∙ append_assoc (take q.1 front) (parts_rows ps) (root_rows ps)
            ∙ ap (λ l. l ++ child_rows (node c points ps))
            (ap (take q.1) cutting ∙ take-take q.1 (length old - rank) old (omega (arith, w.slot, long)) ∙ ap (λ n. take n old) (sym slot));
      })

  pub worked_sum : (new : List ℕ) (q : Part × Part) (r : Part) → last ≡ Sum → PairLaw init old new q → r.start ≡ q.0.start → r.slot ≡ q.0.slot → r.roots ≡ bit_or q.0.roots q.1.roots → Worked before e old new r
  worked_sum new q r kind pair start slot roots =
      let p = peel_sum cs init before last e is ends kind in
      let long = length-append (child_rows p.0) (child_rows p.1) in
      let w = pair p.0 p.1 before p.3 (omega (arith, subst (λ f. length (child_rows f) ≤ length old) p.2 fits, long)) in
      subst (λ f. Worked before f old new r) (sym p.2)
      (record {
        start = start ∙ w.start;
        slot = omega (arith, slot, long, w.slot, w.second_slot);
        roots = roots ∙ ap (λ n. bit_or n q.1.roots) w.roots ∙ ap (bit_or (root_row p.0)) w.second_roots;
        rows = w.rows ∙ ap (λ n. take n old ++ (child_rows p.0 ++ child_rows p.1)) (sym slot);
      })

  pub worked_product : (c : ℕ) (mid new : List ℕ) (q : Part × Part) (r : Part) → last ≡ Product c → PairLaw init old mid q → r.start ≡ q.0.start → r.slot ≡ q.0.slot → r.roots ≡ cut c q.1.roots q.0.roots → ((front middle back : List ℕ) → mid ≡ front ++ (middle ++ back) → length front ≡ q.0.slot → length front + length middle ≡ q.1.slot → new ≡ front ++ (map (cut c q.1.roots) middle ++ kept (holds c q.0.roots || any_holds c middle) back)) → Worked before e old new r
  worked_product c mid new q r kind pair start slot roots rows =
      let p = peel_product cs init before last e is ends c kind in
      let a = p.0 in
      let b = p.1 in
      let long = product_length c a b in
      let w = pair a b before p.3 (omega (arith, subst (λ f. length (child_rows f) ≤ length old) p.2 fits, long)) in
      let front = take q.0.slot old in
      let reach : length front ≡ q.0.slot = length-take-le q.0.slot old (omega (arith, w.slot, w.second_slot)) in
      subst (λ f. Worked before f old new r) (sym p.2)
      (record {
        start = start ∙ w.start;
        slot = omega (arith, slot, long, w.slot, w.second_slot);
        roots = roots ∙ ap (λ n. cut c n q.0.roots) w.second_roots ∙ ap (cut c (root_row b)) w.roots;
        rows =
            rows front (child_rows a) (child_rows b) w.rows reach (ap (λ n. n + length (child_rows a)) reach ∙ w.slot)
            ∙ ap (λ n. front ++ (map (cut c n) (child_rows a) ++ kept (holds c q.0.roots || any_holds c (child_rows a)) (child_rows b))) w.second_roots
            ∙ ap (λ n. front ++ (map (cut c (root_row b)) (child_rows a) ++ kept (holds c n || any_holds c (child_rows a)) (child_rows b))) w.roots
            ∙ ap (λ n. take n old ++ child_rows (product c a b)) (sym slot);
      })

  pub worked_closure : (c : ℕ) (mid new : List ℕ) (q r : Part) → last ≡ Closure c → PartLaw init old mid q → r.start ≡ q.start → r.slot ≡ q.slot → r.roots ≡ bit_or q.roots (2 ^ c) → ((front back : List ℕ) → mid ≡ front ++ back → length front ≡ q.slot → new ≡ front ++ map (cut c (bit_or q.roots (2 ^ c))) back) → Worked before e old new r
  worked_closure c mid new q r kind one start slot roots rows =
      let p = peel_closure cs init before last e is ends c kind in
      let a = p.0 in
      let long = length-map (child_rows a) (cut c (bit_or (root_row a) (2 ^ c))) in
      let w = one a before p.2 (omega (arith, subst (λ f. length (child_rows f) ≤ length old) p.1 fits, long)) in
      let front = take q.slot old in
      let reach : length front ≡ q.slot = length-take-le q.slot old (omega (arith, w.slot)) in
      subst (λ f. Worked before f old new r) (sym p.1)
      (record {
        start = start ∙ w.start;
        slot = omega (arith, slot, long, w.slot);
        roots = roots ∙ ap (λ n. bit_or n (2 ^ c)) w.roots;
        rows =
            rows front (child_rows a) w.rows reach
            ∙ ap (λ n. front ++ map (cut c (bit_or n (2 ^ c))) (child_rows a)) w.roots
            ∙ ap (λ n. take n old ++ child_rows (closure c a)) (sym slot);
      })
