-- Commands of a pattern and their bytes: what the reader answers is spelled by the bytes, and what is spelled is
-- what it answers. By cases on the letter and the operands. Assumes nothing.
use Rattle.std.proofs.Common.{◌≡◌, ℕ, zero, suc, ◌+◌, ◌*◌, ◌/◌, ◌%◌, ◌<◌, Bool, true, false, cond, eqb, ltb, ◌⊎◌, List, [], ◌∷◌, ◌++◌, length, get_or, drop, Ok, Err, Result, sym, refl, ap, ◌∙◌, subst, inl, inr, ⊎_elim, div-add-mod', arith, ltb-false, le-ltb, ne_eqb, eqb-true}
use lib.Arith.{digits_div, digits_mod}
use borrow.Author.Tests.{eqb-false}
use Rattle.format.specs.declared.command.PatternCommand.{PatternCommand}
use Rattle.format.specs.declared.command.PatternCommand.TheVariants.{Sum, Leaf, Node, Product, Closure}
use Rattle.format.specs.declared.fault.ByteFault.{ByteFault}
use Rattle.format.specs.declared.fault.ByteFault.TheVariants.{NoCommand, OperandsMissing, CodeZero, RankOutside}
use Rattle.format.specs.Commands.{code_bytes, pattern_bytes, Code, Rank, PatternOperands}
use Rattle.format.specs.Reading.{nonzero, code_of, rank_of, then, lone_code, node_operands, pattern_first}

-- each number of the list is a byte
abbrev pub AllBytes : List ℕ → Type 0
AllBytes bs = (i : ℕ) → get_or bs i 0 < 256

pub tail_bytes : (b : ℕ) (bs : List ℕ) → AllBytes (b ∷ bs) → AllBytes bs
tail_bytes b bs h i = h (suc i)

-- which way a test went
pub ways : {X : Type 0} (b : Bool) (x y z : X) → cond b x y ≡ z → ((b ≡ true) × (x ≡ z)) ⊎ ((b ≡ false) × (y ≡ z))
ways true x y z e = inl (refl, e)
ways false x y z e = inr (refl, e)

-- no answer is both a value and a fault
pub never : {X Y F : Type 0} (f : F) (x : X) → ◌≡◌ {A = Result X F} (Err f) (Ok x) → Y
never f x e = let z : ◌≡◌ {A = ℕ} 0 1 = cc in absurd (omega arith)

pub inside : {X F : Type 0} (x y : X) → ◌≡◌ {A = Result X F} (Ok x) (Ok y) → x ≡ y
inside x y e = cc

pub then_known : {X Y : Type 0} (r : Result X ByteFault) (next : X → Result Y ByteFault) (y : Y) → then r next ≡ Ok y → (x : X) × (r ≡ Ok x) × (next x ≡ Ok y)
then_known (Ok x) next y e = (x, refl, e)
then_known (Err f) next y e = never f y e

-- a code from its two bytes
pub code_known : (at h l code : ℕ) → h < 256 → l < 256 → code_of at h l ≡ Ok code → (code ≡ h * 256 + l) × Code code
code_known at h l code hb lb e =
    ⊎_elim (λ w. never (CodeZero at) code w.1)
    (λ w.
    let is = inside (h * 256 + l) code w.1 in
    let some = eqb-false (h * 256 + l) 0 w.0 in
    let below : h * 256 + l < 65536 = omega arith in
    let above : 0 < h * 256 + l = ⊎_elim (λ p. p) (λ p. absurd (some p)) (nonzero (h * 256 + l)) in
    (sym is, (subst (λ n. 0 < n) is above, subst (λ n. n < 65536) is below)))
    (ways (eqb (h * 256 + l) 0) (Err (CodeZero at)) (Ok (h * 256 + l)) (Ok code) e)
  where
    nonzero : (n : ℕ) → (0 < n) ⊎ (n ≡ 0)
    nonzero zero = inr refl
    nonzero (suc n) = inl (omega arith)

pub code_spelled : (h l code : ℕ) (rest : List ℕ) → l < 256 → code ≡ h * 256 + l → h ∷ l ∷ rest ≡ code_bytes code rest
code_spelled h l code rest lb e =
    sym (ap (λ n. code_bytes n rest) e ∙ ap (λ n. n ∷ (h * 256 + l) % 256 ∷ rest) (digits_div h lb) ∙ ap (λ n. h ∷ n ∷ rest) (digits_mod h lb))

pub rank_known : (at rank r : ℕ) → rank_of at rank ≡ Ok r → (r ≡ rank) × Rank r
rank_known at rank r e =
    ⊎_elim (λ w. never (RankOutside at) r w.1)
    (λ w. ⊎_elim (λ v. never (RankOutside at) r v.1)
    (λ v.
    let is = inside rank r v.1 in
    let some = eqb-false rank 0 w.0 in
    let most = ltb-false 4 rank v.0 in
    (sym is, subst Rank is (positive rank some, most)))
    (ways (ltb 4 rank) (Err (RankOutside at)) (Ok rank) (Ok r) w.1))
    (ways (eqb rank 0) (Err (RankOutside at)) (cond (ltb 4 rank) (Err (RankOutside at)) (Ok rank)) (Ok r) e)
  where
    positive : (n : ℕ) → (n ≡ 0 → ⊥) → 0 < n
    positive zero h = absurd (h refl)
    positive (suc n) h = omega arith

lone_known : (at : ℕ) (ops : List ℕ) (code : ℕ) → AllBytes ops → lone_code at ops ≡ Ok code → (ops ≡ code_bytes code (drop 2 ops)) × Code code
lone_known at [] code b e = never (OperandsMissing at) code e
lone_known at (h ∷ []) code b e = never (OperandsMissing at) code e
lone_known at (h ∷ l ∷ rest) code b e =
    let k = code_known at h l code (b 0) (b 1) e in
    (code_spelled h l code rest (b 1) k.0, k.1)

-- A command that the bytes spell, with what lies behind it.
abbrev pub Spelled : {C : Type 0} → (C → List ℕ) → (C → Type 0) → List ℕ → C → Type 0
Spelled bytes_of Operands bs c = (bs ≡ bytes_of c ++ drop (length (bytes_of c)) bs) × Operands c

-- A command that has a code alone, by its letter.
pub coded : {C : Type 0} (bytes_of : C → List ℕ) (Operands : C → Type 0) (make : ℕ → C) (letter : ℕ) → ((code : ℕ) → bytes_of (make code) ≡ letter ∷ code_bytes code []) → ((code : ℕ) → Code code → Operands (make code)) → (at b : ℕ) (ops : List ℕ) (c : C) → AllBytes ops → eqb b letter ≡ true → then (lone_code at ops) (λ code. Ok (make code)) ≡ Ok c → Spelled bytes_of Operands (b ∷ ops) c
coded bytes_of Operands make letter spell fit at b ops c all t e =
    let k = then_known (lone_code at ops) (λ code. Ok (make code)) c e in
    let read = lone_known at ops k.0 all k.1 in
    subst (Spelled bytes_of Operands (b ∷ ops)) (inside (make k.0) c k.2)
    (subst (λ bytes. b ∷ ops ≡ bytes ++ drop (length bytes) (b ∷ ops)) (sym (spell k.0)) (ap (λ n. n ∷ ops) (eqb-true b letter t) ∙ ap (λ l. letter ∷ l) read.0), fit k.0 read.1)

pattern_node : (at b : ℕ) (ops : List ℕ) (c : PatternCommand) → AllBytes ops → eqb b 78 ≡ true → node_operands at ops ≡ Ok c → Spelled pattern_bytes PatternOperands (b ∷ ops) c
pattern_node at b [] c all t e = never (OperandsMissing at) c e
pattern_node at b (h ∷ []) c all t e = never (OperandsMissing at) c e
pattern_node at b (h ∷ l ∷ []) c all t e = never (OperandsMissing at) c e
pattern_node at b (h ∷ l ∷ r ∷ []) c all t e = never (OperandsMissing at) c e
pattern_node at b (h ∷ l ∷ r ∷ p ∷ rest) c all t e =
    let k = then_known (code_of at h l) (λ code. then (rank_of at r) (λ rank. Ok (Node code rank p))) c e in
    let j = then_known (rank_of at r) (λ rank. Ok (Node k.0 rank p)) c k.2 in
    let code = code_known at h l k.0 (all 0) (all 1) k.1 in
    let rank = rank_known at r j.0 j.1 in
    subst (Spelled pattern_bytes PatternOperands (b ∷ h ∷ l ∷ r ∷ p ∷ rest)) (inside (Node k.0 j.0 p) c j.2)
    (ap (λ n. n ∷ h ∷ l ∷ r ∷ p ∷ rest) (eqb-true b 78 t) ∙ ap (λ n. 78 ∷ h ∷ l ∷ n ∷ p ∷ rest) (sym rank.0) ∙ ap (λ n. 78 ∷ n) (code_spelled h l k.0 (j.0 ∷ p ∷ rest) (all 1) code.0), (code.1, rank.1, all 3))

-- What the reader of a pattern's command answers is spelled by the bytes.
pub pattern_spelled : (at : ℕ) (bs : List ℕ) (c : PatternCommand) → AllBytes bs → pattern_first at bs ≡ Ok c → Spelled pattern_bytes PatternOperands bs c
pattern_spelled at [] c all e = never (NoCommand at) c e
pattern_spelled at (b ∷ ops) c all e =
    let more = tail_bytes b ops all in
    ⊎_elim (λ w. coded pattern_bytes PatternOperands Leaf 76 (λ _. refl) (λ _ h. h) at b ops c more w.0 w.1)
    (λ v. ⊎_elim (λ w. pattern_node at b ops c more w.0 w.1)
    (λ v. ⊎_elim (λ w. subst (Spelled pattern_bytes PatternOperands (b ∷ ops)) (inside Sum c w.1) (ap (λ n. n ∷ ops) (eqb-true b 43 w.0), tt))
    (λ v. ⊎_elim (λ w. coded pattern_bytes PatternOperands Product 46 (λ _. refl) (λ _ h. h) at b ops c more w.0 w.1)
    (λ v. ⊎_elim (λ w. coded pattern_bytes PatternOperands Closure 42 (λ _. refl) (λ _ h. h) at b ops c more w.0 w.1)
    (λ w. never (NoCommand at) c w.1)
    (ways (eqb b 42) _ _ (Ok c) v.1))
    (ways (eqb b 46) _ _ (Ok c) v.1))
    (ways (eqb b 43) _ _ (Ok c) v.1))
    (ways (eqb b 78) _ _ (Ok c) v.1))
    (ways (eqb b 76) _ _ (Ok c) e)

-- The other way: a code, and a rank, are read from their bytes.
pub code_taken : (at code : ℕ) → Code code → nonzero at code ≡ Ok code
code_taken at code h = ap (λ t. cond t (Err (CodeZero at)) (Ok code)) (ne_eqb code 0 (λ z. omega (arith, h.0)))

pub code_read : (at code : ℕ) → Code code → code_of at (code / 256) (code % 256) ≡ Ok code
code_read at code h = ap (nonzero at) (div-add-mod' code 256) ∙ code_taken at code h

pub rank_read : (at rank : ℕ) → Rank rank → rank_of at rank ≡ Ok rank
rank_read at rank h =
    ap (λ t. cond t (Err (RankOutside at)) (cond (ltb 4 rank) (Err (RankOutside at)) (Ok rank))) (ne_eqb rank 0 (λ z. omega (arith, h.0)))
    ∙ ap (λ t. cond t (Err (RankOutside at)) (Ok rank)) (le-ltb 4 rank h.1)

-- A command that is spelled is read.
pub pattern_read : (at : ℕ) (c : PatternCommand) (rest : List ℕ) → PatternOperands c → pattern_first at (pattern_bytes c ++ rest) ≡ Ok c
pattern_read at Sum rest h = refl
pattern_read at (Leaf code) rest h = ap (λ r. then r (λ n. Ok (Leaf n))) (code_read at code h)
pattern_read at (Node code rank points) rest h =
    ap (λ r. then r (λ n. then (rank_of at rank) (λ k. Ok (Node n k points)))) (code_read at code h.0)
    ∙ ap (λ r. then r (λ k. Ok (Node code k points))) (rank_read at rank h.1)
pattern_read at (Product code) rest h = ap (λ r. then r (λ n. Ok (Product n))) (code_read at code h)
pattern_read at (Closure code) rest h = ap (λ r. then r (λ n. Ok (Closure n))) (code_read at code h)
