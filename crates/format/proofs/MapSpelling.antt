-- Commands of a map and their bytes, as in proofs/Spelling.antt for patterns. Assumes nothing.
use Rattle.std.proofs.Common.{◌≡◌, ℕ, true, eqb, List, [], ◌∷◌, ◌++◌, Ok, sym, refl, ap, ◌∙◌, subst, ⊎_elim, eqb-true}
use Rattle.format.specs.declared.command.MapCommand.{MapCommand}
use Rattle.format.specs.declared.command.MapCommand.TheVariants.{Leaf, Node}
use Rattle.format.specs.declared.fault.ByteFault.TheVariants.{NoCommand, OperandsMissing}
use Rattle.format.specs.Commands.{map_bytes, MapOperands}
use Rattle.format.specs.Reading.{code_of, rank_of, then, map_node_operands, map_first}
use Rattle.format.proofs.Spelling.{AllBytes, Spelled, tail_bytes, ways, never, inside, then_known, code_known, code_spelled, rank_known, coded, code_read, rank_read}

map_node : (at b : ℕ) (ops : List ℕ) (c : MapCommand) → AllBytes ops → eqb b 75 ≡ true → map_node_operands at ops ≡ Ok c → Spelled map_bytes MapOperands (b ∷ ops) c
map_node at b [] c all t e = never (OperandsMissing at) c e
map_node at b (h ∷ []) c all t e = never (OperandsMissing at) c e
map_node at b (h ∷ l ∷ []) c all t e = never (OperandsMissing at) c e
map_node at b (h ∷ l ∷ r ∷ rest) c all t e =
    let k = then_known (code_of at h l) (λ code. then (rank_of at r) (λ rank. Ok (Node code rank))) c e in
    let j = then_known (rank_of at r) (λ rank. Ok (Node k.0 rank)) c k.2 in
    let code = code_known at h l k.0 (all 0) (all 1) k.1 in
    let rank = rank_known at r j.0 j.1 in
    subst (Spelled map_bytes MapOperands (b ∷ h ∷ l ∷ r ∷ rest)) (inside (Node k.0 j.0) c j.2)
    (ap (λ n. n ∷ h ∷ l ∷ r ∷ rest) (eqb-true b 75 t) ∙ ap (λ n. 75 ∷ h ∷ l ∷ n ∷ rest) (sym rank.0) ∙ ap (λ n. 75 ∷ n) (code_spelled h l k.0 (j.0 ∷ rest) (all 1) code.0), (code.1, rank.1))

-- What the reader of a map's command answers is spelled by the bytes.
pub map_spelled : (at : ℕ) (bs : List ℕ) (c : MapCommand) → AllBytes bs → map_first at bs ≡ Ok c → Spelled map_bytes MapOperands bs c
map_spelled at [] c all e = never (NoCommand at) c e
map_spelled at (b ∷ ops) c all e =
    let more = tail_bytes b ops all in
    ⊎_elim (λ w. coded map_bytes MapOperands Leaf 76 (λ _. refl) (λ _ h. h) at b ops c more w.0 w.1)
    (λ v. ⊎_elim (λ w. map_node at b ops c more w.0 w.1)
    (λ w. never (NoCommand at) c w.1)
    (ways (eqb b 75) _ _ (Ok c) v.1))
    (ways (eqb b 76) _ _ (Ok c) e)

-- A command that is spelled is read.
pub map_read : (at : ℕ) (c : MapCommand) (rest : List ℕ) → MapOperands c → map_first at (map_bytes c ++ rest) ≡ Ok c
map_read at (Leaf code) rest h = ap (λ r. then r (λ n. Ok (Leaf n))) (code_read at code h)
map_read at (Node code rank) rest h =
    ap (λ r. then r (λ n. then (rank_of at rank) (λ k. Ok (Node n k)))) (code_read at code h.0)
    ∙ ap (λ r. then r (λ k. Ok (Node code k))) (rank_read at rank h.1)
