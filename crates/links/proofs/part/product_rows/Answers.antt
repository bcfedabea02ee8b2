use Rattle.std.proofs.Common.{◌≡◌, ℕ, ◌-◌, ◌||◌, List, [], ◌++◌, map, length, sym, ap, ◌∙◌, append_assoc, append-nil, arith}
use borrow.Rule.Slice.PartMut.{put_mid}
use Rattle.std.proofs.lemmas.List.{length-append, length-map}
use Rattle.links.specs.Rows.{holds, any_holds, cut, kept}
use Rattle.links.proofs.Splices.{middle_is, written}
use Rattle.links.proofs.part.product_rows.Goals as goal

pub returns-clause-rows : goal.returns-clause-rows
returns-clause-rows c = λ front middle back is long wide.
    let a = c.args.first.slot in
    let b = c.args.second.slot in
    let rows = c.args.rows.now in
    let f = cut c.args.constant.position c.args.second.roots in
    let broad : length middle ≡ b - a = omega (arith, long, wide) in
    let part = middle_is front middle back rows is a (b - a) long broad in
    let cuts : c.cut_rows.new.rows ≡ map f middle = c.cut_rows.ensures ∙ ap (map f) part in
    let between : List ℕ = put_mid a (b - a) rows c.cut_rows.new.rows in
    let now : between ≡ (front ++ map f middle) ++ (back ++ []) =
    written front middle back rows is a (b - a) long broad c.cut_rows.new.rows
    ∙ ap (λ l. front ++ (l ++ back)) cuts
    ∙ sym (append_assoc front (map f middle) back)
    ∙ ap (λ l. (front ++ map f middle) ++ l) (sym (append-nil back)) in
    let reach : length (front ++ map f middle) ≡ b = omega (arith, length-append front (map f middle), length-map middle f, wide) in
    let rest : length back ≡ length between - b =
    omega (arith, ap length now, length-append (front ++ map f middle) (back ++ []), ap length (append-nil back), reach) in
    let reached : c.is_reached-reached.result ≡ (holds c.args.constant.position c.args.first.roots || any_holds c.args.constant.position middle) =
    c.is_reached-reached.ensures ∙ ap (λ l. holds c.args.constant.position c.args.first.roots || any_holds c.args.constant.position l) part in
    written (front ++ map f middle) back [] between now b _ reach rest c.keep_rows.new.rows
    ∙ ap (λ l. (front ++ map f middle) ++ l)
    (append-nil c.keep_rows.new.rows ∙ c.keep_rows.ensures
    ∙ ap (kept c.is_reached-reached.result) (middle_is (front ++ map f middle) back [] between now b _ reach rest)
    ∙ ap (λ r. kept r back) reached)
    ∙ append_assoc front (map f middle) _
