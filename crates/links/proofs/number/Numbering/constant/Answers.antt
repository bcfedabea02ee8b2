use Rattle.std.proofs.Common.{[], ◌∷◌, ◌++◌, length, sym, ap, ◌∙◌, arith}
use Rattle.std.proofs.lemmas.List.{length_push}
use Rattle.pattern.specs.Positions.{constant}
use Rattle.links.proofs.Places.{named_new}
use Rattle.links.proofs.number.Numbering.constant.Goals as goal

pub push-requires : goal.push-requires
push-requires c =
    let ps = c.args.self.now in
    let new = named_new c.args.code ps (sym c.find.ensures ∙ c.in-None.is) in
    record { room = omega (arith, c.requires.few, ap (λ l. length (ps ++ l)) new.1, length_push ps (constant c.args.code)) }

pub returns-in-None-clause-named : goal.returns-in-None-clause-named
returns-in-None-clause-named c =
    let ps = c.args.self.now in
    c.push.ensures.named
    ∙ ap (λ p. ps ++ p ∷ []) c.constant.ensures
    ∙ ap (λ l. ps ++ l) (sym (named_new c.args.code ps (sym c.find.ensures ∙ c.in-None.is)).1)
