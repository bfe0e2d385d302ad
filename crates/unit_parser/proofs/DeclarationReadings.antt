-- A declaration takes a token at least.
use Rattle.std.proofs.Common.{◌<◌, List, [], ◌∷◌, ◌++◌, length, ap, subst, arith}
use Rattle.std.proofs.lemmas.List.{length-append}
use Rattle.spl_tree.specs.declared.statement.Declaration.{Declaration}
use Rattle.spl_tree.specs.declared.token.Token.{Token}
use Rattle.spl_tree.specs.spellings.StatementGrammar.{SpellsDeclaration, declaration}
use Rattle.expr_parser.specs.Rules.{Took, Reads}
use Rattle.expr_parser.proofs.Soundness.{Sound}
use Rattle.statement_parser.specs.Lines.{Declare, rule}
use Rattle.unit_parser.proofs.Sound.{sound_line}

some_tokens : {d : Declaration} {a : List Token} → SpellsDeclaration d a → 0 < length a
some_tokens (declaration m k t s n v a b d first kinds names second ends) =
    omega (arith, length-append a (b ++ t ∷ (d ++ s ∷ [])), length-append b (t ∷ (d ++ s ∷ [])))

pub declaration_shrinks : {ts rest : List Token} {d : Declaration} → Reads rule Declare ts (Took d rest) → length rest < length ts
declaration_shrinks {ts} {rest} {d} r =
    let taken = subst (λ o. Sound SpellsDeclaration ts o) r.is (sound_line r.depth Declare ts) in
    let some = some_tokens taken.spells in
    let both = ap length taken.splits in
    omega (arith, length-append taken.front rest)
