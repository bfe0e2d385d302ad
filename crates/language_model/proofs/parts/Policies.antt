-- Words for parts of the rules of Policies that only proofs cite.
use Rattle.std.specs.Prelude.{ℕ, pos, ◌&&◌, ◌∷◌, Option, Ok}
use Rattle.spl_value.specs.declared.types.SplType.TheVariants as S
use Rattle.spl_value.specs.Values.{kind_holds}
use Rattle.spl_tree.specs.declared.unit.WindowPart.{WindowPart}
use Rattle.spl_tree.specs.Trees.{Expr}
use Rattle.language_model.specs.declared.checked.WindowRule.{WindowRule}
use Rattle.language_model.specs.Typing.{Found, after, same_types}
use Rattle.language_model.specs.Policies.{Delta, IntegerAttribute, Numbers, Parts, fitting}

abbrev pub limited : Numbers → IntegerAttribute → Expr → Found Delta
limited numbers a e =
    after (numbers e) (λ o.
    after (fitting (λ n. same_types (S.Int n.kind) (S.Int a.kind) && kind_holds a.kind (pos n.value)) e.at o) (λ limit.
    Ok (record { attribute = a.place; limit = limit })))

-- what slides: tuples that are kept, by the count that fires
abbrev pub Sliding : Type 0
Sliding = Option ℕ → WindowRule

abbrev pub in_front : WindowPart → Parts → Parts
in_front p parts = record { partitioned = parts.partitioned; others = p ∷ parts.others }
