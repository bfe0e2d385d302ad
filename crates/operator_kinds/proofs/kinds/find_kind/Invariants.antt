use Rattle.std.specs.Prelude.{◌≡◌, drop}
use Rattle.std.specs.List.{find}
use Rattle.std.specs.Str.{bytes_eq}
use Rattle.language_model.specs.Kinds.{rules_of}
use Rattle.operator_kinds.proofs.kinds.find_kind.Given as goal

abbrev pub invariant-loop-kind : goal.invariant-loop-kind
invariant-loop-kind l =
    find (λ kind. bytes_eq (rules_of kind).name l.name) l.kinds ≡ find (λ kind. bytes_eq (rules_of kind).name l.name) (drop l.kind-index l.kinds)
