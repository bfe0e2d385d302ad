-- What the table of kinds says of the names of operators and of their checked clauses.
use Rattle.std.specs.Prelude.{◌≡◌, List, Bool, true, false, Option, Some, None}
use Rattle.spl_tree.specs.declared.graph.OpKind.{OpKind}
use Rattle.language_model.specs.declared.checked.CheckedClauses.{CheckedClauses}
use Rattle.language_model.specs.declared.checked.CheckedClauses.TheVariants as A
use Rattle.language_model.specs.declared.kinds.OutputForm.{OutputForm}
use Rattle.language_model.specs.declared.kinds.OutputForm.TheVariants as F
use Rattle.language_model.specs.declared.kinds.WindowForm.{WindowForm}
use Rattle.language_model.specs.declared.kinds.WindowForm.TheVariants as W
use Rattle.language_model.specs.declared.scope.Scope.{Scope}
use Rattle.language_model.specs.Keeping.{PartFits}
use Rattle.language_model.specs.Kinds.{kind_named, rules_of}
use Rattle.language_model.specs.StreamTypes.{Attributes}

-- each kind is the one of its name, so no two have the same
abbrev pub KindNamesLaw : Type 0
KindNamesLaw = (kind : OpKind) → kind_named (rules_of kind).name ≡ Some kind

-- ---- checked clauses

-- what windows they have
abbrev pub windows_had : CheckedClauses → Option WindowForm
windows_had (A.Aggregate window partition group output) = Some W.Aggregate
windows_had (A.Join left right condition output) = Some W.Join
windows_had _ = None

-- what is assigned to the output
abbrev pub output_had : CheckedClauses → Option OutputForm
output_had (A.Functor condition output) = Some F.Tuple
output_had (A.Aggregate window partition group output) = Some F.Groups
output_had (A.Join left right condition output) = Some F.Tuple
output_had _ = None

abbrev pub has_logic : CheckedClauses → Bool
has_logic (A.Custom handlers) = true
has_logic _ = false

-- clauses that fit a kind are those of its row
pub record IsOfRow (kind : OpKind) (part : CheckedClauses) : Type 0 where
  pub windows : windows_had part ≡ (rules_of kind).window
  pub output : output_had part ≡ (rules_of kind).output
  pub logic : has_logic part ≡ (rules_of kind).logic

abbrev pub KindRowsLaw : Type 0
KindRowsLaw = (scope : Scope) (kind : OpKind) (ins outs : List Attributes) (part : CheckedClauses) → PartFits scope kind ins outs part → IsOfRow kind part
