-- What the language says of the operators of each kind: one table, which all checks read.
use Rattle.std.specs.Prelude.{ℕ, nat_le, Bool, true, false, ◌&&◌, List, [], ◌∷◌, codes, Option, Some, None}
use Rattle.std.specs.List.{find}
use Rattle.std.specs.Str.{bytes_eq}
use Rattle.spl_tree.specs.declared.graph.OpKind.{OpKind}
use Rattle.spl_tree.specs.declared.graph.OpKind.TheVariants as O
use Rattle.language_model.specs.declared.kinds.OutputForm.{OutputForm}
use Rattle.language_model.specs.declared.kinds.OutputForm.TheVariants as F
use Rattle.language_model.specs.declared.kinds.ParameterRule as C
use Rattle.language_model.specs.declared.kinds.PortBounds.{PortBounds}
use Rattle.language_model.specs.declared.kinds.Presence.{Presence}
use Rattle.language_model.specs.declared.kinds.Presence.TheVariants as P
use Rattle.language_model.specs.declared.kinds.Role.{Role}
use Rattle.language_model.specs.declared.kinds.Role.TheVariants as R
use Rattle.language_model.specs.declared.kinds.TheConstants.{KINDS}
use Rattle.language_model.specs.declared.kinds.WindowForm.{WindowForm}
use Rattle.language_model.specs.declared.kinds.WindowForm.TheVariants as W

-- ---- what is said of a kind

pub record ParameterRule : Type 0 where
  pub name : List ℕ
  pub role : Role
  pub presence : Presence

-- its name; how many input and output ports it has; whether tuples are passed on as they come; its parameters; and
-- which windows its ports have, what its output attributes are assigned, where it has such clauses, and whether it has
-- logic
pub record KindRules : Type 0 where
  pub name : List ℕ
  pub inputs : PortBounds
  pub outputs : PortBounds
  pub passes_on : Bool
  pub parameters : List ParameterRule
  pub window : Option WindowForm
  pub output : Option OutputForm
  pub logic : Bool

abbrev pub between : ℕ → ℕ → PortBounds
between least most = record { least = least; most = most }

abbrev pub exactly : ℕ → PortBounds
exactly n = between n n

-- a parameter: its name, what its values are, and when it may and has to be given
abbrev pub parameter : List ℕ → Role → Presence → ParameterRule
parameter name role presence = record { name = name; role = role; presence = presence }

-- ---- the table

abbrev pub row : List ℕ → PortBounds → PortBounds → Bool → List ParameterRule → Option WindowForm → Option OutputForm
    → Bool → KindRules
row name inputs outputs passes_on parameters window output logic =
    record {
      name = name;
      inputs = inputs;
      outputs = outputs;
      passes_on = passes_on;
      parameters = parameters;
      window = window;
      output = output;
      logic = logic;
    }

-- the columns are those of `KindRules`, in their order
abbrev pub rules_of : OpKind → KindRules
rules_of O.FileSource =
    row (codes "FileSource") (exactly 0) (exactly 1) false (parameter (codes "file") R.File P.Required
    ∷ parameter (codes "format") R.Format P.Optional
    ∷ parameter (codes "parsing") R.Parsing P.Optional ∷ []) None None false
rules_of O.FileSink = row (codes "FileSink") (exactly 1) (exactly 0) false (parameter (codes "file") R.File P.Required
    ∷ parameter (codes "format") R.Format P.Optional ∷ []) None None false
rules_of O.Filter =
    row (codes "Filter") (exactly 1) (exactly 1) true
    (parameter (codes "filter") R.Condition P.Optional ∷ []) None None false
rules_of O.Functor = row (codes "Functor") (exactly 1) (exactly 1) false
    (parameter (codes "filter") R.Condition P.Optional ∷ []) None (Some F.Tuple) false
rules_of O.Punctor =
    row (codes "Punctor") (exactly 1) (exactly 1) true (parameter (codes "punctuation") R.Condition P.Required
    ∷ parameter (codes "position") R.Position P.Required ∷ []) None None false
rules_of O.Split =
    row (codes "Split") (exactly 1) (between 1 16) true
    (parameter (codes "index") R.Index P.Required ∷ []) None None false
rules_of O.Union = row (codes "Union") (between 1 16) (exactly 1) false [] None None false
rules_of O.Custom = row (codes "Custom") (between 1 16) (between 0 16) false [] None None true
rules_of O.Aggregate =
    row (codes "Aggregate") (exactly 1) (exactly 1) false (parameter (codes "partitionBy") R.Attributes P.WithPartitions
    ∷ parameter (codes "groupBy") R.Attributes P.Optional ∷ []) (Some W.Aggregate) (Some F.Groups) false
rules_of O.Join = row (codes "Join") (exactly 2) (exactly 1) false
    (parameter (codes "match") R.Condition P.Optional ∷ []) (Some W.Join) (Some F.Tuple) false

-- ---- the code's table

-- a row of the code's table, as this one has it
abbrev pub parameter_seen : C.ParameterRule → ParameterRule
parameter_seen p = record { name = p.name.now; role = p.role; presence = p.presence }

-- ---- what it says

-- the operator of this name that the language has
abbrev pub kind_named : List ℕ → Option OpKind
kind_named name = find (λ kind. bytes_eq (rules_of kind).name name) KINDS

abbrev pub is_within : PortBounds → ℕ → Bool
is_within bounds n = nat_le bounds.least n && nat_le n bounds.most

-- an operator whose window is partitioned, or isn't, has such a parameter. One with partitions is had where it is, and
-- then needed
abbrev pub is_had : Bool → Presence → Bool
is_had partitioned P.WithPartitions = partitioned
is_had partitioned _ = true

abbrev pub is_needed : Bool → Presence → Bool
is_needed partitioned P.Optional = false
is_needed partitioned P.Required = true
is_needed partitioned P.WithPartitions = partitioned
