-- An Aggregate before anything came.
use Rattle.std.proofs.Common.{◌≡◌, [], length, sym, subst}
use Rattle.std.specs.Prelude.{IfOk, Result, Ok, Err}
use Rattle.language_model.specs.declared.checked.CheckedClauses.TheVariants as A
use Rattle.stream_model.specs.Operators.{input_attributes}
use Rattle.aggregate_op.specs.declared.aggregate.Aggregate.{Aggregate}
use Rattle.aggregate_op.specs.declared.clauses.Clauses.{Clauses}
use Rattle.port_reacts.specs.Evaluation.{idle}
use Rattle.aggregate_op.specs.Kept.{KeptStands}
use Rattle.aggregate_op.specs.Standing.{AggregateStands, operator_of}

pub begins : {E : Type 0} (r : Result Aggregate E) (clauses : Clauses)
    → clauses.at.part.now ≡ A.Aggregate clauses.window.now clauses.partition.now clauses.group.now clauses.output.now
    → clauses.width ≡ length (input_attributes (operator_of clauses) 0) → IfOk r (λ a. a.clauses ≡ clauses) → IfOk r (λ a. KeptStands clauses clauses.window.now.rule a.kept [])
    → IfOk r (λ a. a.env ≡ idle) → IfOk r (λ a. AggregateStands a.clauses a.kept a.env [])
begins (Ok a) clauses are width same stands ready =
    subst (λ k. AggregateStands k a.kept a.env []) (sym same) (record { are = are; width = width; window = λ goes. stands; no_tuple = λ goes. ready })
begins (Err e) clauses are width same stands ready = tt
