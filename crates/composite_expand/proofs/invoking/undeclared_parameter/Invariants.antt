use Rattle.std.proofs.Common.{◌≡◌, drop}
use Rattle.language_model.specs.Declarations.{first_of}
use Rattle.language_model.specs.Mentions.{clause_mentions}
use Rattle.composite_expand.specs.steps.Invocations.{undeclared_parameters}
use Rattle.program_tables.specs.Mentioned.{mentions_seen}
use Rattle.composite_expand.proofs.invoking.undeclared_parameter.Given as goal

abbrev pub invariant-loop-mention : goal.invariant-loop-mention
invariant-loop-mention l =
    first_of (undeclared_parameters l.scope.composite.now (clause_mentions l.fn.clauses))
    ≡ first_of (undeclared_parameters l.scope.composite.now (mentions_seen (drop l.mention-index l.mention-items)))
