use Rattle.std.proofs.Common.{◌≡◌, ◌++◌, List, Some, drop, map}
use Rattle.std.specs.Option.{option_map}
use Rattle.language_model.specs.declared.outs.Output.{Output}
use Rattle.window_policy.specs.declared.fired.FlushedContent.{FlushedContent}
use Rattle.aggregate_op.specs.steps.Giving.{contents_given}
use Rattle.aggregate_op.proofs.contents.give_flushed.Given as goal

-- what is given so far and what the contents that are left give are all
abbrev pub invariant-loop-content : goal.invariant-loop-content
invariant-loop-content l = (given : List Output) → contents_given l.clauses (map (λ (e : FlushedContent). e.tuples) l.flushed) ≡ Some given
    → option_map (λ more. l.outs ++ more) (contents_given l.clauses (map (λ (e : FlushedContent). e.tuples) (drop l.content-index l.flushed))) ≡ Some (l.fn.outs ++ given)
