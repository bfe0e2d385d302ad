use Rattle.std.proofs.Common.{◌≡◌, ◌++◌, ◌<◌, List, length, drop, map}
use Rattle.spl_value.specs.declared.value.Value.{Value}
use Rattle.language_model.specs.Outcomes.{Done, followed}
use Rattle.stream_model.specs.Joins.{pairs_give}
use Rattle.join_op.specs.Pairs.{other_place, with_other}
use Rattle.join_op.specs.steps.Matching.{matched}
use Rattle.join_op.proofs.matching.match_all.Given as goal

-- what is given so far and what is left give are all
abbrev pub invariant-loop-i : goal.invariant-loop-i
invariant-loop-i l = record {
  place : other_place l.fn.side < length l.env.inputs;
  env : (u : List Value) → with_other l.fn.side l.env u ≡ with_other l.fn.side l.fn.env u;
  given : followed (pairs_give l.fn.clauses.at.checked.now.functions l.fn.clauses.condition.now l.fn.clauses.output.now (map (with_other l.fn.side l.fn.env) (drop l.i l.others)) l.turns)
      (λ more turns. Done (l.outs ++ more) turns)
      ≡ matched l.fn.clauses (map (with_other l.fn.side l.fn.env) l.others);
}
