use Rattle.std.proofs.Common.{◌∙◌, ap, subst, sym}
use Rattle.spl_value.specs.declared.types.SplType.TheVariants as T
use Rattle.language_model.specs.Outcomes.{Done}
use Rattle.language_model.specs.WorldFits.{Fits}
use Rattle.stream_model.specs.Bodies.{made_where, most_turns}
use Rattle.stream_model.specs.React.{answer}
use Rattle.port_reacts.specs.Evaluation.{PassesFit}
use Rattle.relational_ops.proofs.Evaluations.{condition_fault, made_fault, made_none, made_to}
use Rattle.relational_ops.proofs.functor.making.map_tuple.Goals as goal

pub passes-requires : goal.passes-requires
passes-requires c = subst (λ fs. PassesFit fs c.args.clauses.now.condition.now c.args.env.now) (sym c.functions-functions.ensures) c.requires.condition

pub made-requires-clause-fit : goal.made-requires-clause-fit
made-requires-clause-fit c =
    let fit = c.requires.output in (fit.0, subst (λ fs. Fits fs c.args.clauses.now.output.now c.args.env.now (T.Tuple fit.0)) (sym c.functions-functions.ensures) fit.1)

pub returns-in-Tuple-clause-made : goal.returns-in-Tuple-clause-made
returns-in-Tuple-clause-made c =
    ap (λ fs. answer (made_where fs c.args.clauses.now.condition.now c.args.clauses.now.output.now c.args.env.now most_turns)) (sym c.functions-functions.ensures)
    ∙ made_to c.functions-functions.result.now c.args.clauses.now.condition.now c.args.clauses.now.output.now c.args.env.now c.passes.new.turns c.made.new.turns c.in-Tuple.values
    (c.in-Is-true.ensures ∙ ap (λ b. Done b c.passes.new.turns) c.in-Is-true.field-0-test) c.in-Tuple.ensures.made

pub returns-in-Bad-made-clause-made : goal.returns-in-Bad-made-clause-made
returns-in-Bad-made-clause-made c =
    ap (λ fs. answer (made_where fs c.args.clauses.now.condition.now c.args.clauses.now.output.now c.args.env.now most_turns)) (sym c.functions-functions.ensures)
    ∙ made_fault c.functions-functions.result.now c.args.clauses.now.condition.now c.args.clauses.now.output.now c.args.env.now c.passes.new.turns c.in-Bad-made.kind
    (c.in-Is-true.ensures ∙ ap (λ b. Done b c.passes.new.turns) c.in-Is-true.field-0-test) c.in-Bad-made.ensures.made

pub returns-in-Is-false-clause-made : goal.returns-in-Is-false-clause-made
returns-in-Is-false-clause-made c =
    ap (λ fs. answer (made_where fs c.args.clauses.now.condition.now c.args.clauses.now.output.now c.args.env.now most_turns)) (sym c.functions-functions.ensures)
    ∙ made_none c.functions-functions.result.now c.args.clauses.now.condition.now c.args.clauses.now.output.now c.args.env.now c.passes.new.turns
    (c.in-Is-false.ensures ∙ ap (λ b. Done b c.passes.new.turns) c.in-Is-false.field-0-test)

pub returns-in-Bad-clause-made : goal.returns-in-Bad-clause-made
returns-in-Bad-clause-made c =
    ap (λ fs. answer (made_where fs c.args.clauses.now.condition.now c.args.clauses.now.output.now c.args.env.now most_turns)) (sym c.functions-functions.ensures)
    ∙ condition_fault c.functions-functions.result.now c.args.clauses.now.condition.now c.args.clauses.now.output.now c.args.env.now c.in-Bad.kind c.in-Bad.ensures
