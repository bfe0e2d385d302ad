use Rattle.std.proofs.Common.{◌++◌, sym, ap, ◌∙◌, append_assoc}
use Rattle.std.specs.Option.{option_map}
use Rattle.spl_value.specs.declared.item.Item.TheVariants as I
use Rattle.spl_value.proofs.Results.{some_same}
use Rattle.language_model.proofs.Options.{mapped}
use Rattle.stream_model.specs.parts.Aggregates.{marker_after}
use Rattle.stream_model.specs.Bodies.{on_first}
use Rattle.aggregate_op.specs.steps.Summing.{tuple_with}
use Rattle.aggregate_op.proofs.sums.give_answers.Goals as goal

pub answers_tuple-requires : goal.answers_tuple-requires
answers_tuple-requires c =
    let x = c.args.clauses.now in
    let there = mapped (λ t. on_first (I.Tuple t) ++ marker_after x.window.now.rule) (tuple_with x.output.now c.args.answers.now) c.requires.0 c.requires.1 in
    (there.0, there.1)

pub returns : goal.returns
returns c given e =
    let x = c.args.clauses.now in
    let old = c.args.outs.now in
    let marker = marker_after x.window.now.rule in
    let vs = c.in_ok-values.values in
    c.in_ok-give_marker.ensures ∙ ap (λ os. os ++ marker) c.in_ok-give_first.ensures ∙ append_assoc old (on_first (I.Tuple vs)) marker
    ∙ ap (λ os. old ++ os) (some_same (on_first (I.Tuple vs) ++ marker) given (ap (option_map (λ t. on_first (I.Tuple t) ++ marker)) (sym c.in_ok-values.ensures) ∙ e))
