-- How the last of some operators one behind the other ends.
use Rattle.std.proofs.Common.{false, List, [], ◌∷◌, ◌≡◌, map, refl, sym, ap, ◌∙◌, Option, Some, None, is_some}
use Rattle.std.specs.Option.{option_or}
use Rattle.std.proofs.lemmas.Bool.{cond-false}
use Rattle.spl_value.specs.declared.item.Item.{Item}
use Rattle.language_model.specs.declared.outs.Output.{Output}
use Rattle.stream_model.specs.Chains.{onward, stages_passed}
use Rattle.stream_model.specs.Ends.{end_from}
use Rattle.stream_model.specs.Operators.{Operator}
use Rattle.stream_model.specs.React.{ended}
use Rattle.stream_model.specs.Stages.{Stage, start, next, gives_all, stage_after}
use Rattle.stream_model.specs.Stream.{Event}
use Rattle.stream_model.proofs.StageLaws.{after-over}
use Rattle.operator_chains.specs.declared.how.How.{How}
use Rattle.operator_chains.specs.declared.how.How.TheVariants as H
use Rattle.operator_chains.specs.Hows.{how_by, last_how, stage_how}
use Rattle.operator_chains.proofs.Entering.{some_how}
use Rattle.element_notes.specs.Endings.{how_passed}

-- the stage behind one event, which had not ended
step : (s : Stage) (e : Event) → s.over ≡ false → next s e ≡ record { op = s.op; seen = e ∷ s.seen; over = is_some (ended s.op s.seen e) }
step s e q = cond-false s.over s (record { op = s.op; seen = e ∷ s.seen; over = is_some (ended s.op s.seen e) }) q

-- where an operator stands behind events says with what it ended
pub how-after : (s : Stage) (events : List Event) → s.over ≡ false → stage_how (stage_after s events) ≡ how_by (end_from s events)
how-after s [] q = cond-false s.over _ H.Live q
how-after s (e ∷ events) q = go (ended s.op s.seen e) refl (how-after (next s e) events)
  where
    over : (x : Option Item) → ended s.op s.seen e ≡ x → (next s e).over ≡ is_some x
    over x is = ap (λ (t : Stage). t.over) (step s e q) ∙ ap is_some is

    go : (x : Option Item) → ended s.op s.seen e ≡ x → ((next s e).over ≡ false → stage_how (stage_after (next s e) events) ≡ how_by (end_from (next s e) events))
        → stage_how (stage_after (next s e) events) ≡ how_by (option_or x (end_from (next s e) events))
    go None is later = later (over None is)
    go (Some x) is later =
        ap stage_how (after-over (next s e) events (over (Some x) is)) ∙ ap stage_how (step s e q) ∙ some_how (ended s.op s.seen e) ∙ ap how_by is

-- so it is of the last one
pub last-passed : (how : How) (ops : List Operator) (outs : List Output) → how_passed how ops outs ≡ last_how how (stages_passed (map start ops) outs)
last-passed how [] outs = refl
last-passed how (op ∷ ops) outs =
    last-passed (how_by (end_from (start op) (onward outs))) ops (gives_all (start op) (onward outs))
    ∙ ap (λ h. last_how h (stages_passed (map start ops) (gives_all (start op) (onward outs)))) (sym (how-after (start op) (onward outs) refl))
