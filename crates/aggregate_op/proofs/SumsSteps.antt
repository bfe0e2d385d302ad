-- What comes into a window of which folds are kept, event by event.
use Rattle.std.proofs.Common.{◌≡◌, ◌+◌, List, ◌∷◌, ◌++◌, map, length, Option, sym, ap, ◌∙◌, length-append, arith}
use Rattle.std.specs.Option.{option_to_list}
use Rattle.std.proofs.lemmas.Simd.{map-map}
use Rattle.spl_value.specs.declared.value.Value.{Value}
use Rattle.spl_value.proofs.Lists.{map_length}
use Rattle.language_model.specs.declared.checked.CollectedAttribute.{CollectedAttribute}
use Rattle.language_model.specs.declared.checked.Collector.{Collector}
use Rattle.language_model.specs.declared.checked.WindowRule.{WindowRule}
use Rattle.stream_model.specs.Windows.{WindowEvent, Insert, Mark, contents_of, fired_contents, flushed_after}
use Rattle.stream_model.specs.parts.Windows.{tuple_fires}
use Rattle.window_policy.specs.declared.running.Running.{Running}
use Rattle.window_policy.specs.declared.summed.Summed.{Summed}
use Rattle.window_policy.specs.declared.summed.SummedContent.{SummedContent}
use Rattle.window_policy.specs.Running.{content_summed, content_summed_of, summed, summed_of}
use Rattle.window_policy.specs.RunningStanding.{Runs}
use Rattle.aggregate_op.specs.declared.clauses.Clauses.{Clauses}
use Rattle.aggregate_op.specs.Kept.{AreLong, SumsStand, folds_of}
use Rattle.aggregate_op.specs.steps.Giving.{contents_given}
use Rattle.aggregate_op.specs.steps.Summing.{answers_in, made_by, sums_given}
use Rattle.aggregate_op.proofs.FullContents.{full_fired}
use Rattle.aggregate_op.proofs.Summing.{answers_of, contents_are}

module _ (clauses : Clauses) where
  abbrev folds : List Collector
  folds = folds_of clauses.output.now

  -- as many values of arguments as folds
  pub folds_many : (args : List Value) → length args ≡ length clauses.output.now → length args ≡ length folds
  folds_many args many = many ∙ sym (map_length (λ (x : CollectedAttribute). x.collector) clauses.output.now)

  module _ (rule : WindowRule) (old : Running) (h : List WindowEvent) (stood : SumsStand clauses rule old h) where
    event_is : (e : WindowEvent) → AreLong (clauses.width + length clauses.output.now) (e ∷ h)
        → contents_given clauses (fired_contents rule e h) ≡ sums_given clauses (map (answers_of clauses stood.together) (fired_contents rule e h))
    event_is e long = contents_are clauses stood.together (fired_contents rule e h) (full_fired (clauses.width + length clauses.output.now) rule stood.runs.allowed e h long)

    module _ (key tuple args : List Value) (long : length tuple ≡ clauses.width) (many : length args ≡ length clauses.output.now) where
      longer : AreLong (clauses.width + length clauses.output.now) (Insert key (tuple ++ args) ∷ h)
      longer = (let all = length-append tuple args in omega (arith, all, long, many), stood.long)

      -- what a tuple fires with gives what it does by the answers
      pub tuple_sums : (s : Option Summed) → map summed_of (option_to_list s) ≡ map (summed folds) (contents_of (tuple_fires rule key (tuple ++ args) h))
          → sums_given clauses (map answers_in (option_to_list s)) ≡ contents_given clauses (fired_contents rule (Insert key (tuple ++ args)) h)
      tuple_sums s is =
          ap (sums_given clauses)
          (sym (map-map (λ (p : List Value × List Value). p.0) summed_of (option_to_list s)) ∙ ap (map (λ (p : List Value × List Value). p.0)) is
          ∙ map-map (λ (p : List Value × List Value). p.0) (summed folds) (contents_of (tuple_fires rule key (tuple ++ args) h)))
          ∙ sym (event_is (Insert key (tuple ++ args)) longer)

      pub tuple_stands : (new : Running) → Runs rule folds new (Insert key (tuple ++ args) ∷ h) → SumsStand clauses rule new (Insert key (tuple ++ args) ∷ h)
      tuple_stands new runs = record { runs = runs; long = longer; reaches = stood.reaches; together = stood.together }

    -- so does what a window marker flushes
    pub mark_sums : (list : List SummedContent) → map content_summed_of list ≡ map (content_summed folds) (flushed_after rule h)
        → sums_given clauses (map made_by list) ≡ contents_given clauses (fired_contents rule Mark h)
    mark_sums list is =
        ap (sums_given clauses)
        (sym (map-map (λ (p : List Value × (List Value × List Value)). p.1.0) content_summed_of list) ∙ ap (map (λ (p : List Value × (List Value × List Value)). p.1.0)) is
        ∙ map-map (λ (p : List Value × (List Value × List Value)). p.1.0) (content_summed folds) (flushed_after rule h)
        ∙ sym (map-map (answers_of clauses stood.together) (λ (e : List Value × List (List Value)). e.1) (flushed_after rule h)))
        ∙ sym (event_is Mark stood.long)

    pub mark_stands : (new : Running) → Runs rule folds new (Mark ∷ h) → SumsStand clauses rule new (Mark ∷ h)
    mark_stands new runs = record { runs = runs; long = stood.long; reaches = stood.reaches; together = stood.together }
