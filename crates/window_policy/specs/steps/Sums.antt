-- One more tuple of a key whose contents are folded.
use Rattle.std.specs.Prelude.{◌≡◌, List, [], ◌∷◌, ◌++◌, length, map, Option}
use Rattle.std.specs.Option.{option_to_list}
use Rattle.spl_value.specs.declared.value.Value.{Value}
use Rattle.language_model.specs.declared.checked.Collector.{Collector}
use Rattle.language_model.specs.declared.checked.WindowRule.{WindowRule}
use Rattle.running_folds.specs.Tallies.{made_from}
use Rattle.stream_model.specs.Windows.{contents_of, fires_after}
use Rattle.window_policy.specs.declared.summed.Summed.{Summed}
use Rattle.window_policy.specs.declared.sums.Sums.{Sums}
use Rattle.window_policy.specs.Running.{HasAttribute, IsSummable, summed, summed_of}
use Rattle.window_policy.specs.Sums.{Holds}

-- the tuple is held too, and what is made of the content that fires is the answer, where one does
abbrev pub Adds : WindowRule → Sums → Sums → List Value → List Value → Option Summed → Type 0
Adds rule old new tuple args answer = (folds : List Collector) (ts : List (List Value)) → IsSummable rule → length args ≡ length folds → HasAttribute rule tuple
    → Holds rule folds old ts → Holds rule folds new ((tuple ++ args) ∷ ts)
    × (map summed_of (option_to_list answer) ≡ map (summed folds) (contents_of (fires_after rule (tuple ++ args) ts)))

-- what is kept is that of a first tuple, and the answer is what is made of the content that it fires
abbrev pub Begins : WindowRule → List Collector → Sums → List Value → List Value → Option Summed → Type 0
Begins rule folds new tuple args answer = IsSummable rule → length args ≡ length folds → HasAttribute rule tuple
    → Holds rule folds new ((tuple ++ args) ∷ [])
    × (map summed_of (option_to_list answer) ≡ map (summed folds) (contents_of (fires_after rule (tuple ++ args) [])))

-- a key with what is made of what is kept for it
abbrev pub taken_sums : List Value × Sums → List Value × (List Value × List Value)
taken_sums e = (e.0, (made_from e.1.tallies.items, e.1.last))
