use Rattle.std.proofs.Common.{◌∷◌, ◌++◌, List, Some, cond, map, sym, ap, subst, ◌∙◌, arith}
use Rattle.indexmap.specs.IndexMap.{get, with_value_at}
use Rattle.spl_value.specs.declared.value.Value.{Value}
use Rattle.stream_model.specs.Windows.{contents_of, fires_after, tuples_with}
use Rattle.stream_model.specs.parts.Windows.{relevant}
use Rattle.key_maps.specs.MapKeys.{equal_key}
use Rattle.window_policy.specs.Running.{summed}
use Rattle.window_policy.specs.Sums.{Holds, SumsAt}
use Rattle.window_policy.specs.steps.Sums.{Adds, Begins}
use Rattle.window_policy.proofs.Places.{kept_there, nothing, updates_there}
use Rattle.window_policy.proofs.SumsAt.{no_sums, some_sums}
use Rattle.window_policy.proofs.Windows.{fires_by, inserted}
use Rattle.window_policy.proofs.running.Running.insert.Goals as goal

pub returns-in-Some-clause-summed : goal.returns-in-Some-clause-summed
returns-in-Some-clause-summed c rule folds h stood same has =
    let key = c.args.key.now in
    let u = c.args.tuple ++ c.args.args in
    let ts = tuples_with key (relevant rule h) in
    let there = kept_there c.args.self.now.parts key c.in-Some.place (sym c.in-Some.ensures.index) _ _ c.pair_mut-sums.ensures.value in
    let kept = some_sums rule folds _ _ ts there (stood.at key) in
    let next = subst (λ r. Adds r c.pair_mut-sums.result.1.now c.add.new.self c.args.tuple c.args.args c.in_ok-summed.summed) stood.by c.in_ok-summed.ensures
    folds ts stood.allowed same has kept.0 in
    next.1 ∙ ap (λ f. map (summed folds) (contents_of f)) (fires_by rule key u h)

pub returns-in-Some-clause-runs : goal.returns-in-Some-clause-runs
returns-in-Some-clause-runs c rule folds h stood same has =
    let key = c.args.key.now in
    let u = c.args.tuple ++ c.args.args in
    let ts = tuples_with key (relevant rule h) in
    let parts = c.args.self.now.parts in
    let place = c.in-Some.place in
    let there = kept_there parts key place (sym c.in-Some.ensures.index) _ _ c.pair_mut-sums.ensures.value in
    let kept = some_sums rule folds _ _ ts there (stood.at key) in
    let next = subst (λ r. Adds r c.pair_mut-sums.result.1.now c.add.new.self c.args.tuple c.args.args c.in_ok-summed.summed) stood.by c.in_ok-summed.ensures
    folds ts stood.allowed same has kept.0 in
    let new = with_value_at parts place c.add.new.self in
    let updates = updates_there parts key place (sym c.in-Some.ensures.index) _ _ c.pair_mut-sums.ensures.value c.pair_mut-sums.ensures.unique c.add.new.self in
    record {
      by = stood.by;
      folds_are = stood.folds_are;
      allowed = stood.allowed;
      at = inserted rule (SumsAt rule folds) parts new key u c.add.new.self h updates stood.at (next.0, omega arith);
    }

pub returns-clause-summed : goal.returns-clause-summed
returns-clause-summed c rule folds h stood same has =
    let key = c.args.key.now in
    let u = c.args.tuple ++ c.args.args in
    let ts = tuples_with key (relevant rule h) in
    let absent = nothing (get equal_key c.args.self.now.parts key) c.in_default.ensures.found in
    let none = no_sums rule folds _ ts absent (stood.at key) in
    let made = subst (λ fs. Begins rule fs c.in_ok-sums.sums c.args.tuple c.args.args c.in_ok-sums.summed) stood.folds_are
    (subst (λ r. Begins r c.args.self.now.folds c.in_ok-sums.sums c.args.tuple c.args.args c.in_ok-sums.summed) stood.by c.in_ok-sums.ensures)
    stood.allowed same has in
    made.1
    ∙ ap (λ (xs : List (List Value)). map (summed folds) (contents_of (fires_after rule u xs))) (sym none)
    ∙ ap (λ f. map (summed folds) (contents_of f)) (fires_by rule key u h)

pub returns-clause-runs : goal.returns-clause-runs
returns-clause-runs c rule folds h stood same has =
    let key = c.args.key.now in
    let u = c.args.tuple ++ c.args.args in
    let ts = tuples_with key (relevant rule h) in
    let parts = c.args.self.now.parts in
    let sums = c.in_ok-sums.sums in
    let absent = nothing (get equal_key parts key) c.in_default.ensures.found in
    let none = no_sums rule folds _ ts absent (stood.at key) in
    let made = subst (λ fs. Begins rule fs sums c.args.tuple c.args.args c.in_ok-sums.summed) stood.folds_are
    (subst (λ r. Begins r c.args.self.now.folds sums c.args.tuple c.args.args c.in_ok-sums.summed) stood.by c.in_ok-sums.ensures)
    stood.allowed same has in
    let keeps = subst (λ (xs : List (List Value)). Holds rule folds sums (u ∷ xs)) (sym none) made.0 in
    let own = c.in_ok-own.ensures ∙ c.as_slice.ensures in
    let updates = λ (q : List Value). c.in_ok-insert.ensures.updates.0 q ∙ ap (λ k. cond (equal_key k q) (Some sums) (get equal_key parts q)) own in
    record {
      by = stood.by;
      folds_are = stood.folds_are;
      allowed = stood.allowed;
      at = inserted rule (SumsAt rule folds) parts c.insert.new.self key u sums h updates stood.at (keeps, omega arith);
    }
