use Rattle.std.proofs.Common.{sym, ap, ◌∙◌}
use Rattle.indexmap.specs.IndexMap.{get}
use Rattle.key_maps.specs.MapKeys.{equal_key}
use Rattle.window_policy.proofs.SumsAt.{marks_all}
use Rattle.window_policy.proofs.running.Running.mark.Goals as goal

pub returns-in_ok-list-in-TumblingPunct-clause-summed : goal.returns-in_ok-list-in-TumblingPunct-clause-summed
returns-in_ok-list-in-TumblingPunct-clause-summed c rule folds h stood =
    c.in_ok-list-in-TumblingPunct.ensures
    ∙ marks_all rule (sym stood.by ∙ c.in-TumblingPunct.is) folds h c.in_ok-pairs-in-TumblingPunct.pairs.items (get equal_key c.args.self.now.parts) c.in_ok-pairs-in-TumblingPunct.ensures.sorted
    (λ q. c.in_ok-pairs-in-TumblingPunct.ensures.found q ∙ ap (λ m. get equal_key m q) c.replace-parts.ensures.value) stood.at
