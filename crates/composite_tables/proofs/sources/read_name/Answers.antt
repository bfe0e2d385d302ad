use Rattle.std.proofs.Common.{refl, [], ◌∷◌, ◌++◌}
use Rattle.composite_tables.proofs.Following.{first_and_rest, turn_done, turn_nothing, turn_one, turn_names}
use Rattle.composite_tables.proofs.sources.read_name.Goals as goal

pub returns-in_default-clause-list : goal.returns-in_default-clause-list
returns-in_default-clause-list c = λ xs kept.
    turn_done xs c.args.sources.now _ c.args.readings.now.items (c.args.readings.now.items ++ c.args.reading ∷ []) c.args.reading refl c.in_default.len_below refl

pub returns-in-Nothing-clause-list : goal.returns-in-Nothing-clause-list
returns-in-Nothing-clause-list c = λ xs kept.
    turn_nothing xs _ _ _ _ _ c.args.reading _ c.name-item.result refl c.in_ok-push.ensures.items (first_and_rest c.args.reading.names.now c.name-item.result c.in-len1-up.len_at_least c.name-item.is) refl refl
    (c.in-Nothing.ensures.list xs kept)

pub returns-in_ok-push-in-One-clause-list : goal.returns-in_ok-push-in-One-clause-list
returns-in_ok-push-in-One-clause-list c = λ xs kept.
    turn_one xs _ _ _ _ _ c.args.reading _ c.name-item.result refl c.in_ok-push.ensures.items (first_and_rest c.args.reading.names.now c.name-item.result c.in-len1-up.len_at_least c.name-item.is) refl refl
    c.in-One.source _ c.in_ok-push-in-One.ensures.ok (c.in-One.ensures.list xs kept)

pub returns-in_ok-push-in-Names-clause-list : goal.returns-in_ok-push-in-Names-clause-list
returns-in_ok-push-in-Names-clause-list c = λ xs kept.
    turn_names xs _ _ _ _ _ c.args.reading _ c.name-item.result refl c.in_ok-push.ensures.items (first_and_rest c.args.reading.names.now c.name-item.result c.in-len1-up.len_at_least c.name-item.is) refl refl
    c.in-Names.inner _ c.in_ok-push-in-Names.ensures.items (c.in-Names.ensures.list xs kept)
