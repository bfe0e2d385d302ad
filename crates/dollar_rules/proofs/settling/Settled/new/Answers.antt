use Rattle.dollar_rules.proofs.SettlesMore.{as_many, none_up}
use Rattle.dollar_rules.proofs.Settles.{none_settled}
use Rattle.dollar_rules.specs.steps.Settling.{given_of}
use Rattle.dollar_rules.proofs.settling.Settled.new.Goals as goal

pub returns : goal.returns
returns c =
    let flags = c.in_ok-marks.ensures.items_if_clones_equal (λ y e. e) in
    none_settled (given_of c.args.head.now) _ (as_many _ _ flags) (none_up _ _ flags) c.no_names-scope.ensures
