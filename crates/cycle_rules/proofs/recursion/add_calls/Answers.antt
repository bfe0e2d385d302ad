use Rattle.std.proofs.Common.{◌∙◌, ap, map}
use Rattle.std.specs.Prelude.{filter_map}
use Rattle.std.specs.HashMap as hash
use Rattle.std.specs.Str.{bytes_eq}
use Rattle.cycle_rules.specs.steps.Named.{callers_seen, found_place}
use Rattle.cycle_rules.proofs.Gets.{take_whole}
use Rattle.cycle_rules.proofs.recursion.add_calls.Goals as goal

pub returns : goal.returns
returns c =
    c.loop-caller.invariant
    ∙ ap (λ cs. map (λ c'. filter_map (found_place (λ q. hash.get_by (λ k. bytes_eq q k.now) c.args.places.now)) c'.called) (callers_seen cs)) (take_whole c.loop-caller.caller-index c.args.callers.now c.loop-caller-test.false)
