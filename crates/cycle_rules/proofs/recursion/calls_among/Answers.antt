use Rattle.std.proofs.Common.{◌∙◌}
use Rattle.std.specs.HashMap as hash
use Rattle.std.specs.Str.{bytes_eq}
use Rattle.cycle_rules.specs.steps.Named.{callers_seen}
use Rattle.cycle_rules.proofs.CallTables.{calls_by_table}
use Rattle.cycle_rules.proofs.recursion.calls_among.Goals as goal

pub returns : goal.returns
returns c = record {
  calls = c.in_ok-add_calls.ensures
      ∙ calls_by_table (λ q. hash.get_by (λ k. bytes_eq q k.now) c.in_ok-places.places) (callers_seen c.args.callers.now) c.in_ok-places.ensures;
}
