use Rattle.std.proofs.Common.{ap, sym, ◌∙◌}
use Rattle.stream_model.specs.Selectivity.{gives}
use Rattle.selectivity_rules.proofs.CountedClasses.{handlers_are}
use Rattle.selectivity_rules.proofs.classes.gives_by.Goals as goal

pub returns-in-Custom : goal.returns-in-Custom
returns-in-Custom c = c.handlers_give.ensures ∙ handlers_are c.in-Custom.handlers ∙ sym (ap gives c.in-Custom.is)
