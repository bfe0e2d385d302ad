use Rattle.language_model.specs.Policies.{bad_window}
use Rattle.literal_sites.specs.Sites.{numbers_at}
use Rattle.literal_sites.proofs.Answering.{fails_by}
use Rattle.window_rules.proofs.Windowing.{measure_or, measured_by}
use Rattle.window_rules.proofs.windows.rules.sliding_measure.Goals as goal
use Rattle.language_model.proofs.FoundAnswers.{stops}

pub returns-in_err-measure : goal.returns-in_err-measure
returns-in_err-measure c =
    let other = bad_window c.args.part.now.name.at in
    fails_by _ _ _ c.in_err-measure.field-0.0 c.from_residual.ensures.1
    (measured_by (numbers_at c.args.window.now.site.now) c.args.least c.args.window.now.port.now.schema c.args.part.now (λ m. m) other)
    (stops _ (measure_or (λ m. m) other) _ c.in_err-measure.ensures)
