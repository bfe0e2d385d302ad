use Rattle.language_model.proofs.Calling.{never_stuck_law, statement_leads_law, body_leaves_law}
use Rattle.evaluation_laws.proofs.evaluation.evaluation_law.Goals as goal

pub returns : goal.returns
returns c = record { never_stuck = never_stuck_law; statements = statement_leads_law; bodies = body_leaves_law }
