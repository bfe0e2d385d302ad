use Rattle.grammar_laws.proofs.Forms.{definition_form_law, form_law, type_form_law}
use Rattle.grammar_laws.proofs.laws.forms_law.Goals as goal

pub returns : goal.returns
returns c = record { types = type_form_law; statements = form_law; definitions = definition_form_law }
