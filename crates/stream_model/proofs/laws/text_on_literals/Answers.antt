use Rattle.std.specs.Fmt.{digits}
use Rattle.csv.specs.Writing.{escaped, fields_text, is_blank}
use Rattle.spl_value.specs.declared.value.Value.TheViews as V
use Rattle.stream_model.proofs.laws.text_on_literals.Goals as goal

pub returns-clause-kinds : goal.returns-clause-kinds
unfolding digits escaped fields_text is_blank
returns-clause-kinds c = simp (V.outs-Text, V.outs-Int, V.outs-Bool)

pub returns-clause-quoted : goal.returns-clause-quoted
unfolding digits escaped fields_text is_blank
returns-clause-quoted c = simp (V.outs-Text, V.outs-Int)
