use Rattle.csv.proofs.OnLiterals.{csv_on_literals}
use Rattle.spl_value.specs.declared.types.SplType.TheViews as T
use Rattle.stream_model.proofs.laws.rows_on_literals.Goals as goal

pub returns-clause-plain : goal.returns-clause-plain
unfolding csv_on_literals
returns-clause-plain c = simp (T.outs-Text, T.outs-Int)

pub returns-clause-quoted : goal.returns-clause-quoted
unfolding csv_on_literals
returns-clause-quoted c = simp T.outs-Text

pub returns-clause-bad : goal.returns-clause-bad
unfolding csv_on_literals
returns-clause-bad c = simp T.outs-Int

pub returns-clause-dropped : goal.returns-clause-dropped
unfolding csv_on_literals
returns-clause-dropped c = simp T.outs-Int

pub returns-clause-limited : goal.returns-clause-limited
unfolding csv_on_literals
returns-clause-limited c = simp T.outs-Int

pub returns-clause-failed : goal.returns-clause-failed
unfolding csv_on_literals
returns-clause-failed c = simp T.outs-Int

pub returns-clause-failed_later : goal.returns-clause-failed_later
unfolding csv_on_literals
returns-clause-failed_later c = simp T.outs-Int

pub returns-clause-first_bad : goal.returns-clause-first_bad
unfolding csv_on_literals
returns-clause-first_bad c = simp T.outs-Int

pub returns-clause-marked : goal.returns-clause-marked
unfolding csv_on_literals
returns-clause-marked c = simp T.outs-Int

pub returns-clause-flags : goal.returns-clause-flags
unfolding csv_on_literals
returns-clause-flags c = simp T.outs-Bool
