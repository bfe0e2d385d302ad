use Rattle.spl_tree.specs.declared.body.Statement.TheVariants as T
use Rattle.spl_tree.specs.declared.body.Statement.TheFolds.{fold_out-Statement}
use Rattle.spl_tree.specs.declared.code.Code.TheVariants as C
use Rattle.stream_model.proofs.plan_laws.clauses_on_literals.Goals as goal

pub returns-clause-copied : goal.returns-clause-copied
returns-clause-copied c = simp C.outs-Name

pub returns-clause-not_partition : goal.returns-clause-not_partition
returns-clause-not_partition c = simp C.outs-Name

pub returns-clause-traced : goal.returns-clause-traced
returns-clause-traced c = simp C.outs-Name

pub returns-clause-submitted : goal.returns-clause-submitted
returns-clause-submitted c = simp (fold_out-Statement, T.outs-If, T.outs-Submit, T.outs-SubmitWindow, C.outs-Name, C.outs-Tuple, C.outs-Binary, C.outs-IsMarker)

pub returns-clause-at_most_one : goal.returns-clause-at_most_one
returns-clause-at_most_one c = simp (fold_out-Statement, T.outs-If, T.outs-Submit, T.outs-SubmitWindow, C.outs-Name, C.outs-Tuple, C.outs-Binary, C.outs-IsMarker)

pub returns-clause-one : goal.returns-clause-one
returns-clause-one c = simp (fold_out-Statement, T.outs-If, T.outs-Submit, T.outs-SubmitWindow, C.outs-Name, C.outs-Tuple, C.outs-Binary, C.outs-IsMarker)

pub returns-clause-no_marker : goal.returns-clause-no_marker
returns-clause-no_marker c = simp (fold_out-Statement, T.outs-If, T.outs-Submit, T.outs-SubmitWindow, C.outs-Name, C.outs-Tuple, C.outs-Binary, C.outs-IsMarker)
