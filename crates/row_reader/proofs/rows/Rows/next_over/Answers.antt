use Rattle.std.proofs.lemmas.Result.{IfOk-weaker}
use Rattle.row_reader.specs.Came.{item_of}
use Rattle.row_reader.proofs.Settings.{for_has, for_kept}
use Rattle.row_reader.proofs.rows.Rows.next_over.Goals as goal

pub returns-clause-has : goal.returns-clause-has
returns-clause-has g c = IfOk-weaker c.next_item.result _ _ (λ came h. λ o f. for_has c.args.self.now o (item_of came c.next_item.new.tuple) f h.has) c.next_item.ensures.step

pub returns-clause-kept : goal.returns-clause-kept
returns-clause-kept g c = IfOk-weaker c.next_item.result _ _ (λ came h. λ o f. for_kept c.args.self.now c.next_item.new.self o h.setting f) c.next_item.ensures.step
