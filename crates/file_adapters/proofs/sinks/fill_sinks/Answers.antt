use Rattle.std.proofs.Common.{◌∙◌, ap, length}
use Rattle.std.proofs.lemmas.List.{with_items_is}
use Rattle.file_adapters.proofs.Sinking.{filled, written_counts, written_told}
use Rattle.file_adapters.proofs.sinks.fill_sinks.Goals as goal

pub returns-clause-told : goal.returns-clause-told
returns-clause-told g c = λ none.
    let olds = c.args.pours in
    let news = c.write_each-written.new.pours in
    let same = with_items_is olds news (c.write_each-written.ensures.pours ∙ c.as_mut_slice.ensures.len) in
    rw c.ended.ensures
    (written_told (g.H.Writer.Pour).poured (g.H.Writer.Pour).faults c.write_each-written.result c.finish_each-first.result olds.items news c.args.sinks.now c.args.streams.now _ _ _ _
    c.requires.many (c.write_each-written.ensures.pours ∙ ap length c.as_mut_slice.ensures.value) none
    (rw (c.as_slice.ensures, c.as_mut_slice.ensures.value) at c.write_each-written.ensures.poured)
    (rw (c.as_slice-2.ensures, same) at c.finish_each-first.ensures.told))

pub returns-clause-cause : goal.returns-clause-cause
returns-clause-cause g c =
    let olds = c.args.pours in
    let news = c.write_each-written.new.pours in
    let same = with_items_is olds news (c.write_each-written.ensures.pours ∙ c.as_mut_slice.ensures.len) in
    rw c.ended.ensures
    (written_counts c.write_each-written.result c.finish_each-first.result _ _ c.args.sinks.now (length news) (rw (c.as_slice-2.ensures, same) at c.finish_each-first.ensures.cause))

pub returns-clause-filled : goal.returns-clause-filled
returns-clause-filled g c =
    let olds = c.args.pours in
    let news = c.write_each-written.new.pours in
    let same = with_items_is olds news (c.write_each-written.ensures.pours ∙ c.as_mut_slice.ensures.len) in
    rw c.ended.ensures
    (filled c.write_each-written.result c.finish_each-first.result _ _ c.args.sinks.now (length news) (rw (c.as_slice-2.ensures, same) at c.finish_each-first.ensures.cause))
