use Rattle.std.proofs.Common.{rules, ◌≡◌, length, arith}
use Rattle.feed_pour.specs.declared.outside.PourAnswer.TheVariants as P
use Rattle.std.specs.Prelude.{Some}
use Rattle.file_adapters.proofs.Creating.{same_counts}
use Rattle.file_adapters.proofs.LastText.{text_after, text_counts, text_rows, text_told}
use Rattle.file_adapters.proofs.Unwritten.{all_empty_told, text_failed_counts, text_wanting_counts, unwritten_told}
use Rattle.file_adapters.proofs.sinks.write_before.Goals as goal

-- ---- the text's file was created

pub finish_text-requires-clause-created : goal.finish_text-requires-clause-created
finish_text-requires-clause-created g c κs within = c.fill_sinks-sunk.ensures.keeps c.args.last.now.file c.in-Ok.ensures.created

pub returns-in-Ok-clause-told : goal.returns-in-Ok-clause-told
returns-in-Ok-clause-told g c = λ none.
    let size : c.len.result ≡ length c.args.sinks.now = search rules in
    text_told c.args.sinks.now c.args.streams.now c.args.last.now c.fill_sinks-sunk.result c.finish_text.result _ _ _ _ _ _ _ _ _ c.requires.free
    (same_counts _ _ _ c.in-Ok.ensures.cause) c.fill_sinks-sunk.ensures.filled c.in-Ok.ensures.told c.in-Ok.ensures.poured (c.fill_sinks-sunk.ensures.told none) c.fill_sinks-sunk.ensures.cause
    (rw size at c.finish_text.ensures.told) (rw size at c.finish_text.ensures.cause)

pub returns-in-Ok-clause-cause : goal.returns-in-Ok-clause-cause
returns-in-Ok-clause-cause g c =
    let size : c.len.result ≡ length c.args.sinks.now = search rules in
    text_counts c.args.sinks.now c.args.last.now _ _ _ _ c.requires.free (same_counts _ _ _ c.in-Ok.ensures.cause) c.fill_sinks-sunk.result c.finish_text.result c.fill_sinks-sunk.ensures.filled
    c.fill_sinks-sunk.ensures.cause (rw size at c.finish_text.ensures.cause)

pub returns-in-Ok-clause-count : goal.returns-in-Ok-clause-count
returns-in-Ok-clause-count g c =
    let size : c.len.result ≡ length c.args.sinks.now = search rules in
    text_rows c.fill_sinks-sunk.result c.finish_text.result c.args.sinks.now c.args.streams.now (length c.args.sinks.now) c.fill_sinks-sunk.ensures.filled (rw size at c.finish_text.ensures.cause).ends c.fill_sinks-sunk.ensures.count

pub returns-in-Ok-clause-after : goal.returns-in-Ok-clause-after
returns-in-Ok-clause-after g c =
    let size : c.len.result ≡ length c.args.sinks.now = search rules in
    text_after c.fill_sinks-sunk.result c.finish_text.result (length c.args.sinks.now) c.fill_sinks-sunk.ensures.filled (rw size at c.finish_text.ensures.cause).ends

-- ---- it wasn't

pub returns-in-Failed-clause-told : goal.returns-in-Failed-clause-told
returns-in-Failed-clause-told g c = λ none.
    let size : c.len-in-Failed.result ≡ length c.args.sinks.now = search rules in
    rw size
    (unwritten_told P.Failed c.args.sinks.now c.args.streams.now (Some c.args.last.now) (length c.args.sinks.now) _ _ _ _ c.requires.distinct c.requires.free (omega arith)
    (all_empty_told (g.H.Writer.Pour).poured (g.H.Writer.Pour).faults c.finish_each.result c.args.pours.items c.args.sinks.now _ _ _ _ _ c.requires.many none c.in-Failed.ensures.told
    (rw c.as_slice.ensures at c.finish_each.ensures.told)))

pub returns-in-Failed-clause-cause : goal.returns-in-Failed-clause-cause
returns-in-Failed-clause-cause g c =
    let size : c.len-in-Failed.result ≡ length c.args.sinks.now = search rules in
    rw size
    (text_failed_counts c.finish_each.result _ _ _ c.args.sinks.now c.args.last.now (length c.args.pours.items) c.in-Failed.ensures.cause (rw c.as_slice.ensures at c.finish_each.ensures.cause))

pub returns-in-Memory-clause-told : goal.returns-in-Memory-clause-told
returns-in-Memory-clause-told g c = λ none.
    unwritten_told P.Memory c.args.sinks.now c.args.streams.now (Some c.args.last.now) (length c.args.sinks.now) _ _ _ _ c.requires.distinct c.requires.free (omega arith)
    (all_empty_told (g.H.Writer.Pour).poured (g.H.Writer.Pour).faults c.finish_each-in-Memory.result c.args.pours.items c.args.sinks.now _ _ _ _ _ c.requires.many none c.in-Memory.ensures.told
    (rw c.as_slice-in-Memory.ensures at c.finish_each-in-Memory.ensures.told))

pub returns-in-Memory-clause-cause : goal.returns-in-Memory-clause-cause
returns-in-Memory-clause-cause g c =
    text_wanting_counts c.finish_each-in-Memory.result _ _ _ c.args.sinks.now c.args.last.now (length c.args.pours.items) c.in-Memory.ensures.cause (rw c.as_slice-in-Memory.ensures at c.finish_each-in-Memory.ensures.cause)
