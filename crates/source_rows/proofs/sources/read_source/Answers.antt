use Rattle.std.proofs.Common.{[]}
use Rattle.source_rows.proofs.Operators.{schema_has, source_has, source_reads, source_rows}
use Rattle.source_rows.proofs.sources.read_source.Goals as goal

pub first_schema-schema-requires : goal.first_schema-schema-requires
first_schema-schema-requires g c =
    let h = source_has c.args.checked.now c.args.number c.args.op.now c.args.part.now c.in-FileSource.file c.in-FileSource.strict c.requires.kept c.requires.there c.requires.has c.in-FileSource.is in
    (h.stream, [], h.schema, h.outs, h.there)

pub read_file-requires-clause-form : goal.read_file-requires-clause-form
read_file-requires-clause-form g c κs within =
    let h = source_has c.args.checked.now c.args.number c.args.op.now c.args.part.now c.in-FileSource.file c.in-FileSource.strict c.requires.kept c.requires.there c.requires.has c.in-FileSource.is in
    schema_has c.args.checked.now c.args.op.now c.first_schema-schema.result.now h c.first_schema-schema.ensures

pub returns-in-Rows-clause-made : goal.returns-in-Rows-clause-made
returns-in-Rows-clause-made g c =
    let h = source_has c.args.checked.now c.args.number c.args.op.now c.args.part.now c.in-FileSource.file c.in-FileSource.strict c.requires.kept c.requires.there c.requires.has c.in-FileSource.is in
    source_rows _ c.args.checked.now c.args.number c.args.op.now c.args.part.now c.in-FileSource.file c.in-FileSource.strict c.first_schema-schema.result.now c.in-Rows.items _ _ c.in-FileSource.is
    h c.first_schema-schema.ensures c.in-Rows.ensures.fit c.in-Rows.ensures.rows c.in-Rows.ensures.cause

pub returns-in-Rows-clause-reads : goal.returns-in-Rows-clause-reads
returns-in-Rows-clause-reads g c =
    source_reads _ c.args.number c.first_schema-schema.result.now c.in-FileSource.strict c.in-FileSource.file c.in-Rows.items _ _ c.in-Rows.ensures.rows c.in-Rows.ensures.cause
