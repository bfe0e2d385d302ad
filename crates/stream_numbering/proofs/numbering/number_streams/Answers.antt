use Rattle.std.proofs.Common.{ap, ◌∙◌}
use Rattle.language_model.specs.Numbering.{streams_from}
use Rattle.stream_numbering.specs.steps.SiteTable.{parts_of, table_of}
use Rattle.stream_numbering.specs.steps.StreamTable.{ops_in, expansions_in}
use Rattle.stream_numbering.proofs.NumberedParts.{all_is}
use Rattle.stream_numbering.proofs.numbering.number_streams.Goals as goal

pub returns : goal.returns
returns c = λ made same shows nested stand.
    let unit = c.args.composites.now.unit.now in
    let bodies = c.args.bodies.now in
    let filled = c.in_ok-table.ensures ∙ ap (λ ops. table_of (parts_of unit bodies ops)) c.as_slice.ensures in
    all_is unit bodies c.args.inputs.now made c.args.operations same shows nested stand c.in_ok-table.table filled _
    (c.in_ok-ops.ensures ∙ ap (λ t. ops_in t 0 c.args.operations) c.as_slice-3.ensures)
    (c.in_ok-streams.ensures ∙ ap (streams_from 0) c.as_slice-2.ensures)
    (c.in_ok-expansions.ensures ∙ ap (λ t. expansions_in t c.args.inputs.now 0 bodies) c.as_slice-4.ensures)
