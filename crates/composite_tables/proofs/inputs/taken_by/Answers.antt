use Rattle.std.proofs.Common.{arith, ◌≡◌, ◌∙◌, ap, sym, slice_get}
use Rattle.std.proofs.lemmas.Grind.{common_steps}
use Rattle.std.proofs.lemmas.Option.{gets}
use Rattle.language_model.specs.Expansion.{place_of}
use Rattle.language_model.specs.Invoking.{input_names, stream_names}
use Rattle.composite_tables.proofs.Taking.{input_taken}
use Rattle.composite_tables.proofs.inputs.taken_by.Goals as goal

pub returns : goal.returns
returns c = λ xs is.
    let composite = c.args.scope.now.composite.now in
    let given : c.copied.result ≡ slice_get c.args.row.now c.in_ok-place.place = grind (arith, common_steps, gets) in
    input_taken xs c.args.number composite c.args.row.now is c.args.name.now c.in_ok-place.place c.copied.result
    (sym (c.in_default.ensures ∙ ap (λ n. place_of n (stream_names composite)) c.as_slice-name.ensures))
    (sym (c.in_ok-place.ensures ∙ ap (λ n. place_of n (input_names composite)) c.as_slice-name.ensures))
    given
