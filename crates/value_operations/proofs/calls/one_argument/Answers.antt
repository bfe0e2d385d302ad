use Rattle.std.proofs.Common.{[], ap, ◌∙◌, ◌∷◌}
use Rattle.spl_value.specs.Calls.{length_of, size_of, abs_of}
use Rattle.spl_value.proofs.CallsLaws.{exactly_answers}
use Rattle.language_model.specs.parts.BuiltInCalls.{built_in_of}
use Rattle.language_model.proofs.BuiltInCalls.{length_called, size_called, abs_called}
use Rattle.value_operations.proofs.Arguments.{collection_argument, settles_called}
use Rattle.value_operations.proofs.calls.one_argument.Goals as goal

pub size-requires : goal.size-requires
size-requires c = collection_argument c.args.call c.args.first.now c.in-Size.is c.requires

pub returns-in-Length : goal.returns-in-Length
returns-in-Length c =
    let v = c.args.first.now in
    settles_called c.answered.result _ (length_of v) (ap (λ call. built_in_of call (v ∷ [])) c.in-Length.is ∙ length_called v)
    (c.answered.ensures (length_of v) (exactly_answers c.length.result (length_of v) c.length.ensures))

pub returns-in-Size : goal.returns-in-Size
returns-in-Size c =
    let v = c.args.first.now in
    settles_called c.answered-in-Size.result _ (size_of v) (ap (λ call. built_in_of call (v ∷ [])) c.in-Size.is ∙ size_called v)
    (c.answered-in-Size.ensures (size_of v) (exactly_answers c.size.result (size_of v) c.size.ensures))

pub returns-in-Abs : goal.returns-in-Abs
returns-in-Abs c =
    let v = c.args.first.now in
    let kind = c.in-Abs.kind in
    settles_called c.answered-in-Abs.result _ (abs_of kind v) (ap (λ call. built_in_of call (v ∷ [])) c.in-Abs.is ∙ abs_called kind v)
    (c.answered-in-Abs.ensures (abs_of kind v) (exactly_answers c.abs.result (abs_of kind v) c.abs.ensures))
