use Rattle.std.proofs.Common.{length, refl, sym, ap, ◌∙◌}
use Rattle.std.proofs.lemmas.Option.{slice_get_read}
use Rattle.spl_value.specs.declared.value.Value.TheVariants as V
use Rattle.value_operations.specs.Answers.{held}
use Rattle.value_operations.proofs.Parts.{not_tuple, member_within, member_is}
use Rattle.value_operations.proofs.taking.member.Goals as goal

pub unreachable-requires : goal.unreachable-requires
unreachable-requires c = not_tuple c.args.place (held c.args.tuple) c.requires (λ vs e. c.in_default.ensures vs (sym (ap held c.in-Own.is) ∙ e))

pub remove-requires : goal.remove-requires
remove-requires c = member_within c.args.place (held c.args.tuple) c.in-Some.values c.requires (ap held c.in-Own.is ∙ c.in-Some.ensures)

pub unreachable-requires-in_default-value : goal.unreachable-requires-in_default-value
unreachable-requires-in_default-value c =
    not_tuple c.args.place (held c.args.tuple) c.requires (λ vs e. c.in_default-value.not-Tuple vs (sym (ap held c.in-Lent.is) ∙ e))

pub bounds-as_slice-place : goal.bounds-as_slice-place
bounds-as_slice-place c =
    member_within c.args.place (held c.args.tuple) c.as_slice.result.now c.requires
    (ap held c.in-Lent.is ∙ c.in-Tuple.is ∙ ap V.Tuple (sym c.as_slice.ensures))

pub returns-in-Tuple : goal.returns-in-Tuple
returns-in-Tuple c =
    let vs = c.as_slice.result.now in
    let is = ap held c.in-Lent.is ∙ c.in-Tuple.is ∙ ap V.Tuple (sym c.as_slice.ensures) in
    member_is c.args.place (held c.args.tuple) c.index-as_slice-place.result vs is
    (slice_get_read vs (length vs) c.args.place c.index-as_slice-place.result refl
    (member_within c.args.place (held c.args.tuple) vs c.requires is) c.index-as_slice-place.is)
