use Rattle.std.proofs.Common.{◌∙◌, Err, sym, ap, subst}
use Rattle.spl_tree.specs.Weights.{too_deep_from}
use Rattle.unit_parser.specs.Parses.{ParsesUnit}
use Rattle.unit_parser.proofs.Parsed.{empty, not_empty, took_within, all_taken, some_left, refused_within, refused}
use Rattle.unit_parser.proofs.parse.parse_unit.Goals as goal

pub unexpected-requires : goal.unexpected-requires
unexpected-requires c = took_within c.args.tokens.now c.in-Ok.rest.now c.as_slice-list.result.now c.as_slice-list.ensures c.in-Ok.ensures

pub unexpected-requires-in-Err-At : goal.unexpected-requires-in-Err-At
unexpected-requires-in-Err-At c = refused_within c.args.tokens.now c.in-Err-At.rest.now c.as_slice-list.result.now c.as_slice-list.ensures (rw c.in-Err-At.field-0-is at c.in-Err-At.ensures)

pub returns-in-Ok : goal.returns-in-Ok
returns-in-Ok c =
    all_taken c.args.tokens.now c.in-Ok.rest.now c.as_slice-list.result.now c.as_slice-list.ensures c.in-Ok.ensures
    (empty c.in-Ok.rest.now (sym c.is_empty.ensures ∙ c.if-is_empty.true))
    (ap (too_deep_from 0) (sym c.as_slice-list.ensures) ∙ sym c.in_ok-at.ensures ∙ c.in_default.is)

pub returns-in-Ok-2 : goal.returns-in-Ok-2
returns-in-Ok-2 c =
    subst (λ a. ParsesUnit c.args.tokens.now (Err a)) (sym c.unexpected.ensures)
    (some_left c.args.tokens.now c.in-Ok.rest.now c.as_slice-list.result.now c.as_slice-list.ensures c.in-Ok.ensures
    (not_empty c.in-Ok.rest.now (sym c.is_empty.ensures ∙ c.if-is_empty.false))
    (ap (too_deep_from 0) (sym c.as_slice-list.ensures) ∙ sym c.in_ok-at.ensures ∙ c.in_default.is))

pub returns-in-Err-At : goal.returns-in-Err-At
returns-in-Err-At c =
    subst (λ a. ParsesUnit c.args.tokens.now (Err a)) (sym c.unexpected-in-Err-At.ensures)
    (refused c.args.tokens.now c.in-Err-At.rest.now c.as_slice-list.result.now c.as_slice-list.ensures (rw c.in-Err-At.field-0-is at c.in-Err-At.ensures)
    (ap (too_deep_from 0) (sym c.as_slice-list.ensures) ∙ sym c.in_ok-at.ensures ∙ c.in_default.is))
