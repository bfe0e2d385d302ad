use Rattle.std.proofs.Common.{◌≡◌, ◌∙◌, None, sym, ap}
use Rattle.spl_tree.specs.Weights.{too_deep_from}
use Rattle.expr_parser.proofs.Parsed.{took_within, parsed, refused_within, refused}
use Rattle.expr_parser.proofs.parse.parse_expr.Goals as goal

pub overflow_sub-next : goal.overflow_sub-next
overflow_sub-next c = took_within c.args.tokens.now c.args.from c.as_slice-list.result.now c.in-Ok.rest.now c.as_slice-list.ensures c.requires.within c.in-Ok.ensures

pub overflow_sub-list : goal.overflow_sub-list
overflow_sub-list c = refused_within c.args.tokens.now c.args.from c.as_slice-list.result.now c.in-Err-At.rest.now c.as_slice-list.ensures c.requires.within (rw c.in-Err-At.field-0-is at c.in-Err-At.ensures)

pub returns-in-Ok : goal.returns-in-Ok
returns-in-Ok c =
    let shallow : too_deep_from c.args.from c.args.tokens.now.list ≡ None = ap (too_deep_from c.args.from) (sym c.as_slice-list.ensures) ∙ sym c.in_ok-at.ensures ∙ c.in_default.is in
    parsed c.args.tokens.now c.args.from c.as_slice-list.result.now c.in-Ok.rest.now c.as_slice-list.ensures c.requires.within c.in-Ok.ensures shallow

pub returns-in-Err-At : goal.returns-in-Err-At
returns-in-Err-At c =
    let shallow : too_deep_from c.args.from c.args.tokens.now.list ≡ None = ap (too_deep_from c.args.from) (sym c.as_slice-list.ensures) ∙ sym c.in_ok-at.ensures ∙ c.in_default.is in
    refused c.args.tokens.now c.args.from c.as_slice-list.result.now c.in-Err-At.rest.now c.as_slice-list.ensures c.requires.within (rw c.in-Err-At.field-0-is at c.in-Err-At.ensures) c.place_of-at.result shallow
    c.place_of-at.ensures
