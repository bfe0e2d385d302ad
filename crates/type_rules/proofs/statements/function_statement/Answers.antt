use Rattle.std.proofs.Common.{Ok, ap, sym, ◌∙◌}
use Rattle.spl_tree.specs.declared.body.Statement.TheVariants as T
use Rattle.language_model.specs.Scopes.{at_place, function_of}
use Rattle.language_model.specs.Typing.{arguments_typed}
use Rattle.language_model.specs.TypingLaws.{parts}
use Rattle.type_rules.proofs.statements.function_statement.Goals as goal
use Rattle.language_model.proofs.FoundAnswers.{finds_by, goes, no_front}
use Rattle.type_rules.proofs.CallLaws.{function_statement_law}

pub returns : goal.returns
returns c =
    let scope = c.args.scope.now in
    let name = c.args.name.now in
    let es = parts c.args.all.now in
    let r = Ok (T.Call c.in_ok-place-2.place c.in_ok-codes.codes) in
    finds_by _ _ r (function_statement_law c.args.at scope name es (function_of scope name))
    (goes _ _ (at_place c.in_ok-place.place c.in_ok-place.found.now) r c.in_ok-place.ensures
    (goes _ _ c.in_ok-codes.codes r
    (ap (λ ts. arguments_typed scope ts es) (sym c.as_slice-kinds.ensures) ∙ no_front _ _ c.new.ensures ∙ c.in_ok-codes.ensures)
    (λ i. Ok (T.Call (sym c.in_ok-place-2.ensures i) c.in_ok-codes.codes))))
