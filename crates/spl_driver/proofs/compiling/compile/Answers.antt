use Rattle.spl_driver.proofs.FewTokens.{few_tokens}
use Rattle.spl_driver.proofs.Stages.{lexed, parsed, expanded, refused, accepted}
use Rattle.spl_driver.proofs.compiling.compile.Goals as goal

pub returns-in_err-tokens : goal.returns-in_err-tokens
returns-in_err-tokens c = lexed c.tokens_law.ensures.lexed c.args.bytes.now c.args.names.now _ c.in_err-tokens.field-0.0 c.in_err-tokens.ensures.err c.from_residual.ensures.1

pub parse_unit-requires : goal.parse_unit-requires
parse_unit-requires c = record { few = few_tokens c.tokens_law.ensures.rise c.args.bytes.now c.in_ok-tokens.tokens c.in_ok-tokens.ensures.ok }

pub returns-in_err-unit : goal.returns-in_err-unit
returns-in_err-unit c =
    parsed c.tokens_law.ensures.lexed c.args.bytes.now c.args.names.now c.in_ok-tokens.tokens c.in_ok-tokens.ensures.ok _ c.in_err-unit.field-0.0 c.in_err-unit.ensures c.from_residual-in_err-unit.ensures.1

pub returns-in_err-graph : goal.returns-in_err-graph
returns-in_err-graph c =
    expanded c.tokens_law.ensures.lexed c.args.bytes.now c.args.names.now c.in_ok-tokens.tokens c.in_ok-tokens.ensures.ok c.in_ok-unit.unit c.in_ok-unit.ensures
    _ c.in_err-graph.field-0.0 c.in_err-graph.ensures c.from_residual-in_err-graph.ensures.1

pub check-requires : goal.check-requires
check-requires c = (c.args.names.now, c.in_ok-graph.ensures)

pub returns-in_err-checked : goal.returns-in_err-checked
returns-in_err-checked c =
    refused c.tokens_law.ensures.lexed c.args.bytes.now c.args.names.now c.in_ok-tokens.tokens c.in_ok-tokens.ensures.ok c.in_ok-unit.unit c.in_ok-unit.ensures c.in_ok-graph.graph c.in_ok-graph.ensures
    _ c.in_err-checked.field-0.0 c.in_err-checked.ensures c.from_residual-in_err-checked.ensures.1

pub returns : goal.returns
returns c =
    accepted c.tokens_law.ensures.lexed c.args.bytes.now c.args.names.now c.in_ok-tokens.tokens c.in_ok-tokens.ensures.ok c.in_ok-unit.unit c.in_ok-unit.ensures c.in_ok-graph.graph c.in_ok-graph.ensures
    c.in_ok-checked.checked c.in_ok-checked.ensures
