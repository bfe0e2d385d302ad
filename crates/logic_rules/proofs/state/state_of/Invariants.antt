use Rattle.std.proofs.Common.{◌≡◌, drop}
use Rattle.language_model.specs.parts.LogicTyping.{state_typing}
use Rattle.written_types.specs.TypeScopes.{types_in}
use Rattle.language_model.specs.Finds.{with_front}
use Rattle.logic_rules.proofs.state.state_of.Given as goal

abbrev pub invariant-loop-declaration : goal.invariant-loop-declaration
invariant-loop-declaration l =
    state_typing (types_in l.types) l.scope.dollars l.declarations
    ≡ with_front l.state (state_typing (types_in l.types) l.scope.dollars (drop l.declaration-index l.declarations))
