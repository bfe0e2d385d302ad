use Rattle.std.proofs.Common.{◌≡◌, drop}
use Rattle.std.specs.Prelude.{is_some}
use Rattle.language_model.specs.LogicTyping.{handler_of}
use Rattle.body_rules.proofs.handlers.is_handled.Given as goal

abbrev pub invariant-loop-before : goal.invariant-loop-before
invariant-loop-before l = is_some (handler_of l.event l.port l.handled) ≡ is_some (handler_of l.event l.port (drop l.before-index l.handled))
