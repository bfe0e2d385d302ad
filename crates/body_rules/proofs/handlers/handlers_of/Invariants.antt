use Rattle.std.proofs.Common.{drop}
use Rattle.body_rules.specs.Settings.{setting_meant}
use Rattle.body_rules.proofs.HandlersFound.{Comes}
use Rattle.body_rules.proofs.handlers.handlers_of.Given as goal

abbrev pub invariant-loop-handler : goal.invariant-loop-handler
invariant-loop-handler l =
    Comes (setting_meant l.setting) l.fn.scope l.fn.ports l.handlers l.scope l.ports l.handled (drop l.handler-index l.handlers)
