use Rattle.language_texts.specs.Contexts.{Holds}
use Rattle.language_texts.proofs.context.Context.add_all.Given as goal

abbrev pub invariant-loop-one : goal.invariant-loop-one
invariant-loop-one l = Holds l.self.scope l.self.env l.self.functions
