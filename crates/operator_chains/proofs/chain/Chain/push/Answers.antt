use Rattle.std.proofs.Common.{sym, subst, ◌++◌, ◌∷◌, []}
use Rattle.stream_model.specs.Stages.{start}
use Rattle.operator_chains.specs.Standing.{AtFirst}
use Rattle.operator_chains.proofs.Adding.{other_pushed}
use Rattle.operator_chains.proofs.chain.Chain.push.Goals as goal

pub returns-in_ok-push-in-Some : goal.returns-in_ok-push-in-Some
returns-in_ok-push-in-Some g c = record {
  adds = λ ss at new. subst (λ os. AtFirst g.R.React.spec g.R.React.stands c.args.self.now.first os (ss ++ start (g.R.React.spec c.args.operator) ∷ [])) (sym c.in_ok-push-in-Some.ensures.items)
      (other_pushed g.R.React.spec g.R.React.stands c.args.self.now.first c.args.self.now.others.items c.new-slot.result c.args.operator c.in-Some.field-0 c.in-Some.is
      c.new-slot.ensures.operator c.new-slot.ensures.live ss at new);
}
