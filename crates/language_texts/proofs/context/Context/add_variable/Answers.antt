use Rattle.language_texts.proofs.Steps.{with_variable}
use Rattle.language_texts.proofs.context.Context.add_variable.Goals as goal

pub returns : goal.returns
returns c =
    with_variable c.args.self.now.scope c.args.self.now.env c.args.self.now.functions _ _ c.requires.holds _ _ c.in_ok-push.ensures.ok c.in_ok-push-2.ensures.ok c.requires.fits
