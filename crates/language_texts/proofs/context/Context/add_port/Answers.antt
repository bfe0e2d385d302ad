use Rattle.std.proofs.Common.{IsTrue, subst}
use Rattle.spl_value.specs.declared.types.SplType.TheVariants as S
use Rattle.spl_value.specs.declared.value.Value.TheVariants as V
use Rattle.spl_value.specs.Values.{fits}
use Rattle.language_texts.proofs.Steps.{with_port}
use Rattle.language_texts.proofs.context.Context.add_port.Goals as goal

pub returns : goal.returns
returns c =
    let of_tuple : IsTrue (fits (S.Tuple c.in-Some.schema) c.args.valued.value) =
    subst (λ t. IsTrue (fits t c.args.valued.value)) c.in-Some.ensures c.requires.fits in
    let fit : IsTrue (fits (S.Tuple c.in-Some.schema) (V.Tuple c.in-Some-into_tuple.tuple)) =
    subst (λ v. IsTrue (fits (S.Tuple c.in-Some.schema) v)) c.in-Some-into_tuple.ensures of_tuple in
    with_port c.args.self.now.scope c.args.self.now.env c.args.self.now.functions _ _ c.requires.holds _ _ c.in_ok-push.ensures.ok c.in_ok-push-2.ensures.ok fit
