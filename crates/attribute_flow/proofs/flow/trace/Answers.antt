use Rattle.std.proofs.Common.{List, ℕ, ◌<◌, ◌-◌, length, slice_get, subst, ap, arith, get_or, sym, take, ◌∙◌}
use Rattle.std.specs.Option.{option_and_then}
use Rattle.attribute_flow.specs.Chains.{traced}
use Rattle.attribute_flow.proofs.Chaining.{last_in_parts, traced_back}
use Rattle.attribute_flow.proofs.flow.trace.Goals as goal

pub operators-preserved : goal.operators-preserved
operators-preserved c =
    let chain = c.args.chain.now in
    let left = c.operators.left in record {
      within = omega arith;
      same = λ g is.
          c.operators.invariant.same g is
          ∙ traced_back c.args.checked.now chain left c.operators-test.true c.operators.invariant.within c.requires.numbers c.operators.attribute c.source_of.result
          (λ g o is at. c.source_of.ensures.source g o is (ap (λ (ns : List ℕ). slice_get g.ops (get_or ns (left - 1) 0)) c.as_slice.ensures ∙ at)) g is
          ∙ ap (option_and_then (traced g (take (left - 1) chain))) c.in-Some.is;
    }

pub returns-in-None : goal.returns-in-None
returns-in-None c =
    let chain = c.args.chain.now in
    let left = c.operators.left in record {
      source = λ g is.
          sym (c.operators.invariant.same g is
          ∙ traced_back c.args.checked.now chain left c.operators-test.true c.operators.invariant.within c.requires.numbers c.operators.attribute c.source_of.result
          (λ g o is at. c.source_of.ensures.source g o is (ap (λ (ns : List ℕ). slice_get g.ops (get_or ns (left - 1) 0)) c.as_slice.ensures ∙ at)) g is
          ∙ ap (option_and_then (traced g (take (left - 1) chain))) c.in-None.is);
    }

pub source_of-requires : goal.source_of-requires
source_of-requires c = record {
  number =
      subst (λ (ns : List ℕ). get_or ns (c.operators.left - 1) 0 < length c.args.checked.now.parts) (sym c.as_slice.ensures)
      (last_in_parts c.args.checked.now c.args.chain.now c.operators.left c.operators-test.true c.operators.invariant.within c.requires.numbers);
}
