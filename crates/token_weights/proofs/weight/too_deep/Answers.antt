use Rattle.std.proofs.Common.{◌+◌, ◌∙◌, [], refl, sym, ap, arith, lt-ltb, le-ltb}
use Rattle.spl_tree.specs.Weights.{weights}
use Rattle.token_weights.specs.Weighed.{effect_of, brackets}
use Rattle.token_weights.proofs.Weighing.{leads_on, weighs_light, weighs_heavy, looks_from, looks_behind}
use Rattle.token_weights.proofs.weight.too_deep.Goals as goal

pub loop-i-init : goal.loop-i-init
loop-i-init c = record {
  leads = record {
    weighing = record { weight = 0; opened = [] };
    is = ap (λ before. record { weight = 0; opened = brackets before }) c.new.ensures;
    on = refl;
  };
  first = λ le. looks_from c.args.from 0 (weights c.args.tokens.now) (omega (arith, le));
}

pub loop-i-preserved-then-i-from : goal.loop-i-preserved-then-i-from
loop-i-preserved-then-i-from c = record {
  leads =
      leads_on c.args.tokens.now c.loop-i.i c.index-tokens-i.result c.loop-i-test.true c.index-tokens-i.is c.loop-i.weighing c.weigh.new.self c.in_ok-own.own
      (effect_of c.kind_effect.result) c.next_adds.result c.kind_effect.ensures c.next_adds.ensures c.in_ok-own.ensures.after c.in_ok-own.ensures.own c.loop-i.invariant.leads;
  first = λ le. looks_from c.args.from (c.loop-i.i + 1) (weights c.args.tokens.now) (omega (arith, le, c.if-i-from.true));
}

pub loop-i-preserved : goal.loop-i-preserved
loop-i-preserved c = record {
  leads =
      leads_on c.args.tokens.now c.loop-i.i c.index-tokens-i.result c.loop-i-test.true c.index-tokens-i.is c.loop-i.weighing c.weigh.new.self c.in_ok-own.own
      (effect_of c.kind_effect.result) c.next_adds.result c.kind_effect.ensures c.next_adds.ensures c.in_ok-own.ensures.after c.in_ok-own.ensures.own c.loop-i.invariant.leads;
  first = λ le.
      sym (weighs_light c.args.tokens.now c.loop-i.i c.index-tokens-i.result c.loop-i-test.true c.index-tokens-i.is c.loop-i.weighing c.weigh.new.self c.in_ok-own.own
      (effect_of c.kind_effect.result) c.next_adds.result c.kind_effect.ensures c.next_adds.ensures c.in_ok-own.ensures.after c.in_ok-own.ensures.own c.loop-i.invariant.leads (le-ltb _ _ c.if-own-gt-MOST_WEIGHT.false))
      ∙ c.loop-i.invariant.first (omega (arith, c.if-i-from.false));
}

pub returns-then-own-gt-MOST_WEIGHT : goal.returns-then-own-gt-MOST_WEIGHT
returns-then-own-gt-MOST_WEIGHT c =
    sym (weighs_heavy c.args.tokens.now c.loop-i.i c.index-tokens-i.result c.loop-i-test.true c.index-tokens-i.is c.loop-i.weighing c.weigh.new.self c.in_ok-own.own
    (effect_of c.kind_effect.result) c.next_adds.result c.kind_effect.ensures c.next_adds.ensures c.in_ok-own.ensures.after c.in_ok-own.ensures.own c.loop-i.invariant.leads (lt-ltb _ _ c.if-own-gt-MOST_WEIGHT.true))
    ∙ c.loop-i.invariant.first (omega (arith, c.if-i-from.false))

pub returns : goal.returns
returns c =
    sym (looks_behind c.args.tokens.now c.loop-i.i c.loop-i.weighing c.loop-i.invariant.leads c.loop-i-test.false)
    ∙ c.loop-i.invariant.first (omega (arith, c.requires, c.loop-i-test.false))
