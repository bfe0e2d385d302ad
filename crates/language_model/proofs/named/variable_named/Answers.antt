use Rattle.std.proofs.Common.{◌≡◌, ◌-◌, ◌<◌, ◌∙◌, length, get_or, arith, true, false}
use Rattle.std.specs.Str.{bytes_eq}
use Rattle.language_model.proofs.LastNamed.{last_here, last_before}
use Rattle.language_model.proofs.named.variable_named.Goals as goal

pub returns-then-eq : goal.returns-then-eq
returns-then-eq c =
    let v = c.index-variables-at.result in
    let within : c.variables.at - 1 < length c.args.scope.now.vars = rw (← c.variables.invariant.same) (omega arith) in
    let is : v ≡ get_or c.args.scope.now.vars (c.variables.at - 1) v = rw (← c.variables.invariant.same) c.index-variables-at.is in
    let named : bytes_eq v.name c.args.name.now ≡ true = grind arith in
    c.variables.invariant.last
    ∙ last_here (λ v. bytes_eq v.name c.args.name.now) c.args.scope.now.vars (c.variables.at - 1) c.variables.at v (omega arith) within is named

pub variables-preserved : goal.variables-preserved
variables-preserved c =
    let v = c.index-variables-at.result in
    let within : c.variables.at - 1 < length c.args.scope.now.vars = rw (← c.variables.invariant.same) (omega arith) in
    let is : v ≡ get_or c.args.scope.now.vars (c.variables.at - 1) v = rw (← c.variables.invariant.same) c.index-variables-at.is in
    let other : bytes_eq v.name c.args.name.now ≡ false = grind arith in
    record {
      within = omega arith;
      last = c.variables.invariant.last ∙ last_before (λ v. bytes_eq v.name c.args.name.now) c.args.scope.now.vars (c.variables.at - 1) c.variables.at v (omega arith) within is other;
      same = c.variables.invariant.same;
    }
