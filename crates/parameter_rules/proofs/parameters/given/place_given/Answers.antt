use Rattle.std.specs.Prelude.{◌≡◌, true, length, Some}
use Rattle.std.specs.Option.{option_map}
use Rattle.std.specs.Str.{bytes_eq}
use Rattle.std.proofs.Common.{arith, refl, ap, sym, ◌∙◌}
use Rattle.std.proofs.lemmas.Option.{slice_get_read}
use Rattle.std.proofs.lemmas.Slice.Eq.{bytes_eq-Decides}
use Rattle.parameter_rules.proofs.Giving.{given_here}
use Rattle.parameter_rules.proofs.Taking.{left_here}
use Rattle.parameter_rules.proofs.parameters.given.place_given.Goals as goal

pub returns-then-eq : goal.returns-then-eq
returns-then-eq c =
    let given = c.args.given.now in
    let name = c.args.name.now in
    let g = c.index-given-at.result in
    let named : bytes_eq g.name name ≡ true = grind arith in
    let read = slice_get_read given (length given) c.loop-at.at g refl c.loop-at-test.true c.index-given-at.is in (
      c.loop-at-test.true,
      ap (option_map (λ g. g.name)) read ∙ ap Some ((bytes_eq-Decides g.name name).0 named),
      sym (c.loop-at.invariant.value ∙ given_here given name c.loop-at.at g c.loop-at-test.true c.index-given-at.is named),
      left_here given name c.loop-at.at c.loop-at.invariant.left g c.loop-at-test.true c.index-given-at.is named,
    )
