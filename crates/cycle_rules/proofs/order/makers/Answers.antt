use Rattle.std.proofs.Common.{sym, ap, ◌∙◌, ◌≡◌, length, replicate, false}
use Rattle.std.specs.Prelude.{◌&&◌}
use Rattle.cycle_rules.specs.steps.Makers.{covers}
use Rattle.cycle_rules.proofs.Flags.{row_is}
use Rattle.cycle_rules.proofs.Lists.{rewritten}
use Rattle.cycle_rules.proofs.order.makers.Goals as goal

pub returns-then-add_all_makers : goal.returns-then-add_all_makers
returns-then-add_all_makers c =
    let empty : c.deref_mut.result.now ≡ replicate c.args.count false = c.deref_mut.ensures.value ∙ c.in_ok-row.ensures.items_if_clones_equal (λ y e. e) in
    let same : length c.deref_mut.result.now ≡ c.args.count = c.deref_mut.ensures.len ∙ c.in_ok-row.ensures.len in
    let whole : c.from_vec.result ≡ c.add_all_makers.new.row = c.from_vec.ensures ∙ rewritten c.in_ok-row.row.len c.add_all_makers.new.row c.in_ok-row.row.items (c.in_ok-row.ensures.len ∙ sym same ∙ sym c.add_all_makers.auto.row) in
    λ flags e.
    ap (λ r. covers r flags) whole
    ∙ ap (λ b. b && covers c.add_all_makers.new.row flags) (sym c.if-add_all_makers.true)
    ∙ row_is c.args.streams.now _ c.args.count c.deref_mut.result.now c.add_all_makers.new.row c.add_all_makers.result empty same c.add_all_makers.ensures flags e

pub returns-else-add_all_makers : goal.returns-else-add_all_makers
returns-else-add_all_makers c =
    let empty : c.deref_mut.result.now ≡ replicate c.args.count false = c.deref_mut.ensures.value ∙ c.in_ok-row.ensures.items_if_clones_equal (λ y e. e) in
    let same : length c.deref_mut.result.now ≡ c.args.count = c.deref_mut.ensures.len ∙ c.in_ok-row.ensures.len in
    λ flags e.
    ap (λ b. b && covers c.add_all_makers.new.row flags) (sym c.if-add_all_makers.false)
    ∙ row_is c.args.streams.now _ c.args.count c.deref_mut.result.now c.add_all_makers.new.row c.add_all_makers.result empty same c.add_all_makers.ensures flags e
