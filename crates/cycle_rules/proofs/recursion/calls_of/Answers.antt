use Rattle.std.proofs.Common.{◌≡◌, ◌∙◌, add-one, Some, ap, sym, map}
use Rattle.std.specs.Prelude.{slice_get}
use Rattle.std.proofs.lemmas.Option.{slice_get-get_or}
use Rattle.cycle_rules.specs.steps.Named.{name_seen}
use Rattle.cycle_rules.proofs.Snoc.{call_on, call_past}
use Rattle.cycle_rules.proofs.recursion.calls_of.Goals.{in-Called+in_ok-push-in-Called, in-Dollar}
use Rattle.cycle_rules.proofs.recursion.calls_of.Goals as goal

pub loop-mention-preserved : goal.loop-mention-preserved
loop-mention-preserved c =
    let m = c.mention-item.result in
    let n = c.loop-mention.mention-index in
    let at : slice_get c.args.mentions.now n ≡ Some m = slice_get-get_or c.args.mentions.now n m c.loop-mention-test.true ∙ ap Some (sym c.mention-item.is) in
    rw add-one (elim c.match-mention.branch [
      | in-Called+in_ok-push-in-Called w ↦ call_on n c.args.mentions.now m w.in-Called.name c.loop-mention.called.items c.match-mention.called.items at w.in-Called.is (ap (λ v. v.items) w.called-is ∙ w.in_ok-push-in-Called.ensures.items) c.loop-mention.invariant
      | in-Dollar w ↦ ap (λ v. map name_seen v.items) w.called-is ∙ call_past n c.args.mentions.now m w.in-Dollar.field-0 c.loop-mention.called.items at w.in-Dollar.is c.loop-mention.invariant
    ])
