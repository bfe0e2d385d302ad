use Rattle.std.proofs.Common.{◌∷◌, sym, ap, ◌∙◌}
use Rattle.stream_model.specs.Windows.{Insert, tuples_with, held}
use Rattle.stream_model.specs.parts.Windows.{relevant}
use Rattle.window_policy.proofs.Marks.{held-nothing}
use Rattle.window_policy.proofs.Places.{values_at}
use Rattle.window_policy.proofs.Windows.{kept_at, none_at}
use Rattle.window_policy.proofs.window.Window.newest_content.Goals as goal

pub returns-in-Some : goal.returns-in-Some
returns-in-Some c rule key t h stood =
    let w = c.args.self.now in
    let there = sym stood.newest ∙ values_at w.parts.entries w.place _ (sym c.in-Some.ensures.entry) in
    c.of.ensures ∙ (kept_at rule _ _ (tuples_with key (relevant rule (Insert key t ∷ h))) there (stood.at key)).0.items

pub returns-in-None : goal.returns-in-None
returns-in-None c rule key t h stood =
    let w = c.args.self.now in
    let there = sym stood.newest ∙ values_at w.parts.entries w.place _ (sym c.in-None.ensures.entry) in
    c.empty.ensures ∙ sym (ap (held rule) (none_at rule _ (tuples_with key (relevant rule (Insert key t ∷ h))) there (stood.at key)) ∙ held-nothing rule)
