use Rattle.std.proofs.Common.{false, is_some, sym, ap, ◌∙◌}
use Rattle.indexmap.specs.IndexSet.{contains}
use Rattle.stream_model.specs.Windows.{tuples_with, held, flushes_at_markers}
use Rattle.stream_model.specs.parts.Windows.{relevant}
use Rattle.key_maps.specs.MapKeys.{equal_key}
use Rattle.window_policy.specs.Parts.{noted_or}
use Rattle.window_policy.proofs.Marks.{held-nothing}
use Rattle.window_policy.proofs.Windows.{kept_at, none_at, came_where_relevant}
use Rattle.window_policy.proofs.window.Window.content.Goals as goal

pub returns-in-Some-clause-shown : goal.returns-in-Some-clause-shown
returns-in-Some-clause-shown c rule h stood =
    let key = c.args.key.now in
    let kept = kept_at rule _ _ (tuples_with key (relevant rule h)) (sym c.in-Some.ensures.value) (stood.at key) in
    (came_where_relevant rule key h kept.1, c.of.ensures ∙ kept.0.items)

pub returns-then-is_noted-clause-shown : goal.returns-then-is_noted-clause-shown
returns-then-is_noted-clause-shown c rule h stood =
    let key = c.args.key.now in
    let w = c.args.self.now in (
      sym (stood.known key)
          ∙ ap (λ o. noted_or (flushes_at_markers rule) (contains equal_key w.known key) (is_some o)) (sym c.in-None.ensures.value)
          ∙ ap (λ r. noted_or (flushes_at_markers r) (contains equal_key w.known key) false) (sym stood.by)
          ∙ sym c.is_noted.ensures ∙ c.if-is_noted.true,
      c.empty.ensures ∙ sym (ap (held rule) (none_at rule _ _ (sym c.in-None.ensures.value) (stood.at key)) ∙ held-nothing rule),
    )

pub returns-else-is_noted-clause-none : goal.returns-else-is_noted-clause-none
returns-else-is_noted-clause-none c rule h stood =
    let key = c.args.key.now in
    let w = c.args.self.now in
    sym (stood.known key)
    ∙ ap (λ o. noted_or (flushes_at_markers rule) (contains equal_key w.known key) (is_some o)) (sym c.in-None.ensures.value)
    ∙ ap (λ r. noted_or (flushes_at_markers r) (contains equal_key w.known key) false) (sym stood.by)
    ∙ sym c.is_noted.ensures ∙ c.if-is_noted.false
