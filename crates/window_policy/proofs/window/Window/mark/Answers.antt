use Rattle.std.proofs.Common.{List, ◌∷◌, is_some, sym, ap, subst, ◌∙◌}
use Rattle.indexmap.specs.IndexMap.{get}
use Rattle.indexmap.specs.IndexSet.{contains}
use Rattle.std.specs.Map.{lookup}
use Rattle.spl_value.specs.declared.value.Value.{Value}
use Rattle.stream_model.specs.Windows.{Mark, tuples_with, flushes_at_markers}
use Rattle.stream_model.specs.parts.Windows.{relevant}
use Rattle.key_maps.specs.MapKeys.{equal_key}
use Rattle.window_policy.specs.Parts.{At, noted_or}
use Rattle.window_policy.proofs.Marks.{flushes_all, nothing_counts}
use Rattle.window_policy.proofs.window.Window.mark.Goals as goal

pub returns-in_ok-flushed-in-TumblingPunct-clause-flushed : goal.returns-in_ok-flushed-in-TumblingPunct-clause-flushed
returns-in_ok-flushed-in-TumblingPunct-clause-flushed c rule h stood =
    c.in_ok-flushed-in-TumblingPunct.ensures
    ∙ flushes_all rule (sym stood.by ∙ c.in-TumblingPunct.is) h c.in_ok-pairs-in-TumblingPunct.pairs.items (get equal_key c.args.self.now.parts) c.in_ok-pairs-in-TumblingPunct.ensures.sorted
    (λ q. c.in_ok-pairs-in-TumblingPunct.ensures.found q ∙ ap (λ m. get equal_key m q) c.replace-parts.ensures.value) stood.at

pub returns-in_ok-flushed-in-TumblingPunct-clause-stands : goal.returns-in_ok-flushed-in-TumblingPunct-clause-stands
returns-in_ok-flushed-in-TumblingPunct-clause-stands c rule h stood =
    let is = sym stood.by ∙ c.in-TumblingPunct.is in
    let known = contains equal_key c.args.self.now.known in
    let gone = λ (k : List Value). ap (λ m. get equal_key m k) c.replace-parts.ensures.after ∙ ap (lookup (equal_key k)) c.new.ensures.empty in
    record {
      by = stood.by;
      allowed = stood.allowed;
      at = λ k. subst (λ o. At rule o (tuples_with k (relevant rule (Mark ∷ h)))) (sym (gone k)) (nothing_counts rule is k h);
      known = λ k.
          ap (λ r. noted_or (flushes_at_markers r) (known k) (is_some (get equal_key c.replace-parts.new.dest k))) is
          ∙ sym (ap (λ r. noted_or (flushes_at_markers r) (known k) (is_some (get equal_key c.args.self.now.parts k))) is)
          ∙ stood.known k;
      newest = tt;
    }
