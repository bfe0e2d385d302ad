-- What the window of a side holds.
use Rattle.std.proofs.Common.{◌≡◌, false, List, [], ◌∷◌, length, refl, sym, ap, ◌∙◌, true≢false, arith}
use Rattle.spl_value.specs.declared.value.Value.{Value}
use Rattle.language_model.specs.declared.checked.WindowRule.{WindowRule}
use Rattle.stream_model.specs.Windows.{WindowEvent, content, has_come, held, tuples_with}
use Rattle.stream_model.specs.parts.Windows.{relevant}
use Rattle.window_policy.proofs.Marks.{held-nothing}
use Rattle.window_policy.proofs.Windows.{came_where_relevant}

-- where no tuple came, nothing is held
pub nothing_held : (rule : WindowRule) (k : List Value) (h : List WindowEvent) → has_come k h ≡ false → content rule k h ≡ []
nothing_held rule k h none = by (tuples_with k (relevant rule h)) refl
  where
    by : (ts : List (List Value)) → tuples_with k (relevant rule h) ≡ ts → content rule k h ≡ []
    by [] e = ap (held rule) e ∙ held-nothing rule
    by (t ∷ ts) e = let n = ap length e in absurd (true≢false (sym (came_where_relevant rule k h (omega arith)) ∙ none))
