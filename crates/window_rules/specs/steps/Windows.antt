-- What calls answer on windows, as the definitions see it.
use Rattle.std.specs.Prelude.{◌≡◌, ℕ, ℤ, pos, Bool, List, Option, Ok}
use Rattle.std.specs.Borrow.{Bor}
use Rattle.spl_value.specs.declared.types.IntKind.{IntKind}
use Rattle.spl_tree.specs.declared.unit.WindowPart.{WindowPart}
use Rattle.language_model.specs.declared.checked.WindowRule.{WindowRule}
use Rattle.language_model.specs.declared.checked.WindowRule.TheVariants as W
use Rattle.language_model.specs.Policies.{Delta, IntegerAttribute, Parts}
use Rattle.language_model.specs.Typing.{Found, after}
use Rattle.window_rules.specs.declared.windows.measures.Measure.{Measure}
use Rattle.window_rules.specs.declared.windows.measures.Measure.TheVariants as M

abbrev pub counted : ℕ → Measure
counted n = M.Count n

abbrev pub differing : Delta → Measure
differing d = M.Delta d.attribute (pos d.limit)

abbrev pub tumbles_by : Measure → WindowRule
tumbles_by (M.Count n) = W.TumblingCount n
tumbles_by (M.Delta attribute limit) = W.TumblingDelta attribute limit

abbrev pub slides_by : Measure → Option ℕ → WindowRule
slides_by (M.Count n) every = W.SlidingCount n every
slides_by (M.Delta attribute limit) every = W.SlidingDelta attribute limit every

abbrev pub with_kind : Found IntegerAttribute → Found (ℕ × IntKind)
with_kind found = after found (λ a. Ok (a.place, a.kind))

abbrev pub with_limit : Found Delta → Found (ℕ × ℤ)
with_limit found = after found (λ d. Ok (d.attribute, pos d.limit))

-- whether a window is partitioned, and its other parts
abbrev pub ArePartitioned : Parts → Bool × Bor (List WindowPart) → Type 0
ArePartitioned parts found = (found.0 ≡ parts.partitioned) × (found.1.now ≡ parts.others)
