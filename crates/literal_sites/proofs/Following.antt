-- The values of `$` parameters, as they are followed from expansion to expansion.
use Rattle.std.specs.Prelude.{◌≡◌, ℕ, suc, ◌-◌, ◌<◌, List, Option, Some, slice_get}
use Rattle.std.specs.Option.{option_and_then}
use Rattle.std.proofs.Common.{ap, sym, ◌∙◌, arith}
use Rattle.spl_tree.specs.declared.graph.Expansion.{Expansion}
use Rattle.spl_tree.specs.declared.graph.Site.{Site}
use Rattle.spl_tree.specs.declared.unit.Definition.{Definition}
use Rattle.spl_tree.specs.Trees.{Expr}
use Rattle.language_model.specs.DollarTargets.{Target, expression_within, here_or}
use Rattle.language_model.specs.parts.DollarTargets.{target_in}

module _ (unit : List Definition) (expansions : List Expansion) where
  -- an argument, where an expansion is invoked
  abbrev pub outside : ℕ → Option Site → Expr → Option Expr
  outside count site argument = option_and_then (λ s. expression_within count unit expansions s.expansion argument) site

  pub follow_step : (left number : ℕ) (e : Expr) (x : Expansion) (b : Target) → 0 < left → Some x ≡ slice_get expansions number → b ≡ target_in unit expansions x e
      → expression_within left unit expansions number e ≡ here_or (outside (left - 1) x.site) b
  follow_step left number e x b h s o =
      (let positive : left ≡ suc (left - 1) = omega arith in ap (λ n. expression_within n unit expansions number e) positive)
      ∙ ap (option_and_then (λ x. here_or (outside (left - 1) x.site) (target_in unit expansions x e))) (sym s)
      ∙ ap (here_or (outside (left - 1) x.site)) (sym o)
