-- Where the expressions of an operator stand, by what a call is given.
use Rattle.std.specs.Prelude.{Option}
use Rattle.spl_tree.specs.Trees.{Expr}
use Rattle.language_model.specs.DollarTargets.{expression_meant}
use Rattle.language_model.specs.Literals.{number_literal}
use Rattle.language_model.specs.ParameterTyping.{Site}
use Rattle.language_model.specs.Policies.{Numbers}
use Rattle.literal_sites.specs.declared.site.ExpressionSite.{ExpressionSite}
use Rattle.literal_sites.specs.declared.follow.Follow.{Follow}

-- the values of `$` parameters in the body of an expansion; another expression is its own value
abbrev pub followed_in : Follow → Expr → Option Expr
followed_in f = expression_meant f.sites.now.unit.now f.sites.now.expansions.now f.number

abbrev pub followed_at : ExpressionSite → Expr → Option Expr
followed_at site = followed_in site.follow

abbrev pub site_seen : ExpressionSite → Site
site_seen site = record { scope = site.scope.now; follow = followed_at site }

-- the number literals that are the values of expressions there
abbrev pub numbers_at : ExpressionSite → Numbers
numbers_at site = number_literal site.scope.now (followed_at site)
