-- One prefix operator or cast more.
use Rattle.std.proofs.Common.{◌≡◌, false, List, [], ◌∷◌, ◌++◌, Err, sym, subst}
use Rattle.spl_tree.specs.declared.symbol.Symbol.TheVariants as K
use Rattle.spl_tree.specs.declared.token.Token.{Token}
use Rattle.spl_tree.specs.Trees.{Expr, Prefix}
use Rattle.expr_parser.specs.Rules.{call, RuleResult, Refused, RunsTo, Reads}
use Rattle.expr_parser.proofs.RuleLaws.{line, runs_stop, runs_take, runs_skip, runs_last}
use Rattle.expr_parser.specs.Taken.{begins_with, Taken, TakenAs}
use Rattle.expr_parser.specs.Lines.{Prefixed, Primary, Group, rule, is, is_prefix, prefix_token, is_target, cast_token, operand_rule}
use Rattle.expr_parser.specs.declared.stop.Stop.{Stop}
use Rattle.expr_parser.specs.declared.stop.Stop.TheVariants as S
use Rattle.expr_parser.specs.Gives.{Passes}
use Rattle.expr_parser.specs.steps.Parts.{Fronts}

module _ {ps : List Prefix} {ts : List Token} where
  pub prefix_on : {p : Prefix} {rest : List Token} → TakenAs is_prefix prefix_token ts p rest → (o : RuleResult Expr) → Reads rule (Prefixed (ps ++ p ∷ [])) rest o
      → Reads rule (Prefixed ps) ts o
  unfolding rule
  prefix_on {p} {rest} h o r =
      line (runs_take ts h.token rest h.taken.here h.taken.passes (runs_last (subst (λ q. Reads rule (Prefixed (ps ++ q ∷ [])) rest o) h.is r)))

  pub primary_on : begins_with is_prefix ts ≡ false → begins_with (is K.LeftParen) ts ≡ false → (o : RuleResult Expr) → RunsTo rule (call Primary (operand_rule ps)) ts o
      → Reads rule (Prefixed ps) ts o
  unfolding rule
  primary_on plain none o r = line (runs_skip ts plain (runs_skip ts none r))

  module _ {t : Token} {rest : List Token} (plain : begins_with is_prefix ts ≡ false) (begins : Taken (is K.LeftParen) ts t rest) where
    pub group_on : begins_with is_target rest ≡ false → (o : RuleResult Expr) → RunsTo rule (call (Group t.start) (operand_rule ps)) rest o → Reads rule (Prefixed ps) ts o
    unfolding rule
    group_on none o r = line (runs_skip ts plain (runs_take ts t rest begins.here begins.passes (runs_skip rest none r)))

    pub cast_on : {p : Prefix} {mid : List Token} → TakenAs is_target (cast_token t.start) rest p mid → (c : Token) (behind : List Token) → Taken (is K.RightParen) mid c behind
        → (o : RuleResult Expr) → Reads rule (Prefixed (ps ++ p ∷ [])) behind o → Reads rule (Prefixed ps) ts o
    unfolding rule
    cast_on {p} {mid} h c behind close o r =
        line (runs_skip ts plain (runs_take ts t rest begins.here begins.passes (runs_take rest h.token mid h.taken.here h.taken.passes
        (runs_take mid c behind close.here close.passes (runs_last (subst (λ q. Reads rule (Prefixed (ps ++ q ∷ [])) behind o) h.is r))))))

    pub cast_stops : {p : Prefix} {mid : List Token} → TakenAs is_target (cast_token t.start) rest p mid → begins_with (is K.RightParen) mid ≡ false
        → Reads rule (Prefixed ps) ts (Refused mid)
    unfolding rule
    cast_stops {p} {mid} h none =
        line (runs_skip ts plain (runs_take ts t rest begins.here begins.passes (runs_take rest h.token mid h.taken.here h.taken.passes
        (runs_skip mid none runs_stop))))

    -- a cast whose parenthesis isn't closed, after a start that gives what is given here
    pub cast_fails : (start : List Token) {p : Prefix} {mid : List Token} → ((o : RuleResult Expr) → Reads rule (Prefixed ps) ts o → Reads rule (Prefixed []) start o)
        → TakenAs is_target (cast_token t.start) rest p mid → (e : Stop) → Passes K.RightParen mid (Err e) → Fronts start (Err e)
    cast_fails start on h (S.At left) none = on (Refused left.now) (subst (λ r. Reads rule (Prefixed ps) ts (Refused r)) (sym none.1) (cast_stops h none.0))
    cast_fails start on h S.Memory none = absurd none
