-- The tuple that goes into the window.
use Rattle.std.proofs.Common.{◌≡◌, ◌++◌, ◌∷◌, [], ℕ, suc, List, length, map, Option, refl, sym, ap, ◌∙◌}
use Rattle.spl_value.specs.declared.value.Value.{Value}
use Rattle.spl_tree.specs.declared.body.Function.{Function}
use Rattle.language_model.specs.declared.checked.CollectedAttribute.{CollectedAttribute}
use Rattle.language_model.specs.declared.env.Env.{Env}
use Rattle.language_model.specs.Outcomes.{Outcome, Done, Faulted, Stuck, followed}
use Rattle.stream_model.specs.Aggregates.{arguments}
use Rattle.stream_model.specs.parts.Aggregates.{argument}
use Rattle.stream_model.proofs.parts.Aggregates.{done_or_none}
use Rattle.stream_model.specs.Bodies.{at_tuple, most_turns}
use Rattle.aggregate_op.specs.Arguments.{blank, extended}

-- the tuple with its values is the extended one
pub extended_is : (functions : List Function) (output : List CollectedAttribute) (t us : List Value) (args : List (Option Value)) (turns : ℕ)
    → arguments functions output (at_tuple t) most_turns ≡ Done args turns → us ≡ t ++ map blank args → us ≡ extended functions output t
extended_is functions output t us args turns e is = is ∙ ap (λ xs. t ++ map blank xs) (sym (ap done_or_none e))

-- as many arguments have values as there are assignments
abbrev pub AreMany : List Function → List CollectedAttribute → Env → Type 0
AreMany functions output env = (turns : ℕ) (args : List (Option Value)) (left : ℕ) → arguments functions output env turns ≡ Done args left → length args ≡ length output

one_more : (functions : List Function) (x : CollectedAttribute) (xs : List CollectedAttribute) (env : Env) → AreMany functions xs env → AreMany functions (x ∷ xs) env
one_more functions x xs env others turns args left e = by (argument functions x.argument env turns) e
  where
    next : (a : Option Value) (t : ℕ) (o : Outcome (List (Option Value))) → arguments functions xs env t ≡ o → followed o (λ more turns. Done (a ∷ more) turns) ≡ Done args left
        → length args ≡ suc (length xs)
    next a t (Done more rest) is e = let same : a ∷ more ≡ args = cc in sym (ap length same) ∙ ap suc (others t more rest is)
    next a t (Faulted kind) is e = absurd cc
    next a t Stuck is e = absurd cc

    by : (o : Outcome (Option Value)) → followed o (λ a turns. followed (arguments functions xs env turns) (λ more turns. Done (a ∷ more) turns)) ≡ Done args left → length args ≡ suc (length xs)
    by (Done a t) e = next a t (arguments functions xs env t) refl e
    by (Faulted kind) e = absurd cc
    by Stuck e = absurd cc

pub arguments_many : (functions : List Function) (output : List CollectedAttribute) (env : Env) → AreMany functions output env
arguments_many functions [] env turns args left e = let none : [] ≡ args = cc in sym (ap length none)
arguments_many functions (x ∷ xs) env turns args left e = one_more functions x xs env (arguments_many functions xs env) turns args left e
