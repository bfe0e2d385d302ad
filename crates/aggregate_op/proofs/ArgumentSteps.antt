-- Arguments one by one.
use Rattle.std.proofs.Common.{◌≡◌, ◌<◌, ◌+◌, ℕ, List, [], ◌∷◌, ◌++◌, length, map, drop, get_or, Option, refl, sym, ap, ◌∙◌, append_assoc}
use Rattle.spl_value.specs.declared.item.FaultKind.{FaultKind}
use Rattle.spl_value.specs.declared.value.Value.{Value}
use Rattle.spl_value.proofs.Lists.{drop_at}
use Rattle.spl_tree.specs.declared.body.Function.{Function}
use Rattle.language_model.specs.declared.checked.CollectedAttribute.{CollectedAttribute}
use Rattle.language_model.specs.declared.env.Env.{Env}
use Rattle.language_model.specs.Outcomes.{Outcome, Done, Faulted, Stuck, followed}
use Rattle.stream_model.specs.Aggregates.{arguments}
use Rattle.stream_model.specs.parts.Aggregates.{argument}
use Rattle.aggregate_op.specs.Arguments.{blank}

one_behind : (o : Outcome (List (Option Value))) (args : List (Option Value)) (a : Option Value)
    → followed o (λ more turns. Done ((args ++ a ∷ []) ++ more) turns) ≡ followed (followed o (λ more turns. Done (a ∷ more) turns)) (λ more turns. Done (args ++ more) turns)
one_behind (Done more turns) args a = ap (λ os. Done os turns) (append_assoc args (a ∷ []) more)
one_behind (Faulted kind) args a = refl
one_behind Stuck args a = refl

pub nothing_yet : (o : Outcome (List (Option Value))) → followed o (λ more turns. Done ([] ++ more) turns) ≡ o
nothing_yet (Done more turns) = refl
nothing_yet (Faulted kind) = refl
nothing_yet Stuck = refl

module _ (functions : List Function) (output : List CollectedAttribute) (env : Env) (i : ℕ) (x : CollectedAttribute) (within : i < length output) (is : x ≡ get_or output i x) where
  abbrev rest : ℕ → ℕ → Outcome (List (Option Value))
  rest n turns = arguments functions (drop n output) env turns

  -- one argument more
  pub one_more : (turns left : ℕ) (args : List (Option Value)) (a : Option Value) → argument functions x.argument env turns ≡ Done a left
      → followed (rest (i + 1) left) (λ more turns. Done ((args ++ a ∷ []) ++ more) turns) ≡ followed (rest i turns) (λ more turns. Done (args ++ more) turns)
  one_more turns left args a e =
      one_behind (rest (i + 1) left) args a
      ∙ ap (λ (o : Outcome (Option Value)). followed (followed o (λ b turns. followed (rest (i + 1) turns) (λ more turns. Done (b ∷ more) turns))) (λ more turns. Done (args ++ more) turns)) (sym e)
      ∙ ap (λ xs. followed (arguments functions xs env turns) (λ more turns. Done (args ++ more) turns)) (sym (drop_at output i x within is))

  -- an argument that faults
  pub one_faults : (turns : ℕ) (args : List (Option Value)) (o : Outcome (List (Option Value))) (kind : FaultKind) → argument functions x.argument env turns ≡ Faulted kind
      → followed (rest i turns) (λ more turns. Done (args ++ more) turns) ≡ o → o ≡ Faulted kind
  one_faults turns args o kind e all =
      sym all
      ∙ ap (λ xs. followed (arguments functions xs env turns) (λ more turns. Done (args ++ more) turns)) (drop_at output i x within is)
      ∙ ap (λ (o : Outcome (Option Value)). followed (followed o (λ b turns. followed (rest (i + 1) turns) (λ more turns. Done (b ∷ more) turns))) (λ more turns. Done (args ++ more) turns)) e

pub blanks_more : (values : List Value) (args : List (Option Value)) (a : Option Value) → values ≡ map blank args → values ++ blank a ∷ [] ≡ map blank (args ++ a ∷ [])
blanks_more values args a is = ap (λ vs. vs ++ blank a ∷ []) is ∙ by args
  where
    by : (args : List (Option Value)) → map blank args ++ blank a ∷ [] ≡ map blank (args ++ a ∷ [])
    by [] = refl
    by (b ∷ args) = ap (λ vs. blank b ∷ vs) (by args)
