-- Pairs one by one.
use Rattle.std.proofs.Common.{◌≡◌, ◌<◌, ℕ, suc, ◌+◌, List, [], ◌∷◌, ◌++◌, map, length, drop, slice_get, Option, Some, refl, sym, ap, subst, ◌∙◌, arith, append_assoc, length-set, set-set}
use Rattle.spl_value.specs.declared.item.FaultKind.{FaultKind}
use Rattle.spl_value.specs.declared.value.Value.{Value}
use Rattle.spl_tree.specs.declared.body.Function.{Function}
use Rattle.spl_tree.specs.declared.code.Code.{Code}
use Rattle.spl_tree.specs.declared.code.Slot.{Slot}
use Rattle.language_model.specs.declared.env.Env.{Env}
use Rattle.language_model.specs.declared.outs.Output.{Output}
use Rattle.language_model.specs.Outcomes.{Done, Faulted, Stuck, followed}
use Rattle.stream_model.specs.Bodies.{Makes, made_where}
use Rattle.stream_model.specs.Joins.{pairs_give}
use Rattle.join_op.specs.declared.side.Side.{Side}
use Rattle.join_op.specs.Fitting.{PairFits, PairsFit}
use Rattle.join_op.specs.Pairs.{other_place, with_other}
use Rattle.spl_value.proofs.Lists.{next_rest}

-- ---- environments

-- of two tuples of the other side the last one stays
pub other_again : (side : Side) (env : Env) (t u : List Value) → with_other side (with_other side env t) u ≡ with_other side env u
other_again side env t u = λ i. record { inputs = set-set env.inputs (other_place side) t u i; vars = env.vars; punct = env.punct }

pub place_stays : (side : Side) (env new : Env) (t : List Value) → new ≡ with_other side env t → other_place side < length env.inputs → other_place side < length new.inputs
place_stays side env new t is within =
    let same : length new.inputs ≡ length env.inputs = ap (λ (e : Env). length e.inputs) is ∙ length-set env.inputs (other_place side) t in
    omega arith

-- ---- lists

drop_at : {X : Type 0} (xs : List X) (i : ℕ) (x : X) → slice_get xs i ≡ Some x → drop i xs ≡ x ∷ drop (i + 1) xs
drop_at xs i x at = let same : suc i ≡ i + 1 = omega arith in next_rest xs i x at ∙ ap (λ n. x ∷ drop n xs) same

-- ---- what is given

-- before the first pair nothing is
pub given_nothing : (o : Makes) (outs : List Output) → outs ≡ [] → followed o (λ more turns. Done (outs ++ more) turns) ≡ o
given_nothing (Done more turns) outs none = ap (λ os. Done (os ++ more) turns) none
given_nothing (Faulted kind) outs none = refl
given_nothing Stuck outs none = refl

one_behind : (o : Makes) (outs given : List Output)
    → followed o (λ more turns. Done ((outs ++ given) ++ more) turns) ≡ followed (followed o (λ more turns. Done (given ++ more) turns)) (λ more turns. Done (outs ++ more) turns)
one_behind (Done more turns) outs given = ap (λ os. Done os turns) (append_assoc outs given more)
one_behind (Faulted kind) outs given = refl
one_behind Stuck outs given = refl

module _ (functions : List Function) (condition : Option (Code Slot)) (code : Code Slot) (env : List Value → Env) where
  abbrev rest : List (List Value) → ℕ → ℕ → Makes
  rest us i turns = pairs_give functions condition code (map env (drop i us)) turns

  -- one pair more
  pub one_more : (us : List (List Value)) (i : ℕ) (u : List Value) (now : Env) (turns left : ℕ) (outs given new : List Output) → slice_get us i ≡ Some u → now ≡ env u
      → made_where functions condition code now turns ≡ Done given left → new ≡ outs ++ given
      → followed (rest us (i + 1) left) (λ more turns. Done (new ++ more) turns) ≡ followed (rest us i turns) (λ more turns. Done (outs ++ more) turns)
  one_more us i u now turns left outs given new at is made added =
      ap (λ os. followed (rest us (i + 1) left) (λ more turns. Done (os ++ more) turns)) added
      ∙ one_behind (rest us (i + 1) left) outs given
      ∙ ap (λ (o : Makes). followed (followed o (λ os turns. followed (rest us (i + 1) turns) (λ more turns. Done (os ++ more) turns))) (λ more turns. Done (outs ++ more) turns))
      (sym made ∙ ap (λ e. made_where functions condition code e turns) is)
      ∙ ap (λ us. followed (pairs_give functions condition code (map env us) turns) (λ more turns. Done (outs ++ more) turns)) (sym (drop_at us i u at))

  -- a pair that faults
  pub one_faults : (us : List (List Value)) (i : ℕ) (u : List Value) (now : Env) (turns : ℕ) (outs : List Output) (o : Makes) (kind : FaultKind) → slice_get us i ≡ Some u → now ≡ env u
      → made_where functions condition code now turns ≡ Faulted kind → followed (rest us i turns) (λ more turns. Done (outs ++ more) turns) ≡ o → o ≡ Faulted kind
  one_faults us i u now turns outs o kind at is made all =
      sym all
      ∙ ap (λ us. followed (pairs_give functions condition code (map env us) turns) (λ more turns. Done (outs ++ more) turns)) (drop_at us i u at)
      ∙ ap (λ (o : Makes). followed (followed o (λ os turns. followed (rest us (i + 1) turns) (λ more turns. Done (os ++ more) turns))) (λ more turns. Done (outs ++ more) turns))
      (ap (λ e. made_where functions condition code e turns) (sym is) ∙ made)

  -- the clauses fit a pair
  pub pair_fits : (us : List (List Value)) (i : ℕ) (u : List Value) (now : Env) → PairsFit functions condition code env us → slice_get us i ≡ Some u → now ≡ env u
      → PairFits functions condition code now
  pair_fits us i u now fit at is = subst (PairFits functions condition code) (sym is) (fit i u at)
