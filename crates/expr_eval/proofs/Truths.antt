-- The outcome of a condition of each form, by the outcomes of its parts.
use Rattle.std.specs.Prelude.{◌≡◌, ℕ, zero, suc, ◌+◌, Bool, true, false, not, if◌then◌else◌, List, length, None, Some}
use Rattle.std.proofs.Common.{refl, sym, ap, ◌∙◌, subst, arith}
use Rattle.spl_value.specs.declared.types.SplType.{SplType}
use Rattle.spl_value.specs.declared.types.SplType.TheVariants as T
use Rattle.spl_value.specs.declared.types.SplType.TheOpen as S
use Rattle.spl_value.specs.declared.types.SplType.TheOpen.{SplType-F}
use Rattle.spl_value.specs.declared.types.SplType.TheViews.{out-SplType}
use Rattle.spl_value.specs.declared.item.FaultKind.{FaultKind}
use Rattle.spl_value.specs.declared.value.Value.{Value}
use Rattle.spl_value.specs.declared.value.Value.TheVariants as V
use Rattle.spl_value.proofs.FitsLaws.{bool_from_fits}
use Rattle.spl_tree.specs.declared.code.BinaryCode.{BinaryCode}
use Rattle.spl_tree.specs.declared.code.BinaryCode.TheVariants as D
use Rattle.spl_tree.specs.declared.code.Code.{Code}
use Rattle.spl_tree.specs.declared.code.Code.TheVariants as C
use Rattle.spl_tree.specs.declared.code.UnaryCode.{UnaryCode}
use Rattle.spl_tree.specs.declared.code.UnaryCode.TheVariants as U
use Rattle.spl_tree.specs.declared.body.Function.{Function}
use Rattle.spl_tree.specs.declared.code.Slot.{Slot}
use Rattle.language_model.specs.declared.env.Env.{Env}
use Rattle.language_model.specs.CodeFits as F
use Rattle.language_model.specs.CodeFits.{UnaryGives, UnariesGive, BinaryGives}
use Rattle.language_model.specs.Evaluation.{World, Calls, code_value, binary, unaries_of, world_of}
use Rattle.language_model.specs.EvaluationLaws.{truth_value, binary_is, unary_is}
use Rattle.language_model.specs.parts.Functions.{calls_of}
use Rattle.language_model.specs.Operators.{binary_of, level_truth, level_unary}
use Rattle.language_model.specs.parts.Operators.{boolean, truth_of, unary_of}
use Rattle.language_model.specs.Outcomes.{Outcome, Done, Faulted, Stuck, followed, need, settled}
use Rattle.language_model.specs.ValueLaws.{NeverStuckLaw}
use Rattle.language_model.specs.WorldFits.{Fits}
use Rattle.value_operations.specs.Answers.{StopsAs, as_truth}
use Rattle.value_operations.specs.Fitting.{FitRelation}
use Rattle.value_operations.specs.declared.stop.Stop.{Stop}
use Rattle.value_operations.specs.declared.stop.Stop.TheVariants as H
use Rattle.value_operations.proofs.Following.{followed_followed, followed_stops, stops_by}
use Rattle.expr_eval.proofs.Binary.{both_evaluated, on_left}
use Rattle.expr_eval.proofs.CodeParts.{binary_parts, unary_parts}
use Rattle.expr_eval.proofs.ValueTypes.{of_type}
use Rattle.language_model.proofs.Returning.{done_followed}

-- the truth of a value
abbrev told : Value → ℕ → Outcome Bool
told v turns = need (truth_of v) (λ b. Done b turns)

bool_told : (b : Bool) (turns : ℕ) → told (V.Bool b) turns ≡ Done b turns
bool_told b turns = ap (λ o. need (level_truth o) (λ b. Done b turns)) (V.outs-Bool b)

pub so_done : (o : Outcome Value) (v : Value) (b : Bool) (left : ℕ) → o ≡ Done v left → truth_of v ≡ Some b → as_truth o ≡ Done b left
so_done o v b left e t = ap as_truth e ∙ ap (λ o. need o (λ b. Done b left)) t

pub bool_so : (o : Outcome Value) (b : Bool) (left : ℕ) → o ≡ Done (V.Bool b) left → as_truth o ≡ Done b left
bool_so o b left e = ap as_truth e ∙ bool_told b left

-- a fault is that of the value
fault_of : (o : Outcome Value) (kind : FaultKind) → as_truth o ≡ Faulted kind → o ≡ Faulted kind
fault_of (Done v turns) kind e =
    elim (truth_of v) as (λ t. need t (λ b. Done b turns) ≡ Faulted kind → Done v turns ≡ Faulted kind) [
      | None ↦ λ e. absurd cc
      | Some b ↦ λ e. absurd cc
    ] e
fault_of (Faulted k) kind e = let same : k ≡ kind = cc in ap Faulted same
fault_of Stuck kind e = absurd cc

stop_of : (o : Outcome Value) (s : Stop) → StopsAs (as_truth o) s → StopsAs o s
stop_of o (H.Fault kind) h = fault_of o kind h
stop_of o H.Memory h = tt

-- ---- operators that invert

-- inverted n times
abbrev pub flipped : ℕ → Bool → Bool
flipped zero b = b
flipped (suc n) b = not (flipped n b)

pub flipped_more : (n : ℕ) (b c : Bool) → c ≡ flipped n b → not c ≡ flipped (n + 1) b
flipped_more n b c e = ap not e ∙ ap (λ m. flipped m b) (let more : suc n ≡ n + 1 = omega arith in more)

abbrev level_bool : SplType-F SplType → Bool
level_bool S.Bool = true
level_bool _ = false

abbrev is_bool : SplType → Bool
is_bool t = level_bool (out-SplType t)

is_bool_type : (t : SplType) → t ≡ T.Bool → is_bool t ≡ true
is_bool_type t e = ap is_bool e ∙ ap level_bool T.outs-Bool

-- only `!` gives a boolean
inverts_alone : (op : UnaryCode) (t u : SplType) → UnaryGives op t u → is_bool u ≡ true → (op ≡ U.Not) × (t ≡ T.Bool)
inverts_alone _ _ _ F.inverts h = (refl, refl)
inverts_alone _ _ _ (F.negates k) h = let no : false ≡ true = sym (ap level_bool (T.outs-Int k)) ∙ h in absurd cc
inverts_alone _ _ _ (F.complements k) h = let no : false ≡ true = sym (ap level_bool (T.outs-Int k)) ∙ h in absurd cc
inverts_alone _ _ _ (F.to_integer j k) h = let no : false ≡ true = sym (ap level_bool (T.outs-Int k)) ∙ h in absurd cc
inverts_alone _ _ _ (F.integer_text k) h = let no : false ≡ true = sym (ap level_bool T.outs-Text) ∙ h in absurd cc
inverts_alone _ _ _ F.bool_text h = let no : false ≡ true = sym (ap level_bool T.outs-Text) ∙ h in absurd cc

inverts_one : (op : UnaryCode) (b : Bool) (turns : ℕ) → op ≡ U.Not → settled (unary_of op (V.Bool b)) turns ≡ Done (V.Bool (not b)) turns
inverts_one op b turns e = ap (λ (o : UnaryCode). settled (unary_of o (V.Bool b)) turns) e ∙ ap (λ o. settled (level_unary U.Not o) turns) (V.outs-Bool b)

abbrev Inverts : List UnaryCode → Type 0
Inverts ops = (b : Bool) (turns : ℕ) → unaries_of ops (V.Bool b) turns ≡ Done (V.Bool (flipped (length ops) b)) turns

invert_all : (ops : List UnaryCode) (t u : SplType) → UnariesGive ops t u → u ≡ T.Bool → (t ≡ T.Bool) × Inverts ops
invert_all _ _ _ (F.no_unary t) h = (h, λ b turns. refl)
invert_all _ _ _ (F.outer op ops t u v others gives) h =
    let one = inverts_alone op u v gives (is_bool_type v h) in
    let all = invert_all ops t u others one.1 in
    (all.0, λ b turns. ap (λ o. followed o (λ v turns. settled (unary_of op v) turns)) (all.1 b turns) ∙ inverts_one op (flipped (length ops) b) turns one.0)

pub inverted_is : (ops : List UnaryCode) (b c : Bool) (i : ℕ) → UnariesGive ops T.Bool T.Bool → c ≡ flipped i b → i ≡ length ops → (turns : ℕ)
    → unaries_of ops (V.Bool b) turns ≡ Done (V.Bool c) turns
inverted_is ops b c i gives e all turns =
    let is = invert_all ops T.Bool T.Bool gives refl in is.1 b turns ∙ ap (λ r. Done (V.Bool r) turns) (sym (e ∙ ap (λ i. flipped i b) all))

module _ (functions : List Function) (env : Env) (ops : List UnaryCode) (x : Code Slot) (f : Fits functions (C.Unary ops x) env T.Bool) where
  pub operand_holds : Fits functions x env T.Bool
  operand_holds =
      let p = unary_parts functions env (C.Unary ops x) (T.Bool, f) ops x refl in
      let all = invert_all ops p.0 T.Bool p.2 refl in
      subst (Fits functions x env) all.0 p.1

  pub all_invert : UnariesGive ops T.Bool T.Bool
  all_invert =
      let p = unary_parts functions env (C.Unary ops x) (T.Bool, f) ops x refl in
      let all = invert_all ops p.0 T.Bool p.2 refl in
      subst (λ t. UnariesGive ops t T.Bool) all.0 p.2

  module _ (law : NeverStuckLaw) (depth turns : ℕ) where
    pub inverted_stops : (s : Stop) → StopsAs (truth_value (calls_of functions depth) x (world_of env) turns) s
        → StopsAs (truth_value (calls_of functions depth) (C.Unary ops x) (world_of env) turns) s
    inverted_stops s h =
        stops_by _ _ s (ap as_truth (unary_is (calls_of functions depth) ops x (world_of env) turns))
        (followed_stops _ told s
        (followed_stops (code_value (calls_of functions depth) x (world_of env) turns) (λ v turns. unaries_of ops v turns) s
        (stop_of (code_value (calls_of functions depth) x (world_of env) turns) s h)))

    pub inverted_done : (b c : Bool) (left : ℕ) → truth_value (calls_of functions depth) x (world_of env) turns ≡ Done b left
        → ((turns : ℕ) → unaries_of ops (V.Bool b) turns ≡ Done (V.Bool c) turns) → truth_value (calls_of functions depth) (C.Unary ops x) (world_of env) turns ≡ Done c left
    inverted_done b c left e all =
        let comes = done_followed (code_value (calls_of functions depth) x (world_of env) turns) told b left e in
        let is = bool_from_fits comes.0 (of_type law functions env depth x T.Bool operand_holds turns comes.1 comes.0 comes.2) in
        let same : Done is.0 comes.1 ≡ Done b left = sym (bool_told is.0 comes.1) ∙ ap (λ v. told v comes.1) (sym is.1) ∙ comes.3 in
        let truth_same : is.0 ≡ b = cc in
        let left_same : comes.1 ≡ left = cc in
        let value_same : code_value (calls_of functions depth) x (world_of env) turns ≡ Done (V.Bool b) left = comes.2 ∙ (λ i. Done ((is.1 ∙ ap V.Bool truth_same) i) (left_same i)) in
        bool_so _ c left
        (unary_is (calls_of functions depth) ops x (world_of env) turns ∙ ap (λ o. followed o (λ v turns. unaries_of ops v turns)) value_same ∙ all left)

-- ---- operators between two operands

module _ (calls : Calls) (w : World Slot) (op : BinaryCode) (x y : Code Slot) (turns : ℕ) where
  abbrev so : Code Slot → ℕ → Outcome Bool
  so c turns = truth_value calls c w turns

  form : (o : BinaryCode) → op ≡ o → so (C.Binary op x y) turns ≡ as_truth (binary o (code_value calls x) (code_value calls y) w turns)
  form o e = ap as_truth (binary_is calls op x y w turns ∙ ap (λ (o : BinaryCode). binary o (code_value calls x) (code_value calls y) w turns) e)

  and_so : op ≡ D.And → so (C.Binary op x y) turns ≡ followed (so x turns) (λ b left. if b then so y left else Done false left)
  and_so e =
      form D.And e ∙ followed_followed (so x turns) (λ b turns. if b then code_value calls y w turns else Done (V.Bool false) turns) told
      ∙ (λ i. followed (so x turns) (λ b left. each b left i))
    where
      each : (b : Bool) (left : ℕ) → followed (if b then code_value calls y w left else Done (V.Bool false) left) told ≡ (if b then so y left else Done false left)
      each true left = refl
      each false left = bool_told false left

  or_so : op ≡ D.Or → so (C.Binary op x y) turns ≡ followed (so x turns) (λ b left. if b then Done true left else so y left)
  or_so e =
      form D.Or e ∙ followed_followed (so x turns) (λ b turns. if b then Done (V.Bool true) turns else code_value calls y w turns) told
      ∙ (λ i. followed (so x turns) (λ b left. each b left i))
    where
      each : (b : Bool) (left : ℕ) → followed (if b then Done (V.Bool true) left else code_value calls y w left) told ≡ (if b then Done true left else so y left)
      each true left = bool_told true left
      each false left = refl

  pub and_stops : op ≡ D.And → (s : Stop) → StopsAs (so x turns) s → StopsAs (so (C.Binary op x y) turns) s
  and_stops e s h = stops_by _ _ s (and_so e) (followed_stops (so x turns) (λ b left. if b then so y left else Done false left) s h)

  pub or_stops : op ≡ D.Or → (s : Stop) → StopsAs (so x turns) s → StopsAs (so (C.Binary op x y) turns) s
  or_stops e s h = stops_by _ _ s (or_so e) (followed_stops (so x turns) (λ b left. if b then Done true left else so y left) s h)

  pub and_is : op ≡ D.And → (b : Bool) (left : ℕ) → so x turns ≡ Done b left → so (C.Binary op x y) turns ≡ (if b then so y left else Done false left)
  and_is e b left d = and_so e ∙ ap (λ o. followed o (λ b left. if b then so y left else Done false left)) d

  pub or_is : op ≡ D.Or → (b : Bool) (left : ℕ) → so x turns ≡ Done b left → so (C.Binary op x y) turns ≡ (if b then Done true left else so y left)
  or_is e b left d = or_so e ∙ ap (λ o. followed o (λ b left. if b then Done true left else so y left)) d

  module _ (no_and : op ≡ D.And → ⊥) (no_or : op ≡ D.Or → ⊥) where
    pub relation_stops : (s : Stop) → StopsAs (code_value calls x w turns) s → StopsAs (so (C.Binary op x y) turns) s
    relation_stops s h =
        stops_by _ _ s (ap as_truth (binary_is calls op x y w turns ∙ both_evaluated op (code_value calls x) (code_value calls y) w turns no_and no_or))
        (followed_stops _ told s (followed_stops (code_value calls x w turns) (λ u turns. followed (code_value calls y w turns) (λ v turns. settled (binary_of op u v) turns)) s h))

    pub relation_on : (u : Value) (after : ℕ) → code_value calls x w turns ≡ Done u after
        → so (C.Binary op x y) turns ≡ as_truth (followed (code_value calls y w after) (λ v turns. settled (binary_of op u v) turns))
    relation_on u after d = ap as_truth (binary_is calls op x y w turns ∙ on_left op (code_value calls x) (code_value calls y) w turns no_and no_or u after d)

    pub relation_done : (u v : Value) (after left : ℕ) (b : Bool) → code_value calls x w turns ≡ Done u after → code_value calls y w after ≡ Done v left → binary_of op u v ≡ boolean b
        → so (C.Binary op x y) turns ≡ Done b left
    relation_done u v after left b d e r =
        relation_on u after d ∙ ap (λ o. as_truth (followed o (λ v turns. settled (binary_of op u v) turns))) e ∙ ap (λ o. as_truth (settled o left)) r ∙ bool_told b left

module _ (functions : List Function) (env : Env) (op : BinaryCode) (x y : Code Slot) (f : Fits functions (C.Binary op x y) env T.Bool) where
  right_bool : op ≡ D.And → (t u : SplType) → BinaryGives op t u T.Bool → u ≡ T.Bool
  right_bool e t u g = of_and t u T.Bool (subst (λ (o : BinaryCode). BinaryGives o t u T.Bool) e g)
    where
      of_and : (t u r : SplType) → BinaryGives D.And t u r → u ≡ T.Bool
      of_and _ _ _ F.both = refl

  other_bool : op ≡ D.Or → (t u : SplType) → BinaryGives op t u T.Bool → u ≡ T.Bool
  other_bool e t u g = of_or t u T.Bool (subst (λ (o : BinaryCode). BinaryGives o t u T.Bool) e g)
    where
      of_or : (t u r : SplType) → BinaryGives D.Or t u r → u ≡ T.Bool
      of_or _ _ _ F.either = refl

  pub and_right : op ≡ D.And → Fits functions y env T.Bool
  and_right e = let p = binary_parts functions env (C.Binary op x y) (T.Bool, f) op x y refl in subst (Fits functions y env) (right_bool e p.0 p.1 p.4) p.3

  pub or_right : op ≡ D.Or → Fits functions y env T.Bool
  or_right e = let p = binary_parts functions env (C.Binary op x y) (T.Bool, f) op x y refl in subst (Fits functions y env) (other_bool e p.0 p.1 p.4) p.3

  pub relation_of_operands : NeverStuckLaw → (depth turns after left : ℕ) (v w : Value) → code_value (calls_of functions depth) x (world_of env) turns ≡ Done v after
      → code_value (calls_of functions depth) y (world_of env) after ≡ Done w left → (op ≡ D.And → ⊥) → (op ≡ D.Or → ⊥) → FitRelation op v w
  relation_of_operands law depth turns after left v w d e no_and no_or =
      let p = binary_parts functions env (C.Binary op x y) (T.Bool, f) op x y refl in
      (p.0, p.1, p.4, of_type law functions env depth x p.0 p.2 turns after v d, of_type law functions env depth y p.1 p.3 after left w e, no_and, no_or)
