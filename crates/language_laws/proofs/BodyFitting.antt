-- The code of a body fits where the body stands.
use Rattle.std.specs.Prelude.{◌≡◌, ℕ, Bool, true, false, List, [], ◌∷◌, slice_get, Option, Some, None, Ok, Err}
use Rattle.std.specs.List.{AllByRecursion}
use Rattle.std.specs.Str.{bytes_eq}
use Rattle.std.proofs.Common.{refl, sym, subst}
use Rattle.spl_value.specs.declared.types.Named.{Named}
use Rattle.spl_value.specs.declared.types.SplType.{SplType}
use Rattle.spl_value.specs.declared.types.SplType.TheVariants as S
use Rattle.spl_value.specs.declared.types.SplType.TheOpen as O
use Rattle.spl_value.specs.declared.types.SplType.TheOpen.{SplType-F}
use Rattle.spl_value.specs.declared.types.SplType.TheViews.{out-SplType}
use Rattle.spl_value.proofs.FitsLaws.{default_fits}
use Rattle.spl_value.specs.Values.{default_value}
use Rattle.spl_tree.specs.declared.body.Statement.{Statement}
use Rattle.spl_tree.specs.declared.body.Statement.TheVariants as T
use Rattle.spl_tree.specs.declared.code.Code.{Code}
use Rattle.spl_tree.specs.declared.code.Slot.{Slot}
use Rattle.spl_tree.specs.declared.expression.BinaryOperator.{BinaryOperator}
use Rattle.spl_tree.specs.declared.expression.Placed.{Placed}
use Rattle.spl_tree.specs.declared.shape.Attribute.{Attribute}
use Rattle.spl_tree.specs.declared.statement.Declaration.{Declaration}
use Rattle.spl_tree.specs.declared.statement.StmtKind.{StmtKind}
use Rattle.spl_tree.specs.Trees.{Expr, Stmt, TypeExpr}
use Rattle.language_model.specs.declared.scope.Scope.{Scope}
use Rattle.language_model.specs.BodyFits as G
use Rattle.language_model.specs.BodyFits.{Purpose, OfFunction, OfHandler, with_variable, GoesOver, StatementFits, RowFits, ArmsFit}
use Rattle.language_model.specs.BodyLaws.{BodyFitLaw}
use Rattle.language_model.specs.BodyTyping.{Setting, alone, arms_typing, body_typing, condition_typing, first_value, is_window, level_over, return_typing, row_typing, staying, submit_typing, submitted, variable}
use Rattle.language_model.specs.parts.BodyTyping.{assigned, declaration_typing, for_typing, other_typing, over_typing, part_stated, stated}
use Rattle.language_model.proofs.parts.BodyTyping.{submitted_on, submitted_to, way_out}
use Rattle.language_model.specs.BodyTypingLaws.{row_stated, arms_stated, other_stated}
use Rattle.language_model.proofs.BodyTypingLaws.{kind_stated, block_stated, declare_stated, assign_stated, call_stated, if_stated, while_stated, for_stated, break_stated, continue_stated, return_stated, submit_stated}
use Rattle.language_model.specs.CodeFits as F
use Rattle.language_model.specs.CodeFits.{CodeFits}
use Rattle.language_model.specs.FitLaws.{DollarsFit}
use Rattle.language_laws.specs.PlaceLaws.{FitsAnywhere}
use Rattle.language_model.specs.Readings.{named_marker}
use Rattle.language_model.specs.Scopes.{At, first_from}
use Rattle.language_model.specs.StatementTyping.{assignment_typing, compound_typing, call_typing}
use Rattle.language_model.specs.TypeNames.{type_meant}
use Rattle.language_model.specs.Typing.{Found, after, mismatch, typing}
use Rattle.language_laws.proofs.Fitting.{Fits, FitsAt, good, good_any, good_at}
use Rattle.language_model.proofs.SameTypes.{equal_from_same}
use Rattle.language_laws.proofs.StatementTypes.{assignment_type_law, compound_type_law, call_type_law}
use Rattle.language_laws.proofs.StmtInduction.{OfBranch, OfOther, StmtSteps, stmt_ind}
use Rattle.language_model.proofs.Wanting.{gives_if, gives_some, part_of, rolled, Some_thing}
use Rattle.language_model.proofs.FoundAnswers.{Gives, gives_after, gives_from}

-- ---- what expressions give

any_fits : (scope : Scope) → DollarsFit scope.dollars → (e : Expr) → Gives (Fits scope) (typing scope e None)
any_fits scope fine e = good_any scope (part_of e) (good scope fine e) None

wanted_fits : (scope : Scope) → DollarsFit scope.dollars → (e : Expr) (t : SplType) → Gives (FitsAt scope t) (typing scope e (Some t))
wanted_fits scope fine e t = good_at scope (part_of e) (good scope fine e) t

-- a code of the type
abbrev CodeAt : Scope → SplType → Code Slot → Type 0
CodeAt scope t code = CodeFits scope code t

condition_fits : (scope : Scope) → DollarsFit scope.dollars → (e : Expr) → Gives (CodeAt scope S.Bool) (condition_typing scope e)
condition_fits scope fine e = gives_after (FitsAt scope S.Bool) (CodeAt scope S.Bool) (typing scope e (Some S.Bool)) _ (wanted_fits scope fine e S.Bool) (λ x h. h)

first_fits : (scope : Scope) → DollarsFit scope.dollars → (t : SplType) (value : Option Expr) → Gives (CodeAt scope t) (first_value scope t value)
first_fits scope fine t None = F.literal (default_value t) t (default_fits t)
first_fits scope fine t (Some e) = gives_after (FitsAt scope t) (CodeAt scope t) (typing scope e (Some t)) _ (wanted_fits scope fine e t) (λ x h. h)

-- what `for` goes over has elements or keys of the type
abbrev Over : Scope → SplType → Code Slot → Type 0
Over scope t code = (u : SplType) × CodeFits scope code u × GoesOver u t

goes_over : (t u : SplType) (x : SplType-F SplType) → out-SplType u ≡ x → level_over t x ≡ true → GoesOver u t
goes_over t u (O.List element) is holds =
    subst (λ v. GoesOver v t) (sym (rolled u (O.List element) (S.List element) is (S.rolls-List element)))
    (subst (λ w. GoesOver (S.List element) w) (equal_from_same element t holds) (G.elements element))
goes_over t u (O.Map key value) is holds =
    subst (λ v. GoesOver v t) (sym (rolled u (O.Map key value) (S.Map key value) is (S.rolls-Map key value)))
    (subst (λ w. GoesOver (S.Map key value) w) (equal_from_same key t holds) (G.keys key value))
goes_over t u _ is holds = absurd cc

over_fits : (scope : Scope) → DollarsFit scope.dollars → (t : SplType) (e : Expr) → Gives (Over scope t) (over_typing scope t e)
over_fits scope fine t e =
    gives_after (Fits scope) (Over scope t) (typing scope e None) _ (any_fits scope fine e) (λ x h.
    gives_if (Over scope t) (level_over t (out-SplType x.kind)) (Ok x.code) (mismatch e.at) (λ holds. (x.kind, h, goes_over t x.kind (out-SplType x.kind) refl holds)) tt)

-- ---- rows of statements that fit

-- a statement fits and leads to a scope with the same `$` parameters
abbrev FitsInto : Setting → Bool → Scope → Statement × Scope → Type 0
FitsInto setting inside scope x = StatementFits setting.purpose inside scope x.0 x.1 × (x.1.dollars ≡ scope.dollars)

abbrev Sound : StmtKind → Type 0
Sound k =
    (at : ℕ) (setting : Setting) (inside : Bool) (scope : Scope) → DollarsFit scope.dollars
    → Gives (FitsInto setting inside scope) (kind_stated k at setting inside scope)

-- it stays in its scope
abbrev Stays : Setting → Bool → Scope → Statement → Type 0
Stays setting inside scope x = StatementFits setting.purpose inside scope x scope

stays : (setting : Setting) (inside : Bool) (scope : Scope) (found : Found Statement) → Gives (Stays setting inside scope) found
    → Gives (FitsInto setting inside scope) (staying scope found)
stays setting inside scope found h = gives_after (Stays setting inside scope) (FitsInto setting inside scope) found _ h (λ x fit. (fit, refl))

module _ (setting : Setting) where
  row_fits : (ss : List Stmt) → AllByRecursion (λ s. Sound s.what) ss → (inside : Bool) (scope : Scope) → DollarsFit scope.dollars
      → Gives (RowFits setting.purpose inside scope) (row_typing setting inside scope (row_stated ss))
  row_fits [] h inside scope fine = G.no_statements inside scope
  row_fits (s ∷ ss) h inside scope fine =
      gives_after (FitsInto setting inside scope) (RowFits setting.purpose inside scope) (part_stated (stated s) setting inside scope) _
      (h.0 s.at setting inside scope fine) (λ x fit.
      gives_after (RowFits setting.purpose inside x.1) (RowFits setting.purpose inside scope) (row_typing setting inside x.1 (row_stated ss)) _
      (row_fits ss h.1 inside x.1 (subst DollarsFit (sym fit.1) fine)) (λ row rest.
      G.statement inside scope x.1 x.0 row fit.0 rest))

  alone_fits : (s : Stmt) → Sound s.what → (inside : Bool) (scope : Scope) → DollarsFit scope.dollars
      → Gives (RowFits setting.purpose inside scope) (alone setting inside scope (stated s))
  alone_fits s h inside scope fine = row_fits (s ∷ []) (h, tt) inside scope fine

  arms_fit : (arms : List (Expr × Stmt)) → AllByRecursion (OfBranch Sound) arms → (inside : Bool) (scope : Scope) → DollarsFit scope.dollars
      → Gives (ArmsFit setting.purpose inside scope) (arms_typing setting inside scope (arms_stated arms))
  arms_fit [] h inside scope fine = G.no_arms inside scope
  arms_fit (a ∷ arms) h inside scope fine =
      gives_after (CodeAt scope S.Bool) (ArmsFit setting.purpose inside scope) (condition_typing scope a.0) _ (condition_fits scope fine a.0) (λ code test.
      gives_after (RowFits setting.purpose inside scope) (ArmsFit setting.purpose inside scope) (alone setting inside scope (stated a.1)) _ (alone_fits a.1 h.0 inside scope fine) (λ row fit.
      gives_after (ArmsFit setting.purpose inside scope) (ArmsFit setting.purpose inside scope) (arms_typing setting inside scope (arms_stated arms)) _ (arms_fit arms h.1 inside scope fine) (λ xs rest.
      G.arm inside scope code row xs test fit rest)))

  other_fits : (other : Option Stmt) → OfOther Sound other → (inside : Bool) (scope : Scope) → DollarsFit scope.dollars
      → Gives (RowFits setting.purpose inside scope) (other_typing setting inside scope (other_stated other))
  other_fits None h inside scope fine = G.no_statements inside scope
  other_fits (Some s) h inside scope fine = alone_fits s h inside scope fine

  -- ---- each form of statement

  block_fits : (ss : List Stmt) → AllByRecursion (λ s. Sound s.what) ss → (inside : Bool) (scope : Scope) → DollarsFit scope.dollars
      → Gives (Stays setting inside scope) (after (row_typing setting inside scope (row_stated ss)) (λ row. Ok (T.Block row)))
  block_fits ss h inside scope fine =
      gives_after (RowFits setting.purpose inside scope) (Stays setting inside scope) (row_typing setting inside scope (row_stated ss)) _
      (row_fits ss h inside scope fine) (λ row fit. G.block inside scope row fit)

  declare_fits : (d : Declaration) (inside : Bool) (scope : Scope) → DollarsFit scope.dollars
      → Gives (FitsInto setting inside scope) (declaration_typing setting scope d)
  declare_fits d inside scope fine =
      gives_after Some_thing (FitsInto setting inside scope) (type_meant setting.types d.kind) _ (gives_some (type_meant setting.types d.kind)) (λ t any.
      gives_after (CodeAt scope t) (FitsInto setting inside scope) (first_value scope t d.value) _ (first_fits scope fine t d.value) (λ code fit.
      (G.declare inside scope code (variable d.mutable d.name.what t) fit, refl)))

  anywhere : (inside : Bool) (scope : Scope) (found : Found Statement) → ((x : Statement) → found ≡ Ok x → FitsAnywhere scope x) → Gives (Stays setting inside scope) found
  anywhere inside scope (Ok x) h = h x refl setting.purpose inside
  anywhere inside scope (Err refusal) h = tt

  assigned_fits : (place : Expr) (op : Option BinaryOperator) (e : Expr) (inside : Bool) (scope : Scope) → DollarsFit scope.dollars
      → Gives (Stays setting inside scope) (assigned scope place op e)
  assigned_fits place None e inside scope fine = anywhere inside scope (assignment_typing scope place e) (λ x found. assignment_type_law scope place e x fine found)
  assigned_fits place (Some op) e inside scope fine = anywhere inside scope (compound_typing scope op place e) (λ x found. compound_type_law scope op place e x fine found)

  if_fits : (arms : List (Expr × Stmt)) (other : Option Stmt) → AllByRecursion (OfBranch Sound) arms → OfOther Sound other → (inside : Bool) (scope : Scope)
      → DollarsFit scope.dollars
      → Gives (Stays setting inside scope) (after (arms_typing setting inside scope (arms_stated arms)) (λ xs. after (other_typing setting inside scope (other_stated other)) (λ row. Ok (T.If xs row))))
  if_fits arms other h g inside scope fine =
      gives_after (ArmsFit setting.purpose inside scope) (Stays setting inside scope) (arms_typing setting inside scope (arms_stated arms)) _ (arms_fit arms h inside scope fine) (λ xs fit.
      gives_after (RowFits setting.purpose inside scope) (Stays setting inside scope) (other_typing setting inside scope (other_stated other)) _ (other_fits other g inside scope fine) (λ row rest.
      G.if_else inside scope xs row fit rest))

  while_fits : (c : Expr) (s : Stmt) → Sound s.what → (inside : Bool) (scope : Scope) → DollarsFit scope.dollars
      → Gives (Stays setting inside scope) (after (condition_typing scope c) (λ code. after (alone setting true scope (stated s)) (λ row. Ok (T.While code row))))
  while_fits c s h inside scope fine =
      gives_after (CodeAt scope S.Bool) (Stays setting inside scope) (condition_typing scope c) _ (condition_fits scope fine c) (λ code test.
      gives_after (RowFits setting.purpose true scope) (Stays setting inside scope) (alone setting true scope (stated s)) _ (alone_fits s h true scope fine) (λ row fit.
      G.while inside scope code row test fit))

  for_fits : (a : Attribute TypeExpr) (e : Expr) (s : Stmt) → Sound s.what → (inside : Bool) (scope : Scope) → DollarsFit scope.dollars
      → Gives (Stays setting inside scope) (for_typing setting scope a e (stated s))
  for_fits a e s h inside scope fine =
      gives_after Some_thing (Stays setting inside scope) (type_meant setting.types a.kind) _ (gives_some (type_meant setting.types a.kind)) (λ t any.
      gives_after (Over scope t) (Stays setting inside scope) (over_typing scope t e) _ (over_fits scope fine t e) (λ code over.
      let v = variable false a.name.what t in
      gives_after (RowFits setting.purpose true (with_variable scope v)) (Stays setting inside scope) (alone setting true (with_variable scope v) (stated s)) _
      (alone_fits s h true (with_variable scope v) fine) (λ row fit.
      G.for_each inside scope code row over.0 v over.1 over.2 refl fit)))

break_fits : (at : ℕ) (setting : Setting) (inside : Bool) (scope : Scope) → Gives (Stays setting inside scope) (way_out at inside T.Break)
break_fits at setting true scope = G.break scope
break_fits at setting false scope = tt

continue_fits : (at : ℕ) (setting : Setting) (inside : Bool) (scope : Scope) → Gives (Stays setting inside scope) (way_out at inside T.Continue)
continue_fits at setting true scope = G.continue scope
continue_fits at setting false scope = tt

return_fits : (at : ℕ) (purpose : Purpose) (inside : Bool) (scope : Scope) → DollarsFit scope.dollars → (e : Option Expr)
    → Gives (λ x. StatementFits purpose inside scope x scope) (return_typing at purpose scope e)
return_fits at (OfFunction (Some t)) inside scope fine (Some e) =
    gives_after (FitsAt scope t) (λ x. StatementFits (OfFunction (Some t)) inside scope x scope) (typing scope e (Some t)) _ (wanted_fits scope fine e t) (λ x h.
    G.return inside scope (Some x.code) (G.result x.code t h))
return_fits at (OfFunction (Some t)) inside scope fine None = tt
return_fits at (OfFunction None) inside scope fine (Some e) = tt
return_fits at (OfFunction None) inside scope fine None = G.return inside scope None G.nothing
return_fits at (OfHandler outputs) inside scope fine (Some e) = tt
return_fits at (OfHandler outputs) inside scope fine None = G.return inside scope None G.nothing

module _ (outputs : List (List (Named SplType))) (inside : Bool) (scope : Scope) (fine : DollarsFit scope.dollars) (e : Expr) where
  abbrev InHandler : Statement → Type 0
  InHandler x = StatementFits (OfHandler outputs) inside scope x scope

  submitted_fits : (port : ℕ) (schema : List (Named SplType)) → slice_get outputs port ≡ Some schema → Gives InHandler (submitted scope port schema e)
  submitted_fits port schema there =
      gives_if InHandler (is_window (named_marker e.what)) _ _ (λ holds. G.submit_window inside scope port schema there)
      (gives_after (FitsAt scope (S.Tuple schema)) InHandler (typing scope e (Some (S.Tuple schema))) _ (wanted_fits scope fine e (S.Tuple schema)) (λ x h.
      G.submit inside scope port x.code schema there h))

  on_fits : (port : ℕ) (stream : Placed (List ℕ)) (o : Option (List (Named SplType))) → slice_get outputs port ≡ o → Gives InHandler (submitted_on scope e port o stream)
  on_fits port stream None there = tt
  on_fits port stream (Some schema) there = submitted_fits port schema there

  to_fits : (stream : Placed (List ℕ)) (o : Option (At (List ℕ))) → Gives InHandler (submitted_to outputs scope e o stream)
  to_fits stream None = tt
  to_fits stream (Some port) = on_fits port.place stream (slice_get outputs port.place) refl

submit_fits : (at : ℕ) (setting : Setting) (purpose : Purpose) (inside : Bool) (scope : Scope) → DollarsFit scope.dollars → (e : Expr) (stream : Placed (List ℕ))
    → Gives (λ x. StatementFits purpose inside scope x scope) (submit_typing at setting purpose scope e stream)
submit_fits at setting (OfFunction result) inside scope fine e stream = tt
submit_fits at setting (OfHandler outputs) inside scope fine e stream =
    to_fits outputs inside scope fine e stream (first_from (λ name. bytes_eq name stream.what) 0 setting.outputs)

-- ---- statements

sound_by : (setting : Setting) (inside : Bool) (scope : Scope) (found level : Found (Statement × Scope)) → found ≡ level → Gives (FitsInto setting inside scope) level
    → Gives (FitsInto setting inside scope) found
sound_by setting inside scope found level is h = subst (Gives (FitsInto setting inside scope)) (sym is) h

sound_steps : StmtSteps Sound
sound_steps = record {
  block = λ ss h at setting inside scope fine. sound_by setting inside scope _ _ (block_stated ss at setting inside scope) (stays setting inside scope _ (block_fits setting ss h inside scope fine));
  declare = λ d at setting inside scope fine. sound_by setting inside scope _ _ (declare_stated d at setting inside scope) (declare_fits setting d inside scope fine);
  assign = λ place op e at setting inside scope fine. sound_by setting inside scope _ _ (assign_stated place op e at setting inside scope) (stays setting inside scope _ (assigned_fits setting place op e inside scope fine));
  call = λ e at setting inside scope fine. sound_by setting inside scope _ _ (call_stated e at setting inside scope) (stays setting inside scope _ (anywhere setting inside scope (call_typing scope e) (λ x found. call_type_law scope e x fine found)));
  if_true = λ arms other h g at setting inside scope fine. sound_by setting inside scope _ _ (if_stated arms other at setting inside scope) (stays setting inside scope _ (if_fits setting arms other h g inside scope fine));
  while = λ c s h at setting inside scope fine. sound_by setting inside scope _ _ (while_stated c s at setting inside scope) (stays setting inside scope _ (while_fits setting c s h inside scope fine));
  for_each = λ a e s h at setting inside scope fine. sound_by setting inside scope _ _ (for_stated a e s at setting inside scope) (stays setting inside scope _ (for_fits setting a e s h inside scope fine));
  break = λ at setting inside scope fine. sound_by setting inside scope _ _ (break_stated at setting inside scope) (stays setting inside scope _ (break_fits at setting inside scope));
  continue = λ at setting inside scope fine. sound_by setting inside scope _ _ (continue_stated at setting inside scope) (stays setting inside scope _ (continue_fits at setting inside scope));
  return = λ e at setting inside scope fine. sound_by setting inside scope _ _ (return_stated e at setting inside scope) (stays setting inside scope _ (return_fits at setting.purpose inside scope fine e));
  submit = λ e stream at setting inside scope fine. sound_by setting inside scope _ _ (submit_stated e stream at setting inside scope) (stays setting inside scope _ (submit_fits at setting setting.purpose inside scope fine e stream));
}

sound : (k : StmtKind) → Sound k
sound = stmt_ind Sound sound_steps

all_sound : (ss : List Stmt) → AllByRecursion (λ s. Sound s.what) ss
all_sound [] = tt
all_sound (s ∷ ss) = (sound s.what, all_sound ss)

pub body_fit_law : BodyFitLaw
body_fit_law setting scope ss row fine found = gives_from (RowFits setting.purpose false scope) (body_typing setting scope ss) row (row_fits setting ss (all_sound ss) false scope fine) found
