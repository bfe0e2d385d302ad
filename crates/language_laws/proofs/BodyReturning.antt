-- Bodies whose text ends with a result have code that does.
use Rattle.std.specs.Prelude.{◌≡◌, ℕ, Bool, true, false, List, [], ◌∷◌, Option, Some, None, Ok}
use Rattle.std.specs.List.{AllByRecursion}
use Rattle.std.specs.Cmp.{first_so, second_so}
use Rattle.std.proofs.Common.{sym, subst, ◌∙◌}
use Rattle.spl_tree.specs.declared.body.Statement.{Statement}
use Rattle.spl_tree.specs.declared.body.Statement.TheVariants as T
use Rattle.spl_tree.specs.declared.statement.StmtKind.{StmtKind}
use Rattle.spl_tree.specs.Trees.{Expr, Stmt}
use Rattle.language_model.specs.declared.scope.Scope.{Scope}
use Rattle.language_model.specs.BodyFits as G
use Rattle.language_model.specs.BodyFits.{Purpose, OfFunction, OfHandler, RowReturns, Returns, ArmsReturn}
use Rattle.language_model.specs.BodyLaws.{BodyReturnsLaw}
use Rattle.language_model.specs.BodyTyping.{Setting, alone, arms_typing, body_typing, condition_typing, return_typing, returns, row_typing, staying}
use Rattle.language_model.specs.parts.BodyTyping.{other_typing, part_stated, stated}
use Rattle.language_model.specs.BodyTypingLaws.{row_stated, arms_stated, other_stated, kind_returns, all_return}
use Rattle.language_model.proofs.BodyTypingLaws.{kind_stated, block_stated, if_stated, return_stated, arms_return, block_returns, if_returns, declare_returns, assign_returns, call_returns, while_returns, for_returns, break_returns, continue_returns, submit_returns}
use Rattle.language_model.specs.Typing.{Found, after, typing}
use Rattle.language_laws.proofs.StmtInduction.{OfBranch, OfOther, StmtSteps, stmt_ind}
use Rattle.language_model.proofs.Wanting.{gives_some, Some_thing}
use Rattle.language_model.proofs.FoundAnswers.{Gives, gives_after, gives_from}

-- the code of a statement whose text does returns
abbrev Ends : StmtKind → Type 0
Ends k = kind_returns k ≡ true → (at : ℕ) (setting : Setting) (inside : Bool) (scope : Scope) → Gives (λ x. Returns x.0) (kind_stated k at setting inside scope)

-- no other statement's text does
never : (k : StmtKind) → kind_returns k ≡ false → Ends k
never k is ends = absurd (let no_end = sym is ∙ ends in cc)

behind : (x : Statement) (row : List Statement) → RowReturns row → RowReturns (x ∷ row)
behind x [] h = elim h [ ]
behind x (y ∷ row) h = G.later x y row h

stays : (scope : Scope) (found : Found Statement) → Gives Returns found → Gives (λ (x : Statement × Scope). Returns x.0) (staying scope found)
stays scope found h = gives_after Returns (λ x. Returns x.0) found _ h (λ x r. r)

module _ (setting : Setting) where
  row_ends : (ss : List Stmt) → AllByRecursion (λ s. Ends s.what) ss → returns ss ≡ true → (inside : Bool) (scope : Scope)
      → Gives RowReturns (row_typing setting inside scope (row_stated ss))
  row_ends [] h ends inside scope = absurd cc
  row_ends (s ∷ []) h ends inside scope =
      gives_after (λ x. Returns x.0) RowReturns (part_stated (stated s) setting inside scope) _ (h.0 ends s.at setting inside scope) (λ x r. G.last x.0 r)
  row_ends (s ∷ t ∷ ss) h ends inside scope =
      gives_after Some_thing RowReturns (part_stated (stated s) setting inside scope) _ (gives_some (part_stated (stated s) setting inside scope)) (λ x any.
      gives_after RowReturns RowReturns (row_typing setting inside x.1 (row_stated (t ∷ ss))) _ (row_ends (t ∷ ss) h.1 ends inside x.1) (λ row r.
      behind x.0 row r))

  alone_ends : (s : Stmt) → Ends s.what → kind_returns s.what ≡ true → (inside : Bool) (scope : Scope) → Gives RowReturns (alone setting inside scope (stated s))
  alone_ends s h ends inside scope = row_ends (s ∷ []) (h, tt) ends inside scope

  arms_end : (arms : List (Expr × Stmt)) → AllByRecursion (OfBranch Ends) arms → all_return arms ≡ true → (inside : Bool) (scope : Scope)
      → Gives ArmsReturn (arms_typing setting inside scope (arms_stated arms))
  arms_end [] h ends inside scope = G.no_arms
  arms_end (a ∷ arms) h ends inside scope =
      gives_after Some_thing ArmsReturn (condition_typing scope a.0) _ (gives_some (condition_typing scope a.0)) (λ code any.
      gives_after RowReturns ArmsReturn (alone setting inside scope (stated a.1)) _
      (alone_ends a.1 h.0 (first_so (kind_returns a.1.what) (all_return arms) ends) inside scope) (λ row r.
      gives_after ArmsReturn ArmsReturn (arms_typing setting inside scope (arms_stated arms)) _
      (arms_end arms h.1 (second_so (kind_returns a.1.what) (all_return arms) ends) inside scope) (λ xs rest.
      G.arm code row xs r rest)))

  if_ends : (arms : List (Expr × Stmt)) (other : Option Stmt) → AllByRecursion (OfBranch Ends) arms → OfOther Ends other → arms_return arms other ≡ true
      → (inside : Bool) (scope : Scope)
      → Gives Returns (after (arms_typing setting inside scope (arms_stated arms)) (λ xs. after (other_typing setting inside scope (other_stated other)) (λ row. Ok (T.If xs row))))
  if_ends arms None h g ends inside scope = absurd cc
  if_ends arms (Some s) h g ends inside scope =
      gives_after ArmsReturn Returns (arms_typing setting inside scope (arms_stated arms)) _
      (arms_end arms h (first_so (all_return arms) (kind_returns s.what) ends) inside scope) (λ xs r.
      gives_after RowReturns Returns (alone setting inside scope (stated s)) _
      (alone_ends s g (second_so (all_return arms) (kind_returns s.what) ends) inside scope) (λ row rest.
      G.if_else xs row r rest))

return_ends : (at : ℕ) (purpose : Purpose) (scope : Scope) (e : Option Expr) → Gives Returns (return_typing at purpose scope e)
return_ends at (OfFunction (Some t)) scope (Some e) =
    gives_after Some_thing Returns (typing scope e (Some t)) _ (gives_some (typing scope e (Some t))) (λ x any. G.return (Some x.code))
return_ends at (OfFunction (Some t)) scope None = tt
return_ends at (OfFunction None) scope (Some e) = tt
return_ends at (OfFunction None) scope None = G.return None
return_ends at (OfHandler outputs) scope (Some e) = tt
return_ends at (OfHandler outputs) scope None = G.return None

ends_by : (found level : Found (Statement × Scope)) → found ≡ level → Gives (λ x. Returns x.0) level → Gives (λ x. Returns x.0) found
ends_by found level is h = subst (Gives (λ x. Returns x.0)) (sym is) h

ending_steps : StmtSteps Ends
ending_steps = record {
  block = λ ss h ends at setting inside scope. ends_by _ _ (block_stated ss at setting inside scope) (stays scope _
      (gives_after RowReturns Returns (row_typing setting inside scope (row_stated ss)) _ (row_ends setting ss h (sym (block_returns ss) ∙ ends) inside scope) (λ row r. G.block row r)));
  declare = λ d. never _ (declare_returns d);
  assign = λ place op e. never _ (assign_returns place op e);
  call = λ e. never _ (call_returns e);
  if_true = λ arms other h g ends at setting inside scope. ends_by _ _ (if_stated arms other at setting inside scope) (stays scope _
      (if_ends setting arms other h g (sym (if_returns arms other) ∙ ends) inside scope));
  while = λ c s h. never _ (while_returns c s);
  for_each = λ a e s h. never _ (for_returns a e s);
  break = never _ break_returns;
  continue = never _ continue_returns;
  return = λ e ends at setting inside scope. ends_by _ _ (return_stated e at setting inside scope) (stays scope _ (return_ends at setting.purpose scope e));
  submit = λ e stream. never _ (submit_returns e stream);
}

ending : (k : StmtKind) → Ends k
ending = stmt_ind Ends ending_steps

all_ending : (ss : List Stmt) → AllByRecursion (λ s. Ends s.what) ss
all_ending [] = tt
all_ending (s ∷ ss) = (ending s.what, all_ending ss)

pub body_returns_law : BodyReturnsLaw
body_returns_law setting scope ss row found ends = gives_from RowReturns (body_typing setting scope ss) row (row_ends setting ss (all_ending ss) ends false scope) found
