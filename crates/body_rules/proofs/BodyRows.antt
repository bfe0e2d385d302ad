-- How far the loops over statements and branches have come.
use Rattle.std.specs.Prelude.{◌≡◌, ℕ, ◌+◌, ◌<◌, ◌≤◌, List, [], ◌∷◌, ◌++◌, length, drop, Bool, Ok, Err}
use Rattle.std.proofs.Common.{refl, ap, sym, ◌∙◌, append_assoc, append-nil, get_or}
use Rattle.std.proofs.lemmas.List.{drop_all}
use Rattle.spl_tree.specs.declared.body.Statement.{Statement}
use Rattle.spl_tree.specs.declared.code.Code.{Code}
use Rattle.spl_tree.specs.declared.code.Slot.{Slot}
use Rattle.spl_tree.specs.Trees.{Expr, Stmt}
use Rattle.language_model.specs.declared.scope.Scope.{Scope}
use Rattle.language_model.specs.BodyTyping.{Setting, alone, arms_typing, condition_typing, row_typing}
use Rattle.language_model.specs.parts.BodyTyping.{part_stated, stated}
use Rattle.language_model.specs.BodyTypingLaws.{arms_stated, row_stated}
use Rattle.language_model.specs.Typing.{Found, after}
use Rattle.language_model.specs.declared.answer.TypeAnswer.{TypeAnswer}
use Rattle.language_model.specs.declared.answer.TypeAnswer.TheVariants.{Refused, Memory}
use Rattle.language_model.specs.Finds.{Finds, with_front}
use Rattle.body_rules.specs.steps.Leads.{Leads}
use Rattle.type_rules.proofs.FoundRows.{IsRow}
use Rattle.language_model.proofs.FoundAnswers.{after_after}
use Rattle.spl_value.proofs.Lists.{drop_at}

-- ---- branches

module _ (setting : Setting) (inside : Bool) (scope : Scope) where
  -- a branch with its condition
  abbrev pub branch : Expr × Stmt → Found (Code Slot × List Statement)
  branch a = after (condition_typing scope a.0) (λ code. after (alone setting inside scope (stated a.1)) (λ row. Ok (code, row)))

  abbrev pub branch_row : List (Expr × Stmt) → Found (List (Code Slot × List Statement))
  branch_row arms = arms_typing setting inside scope (arms_stated arms)

  pub branches_row : IsRow branch branch_row
  branches_row = record { none = refl; more = λ a arms. sym (unrolled a arms) }
    where
      unrolled : (a : Expr × Stmt) (arms : List (Expr × Stmt)) → after (branch a) (λ y. after (branch_row arms) (λ ys. Ok (y ∷ ys))) ≡ branch_row (a ∷ arms)
      unrolled a arms =
          after_after (condition_typing scope a.0) (λ code. after (alone setting inside scope (stated a.1)) (λ row. Ok (code, row))) (λ y. after (branch_row arms) (λ ys. Ok (y ∷ ys)))
          ∙ (λ i. after (condition_typing scope a.0) (λ code. after_after (alone setting inside scope (stated a.1)) (λ row. Ok (code, row)) (λ y. after (branch_row arms) (λ ys. Ok (y ∷ ys))) i))

-- ---- statements, each in the scope after those before it

module _ (setting : Setting) (inside : Bool) (ss : List Stmt) (i : ℕ) (front : List Statement) (scope : Scope) where
  abbrev pub statements_from : ℕ → List Statement → Scope → Found (List Statement)
  statements_from i front scope = with_front front (row_typing setting inside scope (row_stated (drop i ss)))

  pub statements_past : length ss ≤ i → statements_from i front scope ≡ Ok front
  statements_past h = ap (λ r. with_front front (row_typing setting inside scope (row_stated r))) (drop_all i ss h) ∙ ap Ok (append-nil front)

  module _ (s : Stmt) (h : i < length ss) (e : s ≡ get_or ss i s) where
    abbrev behind : Statement × Scope → Found (List Statement)
    behind x = after (row_typing setting inside x.1 (row_stated (drop (i + 1) ss))) (λ row. Ok (x.0 ∷ row))

    statements_are : row_typing setting inside scope (row_stated (drop i ss)) ≡ after (part_stated (stated s) setting inside scope) behind
    statements_are = ap (λ r. row_typing setting inside scope (row_stated r)) (drop_at ss i s h e)

    pub statements_on : (x : Statement) (next : Scope) (zs : List Statement) → part_stated (stated s) setting inside scope ≡ Ok (x, next) → zs ≡ front ++ x ∷ []
        → statements_from i front scope ≡ statements_from (i + 1) zs next
    statements_on x next zs found z =
        ap (with_front front) (statements_are ∙ ap (λ o. after o behind) found)
        ∙ after_after (row_typing setting inside next (row_stated (drop (i + 1) ss))) (λ ys. Ok (x ∷ ys)) (λ ys. Ok (front ++ ys))
        ∙ (λ j. after (row_typing setting inside next (row_stated (drop (i + 1) ss))) (λ ys. Ok (sym (append_assoc front (x ∷ []) ys) j)))
        ∙ ap (λ l. statements_from (i + 1) l next) (sym z)

    pub statements_stop : (a : TypeAnswer) (next : Scope) → Leads (part_stated (stated s) setting inside scope) (Err a) next → Finds (statements_from i front scope) (Err a)
    statements_stop (Refused r) next found = ap (with_front front) (statements_are ∙ ap (λ o. after o behind) found)
    statements_stop Memory next found = tt
