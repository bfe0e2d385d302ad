-- What is answered on a statement, by what is answered on its form.
use Rattle.std.specs.Prelude.{◌≡◌, ℕ, Bool, true, false, [], ◌∷◌, Result, Ok, Err, IsErrAnd}
use Rattle.std.proofs.Common.{refl, ap, sym, subst, ◌∙◌}
use Rattle.spl_tree.specs.declared.body.Statement.{Statement}
use Rattle.spl_tree.specs.declared.statement.StmtKind.{StmtKind}
use Rattle.spl_tree.specs.Trees.{Stmt}
use Rattle.language_model.specs.declared.scope.Scope.{Scope}
use Rattle.language_model.specs.BodyTyping.{Setting, alone, staying}
use Rattle.language_model.specs.parts.BodyTyping.{part_stated, stated}
use Rattle.language_model.proofs.parts.BodyTyping.{way_out}
use Rattle.language_model.proofs.BodyTypingLaws.{kind_stated}
use Rattle.language_model.specs.Typing.{Found, after}
use Rattle.language_model.specs.declared.answer.TypeAnswer.{TypeAnswer}
use Rattle.language_model.specs.declared.answer.TypeAnswer.TheVariants.{Refused, Memory}
use Rattle.language_model.specs.Finds.{Finds}
use Rattle.body_rules.specs.steps.Leads.{Leads, inside_loop}
use Rattle.language_model.proofs.FoundAnswers.{exit}

pub leads_by : (o p : Found (Statement × Scope)) (r : Result Statement TypeAnswer) (scope : Scope) → o ≡ p → Leads p r scope → Leads o r scope
leads_by o p r scope e h = subst (λ o. Leads o r scope) (sym e) h

stays : (scope next : Scope) (found : Found Statement) (r : Result Statement TypeAnswer) → Finds found r → next ≡ scope → Leads (staying scope found) r next
stays scope next found (Ok x) h same = ap (staying scope) h ∙ ap (λ s. Ok (x, s)) (sym same)
stays scope next found (Err (Refused q)) h same = ap (staying scope) h
stays scope next found (Err Memory) h same = tt

-- a statement of a form that stays in its scope
module _ (s : Stmt) (k : StmtKind) (setting : Setting) (inside : Bool) (scope next : Scope) (found : Found Statement) (is : s.what ≡ k)
    (law : kind_stated k s.at setting inside scope ≡ staying scope found) where
  stands : part_stated (stated s) setting inside scope ≡ staying scope found
  stands = ap (λ k. kind_stated k s.at setting inside scope) is ∙ law

  pub leads_on : (r : Result Statement TypeAnswer) → Finds found r → next ≡ scope → Leads (part_stated (stated s) setting inside scope) r next
  leads_on r h same = leads_by _ _ r next stands (stays scope next found r h same)

pub way_is : (at : ℕ) (inside : Bool) (x : Statement) → way_out at inside x ≡ after (inside_loop at inside) (λ u. Ok x)
way_is at true x = refl
way_is at false x = refl

pub alone_stops : (s : Stmt) (setting : Setting) (inside : Bool) (scope next : Scope) (e : TypeAnswer) → Leads (part_stated (stated s) setting inside scope) (Err e) next
    → Finds (alone setting inside scope (stated s)) (Err e)
alone_stops s setting inside scope next (Refused r) h = ap (λ o. after o (λ x. Ok (x.0 ∷ []))) h
alone_stops s setting inside scope next Memory h = tt

refused_leads : (o : Found (Statement × Scope)) (e : TypeAnswer) (next : Scope) → Finds o (Err e) → Leads o (Err e) next
refused_leads o (Refused r) next h = h
refused_leads o Memory next h = tt

pub leads_fails : (o : Found (Statement × Scope)) (r : Result Statement TypeAnswer) (e : TypeAnswer) (next : Scope) → IsErrAnd r (λ y. y ≡ e) → Finds o (Err e) → Leads o r next
leads_fails o r e next h q = exit (λ r. Leads o r next) r e h (refused_leads o e next q)
