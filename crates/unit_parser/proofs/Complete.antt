-- What is spelled as a unit is read.
use Rattle.std.proofs.Common.{◌≡◌, ℕ, false, List, [], ◌∷◌, ◌++◌, Option, Some, None, refl, subst, append_assoc, append-nil}
use Rattle.spl_tree.specs.declared.keyword.Keyword.TheVariants as K
use Rattle.spl_tree.specs.declared.shape.Attribute.{Attribute}
use Rattle.spl_tree.specs.declared.symbol.Symbol.TheVariants as S
use Rattle.spl_tree.specs.declared.token.Token.{Token}
use Rattle.spl_tree.specs.declared.unit.Composite.{Composite}
use Rattle.spl_tree.specs.declared.unit.Definition.{Definition}
use Rattle.spl_tree.specs.declared.unit.Definition.TheVariants as D
use Rattle.spl_tree.specs.declared.unit.FunctionDefinition.{FunctionDefinition}
use Rattle.spl_tree.specs.Trees.{placed, TypeExpr, Stmt}
use Rattle.spl_tree.specs.spellings.Grammar.{Is, Names}
use Rattle.spl_tree.specs.spellings.Phrases.{Row, Separated, first, next}
use Rattle.spl_tree.specs.spellings.TypeGrammar.{SpellsFunctionParameters}
use Rattle.spl_tree.specs.spellings.StatementGrammar.{SpellsBlock}
use Rattle.spl_tree.specs.spellings.UnitGrammar.{SpellsName, name, SpellsPublic, not_public, public, SpellsComposite, composite, SpellsResultType, void, a_type, SpellsFunction, function, SpellsDefinition, a_typedef, a_function, a_composite, SpellsNamespace, no_namespace, namespace, SpellsUnit, unit}
use Rattle.expr_parser.specs.Rules.{done, look, call, Took, RunsTo, Reads}
use Rattle.expr_parser.proofs.RuleLaws.{line, runs_done, runs_call}
use Rattle.expr_parser.specs.Taken.{begins_with}
use Rattle.expr_parser.specs.Lines.{is}
use Rattle.statement_parser.specs.Lines.{rule, R, Name, is_word, expect, FunctionOf, Definitions, Namespace, Whole}
use Rattle.statement_parser.proofs.CompleteParts.{no_word, takes, skips, expects, expects_word, only, row, row_front}
use Rattle.unit_parser.proofs.CompleteTypes.{type_kinds, type_begins, a_type_reads, parameters_reads}
use Rattle.unit_parser.proofs.CompleteStatements.{block_reads}
use Rattle.unit_parser.proofs.CompleteComposites.{type_definition_reads, composite_reads}

-- Functions

-- a function after the type of its result
function_reads : {xs : List (Attribute TypeExpr)} {ss : List Stmt} {b d : List Token} → SpellsFunctionParameters xs b → SpellsBlock ss d → (k : Option TypeExpr) (t o c : Token)
    (n : List ℕ) (rest : List Token) → Names n t → Is S.LeftParen o → Is S.RightParen c
    → Reads rule (FunctionOf k) (t ∷ o ∷ (b ++ c ∷ (d ++ rest))) (Took (record { result = k; name = placed t.start n; parameters = xs; body = ss }) rest)
unfolding rule
function_reads {d = d} dx ds k t o c n rest named left right = line (takes (rw named refl) (rw named (expects left
    (runs_call (parameters_reads dx c (d ++ rest) right) (runs_call (block_reads ds rest) runs_done)))))

-- Definitions

-- definitions up to the end of the tokens, after others
abbrev Behind : List Definition → List Definition → List Token → Type 0
Behind all xs ts = Reads rule (Definitions xs) ts (Took all [])

-- a composite, and then more definitions
composite_step : (all xs : List Definition) {x : Composite} {a : List Token} (ts : List Token) → SpellsComposite x a
    → Behind all (xs ++ D.Composite x ∷ []) ts → Behind all xs (a ++ ts)
unfolding rule
composite_step all xs ts (composite w t o c n us ins ps types graph gs z a b d e f front word named heads left sp st sx sg right) r = by front
  where
    joins : (a ++ o ∷ (b ++ (d ++ (e ++ (f ++ c ∷ []))))) ++ ts ≡ a ++ o ∷ (b ++ (d ++ (e ++ (f ++ c ∷ ts))))
    joins = simp append_assoc refl

    by : {z : List Token} → SpellsPublic z → Behind all xs ((z ++ w ∷ t ∷ (a ++ o ∷ (b ++ (d ++ (e ++ (f ++ c ∷ [])))))) ++ ts)
    by not_public = rw joins (line (skips (rw word refl) (skips (rw word refl) (takes (rw word refl)
        (runs_call (composite_reads sp st sx sg c ts right heads t o n named left) (only r))))))
    by (public u p) = rw joins (line (skips (rw p refl) (takes (rw p refl) (expects_word word
        (runs_call (composite_reads sp st sx sg c ts right heads t o n named left) (only r))))))

-- a function, and then more definitions
function_step : (all xs : List Definition) {x : FunctionDefinition} {a : List Token} (ts : List Token) → SpellsFunction x a
    → Behind all (xs ++ D.Function x ∷ []) ts → Behind all xs (a ++ ts)
unfolding rule
function_step all xs ts (function k t o c n ps ss a b d dk named left dx right ds) r =
    rw (append_assoc a (t ∷ o ∷ (b ++ c ∷ d)) ts, append_assoc b (c ∷ d) ts) (by dk r)
  where
    behind : List Token
    behind = t ∷ o ∷ (b ++ c ∷ (d ++ ts))

    made : Option TypeExpr → FunctionDefinition
    made k = record { result = k; name = placed t.start n; parameters = ps; body = ss }

    by : {k : Option TypeExpr} {a : List Token} → SpellsResultType k a → Behind all (xs ++ D.Function (made k) ∷ []) ts → Behind all xs (a ++ behind)
    by (void u e) r = line (skips (rw e refl) (skips (rw e refl) (skips (rw e refl) (takes (rw e refl)
        (runs_call (function_reads dx ds None t o c n ts named left right) (only r))))))
    by (a_type k a dt) r =
        let h = type_begins dt behind in
        line (skips (no_word type_kinds K.Type refl (a ++ behind) h) (skips (no_word type_kinds K.Public refl (a ++ behind) h)
        (skips (no_word type_kinds K.Composite refl (a ++ behind) h) (skips (no_word type_kinds K.Void refl (a ++ behind) h)
        (a_type_reads (λ k. call (FunctionOf (Some k)) (λ x. call (Definitions (xs ++ D.Function x ∷ [])) done)) (done xs) dt behind
        (runs_call (function_reads dx ds (Some k) t o c n ts named left right) (only r)))))))

-- definitions up to the end of the tokens
definitions_reads : {xs : List Definition} {a : List Token} → Row SpellsDefinition xs a → Reads rule (Definitions []) (a ++ []) (Took xs [])
unfolding rule
definitions_reads {xs = all} ds = row (Behind all) step ds []
    (line (skips refl (skips refl (skips refl (skips refl (skips refl (skips refl (skips refl (skips refl runs_done)))))))))
  where
    step : (xs : List Definition) (x : Definition) (b ts : List Token) → SpellsDefinition x b → Behind all (xs ++ x ∷ []) ts → Behind all xs (b ++ ts)
    step xs x b ts (a_typedef w y a e d) r = line (takes (rw e refl) (runs_call (type_definition_reads d ts) (only r)))
    step xs x b ts (a_function y a d) r = function_step all xs ts d r
    step xs x b ts (a_composite y a d) r = composite_step all xs ts d r

-- none begins with `namespace`
definition_front : (x : Definition) (b ts : List Token) → SpellsDefinition x b → begins_with (is_word K.Namespace) (b ++ ts) ≡ false
definition_front x b ts (a_typedef w y a e d) = rw e refl
definition_front x b ts (a_function y a' (function k t o c n ps ss a b' d dk named left dx right ds)) =
    rw (append_assoc a (t ∷ o ∷ (b' ++ c ∷ d)) ts) (by dk)
  where
    behind : List Token
    behind = t ∷ o ∷ ((b' ++ c ∷ d) ++ ts)

    by : {k : Option TypeExpr} {a : List Token} → SpellsResultType k a → begins_with (is_word K.Namespace) (a ++ behind) ≡ false
    by (void u e) = rw e refl
    by (a_type k a dt) = no_word type_kinds K.Namespace refl (a ++ behind) (type_begins dt behind)
definition_front x b' ts (a_composite y g (composite w t o c n us ins ps types graph gs z a b d e f front word named heads left sp st sx sg right)) = by front
  where
    by : {z : List Token} → SpellsPublic z → begins_with (is_word K.Namespace) ((z ++ w ∷ t ∷ (a ++ o ∷ (b ++ (d ++ (e ++ (f ++ c ∷ [])))))) ++ ts) ≡ false
    by not_public = rw word refl
    by (public u p) = rw p refl

-- Units

-- what comes after a name of a namespace
abbrev behind_name : R (Unit {0})
behind_name = look (is S.Dot) (λ _. call Namespace done) (expect S.Semicolon (done tt))

-- the names of a namespace, and then what comes after them
namespace_reads : {ns : List Name} {a : List Token} → Separated S.Dot SpellsName ns a → (rest : List Token) {out : List Token} → RunsTo rule behind_name rest (Took tt out)
    → Reads rule Namespace (a ++ rest) (Took tt out)
unfolding rule
namespace_reads (first x a (name t n named)) rest r = line (takes (rw named refl) r)
namespace_reads (next ns x t a b ds dot (name u n named)) rest r = rw (append_assoc a (t ∷ u ∷ []) rest)
    (namespace_reads ds (t ∷ u ∷ rest) (takes (rw dot refl) (runs_call (line (takes (rw named refl) r)) runs_done)))

-- the tokens that spell a unit, and no more, are read as that unit
pub complete : (u : List Definition) (a : List Token) → SpellsUnit u a → Reads rule Whole a (Took u [])
unfolding rule
complete u a' (unit xs a b space ds) = by space
  where
    rows : Reads rule (Definitions []) b (Took xs [])
    rows = subst (λ ts. Reads rule (Definitions []) ts (Took xs [])) (append-nil b) (definitions_reads ds)

    front : begins_with (is_word K.Namespace) b ≡ false
    front = subst (λ ts. begins_with (is_word K.Namespace) ts ≡ false) (append-nil b) (row_front (is_word K.Namespace) definition_front ds [] refl)

    by : {a : List Token} → SpellsNamespace a → Reads rule Whole (a ++ b) (Took xs [])
    by no_namespace = line (skips front (only rows))
    by (namespace w s ns a e names semi) = rw (append_assoc a (s ∷ []) b)
        (line (takes (rw e refl) (runs_call (namespace_reads names (s ∷ b) (skips (rw semi refl) (expects semi runs_done))) (only rows))))
