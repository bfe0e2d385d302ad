-- The first token of each form.
use Rattle.std.specs.Prelude.{◌≡◌, ℕ, Bool, true, List, [], ◌∷◌, ◌++◌, Option, Some, None}
use Rattle.std.proofs.Common.{refl, sym, ap, subst}
use Rattle.spl_tree.specs.declared.keyword.Keyword.TheVariants as K
use Rattle.spl_tree.specs.declared.statement.Declaration.{Declaration}
use Rattle.spl_tree.specs.declared.statement.StmtKind.TheVariants as Z
use Rattle.spl_tree.specs.declared.symbol.Symbol.TheVariants as S
use Rattle.spl_tree.specs.declared.token.Token.{Token}
use Rattle.spl_tree.specs.declared.token.TokenKind.{TokenKind}
use Rattle.spl_tree.specs.declared.token.TokenKind.TheVariants as T
use Rattle.spl_tree.specs.declared.unit.Composite.{Composite}
use Rattle.spl_tree.specs.declared.unit.Definition.{Definition}
use Rattle.spl_tree.specs.declared.unit.Definition.TheVariants as D
use Rattle.spl_tree.specs.declared.unit.FunctionDefinition.{FunctionDefinition}
use Rattle.spl_tree.specs.Trees.{Expr, Stmt, TypeExpr}
use Rattle.spl_tree.specs.spellings.StatementGrammar as G
use Rattle.spl_tree.specs.spellings.StatementGrammar.{SpellsPlace, SpellsCall, SpellsDeclaration, SpellsMutable, SpellsStmt, SpellsArms}
use Rattle.spl_tree.specs.spellings.TypeGrammar as Q
use Rattle.spl_tree.specs.spellings.TypeGrammar.{SpellsType}
use Rattle.spl_tree.specs.spellings.UnitGrammar as U
use Rattle.spl_tree.specs.spellings.UnitGrammar.{SpellsComposite, SpellsDefinition, SpellsFunction, SpellsPublic, SpellsResultType}
use Rattle.grammar_laws.specs.Forms as F
use Rattle.grammar_laws.specs.Forms.{IsTypeForm, TypeFormLaw, BeginsType, IsForm, FormLaw, IsDefinitionForm, DefinitionFormLaw}
use Rattle.grammar_laws.proofs.FromLines.{meant}

-- the tokens begin with one of which this holds
record Begins (P : TokenKind → Type 0) (ts : List Token) : Type 0 where
  pub first : Token
  pub rest : List Token
  pub is : ts ≡ first ∷ rest
  pub holds : P first.kind

begin : (P : TokenKind → Type 0) (t : Token) (rest : List Token) → P t.kind → Begins P (t ∷ rest)
begin P t rest h = record { first = t; rest = rest; is = refl; holds = h }

-- so it is with more tokens after them
longer : (P : TokenKind → Type 0) (a b : List Token) → Begins P a → Begins P (a ++ b)
longer P a b x = record { first = x.first; rest = x.rest ++ b; is = ap (λ ts. ts ++ b) x.is; holds = x.holds }

-- and where more holds of the first
weaker : (P R : TokenKind → Type 0) → ((k : TokenKind) → P k → R k) → (ts : List Token) → Begins P ts → Begins R ts
weaker P R on ts x = record { first = x.first; rest = x.rest; is = x.is; holds = on x.first.kind x.holds }

-- a token of a kind
of_kind : (P : TokenKind → Type 0) (k : TokenKind) (t : Token) (rest : List Token) → t.kind ≡ k → P k → Begins P (t ∷ rest)
of_kind P k t rest is h = begin P t rest (subst P (sym is) h)

first_holds : (P : TokenKind → Type 0) (t : Token) (ts : List Token) → Begins P (t ∷ ts) → P t.kind
first_holds P t ts x = let same : x.first ≡ t = (let h : t ∷ ts ≡ x.first ∷ x.rest = x.is in cc) in subst (λ (u : Token). P u.kind) same x.holds

-- ---- types

type_begins : (k : TypeExpr) (ts : List Token) → SpellsType k ts → Begins (λ f. IsTypeForm f k.what) ts
type_begins k ts (Q.boolean t is) = of_kind _ (T.Keyword K.Boolean) t [] is F.boolean
type_begins k ts (Q.rstring t is) = of_kind _ (T.Keyword K.Rstring) t [] is F.rstring
type_begins k ts (Q.int t i is) = of_kind _ (T.Keyword (K.Int i)) t [] is (F.integer i)
type_begins k ts (Q.left_out t w is) = of_kind _ (T.Keyword (K.LeftOut w)) t [] is (F.left_out w)
type_begins k ts (Q.name t n is) = of_kind _ (T.Word n) t [] is (F.name n)
type_begins k ts (Q.list t o c e a is less d greater) = of_kind _ (T.Keyword K.List) t _ is (F.list e)
type_begins k ts (Q.map t o m c x v a b is less d comma e greater) = of_kind _ (T.Keyword K.Map) t _ is (F.map x v)
type_begins k ts (Q.tuple t o c xs a is less d greater) = of_kind _ (T.Keyword K.Tuple) t _ is (F.tuple xs)

begins_type : (k : TypeExpr) (ts : List Token) → SpellsType k ts → Begins BeginsType ts
begins_type k ts d = weaker (λ f. IsTypeForm f k.what) BeginsType (λ f form. record { kind = k.what; form = form }) ts (type_begins k ts d)

pub type_form_law : TypeFormLaw
type_form_law k t ts d = first_holds (λ f. IsTypeForm f k.what) t ts (type_begins k (t ∷ ts) (meant d))

-- ---- statements

abbrev IsWord : TokenKind → Type 0
IsWord k = (n : List ℕ) × (k ≡ T.Word n)

place_begins : (e : Expr) (ts : List Token) → SpellsPlace e ts → Begins IsWord ts
place_begins e ts (G.variable t n is) = begin IsWord t [] (n, is)
place_begins e ts (G.taken t n s ss a is d) = begin IsWord t a (n, is)

call_begins : (e : Expr) (ts : List Token) → SpellsCall e ts → Begins IsWord ts
call_begins e ts (G.call t o c n es a is left d right) = begin IsWord t _ (n, is)

declaration_begins : (d : Declaration) (ts : List Token) → SpellsDeclaration d ts → Begins (λ f. IsForm f (Z.Declare d)) ts
declaration_begins d ts (G.declaration m k t s n v a b e mutable type name value semi) = by m a mutable
  where
    by : (m : Bool) (a : List Token) → SpellsMutable m a → Begins (λ f. IsForm f (Z.Declare (record { mutable = m; kind = k; name = record { at = t.start; what = n }; value = v }))) (a ++ (b ++ t ∷ (e ++ s ∷ [])))
    by m a G.constant = longer _ b (t ∷ (e ++ s ∷ [])) (weaker BeginsType _ (λ f begins. F.declaration f _ begins) b (begins_type k b type))
    by m a (G.mutable w is) = of_kind _ (T.Keyword K.Mutable) w _ is (F.mutable _)

arms_begin : (closed : Bool) (at : ℕ) (arms : List (Expr × Stmt)) (ts : List Token) → SpellsArms closed at arms ts → Begins (λ f. f ≡ T.Keyword K.If) ts
arms_begin closed at arms ts (G.first_arm last t o c e s a b is left d right stmt) = begin _ t _ is
arms_begin closed at arms ts (G.next_arm last place before l t o c e s a b d arms_before else if left spells right stmt) = longer _ a _ (arms_begin true place before a arms_before)

stmt_begins : (closed : Bool) (s : Stmt) (ts : List Token) → SpellsStmt closed s ts → Begins (λ f. IsForm f s.what) ts
stmt_begins closed s ts (G.block o c ss a left d right) = of_kind _ (T.Symbol S.LeftBrace) o _ left (F.block ss)
stmt_begins closed s ts (G.declare x at a d begins) = declaration_begins x ts d
stmt_begins closed s ts (G.assign p e t m op a b d is spells semi) =
    longer _ a _ (weaker IsWord _ (λ f word. subst (λ k. IsForm k (Z.Assign p op e)) (sym word.1) (F.assignment word.0 p op e)) a (place_begins p a d))
stmt_begins closed s ts (G.call_alone e m a d semi) =
    longer _ a _ (weaker IsWord _ (λ f word. subst (λ k. IsForm k (Z.Call e)) (sym word.1) (F.call word.0 e)) a (call_begins e a d))
stmt_begins closed s ts (G.if_alone last at arms a d) =
    weaker (λ f. f ≡ T.Keyword K.If) _ (λ f is. subst (λ k. IsForm k (Z.If arms None)) (sym is) (F.if arms None)) ts (arms_begin last at arms ts d)
stmt_begins closed s ts (G.if_else c at arms other t a b d else stmt no_if) =
    longer _ a _ (weaker (λ f. f ≡ T.Keyword K.If) _ (λ f is. subst (λ k. IsForm k (Z.If arms (Some other))) (sym is) (F.if arms (Some other))) a (arms_begin true at arms a d))
stmt_begins closed s ts (G.while c1 t o c e body a b is left d right stmt) = of_kind _ (T.Keyword K.While) t _ is (F.while e body)
stmt_begins closed s ts (G.for c1 t o v i c k n e body a b d is left type name in_word spells right stmt) = of_kind _ (T.Keyword K.For) t _ is (F.for _ e body)
stmt_begins closed s ts (G.break t m is semi) = of_kind _ (T.Keyword K.Break) t _ is F.break
stmt_begins closed s ts (G.continue t m is semi) = of_kind _ (T.Keyword K.Continue) t _ is F.continue
stmt_begins closed s ts (G.return t m v a is d semi) = of_kind _ (T.Keyword K.Return) t _ is (F.return v)
stmt_begins closed s ts (G.submit t o m n c e2 e stream a is left d comma name right semi) = of_kind _ (T.Keyword K.Submit) t _ is (F.submit e _)

pub form_law : FormLaw
form_law closed s t ts d = first_holds (λ f. IsForm f s.what) t ts (stmt_begins closed s (t ∷ ts) (meant d))

-- ---- definitions

composite_begins : (x : Composite) (ts : List Token) → SpellsComposite x ts → Begins (λ f. IsDefinitionForm f (D.Composite x)) ts
composite_begins x ts (U.composite w t o c n us is ps xs ys gs z a b d e f public word name ports left params types graph config right) = by z public
  where
    by : (z : List Token) → SpellsPublic z
        → Begins (λ k. IsDefinitionForm k (D.Composite (record { name = record { at = t.start; what = n }; outputs = us; inputs = is; parameters = ps; types = xs; graph = ys; config = gs }))) (z ++ w ∷ t ∷ (a ++ o ∷ (b ++ (d ++ (e ++ (f ++ c ∷ []))))))
    by z U.not_public = of_kind _ (T.Keyword K.Composite) w _ word (F.composite _)
    by z (U.public p is_public) = of_kind _ (T.Keyword K.Public) p _ is_public (F.public _)

function_begins : (x : FunctionDefinition) (ts : List Token) → SpellsFunction x ts → Begins (λ f. IsDefinitionForm f (D.Function x)) ts
function_begins x ts (U.function k t o c n xs ss a b d result name left params right body) = by k a result
  where
    by : (k : Option TypeExpr) (a : List Token) → SpellsResultType k a
        → Begins (λ f. IsDefinitionForm f (D.Function (record { result = k; name = record { at = t.start; what = n }; parameters = xs; body = ss }))) (a ++ t ∷ o ∷ (b ++ c ∷ d))
    by k a (U.void w is) = of_kind _ (T.Keyword K.Void) w _ is (F.void _)
    by k a (U.a_type e b2 type) = longer _ a _ (weaker BeginsType _ (λ f begins. F.function f _ begins) a (begins_type e a type))

definition_begins : (d : Definition) (ts : List Token) → SpellsDefinition d ts → Begins (λ f. IsDefinitionForm f d) ts
definition_begins d ts (U.a_typedef w x a is spells) = of_kind _ (T.Keyword K.Type) w _ is (F.a_type x)
definition_begins d ts (U.a_function x a spells) = function_begins x ts spells
definition_begins d ts (U.a_composite x a spells) = composite_begins x ts spells

pub definition_form_law : DefinitionFormLaw
definition_form_law d t ts spells = first_holds (λ f. IsDefinitionForm f d) t ts (definition_begins d (t ∷ ts) (meant spells))
