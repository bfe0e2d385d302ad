-- Expressions, types and shapes are spelled by the lines of the grammar.
use Rattle.std.proofs.Common.{◌≡◌, ◌∙◌, ℕ, List, [], ◌∷◌, ◌++◌, refl, sym, ap, subst, append_assoc, append-nil}
use Rattle.spl_tree.specs.declared.expression.ExprKind.{ExprKind}
use Rattle.spl_tree.specs.declared.expression.ExprKind.TheVariants as X
use Rattle.spl_tree.specs.declared.expression.Field.{Field}
use Rattle.spl_tree.specs.declared.expression.PrefixOperator.TheVariants as R
use Rattle.spl_tree.specs.declared.expression.Step.{Step}
use Rattle.spl_tree.specs.declared.expression.Step.TheVariants as N
use Rattle.spl_tree.specs.declared.keyword.Keyword.TheVariants as K
use Rattle.spl_tree.specs.declared.shape.Attribute.{Attribute}
use Rattle.spl_tree.specs.declared.shape.TypeKind.TheVariants as Y
use Rattle.spl_tree.specs.declared.symbol.Symbol.{Symbol}
use Rattle.spl_tree.specs.declared.symbol.Symbol.TheVariants as S
use Rattle.spl_tree.specs.declared.token.Token.{Token}
use Rattle.spl_tree.specs.declared.token.TokenKind.{TokenKind}
use Rattle.spl_tree.specs.spellings.Grammar as G
use Rattle.spl_tree.specs.Trees.{Expr, Prefix, placed, TypeExpr, Shape}
use Rattle.spl_tree.specs.spellings.Grammar.{Is, Literal, Primary, Elements, Items, Entries, Fields, Steps, Prefixes, Operand, Unary, At, Spells}
use Rattle.spl_tree.specs.spellings.Phrases as F
use Rattle.spl_tree.specs.spellings.Phrases.{Phrase, IsKeyword, Row, Separated, Listed}
use Rattle.spl_tree.specs.Grammar as P
use Rattle.spl_tree.specs.spellings.TypeGrammar as Q
use Rattle.spl_tree.specs.spellings.TypeGrammar.{named, SpellsType, SpellsAttributes, SpellsShape, SpellsFunctionParameters}

-- ---- phrases one after another

-- a phrase, by a line
pub by_line : {p : P.Phrase} {ps : List P.Phrase} {a : List Token} → P.Line p ps → P.SpellsAll ps a → P.Spells p a
by_line l d = P.by_line _ _ _ l d

-- a token, and phrases after it
pub token : {k : TokenKind} {ps : List P.Phrase} {a : List Token} (t : Token) → t.kind ≡ k → P.SpellsAll ps a → P.SpellsAll (P.OneToken k ∷ ps) (t ∷ a)
token {k} {ps} {a} t is d = P.more (P.OneToken k) ps (t ∷ []) a (P.token t k is) d

-- a token at its place, and phrases after it
pub at_token : {k : TokenKind} {ps : List P.Phrase} {a : List Token} (t : Token) → t.kind ≡ k → P.SpellsAll ps a
    → P.SpellsAll (P.At t.start (P.OneToken k) ∷ ps) (t ∷ a)
at_token {k} {ps} {a} t is d = P.more (P.At t.start (P.OneToken k)) ps (t ∷ []) a (P.at_place (P.OneToken k) t [] (P.token t k is)) d

-- a phrase, and phrases after it
pub part : {p : P.Phrase} {ps : List P.Phrase} {a b : List Token} → P.Spells p a → P.SpellsAll ps b → P.SpellsAll (p ∷ ps) (a ++ b)
part {p} {ps} {a} {b} d ds = P.more p ps a b d ds

-- a phrase alone
pub last : {p : P.Phrase} {a : List Token} → P.Spells p a → P.SpellsAll (p ∷ []) a
last {p} {a} d = subst (λ (b : List Token). P.SpellsAll (p ∷ []) b) (append-nil a) (P.more p [] a [] d P.none)

pub all_append : {ps qs : List P.Phrase} {a b : List Token} → P.SpellsAll ps a → P.SpellsAll qs b → P.SpellsAll (ps ++ qs) (a ++ b)
all_append P.none e = e
all_append {qs = qs} {b = b} (P.more p ps a c d ds) e =
    subst (λ (ts : List Token). P.SpellsAll (p ∷ (ps ++ qs)) ts) (sym (append_assoc a c b)) (P.more p (ps ++ qs) a (c ++ b) d (all_append ds e))

-- phrases between two signs
pub between : {s e : Symbol} {ps : List P.Phrase} {a : List Token} (o c : Token) → Is s o → P.SpellsAll ps a → Is e c
    → P.SpellsAll (P.Sign s ∷ (ps ++ P.Sign e ∷ [])) (o ∷ (a ++ c ∷ []))
between o c left d right = token o left (all_append d (token c right P.none))

-- the same with phrases after them
pub enclosed : {s e : Symbol} {ps qs : List P.Phrase} {a b : List Token} (o c : Token) → Is s o → P.SpellsAll ps a → Is e c → P.SpellsAll qs b
    → P.SpellsAll (P.Sign s ∷ ((ps ++ P.Sign e ∷ []) ++ qs)) (o ∷ (a ++ c ∷ b))
enclosed {e = e} {ps = ps} {qs = qs} {a = a} {b = b} o c left d right rest =
    token o left (subst (λ (rs : List P.Phrase). P.SpellsAll rs (a ++ c ∷ b)) (sym (append_assoc ps (P.Sign e ∷ []) qs)) (all_append d (token c right rest)))

-- ---- rows

row-more : {A : Type 0} (f : A → List P.Phrase) (xs : List A) (x : A) → P.row f (xs ++ x ∷ []) ≡ P.row f xs ++ f x
row-more f [] x = append-nil (f x)
row-more f (y ∷ ys) x = ap (λ (ps : List P.Phrase). f y ++ ps) (row-more f ys x) ∙ sym (append_assoc (f y) (P.row f ys) (f x))

pub row_next : {A : Type 0} (f : A → List P.Phrase) (xs : List A) (x : A) {a b : List Token} → P.SpellsAll (P.row f xs) a → P.SpellsAll (f x) b
    → P.SpellsAll (P.row f (xs ++ x ∷ [])) (a ++ b)
row_next f xs x {a} {b} ds d = subst (λ (ps : List P.Phrase). P.SpellsAll ps (a ++ b)) (sym (row-more f xs x)) (all_append ds d)

-- where each of a row is spelled by phrases
pub rows : {A : Type 0} {Q : Phrase A} (f : A → List P.Phrase) → ((x : A) (a : List Token) → Q x a → P.SpellsAll (f x) a)
    → {xs : List A} {a : List Token} → Row Q xs a → P.SpellsAll (P.row f xs) a
rows f each F.none = P.none
rows f each (F.more xs x a b ds d) = row_next f xs x (rows f each ds) (each x b d)

-- where each is one phrase
pub alone : {A : Type 0} {Q : Phrase A} (f : A → P.Phrase) → ((x : A) (a : List Token) → Q x a → P.Spells (f x) a) → (x : A) (a : List Token) → Q x a
    → P.SpellsAll (P.alone f x) a
alone f each x a d = last (each x a d)

-- ---- phrases with a symbol between them

-- one or more of them
pub data OneOrMore {A : Type 0} (s : Symbol) (f : A → List P.Phrase) : List A → List Token → Type 0 where
  one_or_more : (x : A) (xs : List A) (a : List Token) → P.SpellsAll (P.separated s f (x ∷ xs)) a → OneOrMore s f (x ∷ xs) a

pub spelled : {A : Type 0} {s : Symbol} {f : A → List P.Phrase} {xs : List A} {a : List Token} → OneOrMore s f xs a → P.SpellsAll (P.separated s f xs) a
spelled (one_or_more x xs a d) = d

separated-more : {A : Type 0} (s : Symbol) (f : A → List P.Phrase) (x : A) (xs : List A) (y : A)
    → P.separated s f (x ∷ (xs ++ y ∷ [])) ≡ P.separated s f (x ∷ xs) ++ P.Sign s ∷ f y
separated-more s f x [] y = refl
separated-more s f x (z ∷ zs) y =
    ap (λ (ps : List P.Phrase). f x ++ P.Sign s ∷ ps) (separated-more s f z zs y)
    ∙ sym (append_assoc (f x) (P.Sign s ∷ P.separated s f (z ∷ zs)) (P.Sign s ∷ f y))

first : {A : Type 0} {s : Symbol} (f : A → List P.Phrase) (x : A) {a : List Token} → P.SpellsAll (f x) a → OneOrMore s f (x ∷ []) a
first f x {a} d = one_or_more x [] a d

next : {A : Type 0} {s : Symbol} (f : A → List P.Phrase) (x : A) (t : Token) {xs : List A} {a b : List Token} → OneOrMore s f xs a → Is s t → P.SpellsAll (f x) b
    → OneOrMore s f (xs ++ x ∷ []) (a ++ t ∷ b)
next {s = s} f x t {b = b} (one_or_more y ys a ds) is d =
    one_or_more y (ys ++ x ∷ []) (a ++ t ∷ b) (subst (λ (ps : List P.Phrase). P.SpellsAll ps (a ++ t ∷ b)) (sym (separated-more s f y ys x)) (all_append ds (token t is d)))

-- where each of them is spelled by phrases
pub separated : {A : Type 0} {s : Symbol} {Q : Phrase A} (f : A → List P.Phrase) → ((x : A) (a : List Token) → Q x a → P.SpellsAll (f x) a)
    → {xs : List A} {a : List Token} → Separated s Q xs a → OneOrMore s f xs a
separated f each (F.first x a d) = first f x (each x a d)
separated f each (F.next xs x t a b ds is d) = next f x t (separated f each ds) is (each x b d)

pub listed : {A : Type 0} {s : Symbol} {Q : Phrase A} (f : A → List P.Phrase) → ((x : A) (a : List Token) → Q x a → P.SpellsAll (f x) a)
    → {xs : List A} {a : List Token} → Listed s Q xs a → P.SpellsAll (P.separated s f xs) a
listed f each F.empty = P.none
listed f each (F.some xs a ds) = spelled (separated f each ds)

-- ---- expressions

literal : {k : ExprKind} {t : Token} → Literal k t → P.Spells (P.Primary (placed t.start k)) (t ∷ [])
literal (G.dollar t n is) = by_line (P.dollar t.start n) (at_token t is P.none)
literal (G.number t n is) = by_line (P.number t.start n) (at_token t is P.none)
literal (G.text t bytes is) = by_line (P.text t.start bytes) (at_token t is P.none)
literal (G.yes t is) = by_line (P.yes t.start) (at_token t is P.none)
literal (G.no t is) = by_line (P.no t.start) (at_token t is P.none)

prefixes : {ps : List Prefix} {a : List Token} → Prefixes ps a → P.SpellsAll (P.row (P.alone P.InFront) ps) a
prefixes G.no_prefixes = P.none
prefixes (G.operator ps a t p ds known) =
    row_next (P.alone P.InFront) ps (placed t.start p) (prefixes ds) (last (by_line (P.operator t.start t.kind p known) (at_token t refl P.none)))
prefixes (G.cast ps a o t c target ds left known right) =
    row_next (P.alone P.InFront) ps (placed o.start (R.Cast target)) (prefixes ds)
    (last (by_line (P.cast o.start t.kind target known) (at_token o left (token t refl (token c right P.none)))))

tuple_spelled : {fs : List (Field Expr)} {a : List Token} (o c : Token) → Is S.LeftBrace o → OneOrMore S.Comma P.field fs a → Is S.RightBrace c
    → P.Spells (P.Primary (placed o.start (X.Tuple fs))) (o ∷ (a ++ c ∷ []))
tuple_spelled o c left (one_or_more f fs a ds) right = by_line (P.tuple o.start f fs) (at_token o left (all_append ds (token c right P.none)))

mutual
  primary : {e : Expr} {a : List Token} → Primary e a → P.Spells (P.Primary e) a
  primary (G.literal t k d) = literal d
  primary (G.name t n is) = by_line (P.name (placed t.start n)) (at_token t is P.none)
  primary (G.call t o c n es a is left ds right) = by_line (P.call (placed t.start n) es) (at_token t is (between o c left (elements ds) right))
  primary (G.group o c e a left d right) = by_line (P.group o.start e) (at_token o left (part (expression d) (token c right P.none)))
  primary (G.list o c es a left ds right) = by_line (P.list o.start es) (at_token o left (all_append (elements ds) (token c right P.none)))
  primary (G.empty_map o c left right) = by_line (P.map o.start []) (at_token o left (token c right P.none))
  primary (G.map o c es a left ds right) = by_line (P.map o.start es) (at_token o left (all_append (spelled (entries ds)) (token c right P.none)))
  primary (G.tuple o c fs a left ds right) = tuple_spelled o c left (fields ds) right

  pub elements : {es : List Expr} {a : List Token} → Elements es a → P.SpellsAll (P.expressions es) a
  elements G.no_elements = P.none
  elements (G.elements es a ds) = spelled (items ds)

  pub items : {es : List Expr} {a : List Token} → Items es a → OneOrMore S.Comma (P.alone P.Expression) es a
  items (G.first_item e a d) = first (P.alone P.Expression) e (last (expression d))
  items (G.next_item es e t a b ds comma d) = next (P.alone P.Expression) e t (items ds) comma (last (expression d))

  entries : {es : List (Expr × Expr)} {a : List Token} → Entries es a → OneOrMore S.Comma P.entry es a
  entries (G.first_entry k v t a b dk colon dv) = first P.entry (k, v) (part (expression dk) (token t colon (last (expression dv))))
  entries (G.next_entry es k v s t a b d ds comma dk colon dv) =
      next P.entry (k, v) s (entries ds) comma (part (expression dk) (token t colon (last (expression dv))))

  pub fields : {fs : List (Field Expr)} {a : List Token} → Fields fs a → OneOrMore S.Comma P.field fs a
  fields (G.first_field t s n e a is assign d) =
      first P.field (record { name = placed t.start n; value = e }) (at_token t is (token s assign (last (expression d))))
  fields (G.next_field fs c t s n e a b ds comma is assign d) =
      next P.field (record { name = placed t.start n; value = e }) c (fields ds) comma (at_token t is (token s assign (last (expression d))))

  pub steps : {ss : List (Step Expr)} {a : List Token} → Steps ss a → P.SpellsAll (P.row P.step ss) a
  steps G.no_steps = P.none
  steps (G.member ss a d t n ds dot is) = row_next P.step ss (N.Member (placed t.start n)) (steps ds) (token d dot (at_token t is P.none))
  steps (G.index ss e o c a b ds left d right) = row_next P.step ss (N.Index e) (steps ds) (token o left (part (expression d) (token c right P.none)))

  operand : {e : Expr} {a : List Token} → Operand e a → P.Spells (P.Operand e) a
  operand (G.primary e a d) = by_line (P.primary e) (last (primary d))
  operand (G.select e s ss a b d ds) = by_line (P.select e s ss) (part (primary d) (steps ds))

  unary : {e : Expr} {a : List Token} → Unary e a → P.Spells (P.Unary e) a
  unary (G.operand e a d) = by_line (P.operand e) (last (operand d))
  unary (G.prefixed p ps e a b ds d) = by_line (P.prefixed p ps e) (all_append (prefixes ds) (last (operand d)))

  level : {k : ℕ} {e : Expr} {a : List Token} → At k e a → P.Spells (P.Level k e) a
  level (G.unary e a d) = by_line (P.unary e) (last (unary d))
  level (G.tighter k e a d) = by_line (P.tighter k e) (last (level d))
  level (G.binary k l r op t a b dl known same dr) = by_line (P.binary k l r op t.kind known same) (part (level dl) (token t refl (last (level dr))))

  pub expression : {e : Expr} {a : List Token} → Spells e a → P.Spells (P.Expression e) a
  expression (G.plain e a d) = by_line (P.whole e) (last (level d))
  expression (G.conditional c x y q k a b d dc question dx colon dy) =
      by_line (P.conditional c x y) (part (level dc) (token q question (part (expression dx) (token k colon (last (expression dy))))))

pub expression_to_lines : (e : Expr) (ts : List Token) → Spells e ts → P.Spells (P.Expression e) ts
expression_to_lines e ts d = expression d

-- ---- types and shapes

tuple_type : {xs : List (Attribute TypeExpr)} {a : List Token} (t o c : Token) → IsKeyword K.Tuple t → Is S.Less o → OneOrMore S.Comma P.attribute xs a → Is S.Greater c
    → P.Spells (P.AType (placed t.start (Y.Tuple xs))) (t ∷ o ∷ (a ++ c ∷ []))
tuple_type t o c is less (one_or_more x xs a ds) greater = by_line (P.tuple_of t.start x xs) (at_token t is (between o c less ds greater))

mutual
  pub a_type : {k : TypeExpr} {a : List Token} → SpellsType k a → P.Spells (P.AType k) a
  a_type (Q.boolean t is) = by_line (P.boolean t.start) (at_token t is P.none)
  a_type (Q.rstring t is) = by_line (P.rstring t.start) (at_token t is P.none)
  a_type (Q.int t k is) = by_line (P.integer t.start k) (at_token t is P.none)
  a_type (Q.left_out t w is) = by_line (P.left_out t.start w) (at_token t is P.none)
  a_type (Q.name t n is) = by_line (P.named (placed t.start n)) (at_token t is P.none)
  a_type (Q.list t o c k a is less d greater) = by_line (P.list_of t.start k) (at_token t is (token o less (part (a_type d) (token c greater P.none))))
  a_type (Q.map t o m c k v a b is less dk comma dv greater) =
      by_line (P.map_of t.start k v) (at_token t is (token o less (part (a_type dk) (token m comma (part (a_type dv) (token c greater P.none))))))
  a_type (Q.tuple t o c xs a is less ds greater) = tuple_type t o c is less (attributes ds) greater

  attributes : {xs : List (Attribute TypeExpr)} {a : List Token} → SpellsAttributes xs a → OneOrMore S.Comma P.attribute xs a
  attributes (Q.first_attribute k t n a d is) = first P.attribute (named k t n) (part (a_type d) (at_token t is P.none))
  attributes (Q.next_attribute xs k c t n a b ds comma d is) = next P.attribute (named k t n) c (attributes ds) comma (part (a_type d) (at_token t is P.none))

pub shape : {h : Shape} {a : List Token} → SpellsShape h a → P.Spells (P.AShape h) a
shape (Q.plain k a d) = by_line (P.of_type k) (last (a_type d))
shape (Q.attributes x xs a ds) = by_line (P.of_attributes x xs) (spelled (attributes ds))

pub function_parameters : {xs : List (Attribute TypeExpr)} {a : List Token} → SpellsFunctionParameters xs a → P.SpellsAll (P.attributes xs) a
function_parameters Q.no_parameters = P.none
function_parameters (Q.parameters xs a ds) = spelled (attributes ds)
