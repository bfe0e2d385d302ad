-- What is read of expressions and types is spelled so.
use Rattle.std.proofs.Common.{◌≡◌, ℕ, List, [], ◌∷◌, ◌++◌, refl, sym, ap, append_assoc, append-nil}
use Rattle.spl_tree.specs.declared.keyword.Keyword.TheVariants as K
use Rattle.spl_tree.specs.declared.shape.Attribute.{Attribute}
use Rattle.spl_tree.specs.declared.shape.ShapeKind.TheVariants as H
use Rattle.spl_tree.specs.declared.shape.TypeKind.TheVariants as Y
use Rattle.spl_tree.specs.declared.symbol.Symbol.{Symbol}
use Rattle.spl_tree.specs.declared.symbol.Symbol.TheVariants as S
use Rattle.spl_tree.specs.declared.token.Token.{Token}
use Rattle.spl_tree.specs.Trees.{placed, TypeExpr}
use Rattle.spl_tree.specs.spellings.Grammar.{Is}
use Rattle.spl_tree.specs.spellings.Phrases.{IsKeyword}
use Rattle.spl_tree.specs.spellings.TypeGrammar.{named, SpellsType, list, map, tuple, SpellsAttributes, first_attribute, next_attribute, SpellsShape, plain, attributes}
use Rattle.spl_tree.specs.spellings.StatementGrammar.{BeginsAt, begins}
use Rattle.expr_parser.specs.Rules.{done}
use Rattle.expr_parser.specs.Lines as expressions
use Rattle.expr_parser.specs.Lines.{name_of}
use Rattle.expr_parser.specs.Parts.{Closed, closed}
use Rattle.expr_parser.proofs.Sound as sound
use Rattle.statement_parser.specs.Lines as lines
use Rattle.statement_parser.specs.Lines.{rule}
use Rattle.unit_parser.proofs.SoundPhrases.{Leading, SpellsAttribute, attribute, Phrases}
use Rattle.unit_parser.proofs.SoundSamples.{has}
use Rattle.unit_parser.proofs.SoundRules.{LeadsTo, leads_lifted, ended, called, last, stops, comes_symbol, comes_name, may_symbol, may_name, may_type}
use Rattle.unit_parser.proofs.CompleteTypes.{type_at}

-- Expressions

-- the rule of each line of expressions leads to what is said of it
pub expression_leads : (x : expressions.Line) → LeadsTo (Phrases (lines.Expression x)) (rule (lines.Expression x))
unfolding rule expressions.rule
expression_leads x = record { leads = leads_lifted (sound.Phrases x) (expressions.rule x) (sound.leads x) }

-- Places

-- more tokens begin at the same place
pub begins_more : {at : ℕ} {a : List Token} → BeginsAt at a → (b : List Token) → BeginsAt at (a ++ b)
begins_more (begins t a) b = begins t (a ++ b)

-- tokens begin at one place
begins_one : {x y : ℕ} {a : List Token} → BeginsAt x a → BeginsAt y a → x ≡ y
begins_one (begins t a) d = sym (by d refl)
  where
    by : {y : ℕ} {b : List Token} → BeginsAt y b → b ≡ t ∷ a → y ≡ t.start
    by (begins u b) same = let head : u ≡ t = cc in ap (λ (v : Token). v.start) head

-- attributes begin with a type
record BeginsWith (xs : List (Attribute TypeExpr)) (a : List Token) : Type 0 where
  head : Attribute TypeExpr
  tail : List (Attribute TypeExpr)
  is : xs ≡ head ∷ tail
  begins : BeginsAt head.kind.at a

attributes_begin : {xs : List (Attribute TypeExpr)} {a : List Token} → SpellsAttributes xs a → BeginsWith xs a
attributes_begin (first_attribute k t n a d word) = record { head = named k t n; tail = []; is = refl; begins = begins_more (type_at d) (t ∷ []) }
attributes_begin (next_attribute xs k c t n a b ds comma d word) =
    let f = attributes_begin ds in
    record { head = f.head; tail = f.tail ++ named k t n ∷ []; is = ap (λ ys. ys ++ named k t n ∷ []) f.is; begins = begins_more f.begins (c ∷ (b ++ t ∷ [])) }

-- Attributes and shapes

-- the first attribute
pub lead_first_attribute : (x : Attribute TypeExpr) (b : List Token) → SpellsAttribute x b → SpellsAttributes (x ∷ []) b
lead_first_attribute x b (attribute k t n a d word) = first_attribute k t n a d word

-- after a comma one more may come
lead_next_attribute : {xs : List (Attribute TypeExpr)} {a : List Token} (c : Token) → SpellsAttributes xs a → Is S.Comma c
    → Leading SpellsAttribute SpellsAttributes xs (a ++ c ∷ [])
lead_next_attribute {xs} {a} c ds comma x b (attribute k t n d dk word) =
    rw (append_assoc a (c ∷ []) (d ++ t ∷ [])) (next_attribute xs k c t n a d ds comma dk word)

-- a tuple type after its word
tuple_spells : {xs : List (Attribute TypeExpr)} {a : List Token} {t o : Token} → IsKeyword K.Tuple t → Is S.Less o → Closed SpellsAttributes S.Greater xs a
    → SpellsType (placed t.start (Y.Tuple xs)) (t ∷ o ∷ a)
tuple_spells {t} {o} is less (closed xs c a d greater) = tuple t o c xs a is less d greater

-- attributes as a shape
attributes_shape : {at : ℕ} {xs : List (Attribute TypeExpr)} {a : List Token} (x : Attribute TypeExpr) (ys : List (Attribute TypeExpr)) → xs ≡ x ∷ ys → at ≡ x.kind.at
    → SpellsAttributes xs a → SpellsShape (placed at (H.Attributes xs)) a
attributes_shape {at} {a} x ys is same ds = rw (same, is) (attributes x ys a (rw is at ds))

-- and the symbol that closes it
shape_spells : {at : ℕ} {close : Symbol} {xs : List (Attribute TypeExpr)} {a : List Token} → Closed SpellsAttributes close xs a → BeginsAt at a
    → Closed SpellsShape close (placed at (H.Attributes xs)) a
shape_spells {at} (closed xs c a ds right) start =
    let f = attributes_begin ds in
    closed (placed at (H.Attributes xs)) c a (attributes_shape f.head f.tail f.is (begins_one start (begins_more f.begins (c ∷ []))) ds) right

-- Rules

pub type_leads : LeadsTo (Phrases lines.TypeExpression) (rule lines.TypeExpression)
unfolding rule
type_leads = may_type done (λ k. ended (λ a d. rw (append-nil a) d)) (stops (has lines.TypeExpression))

pub list_leads : (at : ℕ) → LeadsTo (Phrases (lines.ListType at)) (rule (lines.ListType at))
unfolding rule
list_leads at = comes_symbol S.Less (λ o less. called (λ e. comes_symbol S.Greater (λ c greater. ended (λ a d t is start.
    rw (← start) (list t o c e a is less d greater)))))

pub map_leads : (at : ℕ) → LeadsTo (Phrases (lines.MapType at)) (rule (lines.MapType at))
unfolding rule
map_leads at = comes_symbol S.Less (λ o less. called (λ k. comes_symbol S.Comma (λ m comma. called (λ v. comes_symbol S.Greater (λ c greater. ended (λ b dv a dk t is start.
    rw (← start) (map t o m c k v a b is less dk comma dv greater)))))))

pub tuple_leads : (at : ℕ) → LeadsTo (Phrases (lines.TupleType at)) (rule (lines.TupleType at))
unfolding rule
tuple_leads at = comes_symbol S.Less (λ o less. last (λ xs a d t is start. rw (← start) (tuple_spells is less (d [] lead_first_attribute))))

pub attributes_leads : (close : Symbol) (xs : List (Attribute TypeExpr)) → LeadsTo (Phrases (lines.Attributes close xs)) (rule (lines.Attributes close xs))
unfolding rule
attributes_leads close xs = called (λ k. comes_name (λ t word. last (λ v b r a d z lead.
    simp append_assoc at (r (z ++ (a ++ t ∷ [])) (lead (named k t (name_of t)) (a ++ t ∷ []) (attribute k t (name_of t) a d word))))))

pub more_attributes_leads : (close : Symbol) (xs : List (Attribute TypeExpr)) → LeadsTo (Phrases (lines.MoreAttributes close xs)) (rule (lines.MoreAttributes close xs))
unfolding rule
more_attributes_leads close xs = may_symbol S.Comma
    (λ t comma. last (λ v b r a ds. simp append_assoc at (r (a ++ t ∷ []) (lead_next_attribute t ds comma))))
    (comes_symbol close (λ c right. ended (λ a ds. closed xs c a ds right)))

pub shaped_leads : (close : Symbol) → LeadsTo (Phrases (lines.Shaped close)) (rule (lines.Shaped close))
unfolding rule
shaped_leads close = called (λ k. may_name
    (λ t word. last (λ xs b r a d.
    shape_spells (simp append_assoc at (r (a ++ t ∷ []) (first_attribute k t (name_of t) a d word))) (begins_more (type_at d) (t ∷ b))))
    (comes_symbol close (λ c right. ended (λ a d. closed (placed k.at (H.Type k)) c a (plain k a d) right))))
