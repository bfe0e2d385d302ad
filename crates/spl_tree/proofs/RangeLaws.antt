-- The numbers of the expressions that a program's tokens spell are those of their types.
use Rattle.std.specs.Prelude.{◌≡◌, ◌==◌, ◌&&◌, ℕ, Bool, true, false, IsTrue, nat_lt, List, [], ◌∷◌, ◌++◌, map, Option, Some, None, option_map, Result, Ok, Err, if◌then◌else◌}
use Rattle.std.specs.Bool.{then_some}
use Rattle.std.specs.List.{AllByRecursion, list_all, fold}
use Rattle.std.specs.Cmp.Derive.{both_true}
use Rattle.std.proofs.Common.{refl, ap, subst, ◌∙◌}
use Rattle.spl_value.specs.Values.{top}
use Rattle.spl_value.specs.declared.types.IntKind.{IntKind}
use Rattle.spl_value.specs.Decimal.{is_digit, digit_step}
use Rattle.spl_tree.specs.Bytes.{is_letter, is_quote}
use Rattle.spl_tree.specs.Words.{symbol_of, keyword_of}
use Rattle.spl_tree.specs.declared.keyword.Keyword.{Keyword}
use Rattle.spl_tree.specs.declared.token.Token.{Token}
use Rattle.spl_tree.specs.declared.token.TokenKind.{TokenKind}
use Rattle.spl_tree.specs.declared.token.TokenKind.TheVariants as T
use Rattle.spl_tree.specs.declared.token.LexicalError.TheVariants as L
use Rattle.spl_tree.specs.declared.expression.Placed.{Placed}
use Rattle.spl_tree.specs.declared.expression.Field.{Field}
use Rattle.spl_tree.specs.declared.expression.Step.{Step}
use Rattle.spl_tree.specs.declared.expression.Step.TheVariants as N
use Rattle.spl_tree.specs.declared.expression.ExprKind.{ExprKind}
use Rattle.spl_tree.specs.declared.expression.ExprKind.TheVariants as E
use Rattle.spl_tree.specs.declared.expression.ExprKind.TheOpen as X
use Rattle.spl_tree.specs.declared.expression.ExprKind.TheOpen.{ExprKind-F}
use Rattle.spl_tree.specs.declared.expression.ExprKind.TheViews.{out-ExprKind}
use Rattle.spl_tree.specs.declared.expression.ExprKind.TheFolds.{fold_out-ExprKind, map-ExprKind}
use Rattle.spl_tree.specs.declared.token.Tokens.{Tokens}
use Rattle.spl_tree.specs.Tokens.{Refusal, is_word, word_kind, number_kind, digits, suffix, suffix_kind, ends_text, text_kind, unescaped, between_quotes, kind_of, tokens}
use Rattle.spl_tree.specs.Laws.{Cut, done, gap, token}
use Rattle.spl_tree.proofs.CutLaws.{cut_law}
use Rattle.spl_tree.proofs.TokenLaws.{kind_in}
use Rattle.spl_tree.specs.spellings.Grammar as G
use Rattle.spl_tree.specs.Trees.{Expr, placed}
use Rattle.spl_tree.specs.spellings.Grammar.{Literal, Primary, Elements, Items, Entries, Fields, Steps, Operand, Unary, At, Spells}
use Rattle.spl_tree.specs.Ranges.{number_in_range, step_in_range, level_in_range, in_range}
use Rattle.spl_value.proofs.Lists.{all_left, all_right, all_more}

-- ---- tokens

-- where the token is a number, it is one of its type
abbrev Ranged : TokenKind → Type 0
Ranged (T.Number n) = IsTrue (number_in_range n)
Ranged _ = Unit {0}

abbrev RangedIn : Result TokenKind Refusal → Type 0
RangedIn (Ok kind) = Ranged kind
RangedIn (Err refusal) = Unit {0}

abbrev FormRanged : Option (Result TokenKind Refusal) → Type 0
FormRanged o = RangedIn (kind_in o)

if_ranged : (b : Bool) (r s : Option (Result TokenKind Refusal)) → FormRanged r → FormRanged s → FormRanged (if b then r else s)
if_ranged true r s h g = h
if_ranged false r s h g = g

mapped_ranged : {A : Type 0} (f : A → Result TokenKind Refusal) (o : Option A) → ((x : A) → RangedIn (f x)) → FormRanged (option_map f o)
mapped_ranged f None each = tt
mapped_ranged f (Some x) each = each x

number_ranged : (n : ℕ) (k : IntKind) → RangedIn (number_kind n k)
number_ranged n k =
    elim (nat_lt n (top k)) as (λ b. nat_lt n (top k) ≡ b → RangedIn (if b then Ok (T.Number (record { kind = k; value = n })) else Err (L.BadNumber, 0))) [
      | true ↦ λ below. below
      | false ↦ λ above. tt
    ] refl

word_ranged : (word : List ℕ) (k : Option Keyword) → Ranged (word_kind word k)
word_ranged word None = tt
word_ranged word (Some k) = tt

text_ranged : (r : Result (List ℕ) ℕ) → RangedIn (text_kind r)
text_ranged (Ok bs) = tt
text_ranged (Err at) = tt

kind_ranged : (bs : List ℕ) → RangedIn (kind_of bs)
kind_ranged [] = tt
kind_ranged (b ∷ bs) =
    if_ranged (is_letter b) _ _ (mapped_ranged (λ word. Ok (word_kind word (keyword_of word))) (then_some (is_word (b ∷ bs)) (b ∷ bs)) (λ word. word_ranged word (keyword_of word)))
    (if_ranged (is_digit b) _ _ (mapped_ranged (number_kind (fold digit_step 0 (digits (b ∷ bs)))) (suffix_kind (suffix (b ∷ bs))) (number_ranged (fold digit_step 0 (digits (b ∷ bs)))))
    (if_ranged (b == 36) _ _ (mapped_ranged (λ word. Ok (T.Dollar word)) (then_some (is_word bs) bs) (λ word. tt))
    (if_ranged (is_quote b) _ _ (mapped_ranged (λ text. text_kind (unescaped 1 (between_quotes text))) (then_some (ends_text b false bs) (b ∷ bs))
    (λ text. text_ranged (unescaped 1 (between_quotes text)))) (mapped_ranged (λ s. Ok (T.Symbol s)) (symbol_of (b ∷ bs)) (λ s. tt)))))

abbrev AllRanged : List Token → Type 0
AllRanged ts = AllByRecursion (λ t. Ranged t.kind) ts

cut_ranged : {at : ℕ} {bs : List ℕ} {ts : List Token} → Cut at bs ts → AllRanged ts
cut_ranged (done at) = tt
cut_ranged (gap at text rest ts g c) = cut_ranged c
cut_ranged (token at kind text rest ts t c) = (subst RangedIn t.is (kind_ranged text), cut_ranged c)

-- ---- lists

-- where a test of what is made of each passes
all_made : {A B : Type 0} (p : B → Bool) (f : A → B) (xs : List A) → AllByRecursion (λ x. IsTrue (p (f x))) xs → IsTrue (list_all p (map f xs))
all_made p f [] h = refl
all_made p f (x ∷ xs) h = both_true h.0 (all_made p f xs h.1)

abbrev RangedToken : Token → Type 0
RangedToken t = Ranged t.kind

before : (a b : List Token) → AllRanged (a ++ b) → AllRanged a
before a b h = all_left RangedToken a b h

behind : (a b : List Token) → AllRanged (a ++ b) → AllRanged b
behind a b h = all_right RangedToken a b h

-- ---- expressions

abbrev InRange : Expr → Type 0
InRange e = IsTrue (in_range e.what)

abbrev EntryInRange : Expr × Expr → Type 0
EntryInRange e = IsTrue (in_range e.0.what && in_range e.1.what)

abbrev FieldInRange : Field Expr → Type 0
FieldInRange f = InRange f.value

abbrev StepInRange : Step Expr → Type 0
StepInRange (N.Member m) = Unit {0}
StepInRange (N.Index e) = InRange e

in_at : (e : ExprKind) (x : ExprKind-F ExprKind) → out-ExprKind e ≡ x → IsTrue (level_in_range (map-ExprKind ExprKind Bool in_range x)) → IsTrue (in_range e)
in_at e x out h = fold_out-ExprKind Bool level_in_range e ∙ ap (λ y. level_in_range (map-ExprKind ExprKind Bool in_range y)) out ∙ h

literal_ranged : (k : ExprKind) (t : Token) → Literal k t → RangedToken t → IsTrue (in_range k)
literal_ranged k t (G.dollar u n is) h = in_at (E.Dollar n) (X.Dollar n) (E.outs-Dollar n) refl
literal_ranged k t (G.number u n is) h = in_at (E.Number n) (X.Number n) (E.outs-Number n) (subst Ranged is h)
literal_ranged k t (G.text u bytes is) h = in_at (E.Text bytes) (X.Text bytes) (E.outs-Text bytes) refl
literal_ranged k t (G.yes u is) h = in_at (E.Bool true) (X.Bool true) (E.outs-Bool true) refl
literal_ranged k t (G.no u is) h = in_at (E.Bool false) (X.Bool false) (E.outs-Bool false) refl

list_in : (es : List Expr) → AllByRecursion InRange es → IsTrue (in_range (E.List es))
list_in es h = in_at (E.List es) (X.List es) (E.outs-List es) (all_made {B = Placed Bool} (λ e. e.what) (λ e. record { at = e.at; what = in_range e.what }) es h)

call_in : (n : List ℕ) (es : List Expr) → AllByRecursion InRange es → IsTrue (in_range (E.Call n es))
call_in n es h = in_at (E.Call n es) (X.Call n es) (E.outs-Call n es) (all_made {B = Placed Bool} (λ e. e.what) (λ e. record { at = e.at; what = in_range e.what }) es h)

map_in : (es : List (Expr × Expr)) → AllByRecursion EntryInRange es → IsTrue (in_range (E.Map es))
map_in es h =
    in_at (E.Map es) (X.Map es) (E.outs-Map es)
    (all_made {B = Placed Bool × Placed Bool} (λ e. e.0.what && e.1.what) (λ e. (record { at = e.0.at; what = in_range e.0.what }, record { at = e.1.at; what = in_range e.1.what })) es h)

tuple_in : (fs : List (Field Expr)) → AllByRecursion FieldInRange fs → IsTrue (in_range (E.Tuple fs))
tuple_in fs h =
    in_at (E.Tuple fs) (X.Tuple fs) (E.outs-Tuple fs)
    (all_made {B = Field (Placed Bool)} (λ f. f.value.what) (λ f. record { name = f.name; value = record { at = f.value.at; what = in_range f.value.what } }) fs h)

-- for what keeps members and makes an index its answer
steps_made : (k : Step Expr → Step (Placed Bool)) → ((m : Placed (List ℕ)) → k (N.Member m) ≡ N.Member m)
    → ((e : Expr) → k (N.Index e) ≡ N.Index (record { at = e.at; what = in_range e.what })) → (ss : List (Step Expr)) → AllByRecursion StepInRange ss → IsTrue (list_all step_in_range (map k ss))
steps_made k members indices [] h = refl
steps_made k members indices (N.Member m ∷ ss) h = both_true (ap step_in_range (members m)) (steps_made k members indices ss h.1)
steps_made k members indices (N.Index e ∷ ss) h = both_true (ap step_in_range (indices e) ∙ h.0) (steps_made k members indices ss h.1)

select_in : (e : Expr) (ss : List (Step Expr)) → InRange e → AllByRecursion StepInRange ss → IsTrue (in_range (E.Select e ss))
select_in e ss h g = in_at (E.Select e ss) (X.Select e ss) (E.outs-Select e ss) (both_true h (steps_made _ (λ m. refl) (λ i. refl) ss g))

mutual
  primary_ranged : (e : Expr) (ts : List Token) → Primary e ts → AllRanged ts → InRange e
  primary_ranged e ts (G.literal t k l) h = literal_ranged k t l h.0
  primary_ranged e ts (G.name t n is) h = in_at (E.Name n) (X.Name n) (E.outs-Name n) refl
  primary_ranged e ts (G.call t o c n es a is open' spelled close) h = call_in n es (elements_ranged es a spelled (before a (c ∷ []) h.1.1))
  primary_ranged e ts (G.group o c f a open' spelled close) h =
      in_at (E.Group f) (X.Group f) (E.outs-Group f) (spells_ranged f a spelled (before a (c ∷ []) h.1))
  primary_ranged e ts (G.list o c es a open' spelled close) h = list_in es (elements_ranged es a spelled (before a (c ∷ []) h.1))
  primary_ranged e ts (G.empty_map o c open' close) h = map_in [] tt
  primary_ranged e ts (G.map o c es a open' spelled close) h = map_in es (entries_ranged es a spelled (before a (c ∷ []) h.1))
  primary_ranged e ts (G.tuple o c fs a open' spelled close) h = tuple_in fs (fields_ranged fs a spelled (before a (c ∷ []) h.1))

  elements_ranged : (es : List Expr) (ts : List Token) → Elements es ts → AllRanged ts → AllByRecursion InRange es
  elements_ranged es ts G.no_elements h = tt
  elements_ranged es ts (G.elements fs a spelled) h = items_ranged fs a spelled h

  items_ranged : (es : List Expr) (ts : List Token) → Items es ts → AllRanged ts → AllByRecursion InRange es
  items_ranged es ts (G.first_item e a spelled) h = (spells_ranged e a spelled h, tt)
  items_ranged es ts (G.next_item fs e t a b items comma spelled) h =
      all_more InRange fs e (items_ranged fs a items (before a (t ∷ b) h)) (spells_ranged e b spelled (behind a (t ∷ b) h).1)

  entries_ranged : (es : List (Expr × Expr)) (ts : List Token) → Entries es ts → AllRanged ts → AllByRecursion EntryInRange es
  entries_ranged es ts (G.first_entry k v t a b key colon value) h =
      (both_true (spells_ranged k a key (before a (t ∷ b) h)) (spells_ranged v b value (behind a (t ∷ b) h).1), tt)
  entries_ranged es ts (G.next_entry fs k v s t a b d entries comma key colon value) h =
      let rest = (behind a (s ∷ (b ++ t ∷ d)) h).1 in
      all_more EntryInRange fs (k, v) (entries_ranged fs a entries (before a (s ∷ (b ++ t ∷ d)) h))
      (both_true (spells_ranged k b key (before b (t ∷ d) rest)) (spells_ranged v d value (behind b (t ∷ d) rest).1))

  fields_ranged : (fs : List (Field Expr)) (ts : List Token) → Fields fs ts → AllRanged ts → AllByRecursion FieldInRange fs
  fields_ranged fs ts (G.first_field t s n e a is assign value) h = (spells_ranged e a value h.1.1, tt)
  fields_ranged fs ts (G.next_field gs c t s n e a b fields comma is assign value) h =
      all_more FieldInRange gs (record { name = placed t.start n; value = e }) (fields_ranged gs a fields (before a (c ∷ t ∷ s ∷ b) h))
      (spells_ranged e b value (behind a (c ∷ t ∷ s ∷ b) h).1.1.1)

  steps_ranged : (ss : List (Step Expr)) (ts : List Token) → Steps ss ts → AllRanged ts → AllByRecursion StepInRange ss
  steps_ranged ss ts G.no_steps h = tt
  steps_ranged ss ts (G.member rs a d t n steps dot is) h = all_more StepInRange rs (N.Member (placed t.start n)) (steps_ranged rs a steps (before a (d ∷ t ∷ []) h)) tt
  steps_ranged ss ts (G.index rs e o c a b steps open' spelled close) h =
      all_more StepInRange rs (N.Index e) (steps_ranged rs a steps (before a (o ∷ (b ++ c ∷ [])) h))
      (spells_ranged e b spelled (before b (c ∷ []) (behind a (o ∷ (b ++ c ∷ [])) h).1))

  operand_ranged : (e : Expr) (ts : List Token) → Operand e ts → AllRanged ts → InRange e
  operand_ranged e ts (G.primary f a p) h = primary_ranged f a p h
  operand_ranged e ts (G.select f s ss a b p steps) h = select_in f (s ∷ ss) (primary_ranged f a p (before a b h)) (steps_ranged (s ∷ ss) b steps (behind a b h))

  unary_ranged : (e : Expr) (ts : List Token) → Unary e ts → AllRanged ts → InRange e
  unary_ranged e ts (G.operand f a o) h = operand_ranged f a o h
  unary_ranged e ts (G.prefixed p ps f a b front o) h =
      in_at (E.Unary (p ∷ ps) f) (X.Unary (p ∷ ps) f) (E.outs-Unary (p ∷ ps) f) (operand_ranged f b o (behind a b h))

  at_ranged : (k : ℕ) (e : Expr) (ts : List Token) → At k e ts → AllRanged ts → InRange e
  at_ranged k e ts (G.unary f a u) h = unary_ranged f a u h
  at_ranged k e ts (G.tighter j f a inner) h = at_ranged j f a inner h
  at_ranged k e ts (G.binary j l r op t a b left is same right) h =
      in_at (E.Binary op l r) (X.Binary op l r) (E.outs-Binary op l r)
      (both_true (at_ranged _ l a left (before a (t ∷ b) h)) (at_ranged j r b right (behind a (t ∷ b) h).1))

  spells_ranged : (e : Expr) (ts : List Token) → Spells e ts → AllRanged ts → InRange e
  spells_ranged e ts (G.plain f a inner) h = at_ranged 9 f a inner h
  spells_ranged e ts (G.conditional c x y q k a b d test question first colon second) h =
      let rest = (behind a (q ∷ (b ++ k ∷ d)) h).1 in
      in_at (E.Conditional c x y) (X.Conditional c x y) (E.outs-Conditional c x y)
      (both_true (both_true (at_ranged 9 c a test (before a (q ∷ (b ++ k ∷ d)) h)) (spells_ranged x b first (before b (k ∷ d) rest)))
      (spells_ranged y d second (behind b (k ∷ d) rest).1))

pub ranges_law : (bytes : List ℕ) (ts : Tokens) (e : Expr) (before own after : List Token) → tokens bytes ≡ Ok ts → ts.list ≡ before ++ (own ++ after) → Spells e own
    → IsTrue (in_range e.what)
ranges_law bytes ts e first own after is list spelled =
    spells_ranged e own spelled (before own after (behind first (own ++ after) (subst AllRanged list (cut_ranged (cut_law bytes ts is).0))))
