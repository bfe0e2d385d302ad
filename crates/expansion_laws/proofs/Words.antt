-- The names in a unit that tokens spell are words, so those of operators are words with dots between them.
use Rattle.std.specs.Prelude.{◌≡◌, ◌==◌, ℕ, zero, suc, nat_lt, Bool, true, false, List, [], ◌∷◌, ◌++◌, codes, fold, Option, Some, None, Result, Ok, Err, slice_get, if◌then◌else◌}
use Rattle.std.specs.List.{AllByRecursion}
use Rattle.std.specs.Bool.{then_some}
use Rattle.std.specs.Option.{option_and_then, option_map}
use Rattle.std.proofs.Common.{refl, sym, ap, subst, ◌∙◌, append_assoc}
use Rattle.std.proofs.lemmas.Option.{same_Some}
use Rattle.spl_value.proofs.Lists.{all_left, all_right, push_some, all_at, all_more}
use Rattle.spl_value.specs.declared.types.IntKind.{IntKind}
use Rattle.spl_value.specs.Values.{top}
use Rattle.spl_value.specs.Decimal.{is_digit, digit_step}
use Rattle.spl_tree.specs.declared.expression.Placed.{Placed}
use Rattle.spl_tree.specs.declared.graph.Graph.{Graph}
use Rattle.spl_tree.specs.declared.graph.Site.{Site}
use Rattle.spl_tree.specs.declared.keyword.Keyword.{Keyword}
use Rattle.spl_tree.specs.declared.keyword.Keyword.TheVariants as K
use Rattle.spl_tree.specs.declared.symbol.Symbol.{Symbol}
use Rattle.spl_tree.specs.declared.symbol.Symbol.TheVariants as S
use Rattle.spl_tree.specs.declared.token.LexicalError.TheVariants as E
use Rattle.spl_tree.specs.declared.token.Token.{Token}
use Rattle.spl_tree.specs.declared.token.TokenKind.{TokenKind}
use Rattle.spl_tree.specs.declared.token.TokenKind.TheVariants as T
use Rattle.spl_tree.specs.declared.unit.Composite.{Composite}
use Rattle.spl_tree.specs.declared.unit.Definition.{Definition}
use Rattle.spl_tree.specs.declared.unit.Definition.TheVariants as D
use Rattle.spl_tree.specs.declared.unit.Invocation.{Invocation}
use Rattle.spl_tree.specs.declared.unit.OutputStream.{OutputStream}
use Rattle.spl_tree.specs.Bytes.{is_letter, is_quote}
use Rattle.spl_tree.specs.Trees.{placed}
use Rattle.spl_tree.specs.Laws.{Cut, done, gap, token}
use Rattle.spl_tree.specs.spellings.Phrases as P
use Rattle.spl_tree.specs.spellings.Phrases.{Row, Separated}
use Rattle.spl_tree.specs.Tokens.{Refusal, is_word, word_kind, digits, suffix, suffix_kind, number_kind, unescaped, between_quotes, text_kind, ends_text, kind_of}
use Rattle.spl_tree.specs.spellings.UnitGrammar as U
use Rattle.spl_tree.specs.spellings.UnitGrammar.{SpellsAlias, SpellsComposite, SpellsDefinition, SpellsHead, SpellsInvocation, SpellsOutputStream, SpellsUnit}
use Rattle.spl_tree.specs.Words.{keyword_of, symbol_of}
use Rattle.spl_tree.proofs.CutLaws.{cut_law}
use Rattle.spl_tree.proofs.TokenLaws.{kind_in}
use Rattle.language_model.specs.Composites.{composites}
use Rattle.language_model.specs.DollarTargets.{composite_of, invocation_at}
use Rattle.grammar_laws.proofs.FromLines.{unit_from_lines}
use Rattle.expansion_laws.specs.Bodies.{IsName, by_alias, by_stream, without, Lies, in_main, in_body}
use Rattle.expansion_laws.specs.Names.{IsDotted, word, dotted, DottedLaw}
use Rattle.expansion_laws.proofs.Ways.{name_law}
use Rattle.graph_laws.proofs.KeptInvocations.{then_gives}

-- ---- tokens

-- a name among tokens is a word
abbrev IsWordIn : TokenKind → Type 0
IsWordIn k = (n : List ℕ) → k ≡ T.Word n → is_word n ≡ true

-- a token without a refusal, and a number that is refused
abbrev lexed : TokenKind → Result TokenKind Refusal
lexed k = Ok k

abbrev bad_number : Result TokenKind Refusal
bad_number = Err (E.BadNumber, 0)

by_keyword : (text : List ℕ) (o : Option Keyword) (k : TokenKind) → lexed (word_kind text o) ≡ lexed k → is_word text ≡ true → IsWordIn k
by_keyword text None k e formed n is = let same : T.Word text ≡ T.Word n = (let h : lexed (T.Word text) ≡ lexed k = e in cc) in let words : text ≡ n = cc in ap is_word (sym words) ∙ formed
by_keyword text (Some w) k e formed n is = absurd (let h : lexed (T.Keyword w) ≡ lexed k = e in let same : T.Keyword w ≡ T.Word n = cc in cc)

no_number : (n : ℕ) (i : IntKind) (k : TokenKind) → number_kind n i ≡ lexed k → IsWordIn k
no_number n i k e w is =
    elim (nat_lt n (top i)) as (λ b. (if b then lexed (T.Number (record { kind = i; value = n })) else bad_number) ≡ lexed k → is_word w ≡ true) [
      | true ↦ λ h. absurd (let same : T.Number (record { kind = i; value = n }) ≡ T.Word w = cc in cc)
      | false ↦ λ h. absurd cc
    ] e

no_text : (r : Result (List ℕ) ℕ) (k : TokenKind) → text_kind r ≡ lexed k → IsWordIn k
no_text (Ok bs) k e w is = absurd (let same : T.Text bs ≡ T.Word w = cc in cc)
no_text (Err at) k e w is = absurd cc

-- what has the form of a token is no word where what is made of it is none
no_form : {A : Type 0} (f : A → Result TokenKind Refusal) (o : Option A) (k : TokenKind) → ((x : A) → f x ≡ lexed k → IsWordIn k)
    → kind_in (option_map f o) ≡ lexed k → IsWordIn k
no_form f None k each e = absurd cc
no_form f (Some x) k each e = each x e

no_dollar : (text : List ℕ) (k : TokenKind) → lexed (T.Dollar text) ≡ lexed k → IsWordIn k
no_dollar text k e w is = absurd (let same : T.Dollar text ≡ T.Word w = cc in cc)

no_symbol : (s : Symbol) (k : TokenKind) → lexed (T.Symbol s) ≡ lexed k → IsWordIn k
no_symbol s k e w is = absurd (let same : T.Symbol s ≡ T.Word w = cc in cc)

word_in : (text : List ℕ) (k : TokenKind) → kind_of text ≡ lexed k → IsWordIn k
word_in [] k e = absurd cc
word_in (b ∷ bs) k e = by (is_letter b) (is_digit b) (b == 36) (is_quote b) e
  where
    by_word : (t : Bool) → is_word (b ∷ bs) ≡ t → kind_in (option_map (λ text. lexed (word_kind text (keyword_of text))) (then_some t (b ∷ bs))) ≡ lexed k → IsWordIn k
    by_word true whole is = by_keyword (b ∷ bs) (keyword_of (b ∷ bs)) k is whole
    by_word false whole is = absurd cc

    by : (letter digit dollar quote : Bool)
        → kind_in (if letter then option_map (λ text. lexed (word_kind text (keyword_of text))) (then_some (is_word (b ∷ bs)) (b ∷ bs))
        else (if digit then option_map (number_kind (fold digit_step 0 (digits (b ∷ bs)))) (suffix_kind (suffix (b ∷ bs)))
        else (if dollar then option_map (λ text. lexed (T.Dollar text)) (then_some (is_word bs) bs)
        else (if quote then option_map (λ text. text_kind (unescaped 1 (between_quotes text))) (then_some (ends_text b false bs) (b ∷ bs))
        else option_map (λ s. lexed (T.Symbol s)) (symbol_of (b ∷ bs)))))) ≡ lexed k
        → IsWordIn k
    by true digit dollar quote is = by_word (is_word (b ∷ bs)) refl is
    by false true dollar quote is =
        no_form (number_kind (fold digit_step 0 (digits (b ∷ bs)))) (suffix_kind (suffix (b ∷ bs))) k (λ i. no_number (fold digit_step 0 (digits (b ∷ bs))) i k) is
    by false false true quote is = no_form (λ text. lexed (T.Dollar text)) (then_some (is_word bs) bs) k (λ text. no_dollar text k) is
    by false false false true is =
        no_form (λ text. text_kind (unescaped 1 (between_quotes text))) (then_some (ends_text b false bs) (b ∷ bs)) k (λ text. no_text (unescaped 1 (between_quotes text)) k) is
    by false false false false is = no_form (λ s. lexed (T.Symbol s)) (symbol_of (b ∷ bs)) k (λ s. no_symbol s k) is

abbrev IsWordToken : Token → Type 0
IsWordToken t = IsWordIn t.kind

abbrev AreWords : List Token → Type 0
AreWords ts = AllByRecursion IsWordToken ts

cut_words : (at : ℕ) (bytes : List ℕ) (ts : List Token) → Cut at bytes ts → AreWords ts
cut_words at bytes ts (done a) = tt
cut_words at bytes ts (gap a text rest us g c) = cut_words _ rest us c
cut_words at bytes ts (token a kind text rest us t c) = (word_in text kind t.is, cut_words _ rest us c)

-- ---- invocations

record IsWorded (i : Invocation) : Type 0 where
  pub alias : (n : Placed (List ℕ)) → i.alias ≡ Some n → is_word n.what ≡ true
  pub outputs : AllByRecursion (λ o. is_word o.name.what ≡ true) i.outputs
  pub named : i.alias ≡ None → i.outputs ≡ [] → ⊥

-- what holds of each phrase of a row of tokens
row_all : {A : Type 0} (Spells : A → List Token → Type 0) (Q : A → Type 0) → ((x : A) (a : List Token) → Spells x a → AreWords a → Q x) → (xs : List A) (a : List Token) → Row Spells xs a → AreWords a → AllByRecursion Q xs
row_all Spells Q each xs a P.none words = tt
row_all Spells Q each xs a (P.more ys y b c row one) words =
    all_more Q ys y (row_all Spells Q each ys b row (all_left IsWordToken b c words)) (each y c one (all_right IsWordToken b c words))

separated_all : {A : Type 0} (s : Symbol) (Spells : A → List Token → Type 0) (Q : A → Type 0) → ((x : A) (a : List Token) → Spells x a → AreWords a → Q x) → (xs : List A) (a : List Token)
    → Separated s Spells xs a → AreWords a → AllByRecursion Q xs
separated_all s Spells Q each xs a (P.first x b one) words = (each x b one words, tt)
separated_all s Spells Q each xs a (P.next ys y t b c all comma one) words =
    all_more Q ys y (separated_all s Spells Q each ys b all (all_left IsWordToken b (t ∷ c) words)) (each y c one (all_right IsWordToken b (t ∷ c) words).1)

output_worded : (o : OutputStream) (a : List Token) → SpellsOutputStream o a → AreWords a → is_word o.name.what ≡ true
output_worded o a (U.output h t n b stream name) words = (all_right IsWordToken b (t ∷ []) words).0 n name

alias_worded : (l : Option (Placed (List ℕ))) (a : List Token) → SpellsAlias l a → AreWords a → (n : Placed (List ℕ)) → l ≡ Some n → is_word n.what ≡ true
alias_worded l a U.no_alias words n is = absurd cc
alias_worded l a (U.alias k t m as_word name) words n is = let same : m ≡ n.what = ap (λ (x : Placed (List ℕ)). x.what) (same_Some (placed t.start m) n is) in ap is_word (sym same) ∙ words.1.0 m name

some_streams : (xs : List OutputStream) (a : List Token) → Separated S.Semicolon SpellsOutputStream xs a → xs ≡ [] → ⊥
some_streams xs a (P.first x b one) none = cc
some_streams xs a (P.next ys y t b c all semi one) none = push_some ys y none

record IsHeadWorded (xs : List OutputStream) (l : Option (Placed (List ℕ))) : Type 0 where
  pub alias : (n : Placed (List ℕ)) → l ≡ Some n → is_word n.what ≡ true
  pub outputs : AllByRecursion (λ o. is_word o.name.what ≡ true) xs
  pub named : l ≡ None → xs ≡ [] → ⊥

head_worded : (xs : List OutputStream) (l : Option (Placed (List ℕ))) (a : List Token) → SpellsHead xs l a → AreWords a → IsHeadWorded xs l
head_worded xs l a (U.one_stream x m b c stream given) words = record {
  alias = alias_worded m c given (all_right IsWordToken b c words);
  outputs = (output_worded x b stream (all_left IsWordToken b c words), tt);
  named = λ none empty. cc;
}
head_worded xs l a (U.streams o c ys m b d left all right given) words = record {
  alias = alias_worded m d given (all_right IsWordToken b (c ∷ d) words.1).1;
  outputs = separated_all S.Semicolon SpellsOutputStream (λ o. is_word o.name.what ≡ true) output_worded ys b all (all_left IsWordToken b (c ∷ d) words.1);
  named = λ none empty. some_streams ys b all empty;
}
head_worded xs l a (U.no_stream o c n b left right given) words = record { alias = alias_worded (Some n) b given words.1.1; outputs = tt; named = λ none empty. cc }

invocation_worded : (i : Invocation) (a : List Token) → SpellsInvocation i a → AreWords a → IsWorded i
invocation_worded i a (U.invocation at xs l q t o c n ps x b d e head begins assign name left inputs right end) words =
    let h = head_worded xs l b head (all_left IsWordToken b (q ∷ t ∷ o ∷ (d ++ c ∷ e)) words) in
    record { alias = h.alias; outputs = h.outputs; named = h.named }

-- ---- units

abbrev IsDefinitionWorded : Definition → Type 0
IsDefinitionWorded (D.Composite c) = AllByRecursion IsWorded c.graph
IsDefinitionWorded _ = Unit {0}

graph_worded : (xs : List Invocation) (e : List Token) → U.Clause K.Graph SpellsInvocation xs e → AreWords e → AllByRecursion IsWorded xs
graph_worded xs e U.no_clause words = tt
graph_worded xs e (U.clause t ys a is row) words = row_all SpellsInvocation IsWorded invocation_worded ys a row words.1

composite_worded : (c : Composite) (a : List Token) → SpellsComposite c a → AreWords a → AllByRecursion IsWorded c.graph
composite_worded c a (U.composite w t o r n us is ps ts xs gs z b d e f g public head_word name ports left params types graph config right) words =
    let behind = (all_right IsWordToken z (w ∷ t ∷ (b ++ o ∷ (d ++ (e ++ (f ++ (g ++ r ∷ [])))))) words).1.1 in
    let inside = (all_right IsWordToken b (o ∷ (d ++ (e ++ (f ++ (g ++ r ∷ []))))) behind).1 in
    let rest = all_right IsWordToken e (f ++ (g ++ r ∷ [])) (all_right IsWordToken d (e ++ (f ++ (g ++ r ∷ []))) inside) in
    graph_worded xs f graph (all_left IsWordToken f (g ++ r ∷ []) rest)

definition_worded : (d : Definition) (a : List Token) → SpellsDefinition d a → AreWords a → IsDefinitionWorded d
definition_worded d a (U.a_typedef w x b is spells) words = tt
definition_worded d a (U.a_function x b spells) words = tt
definition_worded d a (U.a_composite x b spells) words = composite_worded x b spells words

unit_worded : (unit : List Definition) (a : List Token) → SpellsUnit unit a → AreWords a → AllByRecursion IsDefinitionWorded unit
unit_worded unit a (U.unit xs b c space row) words = row_all SpellsDefinition IsDefinitionWorded definition_worded xs c row (all_right IsWordToken b c words)

in_composites : (unit : List Definition) → AllByRecursion IsDefinitionWorded unit → (k : ℕ) (c : Composite) → slice_get (composites unit) k ≡ Some c → AllByRecursion IsWorded c.graph
in_composites [] all k c at = absurd cc
in_composites (D.Type t ∷ unit) all k c at = in_composites unit all.1 k c at
in_composites (D.Function f ∷ unit) all k c at = in_composites unit all.1 k c at
in_composites (D.Composite d ∷ unit) all zero c at = subst (λ (x : Composite). AllByRecursion IsWorded x.graph) (same_Some d c at) all.0
in_composites (D.Composite d ∷ unit) all (suc k) c at = in_composites unit all.1 k c at

module _ (unit : List Definition) (all : AllByRecursion IsDefinitionWorded unit) (g : Graph) where
  invocation_is_worded : (s : Site) (i : Invocation) → invocation_at unit g.expansions s ≡ Some i → IsWorded i
  invocation_is_worded s i at =
      let c = then_gives (λ (c : Composite). slice_get c.graph s.invocation) (option_and_then (composite_of unit) (slice_get g.expansions s.expansion)) i at in
      let x = then_gives (composite_of unit) (slice_get g.expansions s.expansion) c.0 c.1 in
      all_at IsWorded c.0.graph s.invocation i (in_composites unit all x.0.composite c.0 x.2) c.2

  name_is_word : (i : Invocation) (name : List ℕ) → IsWorded i → IsName i name → is_word name ≡ true
  name_is_word i name w (by_alias n is) = w.alias n is
  name_is_word i name w (by_stream o os none is) = (subst (λ (xs : List OutputStream). AllByRecursion (λ o. is_word o.name.what ≡ true) xs) is w.outputs).0
  name_is_word i name w (without none empty) = absurd (w.named none empty)

  -- after the prefix of a body
  behind_prefix : (n : ℕ) (way prefix : List ℕ) → Lies unit g n way prefix → (rest : List ℕ) → IsDotted rest → IsDotted (prefix ++ rest)
  behind_prefix n way prefix (in_main m x at none) rest d = d
  behind_prefix n way prefix (in_body m x s i name w p at is there named lies) rest d =
      let own = name_is_word i name (invocation_is_worded s i there) named in
      let whole = behind_prefix s.expansion w p lies (name ++ codes "." ++ rest) (dotted name rest own d) in
      let same : p ++ name ++ codes "." ++ rest ≡ p ++ (name ++ codes "." ++ rest) = append_assoc (p ++ name) (codes ".") rest ∙ append_assoc p name (codes "." ++ rest) ∙ ap (λ z. p ++ z) (sym (append_assoc name (codes ".") rest)) in
      subst IsDotted (sym same) whole

pub dotted_law : DottedLaw
dotted_law bytes ts unit names g lexed spells flat n op at =
    let all = unit_worded unit ts.list (unit_from_lines unit ts.list spells) (cut_words 0 bytes ts.list (cut_law bytes ts lexed).0) in
    let named = name_law unit names g flat n op at in
    let own = named.3 in
    let is_own = name_is_word unit all g own.invocation own.name (invocation_is_worded unit all g op.site own.invocation own.there) own.own in
    subst IsDotted (sym own.is) (behind_prefix unit all g op.site.expansion named.2.outer named.1 named.2.body own.name (word own.name is_own))
