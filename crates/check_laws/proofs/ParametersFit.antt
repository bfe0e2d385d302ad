-- The values of the parameters that an operator is given fit it.
use Rattle.std.specs.Prelude.{◌≡◌, ◌==◌, ◌<◌, ℕ, zero, suc, Bool, true, false, ◌||◌, IsTrue, List, [], ◌∷◌, length, Option, Some, None, Ok, slice_get, if◌then◌else◌, codes}
use Rattle.std.specs.List.{list_any}
use Rattle.std.specs.Str.{bytes_eq}
use Rattle.std.specs.Cmp.Lexicographic.{bytes_decides}
use Rattle.std.proofs.Common.{refl, sym, ap, subst, ◌∙◌, arith}
use Rattle.spl_value.specs.declared.types.IntKind.{IntKind}
use Rattle.spl_value.specs.declared.types.Named.{Named}
use Rattle.spl_value.specs.declared.types.SplType.{SplType}
use Rattle.spl_value.specs.declared.types.SplType.TheOpen as T
use Rattle.spl_value.specs.declared.types.SplType.TheOpen.{SplType-F}
use Rattle.spl_value.specs.declared.types.SplType.TheVariants as S
use Rattle.spl_value.specs.declared.types.SplType.TheViews.{out-SplType}
use Rattle.spl_tree.specs.declared.code.Code.{Code}
use Rattle.spl_tree.specs.declared.code.Slot.{Slot}
use Rattle.spl_tree.specs.declared.expression.ExprKind.{ExprKind}
use Rattle.spl_tree.specs.declared.expression.ExprKind.TheOpen as X
use Rattle.spl_tree.specs.declared.expression.ExprKind.TheOpen.{ExprKind-F}
use Rattle.spl_tree.specs.declared.expression.ExprKind.TheViews.{out-ExprKind}
use Rattle.spl_tree.specs.declared.graph.OpKind.{OpKind}
use Rattle.spl_tree.specs.declared.unit.Parameter.{Parameter}
use Rattle.spl_tree.specs.Trees.{Expr}
use Rattle.language_model.specs.declared.checked.Given.{Given}
use Rattle.language_model.specs.declared.checked.ParameterValue.{ParameterValue}
use Rattle.language_model.specs.declared.checked.ParameterValue.TheVariants as V
use Rattle.language_model.specs.declared.checked.Position.TheVariants as P
use Rattle.language_model.specs.declared.kinds.Role.{Role}
use Rattle.language_model.specs.declared.kinds.Role.TheVariants as R
use Rattle.language_model.specs.declared.scope.Scope.{Scope}
use Rattle.language_model.specs.Checking.{as_code, as_file, as_places, there, parameters_checked}
use Rattle.language_model.proofs.parts.Checking.{if_given}
use Rattle.language_model.specs.CodeFits.{CodeFits}
use Rattle.language_model.specs.FitLaws.{DollarsFit}
use Rattle.language_model.specs.Keeping.{ConditionFits, KeysFit, Once}
use Rattle.language_model.specs.Literals.{file_or_mismatch, file_typing, level_file, level_text}
use Rattle.language_model.specs.parts.Literals.{is_file_name, text_at}
use Rattle.language_model.specs.ParameterTyping.{Site, extra, key_of, keys_typing, missing, needed, one_value, parameter_typing, parameters_typing, role_of, single_value, value_given, value_typing}
use Rattle.language_model.specs.parts.ParameterTyping.{first_schema, format_of, level_key, parsing_of, position_of, some_keys, word_of}
use Rattle.language_model.proofs.parts.ParameterTyping.{key_at}
use Rattle.language_model.specs.Scopes.{At, attribute_of}
use Rattle.language_model.proofs.Standing.{Bears, attribute_there}
use Rattle.language_model.specs.Typing.{after, level_index, mismatch, typing}
use Rattle.check_laws.proofs.Accepting.{TypingGives, gives_if, none_at, typed_fits, wanted_fits}
use Rattle.language_model.proofs.FoundAnswers.{Gives, gives_after, gives_then}
use Rattle.spl_value.proofs.Lists.{any_first as in_front}
use Rattle.check_laws.proofs.FileParameters.{given_there}
use Rattle.language_model.proofs.Wanting.{rolled}

-- ---- files

abbrev IsName : List ℕ → Type 0
IsName bytes = IsTrue (is_file_name bytes)

literal_file : (at : ℕ) (bytes : List ℕ) → Gives IsName (file_or_mismatch at bytes)
literal_file at bytes = gives_if IsName (is_file_name bytes) (Ok bytes) (mismatch at) (λ holds. holds) (λ other. tt)

text_file : (at : ℕ) (x : ExprKind-F ExprKind) → Gives IsName (level_text at x)
text_file at (X.Text bytes) = literal_file at bytes
text_file at _ = tt

file_at : (at : ℕ) (o : Option Expr) → Gives IsName (text_at at o)
file_at at None = tt
file_at at (Some e) = text_file at (out-ExprKind e.what)

level_file_fits : (scope : Scope) (follow : Expr → Option Expr) (e : Expr) (x : ExprKind-F ExprKind) → Gives IsName (level_file scope follow e x)
level_file_fits scope follow e (X.Text bytes) = literal_file e.at bytes
level_file_fits scope follow e (X.Dollar name) = gives_then IsName (typing scope e (Some S.Text)) _ (λ t is. file_at e.at (follow e))
level_file_fits scope follow e _ = tt

file_fits : (scope : Scope) (follow : Expr → Option Expr) (e : Expr) → Gives IsName (file_typing scope follow e)
file_fits scope follow e = level_file_fits scope follow e (out-ExprKind e.what)

-- ---- keys

-- keys after others
record Keys (schema : List (Named SplType)) (before places : List ℕ) : Type 0 where
  fit : KeysFit schema places
  apart : (i p : ℕ) → slice_get places i ≡ Some p → list_any (λ n. n == p) before ≡ false

-- one after others
record Key (schema : List (Named SplType)) (before : List ℕ) (place : ℕ) : Type 0 where
  attribute : Named SplType
  there : slice_get schema place ≡ Some attribute
  key : IsTrue (level_key (out-SplType attribute.kind))
  apart : list_any (λ n. n == place) before ≡ false

key_fits : (at : ℕ) (name : List ℕ) (schema : List (Named SplType)) (before : List ℕ) (o : Option (At (Named SplType))) → Bears (λ a. a.name) schema name o
    → Gives (Key schema before) (key_at at name before o)
key_fits at name schema before None h = tt
key_fits at name schema before (Some a) h =
    gives_if (Key schema before) (level_key (out-SplType a.what.kind)) (if list_any (λ n. n == a.place) before then mismatch at else Ok a.place) (mismatch at) (λ key.
    gives_if (Key schema before) (list_any (λ n. n == a.place) before) (mismatch at) (Ok a.place) (λ twice. tt) (λ apart.
    record { attribute = a.what; there = h.0; key = key; apart = apart })) (λ other. tt)

named_key : (schema : List (Named SplType)) (before : List ℕ) (at : ℕ) (o : Option (List ℕ)) → Gives (Key schema before) (key_of schema before at o)
named_key schema before at None = tt
named_key schema before at (Some name) = key_fits at name schema before (attribute_of schema name) (attribute_there schema name)

-- of a list in which no number comes again
no_keys : (schema : List (Named SplType)) (before : List ℕ) → Keys schema before []
no_keys schema before = record {
  fit = record { keys = λ i p e. absurd (none_at i p e); once = λ i j p e f. absurd (none_at i p e) };
  apart = λ i p e. absurd (none_at i p e);
}

not_in_front : (place p : ℕ) (before : List ℕ) → Some place ≡ Some p → list_any (λ n. n == p) (place ∷ before) ≡ false → ⊥
not_in_front place p before same apart =
    let equal : place ≡ p = cc in
    let found : list_any (λ n. n == p) (place ∷ before) ≡ true = subst (λ q. list_any (λ n. n == q) (place ∷ before) ≡ true) equal (in_front place before) in
    cc

behind_front : (place p : ℕ) (before : List ℕ) → list_any (λ n. n == p) (place ∷ before) ≡ false → list_any (λ n. n == p) before ≡ false
behind_front place p before apart =
    elim (place == p) as (λ b. (b || list_any (λ n. n == p) before) ≡ false → list_any (λ n. n == p) before ≡ false) [
      | true ↦ λ e. absurd cc
      | false ↦ λ e. e
    ] apart

key_more : (schema : List (Named SplType)) (before : List ℕ) (place : ℕ) (places : List ℕ) → Key schema before place → Keys schema (place ∷ before) places
    → Keys schema before (place ∷ places)
key_more schema before place places key rest = record {
  fit = record { keys = keys; once = once };
  apart = apart;
}
  where
    keys : (i p : ℕ) → slice_get (place ∷ places) i ≡ Some p → (a : Named SplType) × (slice_get schema p ≡ Some a) × IsTrue (level_key (out-SplType a.kind))
    keys zero p e = let same : place ≡ p = cc in (key.attribute, subst (λ q. slice_get schema q ≡ Some key.attribute) same key.there, key.key)
    keys (suc i) p e = rest.fit.keys i p e

    once : Once (place ∷ places)
    once zero zero p e f = refl
    once zero (suc j) p e f = absurd (not_in_front place p before e (rest.apart j p f))
    once (suc i) zero p e f = absurd (not_in_front place p before f (rest.apart i p e))
    once (suc i) (suc j) p e f = ap suc (rest.fit.once i j p e f)

    apart : (i p : ℕ) → slice_get (place ∷ places) i ≡ Some p → list_any (λ n. n == p) before ≡ false
    apart zero p e = let same : place ≡ p = cc in subst (λ q. list_any (λ n. n == q) before ≡ false) same key.apart
    apart (suc i) p e = behind_front place p before (rest.apart i p e)

keys_fit : (schema : List (Named SplType)) (before : List ℕ) (es : List Expr) → Gives (Keys schema before) (keys_typing schema before es)
keys_fit schema before [] = no_keys schema before
keys_fit schema before (e ∷ es) =
    gives_after (Key schema before) (Keys schema before) (key_of schema before e.at (word_of e)) _ (named_key schema before e.at (word_of e)) (λ place key.
    gives_after (Keys schema (place ∷ before)) (Keys schema before) (keys_typing schema (place ∷ before) es) _ (keys_fit schema (place ∷ before) es) (λ places rest.
    key_more schema before place places key rest))

-- one key or more
abbrev pub SomeKeys : List (Named SplType) → List ℕ → Type 0
SomeKeys schema places = KeysFit schema places × (0 < length places)

some_fit : (at : ℕ) (schema : List (Named SplType)) (es : List Expr) → Gives (SomeKeys schema) (some_keys at schema es)
some_fit at schema [] = tt
some_fit at schema (e ∷ es) =
    gives_after (Key schema []) (SomeKeys schema) (key_of schema [] e.at (word_of e)) _ (named_key schema [] e.at (word_of e)) (λ place key.
    gives_after (Keys schema (place ∷ [])) (SomeKeys schema) (keys_typing schema (place ∷ []) es) _ (keys_fit schema (place ∷ []) es) (λ places rest.
    ((key_more schema [] place places key rest).fit, omega arith)))

-- ---- values

-- the value of a parameter
abbrev pub ValueFits : Scope → Role → ParameterValue → Type 0
ValueFits scope R.File (V.File bytes) = IsTrue (is_file_name bytes)
ValueFits scope R.Format V.Format = Unit {0}
ValueFits scope R.Parsing (V.Strict strict) = Unit {0}
ValueFits scope R.Position (V.Position position) = Unit {0}
ValueFits scope R.Condition (V.Code code) = CodeFits scope code S.Bool
ValueFits scope R.Index (V.Code code) = (kind : IntKind) × CodeFits scope code (S.Int kind)
ValueFits scope R.Attributes (V.Places places) = SomeKeys (first_schema scope.ports) places
ValueFits scope _ _ = ⊥

format_fits : (scope : Scope) (at : ℕ) (o : Option (List ℕ)) → Gives (ValueFits scope R.Format) (format_of at o)
format_fits scope at None = tt
format_fits scope at (Some word) = gives_if (ValueFits scope R.Format) (bytes_eq word (codes "csv")) (Ok V.Format) (mismatch at) (λ is. tt) (λ other. tt)

parsing_fits : (scope : Scope) (at : ℕ) (o : Option (List ℕ)) → Gives (ValueFits scope R.Parsing) (parsing_of at o)
parsing_fits scope at None = tt
parsing_fits scope at (Some word) =
    gives_if (ValueFits scope R.Parsing) (bytes_eq word (codes "strict")) (Ok (V.Strict true))
    (if bytes_eq word (codes "permissive") then Ok (V.Strict false) else mismatch at) (λ is. tt) (λ other.
    gives_if (ValueFits scope R.Parsing) (bytes_eq word (codes "permissive")) (Ok (V.Strict false)) (mismatch at) (λ is. tt) (λ last. tt))

position_fits : (scope : Scope) (at : ℕ) (o : Option (List ℕ)) → Gives (ValueFits scope R.Position) (position_of at o)
position_fits scope at None = tt
position_fits scope at (Some word) =
    gives_if (ValueFits scope R.Position) (bytes_eq word (codes "before")) (Ok (V.Position P.Before))
    (if bytes_eq word (codes "after") then Ok (V.Position P.After) else mismatch at) (λ is. tt) (λ other.
    gives_if (ValueFits scope R.Position) (bytes_eq word (codes "after")) (Ok (V.Position P.After)) (mismatch at) (λ is. tt) (λ last. tt))

index_fits : (scope : Scope) (at : ℕ) (code : Code Slot) (t : SplType) (x : SplType-F SplType) → out-SplType t ≡ x → CodeFits scope code t
    → Gives (ValueFits scope R.Index) (after (level_index at code x) (λ code. Ok (V.Code code)))
index_fits scope at code t (T.Int kind) is h = (kind, subst (CodeFits scope code) (rolled t (T.Int kind) (S.Int kind) is (S.rolls-Int kind)) h)
index_fits scope at code t _ is h = tt

single_fits : TypingGives → (site : Site) → DollarsFit site.scope.dollars → (role : Role) (e : Expr) → Gives (ValueFits site.scope role) (single_value site role e)
single_fits laws site fine R.File e =
    gives_after IsName (ValueFits site.scope R.File) (file_typing site.scope site.follow e) _ (file_fits site.scope site.follow e) (λ bytes h. h)
single_fits laws site fine R.Format e = format_fits site.scope e.at (word_of e)
single_fits laws site fine R.Parsing e = parsing_fits site.scope e.at (word_of e)
single_fits laws site fine R.Position e = position_fits site.scope e.at (word_of e)
single_fits laws site fine R.Condition e =
    gives_then (ValueFits site.scope R.Condition) (typing site.scope e (Some S.Bool)) _ (λ t is. wanted_fits laws site.scope fine e S.Bool t is)
single_fits laws site fine R.Index e =
    gives_then (ValueFits site.scope R.Index) (typing site.scope e None) _ (λ t is.
    index_fits site.scope e.at t.code t.kind (out-SplType t.kind) refl (typed_fits laws site.scope fine e t is))
single_fits laws site fine R.Attributes e = tt

one_fits : (scope : Scope) (role : Role) (site : Site) (at : ℕ) (es : List Expr) → ((e : Expr) → Gives (ValueFits scope role) (single_value site role e))
    → Gives (ValueFits scope role) (one_value at (single_value site role) es)
one_fits scope role site at [] h = tt
one_fits scope role site at (e ∷ []) h = h e
one_fits scope role site at (e ∷ d ∷ es) h = gives_then (ValueFits scope role) (single_value site role e) _ (λ x is. tt)

value_fits : TypingGives → (site : Site) → DollarsFit site.scope.dollars → (p : Parameter) (role : Role) → Gives (ValueFits site.scope role) (value_typing site p role)
value_fits laws site fine p R.Attributes =
    gives_after (SomeKeys (first_schema site.scope.ports)) (ValueFits site.scope R.Attributes) (some_keys p.name.at (first_schema site.scope.ports) p.values) _
    (some_fit p.name.at (first_schema site.scope.ports) p.values) (λ places keys. keys)
value_fits laws site fine p role = one_fits site.scope role site p.name.at p.values (single_fits laws site fine role)

-- ---- the clause

-- a parameter that an operator has, with a value for it
abbrev GivenFits : Scope → Option Role → ParameterValue → Type 0
GivenFits scope o value = (role : Role) × (o ≡ Some role) × ValueFits scope role value

-- those by their names
abbrev pub AllFit : Scope → OpKind → Bool → List Given → Type 0
AllFit scope kind partitioned given =
    (name : List ℕ) (value : ParameterValue) → value_given given name ≡ Some value → (role : Role) × (role_of kind partitioned name ≡ Some role) × ValueFits scope role value

abbrev OneFits : Scope → List ℕ → Option Role → Given → Type 0
OneFits scope name o g = (g.name ≡ name) × GivenFits scope o g.value

one_given : TypingGives → (site : Site) → DollarsFit site.scope.dollars → (before : List (List ℕ)) (p : Parameter) (o : Option Role)
    → Gives (OneFits site.scope p.name.what o) (parameter_typing site before p o)
one_given laws site fine before p None = tt
one_given laws site fine before p (Some role) =
    gives_if (OneFits site.scope p.name.what (Some role)) (list_any (λ name. bytes_eq name p.name.what) before) (extra p)
    (after (value_typing site p role) (λ value. Ok (record { name = p.name.what; value = value }))) (λ twice. tt) (λ first.
    gives_after (ValueFits site.scope role) (OneFits site.scope p.name.what (Some role)) (value_typing site p role) _ (value_fits laws site fine p role) (λ value h.
    (refl, (role, refl, h))))

given_more : (scope : Scope) (kind : OpKind) (partitioned : Bool) (g : Given) (gs : List Given) (own : List ℕ)
    → OneFits scope own (role_of kind partitioned own) g → AllFit scope kind partitioned gs → AllFit scope kind partitioned (g ∷ gs)
given_more scope kind partitioned g gs own one rest name value =
    elim (bytes_eq g.name name) as (λ b. bytes_eq g.name name ≡ b → (if b then Some g.value else value_given gs name) ≡ Some value
    → GivenFits scope (role_of kind partitioned name) value) [
      | true ↦ λ same e.
          let named : own ≡ name = sym one.0 ∙ (bytes_decides g.name name).0 same in
          let equal : g.value ≡ value = cc in
          subst (λ v. GivenFits scope (role_of kind partitioned name) v) equal (subst (λ n. GivenFits scope (role_of kind partitioned n) g.value) named one.1)
      | false ↦ λ other e. rest name value e
    ] refl

all_given : TypingGives → (site : Site) → DollarsFit site.scope.dollars → (kind : OpKind) (partitioned : Bool) (before : List (List ℕ)) (ps : List Parameter)
    → Gives (AllFit site.scope kind partitioned) (parameters_typing site kind partitioned before ps)
all_given laws site fine kind partitioned before [] = λ name value e. absurd cc
all_given laws site fine kind partitioned before (p ∷ ps) =
    gives_after (OneFits site.scope p.name.what (role_of kind partitioned p.name.what)) (AllFit site.scope kind partitioned)
    (parameter_typing site before p (role_of kind partitioned p.name.what)) _ (one_given laws site fine before p (role_of kind partitioned p.name.what)) (λ g one.
    gives_after (AllFit site.scope kind partitioned) (AllFit site.scope kind partitioned) (parameters_typing site kind partitioned (p.name.what ∷ before) ps) _
    (all_given laws site fine kind partitioned (p.name.what ∷ before) ps) (λ gs rest.
    given_more site.scope kind partitioned g gs p.name.what one rest))

-- the parameters of an operator fit, and none is missing
pub record ParametersFit (scope : Scope) (kind : OpKind) (partitioned : Bool) (given : List Given) : Type 0 where
  pub all : AllFit scope kind partitioned given
  pub there : missing given (needed kind partitioned) ≡ None

none_missing : (scope : Scope) (kind : OpKind) (partitioned : Bool) (at : ℕ) (given : List Given) (o : Option (List ℕ)) → missing given (needed kind partitioned) ≡ o
    → AllFit scope kind partitioned given → Gives (ParametersFit scope kind partitioned) (if_given at o given)
none_missing scope kind partitioned at given None e all = record { all = all; there = e }
none_missing scope kind partitioned at given (Some name) e all = tt

pub parameters_fit : TypingGives → (site : Site) → DollarsFit site.scope.dollars → (kind : OpKind) (partitioned : Bool) (at : ℕ) (ps : List Parameter)
    → Gives (ParametersFit site.scope kind partitioned) (parameters_checked site kind partitioned at ps)
parameters_fit laws site fine kind partitioned at ps =
    gives_after (AllFit site.scope kind partitioned) (ParametersFit site.scope kind partitioned) (parameters_typing site kind partitioned [] ps) _
    (all_given laws site fine kind partitioned [] ps) (λ given all.
    none_missing site.scope kind partitioned at given (missing given (needed kind partitioned)) refl all)

-- ---- values by names

-- a value, where it is given, is one for the role
abbrev pub AsRole : Scope → Role → Option ParameterValue → Type 0
AsRole scope role o = (value : ParameterValue) → o ≡ Some value → ValueFits scope role value

pub as_role : (scope : Scope) (kind : OpKind) (partitioned : Bool) (given : List Given) (name : List ℕ) (role : Role) → AllFit scope kind partitioned given
    → role_of kind partitioned name ≡ Some role → AsRole scope role (value_given given name)
as_role scope kind partitioned given name role all is value e =
    let found : GivenFits scope (role_of kind partitioned name) value = all name value e in
    let first : role_of kind partitioned name ≡ Some found.0 = found.1 in
    let same : found.0 ≡ role = cc in
    subst (λ r. ValueFits scope r value) same found.2

pub condition_given : (scope : Scope) (o : Option ParameterValue) → AsRole scope R.Condition o → ConditionFits scope (as_code o)
condition_given scope None h = tt
condition_given scope (Some (V.Code code)) h = h (V.Code code) refl
condition_given scope (Some value) h = tt

pub condition_there : (scope : Scope) (at : ℕ) (o : Option ParameterValue) → AsRole scope R.Condition o → Gives (λ code. CodeFits scope code S.Bool) (there at (as_code o))
condition_there scope at None h = tt
condition_there scope at (Some (V.Code code)) h = h (V.Code code) refl
condition_there scope at (Some value) h = tt

pub index_there : (scope : Scope) (at : ℕ) (o : Option ParameterValue) → AsRole scope R.Index o
    → Gives (λ code. (kind : IntKind) × CodeFits scope code (S.Int kind)) (there at (as_code o))
index_there scope at None h = tt
index_there scope at (Some (V.Code code)) h = h (V.Code code) refl
index_there scope at (Some value) h = tt

pub places_there : (scope : Scope) (o : Option ParameterValue) → AsRole scope R.Attributes o → KeysFit (first_schema scope.ports) (as_places o)
places_there scope None h = (no_keys (first_schema scope.ports) []).fit
places_there scope (Some (V.Places places)) h = (h (V.Places places) refl).0
places_there scope (Some value) h = (no_keys (first_schema scope.ports) []).fit

file_in : (scope : Scope) (o : Option ParameterValue) (value : ParameterValue) → o ≡ Some value → ValueFits scope R.File value → IsTrue (is_file_name (as_file o))
file_in scope o (V.File bytes) e h = subst (λ v. IsTrue (is_file_name (as_file v))) (sym e) h
file_in scope o _ e h = absurd h

pub file_there : (scope : Scope) (given : List Given) (name : List ℕ) → AsRole scope R.File (value_given given name) → missing given (name ∷ []) ≡ None
    → IsTrue (is_file_name (as_file (value_given given name)))
file_there scope given name h none =
    let found = given_there given name none in file_in scope (value_given given name) found.0 found.1 (h found.0 found.1)

some_in : (scope : Scope) (o : Option ParameterValue) (value : ParameterValue) → o ≡ Some value → ValueFits scope R.Attributes value → 0 < length (as_places o)
some_in scope o (V.Places places) e h = subst (λ v. 0 < length (as_places v)) (sym e) h.1
some_in scope o _ e h = absurd h

pub some_there : (scope : Scope) (given : List Given) (name : List ℕ) → AsRole scope R.Attributes (value_given given name) → missing given (name ∷ []) ≡ None
    → 0 < length (as_places (value_given given name))
some_there scope given name h none =
    let found = given_there given name none in some_in scope (value_given given name) found.0 found.1 (h found.0 found.1)
