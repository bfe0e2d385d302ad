-- The expression that a `$` parameter means has the type and the code of the parameter.
use Rattle.std.specs.Prelude.{◌≡◌, ◌<◌, ◌+◌, ◌==◌, ◌&&◌, ◌++◌, not, ℕ, zero, suc, Bool, true, false, List, [], ◌∷◌, length, if◌then◌else◌, Option, Some, None, Ok, Err, slice_get}
use Rattle.std.specs.Cmp.Lexicographic.{bytes_decides}
use Rattle.std.specs.Option.{option_and_then, option_map, option_map_or}
use Rattle.std.specs.Str.{bytes_eq}
use Rattle.std.proofs.Common.{refl, sym, ap, subst, ◌∙◌, arith}
use Rattle.std.proofs.lemmas.List.{append-nil, append_assoc, length-append}
use Rattle.std.proofs.lemmas.Bool.{eqb-true}
use Rattle.std.proofs.lemmas.Option.{slice_get_within}
use Rattle.spl_value.specs.declared.types.SplType.{SplType}
use Rattle.spl_tree.specs.declared.expression.ExprKind.TheOpen as X
use Rattle.spl_tree.specs.declared.expression.ExprKind.TheOpen.{ExprKind-F}
use Rattle.spl_tree.specs.declared.expression.ExprKind.{ExprKind}
use Rattle.spl_tree.specs.declared.expression.ExprKind.TheViews.{out-ExprKind}
use Rattle.spl_tree.specs.declared.graph.Expansion.{Expansion}
use Rattle.spl_tree.specs.declared.graph.Graph.{Graph}
use Rattle.spl_tree.specs.declared.graph.Site.{Site}
use Rattle.spl_tree.specs.declared.unit.Composite.{Composite}
use Rattle.spl_tree.specs.declared.unit.CompositeParameter.{CompositeParameter}
use Rattle.spl_tree.specs.declared.unit.Definition.{Definition}
use Rattle.spl_tree.specs.declared.unit.Parameter.{Parameter}
use Rattle.spl_tree.specs.Trees.{Expr}
use Rattle.language_model.specs.declared.scope.Dollar.{Dollar}
use Rattle.language_model.specs.declared.scope.Typed.{Typed}
use Rattle.language_model.specs.DollarTargets.{Target, Here, Outside, Nowhere, arguments_of, composite_of, default_named, expression_within, heads_of, here_or, invocation_at, level_target, parameter_target, target, value_named}
use Rattle.language_model.specs.Expansion.{Inlined, Made}
use Rattle.language_model.specs.Numbering.{expansions_from}
use Rattle.language_model.proofs.parts.Numbering.{expansion_of}
use Rattle.language_model.specs.Parameters.{Tables, constant_scope, constant_typing, dollar_tables, expansion_dollars, has_meaning, own_from, own_within, parameter_leads, parameter_place, parameter_typing, table_at, tables_from}
use Rattle.language_model.specs.Leading.{leads_back}
use Rattle.language_model.specs.parts.Parameters.{is_constant}
use Rattle.language_model.specs.Scopes.{at_place, dollar_of, first_from}
use Rattle.language_model.specs.TypeNames.{Types, composite_types, type_meant}
use Rattle.language_model.specs.Typing.{Found, after, as_wanted, level_typed, mismatch, same_types, typing, unknown}
use Rattle.language_model.proofs.FoundAnswers.{after_gives, same_Ok}
use Rattle.language_model.proofs.TypingLaws.{typed_at}
use Rattle.graph_laws.proofs.ExpansionAnswers.{expansion_at}
use Rattle.graph_laws.proofs.Inlining.{IsLater, main_holds}
use Rattle.check_laws.specs.DollarMeantLaw.{DollarMeantLaw, IsTypedAs}
use Rattle.check_laws.proofs.UnitGraphs.{from_main, is_made}

-- ---- an expression that is typed

abbrev IsTyped : List Dollar → Expr → SplType → Typed → Type 0
IsTyped given e u t = typing (constant_scope given) e (Some u) ≡ Ok t

constant_typed : (given : List Dollar) (e : Expr) (u : SplType) (t : Typed) → constant_typing given e u ≡ Ok t → IsTyped given e u t
constant_typed given e u t h =
    elim (is_constant e) as (λ b. (if b then typing (constant_scope given) e (Some u) else mismatch e.at) ≡ Ok t → IsTyped given e u t) [
      | true ↦ λ is. is
      | false ↦ λ is. absurd cc
    ] h

same_wanted : (at : ℕ) (u : SplType) (x t : Typed) → as_wanted at (Some u) x ≡ Ok t → x ≡ t
same_wanted at u x t h =
    elim (same_types x.kind u) as (λ b. (if b then Ok x else mismatch at) ≡ Ok t → x ≡ t) [
      | true ↦ λ is. same_Ok is
      | false ↦ λ is. absurd cc
    ] h

-- a `$` parameter has the type and the code that it is given
dollar_given : (given : List Dollar) (e : Expr) (u : SplType) (t : Typed) (name : List ℕ) → out-ExprKind e.what ≡ X.Dollar name → IsTyped given e u t
    → dollar_of given name ≡ Some (Ok t)
dollar_given given e u t name is typed =
    by_found (dollar_of given name) (sym (ap (λ f. f e.at (constant_scope given) (Some u)) (typed_at e.what (X.Dollar name) is)) ∙ typed)
  where
    by_found : (o : Option (Found Typed)) → after (option_map_or (λ found. found) o (unknown e.at name)) (as_wanted e.at (Some u)) ≡ Ok t → o ≡ Some (Ok t)
    by_found None h = absurd cc
    by_found (Some (Err r)) h = absurd cc
    by_found (Some (Ok x)) h = ap (λ (y : Typed). Some (Ok y)) (same_wanted e.at u x t h)

-- ---- the parameters of one expansion

-- the parameter of the name among those from a place on
record Entry (passes : ℕ → CompositeParameter → Bool) (found : CompositeParameter → Found Typed) (place : ℕ) (ps : List CompositeParameter) (name : List ℕ) (t : Typed) : Type 0 where
  pub index : ℕ
  pub parameter : CompositeParameter
  pub there : slice_get ps index ≡ Some parameter
  pub passed : passes (place + index) parameter ≡ true
  pub named : bytes_eq parameter.name.what name ≡ true
  pub gives : found parameter ≡ Ok t

module _ (passes : ℕ → CompositeParameter → Bool) (found : CompositeParameter → Found Typed) (name : List ℕ) (t : Typed) where
  abbrev looked_for : ℕ → List Dollar → Option (Found Typed)
  looked_for j ds = option_map (λ d. d.what.found) (first_from (λ d. bytes_eq d.name name) j ds)

  one_later : (place : ℕ) (p : CompositeParameter) (ps : List CompositeParameter) → Entry passes found (suc place) ps name t → Entry passes found place (p ∷ ps) name t
  one_later place p ps x = record {
    index = suc x.index;
    parameter = x.parameter;
    there = x.there;
    passed = let same : place + suc x.index ≡ suc place + x.index = omega arith in ap (λ n. passes n x.parameter) same ∙ x.passed;
    named = x.named;
    gives = x.gives;
  }

  abbrev said : CompositeParameter → Dollar
  said p = record { name = p.name.what; found = found p }

  by_name : (j place : ℕ) (p : CompositeParameter) (ps : List CompositeParameter) (b : Bool) → bytes_eq p.name.what name ≡ b → passes place p ≡ true
      → ((i : ℕ) → looked_for i (own_from passes found (suc place) ps) ≡ Some (Ok t) → Entry passes found (suc place) ps name t)
      → option_map (λ d. d.what.found) (if b then Some (at_place j (said p)) else first_from (λ d. bytes_eq d.name name) (suc j) (own_from passes found (suc place) ps)) ≡ Some (Ok t)
      → Entry passes found place (p ∷ ps) name t
  by_name j place p ps true named passed rest h = record {
    index = 0;
    parameter = p;
    there = refl;
    passed = let same : place + 0 ≡ place = omega arith in ap (λ n. passes n p) same ∙ passed;
    named = named;
    gives = cc;
  }
  by_name j place p ps false named passed rest h = one_later place p ps (rest (suc j) h)

  by_pass : (j place : ℕ) (p : CompositeParameter) (ps : List CompositeParameter) (b : Bool) → passes place p ≡ b
      → ((i : ℕ) → looked_for i (own_from passes found (suc place) ps) ≡ Some (Ok t) → Entry passes found (suc place) ps name t)
      → looked_for j ((if b then said p ∷ [] else []) ++ own_from passes found (suc place) ps) ≡ Some (Ok t) → Entry passes found place (p ∷ ps) name t
  by_pass j place p ps true passed rest h = by_name j place p ps (bytes_eq p.name.what name) refl passed rest h
  by_pass j place p ps false passed rest h = one_later place p ps (rest j h)

  entry : (j place : ℕ) (ps : List CompositeParameter) → looked_for j (own_from passes found place ps) ≡ Some (Ok t) → Entry passes found place ps name t
  entry j place [] e = absurd cc
  entry j place (p ∷ ps) e = by_pass j place p ps (passes place p) refl (λ i. entry i (suc place) ps) e

-- the default of the name is that of the first parameter of the name
first_default : (name : List ℕ) (j k : ℕ) (ps : List CompositeParameter) (p : CompositeParameter) → slice_get ps k ≡ Some p → bytes_eq p.name.what name ≡ true
    → option_map (λ q. q.place) (first_from (λ q. bytes_eq q.name.what name) j ps) ≡ Some (j + k) → default_named ps name ≡ p.default
first_default name j k [] p at named first = absurd cc
first_default name j k (q ∷ qs) p at named first =
    by_first (bytes_eq q.name.what name) refl k at first (λ i. first_default name (suc j) i qs p)
  where
    by_first : (b : Bool) → bytes_eq q.name.what name ≡ b → (k : ℕ) → slice_get (q ∷ qs) k ≡ Some p
        → option_map (λ r. r.place) (if b then Some (at_place j q) else first_from (λ r. bytes_eq r.name.what name) (suc j) qs) ≡ Some (j + k)
        → ((i : ℕ) → slice_get qs i ≡ Some p → bytes_eq p.name.what name ≡ true
        → option_map (λ r. r.place) (first_from (λ r. bytes_eq r.name.what name) (suc j) qs) ≡ Some (suc j + i) → default_named qs name ≡ p.default)
        → (if b then q.default else default_named qs name) ≡ p.default
    by_first true is zero at first rest = let same : q ≡ p = cc in ap (λ (r : CompositeParameter). r.default) same
    by_first true is (suc k) at first rest = let same : j ≡ j + suc k = cc in absurd (omega (arith, same))
    by_first false is zero at first rest =
        let same : q ≡ p = cc in
        absurd (let clash : true ≡ false = sym named ∙ sym (ap (λ (r : CompositeParameter). bytes_eq r.name.what name) same) ∙ is in cc)
    by_first false is (suc k) at first rest =
        let more : j + suc k ≡ suc j + k = omega arith in
        rest k at named (first ∙ ap (λ n. Some n) more)

-- a parameter with a meaning is the first of its name
first_place : (o : Option ℕ) (index : ℕ) (b : Bool) → (option_map_or (λ first. first == index) o false && b) ≡ true → o ≡ Some index
first_place None index b h = absurd cc
first_place (Some n) index b h = by_test (n == index) refl h
  where
    by_test : (c : Bool) → (n == index) ≡ c → (c && b) ≡ true → ◌≡◌ {A = Option ℕ} (Some n) (Some index)
    by_test true is g = ap (λ m. Some m) (eqb-true n index is)
    by_test false is g = absurd cc

meaning_first : (parameters : List CompositeParameter) (arguments : List Parameter) (place : ℕ) (p : CompositeParameter) → has_meaning parameters arguments place p ≡ true
    → parameter_place parameters p.name.what ≡ Some place
meaning_first parameters arguments place p h =
    first_place (parameter_place parameters p.name.what) place (not (leads_back (length parameters) (parameter_leads parameters arguments) place)) h

-- what is meant, and how it is typed: an expression of the expansion itself, or an argument, among the outer parameters
abbrev TargetTyped : List Dollar → List Parameter → Target → Typed → Type 0
TargetTyped outer arguments (Here e) t = ((name : List ℕ) → out-ExprKind e.what ≡ X.Dollar name → ⊥) × (given : List Dollar) × (u : SplType) × IsTyped given e u t
TargetTyped outer arguments (Outside e) t = ((name : List ℕ) × (value_named arguments name ≡ Some e)) × (u : SplType) × IsTyped outer e u t
TargetTyped outer arguments Nowhere t = ⊥

module _ (outer : List Dollar) (arguments : List Parameter) (t : Typed) where
  expression_target : (own : List Dollar) (parameter : List ℕ → Target) (e : Expr) (u : SplType)
      → ((name : List ℕ) → dollar_of own name ≡ Some (Ok t) → TargetTyped outer arguments (parameter name) t) → IsTyped own e u t
      → TargetTyped outer arguments (target parameter e) t
  expression_target own parameter e u h typed = by_form (out-ExprKind e.what) refl
    where
      by_form : (x : ExprKind-F ExprKind) → out-ExprKind e.what ≡ x → TargetTyped outer arguments (level_target parameter e x) t
      by_form (X.Dollar name) is = h name (dollar_given own e u t name is typed)
      by_form _ is = (λ name q. absurd cc, own, u, typed)

  own_target : (types : Types) (parameters : List CompositeParameter) (count : ℕ) (name : List ℕ)
      → dollar_of (own_within count types outer arguments parameters) name ≡ Some (Ok t)
      → TargetTyped outer arguments (parameter_target count parameters arguments name) t
  own_target types parameters zero name e = absurd cc
  own_target types parameters (suc count) name e =
      let own = own_within count types outer arguments parameters in
      let x = entry (has_meaning parameters arguments) (parameter_typing types outer own arguments) name t 0 0 parameters e in
      let same : x.parameter.name.what ≡ name = (bytes_decides x.parameter.name.what name).0 x.named in
      let first : parameter_place parameters name ≡ Some (0 + x.index) =
      ap (parameter_place parameters) (sym same) ∙ meaning_first parameters arguments (0 + x.index) x.parameter x.passed in
      let default = first_default name 0 x.index parameters x.parameter x.there x.named first in
      let typed = after_gives (type_meant types x.parameter.kind) (λ u. option_map_or (λ a. constant_typing outer a u) (value_named arguments x.parameter.name.what)
      (option_map_or (λ d. constant_typing own d u) x.parameter.default (unknown x.parameter.name.at x.parameter.name.what))) t x.gives in
      subst (λ d. TargetTyped outer arguments
      (option_map_or (λ a. Outside a) (value_named arguments name) (option_map_or (target (parameter_target count parameters arguments)) d Nowhere)) t)
      (sym default)
      (by_value typed.0 x.parameter (λ n. own_target types parameters count n) (value_named arguments name) refl x.parameter.default
      (ap (λ n. option_map_or (λ a. constant_typing outer a typed.0) (value_named arguments n)
      (option_map_or (λ d. constant_typing own d typed.0) x.parameter.default (unknown x.parameter.name.at x.parameter.name.what))) (sym same) ∙ typed.2))
    where
      by_value : (u : SplType) (p : CompositeParameter)
          → ((n : List ℕ) → dollar_of (own_within count types outer arguments parameters) n ≡ Some (Ok t)
          → TargetTyped outer arguments (parameter_target count parameters arguments n) t)
          → (o : Option Expr) → value_named arguments name ≡ o → (d : Option Expr)
          → option_map_or (λ a. constant_typing outer a u) o (option_map_or (λ d. constant_typing (own_within count types outer arguments parameters) d u) d (unknown p.name.at p.name.what)) ≡ Ok t
          → TargetTyped outer arguments (option_map_or (λ a. Outside a) o (option_map_or (target (parameter_target count parameters arguments)) d Nowhere)) t
      by_value u p rest (Some a) is d h = ((name, is), u, constant_typed outer a u t h)
      by_value u p rest None is (Some d) h =
          expression_target (own_within count types outer arguments parameters) (parameter_target count parameters arguments) d u
          rest (constant_typed (own_within count types outer arguments parameters) d u t h)
      by_value u p rest None is None h = absurd cc

-- ---- the parameters of all expansions

module _ (unit : List Definition) (expansions : List Expansion)
    (later : (n : ℕ) (x : Expansion) (s : Site) → slice_get expansions n ≡ Some x → x.site ≡ Some s → s.expansion < n) where
  -- these are the parameters of the expansion at a number
  abbrev Good : ℕ → List Dollar → Type 0
  Good n dollars = (name : List ℕ) (t : Typed) → dollar_of dollars name ≡ Some (Ok t) → (count : ℕ) → n < count → (e : Expr) → out-ExprKind e.what ≡ X.Dollar name
      → IsTypedAs (expression_within count unit expansions n e) t

  abbrev AllGood : ℕ → Tables → Type 0
  AllGood n tables = (m : ℕ) → Good (n + m) (table_at tables m)

  at_number : (n : ℕ) (dollars : List Dollar) → Good (0 + n) dollars → Good n dollars
  at_number n dollars h = subst (λ k. Good k dollars) (let same : 0 + n ≡ n = omega arith in same) h

  one_more : (tables : Tables) (n : ℕ) (table : List Dollar) → AllGood n tables → Good (n + length tables) table → AllGood n (tables ++ table ∷ [])
  one_more [] n table h g zero = g
  one_more [] n table h g (suc m) = λ name t none. absurd cc
  one_more (first ∷ tables) n table h g zero = h zero
  one_more (first ∷ tables) n table h g (suc m) =
      let same : suc n + m ≡ n + suc m = omega arith in
      let last : n + length (first ∷ tables) ≡ suc n + length tables = omega arith in
      subst (λ k. Good k (table_at (tables ++ table ∷ []) m)) same
      (one_more tables (suc n) table (λ k. subst (λ i. Good i (table_at tables k)) (let next : n + suc k ≡ suc n + k = omega arith in next) (h (suc k)))
      (subst (λ k. Good k table) last g) m)

  -- ---- one expansion

  module _ (before : Tables) (good : AllGood 0 before) (x : Expansion) (there : slice_get expansions (length before) ≡ Some x) where
    abbrev outer_of : Option Site → List Dollar
    outer_of o = option_map_or (λ s. table_at before s.expansion) o []

    abbrev arguments_at : Option Site → List Parameter
    arguments_at o = option_map_or (λ i. i.clauses.parameters) (option_and_then (invocation_at unit expansions) o) []

    -- where an argument stands, there is an expansion
    has_outer : (s : Site) (name : List ℕ) (a : Expr) (o : Option Expansion) → slice_get expansions s.expansion ≡ o
        → value_named (option_map_or (λ i. i.clauses.parameters) (option_and_then (λ c. slice_get c.graph s.invocation) (option_and_then (composite_of unit) o)) []) name ≡ Some a
        → (y : Expansion) × (slice_get expansions s.expansion ≡ Some y)
    has_outer s name a None at h = absurd cc
    has_outer s name a (Some y) at h = (y, at)

    argument_good : (count : ℕ) → length before < suc count → (o : Option Site) → x.site ≡ o → (a : Expr) (u : SplType) (t : Typed)
        → ((name : List ℕ) × (value_named (arguments_at o) name ≡ Some a)) → IsTyped (outer_of o) a u t
        → IsTypedAs (option_and_then (λ s. expression_within count unit expansions s.expansion a) o) t
    argument_good count less None is a u t named typed = absurd cc
    argument_good count less (Some s) is a u t named typed =
        let y = has_outer s named.0 a (slice_get expansions s.expansion) refl named.1 in
        let first : s.expansion < length before = later (length before) x s there is in
        let enough : s.expansion < count = omega (arith, first, less) in
        by_form (out-ExprKind a.what) refl y.0 y.1 count enough
      where
        by_form : (k : ExprKind-F ExprKind) → out-ExprKind a.what ≡ k → (y : Expansion) → slice_get expansions s.expansion ≡ Some y → (count : ℕ) → s.expansion < count
            → IsTypedAs (expression_within count unit expansions s.expansion a) t
        by_form (X.Dollar name) form y at count enough =
            at_number s.expansion (table_at before s.expansion) (good s.expansion) name t (dollar_given (table_at before s.expansion) a u t name form typed) count enough a form
        by_form _ form y at zero enough = absurd (omega (arith, enough))
        by_form _ form y at (suc count) enough = record {
          expression = a;
          there = ap (λ o. option_and_then (λ z. here_or (λ argument. option_and_then (λ s. expression_within count unit expansions s.expansion argument) z.site)
              (target (parameter_target (length (heads_of unit z)) (heads_of unit z) (arguments_of unit expansions z)) a)) o) at
              ∙ ap (λ k. here_or (λ argument. option_and_then (λ s. expression_within count unit expansions s.expansion argument) y.site)
              (level_target (parameter_target (length (heads_of unit y)) (heads_of unit y) (arguments_of unit expansions y)) a k)) form;
          is_no_dollar = λ name q. absurd cc;
          given = table_at before s.expansion;
          wanted = u;
          typed = typed;
        }

    target_good : (count : ℕ) → length before < suc count → (meant : Target) (t : Typed) → TargetTyped (outer_of x.site) (arguments_at x.site) meant t
        → IsTypedAs (here_or (λ a. option_and_then (λ s. expression_within count unit expansions s.expansion a) x.site) meant) t
    target_good count less (Here e) t h = record { expression = e; there = refl; is_no_dollar = h.0; given = h.1; wanted = h.2; typed = h.3 }
    target_good count less (Outside a) t h = argument_good count less x.site refl a h.1 t h.0 h.2
    target_good count less Nowhere t h = absurd h

    own_good : (o : Option Composite) → composite_of unit x ≡ o
        → Good (length before) (option_map_or (λ c. own_within (length c.parameters) (composite_types unit c) (outer_of x.site) (arguments_at x.site) c.parameters) o [])
    own_good None is name t found count less e form = absurd cc
    own_good (Some c) is name t found zero less e form = absurd (omega (arith, less))
    own_good (Some c) is name t found (suc count) less e form =
        subst (λ o. IsTypedAs o t) (sym whole)
        (target_good count less (parameter_target (length c.parameters) c.parameters (arguments_at x.site) name) t
        (own_target (outer_of x.site) (arguments_at x.site) t (composite_types unit c) c.parameters (length c.parameters) name found))
      where
        outside : Expansion → Expr → Option Expr
        outside z a = option_and_then (λ s. expression_within count unit expansions s.expansion a) z.site

        whole : expression_within (suc count) unit expansions (length before) e
            ≡ here_or (outside x) (parameter_target (length c.parameters) c.parameters (arguments_at x.site) name)
        whole =
            ap (λ o. option_and_then (λ z. here_or (outside z)
            (target (parameter_target (length (heads_of unit z)) (heads_of unit z) (arguments_of unit expansions z)) e)) o) there
            ∙ ap (λ k. here_or (outside x) (level_target (parameter_target (length (heads_of unit x)) (heads_of unit x) (arguments_of unit expansions x)) e k)) form
            ∙ ap (λ (o : Option Composite). let heads = option_map_or (λ d. d.parameters) o [] in here_or (outside x) (parameter_target (length heads) heads (arguments_at x.site) name)) is

  -- ---- all of them

  all_good : (before : Tables) (xs : List Expansion) → AllGood 0 before → ((k : ℕ) → slice_get xs k ≡ slice_get expansions (length before + k))
      → AllGood 0 (before ++ tables_from unit expansions before xs)
  all_good before [] good same = subst (AllGood 0) (sym (append-nil before)) good
  all_good before (x ∷ xs) good same =
      let table = expansion_dollars unit expansions before x in
      let here : length before + 0 ≡ length before = omega arith in
      let there : slice_get expansions (length before) ≡ Some x = sym (same 0 ∙ ap (slice_get expansions) here) in
      let own : Good (length before) table = own_good before good x there (composite_of unit x) refl in
      let more = one_more before 0 table good (subst (λ k. Good k table) (let first : length before ≡ 0 + length before = omega arith in first) own) in
      let many : length (before ++ table ∷ []) ≡ suc (length before) = length-append before (table ∷ []) ∙ (let one : length before + 1 ≡ suc (length before) = omega arith in one) in
      subst (AllGood 0) (append_assoc before (table ∷ []) (tables_from unit expansions (before ++ table ∷ []) xs))
      (all_good (before ++ table ∷ []) xs more
      (λ k. same (suc k) ∙ ap (slice_get expansions) (let next : length before + suc k ≡ length (before ++ table ∷ []) + k = omega (arith, many) in next)))

  tables_length : (before : Tables) (xs : List Expansion) → length (tables_from unit expansions before xs) ≡ length xs
  tables_length before [] = refl
  tables_length before (x ∷ xs) = ap suc (tables_length (before ++ expansion_dollars unit expansions before x ∷ []) xs)

  table_within : (tables : Tables) (number : ℕ) (name : List ℕ) (t : Typed) → dollar_of (table_at tables number) name ≡ Some (Ok t) → number < length tables
  table_within tables number name t e = by_table (slice_get tables number) refl e
    where
      by_table : (o : Option (List Dollar)) → slice_get tables number ≡ o → dollar_of (option_map_or (λ table. table) o []) name ≡ Some (Ok t) → number < length tables
      by_table None at h = absurd cc
      by_table (Some table) at h = slice_get_within tables number table at

  pub dollar_meant : (number : ℕ) (name : List ℕ) (e : Expr) (t : Typed) → out-ExprKind e.what ≡ X.Dollar name
      → dollar_of (table_at (dollar_tables unit expansions) number) name ≡ Some (Ok t)
      → IsTypedAs (expression_within (length expansions) unit expansions number e) t
  dollar_meant number name e t form found =
      let none : AllGood 0 [] = λ m name t empty. absurd cc in
      let within : number < length (dollar_tables unit expansions) = table_within (dollar_tables unit expansions) number name t found in
      let enough : number < length expansions = omega (arith, within, tables_length [] expansions) in
      let same : (k : ℕ) → slice_get expansions k ≡ slice_get expansions (0 + k) =
      λ k. ap (slice_get expansions) (let sum : k ≡ 0 + k = omega arith in sum) in
      at_number number (table_at (dollar_tables unit expansions) number) (all_good [] expansions none same number) name t found (length expansions) enough e form

-- ---- the graph of a unit

later_at : (made : Made) (es : List Expansion) → es ≡ expansions_from made 0 made.expansions
    → ((k : ℕ) (i : Inlined) → slice_get made.expansions k ≡ Some i → IsLater k i)
    → (n : ℕ) (x : Expansion) (s : Site) → slice_get es n ≡ Some x → x.site ≡ Some s → s.expansion < n
later_at made es is h n x s at site =
    by_body (slice_get made.expansions n) refl (sym (expansion_at made 0 made.expansions n) ∙ sym (ap (λ l. slice_get l n) is) ∙ at)
  where
    by_body : (o : Option Inlined) → slice_get made.expansions n ≡ o → option_map (expansion_of made (0 + n)) o ≡ Some x → s.expansion < n
    by_body None there q = absurd cc
    by_body (Some i) there q = let same : expansion_of made (0 + n) i ≡ x = cc in h n i there s (ap (λ (y : Expansion). y.site) same ∙ site)

pub dollar_meant_law : DollarMeantLaw
dollar_meant_law unit names g number name e t flat form found =
    let f = from_main unit names g (Ok g) flat refl in
    let m = is_made unit names f.main g f.flat in
    let h = main_holds unit f.main m.made f.there m.expanded in
    dollar_meant unit g.expansions (later_at m.made g.expansions m.expansions h.later) number name e t form found
