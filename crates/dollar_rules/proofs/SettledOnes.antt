-- One parameter more is settled, after those that its default mentions.
use Rattle.std.specs.Prelude.{◌≡◌, ◌≢◌, ◌==◌, ◌<◌, ◌≤◌, ◌-◌, ℕ, zero, suc, Bool, true, false, if◌then◌else◌, List, [], ◌∷◌, filter_map, length, Option, Some, None, is_some, slice_get, slice_index_or, ◌⊎◌}
use Rattle.std.specs.List.{Contains, cons_option}
use Rattle.std.specs.Option.{option_map_or}
use Rattle.std.specs.Str.{bytes_eq}
use Rattle.std.specs.Cmp.Lexicographic.{bytes_decides}
use Rattle.std.proofs.Common.{refl, ap, sym, subst, ◌∙◌, arith, eqb, inl, inr}
use Rattle.std.proofs.Math.ListN.{set}
use Rattle.std.proofs.lemmas.Bool.{eq-eqb, eqb-true}
use Rattle.std.proofs.lemmas.List.{get_or-set_other, length-set}
use Rattle.std.proofs.lemmas.Option.{same_Some, slice_get_within}
use Rattle.spl_tree.specs.declared.unit.CompositeParameter.{CompositeParameter}
use Rattle.spl_tree.specs.Trees.{Expr}
use Rattle.language_model.specs.declared.scope.Dollar.{Dollar}
use Rattle.language_model.specs.DollarLaws.{MentionedLaw, dollars_in}
use Rattle.language_model.specs.FitLaws.{no_names}
use Rattle.language_model.specs.Parameters.{constant_typing, own_from, parameter_leads, parameter_place}
use Rattle.language_model.specs.parts.Parameters.{default_leads, is_constant}
use Rattle.language_model.proofs.parts.Parameters.{default_typing, value_typing}
use Rattle.language_model.specs.Scopes.{dollar_of}
use Rattle.language_model.specs.DollarTargets.{value_named}
use Rattle.language_model.specs.TypeNames.{type_meant}
use Rattle.language_model.specs.declared.scope.Typed.{Typed}
use Rattle.language_model.specs.Typing.{Found, after, mismatch}
use Rattle.dollar_rules.specs.steps.Given.{AreSettled, Given, IsDone, IsReady, found_at_last, found_in, is_marked, marks_in, means, settled_table, table}
use Rattle.dollar_rules.proofs.Marks.{fewer, marked_is, marked_none, one_more}
use Rattle.dollar_rules.proofs.MarkedTables.{dollar_is, same_found, stands_for}
use Rattle.spl_value.proofs.Bools.{and_left as first_of_both}

-- ---- what a default mentions

first_there : (o : Option ℕ) (place : ℕ) → option_map_or (λ first. first == place) o false ≡ true → o ≡ Some place
first_there None place e = absurd cc
first_there (Some k) place e = ap Some (eqb-true k place e)

taken : (h : List ℕ → Option ℕ) (names : List (List ℕ)) (k : ℕ) (name : List ℕ) (place : ℕ) → k < length names → slice_index_or names k name ≡ name → h name ≡ Some place
    → Contains (filter_map h names) place
taken h [] k name place below is e = absurd (omega (arith, below))
taken h (n ∷ names) zero name place below is e =
    let here : h n ≡ Some place = ap h is ∙ e in
    subst (λ o. Contains (cons_option o (filter_map h names)) place) (sym here) (0, omega arith, refl)
taken h (n ∷ names) (suc k) name place below is e =
    let rest = taken h names k name place (omega (arith, below)) is e in
    elim (h n) as (λ o. Contains (cons_option o (filter_map h names)) place) [
      | None ↦ rest
      | Some m ↦ (suc rest.0, omega (arith, rest.1), rest.2)
    ]

module _ (g : Given) (place : ℕ) (p : CompositeParameter) (e : Expr) (is : slice_get g.parameters place ≡ Some p)
    (none : value_named g.arguments p.name.what ≡ None) (default : p.default ≡ Some e) where
  leads_are : parameter_leads g.parameters g.arguments place ≡ filter_map (parameter_place g.parameters) (dollars_in e)
  leads_are =
      ap (λ o. option_map_or (default_leads g.parameters g.arguments) o []) is
      ∙ (λ i. if is_some (none i) then [] else option_map_or (λ d. filter_map (parameter_place g.parameters) (dollars_in d)) (default i) [])

  -- a parameter that means something is led to where its name is mentioned
  pub led_to : (name : List ℕ) → Contains (dollars_in e) name → (k : ℕ) (q : CompositeParameter) → bytes_eq q.name.what name ≡ true → means g k q ≡ true
      → Contains (parameter_leads g.parameters g.arguments place) k
  led_to name has k q named meant =
      let same : q.name.what ≡ name = (bytes_decides q.name.what name).0 named in
      let first : parameter_place g.parameters q.name.what ≡ Some k = first_there (parameter_place g.parameters q.name.what) k (first_of_both _ _ meant) in
      let there : parameter_place g.parameters name ≡ Some k = ap (parameter_place g.parameters) (sym same) ∙ first in
      subst (λ row. Contains row k) (sym leads_are) (taken (parameter_place g.parameters) (dollars_in e) has.0 name k has.1 has.2 there)

-- the value of a parameter depends on those that its default mentions
found_alike : (mentioned : MentionedLaw) (g : Given) (own other : List Dollar) (p : CompositeParameter)
    → ((e : Expr) → value_named g.arguments p.name.what ≡ None → p.default ≡ Some e → (name : List ℕ) → Contains (dollars_in e) name → dollar_of own name ≡ dollar_of other name)
    → found_in g own p ≡ found_in g other p
found_alike mentioned g own other p same = λ i. after (type_meant g.types p.kind) (λ t. value_alike t i)
  where
    constant_alike : (e : Expr) (t : _) → ((name : List ℕ) → Contains (dollars_in e) name → dollar_of own name ≡ dollar_of other name)
        → constant_typing own e t ≡ constant_typing other e t
    constant_alike e t h = λ i. if is_constant e then mentioned no_names own other e (Some t) h i else mismatch e.at

    default_alike : (t : _) → value_named g.arguments p.name.what ≡ None → default_typing own p t p.default ≡ default_typing other p t p.default
    default_alike t none =
        elim p.default as (λ d. p.default ≡ d → default_typing own p t d ≡ default_typing other p t d) [
          | None ↦ λ _. refl
          | Some e ↦ λ is. constant_alike e t (same e none is)
        ] refl

    value_alike : (t : _) → value_typing g.outer own p t (value_named g.arguments p.name.what) ≡ value_typing g.outer other p t (value_named g.arguments p.name.what)
    value_alike t =
        elim (value_named g.arguments p.name.what) as (λ v. value_named g.arguments p.name.what ≡ v → value_typing g.outer own p t v ≡ value_typing g.outer other p t v) [
          | None ↦ λ none. default_alike t none
          | Some a ↦ λ _. refl
        ] refl

-- ---- what is settled

pub apart : (k place : ℕ) → eqb k place ≡ false → k ≢ place
apart k place e same = let h : eqb k place ≡ true = eq-eqb k place same in cc

module _ (g : Given) (marks : List Bool) (are : AreSettled g marks) where
  meant_marked : (k : ℕ) (p : CompositeParameter) → slice_get g.parameters k ≡ Some p → (means g k p ≡ true → IsDone g marks k) → means g k p ≡ is_marked marks k
  meant_marked k p is done =
      elim (means g k p) as (λ b. means g k p ≡ b → b ≡ is_marked marks k) [
        | true ↦ λ meant. sym (done meant p is meant)
        | false ↦ λ meant. elim (is_marked marks k) as (λ b. is_marked marks k ≡ b → false ≡ b) [
          | true ↦ λ m. sym meant ∙ are.only k p is m
          | false ↦ λ m. refl
        ] refl
      ] refl

  -- a name has the same value in the settled table and where defaults are followed often enough, where each
  -- parameter of the name is done
  same_table : (name : List ℕ) → ((k : ℕ) (p : CompositeParameter) → slice_get g.parameters k ≡ Some p → bytes_eq p.name.what name ≡ true → means g k p ≡ true → IsDone g marks k)
      → (count : ℕ) → marks_in marks ≤ count → stands_for (table g count) name ≡ stands_for (settled_table g marks) name
  same_table name done zero le = ap (λ ds. stands_for ds name) (sym (marked_none (found_at_last g) marks g.parameters le))
  same_table name done (suc count) le =
      same_found name (means g) (λ k p. is_marked marks k) (found_in g (table g count)) (found_at_last g) 0 g.parameters
      (λ k at p e is named.
      let here : k ≡ at = omega arith in
      let there : slice_get g.parameters at ≡ Some p = ap (slice_get g.parameters) (sym here) ∙ is in
      let same = meant_marked at p there (done at p there named) in
      (same, λ meant. are.early at count p there (sym same ∙ meant) le))
      ∙ ap (λ ds. stands_for ds name) (marked_is (found_at_last g) (λ k p. is_marked marks k) marks 0 g.parameters
      (λ k at p e is. ap (is_marked marks) (omega arith)))

  module _ (mentioned : MentionedLaw) (place : ℕ) (p : CompositeParameter) (is : slice_get g.parameters place ≡ Some p) (meant : means g place p ≡ true)
      (unset : is_marked marks place ≡ false) (ready : IsReady g marks place) where
    here : (count : ℕ) → marks_in marks ≤ count → found_in g (table g count) p ≡ found_in g (settled_table g marks) p
    here count le = found_alike mentioned g (table g count) (settled_table g marks) p (λ e none default name has.
        dollar_is name (table g count)
        ∙ same_table name (λ k q there named m. ready k (led_to g place p e is none default name has k q named m)) count le
        ∙ sym (dollar_is name (settled_table g marks)))

    below : place < length marks
    below = let within = slice_get_within g.parameters place p is in omega (arith, are.size)

    pub found_now : found_in g (settled_table g marks) p ≡ found_at_last g p
    found_now = sym (here (length g.parameters - 1) (omega (arith, are.size, fewer marks place below unset)))

    marked_now : (k : ℕ) → is_marked (set marks place true) k ≡ true → (k ≡ place) ⊎ (is_marked marks k ≡ true)
    marked_now k m = elim (eqb k place) as (λ b. eqb k place ≡ b → (k ≡ place) ⊎ (is_marked marks k ≡ true)) [
      | true ↦ λ e. inl (eqb-true k place e)
      | false ↦ λ e. inr (sym (get_or-set_other marks place k true false (apart k place e)) ∙ m)
    ] refl

    one : {A B C : Type 0} → (A → C) → (B → C) → A ⊎ B → C
    one f h (inl a) = f a
    one f h (inr b) = h b

    pub settled_more : AreSettled g (set marks place true)
    settled_more = record {
      size = length-set marks place true ∙ are.size;
      only = λ k q there m. one
          (λ same. let one_there : q ≡ p = same_Some q p (sym there ∙ ap (slice_get g.parameters) same ∙ is) in (λ i. means g (same i) (one_there i)) ∙ meant)
          (λ before. are.only k q there before) (marked_now k m);
      early = λ k count q there m le.
          let more = one_more marks place below unset in
          one
          (λ same. let one_there : q ≡ p = same_Some q p (sym there ∙ ap (slice_get g.parameters) same ∙ is) in
          ap (found_in g (table g count)) one_there ∙ here count (omega (arith, more, le)) ∙ found_now ∙ ap (found_at_last g) (sym one_there))
          (λ before. are.early k count q there before (omega (arith, more, le))) (marked_now k m);
    }

-- ---- in the end

none_from : (passes : ℕ → CompositeParameter → Bool) (found : CompositeParameter → Found Typed) (ps : List CompositeParameter) → 0 ≡ length ps → own_from passes found 0 ps ≡ []
none_from passes found [] e = refl
none_from passes found (p ∷ ps) e = absurd (omega (arith, e))

last_round : (g : Given) (count : ℕ) → count ≡ length g.parameters → own_from (means g) (found_in g (table g (count - 1))) 0 g.parameters ≡ table g count
last_round g zero e = none_from (means g) (found_in g (table g (0 - 1))) g.parameters e
last_round g (suc count) e =
    let less : suc count - 1 ≡ count = omega arith in
    ap (λ k. own_from (means g) (found_in g (table g k)) 0 g.parameters) less

pub all_settled : (g : Given) (marks : List Bool) → AreSettled g marks → ((k : ℕ) → k < length g.parameters → IsDone g marks k)
    → settled_table g marks ≡ table g (length g.parameters)
all_settled g marks are done = sym (marked_is (found_at_last g) (means g) marks 0 g.parameters (λ k at p e is.
    let here : k ≡ at = omega arith in
    let there : slice_get g.parameters at ≡ Some p = ap (slice_get g.parameters) (sym here) ∙ is in
    meant_marked g marks are at p there (λ m. done at (slice_get_within g.parameters at p there)) ∙ ap (is_marked marks) (sym here)))
    ∙ last_round g (length g.parameters) refl
