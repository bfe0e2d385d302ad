-- What the names of a body take doesn't change when other bodies are opened after it.
use Rattle.std.specs.Prelude.{◌≡◌, ℕ, zero, suc, ◌<◌, ◌≤◌, List, [], ◌∷◌, ◌++◌, flat_map, length, Option, Some, None, slice_get}
use Rattle.std.specs.Option.{option_map_or}
use Rattle.std.proofs.Common.{◌⊎◌, inl, inr, refl, sym, ap, subst, ◌∙◌, arith, length-append}
use Rattle.std.proofs.lemmas.Option.{slice_get_within}
use Rattle.spl_tree.specs.declared.graph.Site.{Site}
use Rattle.spl_tree.specs.declared.unit.Definition.{Definition}
use Rattle.language_model.specs.declared.expansion.Source.{Source}
use Rattle.language_model.specs.Expansion.{Inlined, input_sources, names_of_port, place_of, port_names, sources_of, taken_in}
use Rattle.language_model.proofs.parts.Expansion.{own_or_input}
use Rattle.language_model.specs.Invoking.{input_names, stream_names}
use Rattle.composite_tables.specs.declared.made.Body.{Body}
use Rattle.composite_tables.specs.declared.made.Input.{Input}
use Rattle.composite_tables.specs.declared.made.Taken.{Taken}
use Rattle.composite_tables.specs.declared.made.Taken.TheVariants as T
use Rattle.composite_tables.specs.Inputs.{AreInputs, AreNested, InputsStand, IsBefore, IsTakenBefore, Shows, ShowsBody, StandsFor, list_taken}
use Rattle.spl_value.proofs.Lists.{append_cases as at_or_last, before_more}

-- ---- lists that are the same up to a number

abbrev SameBelow : ℕ → List Inlined → List Inlined → Type 0
SameBelow limit xs ys = (m : ℕ) → m < limit → slice_get xs m ≡ slice_get ys m

abbrev Outside : Type 0
Outside = ℕ → List ℕ → List Source

module _ (limit : ℕ) (xs ys : List Inlined) (same : SameBelow limit xs ys) where
  -- what is outside of a body is at lower numbers
  input_same : (f g : Outside) (number : ℕ) → number ≤ limit → ((m : ℕ) → m < number → (name : List ℕ) → f m name ≡ g m name)
      → (site : Option Site) → IsBefore number site → (k : ℕ) → input_sources f xs site k ≡ input_sources g ys site k
  input_same f g number within outside None before k = refl
  input_same f g number within outside (Some s) before k = λ i.
      flat_map (λ n. outside s.expansion before n.what i)
      (option_map_or (λ e. option_map_or (names_of_port k) (slice_get e.composite.what.graph s.invocation) []) (same s.expansion (omega arith) i) [])

  own_same : (f g : Outside) (number : ℕ) → number ≤ limit → ((m : ℕ) → m < number → (name : List ℕ) → f m name ≡ g m name)
      → (e : Inlined) → IsBefore number e.site → (name : List ℕ) (o : Option ℕ) → own_or_input f xs number e name o ≡ own_or_input g ys number e name o
  own_same f g number within outside e before name (Some k) = refl
  own_same f g number within outside e before name None = by_place (place_of name (input_names e.composite.what))
    where
      by_place : (o : Option ℕ) → option_map_or (input_sources f xs e.site) o [] ≡ option_map_or (input_sources g ys e.site) o []
      by_place None = refl
      by_place (Some k) = input_same f g number within outside e.site before k

  -- the bodies below a number decide what their names take, however often inputs are followed
  pub taken_same : AreNested xs → (c d number : ℕ) → number < limit → number < c → number < d → (name : List ℕ)
      → taken_in c xs number name ≡ taken_in d ys number name
  taken_same nested zero d number within enough more name = absurd (omega arith)
  taken_same nested (suc c) zero number within enough more name = absurd (omega arith)
  taken_same nested (suc c) (suc d) number within enough more name =
      by_body (λ m lower. taken_same nested c d m (omega arith) (omega arith) (omega arith)) (slice_get xs number) refl
      ∙ ap (λ o. option_map_or (λ e. own_or_input (taken_in d ys) ys number e name (place_of name (stream_names e.composite.what))) o []) (same number within)
    where
      by_body : ((m : ℕ) → m < number → (name : List ℕ) → taken_in c xs m name ≡ taken_in d ys m name) → (o : Option Inlined) → slice_get xs number ≡ o
          → option_map_or (λ e. own_or_input (taken_in c xs) xs number e name (place_of name (stream_names e.composite.what))) o []
          ≡ option_map_or (λ e. own_or_input (taken_in d ys) ys number e name (place_of name (stream_names e.composite.what))) o []
      by_body outside None is = refl
      by_body outside (Some e) is =
          own_same (taken_in c xs) (taken_in d ys) number (omega arith) outside e (nested number e is) name (place_of name (stream_names e.composite.what))

-- ---- one list, and the list with more after it

same_before : (xs ys : List Inlined) → SameBelow (length xs) (xs ++ ys) xs
same_before xs ys m within = before_more xs ys m within

nested_within : (xs ys : List Inlined) → AreNested (xs ++ ys) → AreNested xs
nested_within xs ys nested k x here = nested k x (before_more xs ys k (slice_get_within xs k x here) ∙ here)

module _ (xs ys : List Inlined) (nested : AreNested xs) where
  longer : (number : ℕ) → number < length xs → number < length (xs ++ ys)
  longer number within = omega (arith, length-append xs ys)

  pub sources_before : (number : ℕ) → number < length xs → (name : List ℕ) → sources_of (xs ++ ys) number name ≡ sources_of xs number name
  sources_before number within name =
      sym (taken_same (length xs) xs (xs ++ ys) (λ m h. sym (before_more xs ys m h)) nested (length xs) (length (xs ++ ys)) number within within (longer number within) name)

  pub port_names_before : (s : Site) → s.expansion < length xs → (k : ℕ) → port_names (xs ++ ys) s k ≡ port_names xs s k
  port_names_before s within k = ap (λ o. option_map_or (λ e. option_map_or (names_of_port k) (slice_get e.composite.what.graph s.invocation) []) o []) (before_more xs ys s.expansion within)

  pub input_before : (number : ℕ) → number ≤ length xs → (site : Option Site) → IsBefore number site → (k : ℕ)
      → input_sources (sources_of (xs ++ ys)) (xs ++ ys) site k ≡ input_sources (sources_of xs) xs site k
  input_before number within site before k =
      sym (input_same (length xs) xs (xs ++ ys) (λ m h. sym (before_more xs ys m h)) (sources_of xs) (sources_of (xs ++ ys)) number within
      (λ m lower name. sym (sources_before m (omega arith) name)) site before k)

  pub list_before : (number : ℕ) → number ≤ length xs → (t : Taken) → IsTakenBefore number t → list_taken (xs ++ ys) t ≡ list_taken xs t
  list_before number within (T.One s) before = refl
  list_before number within (T.Port site port) before = input_before number within (Some site) before port

  pub stands_before : (number : ℕ) → number ≤ length xs → (i : Input) (list : List Source) → StandsFor xs number i list → StandsFor (xs ++ ys) number i list
  stands_before number within i list stands = record {
    count = stands.count;
    first = stands.first;
    taken = list_before number within i.taken stands.before ∙ stands.taken;
    before = stands.before;
  }

  stands_within : (number : ℕ) → number ≤ length xs → (i : Input) (list : List Source) → StandsFor (xs ++ ys) number i list → StandsFor xs number i list
  stands_within number within i list stands = record {
    count = stands.count;
    first = stands.first;
    taken = sym (list_before number within i.taken stands.before) ∙ stands.taken;
    before = stands.before;
  }

  pub inputs_before : (number : ℕ) → number ≤ length xs → (x : Inlined) → IsBefore number x.site → (row : List Input) → AreInputs xs number x row → AreInputs (xs ++ ys) number x row
  inputs_before number within x before row stand = record {
    count = stand.count;
    each = λ j i here.
        subst (StandsFor (xs ++ ys) number i) (sym (input_before number within x.site before j))
        (stands_before number within i (input_sources (sources_of xs) xs x.site j) (stand.each j i here));
  }

  pub inputs_within : (number : ℕ) → number ≤ length xs → (x : Inlined) → IsBefore number x.site → (row : List Input) → AreInputs (xs ++ ys) number x row → AreInputs xs number x row
  inputs_within number within x before row stand = record {
    count = stand.count;
    each = λ j i here.
        subst (StandsFor xs number i) (input_before number within x.site before j)
        (stands_within number within i (input_sources (sources_of (xs ++ ys)) (xs ++ ys) x.site j) (stand.each j i here));
  }

-- ---- one body more, or less

pub nested_more : (xs : List Inlined) (x : Inlined) → AreNested xs → IsBefore (length xs) x.site → AreNested (xs ++ x ∷ [])
nested_more xs x nested before k y here =
    elim (at_or_last xs x k y here) [
      | inl h ↦ nested k y h
      | inr h ↦ subst (λ n. IsBefore n y.site) (sym h.0) (subst (λ z. IsBefore (length xs) z.site) h.1 before)
    ]

pub nested_less : (xs : List Inlined) (x : Inlined) → AreNested (xs ++ x ∷ []) → AreNested xs
nested_less xs x nested = nested_within xs (x ∷ []) nested

one_more : {A B : Type 0} (xs : List A) (ys : List B) (x : A) (y : B) → length xs ≡ length ys → length (xs ++ x ∷ []) ≡ length (ys ++ y ∷ [])
one_more xs ys x y same = omega (arith, length-append xs (x ∷ []), length-append ys (y ∷ []))

one_less : {A B : Type 0} (xs : List A) (ys : List B) (x : A) (y : B) → length (xs ++ x ∷ []) ≡ length (ys ++ y ∷ []) → length xs ≡ length ys
one_less xs ys x y same = omega (arith, length-append xs (x ∷ []), length-append ys (y ∷ []))

-- elements of two lists at one number, each list with one more at its end
both_at : {A B : Type 0} (xs : List A) (ys : List B) (x : A) (y : B) (k : ℕ) (a : A) (b : B) → length xs ≡ length ys
    → slice_get (xs ++ x ∷ []) k ≡ Some a → slice_get (ys ++ y ∷ []) k ≡ Some b
    → ((slice_get xs k ≡ Some a) × (slice_get ys k ≡ Some b)) ⊎ ((k ≡ length xs) × (x ≡ a) × (y ≡ b))
both_at xs ys x y k a b same here there =
    elim (at_or_last xs x k a here) [
      | inl h ↦ elim (at_or_last ys y k b there) [
        | inl g ↦ inl (h, g)
        | inr g ↦ absurd (omega (arith, slice_get_within xs k a h, g.0, same))
      ]
      | inr h ↦ elim (at_or_last ys y k b there) [
        | inl g ↦ absurd (omega (arith, slice_get_within ys k b g, h.0, same))
        | inr g ↦ inr (h.0, h.1, g.1)
      ]
    ]

pub stand_more : (xs : List Inlined) (x : Inlined) (rows : List (List Input)) (row : List Input) → AreNested (xs ++ x ∷ []) → InputsStand xs rows
    → AreInputs (xs ++ x ∷ []) (length xs) x row → InputsStand (xs ++ x ∷ []) (rows ++ row ∷ [])
stand_more xs x rows row nested stand last = record {
  count = one_more rows xs row x stand.count;
  each = λ k y r here there.
      elim (both_at xs rows x row k y r (sym stand.count) here there) [
        | inl h ↦
            let inside : AreNested xs = nested_less xs x nested in
            let within : k ≤ length xs = omega (arith, slice_get_within xs k y h.0) in
            inputs_before xs (x ∷ []) inside k within y (inside k y h.0) r (stand.each k y r h.0 h.1)
        | inr h ↦
            subst (λ n. AreInputs (xs ++ x ∷ []) n y r) (sym h.0)
            (subst (λ z. AreInputs (xs ++ x ∷ []) (length xs) z r) h.1 (subst (AreInputs (xs ++ x ∷ []) (length xs) x) h.2 last))
      ];
}

pub stand_less : (xs : List Inlined) (x : Inlined) (rows : List (List Input)) (row : List Input) → AreNested (xs ++ x ∷ [])
    → InputsStand (xs ++ x ∷ []) (rows ++ row ∷ []) → InputsStand xs rows
stand_less xs x rows row nested stand = record {
  count = one_less rows xs row x stand.count;
  each = λ k y r here there.
      let inside : AreNested xs = nested_less xs x nested in
      let inner : k < length xs = slice_get_within xs k y here in
      let outer : k < length rows = slice_get_within rows k r there in
      let within : k ≤ length xs = omega arith in
      inputs_within xs (x ∷ []) inside k within y (inside k y here) r
      (stand.each k y r (before_more xs (x ∷ []) k inner ∙ here) (before_more rows (row ∷ []) k outer ∙ there));
}

pub shows_more : (unit : List Definition) (bodies : List Body) (b : Body) (xs : List Inlined) (x : Inlined) → Shows unit bodies xs → ShowsBody unit b x
    → Shows unit (bodies ++ b ∷ []) (xs ++ x ∷ [])
shows_more unit bodies b xs x shows last = record {
  count = one_more bodies xs b x shows.count;
  each = λ k c y here there.
      elim (both_at bodies xs b x k c y shows.count here there) [
        | inl h ↦ shows.each k c y h.0 h.1
        | inr h ↦ subst (λ c. ShowsBody unit c y) h.1 (subst (ShowsBody unit b) h.2 last)
      ];
}

pub shows_less : (unit : List Definition) (bodies : List Body) (b : Body) (xs : List Inlined) (x : Inlined) → Shows unit (bodies ++ b ∷ []) (xs ++ x ∷ [])
    → Shows unit bodies xs
shows_less unit bodies b xs x shows = record {
  count = one_less bodies xs b x shows.count;
  each = λ k c y here there.
      let inner : k < length bodies = slice_get_within bodies k c here in
      let outer : k < length xs = slice_get_within xs k y there in
      shows.each k c y (before_more bodies (b ∷ []) k inner ∙ here) (before_more xs (x ∷ []) k outer ∙ there);
}
