-- The names of a composite's streams, aliases and ports by the two sets of those that come before.
use Rattle.std.specs.Prelude.{◌≡◌, ℕ, ◌+◌, ◌<◌, ◌≤◌, Bool, true, false, ◌||◌, ◌&&◌, List, [], ◌∷◌, ◌++◌, map, flat_map, length, drop}
use Rattle.std.proofs.Common.{refl, sym, ap, ◌∙◌, append_assoc, append-nil, get_or}
use Rattle.std.proofs.lemmas.List.{drop_all, map-append}
use Rattle.language_model.specs.Declarations.{Name, is_same, Declared, OutputPort, InputPort, MadeStream, Alias}
use Rattle.language_model.specs.parts.Declarations.{is_declared}
use Rattle.duplicate_rules.specs.declared.declarations.graphs.GraphName.{GraphName}
use Rattle.duplicate_rules.specs.steps.Graphs.{shown, outputs_of, others_of}
use Rattle.duplicate_rules.specs.steps.NamesBefore.{Has}
use Rattle.spl_value.proofs.Lists.{drop_at as rest_at}

pub or_false : (a b : Bool) → b ≡ false → (a || b) ≡ a
or_false true b e = refl
or_false false b e = e

-- a test that is met is not passed over
past_false : (s r : Bool) → ((s && false) || r) ≡ r
past_false true r = refl
past_false false r = refl

with_true : (s r : Bool) → ((s && true) || r) ≡ (s || r)
with_true true r = refl
with_true false r = refl

or_first : (s a b : Bool) → ((s && true) || (a || b)) ≡ ((s || a) || b)
or_first true a b = refl
or_first false a b = refl

or_second : (s a b : Bool) → ((s && true) || (a || b)) ≡ (a || (s || b))
or_second true true b = refl
or_second true false b = refl
or_second false a b = refl

module _ (n : Name) where
  -- a stream may share the name of an output alone
  pub declared_stream : (before : List Declared) → is_declared before (MadeStream n) ≡ Has n (others_of before)
  declared_stream [] = refl
  declared_stream (OutputPort m ∷ ds) = past_false (is_same m n) (is_declared ds (MadeStream n)) ∙ declared_stream ds
  declared_stream (InputPort m ∷ ds) = with_true (is_same m n) (is_declared ds (MadeStream n)) ∙ ap (λ r. is_same m n || r) (declared_stream ds)
  declared_stream (MadeStream m ∷ ds) = with_true (is_same m n) (is_declared ds (MadeStream n)) ∙ ap (λ r. is_same m n || r) (declared_stream ds)
  declared_stream (Alias m ∷ ds) = with_true (is_same m n) (is_declared ds (MadeStream n)) ∙ ap (λ r. is_same m n || r) (declared_stream ds)

  -- and nothing else may share a name
  pub declared_output : (before : List Declared) → is_declared before (OutputPort n) ≡ (Has n (outputs_of before) || Has n (others_of before))
  declared_output [] = refl
  declared_output (OutputPort m ∷ ds) = ap (λ r. (is_same m n && true) || r) (declared_output ds) ∙ or_first (is_same m n) (Has n (outputs_of ds)) (Has n (others_of ds))
  declared_output (InputPort m ∷ ds) = ap (λ r. (is_same m n && true) || r) (declared_output ds) ∙ or_second (is_same m n) (Has n (outputs_of ds)) (Has n (others_of ds))
  declared_output (MadeStream m ∷ ds) = ap (λ r. (is_same m n && true) || r) (declared_output ds) ∙ or_second (is_same m n) (Has n (outputs_of ds)) (Has n (others_of ds))
  declared_output (Alias m ∷ ds) = ap (λ r. (is_same m n && true) || r) (declared_output ds) ∙ or_second (is_same m n) (Has n (outputs_of ds)) (Has n (others_of ds))

  input_alike : (before : List Declared) → is_declared before (InputPort n) ≡ is_declared before (OutputPort n)
  input_alike [] = refl
  input_alike (OutputPort m ∷ ds) = ap (λ r. (is_same m n && true) || r) (input_alike ds)
  input_alike (InputPort m ∷ ds) = ap (λ r. (is_same m n && true) || r) (input_alike ds)
  input_alike (MadeStream m ∷ ds) = ap (λ r. (is_same m n && true) || r) (input_alike ds)
  input_alike (Alias m ∷ ds) = ap (λ r. (is_same m n && true) || r) (input_alike ds)

  alias_alike : (before : List Declared) → is_declared before (Alias n) ≡ is_declared before (OutputPort n)
  alias_alike [] = refl
  alias_alike (OutputPort m ∷ ds) = ap (λ r. (is_same m n && true) || r) (alias_alike ds)
  alias_alike (InputPort m ∷ ds) = ap (λ r. (is_same m n && true) || r) (alias_alike ds)
  alias_alike (MadeStream m ∷ ds) = ap (λ r. (is_same m n && true) || r) (alias_alike ds)
  alias_alike (Alias m ∷ ds) = ap (λ r. (is_same m n && true) || r) (alias_alike ds)

  pub declared_input : (before : List Declared) → is_declared before (InputPort n) ≡ (Has n (outputs_of before) || Has n (others_of before))
  declared_input before = input_alike before ∙ declared_output before

  pub declared_alias : (before : List Declared) → is_declared before (Alias n) ≡ (Has n (outputs_of before) || Has n (others_of before))
  declared_alias before = alias_alike before ∙ declared_output before

-- ---- rows of names after others

module _ {A : Type 0} (f : A → Declared) (xs : List A) (i : ℕ) where
  pub added_past : (names : List GraphName) → length xs ≤ i → map shown names ++ map f (drop i xs) ≡ map shown names
  added_past names h = ap (λ r. map shown names ++ map f r) (drop_all i xs h) ∙ append-nil (map shown names)

  pub added_on : (names more : List GraphName) (x : A) (g : GraphName) → i < length xs → x ≡ get_or xs i x → more ≡ names ++ g ∷ [] → shown g ≡ f x
      → map shown more ++ map f (drop (i + 1) xs) ≡ map shown names ++ map f (drop i xs)
  added_on names more x g h e m s =
      ap (λ r. map shown r ++ map f (drop (i + 1) xs)) m
      ∙ ap (λ r. r ++ map f (drop (i + 1) xs)) (map-append shown names (g ∷ []))
      ∙ append_assoc (map shown names) (shown g ∷ []) (map f (drop (i + 1) xs))
      ∙ ap (λ d. map shown names ++ d ∷ map f (drop (i + 1) xs)) s
      ∙ sym (ap (λ r. map shown names ++ map f r) (rest_at xs i x h e))

module _ {A : Type 0} (f : A → List Declared) (xs : List A) (i : ℕ) (names : List Declared) where
  pub rows_past : length xs ≤ i → names ++ flat_map f (drop i xs) ≡ names
  rows_past h = ap (λ r. names ++ flat_map f r) (drop_all i xs h) ∙ append-nil names

  pub rows_on : (more : List Declared) (x : A) → i < length xs → x ≡ get_or xs i x → more ≡ names ++ f x → more ++ flat_map f (drop (i + 1) xs) ≡ names ++ flat_map f (drop i xs)
  rows_on more x h e m =
      ap (λ r. r ++ flat_map f (drop (i + 1) xs)) m
      ∙ append_assoc names (f x) (flat_map f (drop (i + 1) xs))
      ∙ sym (ap (λ r. names ++ flat_map f r) (rest_at xs i x h e))
