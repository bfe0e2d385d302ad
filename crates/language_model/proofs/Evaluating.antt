-- A code that fits gives a value of its type or a fault.
use Rattle.std.specs.Prelude.{◌≡◌, ◌<◌, ℕ, true, false, not, IsTrue, List, [], ◌∷◌, length, Some, slice_get}
use Rattle.std.specs.List.{list_all, fold, AllByRecursion}
use Rattle.std.specs.Option.{option_map, option_and_then}
use Rattle.std.specs.Cmp.{first_so, second_so}
use Rattle.std.specs.Cmp.Derive.{both_true}
use Rattle.std.proofs.Common.{refl, sym, ap, ◌∙◌, subst}
use Rattle.spl_value.specs.declared.types.IntKind.{IntKind}
use Rattle.spl_value.specs.declared.types.Named.{Named}
use Rattle.spl_value.specs.declared.types.SplType.{SplType}
use Rattle.spl_value.specs.declared.types.SplType.TheVariants as S
use Rattle.spl_value.specs.declared.value.Value.{Value}
use Rattle.spl_value.specs.declared.value.Value.TheVariants as V
use Rattle.spl_value.specs.declared.value.Value.TheViews.{out-Value}
use Rattle.spl_value.proofs.FitsLaws.{fits_bool, fits_list, fits_map, fits_tuple, pair_fits, put_fits}
use Rattle.spl_value.specs.Pairs.{pairs_put}
use Rattle.spl_value.specs.Values.{fits, tuple_fits}
use Rattle.spl_tree.specs.declared.code.Code.{Code}
use Rattle.spl_tree.specs.declared.code.Code.TheVariants as C
use Rattle.spl_tree.specs.declared.code.Slot.{Slot}
use Rattle.spl_tree.specs.declared.code.Selector.{Selector}
use Rattle.spl_tree.specs.declared.code.Selector.TheVariants as K
use Rattle.spl_tree.specs.declared.code.UnaryCode.{UnaryCode}
use Rattle.spl_tree.specs.declared.code.BinaryCode.{BinaryCode}
use Rattle.spl_tree.specs.declared.code.BinaryCode.TheVariants as D
use Rattle.spl_tree.specs.declared.code.BuiltIn.{BuiltIn}
use Rattle.spl_tree.specs.declared.code.Marker.{Marker}
use Rattle.language_model.specs.declared.env.Env.{Env}
use Rattle.language_model.specs.declared.scope.Scope.{Scope}
use Rattle.language_model.specs.declared.scope.Signature.{Signature}
use Rattle.language_model.specs.CodeFits as F
use Rattle.language_model.specs.CodeFits.{CodeFits, SlotFits, ElementsFit, PairsFit, FieldsFit, ArgumentsFit, StepsLead, UnariesGive, BinaryGives, BuiltInGives}
use Rattle.language_model.specs.Evaluation.{World, Meaning, Calls, tuple_of, unaries_of, truth, binary, same_marker, code_value, slot_value, world_of}
use Rattle.language_model.specs.parts.Evaluation.{map_of}
use Rattle.language_model.specs.EvaluationLaws.{values_of, pair_values, field_values, takings_value, truth_value, literal_is, name_is, list_is, map_is, tuple_is, select_is, unary_is, binary_is, conditional_is, built_in_is, call_is, is_marker_is, is_not_marker_is}
use Rattle.language_model.specs.parts.BuiltInCalls.{built_in_of}
use Rattle.language_model.specs.Operators.{binary_of, level_member, level_element, level_at_key}
use Rattle.language_model.specs.parts.Operators.{unary_of, truth_of}
use Rattle.language_model.specs.Outcomes.{Outcome, Done, followed, settled}
use Rattle.language_model.specs.WorldFits.{EnvFits}
use Rattle.language_model.proofs.Counting.{how_often}
use Rattle.language_model.proofs.Filling.{FieldHolds, tuple_made}
use Rattle.language_model.proofs.Operating.{truth_there, integers_settle, join_settles, order_integers_settles, order_texts_settles, equal_settles, differs_settles, in_list_settles, in_map_settles, unary_settles, OfTypes, built_in_settles, part_there, member_settles, element_settles, at_key_settles}
use Rattle.language_model.proofs.Places.{places, counts_places}
use Rattle.language_model.proofs.Yielding.{Yields, yields_followed, IsThere, yields_need, yields_enter, yields_either, AnyAnswer, OfType, Settles, yields_settled}

-- ---- operators

-- a meaning gives a value of the type, or a fault
abbrev Means : {N : Type 0} → World N → Meaning N → SplType → Type 0
Means w m t = (turns : ℕ) → Yields (OfType t) (m w turns)

unaries_yield : (ops : List UnaryCode) (t u : SplType) → UnariesGive ops t u → (v : Value) → OfType t v → (turns : ℕ) → Yields (OfType u) (unaries_of ops v turns)
unaries_yield _ _ _ (F.no_unary t) v h turns = h
unaries_yield _ _ _ (F.outer op ops t u r gives one) v h turns =
    yields_followed (OfType u) (OfType r) (unaries_of ops v turns) _ (unaries_yield ops t u gives v h turns) (λ x turns g.
    yields_settled r (unary_of op x) turns (unary_settles op u r one x g))

module _ {N : Type 0} (w : World N) where
  pub truth_yields : (m : Meaning N) → Means w m S.Bool → (turns : ℕ) → Yields AnyAnswer (truth m w turns)
  truth_yields m h turns =
      yields_followed (OfType S.Bool) AnyAnswer (m w turns) _ (h turns) (λ v turns f.
      yields_need AnyAnswer AnyAnswer (truth_of v) _ (truth_there v f) (λ b e. tt))

  both_yield : (op : BinaryCode) (t u r : SplType) (m n : Meaning N) → ((v x : Value) → OfType t v → OfType u x → Settles r (binary_of op v x)) → Means w m t → Means w n u
      → (turns : ℕ) → Yields (OfType r) (followed (m w turns) (λ v turns. followed (n w turns) (λ x turns. settled (binary_of op v x) turns)))
  both_yield op t u r m n settles f g turns =
      yields_followed (OfType t) (OfType r) (m w turns) _ (f turns) (λ v turns h.
      yields_followed (OfType u) (OfType r) (n w turns) _ (g turns) (λ x turns i. yields_settled r (binary_of op v x) turns (settles v x h i)))

  binary_yields : (op : BinaryCode) (t u r : SplType) → BinaryGives op t u r → (m n : Meaning N) → Means w m t → Means w n u → Means w (binary op m n) r
  binary_yields _ _ _ _ (F.integers op k) m n = both_yield (D.Integers op k) (S.Int k) (S.Int k) (S.Int k) m n (integers_settle op k)
  binary_yields _ _ _ _ F.joins m n = both_yield D.Join S.Text S.Text S.Text m n join_settles
  binary_yields _ _ _ _ (F.orders_integers op k) m n = both_yield (D.Order op) (S.Int k) (S.Int k) S.Bool m n (order_integers_settles op k)
  binary_yields _ _ _ _ (F.orders_texts op) m n = both_yield (D.Order op) S.Text S.Text S.Bool m n (order_texts_settles op)
  binary_yields _ _ _ _ (F.equals t) m n = both_yield D.Equal t t S.Bool m n (λ v x f g. equal_settles v x)
  binary_yields _ _ _ _ (F.differs t) m n = both_yield D.NotEqual t t S.Bool m n (λ v x f g. differs_settles v x)
  binary_yields _ _ _ _ F.both m n = λ f g turns.
      yields_followed AnyAnswer (OfType S.Bool) (truth m w turns) _ (truth_yields m f turns) (λ b turns h.
      yields_either (OfType S.Bool) b (n w turns) (Done (V.Bool false) turns) (g turns) (fits_bool false))
  binary_yields _ _ _ _ F.either m n = λ f g turns.
      yields_followed AnyAnswer (OfType S.Bool) (truth m w turns) _ (truth_yields m f turns) (λ b turns h.
      yields_either (OfType S.Bool) b (Done (V.Bool true) turns) (n w turns) (fits_bool true) (g turns))
  binary_yields _ _ _ _ (F.in_list t) m n = both_yield D.InList t (S.List t) S.Bool m n (λ v x f g. in_list_settles t v x g)
  binary_yields _ _ _ _ (F.in_map k t) m n = both_yield D.InMap k (S.Map k t) S.Bool m n (λ v x f g. in_map_settles k t v x g)

-- ---- maps

abbrev pub AllOf : SplType → List Value → Type 0
AllOf t vs = IsTrue (list_all (fits t) vs)

abbrev AllPairs : SplType → SplType → List (Value × Value) → Type 0
AllPairs k t ps = IsTrue (list_all (pair_fits k t) ps)

puts_fit : (k t : SplType) (qs ps : List (Value × Value)) → OfType (S.Map k t) (V.Map ps) → AllPairs k t qs
    → OfType (S.Map k t) (V.Map (fold (λ (ps : List (Value × Value)) p. pairs_put ps p.0 p.1) ps qs))
puts_fit k t [] ps h g = h
puts_fit k t (q ∷ qs) ps h g =
    let first = first_so (pair_fits k t q) (list_all (pair_fits k t) qs) g in
    puts_fit k t qs (pairs_put ps q.0 q.1) (put_fits k t ps q.0 q.1 h (first_so (fits k q.0) (fits t q.1) first) (second_so (fits k q.0) (fits t q.1) first))
    (second_so (pair_fits k t q) (list_all (pair_fits k t) qs) g)

map_of_fits : (k t : SplType) (qs : List (Value × Value)) → AllPairs k t qs → OfType (S.Map k t) (V.Map (map_of qs))
map_of_fits k t qs h = puts_fit k t qs [] (fits_map k t []) h

-- ---- names

slot_there : (scope : Scope) (env : Env) → EnvFits scope env → (s : Slot) (t : SplType) → SlotFits scope s t → IsThere (OfType t) (slot_value env s)
slot_there scope env e _ _ (F.variable i x h found) = e.variables i x h
slot_there scope env e _ _ (F.attribute i j p a h g first named) =
    let input = e.inputs i p h in
    let part = part_there p.schema input.0 j a (sym (fits_tuple p.schema input.0) ∙ input.2) g in
    (part.0, ap (option_and_then (λ vs. slice_get vs j)) input.1 ∙ part.1, part.2)
slot_there scope env e _ _ (F.port i p h named) = let input = e.inputs i p h in (V.Tuple input.0, ap (option_map V.Tuple) input.1, input.2)

-- ---- forms of codes

-- calls of these functions on arguments of their types give values of their types, or faults
abbrev pub CallsFit : List Signature → Calls → Type 0
CallsFit signatures calls = (i : ℕ) (f : Signature) (t : SplType) → slice_get signatures i ≡ Some f → f.result ≡ Some t
    → (vs : List Value) → OfTypes f.parameters vs → (turns : ℕ) → Yields (OfType t) (calls i vs turns)

module _ {N : Type 0} (calls : Calls) (w : World N) where
  abbrev Comes : Code N → SplType → Type 0
  Comes x t = (turns : ℕ) → Yields (OfType t) (code_value calls x w turns)

  abbrev ElementsCome : List (Code N) → SplType → Type 0
  ElementsCome xs t = (turns : ℕ) → Yields (AllOf t) (values_of calls xs w turns)

  abbrev PairsCome : List (Code N × Code N) → SplType → SplType → Type 0
  PairsCome xs k t = (turns : ℕ) → Yields (AllPairs k t) (pair_values calls xs w turns)

  -- the values stand at the places of their codes
  abbrev AtPlaces : List (ℕ × Code N) → List (Named SplType) → List (ℕ × Value) → Type 0
  AtPlaces fs schema gs = (places gs ≡ places fs) × AllByRecursion (FieldHolds schema) gs

  abbrev FieldsCome : List (ℕ × Code N) → List (Named SplType) → Type 0
  FieldsCome fs schema = (turns : ℕ) → Yields (AtPlaces fs schema) (field_values calls fs w turns)

  abbrev ArgumentsCome : List (Code N) → List SplType → Type 0
  ArgumentsCome xs ts = (turns : ℕ) → Yields (OfTypes ts) (values_of calls xs w turns)

  abbrev StepsCome : List (Selector (Code N)) → SplType → SplType → Type 0
  StepsCome steps t u = (v : Value) → OfType t v → (turns : ℕ) → Yields (OfType u) (takings_value calls steps v w turns)

  -- by the equation of a form
  comes_by : (x : Code N) (t : SplType) (o : ℕ → Outcome Value) → ((turns : ℕ) → code_value calls x w turns ≡ o turns) → ((turns : ℕ) → Yields (OfType t) (o turns)) → Comes x t
  comes_by x t o e h turns = subst (Yields (OfType t)) (sym (e turns)) (h turns)

  literal_comes : (v : Value) (t : SplType) → OfType t v → Comes (C.Literal v) t
  literal_comes v t h = comes_by (C.Literal v) t _ (literal_is calls v w) (λ turns. h)

  name_comes : (n : N) (t : SplType) → IsThere (OfType t) (w.value_of n) → Comes (C.Name n) t
  name_comes n t h = comes_by (C.Name n) t _ (name_is calls n w) (λ turns. yields_need (OfType t) (OfType t) (w.value_of n) _ h (λ v f. f))

  list_comes : (xs : List (Code N)) (t : SplType) → ElementsCome xs t → Comes (C.List xs) (S.List t)
  list_comes xs t h =
      comes_by (C.List xs) (S.List t) _ (list_is calls xs w) (λ turns.
      yields_followed (AllOf t) (OfType (S.List t)) (values_of calls xs w turns) _ (h turns) (λ vs turns f. fits_list t vs ∙ f))

  map_comes : (xs : List (Code N × Code N)) (k t : SplType) → PairsCome xs k t → Comes (C.Map xs) (S.Map k t)
  map_comes xs k t h =
      comes_by (C.Map xs) (S.Map k t) _ (map_is calls xs w) (λ turns.
      yields_followed (AllPairs k t) (OfType (S.Map k t)) (pair_values calls xs w turns) _ (h turns) (λ ps turns f. map_of_fits k t ps f))

  tuple_comes : (fs : List (ℕ × Code N)) (schema : List (Named SplType)) → FieldsCome fs schema
      → ((i : ℕ) → i < length schema → how_often i (places fs) ≡ 1) → Comes (C.Tuple fs) (S.Tuple schema)
  tuple_comes fs schema h once =
      comes_by (C.Tuple fs) (S.Tuple schema) _ (tuple_is calls fs w) (λ turns.
      yields_followed (AtPlaces fs schema) (OfType (S.Tuple schema)) (field_values calls fs w turns) _ (h turns) (λ gs turns f.
      yields_need (λ vs. IsTrue (tuple_fits schema vs)) (OfType (S.Tuple schema)) (tuple_of gs) _
      (tuple_made schema gs f.1 (λ i lt. ap (how_often i) f.0 ∙ once i lt)) (λ vs g. fits_tuple schema vs ∙ g)))

  select_comes : (x : Code N) (steps : List (Selector (Code N))) (t u : SplType) → Comes x t → StepsCome steps t u → Comes (C.Select x steps) u
  select_comes x steps t u f g =
      comes_by (C.Select x steps) u _ (select_is calls x steps w) (λ turns.
      yields_followed (OfType t) (OfType u) (code_value calls x w turns) _ (f turns) (λ v turns h. g v h turns))

  unary_comes : (ops : List UnaryCode) (x : Code N) (t u : SplType) → Comes x t → UnariesGive ops t u → Comes (C.Unary ops x) u
  unary_comes ops x t u f gives =
      comes_by (C.Unary ops x) u _ (unary_is calls ops x w) (λ turns.
      yields_followed (OfType t) (OfType u) (code_value calls x w turns) _ (f turns) (λ v turns h. unaries_yield ops t u gives v h turns))

  binary_comes : (op : BinaryCode) (x y : Code N) (t u r : SplType) → Comes x t → Comes y u → BinaryGives op t u r → Comes (C.Binary op x y) r
  binary_comes op x y t u r f g gives =
      comes_by (C.Binary op x y) r _ (binary_is calls op x y w) (binary_yields w op t u r gives (code_value calls x) (code_value calls y) f g)

  conditional_comes : (c x y : Code N) (t : SplType) → Comes c S.Bool → Comes x t → Comes y t → Comes (C.Conditional c x y) t
  conditional_comes c x y t f g h =
      comes_by (C.Conditional c x y) t _ (conditional_is calls c x y w) (λ turns.
      yields_followed AnyAnswer (OfType t) (truth_value calls c w turns) _ (truth_yields w (code_value calls c) f turns) (λ b turns e.
      yields_either (OfType t) b (code_value calls x w turns) (code_value calls y w turns) (g turns) (h turns)))

  built_in_comes : (call : BuiltIn) (xs : List (Code N)) (ts : List SplType) (t : SplType) → ArgumentsCome xs ts → BuiltInGives call ts t → Comes (C.BuiltIn call xs) t
  built_in_comes call xs ts t f gives =
      comes_by (C.BuiltIn call xs) t _ (built_in_is calls call xs w) (λ turns.
      yields_followed (OfTypes ts) (OfType t) (values_of calls xs w turns) _ (f turns) (λ vs turns h.
      yields_settled t (built_in_of call vs) turns (built_in_settles call ts t gives vs h)))

  call_comes : (i : ℕ) (xs : List (Code N)) (ts : List SplType) (t : SplType) → ArgumentsCome xs ts
      → ((vs : List Value) → OfTypes ts vs → (turns : ℕ) → Yields (OfType t) (calls i vs turns)) → Comes (C.Call i xs) t
  call_comes i xs ts t f g =
      comes_by (C.Call i xs) t _ (call_is calls i xs w) (λ turns.
      yields_followed (OfTypes ts) (OfType t) (values_of calls xs w turns) _ (f turns) (λ vs turns h.
      yields_enter (OfType t) turns _ (λ turns. g vs h turns)))

  is_marker_comes : (m : Marker) → IsThere AnyAnswer w.marker → Comes (C.IsMarker m) S.Bool
  is_marker_comes m h =
      comes_by (C.IsMarker m) S.Bool _ (is_marker_is calls m w) (λ turns.
      yields_need AnyAnswer (OfType S.Bool) w.marker _ h (λ n e. fits_bool (same_marker m n)))

  is_not_marker_comes : (m : Marker) → IsThere AnyAnswer w.marker → Comes (C.IsNotMarker m) S.Bool
  is_not_marker_comes m h =
      comes_by (C.IsNotMarker m) S.Bool _ (is_not_marker_is calls m w) (λ turns.
      yields_need AnyAnswer (OfType S.Bool) w.marker _ h (λ n e. fits_bool (not (same_marker m n))))

  -- ---- rows of codes

  element_comes : (x : Code N) (xs : List (Code N)) (t : SplType) → Comes x t → ElementsCome xs t → ElementsCome (x ∷ xs) t
  element_comes x xs t f g turns =
      yields_followed (OfType t) (AllOf t) (code_value calls x w turns) _ (f turns) (λ v turns h.
      yields_followed (AllOf t) (AllOf t) (values_of calls xs w turns) _ (g turns) (λ vs turns i. both_true h i))

  pair_comes : (x y : Code N) (xs : List (Code N × Code N)) (k t : SplType) → Comes x k → Comes y t → PairsCome xs k t → PairsCome ((x, y) ∷ xs) k t
  pair_comes x y xs k t e f g turns =
      yields_followed (OfType k) (AllPairs k t) (code_value calls x w turns) _ (e turns) (λ u turns h.
      yields_followed (OfType t) (AllPairs k t) (code_value calls y w turns) _ (f turns) (λ v turns i.
      yields_followed (AllPairs k t) (AllPairs k t) (pair_values calls xs w turns) _ (g turns) (λ ps turns j. both_true (both_true h i) j)))

  field_comes : (i : ℕ) (x : Code N) (fs : List (ℕ × Code N)) (schema : List (Named SplType)) (a : Named SplType) → slice_get schema i ≡ Some a
      → Comes x a.kind → FieldsCome fs schema → FieldsCome ((i, x) ∷ fs) schema
  field_comes i x fs schema a e f g turns =
      yields_followed (OfType a.kind) (AtPlaces ((i, x) ∷ fs) schema) (code_value calls x w turns) _ (f turns) (λ v turns h.
      yields_followed (AtPlaces fs schema) (AtPlaces ((i, x) ∷ fs) schema) (field_values calls fs w turns) _ (g turns) (λ gs turns j.
      (ap (λ (l : List ℕ). i ∷ l) j.0, ((a, e, h), j.1))))

  argument_comes : (x : Code N) (xs : List (Code N)) (t : SplType) (ts : List SplType) → Comes x t → ArgumentsCome xs ts → ArgumentsCome (x ∷ xs) (t ∷ ts)
  argument_comes x xs t ts f g turns =
      yields_followed (OfType t) (OfTypes (t ∷ ts)) (code_value calls x w turns) _ (f turns) (λ v turns h.
      yields_followed (OfTypes ts) (OfTypes (t ∷ ts)) (values_of calls xs w turns) _ (g turns) (λ vs turns i. (h, i)))

  -- ---- what is taken

  member_comes : (i : ℕ) (steps : List (Selector (Code N))) (schema : List (Named SplType)) (a : Named SplType) (u : SplType) → slice_get schema i ≡ Some a
      → StepsCome steps a.kind u → StepsCome (K.Member i ∷ steps) (S.Tuple schema) u
  member_comes i steps schema a u e g v h turns =
      yields_followed (OfType a.kind) (OfType u) (settled (level_member i (out-Value v)) turns) _
      (yields_settled a.kind (level_member i (out-Value v)) turns (member_settles i schema a v e h)) (λ x turns f. g x f turns)

  index_comes : (x : Code N) (steps : List (Selector (Code N))) (k : IntKind) (t u : SplType) → Comes x (S.Int k) → StepsCome steps t u
      → StepsCome (K.Element x ∷ steps) (S.List t) u
  index_comes x steps k t u f g v h turns =
      yields_followed (OfType t) (OfType u) (followed (code_value calls x w turns) (λ n turns. settled (level_element (out-Value v) (out-Value n)) turns)) _
      (yields_followed (OfType (S.Int k)) (OfType t) (code_value calls x w turns) _ (f turns) (λ n turns i.
      yields_settled t (level_element (out-Value v) (out-Value n)) turns (element_settles t k v n h i))) (λ y turns i. g y i turns)

  at_key_comes : (x : Code N) (steps : List (Selector (Code N))) (k t u : SplType) → Comes x k → StepsCome steps t u → StepsCome (K.AtKey x ∷ steps) (S.Map k t) u
  at_key_comes x steps k t u f g v h turns =
      yields_followed (OfType t) (OfType u) (followed (code_value calls x w turns) (λ n turns. settled (level_at_key (out-Value v) n) turns)) _
      (yields_followed (OfType k) (OfType t) (code_value calls x w turns) _ (f turns) (λ n turns i.
      yields_settled t (level_at_key (out-Value v) n) turns (at_key_settles k t v n h))) (λ y turns i. g y i turns)

-- ---- codes that fit

module _ (scope : Scope) (env : Env) (calls : Calls) (e : EnvFits scope env) (g : CallsFit scope.functions calls) where
  marker_there : IsTrue scope.punct → IsThere AnyAnswer env.punct
  marker_there h = let m = e.marker h in (m.0, m.1, tt)

  mutual
    pub code_comes : (x : Code Slot) (t : SplType) → CodeFits scope x t → Comes calls (world_of env) x t
    code_comes _ _ (F.literal v t h) = literal_comes calls (world_of env) v t h
    code_comes _ _ (F.name s t h) = name_comes calls (world_of env) s t (slot_there scope env e s t h)
    code_comes _ _ (F.list xs t h) = list_comes calls (world_of env) xs t (elements_come xs t h)
    code_comes _ _ (F.map xs k t h) = map_comes calls (world_of env) xs k t (pairs_come xs k t h)
    code_comes _ _ (F.tuple fs schema h each) =
        tuple_comes calls (world_of env) fs schema (fields_come fs schema h) (λ i lt. sym (counts_places i fs) ∙ each i lt)
    code_comes _ _ (F.select x steps t u f h) = select_comes calls (world_of env) x steps t u (code_comes x t f) (steps_come steps t u h)
    code_comes _ _ (F.unary ops x t u f gives) = unary_comes calls (world_of env) ops x t u (code_comes x t f) gives
    code_comes _ _ (F.binary op x y t u r f h gives) = binary_comes calls (world_of env) op x y t u r (code_comes x t f) (code_comes y u h) gives
    code_comes _ _ (F.conditional c x y t f h i) = conditional_comes calls (world_of env) c x y t (code_comes c S.Bool f) (code_comes x t h) (code_comes y t i)
    code_comes _ _ (F.built_in call xs ts t h gives) = built_in_comes calls (world_of env) call xs ts t (arguments_come xs ts h) gives
    code_comes _ _ (F.call i xs f t at result h) = call_comes calls (world_of env) i xs f.parameters t (arguments_come xs f.parameters h) (g i f t at result)
    code_comes _ _ (F.is_marker m h) = is_marker_comes calls (world_of env) m (marker_there h)
    code_comes _ _ (F.is_not_marker m h) = is_not_marker_comes calls (world_of env) m (marker_there h)

    elements_come : (xs : List (Code Slot)) (t : SplType) → ElementsFit scope xs t → ElementsCome calls (world_of env) xs t
    elements_come _ _ (F.no_elements t) = λ turns. refl
    elements_come _ _ (F.element x xs t f h) = element_comes calls (world_of env) x xs t (code_comes x t f) (elements_come xs t h)

    pairs_come : (xs : List (Code Slot × Code Slot)) (k t : SplType) → PairsFit scope xs k t → PairsCome calls (world_of env) xs k t
    pairs_come _ _ _ (F.no_pairs k t) = λ turns. refl
    pairs_come _ _ _ (F.pair x y xs k t f h i) = pair_comes calls (world_of env) x y xs k t (code_comes x k f) (code_comes y t h) (pairs_come xs k t i)

    fields_come : (fs : List (ℕ × Code Slot)) (schema : List (Named SplType)) → FieldsFit scope fs schema → FieldsCome calls (world_of env) fs schema
    fields_come _ _ (F.no_fields schema) = λ turns. (refl, tt)
    fields_come _ _ (F.field i x fs schema a at f h) = field_comes calls (world_of env) i x fs schema a at (code_comes x a.kind f) (fields_come fs schema h)

    pub arguments_come : (xs : List (Code Slot)) (ts : List SplType) → ArgumentsFit scope xs ts → ArgumentsCome calls (world_of env) xs ts
    arguments_come _ _ F.no_arguments = λ turns. tt
    arguments_come _ _ (F.argument x xs t ts f h) = argument_comes calls (world_of env) x xs t ts (code_comes x t f) (arguments_come xs ts h)

    steps_come : (steps : List (Selector (Code Slot))) (t u : SplType) → StepsLead scope steps t u → StepsCome calls (world_of env) steps t u
    steps_come _ _ _ (F.here t) = λ v h turns. h
    steps_come _ _ _ (F.member i steps schema a u at h) = member_comes calls (world_of env) i steps schema a u at (steps_come steps a.kind u h)
    steps_come _ _ _ (F.index x steps k t u f h) = index_comes calls (world_of env) x steps k t u (code_comes x (S.Int k) f) (steps_come steps t u h)
    steps_come _ _ _ (F.at_key x steps k t u f h) = at_key_comes calls (world_of env) x steps k t u (code_comes x k f) (steps_come steps t u h)
