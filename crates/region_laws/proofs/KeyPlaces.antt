-- The places of a region's key are attributes of types that keys may have, since copies keep types.
use Rattle.std.proofs.Common.{◌≡◌, ℕ, zero, suc, ◌==◌, ◌&&◌, ◌||◌, not, Bool, true, false, IsTrue, List, [], ◌∷◌, refl, sym, ap, ◌∙◌, cond, subst, Option, Some, slice_get}
use Rattle.std.specs.Prelude.{filter, if◌then◌else◌}
use Rattle.std.specs.List.{AllByRecursion}
use Rattle.std.specs.Option.{option_and_then, unwrap_or}
use Rattle.std.proofs.lemmas.Bool.{and_from, and_parts, eqb-true}
use Rattle.spl_value.specs.declared.types.Named.{Named}
use Rattle.spl_value.specs.declared.types.SplType.{SplType}
use Rattle.spl_value.specs.declared.value.Value.{Value}
use Rattle.spl_value.specs.Key.{are_key_places, has_place, is_key_option, is_key_type}
use Rattle.spl_value.specs.Values.{fits, tuple_fits}
use Rattle.spl_value.proofs.FitsLaws.{part_fits}
use Rattle.spl_value.proofs.KeyLaws.{key_types}
use Rattle.spl_tree.specs.declared.graph.OpKind.{OpKind}
use Rattle.language_model.specs.declared.checked.CheckedClauses.{CheckedClauses}
use Rattle.language_model.specs.declared.scope.Scope.{Scope}
use Rattle.language_model.specs.Keeping as K
use Rattle.language_model.specs.Keeping.{KeysFit, PartFits}
use Rattle.language_model.specs.StreamTypes.{Attributes}
use Rattle.stream_model.specs.declared.plan.StateKind.{StateKind}
use Rattle.stream_model.specs.declared.plan.StateKind.TheVariants as S
use Rattle.stream_model.specs.CheckedMeaning.{graph_of}
use Rattle.stream_model.specs.Copies.{source_of}
use Rattle.stream_model.specs.Fitting.{IsFitting}
use Rattle.stream_model.specs.Operators.{Operator, input_attributes, output_attributes}
use Rattle.stream_model.specs.Regions.{all_have, any_keyed, chain_key, entry_attributes, has_copy, ops_of}
use Rattle.stream_model.specs.StateKinds.{is_keyed, state_by, state_of}
use Rattle.stream_model.specs.Windows.{flushes_at_markers}
use Rattle.stream_model.specs.parts.StateKinds.{has_mutable}
use Rattle.attribute_flow.proofs.CodeValues.{then_some}
use Rattle.attribute_flow.proofs.CopyTypes.{HasType, copy_types}
use Rattle.region_laws.specs.RegionProper.{HasKeyLaw, KeyPlacesLaw, entry_schema}
use Rattle.region_laws.proofs.Propers.{AreTyped, typed_region}
use Rattle.region_laws.proofs.SafeChains.{place_of}
use Rattle.region_laws.proofs.Unended.{IsMember}

never : {A : Type 0} → false ≡ true → A
never e = absurd cc

-- ---- the keys of one operator

abbrev KeysAre : Attributes → List ℕ → Type 0
KeysAre schema places = (k q : ℕ) → slice_get places k ≡ Some q → (a : Named SplType) × (slice_get schema q ≡ Some a) × IsTrue (is_key_type a.kind)

not_keyed : (b : Bool) (places : List ℕ) → (if b then S.Whole else S.Stateless) ≡ S.Keyed places → ⊥
not_keyed true places h = absurd cc
not_keyed false places h = absurd cc

by_partition : (b : Bool) (partition places : List ℕ) → (if b then S.Keyed partition else S.Whole) ≡ S.Keyed places → partition ≡ places
by_partition true partition places h = cc
by_partition false partition places h = absurd cc

part_keys : (scope : Scope) (kind : OpKind) (ins outs : List Attributes) (part : CheckedClauses) (places : List ℕ) → PartFits scope kind ins outs part
    → state_by part ≡ S.Keyed places → KeysAre (unwrap_or (slice_get ins 0) []) places
part_keys scope _ _ _ _ places (K.file_source file strict schema a b) is = absurd cc
part_keys scope _ _ _ _ places (K.file_sink file schema a b) is = absurd cc
part_keys scope _ _ _ _ places (K.filter condition schema a) is = absurd cc
part_keys scope _ _ _ _ places (K.functor condition fields input schema a b d) is = absurd cc
part_keys scope _ _ _ _ places (K.punctor condition position schema a) is = absurd cc
part_keys scope _ _ _ _ places (K.split index kind schema outs a b) is = absurd cc
part_keys scope _ _ _ _ places (K.union ps ins schema a b) is = absurd cc
part_keys scope _ _ _ _ places (K.custom handlers ins outs a) is = absurd (not_keyed (has_mutable handlers) places is)
part_keys scope _ _ _ _ places (K.aggregate window partition group output input schema a fit partitioned d e) is =
    λ k q at. fit.keys k q (ap (λ (ps : List ℕ). slice_get ps k) (by_partition (window.partitioned && not (flushes_at_markers window.rule)) partition places is) ∙ at)
part_keys scope _ _ _ _ places (K.join left right condition fields first second schema a b d e f h i) is = absurd cc

-- ---- a chain

place_at : (places : List ℕ) (q : ℕ) → has_place places q ≡ true → (k : ℕ) × (slice_get places k ≡ Some q)
place_at [] q h = never h
place_at (p ∷ places) q h = go (p == q) refl h (place_at places q) where
  go : (b : Bool) → (p == q) ≡ b → (b || has_place places q) ≡ true → (has_place places q ≡ true → (k : ℕ) × (slice_get places k ≡ Some q))
      → (k : ℕ) × (slice_get (p ∷ places) k ≡ Some q)
  go true e h rest = (0, ap Some (eqb-true p q e))
  go false e h rest = let at = rest h in (suc at.0, at.1)

-- what leads from the attributes of an operator's input to those of the entry keeps types
abbrev Leads : Attributes → (ℕ → Option ℕ) → Attributes → Type 0
Leads entry source input = (q p : ℕ) (y : Named SplType) → source q ≡ Some p → slice_get input q ≡ Some y → HasType entry p y.kind

leads_on : (entry : Attributes) (source : ℕ → Option ℕ) (op : Operator) → IsMember op → IsFitting op → Leads entry source (input_attributes op 0)
    → Leads entry (λ q. option_and_then source (source_of op.clauses q)) (output_attributes op 0)
leads_on entry source op m fit leads q p y e at =
    let first = then_some (source_of op.clauses q) source p e in
    let own = copy_types op q first.0 y m.output fit (m.input, m.reads) m.writes first.1 at in
    let found = leads first.0 p own.0 first.2 own.1 in
    (found.0, found.1, found.2 ∙ own.2)

abbrev IsKey : Attributes → ℕ → Type 0
IsKey entry p = (a : Named SplType) × (slice_get entry p ≡ Some a) × IsTrue (is_key_type a.kind)

key_here : (entry : Attributes) (source : ℕ → Option ℕ) (op : Operator) (p : ℕ) (kind : StateKind) → IsFitting op → Leads entry source (input_attributes op 0)
    → state_of op ≡ kind → is_keyed kind ≡ true → has_copy source kind p ≡ true → IsKey entry p
key_here entry source op p S.Stateless fit leads is h copy = never h
key_here entry source op p (S.Keyed places) fit leads is h copy =
    let place = place_of source p places copy in
    let at = place_at places place.0 place.1 in
    let own = part_keys fit.scope fit.kind op.types.ins op.types.outs op.clauses places fit.clauses is at.0 place.0 at.1 in
    let found = leads place.0 p own.0 place.2 own.1 in
    (found.0, found.1, ap is_key_type found.2 ∙ own.2)
key_here entry source op p S.Whole fit leads is h copy = never h

chain_key_at : (entry : Attributes) (source : ℕ → Option ℕ) (op : Operator) (ops : List Operator) (p : ℕ) → AllByRecursion IsMember (op ∷ ops) → AreTyped (op ∷ ops)
    → Leads entry source (input_attributes op 0) → any_keyed (op ∷ ops) ≡ true → all_have source (op ∷ ops) p ≡ true → IsKey entry p
chain_key_at entry source op [] p ms typed leads keyed have =
    key_here entry source op p (state_of op) typed leads refl (first (is_keyed (state_of op)) keyed) (and_parts (has_copy source (state_of op) p) true have).0
  where
    first : (b : Bool) → (b || false) ≡ true → b ≡ true
    first true e = refl
    first false e = e
chain_key_at entry source op (next ∷ ops) p ms typed leads keyed have =
    let both = and_parts (has_copy source (state_of op) p) (all_have (λ q. option_and_then source (source_of op.clauses q)) (next ∷ ops) p) have in
    let onward = subst (Leads entry (λ q. option_and_then source (source_of op.clauses q))) typed.1 (leads_on entry source op ms.0 typed.0 leads) in
    go (is_keyed (state_of op)) refl keyed both.0
    (λ later. chain_key_at entry (λ q. option_and_then source (source_of op.clauses q)) next ops p ms.1 typed.2 onward later both.1)
  where
    go : (b : Bool) → is_keyed (state_of op) ≡ b → (b || any_keyed (next ∷ ops)) ≡ true → has_copy source (state_of op) p ≡ true → (any_keyed (next ∷ ops) ≡ true → IsKey entry p) → IsKey entry p
    go true e h copy rest = key_here entry source op p (state_of op) typed.0 leads refl e copy
    go false e h copy rest = rest h

-- ---- the key of a chain

filtered : (f : ℕ → Bool) (xs : List ℕ) (k p : ℕ) → slice_get (filter f xs) k ≡ Some p → f p ≡ true
filtered f [] k p at = absurd cc
filtered f (x ∷ xs) k p at = go (f x) refl k at (filtered f xs) where
  go : (b : Bool) → f x ≡ b → (k : ℕ) → slice_get (cond b (x ∷ filter f xs) (filter f xs)) k ≡ Some p
      → ((k p : ℕ) → slice_get (filter f xs) k ≡ Some p → f p ≡ true) → f p ≡ true
  go true e zero at rest = let same : x ≡ p = cc in subst (λ z. f z ≡ true) same e
  go true e (suc k) at rest = rest k p at
  go false e k at rest = rest k p at

key_at : (op : Operator) (ops : List Operator) (k p : ℕ) → AllByRecursion IsMember (op ∷ ops) → AreTyped (op ∷ ops) → slice_get (chain_key (op ∷ ops)) k ≡ Some p
    → IsKey (input_attributes op 0) p
key_at op ops k p ms typed at = go (any_keyed (op ∷ ops)) refl at where
  go : (b : Bool) → any_keyed (op ∷ ops) ≡ b → slice_get (cond b (filter (all_have (λ a. Some a) (op ∷ ops)) (entry_attributes (op ∷ ops))) []) k ≡ Some p
      → IsKey (input_attributes op 0) p
  go true e at =
      chain_key_at (input_attributes op 0) (λ a. Some a) op ops p ms typed
      (λ q r y is there. (y, ap (slice_get (input_attributes op 0)) (let same : r ≡ q = cc in same) ∙ there, refl)) e
      (filtered (all_have (λ a. Some a) (op ∷ ops)) (entry_attributes (op ∷ ops)) k p at)
  go false e at = absurd cc

pub key_places_law : KeyPlacesLaw
key_places_law c plan i region k p keeps is at there =
    let r = typed_region c plan i region keeps is at in
    go (ops_of (graph_of c) region.ops) r.members r.typed (ap (λ (key : List ℕ). slice_get key k) (sym r.is.key) ∙ there)
  where
    go : (ops : List Operator) → AllByRecursion IsMember ops → AreTyped ops → slice_get (chain_key ops) k ≡ Some p → IsKey (entry_schema ops) p
    go [] ms typed at = absurd cc
    go (op ∷ ops) ms typed at = key_at op ops k p ms typed at

-- ---- tuples

value_at : (schema : Attributes) (vs : List Value) (p : ℕ) (a : Named SplType) → IsTrue (tuple_fits schema vs) → slice_get schema p ≡ Some a
    → (v : Value) × (slice_get vs p ≡ Some v)
value_at [] vs p a h at = absurd cc
value_at (b ∷ schema) [] p a h at = never h
value_at (b ∷ schema) (v ∷ vs) zero a h at = (v, refl)
value_at (b ∷ schema) (v ∷ vs) (suc p) a h at = value_at schema vs p a (and_parts (fits b.kind v) (tuple_fits schema vs) h).1 at

keys_there : (schema : Attributes) (vs : List Value) (key : List ℕ) → IsTrue (tuple_fits schema vs) → ((k p : ℕ) → slice_get key k ≡ Some p → IsKey schema p)
    → are_key_places vs key ≡ true
keys_there schema vs [] h keys = refl
keys_there schema vs (p ∷ key) h keys =
    let a = keys 0 p refl in
    let v = value_at schema vs p a.0 h a.1 in
    and_from (is_key_option (slice_get vs p)) (are_key_places vs key)
    (ap is_key_option v.1 ∙ key_types a.0.kind v.0 a.2 (part_fits schema vs p a.0 v.0 h a.1 v.1))
    (keys_there schema vs key h (λ k. keys (suc k)))

pub has_key_law : HasKeyLaw
has_key_law c plan i region vs keeps is at h =
    keys_there (entry_schema (ops_of (graph_of c) region.ops)) vs region.key h (λ k p. key_places_law c plan i region k p keeps is at)
