-- The items of a safe chain may be spread over replicas by its key.
use Rattle.std.proofs.Common.{◌≡◌, ℕ, ◌==◌, ◌&&◌, ◌||◌, not, Bool, true, false, List, [], ◌∷◌, refl, sym, ap, ◌∙◌, cond, subst, Option, Some, None}
use Rattle.std.specs.Prelude.{filter}
use Rattle.std.specs.List.{AllByRecursion, concat, list_all, list_any}
use Rattle.std.specs.Option.{option_and_then, option_map_or}
use Rattle.std.proofs.lemmas.Bool.{and_parts, eqb-true, eq-eqb}
use Rattle.spl_value.proofs.SegmentLaws.{not_true}
use Rattle.spl_value.specs.Key.{has_place}
use Rattle.spl_value.specs.declared.routing.Routing.{Routing}
use Rattle.spl_value.specs.declared.routing.Routing.TheVariants.{Key}
use Rattle.stream_model.specs.declared.plan.StateKind.{StateKind}
use Rattle.stream_model.specs.declared.plan.StateKind.TheVariants as K
use Rattle.stream_model.specs.Copies.{source_of}
use Rattle.stream_model.specs.Meaning.{Graph}
use Rattle.stream_model.specs.Operators.{Operator, connections}
use Rattle.stream_model.specs.PortLaws.{has_connections}
use Rattle.stream_model.specs.Regions.{all_have, any_keyed, chain_key, entry_attributes, follows, has_copy, is_chain, is_eligible, is_safe}
use Rattle.stream_model.specs.Selectivity.{is_single}
use Rattle.stream_model.specs.StateKinds.{is_keyed, is_whole_state, state_of}
use Rattle.stream_model.specs.Stream.{is_empty}
use Rattle.stream_model.proofs.Keyed.{keyed_law}
use Rattle.stream_model.proofs.Stateless.{stateless_law}
use Rattle.stream_model.specs.Regions.{routing_by}
use Rattle.region_laws.proofs.Unended.{IsMember, KeepsAs}
use Rattle.region_laws.proofs.SpreadChains.{IsSpread, Reads}

never : {A : Type 0} → false ≡ true → A
never e = absurd cc

-- ---- operators

one_of : {A : Type 0} (xs : List A) → is_single xs ≡ true → (x : A) × (xs ≡ x ∷ [])
one_of [] h = never h
one_of (x ∷ []) h = (x, refl)
one_of (x ∷ y ∷ xs) h = never h

-- one connection, where each port takes a stream
one_port : (ins : List (List ℕ)) → is_single (concat ins) ≡ true → list_all (λ streams. not (is_empty streams)) ins ≡ true → (s : ℕ) × (ins ≡ (s ∷ []) ∷ [])
one_port [] h g = never h
one_port ([] ∷ ins) h g = never g
one_port ((s ∷ []) ∷ []) h g = (s, refl)
one_port ((s ∷ []) ∷ ([] ∷ ins)) h g = never g
one_port ((s ∷ []) ∷ ((t ∷ ts) ∷ ins)) h g = never h
one_port ((s ∷ (t ∷ ss)) ∷ ins) h g = never h

keeps_of : (op : Operator) (s : ℕ) → op.ins ≡ (s ∷ []) ∷ [] → (kind : StateKind) → state_of op ≡ kind → is_whole_state kind ≡ false → KeepsAs kind op
keeps_of op s one K.Stateless e h = stateless_law op s one e
keeps_of op s one (K.Keyed places) e h = keyed_law op s places one e
keeps_of op s one K.Whole e h = never (sym h)

pub member_of : (op : Operator) → is_eligible op ≡ true → has_connections op ≡ true → IsMember op
member_of op h connected =
    let first = and_parts (is_single (connections op)) (is_single op.outs && not (is_whole_state (state_of op))) h in
    let second = and_parts (is_single op.outs) (not (is_whole_state (state_of op))) first.1 in
    let input = one_port op.ins first.0 connected in
    let output = one_of op.outs second.0 in
    let kept = not_true (is_whole_state (state_of op)) second.1 in
    record {
      input = input.0;
      output = output.0;
      reads = input.1;
      writes = output.1;
      kept = kept;
      keeps = keeps_of op input.0 input.1 (state_of op) refl kept;
    }

abbrev AreConnected : List Operator → Type 0
AreConnected ops = AllByRecursion (λ op. has_connections op ≡ true) ops

pub chain_members : (g : Graph) (ops : List Operator) → is_chain g ops ≡ true → AllByRecursion (λ op. has_connections op ≡ true) ops → AllByRecursion IsMember ops
chain_members g [] h c = tt
chain_members g (op ∷ []) h c = (member_of op h c.0, tt)
chain_members g (op ∷ (next ∷ ops)) h c =
    let first = and_parts (is_eligible op) (follows g op next && is_chain g (next ∷ ops)) h in
    let second = and_parts (follows g op next) (is_chain g (next ∷ ops)) first.1 in
    (member_of op first.0 c.0, chain_members g (next ∷ ops) second.1 c.1)

-- ---- keys

later : (b : Bool) (x : Bool) → x ≡ true → (b || x) ≡ true
later true x e = refl
later false x e = e

pub place_of : (source : ℕ → Option ℕ) (a : ℕ) (places : List ℕ) → list_any (λ p. option_map_or (λ b. b == a) (source p) false) places ≡ true
    → (q : ℕ) × (has_place places q ≡ true) × (source q ≡ Some a)
place_of source a [] h = never h
place_of source a (p ∷ places) h = go (source p) refl h (place_of source a places) where
  behind : (q : ℕ) × (has_place places q ≡ true) × (source q ≡ Some a) → (q : ℕ) × (has_place (p ∷ places) q ≡ true) × (source q ≡ Some a)
  behind f = (f.0, later (p == f.0) (has_place places f.0) f.1, f.2)

  here : (b : ℕ) → source p ≡ Some b → (d : Bool) → (b == a) ≡ d → (d || list_any (λ p. option_map_or (λ b. b == a) (source p) false) places) ≡ true
      → (list_any (λ p. option_map_or (λ b. b == a) (source p) false) places ≡ true → (q : ℕ) × (has_place places q ≡ true) × (source q ≡ Some a))
      → (q : ℕ) × (has_place (p ∷ places) q ≡ true) × (source q ≡ Some a)
  here b e true d h rest = (p, ap (λ x. x || has_place places p) (eq-eqb p p refl), e ∙ ap Some (eqb-true b a d))
  here b e false d h rest = behind (rest h)

  go : (found : Option ℕ) → source p ≡ found → (option_map_or (λ b. b == a) found false || list_any (λ p. option_map_or (λ b. b == a) (source p) false) places) ≡ true
      → (list_any (λ p. option_map_or (λ b. b == a) (source p) false) places ≡ true → (q : ℕ) × (has_place places q ≡ true) × (source q ≡ Some a))
      → (q : ℕ) × (has_place (p ∷ places) q ≡ true) × (source q ≡ Some a)
  go None e h rest = behind (rest h)
  go (Some b) e h rest = here b e (b == a) refl h rest

in_filter : (f : ℕ → Bool) (xs : List ℕ) (a : ℕ) → has_place (filter f xs) a ≡ true → f a ≡ true
in_filter f [] a h = never h
in_filter f (x ∷ xs) a h = go (f x) refl h (in_filter f xs a) where
  here : (d : Bool) → (x == a) ≡ d → f x ≡ true → (d || has_place (filter f xs) a) ≡ true → (has_place (filter f xs) a ≡ true → f a ≡ true) → f a ≡ true
  here true d e h rest = subst (λ z. f z ≡ true) (eqb-true x a d) e
  here false d e h rest = rest h

  go : (b : Bool) → f x ≡ b → has_place (cond b (x ∷ filter f xs) (filter f xs)) a ≡ true → (has_place (filter f xs) a ≡ true → f a ≡ true) → f a ≡ true
  go true e h rest = here (x == a) refl e h rest
  go false e h rest = rest h

spread_of : (routing : Routing) (key : List ℕ) (source : ℕ → Option ℕ) (ops : List Operator) → AllByRecursion IsMember ops
    → (any_keyed ops ≡ true → (routing ≡ Key key) × ((a : ℕ) × (has_place key a ≡ true)))
    → ((a : ℕ) → has_place key a ≡ true → all_have source ops a ≡ true) → IsSpread routing source ops
spread_of routing key source [] ms keyed have = tt
spread_of routing key source (op ∷ ops) ms keyed have = (
  ms.0,
  reads (state_of op) refl,
  spread_of routing key (λ q. option_and_then source (source_of op.clauses q)) ops ms.1 (λ e. keyed (later (is_keyed (state_of op)) (any_keyed ops) e)) (λ a h. (both a h).1),
)
  where
    both : (a : ℕ) → has_place key a ≡ true
        → (has_copy source (state_of op) a ≡ true) × (all_have (λ q. option_and_then source (source_of op.clauses q)) ops a ≡ true)
    both a h = and_parts (has_copy source (state_of op) a) (all_have (λ q. option_and_then source (source_of op.clauses q)) ops a) (have a h)

    first : (kind : StateKind) → state_of op ≡ kind → is_keyed kind ≡ true → any_keyed (op ∷ ops) ≡ true
    first kind e h = ap (λ b. b || any_keyed ops) (ap is_keyed e ∙ h)

    reads : (kind : StateKind) → state_of op ≡ kind → Reads routing source kind
    reads K.Stateless e = tt
    reads (K.Keyed places) e =
        let by = keyed (first (K.Keyed places) e refl) in
        (key, by.0, by.1, λ a h. place_of source a places (ap (λ kind. has_copy source kind a) (sym e) ∙ (both a h).0))
    reads K.Whole e = never (sym (ap is_whole_state (sym e) ∙ ms.0.kept))

-- ---- safe chains

pub safe_spread : (g : Graph) (ops : List Operator) → is_safe g ops ≡ true → AllByRecursion (λ op. has_connections op ≡ true) ops
    → IsSpread (routing_by (chain_key ops)) (λ a. Some a) ops
safe_spread g ops safe connected =
    let both = and_parts (is_chain g ops) (not (any_keyed ops) || not (is_empty (chain_key ops))) safe in
    spread_of (routing_by (chain_key ops)) (chain_key ops) (λ a. Some a) ops (chain_members g ops both.0 connected) (λ keyed. some (chain_key ops) (any_keyed ops) keyed both.1)
    (λ a h. have a h)
  where
    some : (key : List ℕ) (b : Bool) → b ≡ true → (not b || not (is_empty key)) ≡ true → (routing_by key ≡ Key key) × ((a : ℕ) × (has_place key a ≡ true))
    some [] true e h = never h
    some (a ∷ key) true e h = (refl, (a, ap (λ x. x || has_place key a) (eq-eqb a a refl)))
    some key false e h = never e

    -- where no operator is keyed, there is no key
    by_keyed : (b : Bool) (a : ℕ) → has_place (cond b (filter (all_have (λ a. Some a) ops) (entry_attributes ops)) []) a ≡ true → all_have (λ a. Some a) ops a ≡ true
    by_keyed true a h = in_filter (all_have (λ a. Some a) ops) (entry_attributes ops) a h
    by_keyed false a h = never h

    have : (a : ℕ) → has_place (chain_key ops) a ≡ true → all_have (λ a. Some a) ops a ≡ true
    have a h = by_keyed (any_keyed ops) a h
