-- The state of a replica's operator.
use Rattle.std.proofs.Common.{◌≡◌, ℕ, ◌%◌, ◌==◌, ◌||◌, ◌<◌, ◌⊎◌, inl, inr, not, Bool, true, false, List, [], ◌∷◌, ◌++◌, map, reverse, refl, sym, ap, ◌∙◌, append-nil, cond, subst, slice_get, Option, Some, None}
use Rattle.std.specs.List.{AllByRecursion, enumerate_from}
use Rattle.std.specs.Option.{option_and_then}
use Rattle.std.proofs.lemmas.Bool.{and_parts}
use Rattle.std.proofs.lemmas.List.{reverse-append}
use Rattle.spl_value.specs.Key.{fnv, has_place, key_of}
use Rattle.spl_value.specs.KeyOrder.{same_key}
use Rattle.spl_value.proofs.KeyOrder.{same_key-equal}
use Rattle.spl_value.specs.declared.item.Item.{Item}
use Rattle.spl_value.specs.declared.item.Item.TheVariants as I
use Rattle.spl_value.specs.declared.routing.Routing.{Routing}
use Rattle.spl_value.specs.declared.routing.Routing.TheVariants.{Key}
use Rattle.spl_value.specs.declared.value.Value.{Value}
use Rattle.spl_value.specs.Numbered.{closes}
use Rattle.spl_value.specs.Route.{route, part}
use Rattle.stream_model.specs.declared.plan.StateKind.{StateKind}
use Rattle.stream_model.specs.declared.plan.StateKind.TheVariants as K
use Rattle.stream_model.specs.Copies.{source_of, trace}
use Rattle.stream_model.specs.Meaning.{Graph}
use Rattle.stream_model.specs.Operators.{Operator}
use Rattle.stream_model.specs.PortLaws.{has_connections}
use Rattle.stream_model.specs.Regions.{any_keyed, chain_key, has_key, is_safe, tuples_of_key}
use Rattle.stream_model.specs.Stages.{chain}
use Rattle.stream_model.specs.StateKinds.{is_keyed, state_of}
use Rattle.stream_model.specs.Stream.{Event, any_closes, came, is_closed}
use Rattle.attribute_flow.proofs.Chaining.{and_then_twice}
use Rattle.channel_heads.proofs.ByNumber.{Tagged}
use Rattle.stream_model.specs.Replicas.{replica, under}
use Rattle.stream_model.specs.Regions.{routing_by}
use Rattle.region_laws.specs.ReplicaState.{HasRegionKey, KeyLaw, StateLaw, history}
use Rattle.region_laws.proofs.NumberedItems.{items, any_ends, cut_tagged, cut-cut, cut-none, items-numbered, on_channel}
use Rattle.region_laws.proofs.Unended.{IsMember, history_of, items-replica, unended, unended_chain, replica-unended, gives_needed, needed_closed}
use Rattle.region_laws.proofs.Stagewise.{by_operators}
use Rattle.region_laws.proofs.Channels.{cause_in, channel_in, part-is}
use Rattle.region_laws.proofs.AlikeKeys.{key_alike, enc_alike}
use Rattle.region_laws.proofs.Merges.{open-channel}
use Rattle.region_laws.proofs.RegionLaw.{route-within}
use Rattle.region_laws.proofs.SafeChains.{safe_spread}
use Rattle.region_laws.proofs.SpreadChains.{AllHaveCause, HasCause, IsSpread, Reads, channel-chain, causes-first, members, unended-causes, same_tuple}

-- ---- the first part of a chain

-- where the attributes of what a chain gives come from
abbrev pub sources : (ℕ → Option ℕ) → List Operator → ℕ → Option ℕ
sources source [] = source
sources source (op ∷ ops) = sources (λ q. option_and_then source (source_of op.clauses q)) ops

pub spread-first : (routing : Routing) (source : ℕ → Option ℕ) (before rest : List Operator) → IsSpread routing source (before ++ rest) → IsSpread routing source before
spread-first routing source [] rest s = tt
spread-first routing source (op ∷ before) rest s = (s.0, s.1, spread-first routing (λ q. option_and_then source (source_of op.clauses q)) before rest s.2)

pub spread-rest : (routing : Routing) (source : ℕ → Option ℕ) (before rest : List Operator) → IsSpread routing source (before ++ rest) → IsSpread routing (sources source before) rest
spread-rest routing source [] rest s = s
spread-rest routing source (op ∷ before) rest s = spread-rest routing (λ q. option_and_then source (source_of op.clauses q)) before rest s.2

pub chain-causes : (cause : ℕ → Item) (routing : Routing) (source : ℕ → Option ℕ) (ops : List Operator) (ps : List Tagged) → IsSpread routing source ops → AllHaveCause cause source ps
    → AllHaveCause cause (sources source ops) (unended_chain ops ps)
chain-causes cause routing source [] ps s g = g
chain-causes cause routing source (op ∷ ops) ps s g =
    chain-causes cause routing (λ q. option_and_then source (source_of op.clauses q)) ops (unended op (state_of op) [] ps) s.2 (unended-causes cause source op s.0 (state_of op) [] ps g)

sources-trace : (source : ℕ → Option ℕ) (ops : List Operator) (q : ℕ) → sources source ops q ≡ option_and_then source (trace (map (λ (op : Operator). op.clauses) ops) q)
sources-trace source [] q = refl
sources-trace source (op ∷ ops) q =
    sources-trace (λ p. option_and_then source (source_of op.clauses p)) ops q
    ∙ sym (and_then_twice source (source_of op.clauses) (trace (map (λ (op : Operator). op.clauses) ops) q))

itself : (found : Option ℕ) → option_and_then (λ a. Some a) found ≡ found
itself None = refl
itself (Some a) = refl

unended_chain-append : (before rest : List Operator) (ps : List Tagged) → unended_chain (before ++ rest) ps ≡ unended_chain rest (unended_chain before ps)
unended_chain-append [] rest ps = refl
unended_chain-append (op ∷ before) rest ps = unended_chain-append before rest (unended op (state_of op) [] ps)

members-first : (before rest : List Operator) → AllByRecursion IsMember (before ++ rest) → AllByRecursion IsMember before
members-first [] rest ms = tt
members-first (op ∷ before) rest ms = (ms.0, members-first before rest ms.1)

members-rest : (before rest : List Operator) → AllByRecursion IsMember (before ++ rest) → AllByRecursion IsMember rest
members-rest [] rest ms = ms
members-rest (op ∷ before) rest ms = members-rest before rest ms.1

-- ---- chains that haven't ended

pub ends-items : (ps : List Tagged) → any_closes (items ps) ≡ any_ends ps
ends-items [] = refl
ends-items (p ∷ ps) = go p.1 (ends-items ps) where
  go : (x : Item) → any_closes (items ps) ≡ any_ends ps → any_closes (x ∷ items ps) ≡ cond (closes x) true (any_ends ps)
  go (I.Tuple vs) h = h
  go I.Window h = h
  go I.Final h = refl
  go (I.Bad f) h = refl

ends-cut : (ps : List Tagged) → any_ends (cut_tagged ps) ≡ any_ends ps
ends-cut [] = refl
ends-cut (p ∷ ps) = go (closes p.1) (ends-cut ps) where
  go : (b : Bool) → any_ends (cut_tagged ps) ≡ any_ends ps → cond b true (any_ends (cond b [] (cut_tagged ps))) ≡ cond b true (any_ends ps)
  go true h = refl
  go false h = h

closed_ends_under : (n : ℕ) (xs : List Item) (ps : List Tagged) → is_closed xs ≡ true → any_ends (under n xs ++ ps) ≡ true
closed_ends_under n [] ps h = absurd (let no : false ≡ true = h in cc)
closed_ends_under n (I.Tuple vs ∷ xs) ps h = closed_ends_under n xs ps h
closed_ends_under n (I.Window ∷ xs) ps h = closed_ends_under n xs ps h
closed_ends_under n (I.Final ∷ xs) ps h = refl
closed_ends_under n (I.Bad f ∷ xs) ps h = refl

pub ends_behind : (xs ys : List Tagged) → any_ends ys ≡ true → any_ends (xs ++ ys) ≡ true
ends_behind [] ys h = h
ends_behind (p ∷ xs) ys h = go (closes p.1) (ends_behind xs ys h) where
  go : (b : Bool) → any_ends (xs ++ ys) ≡ true → cond b true (any_ends (xs ++ ys)) ≡ true
  go true h = refl
  go false h = h

unended-ends : (op : Operator) (kind : StateKind) → IsMember op → (S ps : List Tagged) → any_ends ps ≡ true → any_ends (unended op kind S ps) ≡ true
unended-ends op kind m S [] h = absurd (let no : false ≡ true = h in cc)
unended-ends op kind m S (p ∷ ps) h = go (closes p.1) refl h (unended-ends op kind m (p ∷ S) ps) where
  go : (b : Bool) → closes p.1 ≡ b → cond b true (any_ends ps) ≡ true → (any_ends ps ≡ true → any_ends (unended op kind (p ∷ S) ps) ≡ true)
      → any_ends (under p.0 (gives_needed op kind S p.1) ++ unended op kind (p ∷ S) ps) ≡ true
  go true e h ih = closed_ends_under p.0 (gives_needed op kind S p.1) (unended op kind (p ∷ S) ps) (needed_closed op kind m S p.1 e)
  go false e h ih = ends_behind (under p.0 (gives_needed op kind S p.1)) (unended op kind (p ∷ S) ps) (ih h)

chain-ends : (ops : List Operator) (ps : List Tagged) → AllByRecursion IsMember ops → any_ends ps ≡ true → any_ends (unended_chain ops ps) ≡ true
chain-ends [] ps ms h = h
chain-ends (op ∷ ops) ps ms h = chain-ends ops (unended op (state_of op) [] ps) ms.1 (unended-ends op (state_of op) ms.0 [] ps h)

open-before : (ops : List Operator) (ps : List Tagged) → AllByRecursion IsMember ops → any_ends (unended_chain ops ps) ≡ false → any_ends ps ≡ false
open-before ops ps ms h = go (any_ends ps) refl where
  go : (b : Bool) → any_ends ps ≡ b → b ≡ false
  go true e = let no : true ≡ false = sym (chain-ends ops ps ms e) ∙ h in cc
  go false e = refl

cut-replica : (ops : List Operator) (ps : List Tagged) → AllByRecursion IsMember ops → cut_tagged (replica ops ps) ≡ cut_tagged (unended_chain ops ps)
cut-replica [] ps ms = ap cut_tagged (by_operators [] ps)
cut-replica (op ∷ ops) ps ms = ap cut_tagged (replica-unended op ops ps ms) ∙ cut-cut (unended_chain (op ∷ ops) ps)

ends-replica : (ops : List Operator) (ps : List Tagged) → AllByRecursion IsMember ops → any_ends (replica ops ps) ≡ any_ends (unended_chain ops ps)
ends-replica ops ps ms = sym (ends-cut (replica ops ps)) ∙ ap any_ends (cut-replica ops ps ms) ∙ ends-cut (unended_chain ops ps)

-- a replica that hasn't ended gives what it would give if it never did
open-replica : (ops : List Operator) (ps : List Tagged) → AllByRecursion IsMember ops → any_ends (unended_chain ops ps) ≡ false → replica ops ps ≡ unended_chain ops ps
open-replica ops ps ms h =
    sym (cut-none (replica ops ps) (ends-replica ops ps ms ∙ h)) ∙ cut-replica ops ps ms ∙ cut-none (unended_chain ops ps) h

-- ---- histories

events-are : (S : List Tagged) → map (came 0) (items S) ≡ history_of S
events-are [] = refl
events-are (p ∷ S) = ap (λ z. came 0 p.1 ∷ z) (events-are S)

key-append : (places : List ℕ) (k : List Value) (xs ys : List Event) → tuples_of_key places k (xs ++ ys) ≡ tuples_of_key places k xs ++ tuples_of_key places k ys
key-append places k [] ys = refl
key-append places k (e ∷ xs) ys = go (has_key places k e.item) (key-append places k xs ys) where
  go : (b : Bool) → tuples_of_key places k (xs ++ ys) ≡ tuples_of_key places k xs ++ tuples_of_key places k ys
      → cond b (e ∷ tuples_of_key places k (xs ++ ys)) (tuples_of_key places k (xs ++ ys)) ≡ cond b (e ∷ tuples_of_key places k xs) (tuples_of_key places k xs) ++ tuples_of_key places k ys
  go true h = ap (λ z. e ∷ z) h
  go false h = h

key-reverse : (places : List ℕ) (k : List Value) (es : List Event) → tuples_of_key places k (reverse es) ≡ reverse (tuples_of_key places k es)
key-reverse places k [] = refl
key-reverse places k (e ∷ es) =
    ap (tuples_of_key places k) (reverse-append (e ∷ []) es)
    ∙ key-append places k (reverse es) (e ∷ [])
    ∙ ap (λ z. z ++ tuples_of_key places k (e ∷ [])) (key-reverse places k es)
    ∙ go (has_key places k e.item)
  where
    go : (b : Bool) → reverse (tuples_of_key places k es) ++ cond b (e ∷ []) [] ≡ reverse (cond b (e ∷ tuples_of_key places k es) (tuples_of_key places k es))
    go true = sym (reverse-append (e ∷ []) (tuples_of_key places k es))
    go false = append-nil (reverse (tuples_of_key places k es))

-- ---- the tuples of a key on a channel

module _ (routing : Routing) (width c : ℕ) (L : List Item) (source : ℕ → Option ℕ) (places key : List ℕ) (vs us : List Value)
    (is : routing ≡ Key key) (some : (a : ℕ) × (has_place key a ≡ true))
    (copies : (a : ℕ) → has_place key a ≡ true → (q : ℕ) × (has_place places q ≡ true) × (source q ≡ Some a))
    (with_key : (q a : ℕ) → source q ≡ Some a → has_place key a ≡ true → slice_get us q ≡ slice_get vs a) where
  leads : (n : ℕ) (ws : List Value) → HasCause (cause_in L) source n (I.Tuple ws) → same_key (key_of us places) (key_of ws places) ≡ true
      → channel_in routing width L n ≡ route (Key key) width 0 (I.Tuple vs)
  leads n ws g e =
      let first = copies some.0 some.1 in
      let cause = g first.0 some.0 first.2 in
      ap (λ z. route z width n (cause_in L n)) is
      ∙ ap (route (Key key) width n) cause.1
      ∙ ap (λ bytes. fnv bytes % width) (enc_alike cause.0 vs key (λ a has. at a has cause.0 cause.1))
    where
      at : (a : ℕ) → has_place key a ≡ true → (xs : List Value) → cause_in L n ≡ I.Tuple xs → slice_get xs a ≡ slice_get vs a
      at a has xs ex =
          let one = copies a has in
          let d = g one.0 a one.2 in
          ap (λ z. slice_get z a) (same_tuple xs d.0 (cause_in L n) ex d.1)
          ∙ sym d.2
          ∙ sym (key_alike us ws places (same_key-equal (key_of us places) (key_of ws places) e) one.0 one.1)
          ∙ with_key one.0 a one.2 has

  abbrev of_key : List Tagged → List Event
  of_key S = tuples_of_key places (key_of us places) (history_of S)

  key-channel : (S : List Tagged) → AllHaveCause (cause_in L) source S
      → of_key (on_channel (channel_in routing width L) c S) ≡ cond (route (Key key) width 0 (I.Tuple vs) == c) (of_key S) []
  key-channel [] g = go (route (Key key) width 0 (I.Tuple vs) == c) where
    go : (b : Bool) → [] ≡ cond {A = List Event} b [] []
    go true = refl
    go false = refl
  key-channel (p ∷ S) g =
      go p.1 (has_key places (key_of us places) p.1) (channel_in routing width L p.0 == c) (route (Key key) width 0 (I.Tuple vs) == c) refl refl
      (λ ws x e. ap (λ z. z == c) (leads p.0 ws (subst (λ z. HasCause (cause_in L) source p.0 z) x g.0) e))
      (key-channel S g.1)
    where
      go : (x : Item) (t b d : Bool) → p.1 ≡ x → has_key places (key_of us places) p.1 ≡ t
          → ((ws : List Value) → p.1 ≡ I.Tuple ws → same_key (key_of us places) (key_of ws places) ≡ true → b ≡ d)
          → of_key (on_channel (channel_in routing width L) c S) ≡ cond d (of_key S) []
          → of_key (cond b (p ∷ on_channel (channel_in routing width L) c S) (on_channel (channel_in routing width L) c S)) ≡ cond d (cond t (came 0 p.1 ∷ of_key S) (of_key S)) []
      go x false true d xs e same h =
          ap (λ t. cond t (came 0 p.1 ∷ of_key (on_channel (channel_in routing width L) c S)) (of_key (on_channel (channel_in routing width L) c S))) e ∙ h
      go x false false d xs e same h = h
      go (I.Tuple ws) true b d xs e same h =
          both b d (same ws xs (sym (ap (has_key places (key_of us places)) xs) ∙ e)) h where
            both : (b d : Bool) → b ≡ d → of_key (on_channel (channel_in routing width L) c S) ≡ cond d (of_key S) []
                → of_key (cond b (p ∷ on_channel (channel_in routing width L) c S) (on_channel (channel_in routing width L) c S)) ≡ cond d (came 0 p.1 ∷ of_key S) []
            both true true bd h =
                ap (λ t. cond t (came 0 p.1 ∷ of_key (on_channel (channel_in routing width L) c S)) (of_key (on_channel (channel_in routing width L) c S))) e ∙ ap (λ z. came 0 p.1 ∷ z) h
            both false false bd h = h
            both true false bd h = absurd (let no : true ≡ false = bd in cc)
            both false true bd h = absurd (let no : false ≡ true = bd in cc)
      go I.Window true b d xs e same h = absurd (let no : false ≡ true = sym (ap (has_key places (key_of us places)) xs) ∙ e in cc)
      go I.Final true b d xs e same h = absurd (let no : false ≡ true = sym (ap (has_key places (key_of us places)) xs) ∙ e in cc)
      go (I.Bad f) true b d xs e same h = absurd (let no : false ≡ true = sym (ap (has_key places (key_of us places)) xs) ∙ e in cc)

-- ---- the law

turn : (b : Bool) (xs ys : List Event) → reverse xs ≡ ys → reverse (cond b xs []) ≡ cond b ys []
turn true xs ys e = e
turn false xs ys e = refl

nothing : (b : Bool) (xs : List Event) → xs ≡ [] → [] ≡ cond b xs []
nothing true xs e = sym e
nothing false xs e = refl

-- a tuple with a key among numbered items, with its cause
record Found (places : List ℕ) (k : List Value) (cause : ℕ → Item) (source : ℕ → Option ℕ) : Type 0 where
  number : ℕ
  tuple : List Value
  has : HasCause cause source number (I.Tuple tuple)
  same : same_key k (key_of tuple places) ≡ true

find : (places : List ℕ) (k : List Value) (cause : ℕ → Item) (source : ℕ → Option ℕ) (S : List Tagged) → AllHaveCause cause source S
    → (tuples_of_key places k (history_of S) ≡ []) ⊎ Found places k cause source
find places k cause source [] g = inl refl
find places k cause source (p ∷ S) g = go p.1 (has_key places k p.1) refl refl (find places k cause source S g.1) where
  go : (x : Item) (b : Bool) → p.1 ≡ x → has_key places k p.1 ≡ b → (tuples_of_key places k (history_of S) ≡ []) ⊎ Found places k cause source
      → (cond b (came 0 p.1 ∷ tuples_of_key places k (history_of S)) (tuples_of_key places k (history_of S)) ≡ []) ⊎ Found places k cause source
  go x false is e rest = rest
  go (I.Tuple us) true is e rest = inr (record {
    number = p.0;
    tuple = us;
    has = subst (λ z. HasCause cause source p.0 z) is g.0;
    same = ap (has_key places k) (sym is) ∙ e;
  })
  go I.Window true is e rest = absurd (let no : false ≡ true = ap (has_key places k) (sym is) ∙ e in cc)
  go I.Final true is e rest = absurd (let no : false ≡ true = ap (has_key places k) (sym is) ∙ e in cc)
  go (I.Bad f) true is e rest = absurd (let no : false ≡ true = ap (has_key places k) (sym is) ∙ e in cc)

none-channel : (places : List ℕ) (k : List Value) (channel_at : ℕ → ℕ) (c : ℕ) (S : List Tagged) → tuples_of_key places k (history_of S) ≡ []
    → tuples_of_key places k (history_of (on_channel channel_at c S)) ≡ []
none-channel places k channel_at c [] e = refl
none-channel places k channel_at c (p ∷ S) e = go (has_key places k p.1) (channel_at p.0 == c) refl e (none-channel places k channel_at c S) where
  go : (b d : Bool) → has_key places k p.1 ≡ b → cond b (came 0 p.1 ∷ tuples_of_key places k (history_of S)) (tuples_of_key places k (history_of S)) ≡ []
      → (tuples_of_key places k (history_of S) ≡ [] → tuples_of_key places k (history_of (on_channel channel_at c S)) ≡ [])
      → tuples_of_key places k (history_of (cond d (p ∷ on_channel channel_at c S) (on_channel channel_at c S))) ≡ []
  go true d h e rest = absurd cc
  go false true h e rest =
      ap (λ b. cond b (came 0 p.1 ∷ tuples_of_key places k (history_of (on_channel channel_at c S))) (tuples_of_key places k (history_of (on_channel channel_at c S)))) h ∙ rest e
  go false false h e rest = rest e

-- an operator by whose keys items are spread, with the region's key
keyed-reads : (routing : Routing) (source : ℕ → Option ℕ) (kind : StateKind) (places : List ℕ) → kind ≡ K.Keyed places → Reads routing source kind → Reads routing source (K.Keyed places)
keyed-reads routing source kind places e r = subst (Reads routing source) e r

same_routing : (key other : List ℕ) → Key key ≡ Key other → key ≡ other
same_routing key other e = cc

-- a chain of which an operator keeps a state by keys, over whose replicas a stream is spread, and which hasn't ended on it
module _ (key : List ℕ) (before after : List Operator) (op : Operator) (width : ℕ) (L : List Item)
    (spread : IsSpread (Key key) (λ a. Some a) (before ++ op ∷ after)) (opens : any_closes (chain (before ++ op ∷ after) L) ≡ false) where
  abbrev channel_at : ℕ → ℕ
  channel_at = channel_in (Key key) width L

  abbrev ps : List Tagged
  ps = enumerate_from 0 L

  abbrev R : List Tagged
  R = unended_chain before ps

  ms : AllByRecursion IsMember (before ++ op ∷ after)
  ms = members (Key key) (λ a. Some a) (before ++ op ∷ after) spread

  first : IsSpread (Key key) (λ a. Some a) before
  first = spread-first (Key key) (λ a. Some a) before (op ∷ after) spread

  reads : (places : List ℕ) → state_of op ≡ K.Keyed places → Reads (Key key) (sources (λ a. Some a) before) (K.Keyed places)
  reads places kind = keyed-reads (Key key) (sources (λ a. Some a) before) (state_of op) places kind (spread-rest (Key key) (λ a. Some a) before (op ∷ after) spread).1

  caused : AllHaveCause (cause_in L) (sources (λ a. Some a) before) R
  caused = chain-causes (cause_in L) (Key key) (λ a. Some a) before ps first (causes-first L)

  whole : any_ends (unended_chain (before ++ op ∷ after) ps) ≡ false
  whole =
      sym (ends-replica (before ++ op ∷ after) ps ms) ∙ sym (ends-items (replica (before ++ op ∷ after) ps))
      ∙ ap any_closes (items-replica (before ++ op ∷ after) ps) ∙ ap (λ z. any_closes (chain (before ++ op ∷ after) z)) (items-numbered 0 L) ∙ opens

  open_here : any_ends R ≡ false
  open_here = open-before (op ∷ after) R (members-rest before (op ∷ after) ms) (ap any_ends (sym (unended_chain-append before (op ∷ after) ps)) ∙ whole)

  in_replica : (c : ℕ) → replica before (part (Key key) width L c) ≡ on_channel channel_at c R
  in_replica c =
      open-replica before (part (Key key) width L c) (members-first before (op ∷ after) ms) (ap any_ends (sym on) ∙ open-channel channel_at c R open_here) ∙ sym on
    where
      on : on_channel (channel_in (Key key) width L) c (unended_chain before (enumerate_from 0 L)) ≡ unended_chain before (part (Key key) width L c)
      on =
          channel-chain (Key key) width L c (λ a. Some a) before (enumerate_from 0 L) (spread-first (Key key) (λ a. Some a) before (op ∷ after) spread) (causes-first L)
          ∙ ap (unended_chain before) (sym (part-is (Key key) width c L))

  in_chain : chain before L ≡ items R
  in_chain =
      ap (chain before) (sym (items-numbered 0 L)) ∙ sym (items-replica before ps) ∙ ap items (open-replica before ps (members-first before (op ∷ after) ms) open_here)

  -- the tuples of a key in the replica of a channel, and in the chain
  key-replica : (places : List ℕ) (k : List Value) (c : ℕ) → tuples_of_key places k (history (items (replica before (part (Key key) width L c))))
      ≡ reverse (tuples_of_key places k (history_of (on_channel channel_at c R)))
  key-replica places k c =
      key-reverse places k (map (came 0) (items (replica before (part (Key key) width L c))))
      ∙ ap (λ z. reverse (tuples_of_key places k z)) (ap (λ z. map (came 0) (items z)) (in_replica c) ∙ events-are (on_channel channel_at c R))

  key-sequence : (places : List ℕ) (k : List Value) → tuples_of_key places k (history (chain before L)) ≡ reverse (tuples_of_key places k (history_of R))
  key-sequence places k =
      ap (λ z. tuples_of_key places k (history z)) in_chain
      ∙ ap (λ z. tuples_of_key places k (reverse z)) (events-are R) ∙ key-reverse places k (history_of R)

  pub spread_state : (places : List ℕ) (c : ℕ) (vs us : List Value) → state_of op ≡ K.Keyed places → HasRegionKey before key vs us
      → tuples_of_key places (key_of us places) (history (items (replica before (part (Key key) width L c))))
      ≡ cond (route (Key key) width 0 (I.Tuple vs) == c) (tuples_of_key places (key_of us places) (history (chain before L))) []
  spread_state places c vs us kind with_key =
      let r = reads places kind in
      key-replica places (key_of us places) c
      ∙ ap reverse (key-channel (Key key) width c L (sources (λ a. Some a) before) places r.0 vs us r.1 r.2 r.3
      (λ q a e h. with_key q a (sym (sources-trace (λ a. Some a) before q ∙ itself (trace (map (λ (op : Operator). op.clauses) before) q)) ∙ e)
      (ap (λ (ks : List ℕ). has_place ks a) (same_routing key r.0 r.1) ∙ h))
      R caused)
      ∙ turn (route (Key r.0) width 0 (I.Tuple vs) == c) (tuples_of_key places (key_of us places) (history_of R)) (tuples_of_key places (key_of us places) (history (chain before L)))
      (sym (key-sequence places (key_of us places)))
      ∙ ap (λ (ks : List ℕ). cond (route (Key ks) width 0 (I.Tuple vs) == c) (tuples_of_key places (key_of us places) (history (chain before L))) []) (sym (same_routing key r.0 r.1))

  -- a tuple with a key has the region's key of its cause
  pub one_replica : (places : List ℕ) (k : List Value) → state_of op ≡ K.Keyed places → 0 < width
      → (d : ℕ) × (d < width) × ((c : ℕ) → tuples_of_key places k (history (items (replica before (part (Key key) width L c))))
      ≡ cond (d == c) (tuples_of_key places k (history (chain before L))) [])
  one_replica places k kind some = go (find places k (cause_in L) (sources (λ a. Some a) before) R caused) where
    go : (tuples_of_key places k (history_of (unended_chain before (enumerate_from 0 L))) ≡ [])
        ⊎ Found places k (cause_in L) (sources (λ a. Some a) before)
        → (d : ℕ) × (d < width) × ((c : ℕ) → tuples_of_key places k (history (items (replica before (part (Key key) width L c))))
        ≡ cond (d == c) (tuples_of_key places k (history (chain before L))) [])
    go (inl none) = (
      0,
      some,
      λ c.
          key-replica places k c ∙ ap reverse (none-channel places k (channel_in (Key key) width L) c (unended_chain before (enumerate_from 0 L)) none)
          ∙ nothing (0 == c) (tuples_of_key places k (history (chain before L))) (key-sequence places k ∙ ap reverse none),
    )
    go (inr found) =
        let r = reads places kind in
        let lead = r.3 r.2.0 r.2.1 in
        let cause = found.has lead.0 r.2.0 lead.2 in
        let with_key : HasRegionKey before key cause.0 found.tuple
        = λ q a e h. (let from = found.has q a (sources-trace (λ a. Some a) before q ∙ itself (trace (map (λ (op : Operator). op.clauses) before) q) ∙ e) in
        from.2 ∙ ap (λ z. slice_get z a) (same_tuple from.0 cause.0 (cause_in L found.number) from.1 cause.1)) in
        let at = spread_state places in (
          route (Key key) width 0 (I.Tuple cause.0),
          route-within (Key key) width 0 (I.Tuple cause.0) some,
          λ c. subst (λ (ks : List Value). tuples_of_key places ks (history (items (replica before (part (Key key) width L c))))
              ≡ cond (route (Key key) width 0 (I.Tuple cause.0) == c) (tuples_of_key places ks (history (chain before L))) [])
              (sym (same_key-equal k (key_of found.tuple places) found.same)) (at c cause.0 found.tuple kind with_key),
        )

keyed_here : (before after : List Operator) (op : Operator) → is_keyed (state_of op) ≡ true → any_keyed (before ++ op ∷ after) ≡ true
keyed_here [] after op h = ap (λ b. b || any_keyed after) h
keyed_here (o ∷ before) after op h = go (is_keyed (state_of o)) (keyed_here before after op h) where
  go : (b : Bool) → any_keyed (before ++ op ∷ after) ≡ true → (b || any_keyed (before ++ op ∷ after)) ≡ true
  go true h = refl
  go false h = h

-- a safe chain one of whose operators keeps a state by keys goes by its key
keyed_spread : (g : Graph) (before after : List Operator) (op : Operator) (places : List ℕ) → is_safe g (before ++ op ∷ after) ≡ true
    → AllByRecursion (λ op. has_connections op ≡ true) (before ++ op ∷ after) → state_of op ≡ K.Keyed places
    → IsSpread (Key (chain_key (before ++ op ∷ after))) (λ a. Some a) (before ++ op ∷ after)
keyed_spread g before after op places safe connected kind =
    subst (λ routing. IsSpread routing (λ a. Some a) (before ++ op ∷ after)) by_key (safe_spread g (before ++ op ∷ after) safe connected)
  where
    some : (key : List ℕ) (b : Bool) → b ≡ true → (not b || not (Rattle.stream_model.specs.Stream.is_empty key)) ≡ true → routing_by key ≡ Key key
    some [] true e h = absurd (let no : false ≡ true = h in cc)
    some (a ∷ key) true e h = refl
    some key false e h = absurd (let no : false ≡ true = e in cc)

    by_key : routing_by (chain_key (before ++ op ∷ after)) ≡ Key (chain_key (before ++ op ∷ after))
    by_key = some (chain_key (before ++ op ∷ after)) (any_keyed (before ++ op ∷ after)) (keyed_here before after op (ap is_keyed kind))
        (and_parts (Rattle.stream_model.specs.Regions.is_chain g (before ++ op ∷ after))
        (not (any_keyed (before ++ op ∷ after)) || not (Rattle.stream_model.specs.Stream.is_empty (chain_key (before ++ op ∷ after)))) safe).1

pub state_law : StateLaw
state_law g before after op places width c L vs us safe connected positive kind opens with_key =
    spread_state (chain_key (before ++ op ∷ after)) before after op width L
    (keyed_spread g before after op places safe connected kind) opens places c vs us kind with_key

pub key_law : KeyLaw
key_law g before after op places width L k safe connected positive kind opens =
    one_replica (chain_key (before ++ op ∷ after)) before after op width L
    (keyed_spread g before after op places safe connected kind) opens places k kind positive
