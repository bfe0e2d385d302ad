-- What an operator would give if it never ended, by the tuples of the event's own key alone. While it hasn't ended it gives that, and what a chain
-- of such operators gives is that up to the first item that closes.
use Rattle.std.proofs.Common.{◌≡◌, ◌<◌, ℕ, Bool, true, false, List, [], ◌∷◌, ◌++◌, map, length, refl, sym, ap, ◌∙◌, append-nil, arith, cond, subst, is_some, is_none, Option, Some, None}
use Rattle.std.specs.Prelude.{filter}
use Rattle.std.specs.List.{AllByRecursion}
use Rattle.std.proofs.lemmas.Bool.{and_parts, and_from}
use Rattle.spl_value.specs.Key.{key_of}
use Rattle.spl_value.proofs.KeyOrder.{same_key-equal}
use Rattle.spl_value.specs.declared.item.Item.{Item}
use Rattle.spl_value.specs.declared.item.Item.TheVariants as I
use Rattle.spl_value.specs.declared.value.Value.{Value}
use Rattle.spl_value.specs.Numbered.{closes}
use Rattle.stream_model.specs.declared.plan.StateKind.{StateKind}
use Rattle.stream_model.specs.declared.plan.StateKind.TheVariants as K
use Rattle.stream_model.specs.Stream.{Event, came, any_closes, is_closed}
use Rattle.stream_model.specs.Operators.{Operator}
use Rattle.stream_model.specs.React.{react, ended}
use Rattle.stream_model.specs.Stages.{Stage, start, next, gives_all, on_port, chain}
use Rattle.stream_model.specs.Replies.{is_live}
use Rattle.stream_model.specs.StateKinds.{state_of, is_whole_state}
use Rattle.stream_model.specs.Regions.{IsLocal, IsStateless, has_key, tuples_of_key}
use Rattle.stream_model.proofs.parts.Stages.{stage_outputs}
use Rattle.stream_model.proofs.Closings.{react_open, react_closed, closed_ends}
use Rattle.stream_model.proofs.StageLaws.{stage_at, on_port-append}
use Rattle.channel_heads.proofs.ByNumber.{Tagged}
use Rattle.stream_model.specs.Replicas.{under, replica}
use Rattle.region_laws.proofs.Stagewise.{by_operators, stage_gives, staged}
use Rattle.region_laws.proofs.NumberedItems.{items, cut_tagged, items-under, cut-open, cut-closed, cut-congr, cut-cut, Rising, rising-under}

-- ---- operators that may stand in regions

-- what an operator of this kind of state keeps
abbrev pub KeepsAs : StateKind → Operator → Type 0
KeepsAs K.Stateless op = IsStateless op
KeepsAs (K.Keyed places) op = IsLocal op places
KeepsAs K.Whole op = ⊥

pub record IsMember (op : Operator) : Type 0 where
  pub input : ℕ
  pub output : ℕ
  pub reads : op.ins ≡ (input ∷ []) ∷ []
  pub writes : op.outs ≡ output ∷ []
  pub kept : is_whole_state (state_of op) ≡ false
  pub keeps : KeepsAs (state_of op) op

some_out : (op : Operator) → IsMember op → 0 < length op.outs
some_out op m = let one : length op.outs ≡ 1 = ap length m.writes in omega arith

-- ---- histories of numbered items, the newest first

abbrev pub history_of : List Tagged → List Event
history_of S = map (λ (p : Tagged). came 0 p.1) S

-- what an item causes after them
abbrev pub acts : Operator → List Tagged → Item → List Item
acts op S x = on_port 0 (react op (history_of S) (came 0 x))

abbrev pub ends : Operator → List Tagged → Item → Bool
ends op S x = is_some (ended op (history_of S) (came 0 x))

-- those with this key
abbrev pub own : List ℕ → List Value → List Tagged → List Tagged
own places k S = filter (λ (p : Tagged). has_key places k p.1) S

-- those on which it depends what an item causes
abbrev pub needed : StateKind → List Tagged → Item → List Tagged
needed (K.Keyed places) S (I.Tuple vs) = own places (key_of vs places) S
needed (K.Keyed places) S I.Window = []
needed (K.Keyed places) S I.Final = []
needed (K.Keyed places) S (I.Bad f) = []
needed K.Stateless S x = []
needed K.Whole S x = []

abbrev pub live_gives : Operator → List Tagged → Item → List Item
live_gives op S x = cond (is_live op (history_of S)) (acts op S x) []

abbrev pub gives_needed : Operator → StateKind → List Tagged → Item → List Item
gives_needed op kind S x = live_gives op (needed kind S x) x

pub filter-twice : {A : Type 0} (f : A → Bool) (xs : List A) → filter f (filter f xs) ≡ filter f xs
filter-twice f [] = refl
filter-twice f (x ∷ xs) = go (f x) refl (filter-twice f xs) where
  go : (b : Bool) → f x ≡ b → filter f (filter f xs) ≡ filter f xs → filter f (cond b (x ∷ filter f xs) (filter f xs)) ≡ cond b (x ∷ filter f xs) (filter f xs)
  go true e h = ap (λ b. cond b (x ∷ filter f (filter f xs)) (filter f (filter f xs))) e ∙ ap (λ z. x ∷ z) h
  go false e h = h

needed-twice : (kind : StateKind) (S : List Tagged) (x : Item) → needed kind (needed kind S x) x ≡ needed kind S x
needed-twice (K.Keyed places) S (I.Tuple vs) = filter-twice (λ (p : Tagged). has_key places (key_of vs places) p.1) S
needed-twice (K.Keyed places) S I.Window = refl
needed-twice (K.Keyed places) S I.Final = refl
needed-twice (K.Keyed places) S (I.Bad f) = refl
needed-twice K.Stateless S x = refl
needed-twice K.Whole S x = refl

pub needed-closing : (kind : StateKind) (S : List Tagged) (x : Item) → closes x ≡ true → needed kind S x ≡ []
needed-closing (K.Keyed places) S (I.Tuple vs) e = absurd (let no : false ≡ true = e in cc)
needed-closing (K.Keyed places) S I.Window e = refl
needed-closing (K.Keyed places) S I.Final e = refl
needed-closing (K.Keyed places) S (I.Bad f) e = refl
needed-closing K.Stateless S x e = refl
needed-closing K.Whole S x e = refl

-- ---- ends

pub closed_any : (xs : List Item) → is_closed xs ≡ true → any_closes xs ≡ true
closed_any [] h = absurd (let no : false ≡ true = h in cc)
closed_any (I.Tuple vs ∷ xs) h = closed_any xs h
closed_any (I.Window ∷ xs) h = closed_any xs h
closed_any (I.Final ∷ xs) h = refl
closed_any (I.Bad f ∷ xs) h = refl

acts-ends : (op : Operator) → IsMember op → (S : List Tagged) (x : Item) → any_closes (acts op S x) ≡ ends op S x
acts-ends op m S x = go (ends op S x) refl where
  go : (b : Bool) → ends op S x ≡ b → any_closes (acts op S x) ≡ b
  go true e = closed_any (acts op S x) (react_closed op 0 (history_of S) (came 0 x) (some_out op m) e)
  go false e = react_open op 0 (history_of S) (came 0 x) e

same_ends : (op : Operator) → IsMember op → (S T : List Tagged) (x : Item) → acts op S x ≡ acts op T x → ends op S x ≡ ends op T x
same_ends op m S T x e = sym (acts-ends op m S x) ∙ ap any_closes e ∙ acts-ends op m T x

-- ---- keys

key-own : (places : List ℕ) (k : List Value) (S : List Tagged) → tuples_of_key places k (history_of (own places k S)) ≡ tuples_of_key places k (history_of S)
key-own places k [] = refl
key-own places k (p ∷ S) = go (has_key places k p.1) refl (key-own places k S) where
  go : (b : Bool) → has_key places k p.1 ≡ b → tuples_of_key places k (history_of (own places k S)) ≡ tuples_of_key places k (history_of S)
      → tuples_of_key places k (history_of (cond b (p ∷ own places k S) (own places k S))) ≡ cond b (came 0 p.1 ∷ tuples_of_key places k (history_of S)) (tuples_of_key places k (history_of S))
  go true e h = ap (λ b. cond b (came 0 p.1 ∷ tuples_of_key places k (history_of (own places k S))) (tuples_of_key places k (history_of (own places k S)))) e ∙ ap (λ z. came 0 p.1 ∷ z) h
  go false e h = h

live_parts : (op : Operator) (p : Tagged) (S : List Tagged) → is_live op (history_of (p ∷ S)) ≡ true → (is_live op (history_of S) ≡ true) × (ends op S p.1 ≡ false)
live_parts op p S l =
    let both = and_parts (is_live op (history_of S)) (is_none (ended op (history_of S) (came 0 p.1))) l in
    (both.0, none (ended op (history_of S) (came 0 p.1)) both.1)
  where
    none : (o : Option Item) → is_none o ≡ true → is_some o ≡ false
    none None e = refl
    none (Some x) e = absurd (let no : false ≡ true = e in cc)

pub live_more : (op : Operator) (p : Tagged) (S : List Tagged) → is_live op (history_of S) ≡ true → ends op S p.1 ≡ false → is_live op (history_of (p ∷ S)) ≡ true
live_more op p S l e = and_from (is_live op (history_of S)) (is_none (ended op (history_of S) (came 0 p.1))) l (some (ended op (history_of S) (came 0 p.1)) e)
  where
    some : (o : Option Item) → is_some o ≡ false → is_none o ≡ true
    some None e = refl
    some (Some x) e = absurd (let no : true ≡ false = e in cc)

live-own : (op : Operator) (places : List ℕ) → IsMember op → IsLocal op places → (k : List Value) (S : List Tagged) → is_live op (history_of S) ≡ true → is_live op (history_of (own places k S)) ≡ true
live-own op places m local k [] l = refl
live-own op places m local k (p ∷ S) l =
    let parts = live_parts op p S l in
    let rest = live-own op places m local k S parts.0 in
    go p.1 (has_key places k p.1) refl refl parts.0 parts.1 rest
  where
    go : (x : Item) (b : Bool) → p.1 ≡ x → has_key places k x ≡ b → is_live op (history_of S) ≡ true → ends op S p.1 ≡ false → is_live op (history_of (own places k S)) ≡ true
        → is_live op (history_of (cond b (p ∷ own places k S) (own places k S))) ≡ true
    go x false is e l n rest = rest
    go (I.Tuple us) true is e l n rest =
        let same : k ≡ key_of us places = same_key-equal k (key_of us places) e in
        let alike : tuples_of_key places (key_of us places) (history_of (own places k S)) ≡ tuples_of_key places (key_of us places) (history_of S)
        = subst (λ q. tuples_of_key places q (history_of (own places k S)) ≡ tuples_of_key places q (history_of S)) same (key-own places k S) in
        let tuple : acts op (own places k S) (I.Tuple us) ≡ acts op S (I.Tuple us)
        = ap (on_port 0) (local.tuples (history_of (own places k S)) (history_of S) us rest l alike) in
        let acting : acts op (own places k S) p.1 ≡ acts op S p.1 = subst (λ z. acts op (own places k S) z ≡ acts op S z) (sym is) tuple in
        live_more op p (own places k S) rest (same_ends op m (own places k S) S p.1 acting ∙ n)
    go I.Window true is e l n rest = absurd (let no : false ≡ true = e in cc)
    go I.Final true is e l n rest = absurd (let no : false ≡ true = e in cc)
    go (I.Bad f) true is e l n rest = absurd (let no : false ≡ true = e in cc)

live-needed : (op : Operator) (kind : StateKind) → IsMember op → KeepsAs kind op → (S : List Tagged) (x : Item) → is_live op (history_of S) ≡ true → is_live op (history_of (needed kind S x)) ≡ true
live-needed op (K.Keyed places) m local S (I.Tuple vs) l = live-own op places m local (key_of vs places) S l
live-needed op (K.Keyed places) m local S I.Window l = refl
live-needed op (K.Keyed places) m local S I.Final l = refl
live-needed op (K.Keyed places) m local S (I.Bad f) l = refl
live-needed op K.Stateless m free S x l = refl
live-needed op K.Whole m whole S x l = refl

-- what an item causes depends on those alone
acts-needed : (op : Operator) (kind : StateKind) → KeepsAs kind op → (S T : List Tagged) (x : Item) → is_live op (history_of S) ≡ true → is_live op (history_of T) ≡ true
    → needed kind S x ≡ needed kind T x → acts op S x ≡ acts op T x
acts-needed op (K.Keyed places) local S T (I.Tuple vs) l k e =
    ap (on_port 0) (local.tuples (history_of S) (history_of T) vs l k
    (sym (key-own places (key_of vs places) S) ∙ ap (λ M. tuples_of_key places (key_of vs places) (history_of M)) e ∙ key-own places (key_of vs places) T))
acts-needed op (K.Keyed places) local S T I.Window l k e = ap (on_port 0) (local.others (history_of S) (history_of T) I.Window refl l k)
acts-needed op (K.Keyed places) local S T I.Final l k e = ap (on_port 0) (local.others (history_of S) (history_of T) I.Final refl l k)
acts-needed op (K.Keyed places) local S T (I.Bad f) l k e = ap (on_port 0) (local.others (history_of S) (history_of T) (I.Bad f) refl l k)
acts-needed op K.Stateless free S T x l k e = ap (on_port 0) (free (history_of S) (history_of T) x l k)
acts-needed op K.Whole whole S T x l k e = absurd whole

-- so while the operator hasn't ended, an item causes what it causes after those alone
pub as_needed : (op : Operator) (kind : StateKind) → IsMember op → KeepsAs kind op → (S : List Tagged) (x : Item) → is_live op (history_of S) ≡ true → acts op S x ≡ gives_needed op kind S x
as_needed op kind m keeps S x l =
    let live = live-needed op kind m keeps S x l in
    acts-needed op kind keeps S (needed kind S x) x l live (sym (needed-twice kind S x))
    ∙ sym (ap (λ b. cond b (acts op (needed kind S x) x) []) live)

pub needed_closed : (op : Operator) (kind : StateKind) → IsMember op → (S : List Tagged) (x : Item) → closes x ≡ true → is_closed (gives_needed op kind S x) ≡ true
needed_closed op kind m S x e =
    ap (λ M. is_closed (live_gives op M x)) (needed-closing kind S x e)
    ∙ react_closed op 0 [] (came 0 x) (some_out op m) (closed_ends op m.input (x ∷ []) m.reads (alone x e))
  where
    alone : (x : Item) → closes x ≡ true → is_closed (x ∷ []) ≡ true
    alone (I.Tuple vs) e = e
    alone I.Window e = e
    alone I.Final e = refl
    alone (I.Bad f) e = refl

-- ---- chains

abbrev pub unended : Operator → StateKind → List Tagged → List Tagged → List Tagged
unended op kind S [] = []
unended op kind S (p ∷ ps) = under p.0 (gives_needed op kind S p.1) ++ unended op kind (p ∷ S) ps

abbrev pub unended_chain : List Operator → List Tagged → List Tagged
unended_chain [] ps = ps
unended_chain (op ∷ ops) ps = unended_chain ops (unended op (state_of op) [] ps)

pub over-nothing : (op : Operator) (h : List Event) (ps : List Tagged) → stage_gives (stage_at op h true) ps ≡ []
over-nothing op h [] = refl
over-nothing op h (p ∷ ps) = over-nothing op h ps

pub stage-unended : (op : Operator) (kind : StateKind) → IsMember op → KeepsAs kind op → (S ps : List Tagged) → is_live op (history_of S) ≡ true
    → stage_gives (stage_at op (history_of S) false) ps ≡ cut_tagged (unended op kind S ps)
stage-unended op kind m keeps S [] l = refl
stage-unended op kind m keeps S (p ∷ ps) l =
    go (ends op S p.1) refl (λ e. stage-unended op kind m keeps (p ∷ S) ps (live_more op p S l e))
  where
    is : acts op S p.1 ≡ gives_needed op kind S p.1
    is = as_needed op kind m keeps S p.1 l

    go : (b : Bool) → ends op S p.1 ≡ b → (b ≡ false → stage_gives (stage_at op (history_of (p ∷ S)) false) ps ≡ cut_tagged (unended op kind (p ∷ S) ps))
        → under p.0 (acts op S p.1) ++ stage_gives (stage_at op (history_of (p ∷ S)) b) ps ≡ cut_tagged (under p.0 (gives_needed op kind S p.1) ++ unended op kind (p ∷ S) ps)
    go true e rest =
        ap (λ z. under p.0 (acts op S p.1) ++ z) (over-nothing op (history_of (p ∷ S)) ps)
        ∙ append-nil (under p.0 (acts op S p.1))
        ∙ ap (under p.0) is
        ∙ sym (cut-closed p.0 (gives_needed op kind S p.1) (unended op kind (p ∷ S) ps)
        (ap is_closed (sym is) ∙ react_closed op 0 (history_of S) (came 0 p.1) (some_out op m) e))
    go false e rest =
        ap (λ z. under p.0 z ++ stage_gives (stage_at op (history_of (p ∷ S)) false) ps) is
        ∙ ap (λ z. under p.0 (gives_needed op kind S p.1) ++ z) (rest refl)
        ∙ sym (cut-open p.0 (gives_needed op kind S p.1) (unended op kind (p ∷ S) ps) (ap any_closes (sym is) ∙ react_open op 0 (history_of S) (came 0 p.1) e))

pub unended-cut : (op : Operator) (kind : StateKind) → IsMember op → (S ps : List Tagged) → cut_tagged (unended op kind S (cut_tagged ps)) ≡ cut_tagged (unended op kind S ps)
unended-cut op kind m S [] = refl
unended-cut op kind m S (p ∷ ps) = go (closes p.1) refl (unended-cut op kind m (p ∷ S) ps) where
  go : (b : Bool) → closes p.1 ≡ b → cut_tagged (unended op kind (p ∷ S) (cut_tagged ps)) ≡ cut_tagged (unended op kind (p ∷ S) ps)
      → cut_tagged (under p.0 (gives_needed op kind S p.1) ++ unended op kind (p ∷ S) (cond b [] (cut_tagged ps))) ≡ cut_tagged (under p.0 (gives_needed op kind S p.1) ++ unended op kind (p ∷ S) ps)
  go true e h =
      cut-closed p.0 (gives_needed op kind S p.1) [] (needed_closed op kind m S p.1 e)
      ∙ sym (cut-closed p.0 (gives_needed op kind S p.1) (unended op kind (p ∷ S) ps) (needed_closed op kind m S p.1 e))
  go false e h = cut-congr (under p.0 (gives_needed op kind S p.1)) (unended op kind (p ∷ S) (cut_tagged ps)) (unended op kind (p ∷ S) ps) h

pub unended_chain-cut : (ops : List Operator) (ps : List Tagged) → AllByRecursion IsMember ops → cut_tagged (unended_chain ops (cut_tagged ps)) ≡ cut_tagged (unended_chain ops ps)
unended_chain-cut [] ps ms = cut-cut ps
unended_chain-cut (op ∷ ops) ps ms =
    sym (unended_chain-cut ops (unended op (state_of op) [] (cut_tagged ps)) ms.1)
    ∙ ap (λ z. cut_tagged (unended_chain ops z)) (unended-cut op (state_of op) ms.0 [] ps)
    ∙ unended_chain-cut ops (unended op (state_of op) [] ps) ms.1

staged-unended : (op : Operator) (ops : List Operator) (ps : List Tagged) → AllByRecursion IsMember (op ∷ ops) → staged (op ∷ ops) ps ≡ cut_tagged (unended_chain (op ∷ ops) ps)
staged-unended op [] ps ms = stage-unended op (state_of op) ms.0 ms.0.keeps [] ps refl
staged-unended op (o ∷ ops) ps ms =
    staged-unended o ops (stage_gives (start op) ps) ms.1
    ∙ ap (λ z. cut_tagged (unended_chain (o ∷ ops) z)) (stage-unended op (state_of op) ms.0 ms.0.keeps [] ps refl)
    ∙ unended_chain-cut (o ∷ ops) (unended op (state_of op) [] ps) ms.1

pub replica-unended : (op : Operator) (ops : List Operator) (ps : List Tagged) → AllByRecursion IsMember (op ∷ ops) → replica (op ∷ ops) ps ≡ cut_tagged (unended_chain (op ∷ ops) ps)
replica-unended op ops ps ms = by_operators (op ∷ ops) ps ∙ staged-unended op ops ps ms

-- the numbers never fall
pub unended-rising : (op : Operator) (kind : StateKind) (S : List Tagged) (lo : ℕ) (ps : List Tagged) → Rising lo ps → Rising lo (unended op kind S ps)
unended-rising op kind S lo [] r = tt
unended-rising op kind S lo (p ∷ ps) r = rising-under lo p.0 (gives_needed op kind S p.1) (unended op kind (p ∷ S) ps) r.0 (unended-rising op kind (p ∷ S) p.0 ps r.1)

pub chain-rising : (ops : List Operator) (lo : ℕ) (ps : List Tagged) → Rising lo ps → Rising lo (unended_chain ops ps)
chain-rising [] lo ps r = r
chain-rising (op ∷ ops) lo ps r = chain-rising ops lo (unended op (state_of op) [] ps) (unended-rising op (state_of op) [] lo ps r)

-- ---- without numbers, a replica gives what the chain gives

items-stage : (s : Stage) (ps : List Tagged) → items (stage_gives s ps) ≡ on_port 0 (gives_all s (map (came 0) (items ps)))
items-stage s [] = refl
items-stage s (p ∷ ps) =
    items-under p.0 (on_port 0 (stage_outputs s (came 0 p.1))) (stage_gives (next s (came 0 p.1)) ps)
    ∙ ap (λ z. on_port 0 (stage_outputs s (came 0 p.1)) ++ z) (items-stage (next s (came 0 p.1)) ps)
    ∙ sym (on_port-append 0 (stage_outputs s (came 0 p.1)) (gives_all (next s (came 0 p.1)) (map (came 0) (items ps))))

items-staged : (ops : List Operator) (ps : List Tagged) → items (staged ops ps) ≡ chain ops (items ps)
items-staged [] ps = refl
items-staged (op ∷ ops) ps = items-staged ops (stage_gives (start op) ps) ∙ ap (chain ops) (items-stage (start op) ps)

pub items-replica : (ops : List Operator) (ps : List Tagged) → items (replica ops ps) ≡ chain ops (items ps)
items-replica ops ps = ap items (by_operators ops ps) ∙ items-staged ops ps
