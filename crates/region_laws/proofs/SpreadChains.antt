-- Along a chain in which each operator that keeps a state by keys has copies of the region's key among them, what goes to a channel stays there.
use Rattle.std.proofs.Common.{◌≡◌, ℕ, suc, ◌%◌, ◌==◌, Bool, true, false, List, [], ◌∷◌, ◌++◌, refl, sym, ap, ◌∙◌, cond, subst, slice_get, Option, Some}
use Rattle.std.specs.Prelude.{filter}
use Rattle.std.specs.List.{AllByRecursion, enumerate_from}
use Rattle.std.specs.Option.{option_and_then}
use Rattle.std.proofs.lemmas.Bool.{eq-eqb}
use Rattle.spl_value.specs.Key.{fnv, has_place, key_of}
use Rattle.spl_value.proofs.KeyOrder.{same_key-equal}
use Rattle.spl_value.specs.declared.item.Item.{Item}
use Rattle.spl_value.specs.declared.item.Item.TheVariants as I
use Rattle.spl_value.specs.declared.routing.Routing.{Routing}
use Rattle.spl_value.specs.declared.routing.Routing.TheVariants.{Key}
use Rattle.spl_value.specs.declared.value.Value.{Value}
use Rattle.spl_value.specs.Route.{route}
use Rattle.language_model.specs.declared.outs.Output.{Output}
use Rattle.stream_model.specs.declared.plan.StateKind.{StateKind}
use Rattle.stream_model.specs.declared.plan.StateKind.TheVariants as K
use Rattle.stream_model.specs.Copies.{source_of}
use Rattle.stream_model.specs.Operators.{Operator}
use Rattle.stream_model.specs.React.{react}
use Rattle.stream_model.specs.Regions.{IsCopy, has_key}
use Rattle.stream_model.specs.Replies.{is_live}
use Rattle.stream_model.specs.Stages.{on_port}
use Rattle.stream_model.specs.StateKinds.{state_of}
use Rattle.stream_model.specs.Stream.{came, is_tuple}
use Rattle.attribute_flow.proofs.CodeValues.{then_some}
use Rattle.attribute_flow.proofs.KindCopies.{copies_hold}
use Rattle.channel_heads.proofs.ByNumber.{Tagged}
use Rattle.stream_model.specs.Replicas.{under}
use Rattle.region_laws.proofs.NumberedItems.{on_channel}
use Rattle.region_laws.proofs.Unended.{IsMember, acts, history_of, live_gives, needed, unended, unended_chain, gives_needed}
use Rattle.region_laws.proofs.Channels.{Alone, channel-unended, cause_in, channel_in, numbered-all}
use Rattle.region_laws.proofs.AlikeKeys.{key_alike, enc_alike}

-- ---- chains over whose replicas items may be spread

-- an operator by whose keys the items are spread: it has a copy of each attribute of the region's key among them. `source` leads from the
-- attributes of its input to those of the stream that the region reads
abbrev pub Reads : Routing → (ℕ → Option ℕ) → StateKind → Type 0
Reads routing source K.Stateless = Unit {0}
Reads routing source (K.Keyed places) = (key : List ℕ) × (routing ≡ Key key) × ((a : ℕ) × (has_place key a ≡ true))
    × ((a : ℕ) → has_place key a ≡ true → (q : ℕ) × (has_place places q ≡ true) × (source q ≡ Some a))
Reads routing source K.Whole = ⊥

abbrev pub IsSpread : Routing → (ℕ → Option ℕ) → List Operator → Type 0
IsSpread routing source [] = Unit {0}
IsSpread routing source (op ∷ ops) =
    IsMember op × Reads routing source (state_of op) × IsSpread routing (λ q. option_and_then source (source_of op.clauses q)) ops

pub members : (routing : Routing) (source : ℕ → Option ℕ) (ops : List Operator) → IsSpread routing source ops → AllByRecursion IsMember ops
members routing source [] s = tt
members routing source (op ∷ ops) s = (s.0, members routing (λ q. option_and_then source (source_of op.clauses q)) ops s.2)

-- ---- items and their causes

-- an attribute of a tuple that has a source has the value of that attribute of its cause, which is a tuple
abbrev pub HasCause : (ℕ → Item) → (ℕ → Option ℕ) → ℕ → Item → Type 0
HasCause cause source n (I.Tuple us) = (q a : ℕ) → source q ≡ Some a → (vs : List Value) × (cause n ≡ I.Tuple vs) × (slice_get us q ≡ slice_get vs a)
HasCause cause source n I.Window = Unit {0}
HasCause cause source n I.Final = Unit {0}
HasCause cause source n (I.Bad f) = Unit {0}

abbrev pub AllHaveCause : (ℕ → Item) → (ℕ → Option ℕ) → List Tagged → Type 0
AllHaveCause cause source ps = AllByRecursion (λ (p : Tagged). HasCause cause source p.0 p.1) ps

pub causes-first : (L : List Item) → AllHaveCause (cause_in L) (λ a. Some a) (enumerate_from 0 L)
causes-first L = numbered-all (λ n x. HasCause (cause_in L) (λ a. Some a) n x) L at [] L 0 refl refl where
  at : (n : ℕ) (x : Item) → cause_in L n ≡ x → HasCause (cause_in L) (λ a. Some a) n x
  at n (I.Tuple us) is = λ q a e. (us, is, (let same : q ≡ a = cc in ap (slice_get us) same))
  at n I.Window is = tt
  at n I.Final is = tt
  at n (I.Bad f) is = tt

pub same_tuple : (vs us : List Value) (x : Item) → x ≡ I.Tuple vs → x ≡ I.Tuple us → vs ≡ us
same_tuple vs us x e d = let same : I.Tuple vs ≡ I.Tuple us = sym e ∙ d in cc

-- tuples with the same key go to the same channel
pub one_channel : (width : ℕ) (cause : ℕ → Item) (source : ℕ → Option ℕ) (places key : List ℕ) → ((a : ℕ) × (has_place key a ≡ true))
    → ((a : ℕ) → has_place key a ≡ true → (q : ℕ) × (has_place places q ≡ true) × (source q ≡ Some a)) → (m n : ℕ) (us vs : List Value)
    → HasCause cause source m (I.Tuple us) → HasCause cause source n (I.Tuple vs) → key_of us places ≡ key_of vs places
    → route (Key key) width m (cause m) ≡ route (Key key) width n (cause n)
one_channel width cause source places key some copies m n us vs gu gv same =
    let first = copies some.0 some.1 in
    let cu = gu first.0 some.0 first.2 in
    let cv = gv first.0 some.0 first.2 in
    ap (route (Key key) width m) cu.1
    ∙ ap (λ bytes. fnv bytes % width) (enc_alike cu.0 cv.0 key (λ a has. at a has cu.0 cv.0 cu.1 cv.1))
    ∙ ap (route (Key key) width n) (sym cv.1)
  where
    at : (a : ℕ) → has_place key a ≡ true → (ws xs : List Value) → cause m ≡ I.Tuple ws → cause n ≡ I.Tuple xs → slice_get ws a ≡ slice_get xs a
    at a has ws xs em en =
        let one = copies a has in
        let du = gu one.0 a one.2 in
        let dv = gv one.0 a one.2 in
        ap (λ z. slice_get z a) (same_tuple ws du.0 (cause m) em du.1)
        ∙ sym du.2 ∙ key_alike us vs places same one.0 one.1 ∙ dv.2
        ∙ ap (λ z. slice_get z a) (same_tuple dv.0 xs (cause n) dv.1 en)

-- of what a channel has, an operator by whose keys items are spread sees all that concerns it
filter-within : (f g : Tagged → Bool) (Q : Tagged → Type 0) → ((p : Tagged) → Q p → f p ≡ true → g p ≡ true) → (xs : List Tagged) → AllByRecursion Q xs → filter f xs ≡ filter f (filter g xs)
filter-within f g Q h [] q = refl
filter-within f g Q h (x ∷ xs) q = go (f x) (g x) refl refl (h x q.0) (filter-within f g Q h xs q.1) where
  go : (b d : Bool) → f x ≡ b → g x ≡ d → (f x ≡ true → g x ≡ true) → filter f xs ≡ filter f (filter g xs)
      → cond b (x ∷ filter f xs) (filter f xs) ≡ filter f (cond d (x ∷ filter g xs) (filter g xs))
  go true true e k same ih = ap (λ z. x ∷ z) ih ∙ ap (λ b. cond b (x ∷ filter f (filter g xs)) (filter f (filter g xs))) (sym e)
  go true false e k same ih = let clash : true ≡ false = sym (same e) ∙ k in cc
  go false true e k same ih = ih ∙ ap (λ b. cond b (x ∷ filter f (filter g xs)) (filter f (filter g xs))) (sym e)
  go false false e k same ih = ih

module _ (routing : Routing) (width : ℕ) (L : List Item) (source : ℕ → Option ℕ) (c : ℕ) where
  abbrev channel_at : ℕ → ℕ
  channel_at n = channel_in routing width L n

  abbrev Q : Tagged → Type 0
  Q p = HasCause (cause_in L) source p.0 p.1

  keyed_alone : (places : List ℕ) → Reads routing source (K.Keyed places) → Alone (K.Keyed places) Q channel_at c
  keyed_alone places r S p q g here = go p.1 refl where
    go : (x : Item) → p.1 ≡ x → needed (K.Keyed places) S x ≡ needed (K.Keyed places) (on_channel channel_at c S) x
    go (I.Tuple vs) is = filter-within (λ (s : Tagged). has_key places (key_of vs places) s.1) (λ (s : Tagged). channel_at s.0 == c) Q (λ s h. at s s.1 refl h) S q where
      gv : HasCause (cause_in L) source p.0 (I.Tuple vs)
      gv = subst (λ z. HasCause (cause_in L) source p.0 z) is g

      at : (s : Tagged) (y : Item) → s.1 ≡ y → HasCause (cause_in L) source s.0 s.1 → has_key places (key_of vs places) s.1 ≡ true → (channel_at s.0 == c) ≡ true
      at s (I.Tuple us) ys h e =
          let gu : HasCause (cause_in L) source s.0 (I.Tuple us) = subst (λ z. HasCause (cause_in L) source s.0 z) ys h in
          let same : key_of vs places ≡ key_of us places = same_key-equal (key_of vs places) (key_of us places) (ap (has_key places (key_of vs places)) (sym ys) ∙ e) in
          let both = one_channel width (cause_in L) source places r.0 r.2 r.3 s.0 p.0 us vs gu gv (sym same) in
          eq-eqb (channel_at s.0) c
          (ap (λ z. route z width s.0 (cause_in L s.0)) r.1 ∙ both ∙ ap (λ z. route z width p.0 (cause_in L p.0)) (sym r.1) ∙ here)
      at s I.Window ys h e = absurd (let no : false ≡ true = ap (has_key places (key_of vs places)) (sym ys) ∙ e in cc)
      at s I.Final ys h e = absurd (let no : false ≡ true = ap (has_key places (key_of vs places)) (sym ys) ∙ e in cc)
      at s (I.Bad f) ys h e = absurd (let no : false ≡ true = ap (has_key places (key_of vs places)) (sym ys) ∙ e in cc)
    go I.Window is = refl
    go I.Final is = refl
    go (I.Bad f) is = refl

  pub kind_alone : (kind : StateKind) → Reads routing source kind → Alone kind Q channel_at c
  kind_alone K.Stateless r S p q g here = refl
  kind_alone (K.Keyed places) r S p q g here = keyed_alone places r S p q g here
  kind_alone K.Whole r S p q g here = absurd r

-- ---- what an operator gives goes on as its causes do

on_port-all : (P : Item → Type 0) (outs : List Output) → ((i : ℕ) (o : Output) → slice_get outs i ≡ Some o → P o.item) → AllByRecursion P (on_port 0 outs)
on_port-all P [] h = tt
on_port-all P (o ∷ outs) h = go (o.port == 0) (h 0 o refl) (on_port-all P outs (λ i. h (suc i))) where
  go : (b : Bool) → P o.item → AllByRecursion P (on_port 0 outs) → AllByRecursion P (cond b (o.item ∷ on_port 0 outs) (on_port 0 outs))
  go true x rest = (x, rest)
  go false x rest = rest

module _ (cause : ℕ → Item) (source : ℕ → Option ℕ) (op : Operator) (m : IsMember op) where
  abbrev onward : ℕ → Option ℕ
  onward q = option_and_then source (source_of op.clauses q)

  copied_tuple : (M : List Tagged) (n : ℕ) (x : Item) (us : List Value) (i : ℕ) (o : Output) → is_live op (history_of M) ≡ true → HasCause cause source n x
      → slice_get (react op (history_of M) (came 0 x)) i ≡ Some o → o.item ≡ I.Tuple us → (q a b : ℕ) → IsCopy op q b → source b ≡ Some a
      → (vs : List Value) × (cause n ≡ I.Tuple vs) × (slice_get us q ≡ slice_get vs a)
  copied_tuple M n (I.Tuple vs) us i o live g at is q a b copy e =
      let from = g b a e in
      (from.0, from.1, copy.tuples (history_of M) vs us i o live at is ∙ from.2)
  copied_tuple M n I.Window us i o live g at is q a b copy e = absurd (let no : true ≡ false = ap is_tuple (sym is) ∙ copy.others (history_of M) I.Window i o refl live at in cc)
  copied_tuple M n I.Final us i o live g at is q a b copy e = absurd (let no : true ≡ false = ap is_tuple (sym is) ∙ copy.others (history_of M) I.Final i o refl live at in cc)
  copied_tuple M n (I.Bad f) us i o live g at is q a b copy e = absurd (let no : true ≡ false = ap is_tuple (sym is) ∙ copy.others (history_of M) (I.Bad f) i o refl live at in cc)

  copied : (M : List Tagged) (n : ℕ) (x y : Item) (i : ℕ) (o : Output) → is_live op (history_of M) ≡ true → HasCause cause source n x → slice_get (react op (history_of M) (came 0 x)) i ≡ Some o
      → o.item ≡ y → HasCause cause onward n y
  copied M n x (I.Tuple us) i o live g at is = λ q a e.
      let steps = then_some (source_of op.clauses q) source a e in
      copied_tuple M n x us i o live g at is q a steps.0 (copies_hold op q steps.0 (m.input, m.reads) m.kept steps.1) steps.2
  copied M n x I.Window i o live g at is = tt
  copied M n x I.Final i o live g at is = tt
  copied M n x (I.Bad f) i o live g at is = tt

  live_causes : (M : List Tagged) (n : ℕ) (x : Item) → HasCause cause source n x → AllByRecursion (HasCause cause onward n) (live_gives op M x)
  live_causes M n x g = go (is_live op (history_of M)) refl where
    go : (b : Bool) → is_live op (history_of M) ≡ b → AllByRecursion (HasCause cause onward n) (cond b (acts op M x) [])
    go true e = on_port-all (HasCause cause onward n) (react op (history_of M) (came 0 x)) (λ i o at. copied M n x o.item i o e g at refl)
    go false e = tt

  under-causes : (n : ℕ) (xs : List Item) (ps : List Tagged) → AllByRecursion (HasCause cause onward n) xs → AllHaveCause cause onward ps → AllHaveCause cause onward (under n xs ++ ps)
  under-causes n [] ps g r = r
  under-causes n (x ∷ xs) ps g r = (g.0, under-causes n xs ps g.1 r)

  pub unended-causes : (kind : StateKind) (S ps : List Tagged) → AllHaveCause cause source ps → AllHaveCause cause onward (unended op kind S ps)
  unended-causes kind S [] g = tt
  unended-causes kind S (p ∷ ps) g =
      under-causes p.0 (gives_needed op kind S p.1) (unended op kind (p ∷ S) ps) (live_causes (needed kind S p.1) p.0 p.1 g.0) (unended-causes kind (p ∷ S) ps g.1)

-- along the chain
pub channel-chain : (routing : Routing) (width : ℕ) (L : List Item) (c : ℕ) (source : ℕ → Option ℕ) (ops : List Operator) (ps : List Tagged) → IsSpread routing source ops
    → AllHaveCause (cause_in L) source ps → on_channel (channel_in routing width L) c (unended_chain ops ps) ≡ unended_chain ops (on_channel (channel_in routing width L) c ps)
channel-chain routing width L c source [] ps s g = refl
channel-chain routing width L c source (op ∷ ops) ps s g =
    channel-chain routing width L c (λ q. option_and_then source (source_of op.clauses q)) ops (unended op (state_of op) [] ps) s.2
    (unended-causes (cause_in L) source op s.0 (state_of op) [] ps g)
    ∙ ap (unended_chain ops) (channel-unended op (state_of op) (λ (p : Tagged). HasCause (cause_in L) source p.0 p.1) (channel_in routing width L) c
    (kind_alone routing width L source c (state_of op) s.1) [] ps tt g)
