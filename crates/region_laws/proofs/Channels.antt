-- What a chain gives on the items of one channel are the items of that channel of what it gives on all.
use Rattle.std.proofs.Common.{◌≡◌, ℕ, ◌+◌, Bool, true, false, List, [], ◌∷◌, ◌++◌, length, get_or, refl, sym, ap, ◌∙◌, append_assoc, arith, cond, subst}
use Rattle.std.specs.Prelude.{◌==◌, filter}
use Rattle.std.specs.List.{AllByRecursion, enumerate_from}
use Rattle.std.proofs.lemmas.Bool.{eqb-true}
use Rattle.std.proofs.lemmas.List.{get_or_at, length_push}
use Rattle.spl_value.specs.declared.item.Item.{Item}
use Rattle.spl_value.specs.declared.item.Item.TheVariants as I
use Rattle.spl_value.specs.declared.routing.Routing.{Routing}
use Rattle.spl_value.specs.Route.{route, part}
use Rattle.stream_model.specs.declared.plan.StateKind.{StateKind}
use Rattle.stream_model.specs.Operators.{Operator}
use Rattle.channel_heads.proofs.ByNumber.{Tagged}
use Rattle.stream_model.specs.Replicas.{under}
use Rattle.region_laws.proofs.NumberedItems.{on_channel, on_channel-append, channel-kept, channel-left}
use Rattle.region_laws.proofs.Unended.{live_gives, needed, unended, gives_needed}

-- what an item on this channel causes depends on the items of the channel alone
abbrev pub Alone : StateKind → (Tagged → Type 0) → (ℕ → ℕ) → ℕ → Type 0
Alone kind Q channel_at c = (S : List Tagged) (p : Tagged) → AllByRecursion Q S → Q p → channel_at p.0 ≡ c → needed kind S p.1 ≡ needed kind (on_channel channel_at c S) p.1

pub channel-unended : (op : Operator) (kind : StateKind) (Q : Tagged → Type 0) (channel_at : ℕ → ℕ) (c : ℕ) → Alone kind Q channel_at c → (S ps : List Tagged)
    → AllByRecursion Q S → AllByRecursion Q ps → on_channel channel_at c (unended op kind S ps) ≡ unended op kind (on_channel channel_at c S) (on_channel channel_at c ps)
channel-unended op kind Q channel_at c alone S [] q r = refl
channel-unended op kind Q channel_at c alone S (p ∷ ps) q r =
    on_channel-append channel_at c (under p.0 (gives_needed op kind S p.1)) (unended op kind (p ∷ S) ps)
    ∙ go (channel_at p.0 == c) refl (λ e. alone S p q r.0 (eqb-true (channel_at p.0) c e)) (channel-unended op kind Q channel_at c alone (p ∷ S) ps (r.0, q) r.1)
  where
    go : (b : Bool) → (channel_at p.0 == c) ≡ b → (b ≡ true → needed kind S p.1 ≡ needed kind (on_channel channel_at c S) p.1)
        → on_channel channel_at c (unended op kind (p ∷ S) ps) ≡ unended op kind (cond b (p ∷ on_channel channel_at c S) (on_channel channel_at c S)) (on_channel channel_at c ps)
        → on_channel channel_at c (under p.0 (gives_needed op kind S p.1)) ++ on_channel channel_at c (unended op kind (p ∷ S) ps)
        ≡ unended op kind (on_channel channel_at c S) (cond b (p ∷ on_channel channel_at c ps) (on_channel channel_at c ps))
    go true e same ih =
        ap (λ z. z ++ on_channel channel_at c (unended op kind (p ∷ S) ps)) (channel-kept channel_at c p.0 (gives_needed op kind S p.1) e ∙ ap (λ M. under p.0 (live_gives op M p.1)) (same refl))
        ∙ ap (λ z. under p.0 (gives_needed op kind (on_channel channel_at c S) p.1) ++ z) ih
    go false e same ih = ap (λ z. z ++ on_channel channel_at c (unended op kind (p ∷ S) ps)) (channel-left channel_at c p.0 (gives_needed op kind S p.1) e) ∙ ih

-- ---- the items that enter

-- the item with a number
abbrev pub cause_in : List Item → ℕ → Item
cause_in L n = get_or L n I.Window

-- the channel of a number
abbrev pub channel_in : Routing → ℕ → List Item → ℕ → ℕ
channel_in routing width L n = route routing width n (cause_in L n)

part-from : (routing : Routing) (width c : ℕ) (all front L : List Item) (n : ℕ) → front ++ L ≡ all → length front ≡ n
    → filter (λ (p : Tagged). route routing width p.0 p.1 == c) (enumerate_from n L) ≡ on_channel (channel_in routing width all) c (enumerate_from n L)
part-from routing width c all front [] n e l = refl
part-from routing width c all front (x ∷ L) n e l =
    let here : cause_in all n ≡ x = subst (λ (z : List Item). get_or z n I.Window ≡ x) e (get_or_at front x L I.Window n l) in
    let rest = part-from routing width c all (front ++ x ∷ []) L (n + 1) (append_assoc front (x ∷ []) L ∙ e) (omega (arith, length_push front x)) in
    ap (λ z. cond (route routing width n x == c) ((n, x) ∷ z) z) rest
    ∙ ap (λ y. cond (route routing width n y == c) ((n, x) ∷ on_channel (channel_in routing width all) c (enumerate_from (n + 1) L)) (on_channel (channel_in routing width all) c (enumerate_from (n + 1) L))) (sym here)

pub part-is : (routing : Routing) (width c : ℕ) (L : List Item) → part routing width L c ≡ on_channel (channel_in routing width L) c (enumerate_from 0 L)
part-is routing width c L = part-from routing width c L [] L 0 refl refl

-- what holds of each item under its number holds of each numbered item
pub numbered-all : (P : ℕ → Item → Type 0) (all : List Item) → ((n : ℕ) (x : Item) → cause_in all n ≡ x → P n x) → (front L : List Item) (n : ℕ) → front ++ L ≡ all → length front ≡ n
    → AllByRecursion (λ (p : Tagged). P p.0 p.1) (enumerate_from n L)
numbered-all P all h front [] n e l = tt
numbered-all P all h front (x ∷ L) n e l = (
  h n x (subst (λ (z : List Item). get_or z n I.Window ≡ x) e (get_or_at front x L I.Window n l)),
  numbered-all P all h (front ++ x ∷ []) L (n + 1) (append_assoc front (x ∷ []) L ∙ e) (omega (arith, length_push front x)),
)
