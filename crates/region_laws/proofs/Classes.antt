-- Operators of which each event causes exactly one item, by their clauses.
use Rattle.std.proofs.Common.{◌≡◌, ℕ, zero, suc, ◌==◌, ◌||◌, not, Bool, true, false, List, [], ◌∷◌, ◌++◌, length, refl, sym, ap, ◌∙◌, arith, cond, subst}
use Rattle.std.specs.Prelude.{nat_lt}
use Rattle.std.specs.List.{AllByRecursion, list_all}
use Rattle.std.proofs.lemmas.Bool.{and_from, and_parts}
use Rattle.spl_value.proofs.Lists.{all_at}
use Rattle.spl_value.specs.declared.item.Item.{Item}
use Rattle.language_model.specs.declared.outs.Output.{Output}
use Rattle.language_model.specs.declared.checked.CheckedClauses.{CheckedClauses}
use Rattle.language_model.specs.declared.checked.CheckedClauses.TheVariants as A
use Rattle.stream_model.specs.declared.plan.Gives.TheVariants as G
use Rattle.stream_model.specs.declared.plan.Merge.TheVariants as M
use Rattle.stream_model.specs.CheckedMeaning.{graph_of}
use Rattle.stream_model.specs.PortLaws.{has_connections}
use Rattle.stream_model.proofs.CheckedOperators.{checked_fits}
use Rattle.region_laws.proofs.FirstPorts.{first_of_custom}
use Rattle.region_laws.proofs.RegionLaw.{checked_connected, ops_all}
use Rattle.region_laws.proofs.SafeChains.{chain_members}
use Rattle.region_laws.proofs.Unended.{IsMember}
use Rattle.stream_model.specs.Bodies.{on_each}
use Rattle.stream_model.specs.Fitting.{IsFitting}
use Rattle.stream_model.specs.Laws.{is_custom}
use Rattle.stream_model.specs.Operators.{Operator}
use Rattle.stream_model.specs.PortEvents.{ends_all, is_waiting}
use Rattle.stream_model.specs.React.{Faults, Gives, Reaction, answered, body, own_fault, react}
use Rattle.stream_model.specs.Regions.{Causes, IsRegion, any_keyed, chain_key, is_chain, is_one_class, ops_of}
use Rattle.stream_model.specs.Selectivity.{gives}
use Rattle.stream_model.specs.Stages.{on_port}
use Rattle.stream_model.specs.Stream.{Event, came, is_empty, is_fault}
use Rattle.stream_model.proofs.KindBodies.{body_ports}
use Rattle.selectivity_rules.proofs.CausedItems.{class_law}
use Rattle.region_laws.specs.OneItemLaws.{ClassOneLaw, FirstPortLaw, GivesFirst, GivesOne, MergeOneLaw}

all_append : (p : Output → Bool) (xs ys : List Output) → list_all p xs ≡ true → list_all p ys ≡ true → list_all p (xs ++ ys) ≡ true
all_append p [] ys h g = g
all_append p (x ∷ xs) ys h g =
    let both = and_parts (p x) (list_all p xs) h in
    and_from (p x) (list_all p (xs ++ ys)) both.0 (all_append p xs ys both.1 g)

abbrev first : Output → Bool
first o = o.port == 0

react_first : (op : Operator) (t : ℕ) → op.outs ≡ t ∷ [] → GivesFirst op → (h : List Event) (e : Event) → list_all first (react op h e) ≡ true
react_first op t one ports h e = go (is_fault e.item) (is_waiting op h e) (ends_all op h e) (body op h e) refl where
  each : (x : Item) → list_all first (on_each (length op.outs) x) ≡ true
  each x = ap (λ (outs : List ℕ). list_all first (on_each (length outs) x)) one

  go : (f w l : Bool) (a : Reaction) → body op h e ≡ a → list_all first (cond f (on_each (length op.outs) e.item) (cond w [] (answered op l a))) ≡ true
  go true w l a b = each e.item
  go false true l a b = refl
  go false false l (Faults kind) b = each (own_fault op kind)
  go false false true (Gives outs) b = all_append first outs (on_each (length op.outs) Rattle.spl_value.specs.declared.item.Item.TheVariants.Final) (ports h e outs b) (each Rattle.spl_value.specs.declared.item.Item.TheVariants.Final)
  go false false false (Gives outs) b = ports h e outs b

one_item : (outs : List Output) → length outs ≡ 1 → list_all first outs ≡ true → (y : Item) × (on_port 0 outs ≡ y ∷ [])
one_item [] l h = absurd (omega arith)
one_item (o ∷ []) l h = (o.item, ap (λ b. cond b (o.item ∷ []) []) ((and_parts (first o) true h).0))
one_item (o ∷ (p ∷ outs)) l h = absurd (omega arith)

zero_port : (outs : List Output) → list_all (λ (o : Output). nat_lt o.port 1) outs ≡ true → list_all first outs ≡ true
zero_port [] h = refl
zero_port (o ∷ outs) h =
    let both = and_parts (nat_lt o.port 1) (list_all (λ (o : Output). nat_lt o.port 1) outs) h in
    and_from (first o) (list_all first outs) (is_zero o.port both.0) (zero_port outs both.1)
  where
    is_zero : (n : ℕ) → nat_lt n 1 ≡ true → (n == 0) ≡ true
    is_zero zero e = refl
    is_zero (suc n) e = absurd (let no = Rattle.std.proofs.lemmas.Bool.ltb-true (suc n) 1 e in omega (arith, no))

plain_first : (op : Operator) (t : ℕ) → op.outs ≡ t ∷ [] → is_custom op.clauses ≡ false → GivesFirst op
plain_first op t writes plain h e outs b =
    zero_port outs
    (ap (λ (os : List ℕ). list_all (λ (o : Output). nat_lt o.port (length os)) outs) (sym writes)
    ∙ body_ports op h e outs plain (let one : length op.outs ≡ 1 = ap length writes in omega arith) b)

pub first_port : FirstPortLaw
first_port op t fit writes = go op.clauses refl where
  go : (part : CheckedClauses) → op.clauses ≡ part → GivesFirst op
  go (A.Custom handlers) e = first_of_custom op t handlers fit writes e
  go part e = plain_first op t writes (ap is_custom e)

pub class_one : ClassOneLaw
class_one op s t fit reads writes class = record {
  input = s;
  reads = reads;
  stream = t;
  writes = writes;
  one = λ h x live.
      one_item (react op h (came 0 x)) (subst (λ g. Causes g op) class (class_law op s t fit reads writes) h x live)
      (react_first op t writes (first_port op t fit writes) h (came 0 x));
}

-- ---- regions

one_classes : (ops : List Operator) (b d : Bool) → (cond b (cond d M.Numbers M.Turns) M.Pulses ≡ M.Pulses → ⊥) → b ≡ true
one_classes ops true d never = refl
one_classes ops false d never = absurd (never refl)

is_one : (g : Rattle.stream_model.specs.declared.plan.Gives.Gives) → is_one_class g ≡ true → g ≡ G.One
is_one G.One e = refl
is_one G.AtMostOne e = absurd (let no : false ≡ true = e in cc)
is_one G.Many e = absurd (let no : false ≡ true = e in cc)

each_one : (ops : List Operator) → AllByRecursion (λ op. IsFitting op × IsMember op) ops → list_all (λ (op : Operator). is_one_class (gives op.clauses)) ops ≡ true → AllByRecursion GivesOne ops
each_one [] ms h = tt
each_one (op ∷ ops) ms h =
    let both = and_parts (is_one_class (gives op.clauses)) (list_all (λ (op : Operator). is_one_class (gives op.clauses)) ops) h in
    (class_one op ms.0.1.input ms.0.1.output ms.0.0 ms.0.1.reads ms.0.1.writes (is_one (gives op.clauses) both.0), each_one ops ms.1 both.1)

pairs : (P Q : Operator → Type 0) (ops : List Operator) → AllByRecursion P ops → AllByRecursion Q ops → AllByRecursion (λ op. P op × Q op) ops
pairs P Q [] ps qs = tt
pairs P Q (op ∷ ops) ps qs = ((ps.0, qs.0), pairs P Q ops ps.1 qs.1)

pub merge_one : MergeOneLaw
merge_one c plan i region keeps is at other =
    let g = graph_of c in
    let r = all_at (IsRegion g) plan i region is.regions at in
    let ops = ops_of g region.ops in
    let chained = (and_parts (is_chain g ops) (not (any_keyed ops) || not (is_empty (chain_key ops))) r.safe).0 in
    let connected = ops_all (λ op. has_connections op ≡ true) g (checked_connected c keeps) region.ops in
    let fitting = ops_all IsFitting g (λ n op there. checked_fits c n op keeps there) region.ops in
    each_one ops (pairs IsFitting IsMember ops fitting (chain_members g ops chained connected))
    (one_classes ops (list_all (λ (op : Operator). is_one_class (gives op.clauses)) ops) (any_keyed ops) (λ e. other (r.merge ∙ e)))
