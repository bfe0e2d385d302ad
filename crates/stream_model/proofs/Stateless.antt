-- Operators that keep no state.
use Rattle.std.proofs.Common.{◌≡◌, ℕ, Bool, true, false, if◌then◌else◌, List, [], ◌∷◌, map, refl, sym, ap, subst, ◌∙◌}
use Rattle.std.specs.List.{list_any}
use Rattle.spl_value.specs.declared.item.Item.{Item}
use Rattle.spl_value.specs.declared.item.Item.TheVariants as I
use Rattle.spl_value.specs.declared.value.Value.{Value}
use Rattle.spl_tree.specs.declared.body.Function.{Function}
use Rattle.language_model.specs.declared.checked.Handlers.{Handlers}
use Rattle.language_model.specs.declared.checked.CheckedClauses.{CheckedClauses}
use Rattle.language_model.specs.declared.checked.CheckedClauses.TheVariants as A
use Rattle.language_model.specs.declared.checked.PortTypes.{PortTypes}
use Rattle.language_model.specs.declared.checked.StateVariable.{StateVariable}
use Rattle.language_model.specs.Outcomes.{Outcome, Done, Faulted, Stuck, followed}
use Rattle.language_model.specs.Statements.{Left}
use Rattle.stream_model.specs.declared.plan.StateKind.TheVariants as K
use Rattle.stream_model.specs.Stream.{Event, came}
use Rattle.stream_model.specs.Operators.{Operator}
use Rattle.stream_model.specs.PortEvents.{port_events}
use Rattle.stream_model.specs.Bodies.{Makes}
use Rattle.stream_model.specs.Customs.{changed, first_value, item_leaves, state, vars_after}
use Rattle.stream_model.specs.React.{answer, answered, makes_by, react}
use Rattle.stream_model.specs.StateKinds.{state_by}
use Rattle.stream_model.specs.parts.StateKinds.{has_mutable}
use Rattle.stream_model.specs.Regions.{IsStateless}
use Rattle.stream_model.specs.RegionLaws.{StatelessLaw}
use Rattle.stream_model.proofs.StageLaws.{one_in}
use Rattle.spl_value.proofs.Bools.{neither}

-- ---- a Custom whose variables all keep their values

kept : (xs : List StateVariable) (olds news : List Value) → list_any (λ (x : StateVariable). x.variable.mutable) xs ≡ false → changed xs olds news ≡ olds
kept [] olds news q = refl
kept (x ∷ xs) [] news q = refl
kept (x ∷ xs) (old ∷ olds) [] q = refl
kept (x ∷ xs) (old ∷ olds) (new ∷ news) q =
    let parts = neither x.variable.mutable (list_any (λ (y : StateVariable). y.variable.mutable) xs) q in
    λ i. (if parts.0 i then new else old) ∷ kept xs olds news parts.1 i

vars_kept : (xs : List StateVariable) (vars : List Value) (o : Outcome Left) → list_any (λ (x : StateVariable). x.variable.mutable) xs ≡ false → vars_after xs vars o ≡ vars
vars_kept xs vars (Done left turns) q = kept xs vars left.vars q
vars_kept xs vars (Faulted kind) q = refl
vars_kept xs vars Stuck q = refl

state_kept : (functions : List Function) (handlers : Handlers) (h : List Event) → has_mutable handlers ≡ false → state functions handlers h ≡ map first_value handlers.state
state_kept functions handlers [] q = refl
state_kept functions handlers (e ∷ h) q =
    vars_kept handlers.state (state functions handlers h) (item_leaves functions handlers (state functions handlers h) e.input e.item) q
    ∙ state_kept functions handlers h q

none_mutable : (b : Bool) → (if b then K.Whole else K.Stateless) ≡ K.Stateless → b ≡ false
none_mutable true q = absurd (let no : K.Whole ≡ K.Stateless = q in cc)
none_mutable false q = refl

keeps_some : (b : Bool) (places : List ℕ) → (if b then K.Keyed places else K.Whole) ≡ K.Stateless → ⊥
keeps_some true places q = let no : K.Keyed places ≡ K.Stateless = q in absurd cc
keeps_some false places q = let no : K.Whole ≡ K.Stateless = q in absurd cc

-- ---- bodies

same_makes : (part : CheckedClauses) → state_by part ≡ K.Stateless → (op : Operator) (h k : List Event) (port : ℕ) (x : Item) → makes_by part op h port x ≡ makes_by part op k port x
same_makes (A.Custom handlers) q op h k port x =
    let none = none_mutable (has_mutable handlers) q in
    ap (λ (vars : List Value). followed (item_leaves op.functions handlers vars port x) (λ left turns. Done left.submits turns))
    (state_kept op.functions handlers h none ∙ sym (state_kept op.functions handlers k none))
same_makes (A.Aggregate window partition group collects) q op h k port x = absurd (keeps_some _ partition q)
same_makes (A.Join left right condition made) q op h k port x = absurd (let no : K.Whole ≡ K.Stateless = q in cc)
same_makes _ q op h k port x = refl

same_reacts : (n : ℕ) (part : CheckedClauses) (functions : List Function) (types : PortTypes) (s : ℕ) (outs : List ℕ) → state_by part ≡ K.Stateless
    → (h k : List Event) (x : Item) → react (one_in n part functions types s outs) h (came 0 x) ≡ react (one_in n part functions types s outs) k (came 0 x)
same_reacts n part functions types s outs q h k (I.Tuple vs) =
    let op = one_in n part functions types s outs in
    ap (λ (m : Makes). answered op false (answer m)) (same_makes part q op (port_events op h) (port_events op k) 0 (I.Tuple vs))
same_reacts n part functions types s outs q h k I.Window =
    let op = one_in n part functions types s outs in
    ap (λ (m : Makes). answered op false (answer m)) (same_makes part q op (port_events op h) (port_events op k) 0 I.Window)
same_reacts n part functions types s outs q h k I.Final =
    let op = one_in n part functions types s outs in
    ap (λ (m : Makes). answered op true (answer m)) (same_makes part q op (port_events op h) (port_events op k) 0 I.Final)
same_reacts n part functions types s outs q h k (I.Bad f) = refl

pub stateless_law : StatelessLaw
stateless_law op s one q =
    let same : one_in op.number op.clauses op.functions op.types s op.outs ≡ op =
    λ i. record { number = op.number; clauses = op.clauses; functions = op.functions; types = op.types; ins = sym one i; outs = op.outs } in
    subst IsStateless same (λ h k x live also. same_reacts op.number op.clauses op.functions op.types s op.outs q h k x)
