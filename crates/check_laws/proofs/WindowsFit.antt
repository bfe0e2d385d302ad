-- The windows of an operator fit its ports.
use Rattle.std.specs.Prelude.{◌≡◌, ◌==◌, ◌+◌, ℕ, suc, pos, nat_le, Bool, false, ◌&&◌, IsTrue, List, [], ◌∷◌, Option, Some, None, Ok, slice_get, if◌then◌else◌, codes}
use Rattle.std.specs.List.{AllByRecursion, list_any}
use Rattle.std.specs.Str.{bytes_eq}
use Rattle.std.specs.Cmp.{first_so, second_so}
use Rattle.std.proofs.Common.{refl, sym, ap, subst, ◌∙◌, arith}
use Rattle.std.proofs.lemmas.Bool.{eqb-true, leb-true}
use Rattle.spl_value.specs.declared.types.IntKind.{IntKind}
use Rattle.spl_value.specs.declared.types.Named.{Named}
use Rattle.spl_value.specs.declared.types.SplType.{SplType}
use Rattle.spl_value.specs.declared.types.SplType.TheOpen as T
use Rattle.spl_value.specs.declared.types.SplType.TheOpen.{SplType-F}
use Rattle.spl_value.specs.declared.types.SplType.TheVariants as S
use Rattle.spl_value.specs.declared.types.SplType.TheViews.{out-SplType}
use Rattle.spl_value.specs.declared.value.Value.TheVariants as V
use Rattle.spl_value.specs.Values.{fits, kind_holds}
use Rattle.spl_value.proofs.FitsLaws.{fits_int}
use Rattle.spl_tree.specs.declared.expression.ExprKind.{ExprKind}
use Rattle.spl_tree.specs.declared.expression.ExprKind.TheOpen as X
use Rattle.spl_tree.specs.declared.expression.ExprKind.TheOpen.{ExprKind-F}
use Rattle.spl_tree.specs.declared.expression.ExprKind.TheViews.{out-ExprKind}
use Rattle.spl_tree.specs.declared.expression.Placed.{Placed}
use Rattle.spl_tree.specs.declared.token.Number.{Number}
use Rattle.spl_tree.specs.declared.unit.PortWindow.{PortWindow}
use Rattle.spl_tree.specs.declared.unit.WindowPart.{WindowPart}
use Rattle.spl_tree.specs.Trees.{Expr}
use Rattle.language_model.specs.declared.checked.Policy.{Policy}
use Rattle.language_model.specs.declared.checked.WindowRule.TheVariants as W
use Rattle.language_model.specs.declared.kinds.WindowForm.{WindowForm}
use Rattle.language_model.specs.declared.kinds.WindowForm.TheVariants as M
use Rattle.language_model.specs.declared.scope.CheckError.TheVariants as C
use Rattle.language_model.specs.declared.scope.Port.{Port}
use Rattle.language_model.specs.Checking.{each_window, policy_of, windows_of_form}
use Rattle.language_model.specs.Keeping as F
use Rattle.language_model.specs.Keeping.{AggregateWindow, DeltaFits, IsCount, JoinWindow}
use Rattle.language_model.specs.Policies.{Delta, IntegerAttribute, Numbers, aggregate_rule, are_no_arguments, bad_window, delta_of, has_name, is_word, join_rule, level_attribute, level_integer, measured, most_tuples, nothing_follows, only_count, partitioned_or_not, punctuated, sliding_rule, sliding_with_trigger, tumbling, window_at, window_of, windows_typing}
use Rattle.language_model.proofs.parts.Policies.{Sliding, limited}
use Rattle.language_model.specs.parts.Policies.{aggregate_policy, as_count, as_integer, as_limit, count_of, sliding_alone, trigger}
use Rattle.language_model.specs.Scopes.{At, attribute_of, first_from}
use Rattle.language_model.proofs.Standing.{Bears, attribute_there, Stands, first_stands}
use Rattle.language_model.specs.StreamTypes.{Attributes}
use Rattle.language_model.specs.Typing.{Found, after, refused, same_types}
use Rattle.check_laws.proofs.Accepting.{gives_if}
use Rattle.language_model.proofs.FoundAnswers.{Gives, gives_after, gives_then}
use Rattle.language_model.proofs.Wanting.{rolled}

-- ---- counts

counted : (at least : ℕ) (o : Option Number) → Gives (IsCount least) (as_count at least o)
counted at least None = tt
counted at least (Some n) =
    gives_if (IsCount least) (nat_le least n.value && nat_le n.value most_tuples) (Ok n.value) (bad_window at) (λ within. (
      leb-true least n.value (first_so (nat_le least n.value) (nat_le n.value most_tuples) within),
      leb-true n.value most_tuples (second_so (nat_le least n.value) (nat_le n.value most_tuples) within),
    )) (λ other. tt)

count_fits : (numbers : Numbers) (least : ℕ) (e : Expr) → Gives (IsCount least) (count_of numbers least e)
count_fits numbers least e = gives_then (IsCount least) (numbers e) (as_count e.at least) (λ o found. counted e.at least o)

only_fits : (numbers : Numbers) (least : ℕ) (p : WindowPart) (o : Option (List Expr)) → Gives (IsCount least) (only_count numbers least p o)
only_fits numbers least p (Some (e ∷ [])) = count_fits numbers least e
only_fits numbers least p _ = tt

-- ---- limits

-- an attribute of an integer type
abbrev IsInteger : Attributes → IntegerAttribute → Type 0
IsInteger schema a = (attribute : Named SplType) × (slice_get schema a.place ≡ Some attribute) × (attribute.kind ≡ S.Int a.kind)

integer_at : (schema : Attributes) (at place : ℕ) (attribute : Named SplType) (x : SplType-F SplType) → slice_get schema place ≡ Some attribute
    → out-SplType attribute.kind ≡ x → Gives (IsInteger schema) (level_integer at place x)
integer_at schema at place attribute (T.Int kind) there is = (attribute, there, rolled attribute.kind (T.Int kind) (S.Int kind) is (S.rolls-Int kind))
integer_at schema at place attribute _ there is = tt

integer_fits : (schema : Attributes) (at : ℕ) (name : List ℕ) (o : Option (At (Named SplType))) → Bears (λ a. a.name) schema name o
    → Gives (IsInteger schema) (as_integer at name o)
integer_fits schema at name None h = tt
integer_fits schema at name (Some a) h = integer_at schema at a.place a.what (out-SplType a.what.kind) h.0 refl

attribute_fits : (schema : Attributes) (at : ℕ) (x : ExprKind-F ExprKind) → Gives (IsInteger schema) (level_attribute schema at x)
attribute_fits schema at (X.Name name) = integer_fits schema at name (attribute_of schema name) (attribute_there schema name)
attribute_fits schema at _ = tt

abbrev IsLimit : IntKind → ℕ → Type 0
IsLimit kind n = IsTrue (fits (S.Int kind) (V.Int (pos n)))

limit_fits : (at : ℕ) (kind : IntKind) (o : Option Number) → Gives (IsLimit kind) (as_limit at kind o)
limit_fits at kind None = tt
limit_fits at kind (Some n) =
    gives_if (IsLimit kind) (same_types (S.Int n.kind) (S.Int kind) && kind_holds kind (pos n.value)) (Ok n.value) (bad_window at) (λ within.
    fits_int kind (pos n.value) ∙ second_so (same_types (S.Int n.kind) (S.Int kind)) (kind_holds kind (pos n.value)) within) (λ other. tt)

abbrev DeltaIn : Attributes → Delta → Type 0
DeltaIn schema d = DeltaFits schema d.attribute d.limit

limited_fits : (numbers : Numbers) (schema : Attributes) (a : IntegerAttribute) → IsInteger schema a → (e : Expr)
    → Gives (DeltaIn schema) (limited numbers a e)
limited_fits numbers schema a integer e =
    gives_then (DeltaIn schema) (numbers e) _ (λ o found.
    gives_after (IsLimit a.kind) (DeltaIn schema) (as_limit e.at a.kind o) _ (limit_fits e.at a.kind o) (λ limit h.
    record { attribute = integer.0; kind = a.kind; there = integer.1; integer = integer.2; limited = h }))

delta_fits : (numbers : Numbers) (schema : Attributes) (p : WindowPart) (o : Option (List Expr))
    → Gives (DeltaIn schema) (delta_of numbers schema p o)
delta_fits numbers schema p (Some (a ∷ e ∷ [])) =
    gives_after (IsInteger schema) (DeltaIn schema) (level_attribute schema a.at (out-ExprKind a.what)) _ (attribute_fits schema a.at (out-ExprKind a.what))
    (λ attribute integer. limited_fits numbers schema attribute integer e)
delta_fits numbers schema p _ = tt

-- ---- parts of a window

measured_fits : {A : Type 0} (Q : A → Type 0) (numbers : Numbers) (least : ℕ) (schema : Attributes) (by_count : ℕ → A) (by_delta : Delta → A)
    (other : Found A) (p : WindowPart) → ((n : ℕ) → IsCount least n → Q (by_count n)) → ((d : Delta) → DeltaIn schema d → Q (by_delta d)) → Gives Q other
    → Gives Q (measured numbers least schema by_count by_delta other p)
measured_fits Q numbers least schema by_count by_delta other p counts deltas h =
    gives_if Q (has_name (codes "count") p) (after (only_count numbers least p p.arguments) (λ n. Ok (by_count n)))
    (if has_name (codes "delta") p then after (delta_of numbers schema p p.arguments) (λ d. Ok (by_delta d)) else other)
    (λ is. gives_after (IsCount least) Q (only_count numbers least p p.arguments) _ (only_fits numbers least p p.arguments) (λ n count. counts n count))
    (λ no_count. gives_if Q (has_name (codes "delta") p) (after (delta_of numbers schema p p.arguments) (λ d. Ok (by_delta d))) other
    (λ is. gives_after (DeltaIn schema) Q (delta_of numbers schema p p.arguments) _ (delta_fits numbers schema p p.arguments) (λ d delta. deltas d delta))
    (λ no_delta. h))

alone_fits : {A : Type 0} (Q : A → Type 0) (x : A) (ps : List WindowPart) → Q x → Gives Q (nothing_follows x ps)
alone_fits Q x [] h = h
alone_fits Q x (p ∷ ps) h = tt

punct_fits : (schema : Attributes) (p : WindowPart) → Gives (AggregateWindow schema) (punctuated p)
punct_fits schema p =
    gives_if (AggregateWindow schema) (has_name (codes "punct") p && are_no_arguments p.arguments) (Ok W.TumblingPunct) (bad_window p.name.at)
    (λ is. F.tumbling_punct) (λ other. tt)

tumbling_fits : (numbers : Numbers) (schema : Attributes) (at : ℕ) (ps : List WindowPart) → Gives (AggregateWindow schema) (tumbling numbers schema at ps)
tumbling_fits numbers schema at [] = tt
tumbling_fits numbers schema at (p ∷ ps) =
    gives_after (AggregateWindow schema) (AggregateWindow schema)
    (measured numbers 1 schema W.TumblingCount (λ d. W.TumblingDelta d.attribute (pos d.limit)) (punctuated p) p) _
    (measured_fits (AggregateWindow schema) numbers 1 schema W.TumblingCount (λ d. W.TumblingDelta d.attribute (pos d.limit)) (punctuated p) p
    (λ n count. F.tumbling_count n count) (λ d delta. F.tumbling_delta d.attribute d.limit delta) (punct_fits schema p))
    (λ rule h. alone_fits (AggregateWindow schema) rule ps h)

abbrev by_count : ℕ → Sliding
by_count n every = W.SlidingCount n every

abbrev by_delta : Delta → Sliding
by_delta d every = W.SlidingDelta d.attribute (pos d.limit) every

trigger_fits : (numbers : Numbers) (at : ℕ) (ps : List WindowPart) → Gives (IsCount 1) (trigger numbers at ps)
trigger_fits numbers at [] = tt
trigger_fits numbers at (p ∷ ps) =
    gives_after (IsCount 1) (IsCount 1) (if has_name (codes "count") p then only_count numbers 1 p p.arguments else bad_window p.name.at) _
    (gives_if (IsCount 1) (has_name (codes "count") p) (only_count numbers 1 p p.arguments) (bad_window p.name.at)
    (λ is. only_fits numbers 1 p p.arguments) (λ other. tt))
    (λ n count. alone_fits (IsCount 1) n ps count)

-- what slides in a window of an Aggregate, by its trigger
abbrev Triggered : Attributes → Sliding → Type 0
Triggered schema rule = (every : ℕ) → IsCount 1 every → AggregateWindow schema (rule (Some every))

sliding_fits : (numbers : Numbers) (schema : Attributes) (at : ℕ) (ps : List WindowPart)
    → Gives (AggregateWindow schema) (sliding_with_trigger numbers schema at ps)
sliding_fits numbers schema at [] = tt
sliding_fits numbers schema at (p ∷ ps) =
    gives_after (Triggered schema) (AggregateWindow schema) (sliding_rule numbers 1 schema p) _
    (measured_fits (Triggered schema) numbers 1 schema by_count by_delta (bad_window p.name.at) p
    (λ n count every triggers. F.AggregateWindow.sliding_count n every count triggers)
    (λ d delta every triggers. F.AggregateWindow.sliding_delta d.attribute d.limit every delta triggers) tt)
    (λ rule h. gives_after (IsCount 1) (AggregateWindow schema) (trigger numbers at ps) _ (trigger_fits numbers at ps) (λ every triggers. h every triggers))

abbrev Untriggered : Attributes → Sliding → Type 0
Untriggered schema rule = JoinWindow schema (rule None)

untriggered_fits : (numbers : Numbers) (schema : Attributes) (at : ℕ) (ps : List WindowPart) → Gives (JoinWindow schema) (sliding_alone numbers schema at ps)
untriggered_fits numbers schema at [] = tt
untriggered_fits numbers schema at (p ∷ ps) =
    gives_after (Untriggered schema) (JoinWindow schema) (sliding_rule numbers 0 schema p) _
    (measured_fits (Untriggered schema) numbers 0 schema by_count by_delta (bad_window p.name.at) p
    (λ n count. F.JoinWindow.sliding_count n count) (λ d delta. F.JoinWindow.sliding_delta d.attribute d.limit delta) tt)
    (λ rule h. alone_fits (JoinWindow schema) (rule None) ps h)

-- ---- windows

aggregate_fits : (numbers : Numbers) (schema : Attributes) (at : ℕ) (ps : List WindowPart) → Gives (AggregateWindow schema) (aggregate_rule numbers schema at ps)
aggregate_fits numbers schema at [] = tt
aggregate_fits numbers schema at (p ∷ ps) =
    gives_if (AggregateWindow schema) (is_word (codes "tumbling") p) (tumbling numbers schema at ps)
    (if is_word (codes "sliding") p then sliding_with_trigger numbers schema at ps else bad_window p.name.at)
    (λ is. tumbling_fits numbers schema at ps) (λ other.
    gives_if (AggregateWindow schema) (is_word (codes "sliding") p) (sliding_with_trigger numbers schema at ps) (bad_window p.name.at)
    (λ is. sliding_fits numbers schema at ps) (λ last. tt))

join_fits : (numbers : Numbers) (schema : Attributes) (at : ℕ) (ps : List WindowPart) → Gives (JoinWindow schema) (join_rule numbers schema at ps)
join_fits numbers schema at [] = tt
join_fits numbers schema at (p ∷ ps) =
    gives_if (JoinWindow schema) (is_word (codes "sliding") p) (sliding_alone numbers schema at ps) (bad_window p.name.at)
    (λ is. untriggered_fits numbers schema at ps) (λ other. tt)

-- a policy of a form, for a port
abbrev pub PolicyFits : WindowForm → Port → Policy → Type 0
PolicyFits M.Aggregate port policy = AggregateWindow port.schema policy.rule
PolicyFits M.Join port policy = JoinWindow port.schema policy.rule × (policy.partitioned ≡ false)

aggregate_policy_fits : (numbers : Numbers) (port : Port) (w : PortWindow)
    → Gives (λ policy. AggregateWindow port.schema policy.rule) (aggregate_policy numbers port w)
aggregate_policy_fits numbers port w =
    gives_after (AggregateWindow port.schema) (λ policy. AggregateWindow port.schema policy.rule)
    (aggregate_rule numbers port.schema w.port.at (partitioned_or_not w.parts).others) _
    (aggregate_fits numbers port.schema w.port.at (partitioned_or_not w.parts).others) (λ rule h. h)

policy_fits : (form : WindowForm) (numbers : Numbers) (port : Port) (w : PortWindow) → Gives (PolicyFits form port) (policy_of form numbers port w)
policy_fits M.Aggregate numbers port w = aggregate_policy_fits numbers port w
policy_fits M.Join numbers port w =
    gives_after (JoinWindow port.schema) (PolicyFits M.Join port) (join_rule numbers port.schema w.port.at w.parts) _
    (join_fits numbers port.schema w.port.at w.parts) (λ rule h. (h, refl))

-- ---- the clause

-- a window of one of the ports
abbrev OnPort : WindowForm → List Port → ℕ × Policy → Type 0
OnPort form ports x = (port : Port) × (slice_get ports x.0 ≡ Some port) × PolicyFits form port x.1

one_window : (form : WindowForm) (numbers : Numbers) (ports : List Port) (given : List ℕ) (w : PortWindow) (p : Port → Bool) (o : Option (At Port))
    → Stands p ports 0 o → Gives (OnPort form ports) (window_of (policy_of form numbers) given w o)
one_window form numbers ports given w p None h = tt
one_window form numbers ports given w p (Some port) h =
    gives_if (OnPort form ports) (list_any (λ n. n == port.place) given) (refused C.ExtraParameter w.port.at (Some (codes "window")))
    (after (policy_of form numbers port.what w) (λ x. Ok (port.place, x))) (λ twice. tt) (λ first.
    let place : port.place ≡ h.0 = omega (arith, h.1) in
    gives_after (PolicyFits form port.what) (OnPort form ports) (policy_of form numbers port.what w) _ (policy_fits form numbers port.what w) (λ policy fit.
    (port.what, ap (slice_get ports) place ∙ h.2, fit)))

clause_fits : (form : WindowForm) (numbers : Numbers) (ports : List Port) (given : List ℕ) (ws : List PortWindow)
    → Gives (AllByRecursion (OnPort form ports)) (windows_typing (policy_of form numbers) ports given ws)
clause_fits form numbers ports given [] = tt
clause_fits form numbers ports given (w ∷ ws) =
    gives_after (OnPort form ports) (AllByRecursion (OnPort form ports))
    (window_of (policy_of form numbers) given w (first_from (λ p. bytes_eq p.name w.port.what) 0 ports)) _
    (one_window form numbers ports given w (λ p. bytes_eq p.name w.port.what) (first_from (λ p. bytes_eq p.name w.port.what) 0 ports)
    (first_stands (λ p. bytes_eq p.name w.port.what) ports 0)) (λ x on.
    gives_after (AllByRecursion (OnPort form ports)) (AllByRecursion (OnPort form ports)) (windows_typing (policy_of form numbers) ports (x.0 ∷ given) ws) _
    (clause_fits form numbers ports (x.0 ∷ given) ws) (λ xs rest. (on, rest)))

-- the window of a port
abbrev OfPort : WindowForm → List Port → ℕ → Policy → Type 0
OfPort form ports k policy = (port : Port) → slice_get ports k ≡ Some port → PolicyFits form port policy

window_fits : (form : WindowForm) (ports : List Port) (at k : ℕ) (xs : List (ℕ × Policy)) → AllByRecursion (OnPort form ports) xs → Gives (OfPort form ports k) (window_at at k xs)
window_fits form ports at k [] h = tt
window_fits form ports at k (x ∷ xs) h =
    gives_if (OfPort form ports k) (x.0 == k) (Ok x.1) (window_at at k xs) (λ same port there.
    let place : x.0 ≡ k = eqb-true x.0 k same in
    let equal : Some h.0.0 ≡ Some port = sym h.0.1 ∙ ap (slice_get ports) place ∙ there in
    let port_is : h.0.0 ≡ port = cc in
    subst (λ p. PolicyFits form p x.1) port_is h.0.2)
    (λ other. window_fits form ports at k xs h.1)

-- one for each port
abbrev pub Along : WindowForm → List Port → List Policy → Type 0
Along form [] [] = Unit {0}
Along form (p ∷ ps) (w ∷ ws) = PolicyFits form p w × Along form ps ws
Along form _ _ = ⊥

each_fits : (form : WindowForm) (ports : List Port) (at : ℕ) (xs : List (ℕ × Policy)) → AllByRecursion (OnPort form ports) xs → (k : ℕ) (ps : List Port)
    → ((j : ℕ) → slice_get ports (k + j) ≡ slice_get ps j) → Gives (Along form ps) (each_window at xs k ps)
each_fits form ports at xs h k [] tail = tt
each_fits form ports at xs h k (p ∷ ps) tail =
    gives_after (OfPort form ports k) (Along form (p ∷ ps)) (window_at at k xs) _ (window_fits form ports at k xs h) (λ policy of.
    gives_after (Along form ps) (Along form (p ∷ ps)) (each_window at xs (suc k) ps) _
    (each_fits form ports at xs h (suc k) ps (λ j. let same : suc k + j ≡ k + suc j = omega arith in ap (slice_get ports) same ∙ tail (suc j))) (λ rest along.
    (of p (let same : k ≡ k + 0 = omega arith in ap (slice_get ports) same ∙ tail 0), along)))

-- the windows of an operator, where it has some
abbrev pub WindowsFit : Option WindowForm → List Port → List Policy → Type 0
WindowsFit None ports windows = Unit {0}
WindowsFit (Some form) ports windows = Along form ports windows

from_start : (form : WindowForm) (ports : List Port) (at : ℕ) (xs : List (ℕ × Policy)) → AllByRecursion (OnPort form ports) xs → Gives (Along form ports) (each_window at xs 0 ports)
from_start form ports at xs h = each_fits form ports at xs h 0 ports (λ j. let same : 0 + j ≡ j = omega arith in ap (slice_get ports) same)

pub windows_fit : (form : Option WindowForm) (numbers : Numbers) (at : ℕ) (ports : List Port) (o : Option (Placed (List PortWindow)))
    → Gives (WindowsFit form ports) (windows_of_form form numbers at ports o)
windows_fit None numbers at ports None = tt
windows_fit None numbers at ports (Some w) = tt
windows_fit (Some form) numbers at ports None = from_start form ports at [] tt
windows_fit (Some form) numbers at ports (Some w) =
    gives_after (AllByRecursion (OnPort form ports)) (Along form ports) (windows_typing (policy_of form numbers) ports [] w.what) _
    (clause_fits form numbers ports [] w.what) (λ xs all. from_start form ports at xs all)
