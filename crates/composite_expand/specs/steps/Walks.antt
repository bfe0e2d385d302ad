-- The way through bodies within bodies, as the code keeps it.
use Rattle.std.specs.Prelude.{◌≡◌, ℕ, ◌+◌, ◌-◌, ◌≤◌, ◌<◌, suc, zero, Bool, true, List, [], ◌∷◌, ◌++◌, drop, take, map, reverse, length, sum_by, Some, None, slice_get, Ok, Err}
use Rattle.std.specs.List.{AllByRecursion}
use Rattle.std.specs.Option.{option_map_or}
use Rattle.spl_tree.specs.declared.unit.Composite.{Composite}
use Rattle.spl_tree.specs.declared.unit.Definition.{Definition}
use Rattle.spl_tree.specs.declared.unit.Invocation.{Invocation}
use Rattle.language_model.specs.Composites.{composites}
use Rattle.language_model.specs.Expansion.{Made, Inlined, expanded_main}
use Rattle.language_model.specs.parts.Expansion.{connections_of, is_within}
use Rattle.language_model.specs.Invoking.{Target, Operator, Body, Nothing, target_of}
use Rattle.language_model.specs.Recursion.{HasNoRecursion, composite_callers, calls_among}
use Rattle.language_model.specs.Scopes.{At}
use Rattle.graph_laws.specs.steps.Paths.{IsPath}
use Rattle.composite_expand.specs.declared.answer.ExpandAnswer.{ExpandAnswer}
use Rattle.composite_expand.specs.declared.answer.ExpandAnswer.TheVariants as X
use Rattle.composite_tables.specs.declared.made.Input.{Input}
use Rattle.composite_expand.specs.declared.walk.Opened.{Opened}
use Rattle.composite_expand.specs.declared.walk.Walk.{Walk}
use Rattle.composite_tables.specs.Inputs.{Shows, AreNested, AreInputs, InputsStand}
use Rattle.composite_expand.specs.steps.Walking.{Frame, resumed, Keeps, IsIdle}

-- ---- the bodies on the way

pub record IsFrame (unit : List Definition) (names : List ℕ) (o : Opened) (f : Frame) : Type 0 where
  pub place : o.composite ≡ f.opened.body.composite.place
  pub composite : slice_get (composites unit) o.composite ≡ Some f.opened.body.composite.what
  pub number : o.number ≡ f.opened.number
  pub next : o.next ≡ f.next
  pub prefix : take o.prefix names ≡ f.opened.prefix
  pub within : o.prefix ≤ length names
  pub ops : o.ops ≡ length f.before.ops
  pub bodies : o.number ≡ length f.before.expansions

-- a body on the way around another: it was opened before, and the names in front of it stand in front of the other too
pub record IsAround (o q : Opened) : Type 0 where
  pub prefix : q.prefix ≤ o.prefix
  pub number : q.number < o.number

-- the frames are those of the bodies on the way, both the innermost first
abbrev pub Tracks : List Definition → List ℕ → List Opened → List Frame → Type 0
Tracks unit names [] [] = Unit {0}
Tracks unit names (o ∷ os) (f ∷ fs) = IsFrame unit names o f × AllByRecursion (IsAround o) os × Tracks unit names os fs
Tracks unit names _ _ = ⊥

-- each composite on the way invokes the one within it
abbrev pub place_of_frame : Frame → ℕ
place_of_frame f = f.opened.body.composite.place

abbrev pub IsWay : List Definition → List Frame → Type 0
IsWay unit [] = Unit {0}
IsWay unit (f ∷ fs) = IsPath (calls_among (composite_callers unit)) (place_of_frame f) (map place_of_frame fs)

-- ---- bodies that made nothing yet

-- as far as a body made no operator, its invocations so far are idle
abbrev pub IsIdleSoFar : List Definition → Frame → Made → Type 0
IsIdleSoFar unit f made = length f.before.ops ≡ length made.ops → IsIdle unit f.opened.body.composite.what (take f.next f.opened.body.composite.what.graph)

-- those of the bodies around it are, where it turns out to be idle
abbrev pub Waits : List Definition → Frame → List Frame → Type 0
Waits unit f [] = Unit {0}
Waits unit f (g ∷ gs) = (IsIdle unit f.opened.body.composite.what f.opened.body.composite.what.graph → IsIdleSoFar unit g f.before) × Waits unit g gs

abbrev pub AreIdle : List Definition → List Frame → Made → Type 0
AreIdle unit [] made = Unit {0}
AreIdle unit (f ∷ fs) made = IsIdleSoFar unit f made × Waits unit f fs

-- for each composite a mark: one that is marked is idle
pub record AreMarks (unit : List Definition) (marks : List Bool) : Type 0 where
  pub count : length marks ≡ length (composites unit)
  pub each : (k : ℕ) (c : Composite) → slice_get marks k ≡ Some true → slice_get (composites unit) k ≡ Some c → IsIdle unit c c.graph

-- ---- the whole

-- the bodies on the way stand under their numbers
abbrev pub StandsThere : List Inlined → Frame → Type 0
StandsThere xs f = slice_get xs f.opened.number ≡ Some f.opened.body

-- where the walk stands: on a way, the innermost body first, whose result is that of the main composite
pub record IsOn (unit : List Definition) (main : At Composite) (w : Walk) (way : List Opened) : Type 0 where
  pub frames : List Frame
  pub made : Made
  pub depth : ℕ
  pub goal : resumed depth unit frames made ≡ expanded_main unit main
  pub room : depth + length frames ≡ length (composites unit)
  pub tracks : Tracks unit w.names.items way frames
  pub path : IsWay unit frames
  pub keeps : Keeps frames made
  pub waits : AreIdle unit frames made
  pub there : AllByRecursion (StandsThere made.expansions) frames
  pub marks : AreMarks unit w.idle
  pub ops : w.ops ≡ made.ops
  pub bodies : Shows unit w.bodies made.expansions
  pub nested : AreNested made.expansions
  pub inputs : InputsStand made.expansions w.inputs
  pub connections : w.connections ≡ sum_by connections_of made.ops
  pub within : is_within made.ops ≡ true

-- where the walk stands, with the frame of the innermost body
pub record Front (unit : List Definition) (main : At Composite) (w : Walk) (o : Opened) (os : List Opened) : Type 0 where
  pub f : Frame
  pub fs : List Frame
  pub made : Made
  pub depth : ℕ
  pub goal : resumed depth unit (f ∷ fs) made ≡ expanded_main unit main
  pub room : depth + suc (length fs) ≡ length (composites unit)
  pub of : IsFrame unit w.names.items o f
  pub around : AllByRecursion (IsAround o) os
  pub outer : Tracks unit w.names.items os fs
  pub path : IsWay unit (f ∷ fs)
  pub keeps : Keeps (f ∷ fs) made
  pub idle : IsIdleSoFar unit f made
  pub waits : Waits unit f fs
  pub there : StandsThere made.expansions f
  pub others : AllByRecursion (StandsThere made.expansions) fs
  pub marks : AreMarks unit w.idle
  pub ops : w.ops ≡ made.ops
  pub bodies : Shows unit w.bodies made.expansions
  pub nested : AreNested made.expansions
  pub inputs : InputsStand made.expansions w.inputs
  pub connections : w.connections ≡ sum_by connections_of made.ops
  pub within : is_within made.ops ≡ true

-- ---- one step

-- the same body, one invocation further
pub record IsFurther (o p : Opened) : Type 0 where
  pub composite : p.composite ≡ o.composite
  pub number : p.number ≡ o.number
  pub next : p.next ≡ suc o.next
  pub prefix : p.prefix ≡ o.prefix
  pub ops : p.ops ≡ o.ops

-- the body of a composite, where nothing of it was expanded yet
pub record IsNew (o : Opened) (made : Made) (c : At Composite) (names : List ℕ) : Type 0 where
  pub composite : o.composite ≡ c.place
  pub number : o.number ≡ length made.expansions
  pub next : o.next ≡ 0
  pub prefix : o.prefix ≡ length names
  pub ops : o.ops ≡ length made.ops

-- a body in which an invocation of its composite comes next
pub record IsAt (unit : List Definition) (main : At Composite) (w : Walk) (o : Opened) (c : Composite) (i : Invocation) : Type 0 where
  pub at : Front unit main w o (reverse w.opened)
  pub composite : at.f.opened.body.composite.what ≡ c
  pub here : slice_get c.graph o.next ≡ Some i

-- it stands on a way from some main composite
abbrev pub IsGoing : List Definition → Walk → List Opened → Type 0
IsGoing unit w way = (main : At Composite) × IsOn unit main w way

-- ---- the work that is left

-- that of the invocations of a graph, from that of a composite's body
abbrev pub target_work : (Composite → ℕ) → Target → ℕ
target_work body (Operator kind) = 0
target_work body (Body c) = body c.what
target_work body Nothing = 0

abbrev pub graph_work : (Composite → ℕ) → List Definition → List Invocation → ℕ
graph_work body unit [] = 0
graph_work body unit (i ∷ is) = suc (target_work body (target_of unit i.operator.what) + graph_work body unit is)

-- that of a body in which others nest at most `depth` deep
abbrev pub body_work : ℕ → List Definition → Composite → ℕ
body_work zero unit c = 0
body_work (suc depth) unit c = suc (graph_work (body_work depth unit) unit c.graph)

-- that of a body on the way
abbrev pub opened_work : ℕ → List Definition → Opened → ℕ
opened_work depth unit o = option_map_or (λ c. suc (graph_work (body_work depth unit) unit (drop o.next c.graph))) (slice_get (composites unit) o.composite) 1

-- that of all, the innermost first, in which others nest at most `depth` deep
abbrev pub way_work : ℕ → List Definition → List Opened → ℕ
way_work depth unit [] = 0
way_work depth unit (o ∷ os) = opened_work depth unit o + way_work (suc depth) unit os

abbrev pub work_left : List Definition → List Opened → ℕ
work_left unit way = way_work (length (composites unit) - length way) unit way

-- the inputs of the body of a composite that the invocation which comes next opens after the others
abbrev pub OpensWith : List Inlined → Opened → At Composite → List Input → Type 0
OpensWith xs o d row =
    (y : Inlined) → y.site ≡ Some (record { expansion = o.number; invocation = o.next }) → y.composite ≡ d → AreInputs (xs ++ y ∷ []) (length xs) y row

-- a body without further invocations
pub record IsOver (unit : List Definition) (main : At Composite) (w : Walk) (o : Opened) (c : Composite) : Type 0 where
  pub at : Front unit main w o (reverse w.opened)
  pub composite : at.f.opened.body.composite.what ≡ c
  pub over : slice_get c.graph o.next ≡ None

-- ---- where a step leads

-- its result is still that of the main composite, with less work left
pub record GoesOn (unit : List Definition) (main : At Composite) (w : Walk) (o : Opened) (v : Walk) : Type 0 where
  pub on : IsOn unit main v (reverse v.opened)
  pub less : work_left unit (reverse v.opened) < work_left unit (o ∷ reverse w.opened)

-- the refusal of a step is the result of the main composite; nothing is said where memory ran out
abbrev pub Refuses : List Definition → At Composite → ExpandAnswer → Type 0
Refuses unit main (X.Refused r) = expanded_main unit main ≡ Err r
Refuses unit main X.Memory = Unit {0}

-- ---- the whole way

-- the main composite stands at the place and has no inputs, and no composite reaches itself
pub record Starts (unit : List Definition) (place : ℕ) (main : At Composite) : Type 0 where
  pub place_is : main.place ≡ place
  pub there : slice_get (composites unit) main.place ≡ Some main.what
  pub inputs : main.what.inputs ≡ []
  pub none : HasNoRecursion (composite_callers unit)

-- the result of the main composite, as the code keeps it
pub record IsExpanded (unit : List Definition) (main : At Composite) (w : Walk) : Type 0 where
  pub made : Made
  pub is : expanded_main unit main ≡ Ok made
  pub ops : w.ops ≡ made.ops
  pub bodies : Shows unit w.bodies made.expansions
  pub nested : AreNested made.expansions
  pub inputs : InputsStand made.expansions w.inputs
