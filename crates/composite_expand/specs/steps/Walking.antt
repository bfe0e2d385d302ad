-- What is left of an expansion on its way through bodies within bodies.
use Rattle.std.specs.Prelude.{◌≡◌, ℕ, suc, ◌≤◌, true, List, [], ◌∷◌, drop, length, Ok, None}
use Rattle.spl_tree.specs.declared.unit.Composite.{Composite}
use Rattle.spl_tree.specs.declared.unit.Definition.{Definition}
use Rattle.spl_tree.specs.declared.unit.Invocation.{Invocation}
use Rattle.language_model.specs.Declarations.{first_of}
use Rattle.language_model.specs.Expansion.{Made, Expanded, Opened, after, expanded, expanded_graph}
use Rattle.language_model.specs.parts.Expansion.{if_grown, with_expansion}
use Rattle.language_model.specs.Invoking.{Body, target_of, undeclared, fits_head}
use Rattle.language_model.specs.Scopes.{At}

-- a body that is being expanded: the number of the invocation that comes next, and what stood before it
pub record Frame : Type 0 where
  pub opened : Opened
  pub next : ℕ
  pub before : Made

abbrev pub frame : Opened → ℕ → Made → Frame
frame opened next before = record { opened = opened; next = next; before = before }

-- the invocations of a body from a number on
abbrev pub rest_of : Frame → List Invocation
rest_of f = drop f.next f.opened.body.composite.what.graph

-- what stays of a body that is done, which is in others: nothing, where it made no operator. The main one stays
abbrev pub closed : Frame → List Frame → Made → Made
closed f [] made = made
closed f (g ∷ gs) made = if_grown f.before made

-- the result of the bodies on the way, the innermost first, in which others nest at most `depth` deep
abbrev pub resumed : ℕ → List Definition → List Frame → Made → Expanded Made
resumed depth unit [] made = Ok made
resumed depth unit (f ∷ fs) made =
    after (expanded_graph (expanded depth unit) unit f.opened f.next (rest_of f) made) (λ m. resumed (suc depth) unit fs (closed f fs m))

-- what stood before the innermost body is there still, and the body with it, as far as no operator was added; and so on outwards
pub data Keeps : List Frame → Made → Type 0 where
  none : (made : Made) → Keeps [] made
  main : (f : Frame) (made : Made) → length f.before.ops ≤ length made.ops → Keeps (f ∷ []) made
  within : (f g : Frame) (fs : List Frame) (made : Made) → length f.before.ops ≤ length made.ops
      → (length f.before.ops ≡ length made.ops → made ≡ with_expansion f.opened.body f.before) → Keeps (g ∷ fs) f.before → Keeps (f ∷ g ∷ fs) made

-- invocations of composites alone that make no operator however they are expanded
pub data IsIdle (unit : List Definition) : Composite → List Invocation → Type 0 where
  nothing : (c : Composite) → IsIdle unit c []
  more : (c : Composite) (i : Invocation) (is : List Invocation) (d : At Composite) → first_of (undeclared unit c i) ≡ None → target_of unit i.operator.what ≡ Body d
      → fits_head d.what i ≡ true → IsIdle unit d.what d.what.graph → IsIdle unit c is → IsIdle unit c (i ∷ is)
