-- The code of a body: its statements one after another, each in the scope to which those before it lead, or the first
-- refusal, in the order of the text.
use Rattle.std.specs.Prelude.{ℕ, Bool, true, false, ◌&&◌, List, [], ◌∷◌, map, if◌then◌else◌, Option, Some, None, Ok, slice_get}
use Rattle.std.specs.List.{list_all}
use Rattle.std.specs.Option.{option_map_or}
use Rattle.std.specs.Str.{bytes_eq}
use Rattle.spl_value.specs.declared.types.Named.{Named}
use Rattle.spl_value.specs.declared.types.SplType.{SplType}
use Rattle.spl_value.specs.declared.types.SplType.TheVariants as S
use Rattle.spl_value.specs.declared.types.SplType.TheOpen as O
use Rattle.spl_value.specs.declared.types.SplType.TheOpen.{SplType-F}
use Rattle.spl_value.specs.declared.types.SplType.TheViews.{out-SplType}
use Rattle.spl_value.specs.Values.{default_value}
use Rattle.spl_tree.specs.declared.body.Statement.{Statement}
use Rattle.spl_tree.specs.declared.body.Statement.TheVariants as T
use Rattle.spl_tree.specs.declared.code.Code.{Code}
use Rattle.spl_tree.specs.declared.code.Code.TheVariants as C
use Rattle.spl_tree.specs.declared.code.Marker.{Marker}
use Rattle.spl_tree.specs.declared.code.Marker.TheVariants as M
use Rattle.spl_tree.specs.declared.code.Slot.{Slot}
use Rattle.spl_tree.specs.declared.expression.Placed.{Placed}
use Rattle.spl_tree.specs.declared.statement.StmtKind.TheOpen as Z
use Rattle.spl_tree.specs.declared.statement.StmtKind.TheOpen.{StmtKind-F}
use Rattle.spl_tree.specs.declared.statement.StmtKind.TheFolds.{fold-StmtKind}
use Rattle.spl_tree.specs.Trees.{Expr, Stmt}
use Rattle.language_model.specs.declared.scope.Scope.{Scope}
use Rattle.language_model.specs.declared.scope.Variable.{Variable}
use Rattle.language_model.specs.BodyFits.{Purpose, OfFunction, OfHandler, with_variable}
use Rattle.language_model.specs.Readings.{named_marker}
use Rattle.language_model.specs.Scopes.{first_from}
use Rattle.language_model.specs.StatementTyping.{assignment_typing, compound_typing, call_typing}
use Rattle.language_model.specs.TypeNames.{Types, type_meant}
use Rattle.language_model.specs.Typing.{Found, after, mismatch, same_types, typing, unknown, wrong_call}

-- where a body stands: what the names of types mean, what it is the body of, and the names of the output ports to which
-- it may submit
pub record Setting : Type 0 where
  pub types : Types
  pub purpose : Purpose
  pub outputs : List (List ℕ)

-- a statement at its place, inside a loop or not, in a scope: its code, and the scope after it
abbrev pub Stated : Type 0
Stated = ℕ → Setting → Bool → Scope → Found (Statement × Scope)

-- statements one after another
abbrev pub row_typing : Setting → Bool → Scope → List (Placed Stated) → Found (List Statement)
row_typing setting inside scope [] = Ok []
row_typing setting inside scope (s ∷ rest) =
    after (s.what s.at setting inside scope) (λ x. after (row_typing setting inside x.1 rest) (λ row. Ok (x.0 ∷ row)))

-- a branch, or what a loop repeats: a row of one statement
abbrev pub alone : Setting → Bool → Scope → Placed Stated → Found (List Statement)
alone setting inside scope s = row_typing setting inside scope (s ∷ [])

-- the scope after it is that before it
abbrev pub staying : Scope → Found Statement → Found (Statement × Scope)
staying scope found = after found (λ x. Ok (x, scope))

-- ---- declarations

abbrev pub variable : Bool → List ℕ → SplType → Variable
variable mutable name t = record { name = name; kind = t; mutable = mutable }

-- without a value a variable holds its type's default
abbrev pub first_value : Scope → SplType → Option Expr → Found (Code Slot)
first_value scope t value =
    option_map_or (λ e. after (typing scope e (Some t)) (λ x. Ok x.code)) value (Ok (C.Literal (default_value t)))

-- ---- choices and loops

abbrev pub condition_typing : Scope → Expr → Found (Code Slot)
condition_typing scope e = after (typing scope e (Some S.Bool)) (λ x. Ok x.code)

abbrev pub arms_typing : Setting → Bool → Scope → List (Expr × Placed Stated)
    → Found (List (Code Slot × List Statement))
arms_typing setting inside scope [] = Ok []
arms_typing setting inside scope (a ∷ rest) =
    after (condition_typing scope a.0) (λ code. after (alone setting inside scope a.1) (λ row.
    after (arms_typing setting inside scope rest) (λ arms. Ok ((code, row) ∷ arms))))

-- `for` goes over elements, or over keys, of the variable's type
abbrev pub level_over : SplType → SplType-F SplType → Bool
level_over t (O.List element) = same_types element t
level_over t (O.Map key value) = same_types key t
level_over t _ = false

-- ---- results

-- a function with a result returns one, and nothing else does
abbrev pub return_typing : ℕ → Purpose → Scope → Option Expr → Found Statement
return_typing at (OfFunction (Some t)) scope (Some e) =
    after (typing scope e (Some t)) (λ x. Ok (T.Return (Some x.code)))
return_typing at (OfFunction (Some t)) scope None = wrong_call at
return_typing at purpose scope (Some e) = wrong_call at
return_typing at purpose scope None = Ok (T.Return None)

-- ---- submits

abbrev pub is_window : Option Marker → Bool
is_window (Some M.Window) = true
is_window _ = false

-- `Sys.WindowMarker`, in parentheses or not, or a tuple of the port's attributes
abbrev pub submitted : Scope → ℕ → List (Named SplType) → Expr → Found Statement
submitted scope port schema e =
    if is_window (named_marker e.what) then Ok (T.SubmitWindow port)
    else after (typing scope e (Some (S.Tuple schema))) (λ x. Ok (T.Submit port x.code))

-- a handler submits to the output port of the name, whose name is looked at first; a function may not
abbrev pub submit_typing : ℕ → Setting → Purpose → Scope → Expr → Placed (List ℕ) → Found Statement
submit_typing at setting (OfFunction result) scope e stream = wrong_call at
submit_typing at setting (OfHandler schemas) scope e stream =
    option_map_or (λ port. option_map_or (λ schema. submitted scope port.place schema e)
    (slice_get schemas port.place) (unknown stream.at stream.what))
    (first_from (λ name. bytes_eq name stream.what) 0 setting.outputs) (unknown stream.at stream.what)

-- ---- statements

-- a declaration adds its variable to the scope, and every other statement leaves the scope as it is. An `if` may have
-- no `else`, the variable of a `for` doesn't change, and `break` and `continue` stand inside a loop alone
abbrev pub level_stated : StmtKind-F Stated → Stated
level_stated (Z.Block ss) at setting inside scope =
    staying scope (after (row_typing setting inside scope ss) (λ row. Ok (T.Block row)))
level_stated (Z.Declare d) at setting inside scope = after (type_meant setting.types d.kind) (λ t.
    after (first_value scope t d.value) (λ code. Ok (
      T.Declare code,
      with_variable scope
          (variable d.mutable d.name.what t),
    )))
level_stated (Z.Assign place op e) at setting inside scope =
    staying scope (option_map_or (λ o. compound_typing scope o place e) op (assignment_typing scope place e))
level_stated (Z.Call e) at setting inside scope = staying scope (call_typing scope e)
level_stated (Z.If arms other) at setting inside scope =
    staying scope (after (arms_typing setting inside scope arms) (λ xs.
    after (option_map_or (alone setting inside scope) other (Ok [])) (λ row. Ok (T.If xs row))))
level_stated (Z.While c s) at setting inside scope =
    staying scope (after (condition_typing scope c) (λ code.
    after (alone setting true scope s) (λ row. Ok (T.While code row))))
level_stated (Z.For a e s) at setting inside scope = staying scope (after (type_meant setting.types a.kind) (λ t.
    after (after (typing scope e None) (λ x. if level_over t (out-SplType x.kind) then Ok x.code else mismatch e.at))
    (λ code.
    after (alone setting true (with_variable scope (variable false a.name.what t)) s) (λ row. Ok (T.For code row)))))
level_stated Z.Break at setting inside scope = staying scope (if inside then Ok T.Break else wrong_call at)
level_stated Z.Continue at setting inside scope = staying scope (if inside then Ok T.Continue else wrong_call at)
level_stated (Z.Return e) at setting inside scope = staying scope (return_typing at setting.purpose scope e)
level_stated (Z.Submit e stream) at setting inside scope =
    staying scope (submit_typing at setting setting.purpose scope e stream)

-- the code of the statements of a body, outside of any loop
abbrev pub body_typing : Setting → Scope → List Stmt → Found (List Statement)
body_typing setting scope ss =
    row_typing setting false scope (map (λ s. record { at = s.at; what = fold-StmtKind Stated level_stated s.what }) ss)

-- ---- bodies that end with a result

-- the last one does
abbrev pub last_returns : List (Placed Bool) → Bool
last_returns [] = false
last_returns (s ∷ []) = s.what
last_returns (s ∷ rest) = last_returns rest

-- a `return`, a block whose last statement returns, or an `if` with `else` all of whose branches do
abbrev pub level_returns : StmtKind-F Bool → Bool
level_returns (Z.Return e) = true
level_returns (Z.Block ss) = last_returns ss
level_returns (Z.If arms (Some other)) = list_all (λ a. a.1.what) arms && other.what
level_returns _ = false

abbrev pub returns : List Stmt → Bool
returns ss = last_returns (map (λ s. record { at = s.at; what = fold-StmtKind Bool level_returns s.what }) ss)
