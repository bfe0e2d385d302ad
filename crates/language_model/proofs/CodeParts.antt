-- What the parts of a code that fits fit.
use Rattle.std.specs.Prelude.{◌≡◌, IsTrue, List, length, Some, slice_get}
use Rattle.std.proofs.Common.{sym, subst}
use Rattle.spl_value.specs.declared.types.Named.{Named}
use Rattle.spl_value.specs.declared.types.SplType.{SplType}
use Rattle.spl_value.specs.declared.types.SplType.TheVariants as S
use Rattle.spl_value.specs.Values.{fits}
use Rattle.spl_tree.specs.declared.code.Code.{Code}
use Rattle.spl_tree.specs.declared.code.Code.TheVariants as C
use Rattle.spl_tree.specs.declared.code.Code.TheOpen as O
use Rattle.spl_tree.specs.declared.code.Code.TheOpen.{Code-F}
use Rattle.spl_tree.specs.declared.code.Code.TheViews.{out-Code}
use Rattle.spl_tree.specs.declared.code.Slot.{Slot}
use Rattle.language_model.specs.declared.scope.Scope.{Scope}
use Rattle.language_model.specs.declared.scope.Signature.{Signature}
use Rattle.language_model.specs.CodeFits as F
use Rattle.language_model.specs.CodeFits.{CodeFits, SlotFits, ElementsFit, PairsFit, FieldsFit, ArgumentsFit, StepsLead, UnariesGive, BinaryGives, BuiltInGives, OneEach}

-- what the parts of an open code fit where the code fits at the type
abbrev pub Parts : Scope → Code-F Slot (Code Slot) → SplType → Type 0
Parts scope (O.Literal v) t = IsTrue (fits t v)
Parts scope (O.Name s) t = SlotFits scope s t
Parts scope (O.List xs) t = (u : SplType) × ElementsFit scope xs u
Parts scope (O.Map xs) t = (k : SplType) × (u : SplType) × PairsFit scope xs k u
Parts scope (O.Tuple fs) t = (schema : List (Named SplType)) × FieldsFit scope fs schema × OneEach (length schema) fs × (t ≡ S.Tuple schema)
Parts scope (O.Select x steps) t = (u : SplType) × CodeFits scope x u × StepsLead scope steps u t
Parts scope (O.Unary ops x) t = (u : SplType) × CodeFits scope x u × UnariesGive ops u t
Parts scope (O.Binary op x y) t = (u : SplType) × (r : SplType) × CodeFits scope x u × CodeFits scope y r × BinaryGives op u r t
Parts scope (O.Conditional c x y) t = CodeFits scope c S.Bool × CodeFits scope x t × CodeFits scope y t
Parts scope (O.BuiltIn call xs) t = (ts : List SplType) × ArgumentsFit scope xs ts × BuiltInGives call ts t
Parts scope (O.Call i xs) t = (f : Signature) × (slice_get scope.functions i ≡ Some f) × (f.result ≡ Some t) × ArgumentsFit scope xs f.parameters
Parts scope (O.IsMarker m) t = IsTrue scope.punct
Parts scope (O.IsNotMarker m) t = IsTrue scope.punct

module _ (scope : Scope) where
  of_open : (x : Code Slot) (y : Code-F Slot (Code Slot)) (t : SplType) → out-Code Slot x ≡ y → Parts scope y t → Parts scope (out-Code Slot x) t
  of_open x y t e h = subst (λ y. Parts scope y t) (sym e) h

  pub parts : (x : Code Slot) (t : SplType) → CodeFits scope x t → Parts scope (out-Code Slot x) t
  parts _ _ (F.literal v t h) = of_open (C.Literal v) (O.Literal v) t (C.outs-Literal v) h
  parts _ _ (F.name s t h) = of_open (C.Name s) (O.Name s) t (C.outs-Name s) h
  parts _ _ (F.list xs t h) = of_open (C.List xs) (O.List xs) (S.List t) (C.outs-List xs) (t, h)
  parts _ _ (F.map xs k t h) = of_open (C.Map xs) (O.Map xs) (S.Map k t) (C.outs-Map xs) (k, t, h)
  parts _ _ (F.tuple fs schema h each) = of_open (C.Tuple fs) (O.Tuple fs) (S.Tuple schema) (C.outs-Tuple fs) (schema, h, each, λ i. S.Tuple schema)
  parts _ _ (F.select x steps t u f h) = of_open (C.Select x steps) (O.Select x steps) u (C.outs-Select x steps) (t, f, h)
  parts _ _ (F.unary ops x t u f gives) = of_open (C.Unary ops x) (O.Unary ops x) u (C.outs-Unary ops x) (t, f, gives)
  parts _ _ (F.binary op x y t u r f h gives) = of_open (C.Binary op x y) (O.Binary op x y) r (C.outs-Binary op x y) (t, u, f, h, gives)
  parts _ _ (F.conditional c x y t f h i) = of_open (C.Conditional c x y) (O.Conditional c x y) t (C.outs-Conditional c x y) (f, h, i)
  parts _ _ (F.built_in call xs ts t h gives) = of_open (C.BuiltIn call xs) (O.BuiltIn call xs) t (C.outs-BuiltIn call xs) (ts, h, gives)
  parts _ _ (F.call i xs f t at result h) = of_open (C.Call i xs) (O.Call i xs) t (C.outs-Call i xs) (f, at, result, h)
  parts _ _ (F.is_marker m h) = of_open (C.IsMarker m) (O.IsMarker m) S.Bool (C.outs-IsMarker m) h
  parts _ _ (F.is_not_marker m h) = of_open (C.IsNotMarker m) (O.IsNotMarker m) S.Bool (C.outs-IsNotMarker m) h
