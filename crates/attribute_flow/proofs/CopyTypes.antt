-- A copy has the type of the attribute of which it is one.
use Rattle.std.specs.Prelude.{◌≡◌, ◌==◌, ℕ, zero, suc, Bool, true, false, if◌then◌else◌, List, [], ◌∷◌, ◌++◌, length, map, Option, None, Some, slice_get}
use Rattle.std.specs.List.{AllByRecursion, list_any}
use Rattle.std.specs.Option.{option_and_then, unwrap_or}
use Rattle.std.proofs.Common.{refl, sym, ap, subst, ◌∙◌, append-nil, arith}
use Rattle.std.proofs.lemmas.Bool.{eqb-true}
use Rattle.std.proofs.lemmas.List.{length-map}
use Rattle.spl_value.specs.declared.types.Named.{Named}
use Rattle.spl_value.specs.declared.types.SplType.{SplType}
use Rattle.spl_value.specs.declared.types.SplType.TheVariants as S
use Rattle.spl_value.proofs.TypesLaws.{rows_equal}
use Rattle.spl_value.proofs.Results.{some_same}
use Rattle.spl_tree.specs.declared.body.Statement.{Statement}
use Rattle.spl_tree.specs.declared.code.Code.{Code}
use Rattle.spl_tree.specs.declared.code.Code.TheVariants as V
use Rattle.spl_tree.specs.declared.code.Code.TheOpen as C
use Rattle.spl_tree.specs.declared.code.Code.TheOpen.{Code-F}
use Rattle.spl_tree.specs.declared.code.Code.TheViews.{out-Code}
use Rattle.spl_tree.specs.declared.code.Slot.{Slot}
use Rattle.spl_tree.specs.declared.graph.OpKind.{OpKind}
use Rattle.language_model.specs.declared.checked.CheckedClauses.{CheckedClauses}
use Rattle.language_model.specs.declared.checked.CollectedAttribute.{CollectedAttribute}
use Rattle.language_model.specs.declared.checked.Collector.{Collector}
use Rattle.language_model.specs.declared.checked.Handlers.{Handlers}
use Rattle.language_model.specs.declared.scope.Port.{Port}
use Rattle.language_model.specs.declared.scope.Scope.{Scope}
use Rattle.language_model.specs.BodyFits as B
use Rattle.language_model.specs.BodyFits.{ArmsFit, OfHandler, RowFits, StatementFits, with_variable}
use Rattle.language_model.specs.CodeFits as F
use Rattle.language_model.specs.CodeFits.{CodeFits, FieldsFit, SlotFits}
use Rattle.language_model.specs.Keeping as K
use Rattle.language_model.specs.Keeping.{CollectorFits, HandlersFit, PartFits, PlacesFit, tuple_scope}
use Rattle.language_model.specs.StreamTypes.{Attributes}
use Rattle.stream_model.specs.Copies.{aggregate_source, agreed, attribute_alone, code_at, kept_source, level_attribute, level_source, picks, source_of, submits_in, submits_of, tuple_source}
use Rattle.stream_model.specs.Stream.{is_empty}
use Rattle.attribute_flow.specs.CopyLaws.{CopyTypesLaw}
use Rattle.attribute_flow.specs.steps.Agreements.{arms_submits, statement_submits}
use Rattle.attribute_flow.proofs.CodeForms.{literal_source, name_alone, name_source}
use Rattle.attribute_flow.proofs.CodeValues.{then_some}
use Rattle.attribute_flow.proofs.SubmitForms.{block_is, break_is, call_is, change_is, continue_is, declare_is, evaluate_is, for_is, if_is, return_is, submit_is, submit_window_is, while_is}

-- an attribute of a schema with this place and type
abbrev pub HasType : Attributes → ℕ → SplType → Type 0
HasType schema b t = (y : Named SplType) × (slice_get schema b ≡ Some y) × (y.kind ≡ t)

-- the first port of a scope has one
abbrev OfFirst : Scope → ℕ → SplType → Type 0
OfFirst scope b t = (p : Port) × (slice_get scope.ports 0 ≡ Some p) × HasType p.schema b t

none_some : {A : Type 0} (o : Option ℕ) (b : ℕ) → o ≡ None → o ≡ Some b → A
none_some o b none e = absurd (let no : None ≡ Some b = sym none ∙ e in cc)

-- ---- attributes alone

slot_typed : (scope : Scope) (s : Slot) (t : SplType) (b : ℕ) → level_attribute {A = Code Slot} (C.Name s) ≡ Some b → SlotFits scope s t → OfFirst scope b t
slot_typed scope _ _ b h (F.variable i v there own) = absurd cc
slot_typed scope _ _ b h (F.attribute zero j p a there has own named) = (p, there, (a, ap (slice_get p.schema) (sym (some_same j b h)) ∙ has, refl))
slot_typed scope _ _ b h (F.attribute (suc i) j p a there has own named) = absurd cc
slot_typed scope _ _ b h (F.port i p there own) = absurd cc

not_alone : {A : Type 0} (b : ℕ) (code : Code Slot) (form : Code-F Slot (Code Slot)) → out-Code Slot code ≡ form → level_attribute form ≡ None → attribute_alone code ≡ Some b → A
not_alone b code form is none e = none_some (attribute_alone code) b (ap level_attribute is ∙ none) e

alone_typed : (scope : Scope) (code : Code Slot) (t : SplType) (b : ℕ) → attribute_alone code ≡ Some b → CodeFits scope code t → OfFirst scope b t
alone_typed scope _ _ b h (F.name s t fit) = slot_typed scope s t b (sym (name_alone s) ∙ h) fit
alone_typed scope _ _ b h (F.literal v t f) = not_alone b (V.Literal v) (C.Literal v) (V.outs-Literal v) refl h
alone_typed scope _ _ b h (F.list xs t f) = not_alone b (V.List xs) (C.List xs) (V.outs-List xs) refl h
alone_typed scope _ _ b h (F.map xs k t f) = not_alone b (V.Map xs) (C.Map xs) (V.outs-Map xs) refl h
alone_typed scope _ _ b h (F.tuple fs schema f each) = not_alone b (V.Tuple fs) (C.Tuple fs) (V.outs-Tuple fs) refl h
alone_typed scope _ _ b h (F.select x steps t u f g) = not_alone b (V.Select x steps) (C.Select x steps) (V.outs-Select x steps) refl h
alone_typed scope _ _ b h (F.unary ops x t u f g) = not_alone b (V.Unary ops x) (C.Unary ops x) (V.outs-Unary ops x) refl h
alone_typed scope _ _ b h (F.binary op x y t u r f g i) = not_alone b (V.Binary op x y) (C.Binary op x y) (V.outs-Binary op x y) refl h
alone_typed scope _ _ b h (F.conditional c x y t f g i) = not_alone b (V.Conditional c x y) (C.Conditional c x y) (V.outs-Conditional c x y) refl h
alone_typed scope _ _ b h (F.built_in call xs ts t f g) = not_alone b (V.BuiltIn call xs) (C.BuiltIn call xs) (V.outs-BuiltIn call xs) refl h
alone_typed scope _ _ b h (F.call i xs g t there result f) = not_alone b (V.Call i xs) (C.Call i xs) (V.outs-Call i xs) refl h
alone_typed scope _ _ b h (F.is_marker m f) = not_alone b (V.IsMarker m) (C.IsMarker m) (V.outs-IsMarker m) refl h
alone_typed scope _ _ b h (F.is_not_marker m f) = not_alone b (V.IsNotMarker m) (C.IsNotMarker m) (V.outs-IsNotMarker m) refl h

-- ---- tuples

-- a field that is an attribute alone
field_typed : (scope : Scope) (fs : List (ℕ × Code Slot)) (schema : Attributes) (a b : ℕ) (x : Named SplType) → FieldsFit scope fs schema
    → slice_get schema a ≡ Some x → option_and_then attribute_alone (code_at a fs) ≡ Some b → OfFirst scope b x.kind
field_typed scope _ schema a b x (F.no_fields s) there e = absurd cc
field_typed scope _ _ a b x (F.field i code fs schema y has fit rest) there e = go (i == a) refl e (field_typed scope fs schema a b x rest there) where
  go : (c : Bool) → (i == a) ≡ c → option_and_then attribute_alone (if c then Some code else code_at a fs) ≡ Some b
      → (option_and_then attribute_alone (code_at a fs) ≡ Some b → OfFirst scope b x.kind) → OfFirst scope b x.kind
  go true q e rest =
      let same : y ≡ x = some_same y x (sym has ∙ ap (slice_get schema) (eqb-true i a q) ∙ there) in
      subst (λ (z : Named SplType). OfFirst scope b z.kind) same (alone_typed scope code y.kind b e fit)
  go false q e rest = rest e

slot_source : (scope : Scope) (s : Slot) (t : SplType) (schema : Attributes) (a b : ℕ) (x : Named SplType) → t ≡ S.Tuple schema → slice_get schema a ≡ Some x
    → level_source a (C.Name s) ≡ Some b → SlotFits scope s t → OfFirst scope b x.kind
slot_source scope _ _ schema a b x is there h (F.variable i v e own) = absurd cc
slot_source scope _ _ schema a b x is there h (F.attribute i j p y e has own named) = absurd cc
slot_source scope _ _ schema a b x is there h (F.port zero p e own) =
    (p, e, (x, ap (λ (s : Attributes). slice_get s b) (rows_equal p.schema schema is) ∙ ap (slice_get schema) (sym (some_same a b h)) ∙ there, refl))
slot_source scope _ _ schema a b x is there h (F.port (suc i) p e own) = absurd cc

no_tuple : {A : Type 0} (a b : ℕ) (code : Code Slot) (form : Code-F Slot (Code Slot)) → out-Code Slot code ≡ form → level_source a form ≡ None → tuple_source a code ≡ Some b → A
no_tuple a b code form is none e = none_some (tuple_source a code) b (ap (level_source a) is ∙ none) e

-- an attribute of a tuple that an expression gives
tuple_typed : (scope : Scope) (code : Code Slot) (t : SplType) (schema : Attributes) (a b : ℕ) (x : Named SplType) → t ≡ S.Tuple schema → slice_get schema a ≡ Some x
    → tuple_source a code ≡ Some b → CodeFits scope code t → OfFirst scope b x.kind
tuple_typed scope _ _ schema a b x is there h (F.name s t fit) = slot_source scope s t schema a b x is there (sym (name_source a s) ∙ h) fit
tuple_typed scope _ _ schema a b x is there h (F.tuple fs own f each) =
    field_typed scope fs own a b x f (ap (λ (s : Attributes). slice_get s a) (rows_equal own schema is) ∙ there) (sym (literal_source a fs) ∙ h)
tuple_typed scope _ _ schema a b x is there h (F.literal v t f) = no_tuple a b (V.Literal v) (C.Literal v) (V.outs-Literal v) refl h
tuple_typed scope _ _ schema a b x is there h (F.list xs t f) = no_tuple a b (V.List xs) (C.List xs) (V.outs-List xs) refl h
tuple_typed scope _ _ schema a b x is there h (F.map xs k t f) = no_tuple a b (V.Map xs) (C.Map xs) (V.outs-Map xs) refl h
tuple_typed scope _ _ schema a b x is there h (F.select y steps t u f g) = no_tuple a b (V.Select y steps) (C.Select y steps) (V.outs-Select y steps) refl h
tuple_typed scope _ _ schema a b x is there h (F.unary ops y t u f g) = no_tuple a b (V.Unary ops y) (C.Unary ops y) (V.outs-Unary ops y) refl h
tuple_typed scope _ _ schema a b x is there h (F.binary op y z t u r f g i) = no_tuple a b (V.Binary op y z) (C.Binary op y z) (V.outs-Binary op y z) refl h
tuple_typed scope _ _ schema a b x is there h (F.conditional c y z t f g i) = no_tuple a b (V.Conditional c y z) (C.Conditional c y z) (V.outs-Conditional c y z) refl h
tuple_typed scope _ _ schema a b x is there h (F.built_in call xs ts t f g) = no_tuple a b (V.BuiltIn call xs) (C.BuiltIn call xs) (V.outs-BuiltIn call xs) refl h
tuple_typed scope _ _ schema a b x is there h (F.call i xs g t e result f) = no_tuple a b (V.Call i xs) (C.Call i xs) (V.outs-Call i xs) refl h
tuple_typed scope _ _ schema a b x is there h (F.is_marker m f) = no_tuple a b (V.IsMarker m) (C.IsMarker m) (V.outs-IsMarker m) refl h
tuple_typed scope _ _ schema a b x is there h (F.is_not_marker m f) = no_tuple a b (V.IsNotMarker m) (C.IsNotMarker m) (V.outs-IsNotMarker m) refl h

-- ---- submits

module _ (port : Port) (schema : Attributes) where
  -- the expression gives tuples with these attributes, and sees the tuple of this port
  abbrev Submits : Code Slot → Type 0
  Submits code = (scope : Scope) × (scope.ports ≡ port ∷ []) × CodeFits scope code (S.Tuple schema)

  abbrev All : List (Code Slot) → Type 0
  All codes = AllByRecursion Submits codes

  all_append : (xs ys : List (Code Slot)) → All xs → All ys → All (xs ++ ys)
  all_append [] ys f g = g
  all_append (x ∷ xs) ys f g = (f.0, all_append xs ys f.1 g)

  only_port : (n : ℕ) (own : Attributes) → slice_get (schema ∷ []) n ≡ Some own → own ≡ schema
  only_port zero own e = sym (some_same schema own e)
  only_port (suc n) own e = absurd cc

  mutual
    statement_submits_all : (l : Bool) (scope next : Scope) (x : Statement) → StatementFits (OfHandler (schema ∷ [])) l scope x next → scope.ports ≡ port ∷ []
        → (next.ports ≡ port ∷ []) × All (statement_submits x)
    statement_submits_all _ _ _ _ (B.block l scope row h) one = (one, subst All (sym (block_is row)) (row_submits l scope row h one))
    statement_submits_all _ _ _ _ (B.declare l scope x v f) one = (one, subst All (sym (declare_is x)) tt)
    statement_submits_all _ _ _ _ (B.change l scope place change t p f) one = (one, subst All (sym (change_is place change)) tt)
    statement_submits_all _ _ _ _ (B.evaluate l scope call xs t f) one = (one, subst All (sym (evaluate_is (V.BuiltIn call xs))) tt)
    statement_submits_all _ _ _ _ (B.call l scope j xs f there args) one = (one, subst All (sym (call_is j xs)) tt)
    statement_submits_all _ _ _ _ (B.if_else l scope arms other h k) one =
        (one, subst All (sym (if_is arms other)) (all_append (arms_submits arms) (submits_of other) (arms_submit l scope arms h one) (row_submits l scope other k one)))
    statement_submits_all _ _ _ _ (B.while l scope x row f h) one = (one, subst All (sym (while_is x row)) (row_submits true scope row h one))
    statement_submits_all _ _ _ _ (B.for_each l scope x row t v f over fixed h) one = (one, subst All (sym (for_is x row)) (row_submits true (with_variable scope v) row h one))
    statement_submits_all _ _ _ _ (B.break scope) one = (one, subst All (sym break_is) tt)
    statement_submits_all _ _ _ _ (B.continue scope) one = (one, subst All (sym continue_is) tt)
    statement_submits_all _ _ _ _ (B.return l scope x f) one = (one, subst All (sym (return_is x)) tt)
    statement_submits_all _ _ _ _ (B.submit l scope n x own there f) one =
        (one, subst All (sym (submit_is n x)) ((scope, one, subst (λ (s : Attributes). CodeFits scope x (S.Tuple s)) (only_port n own there) f), tt))
    statement_submits_all _ _ _ _ (B.submit_window l scope n own there) one = (one, subst All (sym (submit_window_is n)) tt)

    row_submits : (l : Bool) (scope : Scope) (row : List Statement) → RowFits (OfHandler (schema ∷ [])) l scope row → scope.ports ≡ port ∷ [] → All (submits_of row)
    row_submits _ _ _ (B.no_statements l scope) one = tt
    row_submits _ _ _ (B.statement l scope next x row h k) one =
        let first = statement_submits_all l scope next x h one in
        all_append (statement_submits x) (submits_of row) first.1 (row_submits l next row k first.0)

    arms_submit : (l : Bool) (scope : Scope) (arms : List (Code Slot × List Statement)) → ArmsFit (OfHandler (schema ∷ [])) l scope arms → scope.ports ≡ port ∷ [] → All (arms_submits arms)
    arms_submit _ _ _ (B.no_arms l scope) one = tt
    arms_submit _ _ _ (B.arm l scope x row arms f h k) one = all_append (submits_of row) (arms_submits arms) (row_submits l scope row h one) (arms_submit l scope arms k one)

-- the source that all have is that of the first
first_source : (a b : ℕ) (code : Code Slot) (codes : List (Code Slot)) → agreed a (code ∷ codes) ≡ Some b → tuple_source a code ≡ Some b
first_source a b code [] e = e
first_source a b code (next ∷ codes) e =
    let first = then_some (tuple_source a code) _ b e in
    let other = then_some (agreed a (next ∷ codes)) _ b first.2 in
    first.1 ∙ ap Some (same (other.0 == first.0) first.0 other.2)
  where
    same : (c : Bool) (d : ℕ) → (if c then Some d else None) ≡ Some b → d ≡ b
    same true d e = some_same d b e
    same false d e = absurd cc

-- ---- operators

-- what the first port of the operator's scope has, its first input has
abbrev Schemas : Scope → List Attributes
Schemas scope = map (λ (p : Port). p.schema) scope.ports

first_port : (ports : List Port) (p : Port) → slice_get ports 0 ≡ Some p → unwrap_or (slice_get (map (λ (p : Port). p.schema) ports) 0) [] ≡ p.schema
first_port [] p e = absurd cc
first_port (q ∷ ports) p e = ap (λ (p : Port). p.schema) (some_same q p e)

of_input : (scope : Scope) (ins : List Attributes) (b : ℕ) (t : SplType) → Schemas scope ≡ ins → OfFirst scope b t → HasType (unwrap_or (slice_get ins 0) []) b t
of_input scope ins b t names f =
    (f.2.0, ap (λ (s : Attributes). slice_get s b) (ap (λ (schemas : List Attributes). unwrap_or (slice_get schemas 0) []) (sym names) ∙ first_port scope.ports f.0 f.1) ∙ f.2.1, f.2.2)

kept_alone : (scope : Scope) (partition : List ℕ) (code : Code Slot) (t : SplType) (b : ℕ) → CodeFits scope code t
    → option_and_then (λ b. if list_any (λ p. p == b) partition then Some b else None) (attribute_alone code) ≡ Some b → OfFirst scope b t
kept_alone scope partition code t b f h =
    let first = then_some (attribute_alone code) _ b h in
    alone_typed scope code t b (first.1 ∙ ap Some (same (list_any (λ p. p == first.0) partition) first.0 first.2)) f
  where
    same : (c : Bool) (d : ℕ) → (if c then Some d else None) ≡ Some b → d ≡ b
    same true d e = some_same d b e
    same false d e = absurd cc

kept_typed : (scope : Scope) (partition : List ℕ) (c : Collector) (argument : Option (Code Slot)) (t : SplType) (b : ℕ) → CollectorFits scope c argument t
    → (if picks c then option_and_then (λ b. if list_any (λ p. p == b) partition then Some b else None) (option_and_then attribute_alone argument) else None) ≡ Some b
    → OfFirst scope b t
kept_typed scope partition _ _ _ b (K.first code t f) h = kept_alone scope partition code t b f h
kept_typed scope partition _ _ _ b (K.last code t f) h = kept_alone scope partition code t b f h
kept_typed scope partition _ _ _ b (K.sum kind code f) h = absurd cc
kept_typed scope partition _ _ _ b (K.least_integer kind code f) h = absurd cc
kept_typed scope partition _ _ _ b (K.least_text code f) h = absurd cc
kept_typed scope partition _ _ _ b (K.greatest_integer kind code f) h = absurd cc
kept_typed scope partition _ _ _ b (K.greatest_text code f) h = absurd cc
kept_typed scope partition _ _ _ b K.count h = absurd cc

group_typed : (scope : Scope) (partition : List ℕ) (schema : Attributes) (a b : ℕ) (x : Named SplType) (output : List CollectedAttribute)
    → ((k : ℕ) (o : CollectedAttribute) → slice_get output k ≡ Some o → (y : Named SplType) × (slice_get schema o.attribute ≡ Some y) × CollectorFits scope o.collector o.argument y.kind)
    → slice_get schema a ≡ Some x → aggregate_source partition output a ≡ Some b → OfFirst scope b x.kind
group_typed scope partition schema a b x [] fit there h = absurd cc
group_typed scope partition schema a b x (o ∷ output) fit there h =
    go (o.attribute == a) refl h (group_typed scope partition schema a b x output (λ k. fit (suc k)) there)
  where
    go : (c : Bool) → (o.attribute == a) ≡ c → (if c then kept_source partition o else aggregate_source partition output a) ≡ Some b
        → (aggregate_source partition output a ≡ Some b → OfFirst scope b x.kind) → OfFirst scope b x.kind
    go true q h rest =
        let own = fit 0 o refl in
        let same : own.0 ≡ x = some_same own.0 x (sym own.1 ∙ ap (slice_get schema) (eqb-true o.attribute a q) ∙ there) in
        subst (λ (z : Named SplType). OfFirst scope b z.kind) same (kept_typed scope partition o.collector o.argument own.0.kind b own.2 h)
    go false q h rest = rest h

-- ---- Customs

submits_typed : (port : Port) (schema : Attributes) (a b : ℕ) (x : Named SplType) → slice_get schema a ≡ Some x → (codes : List (Code Slot))
    → AllByRecursion (Submits port schema) codes → agreed a codes ≡ Some b → HasType port.schema b x.kind
submits_typed port schema a b x there [] all h = absurd cc
submits_typed port schema a b x there (code ∷ codes) all h =
    let found = tuple_typed all.0.0 code (S.Tuple schema) schema a b x refl there (first_source a b code codes h) all.0.2 in
    let same : port ≡ found.0 = some_same port found.0 (sym (ap (λ (ports : List Port). slice_get ports 0) all.0.1) ∙ found.1) in
    (found.2.0, ap (λ (p : Port). slice_get p.schema b) same ∙ found.2.1, found.2.2)

custom_typed : (scope : Scope) (handlers : Handlers) (schema : Attributes) (a b : ℕ) (x : Named SplType) (ports : List Port) (bodies : List (Option (List Statement)))
    → HandlersFit scope (schema ∷ []) handlers → scope.ports ≡ ports → handlers.on_tuple ≡ bodies → length ports ≡ 1 → slice_get schema a ≡ Some x
    → agreed a (submits_in bodies) ≡ Some b → HasType (unwrap_or (slice_get (map (λ (p : Port). p.schema) ports) 0) []) b x.kind
custom_typed scope handlers schema a b x ports [] fit own is one there h = absurd cc
custom_typed scope handlers schema a b x [] (body ∷ bodies) fit own is one there h = absurd (omega arith)
custom_typed scope handlers schema a b x (port ∷ ports) (body ∷ (other ∷ bodies)) fit own is one there h =
    let two : length handlers.on_tuple ≡ suc (suc (length bodies)) = ap length is in
    let tuples : length handlers.on_tuple ≡ length scope.ports = fit.tuples in
    let ports_one : length scope.ports ≡ length (port ∷ ports) = ap length own in
    absurd (omega arith)
custom_typed scope handlers schema a b x (port ∷ ports) (None ∷ []) fit own is one there h = absurd cc
custom_typed scope handlers schema a b x (port ∷ ports) (Some row ∷ []) fit own is one there h =
    submits_typed port schema a b x there (submits_of row)
    (row_submits port schema false (tuple_scope scope handlers.state port) row
    (fit.on_tuple 0 port row (ap (λ (ps : List Port). slice_get ps 0) own) (ap (λ (bodies : List (Option (List Statement))). slice_get bodies 0) is)) refl)
    (ap (agreed a) (sym (append-nil (submits_of row))) ∙ h)

-- ---- all of them

part_typed : (scope : Scope) (kind : OpKind) (ins outs : List Attributes) (part : CheckedClauses) (a b : ℕ) (x : Named SplType) → PartFits scope kind ins outs part
    → Schemas scope ≡ ins → length ins ≡ 1 → length outs ≡ 1 → source_of part a ≡ Some b → slice_get (unwrap_or (slice_get outs 0) []) a ≡ Some x
    → HasType (unwrap_or (slice_get ins 0) []) b x.kind
part_typed scope _ _ _ _ a b x (K.file_source file strict schema f g) names one out h there = absurd cc
part_typed scope _ _ _ _ a b x (K.file_sink file schema f g) names one out h there = absurd cc
part_typed scope _ _ _ _ a b x (K.filter condition schema f) names one out h there = (x, ap (slice_get schema) (sym (some_same a b h)) ∙ there, refl)
part_typed scope _ _ _ _ a b x (K.functor condition fields input schema f g each) names one out h there =
    of_input scope (input ∷ []) b x.kind names (field_typed scope fields schema a b x g there (sym (literal_source a fields) ∙ h))
part_typed scope _ _ _ _ a b x (K.punctor condition position schema f) names one out h there = (x, ap (slice_get schema) (sym (some_same a b h)) ∙ there, refl)
part_typed scope _ _ _ _ a b x (K.split index kind schema [] f alike) names one out h there = absurd cc
part_typed scope _ _ _ _ a b x (K.split index kind schema (own ∷ outs) f alike) names one out h there =
    (x, ap (λ (s : Attributes). slice_get s b) (sym (alike 0 own refl)) ∙ ap (slice_get own) (sym (some_same a b h)) ∙ there, refl)
part_typed scope _ _ _ _ a b x (K.union places [] schema count fit) names one out h there = absurd (omega arith)
part_typed scope _ _ _ _ a b x (K.union places (input ∷ ins) schema count fit) names one out h there =
    let first = then_some (slice_get places 0) (λ ps. slice_get ps a) b h in
    let same = (fit 0 input first.0 refl first.1).same a b x first.2 there in
    (same.0, same.1, same.3)
part_typed scope _ _ _ _ a b x (K.custom handlers ins [] fit) names one out h there = absurd cc
part_typed scope _ _ _ _ a b x (K.custom handlers ins (schema ∷ []) fit) names one out h there =
    subst (λ (schemas : List Attributes). HasType (unwrap_or (slice_get schemas 0) []) b x.kind) names
    (custom_typed scope handlers schema a b x scope.ports handlers.on_tuple fit refl refl single there (bodies (is_empty (submits_in handlers.on_punct)) h))
  where
    single : length scope.ports ≡ 1
    single =
        let same : length (Schemas scope) ≡ length ins = ap length names in
        let count : length (Schemas scope) ≡ length scope.ports = length-map scope.ports (λ (p : Port). p.schema) in
        omega arith

    bodies : (c : Bool) → (if c then agreed a (submits_in handlers.on_tuple) else None) ≡ Some b → agreed a (submits_in handlers.on_tuple) ≡ Some b
    bodies true e = e
    bodies false e = absurd cc
part_typed scope _ _ _ _ a b x (K.custom handlers ins (schema ∷ (other ∷ outs)) fit) names one out h there = absurd (omega arith)
part_typed scope _ _ _ _ a b x (K.aggregate window partition group output input schema f keys partitioned groups fit) names one out h there =
    of_input scope (input ∷ []) b x.kind names (group_typed scope partition schema a b x output fit.fit there h)
part_typed scope _ _ _ _ a b x (K.join left right condition fields first second schema f g i j k l m) names one out h there = absurd cc

pub copy_types : CopyTypesLaw
copy_types op a b x t fit one writes source there =
    part_typed fit.scope fit.kind op.types.ins op.types.outs op.clauses a b x fit.clauses fit.names.ports
    (sym fit.ins ∙ ap length one.1) (sym fit.outs ∙ ap length writes) source there
