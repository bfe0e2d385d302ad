-- Where no name is declared twice, a composite has one stream of a name, or one input, and not both.
use Rattle.std.specs.Prelude.{◌≡◌, ◌+◌, ◌&&◌, ◌||◌, ◌<◌, ◌≤◌, not, ℕ, zero, suc, Bool, true, false, List, [], ◌∷◌, ◌++◌, map, flat_map, length, Some, None, slice_get, if◌then◌else◌}
use Rattle.std.specs.List.{list_any}
use Rattle.std.specs.Option.{option_map, option_to_list}
use Rattle.std.specs.Str.{bytes_eq}
use Rattle.std.proofs.Common.{refl, sym, ap, ◌∙◌, arith, inl, inr}
use Rattle.std.proofs.lemmas.Bool.{cases_lt}
use Rattle.std.proofs.lemmas.Option.{slice_get_within, slice_get-map}
use Rattle.spl_tree.specs.declared.unit.Composite.{Composite}
use Rattle.spl_tree.specs.declared.unit.Definition.{Definition}
use Rattle.spl_tree.specs.declared.unit.Definition.TheVariants as D
use Rattle.spl_tree.specs.declared.unit.HeadPort.{HeadPort}
use Rattle.spl_tree.specs.declared.unit.Invocation.{Invocation}
use Rattle.spl_tree.specs.declared.unit.OutputStream.{OutputStream}
use Rattle.language_model.specs.Composites.{composites}
use Rattle.language_model.specs.Declarations.{Name, is_same, repeated_after, repeated, Declared, OutputPort, InputPort, MadeStream, Alias, declared_name, may_share, stand_before, graph_names, repeated_in_definition, declared_twice}
use Rattle.language_model.specs.parts.Declarations.{is_declared, head_names, invocation_names, repeated_in_composite, repeated_definitions}
use Rattle.language_model.proofs.parts.Declarations.{repeated_in_unit}
use Rattle.graph_laws.proofs.Flattening.{behind}
use Rattle.spl_value.proofs.Lists.{append_front, same_name}
use Rattle.expansion_laws.specs.Standing.{MakesAs}
use Rattle.expansion_laws.proofs.Heads.{first_none, parts_nil}

-- ---- what isn't repeated

-- the name of one is that of another, where they may not share it
abbrev Clash : Declared → Declared → Bool
Clash e d = is_same (declared_name e) (declared_name d) && not (may_share e d)

none_any : {A : Type 0} (p : A → Bool) (xs : List A) (k : ℕ) (x : A) → list_any p xs ≡ false → slice_get xs k ≡ Some x → p x ≡ false
none_any p [] k x e at = absurd cc
none_any p (y ∷ ys) zero x e at = let same : y ≡ x = cc in ap p (sym same) ∙ first (p y) (list_any p ys) e
  where
    first : (a b : Bool) → a || b ≡ false → a ≡ false
    first true b e = absurd cc
    first false b e = refl
none_any p (y ∷ ys) (suc k) x e at = none_any p ys k x (later (p y) (list_any p ys) e) at
  where
    later : (a b : Bool) → a || b ≡ false → b ≡ false
    later true b e = absurd cc
    later false b e = e

not_repeated : (t : Bool) (x : Declared) (rest : List Declared) → (if t then x ∷ [] else []) ++ rest ≡ [] → (t ≡ false) × (rest ≡ [])
not_repeated true x rest e = absurd cc
not_repeated false x rest e = (refl, e)

with_old : (before xs : List Declared) → repeated_after is_declared before xs ≡ [] → (b k : ℕ) (e d : Declared) → slice_get before b ≡ Some e → slice_get xs k ≡ Some d → Clash e d ≡ false
with_old before [] none b k e d at there = absurd cc
with_old before (x ∷ xs) none b zero e d at there =
    let same : x ≡ d = cc in
    let own = not_repeated (is_declared before x) x (repeated_after is_declared (x ∷ before) xs) none in
    ap (Clash e) (sym same) ∙ none_any (λ e. Clash e x) before b e own.0 at
with_old before (x ∷ xs) none b (suc k) e d at there =
    let own = not_repeated (is_declared before x) x (repeated_after is_declared (x ∷ before) xs) none in
    with_old (x ∷ before) xs own.1 (suc b) k e d at there

no_clash : (before xs : List Declared) → repeated_after is_declared before xs ≡ [] → (j k : ℕ) (e d : Declared) → j < k → slice_get xs j ≡ Some e → slice_get xs k ≡ Some d → Clash e d ≡ false
no_clash before [] none j k e d lt at there = absurd cc
no_clash before (x ∷ xs) none j zero e d lt at there = absurd (omega arith)
no_clash before (x ∷ xs) none zero (suc k) e d lt at there =
    let own = not_repeated (is_declared before x) x (repeated_after is_declared (x ∷ before) xs) none in
    with_old (x ∷ before) xs own.1 0 k e d at there
no_clash before (x ∷ xs) none (suc j) (suc k) e d lt at there =
    let own = not_repeated (is_declared before x) x (repeated_after is_declared (x ∷ before) xs) none in
    no_clash (x ∷ before) xs own.1 j k e d (omega arith) at there

map_nil : {A B : Type 0} (f : A → B) (xs : List A) → map f xs ≡ [] → xs ≡ []
map_nil f [] e = refl
map_nil f (x ∷ xs) e = absurd cc

of_composite : (c : Composite) → repeated_in_composite c ≡ [] → repeated is_declared (graph_names c) ≡ []
of_composite c e = map_nil declared_name (repeated is_declared (graph_names c)) (parts_nil _ _ (parts_nil _ _ e).0).0

in_unit : (unit : List Definition) → flat_map repeated_in_definition unit ≡ [] → (k : ℕ) (c : Composite) → slice_get (composites unit) k ≡ Some c → repeated is_declared (graph_names c) ≡ []
in_unit [] e k c at = absurd cc
in_unit (D.Type t ∷ unit) e k c at = in_unit unit e k c at
in_unit (D.Function f ∷ unit) e k c at = in_unit unit e k c at
in_unit (D.Composite d ∷ unit) e zero c at =
    let same : d ≡ c = cc in
    of_composite c (ap repeated_in_composite (sym same) ∙ (parts_nil (repeated_in_composite d) (flat_map repeated_in_definition unit) e).0)
in_unit (D.Composite d ∷ unit) e (suc k) c at = in_unit unit (parts_nil (repeated_in_composite d) (flat_map repeated_in_definition unit) e).1 k c at

-- none of the streams, aliases and ports of a composite has the name of another one
pub each_once : (unit : List Definition) → declared_twice unit ≡ None → (k : ℕ) (c : Composite) → slice_get (composites unit) k ≡ Some c → repeated is_declared (graph_names c) ≡ []
each_once unit once k c at =
    let all = first_none (repeated_in_unit unit) once in
    in_unit unit (parts_nil (repeated_definitions unit) (flat_map repeated_in_definition unit) (parts_nil _ _ all).0).1 k c at

-- ---- where they stand

offset : {A B : Type 0} → (A → List B) → List A → ℕ → ℕ
offset f xs zero = 0
offset f [] (suc a) = 0
offset f (x ∷ xs) (suc a) = length (f x) + offset f xs a

flat_at : {A B : Type 0} (f : A → List B) (xs : List A) (a b : ℕ) (x : A) (y : B) → slice_get xs a ≡ Some x → slice_get (f x) b ≡ Some y → slice_get (flat_map f xs) (offset f xs a + b) ≡ Some y
unfolding offset
flat_at f [] a b x y at there = absurd cc
flat_at f (z ∷ xs) zero b x y at there =
    let same : z ≡ x = cc in
    let first : 0 + b ≡ b = omega arith in
    ap (slice_get (flat_map f (z ∷ xs))) first ∙ append_front (f z) (flat_map f xs) b y (ap (λ w. slice_get (f w) b) same ∙ there)
flat_at f (z ∷ xs) (suc a) b x y at there =
    behind (f z) (flat_map f xs) (length (f z) + offset f xs a + b) (offset f xs a + b) (omega arith) ∙ flat_at f xs a b x y at there

flat_before : {A B : Type 0} (f : A → List B) (xs : List A) (a b c d : ℕ) (x : A) → a < c → slice_get xs a ≡ Some x → b < length (f x) → c ≤ length xs → offset f xs a + b < offset f xs c + d
unfolding offset
flat_before f [] a b c d x lt at less within = absurd cc
flat_before f (z ∷ xs) a b zero d x lt at less within = absurd (omega arith)
flat_before f (z ∷ xs) zero b (suc c) d x lt at less within =
    let same : x ≡ z = cc in
    let count : length (f x) ≡ length (f z) = ap (λ w. length (f w)) same in
    omega (arith, less, count)
flat_before f (z ∷ xs) (suc a) b (suc c) d x lt at less within =
    let h = flat_before f xs a b c d x (omega arith) at less (omega arith) in
    omega (arith, h)

module _ (c : Composite) (once : repeated is_declared (graph_names c) ≡ []) where
  abbrev stream_at : ℕ → ℕ → ℕ
  stream_at place output = length (head_names c) + (offset invocation_names c.graph place + output)

  named_at : (i : Invocation) (output : ℕ) (o : OutputStream) → slice_get i.outputs output ≡ Some o → slice_get (invocation_names i) output ≡ Some (MadeStream o.name)
  named_at i output o at =
      append_front (map (λ o. MadeStream o.name) i.outputs) (map Alias (option_to_list i.alias)) output (MadeStream o.name)
      (slice_get-map (λ (o : OutputStream). MadeStream o.name) i.outputs output ∙ ap (option_map (λ (o : OutputStream). MadeStream o.name)) at)

  stream_stands : (name : List ℕ) (place output : ℕ) (m : MakesAs c name place output) → slice_get (graph_names c) (stream_at place output) ≡ Some (MadeStream m.stream.name)
  stream_stands name place output m =
      behind (head_names c) (flat_map invocation_names c.graph) (stream_at place output) (offset invocation_names c.graph place + output) (omega arith)
      ∙ flat_at invocation_names c.graph place output m.invocation (MadeStream m.stream.name) m.there (named_at m.invocation output m.stream m.made)

  equal_names : (m n : Name) (name : List ℕ) → m.what ≡ name → n.what ≡ name → is_same m n ≡ true
  equal_names m n name e f = ap (λ w. bytes_eq w n.what) e ∙ ap (bytes_eq name) f ∙ same_name name

  -- two that may not share a name stand at one place
  one_place : (j k : ℕ) (e d : Declared) (name : List ℕ) → may_share e d ≡ false → may_share d e ≡ false → slice_get (graph_names c) j ≡ Some e → slice_get (graph_names c) k ≡ Some d
      → (declared_name e).what ≡ name → (declared_name d).what ≡ name → j ≡ k
  one_place j k e d name share shared at there is_e is_d = elim (cases_lt j k) [
    | inl lt ↦ (
        let clash : is_same (declared_name e) (declared_name d) && not (may_share e d) ≡ true = (λ z. equal_names (declared_name e) (declared_name d) name is_e is_d z && not (share z)) in
        let none : true ≡ false = sym clash ∙ no_clash [] (graph_names c) once j k e d lt at there in
        absurd cc)
    | inr le ↦ elim (cases_lt k j) [
      | inl lt ↦ (
          let clash : is_same (declared_name d) (declared_name e) && not (may_share d e) ≡ true = (λ z. equal_names (declared_name d) (declared_name e) name is_d is_e z && not (shared z)) in
          let none : true ≡ false = sym clash ∙ no_clash [] (graph_names c) once k j d e lt there at in
          absurd cc)
      | inr ge ↦ omega arith
    ]
  ]

  -- ---- streams

  within : (name : List ℕ) (place output : ℕ) (m : MakesAs c name place output) → output < length (invocation_names m.invocation)
  within name place output m = slice_get_within (invocation_names m.invocation) output (MadeStream m.stream.name) (named_at m.invocation output m.stream m.made)

  not_before : (name : List ℕ) (a b a' b' : ℕ) → MakesAs c name a b → MakesAs c name a' b' → a < a' → ⊥
  not_before name a b a' b' m n lt =
      let same = one_place (stream_at a b) (stream_at a' b') (MadeStream m.stream.name) (MadeStream n.stream.name) name refl refl (stream_stands name a b m) (stream_stands name a' b' n) m.named n.named in
      let le = slice_get_within c.graph a' n.invocation n.there in
      let less = flat_before invocation_names c.graph a b a' b' m.invocation lt m.there (within name a b m) (omega arith) in
      omega (arith, same, less)

  pub made_once : (name : List ℕ) (a b a' b' : ℕ) → MakesAs c name a b → MakesAs c name a' b' → (a ≡ a') × (b ≡ b')
  made_once name a b a' b' m n =
      let place : a ≡ a' = elim (cases_lt a a') [
        | inl lt ↦ absurd (not_before name a b a' b' m n lt)
        | inr le ↦ elim (cases_lt a' a) [ inl lt ↦ absurd (not_before name a' b' a b n m lt) | inr ge ↦ omega arith ]
      ] in
      let same = one_place (stream_at a b) (stream_at a' b') (MadeStream m.stream.name) (MadeStream n.stream.name) name refl refl (stream_stands name a b m) (stream_stands name a' b' n) m.named n.named in
      let start : offset invocation_names c.graph a ≡ offset invocation_names c.graph a' = ap (offset invocation_names c.graph) place in
      (place, omega (arith, same, start))

  -- ---- inputs

  input_stands : (k : ℕ) (p : HeadPort) → slice_get c.inputs k ≡ Some p
      → (before : ℕ) × (slice_get (graph_names c) (before + k) ≡ Some (InputPort p.name)) × (before + k < length (head_names c))
      × ((l : ℕ) (q : HeadPort) → slice_get c.inputs l ≡ Some q → slice_get (graph_names c) (before + l) ≡ Some (InputPort q.name))
  input_stands k p at =
      let b = in_head (stand_before c.inputs c.outputs) in (
        b.0,
        append_front (head_names c) (flat_map invocation_names c.graph) (b.0 + k) (InputPort p.name) (b.1 k p at),
        slice_get_within (head_names c) (b.0 + k) (InputPort p.name) (b.1 k p at),
        λ l q there. append_front (head_names c) (flat_map invocation_names c.graph) (b.0 + l) (InputPort q.name) (b.1 l q there),
      )
    where
      abbrev_inputs : (l : ℕ) (q : HeadPort) → slice_get c.inputs l ≡ Some q → slice_get (map (λ p. InputPort p.name) c.inputs) l ≡ Some (InputPort q.name)
      abbrev_inputs l q there = slice_get-map (λ (p : HeadPort). InputPort p.name) c.inputs l ∙ ap (option_map (λ (p : HeadPort). InputPort p.name)) there

      in_head : (t : Bool) → (before : ℕ) × ((l : ℕ) (q : HeadPort) → slice_get c.inputs l ≡ Some q
          → slice_get (if t then map (λ p. InputPort p.name) c.inputs ++ map (λ p. OutputPort p.name) c.outputs else map (λ p. OutputPort p.name) c.outputs ++ map (λ p. InputPort p.name) c.inputs) (before + l) ≡ Some (InputPort q.name))
      in_head true = (
        0,
        λ l q there. (
            let first : 0 + l ≡ l = omega arith in
            ap (slice_get (map (λ p. InputPort p.name) c.inputs ++ map (λ p. OutputPort p.name) c.outputs)) first
            ∙ append_front (map (λ p. InputPort p.name) c.inputs) (map (λ p. OutputPort p.name) c.outputs) l (InputPort q.name) (abbrev_inputs l q there)),
      )
      in_head false = (
        length (map (λ p. OutputPort p.name) c.outputs),
        λ l q there.
            behind (map (λ p. OutputPort p.name) c.outputs) (map (λ p. InputPort p.name) c.inputs) (length (map (λ p. OutputPort p.name) c.outputs) + l) l refl ∙ abbrev_inputs l q there,
      )

  pub input_once : (k l : ℕ) (p q : HeadPort) → slice_get c.inputs k ≡ Some p → slice_get c.inputs l ≡ Some q → p.name.what ≡ q.name.what → k ≡ l
  input_once k l p q at there same =
      let s = input_stands k p at in
      let one = one_place (s.0 + k) (s.0 + l) (InputPort p.name) (InputPort q.name) q.name.what refl refl s.1 (s.3 l q there) same refl in
      omega (arith, one)

  pub not_both : (k : ℕ) (p : HeadPort) (place output : ℕ) → slice_get c.inputs k ≡ Some p → MakesAs c p.name.what place output → ⊥
  not_both k p place output at m =
      let s = input_stands k p at in
      let one = one_place (s.0 + k) (stream_at place output) (InputPort p.name) (MadeStream m.stream.name) p.name.what refl refl s.1 (stream_stands p.name.what place output m) refl m.named in
      let less = s.2 in
      omega (arith, one, less)
