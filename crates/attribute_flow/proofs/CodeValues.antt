-- Codes that copy: the values that they have.
use Rattle.std.specs.Prelude.{◌≡◌, ◌==◌, ℕ, zero, Bool, true, false, if◌then◌else◌, List, [], ◌∷◌, Option, None, Some, slice_get}
use Rattle.std.specs.Option.{option_and_then, option_map}
use Rattle.std.proofs.Common.{refl, sym, ap, ◌∙◌}
use Rattle.spl_value.specs.declared.value.Value.{Value}
use Rattle.spl_value.specs.declared.value.Value.TheVariants as V
use Rattle.spl_value.specs.declared.value.Value.TheViews.{out-Value}
use Rattle.spl_tree.specs.declared.code.Code.{Code}
use Rattle.spl_tree.specs.declared.code.Code.TheOpen as C
use Rattle.spl_tree.specs.declared.code.Code.TheOpen.{Code-F}
use Rattle.spl_tree.specs.declared.code.Code.TheViews.{out-Code}
use Rattle.spl_tree.specs.declared.code.Code.TheFolds.{fold_out-Code, map-Code}
use Rattle.spl_tree.specs.declared.code.Slot.{Slot}
use Rattle.spl_tree.specs.declared.code.Slot.TheVariants as L
use Rattle.language_model.specs.declared.env.Env.{Env}
use Rattle.language_model.specs.Evaluation.{Calls, Meaning, code_value, level_value, field_at, tuple_of, slot_value, world_of}
use Rattle.language_model.specs.EvaluationLaws.{field_values}
use Rattle.language_model.specs.Outcomes.{Outcome, Done, need}
use Rattle.language_model.specs.Statements.{level_tuple}
use Rattle.stream_model.specs.Copies.{attribute_alone, code_at, level_attribute, level_source, tuple_source}
use Rattle.attribute_flow.proofs.TupleFields.{tuple_field}
use Rattle.spl_value.proofs.Results.{some_same}
use Rattle.language_model.proofs.Returning.{done_followed}

-- ---- what led to an answer

pub need_done : {A B : Type 0} (o : Option A) (f : A → Outcome B) (y : B) (left : ℕ) → need o f ≡ Done y left → (x : A) × (o ≡ Some x) × (f x ≡ Done y left)
need_done None f y left e = absurd cc
need_done (Some x) f y left e = (x, refl, e)

pub done_same : {A : Type 0} (x y : A) (t u : ℕ) → Done x t ≡ Done y u → x ≡ y
done_same x y t u e = cc

pub then_some : {A B : Type 0} (o : Option A) (f : A → Option B) (y : B) → option_and_then f o ≡ Some y → (x : A) × (o ≡ Some x) × (f x ≡ Some y)
then_some None f y e = absurd cc
then_some (Some x) f y e = (x, refl, e)

-- ---- codes

module _ (calls : Calls) (env : Env) (vs : List Value) (one : env.inputs ≡ vs ∷ []) where
  abbrev meaning_of : Code-F Slot (Code Slot) → Meaning Slot
  meaning_of form = level_value calls (map-Code Slot (Code Slot) (Meaning Slot) (code_value calls) form)

  -- by the form of a code
  by_form : (code : Code Slot) (turns left : ℕ) (v : Value) → code_value calls code (world_of env) turns ≡ Done v left
      → meaning_of (out-Code Slot code) (world_of env) turns ≡ Done v left
  by_form code turns left v e = sym (ap (λ (m : Meaning Slot). m (world_of env) turns) (fold_out-Code Slot (Meaning Slot) (level_value calls) code)) ∙ e

  attribute_form : (b : ℕ) (form : Code-F Slot (Code Slot)) (turns left : ℕ) (v : Value) → level_attribute form ≡ Some b → meaning_of form (world_of env) turns ≡ Done v left
      → slice_get vs b ≡ Some v
  attribute_form b (C.Name (L.Attribute zero i)) turns left v h e =
      let is = need_done (slot_value env (L.Attribute 0 i)) (λ v. Done v turns) v left e in
      let found : Some v ≡ slot_value env (L.Attribute 0 i) = ap Some (sym (done_same is.0 v turns left is.2)) ∙ sym is.1 in
      sym (found ∙ ap (λ (inputs : List (List Value)). option_and_then (λ vs. slice_get vs i) (slice_get inputs 0)) one ∙ ap (slice_get vs) (some_same i b h))
  attribute_form b form turns left v h e = absurd cc

  -- an attribute alone has the value of the attribute
  pub alone_value : (b : ℕ) (code : Code Slot) (turns left : ℕ) (v : Value) → attribute_alone code ≡ Some b → code_value calls code (world_of env) turns ≡ Done v left
      → slice_get vs b ≡ Some v
  alone_value b code turns left v h e = attribute_form b (out-Code Slot code) turns left v h (by_form code turns left v e)

  -- a field that is one has it too
  field_is : (fs : List (ℕ × Code Slot)) (turns left : ℕ) (gs : List (ℕ × Value)) (a : ℕ) (code : Code Slot) (b : ℕ) → code_at a fs ≡ Some code → attribute_alone code ≡ Some b
      → field_values calls fs (world_of env) turns ≡ Done gs left → (v : Value) × (field_at a gs ≡ Some v) × (slice_get vs b ≡ Some v)
  field_is [] turns left gs a code b at alone e = absurd cc
  field_is (f ∷ fs) turns left gs a code b at alone e =
      let x = done_followed (code_value calls f.1 (world_of env) turns) _ gs left e in
      let y = done_followed (field_values calls fs (world_of env) x.1) _ gs left x.3 in
      let is : (f.0, x.0) ∷ y.0 ≡ gs = done_same _ gs y.1 left y.3 in
      let found = by_case x.0 x.1 y.0 x.2 (λ at. field_is fs x.1 y.1 y.0 a code b at alone y.2) (f.0 == a) at in
      (found.0, ap (field_at a) (sym is) ∙ found.1, found.2)
    where
      by_case : (v : Value) (t : ℕ) (rest : List (ℕ × Value)) → code_value calls f.1 (world_of env) turns ≡ Done v t
          → (code_at a fs ≡ Some code → (v : Value) × (field_at a rest ≡ Some v) × (slice_get vs b ≡ Some v)) → (x : Bool)
          → (if x then Some f.1 else code_at a fs) ≡ Some code → (u : Value) × ((if x then Some v else field_at a rest) ≡ Some u) × (slice_get vs b ≡ Some u)
      by_case v t rest is further true h = (v, refl, alone_value b f.1 turns t v (ap attribute_alone (some_same f.1 code h) ∙ alone) is)
      by_case v t rest is further false h = further h

  source_form : (a b : ℕ) (form : Code-F Slot (Code Slot)) (turns left : ℕ) (v : Value) (us : List Value) → level_source a form ≡ Some b
      → meaning_of form (world_of env) turns ≡ Done v left → level_tuple (out-Value v) ≡ Some us → slice_get us a ≡ slice_get vs b
  source_form a b (C.Name (L.Port zero)) turns left v us h e u =
      let is = need_done (slot_value env (L.Port 0)) (λ v. Done v turns) v left e in
      let found : Some v ≡ Some (V.Tuple vs) =
      ap Some (sym (done_same is.0 v turns left is.2)) ∙ sym is.1 ∙ ap (λ (inputs : List (List Value)). option_map V.Tuple (slice_get inputs 0)) one in
      let same : v ≡ V.Tuple vs = some_same v (V.Tuple vs) found in
      let these : us ≡ vs = some_same us vs (sym u ∙ ap (λ (v : Value). level_tuple (out-Value v)) same ∙ ap level_tuple (V.outs-Tuple vs)) in
      ap (λ (us : List Value). slice_get us a) these ∙ ap (slice_get vs) (some_same a b h)
  source_form a b (C.Tuple fs) turns left v us h e u =
      let at = then_some (code_at a fs) attribute_alone b h in
      let x = done_followed (field_values calls fs (world_of env) turns) _ v left e in
      let y = need_done (tuple_of x.0) (λ vs. Done (V.Tuple vs) x.1) v left x.3 in
      let same : v ≡ V.Tuple y.0 = sym (done_same (V.Tuple y.0) v x.1 left y.2) in
      let these : us ≡ y.0 = some_same us y.0 (sym u ∙ ap (λ (v : Value). level_tuple (out-Value v)) same ∙ ap level_tuple (V.outs-Tuple y.0)) in
      let found = field_is fs turns x.1 x.0 a at.0 b at.1 at.2 x.2 in
      ap (λ (us : List Value). slice_get us a) these ∙ tuple_field a x.0 y.0 found.0 y.1 found.1 ∙ sym found.2
  source_form a b form turns left v us h e u = absurd cc

  -- an attribute of a tuple has the value of its source
  pub tuple_value : (a b : ℕ) (code : Code Slot) (turns left : ℕ) (v : Value) (us : List Value) → tuple_source a code ≡ Some b
      → code_value calls code (world_of env) turns ≡ Done v left → level_tuple (out-Value v) ≡ Some us → slice_get us a ≡ slice_get vs b
  tuple_value a b code turns left v us h e u = source_form a b (out-Code Slot code) turns left v us h (by_form code turns left v e) u
