-- A code with other names has the result that the code has where each name has the value of the one in its place.
use Rattle.std.specs.Prelude.{◌≡◌, ℕ, List, [], ◌∷◌, map}
use Rattle.std.proofs.Common.{refl, sym, ap, ◌∙◌, subst}
use Rattle.spl_value.specs.declared.value.Value.{Value}
use Rattle.spl_tree.specs.declared.code.Code.{Code}
use Rattle.spl_tree.specs.declared.code.Code.TheVariants as S
use Rattle.spl_tree.specs.declared.code.Code.TheOpen as C
use Rattle.spl_tree.specs.declared.code.Code.TheOpen.{Code-F}
use Rattle.spl_tree.specs.declared.code.Code.TheViews.{out-Code, roll-Code}
use Rattle.spl_tree.specs.declared.code.Code.TheFolds.{fold_out-Code, map-Code, ind-Code}
use Rattle.spl_tree.specs.declared.code.Selector.{Selector}
use Rattle.spl_tree.specs.declared.code.Selector.TheVariants as K
use Rattle.spl_tree.specs.declared.code.UnaryCode.{UnaryCode}
use Rattle.spl_tree.specs.declared.code.BinaryCode.{BinaryCode}
use Rattle.spl_tree.specs.declared.code.BuiltIn.{BuiltIn}
use Rattle.spl_tree.specs.declared.code.Marker.{Marker}
use Rattle.language_model.specs.Evaluation.{World, Calls, code_value}
use Rattle.language_model.specs.ValueLaws.{RenamingLaw}
use Rattle.language_model.specs.Written.{level_renamed, renamed, before_renaming}
use Rattle.language_laws.proofs.Agreeing.{Agree, ValuesAgree, PairsAgree, FieldsAgree, StepsAgree, literals_agree, names_agree, lists_agree, maps_agree, tuples_agree, selects_agree, unaries_agree, binaries_agree, conditionals_agree, built_ins_agree, calls_agree, markers_agree, not_markers_agree, more_values, more_pairs, more_fields, members_agree, elements_agree, keys_agree}

module _ {N M : Type 0} (f : N → M) where
  pub renamed_at : (c : Code N) (x : Code-F N (Code N)) → out-Code N c ≡ x → renamed f c ≡ level_renamed f (map-Code N (Code N) (Code M) (renamed f) x)
  renamed_at c x e = fold_out-Code N (Code M) (level_renamed f) c ∙ ap (λ y. level_renamed f (map-Code N (Code N) (Code M) (renamed f) y)) e

module _ {N M : Type 0} (f : N → M) (calls : Calls) (w : World M) where
  abbrev Kept : Code N → Type 0
  Kept c = Agree calls w (before_renaming f w) (renamed f c) c

  -- where the renamed form is this one
  kept_by : (c : Code N) (x : Code-F N (Code N)) → out-Code N c ≡ x → Agree calls w (before_renaming f w) (level_renamed f (map-Code N (Code N) (Code M) (renamed f) x)) c → Kept c
  kept_by c x e h turns = ap (λ d. code_value calls d w turns) (renamed_at f c x e) ∙ h turns

  abbrev Known : Type 0
  Known = (c : Code N) × Kept c

  -- ---- rows of codes

  abbrev codes_of : List Known → List (Code N)
  codes_of es = map (λ (e : Known). e.0) es

  values_kept : (es : List Known) → ValuesAgree calls w (before_renaming f w) (map (renamed f) (codes_of es)) (codes_of es)
  values_kept [] = λ turns. refl
  values_kept (e ∷ es) = more_values calls w (before_renaming f w) (renamed f e.0) e.0 (map (renamed f) (codes_of es)) (codes_of es) e.1 (values_kept es)

  abbrev pairs_of : List (Known × Known) → List (Code N × Code N)
  pairs_of es = map (λ (e : Known × Known). (e.0.0, e.1.0)) es

  abbrev pairs_renamed : List (Code N × Code N) → List (Code M × Code M)
  pairs_renamed ps = map (λ (p : Code N × Code N). (renamed f p.0, renamed f p.1)) ps

  pairs_kept : (es : List (Known × Known)) → PairsAgree calls w (before_renaming f w) (pairs_renamed (pairs_of es)) (pairs_of es)
  pairs_kept [] = λ turns. refl
  pairs_kept (e ∷ es) =
      more_pairs calls w (before_renaming f w) (renamed f e.0.0) (renamed f e.1.0) e.0.0 e.1.0 (pairs_renamed (pairs_of es)) (pairs_of es) e.0.1 e.1.1 (pairs_kept es)

  abbrev fields_of : List (ℕ × Known) → List (ℕ × Code N)
  fields_of es = map (λ (e : ℕ × Known). (e.0, e.1.0)) es

  abbrev fields_renamed : List (ℕ × Code N) → List (ℕ × Code M)
  fields_renamed fs = map (λ (g : ℕ × Code N). (g.0, renamed f g.1)) fs

  fields_kept : (es : List (ℕ × Known)) → FieldsAgree calls w (before_renaming f w) (fields_renamed (fields_of es)) (fields_of es)
  fields_kept [] = λ turns. refl
  fields_kept (e ∷ es) =
      more_fields calls w (before_renaming f w) e.0 (renamed f e.1.0) e.1.0 (fields_renamed (fields_of es)) (fields_of es) e.1.1 (fields_kept es)

  -- ---- what is taken

  abbrev steps_in : {N A : Type 0} → Code-F N A → List (Selector A)
  steps_in (C.Select x ss) = ss
  steps_in _ = []

  abbrev steps_of : Known → List (Selector Known) → List (Selector (Code N))
  steps_of e ss = steps_in (map-Code N Known (Code N) (λ e. e.0) (C.Select e ss))

  abbrev steps_renamed : Code N → List (Selector (Code N)) → List (Selector (Code M))
  steps_renamed c ss = steps_in (map-Code N (Code N) (Code M) (renamed f) (C.Select c ss))

  steps_kept : (e : Known) (ss : List (Selector Known)) → StepsAgree calls w (before_renaming f w) (steps_renamed e.0 (steps_of e ss)) (steps_of e ss)
  steps_kept e [] = λ u turns. refl
  steps_kept e (K.Member i ∷ ss) = members_agree calls w (before_renaming f w) i (steps_renamed e.0 (steps_of e ss)) (steps_of e ss) (steps_kept e ss)
  steps_kept e (K.Element x ∷ ss) =
      elements_agree calls w (before_renaming f w) (renamed f x.0) x.0 (steps_renamed e.0 (steps_of e ss)) (steps_of e ss) x.1 (steps_kept e ss)
  steps_kept e (K.AtKey x ∷ ss) =
      keys_agree calls w (before_renaming f w) (renamed f x.0) x.0 (steps_renamed e.0 (steps_of e ss)) (steps_of e ss) x.1 (steps_kept e ss)

  -- ---- forms of codes

  literal_kept : (v : Value) → Kept (S.Literal v)
  literal_kept v = kept_by (S.Literal v) (C.Literal v) (S.outs-Literal v) (literals_agree calls w (before_renaming f w) v)

  name_kept : (n : N) → Kept (S.Name n)
  name_kept n = kept_by (S.Name n) (C.Name n) (S.outs-Name n) (names_agree calls w (before_renaming f w) (f n) n refl)

  list_kept : (es : List Known) → Kept (S.List (codes_of es))
  list_kept es =
      let xs = codes_of es in
      kept_by (S.List xs) (C.List xs) (S.outs-List xs) (lists_agree calls w (before_renaming f w) (map (renamed f) xs) xs (values_kept es))

  map_kept : (es : List (Known × Known)) → Kept (S.Map (pairs_of es))
  map_kept es =
      let xs = pairs_of es in
      kept_by (S.Map xs) (C.Map xs) (S.outs-Map xs) (maps_agree calls w (before_renaming f w) (pairs_renamed xs) xs (pairs_kept es))

  tuple_kept : (es : List (ℕ × Known)) → Kept (S.Tuple (fields_of es))
  tuple_kept es =
      let fs = fields_of es in
      kept_by (S.Tuple fs) (C.Tuple fs) (S.outs-Tuple fs) (tuples_agree calls w (before_renaming f w) (fields_renamed fs) fs (fields_kept es))

  select_kept : (e : Known) (ss : List (Selector Known)) → Kept (S.Select e.0 (steps_of e ss))
  select_kept e ss =
      let ts = steps_of e ss in
      kept_by (S.Select e.0 ts) (C.Select e.0 ts) (S.outs-Select e.0 ts)
      (selects_agree calls w (before_renaming f w) (renamed f e.0) e.0 (steps_renamed e.0 ts) ts e.1 (steps_kept e ss))

  unary_kept : (ops : List UnaryCode) (e : Known) → Kept (S.Unary ops e.0)
  unary_kept ops e =
      kept_by (S.Unary ops e.0) (C.Unary ops e.0) (S.outs-Unary ops e.0) (unaries_agree calls w (before_renaming f w) ops (renamed f e.0) e.0 e.1)

  binary_kept : (op : BinaryCode) (d e : Known) → Kept (S.Binary op d.0 e.0)
  binary_kept op d e =
      kept_by (S.Binary op d.0 e.0) (C.Binary op d.0 e.0) (S.outs-Binary op d.0 e.0)
      (binaries_agree calls w (before_renaming f w) op (renamed f d.0) (renamed f e.0) d.0 e.0 d.1 e.1)

  conditional_kept : (c d e : Known) → Kept (S.Conditional c.0 d.0 e.0)
  conditional_kept c d e =
      kept_by (S.Conditional c.0 d.0 e.0) (C.Conditional c.0 d.0 e.0) (S.outs-Conditional c.0 d.0 e.0)
      (conditionals_agree calls w (before_renaming f w) (renamed f c.0) (renamed f d.0) (renamed f e.0) c.0 d.0 e.0 c.1 d.1 e.1)

  built_in_kept : (call : BuiltIn) (es : List Known) → Kept (S.BuiltIn call (codes_of es))
  built_in_kept call es =
      let xs = codes_of es in
      kept_by (S.BuiltIn call xs) (C.BuiltIn call xs) (S.outs-BuiltIn call xs)
      (built_ins_agree calls w (before_renaming f w) call (map (renamed f) xs) xs (values_kept es))

  call_kept : (i : ℕ) (es : List Known) → Kept (S.Call i (codes_of es))
  call_kept i es =
      let xs = codes_of es in
      kept_by (S.Call i xs) (C.Call i xs) (S.outs-Call i xs) (calls_agree calls w (before_renaming f w) i (map (renamed f) xs) xs (values_kept es))

  is_marker_kept : (m : Marker) → Kept (S.IsMarker m)
  is_marker_kept m = kept_by (S.IsMarker m) (C.IsMarker m) (S.outs-IsMarker m) (markers_agree calls w (before_renaming f w) m refl)

  is_not_marker_kept : (m : Marker) → Kept (S.IsNotMarker m)
  is_not_marker_kept m = kept_by (S.IsNotMarker m) (C.IsNotMarker m) (S.outs-IsNotMarker m) (not_markers_agree calls w (before_renaming f w) m refl)

  code_step : (y : Code-F N Known) → Kept (roll-Code N (map-Code N Known (Code N) (λ e. e.0) y))
  code_step (C.Literal v) = subst Kept (sym (S.rolls-Literal v)) (literal_kept v)
  code_step (C.Name n) = subst Kept (sym (S.rolls-Name n)) (name_kept n)
  code_step (C.List es) = subst Kept (sym (S.rolls-List (codes_of es))) (list_kept es)
  code_step (C.Map es) = subst Kept (sym (S.rolls-Map (pairs_of es))) (map_kept es)
  code_step (C.Tuple es) = subst Kept (sym (S.rolls-Tuple (fields_of es))) (tuple_kept es)
  code_step (C.Select e ss) = subst Kept (sym (S.rolls-Select e.0 (steps_of e ss))) (select_kept e ss)
  code_step (C.Unary ops e) = subst Kept (sym (S.rolls-Unary ops e.0)) (unary_kept ops e)
  code_step (C.Binary op d e) = subst Kept (sym (S.rolls-Binary op d.0 e.0)) (binary_kept op d e)
  code_step (C.Conditional c d e) = subst Kept (sym (S.rolls-Conditional c.0 d.0 e.0)) (conditional_kept c d e)
  code_step (C.BuiltIn call es) = subst Kept (sym (S.rolls-BuiltIn call (codes_of es))) (built_in_kept call es)
  code_step (C.Call i es) = subst Kept (sym (S.rolls-Call i (codes_of es))) (call_kept i es)
  code_step (C.IsMarker m) = subst Kept (sym (S.rolls-IsMarker m)) (is_marker_kept m)
  code_step (C.IsNotMarker m) = subst Kept (sym (S.rolls-IsNotMarker m)) (is_not_marker_kept m)

  code_kept : (c : Code N) → Kept c
  code_kept = ind-Code N Kept (λ x y is. subst (λ z. Kept (roll-Code N z)) is (code_step y))

pub renaming_law : {N M : Type 0} → RenamingLaw N M
renaming_law calls f code w turns = code_kept f calls w code turns
