-- Values with some fields left out are those of the tuple once the attributes have been moved to these fields.
use Rattle.std.specs.Prelude.{◌≡◌, ◌+◌, ◌<◌, ◌≤◌, ◌==◌, ℕ, zero, suc, true, false, List, [], ◌∷◌, length, get_or, Option, None, Some, slice_get, slice_set}
use Rattle.std.specs.Option.{option_and_then}
use Rattle.std.proofs.Common.{refl, sym, ap, subst, ◌∙◌, arith}
use Rattle.std.proofs.lemmas.Bool.{eqb-true, eqb-false}
use Rattle.std.proofs.lemmas.List.{length-set}
use Rattle.std.proofs.lemmas.Option.{slice_get-get_or, slice_get_read, slice_get_within}
use Rattle.spl_value.specs.declared.types.SplType.{SplType}
use Rattle.spl_value.specs.declared.value.Value.{Value}
use Rattle.spl_tree.specs.declared.body.Function.{Function}
use Rattle.spl_tree.specs.declared.code.Code.{Code}
use Rattle.spl_tree.specs.declared.code.Code.TheVariants as C
use Rattle.spl_tree.specs.declared.code.Slot.{Slot}
use Rattle.spl_tree.specs.declared.code.Slot.TheVariants as L
use Rattle.language_model.specs.declared.env.Env.{Env}
use Rattle.language_model.specs.Outcomes.{Done, followed, need}
use Rattle.language_model.specs.Evaluation.{World, code_value, tuple_of, world_of}
use Rattle.language_model.specs.EvaluationLaws.{field_values, name_is}
use Rattle.language_model.specs.parts.Functions.{calls_of}
use Rattle.language_model.specs.ValueLaws.{NeverStuckLaw}
use Rattle.language_model.specs.WorldFits.{ComesTo}
use Rattle.expr_eval.specs.Fitting.{IsFit}
use Rattle.expr_eval.specs.Moving.{AreMoves}
use Rattle.expr_eval.specs.steps.MovedFields.{AreBut, GoTo, IsMovedTo}
use Rattle.expr_eval.proofs.CodeParts.{field_places, tuple_is_fit}
use Rattle.expr_eval.proofs.PlacedFields.{IsPlaced, placed_on, placed_start}
use Rattle.expr_eval.proofs.Placing.{HaveEachPlace, at_its_place, set_elsewhere, set_here}
use Rattle.expr_eval.proofs.ValueTypes.{as_long, places_of_fields}
use Rattle.language_model.proofs.Returning.{done_followed}

-- ---- lists with a value set

-- the same value set in two lists keeps what they have in common
set_in_both : (vs us : List Value) (k p : ℕ) (v : Value) → length vs ≡ length us → slice_get vs k ≡ slice_get us k → slice_get (slice_set vs p v) k ≡ slice_get (slice_set us p v) k
set_in_both [] [] k p v long e = refl
set_in_both [] (u ∷ us) k p v long e = absurd (omega (arith, long))
set_in_both (w ∷ vs) [] k p v long e = absurd (omega (arith, long))
set_in_both (w ∷ vs) (u ∷ us) zero zero v long e = refl
set_in_both (w ∷ vs) (u ∷ us) zero (suc p) v long e = e
set_in_both (w ∷ vs) (u ∷ us) (suc k) zero v long e = e
set_in_both (w ∷ vs) (u ∷ us) (suc k) (suc p) v long e = set_in_both vs us k p v (omega (arith, long)) e

-- lists with the same values are the same
same_values : (vs us : List Value) → length vs ≡ length us → ((k : ℕ) → slice_get vs k ≡ slice_get us k) → vs ≡ us
same_values [] [] long e = refl
same_values [] (u ∷ us) long e = absurd (omega (arith, long))
same_values (v ∷ vs) [] long e = absurd (omega (arith, long))
same_values (v ∷ vs) (u ∷ us) long e =
    let first : Some v ≡ Some u = e 0 in
    let here : v ≡ u = cc in
    let others : vs ≡ us = same_values vs us (omega (arith, long)) (λ k. e (suc k)) in λ i. here i ∷ others i

-- an attribute that no field before a number moved stands where it stood
abbrev pub AreLeft : List (Option ℕ) → List Value → ℕ → List Value → Type 0
AreLeft ms first i came = (a : ℕ) → ((j : ℕ) → j < i → slice_get ms j ≡ Some (Some a) → ⊥) → slice_get came a ≡ slice_get first a

module _ (fs : List (ℕ × Code Slot)) (ms : List (Option ℕ)) where
  -- ---- values with fields left out

  pub are_start : (vs : List Value) → AreBut fs ms 0 vs vs
  are_start vs = record { long = refl; others = λ k not. refl }

  -- a value is put into both
  are_both : (vs us : List Value) (p : ℕ) (v : Value) → AreBut fs ms 0 vs us → AreBut fs ms 0 (slice_set vs p v) (slice_set us p v)
  are_both vs us p v are = record {
    long = length-set vs p v ∙ are.long ∙ sym (length-set us p v);
    others = λ k not. set_in_both vs us k p v are.long (are.others k not);
  }

  -- or into the tuple alone, at a place to which an attribute is moved
  are_left_out : (vs us : List Value) (i a : ℕ) (f : ℕ × Code Slot) (v : Value) → slice_get ms i ≡ Some (Some a) → slice_get fs i ≡ Some f → AreBut fs ms 0 vs us
      → AreBut fs ms 0 vs (slice_set us f.0 v)
  are_left_out vs us i a f v m at are = record {
    long = are.long ∙ sym (length-set us f.0 v);
    others = λ k not. are.others k not ∙ sym (set_elsewhere us k f.0 v (λ e. not (record {
      at = i;
      behind = omega arith;
      attribute = a;
      moved = m;
      code = f.1;
      field = at ∙ (λ j. Some (e j, f.1));
    })));
  }

  -- ---- the other fields are moved

  module _ (are : AreMoves fs ms) (first : List Value) where
    module _ (i : ℕ) (came : List Value) (left : AreLeft ms first i came) where
      module _ (a : ℕ) (m : slice_get ms i ≡ Some (Some a)) where
        -- the next attribute does
        pub left_here : slice_get came a ≡ slice_get first a
        left_here = left a (λ j lt n. let same : j ≡ i = are.once j i a n m in omega (arith, lt, same))

        pub left_after : (w : Value) (new : List Value) → new ≡ slice_set came a w → AreLeft ms first (i + 1) new
        left_after w new is b not =
            ap (λ vs. slice_get vs b) is ∙ set_elsewhere came b a w (λ e. not i (omega arith) (m ∙ (λ j. Some (Some (e j))))) ∙ left b (λ j lt n. not j (omega (arith, lt)) n)

        module _ (f : ℕ × Code Slot) (at : slice_get fs i ≡ Some f) (tuple values : List Value) (but : AreBut fs ms i values tuple) (to : GoTo fs ms first tuple) where
          pub place_there : f.0 < length values
          place_there = let is = to i a f m at in subst (λ (n : ℕ). f.0 < n) (sym but.long) (slice_get_within tuple f.0 is.0 is.2)

          pub attribute_there : a < length came
          attribute_there = let is = to i a f m at in slice_get_within came a is.0 (left_here ∙ is.1)

          pub but_moved : (v : Value) (new : List Value) → slice_get came a ≡ Some v → new ≡ slice_set values f.0 v → AreBut fs ms (i + 1) new tuple
          but_moved v new there is =
              let goes = to i a f m at in
              let same : Some goes.0 ≡ Some v = sym (left_here ∙ goes.1) ∙ there in
              let value : slice_get tuple f.0 ≡ Some v = goes.2 ∙ same in
              record {
                long = ap length is ∙ length-set values f.0 v ∙ but.long;
                others = λ k not.
                    ap (λ vs. slice_get vs k) is
                    ∙ (elim (f.0 == k) as (λ b. (f.0 == k) ≡ b → slice_get (slice_set values f.0 v) k ≡ slice_get tuple k) [
                      | true ↦ λ e. subst (λ (p : ℕ). slice_get (slice_set values f.0 v) p ≡ slice_get tuple p) (eqb-true f.0 k e) (set_here values f.0 v place_there ∙ sym value)
                      | false ↦ λ e.
                          set_elsewhere values k f.0 v (eqb-false f.0 k e)
                          ∙ but.others k (λ moved. not (record {
                            at = moved.at;
                            behind = behind_next moved (λ here. eqb-false f.0 k e (at_place moved here));
                            attribute = moved.attribute;
                            moved = moved.moved;
                            code = moved.code;
                            field = moved.field;
                          }))
                    ] refl);
              }
            where
              -- the field itself has the place f.0
              at_place : {k : ℕ} (moved : IsMovedTo fs ms i k) → moved.at ≡ i → f.0 ≡ k
              at_place {k} moved here =
                  let both : Some f ≡ Some (k, moved.code) = sym at ∙ ap (slice_get fs) (sym here) ∙ moved.field in
                  let same : f ≡ (k, moved.code) = cc in ap (λ (g : ℕ × Code Slot). g.0) same

              behind_next : {k : ℕ} (moved : IsMovedTo fs ms i k) → (moved.at ≡ i → ⊥) → i + 1 ≤ moved.at
              behind_next moved other = let from : i ≤ moved.at = moved.behind in omega (arith, from, other)

      -- a field to which nothing is moved
      module _ (m : slice_get ms i ≡ Some None) where
        pub left_on : AreLeft ms first (i + 1) came
        left_on b not = left b (λ j lt n. not j (omega (arith, lt)) n)

        pub but_on : (tuple values : List Value) → AreBut fs ms i values tuple → AreBut fs ms (i + 1) values tuple
        but_on tuple values but = record {
          long = but.long;
          others = λ k not. but.others k (λ moved. not (record {
            at = moved.at;
            behind = behind_next moved (λ here. is_none moved here);
            attribute = moved.attribute;
            moved = moved.moved;
            code = moved.code;
            field = moved.field;
          }));
        }
          where
            is_none : {k : ℕ} (moved : IsMovedTo fs ms i k) → moved.at ≡ i → ⊥
            is_none moved here =
                let both : Some None ≡ Some (Some moved.attribute) = sym m ∙ ap (slice_get ms) (sym here) ∙ moved.moved in absurd cc

            behind_next : {k : ℕ} (moved : IsMovedTo fs ms i k) → (moved.at ≡ i → ⊥) → i + 1 ≤ moved.at
            behind_next moved other = let from : i ≤ moved.at = moved.behind in omega (arith, from, other)

    pub but_none : (i : ℕ) (tuple values : List Value) → length fs ≤ i → AreBut fs ms i values tuple → values ≡ tuple
    but_none i tuple values past but = same_values values tuple but.long (λ k. but.others k (λ moved. none k moved))
      where
        none : (k : ℕ) → IsMovedTo fs ms i k → ⊥
        none k moved =
            let from : i ≤ moved.at = moved.behind in
            let within : moved.at < length fs = slice_get_within fs moved.at (k, moved.code) moved.field in omega (arith, past, from, within)

-- ---- the fields of a code that fits

-- how far the loop over the fields has come: the values of a tuple so far, but where attributes are moved
abbrev pub IsSoFar : List Function → Env → ℕ → List (ℕ × Code Slot) → List (Option ℕ) → List Value → ℕ → ℕ → List Value → ℕ → Type 0
IsSoFar functions env depth fs ms blanks turns i vs left = (us : List Value) × IsPlaced (calls_of functions depth) (world_of env) fs blanks turns i us left × AreBut fs ms 0 vs us

module _ (functions : List Function) (env : Env) (depth : ℕ) (fs : List (ℕ × Code Slot)) (fit : IsFit functions (C.Tuple fs) env) (ms : List (Option ℕ)) (are : AreMoves fs ms)
    (came : List Value) (there : slice_get env.inputs 0 ≡ Some came) (law : NeverStuckLaw) where
  there_is : (o : Option Value) (t : SplType) → ComesTo t (need o (λ v. Done v 0)) → (v : Value) × (o ≡ Some v)
  there_is None t comes = absurd comes
  there_is (Some v) t comes = (v, refl)

  -- the code of a field to which an attribute is moved evaluates to that attribute, and takes no turn
  moved_value : (i a : ℕ) (f : ℕ × Code Slot) → slice_get ms i ≡ Some (Some a) → slice_get fs i ≡ Some f
      → (v : Value) × (slice_get came a ≡ Some v) × ((turns : ℕ) → code_value (calls_of functions depth) f.1 (world_of env) turns ≡ Done v turns)
  moved_value i a f m at =
      let fits = tuple_is_fit functions env (C.Tuple fs) fit fs refl i f at in
      let v = there_is (slice_get came a) fits.0 (subst (ComesTo fits.0) (is 0) (law functions f.1 env fits.0 fits.1 depth 0)) in
      (v.0, v.1, λ turns. is turns ∙ ap (λ o. need o (λ v. Done v turns)) v.1)
    where
      is : (turns : ℕ) → code_value (calls_of functions depth) f.1 (world_of env) turns ≡ need (slice_get came a) (λ v. Done v turns)
      is turns =
          ap (λ c. code_value (calls_of functions depth) c (world_of env) turns) (are.alone i a f m at) ∙ name_is (calls_of functions depth) (L.Attribute 0 a) (world_of env) turns
          ∙ ap (λ o. need (option_and_then (λ vs. slice_get vs a) o) (λ v. Done v turns)) there

  -- ---- how far the loop over the fields has come

  module _ (blanks : List Value) (turns : ℕ) where
    pub so_far_start : IsSoFar functions env depth fs ms blanks turns 0 blanks turns
    so_far_start = (blanks, placed_start (calls_of functions depth) (world_of env) fs blanks turns, are_start fs ms blanks)

    module _ (i : ℕ) (vs : List Value) (left : ℕ) (so_far : IsSoFar functions env depth fs ms blanks turns i vs left) (f : ℕ × Code Slot) (h : i < length fs) (e : f ≡ get_or fs i f) where
      pub so_far_on : (v : Value) (after : ℕ) (new : List Value) → code_value (calls_of functions depth) f.1 (world_of env) left ≡ Done v after → new ≡ slice_set vs f.0 v
          → IsSoFar functions env depth fs ms blanks turns (i + 1) new after
      so_far_on v after new d n = (
        slice_set so_far.0 f.0 v,
        placed_on (calls_of functions depth) (world_of env) fs blanks turns i so_far.0 left so_far.1 f h e v after (slice_set so_far.0 f.0 v) d refl,
        subst (λ ws. AreBut fs ms 0 ws (slice_set so_far.0 f.0 v)) (sym n) (are_both fs ms vs so_far.0 f.0 v so_far.2),
      )

      pub so_far_moved : (a : ℕ) → slice_get ms i ≡ Some (Some a) → IsSoFar functions env depth fs ms blanks turns (i + 1) vs left
      so_far_moved a m =
          let at : slice_get fs i ≡ Some f = slice_get_read fs (length fs) i f refl h e in
          let value = moved_value i a f m at in (
            slice_set so_far.0 f.0 value.0,
            placed_on (calls_of functions depth) (world_of env) fs blanks turns i so_far.0 left so_far.1 f h e value.0 left (slice_set so_far.0 f.0 value.0) (value.2 left) refl,
            are_left_out fs ms vs so_far.0 i a f value.0 m at so_far.2,
          )

  -- ---- where the moved attributes go

  field_there : (gs : List (ℕ × Code Slot)) (turns left : ℕ) (hs : List (ℕ × Value)) → field_values (calls_of functions depth) gs (world_of env) turns ≡ Done hs left
      → (i : ℕ) (f : ℕ × Code Slot) (v : Value) → slice_get gs i ≡ Some f
      → ((turns : ℕ) → code_value (calls_of functions depth) f.1 (world_of env) turns ≡ Done v turns) → slice_get hs i ≡ Some (f.0, v)
  field_there [] turns left hs e i f v at value = absurd cc
  field_there (g ∷ gs) turns left hs e i f v at value =
      let calls = calls_of functions depth in
      let w : World Slot = world_of env in
      let first = done_followed (code_value calls g.1 w turns) (λ v turns. followed (field_values calls gs w turns) (λ hs turns. Done ((g.0, v) ∷ hs) turns)) hs left e in
      let others = done_followed (field_values calls gs w first.1) (λ hs turns. Done ((g.0, first.0) ∷ hs) turns) hs left first.3 in
      let s : (g.0, first.0) ∷ others.0 ≡ hs = cc (others.3) in
      subst (λ hs. slice_get hs i ≡ Some (f.0, v)) s (elim i as (λ i. slice_get (g ∷ gs) i ≡ Some f → slice_get ((g.0, first.0) ∷ others.0) i ≡ Some (f.0, v)) [
        | zero ↦ λ at.
            let same : g ≡ f = cc in
            let d : Done first.0 first.1 ≡ Done v turns = sym first.2 ∙ ap (λ (g : ℕ × Code Slot). code_value calls g.1 w turns) same ∙ value turns in
            let here : first.0 ≡ v = cc in λ j. Some ((same j).0, here j)
        | suc i ↦ λ at. field_there gs first.1 others.1 others.0 others.2 i f v at value
      ] at)

  pub goes_to : (turns left : ℕ) (tuple : List Value)
      → followed (field_values (calls_of functions depth) fs (world_of env) turns) (λ gs left. need (tuple_of gs) (λ vs. Done vs left)) ≡ Done tuple left → GoTo fs ms came tuple
  goes_to turns left tuple e i a f m at =
      let calls = calls_of functions depth in
      let w : World Slot = world_of env in
      let d = done_followed (field_values calls fs w turns) (λ gs left. need (tuple_of gs) (λ vs. Done vs left)) tuple left e in
      let long : length d.0 ≡ length fs = as_long law functions env depth fs turns d.1 d.0 d.2 in
      let each : HaveEachPlace d.0 = places_of_fields law functions env depth (C.Tuple fs) fit fs refl turns d.1 d.0 d.2 in
      let value = moved_value i a f m at in
      let place : f.0 < length d.0 = subst (λ (n : ℕ). f.0 < n) (sym long) (field_places functions env (C.Tuple fs) fit fs refl i f at) in
      (value.0, value.1, at_its_place d.0 tuple (needed (tuple_of d.0) tuple d.1 left d.3) each i (f.0, value.0) (field_there fs turns d.1 d.0 d.2 i f value.0 at value.2) place)
    where
      needed : (o : Option (List Value)) (tuple : List Value) (turns left : ℕ) → need o (λ vs. Done vs turns) ≡ Done tuple left → o ≡ Some tuple
      needed None tuple turns left e = absurd cc
      needed (Some vs) tuple turns left e = let same : vs ≡ tuple = cc in ap Some same

-- a field to which something is moved, or isn't
pub told : (fs : List (ℕ × Code Slot)) (ms : List (Option ℕ)) → length ms ≡ length fs → (i : ℕ) → i < length fs → (o : Option ℕ) → get_or ms i None ≡ o → slice_get ms i ≡ Some o
told fs ms each i lt o is = slice_get-get_or ms i None (subst (λ (n : ℕ). i < n) (sym each) lt) ∙ ap Some is
