-- A Custom's submits copy what its bodies say that they do.
use Rattle.std.specs.Prelude.{◌≡◌, ◌==◌, ℕ, Bool, true, false, if◌then◌else◌, List, [], ◌∷◌, ◌++◌, Option, None, Some, slice_get}
use Rattle.std.specs.List.{AllByRecursion}
use Rattle.std.specs.Option.{option_and_then}
use Rattle.std.proofs.Common.{refl, sym, ap, subst, ◌∙◌}
use Rattle.std.proofs.lemmas.Bool.{eqb-true}
use Rattle.spl_value.specs.declared.item.Item.{Item}
use Rattle.spl_value.specs.declared.item.Item.TheVariants as I
use Rattle.spl_value.specs.declared.value.Value.{Value}
use Rattle.spl_tree.specs.declared.body.Function.{Function}
use Rattle.spl_tree.specs.declared.body.Statement.{Statement}
use Rattle.spl_tree.specs.declared.code.Code.{Code}
use Rattle.spl_tree.specs.declared.code.Marker.{Marker}
use Rattle.spl_tree.specs.declared.code.Marker.TheVariants as M
use Rattle.spl_tree.specs.declared.code.Slot.{Slot}
use Rattle.language_model.specs.declared.checked.Handlers.{Handlers}
use Rattle.language_model.specs.declared.outs.Output.{Output}
use Rattle.language_model.specs.Functions.{bodies_of}
use Rattle.language_model.specs.Outcomes.{Outcome, Done, Faulted, Stuck, followed}
use Rattle.language_model.specs.Statements.{State, Bodies, Left, calls_by}
use Rattle.language_model.proofs.Returning.{Only, only_weaker}
use Rattle.stream_model.specs.Stream.{Event, is_empty, is_tuple}
use Rattle.stream_model.specs.Copies.{agreed, submits_in, submits_of, tuple_source}
use Rattle.stream_model.specs.parts.Copies.{custom_source}
use Rattle.stream_model.specs.Bodies.{most_turns}
use Rattle.stream_model.specs.Customs.{custom_body, handler, left_by, marker_env, state}
use Rattle.stream_model.specs.parts.Customs.{tuple_env}
use Rattle.attribute_flow.proofs.CodeValues.{tuple_value}
use Rattle.attribute_flow.proofs.KeepingSubmits.{IsKept, LeftBy, body_keeps}
use Rattle.attribute_flow.proofs.Reacting.{AllMade, Copied, Copies, IsNoTuple}
use Rattle.spl_value.proofs.Lists.{all_left}
use Rattle.spl_value.proofs.Results.{some_same}

-- ---- what is agreed on

HasSource : ℕ → ℕ → Code Slot → Type 0
HasSource a b code = tuple_source a code ≡ Some b

agreed_parts : (b : ℕ) (first rest : Option ℕ) → option_and_then (λ b. option_and_then (λ c. if c == b then Some b else None) rest) first ≡ Some b
    → (first ≡ Some b) × (rest ≡ Some b)
agreed_parts b None rest e = absurd cc
agreed_parts b (Some c) None e = absurd cc
agreed_parts b (Some c) (Some d) e = by_case (d == c) refl e where
  by_case : (x : Bool) → (d == c) ≡ x → (if x then Some c else None) ≡ Some b → (Some c ≡ Some b) × (Some d ≡ Some b)
  by_case true is e = (e, ap Some (eqb-true d c is) ∙ e)
  by_case false is e = absurd cc

-- each code has the source that all have
all_agree : (a b : ℕ) (codes : List (Code Slot)) → agreed a codes ≡ Some b → AllByRecursion (HasSource a b) codes
unfolding HasSource
all_agree a b [] e = tt
all_agree a b (code ∷ []) e = (e, tt)
all_agree a b (code ∷ next ∷ codes) e =
    let parts = agreed_parts b (tuple_source a code) (agreed a (next ∷ codes)) e in
    (parts.0, all_agree a b (next ∷ codes) parts.1)

-- the submits of a port's body are among those of all bodies
first_among : (P : Code Slot → Type 0) (bodies : List (Option (List Statement))) (row : List Statement) → handler bodies 0 ≡ Some row → AllByRecursion P (submits_in bodies)
    → AllByRecursion P (submits_of row)
first_among P [] row at all = absurd cc
first_among P (None ∷ bodies) row at all = absurd cc
first_among P (Some first ∷ bodies) row at all = subst (λ (r : List Statement). AllByRecursion P (submits_of r)) (some_same first row at) (all_left P (submits_of first) (submits_in bodies) all)

none_of : (P : Code Slot → Type 0) (codes : List (Code Slot)) → is_empty codes ≡ true → AllByRecursion P codes
none_of P [] e = tt
none_of P (code ∷ codes) e = absurd cc

-- ---- what statements keep

one_more : (P : Output → Type 0) (os : List Output) (o : Output) → AllByRecursion P os → P o → AllByRecursion P (os ++ o ∷ [])
one_more P [] o h k = (k, tt)
one_more P (p ∷ os) o h k = (h.0, one_more P os o h.1 k)

pub tuple_same : (us vs : List Value) → I.Tuple us ≡ I.Tuple vs → us ≡ vs
tuple_same us vs e = cc

abbrev KeptTuple : ℕ → ℕ → List Value → State → Type 0
KeptTuple a b vs s = (s.env.inputs ≡ vs ∷ []) × AllByRecursion (Copied a b vs) s.submits

copies_kept : (bodies : Bodies) (a b : ℕ) (vs : List Value) → IsKept bodies (HasSource a b) (KeptTuple a b vs)
unfolding HasSource
copies_kept bodies a b vs = record {
  change = λ s i v k. k;
  declare = λ s v k. k;
  end = λ s t k h. h;
  tuple = λ s port code turns left v us h e u k. (
    k.0,
    one_more (Copied a b vs) s.submits (record { port = port; item = I.Tuple us }) k.1 (λ ws is.
        ap (λ (us : List Value). slice_get us a) (sym (tuple_same us ws is)) ∙ tuple_value (calls_by bodies) s.env vs k.0 a b code turns left v us h e u),
  );
  window = λ s port k. (k.0, one_more (Copied a b vs) s.submits (record { port = port; item = I.Window }) k.1 (λ ws is. absurd cc));
}

abbrev NoTuples : State → Type 0
NoTuples s = AllByRecursion IsNoTuple s.submits

abbrev Never : Code Slot → Type 0
Never code = ⊥

markers_kept : (bodies : Bodies) → IsKept bodies Never NoTuples
markers_kept bodies = record {
  change = λ s i v k. k;
  declare = λ s v k. k;
  end = λ s t k h. h;
  tuple = λ s port code turns left v us h e u k. absurd h;
  window = λ s port k. one_more IsNoTuple s.submits (record { port = port; item = I.Window }) k refl;
}

-- ---- a body

abbrev AllLeft : (Output → Type 0) → Left → Type 0
AllLeft P left = AllByRecursion P left.submits

submits_left : (P : Output → Type 0) (o : Outcome Left) → Only (AllLeft P) o → AllMade P (followed o (λ left turns. Done left.submits turns))
submits_left P (Done left turns) h = h
submits_left P (Faulted kind) h = tt
submits_left P Stuck h = tt

module _ (functions : List Function) (handlers : Handlers) (a b : ℕ) (source : custom_source handlers a ≡ Some b) where
  source_parts : (x : Bool) (o : Option ℕ) → (if x then o else None) ≡ Some b → (x ≡ true) × (o ≡ Some b)
  source_parts true o e = (refl, e)
  source_parts false o e = absurd cc

  parts : (is_empty (submits_in handlers.on_punct) ≡ true) × (agreed a (submits_in handlers.on_tuple) ≡ Some b)
  parts = source_parts (is_empty (submits_in handlers.on_punct)) (agreed a (submits_in handlers.on_tuple)) source

  tuple_left : (vars vs : List Value) (body : Option (List Statement)) → handler handlers.on_tuple 0 ≡ body
      → Only (AllLeft (Copied a b vs)) (left_by functions body (tuple_env vars vs))
  tuple_left vars vs None at = tt
  tuple_left vars vs (Some row) at =
      only_weaker (LeftBy (KeptTuple a b vs)) (AllLeft (Copied a b vs)) _ (λ left is. subst (AllByRecursion (Copied a b vs)) is.2 is.1.1)
      (body_keeps (bodies_of functions most_turns) (HasSource a b) (KeptTuple a b vs) (copies_kept (bodies_of functions most_turns) a b vs) row (tuple_env vars vs) most_turns
      (first_among (HasSource a b) handlers.on_tuple row at (all_agree a b (submits_in handlers.on_tuple) parts.1)) (refl, tt))

  marker_left : (vars : List Value) (m : Marker) (body : Option (List Statement)) → handler handlers.on_punct 0 ≡ body
      → Only (AllLeft IsNoTuple) (left_by functions body (marker_env vars m))
  marker_left vars m None at = tt
  marker_left vars m (Some row) at =
      only_weaker (LeftBy NoTuples) (AllLeft IsNoTuple) _ (λ left is. subst (AllByRecursion IsNoTuple) is.2 is.1)
      (body_keeps (bodies_of functions most_turns) Never NoTuples (markers_kept (bodies_of functions most_turns)) row (marker_env vars m) most_turns
      (first_among Never handlers.on_punct row at (none_of Never (submits_in handlers.on_punct) parts.0)) tt)

  pub custom_copies : (earlier : List Event) → Copies a b (custom_body functions handlers earlier 0)
  custom_copies earlier = record {
    tuples = λ vs. submits_left (Copied a b vs) _ (tuple_left (state functions handlers earlier) vs (handler handlers.on_tuple 0) refl);
    others = others;
  }
    where
      others : (x : Item) → is_tuple x ≡ false → AllMade IsNoTuple (custom_body functions handlers earlier 0 x)
      others (I.Tuple vs) e = absurd cc
      others I.Window e = submits_left IsNoTuple _ (marker_left (state functions handlers earlier) M.Window (handler handlers.on_punct 0) refl)
      others I.Final e = submits_left IsNoTuple _ (marker_left (state functions handlers earlier) M.Final (handler handlers.on_punct 0) refl)
      others (I.Bad f) e = tt
