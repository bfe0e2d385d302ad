-- Where a walk begins, and what it ends with.
use Rattle.std.proofs.Common.{◌≡◌, ◌∙◌, refl, sym, ap, subst, ℕ, zero, suc, List, [], ◌∷◌, ◌++◌, length, Some, None, Ok, Err, arith}
use Rattle.std.specs.Prelude.{Bool, true, false, slice_get, reverse}
use Rattle.std.proofs.lemmas.Option.{slice_get_within}
use Rattle.spl_tree.specs.declared.unit.Composite.{Composite}
use Rattle.spl_tree.specs.declared.unit.Definition.{Definition}
use Rattle.language_model.specs.Composites.{composites}
use Rattle.language_model.specs.Expansion.{Made, Expanded, after, expanded, expanded_graph, expanded_main, main_body}
use Rattle.language_model.specs.Scopes.{At}
use Rattle.composite_expand.specs.declared.walk.Opened.{Opened}
use Rattle.composite_expand.specs.declared.walk.Walk.{Walk}
use Rattle.composite_tables.specs.Inputs.{Shows, InputsStand, AreKept}
use Rattle.composite_expand.specs.steps.Walking.{Frame, frame, Keeps, IsIdle, resumed}
use Rattle.composite_expand.specs.steps.Walks.{IsOn, Starts, IsExpanded}
use Rattle.composite_expand.proofs.Keeping.{kept_main}
use Rattle.composite_expand.proofs.Way.{done}

after_ok : {A : Type 0} (x : Expanded A) → after x (λ m. Ok m) ≡ x
after_ok (Ok x) = refl
after_ok (Err r) = refl

-- the main body, where nothing was expanded yet
abbrev first_frame : At Composite → Frame
first_frame main = frame (record { number = 0; prefix = []; body = main_body main }) 0 (record { ops = []; expansions = [] })

abbrev first_made : At Composite → Made
first_made main = record { ops = []; expansions = main_body main ∷ [] }

begins : (unit : List Definition) (main : At Composite) (depth n : ℕ) → n ≡ suc depth → length (composites unit) ≡ n → resumed depth unit (first_frame main ∷ []) (first_made main) ≡ expanded_main unit main
begins unit main depth n deep count =
    after_ok (expanded_graph (expanded depth unit) unit (record { number = 0; prefix = []; body = main_body main }) 0 main.what.graph (first_made main))
    ∙ ap (λ d. expanded d unit (record { number = 0; prefix = []; body = main_body main }) (first_made main)) (sym (count ∙ deep))

pub begin : (unit : List Definition) (place : ℕ) (main : At Composite) (starts : Starts unit place main) (w : Walk)
    → w.opened ≡ record { composite = place; number = 0; next = 0; prefix = 0; ops = 0 } ∷ [] → w.names.items ≡ [] → w.ops ≡ []
    → w.bodies ≡ record { composite = place; site = None } ∷ [] → w.inputs ≡ [] ∷ [] → w.connections ≡ 0 → length w.idle ≡ length (composites unit)
    → ((k : ℕ) → slice_get w.idle k ≡ Some true → ⊥) → IsOn unit main w (reverse w.opened)
begin unit place main starts w opened names ops bodies inputs connections count none =
    let within = slice_get_within (composites unit) main.place main.what starts.there in
    let n : ℕ = length (composites unit) in
    subst (IsOn unit main w) (sym (ap reverse opened)) (of_depth n refl)
  where
    kept : AreKept unit (record { composite = main.place; site = None } ∷ []) ([] ∷ []) (main_body main ∷ [])
    kept = kept_main unit main starts.there starts.inputs

    of_depth : (n : ℕ) → length (composites unit) ≡ n → IsOn unit main w (record { composite = place; number = 0; next = 0; prefix = 0; ops = 0 } ∷ [])
    of_depth zero is = let within = slice_get_within (composites unit) main.place main.what starts.there in absurd (omega (arith, within, is))
    of_depth (suc depth) is = record {
      frames = first_frame main ∷ [];
      made = first_made main;
      depth = depth;
      goal = begins unit main depth (suc depth) refl is;
      room = omega (arith, is);
      tracks = (
        record {
          place = sym starts.place_is;
          composite = ap (slice_get (composites unit)) (sym starts.place_is) ∙ starts.there;
          number = refl;
          next = refl;
          prefix = refl;
          within = omega arith;
          ops = refl;
          bodies = refl;
        },
        tt,
        tt,
      );
      path = tt;
      keeps = Keeps.main (first_frame main) (first_made main) (omega arith);
      waits = ((λ _. IsIdle.nothing main.what), tt);
      there = (refl, tt);
      marks = record { count = count; each = λ k c mark there. absurd (none k mark) };
      ops = ops;
      bodies = subst (λ bs. Shows unit bs (main_body main ∷ [])) (sym (bodies ∙ ap (λ p. record { composite = p; site = None } ∷ []) (sym starts.place_is))) kept.shows;
      nested = kept.nested;
      inputs = subst (InputsStand (main_body main ∷ [])) (sym inputs) kept.inputs;
      connections = connections;
      within = refl;
    }

pub finish : (unit : List Definition) (main : At Composite) (w : Walk) → IsOn unit main w [] → IsExpanded unit main w
finish unit main w on = record { made = on.made; is = sym (done unit main w on); ops = on.ops; bodies = on.bodies; nested = on.nested; inputs = on.inputs }

-- marks that are all false, with one more
pub no_mark_more : (marks : List Bool) → ((k : ℕ) → slice_get marks k ≡ Some true → ⊥) → (k : ℕ) → slice_get (marks ++ false ∷ []) k ≡ Some true → ⊥
no_mark_more [] none zero is = cc
no_mark_more [] none (suc k) is = cc
no_mark_more (m ∷ ms) none zero is = none 0 is
no_mark_more (m ∷ ms) none (suc k) is = no_mark_more ms (λ n. none (suc n)) k is

-- what holds of a way doesn't depend on the list of it that the code keeps
pub on_popped : (unit : List Definition) (main : At Composite) (w : Walk) (os way : List Opened) → IsOn unit main w way → IsOn unit main (record w { opened = os }) way
on_popped unit main w os way on = record {
  frames = on.frames;
  made = on.made;
  depth = on.depth;
  goal = on.goal;
  room = on.room;
  tracks = on.tracks;
  path = on.path;
  keeps = on.keeps;
  waits = on.waits;
  there = on.there;
  marks = on.marks;
  ops = on.ops;
  bodies = on.bodies;
  nested = on.nested;
  inputs = on.inputs;
  connections = on.connections;
  within = on.within;
}
