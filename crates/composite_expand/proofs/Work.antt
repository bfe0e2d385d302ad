-- The work that is left falls with each step of a walk.
use Rattle.std.proofs.Common.{◌≡◌, ◌∙◌, refl, ap, subst, ℕ, suc, ◌+◌, ◌-◌, ◌<◌, ◌≤◌, List, [], ◌∷◌, length, drop, Some, arith}
use Rattle.std.specs.Prelude.{slice_get}
use Rattle.std.specs.Option.{option_map_or}
use Rattle.spl_tree.specs.declared.unit.Composite.{Composite}
use Rattle.spl_tree.specs.declared.unit.Definition.{Definition}
use Rattle.spl_tree.specs.declared.unit.Invocation.{Invocation}
use Rattle.language_model.specs.Composites.{composites}
use Rattle.language_model.specs.Invoking.{Body, target_of}
use Rattle.language_model.specs.Scopes.{At}
use Rattle.composite_expand.specs.declared.walk.Opened.{Opened}
use Rattle.composite_expand.specs.declared.walk.Walk.{Walk}
use Rattle.composite_expand.specs.steps.Walking.{Frame}
use Rattle.composite_expand.specs.steps.Walks.{Tracks, target_work, graph_work, body_work, opened_work, way_work, work_left, Front, IsFurther, IsNew}
use Rattle.spl_value.proofs.Lists.{next_rest}

same_count : (unit : List Definition) (names : List ℕ) (os : List Opened) (fs : List Frame) → Tracks unit names os fs → length os ≡ length fs
same_count unit names [] [] is = refl
same_count unit names [] (f ∷ fs) is = absurd is
same_count unit names (o ∷ os) [] is = absurd is
same_count unit names (o ∷ os) (f ∷ fs) is = ap suc (same_count unit names os fs is.2)

-- what is left of a body whose composite is there
work_of : (depth : ℕ) (unit : List Definition) (o : Opened) (c : Composite) → slice_get (composites unit) o.composite ≡ Some c
    → opened_work depth unit o ≡ suc (graph_work (body_work depth unit) unit (drop o.next c.graph))
work_of depth unit o c there = ap (λ x. option_map_or (λ c. suc (graph_work (body_work depth unit) unit (drop o.next c.graph))) x 1) there

module _ (unit : List Definition) (main : At Composite) (w : Walk) (o : Opened) (os : List Opened) (at : Front unit main w o os) where
  abbrev graph : List Invocation
  graph = at.f.opened.body.composite.what.graph

  count : length os ≡ length at.fs
  count = same_count unit w.names.items os at.fs at.outer

  -- how deep others nest in the innermost body, and in the one around it
  here_depth : length (composites unit) - length (o ∷ os) ≡ at.depth
  here_depth = let room = at.room in let same = count in omega (arith, room, same)

  around_depth : length (composites unit) - length os ≡ suc at.depth
  around_depth = let room = at.room in let same = count in omega (arith, room, same)

  before : work_left unit (o ∷ os) ≡ opened_work at.depth unit o + way_work (suc at.depth) unit os
  before = ap (λ d. way_work d unit (o ∷ os)) here_depth

  own : opened_work at.depth unit o ≡ suc (graph_work (body_work at.depth unit) unit (drop o.next graph))
  own = work_of at.depth unit o at.f.opened.body.composite.what at.of.composite

  pub work_closed : work_left unit os < work_left unit (o ∷ os)
  work_closed =
      let after : work_left unit os ≡ way_work (suc at.depth) unit os = ap (λ d. way_work d unit os) around_depth in
      let is = before in
      let mine = own in
      omega (arith, after, is, mine)

  module _ (i : Invocation) (is_next : slice_get graph at.f.next ≡ Some i) (p : Opened) (on : IsFurther o p) where
    abbrev rest : List Invocation
    rest = drop (suc at.f.next) graph

    own_next : opened_work at.depth unit o ≡ suc (suc (target_work (body_work at.depth unit) (target_of unit i.operator.what) + graph_work (body_work at.depth unit) unit rest))
    own_next =
        own ∙ ap (λ n. suc (graph_work (body_work at.depth unit) unit (drop n graph))) at.of.next
        ∙ ap (λ is. suc (graph_work (body_work at.depth unit) unit is)) (next_rest graph at.f.next i is_next)

    further_work : (depth : ℕ) → opened_work depth unit p ≡ suc (graph_work (body_work depth unit) unit rest)
    further_work depth =
        work_of depth unit p at.f.opened.body.composite.what (ap (slice_get (composites unit)) on.composite ∙ at.of.composite)
        ∙ ap (λ n. suc (graph_work (body_work depth unit) unit (drop n graph))) (on.next ∙ ap suc at.of.next)

    pub work_further : work_left unit (p ∷ os) < work_left unit (o ∷ os)
    work_further =
        let after : work_left unit (p ∷ os) ≡ opened_work at.depth unit p + way_work (suc at.depth) unit os = ap (λ d. way_work d unit (p ∷ os)) here_depth in
        let is = before in
        let mine = own_next in
        let then_mine = further_work at.depth in
        omega (arith, after, is, mine, then_mine)

    module _ (q : Opened) (c : At Composite) (names : List ℕ) (new : IsNew q at.made c names) (target : target_of unit i.operator.what ≡ Body c)
        (there : slice_get (composites unit) c.place ≡ Some c.what) where
      inside : (depth : ℕ) → opened_work depth unit q ≡ suc (graph_work (body_work depth unit) unit c.what.graph)
      inside depth =
          work_of depth unit q c.what (ap (slice_get (composites unit)) new.composite ∙ there)
          ∙ ap (λ n. suc (graph_work (body_work depth unit) unit (drop n c.what.graph))) new.next

      of_depth : (depth : ℕ) → at.depth ≡ suc depth → work_left unit (q ∷ p ∷ os) < work_left unit (o ∷ os)
      of_depth depth deep =
          let room = at.room in
          let same = count in
          let here : length (composites unit) - length (q ∷ p ∷ os) ≡ depth = omega (arith, room, same, deep) in
          let after : work_left unit (q ∷ p ∷ os) ≡ opened_work depth unit q + (opened_work (suc depth) unit p + way_work (suc (suc depth)) unit os) =
          ap (λ d. way_work d unit (q ∷ p ∷ os)) here in
          let inner = inside depth in
          let then_mine = further_work (suc depth) in
          let is : work_left unit (o ∷ os) ≡ opened_work (suc depth) unit o + way_work (suc (suc depth)) unit os = before ∙ ap (λ d. opened_work d unit o + way_work (suc d) unit os) deep in
          let mine : opened_work (suc depth) unit o ≡ suc (suc (target_work (body_work (suc depth) unit) (target_of unit i.operator.what) + graph_work (body_work (suc depth) unit) unit rest)) =
          subst (λ d. opened_work d unit o ≡ suc (suc (target_work (body_work d unit) (target_of unit i.operator.what) + graph_work (body_work d unit) unit rest))) deep own_next in
          let body : target_work (body_work (suc depth) unit) (target_of unit i.operator.what) ≡ suc (graph_work (body_work depth unit) unit c.what.graph) =
          ap (target_work (body_work (suc depth) unit)) target in
          omega (arith, after, inner, then_mine, is, mine, body)

      pub work_opened : suc (suc (length at.fs)) ≤ length (composites unit) → work_left unit (q ∷ p ∷ os) < work_left unit (o ∷ os)
      work_opened deep = let room = at.room in of_depth (at.depth - 1) (omega (arith, room, deep))
