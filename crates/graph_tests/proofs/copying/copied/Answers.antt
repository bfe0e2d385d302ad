use Rattle.std.proofs.Common.{◌≡◌, ◌∙◌, ◌++◌, ◌∷◌, [], Option, List, Some, None, ap, subst, sym}
use Rattle.std.specs.Prelude.{⊤}
use Rattle.stream_model.specs.CheckedMeaning.{graph_of}
use Rattle.stream_model.specs.Meaning.{Graph}
use Rattle.list_engine.specs.Runs.{AreOperators}
use Rattle.graph_tests.specs.declared.writer.Writer.{Writer}
use Rattle.graph_tests.specs.Copying.{copying_graph, writer}
use Rattle.graph_tests.proofs.Fresh.{fresh}
use Rattle.graph_tests.proofs.copying.copied.Goals as goal

pub run_lists-requires-clause-operators : goal.run_lists-requires-clause-operators
run_lists-requires-clause-operators c = λ g e.
    let w : Writer = record { alloc = c.args.alloc } in
    let graph : copying_graph ≡ g = ap graph_of (sym c.requires.graph) ∙ e in
    let operators : c.push-2.new.self ≡ None ∷ Some w ∷ [] =
    c.in_ok-push-2.ensures.ok ∙ ap (λ xs. xs ++ Some w ∷ []) (c.in_ok-push.ensures.ok ∙ ap (λ xs. xs ++ None ∷ []) c.new-operators.ensures) in
    subst (λ (xs : List (Option Writer)). AreOperators {S = Writer} (λ x. writer) (λ x h. ⊤) g xs) (sym operators)
    (subst (λ (x : Graph). AreOperators {S = Writer} (λ y. writer) (λ y h. ⊤) x (None ∷ Some w ∷ [])) graph (fresh w))
