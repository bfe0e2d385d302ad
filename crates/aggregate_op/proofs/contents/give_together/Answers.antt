use Rattle.std.proofs.Common.{◌≡◌, ◌++◌, length, ap, sym, ◌∙◌, arith, append-nil}
use Rattle.std.proofs.lemmas.Bool.Decides.{nat_tests}
use Rattle.std.proofs.lemmas.List.{length-map}
use Rattle.std.specs.Borrow.{Bor}
use Rattle.spl_value.specs.declared.value.Value.{Value}
use Rattle.std.specs.Prelude.{List}
use Rattle.tuple_groups.specs.Seen.{seen}
use Rattle.spl_value.proofs.Results.{ok_weaker}
use Rattle.aggregate_op.proofs.GivingSteps.{together_there}
use Rattle.aggregate_op.proofs.contents.give_together.Goals as goal

pub give_group-requires : goal.give_group-requires
give_group-requires c =
    let refs = c.args.tuples.now in
    let some : length (seen refs) ≡ 0 → ⊥ =
    λ none. grind (arith, nat_tests, c.is_empty.ensures, c.if-is_empty.false, sym (length-map refs (λ (r : Bor (List Value)). r.now)) ∙ none) in
    let there = together_there c.args.clauses.now (seen refs) c.requires.0 some c.requires.1 in
    (there.0, there.1)

pub returns : goal.returns
returns c =
    let refs = c.args.tuples.now in
    let some : length (seen refs) ≡ 0 → ⊥ =
    λ none. grind (arith, nat_tests, c.is_empty.ensures, c.if-is_empty.false, sym (length-map refs (λ (r : Bor (List Value)). r.now)) ∙ none) in
    ok_weaker c.give_group.result _ _
    (λ _ e given is.
    let there = together_there c.args.clauses.now (seen refs) given some is in
    e there.0 there.1 ∙ ap (λ os. c.args.outs.now ++ os) (sym (append-nil _) ∙ there.2)) c.give_group.ensures
