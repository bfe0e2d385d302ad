use Rattle.std.proofs.Common.{◌∷◌, ◌++◌, [], map, slice_get, sym, ap, ◌∙◌, arith}
use Rattle.std.proofs.lemmas.List.{map_push}
use Rattle.running_folds.specs.Tallies.{Tallied, fold_of}
use Rattle.running_folds.proofs.Steps.{each_more, take_next}
use Rattle.running_folds.proofs.tallies.tallies_of.Goals as goal

pub loop-fold-preserved : goal.loop-fold-preserved
loop-fold-preserved c = record {
  folds = ap (map fold_of) c.in_ok-push.ensures.items ∙ map_push fold_of c.loop-fold.tallies.items c.new.result
      ∙ (λ i. c.loop-fold.invariant.folds i ++ c.new.ensures.fold i ∷ []) ∙ take_next c.args.folds.now c.loop-fold.fold-index _ (omega arith);
  each = λ k t is. each_more (λ m. Tallied m []) c.loop-fold.tallies.items c.new.result c.loop-fold.invariant.each c.new.ensures.tallied k t (sym (ap (λ ms. slice_get ms k) c.in_ok-push.ensures.items) ∙ is);
}
