-- Words for parts of the rules of programs that are accepted: a refused check as a refused program.
use Rattle.std.specs.Prelude.{Result}
use Rattle.std.specs.Result.{result_map_both}
use Rattle.language_model.specs.declared.scope.CheckRefusal.{CheckRefusal}
use Rattle.language_model.specs.CheckedGraph.{CheckedGraph}
use Rattle.language_model.specs.declared.refusal.Refusal.{Refusal}
use Rattle.language_model.specs.Refusals.{check_refusal}

abbrev pub refused_check : Result CheckedGraph CheckRefusal → Result CheckedGraph Refusal
refused_check r = result_map_both (λ c. c) check_refusal r
