use Rattle.std.proofs.Common.{refl}
use Rattle.stream_model.specs.CheckedMeaning.{graph_of}
use Rattle.region_choice.proofs.Plans.{one_plan, some_plan}
use Rattle.region_choice.proofs.Soundness.{all_valid, sound}
use Rattle.region_choice.proofs.laws.plan_law.Goals as goal

pub returns : goal.returns
returns c = record {
  exists = λ c k. some_plan (graph_of c) (sound c (graph_of c) k refl) (all_valid c (graph_of c) k refl);
  one = λ c k. one_plan (graph_of c) (sound c (graph_of c) k refl) (all_valid c (graph_of c) k refl);
}
