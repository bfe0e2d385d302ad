-- The plans of some graphs.
use Rattle.std.proofs.Common.{[], ◌∷◌, refl, inl, inr}
use Rattle.spl_tree.specs.declared.code.Code.TheVariants as C
use Rattle.stream_model.specs.Regions.{IsPlan}
use Rattle.stream_model.specs.examples.SomeRegions.{by_second, one_region, two_regions}

pub shared_plan : IsPlan (by_second (0 ∷ 1 ∷ [])) one_region
shared_plan = record {
  regions = (record { some = refl; safe = simp C.outs-Name; whole = refl; key = simp C.outs-Name; merge = refl }, tt);
  once = λ n. refl;
  in_order = inr (inl (refl, tt));
}

-- the second Aggregate's key isn't among the first one's
pub other_plan : IsPlan (by_second (0 ∷ [])) two_regions
other_plan = record {
  regions = (
    record { some = refl; safe = refl; whole = simp C.outs-Name; key = refl; merge = refl },
    (record { some = refl; safe = refl; whole = refl; key = refl; merge = refl }, tt),
  );
  once = λ n. refl;
  in_order = inr (inl (refl, inl (refl, tt)));
}
