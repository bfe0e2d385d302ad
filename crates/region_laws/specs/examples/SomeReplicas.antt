-- A region of a Filter and an Aggregate, which keeps its windows by keys.
use Rattle.std.specs.Prelude.{pos, List, [], ◌∷◌, None, codes}
use Rattle.spl_value.specs.declared.value.Value.{Value}
use Rattle.spl_value.specs.declared.value.Value.TheVariants as V
use Rattle.language_model.specs.declared.checked.CheckedClauses.TheVariants as A
use Rattle.language_model.specs.declared.checked.WindowRule.TheVariants as W
use Rattle.stream_model.specs.declared.plan.Merge.TheVariants as M
use Rattle.stream_model.specs.declared.plan.Region.{Region}
use Rattle.stream_model.specs.Meaning.{Graph}
use Rattle.stream_model.specs.Operators.{Operator}
use Rattle.stream_model.specs.Regions.{ops_of}
use Rattle.stream_model.specs.examples.SomeRegions.{abv, numbers, partitioned, row_of, three}

abbrev pub filtered_sums : Graph
filtered_sums = row_of abv (A.Filter None) abv
    (partitioned (W.TumblingCount 2) (0 ∷ 1 ∷ []) three) (numbers (codes "a" ∷ codes "b" ∷ codes "s" ∷ []))

abbrev pub chained : List Operator
chained = ops_of filtered_sums (1 ∷ 2 ∷ [])

abbrev pub filter : List Operator
filter = ops_of filtered_sums (1 ∷ [])

abbrev pub one_tuple : List Value
one_tuple = V.Int (pos 1) ∷ V.Int (pos 2) ∷ V.Int (pos 3) ∷ []

-- its one region
abbrev pub keyed_region : Region
keyed_region = record { ops = 1 ∷ 2 ∷ []; key = 0 ∷ 1 ∷ []; merge = M.Pulses }
