-- Regions to which operators are added.
use Rattle.std.specs.Prelude.{◌≡◌, ℕ, ◌&&◌, Bool, true, false, List, [], ◌∷◌, ◌++◌, filter, Option, Some, if◌then◌else◌}
use Rattle.std.specs.List.{list_all}
use Rattle.std.specs.Option.{option_and_then}
use Rattle.attribute_flow.specs.Chains.{AreNumbers, traced}
use Rattle.stream_model.specs.declared.plan.Merge.{Merge}
use Rattle.stream_model.specs.declared.plan.Merge.TheVariants as M
use Rattle.stream_model.specs.declared.plan.Region.{Region}
use Rattle.stream_model.specs.Meaning.{Graph}
use Rattle.stream_model.specs.Operators.{Operator}
use Rattle.stream_model.specs.Regions.{any_keyed, chain_key, ops_of}
use Rattle.stream_model.specs.parts.Regions.{is_one_each}
use Rattle.region_choice.specs.declared.growing.Growing.{Growing}
use Rattle.region_choice.specs.declared.keys.KeySource.{KeySource}
use Rattle.region_choice.specs.steps.GraphChains.{has_key}
use Rattle.region_choice.specs.steps.Keys.{is_copied, source_at}

abbrev pub nothing : Growing
nothing = record { ops = []; key = []; keyed = false; one_each = true; segment = []; sources = [] }

-- ---- copies

-- from the attributes of the stream before the segment to those of the stream that the region reads
abbrev pub leads : Growing → ℕ → Option ℕ
leads growing b = if growing.keyed then source_at growing.sources b else Some b

-- the segment and its keys' sources say of which attribute an attribute of the last stream is a copy
abbrev pub LeadsBack : Graph → Growing → Type 0
LeadsBack g growing = (a : ℕ) → traced g growing.ops a ≡ option_and_then (leads growing) (traced g growing.segment a)

abbrev pub key_source : Graph → List ℕ → ℕ → KeySource
key_source g ops p = record { place = p; source = traced g ops p }

-- the key with a Keyed operator more, of these attributes of the stream that the region reads
abbrev pub key_with : Growing → List KeySource → List ℕ → List ℕ
key_with growing sources entries = filter (is_copied sources) (if growing.keyed then growing.key else entries)

-- the first of these operators, or else the one after them
abbrev pub first_or : ℕ → List ℕ → ℕ
first_or n [] = n
first_or n (m ∷ ns) = m

-- ---- one operator more

-- what is kept is that of the operators so far
pub record IsGrown (g : Graph) (growing : Growing) : Type 0 where
  pub key : growing.key ≡ chain_key (ops_of g growing.ops)
  pub keyed : growing.keyed ≡ any_keyed (ops_of g growing.ops)
  pub one_each : growing.one_each ≡ list_all is_one_each (ops_of g growing.ops)
  pub safe : has_key (ops_of g growing.ops) ≡ true
  pub leads_back : LeadsBack g growing
  pub numbers : AreNumbers g growing.ops
  pub in_segment : AreNumbers g growing.segment

abbrev pub added : Operator → ℕ → Growing → Growing
added o n growing = record growing { ops = growing.ops ++ n ∷ []; segment = growing.segment ++ n ∷ []; one_each = growing.one_each && is_one_each o }

pub record IsLonger (g : Graph) (old : Growing) (n : ℕ) (new : Growing) : Type 0 where
  pub ops : new.ops ≡ old.ops ++ n ∷ []
  pub grown : IsGrown g new

-- the operator was added, or would leave the region without a key
abbrev pub Grows : Graph → Growing → ℕ → Bool → Growing → Type 0
Grows g old n true new = IsLonger g old n new
Grows g old n false new = has_key (ops_of g (old.ops ++ n ∷ [])) ≡ false

-- ---- the region

abbrev pub merge_of : Bool → Bool → Merge
merge_of keyed true = if keyed then M.Numbers else M.Turns
merge_of keyed false = M.Pulses

abbrev pub region_of : Growing → Region
region_of growing = record { ops = growing.ops; key = growing.key; merge = merge_of growing.keyed growing.one_each }
