-- What is kept of each key.
use Rattle.std.specs.Prelude.{ℕ, Bool, true, false, cond, ◌<◌, ◌%◌, ◌==◌, List, [], ◌∷◌, ◌≡◌, length, slice_get, Option, Some, None}
use Rattle.indexmap.specs.IndexMap.{IndexMap, get, values}
use Rattle.spl_value.specs.declared.value.Value.{Value}
use Rattle.language_model.specs.declared.checked.WindowRule.{WindowRule}
use Rattle.language_model.specs.declared.checked.WindowRule.TheVariants as W
use Rattle.stream_model.specs.Windows.{WindowEvent, Insert, Mark, held}
use Rattle.window_policy.specs.declared.part.Part.{Part}
use Rattle.window_policy.specs.Deltas.{Rises}
use Rattle.key_maps.specs.MapKeys.{equal_key}

-- how many of n tuples came since a trigger fired
abbrev pub CountsTo : Option ℕ → ℕ → ℕ → Type 0
CountsTo None since n = Unit {0}
CountsTo (Some every) since n = (0 < every) × (since ≡ n % every)

-- whether the last of n tuples is one after each `every` of them: without it, none is
abbrev pub turns_at : Option ℕ → ℕ → Bool
turns_at None n = false
turns_at (Some every) n = (n % every) == 0

abbrev pub CountsBy : WindowRule → ℕ → ℕ → Type 0
CountsBy (W.TumblingCount count) since n = 0 < count
CountsBy (W.TumblingDelta a limit) since n = Unit {0}
CountsBy W.TumblingPunct since n = Unit {0}
CountsBy (W.SlidingCount keep every) since n = CountsTo every since n
CountsBy (W.SlidingDelta a limit every) since n = CountsTo every since n

-- the attribute of a sliding delta rises, where that is known
abbrev pub RisesWhere : WindowRule → Bool → List (List Value) → Type 0
RisesWhere (W.SlidingDelta a limit every) known ts = known ≡ true → Rises a ts
RisesWhere (W.TumblingCount n) known ts = Unit {0}
RisesWhere (W.TumblingDelta a limit) known ts = Unit {0}
RisesWhere W.TumblingPunct known ts = Unit {0}
RisesWhere (W.SlidingCount keep every) known ts = Unit {0}

-- a part holds what the window of its key does, by the tuples of the key, the newest first
pub record Keeps (rule : WindowRule) (part : Part) (ts : List (List Value)) : Type 0 where
  pub items : part.kept.items ≡ held rule ts
  pub count : CountsBy rule part.since (length ts)
  pub rises : RisesWhere rule part.rises part.kept.items

-- nothing is kept for a key without tuples
abbrev pub At : WindowRule → Option Part → List (List Value) → Type 0
At rule None ts = ts ≡ []
At rule (Some part) ts = Keeps rule part ts × (0 < length ts)

-- the place of the key of the newest tuple, where no marker came after it
abbrev pub NewestAt : {S : Type 0} → IndexMap (List Value) Part S → ℕ → List WindowEvent → Type 0
NewestAt parts place [] = Unit {0}
NewestAt parts place (Mark ∷ h) = Unit {0}
NewestAt parts place (Insert key t ∷ h) = slice_get (values parts) place ≡ get equal_key parts key

-- whether a key came: it is noted where markers flush, and elsewhere something is kept for it
abbrev pub noted_or : Bool → Bool → Bool → Bool
noted_or flushes noted kept = cond flushes noted kept
