-- Of names that repeat an earlier one, the one that comes first in the text.
use Rattle.std.specs.Prelude.{List, [], ◌∷◌, flat_map, if◌then◌else◌, nat_lt, Option, Some, None}
use Rattle.language_model.specs.Declarations.{Name, Sets, repeated_names}

-- of the best so far and one that comes after it in the list, the earlier in the text; the first of two at one place
abbrev pub earlier : Option Name → Name → Name
earlier None n = n
earlier (Some m) n = if nat_lt n.at m.at then n else m

abbrev pub earliest : Option Name → List Name → Option Name
earliest best [] = best
earliest best (n ∷ ns) = earliest (Some (earlier best n)) ns

-- of the names that repeat an earlier one in sets
abbrev pub earliest_in : Option Name → Sets → Option Name
earliest_in best sets = earliest best (flat_map repeated_names sets)
