-- Words for parts of the rules of operators: the port of an input.
use Rattle.std.specs.Prelude.{ℕ, List, slice_index}

-- the port of an input
abbrev pub port_at : List ℕ → ℕ → ℕ
port_at ps i = slice_index ps i
