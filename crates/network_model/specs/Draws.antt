-- The generator of draws.
use Rattle.std.specs.Prelude.{ℕ, ◌+◌, ◌*◌, ◌/◌, ◌%◌, ◌^◌}

-- the next state of the draws, and the draw
abbrev pub next_draw : ℕ → ℕ
next_draw x = (x * 1103515245 + 12345) % 2 ^ 31

abbrev pub draw : ℕ → ℕ
draw x = next_draw x / 65536
