-- When a merger by pulses gives nothing.
use Rattle.std.specs.Prelude.{◌≡◌, ◌<◌, ◌⊎◌, ℕ, true, None, Some}
use Rattle.spl_value.specs.declared.item.Item.{Item}
use Rattle.channel_heads.specs.Held.{Held, head_at, is_waiting, width_of}

-- there is no head, or a channel that isn't closed and holds no head has a bound below each head's number
abbrev pub IsHeldBack : Held → Type 0
IsHeldBack h = ((c : ℕ) → c < width_of h → head_at h c ≡ None)
    ⊎ ((d : ℕ) × (d < width_of h) × ((c n : ℕ) (x : Item) → head_at h c ≡ Some (n, x) → is_waiting h n d ≡ true))
