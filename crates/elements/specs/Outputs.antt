-- What an element notes of the packets that it puts on its outputs.
use Prim.Native.Nat.{suc}
use Rattle.std.specs.Prelude.{◌≡◌, ◌==◌, ◌||◌, ℕ, Bool, List, [], ◌∷◌, length, slice_get, Option, Some, None, if◌then◌else◌}
use Rattle.spl_value.specs.declared.packet.Packet.{Packet}
use Rattle.spl_value.specs.Numbered.{is_last}
use Rattle.elements.specs.declared.output.Output.{Output}

-- a packet is put on one of them
pub record IsPut (at : ℕ) (packet : Packet) (old new : List Output) : Type 0 where
  pub count : length new ≡ length old
  pub each : (o : ℕ) (y : Output) → slice_get new o ≡ Some y
      → (x : Output) × (slice_get old o ≡ Some x)
      × (y.ended ≡ (if at == o then x.ended || is_last packet else x.ended))

-- one of them is noted as ended, or as not ended
pub record IsSet (at : ℕ) (ended : Bool) (old new : List Output) : Type 0 where
  pub count : length new ≡ length old
  pub each : (o : ℕ) (y : Output) → slice_get new o ≡ Some y
      → (x : Output) × (slice_get old o ≡ Some x) × (y.ended ≡ (if at == o then ended else x.ended))

-- of outputs, counted from o on, the first on which neither `Close` nor `Cut` was put
abbrev pub first_open : ℕ → List Output → Option ℕ
first_open o [] = None
first_open o (x ∷ outputs) = if x.ended then first_open (suc o) outputs else Some o
