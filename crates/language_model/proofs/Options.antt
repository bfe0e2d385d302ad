-- Where a mapped option is there, the option is.
use Rattle.std.specs.Prelude.{◌≡◌, Option, None, Some}
use Rattle.std.specs.Option.{option_map}
use Rattle.std.proofs.Common.{refl}

pub mapped : {A B : Type 0} (f : A → B) (o : Option A) (b : B) → option_map f o ≡ Some b → (a : A) × (o ≡ Some a) × (f a ≡ b)
mapped f None b e = absurd cc
mapped f (Some a) b e = (a, refl, cc)
