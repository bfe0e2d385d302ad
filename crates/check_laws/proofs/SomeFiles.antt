-- Which of some parts have files of their own.
use Rattle.std.specs.Prelude.{◌≡◌, true, false, [], ◌∷◌, codes}
use Rattle.std.proofs.Common.{refl}
use Rattle.language_model.specs.Files.{OwnFiles}
use Rattle.check_laws.specs.examples.SomeFiles.{sink_of, source_of, two_sinks}
use Rattle.check_laws.proofs.OwnFiles.{own_files}

pub two_own : OwnFiles (codes "report" ∷ []) two_sinks
two_own = own_files (codes "report" ∷ []) two_sinks (refl, (refl, (refl, tt)), (refl, (refl, tt), (refl, tt, tt)))

pub two_of_one : OwnFiles [] (sink_of (codes "b") ∷ source_of (codes "a") ∷ sink_of (codes "b") ∷ []) → ⊥
two_of_one own = let none : true ≡ false = own.once [] (source_of (codes "a") ∷ sink_of (codes "b") ∷ []) (codes "b") refl in absurd cc

pub sink_first : OwnFiles [] (sink_of (codes "a") ∷ source_of (codes "a") ∷ []) → ⊥
sink_first own = let none : true ≡ false = own.apart (codes "a") refl in absurd cc

pub source_first : OwnFiles [] (source_of (codes "a") ∷ sink_of (codes "a") ∷ []) → ⊥
source_first own = let none : true ≡ false = own.apart (codes "a") refl in absurd cc

pub name_of_sink : OwnFiles (codes "b" ∷ []) (sink_of (codes "b") ∷ []) → ⊥
name_of_sink own = let none : true ≡ false = own.free (codes "b") refl in absurd cc
