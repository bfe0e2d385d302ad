-- What a name holds after a failed finish.
use Rattle.std.proofs.Common.{◌≡◌, ℕ, List, length, sym, ◌∙◌, ap, Option, Some, Result, Ok, Err, true}
use Rattle.std.specs.Prelude.{IsOk, OnOk}
use Rattle.std.proofs.Math.Seq.{take-length}
use Rattle.feed_pour.specs.declared.table.Entry.{Entry}
use Rattle.feed_pour.specs.Table.{under, Puts}
use Rattle.feed_pour.specs.Contents.{Finished}
use Rattle.memory_files.specs.Plain.{or_empty}
use Rattle.memory_files.specs.Memory.{memory_told, script_of}

pub finished_front : {E : Type 0} (r : Result (Unit {0}) E) (files now : List (Entry (List ℕ))) (failing : List (Entry (List ℕ))) (name poured value : List ℕ) →
    IsOk r → OnOk r (Puts (under files) (under now) name value) → Some poured ≡ Some value →
    Finished true name (Some poured) (memory_told files failing) (memory_told now failing)
finished_front (Ok u) files now failing name poured value is puts e = let same : value ≡ poured = cc in record {
  others = record { holds = puts.others; script = λ n differs. ap (λ (o : Option (List ℕ)). script_of 0 (or_empty (under failing n)) (or_empty o)) (puts.others n differs) };
  holds = (length poured, puts.here ∙ ap (λ (x : List ℕ). Some x) (same ∙ sym (take-length poured)));
}
finished_front (Err x) files now failing name poured value is puts e = cc
