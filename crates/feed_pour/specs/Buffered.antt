-- What a pour with a buffer took.
use Rattle.std.specs.Prelude.{ℕ, List, drop, Option}
use Rattle.std.specs.Io.KnownBytes.{append_known}
use Rattle.feed_pour.specs.declared.files.FilePour.{FilePour}

-- the bytes that the file holds, where it says so, and then those of the buffer that are not written
abbrev pub file_poured : {F : Type 0} → (F → Option (List ℕ)) → FilePour F → Option (List ℕ)
file_poured contents pour = append_known (contents pour.file) (drop pour.written pour.buffer.items)
