-- What a shelf in memory without faults keeps.
use Rattle.std.specs.Prelude.{ℕ, List, Option}
use Rattle.feed_pour.specs.Table.{under}
use Rattle.memory_files.specs.declared.faultless.PlainShelf.{PlainShelf}

-- what each name holds, where it holds anything
abbrev pub plain_files : PlainShelf → List ℕ → Option (List ℕ)
plain_files shelf = under shelf.files.items
