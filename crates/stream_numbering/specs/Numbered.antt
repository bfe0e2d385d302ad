-- The parts of a graph whose streams are numbered.
use Rattle.std.specs.Prelude.{◌≡◌}
use Rattle.language_model.specs.Expansion.{Made}
use Rattle.language_model.specs.Numbering.{ops_from, streams_from, expansions_from}
use Rattle.stream_numbering.specs.declared.numbering.Numbered.{Numbered}

-- they are those of the operators and expansions that are made
pub record IsNumbered (made : Made) (n : Numbered) : Type 0 where
  pub ops : n.ops ≡ ops_from made 0 made.ops
  pub streams : n.streams ≡ streams_from 0 made.ops
  pub expansions : n.expansions ≡ expansions_from made 0 made.expansions
