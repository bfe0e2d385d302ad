-- Mentions as the code has them.
use Rattle.std.specs.Prelude.{List, map}
use Rattle.spl_tree.specs.declared.expression.Placed.{Placed}
use Rattle.spl_tree.specs.Trees.{placed}
use Rattle.language_model.specs.Mentions.{Mentions, Called, Dollar}
use Rattle.language_model.specs.Mentions as D
use Rattle.program_tables.specs.declared.mentions.Mention.{Mention}
use Rattle.program_tables.specs.declared.mentions.Mention.TheVariants as M

abbrev pub seen : Mention → D.Mention
seen (M.Called name) = Called name.now
seen (M.Dollar name) = Dollar name.now

-- a mention as the definition sees it
abbrev pub mentioned : Placed Mention → Placed D.Mention
mentioned m = placed m.at (seen m.what)

abbrev pub mentions_seen : List (Placed Mention) → Mentions
mentions_seen ms = map mentioned ms
