-- What is known of an expansion while its streams are numbered.
use Rattle.std.specs.Prelude.{◌≡◌}
use Rattle.spl_tree.specs.declared.graph.Site.{Site}
use Rattle.language_model.specs.Composites.{composites}
use Rattle.stream_numbering.specs.declared.standing.Standing.{Standing}
use Rattle.stream_numbering.specs.steps.SiteTable.{Parts, number_at, first_at, body_at}

-- it speaks of the bodies and operators of an expansion
pub record Describes (s : Standing) (parts : Parts) : Type 0 where
  pub composites : parts.composites ≡ composites s.composites.now.unit.now
  pub bodies : parts.bodies ≡ s.bodies.now
  pub operators : (q : Site) → number_at s.operators q ≡ first_at 0 parts.operations q
  pub inner : (q : Site) → number_at s.inner q ≡ body_at 0 parts.bodies q
