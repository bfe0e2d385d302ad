use Rattle.std.proofs.Common.{ap, ◌∙◌}
use Rattle.std.specs.Prelude.{not, ◌||◌}
use Rattle.std.specs.List.{list_any}
use Rattle.std.specs.Str.{bytes_eq}
use Rattle.spl_value.proofs.Bools.{or_cond}
use Rattle.duplicate_rules.proofs.declarations.names.NamesBefore.add.Goals as goal

pub returns : goal.returns
returns c = λ before hold. (
  c.in_ok-insert.ensures.added ∙ ap not (hold c.as_slice.result ∙ ap (λ b. list_any (λ m. bytes_eq m.what b) before) c.as_slice.ensures),
  λ q.
      c.in_ok-insert.ensures.updates.0 q
      ∙ or_cond (bytes_eq c.as_slice.result.now q.now) _
      ∙ (λ i. bytes_eq (c.as_slice.ensures i) q.now || hold q i),
)
