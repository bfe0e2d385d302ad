use Rattle.std.proofs.Common.{◌∙◌}
use Rattle.std.specs.Prelude.{◌==◌, ◌&&◌}
use Rattle.spl_value.proofs.Bools.{or_cond}
use Rattle.stream_rules.specs.steps.Looked.{has_looked}
use Rattle.stream_rules.proofs.ports.inputs.heads.Looked.add.Goals as goal

pub returns : goal.returns
returns c = λ l t p.
    c.in_ok-insert.ensures.updates.0 (l, t.expansion, t.invocation, p)
    ∙ or_cond ((c.args.left == l) && (c.args.site.expansion == t.expansion) && (c.args.site.invocation == t.invocation) && (c.args.port == p)) (has_looked c.args.self.now l t p)
