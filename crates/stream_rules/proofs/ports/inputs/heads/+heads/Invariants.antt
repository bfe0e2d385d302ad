use Rattle.std.proofs.Common.{◌≡◌, ◌+◌, ◌*◌, drop}
use Rattle.language_model.specs.StreamTypes.{each_name, input_heads}
use Rattle.stream_rules.specs.steps.Among.{graph_of, unit_of}
use Rattle.body_sites.specs.Bodies.{body_seen}
use Rattle.stream_rules.specs.steps.Looked.{HavePassed}
use Rattle.stream_rules.proofs.ports.inputs.heads.+heads.Given as goal

abbrev pub invariant-names_pass-loop-name : goal.invariant-names_pass-loop-name
invariant-names_pass-loop-name l = record {
  passed : HavePassed (unit_of l.streams) (graph_of l.streams) l.schema l.looked;
  rest : each_name (input_heads l.left (unit_of l.streams) (graph_of l.streams) l.schema (body_seen l.body)) l.names
      ≡ each_name (input_heads l.left (unit_of l.streams) (graph_of l.streams) l.schema (body_seen l.body)) (drop l.name-index l.names);
}

abbrev pub decreases-names_pass : goal.decreases-names_pass
decreases-names_pass l = 3 * l.left + 1

abbrev pub decreases-name_passes : goal.decreases-name_passes
decreases-name_passes l = 3 * l.left

abbrev pub decreases-port_passes : goal.decreases-port_passes
decreases-port_passes l = 3 * l.left + 2
