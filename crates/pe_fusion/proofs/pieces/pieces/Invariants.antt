use Rattle.std.proofs.Common.{◌≡◌, [], None, drop, length, replicate}
use Rattle.pe_fusion.specs.steps.Placing.{AreWithin, put_all}
use Rattle.pe_fusion.proofs.pieces.pieces.Given as goal

abbrev pub invariant-loop-op : goal.invariant-loop-op
invariant-loop-op l = record {
  rest : put_all l.graph l.regions l.readers l.state (drop l.op-index l.graph.topo)
      ≡ put_all l.graph l.regions l.readers (record { pieces = []; places = replicate (length l.graph.ops) None }) l.graph.topo;
  many : length l.state.places ≡ length l.graph.ops;
  within : AreWithin l.state;
}
