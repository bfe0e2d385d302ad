use Rattle.std.proofs.Common.{◌++◌, ◌∙◌, List, ℕ, append_assoc, take, ap, subst, arith}
use Rattle.std.specs.List.{concat, Contains}
use Rattle.region_choice.specs.steps.Counting.{AreCounts}
use Rattle.region_choice.proofs.Counting.{contains_concat, ports_more}
use Rattle.region_choice.proofs.connections.count_ports.Goals as goal
use Rattle.spl_value.proofs.Lists.{item_there}

pub count-requires : goal.count-requires
count-requires c = record {
  within = λ s h.
      (let inside = c.requires.within s (contains_concat c.args.ins.now c.loop-port.port-index c.port-item.result s
      (item_there c.args.ins.now c.loop-port.port-index c.port-item.result c.loop-port-test.true c.port-item.is) (subst (λ (p : List ℕ). Contains p s) c.as_slice.ensures h)) in
      let many = c.loop-port.invariant.many in
      omega arith);
}

pub loop-port-preserved : goal.loop-port-preserved
loop-port-preserved c = record {
  many = c.count.ensures.length ∙ c.loop-port.invariant.many;
  counted = λ seen h.
      subst (λ all. AreCounts all c.count.new.counts)
      (append_assoc seen (concat (take c.loop-port.port-index c.args.ins.now)) c.as_slice.result.now
      ∙ ap (λ more. seen ++ more) (ap (λ (p : List ℕ). concat (take c.loop-port.port-index c.args.ins.now) ++ p) c.as_slice.ensures
      ∙ ports_more c.args.ins.now c.loop-port.port-index c.port-item.result c.loop-port-test.true c.port-item.is))
      (c.count.ensures.counts (seen ++ concat (take c.loop-port.port-index c.args.ins.now)) (c.loop-port.invariant.counted seen h));
}
