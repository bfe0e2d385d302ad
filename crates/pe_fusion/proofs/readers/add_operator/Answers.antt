use Rattle.std.proofs.Common.{◌≡◌, ◌+◌, ◌++◌, ◌∙◌, List, ℕ, ap, drop, length, subst, sym, arith}
use Rattle.std.specs.List.{concat, Contains}
use Rattle.std.proofs.lemmas.List.{length-append}
use Rattle.spl_value.proofs.Lists.{drop_at, item_there}
use Rattle.pe_fusion.specs.steps.Reading.{Table, add_reads}
use Rattle.pe_fusion.proofs.Loops.{contains_concat, reads-append}
use Rattle.pe_fusion.proofs.ReadTables.{length-reads}
use Rattle.pe_fusion.proofs.readers.add_operator.Goals as goal

pub add_port-requires-clause-within : goal.add_port-requires-clause-within
add_port-requires-clause-within c = λ s h.
    (let inside = c.requires.within s (contains_concat c.args.ins.now c.loop-port.port-index c.port-item.result s
    (item_there c.args.ins.now c.loop-port.port-index c.port-item.result c.loop-port-test.true c.port-item.is) (subst (λ (p : List ℕ). Contains p s) c.as_slice.ensures h)) in
    let many = c.loop-port.invariant.many in
    omega (arith, inside, many))

pub loop-port-preserved : goal.loop-port-preserved
loop-port-preserved c =
    let i : ℕ = c.loop-port.port-index in
    let port : List ℕ = c.port-item.result in
    let others : List ℕ = concat (drop (i + 1) c.args.ins.now) in
    let split : concat (drop i c.args.ins.now) ≡ port ++ others = ap concat (drop_at c.args.ins.now i port c.loop-port-test.true c.port-item.is) in
    let taken : c.as_slice.result.now ≡ port = c.as_slice.ensures in
    let next : c.in_ok-input.input ≡ c.loop-port.input + length port = c.in_ok-input.ensures.next ∙ ap (λ (p : List ℕ). c.loop-port.input + length p) taken in
    let added : c.add_port.new.readers ≡ add_reads c.loop-port.readers c.args.op c.loop-port.input port =
    c.in_ok-input.ensures.readers ∙ ap (λ (p : List ℕ). add_reads c.loop-port.readers c.args.op c.loop-port.input p) taken in
    record {
      rest = ap (λ (t : Table). add_reads t c.args.op c.in_ok-input.input others) added
          ∙ ap (λ n. add_reads (add_reads c.loop-port.readers c.args.op c.loop-port.input port) c.args.op n others) next
          ∙ sym (reads-append c.loop-port.readers c.args.op c.loop-port.input port others)
          ∙ ap (add_reads c.loop-port.readers c.args.op c.loop-port.input) (sym split)
          ∙ c.loop-port.invariant.rest;
      many = ap (λ (t : Table). length t) added ∙ length-reads c.loop-port.readers c.args.op c.loop-port.input port ∙ c.loop-port.invariant.many;
      next = (let a = c.loop-port.invariant.next in let b = ap (λ (xs : List ℕ). length xs) split in let d = length-append port others in let e = next in omega (arith, a, b, d, e));
    }
