use Rattle.std.proofs.Common.{◌≡◌, ◌+◌, ◌++◌, ◌∙◌, List, ℕ, ap, append_assoc, drop, get_or, length, sym, arith}
use Rattle.std.specs.List.{flat_map}
use Rattle.std.proofs.lemmas.List.{length-append}
use Rattle.network_model.specs.Networks.{Link}
use Rattle.pe_fusion.specs.FusedNets.{outer_links}
use Rattle.pe_fusion.specs.steps.Building.{start_at}
use Rattle.pe_fusion.specs.steps.Reading.{read_by}
use Rattle.pe_fusion.proofs.Loops.{outer-append, outs-next}
use Rattle.pe_fusion.proofs.links.add_outs.Goals as goal

pub loop-stream-preserved : goal.loop-stream-preserved
loop-stream-preserved c =
    let i : ℕ = c.loop-stream.stream-index in
    let own : List (ℕ × ℕ) = read_by c.args.readers.now (get_or c.args.outs.now i 0) in
    let others : List (ℕ × ℕ) = flat_map (read_by c.args.readers.now) (drop (i + 1) c.args.outs.now) in
    let split : flat_map (read_by c.args.readers.now) (drop i c.args.outs.now) ≡ own ++ others = outs-next c.args.readers.now c.args.outs.now i c.loop-stream-test.true in
    let read : c.read_by.result.now ≡ own = c.read_by.ensures in
    let next : c.in_ok-output.output ≡ c.loop-stream.output + length own = c.in_ok-output.ensures.next ∙ ap (λ (rs : List (ℕ × ℕ)). c.loop-stream.output + length rs) read in
    let added : c.add_readers.new.links ≡ c.loop-stream.links ++ outer_links (start_at c.args.starts.now) c.args.from c.loop-stream.output own =
    c.in_ok-output.ensures.links ∙ ap (λ (rs : List (ℕ × ℕ)). c.loop-stream.links ++ outer_links (start_at c.args.starts.now) c.args.from c.loop-stream.output rs) read in
    record {
      rest = ap (λ (ls : List Link). ls ++ outer_links (start_at c.args.starts.now) c.args.from c.in_ok-output.output others) added
          ∙ append_assoc c.loop-stream.links (outer_links (start_at c.args.starts.now) c.args.from c.loop-stream.output own) (outer_links (start_at c.args.starts.now) c.args.from c.in_ok-output.output others)
          ∙ ap (λ n. c.loop-stream.links ++ (outer_links (start_at c.args.starts.now) c.args.from c.loop-stream.output own ++ outer_links (start_at c.args.starts.now) c.args.from n others)) next
          ∙ ap (λ (ls : List Link). c.loop-stream.links ++ ls) (sym (outer-append (start_at c.args.starts.now) c.args.from c.loop-stream.output own others))
          ∙ ap (λ rs. c.loop-stream.links ++ outer_links (start_at c.args.starts.now) c.args.from c.loop-stream.output rs) (sym split)
          ∙ c.loop-stream.invariant.rest;
      next = (let a = c.loop-stream.invariant.next in let b = ap (λ (rs : List (ℕ × ℕ)). length rs) split in let d = length-append own others in let e = next in omega (arith, a, b, d, e));
    }
