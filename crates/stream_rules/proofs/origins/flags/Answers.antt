use Rattle.std.proofs.Common.{◌≡◌, false, length, sym, ◌∙◌, arith}
use Rattle.std.proofs.lemmas.Option.{unwrap_or-slice_get}
use Rattle.std.specs.Option.{unwrap_or}
use Rattle.language_model.specs.Leading.{leads_back}
use Rattle.stream_rules.proofs.GrownRows.{grown_each, grown_size}
use Rattle.stream_rules.proofs.OriginRows.{tells_of}
use Rattle.stream_rules.proofs.origins.flags.Goals as goal

pub loop-stream-preserved : goal.loop-stream-preserved
loop-stream-preserved c =
    let before = c.loop-stream.invariant in
    let grown = c.in_ok-push.ensures.items in
    record {
      size = grown_size _ _ _ _ before.size grown;
      each = λ f steps k h.
          sym (unwrap_or-slice_get c.push.new.self.items k false)
          ∙ grown_each _ _ _ _ before.size grown (λ k o. unwrap_or o false ≡ leads_back (length c.args.next.now) f k) (c.leads_back.ensures f steps)
          (λ k less. unwrap_or-slice_get c.loop-stream.back.items k false ∙ before.each f steps k less) k h;
    }

pub returns : goal.returns
returns c = λ f steps.
    tells_of (length c.args.next.now) c.args.next.now f c.loop-stream.back.items steps (omega arith) (λ k h. c.loop-stream.invariant.each f steps k (omega arith))
