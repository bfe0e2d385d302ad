use Rattle.std.proofs.Common.{◌≡◌, ◌∙◌, List, ℕ, Option, Some, ap, set, sym}
use Rattle.pe_fusion.specs.declared.pieces.NumberedPiece.{NumberedPiece}
use Rattle.pe_fusion.specs.steps.Placing.{longer_at, put_at}
use Rattle.pe_fusion.proofs.Loops.{longer-set}
use Rattle.pe_fusion.proofs.pieces.put.Goals as goal

pub returns-in_ok-push-in-Some : goal.returns-in_ok-push-in-Some
returns-in_ok-push-in-Some c =
    let at : ℕ = c.in-Some.at in
    let old : NumberedPiece = c.item_mut.result.now in
    let whole : set c.args.state.now.pieces at (record { ids = c.push.new.self; region = old.region }) ≡ longer_at at c.args.op c.args.state.now.pieces =
    ap (λ (ids : List ℕ). set c.args.state.now.pieces at (record { ids = ids; region = old.region })) c.in_ok-push-in-Some.ensures.ok
    ∙ longer-set c.args.state.now.pieces at c.args.op old c.item_mut.ensures.item in
    let places : c.set.new.self ≡ set c.args.state.now.places c.args.op (Some at) = c.set.ensures in
    let same : record { pieces = set c.args.state.now.pieces at (record { ids = c.push.new.self; region = old.region }); places = c.set.new.self } ≡ put_at (Some at) c.args.op c.args.region c.args.state.now =
    (λ i. record { pieces = whole i; places = places i }) in
    same ∙ ap (λ (place : Option ℕ). put_at place c.args.op c.args.region c.args.state.now) (sym c.in-Some.is)
