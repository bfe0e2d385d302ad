use Rattle.std.proofs.Common.{◌≡◌, ◌∙◌, ◌<◌, ◌-◌, ℕ, List, suc, drop, length, Some, ap, sym, arith}
use Rattle.std.specs.Prelude.{slice_get}
use Rattle.std.specs.HashMap as hash
use Rattle.std.specs.Str.{bytes_eq}
use Rattle.std.proofs.lemmas.Option.{slice_get-get_or}
use Rattle.std.proofs.lemmas.Map.Text.{hash_map_updates_str}
use Rattle.cycle_rules.specs.steps.Named.{callers_seen, place_from}
use Rattle.cycle_rules.proofs.CallTables.{table_more}
use Rattle.cycle_rules.proofs.recursion.places_by_name.Goals as goal

pub loop-place-preserved : goal.loop-place-preserved
loop-place-preserved c =
    let n = c.loop-place.place - 1 in
    let x = c.index-callers-place.result in
    let a = c.loop-place.auto.place in
    let t = c.loop-place-test.true in
    let one : c.loop-place.place ≡ suc n = omega arith in
    let below : n < length c.args.callers.now = omega arith in
    let at : slice_get c.args.callers.now n ≡ Some x = slice_get-get_or c.args.callers.now n x below ∙ ap Some (sym c.index-callers-place.is) in
    let named : c.as_slice.result.now ≡ x.name.now = c.as_slice.ensures ∙ ap (λ y. y.name.now) (sym c.index-callers-place.is) in
    let put = hash_map_updates_str c.as_slice.result.now c.loop-place.places c.insert.new.self (Some n) c.in_ok-insert.ensures.updates in
    let before : (q : List ℕ) → hash.get_by (λ k. bytes_eq q k.now) c.loop-place.places ≡ place_from (suc n) (callers_seen (drop (suc n) c.args.callers.now)) q =
    λ q. c.loop-place.invariant q ∙ ap (λ m. place_from m (callers_seen (drop m c.args.callers.now)) q) one in
    table_more (λ q. hash.get_by (λ k. bytes_eq q k.now) c.loop-place.places) (λ q. hash.get_by (λ k. bytes_eq q k.now) c.insert.new.self) c.args.callers.now n x c.as_slice.result.now at named put before
