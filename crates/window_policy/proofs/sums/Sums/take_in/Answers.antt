use Rattle.std.proofs.Common.{◌≡◌, ◌∷◌, ◌++◌, [], List, length, map, sym, ap, subst, ◌∙◌, arith}
use Rattle.std.specs.Vec.{with_items}
use Rattle.std.proofs.lemmas.List.{with_items_is}
use Rattle.spl_value.specs.declared.value.Value.{Value}
use Rattle.running_folds.specs.declared.moving.Moving.{Moving}
use Rattle.running_folds.specs.Moving.{AreMoving, fold_of}
use Rattle.window_policy.specs.declared.sums.Sums.{Sums}
use Rattle.window_policy.proofs.Summing.{as_many_rows, moving_taken}
use Rattle.window_policy.proofs.sums.Sums.take_in.Goals as goal

pub returns-clause-moving : goal.returns-clause-moving
returns-clause-moving c folds us t holds few same =
    let long = as_many_rows folds c.args.self.now us holds in
    let args = c.args.args in
    let new = c.pass_all.new.moving in
    let now : Sums = record {
      tallies = c.args.self.now.tallies;
      moving = with_items c.args.self.now.moving new;
      rows = c.append.new.ring;
      since = c.args.self.now.since;
      start = c.args.self.now.start;
      last = c.args.self.now.last;
    } in
    let length_kept = c.pass_all.auto.moving in
    let length_lent = c.deref_mut.ensures.len in
    let fits : length new ≡ c.args.self.now.moving.len = omega (arith, length_kept, length_lent) in
    let whole = with_items_is c.args.self.now.moving new fits in
    let folded = subst (λ (ms : List Moving). length args ≡ length ms → map fold_of new ≡ map fold_of ms) c.deref_mut.ensures.value c.in_ok-pass_all.ensures.folds in
    let passed = subst (λ (ms : List Moving). length args ≡ length ms → (rows : List (List Value)) → AreMoving ms rows → AreMoving new (rows ++ args ∷ []))
    c.deref_mut.ensures.value c.in_ok-pass_all.ensures.moving in
    moving_taken folds c.args.self.now now us t args holds same
    (λ many. ap (map fold_of) whole ∙ folded many)
    (λ many rows were. subst (λ (ms : List Moving). AreMoving ms (rows ++ args ∷ [])) (sym whole) (passed many rows were))
    (c.in_ok-append.ensures (omega (arith, long)))
