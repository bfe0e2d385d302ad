use Rattle.std.proofs.Common.{◌≡◌, sym, ◌∙◌, ap, List, Some, None, rules, position}
use Rattle.feed_pour.specs.declared.table.Entry.{Entry}
use Rattle.feed_pour.proofs.Tables.{hits, not_known, puts_at, puts_end}
use Rattle.feed_pour.proofs.table.put.Goals as goal

pub returns-in_err-name-in-None-clause-known : goal.returns-in_err-name-in-None-clause-known
returns-in_err-name-in-None-clause-known g c some =
    let found : position (hits c.args.name.now) c.args.table.now.items ≡ None =
    ap (λ (t : List (Entry _)). position (hits c.args.name.now) t) (sym c.as_slice.ensures.value) ∙ sym c.in-None.ensures in
    absurd (not_known c.args.table.now.items c.args.name.now found some)

pub returns-in_err-push-in-None-clause-known : goal.returns-in_err-push-in-None-clause-known
returns-in_err-push-in-None-clause-known g c some =
    let found : position (hits c.args.name.now) c.args.table.now.items ≡ None =
    ap (λ (t : List (Entry _)). position (hits c.args.name.now) t) (sym c.as_slice.ensures.value) ∙ sym c.in-None.ensures in
    absurd (not_known c.args.table.now.items c.args.name.now found some)

pub returns-in-Some-clause-ok : goal.returns-in-Some-clause-ok
returns-in-Some-clause-ok g c =
    let found : position (hits c.args.name.now) c.args.table.now.items ≡ Some c.in-Some.at =
    ap (λ (t : List (Entry _)). position (hits c.args.name.now) t) (sym c.as_slice.ensures.value) ∙ sym c.in-Some.ensures in
    puts_at c.args.table.now.items c.args.name.now c.in-Some.at _ c.index_mut.result.now found (search rules)

pub returns-in_ok-push-in-None-clause-ok : goal.returns-in_ok-push-in-None-clause-ok
returns-in_ok-push-in-None-clause-ok g c =
    let found : position (hits c.args.name.now) c.args.table.now.items ≡ None =
    ap (λ (t : List (Entry _)). position (hits c.args.name.now) t) (sym c.as_slice.ensures.value) ∙ sym c.in-None.ensures in
    rw c.in_ok-push-in-None.ensures.items (puts_end c.args.table.now.items c.args.name.now _ found (search rules))
