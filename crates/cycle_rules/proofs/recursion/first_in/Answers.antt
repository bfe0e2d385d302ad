use Rattle.std.proofs.Common.{◌≡◌, ◌∙◌, ◌<◌, length, Some, ap, sym, subst}
use Rattle.std.specs.Prelude.{slice_get, filter_map, MatchOption}
use Rattle.std.proofs.lemmas.Option.{slice_get-get_or}
use Rattle.language_model.specs.Recursion.{calls_among, IsFirstRecursion}
use Rattle.language_model.proofs.parts.Recursion.{call_among}
use Rattle.language_model.specs.parts.Recursion.{IsAcyclic}
use Rattle.cycle_rules.specs.steps.Named.{caller_seen, callers_seen}
use Rattle.cycle_rules.proofs.CallTables.{get_map, get_back}
use Rattle.cycle_rules.proofs.recursion.first_in.Goals as goal
use Rattle.spl_value.proofs.Lists.{get_below}

pub returns-in-Some : goal.returns-in-Some
returns-in-Some c =
    let calls = c.as_slice.result.now in
    let r = c.in-Some.recursion in
    let all = callers_seen c.args.callers.now in
    let first : IsFirstRecursion calls r.caller r.at =
    subst (λ o. MatchOption o (IsAcyclic calls) (λ x. IsFirstRecursion calls x.caller x.at)) c.in-Some.is c.in_ok-recursion.ensures in
    let among : IsFirstRecursion (calls_among all) r.caller r.at = subst (λ cs. IsFirstRecursion cs r.caller r.at) (c.as_slice.ensures.value ∙ c.in_ok-calls.ensures.calls) first in
    let x = c.index-callers-recursion.result in
    let below : r.caller < length c.args.callers.now =
    get_back caller_seen c.args.callers.now r.caller _ (get_below all r.caller (get_back (λ d. filter_map (call_among all) d.called) all r.caller among.list among.of_caller)).1 in
    let at : slice_get c.args.callers.now r.caller ≡ Some x = slice_get-get_or c.args.callers.now r.caller x below ∙ ap Some (sym c.index-callers-recursion.is) in
    record {
      place = r.caller;
      caller = caller_seen x;
      found = get_map caller_seen c.args.callers.now r.caller x at;
      is_first = among;
      name = ap (λ y. y.name.now) c.index-callers-recursion.is ∙ sym c.as_slice-in-Some.ensures ∙ sym c.in_ok-name-in-Some.ensures;
    }
