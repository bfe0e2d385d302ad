use Rattle.std.proofs.Common.{◌≡◌, ◌∷◌, [], List, Some, cond, slice_get, sym, ap, subst, ◌∙◌, arith}
use Rattle.indexmap.specs.IndexMap.{get, insert_entry, values, with_value_at}
use Rattle.indexmap.proofs.CallerLemmas.{insert_entry-new}
use Rattle.indexmap.specs.IndexSet.{contains}
use Rattle.spl_value.specs.declared.value.Value.{Value}
use Rattle.stream_model.specs.Windows.{tuples_with, held, fires_after, flushes_at_markers}
use Rattle.stream_model.specs.parts.Windows.{relevant}
use Rattle.window_policy.specs.Answers.{IsAllowed, firing_of}
use Rattle.key_maps.specs.MapKeys.{equal_key}
use Rattle.window_policy.specs.Parts.{At, Keeps}
use Rattle.window_policy.specs.steps.Parts.{Notes}
use Rattle.window_policy.proofs.Parts.{Added}
use Rattle.window_policy.proofs.Places.{kept_there, nothing, place_of_new, place_stays, updates_there}
use Rattle.window_policy.proofs.Windows.{inserted, newest, fires_by, kept_at, none_at, known_stays, known_more, came_where_relevant}
use Rattle.window_policy.proofs.window.Window.insert.Goals as goal

pub returns-in-Some-clause-fires : goal.returns-in-Some-clause-fires
returns-in-Some-clause-fires c rule h stood =
    let key = c.args.key.now in
    let ts = tuples_with key (relevant rule h) in
    let there = kept_there c.args.self.now.parts key c.in-Some.place (sym c.in-Some.ensures.index) _ _ c.pair_mut-part.ensures.value in
    let kept = kept_at rule _ _ ts there (stood.at key) in
    let next = subst (λ r. Added c.args.tuple ts r c.pair_mut-part.result.1.now c.add.new.self c.in_ok-fired.fired) stood.by (c.in_ok-fired.ensures ts) kept.0 in
    ap (firing_of c.in_ok-fired.fired) (sym (newest rule key c.args.tuple h)) ∙ next.1 ∙ fires_by rule key c.args.tuple h

pub returns-in-Some-clause-stands : goal.returns-in-Some-clause-stands
returns-in-Some-clause-stands c rule h stood =
    let key = c.args.key.now in
    let ts = tuples_with key (relevant rule h) in
    let there = kept_there c.args.self.now.parts key c.in-Some.place (sym c.in-Some.ensures.index) _ _ c.pair_mut-part.ensures.value in
    let kept = kept_at rule _ _ ts there (stood.at key) in
    let next = subst (λ r. Added c.args.tuple ts r c.pair_mut-part.result.1.now c.add.new.self c.in_ok-fired.fired) stood.by (c.in_ok-fired.ensures ts) kept.0 in
    let parts = c.args.self.now.parts in
    let place = c.in-Some.place in
    let new = with_value_at parts place c.add.new.self in
    let updates = updates_there parts key place (sym c.in-Some.ensures.index) _ _ c.pair_mut-part.ensures.value c.pair_mut-part.ensures.unique c.add.new.self in
    record {
      by = stood.by;
      allowed = stood.allowed;
      at = inserted rule (At rule) parts new key c.args.tuple c.add.new.self h updates stood.at (next.0, omega arith);
      known = known_stays (flushes_at_markers rule) (contains equal_key c.args.self.now.known) (get equal_key parts) (get equal_key new) c.add.new.self key c.args.tuple h
          (came_where_relevant rule key h kept.1) updates stood.known;
      newest = place_stays parts key place (sym c.in-Some.ensures.index) c.add.new.self;
    }

pub returns-clause-fires : goal.returns-clause-fires
returns-clause-fires c rule h stood =
    let key = c.args.key.now in
    let absent = nothing (get equal_key c.args.self.now.parts key) c.in_default.ensures.found in
    let none = none_at rule _ _ absent (stood.at key) in
    let made = subst
    (λ r. IsAllowed r → Keeps r c.in_ok-part.part (c.args.tuple ∷ []) × (firing_of c.in_ok-part.fired (held r (c.args.tuple ∷ [])) ≡ fires_after r c.args.tuple []))
    stood.by c.in_ok-part.ensures.kept stood.allowed in
    ap (firing_of c.in_ok-part.fired)
    (sym (newest rule key c.args.tuple h) ∙ ap (λ (xs : List (List Value)). held rule (c.args.tuple ∷ xs)) none)
    ∙ made.1
    ∙ ap (λ (xs : List (List Value)). fires_after rule c.args.tuple xs) (sym none)
    ∙ fires_by rule key c.args.tuple h

pub returns-clause-stands : goal.returns-clause-stands
returns-clause-stands c rule h stood =
    let key = c.args.key.now in
    let absent = nothing (get equal_key c.args.self.now.parts key) c.in_default.ensures.found in
    let none = none_at rule _ _ absent (stood.at key) in
    let made = subst
    (λ r. IsAllowed r → Keeps r c.in_ok-part.part (c.args.tuple ∷ []) × (firing_of c.in_ok-part.fired (held r (c.args.tuple ∷ [])) ≡ fires_after r c.args.tuple []))
    stood.by c.in_ok-part.ensures.kept stood.allowed in
    let keeps = subst (λ (xs : List (List Value)). Keeps rule c.in_ok-part.part (c.args.tuple ∷ xs)) (sym none) made.0 in
    let parts = c.args.self.now.parts in
    let own = c.in_ok-own.ensures ∙ c.as_slice.ensures in
    let updates = λ (q : List Value). c.in_ok-insert.ensures.updates.0 q ∙ ap (λ k. cond (equal_key k q) (Some c.in_ok-part.part) (get equal_key parts q)) own in
    let notes = subst (λ r. Notes (flushes_at_markers r) c.args.self.now.known c.begin.new.known key) stood.by c.in_ok-part.ensures.noted in
    record {
      by = stood.by;
      allowed = stood.allowed;
      at = inserted rule (At rule) parts c.insert.new.self key c.args.tuple c.in_ok-part.part h updates stood.at (keeps, omega arith);
      known = known_more (flushes_at_markers rule) (contains equal_key c.args.self.now.known) (contains equal_key c.begin.new.known)
          (get equal_key parts) (get equal_key c.insert.new.self) c.in_ok-part.part key c.args.tuple h notes updates stood.known;
      newest = ap (slice_get (values c.insert.new.self)) c.len-self.ensures.len
          ∙ place_of_new parts c.insert.new.self key c.in_ok-part.part
          (c.in_ok-insert.ensures.entries ∙ ap (λ k. insert_entry equal_key parts.entries k c.in_ok-part.part) own ∙ insert_entry-new equal_key parts key c.in_ok-part.part absent)
          (ap (get equal_key c.insert.new.self) (sym own) ∙ c.in_ok-insert.ensures.updates.1);
    }
