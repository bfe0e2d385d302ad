-- The steps in which the parameters of a composite are settled.
use Rattle.std.specs.Prelude.{◌≡◌, ◌<◌, ◌≤◌, ℕ, suc, Bool, true, false, List, [], ◌∷◌, length, Some, None, slice_get, slice_index_or}
use Rattle.std.specs.Option.{option_map_or}
use Rattle.std.proofs.Common.{refl, ap, sym, subst, ◌∙◌, arith, eqb}
use Rattle.std.proofs.Math.ListN.{set}
use Rattle.std.proofs.lemmas.Bool.{eqb-true}
use Rattle.std.proofs.lemmas.List.{get_or-set_same, get_or-set_other}
use Rattle.std.proofs.lemmas.Option.{slice_get-get_or}
use Rattle.spl_tree.specs.declared.unit.CompositeParameter.{CompositeParameter}
use Rattle.language_model.specs.Parameters.{constant_scope, parameter_leads}
use Rattle.dollar_rules.specs.declared.settling.Settled.{Settled}
use Rattle.dollar_rules.specs.steps.Given.{AreSettled, Given, IsDone, IsReady, Keeps, found_at_last, is_marked, marks_in, means, settled_table, table}
use Rattle.dollar_rules.specs.steps.Heads.{passes_at}
use Rattle.dollar_rules.specs.steps.Settling.{IsSettled, Settles}
use Rattle.dollar_rules.proofs.Marks.{marked_none}
use Rattle.dollar_rules.proofs.SettledOnes.{all_settled, apart}

-- ---- at first

unmarked : (marks : List Bool) → ((k : ℕ) → is_marked marks k ≡ false) → marks_in marks ≤ 0
unmarked [] none = omega arith
unmarked (true ∷ bs) none = absurd (let h = none 0 in cc)
unmarked (false ∷ bs) none = unmarked bs (λ k. none (suc k))

pub none_settled : (g : Given) (s : Settled) → length s.marks.items ≡ length g.parameters → ((k : ℕ) → is_marked s.marks.items k ≡ false) → s.scope ≡ constant_scope []
    → IsSettled g s
none_settled g s size none scope = record {
  are = record {
    size = size;
    only = λ place p is m. absurd (let h = none place in cc);
    early = λ place count p is m le. absurd (let h = none place in cc);
  };
  kept = scope ∙ ap constant_scope (sym (marked_none (found_at_last g) s.marks.items g.parameters (unmarked s.marks.items none)));
}

-- ---- one after another

pub still_done : (g : Given) (old new : List Bool) (place : ℕ) → Keeps old new → IsDone g old place → IsDone g new place
still_done g old new place keeps done p is m = keeps place (done p is m)

pub nothing_there : (g : Given) (marks : List Bool) (place : ℕ) → passes_at (means g) g.parameters place ≡ false → IsDone g marks place
nothing_there g marks place none p is m = absurd (let h : means g place p ≡ false = sym (ap (λ o. option_map_or (means g place) o false) is) ∙ none in cc)

pub there_already : (g : Given) (s : Settled) (place : ℕ) → IsSettled g s → IsDone g s.marks.items place → Settles g s s place
there_already g s place settled done = record { settled = settled; keeps = λ k m. m; done = done }

pub on_the_way : (g : Given) (old mid new : Settled) (place : ℕ) → Keeps old.marks.items mid.marks.items → Settles g mid new place → Settles g old new place
on_the_way g old mid new place keeps s = record { settled = s.settled; keeps = λ k m. s.keeps k (keeps k m); done = s.done }

-- the parameter of a place that means something
pub meant_there : (g : Given) (place : ℕ) → passes_at (means g) g.parameters place ≡ true → (p : CompositeParameter) × (slice_get g.parameters place ≡ Some p) × (means g place p ≡ true)
meant_there g place e =
    elim (slice_get g.parameters place) as (λ o. slice_get g.parameters place ≡ o → option_map_or (means g place) o false ≡ true
    → (p : CompositeParameter) × (slice_get g.parameters place ≡ Some p) × (means g place p ≡ true)) [
      | None ↦ λ is h. absurd cc
      | Some p ↦ λ is h. (p, is, h)
    ] refl e

pub each_done : (g : Given) (marks : List Bool) (place : ℕ) (row : List ℕ) → row ≡ parameter_leads g.parameters g.arguments place
    → ((k next : ℕ) → k < length row → slice_get row k ≡ Some next → IsDone g marks next) → IsReady g marks place
each_done g marks place row is done next has =
    let within : has.0 < length row = subst (λ r. has.0 < length r) (sym is) has.1 in
    let at : slice_index_or row has.0 next ≡ next = ap (λ r. slice_index_or r has.0 next) is ∙ has.2 in
    done has.0 next within (slice_get-get_or row has.0 next within ∙ ap Some at)

-- ---- one more

pub one_settled : (g : Given) (old new : Settled) (place : ℕ) → place < length old.marks.items → AreSettled g new.marks.items → new.marks.items ≡ set old.marks.items place true
    → new.scope ≡ constant_scope (settled_table g new.marks.items) → Settles g old new place
one_settled g old new place within are is kept = record {
  settled = record { are = are; kept = kept };
  keeps = λ k m. subst (λ marks. is_marked marks k ≡ true) (sym is) (kept_mark k m);
  done = λ p there m. subst (λ marks. is_marked marks place ≡ true) (sym is) (get_or-set_same old.marks.items place true false within);
}
  where
    kept_mark : (k : ℕ) → is_marked old.marks.items k ≡ true → is_marked (set old.marks.items place true) k ≡ true
    kept_mark k m = elim (eqb k place) as (λ b. eqb k place ≡ b → is_marked (set old.marks.items place true) k ≡ true) [
      | true ↦ λ e. subst (λ j. is_marked (set old.marks.items place true) j ≡ true) (sym (eqb-true k place e)) (get_or-set_same old.marks.items place true false within)
      | false ↦ λ e. get_or-set_other old.marks.items place k true false (apart k place e) ∙ m
    ] refl

-- ---- at last

pub all_done : (g : Given) (s : Settled) → IsSettled g s → ((k : ℕ) → k < length g.parameters → IsDone g s.marks.items k) → s.scope ≡ constant_scope (table g (length g.parameters))
all_done g s settled done = settled.kept ∙ ap constant_scope (all_settled g s.marks.items settled.are done)
