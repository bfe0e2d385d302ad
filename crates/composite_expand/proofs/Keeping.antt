-- The bodies that are kept: that of the main composite, and one more or one less.
use Rattle.std.specs.Prelude.{◌≡◌, ℕ, zero, suc, ◌<◌, List, [], ◌∷◌, ◌++◌, length, None, Some, slice_get}
use Rattle.std.proofs.Common.{refl, sym, ap, subst}
use Rattle.std.proofs.lemmas.Option.{none-some, same_Some, slice_get_within}
use Rattle.spl_tree.specs.declared.unit.Composite.{Composite}
use Rattle.spl_tree.specs.declared.unit.Definition.{Definition}
use Rattle.language_model.specs.Composites.{composites}
use Rattle.language_model.specs.Expansion.{Inlined, main_body}
use Rattle.language_model.specs.Scopes.{At}
use Rattle.composite_tables.specs.declared.made.Body.{Body}
use Rattle.composite_tables.specs.declared.made.Input.{Input}
use Rattle.composite_tables.specs.Inputs.{AreInputs, IsBefore, ShowsBody, AreKept, IsBody}
use Rattle.composite_tables.proofs.Extending.{nested_less, nested_more, shows_less, shows_more, stand_less, stand_more}

-- a main composite has no inputs
pub kept_main : (unit : List Definition) (c : At Composite) → slice_get (composites unit) c.place ≡ Some c.what → c.what.inputs ≡ []
    → AreKept unit (record { composite = c.place; site = None } ∷ []) ([] ∷ []) (main_body c ∷ [])
kept_main unit c here none = record {
  shows = record {
    count = refl;
    each = shown;
  };
  inputs = record {
    count = refl;
    each = rows;
  };
  nested = nested;
} where
  shown : (k : ℕ) (b : Body) (x : Inlined) → slice_get (record { composite = c.place; site = None } ∷ []) k ≡ Some b → slice_get (main_body c ∷ []) k ≡ Some x → ShowsBody unit b x
  shown zero b x is there =
      let own = same_Some (record { composite = c.place; site = None }) b is in
      let body = same_Some (main_body c) x there in
      subst (λ b. ShowsBody unit b x) own (subst (ShowsBody unit (record { composite = c.place; site = None })) body (record { place = refl; composite = here; site = refl }))
  shown (suc k) b x is there = absurd (none-some b is)

  rows : (k : ℕ) (x : Inlined) (row : List Input) → slice_get (main_body c ∷ []) k ≡ Some x → slice_get ([] ∷ []) k ≡ Some row → AreInputs (main_body c ∷ []) k x row
  rows zero x row there is =
      let own = same_Some [] row is in
      let body = same_Some (main_body c) x there in
      subst (AreInputs (main_body c ∷ []) 0 x) own
      (subst (λ x. AreInputs (main_body c ∷ []) 0 x []) body (record { count = sym (ap length none); each = λ j i given. absurd (none-some i given) }))
  rows (suc k) x row there is = absurd (none-some x there)

  nested : (k : ℕ) (x : Inlined) → slice_get (main_body c ∷ []) k ≡ Some x → IsBefore k x.site
  nested zero x there = subst (λ x. IsBefore 0 x.site) (same_Some (main_body c) x there) tt
  nested (suc k) x there = absurd (none-some x there)

module _ (unit : List Definition) (bodies : List Body) (b : Body) (rows : List (List Input)) (row : List Input) (xs : List Inlined) (x : Inlined) where
  pub kept_more : AreKept unit bodies rows xs → ShowsBody unit b x → IsBefore (length xs) x.site → AreInputs (xs ++ x ∷ []) (length xs) x row
      → AreKept unit (bodies ++ b ∷ []) (rows ++ row ∷ []) (xs ++ x ∷ [])
  kept_more kept shown before inputs =
      let nested = nested_more xs x kept.nested before in
      record {
        shows = shows_more unit bodies b xs x kept.shows shown;
        inputs = stand_more xs x rows row nested kept.inputs inputs;
        nested = nested;
      }

  pub kept_less : AreKept unit (bodies ++ b ∷ []) (rows ++ row ∷ []) (xs ++ x ∷ []) → AreKept unit bodies rows xs
  kept_less kept = record {
    shows = shows_less unit bodies b xs x kept.shows;
    inputs = stand_less xs x rows row kept.nested kept.inputs;
    nested = nested_less xs x kept.nested;
  }

-- a site in a body that is there is before what is opened next
pub site_before : (xs : List Inlined) (number : ℕ) (c : Composite) (row : List Input) → IsBody xs number c row → number < length xs
site_before xs number c row is = slice_get_within xs number is.body is.here
