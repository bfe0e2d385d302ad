-- A table to which one more name is added.
use Rattle.std.specs.Prelude.{◌≡◌, ℕ, ◌+◌, true, false, cond, List, [], ◌∷◌, ◌++◌, length, Some}
use Rattle.std.specs.Borrow.{Bor}
use Rattle.std.specs.HashMap.{get}
use Rattle.std.specs.Str.{bytes_eq}
use Rattle.std.proofs.Common.{ap, sym, ◌∙◌, length-append}
use Rattle.language_model.specs.Names.{is_named}
use Rattle.program_tables.specs.declared.names.Names.{Names}
use Rattle.program_tables.specs.Names.{HoldsNames, same_bytes}
use Rattle.program_tables.proofs.Places.{place_among, place_new}

module _ (table : Names) (names : List (List ℕ)) (name : List ℕ) (stand : HoldsNames table names) where
  counted : (count : ℕ) → count ≡ table.count + 1 → count ≡ length (names ++ name ∷ [])
  counted count e = e ∙ ap (λ n. n + 1) stand.count ∙ sym (length-append names (name ∷ []))

  pub stands_among : (new : Names) → new.count ≡ table.count + 1 → new.places ≡ table.places → is_named names name ≡ true → HoldsNames new (names ++ name ∷ [])
  stands_among new count places among = record {
    count = counted new.count count;
    places = λ q. ap (λ m. get same_bytes m q) places ∙ stand.places q ∙ place_among q.now name names among;
  }

  pub stands_new : (new : Names) (key : Bor (List ℕ)) → key.now ≡ name → new.count ≡ table.count + 1
      → ((q : Bor (List ℕ)) → get same_bytes new.places q ≡ cond (same_bytes key q) (Some table.count) (get same_bytes table.places q)) → is_named names name ≡ false → HoldsNames new (names ++ name ∷ [])
  stands_new new key is count updates absent = record {
    count = counted new.count count;
    places = λ q.
        updates q
        ∙ (λ i. cond (bytes_eq (is i) q.now) (Some (stand.count i)) (stand.places q i))
        ∙ place_new q.now name names absent;
  }
