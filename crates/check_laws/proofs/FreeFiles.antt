-- Where no file is had twice, each sink among the files has one of its own.
use Rattle.std.specs.Prelude.{◌≡◌, ℕ, Bool, true, false, ◌&&◌, ◌||◌, List, [], ◌∷◌, ◌++◌, map, if◌then◌else◌}
use Rattle.std.specs.List.{list_any}
use Rattle.std.proofs.Common.{refl, sym, ◌∙◌}
use Rattle.std.proofs.lemmas.Bool.{or_parts}
use Rattle.std.proofs.lemmas.List.Folds.{list_any-append}
use Rattle.language_model.specs.Declarations.{is_same, repeated, repeated_after}
use Rattle.language_model.specs.SinkFiles.{OpFile, is_had}
use Rattle.language_model.specs.Names.{is_named}
use Rattle.check_laws.proofs.FileParts.{bare}

-- one of two that have the same file is a sink
abbrev pub clash : OpFile → OpFile → Bool
clash g f = is_same g.file f.file && (f.sink || g.sink)

-- a file clashes with none of these
abbrev pub Clear : OpFile → List OpFile → Type 0
Clear g [] = Unit {0}
Clear g (f ∷ fs) = (clash g f ≡ false) × Clear g fs

-- none clashes with one after it, and no sink has one of the names
abbrev pub Free : List (List ℕ) → List OpFile → Type 0
Free names [] = Unit {0}
Free names (f ∷ fs) = ((f.sink && is_named names f.file.what) ≡ false) × Clear f fs × Free names fs

-- ---- where none is had

module _ (names : List (List ℕ)) where
  abbrev NoneHad : List OpFile → List OpFile → Type 0
  NoneHad before fs = repeated_after (is_had names) before fs ≡ []

  record NotHad (before : List OpFile) (f : OpFile) (fs : List OpFile) : Type 0 where
    own : is_had names before f ≡ false
    others : NoneHad (f ∷ before) fs

  not_had : (before : List OpFile) (f : OpFile) (fs : List OpFile) → NoneHad before (f ∷ fs) → NotHad before f fs
  not_had before f fs none = by_test (is_had names before f) refl none
    where
      by_test : (b : Bool) → is_had names before f ≡ b → (if b then f ∷ [] else []) ++ repeated_after (is_had names) (f ∷ before) fs ≡ [] → NotHad before f fs
      by_test true is e = absurd cc
      by_test false is e = record { own = is; others = e }

  clear_at : (g : OpFile) (later earlier : List OpFile) (f : OpFile) → is_had names (later ++ g ∷ earlier) f ≡ false → clash g f ≡ false
  clear_at g later earlier f none =
      let clashes = or_parts (f.sink && is_named names f.file.what) (list_any (λ h. clash h f) (later ++ g ∷ earlier)) none in
      let parts = or_parts (list_any (λ h. clash h f) later) (list_any (λ h. clash h f) (g ∷ earlier))
      (sym (list_any-append (λ h. clash h f) later (g ∷ earlier)) ∙ clashes.1) in
      (or_parts (clash g f) (list_any (λ h. clash h f) earlier) parts.1).0

  clear_behind : (g : OpFile) (later earlier fs : List OpFile) → NoneHad (later ++ g ∷ earlier) fs → Clear g fs
  clear_behind g later earlier [] none = tt
  clear_behind g later earlier (f ∷ fs) none =
      let x = not_had (later ++ g ∷ earlier) f fs none in
      (clear_at g later earlier f x.own, clear_behind g (f ∷ later) earlier fs x.others)

  free_behind : (before fs : List OpFile) → NoneHad before fs → Free names fs
  free_behind before [] none = tt
  free_behind before (f ∷ fs) none =
      let x = not_had before f fs none in
      let own = or_parts (f.sink && is_named names f.file.what) (list_any (λ h. clash h f) before) x.own in
      (own.0, clear_behind f [] before fs x.others, free_behind (f ∷ before) fs x.others)

  pub all_free : (fs : List OpFile) → repeated (is_had names) fs ≡ [] → Free names fs
  all_free fs none = free_behind [] fs none

-- ---- wherever they stand

bare_clear : (g : OpFile) (fs : List OpFile) → Clear g fs → Clear (bare g) (map bare fs)
bare_clear g [] h = tt
bare_clear g (f ∷ fs) h = (h.0, bare_clear g fs h.1)

pub bare_free : (names : List (List ℕ)) (fs : List OpFile) → Free names fs → Free names (map bare fs)
bare_free names [] h = tt
bare_free names (f ∷ fs) h = (h.0, bare_clear f fs h.1, bare_free names fs h.2)
