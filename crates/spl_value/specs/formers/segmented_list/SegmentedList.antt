-- `SegmentedList` as a type that may hold the type that holds it.
use Rattle.std.specs.Prelude.{ℕ, ◌++◌, map, length}
use mathlib.Core.Path.{◌≡◌, refl, sym, ap, ◌∙◌}
use mathlib.Core.List.{List, [], ◌∷◌}
use mathlib.Core.Former.{Former, none_left, one_more, this, const, pair, list, list_count, list_put, via, children}
use base.Stored.{code_map}
use native.Mathlib.Nat.{ℕ_set}
use lib.ListN.{length-map}
use denote.RattleType.{RattleType}
use denote.HoleLaws.{Alike}
use denote.HolePlaces.{Recodes, struct_places, laid}
use denote.Hole.Carrier.{listed, list-listed}
use denote.Hole.Fix.{over}
use denote.Param.Weighed.{Weighed, w_list}
use denote.Model.Placed.{Held, held, view_places}
use Rattle.spl_value.specs.Flattened.{flattened}
use Rattle.spl_value.specs.contracts.items.Items as inner
use Rattle.spl_value.specs.formers.items.Items as items
use Rattle.spl_value.specs.declared.segmented_list.SegmentedList.TheInside.{Inside}
use Rattle.spl_value.specs.declared.segmented_list.SegmentedList.TheView.{view, invariant}
use Rattle.spl_value.specs.contracts.segmented_list.SegmentedList as C
use Rattle.spl_value.specs.contracts.segmented_list.SegmentedList.TheInside as I

abbrev pub the_former : Former {0} → Former {0}
the_former g = list g

abbrev pub the_weighed : {g : Former {0}} → Weighed g → Weighed (the_former g)
the_weighed w = w_list w

pub the_empty : List ⊥
the_empty = []

abbrev pub the_items : (X : Type 0) → List X → List X
the_items X d = d

pub the_items_listed : (X : Type 0) (d : List X) → listed _ (children (the_former this) X d) ≡ the_items X d
the_items_listed X d = list-listed X d

abbrev fields : Former {0}
fields = via (pair (list (list this)) (const ℕ)) Inside (λ X a. (a.segments, a.len))
    (λ X v. record { segments = v.0; len = v.1 }) (λ X a. refl) (λ X v. refl)

map-append : {X Y : Type 0} (h : X → Y) (xs ys : List X) → map h (xs ++ ys) ≡ map h xs ++ map h ys
map-append h [] ys = refl
map-append h (x ∷ xs) ys = ap (λ l. h x ∷ l) (map-append h xs ys)

-- the view goes along a map
flattened-map : {X Y : Type 0} (h : X → Y) (xss : List (List X)) → flattened (map (map h) xss) ≡ map h (flattened xss)
flattened-map h [] = refl
flattened-map h (xs ∷ xss) = ap (λ l. map h xs ++ l) (flattened-map h xss) ∙ sym (map-append h xs (flattened xss))

-- the row of a list, before a row
before : (X : Type 0) (xs : List X) → Held X → Held X
before X xs r = (list_count this (map (this.shape X) xs) r.0, list_put this X xs r.0 r.1)

before-append : (X : Type 0) (xs ys : List X) (r : Held X) → before X (xs ++ ys) r ≡ before X xs (before X ys r)
unfolding before
before-append X [] ys r = refl
before-append X (x ∷ xs) ys r = λ i. (one_more (before-append X xs ys r i).0, (x, (before-append X xs ys r i).1))

-- the row of the segments is that of the items
abbrev of_segments : (X : Type 0) → List (List X) → Held X → Held X
of_segments X xss r =
    (list_count (list this) (map ((list this).shape X) xss) r.0, list_put (list this) X xss r.0 r.1)

before-flattened : (X : Type 0) (xss : List (List X)) (r : Held X) → before X (flattened xss) r ≡ of_segments X xss r
unfolding before
before-flattened X [] r = refl
before-flattened X (xs ∷ xss) r = before-append X xs (flattened xss) r ∙ ap (before X xs) (before-flattened X xss r)

keeps : (X : Type 0) (u : Inside X) → held (list this) X (flattened u.segments) ≡ held fields X u
unfolding before
keeps X u = before-flattened X u.segments (none_left, tt)

module _ (R S : RattleType) (h : R.Denot → S.Denot) where
  as_long : (xss : List (List R.Denot)) → length (flattened (map (map h) xss)) ≡ length (flattened xss)
  as_long xss = ap length (flattened-map h xss) ∙ length-map (flattened xss) h

  pub the_places : Alike R S h → Alike (C.the_row R) (C.the_row S) ((the_former this).map R.Denot S.Denot h)
  the_places a = view_places fields (list this) view (λ X Y k u. flattened-map k u.segments) keeps
      R.Denot S.Denot h (C.the_row R).coded (C.the_row S).coded
      (invariant R.Denot) (invariant S.Denot) (λ u. ℕ_set _ _) (λ u. ℕ_set _ _)
      (λ u e. e ∙ sym (as_long u.segments)) (λ u e. e ∙ as_long u.segments)
      (over (I.the_row R)) (over (I.the_row S))
      (struct_places (I.the_type R) (I.the_type S) (map (map h), (λ n. n, tt)) _ (λ d. refl) refl
      (laid _ _ _ (items.the_places (inner.the_row R) (inner.the_row S) (map h) (items.the_places R S h a)), ((refl, (λ n. refl, λ n. refl)), tt)))

  pub the_codes_placed : Recodes R S h → Recodes (C.the_row R) (C.the_row S) ((the_former this).map R.Denot S.Denot h)
  the_codes_placed e d = sym (code_map R.coded.code S.coded.code h (λ x. sym (e x)) d)
