-- The items that a source gave so far.
use Rattle.std.proofs.Common.{◌≡◌, ◌++◌, ◌∷◌, ◌∙◌, [], List, Bool, true, false, Option, Some, None, refl, sym, ap, subst, append_assoc, arith, get_or, length}
use Rattle.std.specs.Prelude.{IfSome, ◌||◌, if◌then◌else◌, ⊤}
use Rattle.std.specs.List.{All, list_any}
use Rattle.std.proofs.lemmas.List.{append-nil}
use Rattle.std.proofs.lemmas.List.Folds.{list_any-append}
use Rattle.std.proofs.lemmas.List.Elements.{All-head, All-push, All-tail}
use Rattle.spl_value.specs.Script.{Script}
use Rattle.spl_value.specs.declared.item.Item.{Item}
use Rattle.spl_value.specs.declared.item.Item.TheVariants as I
use Rattle.stream_model.specs.Rows.{Setting}
use Rattle.stream_model.specs.Stream.{TuplesFit, any_closes, is_closed, is_empty}
use Rattle.spl_value.specs.Numbered.{closes}
use Rattle.row_reader.specs.declared.rows.Rows.{Rows}
use Rattle.row_reader.specs.declared.rows.Stage.{Stage}
use Rattle.row_reader.specs.declared.rows.Stage.TheVariants as S
use Rattle.row_reader.specs.Reading.{Gives, FitsSetting, is_done, is_over, to_come}
use Rattle.stream_model.specs.SourceFaults.{NamesOperator, is_read_fault}

-- these items were given of what was to come, and the rest is to come
abbrev pub Gathered : Option (List Item) → List Item → Option (List Item) → Type 0
Gathered None items after = ⊤
Gathered (Some whole) items None = ⊥
Gathered (Some whole) items (Some rest) = whole ≡ items ++ rest

pub none_gathered : (coming : Option (List Item)) (items : List Item) → items ≡ [] → Gathered coming items coming
none_gathered None items e = tt
none_gathered (Some whole) items e = rw e refl

pub one_more : (coming before after : Option (List Item)) (items items2 : List Item) (item : Item) → Gathered coming items before → Gives before item after → items2 ≡ items ++ item ∷ []
    → Gathered coming items2 after
one_more None before after items items2 item g h e = tt
one_more (Some whole) None after items items2 item g h e = absurd g
one_more (Some whole) (Some rest) None items items2 item g h e = absurd h
one_more (Some whole) (Some rest) (Some rest2) items items2 item g h e =
    g ∙ ap (λ z. items ++ z) h ∙ sym (append_assoc items (item ∷ []) rest2) ∙ ap (λ z. z ++ rest2) (sym e)

done_stage : (stage : Stage) → is_done stage ≡ true → stage ≡ S.Done
done_stage S.Reading e = absurd (cc e)
done_stage S.Ended e = absurd (cc e)
done_stage S.Marked e = absurd (cc e)
done_stage S.Done e = refl

-- all of them, where the last one was given
pub all_gathered : (r : Rows) (coming : Option (List Item)) (script : Option Script) (items : List Item) → is_over r ≡ true → Gathered coming items (to_come r script) → IfSome coming (λ whole. items ≡ whole)
all_gathered r None script items e g = tt
all_gathered r (Some whole) script items e g =
    let none : to_come r script ≡ Some [] = rw (done_stage r.stage e) refl in
    let all : whole ≡ items ++ [] = subst (Gathered (Some whole) items) none g in
    sym (all ∙ append-nil items)

open_by : (b : Bool) (more : Bool) (all : Bool) → (if b then true else more) ≡ false → (more ≡ false → all ≡ false) → (if b then true else all) ≡ false
open_by true more all h f = cc h
open_by false more all h f = f h

pub open_more : (items : List Item) (item : Item) → any_closes items ≡ false → closes item ≡ false → any_closes (items ++ item ∷ []) ≡ false
open_more [] item h e = rw e refl
open_more (x ∷ items) item h e = open_by (closes x) (any_closes items) (any_closes (items ++ item ∷ [])) h (λ g. open_more items item g e)

closed_by : (b : Bool) (more last all : Bool) → (if b then true else more) ≡ false → (more ≡ false → all ≡ true) → (if b then last else all) ≡ true
closed_by true more last all h f = absurd (cc h)
closed_by false more last all h f = f h

pub closed_last : (items : List Item) (item : Item) → any_closes items ≡ false → closes item ≡ true → is_closed (items ++ item ∷ []) ≡ true
closed_last [] item h e = rw e refl
closed_last (x ∷ items) item h e =
    closed_by (closes x) (any_closes items) (is_empty (items ++ item ∷ [])) (is_closed (items ++ item ∷ [])) h (λ g. closed_last items item g e)

pub all_fit : (o : Setting) (items : List Item) → All (FitsSetting o) items → TuplesFit o.schema items
all_fit o [] h = tt
all_fit o (I.Tuple values ∷ items) h = (All-head (FitsSetting o) (I.Tuple values) items h, all_fit o items (All-tail (FitsSetting o) (I.Tuple values) items h))
all_fit o (I.Window ∷ items) h = all_fit o items (All-tail (FitsSetting o) I.Window items h)
all_fit o (I.Final ∷ items) h = all_fit o items (All-tail (FitsSetting o) I.Final items h)
all_fit o (I.Bad fault ∷ items) h = all_fit o items (All-tail (FitsSetting o) (I.Bad fault) items h)

names : (o : Setting) (item : Item) → FitsSetting o item → NamesOperator o.op item
names o (I.Tuple values) h = tt
names o I.Window h = tt
names o I.Final h = tt
names o (I.Bad fault) h = h

pub all_named : (o : Setting) (items : List Item) → All (FitsSetting o) items → All (NamesOperator o.op) items
all_named o items h = λ k d lt. names o (get_or items k d) (h k d lt)

pub none_has : (o : Setting) (items : List Item) → items ≡ [] → All (FitsSetting o) items
none_has o items e = λ k d lt. absurd (let size : length items ≡ 0 = ap length e in omega (arith, lt, size))

pub one_has : (o : Setting) (items items2 : List Item) (item : Item) → All (FitsSetting o) items → FitsSetting o item → items2 ≡ items ++ item ∷ [] → All (FitsSetting o) items2
one_has o items items2 item h g e = subst (All (FitsSetting o)) (sym e) (All-push (FitsSetting o) items item h g)

-- where the feed tells what it has, all that was to come is its rows
pub told_rows : (r : Rows) (script : Option Script) (items : List Item) (whole : Script → List Item) → ((s : Script) → to_come r (Some s) ≡ Some (whole s))
    → IfSome (to_come r script) (λ all. items ≡ all) → IfSome script (λ s. items ≡ whole s)
told_rows r None items whole h g = tt
told_rows r (Some s) items whole h g = subst (λ (z : Option (List Item)). IfSome z (λ all. items ≡ all)) (h s) g

pub none_failed : (items : List Item) (item : Item) → list_any is_read_fault items ≡ false → is_read_fault item ≡ list_any is_read_fault (items ++ item ∷ [])
none_failed items item h = sym (list_any-append is_read_fault items (item ∷ []) ∙ rw h (by_last (is_read_fault item))) where
  by_last : (b : Bool) → (b || false) ≡ b
  by_last true = refl
  by_last false = refl

pub open_passes : (item : Item) → closes item ≡ false → is_read_fault item ≡ false
open_passes (I.Tuple values) e = refl
open_passes I.Window e = refl
open_passes I.Final e = refl
open_passes (I.Bad fault) e = absurd (cc e)
