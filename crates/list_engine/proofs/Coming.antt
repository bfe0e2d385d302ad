-- Which items may come on an input.
use Rattle.std.proofs.Common.{◌≡◌, ℕ, ◌==◌, not, Bool, true, false, cond, List, [], ◌∷◌, ◌++◌, map, refl, ap, subst, ◌∙◌, reverse}
use Rattle.std.proofs.lemmas.Bool.{eq-eqb}
use Rattle.std.proofs.lemmas.List.{reverse-append, reverse-reverse}
use Rattle.spl_value.specs.declared.item.Item.{Item}
use Rattle.spl_value.specs.declared.item.Item.TheVariants as I
use Rattle.language_model.specs.StreamTypes.{Attributes}
use Rattle.stream_model.specs.Stream.{Event, came, any_closes, is_closed, is_empty, TuplesFit}
use Rattle.spl_value.specs.Numbered.{closes}
use Rattle.stream_model.specs.Inputs.{came_on}
use Rattle.stream_model.specs.Operators.{Operator}
use Rattle.stream_model.specs.Replies.{ItemHas, MayTake}
use Rattle.stream_model.specs.Laws.{has_ended}
use Rattle.stream_model.proofs.Histories.{live_law}
use Rattle.list_engine.specs.steps.Taking.{EndsOnce, MayCome}

-- ---- the items of an input

not_empty : (taken : List Item) (x : Item) (rest : List Item) → taken ++ x ∷ rest ≡ [] → ⊥
not_empty [] x rest e = cc
not_empty (y ∷ taken) x rest e = cc

-- items before another close nothing
pub open_front : (taken : List Item) (x : Item) (rest : List Item) → EndsOnce (taken ++ x ∷ rest) → any_closes taken ≡ false
open_front [] x rest h = refl
open_front (I.Tuple vs ∷ taken) x rest h = open_front taken x rest h
open_front (I.Window ∷ taken) x rest h = open_front taken x rest h
open_front (I.Final ∷ taken) x rest h = absurd (not_empty taken x rest h)
open_front (I.Bad f ∷ taken) x rest h = absurd (not_empty taken x rest h)

pub fit_at : (schema : Attributes) (taken : List Item) (x : Item) (rest : List Item) → TuplesFit schema (taken ++ x ∷ rest) → ItemHas schema x
fit_at schema [] (I.Tuple vs) rest h = h.0
fit_at schema [] I.Window rest h = refl
fit_at schema [] I.Final rest h = refl
fit_at schema [] (I.Bad f) rest h = refl
fit_at schema (I.Tuple vs ∷ taken) x rest h = fit_at schema taken x rest h.1
fit_at schema (I.Window ∷ taken) x rest h = fit_at schema taken x rest h
fit_at schema (I.Final ∷ taken) x rest h = fit_at schema taken x rest h
fit_at schema (I.Bad f ∷ taken) x rest h = fit_at schema taken x rest h

nothing_left : (items : List Item) → is_empty items ≡ true → items ≡ []
nothing_left [] e = refl
nothing_left (x ∷ items) e = absurd cc

pub closed_once : (items : List Item) → is_closed items ≡ true → EndsOnce items
closed_once [] h = tt
closed_once (I.Tuple vs ∷ items) h = closed_once items h
closed_once (I.Window ∷ items) h = closed_once items h
closed_once (I.Final ∷ items) h = nothing_left items h
closed_once (I.Bad f ∷ items) h = nothing_left items h

-- ---- the events

pub came_both : (test : ℕ → Bool) (a b : List Event) → came_on test (a ++ b) ≡ came_on test a ++ came_on test b
came_both test [] b = refl
came_both test (e ∷ a) b = go (test e.input) (came_both test a b)
  where
    go : (t : Bool) → came_on test (a ++ b) ≡ came_on test a ++ came_on test b
        → cond t (e.item ∷ came_on test (a ++ b)) (came_on test (a ++ b)) ≡ cond t (e.item ∷ came_on test a) (came_on test a) ++ came_on test b
    go true r = ap (λ xs. e.item ∷ xs) r
    go false r = r

pub came_here : (i : ℕ) (items : List Item) → came_on (λ j. j == i) (map (came i) items) ≡ items
came_here i [] = refl
came_here i (x ∷ items) =
    ap (λ b. cond b (x ∷ came_on (λ j. j == i) (map (came i) items)) (came_on (λ j. j == i) (map (came i) items))) (eq-eqb i i refl)
    ∙ ap (λ xs. x ∷ xs) (came_here i items)

open_both : (a b : List Item) → any_closes a ≡ false → any_closes b ≡ false → any_closes (a ++ b) ≡ false
open_both [] b h k = k
open_both (x ∷ a) b h k = go (closes x) h (λ r. open_both a b r k)
  where
    go : (t : Bool) → cond t true (any_closes a) ≡ false → (any_closes a ≡ false → any_closes (a ++ b) ≡ false) → cond t true (any_closes (a ++ b)) ≡ false
    go true h rest = absurd (let clash : true ≡ false = h in cc)
    go false h rest = rest h

open_first : (x : Item) (a : List Item) → any_closes (x ∷ a) ≡ false → any_closes (x ∷ []) ≡ false
open_first x a h = go (closes x) h
  where
    go : (t : Bool) → cond t true (any_closes a) ≡ false → cond t true false ≡ false
    go true h = absurd (let clash : true ≡ false = h in cc)
    go false h = refl

open_rest : (x : Item) (a : List Item) → any_closes (x ∷ a) ≡ false → any_closes a ≡ false
open_rest x a h = go (closes x) h
  where
    go : (t : Bool) → cond t true (any_closes a) ≡ false → any_closes a ≡ false
    go true h = absurd (let clash : true ≡ false = h in cc)
    go false h = h

-- in whatever order they stand
pub open_reverse : (test : ℕ → Bool) (events : List Event) → any_closes (came_on test events) ≡ false → any_closes (came_on test (reverse events)) ≡ false
open_reverse test [] h = refl
open_reverse test (e ∷ events) h =
    ap (λ es. any_closes (came_on test es)) (reverse-append (e ∷ []) events)
    ∙ ap any_closes (came_both test (reverse events) (e ∷ []))
    ∙ go (test e.input) h (open_reverse test events)
  where
    go : (t : Bool) → any_closes (cond t (e.item ∷ came_on test events) (came_on test events)) ≡ false
        → (any_closes (came_on test events) ≡ false → any_closes (came_on test (reverse events)) ≡ false)
        → any_closes (came_on test (reverse events) ++ cond t (e.item ∷ []) []) ≡ false
    go true k rest = open_both (came_on test (reverse events)) (e.item ∷ []) (rest (open_rest e.item (came_on test events) k)) (open_first e.item (came_on test events) k)
    go false k rest = open_both (came_on test (reverse events)) [] (rest k) refl

-- ---- the next item

pub may_take : (op : Operator) (done : List Event) (i : ℕ) (items taken rest : List Item) (x : Item) → MayCome op done i items → items ≡ taken ++ x ∷ rest
    → has_ended op (done ++ map (came i) taken) ≡ false → MayTake op (reverse (done ++ map (came i) taken)) (came i x)
may_take op done i items taken rest x may split live = record {
  live = live_law op (reverse (done ++ map (came i) taken)) ∙ ap (λ events. not (has_ended op events)) (reverse-reverse (done ++ map (came i) taken)) ∙ ap not live;
  input = may.input;
  is_open = open_reverse (λ j. j == i) (done ++ map (came i) taken)
      (ap any_closes (came_both (λ j. j == i) done (map (came i) taken))
      ∙ ap (λ xs. any_closes (xs ++ came_on (λ j. j == i) (map (came i) taken))) may.none
      ∙ ap any_closes (came_here i taken)
      ∙ open_front taken x rest (subst EndsOnce split may.once));
  has = fit_at _ taken x rest (subst (TuplesFit _) split may.fit);
}
