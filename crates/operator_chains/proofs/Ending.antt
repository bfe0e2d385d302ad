-- How the operators of a chain stand.
use Rattle.std.proofs.Common.{suc, ◌-◌, Bool, false, List, [], ◌∷◌, ◌++◌, ◌≡◌, length, not, refl, sym, ap, ◌∙◌, arith, Option, Some, None, slice_get}
use Rattle.spl_value.specs.declared.item.Item.{Item}
use Rattle.spl_value.specs.declared.item.Item.TheVariants as I
use Rattle.stream_model.specs.Operators.{Operator}
use Rattle.stream_model.specs.Stages.{Stage}
use Rattle.stream_model.specs.Stream.{Event}
use Rattle.operator_chains.specs.declared.chain.Chain.{Chain}
use Rattle.operator_chains.specs.declared.how.How.{How}
use Rattle.operator_chains.specs.declared.slot.Slot.{Slot}
use Rattle.operator_chains.specs.Hows.{how_behind, last_how, stage_how, stream_how}
use Rattle.operator_chains.specs.Standing.{AtChain, AtFirst, AtStages, is_over}

-- a stream with one item more
pub stream_how-more : (xs : List Item) (x : Item) → stream_how (xs ++ x ∷ []) ≡ how_behind (stream_how xs) x
stream_how-more [] (I.Tuple vs) = refl
stream_how-more [] I.Window = refl
stream_how-more [] I.Final = refl
stream_how-more [] (I.Bad f) = refl
stream_how-more (I.Tuple vs ∷ xs) x = stream_how-more xs x
stream_how-more (I.Window ∷ xs) x = stream_how-more xs x
stream_how-more (I.Final ∷ xs) x = refl
stream_how-more (I.Bad f ∷ xs) x = refl

module _ {R : Type 0} (spec : R → Operator) (stands : R → List Event → Type 0) where
  -- the last of some
  last_stands : (slots : List (Slot R)) (ss : List Stage) (h : How) (x : Slot R) → AtStages spec stands slots ss → slice_get slots (length slots - 1) ≡ Some x → x.how ≡ last_how h ss
  last_stands [] [] h x at got = cc
  last_stands [] (s ∷ ss) h x at got = absurd at
  last_stands (slot ∷ slots) [] h x at got = absurd at
  last_stands (slot ∷ []) (s ∷ []) h x at got = let same : Some slot ≡ Some x = got in let is : slot ≡ x = cc in ap (λ (z : Slot R). z.how) (sym is) ∙ at.0.how
  last_stands (slot ∷ []) (s ∷ t ∷ ss) h x at got = absurd at.1
  last_stands (slot ∷ next ∷ slots) (s ∷ ss) h x at got =
      let n : length (slot ∷ next ∷ slots) - 1 ≡ suc (length (next ∷ slots) - 1) = omega arith in
      last_stands (next ∷ slots) ss (stage_how s) x at.1 (ap (slice_get (slot ∷ next ∷ slots)) (sym n) ∙ got)

  none_stands : (slots : List (Slot R)) (ss : List Stage) (h : How) → AtStages spec stands slots ss → slice_get slots (length slots - 1) ≡ None → h ≡ last_how h ss
  none_stands [] [] h at none = refl
  none_stands [] (s ∷ ss) h at none = absurd at
  none_stands (slot ∷ slots) [] h at none = absurd at
  none_stands (slot ∷ []) (s ∷ ss) h at none = let clash : Some slot ≡ None = none in cc
  none_stands (slot ∷ next ∷ slots) (s ∷ ss) h at none =
      let n : length (slot ∷ next ∷ slots) - 1 ≡ suc (length (next ∷ slots) - 1) = omega arith in
      absurd (some (next ∷ slots) next slots refl (ap (slice_get (slot ∷ next ∷ slots)) (sym n) ∙ none))
    where
      some : (xs : List (Slot R)) (y : Slot R) (ys : List (Slot R)) → xs ≡ y ∷ ys → slice_get xs (length xs - 1) ≡ None → ⊥
      some [] y ys e none = absurd cc
      some (z ∷ []) y ys e none = absurd (let clash : Some z ≡ None = none in cc)
      some (z ∷ w ∷ zs) y ys e none =
          let n : length (z ∷ w ∷ zs) - 1 ≡ suc (length (w ∷ zs) - 1) = omega arith in
          some (w ∷ zs) w zs refl (ap (slice_get (z ∷ w ∷ zs)) (sym n) ∙ none)

  pub how_alone : (chain : Chain R) (h : How) → chain.first ≡ None → (ss : List Stage) → AtChain spec stands chain ss → h ≡ last_how h ss
  how_alone chain h none ss at = go chain.first none at
    where
      go : (first : Option (Slot R)) → first ≡ None → AtFirst spec stands first chain.others.items ss → h ≡ last_how h ss
      go None e a = ap (last_how h) (sym a.1)
      go (Some slot) e a = cc

  pub how_last : (chain : Chain R) (h : How) (first x : Slot R) → chain.first ≡ Some first → slice_get chain.others.items (length chain.others.items - 1) ≡ Some x
      → (ss : List Stage) → AtChain spec stands chain ss → x.how ≡ last_how h ss
  how_last chain h first x some got ss at = go chain.first ss some at
    where
      go : (one : Option (Slot R)) (ss : List Stage) → one ≡ Some first → AtFirst spec stands one chain.others.items ss → x.how ≡ last_how h ss
      go None ss e a = cc
      go (Some slot) [] e a = absurd a
      go (Some slot) (s ∷ ss) e a = last_stands chain.others.items ss (stage_how s) x a.1 got

  pub how_first : (chain : Chain R) (h : How) (first : Slot R) → chain.first ≡ Some first → slice_get chain.others.items (length chain.others.items - 1) ≡ None
      → (ss : List Stage) → AtChain spec stands chain ss → first.how ≡ last_how h ss
  how_first chain h first some none ss at = go chain.first ss some at
    where
      go : (one : Option (Slot R)) (ss : List Stage) → one ≡ Some first → AtFirst spec stands one chain.others.items ss → first.how ≡ last_how h ss
      go None ss e a = cc
      go (Some slot) [] e a = absurd a
      go (Some slot) (s ∷ ss) e a =
          let same : Some slot ≡ Some first = e in let is : slot ≡ first = cc in
          ap (λ (z : Slot R). z.how) (sym is) ∙ a.0.how ∙ none_stands chain.others.items ss (stage_how s) a.1 none

  -- ---- the first one

  pub live_first : (chain : Chain R) (first : Slot R) (b : Bool) → chain.first ≡ Some first → b ≡ not (is_over first.how) → (s : Stage) (ss : List Stage) → AtChain spec stands chain (s ∷ ss) → b ≡ not s.over
  live_first chain first b some is s ss at = go chain.first some at
    where
      go : (one : Option (Slot R)) → one ≡ Some first → AtFirst spec stands one chain.others.items (s ∷ ss) → b ≡ not s.over
      go None e a = cc
      go (Some slot) e a =
          let same : Some slot ≡ Some first = e in let eq : slot ≡ first = cc in
          is ∙ ap (λ (z : Slot R). not (is_over z.how)) (sym eq) ∙ ap not a.0.over

  pub live_none : (chain : Chain R) → chain.first ≡ None → (s : Stage) (ss : List Stage) → AtChain spec stands chain (s ∷ ss) → false ≡ not s.over
  live_none chain none s ss at = go chain.first none at
    where
      go : (one : Option (Slot R)) → one ≡ None → AtFirst spec stands one chain.others.items (s ∷ ss) → false ≡ not s.over
      go None e a = absurd (let clash : s ∷ ss ≡ [] = a.1 in cc)
      go (Some slot) e a = cc
