-- What reading a phrase has to answer is one thing.
use Rattle.std.proofs.Common.{◌≡◌, ◌∙◌, ◌⊎◌, inl, inr, List, [], ◌∷◌, ◌++◌, refl, sym, ap, subst, append_assoc, append-nil}
use Rattle.spl_tree.specs.declared.token.Token.{Token}
use Rattle.spl_tree.specs.Fronts.{Starts, Longest, IsPhrase, IsUnexpected}

-- the first front is the second one with more tokens after it
pub record Exceeds (f r g s : List Token) : Type 0 where
  pub more : List Token
  pub front : f ≡ g ++ more
  pub rest : s ≡ more ++ r

-- of two fronts of a list one exceeds the other
fronts : (f r g s : List Token) → f ++ r ≡ g ++ s → Exceeds f r g s ⊎ Exceeds g s f r
fronts f r [] s same = inl (record { more = f; front = refl; rest = sym same })
fronts [] r (u ∷ g) s same = inr (record { more = u ∷ g; front = refl; rest = same })
fronts (t ∷ f) r (u ∷ g) s same =
    let head : t ≡ u = cc in
    let tail : f ++ r ≡ g ++ s = cc in
    with_head (fronts f r g s tail) head
  where
    with_head : Exceeds f r g s ⊎ Exceeds g s f r → t ≡ u → Exceeds (t ∷ f) r (u ∷ g) s ⊎ Exceeds (u ∷ g) s (t ∷ f) r
    with_head (inl e) head = inl (record { more = e.more; front = let front = e.front in cc; rest = e.rest })
    with_head (inr e) head = inr (record { more = e.more; front = let front = e.front in cc; rest = e.rest })

module _ {A : Type 0} (Spells : A → List Token → Type 0) where
  -- a front exceeds the longest one by no token
  none_more : (ts f r g s : List Token) → Longest Spells ts g s → Starts Spells f → Exceeds f r g s → (f ≡ g) × (r ≡ s)
  none_more ts f r g s longest starts e = by_more e.more e.front e.rest
    where
      by_more : (more : List Token) → f ≡ g ++ more → s ≡ more ++ r → (f ≡ g) × (r ≡ s)
      by_more [] front rest = (front ∙ append-nil g, sym rest)
      by_more (t ∷ more) front rest =
          absurd (longest.stops t (more ++ r) rest (record {
            behind = more ++ starts.behind;
            value = starts.value;
            spells = subst (λ us. Spells starts.value us) (ap (λ us. us ++ starts.behind) front ∙ append_assoc g (t ∷ more) starts.behind ∙ sym (append_assoc g (t ∷ []) (more ++ starts.behind))) starts.spells;
          }))

  -- the longest front is one
  pub longest_one : (ts f r g s : List Token) → Longest Spells ts f r → Longest Spells ts g s → (f ≡ g) × (r ≡ s)
  longest_one ts f r g s x y = by_fronts (fronts f r g s (sym x.splits ∙ y.splits))
    where
      by_fronts : Exceeds f r g s ⊎ Exceeds g s f r → (f ≡ g) × (r ≡ s)
      by_fronts (inl e) = none_more ts f r g s y x.starts e
      by_fronts (inr e) = let both = none_more ts g s f r x y.starts e in (sym both.0, sym both.1)

  -- a phrase is one, where tokens spell one at most
  pub phrase_one : ((v w : A) (a : List Token) → Spells v a → Spells w a → v ≡ w)
      → (ts r s : List Token) (v w : A) → IsPhrase Spells ts v r → IsPhrase Spells ts w s → (v ≡ w) × (r ≡ s)
  phrase_one one ts r s v w x y =
      let both = longest_one ts x.front r y.front s x.longest y.longest in
      (one v w y.front (subst (Spells v) both.0 x.spells) y.spells, both.1)

  -- what is refused is no phrase
  pub not_both : (ts r s : List Token) (v : A) → IsPhrase Spells ts v r → IsUnexpected Spells ts s → ⊥
  not_both ts r s v x y =
      let both = longest_one ts x.front r y.front s x.longest y.longest in
      y.none v (subst (Spells v) both.0 x.spells)

  -- and it is refused at one place
  pub unexpected_one : (ts r s : List Token) → IsUnexpected Spells ts r → IsUnexpected Spells ts s → r ≡ s
  unexpected_one ts r s x y = (longest_one ts x.front r y.front s x.longest y.longest).1
