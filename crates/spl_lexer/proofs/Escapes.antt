-- One byte more of a text.
use Rattle.std.proofs.Common.{◌≡◌, ◌∙◌, ℕ, ◌+◌, ◌<◌, ◌==◌, Bool, true, false, List, [], ◌∷◌, ◌++◌, length, drop, get_or, Some, None, Result, Ok, Err, refl, sym, ap, arith, append_assoc, append-nil}
use Rattle.std.proofs.lemmas.List.{at_drop_more, at_drop_all}
use Rattle.spl_tree.specs.Tokens.{unescaped, escape, onto, onto_escape}

-- what follows bytes that are there already
abbrev pub behind : List ℕ → Result (List ℕ) ℕ → Result (List ℕ) ℕ
behind text (Ok bs) = Ok (text ++ bs)
behind text (Err at) = Err at

-- what is read after i bytes, the last of which may be a backslash
abbrev pub to_come : Bool → (i : ℕ) → List ℕ → Result (List ℕ) ℕ
to_come false i bs = unescaped (i + 1) bs
to_come true i bs = unescaped i (92 ∷ bs)

behind-onto : (text : List ℕ) (b : ℕ) (rest : Result (List ℕ) ℕ) → behind (text ++ b ∷ []) rest ≡ behind text (onto b rest)
behind-onto text b (Ok bs) = ap Ok (append_assoc text (b ∷ []) bs)
behind-onto text b (Err at) = refl

pub behind_none : (rest : Result (List ℕ) ℕ) → behind [] rest ≡ rest
behind_none (Ok bs) = refl
behind_none (Err at) = refl

pub unescaped_plain : (at b : ℕ) (bs : List ℕ) → (b == 92) ≡ false → unescaped at (b ∷ bs) ≡ onto b (unescaped (at + 1) bs)
unescaped_plain at b [] h = rw h refl
unescaped_plain at b (c ∷ bs) h = rw h refl

module _ (bs : List ℕ) (i : ℕ) (lt : i < length bs) where
  pub plain_step : (text : List ℕ) → (get_or bs i 0 == 92) ≡ false
      → behind (text ++ get_or bs i 0 ∷ []) (to_come false (i + 1) (drop (i + 1) bs)) ≡ behind text (to_come false i (drop i bs))
  plain_step text h =
      behind-onto text (get_or bs i 0) (unescaped (i + 1 + 1) (drop (i + 1) bs))
      ∙ ap (behind text) (sym (at_drop_more (unescaped (i + 1)) bs i 0 lt ∙ unescaped_plain (i + 1) (get_or bs i 0) (drop (i + 1) bs) h))

  pub backslash_step : get_or bs i 0 ≡ 92 → to_come true (i + 1) (drop (i + 1) bs) ≡ to_come false i (drop i bs)
  backslash_step h = sym (at_drop_more (unescaped (i + 1)) bs i 0 lt ∙ ap (λ (b : ℕ). unescaped (i + 1) (b ∷ drop (i + 1) bs)) h)

  escaped : to_come true i (drop i bs) ≡ onto_escape i (escape (get_or bs i 0)) (unescaped (i + 2) (drop (i + 1) bs))
  escaped = at_drop_more (λ rest. unescaped i (92 ∷ rest)) bs i 0 lt

  pub escape_step : (text : List ℕ) (b : ℕ) → escape (get_or bs i 0) ≡ Some b
      → behind (text ++ b ∷ []) (to_come false (i + 1) (drop (i + 1) bs)) ≡ behind text (to_come true i (drop i bs))
  escape_step text b h =
      let two : i + 1 + 1 ≡ i + 2 = omega arith in
      behind-onto text b (unescaped (i + 1 + 1) (drop (i + 1) bs))
      ∙ ap (λ n. behind text (onto b (unescaped n (drop (i + 1) bs)))) two
      ∙ ap (behind text) (sym (escaped ∙ ap (λ o. onto_escape i o (unescaped (i + 2) (drop (i + 1) bs))) h))

  pub bad_step : (text : List ℕ) → escape (get_or bs i 0) ≡ None → Err i ≡ behind text (to_come true i (drop i bs))
  bad_step text h = ap (behind text) (sym (escaped ∙ ap (λ o. onto_escape i o (unescaped (i + 2) (drop (i + 1) bs))) h))

pub all_come : (text bs : List ℕ) → behind text (to_come false (length bs) (drop (length bs) bs)) ≡ Ok text
all_come text bs = ap (behind text) (at_drop_all (unescaped (length bs + 1)) bs (length bs) (omega arith)) ∙ ap Ok (append-nil text)

pub bad_end : (text bs : List ℕ) → behind text (to_come true (length bs) (drop (length bs) bs)) ≡ Err (length bs)
bad_end text bs = ap (behind text) (at_drop_all (λ rest. unescaped (length bs) (92 ∷ rest)) bs (length bs) (omega arith))
