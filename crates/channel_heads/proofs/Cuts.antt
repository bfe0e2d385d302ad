-- `Cut` tells nothing of what is merged.
use Rattle.std.proofs.Common.{◌≡◌, ℕ, zero, suc, ◌&&◌, ◌||◌, Bool, true, false, List, [], ◌∷◌, ◌++◌, map, refl, ap, ◌∙◌, append-nil}
use Rattle.std.specs.Prelude.{take_while}
use Rattle.std.specs.List.{list_all, list_any}
use Rattle.std.proofs.lemmas.List.Elements.{filter_map-append}
use Rattle.std.proofs.lemmas.List.Folds.{list_any-append}
use Rattle.spl_value.specs.declared.packet.Packet.{Packet}
use Rattle.spl_value.specs.declared.packet.Packet.TheVariants as P
use Rattle.spl_value.specs.Numbered.{ByNumbers, ByPulses, ByTurns, Rule, channels, channels_from, cut, has_number, in_turn, is_cut, item_of, items_of, known, known_by_number, known_by_pulses, merged, reaches, taken_items}
use Rattle.channel_heads.specs.FrontLaws.{CutLaw}
use Rattle.channel_heads.proofs.ByNumber.{Tagged}

no_items : (ps : List Packet) → list_all is_cut ps ≡ true → items_of ps ≡ []
no_items [] h = refl
no_items (P.Item n x ∷ ps) h = absurd (let no : false ≡ true = h in cc)
no_items (P.Pulse n ∷ ps) h = absurd (let no : false ≡ true = h in cc)
no_items (P.Close ∷ ps) h = absurd (let no : false ≡ true = h in cc)
no_items (P.Cut ∷ ps) h = no_items ps h

reaches_nothing : (n : ℕ) (ps : List Packet) → list_all is_cut ps ≡ true → list_any (reaches n) ps ≡ false
reaches_nothing n [] h = refl
reaches_nothing n (P.Item k x ∷ ps) h = absurd (let no : false ≡ true = h in cc)
reaches_nothing n (P.Pulse k ∷ ps) h = absurd (let no : false ≡ true = h in cc)
reaches_nothing n (P.Close ∷ ps) h = absurd (let no : false ≡ true = h in cc)
reaches_nothing n (P.Cut ∷ ps) h = reaches_nothing n ps h

or_false : (b : Bool) → (b || false) ≡ b
or_false true = refl
or_false false = refl

all_same : {A : Type 0} (p : A → Bool) (c w : ℕ) (F G : ℕ → A) → ((d : ℕ) → p (F d) ≡ p (G d)) → list_all p (channels_from c w F) ≡ list_all p (channels_from c w G)
all_same p c zero F G h = refl
all_same p c (suc w) F G h = λ i. h c i && all_same p (suc c) w F G h i

module _ (w : ℕ) (taken cuts : ℕ → List Packet) (are : (c : ℕ) → list_all is_cut (cuts c) ≡ true) where
  abbrev more : ℕ → List Packet
  more c = taken c ++ cuts c

  same_items : (c : ℕ) → items_of (more c) ≡ items_of (taken c)
  same_items c = filter_map-append item_of (taken c) (cuts c) ∙ ap (λ z. items_of (taken c) ++ z) (no_items (cuts c) (are c)) ∙ append-nil (items_of (taken c))

  same_lists : taken_items w more ≡ taken_items w taken
  same_lists = ap (channels w) (λ i c. same_items c i)

  by_number_same : (n : ℕ) → known_by_number w more n ≡ known_by_number w taken n
  by_number_same zero = refl
  by_number_same (suc n) = λ i. by_number_same n i && has_number n (same_lists i)

  by_pulses_same : (n : ℕ) → known_by_pulses w more n ≡ known_by_pulses w taken n
  by_pulses_same zero = refl
  by_pulses_same (suc n) =
      all_same (list_any (reaches (suc n))) 0 w more taken (λ c.
      list_any-append (reaches (suc n)) (taken c) (cuts c) ∙ ap (λ b. list_any (reaches (suc n)) (taken c) || b) (reaches_nothing (suc n) (cuts c) (are c))
      ∙ or_false (list_any (reaches (suc n)) (taken c)))

  known_same : (rule : Rule) (n : ℕ) → known rule w more n ≡ known rule w taken n
  known_same ByTurns n = by_number_same n
  known_same ByNumbers n = by_number_same n
  known_same ByPulses n = by_pulses_same n

  pub merged_same : (rule : Rule) → merged rule w more ≡ merged rule w taken
  merged_same rule = λ i. cut (map (λ (p : Tagged). p.1) (take_while (λ (p : Tagged). known_same rule p.0 i) (in_turn (same_lists i))))

pub cut_law : CutLaw
cut_law rule w taken cuts are = merged_same w taken cuts are rule
