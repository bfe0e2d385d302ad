-- What stays of the parameters that an operator is given, where one is taken out.
use Rattle.std.specs.Prelude.{◌≡◌, ◌<◌, ◌≤◌, ℕ, zero, suc, ◌+◌, true, false, List, [], ◌∷◌, ◌++◌, length, take, drop, remove, if◌then◌else◌, Some, slice_get}
use Rattle.std.specs.Option.{option_map}
use Rattle.std.specs.Str.{bytes_eq}
use Rattle.std.proofs.Common.{refl, add-one, ap, sym, ◌∙◌, append_assoc, append-nil, get_or}
use Rattle.std.proofs.lemmas.List.{drop_all, take_all}
use Rattle.language_model.specs.declared.checked.Given.{Given}
use Rattle.language_model.specs.ParameterTyping.{value_given}
use Rattle.parameter_rules.specs.Taking.{KeepsOthers, without_first}
use Rattle.spl_value.proofs.Lists.{drop_at, take_at}

-- one of another name is still found
kept : (given : List Given) (at : ℕ) (g : Given) (other : List ℕ) → slice_get given at ≡ Some g → bytes_eq g.name other ≡ false
    → value_given (remove given at) other ≡ value_given given other
kept [] zero g other h n = refl
kept [] (suc at) g other h n = refl
kept (x ∷ xs) zero g other h n =
    let same : x ≡ g = cc in
    sym (ap (λ b. if b then Some x.value else value_given xs other) (ap (λ y. bytes_eq y.name other) same ∙ n))
kept (x ∷ xs) (suc at) g other h n = ap (λ o. if bytes_eq x.name other then Some x.value else o) (kept xs at g other h n)

pub keeps_others : (given : List Given) (name : List ℕ) (at : ℕ) (g : Given) → slice_get given at ≡ Some g
    → option_map (λ g. g.name) (slice_get given at) ≡ Some name → KeepsOthers name given (remove given at)
keeps_others given name at g h n other e =
    let named : Some g.name ≡ Some name = ap (option_map (λ g. g.name)) (sym h) ∙ n in
    let same : g.name ≡ name = cc in
    kept given at g other h (ap (λ m. bytes_eq m other) same ∙ e)

-- ---- what is left, by how far the first parameter of a name was looked for

module _ (given : List Given) (name : List ℕ) (i : ℕ) where
  -- none before the place has the name
  abbrev pub LeftAt : Type 0
  LeftAt = without_first name given ≡ take i given ++ without_first name (drop i given)

  module _ (left : LeftAt) where
    pub left_past : length given ≤ i → without_first name given ≡ given
    left_past h =
        left ∙ ap (λ gs. take i given ++ without_first name gs) (drop_all i given h) ∙ append-nil (take i given) ∙ take_all i given h

    module _ (g : Given) (h : i < length given) (e : g ≡ get_or given i g) where
      pub left_here : bytes_eq g.name name ≡ true → remove given i ≡ without_first name given
      left_here is =
          ap (λ n. take i given ++ drop n given) (sym (add-one i))
          ∙ sym (left ∙ ap (λ gs. take i given ++ without_first name gs) (drop_at given i g h e)
          ∙ ap (λ b. take i given ++ (if b then drop (i + 1) given else g ∷ without_first name (drop (i + 1) given))) is)

      pub left_on : bytes_eq g.name name ≡ false → without_first name given ≡ take (i + 1) given ++ without_first name (drop (i + 1) given)
      left_on is =
          left ∙ ap (λ gs. take i given ++ without_first name gs) (drop_at given i g h e)
          ∙ ap (λ b. take i given ++ (if b then drop (i + 1) given else g ∷ without_first name (drop (i + 1) given))) is
          ∙ sym (append_assoc (take i given) (g ∷ []) (without_first name (drop (i + 1) given)))
          ∙ ap (λ gs. gs ++ without_first name (drop (i + 1) given)) (sym (take_at given i g h e))
