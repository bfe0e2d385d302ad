-- The keys of a map, and the values at them.
use Rattle.std.proofs.Common.{Bool, true, false, ◌&&◌, List, [], ◌∷◌, ◌≡◌, refl, sym, ap, ◌∙◌}
use Rattle.std.specs.List.{list_all}
use Rattle.spl_value.specs.declared.types.SplType.{SplType}
use Rattle.spl_value.specs.declared.types.SplType.TheVariants as S
use Rattle.spl_value.specs.declared.value.Value.{Value}
use Rattle.spl_value.specs.declared.value.Value.TheVariants as V
use Rattle.spl_value.specs.Pairs.{are_pairs}
use Rattle.spl_value.specs.Values.{fits}
use Rattle.spl_value.proofs.FitsLaws.{fits_map}

each_part : (k t : SplType) (ps : List (Value × Value)) → (list_all (λ p. fits k p.0) ps && list_all (λ p. fits t p.1) ps) ≡ list_all (λ p. fits k p.0 && fits t p.1) ps
each_part k t [] = refl
each_part k t (p ∷ ps) = go (fits k p.0) (fits t p.1) (list_all (λ p. fits k p.0) ps) (list_all (λ p. fits t p.1) ps) ∙ ap (λ b. (fits k p.0 && fits t p.1) && b) (each_part k t ps)
  where
    go : (a b c d : Bool) → ((a && c) && (b && d)) ≡ ((a && b) && (c && d))
    go true true c d = refl
    go true false true d = refl
    go true false false d = refl
    go false b c d = refl

-- a map fits where its keys rise, and they and what is held fit
pub map_fits : (k t : SplType) (ps : List (Value × Value)) → fits (S.Map k t) (V.Map ps) ≡ (are_pairs ps && (list_all (λ p. fits k p.0) ps && list_all (λ p. fits t p.1) ps))
map_fits k t ps = fits_map k t ps ∙ ap (λ b. are_pairs ps && b) (sym (each_part k t ps))

pub keys_not : (k t : SplType) (ps : List (Value × Value)) → are_pairs ps ≡ true → list_all (λ p. fits k p.0) ps ≡ false → false ≡ fits (S.Map k t) (V.Map ps)
keys_not k t ps rise keys = sym (map_fits k t ps ∙ ap (λ b. b && (list_all (λ p. fits k p.0) ps && list_all (λ p. fits t p.1) ps)) rise ∙ ap (λ b. b && list_all (λ p. fits t p.1) ps) keys)

pub held_so : (k t : SplType) (ps : List (Value × Value)) → are_pairs ps ≡ true → list_all (λ p. fits k p.0) ps ≡ true → list_all (λ p. fits t p.1) ps ≡ fits (S.Map k t) (V.Map ps)
held_so k t ps rise keys = sym (map_fits k t ps ∙ ap (λ b. b && (list_all (λ p. fits k p.0) ps && list_all (λ p. fits t p.1) ps)) rise ∙ ap (λ b. b && list_all (λ p. fits t p.1) ps) keys)
