-- What a line spells belongs to its type.
use Rattle.std.specs.Prelude.{◌≡◌, ℕ, true, false, List, [], ◌∷◌, fold}
use Rattle.std.specs.List.{list_all}
use Rattle.std.specs.Cmp.{first_so, second_so}
use Rattle.std.specs.Cmp.Derive.{both_true}
use Rattle.std.proofs.Common.{refl, sym, ◌∙◌}
use Rattle.spl_value.specs.declared.types.Named.{Named}
use Rattle.spl_value.specs.declared.types.SplType.{SplType}
use Rattle.spl_value.specs.declared.types.SplType.TheVariants as T
use Rattle.spl_value.specs.declared.value.Value.{Value}
use Rattle.spl_value.specs.declared.value.Value.TheVariants as V
use Rattle.spl_value.specs.Decimal.{integer}
use Rattle.spl_value.specs.Pairs.{pairs_put}
use Rattle.spl_value.specs.Values.{fits, tuple_fits}
use Rattle.spl_value.proofs.FitsLaws.{fits_bool, fits_int, fits_list, fits_map, fits_text, fits_tuple, pair_fits, put_fits}
use Rattle.txt_format.specs.TxtLaws.{FittingLaw}
use Rattle.txt_format.specs.TxtSpelling.{SpellAttributes, SpellElements, SpellPairs, Spells, SpellsValue}
use Rattle.txt_format.proofs.Steps.{in_kind_holds}

puts_fit : (k t : SplType) (qs ps : List (Value × Value)) → fits (T.Map k t) (V.Map ps) ≡ true → list_all (pair_fits k t) qs ≡ true
    → fits (T.Map k t) (V.Map (fold (λ rs p. pairs_put rs p.0 p.1) ps qs)) ≡ true
puts_fit k t [] ps h g = h
puts_fit k t (q ∷ qs) ps h g =
    let here = first_so (pair_fits k t q) (list_all (pair_fits k t) qs) g in
    puts_fit k t qs (pairs_put ps q.0 q.1) (put_fits k t ps q.0 q.1 h (first_so (fits k q.0) (fits t q.1) here) (second_so (fits k q.0) (fits t q.1) here))
    (second_so (pair_fits k t q) (list_all (pair_fits k t) qs) g)

mutual
  value_fits : (t : SplType) (bytes : List ℕ) (v : Value) → SpellsValue t bytes v → fits t v ≡ true
  value_fits t bytes v (SpellsValue.integer k bs n e) = fits_int k n ∙ in_kind_holds k (integer bs) n e
  value_fits t bytes v SpellsValue.yes = fits_bool true
  value_fits t bytes v SpellsValue.no = fits_bool false
  value_fits t bytes v (SpellsValue.text inside bs m) = fits_text bs
  value_fits t bytes v (SpellsValue.list u pieces inside vs es i) = fits_list u vs ∙ elements_fit u pieces vs es
  value_fits t bytes v (SpellsValue.map_of k u pieces inside ps es i) = puts_fit k u ps [] (fits_map k u []) (pairs_fit k u pieces ps es)
  value_fits t bytes v (SpellsValue.tuple schema pieces inside vs es i) = fits_tuple schema vs ∙ attributes_fit schema pieces vs es

  spelled_fits : (t : SplType) (bytes : List ℕ) (v : Value) → Spells t bytes v → fits t v ≡ true
  spelled_fits t bytes v (Spells.between u before own behind w b s c) = value_fits u own w s

  elements_fit : (t : SplType) (pieces : List (List ℕ)) (vs : List Value) → SpellElements t pieces vs → list_all (fits t) vs ≡ true
  elements_fit t pieces vs (SpellElements.no_element u) = refl
  elements_fit t pieces vs (SpellElements.element u bytes v ps ws s es) = both_true (spelled_fits u bytes v s) (elements_fit u ps ws es)

  pairs_fit : (k t : SplType) (pieces : List (List ℕ)) (ps : List (Value × Value)) → SpellPairs k t pieces ps → list_all (pair_fits k t) ps ≡ true
  pairs_fit k t pieces ps (SpellPairs.no_pair j u) = refl
  pairs_fit k t pieces ps (SpellPairs.pair j u key value w v qs rs s z es) = both_true (both_true (spelled_fits j key w s) (spelled_fits u value v z)) (pairs_fit j u qs rs es)

  attributes_fit : (schema : List (Named SplType)) (pieces : List (List ℕ)) (vs : List Value) → SpellAttributes schema pieces vs → tuple_fits schema vs ≡ true
  attributes_fit schema pieces vs SpellAttributes.no_attribute = refl
  attributes_fit schema pieces vs (SpellAttributes.attribute a others before behind bytes v ps ws n b c s es) = both_true (spelled_fits a.kind bytes v s) (attributes_fit others ps ws es)

pub fitting : FittingLaw
fitting schema line vs s = sym (fits_tuple schema vs) ∙ spelled_fits (T.Tuple schema) line (V.Tuple vs) s
