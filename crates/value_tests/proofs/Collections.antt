-- Lists and maps that are built up element by element fit their types.
use Rattle.std.proofs.Common.{◌≡◌, IsTrue, List, [], ◌∷◌, ◌++◌, sym, subst}
use Rattle.spl_value.specs.declared.types.SplType.{SplType}
use Rattle.spl_value.specs.declared.types.SplType.TheVariants as S
use Rattle.spl_value.specs.declared.value.Value.{Value}
use Rattle.spl_value.specs.declared.value.Value.TheVariants as V
use Rattle.spl_value.specs.Calls.{GivesOf}
use Rattle.spl_value.proofs.CallsLaws.{append_of_list, append_law}
use Rattle.spl_value.proofs.FitsLaws.{fits_list, fits_map, put_fits}
use Rattle.spl_value.specs.Pairs.{pairs_put}
use Rattle.spl_value.specs.Values.{fits}

abbrev pub IsListOf : SplType → List Value → Type 0
IsListOf t vs = IsTrue (fits (S.List t) (V.List vs))

abbrev pub IsMapOf : SplType → SplType → List (Value × Value) → Type 0
IsMapOf k t ps = IsTrue (fits (S.Map k t) (V.Map ps))

pub empty_list : (t : SplType) (vs : List Value) → vs ≡ [] → IsListOf t vs
empty_list t vs e = subst (IsListOf t) (sym e) (fits_list t [])

pub longer_list : (t : SplType) (vs ws : List Value) (v : Value) → IsListOf t vs → IsTrue (fits t v) → ws ≡ vs ++ v ∷ [] → IsListOf t ws
longer_list t vs ws v f g e = subst (IsListOf t) (sym e) (subst (GivesOf (S.List t)) (append_of_list vs v) (append_law t (V.List vs) v f g))

pub empty_map : (k t : SplType) (ps : List (Value × Value)) → ps ≡ [] → IsMapOf k t ps
empty_map k t ps e = subst (IsMapOf k t) (sym e) (fits_map k t [])

pub put_map : (k t : SplType) (ps qs : List (Value × Value)) (key v : Value) → IsMapOf k t ps → IsTrue (fits k key) → IsTrue (fits t v) → qs ≡ pairs_put ps key v → IsMapOf k t qs
put_map k t ps qs key v f g h e = subst (IsMapOf k t) (sym e) (put_fits k t ps key v f g h)
