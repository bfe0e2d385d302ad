-- The file among the parameters of a source or a sink is that of the first one of the name `file`.
use Rattle.std.specs.Prelude.{◌≡◌, ℕ, Bool, true, false, ◌||◌, List, [], ◌∷◌, if◌then◌else◌, codes, Option, Some, None, Ok}
use Rattle.std.specs.List.{list_any}
use Rattle.std.specs.Str.{bytes_eq}
use Rattle.std.specs.Cmp.Lexicographic.{bytes_decides}
use Rattle.std.proofs.Common.{refl, sym, ap, subst, ◌∙◌}
use Rattle.std.proofs.lemmas.Option.{same_Some}
use Rattle.spl_tree.specs.declared.graph.OpKind.{OpKind}
use Rattle.spl_tree.specs.declared.unit.Parameter.{Parameter}
use Rattle.spl_tree.specs.Trees.{Expr}
use Rattle.language_model.specs.declared.checked.Given.{Given}
use Rattle.language_model.specs.declared.checked.ParameterValue.{ParameterValue}
use Rattle.language_model.specs.declared.checked.ParameterValue.TheVariants as V
use Rattle.language_model.specs.declared.kinds.Role.{Role}
use Rattle.language_model.specs.declared.kinds.Role.TheVariants as R
use Rattle.language_model.specs.Checking.{as_file, parameters_checked}
use Rattle.language_model.specs.parts.Checking.{file_given}
use Rattle.language_model.proofs.parts.Checking.{if_given}
use Rattle.language_model.specs.Literals.{file_typing}
use Rattle.language_model.specs.ParameterTyping.{Site, extra, missing, needed, one_value, parameter_typing, parameters_typing, role_of, single_value, value_given, value_typing}
use Rattle.language_model.specs.DollarTargets.{only_value, value_named}
use Rattle.language_model.specs.Typing.{after, mismatch}
use Rattle.language_model.proofs.FoundAnswers.{after_gives, same_Ok}

abbrev file_name : List ℕ
file_name = codes "file"

-- the value is a file, which was found for the one value of the first parameter of the name
pub record Filed (site : Site) (ps : List Parameter) (name : List ℕ) (value : ParameterValue) : Type 0 where
  pub expr : Expr
  pub file : List ℕ
  pub there : value_named ps name ≡ Some expr
  pub typed : file_typing site.scope site.follow expr ≡ Ok file
  pub is : value ≡ V.File file

-- ---- one parameter

record OneFile (site : Site) (es : List Expr) (value : ParameterValue) : Type 0 where
  expr : Expr
  file : List ℕ
  alone : only_value es ≡ Some expr
  typed : file_typing site.scope site.follow expr ≡ Ok file
  is : value ≡ V.File file

one_file : (site : Site) (at : ℕ) (es : List Expr) (value : ParameterValue) → one_value at (single_value site R.File) es ≡ Ok value → OneFile site es value
one_file site at [] value e = absurd cc
one_file site at (d ∷ []) value e =
    let x = after_gives (file_typing site.scope site.follow d) (λ bytes. Ok (V.File bytes)) value e in
    record { expr = d; file = x.0; alone = refl; typed = x.1; is = sym (same_Ok x.2) }
one_file site at (d ∷ c ∷ es) value e =
    let x = after_gives (single_value site R.File d) (λ v. mismatch c.at) value e in absurd cc

-- what was found for a parameter: its name, and a value
record Typed (site : Site) (p : Parameter) (role : Role) (g : Given) : Type 0 where
  named : g.name ≡ p.name.what
  typed : value_typing site p role ≡ Ok g.value

one_typed : (site : Site) (before : List (List ℕ)) (p : Parameter) (role : Role) (g : Given) → parameter_typing site before p (Some role) ≡ Ok g → Typed site p role g
one_typed site before p role g e =
    elim (list_any (λ name. bytes_eq name p.name.what) before)
    as (λ b. (if b then extra p else after (value_typing site p role) (λ value. Ok (record { name = p.name.what; value = value }))) ≡ Ok g → Typed site p role g) [
      | true ↦ λ is. absurd cc
      | false ↦ λ is. first is
    ] e
  where
    first : after (value_typing site p role) (λ value. Ok (record { name = p.name.what; value = value })) ≡ Ok g → Typed site p role g
    first is =
        let x = after_gives (value_typing site p role) (λ value. Ok (record { name = p.name.what; value = value })) g is in
        let same : ◌≡◌ {A = Given} (record { name = p.name.what; value = x.0 }) g = same_Ok x.2 in
        record { named = sym (ap (λ (y : Given). y.name) same); typed = x.1 ∙ ap (λ (y : Given). Ok y.value) same }

given_name : (site : Site) (before : List (List ℕ)) (p : Parameter) (o : Option Role) (g : Given) → parameter_typing site before p o ≡ Ok g → g.name ≡ p.name.what
given_name site before p None g e = absurd cc
given_name site before p (Some role) g e = (one_typed site before p role g e).named

-- ---- all of them

-- the value of a name, where there is one, is a file
abbrev NameFiled : Site → List Parameter → List ℕ → Option ParameterValue → Type 0
NameFiled site ps name o = (value : ParameterValue) → o ≡ Some value → Filed site ps name value

filed : (site : Site) (kind : OpKind) (partitioned : Bool) (name : List ℕ) → role_of kind partitioned name ≡ Some R.File
    → (before : List (List ℕ)) (ps : List Parameter) (given : List Given) → parameters_typing site kind partitioned before ps ≡ Ok given
    → NameFiled site ps name (value_given given name)
filed site kind partitioned name role before [] given e value at =
    let none : [] ≡ given = same_Ok e in
    let nothing : None ≡ Some value = ap (λ gs. value_given gs name) none ∙ at in absurd cc
filed site kind partitioned name role before (p ∷ ps) given e value at =
    let x = after_gives (parameter_typing site before p (role_of kind partitioned p.name.what))
    (λ g. after (parameters_typing site kind partitioned (p.name.what ∷ before) ps) (λ rest. Ok (g ∷ rest))) given e in
    let y = after_gives (parameters_typing site kind partitioned (p.name.what ∷ before) ps) (λ rest. Ok (x.0 ∷ rest)) given x.2 in
    let whole : x.0 ∷ y.0 ≡ given = same_Ok y.2 in
    let named : x.0.name ≡ p.name.what = given_name site before p (role_of kind partitioned p.name.what) x.0 x.1 in
    let at_whole : (if bytes_eq x.0.name name then Some x.0.value else value_given y.0 name) ≡ Some value = ap (λ gs. value_given gs name) whole ∙ at in
    let at_front : (if bytes_eq p.name.what name then Some x.0.value else value_given y.0 name) ≡ Some value =
    subst (λ n. (if bytes_eq n name then Some x.0.value else value_given y.0 name) ≡ Some value) named at_whole in
    by_name x.0 y.0 x.1 (filed site kind partitioned name role (p.name.what ∷ before) ps y.0 y.1) (bytes_eq p.name.what name) refl at_front
  where
    here : (g : Given) → parameter_typing site before p (role_of kind partitioned p.name.what) ≡ Ok g → bytes_eq p.name.what name ≡ true
        → OneFile site p.values g.value
    here g found same =
        let equal : p.name.what ≡ name = (bytes_decides p.name.what name).0 same in
        let as_role : role_of kind partitioned p.name.what ≡ Some R.File = ap (role_of kind partitioned) equal ∙ role in
        let typed = one_typed site before p R.File g (subst (λ o. parameter_typing site before p o ≡ Ok g) as_role found) in
        one_file site p.name.at p.values g.value typed.typed

    by_name : (g : Given) (gs : List Given) → parameter_typing site before p (role_of kind partitioned p.name.what) ≡ Ok g
        → NameFiled site ps name (value_given gs name) → (b : Bool) → bytes_eq p.name.what name ≡ b
        → (if b then Some g.value else value_given gs name) ≡ Some value → Filed site (p ∷ ps) name value
    by_name g gs found rest true same is =
        let f = here g found same in
        record {
          expr = f.expr;
          file = f.file;
          there = ap (λ b. if b then only_value p.values else value_named ps name) same ∙ f.alone;
          typed = f.typed;
          is = sym (same_Some g.value value is) ∙ f.is;
        }
    by_name g gs found rest false other is =
        let f = rest value is in
        record {
          expr = f.expr;
          file = f.file;
          there = ap (λ b. if b then only_value p.values else value_named ps name) other ∙ f.there;
          typed = f.typed;
          is = f.is;
        }

-- ---- that it is there

pub value_there : (given : List Given) (name : List ℕ) → list_any (λ g. bytes_eq g.name name) given ≡ true → (value : ParameterValue) × (value_given given name ≡ Some value)
value_there [] name e = absurd cc
value_there (g ∷ gs) name e =
    elim (bytes_eq g.name name) as (λ b. (b || list_any (λ g. bytes_eq g.name name) gs) ≡ true
    → (value : ParameterValue) × ((if b then Some g.value else value_given gs name) ≡ Some value)) [
      | true ↦ λ e. (g.value, refl)
      | false ↦ λ e. value_there gs name e
    ] e

pub given_there : (given : List Given) (name : List ℕ) → missing given (name ∷ []) ≡ None → (value : ParameterValue) × (value_given given name ≡ Some value)
given_there given name none =
    elim (list_any (λ g. bytes_eq g.name name) given) as (λ b. list_any (λ g. bytes_eq g.name name) given ≡ b → (if b then None else Some name) ≡ None
    → (value : ParameterValue) × (value_given given name ≡ Some value)) [
      | true ↦ λ has e. value_there given name has
      | false ↦ λ lacks e. absurd cc
    ] refl none

none_missing : (at : ℕ) (o : Option (List ℕ)) (found given : List Given) → if_given at o found ≡ Ok given → (o ≡ None) × (found ≡ given)
none_missing at None found given e = (refl, same_Ok e)
none_missing at (Some name) found given e = absurd cc

-- the file of an operator that needs one
pub record HasFile (site : Site) (ps : List Parameter) (file : List ℕ) : Type 0 where
  pub expr : Expr
  pub there : value_named ps (codes "file") ≡ Some expr
  pub typed : file_typing site.scope site.follow expr ≡ Ok file

of_value : (site : Site) (ps : List Parameter) (given : List Given) (value : ParameterValue) → value_given given file_name ≡ Some value
    → Filed site ps file_name value → HasFile site ps (file_given given)
of_value site ps given value there f =
    let is : file_given given ≡ f.file = ap as_file there ∙ ap (λ (v : ParameterValue). as_file (Some v)) f.is in
    record { expr = f.expr; there = f.there; typed = f.typed ∙ ap (λ (b : List ℕ). Ok b) (sym is) }

pub has_file : (site : Site) (kind : OpKind) (partitioned : Bool) (at : ℕ) (ps : List Parameter) (given : List Given)
    → role_of kind partitioned file_name ≡ Some R.File → needed kind partitioned ≡ file_name ∷ []
    → parameters_checked site kind partitioned at ps ≡ Ok given → HasFile site ps (file_given given)
has_file site kind partitioned at ps given role needs e =
    let x = after_gives (parameters_typing site kind partitioned [] ps) (λ found. if_given at (missing found (needed kind partitioned)) found) given e in
    let y = none_missing at (missing x.0 (needed kind partitioned)) x.0 given x.2 in
    let typed : parameters_typing site kind partitioned [] ps ≡ Ok given = x.1 ∙ ap (λ (gs : List Given). Ok gs) y.1 in
    let none : missing given (file_name ∷ []) ≡ None =
    subst (λ gs. missing gs (file_name ∷ []) ≡ None) y.1 (subst (λ names. missing x.0 names ≡ None) needs y.0) in
    let value = given_there given file_name none in
    of_value site ps given value.0 value.1 (filed site kind partitioned file_name role [] ps given typed value.0 value.1)
