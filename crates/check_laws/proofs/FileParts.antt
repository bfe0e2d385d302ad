-- An operator that was checked has the file that was found of it before, or is of a kind without a file.
use Rattle.std.specs.Prelude.{◌≡◌, ℕ, zero, suc, Bool, true, false, ◌||◌, List, [], ◌∷◌, ◌++◌, map, flat_map, codes, Option, Some, None, Ok, Err, slice_get, if◌then◌else◌}
use Rattle.std.specs.Option.{option_and_then, option_map_or}
use Rattle.std.proofs.Common.{refl, sym, ap, ap₂, subst, ◌∙◌}
use Rattle.std.proofs.lemmas.List.{map-append}
use Rattle.spl_tree.specs.declared.graph.Expansion.{Expansion}
use Rattle.spl_tree.specs.declared.graph.Graph.{Graph}
use Rattle.spl_tree.specs.declared.graph.Op.{Op}
use Rattle.spl_tree.specs.declared.graph.OpKind.{OpKind}
use Rattle.spl_tree.specs.declared.graph.OpKind.TheVariants as O
use Rattle.spl_tree.specs.declared.unit.Clauses.{Clauses}
use Rattle.spl_tree.specs.declared.unit.Composite.{Composite}
use Rattle.spl_tree.specs.declared.unit.Definition.{Definition}
use Rattle.spl_tree.specs.declared.unit.Invocation.{Invocation}
use Rattle.spl_tree.specs.declared.unit.OutputAssignments.{OutputAssignments}
use Rattle.spl_tree.specs.Trees.{placed}
use Rattle.language_model.specs.declared.checked.CheckedClauses.{CheckedClauses}
use Rattle.language_model.specs.declared.checked.CheckedClauses.TheVariants as A
use Rattle.language_model.specs.declared.kinds.Role.TheVariants as R
use Rattle.language_model.specs.declared.scope.Port.{Port}
use Rattle.language_model.specs.declared.scope.Scope.{Scope}
use Rattle.language_model.specs.Checking.{Checks, clauses_checked, config_checked, invocation_checked, logic_checked, operator_checked, parameters_checked, part_of, port_types, rows_checked, there}
use Rattle.language_model.proofs.parts.Checking.{body_checked, operator_scope, site_of}
use Rattle.language_model.specs.parts.Checking.{file_given, is_partitioned, operators_checked, output_rows, ports_checked, ports_of, strict_given, surroundings, windows_checked}
use Rattle.language_model.specs.Keeping as F
use Rattle.language_model.specs.Keeping.{PartFits}
use Rattle.language_model.specs.DollarTargets.{expression_meant, invocation_at, value_named}
use Rattle.language_model.specs.Literals.{file_typing, number_literal}
use Rattle.language_model.specs.LogicTyping.{Surroundings}
use Rattle.language_model.specs.ParameterTyping.{Site, needed, role_of}
use Rattle.language_model.specs.Parameters.{Tables}
use Rattle.language_model.specs.SinkFiles.{OpFile, file_of, is_sink, op_file}
use Rattle.language_model.proofs.parts.SinkFiles.{is_source}
use Rattle.language_model.specs.parts.SinkFiles.{text_in}
use Rattle.language_model.specs.StreamTypes.{Attributes, Body, body_at}
use Rattle.language_model.specs.Typing.{Found, after, mismatch}
use Rattle.check_laws.proofs.ExpansionBodies.{IsBodyOf, body_of}
use Rattle.check_laws.proofs.FileParameters.{HasFile, has_file}
use Rattle.check_laws.proofs.FollowedTexts.{file_found}
use Rattle.language_model.proofs.FoundAnswers.{Gives, after_gives, gives_from, gives_then, same_Ok}

-- ---- files without their places

-- a file wherever it stands
abbrev pub bare : OpFile → OpFile
bare f = record { sink = f.sink; file = placed 0 f.file.what }

-- the file of an operator of the kind
abbrev kind_file : ℕ → OpKind → Option (List ℕ) → List OpFile
kind_file at kind found =
    if is_sink kind || is_source kind then option_map_or (λ bytes. record { sink = is_sink kind; file = placed at bytes } ∷ []) found [] else []

-- the file of checked clauses
abbrev pub part_file : CheckedClauses → List OpFile
part_file (A.FileSink file) = record { sink = true; file = placed 0 file } ∷ []
part_file (A.FileSource file strict) = record { sink = false; file = placed 0 file } ∷ []
part_file _ = []

-- ---- clauses

-- operators of the kind have a file
abbrev is_filed : OpKind → Bool
is_filed kind = is_sink kind || is_source kind

-- the part has the file that was found for an operator of the kind, where those have one
abbrev SameFile : ℕ → OpKind → Option (List ℕ) → CheckedClauses → Type 0
SameFile at kind found part = is_filed kind ≡ true → map bare (kind_file at kind found) ≡ part_file part

always : {A : Type 0} (Q : A → Type 0) (r : Found A) → ((x : A) → Q x) → Gives Q r
always Q (Ok x) h = h x
always Q (Err refusal) h = tt

module _ (site : Site) (clauses : Clauses) (found : Option (List ℕ)) (finds : (file : List ℕ) → HasFile site clauses.parameters file → found ≡ Some file)
    (at : ℕ) where
  file_given_is : (kind : OpKind) (partitioned : Bool) (x : Checks) → role_of kind partitioned (codes "file") ≡ Some R.File → needed kind partitioned ≡ codes "file" ∷ []
      → parameters_checked site kind partitioned at clauses.parameters ≡ Ok x.given → found ≡ Some (file_given x.given)
  file_given_is kind partitioned x role needs given = finds (file_given x.given) (has_file site kind partitioned at clauses.parameters x.given role needs given)

  kind_has_file : (kind : OpKind) (partitioned : Bool) (x : Checks) (rows : List OutputAssignments)
      → parameters_checked site kind partitioned at clauses.parameters ≡ Ok x.given → Gives (SameFile at kind found) (part_of x clauses rows kind)
  kind_has_file O.FileSource partitioned x rows given =
      let same : SameFile at O.FileSource found (A.FileSource (file_given x.given) (strict_given x.given)) =
      λ filed. ap (λ o. map bare (kind_file at O.FileSource o)) (file_given_is O.FileSource partitioned x refl refl given) in
      gives_then (SameFile at O.FileSource found) (logic_checked O.FileSource clauses.logic) _ (λ u none.
      gives_then (SameFile at O.FileSource found) (rows_checked x x.around.schemas) _ (λ v text. same))
  kind_has_file O.FileSink partitioned x rows given =
      let same : SameFile at O.FileSink found (A.FileSink (file_given x.given)) =
      λ filed. ap (λ o. map bare (kind_file at O.FileSink o)) (file_given_is O.FileSink partitioned x refl refl given) in
      gives_then (SameFile at O.FileSink found) (logic_checked O.FileSink clauses.logic) _ (λ u none.
      gives_then (SameFile at O.FileSink found) (rows_checked x (map (λ p. p.schema) x.around.scope.ports)) _ (λ v text. same))
  kind_has_file kind partitioned x rows given =
      always (SameFile at kind found) (part_of x clauses rows kind) (λ part filed. let no : false ≡ true = filed in absurd cc)

clauses_file : (op : Op) (site : Site) (around : Surroundings) (clauses : Clauses) (found : Option (List ℕ))
    → ((file : List ℕ) → HasFile site clauses.parameters file → found ≡ Some file) → Gives (SameFile op.at op.kind found) (clauses_checked op site around clauses)
clauses_file op site around clauses found finds =
    let Q : CheckedClauses → Type 0 = SameFile op.at op.kind found in
    gives_then Q (config_checked clauses.config) _ (λ u none.
    gives_then Q (windows_checked op.kind (number_literal site.scope site.follow) op.at site.scope.ports clauses.window) _ (λ windows are.
    gives_then Q (parameters_checked site op.kind (is_partitioned windows) op.at clauses.parameters) _ (λ given params.
    gives_then Q (output_rows op.kind clauses.output) _ (λ rows is.
    kind_has_file site clauses found finds op.at op.kind (is_partitioned windows) (record { at = op.at; around = around; windows = windows; given = given }) rows params))))

-- ---- operators

-- the part of an operator whose kind has a file has the operator's
abbrev OwnFile : List Definition → List Expansion → Op → CheckedClauses → Type 0
OwnFile unit expansions op part = is_filed op.kind ≡ true → map bare (op_file unit expansions op) ≡ part_file part

-- the part fits the operator's kind
abbrev pub Fitted : Op → CheckedClauses → Type 0
Fitted op part = (scope : Scope) × (ins : List Attributes) × (outs : List Attributes) × PartFits scope op.kind ins outs part

no_file : (scope : Scope) (kind : OpKind) (ins outs : List Attributes) (part : CheckedClauses) → PartFits scope kind ins outs part → is_filed kind ≡ false → [] ≡ part_file part
no_file scope kind ins outs part (F.file_source file strict schema named text) none = absurd (let no : true ≡ false = none in cc)
no_file scope kind ins outs part (F.file_sink file schema named text) none = absurd (let no : true ≡ false = none in cc)
no_file scope kind ins outs part _ none = refl

same_file : (unit : List Definition) (expansions : List Expansion) (op : Op) (part : CheckedClauses) → OwnFile unit expansions op part → Fitted op part
    → map bare (op_file unit expansions op) ≡ part_file part
same_file unit expansions op part own fit = by_kind (is_filed op.kind) refl
  where
    by_kind : (b : Bool) → is_filed op.kind ≡ b → map bare (op_file unit expansions op) ≡ part_file part
    by_kind true filed = own filed
    by_kind false none =
        ap (λ b. map bare (if b then option_map_or (λ bytes. record { sink = is_sink op.kind; file = placed op.at bytes } ∷ []) (file_of unit expansions op) [] else [])) none
        ∙ no_file fit.0 op.kind fit.1 fit.2 part fit.3 none

module _ (unit : List Definition) (g : Graph) (tables : Tables) where
  -- what the checks take as the file of the invocation is the operator's
  finds_file : (op : Op) (b : Body) (i : Invocation) (ports : List Port) → IsBodyOf unit g.expansions op.site.expansion b
      → slice_get b.composite.graph op.site.invocation ≡ Some i
      → (file : List ℕ) → HasFile (site_of unit g tables b ports) i.clauses.parameters file → file_of unit g.expansions op ≡ Some file
  finds_file op b i ports at there file h =
      let invoked : invocation_at unit g.expansions op.site ≡ Some i =
      ap (option_and_then (λ (c : Composite). slice_get c.graph op.site.invocation)) at.composite ∙ there in
      let scope = operator_scope unit tables b ports in
      let typed = subst (λ number. file_typing scope (expression_meant unit g.expansions number) h.expr ≡ Ok file) at.numbered h.typed in
      let text = text_in unit g.expansions op.site.expansion in
      ap (option_and_then (λ (k : Invocation). option_and_then text (value_named k.clauses.parameters (codes "file")))) invoked
      ∙ ap (option_and_then text) h.there
      ∙ file_found scope unit g.expansions op.site.expansion b.expansion h.expr file at.expansion typed

  invocation_file : (op : Op) (b : Body) (i : Invocation) → IsBodyOf unit g.expansions op.site.expansion b → slice_get b.composite.graph op.site.invocation ≡ Some i
      → Gives (OwnFile unit g.expansions op) (invocation_checked unit g tables op b i)
  invocation_file op b i at there =
      let Q : CheckedClauses → Type 0 = OwnFile unit g.expansions op in
      gives_then Q (ports_checked op i) _ (λ u is.
      gives_then Q (port_types unit g b op i) _ (λ types are.
      clauses_file op (site_of unit g tables b (ports_of i.inputs types.ins))
      (surroundings unit b i (operator_scope unit tables b (ports_of i.inputs types.ins)) types.outs) i.clauses
      (file_of unit g.expansions op) (finds_file op b i (ports_of i.inputs types.ins) at there)))

  body_file : (op : Op) (o : Option Body) → body_at unit g op.site.expansion ≡ o → Gives (OwnFile unit g.expansions op) (body_checked unit g tables op o)
  body_file op None at = tt
  body_file op (Some b) at = at_invocation (slice_get b.composite.graph op.site.invocation) refl
    where
      at_invocation : (o : Option Invocation) → slice_get b.composite.graph op.site.invocation ≡ o
          → Gives (OwnFile unit g.expansions op) (option_map_or (invocation_checked unit g tables op b) o (mismatch op.at))
      at_invocation None there = tt
      at_invocation (Some i) there = invocation_file op b i (body_of unit g op.site.expansion b at) there

  operator_file : (op : Op) (part : CheckedClauses) → operator_checked unit g tables op ≡ Ok part → OwnFile unit g.expansions op part
  operator_file op part e =
      gives_from (OwnFile unit g.expansions op) (operator_checked unit g tables op) part (body_file op (body_at unit g op.site.expansion) refl) e

  -- the files of operators are those of their parts, where each of these fits
  pub operators_files : (ops : List Op) (parts : List CheckedClauses) → operators_checked unit g tables ops ≡ Ok parts
      → ((n : ℕ) (op : Op) (part : CheckedClauses) → slice_get ops n ≡ Some op → slice_get parts n ≡ Some part → Fitted op part)
      → map bare (flat_map (op_file unit g.expansions) ops) ≡ flat_map part_file parts
  operators_files [] parts e fits = let none : [] ≡ parts = same_Ok e in ap (flat_map part_file) none
  operators_files (op ∷ ops) parts e fits =
      let x = after_gives (operator_checked unit g tables op) (λ part. after (operators_checked unit g tables ops) (λ rest. Ok (part ∷ rest))) parts e in
      let y = after_gives (operators_checked unit g tables ops) (λ rest. Ok (x.0 ∷ rest)) parts x.2 in
      let whole : x.0 ∷ y.0 ≡ parts = same_Ok y.2 in
      let fit = fits zero op x.0 refl (ap (λ (ps : List CheckedClauses). slice_get ps zero) (sym whole)) in
      let own = same_file unit g.expansions op x.0 (operator_file op x.0 x.1) fit in
      let others = operators_files ops y.0 y.1 (λ n o part at there. fits (suc n) o part at (ap (λ (ps : List CheckedClauses). slice_get ps (suc n)) (sym whole) ∙ there)) in
      map-append bare (op_file unit g.expansions op) (flat_map (op_file unit g.expansions) ops)
      ∙ ap₂ (λ (fs hs : List OpFile). fs ++ hs) own others
      ∙ ap (flat_map part_file) whole
