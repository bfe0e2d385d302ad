-- What is numbered by the table of an expansion is what the definitions number.
use Rattle.std.specs.Prelude.{◌≡◌, ◌<◌, ◌≤◌, ℕ, zero, suc, ◌+◌, List, [], ◌∷◌, ◌++◌, map, flat_map, filter_map, length, Option, Some, None, slice_get}
use Rattle.std.specs.List.{cons_option}
use Rattle.std.specs.Option.{option_and_then, option_map_or, option_to_list}
use Rattle.std.proofs.Common.{refl, ap, sym, ◌∙◌, subst, arith, add-one, append_assoc, length-append}
use Rattle.std.proofs.lemmas.List.{length-map}
use Rattle.std.proofs.lemmas.Simd.{map-map}
use Rattle.std.proofs.lemmas.Option.{slice_get_within, slice_get_past}
use Rattle.spl_tree.specs.declared.unit.Definition.{Definition}
use Rattle.spl_tree.specs.declared.unit.Invocation.{Invocation}
use Rattle.language_model.specs.declared.expansion.Operation.{Operation}
use Rattle.language_model.specs.declared.expansion.Source.{Source}
use Rattle.language_model.specs.Expansion.{Inlined, Made, source, sources_of, input_sources}
use Rattle.language_model.specs.Invoking.{stream_names}
use Rattle.language_model.specs.Numbering.{Output, numbers_from, first_stream, outputs_from, operator_or_expansion, site_at, stream_of, streams_of, ops_from, streams_from, input_streams, expansions_from}
use Rattle.language_model.specs.parts.Numbering.{graph_outputs}
use Rattle.language_model.proofs.parts.Numbering.{operator_at, own_sources, first_or_none, expansion_of}
use Rattle.composite_tables.specs.declared.made.Body.{Body}
use Rattle.composite_tables.specs.declared.made.Input.{Input}
use Rattle.stream_numbering.specs.declared.numbering.Numbered.{Numbered}
use Rattle.composite_tables.specs.Inputs.{Shows, AreNested, InputsStand, StandsFor}
use Rattle.stream_numbering.specs.Numbered.{IsNumbered}
use Rattle.stream_numbering.specs.steps.SiteTable.{parts_of, table_of}
use Rattle.stream_numbering.specs.steps.StreamTable.{Table, stream_in, ops_in, row_in, input_in, expansion_in, expansions_in}
use Rattle.stream_numbering.proofs.Filling.{at_place, table_has}
use Rattle.stream_numbering.proofs.Outputs.{stream_law}
use Rattle.stream_numbering.proofs.SiteTables.{outputs_of, first_stream-append, outputs_more, none_past}
use Rattle.graph_laws.proofs.Flattening.{numbers_length}

-- ---- rows by their places

numbers_shift : (n count : ℕ) → numbers_from (suc n) count ≡ map suc (numbers_from n count)
numbers_shift n zero = refl
numbers_shift n (suc count) = ap (λ ks. suc n ∷ ks) (numbers_shift (suc n) count)

filter_map-map : {A B C : Type 0} (f : B → Option C) (g : A → B) (xs : List A) → filter_map f (map g xs) ≡ filter_map (λ x. f (g x)) xs
filter_map-map f g [] = refl
filter_map-map f g (x ∷ xs) = ap (cons_option (f (g x))) (filter_map-map f g xs)

map_shift : {A : Type 0} (f : ℕ → A) (count : ℕ) → map f (numbers_from 1 count) ≡ map (λ k. f (suc k)) (numbers_from 0 count)
map_shift f count = ap (map f) (numbers_shift 0 count) ∙ map-map f suc (numbers_from 0 count)

no_more : (row : List (Option ℕ)) → ((place : ℕ) → at_place row place ≡ None) → filter_map (λ s. s) row ≡ []
no_more [] h = refl
no_more (s ∷ row) h = ap (λ s. cons_option s (filter_map (λ s. s) row)) (h 0) ∙ no_more row (λ place. h (suc place))

no_places : (count n : ℕ) → filter_map (λ place. at_place [] place) (numbers_from n count) ≡ []
no_places zero n = refl
no_places (suc count) n = no_places count (suc n)

by_place : (row : List (Option ℕ)) (count : ℕ) → ((place : ℕ) → count ≤ place → at_place row place ≡ None)
    → filter_map (λ s. s) row ≡ filter_map (at_place row) (numbers_from 0 count)
by_place row zero past = no_more row (λ place. past place (omega arith))
by_place [] (suc count) past = sym (no_places (suc count) 0)
by_place (s ∷ row) (suc count) past =
    ap (cons_option s) (
    by_place row count (λ place from. past (suc place) (omega arith))
    ∙ sym (ap (filter_map (at_place (s ∷ row))) (numbers_shift 0 count) ∙ filter_map-map (at_place (s ∷ row)) suc (numbers_from 0 count))
    )

map_by_place : {A B : Type 0} (f : A → B) (g : ℕ → B) (row : List A) → ((j : ℕ) (a : A) → slice_get row j ≡ Some a → f a ≡ g j)
    → map f row ≡ map g (numbers_from 0 (length row))
map_by_place f g [] same = refl
map_by_place f g (a ∷ row) same =
    (λ i. same 0 a refl i ∷ (map_by_place f (λ k. g (suc k)) row (λ j. same (suc j)) ∙ sym (map_shift g (length row))) i)

length-outputs_from : (number : ℕ) (graph : List Invocation)
    → length (outputs_from number graph) ≡ length (flat_map (λ i. map (λ o. o.name.what) i.outputs) graph)
length-outputs_from number [] = refl
length-outputs_from number (i ∷ is) =
    let output : ℕ → Output = λ k. record { invocation = number; output = k } in
    let names = map (λ o. o.name.what) i.outputs in
    length-append (map output (numbers_from 0 (length i.outputs))) (outputs_from (suc number) is)
    ∙ (λ j. (length-map (numbers_from 0 (length i.outputs)) output ∙ numbers_length 0 (length i.outputs) ∙ sym (length-map i.outputs (λ o. o.name.what))) j
    + length-outputs_from (suc number) is j)
    ∙ sym (length-append names (flat_map (λ i. map (λ o. o.name.what) i.outputs) is))

-- ---- operators

module _ (made : Made) (table : Table) (has : (x : Source) → stream_in table x ≡ stream_of (length made.expansions) made x) where
  abbrev stands_for : Source → Option ℕ
  stands_for = stream_of (length made.expansions) made

  all_same : stream_in table ≡ stands_for
  all_same i x = has x i

  ops_are : (before ops : List Operation) → made.ops ≡ before ++ ops → ops_in table (outputs_of before) ops ≡ ops_from made (length before) ops
  ops_are before [] all = refl
  ops_are before (op ∷ ops) all =
      let first : outputs_of before ≡ first_stream made.ops (length before) = sym (ap (λ os. first_stream os (length before)) all ∙ first_stream-append before (op ∷ ops)) in
      let more : made.ops ≡ (before ++ op ∷ []) ++ ops = all ∙ sym (append_assoc before (op ∷ []) ops) in
      let rest = ap (λ n. ops_in table n ops) (sym (outputs_more before op)) ∙ ops_are (before ++ op ∷ []) ops more
      ∙ ap (λ n. ops_from made n ops) (length-append before (op ∷ []) ∙ add-one (length before)) in
      (λ i. record {
        name = op.name;
        kind = op.kind;
        ins = map (filter_map (all_same i)) op.ins;
        outs = numbers_from (first i) op.outputs;
        site = op.site;
        at = op.at;
      } ∷ rest i)

  pub ops_is : ops_in table 0 made.ops ≡ ops_from made 0 made.ops
  ops_is = ops_are [] made.ops refl

  -- ---- inputs

  first_is : (first : Option Source) → option_map_or (λ s. s) (option_and_then (stream_in table) first) 0 ≡ first_or_none (streams_of made (option_to_list first))
  first_is None = refl
  first_is (Some x) = ap (λ s. option_map_or (λ s. s) s 0) (has x) ∙ by (stands_for x)
    where
      by : (s : Option ℕ) → option_map_or (λ s. s) s 0 ≡ first_or_none (cons_option s [])
      by None = refl
      by (Some n) = refl

  input_is : (number : ℕ) (i : Input) (list : List Source) → StandsFor made.expansions number i list → input_in table i ≡ input_streams made list
  input_is number i list stands = λ j. record { count = stands.count j; first = (first_is i.first ∙ ap (λ xs. first_or_none (streams_of made xs)) stands.first) j }

  module _ (unit : List Definition) (bodies : List Body) (shows : Shows unit bodies made.expansions) (nested : AreNested made.expansions)
      (rows : List (List Input)) (stand : InputsStand made.expansions rows) where
    inputs_are : (number : ℕ) (x : Inlined) → slice_get made.expansions number ≡ Some x
        → map (input_in table) (row_in rows number)
        ≡ map (λ k. input_streams made (input_sources (sources_of made.expansions) made.expansions x.site k)) (numbers_from 0 (length x.composite.what.inputs))
    inputs_are number x there = by (slice_get rows number) refl
      where
        by : (o : Option (List Input)) → slice_get rows number ≡ o
            → map (input_in table) (option_map_or (λ row. row) o [])
            ≡ map (λ k. input_streams made (input_sources (sources_of made.expansions) made.expansions x.site k)) (numbers_from 0 (length x.composite.what.inputs))
        by None e = absurd (none_past rows number e (subst (λ (n : ℕ). number < n) (sym stand.count) (slice_get_within made.expansions number x there)))
        by (Some row) e =
            let are = stand.each number x row there e in
            map_by_place (input_in table) (λ k. input_streams made (input_sources (sources_of made.expansions) made.expansions x.site k)) row
            (λ j i here. input_is number i (input_sources (sources_of made.expansions) made.expansions x.site j) (are.each j i here))
            ∙ ap (λ n. map (λ k. input_streams made (input_sources (sources_of made.expansions) made.expansions x.site k)) (numbers_from 0 n)) are.count

    -- ---- names

    own_is : (number place : ℕ) → stream_in table (source number place) ≡ at_place (row_in table number) place
    own_is number place = by (slice_get table number)
      where
        by : (o : Option (List (Option ℕ))) → option_and_then (λ row. at_place row place) o ≡ at_place (option_map_or (λ row. row) o []) place
        by None = refl
        by (Some row) = refl

    past_names : (number : ℕ) (x : Inlined) (place : ℕ) → slice_get made.expansions number ≡ Some x → length (stream_names x.composite.what) ≤ place
        → at_place (row_in table number) place ≡ None
    past_names number x place there past =
        let long : length (graph_outputs x.composite.what) ≤ place = subst (λ (n : ℕ). n ≤ place) (sym (length-outputs_from 0 x.composite.what.graph)) past in
        sym (own_is number place) ∙ has (source number place) ∙ stream_law made nested (source number place)
        ∙ ap (option_and_then (λ e. option_and_then
        (λ o. operator_or_expansion stands_for made (site_at number o) o.output (operator_at made (site_at number o)))
        (slice_get (graph_outputs e.composite.what) place))) there
        ∙ ap (option_and_then (λ o. operator_or_expansion stands_for made (site_at number o) o.output (operator_at made (site_at number o))))
        (slice_get_past (graph_outputs x.composite.what) place long)

    names_are : (number : ℕ) (x : Inlined) → slice_get made.expansions number ≡ Some x
        → filter_map (λ s. s) (row_in table number) ≡ streams_of made (own_sources number x.composite.what)
    names_are number x there =
        let count = length (stream_names x.composite.what) in
        let same : at_place (row_in table number) ≡ (λ place. stands_for (source number place)) = λ i place. (sym (own_is number place) ∙ has (source number place)) i in
        by_place (row_in table number) count (λ place. past_names number x place there)
        ∙ ap (λ f. filter_map f (numbers_from 0 count)) same
        ∙ sym (filter_map-map stands_for (source number) (numbers_from 0 count))

    -- ---- bodies

    body_is : (number : ℕ) (b : Body) (x : Inlined) → slice_get bodies number ≡ Some b → slice_get made.expansions number ≡ Some x
        → expansion_in table rows number b ≡ expansion_of made number x
    body_is number b x here there =
        let body = shows.each number b x here there in
        (λ i. record {
          composite = body.place i;
          site = body.site i;
          streams = names_are number x there i;
          inputs = inputs_are number x there i;
        })

    bodies_are : (number : ℕ) (bs : List Body) (xs : List Inlined) → length bs ≡ length xs
        → ((k : ℕ) (b : Body) (x : Inlined) → slice_get bs k ≡ Some b → slice_get xs k ≡ Some x → expansion_in table rows (number + k) b ≡ expansion_of made (number + k) x)
        → expansions_in table rows number bs ≡ expansions_from made number xs
    bodies_are number [] [] long same = refl
    bodies_are number [] (x ∷ xs) long same = cc
    bodies_are number (b ∷ bs) [] long same = cc
    bodies_are number (b ∷ bs) (x ∷ xs) long same =
        let shorter : length bs ≡ length xs = omega (arith, long) in
        let here : number + 0 ≡ number = omega arith in
        let own = subst (λ (n : ℕ). expansion_in table rows n b ≡ expansion_of made n x) here (same 0 b x refl refl) in
        (λ i. own i ∷ bodies_are (suc number) bs xs shorter (λ k d y hd hy.
        let shifted : number + suc k ≡ suc number + k = omega arith in
        subst (λ (n : ℕ). expansion_in table rows n d ≡ expansion_of made n y) shifted (same (suc k) d y hd hy)) i)

    pub expansions_is : expansions_in table rows 0 bodies ≡ expansions_from made 0 made.expansions
    expansions_is = bodies_are 0 bodies made.expansions shows.count (λ k b x hb hx.
        let from_none : k ≡ 0 + k = omega arith in
        subst (λ (n : ℕ). expansion_in table rows n b ≡ expansion_of made n x) from_none (body_is k b x hb hx))

-- ---- the whole

module _ (unit : List Definition) (bodies : List Body) (rows : List (List Input)) (made : Made) (operations : List Operation) (same : made.ops ≡ operations)
    (shows : Shows unit bodies made.expansions) (nested : AreNested made.expansions) (stand : InputsStand made.expansions rows)
    (table : Table) (filled : table ≡ table_of (parts_of unit bodies operations)) where
  has : (x : Source) → stream_in table x ≡ stream_of (length made.expansions) made x
  has x = ap (λ t. stream_in t x) (filled ∙ ap (λ ops. table_of (parts_of unit bodies ops)) (sym same)) ∙ table_has unit bodies made shows nested x

  pub all_is : (n : Numbered) → n.ops ≡ ops_in table 0 operations → n.streams ≡ streams_from 0 operations → n.expansions ≡ expansions_in table rows 0 bodies
      → IsNumbered made n
  all_is n ops streams expansions = record {
    ops = ops ∙ ap (ops_in table 0) (sym same) ∙ ops_is made table has;
    streams = streams ∙ ap (streams_from 0) (sym same);
    expansions = expansions ∙ expansions_is made table has unit bodies shows nested rows stand;
  }
