-- What stands at the sites of bodies is what the definitions find there.
use Rattle.std.specs.Prelude.{◌≡◌, ◌<◌, ℕ, zero, suc, ◌+◌, Bool, true, false, cond, List, [], ◌∷◌, ◌++◌, length, take, sum_by, position, if◌then◌else◌, Option, Some, None, slice_get}
use Rattle.std.specs.List.{position_from}
use Rattle.std.specs.Option.{option_and_then, option_map, option_map_or}
use Rattle.std.proofs.Common.{refl, ap, sym, ◌∙◌, subst, arith, add-one, append_assoc, length-append}
use Rattle.std.proofs.lemmas.Iterator.Adapters.{position_from-zero}
use Rattle.std.proofs.lemmas.List.Sums.{sum_by-append}
use Rattle.std.proofs.lemmas.Option.{slice_get_within}
use Rattle.spl_tree.specs.declared.graph.Site.{Site}
use Rattle.spl_tree.specs.declared.unit.Composite.{Composite}
use Rattle.spl_tree.specs.declared.unit.Definition.{Definition}
use Rattle.language_model.specs.declared.expansion.Operation.{Operation}
use Rattle.language_model.specs.Composites.{composites}
use Rattle.language_model.specs.Expansion.{Inlined, Made, source}
use Rattle.language_model.specs.Numbering.{is_site, output_place, operator_or_expansion, first_stream}
use Rattle.language_model.proofs.parts.Numbering.{operator_at, expansion_at}
use Rattle.composite_tables.specs.declared.made.Body.{Body}
use Rattle.composite_tables.specs.Inputs.{Shows}
use Rattle.stream_numbering.specs.steps.SiteTable.{Parts, parts_of, first_at, body_at, composite_of, output_of, first_or_output, stream_there}
use Rattle.stream_numbering.specs.steps.StreamTable.{Table, stream_in}
use Rattle.stream_numbering.proofs.Outputs.{and_then_same}

abbrev pub outputs_of : List Operation → ℕ
outputs_of ops = sum_by (λ op. op.outputs) ops

-- ---- operators

taken_back : (before ops : List Operation) → take (length before) (before ++ ops) ≡ before
taken_back [] ops = refl
taken_back (op ∷ before) ops = ap (λ os. op ∷ os) (taken_back before ops)

pub first_stream-append : (before ops : List Operation) → first_stream (before ++ ops) (length before) ≡ outputs_of before
first_stream-append before ops = ap outputs_of (taken_back before ops)

pub outputs_more : (before : List Operation) (op : Operation) → outputs_of (before ++ op ∷ []) ≡ outputs_of before + op.outputs
outputs_more before op =
    let alone : 0 + op.outputs ≡ op.outputs = omega arith in
    sum_by-append (λ op. op.outputs) before (op ∷ []) ∙ ap (λ n. outputs_of before + n) alone

module _ (q : Site) where
  abbrev is_there : Operation → Bool
  is_there op = is_site op.site q

  first_from : (before ops : List Operation) → first_at (outputs_of before) ops q ≡ option_map (first_stream (before ++ ops)) (position_from is_there (length before) ops)
  first_from before [] = refl
  first_from before (op ∷ ops) =
      elim (is_there op) as (λ b. (if b then Some (outputs_of before) else first_at (outputs_of before + op.outputs) ops q)
      ≡ option_map (first_stream (before ++ op ∷ ops)) (cond b (Some (length before)) (position_from is_there (length before + 1) ops))) [
        | true ↦ ap Some (sym (first_stream-append before (op ∷ ops)))
        | false ↦
            ap (λ n. first_at n ops q) (sym (outputs_more before op)) ∙ first_from (before ++ op ∷ []) ops
            ∙ (λ i. option_map (first_stream (append_assoc before (op ∷ []) ops i)) (position_from is_there (length-append before (op ∷ []) i) ops))
      ]

  pub first_is : (ops : List Operation) → first_at 0 ops q ≡ option_map (first_stream ops) (position is_there ops)
  first_is ops = first_from [] ops ∙ ap (option_map (first_stream ops)) (sym (position_from-zero is_there ops))

  -- ---- bodies

  abbrev is_there_in : Inlined → Bool
  is_there_in e = option_map_or (is_site q) e.site false

  body_from : (number : ℕ) (bodies : List Body) (xs : List Inlined) → length bodies ≡ length xs
      → ((k : ℕ) (b : Body) (x : Inlined) → slice_get bodies k ≡ Some b → slice_get xs k ≡ Some x → b.site ≡ x.site)
      → body_at number bodies q ≡ position_from is_there_in number xs
  body_from number [] [] long sites = refl
  body_from number [] (x ∷ xs) long sites = cc
  body_from number (b ∷ bs) [] long sites = cc
  body_from number (b ∷ bs) (x ∷ xs) long sites =
      let shorter : length bs ≡ length xs = omega (arith, long) in
      (λ i. cond (option_map_or (is_site q) (sites 0 b x refl refl i) false) (Some number)
      ((body_from (suc number) bs xs shorter (λ k. sites (suc k)) ∙ ap (λ n. position_from is_there_in n xs) (sym (add-one number))) i))

  pub body_is : (unit : List Definition) (bodies : List Body) (xs : List Inlined) → Shows unit bodies xs → body_at 0 bodies q ≡ position is_there_in xs
  body_is unit bodies xs shows =
      body_from 0 bodies xs shows.count (λ k b x hb hx. (shows.each k b x hb hx).site) ∙ sym (position_from-zero is_there_in xs)

-- ---- composites

pub none_past : {A : Type 0} (xs : List A) (k : ℕ) → slice_get xs k ≡ None → k < length xs → ⊥
none_past [] k e h = omega arith
none_past (x ∷ xs) zero e h = cc
none_past (x ∷ xs) (suc k) e h = none_past xs k e (omega arith)

module _ (unit : List Definition) (bodies : List Body) (made : Made) (shows : Shows unit bodies made.expansions) where
  abbrev parts : Parts
  parts = parts_of unit bodies made.ops

  abbrev composite_at : ℕ → Option Composite
  composite_at number = option_map (λ x. x.composite.what) (slice_get made.expansions number)

  pub composite_is : (number : ℕ) → composite_of parts number ≡ composite_at number
  composite_is number = by (slice_get bodies number) (slice_get made.expansions number) refl refl
    where
      by : (o : Option Body) (p : Option Inlined) → slice_get bodies number ≡ o → slice_get made.expansions number ≡ p
          → option_and_then (λ b. slice_get (composites unit) b.composite) o ≡ option_map (λ x. x.composite.what) p
      by None None d e = refl
      by (Some b) (Some x) d e = (shows.each number b x d e).composite
      by (Some b) None d e = absurd (none_past made.expansions number e (subst (λ (n : ℕ). number < n) shows.count (slice_get_within bodies number b d)))
      by None (Some x) d e = absurd (none_past bodies number d (subst (λ (n : ℕ). number < n) (sym shows.count) (slice_get_within made.expansions number x e)))

  output_is : (table : Table) (k number : ℕ)
      → output_of parts table k number
      ≡ option_and_then (λ x. option_and_then (λ place. stream_in table (source number place)) (output_place x.composite.what k)) (slice_get made.expansions number)
  output_is table k number =
      ap (option_and_then (λ c. option_and_then (λ place. stream_in table (source number place)) (output_place c k))) (composite_is number)
      ∙ mapped (slice_get made.expansions number)
    where
      mapped : (o : Option Inlined)
          → option_and_then (λ c. option_and_then (λ place. stream_in table (source number place)) (output_place c k)) (option_map (λ x. x.composite.what) o)
          ≡ option_and_then (λ x. option_and_then (λ place. stream_in table (source number place)) (output_place x.composite.what k)) o
      mapped None = refl
      mapped (Some x) = refl

  pub there_is : (table : Table) (s : Site) (k : ℕ) → stream_there parts table s k ≡ operator_or_expansion (stream_in table) made s k (operator_at made s)
  there_is table s k =
      ap (first_or_output parts table s k) (first_is s made.ops) ∙ by (operator_at made s)
    where
      by : (o : Option ℕ) → first_or_output parts table s k (option_map (first_stream made.ops) o) ≡ operator_or_expansion (stream_in table) made s k o
      by (Some n) = refl
      by None =
          ap (option_and_then (output_of parts table k)) (body_is s unit bodies made.expansions shows)
          ∙ and_then_same _ _ (expansion_at made s) (λ e found. output_is table k e)
