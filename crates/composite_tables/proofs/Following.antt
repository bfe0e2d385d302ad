-- Following a name outwards, body by body.
use Rattle.std.specs.Prelude.{◌≡◌, ◌+◌, ◌-◌, ◌*◌, ◌^◌, ◌<◌, ◌≤◌, ℕ, zero, suc, List, [], ◌∷◌, ◌++◌, drop, flat_map, get_or, length, sum_by, take, Option, None, Some, slice_get}
use Rattle.std.specs.Option.{option_and_then, option_map_or}
use Rattle.std.proofs.Common.{refl, sym, ap, ◌∙◌, append-nil, append_assoc, arith}
use Rattle.std.proofs.Math.Nat.{mul-le-mul_left, one-le-pow, pow-le-pow_right, pow-suc}
use Rattle.std.proofs.lemmas.List.{take_all}
use Rattle.std.proofs.lemmas.Option.{none-some, same_Some, slice_get_past, slice_get_within}
use Rattle.spl_tree.specs.declared.expression.Placed.{Placed}
use Rattle.spl_tree.specs.declared.graph.Site.{Site}
use Rattle.spl_tree.specs.declared.unit.Composite.{Composite}
use Rattle.spl_tree.specs.declared.unit.Definition.{Definition}
use Rattle.spl_tree.specs.declared.unit.InputPort.{InputPort}
use Rattle.spl_tree.specs.declared.unit.Invocation.{Invocation}
use Rattle.language_model.specs.declared.expansion.Source.{Source}
use Rattle.language_model.specs.Composites.{composites}
use Rattle.language_model.specs.Expansion.{Inlined, names_of_port, place_of, port_names, sources_of, taken_in}
use Rattle.language_model.proofs.parts.Expansion.{own_or_input}
use Rattle.language_model.specs.Invoking.{stream_names}
use Rattle.composite_tables.specs.declared.made.Body.{Body}
use Rattle.composite_tables.specs.declared.made.Input.{Input}
use Rattle.composite_tables.specs.declared.sources.Reading.{Reading}
use Rattle.composite_tables.specs.Inputs.{Shows, AreKept, IsBody}
use Rattle.composite_tables.specs.steps.Reading.{composite_at, list_left, list_read, most_names, names_in, size_read}
use Rattle.spl_value.proofs.Lists.{at_most_sum as term_le, get_below as some_at}

-- ---- what there is at a number

none_at : {A : Type 0} (xs : List A) (k : ℕ) → slice_get xs k ≡ None → length xs ≤ k
none_at [] k none = omega arith
none_at (x ∷ xs) zero none = absurd (none-some x (sym none))
none_at (x ∷ xs) (suc k) none = let h : length xs ≤ k = none_at xs k none in omega arith

module _ (unit : List Definition) (bodies : List Body) (xs : List Inlined) (shows : Shows unit bodies xs) where
  composite_there : (o : Option Body) (number : ℕ) → slice_get bodies number ≡ o
      → option_and_then (λ b. slice_get (composites unit) b.composite) o ≡ option_map_or (λ x. Some x.composite.what) (slice_get xs number) None
  composite_there None number is =
      ap (λ o. option_map_or (λ x. Some x.composite.what) o None) (sym (slice_get_past xs number (omega (arith, none_at bodies number is, shows.count))))
  composite_there (Some b) number is =
      let here = some_at xs number (omega (arith, slice_get_within bodies number b is, shows.count)) in
      (shows.each number b here.0 is here.1).composite ∙ ap (λ o. option_map_or (λ x. Some x.composite.what) o None) (sym here.1)

  -- the composites of the bodies are those that they show
  pub composites_there : (number : ℕ) → composite_at unit bodies number ≡ option_map_or (λ x. Some x.composite.what) (slice_get xs number) None
  composites_there number = composite_there (slice_get bodies number) number refl

  pub names_shown : (site : Site) (port : ℕ) → names_in site port (composite_at unit bodies site.expansion) ≡ port_names xs site port
  names_shown site port = ap (names_in site port) (composites_there site.expansion) ∙ by_body (slice_get xs site.expansion)
    where
      by_body : (o : Option Inlined) → names_in site port (option_map_or (λ x. Some x.composite.what) o None)
          ≡ option_map_or (λ e. option_map_or (names_of_port port) (slice_get e.composite.what.graph site.invocation) []) o []
      by_body None = refl
      by_body (Some x) = refl

module _ (unit : List Definition) (bodies : List Body) (rows : List (List Input)) (xs : List Inlined) (kept : AreKept unit bodies rows xs) where
  pub is_body : (number : ℕ) (c : Composite) (row : List Input) → composite_at unit bodies number ≡ Some c → slice_get rows number ≡ Some row → IsBody xs number c row
  is_body number c row at own =
      let here = some_at xs number (omega (arith, slice_get_within rows number row own, kept.inputs.count)) in
      let shown = ap (λ o. option_map_or (λ x. Some x.composite.what) o None) here.1 in
      record {
        body = here.0;
        here = here.1;
        composite = same_Some here.0.composite.what c (sym shown ∙ sym (composites_there unit bodies xs kept.shows number) ∙ at);
        inputs = kept.inputs.each number here.0 row here.1 own;
        nested = kept.nested;
      }

  past : (number : ℕ) (name : List ℕ) → slice_get xs number ≡ None → sources_of xs number name ≡ []
  past number name none = by_count (length xs)
    where
      by_count : (count : ℕ) → taken_in count xs number name ≡ []
      by_count zero = refl
      by_count (suc count) = ap (λ o. option_map_or (λ e. own_or_input (taken_in count xs) xs number e name (place_of name (stream_names e.composite.what))) o []) none

  pub no_body : (number : ℕ) (name : List ℕ) → composite_at unit bodies number ≡ None → sources_of xs number name ≡ []
  no_body number name none = past number name (by_body (slice_get xs number) (sym (composites_there unit bodies xs kept.shows number) ∙ none))
    where
      by_body : (o : Option Inlined) → option_map_or (λ x. Some x.composite.what) o None ≡ None → o ≡ None
      by_body None is = refl
      by_body (Some x) is = absurd (none-some x.composite.what (sym is))

  pub no_row : (number : ℕ) (name : List ℕ) → slice_get rows number ≡ None → sources_of xs number name ≡ []
  no_row number name none = past number name (slice_get_past xs number (omega (arith, none_at rows number none, kept.inputs.count)))

-- ---- how much is left

-- no port has too many names
pub few_names : (unit : List Definition) (bodies : List Body) (site : Site) (port : ℕ) → length (names_in site port (composite_at unit bodies site.expansion)) ≤ most_names unit
few_names unit bodies site port = by_body (slice_get bodies site.expansion)
  where
    by_port : (i : Invocation) (o : Option InputPort) → slice_get i.inputs port ≡ o → length (option_map_or (λ q. q.streams) o []) ≤ sum_by (λ q. length q.streams) i.inputs
    by_port i None is = omega arith
    by_port i (Some q) is = term_le (λ q. length q.streams) i.inputs port q is

    by_invocation : (c : Composite) (o : Option Invocation) → slice_get c.graph site.invocation ≡ o
        → length (option_map_or (names_of_port port) o []) ≤ sum_by (λ i. sum_by (λ q. length q.streams) i.inputs) c.graph
    by_invocation c None is = omega arith
    by_invocation c (Some i) is =
        let a = by_port i (slice_get i.inputs port) refl in
        let b = term_le (λ i. sum_by (λ q. length q.streams) i.inputs) c.graph site.invocation i is in
        omega (arith, a, b)

    by_composite : (k : ℕ) (o : Option Composite) → slice_get (composites unit) k ≡ o → length (names_in site port o) ≤ most_names unit
    by_composite k None is = omega arith
    by_composite k (Some c) is =
        let a = by_invocation c (slice_get c.graph site.invocation) refl in
        let b = term_le (λ c. sum_by (λ i. sum_by (λ q. length q.streams) i.inputs) c.graph) (composites unit) k c is in
        omega (arith, a, b)

    by_body : (o : Option Body) → length (names_in site port (option_and_then (λ b. slice_get (composites unit) b.composite) o)) ≤ most_names unit
    by_body None = omega arith
    by_body (Some b) = by_composite b.composite (slice_get (composites unit) b.composite) refl

power_positive : (p n : ℕ) → 0 < (p + 2) ^ n
power_positive p n = let h : 1 ≤ (p + 2) ^ n = one-le-pow n (p + 2) (omega arith) in omega arith

pub one_smaller : (unit : List Definition) (number : ℕ) → 0 < (most_names unit + 2) ^ number
one_smaller unit number = power_positive (most_names unit) number

few_smaller : (p count w : ℕ) → count ≤ p → 1 ≤ w → 1 + count * w < w * (p + 2)
few_smaller p count w few one = omega (arith, mul-le-mul_left w few)

-- what is at a lower number is read sooner
pub names_smaller : (unit : List Definition) (r : Reading) (number : ℕ) → length r.names.now ≤ most_names unit → r.number < number
    → size_read (most_names unit + 2) r < (most_names unit + 2) ^ number
names_smaller unit r number few lower =
    let base = most_names unit + 2 in
    let one : 1 ≤ base ^ r.number = one-le-pow r.number base (omega arith) in
    let power : base ^ suc r.number ≤ base ^ number = pow-le-pow_right {n = base} (omega arith) {i = suc r.number} {j = number} (omega arith) in
    let more : base ^ suc r.number ≡ base ^ r.number * base = pow-suc base r.number in
    let less = few_smaller (most_names unit) (length r.names.now) (base ^ r.number) few one in
    omega (arith, one, power, more, less)

-- ---- what is left

left_push : (xs : List Inlined) (rs : List Reading) (r : Reading) → list_left xs (rs ++ r ∷ []) ≡ list_read xs r ++ list_left xs rs
left_push xs [] r = sym (append-nil (list_read xs r))
left_push xs (s ∷ rs) r = ap (λ l. l ++ list_read xs s) (left_push xs rs r) ∙ append_assoc (list_read xs r) (list_left xs rs) (list_read xs s)

module _ (xs : List Inlined) (out : List Source) (rs : List Reading) (r : Reading) where
  -- nothing more of the last one
  pub left_done : r.names.now ≡ [] → out ++ list_left xs (rs ++ r ∷ []) ≡ out ++ list_left xs rs
  left_done none = ap (λ l. out ++ l) (left_push xs rs r ∙ ap (λ ns. flat_map (λ n. sources_of xs r.number n.what) ns ++ list_left xs rs) none)

  module _ (n : Placed (List ℕ)) (rest : Reading) (here : r.names.now ≡ n ∷ rest.names.now) (same : rest.number ≡ r.number) where
    left_first : list_left xs (rs ++ r ∷ []) ≡ sources_of xs r.number n.what ++ list_left xs (rs ++ rest ∷ [])
    left_first =
        left_push xs rs r
        ∙ ap (λ ns. flat_map (λ n. sources_of xs r.number n.what) ns ++ list_left xs rs) here
        ∙ append_assoc (sources_of xs r.number n.what) (flat_map (λ n. sources_of xs r.number n.what) rest.names.now) (list_left xs rs)
        ∙ ap (λ k. sources_of xs r.number n.what ++ (flat_map (λ n. sources_of xs k n.what) rest.names.now ++ list_left xs rs)) (sym same)
        ∙ ap (λ l. sources_of xs r.number n.what ++ l) (sym (left_push xs rs rest))

    pub left_nothing : [] ≡ sources_of xs r.number n.what → out ++ list_left xs (rs ++ r ∷ []) ≡ out ++ list_left xs (rs ++ rest ∷ [])
    left_nothing is = ap (λ l. out ++ l) (left_first ∙ ap (λ l. l ++ list_left xs (rs ++ rest ∷ [])) (sym is))

    pub left_one : (s : Source) → s ∷ [] ≡ sources_of xs r.number n.what → out ++ list_left xs (rs ++ r ∷ []) ≡ (out ++ s ∷ []) ++ list_left xs (rs ++ rest ∷ [])
    left_one s is =
        ap (λ l. out ++ l) (left_first ∙ ap (λ l. l ++ list_left xs (rs ++ rest ∷ [])) (sym is))
        ∙ sym (append_assoc out (s ∷ []) (list_left xs (rs ++ rest ∷ [])))

    pub left_names : (q : Reading) → list_read xs q ≡ sources_of xs r.number n.what
        → out ++ list_left xs (rs ++ r ∷ []) ≡ out ++ list_left xs ((rs ++ rest ∷ []) ++ q ∷ [])
    left_names q is =
        ap (λ l. out ++ l) (left_first ∙ ap (λ l. l ++ list_left xs (rs ++ rest ∷ [])) (sym is) ∙ sym (left_push xs (rs ++ rest ∷ []) q))

-- ---- a turn of the loop

pub turn_done : (xs : List Inlined) (out whole : List Source) (rs old : List Reading) (r : Reading) → old ≡ rs ++ r ∷ [] → length r.names.now < 1
    → out ++ list_left xs old ≡ whole → out ++ list_left xs rs ≡ whole
turn_done xs out whole rs old r popped none before =
    sym (left_done xs out rs r (no_names r.names.now none)) ∙ ap (λ rs. out ++ list_left xs rs) (sym popped) ∙ before
  where
    no_names : (ns : List (Placed (List ℕ))) → length ns < 1 → ns ≡ []
    no_names [] none = refl
    no_names (n ∷ ns) none = absurd (omega arith)

module _ (xs : List Inlined) (out whole : List Source) (rs old mid : List Reading) (r rest : Reading) (n : Placed (List ℕ))
    (popped : old ≡ rs ++ r ∷ []) (pushed : mid ≡ rs ++ rest ∷ []) (here : r.names.now ≡ n ∷ rest.names.now) (same : rest.number ≡ r.number)
    (before : out ++ list_left xs old ≡ whole) where
  pub turn_nothing : [] ≡ sources_of xs r.number n.what → out ++ list_left xs mid ≡ whole
  turn_nothing is =
      ap (λ rs. out ++ list_left xs rs) pushed ∙ sym (left_nothing xs out rs r n rest here same is) ∙ ap (λ rs. out ++ list_left xs rs) (sym popped) ∙ before

  pub turn_one : (s : Source) (more : List Source) → more ≡ out ++ s ∷ [] → s ∷ [] ≡ sources_of xs r.number n.what → more ++ list_left xs mid ≡ whole
  turn_one s more added is =
      (λ j. added j ++ list_left xs (pushed j)) ∙ sym (left_one xs out rs r n rest here same s is) ∙ ap (λ rs. out ++ list_left xs rs) (sym popped) ∙ before

  pub turn_names : (q : Reading) (new : List Reading) → new ≡ mid ++ q ∷ [] → list_read xs q ≡ sources_of xs r.number n.what → out ++ list_left xs new ≡ whole
  turn_names q new added is =
      ap (λ rs. out ++ list_left xs rs) (added ∙ ap (λ rs. rs ++ q ∷ []) pushed) ∙ sym (left_names xs out rs r n rest here same q is)
      ∙ ap (λ rs. out ++ list_left xs rs) (sym popped) ∙ before

pub first_and_rest : {A : Type 0} (ns : List A) (n : A) → 1 ≤ length ns → n ≡ get_or ns 0 n → ns ≡ n ∷ take (length ns - 1) (drop 1 ns)
first_and_rest [] n some is = absurd (omega arith)
first_and_rest (m ∷ ns) n some is = ap (λ k. k ∷ ns) (sym is) ∙ ap (λ ns. n ∷ ns) (sym (take_all (suc (length ns) - 1) ns (omega arith)))
