-- The results on parts of windows, by what the calls on them answer.
use Rattle.std.specs.Prelude.{◌≡◌, ℕ, ◌+◌, ◌<◌, ◌==◌, Bool, true, false, List, [], ◌∷◌, ◌++◌, codes, drop, length, if◌then◌else◌, Option, Some, None, Ok, Err}
use Rattle.std.specs.List.{list_any}
use Rattle.std.specs.Str.{bytes_eq}
use Rattle.std.proofs.Common.{refl, ap, sym, ◌∙◌, add-one, append_assoc}
use Rattle.spl_value.specs.declared.types.Named.{Named}
use Rattle.spl_value.specs.declared.types.SplType.{SplType}
use Rattle.spl_tree.specs.declared.expression.Placed.{Placed}
use Rattle.spl_tree.specs.declared.unit.PortWindow.{PortWindow}
use Rattle.spl_tree.specs.declared.unit.WindowPart.{WindowPart}
use Rattle.language_model.specs.declared.checked.Policy.{Policy}
use Rattle.language_model.specs.declared.scope.CheckError.TheVariants as E
use Rattle.language_model.specs.declared.scope.Port.{Port}
use Rattle.language_model.specs.declared.kinds.WindowForm.{WindowForm}
use Rattle.language_model.specs.Checking.{each_window, policy_of, windows_of_form}
use Rattle.language_model.specs.Policies.{Numbers, Parts, delta_of, has_name, is_word, measured, only_count, partitioned_last, window_at, window_of, windows_typing}
use Rattle.language_model.proofs.parts.Policies.{in_front}
use Rattle.language_model.specs.Scopes.{At, at_place, first_from}
use Rattle.language_model.specs.Typing.{Found, after, refused}
use Rattle.language_model.specs.declared.answer.TypeAnswer.{TypeAnswer}
use Rattle.language_model.specs.Finds.{Finds, with_front}
use Rattle.window_rules.specs.declared.windows.measures.Measure.{Measure}
use Rattle.window_rules.specs.steps.Windows.{counted, differing}
use Rattle.literal_sites.proofs.Answering.{IsRow}
use Rattle.literal_sites.proofs.Lists.{some_at}
use Rattle.language_model.proofs.FoundAnswers.{after_after, finds_by, stops}

-- what is made of what a part measures, where it measures something
abbrev pub measure_or : {A : Type 0} → (Measure → A) → Found A → Option Measure → Found A
measure_or f other None = other
measure_or f other (Some m) = Ok (f m)

module _ (numbers : Numbers) (least : ℕ) (schema : List (Named SplType)) (p : WindowPart) where
  abbrev pub what_measured : Found (Option Measure)
  what_measured = measured numbers least schema (λ n. Some (counted n)) (λ d. Some (differing d)) (Ok None) p

  pub measured_by : {A : Type 0} (f : Measure → A) (other : Found A)
      → measured numbers least schema (λ n. f (counted n)) (λ d. f (differing d)) other p ≡ after what_measured (measure_or f other)
  measured_by {A} f other = by (has_name (codes "count") p) (has_name (codes "delta") p)
    where
      by : (b c : Bool)
          → (if b then after (only_count numbers least p p.arguments) (λ n. Ok (f (counted n)))
          else if c then after (delta_of numbers schema p p.arguments) (λ d. Ok (f (differing d))) else other)
          ≡ after (if b then after (only_count numbers least p p.arguments) (λ n. Ok (Some (counted n)))
          else if c then after (delta_of numbers schema p p.arguments) (λ d. Ok (Some (differing d))) else Ok None) (measure_or f other)
      by true c = sym (after_after (only_count numbers least p p.arguments) (λ n. Ok (Some (counted n))) (measure_or f other))
      by false true = sym (after_after (delta_of numbers schema p p.arguments) (λ d. Ok (Some (differing d))) (measure_or f other))
      by false false = refl

-- ---- partitioned windows

abbrev parts_as : Bool → List WindowPart → Parts
parts_as partitioned others = record { partitioned = partitioned; others = others }

front_of_either : (q : WindowPart) (b : Bool) (ps qs : List WindowPart)
    → in_front q (if b then parts_as true ps else parts_as false qs) ≡ (if b then parts_as true (q ∷ ps) else parts_as false (q ∷ qs))
front_of_either q true ps qs = refl
front_of_either q false ps qs = refl

abbrev pub ArePartitionedBy : Parts → Bool → List WindowPart → Type 0
ArePartitionedBy parts partitioned others = (partitioned ≡ parts.partitioned) × (others ≡ parts.others)

-- where a part stands last
pub partitioned_behind : (ps : List WindowPart) (p : WindowPart)
    → partitioned_last (ps ++ p ∷ []) ≡ (if is_word (codes "partitioned") p then parts_as true ps else parts_as false (ps ++ p ∷ []))
partitioned_behind [] p = refl
partitioned_behind (q ∷ []) p = front_of_either q (is_word (codes "partitioned") p) [] (p ∷ [])
partitioned_behind (q ∷ r ∷ ps) p =
    ap (in_front q) (partitioned_behind (r ∷ ps) p) ∙ front_of_either q (is_word (codes "partitioned") p) (r ∷ ps) ((r ∷ ps) ++ p ∷ [])

module _ (ps rest : List WindowPart) (p : WindowPart) (split : ps ≡ rest ++ p ∷ []) where
  abbrev either : Bool → Parts
  either b = if b then parts_as true rest else parts_as false (rest ++ p ∷ [])

  split_is : partitioned_last ps ≡ either (is_word (codes "partitioned") p)
  split_is = ap partitioned_last split ∙ partitioned_behind rest p

  pub last_partitioned : is_word (codes "partitioned") p ≡ true → ArePartitionedBy (partitioned_last ps) true rest
  last_partitioned h = let e = sym (split_is ∙ ap either h) in (ap (λ q. q.partitioned) e, ap (λ q. q.others) e)

  pub last_other : is_word (codes "partitioned") p ≡ false → ArePartitionedBy (partitioned_last ps) false ps
  last_other h = let e = sym (split_is ∙ ap either h) in (ap (λ q. q.partitioned) e, split ∙ ap (λ q. q.others) e)

-- ---- windows of ports

module _ (policy : Port → PortWindow → Found Policy) where
  module _ (given : List ℕ) (w : PortWindow) (found : Option (At Port)) (place : ℕ) (port : Port) (named : found ≡ Some (at_place place port)) where
    abbrev once_or_twice : Bool → Found (ℕ × Policy)
    once_or_twice b = if b then refused E.ExtraParameter w.port.at (Some (codes "window")) else after (policy port w) (λ x. Ok (place, x))

    pub window_twice : list_any (λ n. n == place) given ≡ true → window_of policy given w found ≡ refused E.ExtraParameter w.port.at (Some (codes "window"))
    window_twice h = ap (window_of policy given w) named ∙ ap once_or_twice h

    pub window_once : list_any (λ n. n == place) given ≡ false → window_of policy given w found ≡ after (policy port w) (λ x. Ok (place, x))
    window_once h = ap (window_of policy given w) named ∙ ap once_or_twice h

  abbrev pub window_behind : List Port → List ℕ → PortWindow → Found (ℕ × Policy)
  window_behind ports given w = window_of policy given w (first_from (λ p. bytes_eq p.name w.port.what) 0 ports)

  pub windows_row : (ports : List Port) → IsRow (window_behind ports) (windows_typing policy ports) (λ x. x.0)
  windows_row ports = record { none = λ before. refl; more = λ before x xs. refl }

module _ (at : ℕ) (windows : List (ℕ × Policy)) (ports : List Port) (port : ℕ) (front : List Policy) (h : port < length ports) where
  from_here : each_window at windows port (drop port ports)
      ≡ after (window_at at port windows) (λ policy. after (each_window at windows (port + 1) (drop (port + 1) ports)) (λ rest. Ok (policy ∷ rest)))
  from_here = rw add-one (ap (each_window at windows port) (some_at ports port h).1)

  -- a port with a window after those of others
  pub windows_on : (policy : Policy) (more : List Policy) → window_at at port windows ≡ Ok policy → more ≡ front ++ policy ∷ []
      → with_front front (each_window at windows port (drop port ports)) ≡ with_front more (each_window at windows (port + 1) (drop (port + 1) ports))
  windows_on policy more w m =
      ap (with_front front) (from_here ∙ ap (λ o. after o (λ policy. after (each_window at windows (port + 1) (drop (port + 1) ports)) (λ rest. Ok (policy ∷ rest)))) w)
      ∙ after_after (each_window at windows (port + 1) (drop (port + 1) ports)) (λ rest. Ok (policy ∷ rest)) (λ rest. Ok (front ++ rest))
      ∙ (λ j. after (each_window at windows (port + 1) (drop (port + 1) ports)) (λ rest. Ok (sym (append_assoc front (policy ∷ []) rest) j)))
      ∙ ap (λ l. with_front l (each_window at windows (port + 1) (drop (port + 1) ports))) (sym m)

  pub windows_stop : (a : TypeAnswer) → Finds (window_at at port windows) (Err a) → Finds (with_front front (each_window at windows port (drop port ports))) (Err a)
  windows_stop a q = stops (each_window at windows port (drop port ports)) _ a (finds_by _ _ (Err a) from_here (stops (window_at at port windows) _ a q))

-- the clause of an operator whose ports have windows
pub windows_written : (form : WindowForm) (numbers : Numbers) (at : ℕ) (ports : List Port) (clause : Option (Placed (List PortWindow))) (w : Placed (List PortWindow))
    → clause ≡ Some w
    → windows_of_form (Some form) numbers at ports clause ≡ after (windows_typing (policy_of form numbers) ports [] w.what) (λ windows. each_window at windows 0 ports)
windows_written form numbers at ports clause w is = ap (windows_of_form (Some form) numbers at ports) is
