-- Operators of a graph of which one may follow the other.
use Rattle.std.specs.Prelude.{◌≡◌, ◌≤◌, ◌==◌, ◌&&◌, ◌||◌, ◌+◌, not, ℕ, zero, suc, Bool, true, false, if◌then◌else◌, List, [], ◌∷◌, map, filter, length, Option, None, Some, slice_get}
use Rattle.std.specs.List.{concat, list_all, list_any}
use Rattle.std.specs.Option.{option_map_or}
use Rattle.std.proofs.Common.{refl, sym, ap, ◌∙◌, arith}
use Rattle.std.proofs.lemmas.Bool.{and_from, and_parts, eq-eqb, eqb-true}
use Rattle.std.proofs.lemmas.List.{length-append}
use Rattle.std.proofs.lemmas.List.Elements.{filter-append}
use Rattle.stream_model.specs.Meaning.{Graph}
use Rattle.stream_model.specs.Operators.{Operator, connections}
use Rattle.stream_model.specs.Regions.{follows, is_chain, is_eligible}
use Rattle.stream_model.proofs.parts.Regions.{is_one, readings, reads}
use Rattle.stream_model.specs.StateKinds.{is_whole_state, state_of}
use Rattle.region_choice.specs.steps.GraphChains.{is_pair}
use Rattle.region_choice.proofs.KeyLaws.{and_true}

-- ---- eligible operators

pub one_item : {A : Type 0} (xs : List A) → is_one xs ≡ true → (x : A) × (xs ≡ x ∷ [])
one_item [] h = absurd cc
one_item (x ∷ []) h = (x, refl)
one_item (x ∷ y ∷ xs) h = absurd cc

pub record Ports (op : Operator) : Type 0 where
  pub input : ℕ
  pub output : ℕ
  pub reads : connections op ≡ input ∷ []
  pub gives : op.outs ≡ output ∷ []
  pub state : is_whole_state (state_of op) ≡ false

pub ports_of : (op : Operator) → is_eligible op ≡ true → Ports op
ports_of op h =
    let first = and_parts (is_one (connections op)) (is_one op.outs && not (is_whole_state (state_of op))) h in
    let second = and_parts (is_one op.outs) (not (is_whole_state (state_of op))) first.1 in
    let input = one_item (connections op) first.0 in
    let output = one_item op.outs second.0 in
    record { input = input.0; output = output.0; reads = input.1; gives = output.1; state = negated (is_whole_state (state_of op)) second.1 }
  where
    negated : (b : Bool) → not b ≡ true → b ≡ false
    negated true h = absurd cc
    negated false h = refl

pub record At (g : Graph) (n : ℕ) : Type 0 where
  pub op : Operator
  pub there : slice_get g.ops n ≡ Some op
  pub eligible : is_eligible op ≡ true

pub eligible_at : (g : Graph) (n : ℕ) → option_map_or is_eligible (slice_get g.ops n) false ≡ true → At g n
eligible_at g n h = by_case (slice_get g.ops n) refl h where
  by_case : (found : Option Operator) → slice_get g.ops n ≡ found → option_map_or is_eligible found false ≡ true → At g n
  by_case None e h = absurd cc
  by_case (Some op) e h = record { op = op; there = e; eligible = h }

-- ---- pairs

-- the one makes a stream that the other alone reads
pub record Link (g : Graph) (x y : Operator) : Type 0 where
  pub stream : ℕ
  pub gives : x.outs ≡ stream ∷ []
  pub reads : connections y ≡ stream ∷ []
  pub alone : readings g stream ≡ 1
  pub first : is_eligible x ≡ true
  pub second : is_eligible y ≡ true

follows_is : (g : Graph) (x y : Operator) (s : ℕ) → x.outs ≡ s ∷ [] → follows g x y ≡ (reads y s && (readings g s == 1))
follows_is g x y s e = ap (list_all (λ s. reads y s && (readings g s == 1))) e ∙ and_true (reads y s && (readings g s == 1))

pub or_false_is : (b : Bool) → (b || false) ≡ true → b ≡ true
or_false_is true h = refl
or_false_is false h = h

pub link_of : (g : Graph) (x y : Operator) → is_chain g (x ∷ y ∷ []) ≡ true → Link g x y
link_of g x y h =
    let parts = and_parts (is_eligible x) (follows g x y && is_eligible y) h in
    let more = and_parts (follows g x y) (is_eligible y) parts.1 in
    let one = ports_of x parts.0 in
    let other = ports_of y more.1 in
    let both = and_parts (reads y one.output) (readings g one.output == 1) (sym (follows_is g x y one.output one.gives) ∙ more.0) in
    let same : other.input ≡ one.output =
    eqb-true other.input one.output (or_false_is (other.input == one.output) (sym (ap (λ (ss : List ℕ). list_any (λ t. t == one.output) ss) other.reads) ∙ both.0)) in
    record {
      stream = one.output;
      gives = one.gives;
      reads = other.reads ∙ ap (λ s. s ∷ []) same;
      alone = eqb-true (readings g one.output) 1 both.1;
      first = parts.0;
      second = more.1;
    }

pub chain_from : (g : Graph) (x y : Operator) (s : ℕ) → is_eligible x ≡ true → is_eligible y ≡ true → x.outs ≡ s ∷ [] → connections y ≡ s ∷ [] → readings g s ≡ 1
    → is_chain g (x ∷ y ∷ []) ≡ true
chain_from g x y s first second gives reading alone =
    and_from (is_eligible x) (follows g x y && is_eligible y) first
    (and_from (follows g x y) (is_eligible y)
    (follows_is g x y s gives ∙ and_from (reads y s) (readings g s == 1)
    (ap (λ (ss : List ℕ). list_any (λ t. t == s) ss) reading ∙ ap (λ b. b || false) (eq-eqb s s refl)) (eq-eqb (readings g s) 1 alone)) second)

pub record Pair (g : Graph) (a b : ℕ) : Type 0 where
  pub x : Operator
  pub y : Operator
  pub at : slice_get g.ops a ≡ Some x
  pub behind : slice_get g.ops b ≡ Some y
  pub link : Link g x y

pub pair_of : (g : Graph) (a b : ℕ) → is_pair g a b ≡ true → Pair g a b
pair_of g a b h = by_case (slice_get g.ops a) (slice_get g.ops b) refl refl h where
  by_case : (p q : Option Operator) → slice_get g.ops a ≡ p → slice_get g.ops b ≡ q
      → option_map_or (λ x. option_map_or (λ y. is_chain g (x ∷ y ∷ [])) q false) p false ≡ true → Pair g a b
  by_case None q d e h = absurd cc
  by_case (Some x) None d e h = absurd cc
  by_case (Some x) (Some y) d e h = record { x = x; y = y; at = d; behind = e; link = link_of g x y h }

pub pair_is : (g : Graph) (a b : ℕ) (x y : Operator) → slice_get g.ops a ≡ Some x → slice_get g.ops b ≡ Some y → is_pair g a b ≡ is_chain g (x ∷ y ∷ [])
pair_is g a b x y d e =
    ap (λ p. option_map_or (λ x. option_map_or (λ y. is_chain g (x ∷ y ∷ [])) (slice_get g.ops b) false) p false) d
    ∙ ap (λ q. option_map_or (λ y. is_chain g (x ∷ y ∷ [])) q false) e

-- ---- one reader

abbrev taken : ℕ → List Operator → ℕ
taken s ops = length (filter (λ t. t == s) (concat (map connections ops)))

taken_more : (s : ℕ) (o : Operator) (ops : List Operator) → taken s (o ∷ ops) ≡ length (filter (λ t. t == s) (connections o)) + taken s ops
taken_more s o ops =
    ap length (filter-append (λ t. t == s) (connections o) (concat (map connections ops)))
    ∙ length-append (filter (λ t. t == s) (connections o)) (filter (λ t. t == s) (concat (map connections ops)))

takes_one : (s : ℕ) (o : Operator) → connections o ≡ s ∷ [] → length (filter (λ t. t == s) (connections o)) ≡ 1
takes_one s o e = ap (λ ss. length (filter (λ t. t == s) ss)) e ∙ ap (λ b. length (if b then s ∷ [] else [])) (eq-eqb s s refl)

taken_at : (s : ℕ) (ops : List Operator) (i : ℕ) (o : Operator) → slice_get ops i ≡ Some o → connections o ≡ s ∷ [] → 1 ≤ taken s ops
taken_at s [] i o at e = absurd cc
taken_at s (own ∷ ops) zero o at e =
    let same : own ≡ o = cc in let more = taken_more s own ops in let one = takes_one s own (ap connections same ∙ e) in omega arith
taken_at s (own ∷ ops) (suc i) o at e = let rest = taken_at s ops i o at e in let more = taken_more s own ops in omega arith

pub same_reader : (s : ℕ) (ops : List Operator) (i j : ℕ) (o p : Operator) → taken s ops ≤ 1 → slice_get ops i ≡ Some o → slice_get ops j ≡ Some p
    → connections o ≡ s ∷ [] → connections p ≡ s ∷ [] → i ≡ j
same_reader s [] i j o p most at there e f = absurd cc
same_reader s (own ∷ ops) zero zero o p most at there e f = refl
same_reader s (own ∷ ops) zero (suc j) o p most at there e f =
    let same : own ≡ o = cc in let more = taken_more s own ops in let one = takes_one s own (ap connections same ∙ e) in let rest = taken_at s ops j p there f in
    absurd (omega arith)
same_reader s (own ∷ ops) (suc i) zero o p most at there e f =
    let same : own ≡ p = cc in let more = taken_more s own ops in let one = takes_one s own (ap connections same ∙ f) in let rest = taken_at s ops i o at e in
    absurd (omega arith)
same_reader s (own ∷ ops) (suc i) (suc j) o p most at there e f =
    let more = taken_more s own ops in ap suc (same_reader s ops i j o p (omega arith) at there e f)
