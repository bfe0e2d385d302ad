-- The result of a run under a record, and of one under the record in a file.
use Rattle.std.proofs.Common.{◌≡◌, ◌<◌, ◌∙◌, zero, suc, arith, ℕ, Bool, true, false, List, [], ◌∷◌, ◌++◌, length, refl, sym, ap, subst, inl, inr, ◌⊎◌, slice_get, Option, Some, None, Ok, Err, append-nil, append_assoc}
use Rattle.std.specs.List.{Contains}
use Rattle.std.proofs.lemmas.List.Elements.{Contains-append_cases}
use Rattle.std.proofs.lemmas.Option.{slice_get_within}
use Rattle.feed_pour.specs.Contents.{Told}
use Rattle.language_model.specs.CheckedGraph.{CheckedGraph}
use Rattle.language_model.specs.declared.refusal.Refusal.{Refusal}
use Rattle.language_model.specs.Keeping.{Keeps}
use Rattle.stream_model.specs.declared.record.Arrivals.{Arrivals}
use Rattle.stream_model.specs.Arrivals.{entries_in, has_several}
use Rattle.stream_model.specs.CheckedMeaning.{graph_of}
use Rattle.stream_model.specs.Meaning.{Graph, Entries, Meaning}
use Rattle.stream_model.specs.Operators.{Operator, connections}
use Rattle.stream_model.proofs.CheckedOperators.{operators_length}
use Rattle.stream_model.specs.Runs.{IsFirstNotWhole, AreWhole, is_whole_at}
use Rattle.arrival_format.specs.ArrivalTexts.{Spells}
use Rattle.arrival_format.specs.declared.answer.ArrivalsAnswer.TheVariants as A
use Rattle.arrival_format.specs.FormatLaws.{IsRead, OneRecordLaw, SomeReadLaw}
use Rattle.spl_driver.specs.Outcome.{RequestOutcome, BadArrivals, Refused, Unreadable, Runs, IsReplay, IsUnder, unread, misspelt, spelled, partial, whole, has_record_fault, meant, run_outcome}
use Rattle.spl_value.proofs.Lists.{contains_here, contains_later}

-- ---- the first of some numbers

-- where a list is cut at two numbers, they are one, or one stands before the other
cuts : (a b c d : List ℕ) (n k : ℕ) → a ++ n ∷ b ≡ c ++ k ∷ d → (n ≡ k) ⊎ (Contains a k ⊎ Contains c n)
cuts [] b [] d n k e = inl cc
cuts [] b (x ∷ c) d n k e = inr (inr (let same : x ≡ n = cc in subst (Contains (x ∷ c)) same (contains_here x c)))
cuts (x ∷ a) b [] d n k e = inr (inl (let same : x ≡ k = cc in subst (Contains (x ∷ a)) same (contains_here x a)))
cuts (x ∷ a) b (y ∷ c) d n k e = wider (cuts a b c d n k (let rest : a ++ n ∷ b ≡ c ++ k ∷ d = cc in rest))
  where
    wider : (n ≡ k) ⊎ (Contains a k ⊎ Contains c n) → (n ≡ k) ⊎ (Contains (x ∷ a) k ⊎ Contains (y ∷ c) n)
    wider (inl same) = inl same
    wider (inr (inl h)) = inr (inl (contains_later x k a h))
    wider (inr (inr h)) = inr (inr (contains_later y n c h))

true_not_false : (b : Bool) → b ≡ true → b ≡ false → ⊥
true_not_false true e d = cc
true_not_false false e d = cc

one_first : (g : Graph) (m : Meaning) (entries : Entries) (n k : ℕ) → IsFirstNotWhole g m entries n → IsFirstNotWhole g m entries k → n ≡ k
one_first g m entries n k p q = by (cuts p.before p.behind q.before q.behind n k (sym p.order ∙ q.order))
  where
    by : (n ≡ k) ⊎ (Contains p.before k ⊎ Contains q.before n) → n ≡ k
    by (inl same) = same
    by (inr (inl h)) = absurd (true_not_false (is_whole_at m entries q.op) (p.earlier k q.op h q.there q.several) q.not_whole)
    by (inr (inr h)) = absurd (true_not_false (is_whole_at m entries p.op) (q.earlier n p.op h p.there p.several) p.not_whole)

not_both : (g : Graph) (m : Meaning) (entries : Entries) (n : ℕ) → IsFirstNotWhole g m entries n → AreWhole g m entries → ⊥
not_both g m entries n h all = true_not_false (is_whole_at m entries h.op) (all n h.op h.there h.several) h.not_whole

-- ---- a run under a record

pub one_under : (t : Told) (c : CheckedGraph) (arrivals : Arrivals) (r s : RequestOutcome) → IsUnder t c arrivals r → IsUnder t c arrivals s → r ≡ s
one_under t c arrivals r s (partial n p) (partial k q) = ap (λ (i : ℕ). BadArrivals c (Some i)) (one_first (graph_of c) (meant (graph_of c) t arrivals.lists) (entries_in arrivals.lists) n k p q)
one_under t c arrivals r s (partial n p) (whole all) = absurd (not_both (graph_of c) (meant (graph_of c) t arrivals.lists) (entries_in arrivals.lists) n p all)
one_under t c arrivals r s (whole all) (partial k q) = absurd (not_both (graph_of c) (meant (graph_of c) t arrivals.lists) (entries_in arrivals.lists) k q all)
one_under t c arrivals r s (whole all) (whole every) = refl

-- the records of these are whole
abbrev WholeIn : Graph → Meaning → Entries → List ℕ → Type 0
WholeIn g m entries ns = (n : ℕ) (op : Operator) → Contains ns n → slice_get g.ops n ≡ Some op → has_several (connections op) ≡ true → is_whole_at m entries op ≡ true

module _ (g : Graph) (m : Meaning) (entries : Entries) where
  abbrev Sought : Type 0
  Sought = ((n : ℕ) × IsFirstNotWhole g m entries n) ⊎ WholeIn g m entries g.topo

  longer : (before : List ℕ) (k : ℕ) → WholeIn g m entries before → ((op : Operator) → slice_get g.ops k ≡ Some op → has_several (connections op) ≡ true → is_whole_at m entries op ≡ true)
      → WholeIn g m entries (before ++ k ∷ [])
  longer before k all here n op among at many = elim (Contains-append_cases before (k ∷ []) n among) [
    | inl h ↦ all n op h at many
    | inr h ↦ here op (subst (λ (i : ℕ). slice_get g.ops i ≡ Some op) (sym (only n h)) at) many
  ]
    where
      only : (n : ℕ) → Contains (k ∷ []) n → k ≡ n
      only n (zero, within, is) = is
      only n (suc i, within, is) = absurd (omega (arith, within))

  -- one operator more, and those after it
  abbrev WholeAt : ℕ → Type 0
  WholeAt k = (op : Operator) → slice_get g.ops k ≡ Some op → has_several (connections op) ≡ true → is_whole_at m entries op ≡ true

  module _ (before : List ℕ) (k : ℕ) (rest : List ℕ) (split : g.topo ≡ before ++ k ∷ rest) (all : WholeIn g m entries before) (further : WholeAt k → Sought) where
    by_whole : (op : Operator) → slice_get g.ops k ≡ Some op → has_several (connections op) ≡ true → (b : Bool) → is_whole_at m entries op ≡ b → Sought
    by_whole op at many true is = further (λ o there more. let same : op ≡ o = let e = sym at ∙ there in cc in subst (λ (x : Operator). is_whole_at m entries x ≡ true) same is)
    by_whole op at many false is = inl (k, record { op = op; there = at; several = many; not_whole = is; before = before; behind = rest; order = split; earlier = all })

    by_several : (op : Operator) → slice_get g.ops k ≡ Some op → (b : Bool) → has_several (connections op) ≡ b → Sought
    by_several op at true many = by_whole op at many (is_whole_at m entries op) refl
    by_several op at false few = further (λ o there more.
        let same : o ≡ op = let e = sym at ∙ there in cc in absurd (true_not_false (has_several (connections op)) (ap (λ (x : Operator). has_several (connections x)) (sym same) ∙ more) few))

    at_operator : (o : Option Operator) → slice_get g.ops k ≡ o → Sought
    at_operator None at = further (λ op there more. let e = sym at ∙ there in cc)
    at_operator (Some op) at = by_several op at (has_several (connections op)) refl

  seek : (before rest : List ℕ) → g.topo ≡ before ++ rest → WholeIn g m entries before → Sought
  seek before [] split all = inr (subst (WholeIn g m entries) (sym (split ∙ append-nil before)) all)
  seek before (k ∷ rest) split all =
      at_operator before k rest split all (λ here. seek (before ++ k ∷ []) rest (split ∙ sym (append_assoc before (k ∷ []) rest)) (longer before k all here)) (slice_get g.ops k) refl

-- each operator of a checked graph stands in its order
in_order : (c : CheckedGraph) → Keeps c → (n : ℕ) (op : Operator) → slice_get (graph_of c).ops n ≡ Some op → Contains (graph_of c).topo n
in_order c k n op at =
    let within : n < length (graph_of c).ops = slice_get_within (graph_of c).ops n op at in
    let same = operators_length c 0 c.graph.ops c.parts k.parts in
    (k.graph.ordered.all n).1 (omega (arith, within, same))

pub some_under : (t : Told) (c : CheckedGraph) (arrivals : Arrivals) → Keeps c → (r : RequestOutcome) × IsUnder t c arrivals r
some_under t c arrivals k = elim (seek g m entries [] g.topo refl (λ n op among. absurd (omega (arith, among.1)))) [
  | inl first ↦ (BadArrivals c (Some first.0), partial first.0 first.1)
  | inr all ↦ (run_outcome c t arrivals, whole (λ n op at many. all n op (in_order c k n op at) at many))
]
  where
    g : Graph
    g = graph_of c

    m : Meaning
    m = meant (graph_of c) t arrivals.lists

    entries : Entries
    entries = entries_in arrivals.lists

-- ---- the file of a record

pub one_replay : OneRecordLaw → (t : Told) (c : CheckedGraph) (file : List ℕ) (r s : RequestOutcome) → Keeps c → IsReplay t c file r → IsReplay t c file s → r ≡ s
one_replay law t c file r s k (unread e) (unread d) = refl
one_replay law t c file r s k (unread e) (misspelt d none) = absurd (true_not_false (has_record_fault (t.script file)) e d)
one_replay law t c file r s k (unread e) (spelled a _ d is h) = absurd (true_not_false (has_record_fault (t.script file)) e d)
one_replay law t c file r s k (misspelt e none) (unread d) = absurd (true_not_false (has_record_fault (t.script file)) d e)
one_replay law t c file r s k (misspelt e none) (misspelt d never) = refl
one_replay law t c file r s k (misspelt e none) (spelled a _ d is h) = absurd (none a is)
one_replay law t c file r s k (spelled a _ e is h) (unread d) = absurd (true_not_false (has_record_fault (t.script file)) d e)
one_replay law t c file r s k (spelled a _ e is h) (misspelt d none) = absurd (none a is)
one_replay law t c file r s k (spelled a _ e is h) (spelled b _ d has i) =
    let same = law c (t.script file).bytes a b k is has in
    one_under t c a r s h (subst (λ (x : Arrivals). IsUnder t c x s) (sym same) i)

pub some_replay : SomeReadLaw → (t : Told) (c : CheckedGraph) (file : List ℕ) → Keeps c → (r : RequestOutcome) × IsReplay t c file r
some_replay law t c file k = by (has_record_fault (t.script file)) refl
  where
    by_read : has_record_fault (t.script file) ≡ false → IsRead c (t.script file).bytes → (r : RequestOutcome) × IsReplay t c file r
    by_read quiet (Ok a, is, some) = let h = some_under t c a k in (h.0, spelled a h.0 quiet is h.1)
    by_read quiet (Err A.Bad, none, some) = (BadArrivals c None, misspelt quiet none)
    by_read quiet (Err A.Memory, said, some) = absurd (some refl)

    by : (b : Bool) → has_record_fault (t.script file) ≡ b → (r : RequestOutcome) × IsReplay t c file r
    by true fault = (Unreadable file, unread fault)
    by false quiet = by_read quiet (law c (t.script file).bytes)

-- the graph that a replay runs is the program's
pub replay_graph : (t : Told) (c : CheckedGraph) (file : List ℕ) (x : CheckedGraph) (g : Graph) (m : Meaning) → IsReplay t c file (Runs x g m) → x ≡ c
replay_graph t c file x g m is = of_replay (Runs x g m) is refl
  where
    of_run : (a : Arrivals) (r : RequestOutcome) → IsUnder t c a r → r ≡ Runs x g m → x ≡ c
    of_run a r (partial n first) e = absurd (let bad : BadArrivals c (Some n) ≡ Runs x g m = e in cc)
    of_run a r (whole all) e = let same : Runs c (graph_of c) (meant (graph_of c) t a.lists) ≡ Runs x g m = e in cc

    of_replay : (r : RequestOutcome) → IsReplay t c file r → r ≡ Runs x g m → x ≡ c
    of_replay r (unread fault) e = absurd (let bad : Unreadable file ≡ Runs x g m = e in cc)
    of_replay r (misspelt quiet none) e = absurd (let bad : BadArrivals c None ≡ Runs x g m = e in cc)
    of_replay r (spelled a _ quiet has is) e = of_run a r is e

-- ---- a replay of an accepted program isn't refused

unrefused_under : (t : Told) (c : CheckedGraph) (given : Arrivals) (r : RequestOutcome) (refusal : Refusal)
    → IsUnder t c given r → r ≡ Refused refusal → ⊥
unrefused_under t c given r refusal (partial n h) e = cc
unrefused_under t c given r refusal (whole all) e = cc

pub unrefused_replay : (t : Told) (c : CheckedGraph) (file : List ℕ) (r : RequestOutcome) (refusal : Refusal)
    → IsReplay t c file r → r ≡ Refused refusal → ⊥
unrefused_replay t c file r refusal (unread fault) e = cc
unrefused_replay t c file r refusal (misspelt quiet none) e = cc
unrefused_replay t c file r refusal (spelled given _ quiet has under) e = unrefused_under t c given r refusal under e

-- and where its file spells a record, it isn't ended by one that is misspelt
spelled_under : (t : Told) (c x : CheckedGraph) (given : Arrivals) (r : RequestOutcome) → IsUnder t c given r
    → r ≡ BadArrivals x None → ⊥
spelled_under t c x given r (partial n h) e = cc
spelled_under t c x given r (whole all) e = cc

pub spelled_replay : (t : Told) (c x : CheckedGraph) (file : List ℕ) (given : Arrivals) (r : RequestOutcome)
    → Spells c (t.script file).bytes given → IsReplay t c file r → r ≡ BadArrivals x None → ⊥
spelled_replay t c x file given r has (unread fault) e = cc
spelled_replay t c x file given r has (misspelt quiet none) e = none given has
spelled_replay t c x file given r has (spelled other _ quiet spells under) e = spelled_under t c x other r under e
