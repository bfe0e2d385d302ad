-- Whether bytes spell a record is decided.
use Rattle.std.specs.Fmt.{decimal}
use Rattle.std.specs.List.{AllByRecursion, flat_map}
use Rattle.std.proofs.Common.{◌≡◌, ◌∙◌, ◌^◌, ◌<◌, ◌≤◌, ◌⊎◌, ◌++◌, ◌∷◌, [], ℕ, zero, suc, List, Ok, Err, length, map, codes, refl, sym, ap, subst, arith, append_assoc, length-append, inl, inr}
use Rattle.std.proofs.Math.Decide.{map_dec, ℕ_discrete, dec_le}
use Rattle.std.proofs.lemmas.Bool.{cases_lt}
use Rattle.spl_value.proofs.Decided.{either_decided}
use Rattle.language_model.specs.CheckedGraph.{CheckedGraph}
use Rattle.stream_model.specs.declared.record.ArrivalList.{ArrivalList}
use Rattle.stream_model.specs.declared.record.Arrivals.{Arrivals}
use Rattle.stream_model.specs.Arrivals.{several}
use Rattle.stream_model.specs.CheckedMeaning.{graph_of}
use Rattle.arrival_format.specs.declared.answer.ArrivalsAnswer.TheVariants as A
use Rattle.arrival_format.specs.ArrivalTexts.{AreInputs, Spells, connection_count, inputs_text, line_text, name_at}
use Rattle.arrival_format.specs.FormatLaws.{IsRead, SomeReadLaw}
use Rattle.arrival_format.proofs.InputTexts.{one_before}
use Rattle.arrival_format.proofs.Lines.{HaveInputs}

-- ---- what is decided

-- a number below a bound has a property
abbrev Below : ℕ → (ℕ → Type 0) → Type 0
Below bound P = (i : ℕ) × (i < bound) × P i

below_decided : (P : ℕ → Type 0) → ((i : ℕ) → Dec (P i)) → (bound : ℕ) → Dec (Below bound P)
below_decided P decided zero = no (λ h. (let less = h.1 in omega (arith, less)))
below_decided P decided (suc bound) = by (decided bound) (below_decided P decided bound)
  where
    by : Dec (P bound) → Dec (Below bound P) → Dec (Below (suc bound) P)
    by (yes is) lower = yes (bound, omega arith, is)
    by (no none) (yes h) = yes (h.0, (let less = h.1 in omega (arith, less)), h.2)
    by (no none) (no never) = no (λ h. elim (cases_lt h.0 bound) [
      | inl less ↦ never (h.0, less, h.2)
      | inr above ↦ (let within = h.1 in let same : h.0 ≡ bound = omega (arith, above, within) in none (subst P same h.2))
    ])

-- bytes begin with these, and the rest has a property
abbrev Begins : List ℕ → (List ℕ → Type 0) → List ℕ → Type 0
Begins front P bytes = (rest : List ℕ) × (bytes ≡ front ++ rest) × P rest

begins_decided : (P : List ℕ → Type 0) (front bytes : List ℕ) → ((rest : List ℕ) → bytes ≡ front ++ rest → Dec (P rest)) → Dec (Begins front P bytes)
begins_decided P [] bytes decided = map_dec (λ p. (bytes, refl, p)) (λ h. subst P (sym h.1) h.2) (decided bytes refl)
begins_decided P (x ∷ front) [] decided = no (λ h. (let clash = h.1 in cc))
begins_decided P (x ∷ front) (b ∷ bytes) decided = by (ℕ_discrete b x) (λ same. begins_decided P front bytes (λ rest is. decided rest (λ i. same i ∷ is i)))
  where
    by : Dec (b ≡ x) → ((same : b ≡ x) → Dec (Begins front P bytes)) → Dec (Begins (x ∷ front) P (b ∷ bytes))
    by (no none) behind = no (λ h. none (let is = h.1 in cc))
    by (yes same) behind = map_dec (λ h. (h.0, (λ i. same i ∷ h.1 i), h.2)) (λ h. (h.0, (let is = h.1 in cc), h.2)) (behind same)

-- ---- the numbers of a line

-- numbers below the bound to the end of a line, and what comes after it has a property
abbrev Ends : ℕ → (List ℕ → Type 0) → List ℕ → Type 0
Ends bound P bytes = (inputs : List ℕ) × (rest : List ℕ) × AllByRecursion (λ i. i < bound) inputs × (bytes ≡ inputs_text inputs ++ 10 ∷ rest) × P rest

-- one of them or more
abbrev Numbers : ℕ → (List ℕ → Type 0) → List ℕ → Type 0
Numbers bound P bytes = Below bound (λ i. Begins (32 ∷ decimal i) (Ends bound P) bytes)

one_more : (bound : ℕ) (P : List ℕ → Type 0) (bytes : List ℕ) → Numbers bound P bytes → Ends bound P bytes
one_more bound P bytes (i, less, (r, blank, (inputs, rest, below, text, p))) =
    (i ∷ inputs, rest, (less, below), blank ∙ ap (λ s. 32 ∷ (decimal i ++ s)) text ∙ sym (one_before i inputs (10 ∷ rest)), p)

module _ (bound : ℕ) (P : List ℕ → Type 0) (bytes : List ℕ) where
  ends_either : Begins (10 ∷ []) P bytes ⊎ Numbers bound P bytes → Ends bound P bytes
  ends_either (inl (rest, is, p)) = ([], rest, tt, is, p)
  ends_either (inr numbers) = one_more bound P bytes numbers

  either_ends : Ends bound P bytes → Begins (10 ∷ []) P bytes ⊎ Numbers bound P bytes
  either_ends ([], rest, below, text, p) = inl (rest, text, p)
  either_ends (x ∷ xs, rest, below, text, p) = inr (x, below.0, (inputs_text xs ++ 10 ∷ rest, text ∙ one_before x xs (10 ∷ rest), (xs, rest, below.1, refl, p)))

module _ (bound : ℕ) (P : List ℕ → Type 0) (decided : (rest : List ℕ) → Dec (P rest)) where
  numbers_decided : (bytes : List ℕ) → ((rest : List ℕ) → length rest < length bytes → Dec (Ends bound P rest)) → Dec (Numbers bound P bytes)
  numbers_decided bytes shorter =
      below_decided (λ i. Begins (32 ∷ decimal i) (Ends bound P) bytes)
      (λ i. begins_decided (Ends bound P) (32 ∷ decimal i) bytes (λ rest is.
      shorter rest (let size = ap length is ∙ length-append (32 ∷ decimal i) rest in omega (arith, size)))) bound

  ends_decided : (n : ℕ) (bytes : List ℕ) → length bytes < n → Dec (Ends bound P bytes)
  ends_decided zero bytes less = absurd (omega (arith, less))
  ends_decided (suc n) bytes less =
      map_dec (ends_either bound P bytes) (either_ends bound P bytes)
      (either_decided (begins_decided P (10 ∷ []) bytes (λ rest is. decided rest))
      (numbers_decided bytes (λ rest shorter. ends_decided n rest (omega (arith, less, shorter)))))

-- ---- lines

module _ (c : CheckedGraph) where
  abbrev Count : ℕ → ℕ
  Count n = connection_count (graph_of c) n

  -- the lines of these operators
  abbrev LinesOf : List ℕ → List ℕ → Type 0
  LinesOf [] bytes = bytes ≡ []
  LinesOf (n ∷ ns) bytes = Begins (name_at c n) (Numbers (Count n) (LinesOf ns)) bytes

  lines_decided : (ns bytes : List ℕ) → Dec (LinesOf ns bytes)
  lines_decided [] [] = yes refl
  lines_decided [] (b ∷ bytes) = no (λ e. cc)
  lines_decided (n ∷ ns) bytes =
      begins_decided (Numbers (Count n) (LinesOf ns)) (name_at c n) bytes (λ rest is.
      numbers_decided (Count n) (LinesOf ns) (lines_decided ns) rest (λ r shorter. ends_decided (Count n) (LinesOf ns) (lines_decided ns) (suc (length r)) r (omega arith)))

  line_before : (l : ArrivalList) (lists : List ArrivalList) → flat_map (line_text c) (l ∷ lists) ≡ name_at c l.op ++ (inputs_text l.inputs ++ 10 ∷ flat_map (line_text c) lists)
  line_before l lists = simp append_assoc

  -- the lists of lines
  abbrev Listed : List ℕ → List ℕ → Type 0
  Listed ns bytes = (lists : List ArrivalList) × (map (λ (l : ArrivalList). l.op) lists ≡ ns) × HaveInputs c lists × (bytes ≡ flat_map (line_text c) lists)

  listed : (ns bytes : List ℕ) → LinesOf ns bytes → Listed ns bytes
  listed [] bytes is = ([], refl, tt, is)
  listed (n ∷ ns) bytes (rest, name, (i, less, (r, blank, (inputs, behind, below, text, lines)))) = with_first (listed ns behind lines)
    where
      own : ArrivalList
      own = record { op = n; inputs = i ∷ inputs }

      with_first : Listed ns behind → Listed (n ∷ ns) bytes
      with_first (lists, ops, have, is) = (
        own ∷ lists,
        ap (λ ks. n ∷ ks) ops,
        (record { some = omega arith; below = (less, below) }, have),
        name ∙ ap (λ s. name_at c n ++ s) (blank ∙ ap (λ s. 32 ∷ (decimal i ++ s)) (text ∙ ap (λ s. inputs_text inputs ++ 10 ∷ s) is) ∙ sym (one_before i inputs (10 ∷ flat_map (line_text c) lists)))
            ∙ sym (line_before own lists),
      )

  lines_of : (lists : List ArrivalList) (bytes : List ℕ) → HaveInputs c lists → bytes ≡ flat_map (line_text c) lists → LinesOf (map (λ (l : ArrivalList). l.op) lists) bytes
  lines_of [] bytes have is = is
  lines_of (l ∷ lists) bytes have is =
      by l.inputs have.0 (is ∙ line_before l lists) (lines_of lists (flat_map (line_text c) lists) have.1 refl)
    where
      by : (inputs : List ℕ) → AreInputs (Count l.op) inputs → bytes ≡ name_at c l.op ++ (inputs_text inputs ++ 10 ∷ flat_map (line_text c) lists)
          → LinesOf (map (λ (l : ArrivalList). l.op) lists) (flat_map (line_text c) lists) → LinesOf (l.op ∷ map (λ (l : ArrivalList). l.op) lists) bytes
      by [] are text behind = absurd (let some = are.some in omega (arith, some))
      by (i ∷ inputs) are text behind =
          let tail = flat_map (line_text c) lists in
          (inputs_text (i ∷ inputs) ++ 10 ∷ tail, text, (i, are.below.0, (inputs_text inputs ++ 10 ∷ tail, one_before i inputs (10 ∷ tail), (inputs, tail, are.below.1, refl, behind))))

  -- ---- the whole

  abbrev Lines : List ℕ → Type 0
  Lines bytes = Begins (codes "arrivals 1\n") (LinesOf (several (graph_of c))) bytes

  spelled : (bytes : List ℕ) → length bytes ≤ 2 ^ 32 → Lines bytes → IsRead c bytes
  spelled bytes short (rest, head, lines) =
      let h = listed (several (graph_of c)) rest lines in
      (Ok (record { lists = h.0 }), record { made = record { lists = h.1; inputs = h.2 }; text = head ∙ ap (λ s. codes "arrivals 1\n" ++ s) h.3; short = short }, λ e. cc)

  lines_there : (bytes : List ℕ) (arrivals : Arrivals) → Spells c bytes arrivals → Lines bytes
  lines_there bytes arrivals h =
      let lines = lines_of arrivals.lists (flat_map (line_text c) arrivals.lists) h.made.inputs refl in
      (flat_map (line_text c) arrivals.lists, h.text, subst (λ ns. LinesOf ns (flat_map (line_text c) arrivals.lists)) h.made.lists lines)

  misspelt : (bytes : List ℕ) → ((arrivals : Arrivals) → Spells c bytes arrivals → ⊥) → IsRead c bytes
  misspelt bytes none = (Err A.Bad, none, λ e. cc)

pub some_read : SomeReadLaw
some_read c bytes = by_length (dec_le (length bytes) (2 ^ 32)) (begins_decided (LinesOf c (several (graph_of c))) (codes "arrivals 1\n") bytes (λ rest is. lines_decided c (several (graph_of c)) rest))
  where
    by_length : Dec (length bytes ≤ 2 ^ 32) → Dec (Lines c bytes) → IsRead c bytes
    by_length (no long) lines = misspelt c bytes (λ arrivals h. long h.short)
    by_length (yes short) (yes lines) = spelled c bytes short lines
    by_length (yes short) (no none) = misspelt c bytes (λ arrivals h. none (lines_there c bytes arrivals h))
