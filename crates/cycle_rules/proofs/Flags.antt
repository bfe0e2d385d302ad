-- Flags of operators, against the lists of those that are taken.
use Rattle.std.specs.Prelude.{◌≡◌, ℕ, zero, suc, ◌+◌, ◌-◌, ◌<◌, ◌≤◌, ◌==◌, Bool, true, false, ◌&&◌, ◌||◌, not, List, [], ◌∷◌, ◌++◌, map, length, set, replicate, take, drop, ◌≢◌, if◌then◌else◌, Option, Some, None, slice_get}
use Rattle.std.specs.List.{concat, list_all}
use Rattle.std.specs.Option.{option_map, option_map_or}
use Rattle.std.proofs.Common.{refl, ap, sym, ◌∙◌, inl, inr, arith, length-append, append-nil, add-one, get_or}
use Rattle.std.proofs.lemmas.List.{get_or-set_same, get_or-set_other, get_or_past, take-append-drop}
use Rattle.std.proofs.lemmas.Bool.{cases_eq, eq-eqb}
use Rattle.std.proofs.lemmas.Bool.Decides.{eqb_tells}
use Rattle.std.proofs.lemmas.List.Folds.{list_any-append, list_all-append, list_all_at, list_all_more, concat-append}
use Rattle.std.proofs.Math.Nat.{zero-add}
use Rattle.spl_tree.specs.declared.graph.Op.{Op}
use Rattle.spl_tree.specs.declared.graph.Stream.{Stream}
use Rattle.language_model.specs.Taking.{is_taken, next_from, taken_on, first_untaken}
use Rattle.cycle_rules.specs.steps.Makers.{is_made, are_made, Adds, AreRows, covers_from, covers, covers_all, ready, first_ready}
use Rattle.spl_value.proofs.Bools.{and_false, or_false, or_true}
use Rattle.spl_value.proofs.Lists.{drop_at, take_at}
use Rattle.std.proofs.Math.Bool.{and_assoc}

-- ---- rows

marked : (r f a : Bool) → (f && a) ≡ (((if r then f else true) && a) && f)
marked true true true = refl
marked true true false = refl
marked true false a = refl
marked false true true = refl
marked false true false = refl
marked false false true = refl
marked false false false = refl

-- a row with one more flag
pub covers_from-set : (n : ℕ) (row flags : List Bool) (m : ℕ) → m < length row
    → covers_from n (set row m true) flags ≡ (covers_from n row flags && get_or flags (n + m) false)
covers_from-set n [] flags m h = absurd (omega arith)
covers_from-set n (r ∷ row) flags zero h =
    marked r (get_or flags n false) (covers_from (suc n) row flags)
    ∙ ap (λ k. covers_from n (r ∷ row) flags && get_or flags k false) (omega arith)
covers_from-set n (r ∷ row) flags (suc m) h =
    ap (λ b. (if r then get_or flags n false else true) && b) (covers_from-set (suc n) row flags m (omega arith))
    ∙ sym (and_assoc (if r then get_or flags n false else true) (covers_from (suc n) row flags) (get_or flags (suc n + m) false))
    ∙ ap (λ k. covers_from n (r ∷ row) flags && get_or flags k false) (omega arith)

-- a row without flags
covers_from_none : (n m : ℕ) (flags : List Bool) → covers_from m (replicate n false) flags ≡ true
covers_from_none zero m flags = refl
covers_from_none (suc n) m flags = covers_from_none n (suc m) flags

pub covers_none : (n : ℕ) (flags : List Bool) → covers (replicate n false) flags ≡ true
covers_none n flags = covers_from_none n 0 flags

-- the number of the operator that makes a stream
abbrev pub maker_of : List Stream → ℕ → Option ℕ
maker_of streams n = option_map (λ x. x.maker) (slice_get streams n)

is_made_by : (streams : List Stream) (flags : List Bool) (n : ℕ) → is_made streams flags n ≡ option_map_or (λ m. get_or flags m false) (maker_of streams n) false
is_made_by streams flags n = by (slice_get streams n)
  where
    by : (o : Option Stream) → option_map_or (λ x. get_or flags x.maker false) o false ≡ option_map_or (λ m. get_or flags m false) (option_map (λ x. x.maker) o) false
    by None = refl
    by (Some x) = refl

module _ (streams : List Stream) (flags : List Bool) where
  -- one stream more
  one_more : (ns : List ℕ) (i : ℕ) → i < length ns
      → are_made streams flags (take (i + 1) ns) ≡ (are_made streams flags (take i ns) && is_made streams flags (get_or ns i 0))
  one_more ns i h = list_all_more (is_made streams flags) ns i 0 h

  made_by : (n : ℕ) (m : Option ℕ) → m ≡ maker_of streams n → is_made streams flags n ≡ option_map_or (λ m. get_or flags m false) m false
  made_by n m e = is_made_by streams flags n ∙ ap (λ o. option_map_or (λ m. get_or flags m false) o false) (sym e)

  pub row_more : (row before : List Bool) (ns : List ℕ) (i m : ℕ) → covers row flags ≡ (covers before flags && are_made streams flags (take i ns))
      → i < length ns → Some m ≡ maker_of streams (get_or ns i 0) → m < length row
      → covers (set row m true) flags ≡ (covers before flags && are_made streams flags (take (i + 1) ns))
  row_more row before ns i m e h s w =
      covers_from-set 0 row flags m w
      ∙ ap (λ k. covers row flags && get_or flags k false) (zero-add m)
      ∙ ap (λ b. b && get_or flags m false) e
      ∙ and_assoc (covers before flags) (are_made streams flags (take i ns)) (get_or flags m false)
      ∙ ap (λ b. covers before flags && (are_made streams flags (take i ns) && b)) (sym (made_by (get_or ns i 0) (Some m) s))
      ∙ ap (λ b. covers before flags && b) (sym (one_more ns i h))

  -- a stream that no operator makes
  unmade : (b : Bool) (ns : List ℕ) (i : ℕ) → i < length ns → is_made streams flags (get_or ns i 0) ≡ false → false ≡ (b && are_made streams flags ns)
  unmade b ns i h u = sym (ap (λ c. b && c) (list_all_at (is_made streams flags) ns i 0 h u) ∙ and_false b)

  pub no_stream : (b : Bool) (ns : List ℕ) (i : ℕ) → i < length ns → None ≡ maker_of streams (get_or ns i 0) → false ≡ (b && are_made streams flags ns)
  no_stream b ns i h e = unmade b ns i h (made_by (get_or ns i 0) None e)

  pub no_maker : (b : Bool) (ns : List ℕ) (i m : ℕ) → i < length ns → Some m ≡ maker_of streams (get_or ns i 0) → length flags ≤ m
      → false ≡ (b && are_made streams flags ns)
  no_maker b ns i m h e w = unmade b ns i h (made_by (get_or ns i 0) (Some m) e ∙ get_or_past flags m false w)

  -- the streams of ports
  made_append : (ps qs : List (List ℕ)) → are_made streams flags (concat (ps ++ qs)) ≡ (are_made streams flags (concat ps) && are_made streams flags (concat qs))
  made_append ps qs =
      ap (are_made streams flags) (concat-append ps qs) ∙ list_all-append (is_made streams flags) (concat ps) (concat qs)

  made_one : (p : List ℕ) → are_made streams flags (concat (p ∷ [])) ≡ are_made streams flags p
  made_one p = ap (are_made streams flags) (append-nil p)

  pub port_more : (b : Bool) (row new : List Bool) (ps : List (List ℕ)) (i : ℕ) (p : List ℕ) → i < length ps → p ≡ get_or ps i p
      → covers row flags ≡ (b && are_made streams flags (concat (take i ps))) → covers new flags ≡ (covers row flags && are_made streams flags p)
      → covers new flags ≡ (b && are_made streams flags (concat (take (i + 1) ps)))
  port_more b row new ps i p h e r n =
      n ∙ ap (λ c. c && are_made streams flags p) r
      ∙ and_assoc b (are_made streams flags (concat (take i ps))) (are_made streams flags p)
      ∙ ap (λ c. b && (are_made streams flags (concat (take i ps)) && c)) (sym (made_one p))
      ∙ ap (λ c. b && c) (sym (made_append (take i ps) (p ∷ [])))
      ∙ ap (λ qs. b && are_made streams flags (concat qs)) (sym (take_at ps i p h e))

  pub port_fails : (b : Bool) (row : List Bool) (ps : List (List ℕ)) (i : ℕ) (p : List ℕ) → i < length ps → p ≡ get_or ps i p
      → covers row flags ≡ (b && are_made streams flags (concat (take i ps))) → false ≡ (covers row flags && are_made streams flags p)
      → false ≡ (b && are_made streams flags (concat ps))
  port_fails b row ps i p h e r n =
      ap (λ c. c && are_made streams flags (concat (drop (i + 1) ps)))
      (n ∙ ap (λ c. c && are_made streams flags p) r ∙ and_assoc b (are_made streams flags (concat (take i ps))) (are_made streams flags p))
      ∙ and_assoc b (are_made streams flags (concat (take i ps)) && are_made streams flags p) (are_made streams flags (concat (drop (i + 1) ps)))
      ∙ ap (λ c. b && c) (and_assoc (are_made streams flags (concat (take i ps))) (are_made streams flags p) (are_made streams flags (concat (drop (i + 1) ps))))
      ∙ ap (λ c. b && (are_made streams flags (concat (take i ps)) && c)) (sym (list_all-append (is_made streams flags) p (concat (drop (i + 1) ps))))
      ∙ ap (λ qs. b && (are_made streams flags (concat (take i ps)) && are_made streams flags (concat qs))) (sym (drop_at ps i p h e))
      ∙ ap (λ c. b && c) (sym (made_append (take i ps) (drop i ps)))
      ∙ ap (λ qs. b && are_made streams flags (concat qs)) (take-append-drop i ps)

-- ---- flags of what is taken

abbrev pub AreFlags : List ℕ → List Bool → Type 0
AreFlags taken flags = (m : ℕ) → get_or flags m false ≡ is_taken taken m

same_number : (n : ℕ) → (n == n) ≡ true
same_number n = eq-eqb n n refl

other_number : (n m : ℕ) → m ≢ n → (n == m) ≡ false
other_number n m h = elim (eqb_tells n m) [ inl e ↦ absurd (h (sym e.1)) | inr d ↦ d.0 ]

-- one more that is taken
pub flags_more : (taken : List ℕ) (flags : List Bool) (n : ℕ) → n < length flags → AreFlags taken flags → AreFlags (taken ++ n ∷ []) (set flags n true)
flags_more taken flags n h f m =
    elim (cases_eq m n) [
      | inl e ↦ ap (λ k. get_or (set flags n true) k false) e ∙ get_or-set_same flags n true false h
          ∙ sym (appended ∙ ap (λ b. is_taken taken m || (b || false)) (ap (λ k. n == k) e ∙ same_number n) ∙ or_true (is_taken taken m))
      | inr d ↦ get_or-set_other flags n m true false d ∙ f m
          ∙ sym (appended ∙ ap (λ b. is_taken taken m || (b || false)) (other_number n m d) ∙ or_false (is_taken taken m))
    ]
  where
    appended : is_taken (taken ++ n ∷ []) m ≡ (is_taken taken m || ((n == m) || false))
    appended = list_any-append (λ k. k == m) taken (n ∷ [])

-- ---- what is taken next

are_made_ready : (streams : List Stream) (taken : List ℕ) (flags : List Bool) → AreFlags taken flags → (ns : List ℕ)
    → list_all (λ s. option_map_or (λ x. is_taken taken x.maker) (slice_get streams s) false) ns ≡ are_made streams flags ns
are_made_ready streams taken flags f [] = refl
are_made_ready streams taken flags f (n ∷ ns) = λ i. made (slice_get streams n) i && are_made_ready streams taken flags f ns i
  where
    made : (o : Option Stream) → option_map_or (λ x. is_taken taken x.maker) o false ≡ option_map_or (λ x. get_or flags x.maker false) o false
    made None = refl
    made (Some x) = sym (f x.maker)

pub next_is : (streams : List Stream) (taken : List ℕ) (flags : List Bool) → AreFlags taken flags → (n : ℕ) (ops : List Op)
    → next_from streams taken n ops ≡ first_ready flags n (ready streams flags ops)
next_is streams taken flags f n [] = refl
next_is streams taken flags f n (op ∷ ops) =
    λ i. if not (sym (f n) i) && are_made_ready streams taken flags f (concat op.ins) i then Some n else next_is streams taken flags f (suc n) ops i

pub taken_done : (streams : List Stream) (ops : List Op) (taken : List ℕ) (k : ℕ) → next_from streams taken 0 ops ≡ None → taken_on k streams ops taken ≡ taken
taken_done streams ops taken zero e = refl
taken_done streams ops taken (suc k) e = ap (λ o. option_map_or (λ n. taken_on k streams ops (taken ++ n ∷ [])) o taken) e

pub taken_more : (streams : List Stream) (ops : List Op) (taken : List ℕ) (k j n : ℕ) → k ≡ suc j → next_from streams taken 0 ops ≡ Some n
    → taken_on k streams ops taken ≡ taken_on j streams ops (taken ++ n ∷ [])
taken_more streams ops taken k j n q e =
    ap (λ k. taken_on k streams ops taken) q ∙ ap (λ o. option_map_or (λ n. taken_on j streams ops (taken ++ n ∷ [])) o taken) e

-- the next number that isn't taken
pub counted : (taken : List ℕ) (n count : ℕ) → n < count → is_taken taken n ≡ true
    → first_untaken taken n (count - n) ≡ first_untaken taken (n + 1) (count - (n + 1))
counted taken n count h e =
    (let q : count - n ≡ suc (count - (n + 1)) = omega arith in ap (first_untaken taken n) q)
    ∙ ap (λ b. if b then first_untaken taken (suc n) (count - (n + 1)) else Some n) e
    ∙ ap (λ k. first_untaken taken k (count - (n + 1))) (sym (add-one n))

-- a row as it is made
pub row_is : (streams : List Stream) (numbers : List ℕ) (count : ℕ) (row new : List Bool) (found : Bool) → row ≡ replicate count false → length row ≡ count
    → Adds streams numbers row new found → (flags : List Bool) → length flags ≡ count → (found && covers new flags) ≡ are_made streams flags numbers
row_is streams numbers count row new found e n h flags l =
    h flags (l ∙ sym n) ∙ ap (λ r. covers r flags && are_made streams flags numbers) e ∙ ap (λ b. b && are_made streams flags numbers) (covers_none count flags)

-- the next operator, from rows
pub next_by_rows : (streams : List Stream) (ops : List Op) (rows : List (Option (List Bool))) (taken : List ℕ) (flags : List Bool)
    → AreRows streams (length ops) ops rows → length flags ≡ length ops → AreFlags taken flags
    → first_ready flags 0 (map (covers_all flags) rows) ≡ next_from streams taken 0 ops
next_by_rows streams ops rows taken flags h e f = ap (first_ready flags 0) (h flags e) ∙ sym (next_is streams taken flags f 0 ops)

pub round_more : (streams : List Stream) (ops : List Op) (order more : List ℕ) (n : ℕ) → length order < length ops → more ≡ order ++ n ∷ []
    → Some n ≡ next_from streams order 0 ops
    → taken_on (length ops - length order) streams ops order ≡ taken_on (length ops - length more) streams ops more
round_more streams ops order more n h e s =
    taken_more streams ops order (length ops - length order) (length ops - (length order + 1)) n (omega arith) (sym s)
    ∙ ap (λ k. taken_on (length ops - k) streams ops (order ++ n ∷ [])) (sym (length-append order (n ∷ [])))
    ∙ ap (λ o. taken_on (length ops - length o) streams ops o) (sym e)
