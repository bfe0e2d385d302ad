-- Connections that haven't ended, counted: at the start, as events come, and none where a port has ended.
use Rattle.std.proofs.Common.{◌≡◌, ◌<◌, ◌+◌, ℕ, zero, suc, Bool, true, false, ◌&&◌, ◌==◌, not, if◌then◌else◌, List, [], ◌∷◌, ◌++◌, map, length, slice_get, Some, refl, sym, ap, ◌∙◌, arith}
use Rattle.std.proofs.lemmas.Bool.{eq-eqb, ne_eqb}
use Rattle.spl_value.specs.declared.item.Item.TheVariants as I
use Rattle.stream_model.specs.Stream.{Event, came, is_final}
use Rattle.stream_model.specs.Operators.{ports_from}
use Rattle.stream_model.specs.PortEvents.{all_over, is_over}
use Rattle.connection_counts.specs.Counting.{open_from}

-- ---- none is open

suc_zero : (n : ℕ) → false ≡ (suc n == 0)
suc_zero n = sym (ne_eqb (suc n) 0 (λ e. omega (arith, e)))

-- all have ended exactly where none is open
pub none_open : (test : ℕ → Bool) (ps : List ℕ) (i : ℕ) (h : List Event) → all_over test ps i h ≡ (open_from test ps i h == 0)
none_open test [] i h = refl
none_open test (p ∷ ps) i h = by (test p) (is_over h i) (none_open test ps (suc i) h)
  where
    by : (t o : Bool) → all_over test ps (suc i) h ≡ (open_from test ps (suc i) h == 0)
        → (if t then o && all_over test ps (suc i) h else all_over test ps (suc i) h)
        ≡ ((if t && not o then suc (open_from test ps (suc i) h) else open_from test ps (suc i) h) == 0)
    by true true e = e
    by true false e = suc_zero (open_from test ps (suc i) h)
    by false o e = e

-- ---- as events come

same_if : (a b c d : ℕ) (t s : Bool) → t ≡ s → a ≡ c → b ≡ d → (if t then a else b) ≡ (if s then c else d)
same_if a b c d t s e f g = λ i. if e i then f i else g i

-- an input stays as it is where an event isn't its final marker
over_stays : (e : Event) (h : List Event) (i : ℕ) → ((e.input == i) && is_final e.item) ≡ false → is_over (e ∷ h) i ≡ is_over h i
over_stays e h i none = ap (λ b. if b then true else is_over h i) none

and_false : (b : Bool) → (b && false) ≡ false
and_false true = refl
and_false false = refl

-- what isn't a final marker leaves all as they are
pub not_final : (test : ℕ → Bool) (ps : List ℕ) (i : ℕ) (e : Event) (h : List Event) → is_final e.item ≡ false → open_from test ps i (e ∷ h) ≡ open_from test ps i h
not_final test [] i e h none = refl
not_final test (p ∷ ps) i e h none =
    let over = over_stays e h i (ap (λ b. (e.input == i) && b) none ∙ and_false (e.input == i)) in
    let rest = not_final test ps (suc i) e h none in
    same_if (suc (open_from test ps (suc i) (e ∷ h))) (open_from test ps (suc i) (e ∷ h)) (suc (open_from test ps (suc i) h)) (open_from test ps (suc i) h) _ _
    (ap (λ o. test p && not o) over) (ap suc rest) rest

-- the final marker of an input before these leaves them
before_all : (test : ℕ → Bool) (ps : List ℕ) (i j : ℕ) (h : List Event) → j < i → open_from test ps i (came j I.Final ∷ h) ≡ open_from test ps i h
before_all test [] i j h lt = refl
before_all test (p ∷ ps) i j h lt =
    let over = over_stays (came j I.Final) h i (ap (λ b. b && true) (ne_eqb j i (λ e. omega (arith, e, lt)))) in
    let rest = before_all test ps (suc i) j h (omega (arith, lt)) in
    same_if (suc (open_from test ps (suc i) (came j I.Final ∷ h))) (open_from test ps (suc i) (came j I.Final ∷ h)) (suc (open_from test ps (suc i) h)) (open_from test ps (suc i) h) _ _
    (ap (λ o. test p && not o) over) (ap suc rest) rest

one_if : Bool → ℕ
one_if true = 1
one_if false = 0

-- that of one which was open leaves one fewer where its port passes the test
pub one_fewer : (test : ℕ → Bool) (ps : List ℕ) (i k p : ℕ) (h : List Event) → slice_get ps k ≡ Some p → is_over h (i + k) ≡ false
    → open_from test ps i h ≡ (if test p then 1 else 0) + open_from test ps i (came (i + k) I.Final ∷ h)
one_fewer test [] i k p h at was = absurd cc
one_fewer test (q ∷ ps) i zero p h at was =
    let here : i + 0 ≡ i = omega arith in
    let same : q ≡ p = cc in
    let open_before : is_over h i ≡ false = ap (is_over h) (sym here) ∙ was in
    let over_now : is_over (came (i + 0) I.Final ∷ h) i ≡ true = ap (λ b. if b && true then true else is_over h i) (eq-eqb (i + 0) i here) in
    let rest = before_all test ps (suc i) (i + 0) h (omega arith) in
    by (test q) (test p) (ap test same) (is_over h i) (is_over (came (i + 0) I.Final ∷ h) i) open_before over_now (open_from test ps (suc i) h) (open_from test ps (suc i) (came (i + 0) I.Final ∷ h)) rest
  where
    by : (t s : Bool) → t ≡ s → (o n : Bool) → o ≡ false → n ≡ true → (a b : ℕ) → b ≡ a
        → (if t && not o then suc a else a) ≡ (if s then 1 else 0) + (if t && not n then suc b else b)
    by true true ts true n e f a b g = absurd (let no : true ≡ false = e in cc)
    by true true ts false true e f a b g = omega (arith, g)
    by true true ts false false e f a b g = absurd (let no : false ≡ true = f in cc)
    by true false ts o n e f a b g = absurd (let no : true ≡ false = ts in cc)
    by false true ts o n e f a b g = absurd (let no : false ≡ true = ts in cc)
    by false false ts o n e f a b g = omega (arith, g)
one_fewer test (q ∷ ps) i (suc k) p h at was =
    let there : i + suc k ≡ suc i + k = omega arith in
    let rest = one_fewer test ps (suc i) k p h at (ap (is_over h) (sym there) ∙ was) in
    let over = over_stays (came (i + suc k) I.Final) h i (ap (λ b. b && true) (ne_eqb (i + suc k) i (λ e. omega (arith, e)))) in
    let moved : open_from test ps (suc i) (came (suc i + k) I.Final ∷ h) ≡ open_from test ps (suc i) (came (i + suc k) I.Final ∷ h) =
    ap (λ j. open_from test ps (suc i) (came j I.Final ∷ h)) (sym there) in
    by (test q) (is_over h i) (is_over (came (i + suc k) I.Final ∷ h) i) over (test p) (open_from test ps (suc i) h) (open_from test ps (suc i) (came (i + suc k) I.Final ∷ h))
    (rest ∙ ap (λ n. (if test p then 1 else 0) + n) moved)
  where
    by : (t o n : Bool) → n ≡ o → (s : Bool) (a b : ℕ) → a ≡ (if s then 1 else 0) + b
        → (if t && not o then suc a else a) ≡ (if s then 1 else 0) + (if t && not n then suc b else b)
    by true true true e s a b g = g
    by true true false e s a b g = absurd (let no : false ≡ true = e in cc)
    by true false true e s a b g = absurd (let no : true ≡ false = e in cc)
    by true false false e s a b g = let e : suc a ≡ suc ((if s then 1 else 0) + b) = ap suc g in omega (arith, e)
    by false o n e s a b g = g

-- ---- at the start

-- all are open
pub all_open : (ps : List ℕ) (i : ℕ) → open_from (λ q. true) ps i [] ≡ length ps
all_open [] i = refl
all_open (p ∷ ps) i = ap suc (all_open ps (suc i))

-- streams of one port are open there alone
of_port : (test : ℕ → Bool) (p : ℕ) (streams ps : List ℕ) (i j : ℕ)
    → open_from test (map (λ (s : ℕ). p) streams ++ ps) i [] ≡ (if test p then length streams else 0) + open_from test ps j []
of_port test p [] ps i j = by (test p) (anywhere test ps i j)
  where
    by : (t : Bool) → open_from test ps i [] ≡ open_from test ps j [] → open_from test ps i [] ≡ (if t then 0 else 0) + open_from test ps j []
    by true e = omega (arith, e)
    by false e = omega (arith, e)

    anywhere : (test : ℕ → Bool) (ps : List ℕ) (i j : ℕ) → open_from test ps i [] ≡ open_from test ps j []
    anywhere test [] i j = refl
    anywhere test (p ∷ ps) i j = let rest = anywhere test ps (suc i) (suc j) in
        same_if (suc (open_from test ps (suc i) [])) (open_from test ps (suc i) []) (suc (open_from test ps (suc j) [])) (open_from test ps (suc j) []) _ _ refl (ap suc rest) rest
of_port test p (s ∷ streams) ps i j = by (test p) (of_port test p streams ps (suc i) j)
  where
    by : (t : Bool) → open_from test (map (λ (s : ℕ). p) streams ++ ps) (suc i) [] ≡ (if t then length streams else 0) + open_from test ps j []
        → (if t && true then suc (open_from test (map (λ (s : ℕ). p) streams ++ ps) (suc i) []) else open_from test (map (λ (s : ℕ). p) streams ++ ps) (suc i) [])
        ≡ (if t then suc (length streams) else 0) + open_from test ps j []
    by true e = omega (arith, e)
    by false e = e

-- those of earlier ports aren't there
none_later : (ins : List (List ℕ)) (k p i : ℕ) → p < k → open_from (λ q. q == p) (ports_from k ins) i [] ≡ 0
none_later [] k p i lt = refl
none_later (streams ∷ ins) k p i lt =
    of_port (λ q. q == p) k streams (ports_from (suc k) ins) i i
    ∙ (λ j. (if ne_eqb k p (λ e. omega (arith, e, lt)) j then length streams else 0) + none_later ins (suc k) p i (omega (arith, lt)) j)

pub port_open : (ins : List (List ℕ)) (k m i : ℕ) (streams : List ℕ) → slice_get ins m ≡ Some streams → open_from (λ q. q == (k + m)) (ports_from k ins) i [] ≡ length streams
port_open [] k m i streams at = absurd cc
port_open (own ∷ ins) k zero i streams at =
    let here : k ≡ k + 0 = omega arith in
    let same : own ≡ streams = cc in
    of_port (λ q. q == (k + 0)) k own (ports_from (suc k) ins) i i
    ∙ (λ j. (if eq-eqb k (k + 0) here j then length (same j) else 0) + none_later ins (suc k) (k + 0) i (omega arith) j)
    ∙ omega arith
port_open (own ∷ ins) k (suc m) i streams at =
    let there : suc k + m ≡ k + suc m = omega arith in
    of_port (λ q. q == (k + suc m)) k own (ports_from (suc k) ins) i i
    ∙ (λ j. (if ne_eqb k (k + suc m) (λ e. omega (arith, e)) j then length own else 0) + open_from (λ q. q == (k + suc m)) (ports_from (suc k) ins) i [])
    ∙ (let drop : 0 + open_from (λ q. q == (k + suc m)) (ports_from (suc k) ins) i [] ≡ open_from (λ q. q == (k + suc m)) (ports_from (suc k) ins) i [] = omega arith in drop)
    ∙ ap (λ n. open_from (λ q. q == n) (ports_from (suc k) ins) i []) (sym there)
    ∙ port_open ins (suc k) m i streams at
