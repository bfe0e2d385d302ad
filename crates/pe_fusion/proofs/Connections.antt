-- The connections of streams, and the outputs that lead to them.
use Rattle.std.proofs.Common.{ℕ, zero, suc, ◌+◌, ◌<◌, ◌≤◌, ◌==◌, ◌&&◌, nat_lt, not, Bool, true, false, cond, List, [], ◌∷◌, ◌++◌, ◌≡◌, ◌⊎◌, inl, inr, refl, sym, ap, subst, ◌∙◌, arith, length, map, Some, None, slice_get}
use Rattle.std.specs.Prelude.{position}
use Rattle.std.specs.List.{flat_map, position_or_len}
use Rattle.std.proofs.lemmas.Bool.{cases_Bool, eqb-true, eq-eqb, ne_eqb, and_parts, and_from, and_left, and_right, lt-ltb}
use Rattle.std.proofs.lemmas.List.{length-append, length-map}
use Rattle.std.proofs.lemmas.Option.{slice_get_within}
use Rattle.spl_value.proofs.Lists.{append_front}
use Rattle.stream_model.specs.Operators.{Operator, connections}
use Rattle.stream_model.specs.Meaning.{Graph}
use Rattle.stream_model.specs.Laws.{IsNumbered}
use Rattle.pe_fusion.specs.FusedNets.{ports_of_outputs}
use Rattle.pe_fusion.specs.Readers.{readers, reads_at}
use Rattle.pe_fusion.specs.Totals.{one_if, times}
use Rattle.pe_fusion.proofs.Totals.{total-flat, total-only, total-at, some-one, get-right, Behind, get-append}

-- ---- a connection of a stream

-- the reader at input i of operator n
abbrev pub is_reader : ℕ → ℕ → ℕ × ℕ → Bool
is_reader n i r = r.0 == n && r.1 == i

pub record ReadsAt (n s k : ℕ) (streams : List ℕ) (r : ℕ × ℕ) : Type 0 where
  pub place : ℕ
  pub number : r.0 ≡ n
  pub input : r.1 ≡ k + place
  pub is : slice_get streams place ≡ Some s

pub reads-at : (n s k : ℕ) (streams : List ℕ) (m : ℕ) (r : ℕ × ℕ) → slice_get (reads_at n s k streams) m ≡ Some r → ReadsAt n s k streams r
reads-at n s k [] m r at = absurd (cc)
reads-at n s k (t ∷ streams) m r at = go (cases_Bool (t == s)) m at (λ i. reads-at n s (suc k) streams i r)
  where
    later : ReadsAt n s (suc k) streams r → ReadsAt n s k (t ∷ streams) r
    later h = record { place = suc h.place; number = h.number; input = (let e : r.1 ≡ suc k + h.place = h.input in omega (arith, e)); is = h.is }

    here : (i : ℕ) → slice_get ((n, k) ∷ reads_at n s (suc k) streams) i ≡ Some r → t ≡ s → ((j : ℕ) → slice_get (reads_at n s (suc k) streams) j ≡ Some r → ReadsAt n s (suc k) streams r) → ReadsAt n s k (t ∷ streams) r
    here zero e same rest =
        let is : (n, k) ≡ r = cc in
        record { place = 0; number = ap (λ (z : ℕ × ℕ). z.0) (sym is); input = (let q : r.1 ≡ k = ap (λ (z : ℕ × ℕ). z.1) (sym is) in omega (arith, q)); is = ap (λ z. Some z) same }
    here (suc i) e same rest = later (rest i e)

    go : (t == s ≡ true) ⊎ (t == s ≡ false) → (i : ℕ) → slice_get (cond (t == s) ((n, k) ∷ reads_at n s (suc k) streams) (reads_at n s (suc k) streams)) i ≡ Some r
        → ((j : ℕ) → slice_get (reads_at n s (suc k) streams) j ≡ Some r → ReadsAt n s (suc k) streams r) → ReadsAt n s k (t ∷ streams) r
    go (inl e) i h rest = here i (subst (λ b. slice_get (cond b ((n, k) ∷ reads_at n s (suc k) streams) (reads_at n s (suc k) streams)) i ≡ Some r) e h) (eqb-true t s e) rest
    go (inr e) i h rest = later (rest i (subst (λ b. slice_get (cond b ((n, k) ∷ reads_at n s (suc k) streams) (reads_at n s (suc k) streams)) i ≡ Some r) e h))

pub record Reader (ops : List Operator) (s : ℕ) (r : ℕ × ℕ) : Type 0 where
  pub place : ℕ
  pub op : Operator
  pub is : slice_get ops place ≡ Some op
  pub number : r.0 ≡ op.number
  pub input : slice_get (connections op) r.1 ≡ Some s

pub reader-is : (ops : List Operator) (s m : ℕ) (r : ℕ × ℕ) → slice_get (flat_map (λ (op : Operator). reads_at op.number s 0 (connections op)) ops) m ≡ Some r → Reader ops s r
reader-is [] s m r at = absurd (cc)
reader-is (op ∷ ops) s m r at =
    go (get-append (reads_at op.number s 0 (connections op)) (flat_map (λ (op : Operator). reads_at op.number s 0 (connections op)) ops) m r at) (λ i. reader-is ops s i r)
  where
    go : (slice_get (reads_at op.number s 0 (connections op)) m ≡ Some r) ⊎ Behind (reads_at op.number s 0 (connections op)) (flat_map (λ (op : Operator). reads_at op.number s 0 (connections op)) ops) m r
        → ((i : ℕ) → slice_get (flat_map (λ (op : Operator). reads_at op.number s 0 (connections op)) ops) i ≡ Some r → Reader ops s r) → Reader (op ∷ ops) s r
    go (inl a) later =
        let h = reads-at op.number s 0 (connections op) m r a in
        let e : r.1 ≡ 0 + h.place = h.input in
        let same : h.place ≡ r.1 = omega (arith, e) in
        record { place = 0; op = op; is = refl; number = h.number; input = ap (slice_get (connections op)) (sym same) ∙ h.is }
    go (inr b) later = let h = later b.at b.is in record { place = suc h.place; op = h.op; is = h.is; number = h.number; input = h.input }

-- ---- how often

other-number : (m n i s k : ℕ) (streams : List ℕ) → (m ≡ n → ⊥) → times (is_reader n i) (reads_at m s k streams) ≡ 0
other-number m n i s k [] apart = refl
other-number m n i s k (t ∷ streams) apart = go (t == s) (other-number m n i s (suc k) streams apart)
  where
    go : (b : Bool) → times (is_reader n i) (reads_at m s (suc k) streams) ≡ 0 → times (is_reader n i) (cond b ((m, k) ∷ reads_at m s (suc k) streams) (reads_at m s (suc k) streams)) ≡ 0
    go true rest =
        let first : one_if (m == n && k == i) ≡ 0 = ap one_if (and_left (m == n) (k == i) (ne_eqb m n apart)) in
        let z : one_if (m == n && k == i) + times (is_reader n i) (reads_at m s (suc k) streams) ≡ 0 = omega (arith, first, rest) in z
    go false rest = rest

past-input : (n i s k : ℕ) (streams : List ℕ) → i < k → times (is_reader n i) (reads_at n s k streams) ≡ 0
past-input n i s k [] lt = refl
past-input n i s k (t ∷ streams) lt = go (t == s) (past-input n i s (suc k) streams (omega (arith, lt)))
  where
    go : (b : Bool) → times (is_reader n i) (reads_at n s (suc k) streams) ≡ 0 → times (is_reader n i) (cond b ((n, k) ∷ reads_at n s (suc k) streams) (reads_at n s (suc k) streams)) ≡ 0
    go true rest =
        let first : one_if (n == n && k == i) ≡ 0 = ap one_if (and_right (n == n) (k == i) (ne_eqb k i (λ e. let f : k ≡ i = e in omega (arith, lt, f)))) in
        let z : one_if (n == n && k == i) + times (is_reader n i) (reads_at n s (suc k) streams) ≡ 0 = omega (arith, first, rest) in z
    go false rest = rest

one-input : (n i s t k d : ℕ) (streams : List ℕ) → slice_get streams d ≡ Some t → i ≡ k + d → times (is_reader n i) (reads_at n s k streams) ≡ one_if (t == s)
one-input n i s t k d [] at e = absurd (cc)
one-input n i s t k zero (u ∷ streams) at e = go (cases_Bool (u == s))
  where
    same : u ≡ t
    same = cc

    rest : times (is_reader n i) (reads_at n s (suc k) streams) ≡ 0
    rest = past-input n i s (suc k) streams (let f : i ≡ k + 0 = e in omega (arith, f))

    go : (u == s ≡ true) ⊎ (u == s ≡ false) → times (is_reader n i) (cond (u == s) ((n, k) ∷ reads_at n s (suc k) streams) (reads_at n s (suc k) streams)) ≡ one_if (t == s)
    go (inl b) =
        let first : one_if (n == n && k == i) ≡ 1 = ap one_if (and_from (n == n) (k == i) (eq-eqb n n refl) (eq-eqb k i (let f : i ≡ k + 0 = e in omega (arith, f)))) in
        let sum : one_if (n == n && k == i) + times (is_reader n i) (reads_at n s (suc k) streams) ≡ 1 = omega (arith, first, rest) in
        ap (λ c. times (is_reader n i) (cond c ((n, k) ∷ reads_at n s (suc k) streams) (reads_at n s (suc k) streams))) b ∙ sum ∙ sym (ap one_if (ap (λ v. v == s) (sym same) ∙ b))
    go (inr b) =
        ap (λ c. times (is_reader n i) (cond c ((n, k) ∷ reads_at n s (suc k) streams) (reads_at n s (suc k) streams))) b ∙ rest ∙ sym (ap one_if (ap (λ v. v == s) (sym same) ∙ b))
one-input n i s t k (suc d) (u ∷ streams) at e = go (u == s) (one-input n i s t (suc k) d streams at (let f : i ≡ k + suc d = e in omega (arith, f)))
  where
    go : (b : Bool) → times (is_reader n i) (reads_at n s (suc k) streams) ≡ one_if (t == s)
        → times (is_reader n i) (cond b ((n, k) ∷ reads_at n s (suc k) streams) (reads_at n s (suc k) streams)) ≡ one_if (t == s)
    go true rest =
        let first : one_if (n == n && k == i) ≡ 0 = ap one_if (and_right (n == n) (k == i) (ne_eqb k i (λ z. let y : k ≡ i = z in let f : i ≡ k + suc d = e in omega (arith, f, y)))) in
        let z : one_if (n == n && k == i) + times (is_reader n i) (reads_at n s (suc k) streams) ≡ one_if (t == s) = omega (arith, first, rest) in z
    go false rest = rest

-- an input of an operator is once among the connections of its stream, and not among those of others
pub reader-once : (g : Graph) (n i s t : ℕ) (op : Operator) → IsNumbered g → slice_get g.ops n ≡ Some op → slice_get (connections op) i ≡ Some t
    → times (is_reader n i) (readers g s) ≡ one_if (t == s)
reader-once g n i s t op numbered at input =
    total-flat (λ r. one_if (is_reader n i r)) (λ (o : Operator). reads_at o.number s 0 (connections o)) g.ops
    ∙ total-only (λ (o : Operator). times (is_reader n i) (reads_at o.number s 0 (connections o))) g.ops n op at
    (λ j o there apart. other-number o.number n i s 0 (connections o) (λ e. apart (sym (numbered j o there) ∙ e)))
    ∙ ap (λ m. times (is_reader n i) (reads_at m s 0 (connections op))) (numbered n op at)
    ∙ one-input n i s t 0 i (connections op) input (omega arith)

-- where a stream has one connection, two that read it are one operator
pub alone-same : (g : Graph) (s n i m j : ℕ) (op other : Operator) → IsNumbered g → length (readers g s) ≡ 1 → slice_get g.ops n ≡ Some op → slice_get (connections op) i ≡ Some s
    → slice_get g.ops m ≡ Some other → slice_get (connections other) j ≡ Some s → n ≡ m
alone-same g s n i m j op other numbered alone at input there reads =
    go (readers g s) alone
    (reader-once g n i s s op numbered at input ∙ ap one_if (eq-eqb s s refl))
    (reader-once g m j s s other numbered there reads ∙ ap one_if (eq-eqb s s refl))
  where
    go : (rs : List (ℕ × ℕ)) → length rs ≡ 1 → times (is_reader n i) rs ≡ 1 → times (is_reader m j) rs ≡ 1 → n ≡ m
    go [] e a b = absurd (let k : 0 ≡ 1 = e in omega (arith, k))
    go (r ∷ []) e a b =
        let x : one_if (r.0 == n && r.1 == i) + 0 ≡ 1 = a in
        let y : one_if (r.0 == m && r.1 == j) + 0 ≡ 1 = b in
        let p = and_parts (r.0 == n) (r.1 == i) (some-one (r.0 == n && r.1 == i) (omega (arith, x))) in
        let q = and_parts (r.0 == m) (r.1 == j) (some-one (r.0 == m && r.1 == j) (omega (arith, y))) in
        sym (eqb-true r.0 n p.0) ∙ eqb-true r.0 m q.0
    go (r ∷ t ∷ rs) e a b = absurd (let k : suc (suc (length rs)) ≡ 1 = e in omega (arith, k))

-- ---- outputs

pub record Output (g : Graph) (p : ℕ) (outs : List ℕ) (o : ℕ) (r : ℕ × ℕ) : Type 0 where
  pub port : ℕ
  pub stream : ℕ
  pub place : ℕ
  pub carries : slice_get (ports_of_outputs g p outs) o ≡ Some (p + port)
  pub is : slice_get outs port ≡ Some stream
  pub reads : slice_get (readers g stream) place ≡ Some r

get-map : (p : ℕ) (rs : List (ℕ × ℕ)) (o : ℕ) (r : ℕ × ℕ) → slice_get rs o ≡ Some r → slice_get (map (λ r. p) rs) o ≡ Some p
get-map p [] o r at = absurd (cc)
get-map p (q ∷ rs) zero r at = refl
get-map p (q ∷ rs) (suc o) r at = get-map p rs o r at

pub output-is : (g : Graph) (p : ℕ) (outs : List ℕ) (o : ℕ) (r : ℕ × ℕ) → slice_get (flat_map (readers g) outs) o ≡ Some r → Output g p outs o r
output-is g p [] o r at = absurd (cc)
output-is g p (s ∷ outs) o r at = go (get-append (readers g s) (flat_map (readers g) outs) o r at) (λ i. output-is g (suc p) outs i r)
  where
    here : List ℕ
    here = map (λ r. p) (readers g s)

    go : (slice_get (readers g s) o ≡ Some r) ⊎ Behind (readers g s) (flat_map (readers g) outs) o r
        → ((i : ℕ) → slice_get (flat_map (readers g) outs) i ≡ Some r → Output g (suc p) outs i r) → Output g p (s ∷ outs) o r
    go (inl a) later = record {
      port = 0;
      stream = s;
      place = o;
      carries = append_front (map (λ r. p) (readers g s)) (ports_of_outputs g (suc p) outs) o p (get-map p (readers g s) o r a) ∙ ap (λ k. Some k) (let e : p ≡ p + 0 = omega arith in e);
      is = refl;
      reads = a;
    }
    go (inr b) later =
        let h = later b.at b.is in
        let same = length-map (readers g s) (λ r. p) in
        let sum = b.sum in
        record {
          port = suc h.port;
          stream = h.stream;
          place = h.place;
          carries =
              ap (slice_get (map (λ r. p) (readers g s) ++ ports_of_outputs g (suc p) outs)) (let e : o ≡ length (map (λ r. p) (readers g s)) + b.at = omega (arith, same, sum) in e)
              ∙ get-right (map (λ r. p) (readers g s)) (ports_of_outputs g (suc p) outs) b.at
              ∙ h.carries ∙ ap (λ k. Some k) (let e : suc p + h.port ≡ p + suc h.port = omega arith in e);
          is = h.is;
          reads = h.reads;
        }

map-port : (p : ℕ) (rs : List (ℕ × ℕ)) (o q : ℕ) → slice_get (map (λ r. p) rs) o ≡ Some q → q ≡ p
map-port p [] o q at = absurd (cc)
map-port p (r ∷ rs) zero q at = let e : p ≡ q = cc in sym e
map-port p (r ∷ rs) (suc o) q at = map-port p rs o q at

pub ports-fit : (g : Graph) (p : ℕ) (outs : List ℕ) (o q : ℕ) → slice_get (ports_of_outputs g p outs) o ≡ Some q → q < p + length outs
ports-fit g p [] o q at = absurd (cc)
ports-fit g p (s ∷ outs) o q at = go (get-append (map (λ r. p) (readers g s)) (ports_of_outputs g (suc p) outs) o q at) (λ i. ports-fit g (suc p) outs i q)
  where
    go : (slice_get (map (λ r. p) (readers g s)) o ≡ Some q) ⊎ Behind (map (λ r. p) (readers g s)) (ports_of_outputs g (suc p) outs) o q
        → ((i : ℕ) → slice_get (ports_of_outputs g (suc p) outs) i ≡ Some q → q < suc p + length outs) → q < p + suc (length outs)
    go (inl a) later = let e : q ≡ p = map-port p (readers g s) o q a in omega (arith, e)
    go (inr b) later = let lt = later b.at b.is in omega (arith, lt)

-- ---- places of streams

place-is : {X : Type 0} (test : X → Bool) (xs : List X) (p : ℕ) (s : X) → times test xs ≤ 1 → slice_get xs p ≡ Some s → test s ≡ true → position_or_len test xs ≡ p
place-is test [] p s most at passes = absurd (cc)
place-is test (x ∷ xs) zero s most at passes = let same : x ≡ s = cc in ap (λ b. cond (not b) (1 + position_or_len test xs) 0) (ap test same ∙ passes)
place-is test (x ∷ xs) (suc p) s most at passes =
    let all : one_if (test x) + times test xs ≤ 1 = most in
    let there = total-at (λ t. one_if (test t)) xs p s at in
    let one : one_if (test s) ≡ 1 = ap one_if passes in
    let none : test x ≡ false = off (test x) refl (omega (arith, there, one, all)) in
    let later : position_or_len test xs ≡ p = place-is test xs p s (omega (arith, all)) at passes in
    ap (λ b. cond (not b) (1 + position_or_len test xs) 0) none ∙ omega (arith, later)
  where
    off : (b : Bool) → test x ≡ b → one_if (test x) ≡ 0 → test x ≡ false
    off false e none = e
    off true e none = absurd (let one : one_if (test x) ≡ 1 = ap one_if e in omega (arith, one, none))

-- the place of the one item that passes
pub position-of : {X : Type 0} (test : X → Bool) (xs : List X) (p : ℕ) (s : X) → times test xs ≤ 1 → slice_get xs p ≡ Some s → test s ≡ true → position test xs ≡ Some p
position-of test xs p s most at passes =
    ap (λ k. cond (nat_lt k (length xs)) (Some k) None) (place-is test xs p s most at passes)
    ∙ ap (λ b. cond b (Some p) None) (lt-ltb p (length xs) (slice_get_within xs p s at))

pub position-is : (s : ℕ) (xs : List ℕ) (p : ℕ) → times (λ t. t == s) xs ≤ 1 → slice_get xs p ≡ Some s → position (λ t. t == s) xs ≡ Some p
position-is s xs p most at = position-of (λ t. t == s) xs p s most at (eq-eqb s s refl)

-- each connection of a stream of an output port has an output
pub outputs-length : (g : Graph) (p : ℕ) (outs : List ℕ) → length (ports_of_outputs g p outs) ≡ length (flat_map (readers g) outs)
outputs-length g p [] = refl
outputs-length g p (s ∷ outs) =
    length-append (map (λ r. p) (readers g s)) (ports_of_outputs g (suc p) outs)
    ∙ ap (λ n. n + length (ports_of_outputs g (suc p) outs)) (length-map (readers g s) (λ r. p))
    ∙ ap (λ n. length (readers g s) + n) (outputs-length g (suc p) outs)
    ∙ sym (length-append (readers g s) (flat_map (readers g) outs))
