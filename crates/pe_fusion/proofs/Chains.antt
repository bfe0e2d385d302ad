-- What the pieces of a graph make and read.
use Rattle.std.proofs.Common.{ℕ, zero, suc, ◌+◌, ◌<◌, ◌≤◌, ◌==◌, Bool, true, false, List, [], ◌∷◌, ◌++◌, append_assoc, ◌≡◌, ◌⊎◌, inl, inr, refl, sym, ap, subst, ◌∙◌, arith, length, Some, slice_get}
use Rattle.std.specs.List.{concat, list_any}
use Rattle.std.proofs.lemmas.Bool.{cases_Bool, cases_eq, eqb-true, eq-eqb, ne_eqb, or_left, or_right}
use Rattle.stream_model.specs.Operators.{Operator, connections}
use Rattle.stream_model.specs.Meaning.{Graph, in_topo}
use Rattle.stream_model.specs.Laws.{reads_stream, makes_stream}
use Rattle.pe_fusion.specs.Fusing.{AreFused, Each, Feeds, Fused, GraphFits, makes_in}
use Rattle.pe_fusion.specs.Pieces.{Piece, last_in, ops_in}
use Rattle.pe_fusion.specs.Readers.{readers}
use Rattle.pe_fusion.specs.Totals.{one_if, times, total}
use Rattle.network_model.specs.Networks.{last_of}
use Rattle.network_model.specs.Wiring.{is_source, Stands, Path}
use Rattle.pe_fusion.proofs.Totals.{total-same, total-zero, total-at, total-unique, total-found, times-none, some-one}
use Rattle.pe_fusion.proofs.Placing.{makes-none, makes-some}
use Rattle.pe_fusion.proofs.Connections.{alone-same}

-- ---- lists

pub total-plus : {X : Type 0} (f h : X → ℕ) (xs : List X) → total (λ x. f x + h x) xs ≡ total f xs + total h xs
total-plus f h [] = let z : 0 ≡ 0 + 0 = omega arith in z
total-plus f h (x ∷ xs) = let rest = total-plus f h xs in let z : f x + h x + total (λ x. f x + h x) xs ≡ f x + total f xs + (h x + total h xs) = omega (arith, rest) in z

pub any-at : {X : Type 0} (p : X → Bool) (xs : List X) (i : ℕ) (x : X) → slice_get xs i ≡ Some x → p x ≡ true → list_any p xs ≡ true
any-at p [] i x at e = absurd (cc)
any-at p (y ∷ xs) zero x at e = let same : y ≡ x = cc in or_left (p y) (list_any p xs) (ap p same ∙ e)
any-at p (y ∷ xs) (suc i) x at e = or_right (p y) (list_any p xs) (any-at p xs i x at e)

split-at : (xs : List Operator) (i : ℕ) (x : Operator) → slice_get xs i ≡ Some x → (before after : List Operator) × (xs ≡ before ++ x ∷ after)
split-at [] i x at = absurd (cc)
split-at (y ∷ xs) zero x at = let same : y ≡ x = cc in ([], xs, ap (λ z. z ∷ xs) same)
split-at (y ∷ xs) (suc i) x at = let k = split-at xs i x at in (y ∷ k.0, k.1, ap (λ zs. y ∷ zs) k.2)

pub each-at : (P : Piece → Type 0) (ps : List Piece) (i : ℕ) (p : Piece) → Each P ps → slice_get ps i ≡ Some p → P p
each-at P [] i p h at = absurd (cc)
each-at P (q ∷ ps) zero p h at = let same : q ≡ p = cc in subst P same h.0
each-at P (q ∷ ps) (suc i) p h at = each-at P ps i p h.1 at

-- ---- ports

pub one-port : (ins : List (List ℕ)) (s : ℕ) → ((i : ℕ) (streams : List ℕ) → slice_get ins i ≡ Some streams → 0 < length streams) → concat ins ≡ s ∷ [] → ins ≡ (s ∷ []) ∷ []
one-port [] s some e = absurd (cc)
one-port ([] ∷ ins) s some e = absurd (let k : 0 < 0 = some 0 [] refl in omega (arith, k))
one-port ((t ∷ u ∷ streams) ∷ ins) s some e = absurd (cc)
one-port ((t ∷ []) ∷ []) s some e = ap (λ streams. streams ∷ []) e
one-port ((t ∷ []) ∷ [] ∷ ins) s some e = absurd (let k : 0 < 0 = some 1 [] refl in omega (arith, k))
one-port ((t ∷ []) ∷ (u ∷ streams) ∷ ins) s some e = absurd (cc)

-- ---- inner operators

abbrev pub inner : Operator → List Operator → List Operator
inner op [] = []
inner op (next ∷ ops) = op ∷ inner next ops

pub makes-parts : (s : ℕ) (op : Operator) (ops : List Operator) → makes_in s (op ∷ ops) ≡ makes_in s (inner op ops) + times (λ t. t == s) (last_of op ops).outs
makes-parts s op [] = let z : times (λ t. t == s) op.outs + 0 ≡ 0 + times (λ t. t == s) op.outs = omega arith in z
makes-parts s op (next ∷ ops) =
    let rest = makes-parts s next ops in
    let z : times (λ t. t == s) op.outs + makes_in s (next ∷ ops) ≡ times (λ t. t == s) op.outs + makes_in s (inner next ops) + times (λ t. t == s) (last_of next ops).outs = omega (arith, rest) in z

-- ---- a graph that is fused

module _ (g : Graph) (fits : GraphFits g) where
  made-least : (s : ℕ) (before rest : List Operator) → in_topo g ≡ before ++ rest → makes_in s rest ≤ 1
  made-least s before [] split = omega arith
  made-least s before (op ∷ rest) split = go (cases_Bool (makes_stream op s)) (made-least s (before ++ op ∷ []) rest (split ∙ sym (append_assoc before (op ∷ []) rest)))
    where
      go : (makes_stream op s ≡ true) ⊎ (makes_stream op s ≡ false) → makes_in s rest ≤ 1 → makes_in s (op ∷ rest) ≤ 1
      go (inl e) later =
          let none = makes-none s rest (fits.ordered.once before rest op s split e) in
          let one = fits.apart op s (record { before = before; behind = rest; are = split }) in
          let z : times (λ t. t == s) op.outs + makes_in s rest ≤ 1 = omega (arith, none, one) in z
      go (inr e) later =
          let none = times-none (λ t. t == s) op.outs e in
          let z : times (λ t. t == s) op.outs + makes_in s rest ≤ 1 = omega (arith, none, later) in z

  pub made-once : (s : ℕ) → makes_in s (in_topo g) ≤ 1
  made-once s = made-least s [] (in_topo g) refl

  pub stands-is : (n : ℕ) (op : Operator) → slice_get g.ops n ≡ Some op → Stands g op
  stands-is n op at =
      let once = fits.once n op at in
      let found = total-found (λ (o : Operator). one_if (o.number == n)) (in_topo g) (omega (arith, once)) in
      let k = split-at (in_topo g) found.at found.item found.is in
      let stands : Stands g found.item = record { before = k.0; behind = k.1; are = k.2 } in
      let number = eqb-true found.item.number n (some-one (found.item.number == n) found.counts) in
      let there : slice_get g.ops n ≡ Some found.item = ap (slice_get g.ops) (sym number) ∙ fits.there found.item stands in
      let same : found.item ≡ op = cc in
      subst (Stands g) same stands

  -- an operator that is fused to the one before it isn't a source, and has one port
  pub path-is : (op : Operator) (ops : List Operator) → Fused g op ops → Path g op ops
  path-is op [] h = tt
  path-is op (next ∷ ops) h = (h.0, h.1, one-port next.ins h.0 (λ i streams at. fits.ports next i streams h.4 at) h.2, h.4, go (cases_Bool (is_source next.clauses)), path-is next ops h.5)
    where
      go : (is_source next.clauses ≡ true) ⊎ (is_source next.clauses ≡ false) → is_source next.clauses ≡ false
      go (inl e) = let none : connections next ≡ [] = ap concat (fits.no_input next h.4 e) in let one : connections next ≡ h.0 ∷ [] = h.2 in absurd (cc)
      go (inr e) = e

  -- a stream that operator n reads isn't made inside a piece where n doesn't stand behind
  pub inner-none : (n i s : ℕ) (q op : Operator) (ops : List Operator) → slice_get g.ops n ≡ Some q → slice_get (connections q) i ≡ Some s → Fused g op ops
      → times (λ (o : Operator). o.number == n) ops ≡ 0 → makes_in s (inner op ops) ≡ 0
  inner-none n i s q op [] at reads h none = refl
  inner-none n i s q op (next ∷ ops) at reads h none = go (cases_eq h.0 s)
      (inner-none n i s q next ops at reads h.5 (let k : one_if (next.number == n) + times (λ (o : Operator). o.number == n) ops ≡ 0 = none in omega (arith, k)))
    where
      go : (h.0 ≡ s) ⊎ (h.0 ≡ s → ⊥) → makes_in s (inner next ops) ≡ 0 → makes_in s (op ∷ inner next ops) ≡ 0
      go (inl e) later =
          let number : next.number ≡ n =
          alone-same g s next.number 0 n i next q fits.numbered (ap (λ t. length (readers g t)) (sym e) ∙ h.3) (fits.there next h.4)
          (ap (λ ss. slice_get ss 0) h.2 ∙ ap (λ t. Some t) e) at reads in
          let one : one_if (next.number == n) ≡ 1 = ap one_if (eq-eqb next.number n number) in
          let k : one_if (next.number == n) + times (λ (o : Operator). o.number == n) ops ≡ 0 = none in
          absurd (omega (arith, one, k))
      go (inr apart) later =
          let first : times (λ t. t == s) op.outs ≡ one_if (h.0 == s) + 0 = ap (times (λ t. t == s)) h.1 in
          let zero_if : one_if (h.0 == s) ≡ 0 = ap one_if (ne_eqb h.0 s apart) in
          let z : times (λ t. t == s) op.outs + makes_in s (inner next ops) ≡ 0 = omega (arith, first, zero_if, later) in z

  -- and is, where it does
  inner-some : (n i s : ℕ) (q op : Operator) (ops : List Operator) → slice_get g.ops n ≡ Some q → slice_get (connections q) i ≡ Some s → Fused g op ops
      → 0 < times (λ (o : Operator). o.number == n) ops → 0 < makes_in s (inner op ops)
  inner-some n i s q op [] at reads h some = absurd (let k : 0 < 0 = some in omega (arith, k))
  inner-some n i s q op (next ∷ ops) at reads h some = go (cases_eq next.number n) (inner-some n i s q next ops at reads h.5)
    where
      only : (t i : ℕ) → slice_get (t ∷ []) i ≡ Some s → t ≡ s
      only t zero e = cc
      only t (suc i) e = absurd (cc)

      go : (next.number ≡ n) ⊎ (next.number ≡ n → ⊥) → (0 < times (λ (o : Operator). o.number == n) ops → 0 < makes_in s (inner next ops)) → 0 < makes_in s (op ∷ inner next ops)
      go (inl e) later =
          let there : slice_get g.ops n ≡ Some next = ap (slice_get g.ops) (sym e) ∙ fits.there next h.4 in
          let same : next ≡ q = cc in
          let stream : h.0 ≡ s = only h.0 i (ap (λ ss. slice_get ss i) (sym (sym (ap connections same) ∙ h.2)) ∙ reads) in
          let first : times (λ t. t == s) op.outs ≡ one_if (h.0 == s) + 0 = ap (times (λ t. t == s)) h.1 in
          let one : one_if (h.0 == s) ≡ 1 = ap one_if (eq-eqb h.0 s stream) in
          let z : 0 < times (λ t. t == s) op.outs + makes_in s (inner next ops) = omega (arith, first, one) in z
      go (inr apart) later =
          let first : one_if (next.number == n) ≡ 0 = ap one_if (ne_eqb next.number n apart) in
          let k : 0 < one_if (next.number == n) + times (λ (o : Operator). o.number == n) ops = some in
          let rest = later (omega (arith, first, k)) in
          let z : 0 < times (λ t. t == s) op.outs + makes_in s (inner next ops) = omega (arith, rest) in z

  module _ (pieces : List Piece) (h : AreFused g (in_topo g) pieces) where
    abbrev firsts : ℕ → ℕ
    firsts n = times (λ (p : Piece). p.first.number == n) pieces

    abbrev behinds : ℕ → ℕ
    behinds n = total (λ (p : Piece). times (λ (o : Operator). o.number == n) p.behind) pieces

    abbrev pub lasts : ℕ → ℕ
    lasts s = total (λ (p : Piece). times (λ t. t == s) (last_in p).outs) pieces

    abbrev inners : ℕ → ℕ
    inners s = total (λ (p : Piece). makes_in s (inner p.first p.behind)) pieces

    number-once : (n : ℕ) (op : Operator) → slice_get g.ops n ≡ Some op → firsts n + behinds n ≡ 1
    number-once n op at =
        sym (total-plus (λ (p : Piece). one_if (p.first.number == n)) (λ (p : Piece). times (λ (o : Operator). o.number == n) p.behind) pieces)
        ∙ h.all (λ (o : Operator). one_if (o.number == n)) ∙ fits.once n op at

    made-parts : (s : ℕ) → makes_in s (in_topo g) ≡ inners s + lasts s
    made-parts s =
        sym (h.all (λ (o : Operator). times (λ t. t == s) o.outs))
        ∙ total-same (λ (p : Piece). makes_in s (ops_in p)) (λ (p : Piece). makes_in s (inner p.first p.behind) + times (λ t. t == s) (last_in p).outs) pieces (λ p. makes-parts s p.first p.behind)
        ∙ total-plus (λ (p : Piece). makes_in s (inner p.first p.behind)) (λ (p : Piece). times (λ t. t == s) (last_in p).outs) pieces

    pub piece-stands : (e : ℕ) (q : Piece) → slice_get pieces e ≡ Some q → Stands g q.first × Fused g q.first q.behind
    piece-stands e q at = each-at (λ p. Stands g p.first × Fused g p.first p.behind) pieces e q h.fused at

    pub piece-number : (e : ℕ) (q : Piece) → slice_get pieces e ≡ Some q → slice_get g.ops q.first.number ≡ Some q.first
    piece-number e q at = fits.there q.first (piece-stands e q at).0

    pub first-once : (e : ℕ) (q : Piece) → slice_get pieces e ≡ Some q → firsts q.first.number ≤ 1
    first-once e q at = let k = number-once q.first.number q.first (piece-number e q at) in omega (arith, k)

    pub reads-is : (q : Operator) (i s : ℕ) → slice_get (connections q) i ≡ Some s → reads_stream q s ≡ true
    reads-is q i s reads = any-at (λ t. t == s) (connections q) i s reads (eq-eqb s s refl)

    -- what the first operator of a piece reads is made by the last one of one piece
    pub last-once : (e i s : ℕ) (q : Piece) → slice_get pieces e ≡ Some q → slice_get (connections q.first) i ≡ Some s → lasts s ≡ 1
    last-once e i s q at reads =
        let n : ℕ = q.first.number in
        let there = piece-number e q at in
        let once = number-once n q.first there in
        let here = total-at (λ (p : Piece). one_if (p.first.number == n)) pieces e q at in
        let one : one_if (n == n) ≡ 1 = ap one_if (eq-eqb n n refl) in
        let none : behinds n ≡ 0 = omega (arith, once, here, one) in
        let empty : inners s ≡ 0 = total-zero (λ (p : Piece). makes_in s (inner p.first p.behind)) pieces (λ j p is.
        (let k = total-at (λ (p : Piece). times (λ (o : Operator). o.number == n) p.behind) pieces j p is in
        inner-none n i s q.first p.first p.behind there reads (piece-stands j p is).1 (omega (arith, k, none)))) in
        let least = makes-some s (in_topo g) (fits.made q.first s (piece-stands e q at).0 (reads-is q.first i s reads)) in
        let most = made-once s in
        let parts = made-parts s in
        omega (arith, empty, least, most, parts)

    -- what reads the stream of a last operator is a first one
    pub reader-first : (n i s : ℕ) (op : Operator) → slice_get g.ops n ≡ Some op → slice_get (connections op) i ≡ Some s → 0 < lasts s → (e : ℕ) × (q : Piece) × (slice_get pieces e ≡ Some q) × (q.first ≡ op)
    reader-first n i s op at reads some =
        let most = made-once s in
        let parts = made-parts s in
        let once = number-once n op at in
        let none : behinds n ≡ 0 = go (behinds n) refl in
        let found = total-found (λ (p : Piece). one_if (p.first.number == n)) pieces (omega (arith, once, none)) in
        let number = eqb-true found.item.first.number n (some-one (found.item.first.number == n) found.counts) in
        let there : slice_get g.ops n ≡ Some found.item.first = ap (slice_get g.ops) (sym number) ∙ piece-number found.at found.item found.is in
        (found.at, found.item, found.is, cc)
      where
        go : (b : ℕ) → behinds n ≡ b → behinds n ≡ 0
        go zero e = e
        go (suc b) e =
            let most = made-once s in
            let parts = made-parts s in
            let f = total-found (λ (p : Piece). times (λ (o : Operator). o.number == n) p.behind) pieces (let k : behinds n ≡ suc b = e in omega (arith, k)) in
            let made = inner-some n i s op f.item.first f.item.behind at reads (piece-stands f.at f.item f.is).1 f.counts in
            let all = total-at (λ (p : Piece). makes_in s (inner p.first p.behind)) pieces f.at f.item f.is in
            absurd (omega (arith, most, parts, made, all, some))

    record Before (ps : List Piece) (seen : ℕ → ℕ) (s e : ℕ) : Type 0 where
      pub at : ℕ
      pub piece : Piece
      pub is : slice_get ps at ≡ Some piece
      pub below : at < e
      pub makes : 0 < makes_in s (ops_in piece)

    feeds-at : (seen : ℕ → ℕ) (ps : List Piece) (e s : ℕ) (q : Piece) → Feeds seen ps → slice_get ps e ≡ Some q → reads_stream q.first s ≡ true → (0 < seen s) ⊎ Before ps seen s e
    feeds-at seen [] e s q f at reads = absurd (cc)
    feeds-at seen (p ∷ ps) zero s q f at reads = let same : p ≡ q = cc in inl (f.0 s (ap (λ (z : Piece). reads_stream z.first s) same ∙ reads))
    feeds-at seen (p ∷ ps) (suc e) s q f at reads = go (feeds-at (λ s. seen s + makes_in s (ops_in p)) ps e s q f.1 at reads)
      where
        split : (m : ℕ) → makes_in s (ops_in p) ≡ m → 0 < seen s + makes_in s (ops_in p) → (0 < seen s) ⊎ Before (p ∷ ps) seen s (suc e)
        split zero k lt = inl (omega (arith, k, lt))
        split (suc m) k lt = inr (record { at = 0; piece = p; is = refl; below = omega arith; makes = (let j : makes_in s (ops_in p) ≡ suc m = k in omega (arith, j)) })

        go : (0 < seen s + makes_in s (ops_in p)) ⊎ Before ps (λ s. seen s + makes_in s (ops_in p)) s e → (0 < seen s) ⊎ Before (p ∷ ps) seen s (suc e)
        go (inl lt) = split (makes_in s (ops_in p)) refl lt
        go (inr b) = let lt = b.below in inr (record { at = suc b.at; piece = b.piece; is = b.is; below = omega (arith, lt); makes = b.makes })

    -- so it stands before the piece that reads it
    pub stands-before : (j e s i : ℕ) (p q : Piece) → slice_get pieces j ≡ Some p → slice_get pieces e ≡ Some q → 0 < times (λ t. t == s) (last_in p).outs
        → slice_get (connections q.first) i ≡ Some s → j < e
    stands-before j e s i p q at there makes reads = go (feeds-at (λ s. 0) pieces e s q h.feeds there (reads-is q.first i s reads))
      where
        own : 0 < makes_in s (ops_in p)
        own = let k = makes-parts s p.first p.behind in omega (arith, k, makes)

        most : total (λ (p : Piece). makes_in s (ops_in p)) pieces ≤ 1
        most = let k = h.all (λ (o : Operator). times (λ t. t == s) o.outs) in let m = made-once s in omega (arith, k, m)

        go : (0 < 0) ⊎ Before pieces (λ s. 0) s e → j < e
        go (inl lt) = absurd (omega (arith, lt))
        go (inr b) = let same = total-unique (λ (p : Piece). makes_in s (ops_in p)) pieces j b.at p b.piece most at b.is own b.makes in let lt = b.below in omega (arith, same, lt)
