-- Operators are placed in chains and regions.
use Rattle.std.proofs.Common.{ℕ, zero, suc, ◌+◌, ◌<◌, ◌≤◌, ◌==◌, ◌&&◌, not, Bool, true, false, cond, List, [], ◌∷◌, ◌++◌, append_assoc, append-nil, ◌≡◌, ◌⊎◌, inl, inr, refl, sym, ap, subst, ◌∙◌, arith, map, Some, slice_get}
use Rattle.std.specs.List.{concat, list_any}
use Rattle.std.specs.Option.{option_map_or}
use Rattle.std.proofs.lemmas.Bool.{cases_Bool, cases_eq, eqb-true, eq-eqb, and_parts, and_from, not-true, cond-true, cond-false, both_ways}
use Rattle.std.proofs.lemmas.List.{map-append}
use Rattle.stream_model.specs.declared.plan.Region.{Region}
use Rattle.stream_model.specs.Operators.{Operator, connections}
use Rattle.stream_model.specs.Meaning.{Graph, in_topo}
use Rattle.stream_model.specs.Laws.{reads_stream}
use Rattle.stream_model.specs.Regions.{how_often, ops_of}
use Rattle.pe_fusion.specs.Fusing.{TakesAlone, AreFused, AreRegions, Each, Fused, GraphFits, RegionChain, Regional, in_all, makes_in}
use Rattle.pe_fusion.specs.FusedNets.{region_with}
use Rattle.pe_fusion.specs.Pieces.{Piece, fuses, in_region, is_among, last_in, longer, ops_in, pieces_of, place, placed, takes}
use Rattle.pe_fusion.specs.Shapes.{numbers}
use Rattle.pe_fusion.specs.Totals.{one_if, times, total}
use Rattle.pe_fusion.specs.FusionLaws.{PiecesLaw, WholeLaw}
use Rattle.network_model.specs.Networks.{last_of}
use Rattle.network_model.specs.Wiring.{Stands}
use Rattle.pe_fusion.proofs.Totals.{total-append, total-at, total-unique, total-found, times-any, some-one}
use Rattle.pe_fusion.proofs.Placing.{fuses-is, fused-more, all-place, feeds-place, makes-none, makes-some}
use Rattle.pe_fusion.proofs.Chains.{any-at, each-at, made-once, makes-parts}
use Rattle.pe_fusion.proofs.Often.{often-one, often-append, often-here, often-in, in-often, times-often, total-often, cut-at, last-number}

-- ---- placing, for any property of pieces

pub each-placed : (P : Piece → Type 0) (test : Piece → Operator → Bool) (pieces : List Piece) (op : Operator) → Each P pieces → Each (λ p. test p op ≡ true → P (longer p op)) pieces
    → (Each (λ p. test p op ≡ false) pieces → P (record { first = op; behind = [] })) → Each P (place test pieces op)
each-placed P test [] op h more new = (new tt, tt)
each-placed P test (p ∷ pieces) op h more new = go (test p op) refl (λ fresh. each-placed P test pieces op h.1 more.1 fresh)
  where
    go : (b : Bool) → test p op ≡ b → ((Each (λ p. test p op ≡ false) pieces → P (record { first = op; behind = [] })) → Each P (place test pieces op))
        → Each P (cond b (longer p op ∷ pieces) (p ∷ place test pieces op))
    go true e rest = (more.0 e, h.1)
    go false e rest = (h.0, rest (λ none. new (e, none)))

pub each-from : (P : Piece → Type 0) (pieces : List Piece) → ((i : ℕ) (p : Piece) → slice_get pieces i ≡ Some p → P p) → Each P pieces
each-from P [] h = tt
each-from P (p ∷ pieces) h = (h 0 p refl, each-from P pieces (λ i q at. h (suc i) q at))

record AnyFound {X : Type 0} (test : X → Bool) (xs : List X) : Type 0 where
  pub place : ℕ
  pub item : X
  pub at : slice_get xs place ≡ Some item
  pub passes : test item ≡ true

any-found : {X : Type 0} (test : X → Bool) (xs : List X) → list_any test xs ≡ true → AnyFound test xs
any-found test xs h =
    let f = total-found (λ x. one_if (test x)) xs (times-any test xs h) in
    record { place = f.at; item = f.item; at = f.is; passes = some-one (test f.item) f.counts }

pub last-stands : (g : Graph) (op : Operator) (ops : List Operator) → Stands g op → Fused g op ops → Stands g (last_of op ops)
last-stands g op [] stands h = stands
last-stands g op (next ∷ ops) stands h = last-stands g next ops h.4 h.5

-- each operator of a chain stands in the order
pub fused-stands : (g : Graph) (op : Operator) (ops : List Operator) → Stands g op → Fused g op ops → (i : ℕ) (x : Operator) → slice_get (op ∷ ops) i ≡ Some x → Stands g x
fused-stands g op ops stands h zero x at = let same : op ≡ x = cc in subst (Stands g) same stands
fused-stands g op [] stands h (suc i) x at = absurd (cc)
fused-stands g op (next ∷ ops) stands h (suc i) x at = fused-stands g next ops h.4 h.5 i x at

module _ (g : Graph) (fits : GraphFits g) where
  pub same-number : (a b : Operator) → Stands g a → Stands g b → a.number ≡ b.number → a ≡ b
  same-number a b x y e =
      let p : slice_get g.ops b.number ≡ Some a = ap (slice_get g.ops) (sym e) ∙ fits.there a x in
      let q = fits.there b y in
      cc

  -- an operator of a chain is the first one, or takes the stream of the one before it
  record Located (first : Operator) (behind : List Operator) (op : Operator) : Type 0 where
    pub before : List Operator
    pub prev : Operator
    pub after : List Operator
    pub are : first ∷ behind ≡ before ++ prev ∷ op ∷ after
    pub fuses : TakesAlone g prev op
    pub stands : Stands g prev

  locate : (first : Operator) (behind : List Operator) (op : Operator) → Stands g first → Fused g first behind → Stands g op → 0 < how_often op.number (numbers (first ∷ behind))
      → (first ≡ op) ⊎ Located first behind op
  locate first [] op a h b has = go (cases_eq first.number op.number)
    where
      go : (first.number ≡ op.number) ⊎ (first.number ≡ op.number → ⊥) → (first ≡ op) ⊎ Located first [] op
      go (inl e) = inl (same-number first op a b e)
      go (inr n) = absurd (n (eqb-true first.number op.number (some-one (first.number == op.number) (let k = often-one op.number first.number [] in let z : how_often op.number [] ≡ 0 = refl in omega (arith, k, has, z)))))
  locate first (next ∷ behind) op a h b has = go (cases_eq first.number op.number) (locate next behind op h.4 h.5 b)
    where
      later : (next ≡ op) ⊎ Located next behind op → (first ≡ op) ⊎ Located first (next ∷ behind) op
      later (inl e) = inr (record {
        before = [];
        prev = first;
        after = behind;
        are = ap (λ o. first ∷ o ∷ behind) e;
        fuses = record { stream = h.0; outs = h.1; ins = ap connections (sym e) ∙ h.2; alone = h.3 };
        stands = a;
      })
      later (inr l) = inr (record { before = first ∷ l.before; prev = l.prev; after = l.after; are = ap (λ ops. first ∷ ops) l.are; fuses = l.fuses; stands = l.stands })

      go : (first.number ≡ op.number) ⊎ (first.number ≡ op.number → ⊥) → (0 < how_often op.number (numbers (next ∷ behind)) → (next ≡ op) ⊎ Located next behind op) → (first ≡ op) ⊎ Located first (next ∷ behind) op
      go (inl e) rest = inl (same-number first op a b e)
      go (inr n) rest =
          later (rest (let k = often-one op.number first.number (numbers (next ∷ behind)) in
          subst (λ m. 0 < m) (cond-false (first.number == op.number) (suc (how_often op.number (numbers (next ∷ behind)))) (how_often op.number (numbers (next ∷ behind))) (ne first.number op.number n)) has))
        where
          ne : (a b : ℕ) → (a ≡ b → ⊥) → (a == b) ≡ false
          ne a b n = elim (cases_Bool (a == b)) [ inl e ↦ absurd (n (eqb-true a b e)) | inr e ↦ e ]

  -- what takes the stream of an operator alone stands behind it
  pub prev-done : (done rest : List Operator) (prev op : Operator) → in_topo g ≡ done ++ op ∷ rest → Stands g prev → TakesAlone g prev op → 0 < times (λ (o : Operator). o.number == prev.number) done
  prev-done done rest prev op split stands f = go (times (λ (o : Operator). o.number == prev.number) done) refl
    where
      go : (n : ℕ) → times (λ (o : Operator). o.number == prev.number) done ≡ n → 0 < times (λ (o : Operator). o.number == prev.number) done
      go (suc n) e = let k : times (λ (o : Operator). o.number == prev.number) done ≡ suc n = e in omega (arith, k)
      go zero e =
          let once = fits.once prev.number prev (fits.there prev stands) in
          let parts = ap (times (λ (o : Operator). o.number == prev.number)) split ∙ total-append (λ (o : Operator). one_if (o.number == prev.number)) done (op ∷ rest) in
          let found = total-found (λ (o : Operator). one_if (o.number == prev.number)) (op ∷ rest) (omega (arith, once, parts, e)) in
          let reads : reads_stream op f.stream ≡ true = any-at (λ t. t == f.stream) (connections op) 0 f.stream (ap (λ ss. slice_get ss 0) f.ins) (eq-eqb f.stream f.stream refl) in
          let none = makes-none f.stream (op ∷ rest) (fits.ordered.forward done rest op f.stream split reads) in
          let all = total-at (λ (o : Operator). times (λ t. t == f.stream) o.outs) (op ∷ rest) found.at found.item found.is in
          let number = eqb-true (found.item).number prev.number (some-one ((found.item).number == prev.number) found.counts) in
          let same : slice_get g.ops prev.number ≡ Some prev = fits.there prev stands in
          let makes : times (λ t. t == f.stream) prev.outs ≡ one_if (f.stream == f.stream) + 0 = ap (times (λ t. t == f.stream)) f.outs in
          let one : one_if (f.stream == f.stream) ≡ 1 = ap one_if (eq-eqb f.stream f.stream refl) in
          let is : found.item ≡ prev = same-number found.item prev (within found.at found.item found.is) stands number in
          let outs : times (λ t. t == f.stream) (found.item).outs ≡ times (λ t. t == f.stream) prev.outs = ap (λ (o : Operator). times (λ t. t == f.stream) o.outs) is in
          absurd (omega (arith, none, all, makes, one, outs))
        where
          parts-at : (xs : List Operator) (i : ℕ) (x : Operator) → slice_get xs i ≡ Some x → (before after : List Operator) × (xs ≡ before ++ x ∷ after)
          parts-at [] i x at = absurd (cc)
          parts-at (y ∷ xs) zero x at = let same : y ≡ x = cc in ([], xs, ap (λ z. z ∷ xs) same)
          parts-at (y ∷ xs) (suc i) x at = let k = parts-at xs i x at in (y ∷ k.0, k.1, ap (λ zs. y ∷ zs) k.2)

          within : (i : ℕ) (x : Operator) → slice_get (op ∷ rest) i ≡ Some x → Stands g x
          within i x at = let k = parts-at (op ∷ rest) i x at in record { before = done ++ k.0; behind = k.1; are = split ∙ ap (λ ops. done ++ ops) k.2 ∙ sym (append_assoc done k.0 (x ∷ k.1)) }

  -- ---- regions of a plan

  module _ (plan : List Region) (is : AreRegions g plan) where
    abbrev pub outside : Operator → ℕ
    outside op = one_if (in_region plan op.number)

    pub chain-of : (i : ℕ) (r : Region) → slice_get plan i ≡ Some r → RegionChain g r
    chain-of i r at = is.chains i r at

    often-least : (n : ℕ) → how_often n (concat (map (λ (r : Region). r.ops) plan)) ≤ 1
    often-least n = is.once n

    -- a number stands in one region, and once in it
    pub one-region : (i j n : ℕ) (r q : Region) → slice_get plan i ≡ Some r → slice_get plan j ≡ Some q → 0 < how_often n r.ops → 0 < how_often n q.ops → i ≡ j
    one-region i j n r q at there a b =
        let all = total-often n plan in
        let most = often-least n in
        total-unique (λ (r : Region). how_often n r.ops) plan i j r q (omega (arith, all, most)) at there a b

    pub once-in : (i n : ℕ) (r : Region) → slice_get plan i ≡ Some r → how_often n r.ops ≤ 1
    once-in i n r at =
        let here = total-at (λ (r : Region). how_often n r.ops) plan i r at in
        let all = total-often n plan in
        let most = often-least n in
        omega (arith, here, all, most)

    pub in-plan : (i n : ℕ) (r : Region) → slice_get plan i ≡ Some r → 0 < how_often n r.ops → in_region plan n ≡ true
    in-plan i n r at has = any-at (λ (r : Region). is_among n r.ops) plan i r at (in-often n r.ops has)

    -- ---- a step

    module _ (done rest : List Operator) (op : Operator) (pieces : List Piece) (split : in_topo g ≡ done ++ op ∷ rest) (h : AreFused g done pieces) (regional : Each (Regional plan) pieces) where
      stands : Stands g op
      stands = record { before = done; behind = rest; are = split }

      pub in-pieces : (n : ℕ) → total (λ (p : Piece). how_often n (numbers (ops_in p))) pieces ≡ times (λ (o : Operator). o.number == n) done
      in-pieces n = same pieces ∙ h.all (λ (o : Operator). one_if (o.number == n))
        where
          same : (ps : List Piece) → total (λ (p : Piece). how_often n (numbers (ops_in p))) ps ≡ in_all (λ (o : Operator). one_if (o.number == n)) ps
          same [] = refl
          same (p ∷ ps) = ap (λ k. k + total (λ (p : Piece). how_often n (numbers (ops_in p))) ps) (sym (times-often n (ops_in p))) ∙ ap (λ k. times (λ (o : Operator). o.number == n) (ops_in p) + k) (same ps)

      pub topo-once : (n : ℕ) (o : Operator) → slice_get g.ops n ≡ Some o → times (λ (o : Operator). o.number == n) done + times (λ (o : Operator). o.number == n) (op ∷ rest) ≡ 1
      topo-once n o at = sym (total-append (λ (o : Operator). one_if (o.number == n)) done (op ∷ rest)) ∙ ap (times (λ (o : Operator). o.number == n)) (sym split) ∙ fits.once n o at

      -- the operator stands in no piece yet
      pub new-op : (i : ℕ) (p : Piece) → slice_get pieces i ≡ Some p → how_often op.number (numbers (ops_in p)) ≡ 0
      new-op i p at =
          let here = total-at (λ (p : Piece). how_often op.number (numbers (ops_in p))) pieces i p at in
          let all = in-pieces op.number in
          let once = topo-once op.number op (fits.there op stands) in
          let own : one_if (op.number == op.number) ≡ 1 = ap one_if (eq-eqb op.number op.number refl) in
          let parts : times (λ (o : Operator). o.number == op.number) (op ∷ rest) ≡ one_if (op.number == op.number) + times (λ (o : Operator). o.number == op.number) rest = refl in
          omega (arith, here, all, once, own, parts)

      -- a piece whose first operator is in a region begins it
      pub begins : (i j : ℕ) (p : Piece) (r : Region) → slice_get pieces i ≡ Some p → slice_get plan j ≡ Some r → (n : ℕ) → 0 < how_often n (numbers (ops_in p)) → 0 < how_often n r.ops
          → (rest : List ℕ) × (numbers (ops_in p) ++ rest ≡ r.ops)
      begins i j p r at there n has inside = go (each-at (Regional plan) pieces i p regional at)
        where
          go : Regional plan p → (rest : List ℕ) × (numbers (ops_in p) ++ rest ≡ r.ops)
          go (inl none) =
              let found = total-found (λ (o : Operator). one_if (o.number == n)) (ops_in p) (let k = times-often n (ops_in p) in omega (arith, k, has)) in
              let number = eqb-true (found.item).number n (some-one ((found.item).number == n) found.counts) in
              let one : outside found.item ≡ 1 = ap (λ m. one_if (in_region plan m)) number ∙ ap one_if (in-plan j n r there inside) in
              let here = total-at outside (ops_in p) found.at found.item found.is in
              absurd (omega (arith, none, one, here))
          go (inr b) =
              let front = often-append n (numbers (ops_in p)) b.rest in
              let whole : how_often n (numbers (ops_in p) ++ b.rest) ≡ how_often n (b.region).ops = ap (how_often n) b.are in
              let place = one-region b.place j n b.region r b.at there (omega (arith, front, whole, has)) inside in
              let found : slice_get plan j ≡ Some b.region = ap (slice_get plan) (sym place) ∙ b.at in
              let same : b.region ≡ r = cc in
              (b.rest, b.are ∙ ap (λ (q : Region). q.ops) same)

      -- the operator's region, where it has one
      module _ (j : ℕ) (r : Region) (there : slice_get plan j ≡ Some r) (inside : 0 < how_often op.number r.ops) where
        pub region-test : (p : Piece) → takes g plan p op ≡ true → 0 < how_often p.first.number r.ops
        region-test p t =
            let all : list_any (λ (r : Region). is_among p.first.number r.ops && is_among op.number r.ops) plan ≡ true =
            sym (cond-true (in_region plan op.number) (list_any (λ (r : Region). is_among p.first.number r.ops && is_among op.number r.ops) plan) (not (in_region plan p.first.number) && fuses g (last_in p) op)
            (in-plan j op.number r there inside)) ∙ t in
            let f = any-found (λ (r : Region). is_among p.first.number r.ops && is_among op.number r.ops) plan all in
            let both = and_parts (is_among p.first.number (f.item).ops) (is_among op.number (f.item).ops) f.passes in
            let place = one-region f.place j op.number f.item r f.at there (often-in op.number (f.item).ops both.1) inside in
            let found : slice_get plan j ≡ Some f.item = ap (slice_get plan) (sym place) ∙ f.at in
            let same : f.item ≡ r = cc in
            subst (λ (q : Region). 0 < how_often p.first.number q.ops) same (often-in p.first.number (f.item).ops both.0)

        pub test-region : (p : Piece) → 0 < how_often p.first.number r.ops → takes g plan p op ≡ true
        test-region p has =
            cond-true (in_region plan op.number) (list_any (λ (r : Region). is_among p.first.number r.ops && is_among op.number r.ops) plan) (not (in_region plan p.first.number) && fuses g (last_in p) op)
            (in-plan j op.number r there inside)
            ∙ any-at (λ (r : Region). is_among p.first.number r.ops && is_among op.number r.ops) plan j r there
            (and_from (is_among p.first.number r.ops) (is_among op.number r.ops) (in-often p.first.number r.ops has) (in-often op.number r.ops inside))

        c : RegionChain g r
        c = chain-of j r there

        located : (c.first ≡ op) ⊎ Located c.first c.behind op
        located = locate c.first c.behind op c.stands c.fused stands (subst (λ ns. 0 < how_often op.number ns) (sym c.numbers) inside)

        -- where it is the first one, no piece takes it
        first-new : c.first ≡ op → (i : ℕ) (p : Piece) → slice_get pieces i ≡ Some p → takes g plan p op ≡ true → ⊥
        first-new e i p at t =
            let b = begins i j p r at there p.first.number (let k = often-here p.first.number (numbers p.behind) in omega (arith, k)) (region-test p t) in
            let same : p.first.number ∷ (numbers p.behind ++ b.0) ≡ c.first.number ∷ numbers c.behind = b.1 ∙ sym c.numbers in
            let number : p.first.number ≡ c.first.number = cc in
            let free = new-op i p at in
            let own = often-one op.number p.first.number (numbers p.behind) in
            let one : one_if (p.first.number == op.number) ≡ 1 = ap one_if (eq-eqb p.first.number op.number (number ∙ ap (λ (o : Operator). o.number) e)) in
            omega (arith, free, own, one)

        -- the piece of the operator before it
        record Prev (l : Located c.first c.behind op) : Type 0 where
          pub at : ℕ
          pub piece : Piece
          pub here : slice_get pieces at ≡ Some piece
          pub numbered : numbers (ops_in piece) ≡ numbers l.before ++ (l.prev).number ∷ []
          pub all : numbers (ops_in piece) ++ op.number ∷ numbers l.after ≡ r.ops

        whole : (l : Located c.first c.behind op) → r.ops ≡ numbers l.before ++ (l.prev).number ∷ op.number ∷ numbers l.after
        whole l = sym c.numbers ∙ ap numbers l.are ∙ map-append (λ (o : Operator). o.number) l.before (l.prev ∷ op ∷ l.after)

        prev-in : (l : Located c.first c.behind op) → (how_often (l.prev).number r.ops ≡ how_often (l.prev).number (numbers l.before) + suc (how_often (l.prev).number (op.number ∷ numbers l.after)))
        prev-in l =
            ap (how_often (l.prev).number) (whole l)
            ∙ often-append (l.prev).number (numbers l.before) ((l.prev).number ∷ op.number ∷ numbers l.after)
            ∙ ap (λ k. how_often (l.prev).number (numbers l.before) + k) (often-here (l.prev).number (op.number ∷ numbers l.after))

        prev : (l : Located c.first c.behind op) → Prev l
        prev l =
            let behind = prev-done done rest l.prev op split l.stands l.fuses in
            let all = in-pieces (l.prev).number in
            let found = total-found (λ (p : Piece). how_often (l.prev).number (numbers (ops_in p))) pieces (omega (arith, behind, all)) in
            let inner = prev-in l in
            let most = once-in j (l.prev).number r there in
            let b = begins found.at j found.item r found.is there (l.prev).number found.counts (omega (arith, inner)) in
            let k = cut-at (numbers (ops_in found.item)) b.0 (numbers l.before) (numbers l.after) (l.prev).number op.number (b.1 ∙ whole l) found.counts (new-op found.at found.item found.is)
            (omega (arith, inner, most)) in
            record { at = found.at; piece = found.item; here = found.is; numbered = k.0; all = ap (λ ns. numbers (ops_in found.item) ++ ns) (sym k.1) ∙ b.1 }

        -- a piece that takes the operator is that one
        same-piece : (l : Located c.first c.behind op) (i : ℕ) (p : Piece) → slice_get pieces i ≡ Some p → takes g plan p op ≡ true → p ≡ (prev l).piece
        same-piece l i p at t =
            let q = prev l in
            let b = begins i j p r at there p.first.number (let k = often-here p.first.number (numbers p.behind) in omega (arith, k)) (region-test p t) in
            let same : p.first.number ∷ (numbers p.behind ++ b.0) ≡ (q.piece).first.number ∷ (numbers (q.piece).behind ++ op.number ∷ numbers l.after) = b.1 ∙ sym q.all in
            let number : p.first.number ≡ (q.piece).first.number = cc in
            let n : ℕ = p.first.number in
            let all = in-pieces n in
            let once = topo-once n p.first (fits.there p.first (each-at (λ p. Stands g p.first × Fused g p.first p.behind) pieces i p h.fused at).0) in
            let own = often-here n (numbers p.behind) in
            let other : how_often n (numbers (ops_in q.piece)) ≡ suc (how_often n (numbers (q.piece).behind)) =
            ap (λ m. how_often n (m ∷ numbers (q.piece).behind)) (sym number) ∙ often-here n (numbers (q.piece).behind) in
            let place = total-unique (λ (p : Piece). how_often n (numbers (ops_in p))) pieces i q.at p q.piece (omega (arith, all, once)) at q.here (omega (arith, own)) (omega (arith, other)) in
            let found : slice_get pieces q.at ≡ Some p = ap (slice_get pieces) (sym place) ∙ at in
            let here : slice_get pieces q.at ≡ Some q.piece = q.here in
            cc

        last-prev : (l : Located c.first c.behind op) → last_in (prev l).piece ≡ l.prev
        last-prev l =
            let q = prev l in
            let s = each-at (λ p. Stands g p.first × Fused g p.first p.behind) pieces q.at q.piece h.fused q.here in
            same-number (last_in q.piece) l.prev (last-stands g (q.piece).first (q.piece).behind s.0 s.1) l.stands (last-number (q.piece).first (q.piece).behind (numbers l.before) (l.prev).number q.numbered)

        region-fuses : (i : ℕ) (p : Piece) → slice_get pieces i ≡ Some p → takes g plan p op ≡ true → TakesAlone g (last_in p) op
        region-fuses i p at t = go located
          where
            go : (c.first ≡ op) ⊎ Located c.first c.behind op → TakesAlone g (last_in p) op
            go (inl e) = absurd (first-new e i p at t)
            go (inr l) = subst (λ o. TakesAlone g o op) (sym (ap last_in (same-piece l i p at t) ∙ last-prev l)) l.fuses

        region-longer : (i : ℕ) (p : Piece) → slice_get pieces i ≡ Some p → takes g plan p op ≡ true → Regional plan (longer p op)
        region-longer i p at t = go located
          where
            go : (c.first ≡ op) ⊎ Located c.first c.behind op → Regional plan (longer p op)
            go (inl e) = absurd (first-new e i p at t)
            go (inr l) = inr (record {
              place = j;
              region = r;
              at = there;
              rest = numbers l.after;
              are = ap (λ ns. (p.first.number ∷ ns) ++ numbers l.after) (map-append (λ (o : Operator). o.number) p.behind (op ∷ []))
                  ∙ append_assoc (numbers (ops_in p)) (op.number ∷ []) (numbers l.after)
                  ∙ ap (λ (z : Piece). numbers (ops_in z) ++ op.number ∷ numbers l.after) (same-piece l i p at t)
                  ∙ (prev l).all;
            })

        region-new : Each (λ p. takes g plan p op ≡ false) pieces → Regional plan (record { first = op; behind = [] })
        region-new none = go located
          where
            go : (c.first ≡ op) ⊎ Located c.first c.behind op → Regional plan (record { first = op; behind = [] })
            go (inl e) = inr (record { place = j; region = r; at = there; rest = numbers c.behind; are = ap (λ (o : Operator). o.number ∷ numbers c.behind) (sym e) ∙ c.numbers })
            go (inr l) =
                let q = prev l in
                let free = each-at (λ p. takes g plan p op ≡ false) pieces q.at q.piece none q.here in
                let first : 0 < how_often (q.piece).first.number r.ops =
                subst (λ ns. 0 < how_often (q.piece).first.number ns) q.all (let k = often-here (q.piece).first.number (numbers (q.piece).behind ++ op.number ∷ numbers l.after) in omega (arith, k)) in
                absurd (both_ways (takes g plan q.piece op) free (test-region q.piece first))

      -- ---- an operator outside regions

      module _ (out : in_region plan op.number ≡ false) where
        pub plain-test : (p : Piece) → takes g plan p op ≡ true → (in_region plan p.first.number ≡ false) × TakesAlone g (last_in p) op
        plain-test p t =
            let both = and_parts (not (in_region plan p.first.number)) (fuses g (last_in p) op)
            (sym (cond-false (in_region plan op.number) (list_any (λ (r : Region). is_among p.first.number r.ops && is_among op.number r.ops) plan) (not (in_region plan p.first.number) && fuses g (last_in p) op) out) ∙ t) in
            (not-true (in_region plan p.first.number) both.0, fuses-is g (last_in p) op both.1)

        plain-longer : (i : ℕ) (p : Piece) → slice_get pieces i ≡ Some p → takes g plan p op ≡ true → Regional plan (longer p op)
        plain-longer i p at t = go (each-at (Regional plan) pieces i p regional at)
          where
            go : Regional plan p → Regional plan (longer p op)
            go (inl none) =
                let more = total-append outside p.behind (op ∷ []) in
                let own : outside op ≡ 0 = ap one_if out in
                let all : outside p.first + total outside p.behind ≡ 0 = none in
                let last : total outside (op ∷ []) ≡ outside op + 0 = refl in
                inl (let z : outside p.first + total outside (p.behind ++ op ∷ []) ≡ 0 = omega (arith, more, own, all, last) in z)
            go (inr b) =
                let has : 0 < how_often p.first.number (b.region).ops = subst (λ ns. 0 < how_often p.first.number ns) b.are (let k = often-here p.first.number (numbers p.behind ++ b.rest) in omega (arith, k)) in
                absurd (both_ways (in_region plan p.first.number) (plain-test p t).0 (in-plan b.place p.first.number b.region b.at has))

        plain-new : Regional plan (record { first = op; behind = [] })
        plain-new = inl (let own : outside op ≡ 0 = ap one_if out in let z : outside op + 0 ≡ 0 = omega (arith, own) in z)

      -- ---- both

      pub inside-is : in_region plan op.number ≡ true → (j : ℕ) × (r : Region) × (slice_get plan j ≡ Some r) × (0 < how_often op.number r.ops)
      inside-is e = let f = any-found (λ (r : Region). is_among op.number r.ops) plan e in (f.place, f.item, f.at, often-in op.number (f.item).ops f.passes)

      step-fuses : (i : ℕ) (p : Piece) → slice_get pieces i ≡ Some p → takes g plan p op ≡ true → TakesAlone g (last_in p) op
      step-fuses i p at t = go (cases_Bool (in_region plan op.number))
        where
          go : (in_region plan op.number ≡ true) ⊎ (in_region plan op.number ≡ false) → TakesAlone g (last_in p) op
          go (inl e) = let k = inside-is e in region-fuses k.0 k.1 k.2 k.3 i p at t
          go (inr e) = (plain-test e p t).1

      -- two pieces that take it are one: both make the stream that it reads
      pub takes-once : (i j : ℕ) (p q : Piece) → slice_get pieces i ≡ Some p → slice_get pieces j ≡ Some q → takes g plan p op ≡ true → takes g plan q op ≡ true → i ≡ j
      takes-once i j p q at there t u =
          let a = step-fuses i p at t in
          let b = step-fuses j q there u in
          let both : a.stream ∷ [] ≡ b.stream ∷ [] = sym a.ins ∙ b.ins in
          let same : b.stream ≡ a.stream = cc in
          let whole = made-once g fits a.stream in
          let parts = ap (makes_in a.stream) split ∙ total-append (λ (o : Operator). times (λ t. t == a.stream) o.outs) done (op ∷ rest) in
          let all = h.all (λ (o : Operator). times (λ t. t == a.stream) o.outs) in
          let one : one_if (a.stream == a.stream) ≡ 1 = ap one_if (eq-eqb a.stream a.stream refl) in
          let first : times (λ t. t == a.stream) (last_in p).outs ≡ one_if (a.stream == a.stream) + 0 = ap (times (λ t. t == a.stream)) a.outs in
          let second : times (λ t. t == a.stream) (last_in q).outs ≡ one_if (a.stream == a.stream) + 0 = ap (times (λ t. t == a.stream)) (b.outs ∙ ap (λ s. s ∷ []) same) in
          let x = makes-parts a.stream p.first p.behind in
          let y = makes-parts a.stream q.first q.behind in
          total-unique (λ (z : Piece). makes_in a.stream (ops_in z)) pieces i j p q (omega (arith, whole, parts, all)) at there (omega (arith, x, first, one)) (omega (arith, y, second, one))

      pub step-regional : Each (Regional plan) (place (takes g plan) pieces op)
      step-regional = go (cases_Bool (in_region plan op.number))
        where
          go : (in_region plan op.number ≡ true) ⊎ (in_region plan op.number ≡ false) → Each (Regional plan) (place (takes g plan) pieces op)
          go (inl e) =
              let k = inside-is e in
              each-placed (Regional plan) (takes g plan) pieces op regional (each-from (λ p. takes g plan p op ≡ true → Regional plan (longer p op)) pieces (λ i p at t. region-longer k.0 k.1 k.2 k.3 i p at t)) (region-new k.0 k.1 k.2 k.3)
          go (inr e) =
              each-placed (Regional plan) (takes g plan) pieces op regional (each-from (λ p. takes g plan p op ≡ true → Regional plan (longer p op)) pieces (λ i p at t. plain-longer e i p at t)) (λ none. plain-new e)

      pub step-fused : AreFused g (done ++ op ∷ []) (place (takes g plan) pieces op)
      step-fused = record {
        all = λ f.
            let a = all-place (takes g plan) f pieces op in
            let b = h.all f in
            let d = total-append f done (op ∷ []) in
            let e : total f (op ∷ []) ≡ f op + 0 = refl in
            omega (arith, a, b, d, e);
        fused = each-placed (λ p. Stands g p.first × Fused g p.first p.behind) (takes g plan) pieces op h.fused
            (each-from (λ p. takes g plan p op ≡ true → Stands g p.first × Fused g p.first (p.behind ++ op ∷ [])) pieces
            (λ i p at t. let s = each-at (λ p. Stands g p.first × Fused g p.first p.behind) pieces i p h.fused at in (s.0, fused-more g p.first p.behind op s.1 (step-fuses i p at t) stands)))
            (λ none. (stands, tt));
        feeds = feeds-place (takes g plan) (λ s. 0) pieces op read h.feeds;
      }
        where
          read : (s : ℕ) → reads_stream op s ≡ true → 0 < 0 + in_all (λ (o : Operator). times (λ t. t == s) o.outs) pieces
          read s reads =
              let some = makes-some s (in_topo g) (fits.made op s stands reads) in
              let none = makes-none s (op ∷ rest) (fits.ordered.forward done rest op s split reads) in
              let parts = ap (makes_in s) split ∙ total-append (λ (o : Operator). times (λ t. t == s) o.outs) done (op ∷ rest) in
              let same = h.all (λ (o : Operator). times (λ t. t == s) o.outs) in
              omega (arith, some, none, parts, same)

    pieces-front : (done ops more : List Operator) (pieces : List Piece) → in_topo g ≡ done ++ (ops ++ more) → AreFused g done pieces → Each (Regional plan) pieces
        → AreFused g (done ++ ops) (placed (takes g plan) pieces ops) × Each (Regional plan) (placed (takes g plan) pieces ops)
    pieces-front done [] more pieces split h regional = (subst (λ all. AreFused g all pieces) (sym (append-nil done)) h, regional)
    pieces-front done (op ∷ ops) more pieces split h regional =
        let r = pieces-front (done ++ op ∷ []) ops more (place (takes g plan) pieces op) (split ∙ sym (append_assoc done (op ∷ []) (ops ++ more)))
        (step-fused done (ops ++ more) op pieces split h regional) (step-regional done (ops ++ more) op pieces split h regional) in
        (subst (λ all. AreFused g all (placed (takes g plan) (place (takes g plan) pieces op) ops)) (append_assoc done (op ∷ []) ops) r.0, r.1)

    pub pieces-all : (done ops : List Operator) (pieces : List Piece) → in_topo g ≡ done ++ ops → AreFused g done pieces → Each (Regional plan) pieces
        → AreFused g (in_topo g) (placed (takes g plan) pieces ops) × Each (Regional plan) (placed (takes g plan) pieces ops)
    pieces-all done [] pieces split h regional = (subst (λ all. AreFused g all pieces) (sym (split ∙ append-nil done)) h, regional)
    pieces-all done (op ∷ ops) pieces split h regional =
        pieces-all (done ++ op ∷ []) ops (place (takes g plan) pieces op) (split ∙ sym (append_assoc done (op ∷ []) ops))
        (step-fused done ops op pieces split h regional) (step-regional done ops op pieces split h regional)

    -- ---- at the end

    ops-back : (op : Operator) (ops : List Operator) → Stands g op → Fused g op ops → ops_of g (numbers (op ∷ ops)) ≡ op ∷ ops
    ops-back op [] stands h = ap (λ o. option_map_or (λ op. op ∷ []) o []) (fits.there op stands)
    ops-back op (next ∷ ops) stands h =
        ap (λ o. option_map_or (λ op. op ∷ ops_of g (numbers (next ∷ ops))) o (ops_of g (numbers (next ∷ ops)))) (fits.there op stands)
        ∙ ap (λ more. op ∷ more) (ops-back next ops h.4 h.5)

    record WithNumber (n : ℕ) : Type 0 where
      pub op : Operator
      pub there : slice_get g.ops n ≡ Some op

    with-number : (i n : ℕ) (r : Region) → slice_get plan i ≡ Some r → 0 < how_often n r.ops → WithNumber n
    with-number i n r at has =
        let c = chain-of i r at in
        let all = times-often n (c.first ∷ c.behind) in
        let same : how_often n (numbers (c.first ∷ c.behind)) ≡ how_often n r.ops = ap (how_often n) c.numbers in
        let found = total-found (λ (o : Operator). one_if (o.number == n)) (c.first ∷ c.behind) (omega (arith, all, same, has)) in
        let number = eqb-true (found.item).number n (some-one ((found.item).number == n) found.counts) in
        record { op = found.item; there = ap (slice_get g.ops) (sym number) ∙ fits.there found.item (fused-stands g c.first c.behind c.stands c.fused found.at found.item found.is) }

    module _ (pieces : List Piece) (h : AreFused g (in_topo g) pieces) (regional : Each (Regional plan) pieces) where
      in-all-pieces : (n : ℕ) → total (λ (p : Piece). how_often n (numbers (ops_in p))) pieces ≡ times (λ (o : Operator). o.number == n) (in_topo g)
      in-all-pieces n = same pieces ∙ h.all (λ (o : Operator). one_if (o.number == n))
        where
          same : (ps : List Piece) → total (λ (p : Piece). how_often n (numbers (ops_in p))) ps ≡ in_all (λ (o : Operator). one_if (o.number == n)) ps
          same [] = refl
          same (p ∷ ps) = ap (λ k. k + total (λ (p : Piece). how_often n (numbers (ops_in p))) ps) (sym (times-often n (ops_in p))) ∙ ap (λ k. times (λ (o : Operator). o.number == n) (ops_in p) + k) (same ps)

      begins-all : (i j : ℕ) (p : Piece) (r : Region) → slice_get pieces i ≡ Some p → slice_get plan j ≡ Some r → (n : ℕ) → 0 < how_often n (numbers (ops_in p)) → 0 < how_often n r.ops
          → (rest : List ℕ) × (numbers (ops_in p) ++ rest ≡ r.ops)
      begins-all i j p r at there n has inside = go (each-at (Regional plan) pieces i p regional at)
        where
          go : Regional plan p → (rest : List ℕ) × (numbers (ops_in p) ++ rest ≡ r.ops)
          go (inl none) =
              let found = total-found (λ (o : Operator). one_if (o.number == n)) (ops_in p) (let k = times-often n (ops_in p) in omega (arith, k, has)) in
              let number = eqb-true (found.item).number n (some-one ((found.item).number == n) found.counts) in
              let one : outside found.item ≡ 1 = ap (λ m. one_if (in_region plan m)) number ∙ ap one_if (in-plan j n r there inside) in
              let here = total-at outside (ops_in p) found.at found.item found.is in
              absurd (omega (arith, none, one, here))
          go (inr b) =
              let front = often-append n (numbers (ops_in p)) b.rest in
              let whole : how_often n (numbers (ops_in p) ++ b.rest) ≡ how_often n (b.region).ops = ap (how_often n) b.are in
              let place = one-region b.place j n b.region r b.at there (omega (arith, front, whole, has)) inside in
              let found : slice_get plan j ≡ Some b.region = ap (slice_get plan) (sym place) ∙ b.at in
              let same : b.region ≡ r = cc in
              (b.rest, b.are ∙ ap (λ (q : Region). q.ops) same)

      pub all-ops : (i j : ℕ) (p : Piece) (r : Region) → slice_get pieces i ≡ Some p → slice_get plan j ≡ Some r → 0 < how_often p.first.number r.ops → ops_of g r.ops ≡ ops_in p
      all-ops i j p r at there inside = go b.0 b.1
        where
          s : Stands g p.first × Fused g p.first p.behind
          s = each-at (λ p. Stands g p.first × Fused g p.first p.behind) pieces i p h.fused at

          own : how_often p.first.number (numbers (ops_in p)) ≡ suc (how_often p.first.number (numbers p.behind))
          own = often-here p.first.number (numbers p.behind)

          b : (rest : List ℕ) × (numbers (ops_in p) ++ rest ≡ r.ops)
          b = begins-all i j p r at there p.first.number (let k = own in omega (arith, k)) inside

          go : (rest : List ℕ) → numbers (ops_in p) ++ rest ≡ r.ops → ops_of g r.ops ≡ ops_in p
          go [] e = ap (ops_of g) (sym (sym (append-nil (numbers (ops_in p))) ∙ e)) ∙ ops-back p.first p.behind s.0 s.1
          go (m ∷ rest) e =
              let parts = often-append m (numbers (ops_in p)) (m ∷ rest) in
              let last = often-here m rest in
              let all : how_often m (numbers (ops_in p) ++ m ∷ rest) ≡ how_often m r.ops = ap (how_often m) e in
              let most = once-in j m r there in
              let op = with-number j m r there (omega (arith, parts, last, all)) in
              let once = fits.once m op.op op.there in
              let every = in-all-pieces m in
              let found = total-found (λ (p : Piece). how_often m (numbers (ops_in p))) pieces (omega (arith, once, every)) in
              let k = begins-all found.at j found.item r found.is there m found.counts (omega (arith, parts, last, all)) in
              let same : p.first.number ∷ (numbers p.behind ++ m ∷ rest) ≡ (found.item).first.number ∷ (numbers (found.item).behind ++ k.0) = e ∙ sym k.1 in
              let number : p.first.number ≡ (found.item).first.number = cc in
              let n : ℕ = p.first.number in
              let first_once = fits.once n p.first (fits.there p.first s.0) in
              let first_every = in-all-pieces n in
              let mine = own in
              let other : how_often n (numbers (ops_in found.item)) ≡ suc (how_often n (numbers (found.item).behind)) =
              ap (λ m. how_often n (m ∷ numbers (found.item).behind)) (sym number) ∙ often-here n (numbers (found.item).behind) in
              let place = total-unique (λ (p : Piece). how_often n (numbers (ops_in p))) pieces i found.at p found.item (omega (arith, first_once, first_every)) at found.is (omega (arith, mine)) (omega (arith, other)) in
              let here : slice_get pieces found.at ≡ Some p = ap (slice_get pieces) (sym place) ∙ at in
              let there_is : slice_get pieces found.at ≡ Some found.item = found.is in
              let piece : p ≡ found.item = cc in
              let has : how_often m (numbers (ops_in p)) ≡ how_often m (numbers (ops_in found.item)) = ap (λ (z : Piece). how_often m (numbers (ops_in z))) piece in
              let counts = found.counts in
              absurd (omega (arith, parts, last, all, most, has, counts))

pub region-with-is : (plan : List Region) (n : ℕ) (r : Region) → region_with plan n ≡ Some r → (i : ℕ) × (slice_get plan i ≡ Some r) × (is_among n r.ops ≡ true)
region-with-is [] n r e = absurd (cc)
region-with-is (q ∷ plan) n r e = go (cases_Bool (is_among n q.ops)) (region-with-is plan n r)
  where
    go : (is_among n q.ops ≡ true) ⊎ (is_among n q.ops ≡ false) → (region_with plan n ≡ Some r → (i : ℕ) × (slice_get plan i ≡ Some r) × (is_among n r.ops ≡ true))
        → (i : ℕ) × (slice_get (q ∷ plan) i ≡ Some r) × (is_among n r.ops ≡ true)
    go (inl h) later =
        let found : Some q ≡ Some r = sym (cond-true (is_among n q.ops) (Some q) (region_with plan n) h) ∙ e in
        let same : q ≡ r = cc in
        (0, found, subst (λ (z : Region). is_among n z.ops ≡ true) same h)
    go (inr h) later = let k = later (sym (cond-false (is_among n q.ops) (Some q) (region_with plan n) h) ∙ e) in (suc k.0, k.1, k.2)

pub whole_law : WholeLaw
whole_law g plan fits is j p r at e =
    let all = pieces-all g fits plan is [] (in_topo g) [] refl (record { all = λ f. refl; fused = tt; feeds = tt }) tt in
    let k = region-with-is plan p.first.number r e in
    record { place = k.0; at = k.1; ops = all-ops g fits plan is (pieces_of g plan) all.0 all.1 j k.0 p r at k.1 (often-in p.first.number r.ops k.2) }

pub pieces_law : PiecesLaw
pieces_law g plan fits is = pieces-all g fits plan is [] (in_topo g) [] refl (record { all = λ f. refl; fused = tt; feeds = tt }) tt
