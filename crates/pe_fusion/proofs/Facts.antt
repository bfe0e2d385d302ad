-- By which facts an operator stands behind its producer in a piece, and in which order pieces stand.
use Rattle.std.proofs.Common.{ℕ, zero, suc, ◌+◌, ◌<◌, ◌==◌, ◌&&◌, not, Bool, true, false, cond, List, [], ◌∷◌, ◌++◌, append_assoc, append-nil, ◌≡◌, ◌⊎◌, inl, inr, refl, sym, ap, ◌∙◌, subst, arith, length, map, Some, slice_get}
use Rattle.std.proofs.lemmas.Bool.{cases_Bool, eqb-true, eq-eqb, and_from, cond-false, both_ways}
use Rattle.stream_model.specs.declared.plan.Region.{Region}
use Rattle.stream_model.specs.Operators.{Operator, connections}
use Rattle.stream_model.specs.Meaning.{Graph, in_topo}
use Rattle.stream_model.specs.Regions.{IsPartOf, how_often}
use Rattle.network_model.specs.Networks.{last_of}
use Rattle.network_model.specs.Wiring.{Stands}
use Rattle.pe_fusion.specs.Fusing.{AreFused, AreRegions, Each, Fused, GraphFits, Regional, TakesAlone}
use Rattle.pe_fusion.specs.FusionLaws.{FactsLaw, OrderLaw, StandsBehind}
use Rattle.pe_fusion.specs.Pieces.{Piece, fuses, in_region, last_in, longer, ops_in, pieces_of, place, placed, share_region, takes, takes_alone}
use Rattle.pe_fusion.specs.Readers.{readers}
use Rattle.pe_fusion.specs.Shapes.{numbers}
use Rattle.pe_fusion.specs.Totals.{one_if, times, total}
use Rattle.pe_fusion.proofs.Totals.{some-one, total-append, total-at, total-found, total-unique}
use Rattle.pe_fusion.proofs.Often.{often-append, times-often}
use Rattle.pe_fusion.proofs.Chains.{each-at, inner-none, made-once, makes-parts}
use Rattle.pe_fusion.proofs.RegionPieces.{fused-stands, in-pieces, in-plan, last-stands, new-op, pieces_law, prev-done, step-fused, step-regional}

-- ---- lists

at-of : (xs : List Operator) (before after : List Operator) (x : Operator) → xs ≡ before ++ x ∷ after → slice_get xs (length before) ≡ Some x
at-of xs [] after x e = ap (λ ys. slice_get ys 0) e
at-of [] (y ∷ before) after x e = absurd (cc)
at-of (z ∷ xs) (y ∷ before) after x e = at-of xs before after x (let rest : xs ≡ before ++ x ∷ after = cc in rest)

-- the operators of a piece but the last, and the last one
ends-with : (op : Operator) (ops : List Operator) → (front : List Operator) × (op ∷ ops ≡ front ++ last_of op ops ∷ [])
ends-with op [] = ([], refl)
ends-with op (next ∷ ops) = let k = ends-with next ops in (op ∷ k.0, ap (λ xs. op ∷ xs) k.1)

-- two operators of a chain, one behind the other
next-takes : (g : Graph) (op : Operator) (ops before after : List Operator) (a b : Operator) → op ∷ ops ≡ before ++ a ∷ b ∷ after → Fused g op ops → TakesAlone g a b
next-takes g op [] [] after a b e h = absurd (cc)
next-takes g op (next ∷ ops) [] after a b e h =
    let first : op ≡ a = cc in
    let second : next ≡ b = cc in
    record { stream = h.0; outs = ap (λ (o : Operator). o.outs) (sym first) ∙ h.1; ins = ap connections (sym second) ∙ h.2; alone = h.3 }
next-takes g op [] (x ∷ before) after a b e h = let rest : [] ≡ before ++ a ∷ b ∷ after = cc in absurd (nothing before rest)
  where
    nothing : (ys : List Operator) → [] ≡ ys ++ a ∷ b ∷ after → ⊥
    nothing [] k = cc
    nothing (y ∷ ys) k = cc
next-takes g op (next ∷ ops) (x ∷ before) after a b e h = next-takes g next ops before after a b (let rest : next ∷ ops ≡ before ++ a ∷ b ∷ after = cc in rest) h.5

-- ---- one operator more

-- pieces stay, or one is made longer
kept-or-longer : (test : Piece → Operator → Bool) (pieces : List Piece) (op : Operator) (i : ℕ) (p : Piece) → slice_get pieces i ≡ Some p
    → (slice_get (place test pieces op) i ≡ Some p) ⊎ (slice_get (place test pieces op) i ≡ Some (longer p op))
kept-or-longer test [] op i p at = absurd (cc)
kept-or-longer test (q ∷ pieces) op i p at = go (test q op) i at (λ j. kept-or-longer test pieces op j p)
  where
    go : (b : Bool) → (i : ℕ) → slice_get (q ∷ pieces) i ≡ Some p
        → ((j : ℕ) → slice_get pieces j ≡ Some p → (slice_get (place test pieces op) j ≡ Some p) ⊎ (slice_get (place test pieces op) j ≡ Some (longer p op)))
        → (slice_get (cond b (longer q op ∷ pieces) (q ∷ place test pieces op)) i ≡ Some p) ⊎ (slice_get (cond b (longer q op ∷ pieces) (q ∷ place test pieces op)) i ≡ Some (longer p op))
    go true zero at later = let same : q ≡ p = cc in inr (ap (λ (z : Piece). Some (longer z op)) same)
    go true (suc i) at later = inl at
    go false zero at later = inl at
    go false (suc i) at later = later i at

-- the first piece that takes it is longer
longer-there : (test : Piece → Operator → Bool) (pieces : List Piece) (op : Operator) (i : ℕ) (p : Piece) → slice_get pieces i ≡ Some p → test p op ≡ true
    → (j : ℕ) × (q : Piece) × (slice_get pieces j ≡ Some q) × (test q op ≡ true) × (slice_get (place test pieces op) j ≡ Some (longer q op))
longer-there test [] op i p at t = absurd (cc)
longer-there test (q ∷ pieces) op i p at t = go (test q op) refl i at (λ j. longer-there test pieces op j p)
  where
    go : (b : Bool) → test q op ≡ b → (i : ℕ) → slice_get (q ∷ pieces) i ≡ Some p
        → ((j : ℕ) → slice_get pieces j ≡ Some p → test p op ≡ true → (k : ℕ) × (r : Piece) × (slice_get pieces k ≡ Some r) × (test r op ≡ true) × (slice_get (place test pieces op) k ≡ Some (longer r op)))
        → (k : ℕ) × (r : Piece) × (slice_get (q ∷ pieces) k ≡ Some r) × (test r op ≡ true) × (slice_get (cond b (longer q op ∷ pieces) (q ∷ place test pieces op)) k ≡ Some (longer r op))
    go true e i at later = (0, q, refl, e, refl)
    go false e zero at later = let same : q ≡ p = cc in absurd (both_ways (test q op) e (ap (λ (z : Piece). test z op) same ∙ t))
    go false e (suc i) at later = let k = later i at t in (suc k.0, k.1, k.2, k.3, k.4)

longer-ops : (p : Piece) (op : Operator) → ops_in (longer p op) ≡ ops_in p ++ op ∷ []
longer-ops p op = refl

stands-longer : (test : Piece → Operator → Bool) (pieces : List Piece) (op a b : Operator) → StandsBehind pieces a b → StandsBehind (place test pieces op) a b
stands-longer test pieces op a b s = go (kept-or-longer test pieces op s.at s.piece s.is)
  where
    go : (slice_get (place test pieces op) s.at ≡ Some s.piece) ⊎ (slice_get (place test pieces op) s.at ≡ Some (longer s.piece op)) → StandsBehind (place test pieces op) a b
    go (inl e) = record { at = s.at; piece = s.piece; is = e; before = s.before; after = s.after; ops = s.ops }
    go (inr e) = record {
      at = s.at;
      piece = longer s.piece op;
      is = e;
      before = s.before;
      after = s.after ++ op ∷ [];
      ops = ap (λ xs. xs ++ op ∷ []) s.ops ∙ append_assoc s.before (a ∷ b ∷ s.after) (op ∷ []);
    }

module _ (g : Graph) (regions : List Region) (fits : GraphFits g) (are : AreRegions g regions) where
  -- two operators that make a stream are one
  one-producer : (s : ℕ) (a b : Operator) → Stands g a → Stands g b → 0 < times (λ t. t == s) a.outs → 0 < times (λ t. t == s) b.outs → a ≡ b
  one-producer s a b x y m n =
      let at = at-of (in_topo g) x.before x.behind a x.are in
      let there = at-of (in_topo g) y.before y.behind b y.are in
      let same = total-unique (λ (o : Operator). times (λ t. t == s) o.outs) (in_topo g) (length x.before) (length y.before) a b (made-once g fits s) at there m n in
      let found : slice_get (in_topo g) (length y.before) ≡ Some a = ap (slice_get (in_topo g)) (sym same) ∙ at in
      cc

  makes-it : (s : ℕ) (op : Operator) → op.outs ≡ s ∷ [] → 0 < times (λ t. t == s) op.outs
  makes-it s op e =
      let all : times (λ t. t == s) op.outs ≡ one_if (s == s) + 0 = ap (times (λ t. t == s)) e in
      let one : one_if (s == s) ≡ 1 = ap one_if (eq-eqb s s refl) in
      omega (arith, all, one)

  -- all operators of a piece are outside regions where one is
  outside-piece : (p : Piece) → Regional regions p → (i j : ℕ) (a b : Operator) → slice_get (ops_in p) i ≡ Some a → slice_get (ops_in p) j ≡ Some b → in_region regions a.number ≡ false → in_region regions b.number ≡ false
  outside-piece p (inl none) i j a b at there out = go (cases_Bool (in_region regions b.number))
    where
      go : (in_region regions b.number ≡ true) ⊎ (in_region regions b.number ≡ false) → in_region regions b.number ≡ false
      go (inl e) =
          let here = total-at (λ (o : Operator). one_if (in_region regions o.number)) (ops_in p) j b there in
          let one : one_if (in_region regions b.number) ≡ 1 = ap one_if e in
          absurd (omega (arith, none, here, one))
      go (inr e) = e
  outside-piece p (inr r) i j a b at there out =
      let all = times-often a.number (ops_in p) in
      let here = total-at (λ (o : Operator). one_if (o.number == a.number)) (ops_in p) i a at in
      let one : one_if (a.number == a.number) ≡ 1 = ap one_if (eq-eqb a.number a.number refl) in
      let parts = often-append a.number (numbers (ops_in p)) r.rest in
      let whole : how_often a.number (numbers (ops_in p) ++ r.rest) ≡ how_often a.number (r.region).ops = ap (how_often a.number) r.are in
      absurd (both_ways (in_region regions a.number) out (in-plan g fits regions are r.place a.number r.region r.at (omega (arith, all, here, one, parts, whole))))

  -- ---- a step

  module _ (done rest : List Operator) (op : Operator) (pieces : List Piece) (split : in_topo g ≡ done ++ op ∷ rest) (h : AreFused g done pieces) (regional : Each (Regional regions) pieces) where
    own : Stands g op
    own = record { before = done; behind = rest; are = split }

    -- the producer is the last one of its piece, which takes the operator
    producer-last : (producer : Operator) → Stands g producer → TakesAlone g producer op → in_region regions producer.number ≡ false → in_region regions op.number ≡ false
        → (j : ℕ) × (p : Piece) × (slice_get pieces j ≡ Some p) × (takes g regions p op ≡ true)
    producer-last producer stands t off out =
        let s : ℕ = t.stream in
        let before = prev-done g fits done rest producer op split stands t in
        let all = in-pieces g fits regions are done rest op pieces split h regional producer.number in
        let found = total-found (λ (p : Piece). how_often producer.number (numbers (ops_in p))) pieces (omega (arith, before, all)) in
        let p : Piece = found.item in
        let q = each-at (λ p. Stands g p.first × Fused g p.first p.behind) pieces found.at p h.fused found.is in
        let free = new-op g fits regions are done rest op pieces split h regional found.at p found.is in
        let parts = often-append op.number (p.first.number ∷ []) (numbers p.behind) in
        let behind : times (λ (o : Operator). o.number == op.number) p.behind ≡ 0 = (let a = times-often op.number p.behind in let z : how_often op.number (p.first.number ∷ numbers p.behind) ≡ 0 = free in omega (arith, a, parts, z)) in
        let inner = inner-none g fits op.number 0 s op p.first p.behind (fits.there op own) (ap (λ ss. slice_get ss 0) t.ins) q.1 behind in
        let many = times-often producer.number (ops_in p) in
        let counts = found.counts in
        let item = total-found (λ (o : Operator). one_if (o.number == producer.number)) (ops_in p) (omega (arith, many, counts)) in
        let number = eqb-true (item.item).number producer.number (some-one ((item.item).number == producer.number) item.counts) in
        let there : slice_get g.ops producer.number ≡ Some item.item = ap (slice_get g.ops) (sym number) ∙ fits.there item.item (fused-stands g p.first p.behind q.0 q.1 item.at item.item item.is) in
        let both : Some item.item ≡ Some producer = sym there ∙ fits.there producer stands in
        let same : item.item ≡ producer = cc in
        let made = total-at (λ (o : Operator). times (λ t. t == s) o.outs) (ops_in p) item.at item.item item.is in
        let makes = makes-it s producer t.outs in
        let equal : times (λ t. t == s) (item.item).outs ≡ times (λ t. t == s) producer.outs = ap (λ (o : Operator). times (λ t. t == s) o.outs) same in
        let sum = makes-parts s p.first p.behind in
        let last = one-producer s (last_in p) producer (last-stands g p.first p.behind q.0 q.1) stands (omega (arith, inner, made, makes, equal, sum)) makes in
        let first = outside-piece p (each-at (Regional regions) pieces found.at p regional found.is) item.at 0 item.item p.first item.is refl (ap (λ (o : Operator). in_region regions o.number) same ∙ off) in (
          found.at,
          p,
          found.is,
          cond-false (in_region regions op.number) (share_region regions p.first.number op.number) (not (in_region regions p.first.number) && fuses g (last_in p) op) out
              ∙ and_from (not (in_region regions p.first.number)) (fuses g (last_in p) op) (ap not first)
              ((λ i. fuses g (last i) op) ∙ (λ i. takes_alone g (t.outs i) (t.ins i)) ∙ and_from (s == s) (length (readers g s) == 1) (eq-eqb s s refl) (eq-eqb (length (readers g s)) 1 t.alone)),
        )

    stands-now : (producer : Operator) → Stands g producer → TakesAlone g producer op → in_region regions producer.number ≡ false → in_region regions op.number ≡ false → StandsBehind (place (takes g regions) pieces op) producer op
    stands-now producer stands t off out =
        let k = producer-last producer stands t off out in
        let l = longer-there (takes g regions) pieces op k.0 k.1 k.2 k.3 in
        let p : Piece = l.1 in
        let e = ends-with p.first p.behind in
        let fused = each-at (λ p. Stands g p.first × Fused g p.first p.behind) (place (takes g regions) pieces op) l.0 (longer p op) (step-fused g fits regions are done rest op pieces split h regional).fused l.4 in
        let whole : ops_in (longer p op) ≡ e.0 ++ last_in p ∷ op ∷ [] = ap (λ xs. xs ++ op ∷ []) e.1 ∙ append_assoc e.0 (last_in p ∷ []) (op ∷ []) in
        let last_takes = next-takes g p.first (p.behind ++ op ∷ []) e.0 [] (last_in p) op whole fused.1 in
        let streams : t.stream ∷ [] ≡ last_takes.stream ∷ [] = sym t.ins ∙ last_takes.ins in
        let stream : last_takes.stream ≡ t.stream = cc in
        let q = each-at (λ p. Stands g p.first × Fused g p.first p.behind) pieces l.0 p h.fused l.2 in
        let last = one-producer t.stream (last_in p) producer (last-stands g p.first p.behind q.0 q.1) stands (makes-it t.stream (last_in p) (last_takes.outs ∙ ap (λ s. s ∷ []) stream)) (makes-it t.stream producer t.outs) in
        record { at = l.0; piece = longer p op; is = l.4; before = e.0; after = []; ops = whole ∙ ap (λ (o : Operator). e.0 ++ o ∷ op ∷ []) last }

  -- ---- all operators

  -- each operator that was placed stands behind its producer, where the facts hold
  all-behind : (done ops : List Operator) (pieces : List Piece) → in_topo g ≡ done ++ ops → AreFused g done pieces → Each (Regional regions) pieces
      → ((producer op : Operator) → 0 < times (λ (o : Operator). o.number == op.number) done → Stands g producer → Stands g op → TakesAlone g producer op
      → in_region regions producer.number ≡ false → in_region regions op.number ≡ false → StandsBehind pieces producer op)
      → (producer op : Operator) → Stands g producer → Stands g op → TakesAlone g producer op → in_region regions producer.number ≡ false → in_region regions op.number ≡ false
      → StandsBehind (placed (takes g regions) pieces ops) producer op
  all-behind done [] pieces split h regional b producer op x y t off out =
      b producer op (let once = fits.once op.number op (fits.there op y) in let all : times (λ (o : Operator). o.number == op.number) (in_topo g) ≡ times (λ (o : Operator). o.number == op.number) done = ap (times (λ (o : Operator). o.number == op.number)) (split ∙ append-nil done) in omega (arith, once, all)) x y t off out
  all-behind done (next ∷ ops) pieces split h regional b producer op x y t off out =
      all-behind (done ++ next ∷ []) ops (place (takes g regions) pieces next) (split ∙ sym (append_assoc done (next ∷ []) ops))
      (step-fused g fits regions are done ops next pieces split h regional) (step-regional g fits regions are done ops next pieces split h regional) more producer op x y t off out
    where
      more : (producer op : Operator) → 0 < times (λ (o : Operator). o.number == op.number) (done ++ next ∷ []) → Stands g producer → Stands g op → TakesAlone g producer op
          → in_region regions producer.number ≡ false → in_region regions op.number ≡ false → StandsBehind (place (takes g regions) pieces next) producer op
      more producer op some x y t off out = go (times (λ (o : Operator). o.number == op.number) done) refl
        where
          go : (k : ℕ) → times (λ (o : Operator). o.number == op.number) done ≡ k → StandsBehind (place (takes g regions) pieces next) producer op
          go (suc k) e = stands-longer (takes g regions) pieces next producer op (b producer op (omega (arith, e)) x y t off out)
          go zero e =
              let parts = total-append (λ (o : Operator). one_if (o.number == op.number)) done (next ∷ []) in
              let one : total (λ (o : Operator). one_if (o.number == op.number)) (next ∷ []) ≡ one_if (next.number == op.number) + 0 = refl in
              let number = eqb-true next.number op.number (some-one (next.number == op.number) (omega (arith, parts, one, e, some))) in
              let there : slice_get g.ops op.number ≡ Some next = ap (slice_get g.ops) (sym number) ∙ fits.there next (record { before = done; behind = ops; are = split }) in
              let both : Some next ≡ Some op = sym there ∙ fits.there op y in
              let same : next ≡ op = cc in
              subst (λ (o : Operator). StandsBehind (place (takes g regions) pieces next) producer o) same
              (stands-now done ops next pieces split h regional producer x (subst (TakesAlone g producer) (sym same) t) off (ap (λ (o : Operator). in_region regions o.number) same ∙ out))

  facts : (producer op : Operator) → Stands g producer → Stands g op → in_region regions op.number ≡ false
      → (StandsBehind (pieces_of g regions) producer op → TakesAlone g producer op × (in_region regions producer.number ≡ false))
      × (TakesAlone g producer op × (in_region regions producer.number ≡ false) → StandsBehind (pieces_of g regions) producer op)
  facts producer op x y out = (forth, λ k. all-behind [] (in_topo g) [] refl (record { all = λ f. refl; fused = tt; feeds = tt }) tt (λ a b some. absurd (let n : 0 < 0 = some in omega (arith, n))) producer op x y k.0 k.1 out)
    where
      forth : StandsBehind (pieces_of g regions) producer op → TakesAlone g producer op × (in_region regions producer.number ≡ false)
      forth s =
          let law = pieces_law g regions fits are in
          let q = each-at (λ p. Stands g p.first × Fused g p.first p.behind) (pieces_of g regions) s.at s.piece law.0.fused s.is in
          let at = at-of (ops_in s.piece) (s.before ++ producer ∷ []) s.after op (s.ops ∙ sym (append_assoc s.before (producer ∷ []) (op ∷ s.after))) in
          let there = at-of (ops_in s.piece) s.before (op ∷ s.after) producer s.ops in (
            next-takes g s.piece.first s.piece.behind s.before s.after producer op s.ops q.1,
            outside-piece s.piece (each-at (Regional regions) (pieces_of g regions) s.at s.piece law.1 s.is) (length (s.before ++ producer ∷ [])) (length s.before) op producer at there out,
          )

pub facts_law : FactsLaw
facts_law g regions producer op fits are x y out = facts g regions fits are producer op x y out

-- ---- order

part-later : (xs ys : List ℕ) (y : ℕ) → IsPartOf xs ys → IsPartOf xs (ys ++ y ∷ [])
part-later [] ys y h = tt
part-later (x ∷ xs) [] y h = absurd h
part-later (x ∷ xs) (z ∷ ys) y (inl h) = inl (h.0, part-later xs ys y h.1)
part-later (x ∷ xs) (z ∷ ys) y (inr h) = inr (part-later (x ∷ xs) ys y h)

part-more : (xs ys : List ℕ) (y : ℕ) → IsPartOf xs ys → IsPartOf (xs ++ y ∷ []) (ys ++ y ∷ [])
part-more [] [] y h = inl (refl, tt)
part-more [] (z ∷ ys) y h = inr (part-more [] ys y tt)
part-more (x ∷ xs) [] y h = absurd h
part-more (x ∷ xs) (z ∷ ys) y (inl h) = inl (h.0, part-more xs ys y h.1)
part-more (x ∷ xs) (z ∷ ys) y (inr h) = inr (part-more (x ∷ xs) ys y h)

first-place : (test : Piece → Operator → Bool) (pieces : List Piece) (op : Operator)
    → (map (λ (p : Piece). p.first.number) (place test pieces op) ≡ map (λ (p : Piece). p.first.number) pieces)
    ⊎ (map (λ (p : Piece). p.first.number) (place test pieces op) ≡ map (λ (p : Piece). p.first.number) pieces ++ op.number ∷ [])
first-place test [] op = inr refl
first-place test (p ∷ pieces) op = go (test p op) (first-place test pieces op)
  where
    go : (b : Bool) → (map (λ (p : Piece). p.first.number) (place test pieces op) ≡ map (λ (p : Piece). p.first.number) pieces)
        ⊎ (map (λ (p : Piece). p.first.number) (place test pieces op) ≡ map (λ (p : Piece). p.first.number) pieces ++ op.number ∷ [])
        → (map (λ (p : Piece). p.first.number) (cond b (longer p op ∷ pieces) (p ∷ place test pieces op)) ≡ p.first.number ∷ map (λ (p : Piece). p.first.number) pieces)
        ⊎ (map (λ (p : Piece). p.first.number) (cond b (longer p op ∷ pieces) (p ∷ place test pieces op)) ≡ p.first.number ∷ (map (λ (p : Piece). p.first.number) pieces ++ op.number ∷ []))
    go true later = inl refl
    go false (inl e) = inl (ap (λ ns. p.first.number ∷ ns) e)
    go false (inr e) = inr (ap (λ ns. p.first.number ∷ ns) e)

in-order : (test : Piece → Operator → Bool) (pieces : List Piece) (ops : List Operator) (seen : List ℕ) → IsPartOf (map (λ (p : Piece). p.first.number) pieces) seen
    → IsPartOf (map (λ (p : Piece). p.first.number) (placed test pieces ops)) (seen ++ numbers ops)
in-order test pieces [] seen h = subst (IsPartOf (map (λ (p : Piece). p.first.number) pieces)) (sym (append-nil seen)) h
in-order test pieces (op ∷ ops) seen h =
    subst (IsPartOf (map (λ (p : Piece). p.first.number) (placed test (place test pieces op) ops))) (append_assoc seen (op.number ∷ []) (numbers ops))
    (in-order test (place test pieces op) ops (seen ++ op.number ∷ []) (go (first-place test pieces op)))
  where
    go : (map (λ (p : Piece). p.first.number) (place test pieces op) ≡ map (λ (p : Piece). p.first.number) pieces)
        ⊎ (map (λ (p : Piece). p.first.number) (place test pieces op) ≡ map (λ (p : Piece). p.first.number) pieces ++ op.number ∷ [])
        → IsPartOf (map (λ (p : Piece). p.first.number) (place test pieces op)) (seen ++ op.number ∷ [])
    go (inl e) = subst (λ ns. IsPartOf ns (seen ++ op.number ∷ [])) (sym e) (part-later (map (λ (p : Piece). p.first.number) pieces) seen op.number h)
    go (inr e) = subst (λ ns. IsPartOf ns (seen ++ op.number ∷ [])) (sym e) (part-more (map (λ (p : Piece). p.first.number) pieces) seen op.number h)

pub order_law : OrderLaw
order_law g regions = in-order (takes g regions) [] (in_topo g) [] tt
