-- Pieces by numbers are the pieces of a graph.
use Rattle.std.proofs.Common.{ℕ, zero, suc, ◌+◌, ◌<◌, ◌==◌, Bool, true, false, List, [], ◌∷◌, ◌++◌, ◌≡◌, ◌⊎◌, inl, inr, refl, sym, ap, ◌∙◌, subst, arith, length, map, set, Option, None, Some, slice_get}
use Rattle.std.specs.Option.{option_and_then}
use Rattle.std.proofs.lemmas.Bool.{cases_Bool, cases_eq, eqb-true, eq-eqb, ne_eqb, cond-true, cond-false}
use Rattle.std.proofs.lemmas.List.{map-append}
use Rattle.spl_value.proofs.Lists.{set_elsewhere, set_here}
use Rattle.stream_model.specs.declared.plan.Region.{Region}
use Rattle.stream_model.specs.Operators.{Operator}
use Rattle.stream_model.specs.Meaning.{Graph, in_topo}
use Rattle.stream_model.specs.Regions.{how_often}
use Rattle.pe_fusion.specs.Fusing.{AreFused, AreRegions, Each, GraphFits, Regional}
use Rattle.pe_fusion.specs.Pieces.{Piece, ops_in, takes, longer, place}
use Rattle.pe_fusion.specs.Shapes.{numbers}
use Rattle.pe_fusion.specs.Totals.{one_if, times, total}
use Rattle.pe_fusion.specs.declared.regions.OperatorRegion.{OperatorRegion}
use Rattle.pe_fusion.specs.declared.pieces.NumberedPiece.{NumberedPiece}
use Rattle.pe_fusion.specs.declared.pieces.Placement.{Placement}
use Rattle.pe_fusion.specs.steps.Placing.{longer_at, place_of, put_at, region_of}
use Rattle.pe_fusion.proofs.Totals.{some-one, total-append, total-found, Behind, get-append}
use Rattle.pe_fusion.proofs.Often.{often-one, often-append}
use Rattle.pe_fusion.proofs.RegionPieces.{in-pieces, new-op}

-- a piece by its operators' numbers and its region
abbrev pub numbered : List (Option OperatorRegion) → Piece → NumberedPiece
numbered table p = record { ids = numbers (ops_in p); region = region_of table p.first.number }

-- ---- an operator in the one piece that takes it

pub place-some : (table : List (Option OperatorRegion)) (test : Piece → Operator → Bool) (pieces : List Piece) (op : Operator) (j : ℕ) (p : Piece) → slice_get pieces j ≡ Some p → test p op ≡ true
    → ((i : ℕ) (q : Piece) → slice_get pieces i ≡ Some q → test q op ≡ true → i ≡ j)
    → map (numbered table) (place test pieces op) ≡ longer_at j op.number (map (numbered table) pieces)
place-some table test [] op j p at t one = absurd (cc)
place-some table test (q ∷ pieces) op zero p at t one =
    let same : q ≡ p = cc in
    ap (map (numbered table)) (cond-true (test q op) (longer q op ∷ pieces) (q ∷ place test pieces op) (ap (λ (z : Piece). test z op) same ∙ t))
    ∙ ap (λ ns. record { ids = q.first.number ∷ ns; region = region_of table q.first.number } ∷ map (numbered table) pieces) (map-append (λ (o : Operator). o.number) q.behind (op ∷ []))
place-some table test (q ∷ pieces) op (suc j) p at t one =
    let off : test q op ≡ false = elsewhere (cases_Bool (test q op)) in
    ap (map (numbered table)) (cond-false (test q op) (longer q op ∷ pieces) (q ∷ place test pieces op) off)
    ∙ ap (λ ps. numbered table q ∷ ps) (place-some table test pieces op j p at t (λ i z there u. let e : suc i ≡ suc j = one (suc i) z there u in omega (arith, e)))
  where
    elsewhere : (test q op ≡ true) ⊎ (test q op ≡ false) → test q op ≡ false
    elsewhere (inl e) = absurd (let k : 0 ≡ suc j = one 0 q refl e in omega (arith, k))
    elsewhere (inr e) = e

pub place-none : (test : Piece → Operator → Bool) (pieces : List Piece) (op : Operator) → ((i : ℕ) (q : Piece) → slice_get pieces i ≡ Some q → test q op ≡ false)
    → place test pieces op ≡ pieces ++ record { first = op; behind = [] } ∷ []
place-none test [] op none = refl
place-none test (q ∷ pieces) op none =
    cond-false (test q op) (longer q op ∷ pieces) (q ∷ place test pieces op) (none 0 q refl)
    ∙ ap (λ ps. q ∷ ps) (place-none test pieces op (λ i z at. none (suc i) z at))

pub get-map : {X Y : Type 0} (f : X → Y) (xs : List X) (i : ℕ) (y : Y) → slice_get (map f xs) i ≡ Some y → (x : X) × (slice_get xs i ≡ Some x) × (f x ≡ y)
get-map f [] i y at = absurd (cc)
get-map f (x ∷ xs) zero y at = let same : f x ≡ y = cc in (x, refl, same)
get-map f (x ∷ xs) (suc i) y at = get-map f xs i y at

pub map-get : {X Y : Type 0} (f : X → Y) (xs : List X) (i : ℕ) (x : X) → slice_get xs i ≡ Some x → slice_get (map f xs) i ≡ Some (f x)
map-get f [] i x at = absurd (cc)
map-get f (y ∷ xs) zero x at = let same : y ≡ x = cc in ap (λ z. Some (f z)) same
map-get f (y ∷ xs) (suc i) x at = map-get f xs i x at

-- what stands where one piece was made longer
longer-get : (j n : ℕ) (ps : List NumberedPiece) (i : ℕ) (q : NumberedPiece) → slice_get (longer_at j n ps) i ≡ Some q
    → (slice_get ps i ≡ Some q) ⊎ ((i ≡ j) × (p : NumberedPiece) × (slice_get ps j ≡ Some p) × (q.ids ≡ p.ids ++ n ∷ []))
longer-get j n [] i q at = absurd (cc)
longer-get zero n (p ∷ ps) zero q at =
    let same : record { ids = p.ids ++ n ∷ []; region = p.region } ≡ q = cc in inr (refl, p, refl, ap (λ (z : NumberedPiece). z.ids) (sym same))
longer-get zero n (p ∷ ps) (suc i) q at = inl at
longer-get (suc j) n (p ∷ ps) zero q at = inl at
longer-get (suc j) n (p ∷ ps) (suc i) q at = go (longer-get j n ps i q at)
  where
    go : (slice_get ps i ≡ Some q) ⊎ ((i ≡ j) × (p : NumberedPiece) × (slice_get ps j ≡ Some p) × (q.ids ≡ p.ids ++ n ∷ []))
        → (slice_get ps i ≡ Some q) ⊎ ((suc i ≡ suc j) × (p : NumberedPiece) × (slice_get ps j ≡ Some p) × (q.ids ≡ p.ids ++ n ∷ []))
    go (inl a) = inl a
    go (inr a) = inr (ap suc a.0, a.1, a.2, a.3)

-- ---- places of operators

-- the state has the pieces, and the place of each operator's piece
pub record Mirrors (table : List (Option OperatorRegion)) (done : List Operator) (pieces : List Piece) (state : Placement) : Type 0 where
  pub same : state.pieces ≡ map (numbered table) pieces
  pub here : (j n : ℕ) (q : NumberedPiece) → slice_get state.pieces j ≡ Some q → 0 < how_often n q.ids → place_of state.places n ≡ Some j
  pub nowhere : (n : ℕ) → times (λ (o : Operator). o.number == n) done ≡ 0 → place_of state.places n ≡ None

module _ (g : Graph) (fits : GraphFits g) (regions : List Region) (are : AreRegions g regions) (table : List (Option OperatorRegion))
    (done rest : List Operator) (op : Operator) (pieces : List Piece) (split : in_topo g ≡ done ++ op ∷ rest) (h : AreFused g done pieces) (regional : Each (Regional regions) pieces)
    (state : Placement) (m : Mirrors table done pieces state) (below : op.number < length state.places) where
  -- a piece by numbers is that of a piece
  pub piece-of : (j : ℕ) (q : NumberedPiece) → slice_get state.pieces j ≡ Some q → (p : Piece) × (slice_get pieces j ≡ Some p) × (numbered table p ≡ q)
  piece-of j q at = get-map (numbered table) pieces j q (ap (λ ps. slice_get ps j) (sym m.same) ∙ at)

  pub piece-to : (j : ℕ) (p : Piece) → slice_get pieces j ≡ Some p → slice_get state.pieces j ≡ Some (numbered table p)
  piece-to j p at = ap (λ ps. slice_get ps j) m.same ∙ map-get (numbered table) pieces j p at

  pub here-is : (j n : ℕ) (p : Piece) → slice_get pieces j ≡ Some p → 0 < how_often n (numbers (ops_in p)) → place_of state.places n ≡ Some j
  here-is j n p at has = m.here j n (numbered table p) (piece-to j p at) has

  -- where a place is known, the operator stands in that piece
  pub back : (j n : ℕ) → place_of state.places n ≡ Some j → (p : Piece) × (slice_get pieces j ≡ Some p) × (0 < how_often n (numbers (ops_in p)))
  back j n e = go (times (λ (o : Operator). o.number == n) done) refl
    where
      go : (k : ℕ) → times (λ (o : Operator). o.number == n) done ≡ k → (p : Piece) × (slice_get pieces j ≡ Some p) × (0 < how_often n (numbers (ops_in p)))
      go zero none = absurd (let k = m.nowhere n none in cc)
      go (suc k) some =
          let all = in-pieces g fits regions are done rest op pieces split h regional n in
          let found = total-found (λ (p : Piece). how_often n (numbers (ops_in p))) pieces (omega (arith, all, some)) in
          let there = here-is found.at n found.item found.is found.counts in
          let same : Some found.at ≡ Some j = sym there ∙ e in
          let at : found.at ≡ j = cc in
          (found.item, ap (slice_get pieces) (sym at) ∙ found.is, found.counts)

  new-id : (j : ℕ) (q : NumberedPiece) → slice_get state.pieces j ≡ Some q → how_often op.number q.ids ≡ 0
  new-id j q at =
      let p = piece-of j q at in
      let none = new-op g fits regions are done rest op pieces split h regional j p.0 p.1 in
      ap (λ (z : NumberedPiece). how_often op.number z.ids) (sym p.2) ∙ none

  set-other : (i n : ℕ) → (n ≡ op.number → ⊥) → place_of (set state.places op.number (Some i)) n ≡ place_of state.places n
  set-other i n apart = ap (option_and_then (λ (p : Option ℕ). p)) (set_elsewhere state.places op.number n (Some i) (λ e. apart (sym e)))

  set-own : (i : ℕ) → place_of (set state.places op.number (Some i)) op.number ≡ Some i
  set-own i = ap (option_and_then (λ (p : Option ℕ). p)) (set_here state.places op.number (Some i) below)

  still-none : (i n : ℕ) → times (λ (o : Operator). o.number == n) (done ++ op ∷ []) ≡ 0 → place_of (set state.places op.number (Some i)) n ≡ None
  still-none i n none =
      let parts = total-append (λ (o : Operator). one_if (o.number == n)) done (op ∷ []) in
      let own : total (λ (o : Operator). one_if (o.number == n)) (op ∷ []) ≡ one_if (op.number == n) + 0 = refl in
      set-other i n (λ e. let one : one_if (op.number == n) ≡ 1 = ap one_if (eq-eqb op.number n (sym e)) in absurd (omega (arith, parts, own, one, none)))
      ∙ m.nowhere n (omega (arith, parts, own, none))

  -- in a piece where it didn't stand before, an operator is another one
  old-place : (i j n : ℕ) (q : NumberedPiece) → slice_get state.pieces j ≡ Some q → 0 < how_often n q.ids → place_of (set state.places op.number (Some i)) n ≡ Some j
  old-place i j n q at has =
      set-other i n (λ e. let none = new-id j q at in let k : how_often n q.ids ≡ how_often op.number q.ids = ap (λ z. how_often z q.ids) e in absurd (omega (arith, none, k, has)))
      ∙ m.here j n q at has

  pub put-is : (place_is : Option ℕ) → ((j : ℕ) (p : Piece) → slice_get pieces j ≡ Some p → takes g regions p op ≡ true → place_is ≡ Some j)
      → ((j : ℕ) → place_is ≡ Some j → (p : Piece) × (slice_get pieces j ≡ Some p) × (takes g regions p op ≡ true))
      → Mirrors table (done ++ op ∷ []) (place (takes g regions) pieces op) (put_at place_is op.number (region_of table op.number) state)
  put-is None found right = record {
    same = ap (λ ps. ps ++ record { ids = op.number ∷ []; region = region_of table op.number } ∷ []) m.same
        ∙ sym (map-append (numbered table) pieces (record { first = op; behind = [] } ∷ []))
        ∙ ap (map (numbered table)) (sym (place-none (takes g regions) pieces op none));
    here = here;
    nowhere = still-none (length state.pieces);
  }
    where
      none : (i : ℕ) (q : Piece) → slice_get pieces i ≡ Some q → takes g regions q op ≡ false
      none i q at = off (cases_Bool (takes g regions q op))
        where
          off : (takes g regions q op ≡ true) ⊎ (takes g regions q op ≡ false) → takes g regions q op ≡ false
          off (inl t) = absurd (let k = found i q at t in cc)
          off (inr t) = t

      here : (j n : ℕ) (q : NumberedPiece) → slice_get (state.pieces ++ record { ids = op.number ∷ []; region = region_of table op.number } ∷ []) j ≡ Some q → 0 < how_often n q.ids
          → place_of (set state.places op.number (Some (length state.pieces))) n ≡ Some j
      here j n q at has = go (get-append state.pieces (record { ids = op.number ∷ []; region = region_of table op.number } ∷ []) j q at)
        where
          last : (b : Behind state.pieces (record { ids = op.number ∷ []; region = region_of table op.number } ∷ []) j q) → (k : ℕ) → b.at ≡ k → place_of (set state.places op.number (Some (length state.pieces))) n ≡ Some j
          last b zero e =
              let at_zero : slice_get (record { ids = op.number ∷ []; region = region_of table op.number } ∷ []) 0 ≡ Some q = ap (slice_get (record { ids = op.number ∷ []; region = region_of table op.number } ∷ [])) (sym e) ∙ b.is in
              let same : record { ids = op.number ∷ []; region = region_of table op.number } ≡ q = cc in
              let own : 0 < how_often n (op.number ∷ []) = subst (λ (z : NumberedPiece). 0 < how_often n z.ids) (sym same) has in
              let one = often-one n op.number [] in
              let zero_is : how_often n [] ≡ 0 = refl in
              let is : op.number ≡ n = eqb-true op.number n (some-one (op.number == n) (omega (arith, own, one, zero_is))) in
              let sum = b.sum in
              let place_j : length state.pieces ≡ j = omega (arith, sum, e) in
              ap (λ z. place_of (set state.places op.number (Some (length state.pieces))) z) (sym is) ∙ set-own (length state.pieces) ∙ ap (λ z. Some z) place_j
          last b (suc k) e =
              let past : slice_get (record { ids = op.number ∷ []; region = region_of table op.number } ∷ []) (suc k) ≡ Some q = ap (slice_get (record { ids = op.number ∷ []; region = region_of table op.number } ∷ [])) (sym e) ∙ b.is in
              absurd (cc)

          go : (slice_get state.pieces j ≡ Some q) ⊎ Behind state.pieces (record { ids = op.number ∷ []; region = region_of table op.number } ∷ []) j q
              → place_of (set state.places op.number (Some (length state.pieces))) n ≡ Some j
          go (inl a) = old-place (length state.pieces) j n q a has
          go (inr b) = last b b.at refl
  put-is (Some i) found right = record {
    same = ap (longer_at i op.number) m.same
        ∙ sym (place-some table (takes g regions) pieces op i (right i refl).0 (right i refl).1 (right i refl).2 (λ k q at t. let e : Some i ≡ Some k = found k q at t in cc));
    here = here;
    nowhere = still-none i;
  }
    where
      here : (j n : ℕ) (q : NumberedPiece) → slice_get (longer_at i op.number state.pieces) j ≡ Some q → 0 < how_often n q.ids → place_of (set state.places op.number (Some i)) n ≡ Some j
      here j n q at has = go (longer-get i op.number state.pieces j q at)
        where
          go : (slice_get state.pieces j ≡ Some q) ⊎ ((j ≡ i) × (p : NumberedPiece) × (slice_get state.pieces i ≡ Some p) × (q.ids ≡ p.ids ++ op.number ∷ [])) → place_of (set state.places op.number (Some i)) n ≡ Some j
          go (inl a) = old-place i j n q a has
          go (inr a) = own (cases_eq n op.number)
            where
              own : (n ≡ op.number) ⊎ (n ≡ op.number → ⊥) → place_of (set state.places op.number (Some i)) n ≡ Some j
              own (inl e) = ap (λ z. place_of (set state.places op.number (Some i)) z) e ∙ set-own i ∙ ap (λ z. Some z) (sym a.0)
              own (inr apart) =
                  let all : how_often n q.ids ≡ how_often n (a.1.ids ++ op.number ∷ []) = ap (how_often n) a.3 in
                  let parts = often-append n a.1.ids (op.number ∷ []) in
                  let one = often-one n op.number [] in
                  let zero_is : how_often n [] ≡ 0 = refl in
                  let off : one_if (op.number == n) ≡ 0 = ap one_if (ne_eqb op.number n (λ e. apart (sym e))) in
                  old-place i i n a.1 a.2 (omega (arith, all, parts, one, zero_is, off, has)) ∙ ap (λ z. Some z) (sym a.0)
