-- Marks that are counted, and marked places by their numbers.
use Rattle.std.proofs.Common.{◌≡◌, ◌+◌, ◌*◌, ◌/◌, ◌<◌, ◌≤◌, ◌^◌, ℕ, zero, suc, Bool, true, false, not, List, [], ◌∷◌, length, replicate, take, set, get_or, slice_get, Some, refl, sym, ap, subst, ◌∙◌, add-one, arith, length-set}
use Rattle.std.proofs.lemmas.List.{length-replicate}
use Rattle.std.proofs.lemmas.Option.{slice_get-get_or, slice_get_within}
use Rattle.marked_places.specs.Counts.{total, one, ones, changed, CanChange, Groups, IsCounted}
use Rattle.marked_places.specs.Marked.{marked, marked_from}
use Rattle.marked_places.proofs.Totals.{total-entry, total-next, total-all, total-set-behind}
use Rattle.marked_places.proofs.Grouping.{group-above, groups-all, groups-set, groups-zeros}

-- ---- marks as numbers

pub marked-count : (at : ℕ) (marks : List Bool) → length (marked_from at marks) ≡ total (ones marks)
marked-count at [] = refl
marked-count at (true ∷ marks) = omega (arith, marked-count (suc at) marks)
marked-count at (false ∷ marks) = omega (arith, marked-count (suc at) marks)

marked-from : (at : ℕ) (marks : List Bool) (i : ℕ) → slice_get marks i ≡ Some true
    → slice_get (marked_from at marks) (total (take i (ones marks))) ≡ Some (at + i)
marked-from at [] i e = cc
marked-from at (true ∷ marks) zero e = let number : at ≡ at + 0 = omega arith in ap Some number
marked-from at (false ∷ marks) zero e = cc
marked-from at (true ∷ marks) (suc i) e =
    let place : 1 + total (take i (ones marks)) ≡ suc (total (take i (ones marks))) = omega arith in
    let number : suc at + i ≡ at + suc i = omega arith in
    ap (slice_get (marked_from at (true ∷ marks))) place ∙ marked-from (suc at) marks i e ∙ ap Some number
marked-from at (false ∷ marks) (suc i) e =
    let place : 0 + total (take i (ones marks)) ≡ total (take i (ones marks)) = omega arith in
    let number : suc at + i ≡ at + suc i = omega arith in
    ap (slice_get (marked_from (suc at) marks)) place ∙ marked-from (suc at) marks i e ∙ ap Some number

pub marked-at : (marks : List Bool) (i n : ℕ) → slice_get marks i ≡ Some true → total (take i (ones marks)) ≡ n
    → slice_get (marked marks) n ≡ Some i
marked-at marks i n e h =
    let number : 0 + i ≡ i = omega arith in
    ap (slice_get (marked marks)) (sym h) ∙ marked-from 0 marks i e ∙ ap Some number

pub ones-at : (marks : List Bool) (i : ℕ) (m : Bool) → slice_get marks i ≡ Some m → slice_get (ones marks) i ≡ Some (one m)
ones-at [] i m e = cc
ones-at (x ∷ marks) zero m e = let same : x ≡ m = cc in ap (λ b. Some (one b)) same
ones-at (x ∷ marks) (suc i) m e = ones-at marks i m e

pub ones-length : (marks : List Bool) → length (ones marks) ≡ length marks
ones-length [] = refl
ones-length (x ∷ marks) = ap suc (ones-length marks)

ones-set : (marks : List Bool) (i : ℕ) (m : Bool) → ones (set marks i m) ≡ set (ones marks) i (one m)
ones-set [] i m = refl
ones-set (x ∷ marks) zero m = refl
ones-set (x ∷ marks) (suc i) m = ap (λ ns. one x ∷ ns) (ones-set marks i m)

pub ones-few : (marks : List Bool) → total (ones marks) ≤ length marks
ones-few [] = omega arith
ones-few (true ∷ marks) = omega (arith, ones-few marks)
ones-few (false ∷ marks) = omega (arith, ones-few marks)

ones-none : (n : ℕ) → ones (replicate n false) ≡ replicate n 0
ones-none zero = refl
ones-none (suc n) = ap (λ ns. 0 ∷ ns) (ones-none n)

-- a place that isn't marked leaves room for one more
ones-room : (marks : List Bool) (i : ℕ) → slice_get marks i ≡ Some false → total (ones marks) < length marks
ones-room [] i e = cc
ones-room (true ∷ marks) zero e = cc
ones-room (false ∷ marks) zero e = omega (arith, ones-few marks)
ones-room (true ∷ marks) (suc i) e = omega (arith, ones-room marks i e)
ones-room (false ∷ marks) (suc i) e = omega (arith, ones-room marks i e)

-- ---- counts

-- a place, its group and its block
pub record Here (marks : List Bool) (groups blocks : List ℕ) (i : ℕ) (m : Bool) (g b : ℕ) : Type 0 where
  pub mark : slice_get marks i ≡ Some m
  pub group : slice_get groups (i / 32) ≡ Some g
  pub block : slice_get blocks (i / 32 / 32) ≡ Some b

pub counted-total : (marks : List Bool) (groups blocks : List ℕ) (all : ℕ) → IsCounted marks groups blocks all
    → (total groups ≡ all) × (total blocks ≡ all)
counted-total marks groups blocks all c =
    let by-group = groups-all (ones marks) groups c.by_group (subst (λ n. n ≤ length groups * 32) (sym (ones-length marks)) c.all_groups) in
    let by-block = groups-all groups blocks c.by_block c.all_blocks in
    (omega (arith, c.all), omega (arith, c.all))

can-change : (m : Bool) (marks : List Bool) (i n s k : ℕ) → slice_get marks i ≡ Some (not m) → k ≡ total (ones marks)
    → s ≤ k → one (not m) ≤ s → length marks + 1 < 2 ^ 32 → CanChange m s
can-change true marks i n s k e all above below few = omega (arith, ones-room marks i e)
can-change false marks i n s k e all above below few = omega arith

-- each count can change, as the mark does
pub counts-change : (marks : List Bool) (groups blocks : List ℕ) (all i : ℕ) (m : Bool) (g b : ℕ) → IsCounted marks groups blocks all
    → Here marks groups blocks i (not m) g b → CanChange m g × CanChange m b × CanChange m all
counts-change marks groups blocks all i m g b c h =
    let sums = counted-total marks groups blocks all c in
    let one-group = group-above (ones marks) groups i (one (not m)) g c.by_group (ones-at marks i (not m) h.mark) h.group in
    let one-block = group-above groups blocks (i / 32) g b c.by_block h.group h.block in
    let g-few = total-entry groups (i / 32) g h.group in
    let b-few = total-entry blocks (i / 32 / 32) b h.block in (
      can-change m marks i 0 g all h.mark c.all (omega arith) one-group c.few,
      can-change m marks i 0 b all h.mark c.all (omega arith) (omega arith) c.few,
      can-change m marks i 0 all all h.mark c.all (omega arith) (omega arith) c.few,
    )

moved : (m : Bool) (g b : ℕ) → CanChange m g → CanChange m b
    → (one (not m) + changed m g ≡ g + one m) × (g + changed m b ≡ b + changed m g)
moved true g b hg hb = (omega arith, omega arith)
moved false g b hg hb = (omega arith, omega arith)

total-changed : (m : Bool) (n n2 all : ℕ) → n2 + one (not m) ≡ n + one m → all ≡ n → CanChange m all → changed m all ≡ n2
total-changed true n n2 all e h c = omega arith
total-changed false n n2 all e h c = omega arith

-- no mark, and nothing counted
none-counted : (n groups blocks : ℕ) → n + 1 < 2 ^ 32 → n ≤ groups * 32 → groups ≤ blocks * 32
    → IsCounted (replicate n false) (replicate groups 0) (replicate blocks 0) 0
none-counted n groups blocks few by-group by-block =
    let zero-entry : ℕ = 0 in
    let marks-many = length-replicate n false in
    let groups-many = length-replicate groups zero-entry in
    let blocks-many = length-replicate blocks zero-entry in
    record {
      few = subst (λ k. k + 1 < 2 ^ 32) (sym marks-many) few;
      by_group = subst (λ ns. Groups ns (replicate groups 0)) (sym (ones-none n)) (groups-zeros n groups);
      by_block = groups-zeros groups blocks;
      all_groups = omega arith;
      all_blocks = omega arith;
      all = sym (ap total (ones-none n) ∙ total-nothing n);
    }
  where
    total-nothing : (k : ℕ) → total (replicate k 0) ≡ 0
    total-nothing zero = refl
    total-nothing (suc k) = omega (arith, total-nothing k)

pub counted-none : (marks : List Bool) (groups blocks : List ℕ) (n g b : ℕ) → marks ≡ replicate n false → groups ≡ replicate g 0 → blocks ≡ replicate b 0
    → n + 1 < 2 ^ 32 → n ≤ g * 32 → g ≤ b * 32 → IsCounted marks groups blocks 0
counted-none marks groups blocks n g b ms gs bs few by-group by-block =
    subst (λ z. IsCounted z groups blocks 0) (sym ms)
    (subst (λ z. IsCounted (replicate n false) z blocks 0) (sym gs)
    (subst (λ z. IsCounted (replicate n false) (replicate g 0) z 0) (sym bs) (none-counted n g b few by-group by-block)))

-- a mark that changes, with its counts
pub counted-set : (marks : List Bool) (groups blocks : List ℕ) (all i : ℕ) (m : Bool) (g b : ℕ) → IsCounted marks groups blocks all
    → Here marks groups blocks i (not m) g b
    → IsCounted (set marks i m) (set groups (i / 32) (changed m g)) (set blocks (i / 32 / 32) (changed m b)) (changed m all)
counted-set marks groups blocks all i m g b c h =
    let can = counts-change marks groups blocks all i m g b c h in
    let same = moved m g b can.0 can.1 in
    let at-i = ones-at marks i (not m) h.mark in
    record {
      few = subst (λ k. k + 1 < 2 ^ 32) (sym (length-set marks i m)) c.few;
      by_group = subst (λ ns. Groups ns (set groups (i / 32) (changed m g))) (sym (ones-set marks i m))
          (groups-set (ones marks) groups i (one (not m)) (one m) g (changed m g) c.by_group at-i h.group same.0);
      by_block = groups-set groups blocks (i / 32) g (changed m g) b (changed m b) c.by_block h.group h.block same.1;
      all_groups = subst (λ k. k ≤ length (set groups (i / 32) (changed m g)) * 32) (sym (length-set marks i m))
          (subst (λ k. length marks ≤ k * 32) (sym (length-set groups (i / 32) (changed m g))) c.all_groups);
      all_blocks = subst (λ k. k ≤ length (set blocks (i / 32 / 32) (changed m b)) * 32) (sym (length-set groups (i / 32) (changed m g)))
          (subst (λ k. length groups ≤ k * 32) (sym (length-set blocks (i / 32 / 32) (changed m b))) c.all_blocks);
      all = total-changed m (total (ones marks)) (total (ones (set marks i m))) all (sum at-i) c.all can.2;
    }
  where
    sum : slice_get (ones marks) i ≡ Some (one (not m)) → total (ones (set marks i m)) + one (not m) ≡ total (ones marks) + one m
    sum at-i =
        let whole = total-set-behind (ones marks) (length marks) i (one (not m)) (one m) at-i (slice_get_within marks i (not m) h.mark) in
        let new-all = total-all (set (ones marks) i (one m)) (length marks)
        (subst (λ k. k ≤ length marks) (sym (length-set (ones marks) i (one m) ∙ ones-length marks)) (omega arith)) in
        let old-all = total-all (ones marks) (length marks) (subst (λ k. k ≤ length marks) (sym (ones-length marks)) (omega arith)) in
        let ones-are = ap total (ones-set marks i m) in
        omega arith

-- ---- a search through the marks

pub mark_step : (marks : List Bool) (i : ℕ) (d : Bool) → i < length marks → total (take (i + 1) (ones marks)) ≡ total (take i (ones marks)) + one (get_or marks i d)
mark_step marks i d h =
    ap (λ k. total (take k (ones marks))) (add-one i)
    ∙ total-next (ones marks) i (one (get_or marks i d)) (ones-at marks i (get_or marks i d) (slice_get-get_or marks i d h))

is_one : (b : Bool) (k : ℕ) → k < one b → (b ≡ true) × (k ≡ 0)
is_one true k h = (refl, omega arith)
is_one false k h = absurd (omega arith)

pub mark_there : (marks : List Bool) (i k : ℕ) (d : Bool) → i < length marks → k < one (get_or marks i d) → (slice_get marks i ≡ Some true) × (k ≡ 0)
mark_there marks i k d h less =
    let is = is_one (get_or marks i d) k less in
    (slice_get-get_or marks i d h ∙ ap Some is.0, is.1)

pub marks_all : (marks : List Bool) (i : ℕ) → length marks ≤ i → total (take i (ones marks)) ≡ total (ones marks)
marks_all marks i h = total-all (ones marks) i (subst (λ k. k ≤ i) (sym (ones-length marks)) h)

pub ruleset finding_marks = (mark_step, mark_there, marks_all)

pub set_same : (marks : List Bool) (i : ℕ) (m : Bool) → slice_get marks i ≡ Some m → set marks i m ≡ marks
set_same [] i m e = refl
set_same (x ∷ marks) zero m e = let same : x ≡ m = cc in ap (λ z. z ∷ marks) (sym same)
set_same (x ∷ marks) (suc i) m e = ap (λ z. x ∷ z) (set_same marks i m e)

-- ---- a mark that changes

there : {A : Type 0} (xs : List A) (i : ℕ) → i < length xs → (x : A) × (slice_get xs i ≡ Some x)
there [] i h = absurd (omega arith)
there (x ∷ xs) zero h = (x, refl)
there (x ∷ xs) (suc i) h = there xs i (omega arith)

-- its counts can change
pub record CanAll (m : Bool) (groups blocks : List ℕ) (all i : ℕ) : Type 0 where
  pub in_groups : i / 32 < length groups
  pub in_blocks : i / 32 / 32 < length blocks
  pub group : (n : ℕ) → slice_get groups (i / 32) ≡ Some n → CanChange m n
  pub block : (n : ℕ) → slice_get blocks (i / 32 / 32) ≡ Some n → CanChange m n
  pub whole : CanChange m all

module _ (marks : List Bool) (groups blocks : List ℕ) (all i : ℕ) (now : List Bool) (m : Bool) (c : IsCounted marks groups blocks all) (view : marks ≡ now)
    (at : slice_get now i ≡ Some (not m)) where
  mark-at : slice_get marks i ≡ Some (not m)
  mark-at = ap (λ ms. slice_get ms i) view ∙ at

  below : i < length marks
  below = slice_get_within marks i (not m) mark-at

  in-groups : i / 32 < length groups
  in-groups = let few = c.all_groups in let low = below in omega arith

  in-blocks : i / 32 / 32 < length blocks
  in-blocks = let few = c.all_blocks in let low = in-groups in omega arith

  pub can_all : CanAll m groups blocks all i
  can_all =
      let g = there groups (i / 32) in-groups in
      let b = there blocks (i / 32 / 32) in-blocks in
      record {
        in_groups = in-groups;
        in_blocks = in-blocks;
        group = λ n e. (counts-change marks groups blocks all i m n b.0 c (record { mark = mark-at; group = e; block = b.1 })).0;
        block = λ n e. (counts-change marks groups blocks all i m g.0 n c (record { mark = mark-at; group = g.1; block = e })).1;
        whole = (counts-change marks groups blocks all i m g.0 b.0 c (record { mark = mark-at; group = g.1; block = b.1 })).2;
      }

  -- and are right then
  pub counted_after : (marks2 : List Bool) (groups2 blocks2 : List ℕ) (all2 : ℕ) → marks2 ≡ set marks i m
      → ((n : ℕ) → slice_get groups (i / 32) ≡ Some n → groups2 ≡ set groups (i / 32) (changed m n))
      → ((n : ℕ) → slice_get blocks (i / 32 / 32) ≡ Some n → blocks2 ≡ set blocks (i / 32 / 32) (changed m n))
      → all2 ≡ changed m all → IsCounted marks2 groups2 blocks2 all2
  counted_after marks2 groups2 blocks2 all2 ms gs bs al =
      let g = there groups (i / 32) in-groups in
      let b = there blocks (i / 32 / 32) in-blocks in
      let after = counted-set marks groups blocks all i m g.0 b.0 c (record { mark = mark-at; group = g.1; block = b.1 }) in
      subst (λ z. IsCounted z groups2 blocks2 all2) (sym ms)
      (subst (λ z. IsCounted (set marks i m) z blocks2 all2) (sym (gs g.0 g.1))
      (subst (λ z. IsCounted (set marks i m) (set groups (i / 32) (changed m g.0)) z all2) (sym (bs b.0 b.1))
      (subst (λ z. IsCounted (set marks i m) (set groups (i / 32) (changed m g.0)) (set blocks (i / 32 / 32) (changed m b.0)) z) (sym al) after)))

-- ---- a place by its number

module _ (marks : List Bool) (groups blocks : List ℕ) (all n : ℕ) (now : List Bool) (c : IsCounted marks groups blocks all) (view : marks ≡ now)
    (few : n < length (marked now)) where
  below-ones : n < total (ones marks)
  below-ones = subst (λ k. n < k) (ap (λ ms. length (marked ms)) (sym view) ∙ marked-count 0 marks) few

  pub in_blocks : n < total blocks
  in_blocks = let sums = counted-total marks groups blocks all c in let low = below-ones in let same = c.all in omega arith

  pub in_groups : (b w : ℕ) → total (take b blocks) + w ≡ n → total (take (b * 32) groups) + w < total groups
  in_groups b w e =
      let sums = counted-total marks groups blocks all c in
      let low = below-ones in
      let same = c.all in
      let front = c.by_block b in
      omega arith

  pub in_marks : (b w g v : ℕ) → total (take b blocks) + w ≡ n → total (take g groups) + v ≡ total (take (b * 32) groups) + w
      → total (take (g * 32) (ones marks)) + v < total (ones marks)
  in_marks b w g v e f =
      let low = below-ones in
      let front = c.by_block b in
      let group = c.by_group g in
      omega arith

  pub is_nth : (b w g v i : ℕ) → total (take b blocks) + w ≡ n → total (take g groups) + v ≡ total (take (b * 32) groups) + w
      → total (take i (ones marks)) ≡ total (take (g * 32) (ones marks)) + v → slice_get marks i ≡ Some true
      → slice_get (marked now) n ≡ Some i
  is_nth b w g v i e f h at =
      let front = c.by_block b in
      let group = c.by_group g in
      let number : total (take i (ones marks)) ≡ n = omega arith in
      ap (λ ms. slice_get (marked ms) n) (sym view) ∙ marked-at marks i n at number

  pub is_few : (i : ℕ) → slice_get marks i ≡ Some true → i < 2 ^ 32
  is_few i at = let low = slice_get_within marks i true at in let bound = c.few in omega arith
