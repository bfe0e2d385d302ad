-- The ports of an operator without connections, and its ends.
use Rattle.std.proofs.Common.{ℕ, zero, suc, ◌+◌, ◌<◌, ◌==◌, ◌||◌, not, Bool, true, false, cond, List, [], ◌∷◌, ◌++◌, ◌≡◌, drop, filter, get_or, length, map, replicate, set, take, refl, sym, ap, ◌∙◌, append_assoc, arith, Option, Some, None, option_map}
use Rattle.std.specs.List.{list_any}
use Rattle.std.specs.Option.{option_map_or}
use Rattle.std.proofs.lemmas.Bool.{eq-eqb, ne_eqb}
use Rattle.std.proofs.lemmas.List.{drop-set-lt, drop_more, map-append, take_more, take_more_set}
use Rattle.std.proofs.lemmas.List.Folds.{list_any-append}
use Rattle.language_model.specs.Numbering.{numbers_from}
use Rattle.stream_model.specs.Fans.{fan_ports_from, ports_of_fans}
use Rattle.stream_model.specs.Operators.{Operator}
use Rattle.network_model.specs.Networks.{Part}
use Rattle.operator_chains.specs.declared.how.How.{How}
use Rattle.operator_chains.specs.declared.how.How.TheVariants as H
use Rattle.element_notes.specs.declared.ending.End.{End}
use Rattle.element_notes.specs.Endings.{end_ports, ends_as, last_operator, ports_out, unread_ports}
use Rattle.element_notes.specs.Noting.{HasEnds, end_at, ends_at, ends_from, with_how}

-- ---- which ports outputs carry

abbrev AreBelow : ℕ → List ℕ → Type 0
AreBelow p [] = Unit {0}
AreBelow p (q ∷ qs) = (q < p) × AreBelow p qs

below_none : (p : ℕ) (qs : List ℕ) → AreBelow p qs → list_any (λ q. q == p) qs ≡ false
below_none p [] b = refl
below_none p (q ∷ qs) b = ap (λ c. c || list_any (λ r. r == p) qs) (ne_eqb q p (λ e. let l = b.0 in absurd (omega (arith, e, l)))) ∙ below_none p qs b.1

below_more : (p : ℕ) (qs : List ℕ) (n : ℕ) → AreBelow p qs → AreBelow (suc p) (qs ++ replicate n p)
below_more p [] zero b = tt
below_more p [] (suc n) b = ((let l : p < suc p = omega arith in l), below_more p [] n tt)
below_more p (q ∷ qs) n b = ((let l = b.0 in let m : q < suc p = omega (arith, l) in m), below_more p qs n b.1)

replicate_any : (p n : ℕ) → list_any (λ q. q == p) (replicate n p) ≡ not (n == 0)
replicate_any p zero = refl
replicate_any p (suc n) =
    ap (λ b. b || list_any (λ q. q == p) (replicate n p)) (eq-eqb p p refl)
    ∙ sym (ap not (ne_eqb (suc n) 0 (λ e. absurd (omega (arith, e)))))

above_none : (p k : ℕ) (counts : List ℕ) → p < k → list_any (λ q. q == p) (fan_ports_from k counts) ≡ false
above_none p k [] l = refl
above_none p k (n ∷ counts) l =
    list_any-append (λ q. q == p) (replicate n k) (fan_ports_from (suc k) counts)
    ∙ ap (λ b. b || list_any (λ q. q == p) (fan_ports_from (suc k) counts)) (others n)
    ∙ above_none p (suc k) counts (omega (arith, l))
  where
    others : (n : ℕ) → list_any (λ q. q == p) (replicate n k) ≡ false
    others zero = refl
    others (suc n) = ap (λ b. b || list_any (λ q. q == p) (replicate n k)) (ne_eqb k p (λ e. absurd (omega (arith, e, l)))) ∙ others n

-- ---- the ends at ports

abbrev live_end : ℕ → ℕ → End
live_end op p = record { op = op; port = p; how = H.Live }

-- the port itself, and those behind it
ends-step : (op p n : ℕ) (before counts : List ℕ) → AreBelow p before
    → ends_from op (suc p) counts ≡ map (live_end op) (filter (λ q. not (list_any (λ r. r == q) ((before ++ replicate n p) ++ fan_ports_from (suc p) counts))) (numbers_from (suc p) (length counts)))
    → ends_from op p (n ∷ counts) ≡ map (live_end op) (filter (λ q. not (list_any (λ r. r == q) (before ++ fan_ports_from p (n ∷ counts)))) (numbers_from p (length (n ∷ counts))))
ends-step op p n before counts b rest =
    ap (λ z. end_at op p n ++ z) (rest
    ∙ ap (λ outs. map (live_end op) (filter (λ q. not (list_any (λ r. r == q) outs)) (numbers_from (suc p) (length counts)))) (append_assoc before (replicate n p) (fan_ports_from (suc p) counts)))
    ∙ go (n == 0) ∙ ap (λ c. map (live_end op) (cond c (p ∷ later) later)) (sym here)
  where
    all : List ℕ
    all = before ++ (replicate n p ++ fan_ports_from (suc p) counts)

    later : List ℕ
    later = filter (λ q. not (list_any (λ r. r == q) all)) (numbers_from (suc p) (length counts))

    either : (x y z : Bool) → x ≡ false → z ≡ false → (x || (y || z)) ≡ y
    either x true z e f = ap (λ c. c || (true || z)) e
    either x false z e f = ap (λ c. c || (false || z)) e ∙ f

    twice : (c : Bool) → not (not c) ≡ c
    twice true = refl
    twice false = refl

    here : not (list_any (λ r. r == p) all) ≡ (n == 0)
    here =
        ap not (list_any-append (λ r. r == p) before (replicate n p ++ fan_ports_from (suc p) counts)
        ∙ ap (λ c. list_any (λ r. r == p) before || c) (list_any-append (λ r. r == p) (replicate n p) (fan_ports_from (suc p) counts))
        ∙ either (list_any (λ r. r == p) before) (list_any (λ r. r == p) (replicate n p)) (list_any (λ r. r == p) (fan_ports_from (suc p) counts))
        (below_none p before b) (above_none p (suc p) counts (omega arith))
        ∙ replicate_any p n)
        ∙ twice (n == 0)

    go : (c : Bool) → cond c (live_end op p ∷ []) [] ++ map (live_end op) later ≡ map (live_end op) (cond c (p ∷ later) later)
    go true = refl
    go false = refl

ends-are : (op p : ℕ) (before counts : List ℕ) → AreBelow p before
    → ends_from op p counts ≡ map (live_end op) (filter (λ q. not (list_any (λ r. r == q) (before ++ fan_ports_from p counts))) (numbers_from p (length counts)))
ends-are op p before [] b = refl
ends-are op p before (n ∷ counts) b =
    ends-step op p n before counts b (ends-are op (suc p) (before ++ replicate n p) counts (below_more p before n b))

each_end : (number n : ℕ) (counts outs ports : List ℕ) → number ≡ n → ports ≡ ports_of_fans counts → length counts ≡ length outs
    → ends_at n counts ≡ map (live_end number) (end_ports outs ports)
each_end number n [] [] ports e f l = ap (λ k. live_end k 0 ∷ []) (sym e)
each_end number n [] (s ∷ outs) ports e f l = cc
each_end number n (c ∷ counts) [] ports e f l = cc
each_end number n (c ∷ counts) (s ∷ outs) ports e f l =
    ends-are n 0 [] (c ∷ counts) tt
    ∙ ap (λ k. map (live_end k) (unread_ports (ports_of_fans (c ∷ counts)) (length (c ∷ counts)))) (sym e)
    ∙ ap (λ os. map (live_end number) (unread_ports os (length (c ∷ counts)))) (sym f)
    ∙ ap (λ k. map (live_end number) (unread_ports ports k)) l

-- ---- those of a part

abbrev ends_by : (o : Option Operator) → List ℕ → How → List End
ends_by o ports how = option_map_or (λ (op : Operator). map (λ p. record { op = op.number; port = p; how = how }) (end_ports op.outs ports)) o []

pub ends_some : (part : Part) (n : ℕ) (counts : List ℕ) → HasEnds part (Some n) counts → ends_at n counts ≡ ends_as part H.Live
ends_some part n counts has = go (last_operator part) has.number has.outs has.count
  where
    go : (o : Option Operator) → option_map (λ (op : Operator). op.number) o ≡ Some n → ((op : Operator) → o ≡ Some op → ports_out part ≡ ports_of_fans counts)
        → ((op : Operator) → o ≡ Some op → length counts ≡ length op.outs) → ends_at n counts ≡ ends_by o (ports_out part) H.Live
    go None e f l = cc
    go (Some op) e f l = each_end op.number n counts op.outs (ports_out part) (let same : op.number ≡ n = cc in same) (f op refl) (l op refl)

pub ends_none : (part : Part) (counts : List ℕ) → HasEnds part None counts → [] ≡ ends_as part H.Live
ends_none part counts has = go (last_operator part) has.number
  where
    go : (o : Option Operator) → option_map (λ (op : Operator). op.number) o ≡ None → [] ≡ ends_by o (ports_out part) H.Live
    go None e = refl
    go (Some op) e = cc

pub ends_stand : (part : Part) (how : How) → map (with_how how) (ends_as part H.Live) ≡ ends_as part how
ends_stand part how = go (last_operator part)
  where
    each : (n : ℕ) (ports : List ℕ) → map (with_how how) (map (live_end n) ports) ≡ map (λ p. record { op = n; port = p; how = how }) ports
    each n [] = refl
    each n (p ∷ ports) = ap (λ z. record { op = n; port = p; how = how } ∷ z) (each n ports)

    go : (o : Option Operator) → map (with_how how) (ends_by o (ports_out part) H.Live) ≡ ends_by o (ports_out part) how
    go None = refl
    go (Some op) = each op.number (end_ports op.outs (ports_out part))

-- ---- port by port, and end by end

-- the ends at the ports so far, and at those that are left
pub ends-next : (op port : ℕ) (ends : List End) (counts : List ℕ) (i d : ℕ) (all : List End) → i < length counts → ends ++ ends_from op port (drop i counts) ≡ all
    → (ends ++ end_at op port (get_or counts i d)) ++ ends_from op (port + 1) (drop (i + 1) counts) ≡ all
ends-next op port ends counts i d all l h =
    append_assoc ends (end_at op port (get_or counts i d)) (ends_from op (port + 1) (drop (i + 1) counts))
    ∙ ap (λ k. ends ++ (end_at op port (get_or counts i d) ++ ends_from op k (drop (i + 1) counts))) (let z : port + 1 ≡ suc port = omega arith in z)
    ∙ ap (λ ns. ends ++ ends_from op port ns) (sym (drop_more counts i d l))
    ∙ h

pub ends-some : (op : ℕ) (counts : List ℕ) → (counts ≡ [] → ⊥) → ends_from op 0 counts ≡ ends_at op counts
ends-some op [] some = absurd (some refl)
ends-some op (n ∷ counts) some = refl

-- each end so far stands so, and those that are left as before
pub hows-next : (how : How) (ends before : List End) (i : ℕ) (d y : End) → i < length ends → length ends ≡ length before → y ≡ with_how how (get_or ends i d)
    → take i ends ≡ map (with_how how) (take i before) → drop i ends ≡ drop i before
    → (take (i + 1) (set ends i y) ≡ map (with_how how) (take (i + 1) before)) × (drop (i + 1) (set ends i y) ≡ drop (i + 1) before)
hows-next how ends before i d y l same is front back =
    let lb : i < length before = omega (arith, l, same) in
    let heads : get_or ends i d ∷ drop (i + 1) ends ≡ get_or before i d ∷ drop (i + 1) before = sym (drop_more ends i d l) ∙ back ∙ drop_more before i d lb in
    let head : get_or ends i d ≡ get_or before i d = cc in
    let tail : drop (i + 1) ends ≡ drop (i + 1) before = cc in (
      take_more_set ends i y l ∙ ap (λ z. z ++ y ∷ []) front ∙ ap (λ z. map (with_how how) (take i before) ++ z ∷ []) (is ∙ ap (with_how how) head)
          ∙ sym (map-append (with_how how) (take i before) (get_or before i d ∷ []))
          ∙ ap (map (with_how how)) (sym (take_more before i d lb)),
      drop-set-lt (i + 1) ends i y (omega arith) ∙ tail,
    )
