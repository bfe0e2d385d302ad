-- One step of an expansion, an operator or the body of a composite, keeps operators in the order of the text.
use Rattle.std.specs.Prelude.{◌≡◌, ◌⊎◌, ◌<◌, ◌≤◌, ℕ, suc, List, [], ◌∷◌, ◌++◌, length, Some, slice_get, true}
use Rattle.std.proofs.Common.{refl, sym, ap, ◌∙◌, subst, arith, inl, inr, append_assoc}
use Rattle.std.proofs.lemmas.Bool.{cases_lt}
use Rattle.std.proofs.lemmas.Option.{same_Some, slice_get_within}
use Rattle.std.proofs.lemmas.List.{length-append}
use Rattle.spl_tree.specs.declared.graph.OpKind.{OpKind}
use Rattle.spl_tree.specs.declared.graph.Site.{Site}
use Rattle.spl_tree.specs.declared.unit.Composite.{Composite}
use Rattle.spl_tree.specs.declared.unit.Definition.{Definition}
use Rattle.spl_tree.specs.declared.unit.Invocation.{Invocation}
use Rattle.language_model.specs.declared.expansion.Operation.{Operation}
use Rattle.language_model.specs.Expansion.{Made, Inlined, Opened, operation, inlined, opened_in}
use Rattle.language_model.proofs.parts.Expansion.{site_in, with_operation}
use Rattle.language_model.specs.parts.Expansion.{with_expansion}
use Rattle.language_model.specs.Invoking.{Operator, Body, target_of, fits_head}
use Rattle.language_model.specs.Scopes.{At}
use Rattle.graph_laws.proofs.Inlining.{Grows}
use Rattle.spl_value.proofs.Lists.{append_cases, get_below, append_front, append_last}
use Rattle.expansion_laws.specs.Bodies.{IsBefore}
use Rattle.expansion_laws.proofs.Growing.{LiesIn, body_lies, lies_on, IsReadable, IsInner, IsWired, wired_inner, wired_on, AreWired, IsSet, set_on, IsParted, parted_on, AreApart, apart_on, IsLying, IsInOrder}
use Rattle.graph_laws.proofs.KeptInvocations.{past_end}

-- ---- ways

-- where two equal lists have the same front, the next elements are the same
pub same_next : (pp : List ℕ) (m n : ℕ) (rest others : List ℕ) → pp ++ m ∷ rest ≡ pp ++ n ∷ others → m ≡ n
same_next [] m n rest others e = cc
same_next (x ∷ pp) m n rest others e = let h : pp ++ m ∷ rest ≡ pp ++ n ∷ others = cc in same_next pp m n rest others h

pub not_longer : (xs : List ℕ) (m : ℕ) (rest : List ℕ) → xs ≡ xs ++ m ∷ rest → ⊥
not_longer xs m rest e = let h : length xs ≡ length (xs ++ m ∷ rest) = ap length e in omega (arith, length-append xs (m ∷ rest))

-- ---- what stands in front of an invocation

-- an operator stands in front of all that the body at a way has from an invocation on
pub record OpAhead (es : List Inlined) (pp : List ℕ) (number : ℕ) (o : Operation) : Type 0 where
  pub way : List ℕ
  pub prefix : List ℕ
  pub lies : LiesIn es o.site.expansion way prefix
  pub before : (m : ℕ) (rest : List ℕ) → number ≤ m → IsBefore (way ++ o.site.invocation ∷ []) (pp ++ m ∷ rest)

-- a body isn't among what the body at a way has from an invocation on
pub record BodyAhead (es : List Inlined) (pp : List ℕ) (number k : ℕ) : Type 0 where
  pub way : List ℕ
  pub prefix : List ℕ
  pub lies : LiesIn es k way prefix
  pub apart : (m : ℕ) (rest : List ℕ) → number ≤ m → way ≡ pp ++ m ∷ rest → ⊥

pub record IsReady (made : Made) (pp : List ℕ) (number : ℕ) : Type 0 where
  pub ops : (n : ℕ) (o : Operation) → slice_get made.ops n ≡ Some o → OpAhead made.expansions pp number o
  pub bodies : (k : ℕ) (e : Inlined) → slice_get made.expansions k ≡ Some e → BodyAhead made.expansions pp number k

-- the body that is being expanded
pub record IsOpen (made : Made) (p : Opened) (pp : List ℕ) : Type 0 where
  pub stands : slice_get made.expansions p.number ≡ Some p.body
  pub lies : LiesIn made.expansions p.number pp p.prefix

pub open_on : (x y : Made) (p : Opened) (pp : List ℕ) → Grows x.expansions y.expansions → IsOpen x p pp → IsOpen y p pp
open_on x y p pp grows o = record { stands = grows p.number p.body o.stands; lies = lies_on x.expansions y.expansions grows p.number pp p.prefix o.lies }

-- ---- what is new

-- an operator lies in an invocation of the body at a way, from one on and in front of another
pub record OpUnder (es : List Inlined) (pp : List ℕ) (from to : ℕ) (o : Operation) : Type 0 where
  pub way : List ℕ
  pub prefix : List ℕ
  pub m : ℕ
  pub rest : List ℕ
  pub lies : LiesIn es o.site.expansion way prefix
  pub is : way ++ o.site.invocation ∷ [] ≡ pp ++ m ∷ rest
  pub low : from ≤ m
  pub high : m < to

pub record BodyUnder (es : List Inlined) (pp : List ℕ) (from to k : ℕ) : Type 0 where
  pub way : List ℕ
  pub prefix : List ℕ
  pub m : ℕ
  pub rest : List ℕ
  pub lies : LiesIn es k way prefix
  pub is : way ≡ pp ++ m ∷ rest
  pub low : from ≤ m
  pub high : m < to

abbrev site : ℕ → ℕ → Site
site k n = record { expansion = k; invocation = n }

-- what becomes of an invocation
pub data Comes (unit : List Definition) (made : Made) (s : Site) (i : Invocation) : Type 0 where
  is_operator : (n : ℕ) (o : Operation) → slice_get made.ops n ≡ Some o → o.site ≡ s → Comes unit made s i
  is_body : (k : ℕ) (e : Inlined) → slice_get made.expansions k ≡ Some e → e.site ≡ Some s → target_of unit i.operator.what ≡ Body e.composite → Comes unit made s i
  makes_no_stream : length i.outputs ≡ 0 → Comes unit made s i

abbrev pub IsDone : List Definition → Made → ℕ → Inlined → Type 0
IsDone unit made k e = (n : ℕ) (i : Invocation) → slice_get e.composite.what.graph n ≡ Some i → Comes unit made (site k n) i

abbrev pub GrowsOps : Made → Made → Type 0
GrowsOps x y = (n : ℕ) (o : Operation) → slice_get x.ops n ≡ Some o → slice_get y.ops n ≡ Some o

-- what comes of invocations of the body at a way, from one on and in front of another
pub record Adds (unit : List Definition) (pp : List ℕ) (from to : ℕ) (before next : Made) : Type 0 where
  pub in_order : IsInOrder unit next
  pub ops : GrowsOps before next
  pub count : length before.ops ≤ length next.ops
  pub bodies : Grows before.expansions next.expansions
  pub new_ops : (n : ℕ) (o : Operation) → slice_get next.ops n ≡ Some o → (slice_get before.ops n ≡ Some o) ⊎ OpUnder next.expansions pp from to o
  pub new_bodies : (k : ℕ) (e : Inlined) → slice_get next.expansions k ≡ Some e
      → (slice_get before.expansions k ≡ Some e) ⊎ BodyUnder next.expansions pp from to k
  pub done : (k : ℕ) (e : Inlined) → length before.expansions ≤ k → slice_get next.expansions k ≡ Some e → IsDone unit next k e

pub comes_on : (unit : List Definition) (x y : Made) (s : Site) (i : Invocation) → GrowsOps x y → Grows x.expansions y.expansions → Comes unit x s i → Comes unit y s i
comes_on unit x y s i ops bodies (is_operator n o at is) = is_operator n o (ops n o at) is
comes_on unit x y s i ops bodies (is_body k e at is target) = is_body k e (bodies k e at) is target
comes_on unit x y s i ops bodies (makes_no_stream none) = makes_no_stream none

pub adds_none : (unit : List Definition) (pp : List ℕ) (from to : ℕ) (made : Made) → IsInOrder unit made → Adds unit pp from to made made
adds_none unit pp from to made in_order = record {
  in_order = in_order;
  ops = λ n o at. at;
  count = omega arith;
  bodies = λ k e at. at;
  new_ops = λ n o at. inl at;
  new_bodies = λ k e at. inl at;
  done = λ k e le at. absurd (past_end made.expansions k e le at);
}

-- ---- one after the other

op_under_on : (xs ys : List Inlined) (pp : List ℕ) (a b c d : ℕ) (o : Operation) → Grows xs ys → c ≤ a → b ≤ d → OpUnder xs pp a b o → OpUnder ys pp c d o
op_under_on xs ys pp a b c d o grows low high u = record {
  way = u.way;
  prefix = u.prefix;
  m = u.m;
  rest = u.rest;
  lies = lies_on xs ys grows o.site.expansion u.way u.prefix u.lies;
  is = u.is;
  low = omega (arith, u.low);
  high = omega (arith, u.high);
}

body_under_on : (xs ys : List Inlined) (pp : List ℕ) (a b c d k : ℕ) → Grows xs ys → c ≤ a → b ≤ d → BodyUnder xs pp a b k → BodyUnder ys pp c d k
body_under_on xs ys pp a b c d k grows low high u = record {
  way = u.way;
  prefix = u.prefix;
  m = u.m;
  rest = u.rest;
  lies = lies_on xs ys grows k u.way u.prefix u.lies;
  is = u.is;
  low = omega (arith, u.low);
  high = omega (arith, u.high);
}

pub adds_on : (unit : List Definition) (pp : List ℕ) (a b c : ℕ) (x y z : Made) → a ≤ b → b ≤ c → Adds unit pp a b x y → Adds unit pp b c y z → Adds unit pp a c x z
adds_on unit pp a b c x y z low high f g = record {
  in_order = g.in_order;
  ops = λ n o at. g.ops n o (f.ops n o at);
  count = omega (arith, f.count, g.count);
  bodies = λ k e at. g.bodies k e (f.bodies k e at);
  new_ops = new_ops;
  new_bodies = new_bodies;
  done = done;
}
  where
    new_ops : (n : ℕ) (o : Operation) → slice_get z.ops n ≡ Some o → (slice_get x.ops n ≡ Some o) ⊎ OpUnder z.expansions pp a c o
    new_ops n o at = elim (g.new_ops n o at) [
      | inl old ↦ elim (f.new_ops n o old) [ inl older ↦ inl older | inr u ↦ inr (op_under_on y.expansions z.expansions pp a b a c o g.bodies (omega arith) high u) ]
      | inr u ↦ inr (op_under_on z.expansions z.expansions pp b c a c o (λ k e is. is) low (omega arith) u)
    ]

    new_bodies : (k : ℕ) (e : Inlined) → slice_get z.expansions k ≡ Some e → (slice_get x.expansions k ≡ Some e) ⊎ BodyUnder z.expansions pp a c k
    new_bodies k e at = elim (g.new_bodies k e at) [
      | inl old ↦ elim (f.new_bodies k e old) [ inl older ↦ inl older | inr u ↦ inr (body_under_on y.expansions z.expansions pp a b a c k g.bodies (omega arith) high u) ]
      | inr u ↦ inr (body_under_on z.expansions z.expansions pp b c a c k (λ k e is. is) low (omega arith) u)
    ]

    done : (k : ℕ) (e : Inlined) → length x.expansions ≤ k → slice_get z.expansions k ≡ Some e → IsDone unit z k e
    done k e le at = elim (cases_lt k (length y.expansions)) [
      | inl lt ↦ elim (g.new_bodies k e at) [
        | inl old ↦ (λ n i there. comes_on unit y z (site k n) i g.ops g.bodies (f.done k e le old n i there))
        | inr u ↦ (
            let h = get_below y.expansions k lt in
            let same : h.0 ≡ e = same_Some h.0 e (sym (g.bodies k h.0 h.1) ∙ at) in
            subst (IsDone unit z k) same (λ n i within. comes_on unit y z (site k n) i g.ops g.bodies (f.done k h.0 le h.1 n i within)))
      ]
      | inr ge ↦ g.done k e ge at
    ]

pub ready_on : (unit : List Definition) (pp : List ℕ) (a b : ℕ) (x y : Made) → a ≤ b → Adds unit pp a b x y → IsReady x pp a → IsReady y pp b
ready_on unit pp a b x y le f r = record { ops = ops; bodies = bodies }
  where
    ops : (n : ℕ) (o : Operation) → slice_get y.ops n ≡ Some o → OpAhead y.expansions pp b o
    ops n o at = elim (f.new_ops n o at) [
      | inl old ↦ (
          let h = r.ops n o old in
          record {
            way = h.way;
            prefix = h.prefix;
            lies = lies_on x.expansions y.expansions f.bodies o.site.expansion h.way h.prefix h.lies;
            before = λ m rest more. h.before m rest (omega arith);
          })
      | inr u ↦ record {
        way = u.way;
        prefix = u.prefix;
        lies = u.lies;
        before = λ m rest more. record { common = pp; m = u.m; n = m; rest = u.rest; others = rest; first = u.is; second = refl; less = omega (arith, u.high) };
      }
    ]

    bodies : (k : ℕ) (e : Inlined) → slice_get y.expansions k ≡ Some e → BodyAhead y.expansions pp b k
    bodies k e at = elim (f.new_bodies k e at) [
      | inl old ↦ (
          let h = r.bodies k e old in
          record {
            way = h.way;
            prefix = h.prefix;
            lies = lies_on x.expansions y.expansions f.bodies k h.way h.prefix h.lies;
            apart = λ m rest more. h.apart m rest (omega arith);
          })
      | inr u ↦ record {
        way = u.way;
        prefix = u.prefix;
        lies = u.lies;
        apart = λ m rest more is. (let same : u.m ≡ m = same_next pp u.m m u.rest rest (sym u.is ∙ is) in absurd (omega (arith, u.high)));
      }
    ]

-- ---- an operator

module _ (unit : List Definition) (p : Opened) (pp : List ℕ) (number : ℕ) (i : Invocation) (kind : OpKind) (before : Made) (in_order : IsInOrder unit before)
    (open_body : IsOpen before p pp) (ready : IsReady before pp number) (there : slice_get p.body.composite.what.graph number ≡ Some i)
    (target : target_of unit i.operator.what ≡ Operator kind) (readable : IsReadable p.body.composite.what i) where
  abbrev new_op : Operation
  new_op = operation before.expansions p number i kind

  abbrev longer : Made
  longer = with_operation new_op before

  new_is_set : IsSet unit before.expansions new_op
  new_is_set = record {
    body = p.body;
    invocation = i;
    in_bodies = open_body.stands;
    in_graph = there;
    target = target;
    way = pp;
    prefix = p.prefix;
    lies = open_body.lies;
    name = refl;
    ins = refl;
    outputs = refl;
    readable = readable;
  }

  set_longer : (n : ℕ) (o : Operation) → slice_get longer.ops n ≡ Some o → IsSet unit before.expansions o
  set_longer n o at = elim (append_cases before.ops new_op n o at) [ inl old ↦ in_order.set n o old | inr h ↦ subst (IsSet unit before.expansions) h.1 new_is_set ]

  parted_longer : (m n : ℕ) (o q : Operation) → m < n → slice_get longer.ops m ≡ Some o → slice_get longer.ops n ≡ Some q → IsParted before.expansions o q
  parted_longer m n o q lt at_m at_n = elim (append_cases before.ops new_op n q at_n) [
    | inl old ↦ elim (append_cases before.ops new_op m o at_m) [
      | inl older ↦ in_order.parted m n o q lt older old
      | inr h ↦ (let less = slice_get_within before.ops n q old in absurd (omega (arith, h.0)))
    ]
    | inr h ↦ elim (append_cases before.ops new_op m o at_m) [
      | inl older ↦ (
          let a = ready.ops m o older in
          subst (IsParted before.expansions o) h.1 record {
            first = a.way;
            first_prefix = a.prefix;
            second = pp;
            second_prefix = p.prefix;
            first_lies = a.lies;
            second_lies = open_body.lies;
            before = a.before number [] (omega arith);
          })
      | inr j ↦ absurd (omega (arith, h.0, j.0))
    ]
  ]

  pub adds_operator : Adds unit pp number (suc number) before longer
  adds_operator = record {
    in_order = record { wired = in_order.wired; lies = in_order.lies; set = set_longer; parted = parted_longer; apart = in_order.apart };
    ops = append_front before.ops (new_op ∷ []);
    count = omega (arith, length-append before.ops (new_op ∷ []));
    bodies = λ k e at. at;
    new_ops = new_ops;
    new_bodies = λ k e at. inl at;
    done = λ k e le at. absurd (past_end before.expansions k e le at);
  }
    where
      new_ops : (n : ℕ) (o : Operation) → slice_get longer.ops n ≡ Some o → (slice_get before.ops n ≡ Some o) ⊎ OpUnder before.expansions pp number (suc number) o
      new_ops n o at = elim (append_cases before.ops new_op n o at) [
        | inl old ↦ inl old
        | inr h ↦ inr (subst (OpUnder before.expansions pp number (suc number)) h.1 record {
          way = pp;
          prefix = p.prefix;
          m = number;
          rest = [];
          lies = open_body.lies;
          is = refl;
          low = omega arith;
          high = omega arith;
        })
      ]

  pub operator_comes : Comes unit longer (site_in p number) i
  operator_comes = is_operator (length before.ops) new_op (append_last before.ops new_op) refl

  pub operator_grows : length before.ops ≡ length longer.ops → ⊥
  operator_grows same = omega (arith, length-append before.ops (new_op ∷ []), same)

-- ---- a body that is opened

module _ (unit : List Definition) (p : Opened) (pp : List ℕ) (number : ℕ) (i : Invocation) (c : At Composite) (before : Made) (in_order : IsInOrder unit before)
    (open_body : IsOpen before p pp) (ready : IsReady before pp number) (there : slice_get p.body.composite.what.graph number ≡ Some i)
    (target : target_of unit i.operator.what ≡ Body c) (fits : fits_head c.what i ≡ true) (readable : IsReadable p.body.composite.what i) where
  abbrev pub new_body : Inlined
  new_body = inlined p number c

  abbrev pub opened : Made
  opened = with_expansion new_body before

  abbrev pub way_in : List ℕ
  way_in = pp ++ number ∷ []

  longer_bodies : Grows before.expansions opened.expansions
  longer_bodies = append_front before.expansions (new_body ∷ [])

  body_stands : slice_get opened.expansions (length before.expansions) ≡ Some new_body
  body_stands = append_last before.expansions new_body

  inner : IsInner unit opened.expansions (length before.expansions) (site_in p number) new_body
  inner = record {
    before = slice_get_within before.expansions p.number p.body open_body.stands;
    outer = p.body;
    outer_at = longer_bodies p.number p.body open_body.stands;
    invocation = i;
    invoked = there;
    target = target;
    fits = fits;
    readable = readable;
  }

  new_lies : LiesIn opened.expansions (length before.expansions) way_in (opened_in p number i c before).prefix
  new_lies =
      body_lies (length before.expansions) new_body p.body (site_in p number) i pp p.prefix body_stands refl (longer_bodies p.number p.body open_body.stands) there
      (lies_on before.expansions opened.expansions longer_bodies p.number pp p.prefix open_body.lies)

  wired_opened : AreWired unit opened.expansions
  wired_opened k e at = elim (append_cases before.expansions new_body k e at) [
    | inl old ↦ wired_on unit before.expansions opened.expansions longer_bodies k e (in_order.wired k e old)
    | inr h ↦ (
        let wired = wired_inner (site_in p number) refl inner in
        subst (IsWired unit opened.expansions k) h.1 (subst (λ (n : ℕ). IsWired unit opened.expansions n new_body) (sym h.0) wired))
  ]

  lies_opened : (k : ℕ) (e : Inlined) → slice_get opened.expansions k ≡ Some e → IsLying opened.expansions k
  lies_opened k e at = elim (append_cases before.expansions new_body k e at) [
    | inl old ↦ (
        let h = in_order.lies k e old in
        record { way = h.way; prefix = h.prefix; lies = lies_on before.expansions opened.expansions longer_bodies k h.way h.prefix h.lies })
    | inr h ↦ subst (λ (n : ℕ). IsLying opened.expansions n) (sym h.0) record { way = way_in; prefix = (opened_in p number i c before).prefix; lies = new_lies }
  ]

  apart_opened : (j l : ℕ) (e d : Inlined) → j < l → slice_get opened.expansions j ≡ Some e → slice_get opened.expansions l ≡ Some d → AreApart opened.expansions j l
  apart_opened j l e d lt at_j at_l = elim (append_cases before.expansions new_body l d at_l) [
    | inl old ↦ elim (append_cases before.expansions new_body j e at_j) [
      | inl older ↦ apart_on before.expansions opened.expansions longer_bodies j l (in_order.apart j l e d lt older old)
      | inr h ↦ (let less = slice_get_within before.expansions l d old in absurd (omega (arith, h.0)))
    ]
    | inr h ↦ elim (append_cases before.expansions new_body j e at_j) [
      | inl older ↦ (
          let a = ready.bodies j e older in
          subst (λ (n : ℕ). AreApart opened.expansions j n) (sym h.0) record {
            first = a.way;
            first_prefix = a.prefix;
            second = way_in;
            second_prefix = (opened_in p number i c before).prefix;
            first_lies = lies_on before.expansions opened.expansions longer_bodies j a.way a.prefix a.lies;
            second_lies = new_lies;
            apart = a.apart number [] (omega arith);
          })
      | inr g ↦ absurd (omega (arith, h.0, g.0))
    ]
  ]

  pub opened_in_order : IsInOrder unit opened
  opened_in_order = record {
    wired = wired_opened;
    lies = lies_opened;
    set = λ n o at. set_on unit before.expansions opened.expansions longer_bodies in_order.wired o (in_order.set n o at);
    parted = λ m n o q lt at_m at_n. parted_on before.expansions opened.expansions longer_bodies o q (in_order.parted m n o q lt at_m at_n);
    apart = apart_opened;
  }

  pub opened_open : IsOpen opened (opened_in p number i c before) way_in
  opened_open = record { stands = body_stands; lies = new_lies }

  pub opened_ready : IsReady opened way_in 0
  opened_ready = record { ops = ops; bodies = bodies }
    where
      one_way : (m : ℕ) (rest : List ℕ) → way_in ++ m ∷ rest ≡ pp ++ number ∷ (m ∷ rest)
      one_way m rest = append_assoc pp (number ∷ []) (m ∷ rest)

      ops : (n : ℕ) (o : Operation) → slice_get opened.ops n ≡ Some o → OpAhead opened.expansions way_in 0 o
      ops n o at =
          let h = ready.ops n o at in
          record {
            way = h.way;
            prefix = h.prefix;
            lies = lies_on before.expansions opened.expansions longer_bodies o.site.expansion h.way h.prefix h.lies;
            before = λ m rest more. subst (IsBefore (h.way ++ o.site.invocation ∷ [])) (sym (one_way m rest)) (h.before number (m ∷ rest) (omega arith));
          }

      bodies : (k : ℕ) (e : Inlined) → slice_get opened.expansions k ≡ Some e → BodyAhead opened.expansions way_in 0 k
      bodies k e at = elim (append_cases before.expansions new_body k e at) [
        | inl old ↦ (
            let h = ready.bodies k e old in
            record {
              way = h.way;
              prefix = h.prefix;
              lies = lies_on before.expansions opened.expansions longer_bodies k h.way h.prefix h.lies;
              apart = λ m rest more is. h.apart number (m ∷ rest) (omega arith) (is ∙ one_way m rest);
            })
        | inr h ↦ subst (λ (n : ℕ). BodyAhead opened.expansions way_in 0 n) (sym h.0) record {
          way = way_in;
          prefix = (opened_in p number i c before).prefix;
          lies = new_lies;
          apart = λ m rest more is. not_longer way_in m rest is;
        }
      ]

  -- what comes of it, where some operator does
  module _ (to : ℕ) (made : Made) (f : Adds unit way_in 0 to opened made) (done : IsDone unit made (length before.expansions) new_body) where
    pub adds_body : Adds unit pp number (suc number) before made
    adds_body = record {
      in_order = f.in_order;
      ops = f.ops;
      count = f.count;
      bodies = λ k e at. f.bodies k e (longer_bodies k e at);
      new_ops = new_ops;
      new_bodies = new_bodies;
      done = all_done;
    }
      where
        new_ops : (n : ℕ) (o : Operation) → slice_get made.ops n ≡ Some o → (slice_get before.ops n ≡ Some o) ⊎ OpUnder made.expansions pp number (suc number) o
        new_ops n o at = elim (f.new_ops n o at) [
          | inl old ↦ inl old
          | inr u ↦ inr record {
            way = u.way;
            prefix = u.prefix;
            m = number;
            rest = u.m ∷ u.rest;
            lies = u.lies;
            is = u.is ∙ append_assoc pp (number ∷ []) (u.m ∷ u.rest);
            low = omega arith;
            high = omega arith;
          }
        ]

        new_bodies : (k : ℕ) (e : Inlined) → slice_get made.expansions k ≡ Some e
            → (slice_get before.expansions k ≡ Some e) ⊎ BodyUnder made.expansions pp number (suc number) k
        new_bodies k e at = elim (f.new_bodies k e at) [
          | inl old ↦ elim (append_cases before.expansions new_body k e old) [
            | inl older ↦ inl older
            | inr h ↦ inr (subst (λ (n : ℕ). BodyUnder made.expansions pp number (suc number) n) (sym h.0) record {
              way = way_in;
              prefix = (opened_in p number i c before).prefix;
              m = number;
              rest = [];
              lies = lies_on opened.expansions made.expansions f.bodies (length before.expansions) way_in (opened_in p number i c before).prefix new_lies;
              is = refl;
              low = omega arith;
              high = omega arith;
            })
          ]
          | inr u ↦ inr record {
            way = u.way;
            prefix = u.prefix;
            m = number;
            rest = u.m ∷ u.rest;
            lies = u.lies;
            is = u.is ∙ append_assoc pp (number ∷ []) (u.m ∷ u.rest);
            low = omega arith;
            high = omega arith;
          }
        ]

        all_done : (k : ℕ) (e : Inlined) → length before.expansions ≤ k → slice_get made.expansions k ≡ Some e → IsDone unit made k e
        all_done k e le at = elim (cases_lt (length before.expansions) k) [
          | inl lt ↦ f.done k e (omega (arith, length-append before.expansions (new_body ∷ []))) at
          | inr ge ↦ (
              let here : length before.expansions ≡ k = omega arith in
              let at_body : slice_get made.expansions (length before.expansions) ≡ Some new_body = f.bodies (length before.expansions) new_body body_stands in
              let same : new_body ≡ e = same_Some new_body e (sym at_body ∙ ap (slice_get made.expansions) here ∙ at) in
              subst (λ (n : ℕ). IsDone unit made n e) here (subst (IsDone unit made (length before.expansions)) same done))
        ]

    pub body_comes : Comes unit made (site_in p number) i
    body_comes = is_body (length before.expansions) new_body (f.bodies (length before.expansions) new_body body_stands) refl target
