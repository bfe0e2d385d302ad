-- Replicas of operators each event of which causes exactly one item.
use Rattle.std.proofs.Common.{◌≡◌, ◌<◌, ◌≤◌, ◌⊎◌, inl, inr, ℕ, zero, suc, ◌+◌, ◌*◌, ◌/◌, ◌%◌, ◌==◌, Bool, true, false, List, [], ◌∷◌, ◌++◌, map, length, refl, sym, ap, ◌∙◌, append_assoc, append-nil, arith, cond, subst, is_some, Option, Some, None, slice_get, div-add-mod'}
use Rattle.std.specs.Prelude.{filter}
use Rattle.std.specs.List.{AllByRecursion, enumerate_from}
use Rattle.std.proofs.lemmas.Bool.{eqb-true, cases_lt}
use Rattle.spl_value.specs.declared.item.Item.{Item}
use Rattle.spl_value.specs.declared.item.Item.TheVariants as I
use Rattle.spl_value.specs.declared.routing.Routing.TheVariants.{Turns}
use Rattle.spl_value.specs.Numbered.{Rises, closes}
use Rattle.spl_tree.specs.declared.body.Function.{Function}
use Rattle.language_model.specs.declared.checked.CheckedClauses.{CheckedClauses}
use Rattle.language_model.specs.declared.checked.PortTypes.{PortTypes}
use Rattle.spl_value.specs.Route.{part}
use Rattle.stream_model.specs.Operators.{Operator}
use Rattle.stream_model.specs.React.{body, ended}
use Rattle.stream_model.specs.Replies.{is_live}
use Rattle.stream_model.specs.Stages.{start}
use Rattle.stream_model.specs.Stream.{Event, IsPrefix, any_closes, came}
use Rattle.stream_model.proofs.Closings.{react_closed, ended_by-last}
use Rattle.stream_model.proofs.StageLaws.{one_in, one_in-parts, stage_at}
use Rattle.channel_heads.proofs.ByNumber.{Tagged}
use Rattle.channel_heads.proofs.Packets.{one_division}
use Rattle.region_laws.specs.NumberLaws.{item_numbers}
use Rattle.region_laws.specs.OneItemLaws.{GivesOne, OneLaw, RiseLaw, TurnLaw}
use Rattle.stream_model.specs.Replicas.{replica, under}
use Rattle.region_laws.proofs.Stagewise.{by_operators, stage_gives, staged}
use Rattle.region_laws.proofs.Channels.{channel_in, part-is}
use Rattle.region_laws.proofs.NumberedItems.{front_trans, items, on_channel}
use Rattle.region_laws.proofs.Unended.{acts, closed_any, ends, history_of, live_more, over-nothing}

never : {A : Type 0} → false ≡ true → A
never e = absurd cc

any_first : (y : Item) (xs : List Item) → any_closes (y ∷ []) ≡ true → any_closes (y ∷ xs) ≡ true
any_first (I.Tuple vs) xs e = never e
any_first I.Window xs e = never e
any_first I.Final xs e = refl
any_first (I.Bad f) xs e = refl

any_rest : (y : Item) (xs : List Item) → any_closes (y ∷ xs) ≡ false → any_closes xs ≡ false
any_rest (I.Tuple vs) xs e = e
any_rest I.Window xs e = e
any_rest I.Final xs e = never (sym e)
any_rest (I.Bad f) xs e = never (sym e)

final_ends : (n s : ℕ) (part : CheckedClauses) (functions : List Function) (types : PortTypes) (outs : List ℕ) (h : List Event)
    → is_some (ended (one_in n part functions types s outs) h (came 0 I.Final)) ≡ true
final_ends n s part functions types outs h = ended_by-last (one_in n part functions types s outs) (body (one_in n part functions types s outs) h (came 0 I.Final))

-- an item that closes a stream ends an operator that reads it alone
pub closing_ends : (op : Operator) (s : ℕ) → op.ins ≡ (s ∷ []) ∷ [] → (S : List Tagged) (x : Item) → closes x ≡ true → ends op S x ≡ true
closing_ends op s reads S (I.Tuple vs) h = never h
closing_ends op s reads S I.Window h = never h
closing_ends op s reads S I.Final h =
    ap (λ (one : Operator). is_some (ended one (history_of S) (came 0 I.Final))) (one_in-parts op op.clauses s op.outs refl reads refl)
    ∙ final_ends op.number s op.clauses op.functions op.types op.outs (history_of S)
closing_ends op s reads S (I.Bad f) h = refl

module _ (op : Operator) (g : GivesOne op) where
  some_out : 0 < length op.outs
  some_out = let one : length op.outs ≡ 1 = ap length g.writes in omega arith

  -- what a stage gives for one item more
  abbrev Given : List Tagged → List Tagged → List Tagged
  Given S ps = stage_gives (stage_at op (history_of S) false) ps

  one_step : (S : List Tagged) (p : Tagged) (ps : List Tagged) (y : Item) (b : Bool) → acts op S p.1 ≡ y ∷ [] → ends op S p.1 ≡ b
      → Given S (p ∷ ps) ≡ (p.0, y) ∷ stage_gives (stage_at op (history_of (p ∷ S)) b) ps
  one_step S p ps y b e d =
      ap (λ xs. under p.0 xs ++ stage_gives (stage_at op (history_of (p ∷ S)) (ends op S p.1)) ps) e
      ∙ ap (λ o. (p.0, y) ∷ stage_gives (stage_at op (history_of (p ∷ S)) o) ps) d

  pub stage_front : (S ps : List Tagged) → is_live op (history_of S) ≡ true → IsPrefix (item_numbers (Given S ps)) (item_numbers ps)
  stage_front S [] l = ([], refl)
  stage_front S (p ∷ ps) l =
      let y = g.one (history_of S) p.1 l in
      go (ends op S p.1) refl y.0 y.1 (λ e. stage_front (p ∷ S) ps (live_more op p S l e))
    where
      go : (b : Bool) → ends op S p.1 ≡ b → (y : Item) → acts op S p.1 ≡ y ∷ [] → (b ≡ false → IsPrefix (item_numbers (Given (p ∷ S) ps)) (item_numbers ps))
          → IsPrefix (item_numbers (Given S (p ∷ ps))) (p.0 ∷ item_numbers ps)
      go true d y e rest =
          (item_numbers ps, ap (λ z. item_numbers z ++ item_numbers ps) (one_step S p ps y true e d ∙ ap (λ z. (p.0, y) ∷ z) (over-nothing op (history_of (p ∷ S)) ps)))
      go false d y e rest =
          let r = rest refl in
          (r.0, ap (λ z. item_numbers z ++ r.0) (one_step S p ps y false e d) ∙ ap (λ z. p.0 ∷ z) r.1)

  pub stage_whole : (S ps : List Tagged) → is_live op (history_of S) ≡ true → any_closes (items (Given S ps)) ≡ false → item_numbers (Given S ps) ≡ item_numbers ps
  stage_whole S [] l h = refl
  stage_whole S (p ∷ ps) l h =
      let y = g.one (history_of S) p.1 l in
      go (ends op S p.1) refl y.0 y.1 (λ e. stage_whole (p ∷ S) ps (live_more op p S l e))
    where
      go : (b : Bool) → ends op S p.1 ≡ b → (y : Item) → acts op S p.1 ≡ y ∷ []
          → (b ≡ false → any_closes (items (Given (p ∷ S) ps)) ≡ false → item_numbers (Given (p ∷ S) ps) ≡ item_numbers ps) → item_numbers (Given S (p ∷ ps)) ≡ p.0 ∷ item_numbers ps
      go true d y e rest =
          never
          (sym h ∙ ap (λ z. any_closes (items z)) (one_step S p ps y true e d)
          ∙ any_first y (items (stage_gives (stage_at op (history_of (p ∷ S)) true) ps)) (ap any_closes (sym e) ∙ closed_any (acts op S p.1) (react_closed op 0 (history_of S) (came 0 p.1) some_out d)))
      go false d y e rest =
          let more = one_step S p ps y false e d in
          ap item_numbers more
          ∙ ap (λ z. p.0 ∷ z) (rest refl (any_rest y (items (Given (p ∷ S) ps)) (ap (λ z. any_closes (items z)) (sym more) ∙ h)))

  -- a stream with an item that closes ends the operator
  pub stage_ends : (S ps : List Tagged) → is_live op (history_of S) ≡ true → any_closes (items ps) ≡ true → any_closes (items (Given S ps)) ≡ true
  stage_ends S [] l h = never h
  stage_ends S (p ∷ ps) l h =
      let y = g.one (history_of S) p.1 l in
      go (ends op S p.1) refl y.0 y.1 (λ e. stage_ends (p ∷ S) ps (live_more op p S l e))
    where
      behind : (y : Item) (xs : List Item) → any_closes xs ≡ true → any_closes (y ∷ xs) ≡ true
      behind (I.Tuple vs) xs e = e
      behind I.Window xs e = e
      behind I.Final xs e = refl
      behind (I.Bad f) xs e = refl

      rest_ends : (x : Item) → ends op S x ≡ false → any_closes (x ∷ items ps) ≡ true → any_closes (items ps) ≡ true
      rest_ends (I.Tuple vs) d e = e
      rest_ends I.Window d e = e
      rest_ends I.Final d e = never (sym d ∙ closing_ends op g.input g.reads S I.Final refl)
      rest_ends (I.Bad f) d e = never (sym d ∙ closing_ends op g.input g.reads S (I.Bad f) refl)

      go : (b : Bool) → ends op S p.1 ≡ b → (y : Item) → acts op S p.1 ≡ y ∷ [] → (b ≡ false → any_closes (items ps) ≡ true → any_closes (items (Given (p ∷ S) ps)) ≡ true)
          → any_closes (items (Given S (p ∷ ps))) ≡ true
      go true d y e rest =
          ap (λ z. any_closes (items z)) (one_step S p ps y true e d)
          ∙ any_first y (items (stage_gives (stage_at op (history_of (p ∷ S)) true) ps)) (ap any_closes (sym e) ∙ closed_any (acts op S p.1) (react_closed op 0 (history_of S) (came 0 p.1) some_out d))
      go false d y e rest =
          ap (λ z. any_closes (items z)) (one_step S p ps y false e d) ∙ behind y (items (Given (p ∷ S) ps)) (rest refl (rest_ends p.1 d h))

-- ---- chains

chain_ends : (ops : List Operator) (ps : List Tagged) → AllByRecursion GivesOne ops → any_closes (items ps) ≡ true → any_closes (items (staged ops ps)) ≡ true
chain_ends [] ps g h = h
chain_ends (op ∷ ops) ps g h = chain_ends ops (stage_gives (start op) ps) g.1 (stage_ends op g.0 [] ps refl h)

open_first : (ops : List Operator) (ps : List Tagged) → AllByRecursion GivesOne ops → any_closes (items (staged ops ps)) ≡ false → any_closes (items ps) ≡ false
open_first ops ps g h = go (any_closes (items ps)) refl where
  go : (b : Bool) → any_closes (items ps) ≡ b → b ≡ false
  go true e = never (sym h ∙ chain_ends ops ps g e)
  go false e = refl

one_staged : (ops : List Operator) (ps : List Tagged) → AllByRecursion GivesOne ops
    → IsPrefix (item_numbers (staged ops ps)) (item_numbers ps) × (any_closes (items (staged ops ps)) ≡ false → item_numbers (staged ops ps) ≡ item_numbers ps)
one_staged [] ps g = (([], append-nil (item_numbers ps)), λ h. refl)
one_staged (op ∷ ops) ps g =
    let rest = one_staged ops (stage_gives (start op) ps) g.1 in (
      front_trans (item_numbers (staged (op ∷ ops) ps)) (item_numbers (stage_gives (start op) ps)) (item_numbers ps) rest.0 (stage_front op g.0 [] ps refl),
      λ h. rest.1 h ∙ stage_whole op g.0 [] ps refl (open_first ops (stage_gives (start op) ps) g.1 h),
    )

pub one_law : OneLaw
one_law ops ps g =
    subst (λ (given : List Tagged). IsPrefix (item_numbers given) (item_numbers ps) × (any_closes (items given) ≡ false → item_numbers given ≡ item_numbers ps))
    (sym (by_operators ops ps)) (one_staged ops ps g)

-- ---- turns

later_place : (q r w : ℕ) → q < r → q * w + w ≤ r * w
later_place q r w l = go (Rattle.std.proofs.Common.mul-le-mul_right w (let m : suc q ≤ r = omega arith in m)) where
  go : suc q * w ≤ r * w → q * w + w ≤ r * w
  go m = omega arith

same_place : (q r w c : ℕ) → q * w + c ≤ r * w + c → r * w + c < q * w + c + w → q ≡ r
same_place q r w c lo hi = go (cases_lt q r) (cases_lt r q) where
  go : (q < r) ⊎ (r ≤ q) → (r < q) ⊎ (q ≤ r) → q ≡ r
  go (inl l) _ = let m = later_place q r w l in absurd (omega arith)
  go (inr a) (inl l) = let m = later_place r q w l in absurd (omega arith)
  go (inr a) (inr b) = omega arith

abbrev in_turn : ℕ → ℕ → ℕ → List Item → List Tagged
in_turn w c n L = filter (λ (p : Tagged). p.0 % w == c) (enumerate_from n L)

turn_at : (w c : ℕ) → c < w → (L : List Item) (n r : ℕ) → n ≤ r * w + c → r * w + c < n + w → (k : ℕ) (p : Tagged) → slice_get (in_turn w c n L) k ≡ Some p → p.0 ≡ (k + r) * w + c
turn_at w c lt [] n r lo hi k p at = absurd (let no : None ≡ Some p = at in cc)
turn_at w c lt (x ∷ L) n r lo hi k p at = go (n % w == c) refl k at (λ s below above j h. turn_at w c lt L (n + 1) s below above j p h) where
  parts : (n / w) * w + n % w ≡ n
  parts = div-add-mod' n w

  here : (n % w == c) ≡ true → n ≡ r * w + c
  here e =
      let m : n % w ≡ c = eqb-true (n % w) c e in
      let is : n ≡ (n / w) * w + c = sym parts ∙ ap (λ z. (n / w) * w + z) m in
      is ∙ ap (λ q. q * w + c) (same_place (n / w) r w c (omega arith) (omega arith))

  elsewhere : (n % w == c) ≡ false → n ≡ r * w + c → ⊥
  elsewhere e is =
      let both = one_division w (n / w) r (n % w) c (Rattle.std.proofs.Common.mod-lt n (let z : 0 < w = omega arith in z)) lt (parts ∙ is) in
      let no : true ≡ false = sym (Rattle.std.proofs.Common.eq-eqb (n % w) c both.1) ∙ e in cc

  go : (b : Bool) → (n % w == c) ≡ b → (k : ℕ) → slice_get (cond b ((n, x) ∷ in_turn w c (n + 1) L) (in_turn w c (n + 1) L)) k ≡ Some p
      → ((s : ℕ) → n + 1 ≤ s * w + c → s * w + c < n + 1 + w → (j : ℕ) → slice_get (in_turn w c (n + 1) L) j ≡ Some p → p.0 ≡ (j + s) * w + c) → p.0 ≡ (k + r) * w + c
  go true e zero at rest =
      let same : p.0 ≡ n = ap (λ o. Rattle.std.specs.Option.option_map_or (λ (t : Tagged). t.0) o n) (sym at) in
      same ∙ here e ∙ ap (λ z. z * w + c) (let z : r ≡ 0 + r = omega arith in z)
  go true e (suc k) at rest =
      let is = here e in
      rest (suc r) (omega arith) (omega arith) k at ∙ (let m : (k + suc r) * w + c ≡ (suc k + r) * w + c = ap (λ z. z * w + c) (let s : k + suc r ≡ suc k + r = omega arith in s) in m)
  go false e k at rest =
      let off : n < r * w + c = omega (arith, elsewhere e) in
      rest r (omega arith) (omega arith) k at

number_at : (ps : List Tagged) (k : ℕ) (p : Tagged) → slice_get ps k ≡ Some p → slice_get (item_numbers ps) k ≡ Some p.0
number_at [] k p at = absurd (let no : None ≡ Some p = at in cc)
number_at (q ∷ ps) zero p at = ap (λ o. Rattle.std.proofs.Common.option_map (λ (t : Tagged). t.0) o) at
number_at (q ∷ ps) (suc k) p at = number_at ps k p at

at_number : (ps : List Tagged) (k n : ℕ) → slice_get (item_numbers ps) k ≡ Some n → (p : Tagged) × (slice_get ps k ≡ Some p) × (p.0 ≡ n)
at_number [] k n at = absurd (let no : None ≡ Some n = at in cc)
at_number (q ∷ ps) zero n at = (q, refl, (let same : q.0 ≡ n = cc in same))
at_number (q ∷ ps) (suc k) n at = at_number ps k n at

pub turn_law : TurnLaw
turn_law ops width c L k p g lt at =
    let front = (one_law ops (part Turns width L c) g).0 in
    let there = ap (λ ns. slice_get ns k) (sym front.1)
    ∙ Rattle.spl_value.proofs.Lists.append_front (item_numbers (replica ops (part Turns width L c))) front.0 k p.0 (number_at (replica ops (part Turns width L c)) k p at) in
    let first = at_number (part Turns width L c) k p.0 there in
    sym first.2 ∙ turn_at width c lt L 0 0 (omega arith) (omega arith) k first.0 first.1 ∙ ap (λ z. z * width + c) (let z : k + 0 ≡ k = omega arith in z)

-- ---- rising numbers

rises-weak : (lo hi : ℕ) (ns : List ℕ) → lo ≤ hi → Rises hi ns → Rises lo ns
rises-weak lo hi [] l r = tt
rises-weak lo hi (n ∷ ns) l r = (let m : hi ≤ n = r.0 in omega arith, r.1)

pub rises-channel : (channel_at : ℕ → ℕ) (c n : ℕ) (L : List Item) → Rises n (item_numbers (on_channel channel_at c (enumerate_from n L)))
rises-channel channel_at c n [] = tt
rises-channel channel_at c n (x ∷ L) = go (channel_at n == c) (subst (λ m. Rises m (item_numbers (on_channel channel_at c (enumerate_from (n + 1) L)))) (let z : n + 1 ≡ suc n = omega arith in z) (rises-channel channel_at c (n + 1) L)) where
  go : (b : Bool) → Rises (suc n) (item_numbers (on_channel channel_at c (enumerate_from (n + 1) L)))
      → Rises n (item_numbers (cond b ((n, x) ∷ on_channel channel_at c (enumerate_from (n + 1) L)) (on_channel channel_at c (enumerate_from (n + 1) L))))
  go true r = (omega arith, r)
  go false r = rises-weak n (suc n) (item_numbers (on_channel channel_at c (enumerate_from (n + 1) L))) (omega arith) r

rises-front : (lo : ℕ) (ms ns : List ℕ) → Rises lo (ms ++ ns) → Rises lo ms
rises-front lo [] ns r = tt
rises-front lo (m ∷ ms) ns r = (r.0, rises-front (suc m) ms ns r.1)

pub rise_law : RiseLaw
rise_law ops routing width c L g =
    let front = (one_law ops (part routing width L c) g).0 in
    rises-front 0 (item_numbers (replica ops (part routing width L c))) front.0
    (subst (Rises 0) (sym (front.1 ∙ ap item_numbers (part-is routing width c L))) (rises-channel (channel_in routing width L) c 0 L))
