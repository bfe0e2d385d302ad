-- What was expanded: each body is that of a composite, and stands after the one in which it is invoked; each operator is that of
-- an invocation in a body, and takes what names meant when it was added; and there are not too many.
use Rattle.std.specs.Prelude.{◌≡◌, ◌+◌, ◌==◌, ◌<◌, ◌⊎◌, ℕ, zero, suc, List, [], ◌∷◌, ◌++◌, length, Option, Some, None, Ok, Err, slice_get, if◌then◌else◌, true, false}
use Rattle.std.specs.Str.{bytes_eq}
use Rattle.std.proofs.Common.{refl, sym, ap, ◌∙◌, subst, arith, inl, inr, append_assoc}
use Rattle.std.proofs.lemmas.List.{length-map, append-nil}
use Rattle.std.proofs.lemmas.Option.{slice_get_within}
use Rattle.spl_tree.specs.declared.expression.Placed.{Placed}
use Rattle.spl_tree.specs.declared.graph.Expansion.{Expansion}
use Rattle.spl_tree.specs.declared.graph.Graph.{Graph}
use Rattle.spl_tree.specs.declared.graph.OpKind.{OpKind}
use Rattle.spl_tree.specs.declared.graph.Site.{Site}
use Rattle.spl_tree.specs.declared.unit.Composite.{Composite}
use Rattle.spl_tree.specs.declared.unit.Definition.{Definition}
use Rattle.spl_tree.specs.declared.unit.Invocation.{Invocation}
use Rattle.spl_tree.specs.Trees.{placed}
use Rattle.language_model.specs.declared.expansion.ExpansionError.TheVariants as E
use Rattle.language_model.specs.Refusals.{named_refusal, unnamed_refusal}
use Rattle.language_model.specs.Composites.{composites, composite_named}
use Rattle.language_model.specs.Declarations.{first_of}
use Rattle.language_model.specs.declared.expansion.Operation.{Operation}
use Rattle.language_model.specs.Expansion.{Made, Expanded, Inlined, Opened, Expands, after, operation, if_within, inlined, opened_in, expanded_target, expanded_invocation, expanded_graph, expanded, main_body, expanded_main}
use Rattle.language_model.proofs.parts.Expansion.{with_operation, if_declared}
use Rattle.language_model.specs.parts.Expansion.{is_within, with_expansion, if_grown, ports_of}
use Rattle.language_model.proofs.parts.Flat.{graph_of}
use Rattle.language_model.specs.FlatLaws.{IsInvoked, OperatorLaw}
use Rattle.language_model.specs.Kinds.{kind_named}
use Rattle.language_model.specs.Invoking.{Target, Operator, Body, Nothing, target_of, undeclared, fits_head}
use Rattle.language_model.proofs.parts.Invoking.{body_or_operator, operator_or_nothing}
use Rattle.language_model.specs.Numbering.{ops_from, expansions_from}
use Rattle.language_model.proofs.parts.Numbering.{op_of, expansion_of}
use Rattle.language_model.specs.Scopes.{At}
use Rattle.graph_laws.proofs.Flattening.{topo_of, made_of, numbers_length}
use Rattle.language_model.proofs.Options.{mapped}
use Rattle.language_model.proofs.Standing as F
use Rattle.language_model.proofs.Standing.{first_stands}
use Rattle.graph_laws.proofs.ExpansionAnswers.{op_at}
use Rattle.language_model.proofs.FoundAnswers.{after_gives, same_Ok}
use Rattle.spl_value.proofs.Lists.{append_front, append_last}

-- ---- what stands in what was made

-- a composite of the unit
abbrev pub IsIn : List Definition → Inlined → Type 0
IsIn unit e = slice_get (composites unit) e.composite.place ≡ Some e.composite.what

-- an operator, and the invocation in a body that it is of
pub record Stands (unit : List Definition) (bodies : List Inlined) (o : Operation) : Type 0 where
  pub body : Inlined
  pub invocation : Invocation
  pub in_bodies : slice_get bodies o.site.expansion ≡ Some body
  pub in_graph : slice_get body.composite.what.graph o.site.invocation ≡ Some invocation
  pub target : target_of unit invocation.operator.what ≡ Operator o.kind
  pub at : o.at ≡ invocation.at
  pub ins : length o.ins ≡ length invocation.inputs
  pub outputs : o.outputs ≡ length invocation.outputs

-- it takes what the names of its invocation meant among the bodies that there were
pub record Takes (bodies : List Inlined) (o : Operation) : Type 0 where
  pub earlier : List Inlined
  pub later : List Inlined
  pub split : bodies ≡ earlier ++ later
  pub body : Inlined
  pub invocation : Invocation
  pub in_bodies : slice_get earlier o.site.expansion ≡ Some body
  pub in_graph : slice_get body.composite.what.graph o.site.invocation ≡ Some invocation
  pub ins : o.ins ≡ ports_of earlier o.site.expansion invocation

-- the body at that place is invoked in one before it
abbrev pub IsLater : ℕ → Inlined → Type 0
IsLater k e = (s : Site) → e.site ≡ Some s → s.expansion < k

pub record Holds (unit : List Definition) (made : Made) : Type 0 where
  pub bodies : (k : ℕ) (e : Inlined) → slice_get made.expansions k ≡ Some e → IsIn unit e
  pub later : (k : ℕ) (e : Inlined) → slice_get made.expansions k ≡ Some e → IsLater k e
  pub ops : (n : ℕ) (o : Operation) → slice_get made.ops n ≡ Some o → Stands unit made.expansions o
  pub taken : (n : ℕ) (o : Operation) → slice_get made.ops n ≡ Some o → Takes made.expansions o
  pub within : is_within made.ops ≡ true

-- the bodies are kept
abbrev pub Grows : List Inlined → List Inlined → Type 0
Grows xs ys = (k : ℕ) (e : Inlined) → slice_get xs k ≡ Some e → slice_get ys k ≡ Some e

-- they are kept at the front
record Begins (xs ys : List Inlined) : Type 0 where
  pub more : List Inlined
  pub is : ys ≡ xs ++ more

begins_same : (xs : List Inlined) → Begins xs xs
begins_same xs = record { more = []; is = sym (append-nil xs) }

begins_on : (xs ys zs : List Inlined) → Begins xs ys → Begins ys zs → Begins xs zs
begins_on xs ys zs f g = record { more = f.more ++ g.more; is = g.is ∙ ap (λ l. l ++ g.more) f.is ∙ append_assoc xs f.more g.more }

still_there : (xs ys : List Inlined) → Begins xs ys → Grows xs ys
still_there xs ys b k e at = ap (λ l. slice_get l k) b.is ∙ append_front xs b.more k e at

-- what stands in a list with one more: in the list, or that one at its end
in_or_last : {A : Type 0} (xs : List A) (y : A) (i : ℕ) (x : A) → slice_get (xs ++ y ∷ []) i ≡ Some x → (slice_get xs i ≡ Some x) ⊎ ((y ≡ x) × (i ≡ length xs))
in_or_last [] y zero x e = inr (cc, refl)
in_or_last [] y (suc i) x e = absurd cc
in_or_last (z ∷ xs) y zero x e = inl e
in_or_last (z ∷ xs) y (suc i) x e = elim (in_or_last xs y i x e) [ inl old ↦ inl old | inr new ↦ inr (new.0, ap suc new.1) ]

stands_on : (unit : List Definition) (xs ys : List Inlined) (o : Operation) → Grows xs ys → Stands unit xs o → Stands unit ys o
stands_on unit xs ys o grows s = record {
  body = s.body;
  invocation = s.invocation;
  in_bodies = grows o.site.expansion s.body s.in_bodies;
  in_graph = s.in_graph;
  target = s.target;
  at = s.at;
  ins = s.ins;
  outputs = s.outputs;
}

takes_on : (xs ys : List Inlined) (o : Operation) → Begins xs ys → Takes xs o → Takes ys o
takes_on xs ys o b t = record {
  earlier = t.earlier;
  later = t.later ++ b.more;
  split = b.is ∙ ap (λ l. l ++ b.more) t.split ∙ append_assoc t.earlier t.later b.more;
  body = t.body;
  invocation = t.invocation;
  in_bodies = t.in_bodies;
  in_graph = t.in_graph;
  ins = t.ins;
}

-- ---- what one step makes

-- what comes of what was made, where the body that is being expanded stands there
record Keeps (unit : List Definition) (before next : Made) : Type 0 where
  pub holds : Holds unit next
  pub begins : Begins before.expansions next.expansions

abbrev StandsIn : Opened → Made → Type 0
StandsIn p made = slice_get made.expansions p.number ≡ Some p.body

abbrev KeepsAll : List Definition → Expands → Type 0
KeepsAll unit expands = (p : Opened) (before next : Made) → Holds unit before → StandsIn p before → expands p before ≡ Ok next → Keeps unit before next

kept : (unit : List Definition) (made : Made) → Holds unit made → Keeps unit made made
kept unit made h = record { holds = h; begins = begins_same made.expansions }

keeps_on : (unit : List Definition) (x y z : Made) → Keeps unit x y → Keeps unit y z → Keeps unit x z
keeps_on unit x y z f g = record { holds = g.holds; begins = begins_on x.expansions y.expansions z.expansions f.begins g.begins }

pub within_is : (at : ℕ) (made next : Made) → if_within at made ≡ Ok next → made ≡ next
within_is at made next e = elim (is_within made.ops) as (λ b. (if b then Ok made else Err (unnamed_refusal E.TooMany at)) ≡ Ok next → made ≡ next) [ true ↦ λ is. cc | false ↦ λ is. absurd cc ] e

within_holds : (at : ℕ) (made next : Made) → if_within at made ≡ Ok next → is_within made.ops ≡ true
within_holds at made next e = elim (is_within made.ops) as (λ b. (if b then Ok made else Err (unnamed_refusal E.TooMany at)) ≡ Ok next → b ≡ true) [ true ↦ λ is. refl | false ↦ λ is. absurd cc ] e

module _ (unit : List Definition) (p : Opened) (number : ℕ) (i : Invocation) (before next : Made) (h : Holds unit before) (stands : StandsIn p before)
    (there : slice_get p.body.composite.what.graph number ≡ Some i) where
  operator_stands : (kind : OpKind) → target_of unit i.operator.what ≡ Operator kind → Stands unit before.expansions (operation before.expansions p number i kind)
  operator_stands kind target = record {
    body = p.body;
    invocation = i;
    in_bodies = stands;
    in_graph = there;
    target = target;
    at = refl;
    ins = length-map i.inputs _;
    outputs = refl;
  }

  operator_takes : (kind : OpKind) → Takes before.expansions (operation before.expansions p number i kind)
  operator_takes kind = record {
    earlier = before.expansions;
    later = [];
    split = sym (append-nil before.expansions);
    body = p.body;
    invocation = i;
    in_bodies = stands;
    in_graph = there;
    ins = refl;
  }

  with_operation_holds : (kind : OpKind) → target_of unit i.operator.what ≡ Operator kind → is_within (with_operation (operation before.expansions p number i kind) before).ops ≡ true
      → Holds unit (with_operation (operation before.expansions p number i kind) before)
  with_operation_holds kind target fine = record {
    bodies = h.bodies;
    later = h.later;
    ops = λ n o is. elim (in_or_last before.ops (operation before.expansions p number i kind) n o is) [
      | inl old ↦ h.ops n o old
      | inr new ↦ subst (Stands unit before.expansions) new.0 (operator_stands kind target)
    ];
    taken = λ n o is. elim (in_or_last before.ops (operation before.expansions p number i kind) n o is) [
      | inl old ↦ h.taken n o old
      | inr new ↦ subst (Takes before.expansions) new.0 (operator_takes kind)
    ];
    within = fine;
  }

  keeps_operator : (kind : OpKind) → target_of unit i.operator.what ≡ Operator kind
      → if_within i.at (with_operation (operation before.expansions p number i kind) before) ≡ Ok next → Keeps unit before next
  keeps_operator kind target e =
      let made = with_operation (operation before.expansions p number i kind) before in
      subst (Keeps unit before) (within_is i.at made next e)
      record { holds = with_operation_holds kind target (within_holds i.at made next e); begins = begins_same before.expansions }

-- ---- a composite

pub named : (name : List ℕ) (o : Option (At Composite)) (c : At Composite) → body_or_operator name o ≡ Body c → o ≡ Some c
named name (Some d) c e = let same : d ≡ c = cc in ap Some same
named name None c e = absurd (no_body (kind_named name) e)
  where
    no_body : (o : Option OpKind) → operator_or_nothing o ≡ Body c → ⊥
    no_body None e = cc
    no_body (Some kind) e = cc

pub found : (unit : List Definition) (name : List ℕ) (c : At Composite) → target_of unit name ≡ Body c → slice_get (composites unit) c.place ≡ Some c.what
found unit name c e =
    let h = subst (F.Stands (λ (d : Composite). bytes_eq d.name.what name) (composites unit) 0) (named name (composite_named unit name) c e)
    (first_stands (λ (d : Composite). bytes_eq d.name.what name) (composites unit) 0) in
    let place : c.place ≡ 0 + h.0 = h.1 in
    let same : c.place ≡ h.0 = omega arith in
    rw same h.2

with_expansion_keeps : (unit : List Definition) (x : Inlined) (made : Made) → Holds unit made → IsIn unit x → IsLater (length made.expansions) x
    → Keeps unit made (with_expansion x made)
with_expansion_keeps unit x made h is later =
    let more : Begins made.expansions (made.expansions ++ x ∷ []) = record { more = x ∷ []; is = refl } in
    record {
      holds = record {
        bodies = λ k e at. elim (in_or_last made.expansions x k e at) [ inl old ↦ h.bodies k e old | inr new ↦ subst (IsIn unit) new.0 is ];
        later = λ k e at. elim (in_or_last made.expansions x k e at) [
          | inl old ↦ h.later k e old
          | inr new ↦ subst (IsLater k) new.0 (subst (λ (n : ℕ). IsLater n x) (sym new.1) later)
        ];
        ops = λ n o at. stands_on unit made.expansions (made.expansions ++ x ∷ []) o (append_front made.expansions (x ∷ [])) (h.ops n o at);
        taken = λ n o at. takes_on made.expansions (made.expansions ++ x ∷ []) o more (h.taken n o at);
        within = h.within;
      };
      begins = more;
    }

if_grown_keeps : (unit : List Definition) (before m next : Made) → Holds unit before → Keeps unit before m → if_grown before m ≡ next → Keeps unit before next
if_grown_keeps unit before m next h k e =
    elim (length before.ops == length m.ops) as (λ b. (if b then before else m) ≡ next → Keeps unit before next) [
      | true ↦ λ is. subst (Keeps unit before) is (kept unit before h)
      | false ↦ λ is. subst (Keeps unit before) is k
    ] e

module _ (unit : List Definition) (expands : Expands) (all : KeepsAll unit expands) (p : Opened) (number : ℕ) (i : Invocation) (before next : Made)
    (h : Holds unit before) (stands : StandsIn p before) where
  abbrev opened : At Composite → Made
  opened c = with_expansion (inlined p number c) before

  abbrev inside : At Composite → Expanded Made
  inside c = expands (opened_in p number i c before) (opened c)

  inlined_later : (c : At Composite) → IsLater (length before.expansions) (inlined p number c)
  inlined_later c s e =
      let own : p.number ≡ s.expansion = ap (λ (o : Option Site). at_site o) e in
      let lt : p.number < length before.expansions = slice_get_within before.expansions p.number p.body stands in
      omega arith
    where
      at_site : Option Site → ℕ
      at_site None = 0
      at_site (Some s) = s.expansion

  body_keeps : (c : At Composite) → IsIn unit (inlined p number c) → after (inside c) (λ m. Ok (if_grown before m)) ≡ Ok next → Keeps unit before next
  body_keeps c is e =
      let x = after_gives (inside c) (λ m. Ok (if_grown before m)) next e in
      let first = with_expansion_keeps unit (inlined p number c) before h is (inlined_later c) in
      let rest = all (opened_in p number i c before) (opened c) x.0 first.holds (append_last before.expansions (inlined p number c)) x.1 in
      if_grown_keeps unit before x.0 next h (keeps_on unit before (opened c) x.0 first rest) (same_Ok x.2)

  keeps_body : (c : At Composite) → target_of unit i.operator.what ≡ Body c → expanded_target expands p number i (Body c) before ≡ Ok next → Keeps unit before next
  keeps_body c target e =
      elim (fits_head c.what i)
      as (λ b. (if b then after (inside c) (λ m. Ok (if_grown before m)) else Err (named_refusal E.Ports (placed i.at i.operator.what))) ≡ Ok next → Keeps unit before next) [
        | true ↦ λ is. body_keeps c (found unit i.operator.what c target) is
        | false ↦ λ is. absurd cc
      ] e

  keeps_target : slice_get p.body.composite.what.graph number ≡ Some i → (target : Target) → target_of unit i.operator.what ≡ target
      → expanded_target expands p number i target before ≡ Ok next → Keeps unit before next
  keeps_target there (Operator kind) is e = keeps_operator unit p number i before next h stands there kind is e
  keeps_target there (Body c) is e = keeps_body c is e
  keeps_target there Nothing is e = absurd cc

-- ---- a graph

pub declared_gives : (o : Option (Placed (List ℕ))) (found : Expanded Made) (made : Made) → if_declared o found ≡ Ok made → found ≡ Ok made
declared_gives None found made e = e
declared_gives (Some n) found made e = absurd cc

module _ (unit : List Definition) (expands : Expands) (all : KeepsAll unit expands) (p : Opened) where
  keeps_invocation : (number : ℕ) (i : Invocation) (before next : Made) → Holds unit before → StandsIn p before → slice_get p.body.composite.what.graph number ≡ Some i
      → expanded_invocation expands unit p number i before ≡ Ok next → Keeps unit before next
  keeps_invocation number i before next h stands there e =
      keeps_target unit expands all p number i before next h stands there (target_of unit i.operator.what) refl
      (declared_gives (first_of (undeclared unit p.body.composite.what i)) (expanded_target expands p number i (target_of unit i.operator.what) before) next e)

  keeps_graph : (number : ℕ) (is : List Invocation) (before next : Made) → Holds unit before → StandsIn p before
      → ((j : ℕ) (i : Invocation) → slice_get is j ≡ Some i → slice_get p.body.composite.what.graph (number + j) ≡ Some i)
      → expanded_graph expands unit p number is before ≡ Ok next → Keeps unit before next
  keeps_graph number [] before next h stands there e = let same : before ≡ next = same_Ok e in subst (Keeps unit before) same (kept unit before h)
  keeps_graph number (i ∷ is) before next h stands there e =
      let x = after_gives (expanded_invocation expands unit p number i before) (expanded_graph expands unit p (suc number) is) next e in
      let here : number + 0 ≡ number = omega arith in
      let first = keeps_invocation number i before x.0 h stands (sym (ap (slice_get p.body.composite.what.graph) here) ∙ there 0 i refl) x.1 in
      let later = λ (j : ℕ) (k : Invocation) (is_there : slice_get is j ≡ Some k).
      (let same : suc number + j ≡ number + suc j = omega arith in ap (slice_get p.body.composite.what.graph) same ∙ there (suc j) k is_there) in
      keeps_on unit before x.0 next first (keeps_graph (suc number) is x.0 next first.holds (still_there before.expansions x.0.expansions first.begins p.number p.body stands) later x.2)

keeps : (unit : List Definition) (depth : ℕ) → KeepsAll unit (expanded depth unit)
keeps unit zero p before next h stands e = let same : before ≡ next = same_Ok e in subst (Keeps unit before) same (kept unit before h)
keeps unit (suc depth) p before next h stands e =
    keeps_graph unit (expanded depth unit) (keeps unit depth) p 0 p.body.composite.what.graph before next h stands
    (λ j i is. let same : 0 + j ≡ j = omega arith in ap (slice_get p.body.composite.what.graph) same ∙ is) e

-- ---- the whole

pub main_holds : (unit : List Definition) (main : At Composite) (made : Made) → slice_get (composites unit) main.place ≡ Some main.what → expanded_main unit main ≡ Ok made → Holds unit made
main_holds unit main made is e =
    (keeps unit _ (record { number = 0; prefix = []; body = main_body main }) (record { ops = []; expansions = main_body main ∷ [] }) made
    (record { bodies = only IsInUnit is; later = only IsLater (λ s e. absurd cc); ops = λ n o none. absurd cc; taken = λ n o none. absurd cc; within = refl }) refl e).holds
  where
    IsInUnit : ℕ → Inlined → Type 0
    IsInUnit k x = IsIn unit x

    only : (P : ℕ → Inlined → Type 0) → P 0 (main_body main) → (k : ℕ) (x : Inlined) → slice_get (main_body main ∷ []) k ≡ Some x → P k x
    only P h zero x at = let same : main_body main ≡ x = cc in subst (P 0) same h
    only P h (suc k) x at = absurd cc

expansion_there : (made : Made) (n : ℕ) (es : List Inlined) (k : ℕ) (e : Inlined) → slice_get es k ≡ Some e
    → (x : Expansion) × (slice_get (expansions_from made n es) k ≡ Some x) × (x.composite ≡ e.composite.place)
expansion_there made n [] k e is = absurd cc
expansion_there made n (d ∷ es) zero e is = let same : d ≡ e = cc in (expansion_of made n d, refl, ap (λ (y : Inlined). y.composite.place) same)
expansion_there made n (d ∷ es) (suc k) e is = expansion_there made (suc n) es k e is

invoked : (unit : List Definition) (made : Made) (topo : List ℕ) (n : ℕ) (o : Operation) → Holds unit made → Stands unit made.expansions o
    → IsInvoked unit (graph_of made topo) (op_of made n o)
invoked unit made topo n o h s =
    let x = expansion_there made 0 made.expansions o.site.expansion s.body s.in_bodies in
    let there : slice_get (composites unit) x.0.composite ≡ Some s.body.composite.what = rw x.2 (h.bodies o.site.expansion s.body s.in_bodies) in
    record {
      invocation = s.invocation;
      there = rw (x.1, there) s.in_graph;
      kind = s.target;
      at = s.at;
      ins = length-map o.ins _ ∙ s.ins;
      outs = numbers_length _ o.outputs ∙ s.outputs;
    }

pub operator_law : OperatorLaw
operator_law unit names main g e is n op at =
    let m = made_of unit names main g e in
    let h = main_holds unit main m.made is m.expanded in
    let there : slice_get (ops_from m.made 0 m.made.ops) n ≡ Some op = sym (ap (λ (x : Graph). slice_get x.ops n) m.is) ∙ at in
    let x = mapped (op_of m.made (0 + n)) (slice_get m.made.ops n) op (sym (op_at m.made 0 m.made.ops n) ∙ there) in
    subst (λ (y : Graph). IsInvoked unit y op) (sym m.is)
    (subst (IsInvoked unit (graph_of m.made (topo_of m.made))) x.2 (invoked unit m.made (topo_of m.made) (0 + n) x.0 h (h.ops n x.0 x.1)))
