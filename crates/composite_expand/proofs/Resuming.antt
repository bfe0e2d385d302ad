-- How what is left of an expansion goes on.
use Rattle.std.proofs.Common.{◌≡◌, ◌∙◌, refl, ap, ℕ, zero, suc, ◌<◌, List, [], ◌∷◌, ◌++◌, length, drop, None, Ok, Err, arith}
use Rattle.std.proofs.lemmas.Bool.{eq-eqb}
use Rattle.std.specs.Prelude.{true, if◌then◌else◌}
use Rattle.spl_tree.specs.declared.unit.Composite.{Composite}
use Rattle.spl_tree.specs.declared.unit.Definition.{Definition}
use Rattle.spl_tree.specs.declared.unit.Invocation.{Invocation}
use Rattle.spl_tree.specs.Trees.{placed}
use Rattle.language_model.specs.declared.expansion.ExpansionRefusal.{ExpansionRefusal}
use Rattle.language_model.specs.declared.expansion.ExpansionError.TheVariants as E
use Rattle.language_model.specs.Refusals.{named_refusal}
use Rattle.language_model.specs.Expansion.{Made, Expanded, Inlined, Opened, Expands, after, expanded, expanded_graph, expanded_invocation, expanded_target, opened_in, inlined}
use Rattle.language_model.specs.parts.Expansion.{if_grown, with_expansion}
use Rattle.language_model.proofs.parts.Expansion.{if_declared}
use Rattle.language_model.specs.Invoking.{Body, target_of, undeclared, fits_head}
use Rattle.language_model.specs.Declarations.{first_of}
use Rattle.language_model.specs.Scopes.{At}
use Rattle.language_model.proofs.FoundAnswers.{after_after}
use Rattle.composite_expand.specs.steps.Walking.{Frame, frame, rest_of, closed, resumed, Keeps, IsIdle}

-- a body without further invocations is closed
pub closes : (depth : ℕ) (unit : List Definition) (f : Frame) (fs : List Frame) (made : Made) → rest_of f ≡ []
    → resumed depth unit (f ∷ fs) made ≡ resumed (suc depth) unit fs (closed f fs made)
closes depth unit f fs made none =
    ap (λ is. after (expanded_graph (expanded depth unit) unit f.opened f.next is made) (λ m. resumed (suc depth) unit fs (closed f fs m))) none

-- an invocation that is done leads to the next one
pub goes_on : (depth : ℕ) (unit : List Definition) (f : Frame) (fs : List Frame) (made m : Made) (i : Invocation)
    → rest_of f ≡ i ∷ drop (suc f.next) f.opened.body.composite.what.graph
    → expanded_invocation (expanded depth unit) unit f.opened f.next i made ≡ Ok m
    → resumed depth unit (f ∷ fs) made ≡ resumed depth unit (frame f.opened (suc f.next) f.before ∷ fs) m
goes_on depth unit f fs made m i here is =
    ap (λ is. after (expanded_graph (expanded depth unit) unit f.opened f.next is made) (λ m. resumed (suc depth) unit fs (closed f fs m))) here
    ∙ ap (λ x. after (after x (expanded_graph (expanded depth unit) unit f.opened (suc f.next) (drop (suc f.next) f.opened.body.composite.what.graph)))
    (λ m. resumed (suc depth) unit fs (closed f fs m))) is

pub refuses : (depth : ℕ) (unit : List Definition) (f : Frame) (fs : List Frame) (made : Made) (r : ExpansionRefusal) (i : Invocation)
    → rest_of f ≡ i ∷ drop (suc f.next) f.opened.body.composite.what.graph
    → expanded_invocation (expanded depth unit) unit f.opened f.next i made ≡ Err r
    → resumed depth unit (f ∷ fs) made ≡ Err r
refuses depth unit f fs made r i here is =
    ap (λ is. after (expanded_graph (expanded depth unit) unit f.opened f.next is made) (λ m. resumed (suc depth) unit fs (closed f fs m))) here
    ∙ ap (λ x. after (after x (expanded_graph (expanded depth unit) unit f.opened (suc f.next) (drop (suc f.next) f.opened.body.composite.what.graph)))
    (λ m. resumed (suc depth) unit fs (closed f fs m))) is

-- the invocation of a composite expands its body
invokes : (expands : Expands) (unit : List Definition) (p : Opened) (number : ℕ) (i : Invocation) (made : Made) (c : At Composite)
    → first_of (undeclared unit p.body.composite.what i) ≡ None → target_of unit i.operator.what ≡ Body c → fits_head c.what i ≡ true
    → expanded_invocation expands unit p number i made
    ≡ after (expands (opened_in p number i c made) (with_expansion (inlined p number c) made)) (λ m. Ok (if_grown made m))
invokes expands unit p number i made c known target fits =
    ap (λ n. if_declared n (expanded_target expands p number i (target_of unit i.operator.what) made)) known
    ∙ ap (λ t. expanded_target expands p number i t made) target
    ∙ ap (λ b. if b then after (expands (opened_in p number i c made) (with_expansion (inlined p number c) made)) (λ m. Ok (if_grown made m))
    else Err (named_refusal E.Ports (placed i.at i.operator.what))) fits

-- and so its body is opened
pub opens : (depth : ℕ) (unit : List Definition) (f : Frame) (fs : List Frame) (made : Made) (i : Invocation) (c : At Composite)
    → rest_of f ≡ i ∷ drop (suc f.next) f.opened.body.composite.what.graph
    → first_of (undeclared unit f.opened.body.composite.what i) ≡ None → target_of unit i.operator.what ≡ Body c → fits_head c.what i ≡ true
    → resumed (suc depth) unit (f ∷ fs) made
    ≡ resumed depth unit (frame (opened_in f.opened f.next i c made) 0 made ∷ frame f.opened (suc f.next) f.before ∷ fs) (with_expansion (inlined f.opened f.next c) made)
opens depth unit f fs made i c here known target fits =
    let again : Made → Expanded Made = expanded_graph (expanded (suc depth) unit) unit f.opened (suc f.next) (drop (suc f.next) f.opened.body.composite.what.graph) in
    let end : Made → Expanded Made = λ m. resumed (suc (suc depth)) unit fs (closed f fs m) in
    let inner : Expanded Made = expanded (suc depth) unit (opened_in f.opened f.next i c made) (with_expansion (inlined f.opened f.next c) made) in
    ap (λ is. after (expanded_graph (expanded (suc depth) unit) unit f.opened f.next is made) end) here
    ∙ ap (λ x. after (after x again) end) (invokes (expanded (suc depth) unit) unit f.opened f.next i made c known target fits)
    ∙ ap (λ x. after x end) (after_after inner (λ m. Ok (if_grown made m)) again)
    ∙ after_after inner (λ m. again (if_grown made m)) end

-- ---- bodies that make nothing

idle_stays : (made : Made) (e : Inlined) → if_grown made (with_expansion e made) ≡ made
idle_stays made e = ap (λ b. if b then made else with_expansion e made) (eq-eqb (length made.ops) (length made.ops) refl)

pub idle : (unit : List Definition) (depth : ℕ) (p : Opened) (number : ℕ) (is : List Invocation) (made : Made) → IsIdle unit p.body.composite.what is
    → expanded_graph (expanded depth unit) unit p number is made ≡ Ok made
idle unit depth p number _ made (IsIdle.nothing c) = refl
idle unit depth p number _ made (IsIdle.more c i is d known target fits inner rest) =
    let q : Opened = opened_in p number i d made in
    let with_body : Made = with_expansion (inlined p number d) made in
    let inside : expanded depth unit q with_body ≡ Ok with_body =
    elim depth as (λ n. expanded n unit q with_body ≡ Ok with_body) [ zero ↦ refl | suc n ↦ idle unit n q 0 _ with_body inner ] in
    let this : expanded_invocation (expanded depth unit) unit p number i made ≡ Ok made =
    invokes (expanded depth unit) unit p number i made d known target fits
    ∙ ap (λ x. after x (λ m. Ok (if_grown made m))) inside
    ∙ ap (λ m. Ok m) (idle_stays made (inlined p number d)) in
    ap (λ x. after x (expanded_graph (expanded depth unit) unit p (suc number) is)) this ∙ idle unit depth p (suc number) is made rest

pub idle_body : (unit : List Definition) (expands_to : ℕ) (p : Opened) (number : ℕ) (i : Invocation) (made : Made) (d : At Composite)
    → first_of (undeclared unit p.body.composite.what i) ≡ None → target_of unit i.operator.what ≡ Body d → fits_head d.what i ≡ true → IsIdle unit d.what d.what.graph
    → expanded_invocation (expanded expands_to unit) unit p number i made ≡ Ok made
idle_body unit depth p number i made d known target fits inner =
    let one : expanded_graph (expanded depth unit) unit p number (i ∷ []) made ≡ Ok made =
    idle unit depth p number (i ∷ []) made (IsIdle.more p.body.composite.what i [] d known target fits inner (IsIdle.nothing p.body.composite.what)) in
    of_one (expanded_invocation (expanded depth unit) unit p number i made) one where
      of_one : (x : Expanded Made) → after x (λ m. Ok m) ≡ Ok made → x ≡ Ok made
      of_one (Ok m) is = is
      of_one (Err r) is = is

-- one more invocation at the end
pub idle_more : (unit : List Definition) (c : Composite) (is : List Invocation) (i : Invocation) (d : At Composite)
    → first_of (undeclared unit c i) ≡ None → target_of unit i.operator.what ≡ Body d → fits_head d.what i ≡ true → IsIdle unit d.what d.what.graph
    → IsIdle unit c is → IsIdle unit c (is ++ i ∷ [])
idle_more unit c _ i d known target fits inner (IsIdle.nothing _) = IsIdle.more c i [] d known target fits inner (IsIdle.nothing c)
idle_more unit c _ i d known target fits inner (IsIdle.more _ j js e known' target' fits' inner' rest) =
    IsIdle.more c j (js ++ i ∷ []) e known' target' fits' inner' (idle_more unit c js i d known target fits inner rest)

-- ---- what stood before

-- what stood before the outer bodies does so where more operators are there
pub keeps_grown : (fs : List Frame) (b m : Made) → length b.ops < length m.ops → Keeps fs b → Keeps fs m
keeps_grown _ b m more (Keeps.none _) = Keeps.none m
keeps_grown _ b m more (Keeps.main f _ within) = Keeps.main f m (omega arith)
keeps_grown _ b m more (Keeps.within f g fs _ within same outer) =
    Keeps.within f g fs m (omega arith) (λ is. absurd (omega (arith, is, within, more))) outer

pub keeps_next : (f : Frame) (fs : List Frame) (m : Made) (next : ℕ) → Keeps (f ∷ fs) m → Keeps (frame f.opened next f.before ∷ fs) m
keeps_next f _ m next (Keeps.main _ _ within) = Keeps.main (frame f.opened next f.before) m within
keeps_next f _ m next (Keeps.within _ g fs _ within same outer) = Keeps.within (frame f.opened next f.before) g fs m within same outer
