-- Where the bodies and operators of a graph lie: in one place each, and operators in the order of the text.
use Rattle.std.specs.Prelude.{◌≡◌, ◌+◌, ◌<◌, ℕ, List, [], ◌∷◌, ◌++◌, codes, Option, Some, None, slice_get}
use Rattle.std.specs.Option.{option_map, option_and_then, option_map_or}
use Rattle.std.proofs.Common.{refl, sym, ap, ◌∙◌, subst, arith, inl, inr}
use Rattle.std.proofs.lemmas.Bool.{cases_lt}
use Rattle.std.proofs.lemmas.Option.{same_Some}
use Rattle.spl_tree.specs.declared.expression.Placed.{Placed}
use Rattle.spl_tree.specs.declared.graph.Expansion.{Expansion}
use Rattle.spl_tree.specs.declared.graph.Graph.{Graph}
use Rattle.spl_tree.specs.declared.graph.Op.{Op}
use Rattle.spl_tree.specs.declared.graph.Site.{Site}
use Rattle.spl_tree.specs.declared.unit.Composite.{Composite}
use Rattle.spl_tree.specs.declared.unit.Definition.{Definition}
use Rattle.spl_tree.specs.declared.unit.Invocation.{Invocation}
use Rattle.spl_tree.specs.declared.unit.OutputStream.{OutputStream}
use Rattle.language_model.specs.declared.expansion.Operation.{Operation}
use Rattle.language_model.specs.Expansion.{Made, Inlined, invocation_name}
use Rattle.language_model.proofs.parts.Expansion.{first_output}
use Rattle.language_model.proofs.parts.Flat.{graph_of}
use Rattle.language_model.proofs.parts.Numbering.{op_of, expansion_of}
use Rattle.language_model.specs.DollarTargets.{composite_of, invocation_at}
use Rattle.graph_laws.proofs.ExpansionAnswers.{expansion_at, op_at}
use Rattle.graph_laws.proofs.Flattening.{topo_of}
use Rattle.language_model.proofs.Options.{mapped}
use Rattle.graph_laws.proofs.Inlining.{Holds}
use Rattle.expansion_laws.specs.Bodies.{IsName, by_alias, by_stream, without, Lies, in_main, in_body, IsBefore, OpLies, IsNamed}
use Rattle.expansion_laws.specs.Laws.{SiteLaw, NameLaw, TextLaw}
use Rattle.expansion_laws.proofs.Graphs.{of_all}
use Rattle.expansion_laws.proofs.Growing.{LiesIn, main_lies, body_lies, IsInOrder}
use Rattle.expansion_laws.proofs.Stepping.{same_next}
use Rattle.graph_laws.proofs.KeptInvocations.{then_gives}

-- ---- names

is_name : (i : Invocation) → IsName i (invocation_name i)
is_name i = by (i.alias) (i.outputs) refl refl
  where
    by : (a : Option (Placed (List ℕ))) (os : List OutputStream) → i.alias ≡ a → i.outputs ≡ os → IsName i (option_map_or (λ n. n.what) a (first_output os))
    by (Some n) os e f = by_alias n e
    by None [] e f = without e f
    by None (o ∷ os) e f = by_stream o os e f

two_answers : {A : Type 0} (o : Option A) (x : A) → o ≡ None → o ≡ Some x → ⊥
two_answers o x e f = let h : None ≡ Some x = sym e ∙ f in cc

pub one_name : (i : Invocation) (a b : List ℕ) → IsName i a → IsName i b → a ≡ b
one_name i a b (by_alias n e) (by_alias m f) = ap (λ (x : Placed (List ℕ)). x.what) (same_Some n m (sym e ∙ f))
one_name i a b (by_alias n e) (by_stream o os f g) = absurd (two_answers i.alias n f e)
one_name i a b (by_alias n e) (without f g) = absurd (two_answers i.alias n f e)
one_name i a b (by_stream o os e g) (by_alias m f) = absurd (two_answers i.alias m e f)
one_name i a b (by_stream o os e g) (by_stream p ps f h) = let same : o ∷ os ≡ p ∷ ps = sym g ∙ h in let first : o ≡ p = cc in ap (λ (x : OutputStream). x.name.what) first
one_name i a b (by_stream o os e g) (without f h) = absurd (let same : o ∷ os ≡ [] = sym g ∙ h in cc)
one_name i a b (without e g) (by_alias m f) = absurd (two_answers i.alias m e f)
one_name i a b (without e g) (by_stream p ps f h) = absurd (let same : [] ≡ p ∷ ps = sym g ∙ h in cc)
one_name i a b (without e g) (without f h) = refl

-- ---- a body lies in one place

pub one_way : (unit : List Definition) (g : Graph) (n : ℕ) (a x b y : List ℕ) → Lies unit g n a x → Lies unit g n b y → (a ≡ b) × (x ≡ y)
one_way unit g n a x b y (in_main m e at none) (in_main m' e' at' none') = (refl, refl)
one_way unit g n a x b y (in_main m e at none) (in_body m' e' s i name w p at' is there named l) =
    absurd (two_answers e.site s none (ap (λ (d : Expansion). d.site) (same_Some e e' (sym at ∙ at')) ∙ is))
one_way unit g n a x b y (in_body m e s i name w p at is there named l) (in_main m' e' at' none') =
    absurd (two_answers e'.site s none' (ap (λ (d : Expansion). d.site) (same_Some e' e (sym at' ∙ at)) ∙ is))
one_way unit g n a x b y (in_body m e s i name w p at is there named l) (in_body m' e' t j other v q at' is' there' named' k) =
    let body : e ≡ e' = same_Some e e' (sym at ∙ at') in
    let site : s ≡ t = same_Some s t (sym is ∙ ap (λ (d : Expansion). d.site) body ∙ is') in
    let invocation : i ≡ j = same_Some i j (sym there ∙ ap (invocation_at unit g.expansions) site ∙ there') in
    let names : name ≡ other = one_name j name other (subst (λ (z : Invocation). IsName z name) invocation named) named' in
    let outer = one_way unit g s.expansion w p v q l (subst (λ (z : Site). Lies unit g z.expansion v q) (sym site) k) in (
      ap (λ (z : List ℕ). z ++ s.invocation ∷ []) outer.0 ∙ ap (λ (z : Site). v ++ z.invocation ∷ []) site,
      ap (λ (z : List ℕ). z ++ name ++ codes ".") outer.1 ∙ ap (λ (z : List ℕ). q ++ z ++ codes ".") names,
    )

one_op_way : (unit : List Definition) (g : Graph) (op : Op) (a x b y : List ℕ) → OpLies unit g op a x → OpLies unit g op b y → (a ≡ b) × (x ≡ y)
one_op_way unit g op a x b y l k =
    let body = one_way unit g op.site.expansion l.outer x k.outer y l.body k.body in
    (l.is ∙ ap (λ (z : List ℕ). z ++ op.site.invocation ∷ []) body.0 ∙ sym k.is, body.1)

-- nothing stands before itself
not_itself : (a : List ℕ) → IsBefore a a → ⊥
not_itself a b = let same : b.m ≡ b.n = same_next b.common b.m b.n b.rest b.others (sym b.first ∙ b.second) in omega (arith, b.less)

-- ---- the graph of what was made

module _ (unit : List Definition) (made : Made) (topo : List ℕ) (h : Holds unit made) where
  abbrev pub graph : Graph
  graph = graph_of made topo

  pub body_there : (k : ℕ) (e : Inlined) → slice_get made.expansions k ≡ Some e → slice_get graph.expansions k ≡ Some (expansion_of made (0 + k) e)
  body_there k e at = expansion_at made 0 made.expansions k ∙ ap (option_map (expansion_of made (0 + k))) at

  pub body_was : (k : ℕ) (x : Expansion) → slice_get graph.expansions k ≡ Some x → (e : Inlined) × (slice_get made.expansions k ≡ Some e) × (expansion_of made (0 + k) e ≡ x)
  body_was k x at = mapped (expansion_of made (0 + k)) (slice_get made.expansions k) x (sym (expansion_at made 0 made.expansions k) ∙ at)

  pub op_was : (n : ℕ) (op : Op) → slice_get graph.ops n ≡ Some op → (o : Operation) × (slice_get made.ops n ≡ Some o) × (op_of made (0 + n) o ≡ op)
  op_was n op at = mapped (op_of made (0 + n)) (slice_get made.ops n) op (sym (op_at made 0 made.ops n) ∙ at)

  pub composite_there : (k : ℕ) (e : Inlined) → slice_get made.expansions k ≡ Some e → composite_of unit (expansion_of made (0 + k) e) ≡ Some e.composite.what
  composite_there k e at = h.bodies k e at

  pub invoked_at : (s : Site) (e : Inlined) (i : Invocation) → slice_get made.expansions s.expansion ≡ Some e → slice_get e.composite.what.graph s.invocation ≡ Some i
      → invocation_at unit graph.expansions s ≡ Some i
  invoked_at s e i at there =
      ap (λ o. option_and_then (λ c. slice_get c.graph s.invocation) (option_and_then (composite_of unit) o)) (body_there s.expansion e at)
      ∙ ap (option_and_then (λ c. slice_get c.graph s.invocation)) (composite_there s.expansion e at)
      ∙ there

  -- and the other way round
  pub at_invoked : (s : Site) (i : Invocation) → invocation_at unit graph.expansions s ≡ Some i
      → (e : Inlined) × (slice_get made.expansions s.expansion ≡ Some e) × (slice_get e.composite.what.graph s.invocation ≡ Some i)
  at_invoked s i at =
      let c = then_gives (λ (c : Composite). slice_get c.graph s.invocation) (option_and_then (composite_of unit) (slice_get graph.expansions s.expansion)) i at in
      let x = then_gives (composite_of unit) (slice_get graph.expansions s.expansion) c.0 c.1 in
      let e = body_was s.expansion x.0 x.1 in
      let what : e.0.composite.what ≡ c.0 =
      same_Some e.0.composite.what c.0 (sym (composite_there s.expansion e.0 e.1) ∙ ap (composite_of unit) e.2 ∙ x.2) in
      (e.0, e.1, ap (λ (y : Composite). slice_get y.graph s.invocation) what ∙ c.2)

  pub lies_there : (n : ℕ) (way prefix : List ℕ) → LiesIn made.expansions n way prefix → Lies unit graph n way prefix
  lies_there n way prefix (main_lies m e at none) = in_main m (expansion_of made (0 + m) e) (body_there m e at) none
  lies_there n way prefix (body_lies m e outer s i w p at is there invoked l) =
      in_body m (expansion_of made (0 + m) e) s i (invocation_name i) w p (body_there m e at) is (invoked_at s outer i there invoked) (is_name i) (lies_there s.expansion w p l)

  module _ (in_order : IsInOrder unit made) where
    op_lies : (n : ℕ) (o : Operation) (way prefix : List ℕ) → LiesIn made.expansions o.site.expansion way prefix → OpLies unit graph (op_of made n o) (way ++ o.site.invocation ∷ []) prefix
    op_lies n o way prefix l = record { outer = way; body = lies_there o.site.expansion way prefix l; is = refl }

    pub named : (n : ℕ) (op : Op) → slice_get graph.ops n ≡ Some op → (way : List ℕ) × (prefix : List ℕ) × OpLies unit graph op way prefix × IsNamed unit graph op prefix
        × ((other another : List ℕ) → OpLies unit graph op other another → (other ≡ way) × (another ≡ prefix))
    named n op at =
        let o = op_was n op at in
        let s = in_order.set n o.0 o.1 in
        let lies : OpLies unit graph op (s.way ++ o.0.site.invocation ∷ []) s.prefix =
        subst (λ (z : Op). OpLies unit graph z (s.way ++ o.0.site.invocation ∷ []) s.prefix) o.2 (op_lies (0 + n) o.0 s.way s.prefix s.lies) in
        let own : IsNamed unit graph op s.prefix = subst (λ (z : Op). IsNamed unit graph z s.prefix) o.2 (record {
          invocation = s.invocation;
          name = invocation_name s.invocation;
          there = invoked_at o.0.site s.body s.invocation s.in_bodies s.in_graph;
          own = is_name s.invocation;
          is = s.name;
        }) in (
          s.way ++ o.0.site.invocation ∷ [],
          s.prefix,
          lies,
          own,
          λ other another l. one_op_way unit graph op other another (s.way ++ o.0.site.invocation ∷ []) s.prefix l lies,
        )

    pub in_text : (m n : ℕ) (o p : Op) → m < n → slice_get graph.ops m ≡ Some o → slice_get graph.ops n ≡ Some p
        → (a b x y : List ℕ) → OpLies unit graph o a x → OpLies unit graph p b y → IsBefore a b
    in_text m n o p lt at_m at_n a b x y l k =
        let u = op_was m o at_m in
        let v = op_was n p at_n in
        let r = in_order.parted m n u.0 v.0 lt u.1 v.1 in
        let first : OpLies unit graph o (r.first ++ u.0.site.invocation ∷ []) r.first_prefix =
        subst (λ (z : Op). OpLies unit graph z (r.first ++ u.0.site.invocation ∷ []) r.first_prefix) u.2 (op_lies (0 + m) u.0 r.first r.first_prefix r.first_lies) in
        let second : OpLies unit graph p (r.second ++ v.0.site.invocation ∷ []) r.second_prefix =
        subst (λ (z : Op). OpLies unit graph z (r.second ++ v.0.site.invocation ∷ []) r.second_prefix) v.2 (op_lies (0 + n) v.0 r.second r.second_prefix r.second_lies) in
        let front : r.first ++ u.0.site.invocation ∷ [] ≡ a = (one_op_way unit graph o _ _ a x first l).0 in
        let back : r.second ++ v.0.site.invocation ∷ [] ≡ b = (one_op_way unit graph p _ _ b y second k).0 in
        subst (IsBefore a) back (subst (λ (z : List ℕ). IsBefore z (r.second ++ v.0.site.invocation ∷ [])) front r.before)

    not_twice : (m n : ℕ) (o p : Op) → m < n → slice_get graph.ops m ≡ Some o → slice_get graph.ops n ≡ Some p → o.site ≡ p.site → ⊥
    not_twice m n o p lt at_m at_n same =
        let l = named m o at_m in
        let k = named n p at_n in
        let moved : OpLies unit graph o k.0 k.1 = record {
          outer = k.2.outer;
          body = subst (λ (z : Site). Lies unit graph z.expansion k.2.outer k.1) (sym same) k.2.body;
          is = k.2.is ∙ ap (λ (z : Site). k.2.outer ++ z.invocation ∷ []) (sym same);
        } in
        not_itself k.0 (in_text m n o p lt at_m at_n k.0 k.0 k.1 k.1 moved k.2)

    pub one_site : (m n : ℕ) (o p : Op) → slice_get graph.ops m ≡ Some o → slice_get graph.ops n ≡ Some p → o.site ≡ p.site → m ≡ n
    one_site m n o p at_m at_n same = elim (cases_lt m n) [
      | inl lt ↦ absurd (not_twice m n o p lt at_m at_n same)
      | inr le ↦ elim (cases_lt n m) [ inl lt ↦ absurd (not_twice n m p o lt at_n at_m (sym same)) | inr ge ↦ omega arith ]
    ]

    -- nor do two bodies
    bodies_apart : (j l : ℕ) (x y : Expansion) (s : Site) → j < l → slice_get graph.expansions j ≡ Some x → slice_get graph.expansions l ≡ Some y → x.site ≡ Some s → y.site ≡ Some s → ⊥
    bodies_apart j l x y s lt at_j at_l is_x is_y =
        let e = body_was j x at_j in
        let d = body_was l y at_l in
        let r = in_order.apart j l e.0 d.0 lt e.1 d.1 in
        r.apart (one_site_way x y s j l r.first r.first_prefix r.second r.second_prefix at_j at_l is_x is_y (lies_there j r.first r.first_prefix r.first_lies)
        (lies_there l r.second r.second_prefix r.second_lies))
      where
        one_site_way : (x y : Expansion) (s : Site) (j l : ℕ) (a p b q : List ℕ) → slice_get graph.expansions j ≡ Some x → slice_get graph.expansions l ≡ Some y
            → x.site ≡ Some s → y.site ≡ Some s → Lies unit graph j a p → Lies unit graph l b q → a ≡ b
        one_site_way x y s j l a p b q at_j at_l is_x is_y (in_main n e at none) k = absurd (two_answers e.site s none (ap (λ (d : Expansion). d.site) (same_Some e x (sym at ∙ at_j)) ∙ is_x))
        one_site_way x y s j l a p b q at_j at_l is_x is_y (in_body n e t i name w z at is there own m) (in_main n' e' at' none) =
            absurd (two_answers e'.site s none (ap (λ (d : Expansion). d.site) (same_Some e' y (sym at' ∙ at_l)) ∙ is_y))
        one_site_way x y s j l a p b q at_j at_l is_x is_y (in_body n e t i name w z at is there own m) (in_body n' e' t' i' name' w' z' at' is' there' own' m') =
            let first : t ≡ s = same_Some t s (sym is ∙ ap (λ (d : Expansion). d.site) (same_Some e x (sym at ∙ at_j)) ∙ is_x) in
            let second : t' ≡ s = same_Some t' s (sym is' ∙ ap (λ (d : Expansion). d.site) (same_Some e' y (sym at' ∙ at_l)) ∙ is_y) in
            let site : t ≡ t' = first ∙ sym second in
            let outer = one_way unit graph t.expansion w z w' z' m (subst (λ (v : Site). Lies unit graph v.expansion w' z') (sym site) m') in
            ap (λ (v : List ℕ). v ++ t.invocation ∷ []) outer.0 ∙ ap (λ (v : Site). w' ++ v.invocation ∷ []) site

    pub one_body : (j l : ℕ) (x y : Expansion) (s : Site) → slice_get graph.expansions j ≡ Some x → slice_get graph.expansions l ≡ Some y → x.site ≡ Some s → y.site ≡ Some s → j ≡ l
    one_body j l x y s at_j at_l is_x is_y = elim (cases_lt j l) [
      | inl lt ↦ absurd (bodies_apart j l x y s lt at_j at_l is_x is_y)
      | inr le ↦ elim (cases_lt l j) [ inl lt ↦ absurd (bodies_apart l j y x s lt at_l at_j is_y is_x) | inr ge ↦ omega arith ]
    ]

-- ---- the laws

pub site_law : SiteLaw
site_law unit names g flat = of_all (λ unit g. (m n : ℕ) (o p : Op) → slice_get g.ops m ≡ Some o → slice_get g.ops n ≡ Some p → o.site ≡ p.site → m ≡ n) unit names g flat
    (λ main made once acyclic h c. one_site unit made (topo_of made) h c.in_order)

pub name_law : NameLaw
name_law unit names g flat = of_all (λ unit g. (n : ℕ) (op : Op) → slice_get g.ops n ≡ Some op → (way : List ℕ) × (prefix : List ℕ) × OpLies unit g op way prefix × IsNamed unit g op prefix
    × ((other another : List ℕ) → OpLies unit g op other another → (other ≡ way) × (another ≡ prefix))) unit names g flat (λ main made once acyclic h c. named unit made (topo_of made) h c.in_order)

pub text_law : TextLaw
text_law unit names g flat = of_all (λ unit g. (m n : ℕ) (o p : Op) → m < n → slice_get g.ops m ≡ Some o → slice_get g.ops n ≡ Some p
    → (a b x y : List ℕ) → OpLies unit g o a x → OpLies unit g p b y → IsBefore a b) unit names g flat (λ main made once acyclic h c. in_text unit made (topo_of made) h c.in_order)
