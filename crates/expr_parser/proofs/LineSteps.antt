-- What a line gives, from what its parts give.
use Rattle.std.proofs.Common.{◌≡◌, ℕ, zero, suc, ◌+◌, ◌-◌, ◌<◌, true, false, List, [], ◌∷◌, ◌++◌, Some, None, Ok, Err, refl, sym, subst, arith, add-one}
use Rattle.std.specs.Borrow.{Bor}
use Rattle.spl_tree.specs.declared.symbol.Symbol.{Symbol}
use Rattle.spl_tree.specs.declared.symbol.Symbol.TheVariants as K
use Rattle.spl_tree.specs.declared.token.Token.{Token}
use Rattle.spl_tree.specs.declared.expression.Placed.{Placed}
use Rattle.spl_tree.specs.declared.expression.ExprKind.{ExprKind}
use Rattle.spl_tree.specs.declared.expression.ExprKind.TheVariants as X
use Rattle.spl_tree.specs.declared.expression.Field.{Field}
use Rattle.spl_tree.specs.declared.expression.Step.{Step}
use Rattle.spl_tree.specs.declared.expression.Step.TheVariants as N
use Rattle.spl_tree.specs.declared.expression.BinaryOperator.{BinaryOperator}
use Rattle.spl_tree.specs.Trees.{Expr, Prefix, placed}
use Rattle.expr_parser.specs.declared.stop.Stop.{Stop}
use Rattle.expr_parser.specs.declared.stop.Stop.TheVariants as S
use Rattle.expr_parser.specs.Rules.{done, stop, look, call, RuleResult, Took, Refused, RunsTo, Reads}
use Rattle.expr_parser.proofs.RuleLaws.{line, runs_done, runs_stop, runs_take, runs_skip, runs_call, runs_fail, runs_last}
use Rattle.expr_parser.specs.Taken.{begins_with, Taken, TakenAs}
use Rattle.expr_parser.proofs.Locality.{reads_shrinks, taken_shrinks, taken_as_shrinks}
use Rattle.expr_parser.specs.Lines.{Line, Whole, Rest, Climb, Chain, Prefixed, Primary, Group, Named, Elements, Items, Brace, Entries, Fields, Steps, rule, is, is_name, name_of, is_literal, literal_of, is_operator, operator_of, binary, conditional, prefixed, selected, field, expect, choice_rule, operand_rule, list_rule, field_rule}
use Rattle.expr_parser.specs.Gives.{Answered, Gives, Passes, PassesName}
use Rattle.expr_parser.specs.steps.Parts.{Comes, Makes, Fronts, StepFound, StepsOn}
use Rattle.expr_parser.proofs.Derive.{gives_line, comes_fail, comes_call, comes_take, comes_skip, comes_stop, comes_pass_fail, comes_pass, comes_tail, comes_made}

-- Nodes

-- no node is refused
pub makes_fails : (x : Line) (e : Expr) (mid ts : List Token) (s : Stop) → Makes e mid (Err s) → Gives x ts (Err s)
makes_fails x e mid ts (S.At rest) m = absurd m
makes_fails x e mid ts S.Memory m = tt

-- An expression

module _ (ts : List Token) where
  pub whole_fails : (e : Stop) → Gives (Prefixed []) ts (Err e) → Gives Whole ts (Err e)
  unfolding rule
  whole_fails e g = gives_line Whole ts (Err e) (comes_fail ts (Prefixed []) _ e g)

  pub whole_goes : (u : Expr) (mid : List Token) (res : Answered Expr) → Reads rule (Prefixed []) ts (Took u mid) → Gives (Rest u) mid res → Gives Whole ts res
  unfolding rule
  whole_goes u mid res first g = gives_line Whole ts res (comes_call ts (Prefixed []) _ u mid res first (comes_tail (Rest u) mid res g))

  module _ (u : Expr) where
    pub rest_fails : (e : Stop) → Gives (Climb 9 u) ts (Err e) → Gives (Rest u) ts (Err e)
    unfolding rule
    rest_fails e g = gives_line (Rest u) ts (Err e) (comes_fail ts (Climb 9 u) _ e g)

    pub rest_ends : (test : Expr) (mid : List Token) → Reads rule (Climb 9 u) ts (Took test mid) → begins_with (is K.Question) mid ≡ false
        → Reads rule (Rest u) ts (Took test mid)
    unfolding rule
    rest_ends test mid first none = line (runs_call first (runs_skip mid none runs_done))

    pub rest_goes : (test : Expr) (mid : List Token) (t : Token) (behind : List Token) (res : Answered Expr) → Reads rule (Climb 9 u) ts (Took test mid)
        → Taken (is K.Question) mid t behind → Comes (choice_rule test) behind res → Gives (Rest u) ts res
    unfolding rule
    rest_goes test mid t behind res first h c =
        gives_line (Rest u) ts res (comes_call ts (Climb 9 u) _ test mid res first (comes_take mid (is K.Question) _ _ t behind res h c))

  module _ (test : Expr) where
    pub first_fails : (e : Stop) → Gives Whole ts (Err e) → Comes (choice_rule test) ts (Err e)
    first_fails e g = comes_fail ts Whole _ e g

    module _ (x : Expr) (mid : List Token) (first : Reads rule Whole ts (Took x mid)) where
      pub colon_fails : (e : Stop) → Passes K.Colon mid (Err e) → Comes (choice_rule test) ts (Err e)
      colon_fails e p = comes_call ts Whole _ x mid (Err e) first (comes_pass_fail mid K.Colon _ e p)

      module _ (behind : Bor (List Token)) (colon : Passes K.Colon mid (Ok behind)) where
        pub second_fails : (e : Stop) → Gives Whole behind.now (Err e) → Comes (choice_rule test) ts (Err e)
        second_fails e g = comes_call ts Whole _ x mid (Err e) first (comes_pass mid K.Colon _ behind (Err e) colon (comes_fail behind.now Whole _ e g))

        pub choice_goes : (y : Expr) (left : List Token) (res : Answered Expr) → Reads rule Whole behind.now (Took y left) → Makes (conditional test x y) left res
            → Comes (choice_rule test) ts res
        choice_goes y left res second m =
            comes_call ts Whole _ x mid res first (comes_pass mid K.Colon _ behind res colon
            (comes_call behind.now Whole _ y left res second (comes_made (conditional test x y) left res m)))

-- Operators

-- no level is left
pub climb_ends : (level : ℕ) (u : Expr) (ts : List Token) → level ≡ 0 → Reads rule (Climb level u) ts (Took u ts)
unfolding rule
climb_ends zero u ts e = line runs_done
climb_ends (suc k) u ts e = absurd (omega arith)

module _ (u : Expr) (ts : List Token) where
  climb_line : (level : ℕ) (res : Answered Expr) → 0 < level → Comes (call (Climb (level - 1) u) (λ left. call (Chain (level - 1) left) done)) ts res → Gives (Climb level u) ts res
  unfolding rule
  climb_line zero res some c = absurd (omega arith)
  climb_line (suc k) res some c =
      let same : suc k - 1 ≡ k = omega arith in
      gives_line (Climb (suc k) u) ts res (subst (λ j. Comes (call (Climb j u) (λ left. call (Chain j left) done)) ts res) same c)

  pub climb_fails : (level : ℕ) (e : Stop) → 0 < level → Gives (Climb (level - 1) u) ts (Err e) → Gives (Climb level u) ts (Err e)
  climb_fails level e some g = climb_line level (Err e) some (comes_fail ts (Climb (level - 1) u) _ e g)

  pub climb_goes : (level : ℕ) (left : Expr) (mid : List Token) (res : Answered Expr) → 0 < level → Reads rule (Climb (level - 1) u) ts (Took left mid)
      → Gives (Chain (level - 1) left) mid res → Gives (Climb level u) ts res
  climb_goes level left mid res some first g =
      climb_line level res some (comes_call ts (Climb (level - 1) u) _ left mid res first (comes_tail (Chain (level - 1) left) mid res g))

module _ (k : ℕ) (left : Expr) (ts : List Token) where
  pub chain_ends : begins_with (is_operator (k + 1)) ts ≡ false → Reads rule (Chain k left) ts (Took left ts)
  unfolding rule
  chain_ends none = line (runs_skip ts (rw (sym (add-one k)) none) runs_done)

  module _ (op : BinaryOperator) (behind : List Token) (h : TakenAs (is_operator (k + 1)) operator_of ts op behind) where
    passes : is_operator (suc k) h.token ≡ true
    passes = rw (sym (add-one k)) h.taken.passes

    pub operand_fails : (e : Stop) → Gives (Prefixed []) behind (Err e) → Gives (Chain k left) ts (Err e)
    unfolding rule
    operand_fails e g =
        gives_line (Chain k left) ts (Err e) (comes_take ts (is_operator (suc k)) _ _ h.token behind (Err e) (record { here = h.taken.here; passes = passes })
        (comes_fail behind (Prefixed []) _ e g))

    module _ (u : Expr) (mid : List Token) (first : Reads rule (Prefixed []) behind (Took u mid)) where
      pub right_fails : (e : Stop) → Gives (Climb k u) mid (Err e) → Gives (Chain k left) ts (Err e)
      unfolding rule
      right_fails e g =
          gives_line (Chain k left) ts (Err e) (comes_take ts (is_operator (suc k)) _ _ h.token behind (Err e) (record { here = h.taken.here; passes = passes })
          (comes_call behind (Prefixed []) _ u mid (Err e) first (comes_fail mid (Climb k u) _ e g)))

      pub chain_goes : (right : Expr) (rest : List Token) → Reads rule (Climb k u) mid (Took right rest) → (o : RuleResult Expr)
          → Reads rule (Chain k (binary op left right)) rest o → Reads rule (Chain k left) ts o
      unfolding rule
      chain_goes right rest second o r =
          line (runs_take ts h.token behind h.taken.here passes (runs_call first (runs_call second
          (runs_last (subst (λ q. Reads rule (Chain k (binary q left right)) rest o) h.is r)))))

-- Operands

pub fronts_fails : (ts : List Token) (e : Stop) → Fronts ts (Err e) → Gives (Prefixed []) ts (Err e)
fronts_fails ts (S.At rest) f = f
fronts_fails ts S.Memory f = tt

pub prefixed_fails : (ps : List Prefix) (p : Expr) (ts : List Token) (e : Stop) → Gives (Steps p []) ts (Err e) → Comes (operand_rule ps p) ts (Err e)
prefixed_fails ps p ts e g = comes_fail ts (Steps p []) _ e g

pub prefixed_goes : (ps : List Prefix) (p u : Expr) (ts mid : List Token) (res : Answered Expr) → Reads rule (Steps p []) ts (Took u mid) → Makes (prefixed ps u) mid res
    → Comes (operand_rule ps p) ts res
prefixed_goes ps p u ts mid res first m = comes_call ts (Steps p []) _ u mid res first (comes_made (prefixed ps u) mid res m)

-- Primary expressions

module _ (ts : List Token) where
  pub primary_literal : (t : Token) (rest : List Token) (v : Expr) → Taken is_literal ts t rest → v ≡ literal_of t → Reads rule Primary ts (Took v rest)
  unfolding rule
  primary_literal t rest v h e = subst (λ w. Reads rule Primary ts (Took w rest)) (sym e) (line (runs_take ts t rest h.here h.passes runs_done))

  module _ (plain : begins_with is_literal ts ≡ false) where
    pub primary_name : (t : Token) (n : List ℕ) (rest : List Token) (res : Answered Expr) → Taken is_name ts t rest → n ≡ name_of t → Gives (Named t.start n) rest res
        → Gives Primary ts res
    unfolding rule
    primary_name t n rest res h e g =
        gives_line Primary ts res (comes_skip ts is_literal _ _ res plain (comes_take ts is_name _ _ t rest res h
        (comes_tail (Named t.start (name_of t)) rest res (subst (λ m. Gives (Named t.start m) rest res) e g))))

    module _ (unnamed : begins_with is_name ts ≡ false) where
      pub primary_list : (t : Token) (rest : List Token) (res : Answered Expr) → Taken (is K.LeftBracket) ts t rest → Comes (list_rule t.start) rest res → Gives Primary ts res
      unfolding rule
      primary_list t rest res h c =
          gives_line Primary ts res (comes_skip ts is_literal _ _ res plain (comes_skip ts is_name _ _ res unnamed
          (comes_take ts (is K.LeftBracket) _ _ t rest res h c)))

      module _ (listless : begins_with (is K.LeftBracket) ts ≡ false) where
        pub primary_brace : (t : Token) (rest : List Token) (res : Answered Expr) → Taken (is K.LeftBrace) ts t rest → Gives (Brace t.start) rest res → Gives Primary ts res
        unfolding rule
        primary_brace t rest res h g =
            gives_line Primary ts res (comes_skip ts is_literal _ _ res plain (comes_skip ts is_name _ _ res unnamed
            (comes_skip ts (is K.LeftBracket) _ _ res listless (comes_take ts (is K.LeftBrace) _ _ t rest res h (comes_tail (Brace t.start) rest res g)))))

        pub primary_stops : begins_with (is K.LeftBrace) ts ≡ false → Reads rule Primary ts (Refused ts)
        unfolding rule
        primary_stops none = line (runs_skip ts plain (runs_skip ts unnamed (runs_skip ts listless (runs_skip ts none runs_stop))))

module _ (at : ℕ) (ts : List Token) where
  pub group_fails : (e : Stop) → Gives Whole ts (Err e) → Gives (Group at) ts (Err e)
  unfolding rule
  group_fails e g = gives_line (Group at) ts (Err e) (comes_fail ts Whole _ e g)

  module _ (v : Expr) (mid : List Token) (first : Reads rule Whole ts (Took v mid)) where
    pub group_goes : (res : Answered Expr) → Comes (expect K.RightParen (done (placed at (X.Group v)))) mid res → Gives (Group at) ts res
    unfolding rule
    group_goes res c = gives_line (Group at) ts res (comes_call ts Whole _ v mid res first c)

  module _ (n : List ℕ) where
    pub named_ends : begins_with (is K.LeftParen) ts ≡ false → Reads rule (Named at n) ts (Took (placed at (X.Name n)) ts)
    unfolding rule
    named_ends none = line (runs_skip ts none runs_done)

    module _ (t : Token) (behind : List Token) (h : Taken (is K.LeftParen) ts t behind) where
      pub named_fails : (e : Stop) → Gives (Elements K.RightParen) behind (Err e) → Gives (Named at n) ts (Err e)
      unfolding rule
      named_fails e g =
          gives_line (Named at n) ts (Err e) (comes_take ts (is K.LeftParen) _ _ t behind (Err e) h (comes_fail behind (Elements K.RightParen) _ e g))

      pub named_goes : (es : List Expr) (mid : List Token) (res : Answered Expr) → Reads rule (Elements K.RightParen) behind (Took es mid)
          → Makes (placed at (X.Call n es)) mid res → Gives (Named at n) ts res
      unfolding rule
      named_goes es mid res first m =
          gives_line (Named at n) ts res (comes_take ts (is K.LeftParen) _ _ t behind res h
          (comes_call behind (Elements K.RightParen) _ es mid res first (comes_made (placed at (X.Call n es)) mid res m)))

  pub list_fails : (e : Stop) → Gives (Elements K.RightBracket) ts (Err e) → Comes (list_rule at) ts (Err e)
  list_fails e g = comes_fail ts (Elements K.RightBracket) _ e g

  pub list_goes : (es : List Expr) (mid : List Token) (res : Answered Expr) → Reads rule (Elements K.RightBracket) ts (Took es mid) → Makes (placed at (X.List es)) mid res
      → Comes (list_rule at) ts res
  list_goes es mid res first m = comes_call ts (Elements K.RightBracket) _ es mid res first (comes_made (placed at (X.List es)) mid res m)

-- Elements

module _ (close : Symbol) (ts : List Token) where
  pub elements_none : (t : Token) (behind : List Token) → Taken (is close) ts t behind → Reads rule (Elements close) ts (Took [] behind)
  unfolding rule
  elements_none t behind h = line (runs_take ts t behind h.here h.passes runs_done)

  pub elements_start : begins_with (is close) ts ≡ false → (o : RuleResult (List Expr)) → Reads rule (Items close []) ts o → Reads rule (Elements close) ts o
  unfolding rule
  elements_start none o r = line (runs_skip ts none (runs_last r))

  module _ (es : List Expr) where
    pub item_fails : (e : Stop) → Gives Whole ts (Err e) → Gives (Items close es) ts (Err e)
    unfolding rule
    item_fails e g = gives_line (Items close es) ts (Err e) (comes_fail ts Whole _ e g)

    module _ (v : Expr) (mid : List Token) (first : Reads rule Whole ts (Took v mid)) where
      pub items_stops : begins_with (is K.Comma) mid ≡ false → (e : Stop) → Passes close mid (Err e) → Gives (Items close es) ts (Err e)
      unfolding rule
      items_stops none e p =
          gives_line (Items close es) ts (Err e) (comes_call ts Whole _ v mid (Err e) first (comes_skip mid (is K.Comma) _ _ (Err e) none (comes_pass_fail mid close _ e p)))

      pub items_end : begins_with (is K.Comma) mid ≡ false → (rest : Bor (List Token)) → Passes close mid (Ok rest) → Reads rule (Items close es) ts (Took (es ++ v ∷ []) rest.now)
      unfolding rule
      items_end none rest p = line (runs_call first (runs_skip mid none (runs_take mid p.0 rest.now p.1.here p.1.passes runs_done)))

      pub items_go : (t : Token) (behind : List Token) → Taken (is K.Comma) mid t behind → (o : RuleResult (List Expr)) → Reads rule (Items close (es ++ v ∷ [])) behind o
          → Reads rule (Items close es) ts o
      unfolding rule
      items_go t behind h o r = line (runs_call first (runs_take mid t behind h.here h.passes (runs_last r)))

-- Braces

-- only a name alone begins a field
pub no_field : (at place : ℕ) (what : ExprKind) → ((n : List ℕ) → what ≡ X.Name n → ⊥) → field_rule at place what ≡ stop
no_field at place (X.Name n) not = absurd (not n refl)
no_field at place _ not = refl

module _ (at : ℕ) (ts : List Token) where
  pub brace_empty : (t : Token) (behind : List Token) → Taken (is K.RightBrace) ts t behind → Reads rule (Brace at) ts (Took (placed at (X.Map [])) behind)
  unfolding rule
  brace_empty t behind h = line (runs_take ts t behind h.here h.passes runs_done)

  module _ (some : begins_with (is K.RightBrace) ts ≡ false) where
    pub brace_fails : (e : Stop) → Gives Whole ts (Err e) → Gives (Brace at) ts (Err e)
    unfolding rule
    brace_fails e g = gives_line (Brace at) ts (Err e) (comes_skip ts (is K.RightBrace) _ _ (Err e) some (comes_fail ts Whole _ e g))

    module _ (v : Expr) (mid : List Token) (first : Reads rule Whole ts (Took v mid)) where
      pub brace_entries : (t : Token) (behind : List Token) (res : Answered Expr) → Taken (is K.Colon) mid t behind → Gives (Entries at [] v) behind res → Gives (Brace at) ts res
      unfolding rule
      brace_entries t behind res h g =
          gives_line (Brace at) ts res (comes_skip ts (is K.RightBrace) _ _ res some (comes_call ts Whole _ v mid res first
          (comes_take mid (is K.Colon) _ _ t behind res h (comes_tail (Entries at [] v) behind res g))))

      module _ (none : begins_with (is K.Colon) mid ≡ false) where
        behind_first : (res : Answered Expr) → Comes (field_rule at v.at v.what) mid res → Gives (Brace at) ts res
        unfolding rule
        behind_first res c =
            gives_line (Brace at) ts res (comes_skip ts (is K.RightBrace) _ _ res some (comes_call ts Whole _ v mid res first (comes_skip mid (is K.Colon) _ _ res none c)))

        pub brace_stops : ((n : List ℕ) → v.what ≡ X.Name n → ⊥) → (rest : Bor (List Token)) → rest.now ≡ mid → Gives (Brace at) ts (Err (S.At rest))
        brace_stops not rest e =
            behind_first (Err (S.At rest)) (subst (λ r. RunsTo rule r mid (Refused rest.now)) (sym (no_field at v.at v.what not))
            (subst (λ q. RunsTo rule {A = Expr} stop mid (Refused q)) (sym e) runs_stop))

        module _ (n : List ℕ) (e : v.what ≡ X.Name n) where
          pub name_stops : (s : Stop) → Passes K.Assign mid (Err s) → Gives (Brace at) ts (Err s)
          name_stops s p = behind_first (Err s) (subst (λ w. Comes (field_rule at v.at w) mid (Err s)) (sym e) (comes_pass_fail mid K.Assign _ s p))

          pub brace_fields : (rest : Bor (List Token)) (res : Answered Expr) → Passes K.Assign mid (Ok rest) → Gives (Fields at [] (placed v.at n)) rest.now res → Gives (Brace at) ts res
          brace_fields rest res p g =
              behind_first res (subst (λ w. Comes (field_rule at v.at w) mid res) (sym e) (comes_pass mid K.Assign _ rest res p (comes_tail (Fields at [] (placed v.at n)) rest.now res g)))

  module _ (es : List (Expr × Expr)) (key : Expr) where
    pub value_fails : (e : Stop) → Gives Whole ts (Err e) → Gives (Entries at es key) ts (Err e)
    unfolding rule
    value_fails e g = gives_line (Entries at es key) ts (Err e) (comes_fail ts Whole _ e g)

    module _ (v : Expr) (mid : List Token) (first : Reads rule Whole ts (Took v mid)) where
      pub entries_end : begins_with (is K.Comma) mid ≡ false → (res : Answered Expr) → Comes (expect K.RightBrace (done (placed at (X.Map (es ++ (key, v) ∷ []))))) mid res
          → Gives (Entries at es key) ts res
      unfolding rule
      entries_end none res c = gives_line (Entries at es key) ts res (comes_call ts Whole _ v mid res first (comes_skip mid (is K.Comma) _ _ res none c))

      module _ (t : Token) (behind : List Token) (h : Taken (is K.Comma) mid t behind) where
        pub key_fails : (e : Stop) → Gives Whole behind (Err e) → Gives (Entries at es key) ts (Err e)
        unfolding rule
        key_fails e g =
            gives_line (Entries at es key) ts (Err e) (comes_call ts Whole _ v mid (Err e) first (comes_take mid (is K.Comma) _ _ t behind (Err e) h (comes_fail behind Whole _ e g)))

        module _ (k : Expr) (left : List Token) (second : Reads rule Whole behind (Took k left)) where
          pub key_stops : (e : Stop) → Passes K.Colon left (Err e) → Gives (Entries at es key) ts (Err e)
          unfolding rule
          key_stops e p =
              gives_line (Entries at es key) ts (Err e) (comes_call ts Whole _ v mid (Err e) first (comes_take mid (is K.Comma) _ _ t behind (Err e) h
              (comes_call behind Whole _ k left (Err e) second (comes_pass_fail left K.Colon _ e p))))

          pub entries_go : (rest : Bor (List Token)) → Passes K.Colon left (Ok rest) → (o : RuleResult Expr) → Reads rule (Entries at (es ++ (key, v) ∷ []) k) rest.now o
              → Reads rule (Entries at es key) ts o
          unfolding rule
          entries_go rest p o r =
              line (runs_call first (runs_take mid t behind h.here h.passes (runs_call second (runs_take left p.0 rest.now p.1.here p.1.passes (runs_last r)))))

  module _ (fs : List (Field Expr)) (name : Placed (List ℕ)) where
    pub field_fails : (e : Stop) → Gives Whole ts (Err e) → Gives (Fields at fs name) ts (Err e)
    unfolding rule
    field_fails e g = gives_line (Fields at fs name) ts (Err e) (comes_fail ts Whole _ e g)

    module _ (v : Expr) (mid : List Token) (first : Reads rule Whole ts (Took v mid)) where
      pub fields_end : begins_with (is K.Comma) mid ≡ false → (res : Answered Expr) → Comes (expect K.RightBrace (done (placed at (X.Tuple (fs ++ field name v ∷ []))))) mid res
          → Gives (Fields at fs name) ts res
      unfolding rule
      fields_end none res c = gives_line (Fields at fs name) ts res (comes_call ts Whole _ v mid res first (comes_skip mid (is K.Comma) _ _ res none c))

      module _ (t : Token) (behind : List Token) (h : Taken (is K.Comma) mid t behind) where
        pub next_fails : (e : Stop) → PassesName behind (Err e) → Gives (Fields at fs name) ts (Err e)
        unfolding rule
        next_fails S.Memory p = tt
        next_fails (S.At rest) p =
            gives_line (Fields at fs name) ts (Err (S.At rest)) (comes_call ts Whole _ v mid (Err (S.At rest)) first (comes_take mid (is K.Comma) _ _ t behind (Err (S.At rest)) h
            (comes_stop behind is_name _ rest p.0 p.1)))

        module _ (next : Placed (List ℕ)) (left : List Token) (named : TakenAs is_name (λ n. placed n.start (name_of n)) behind next left) where
          pub next_stops : (e : Stop) → Passes K.Assign left (Err e) → Gives (Fields at fs name) ts (Err e)
          unfolding rule
          next_stops e p =
              gives_line (Fields at fs name) ts (Err e) (comes_call ts Whole _ v mid (Err e) first (comes_take mid (is K.Comma) _ _ t behind (Err e) h
              (comes_take behind is_name _ _ named.token left (Err e) named.taken (comes_pass_fail left K.Assign _ e p))))

          pub fields_go : (rest : Bor (List Token)) → Passes K.Assign left (Ok rest) → (o : RuleResult Expr) → Reads rule (Fields at (fs ++ field name v ∷ []) next) rest.now o
              → Reads rule (Fields at fs name) ts o
          unfolding rule
          fields_go rest p o r =
              line (runs_call first (runs_take mid t behind h.here h.passes (runs_take behind named.token left named.taken.here named.taken.passes
              (runs_take left p.0 rest.now p.1.here p.1.passes (runs_last (subst (λ q. Reads rule (Fields at (fs ++ field name v ∷ []) q) rest.now o) named.is r))))))

-- Steps

pub steps_fails : (e : Expr) (ss : List (Step Expr)) (ts : List Token) (s : Stop) → StepsOn ts (Err s) → Gives (Steps e ss) ts (Err s)
steps_fails e ss ts (S.At rest) g = g e ss
steps_fails e ss ts S.Memory g = tt

pub steps_end : (e : Expr) (ss : List (Step Expr)) (ts : List Token) (rest : List Token) (res : Answered Expr) → StepFound ts None rest → Makes (selected e ss) rest res → Gives (Steps e ss) ts res
unfolding rule
steps_end e ss ts rest res h m =
    gives_line (Steps e ss) ts res (comes_skip ts (is K.Dot) _ _ res h.0 (comes_skip ts (is K.LeftBracket) _ _ res h.1
    (subst (λ q. Comes (done (selected e ss)) q res) h.2 (comes_made (selected e ss) rest res m))))

module _ (ts : List Token) (t : Token) (behind : List Token) where
  pub member_fails : Taken (is K.Dot) ts t behind → (e : Stop) → PassesName behind (Err e) → StepsOn ts (Err e)
  unfolding rule
  member_fails h S.Memory p = tt
  member_fails h (S.At rest) p = λ e ss.
      line (runs_take ts t behind h.here h.passes (subst (λ q. RunsTo rule (look is_name (λ n. call (Steps e (ss ++ N.Member (placed n.start (name_of n)) ∷ [])) done) stop) behind (Refused q)) (sym p.1)
      (runs_skip behind p.0 runs_stop)))

  pub member_found : Taken (is K.Dot) ts t behind → (name : Placed (List ℕ)) (rest : List Token) → TakenAs is_name (λ n. placed n.start (name_of n)) behind name rest
      → StepFound ts (Some (N.Member name)) rest
  unfolding rule
  member_found h name rest named = (
    (let one = taken_shrinks h in let two = taken_as_shrinks named in omega arith),
    λ e ss o r. line (runs_take ts t behind h.here h.passes (runs_take behind named.token rest named.taken.here named.taken.passes
        (runs_last (subst (λ n. Reads rule (Steps e (ss ++ N.Member n ∷ [])) rest o) named.is r)))),
  )

  module _ (none : begins_with (is K.Dot) ts ≡ false) (h : Taken (is K.LeftBracket) ts t behind) where
    pub index_fails : (e : Stop) → Gives Whole behind (Err e) → StepsOn ts (Err e)
    unfolding rule
    index_fails S.Memory g = tt
    index_fails (S.At rest) g = λ e ss. line (runs_skip ts none (runs_take ts t behind h.here h.passes (runs_fail g)))

    module _ (v : Expr) (mid : List Token) (first : Reads rule Whole behind (Took v mid)) where
      pub index_stops : (e : Stop) → Passes K.RightBracket mid (Err e) → StepsOn ts (Err e)
      unfolding rule
      index_stops S.Memory p = tt
      index_stops (S.At rest) p = λ e ss.
          line (runs_skip ts none (runs_take ts t behind h.here h.passes (runs_call first
          (subst (λ q. RunsTo rule (expect K.RightBracket (call (Steps e (ss ++ N.Index v ∷ [])) done)) mid (Refused q)) (sym p.1) (runs_skip mid p.0 runs_stop)))))

      pub index_found : (rest : Bor (List Token)) → Passes K.RightBracket mid (Ok rest) → StepFound ts (Some (N.Index v)) rest.now
      unfolding rule
      index_found rest p = (
        (let one = taken_shrinks h in let two = reads_shrinks first in let three = taken_shrinks p.1 in omega arith),
        λ e ss o r. line (runs_skip ts none (runs_take ts t behind h.here h.passes (runs_call first (runs_take mid p.0 rest.now p.1.here p.1.passes (runs_last r))))),
      )
