-- A code of literals has one value wherever it is evaluated, and takes no turn.
use Rattle.std.specs.Prelude.{◌≡◌, ◌&&◌, ℕ, true, Bool, IsTrue, List, [], ◌∷◌, Option, None, Some}
use Rattle.std.specs.List.{AllByRecursion, list_all}
use Rattle.std.proofs.Common.{refl, sym, ap, ◌∙◌, subst}
use Rattle.spl_value.specs.declared.types.IntKind.{IntKind}
use Rattle.spl_value.specs.declared.types.SplType.{SplType}
use Rattle.spl_value.specs.declared.value.Value.{Value}
use Rattle.spl_value.specs.declared.value.Value.TheVariants as V
use Rattle.spl_value.specs.declared.value.Value.TheOpen as O
use Rattle.spl_value.specs.declared.value.Value.TheOpen.{Value-F}
use Rattle.spl_value.specs.declared.value.Value.TheViews.{out-Value}
use Rattle.spl_value.specs.Values.{fits}
use Rattle.spl_value.proofs.Bools.{and_left, and_right, false_true}
use Rattle.spl_tree.specs.declared.code.Code.{Code}
use Rattle.spl_tree.specs.declared.code.Code.TheVariants as S
use Rattle.spl_tree.specs.declared.code.Code.TheOpen as C
use Rattle.spl_tree.specs.declared.code.Code.TheFolds.{map-Code}
use Rattle.spl_tree.specs.declared.code.Slot.{Slot}
use Rattle.spl_tree.specs.declared.code.UnaryCode.{UnaryCode}
use Rattle.spl_tree.specs.declared.code.UnaryCode.TheVariants as U
use Rattle.language_model.specs.CodeFits.{CodeFits}
use Rattle.language_model.specs.Evaluation.{World, Calls, tuple_of, unaries_of, code_value, world_of}
use Rattle.language_model.specs.parts.Evaluation.{map_of}
use Rattle.language_model.specs.EvaluationLaws.{values_of, pair_values, field_values, literal_is, list_is, map_is, tuple_is, unary_is}
use Rattle.language_model.specs.FitLaws.{no_names}
use Rattle.language_model.specs.Functions.{function_env}
use Rattle.language_model.specs.parts.Functions.{calls_of}
use Rattle.language_model.specs.LogicTyping.{is_minus, level_plain}
use Rattle.language_model.specs.parts.LogicTyping.{is_plain}
use Rattle.language_model.specs.Operators.{level_unary}
use Rattle.language_model.specs.parts.Operators.{unary_of}
use Rattle.language_model.specs.Outcomes.{Outcome, Done, followed, need, settled}
use Rattle.language_model.specs.WorldFits.{ComesTo, Fits}
use Rattle.language_model.proofs.Calling.{never_stuck_law}
use Rattle.language_model.proofs.CodeInduction.{CodeSteps, OfPair, OfField, code_ind}
use Rattle.evaluation_laws.specs.LiteralLaws.{IsAlways, LiteralLaw}
use Rattle.language_model.proofs.PlainCodes.{plain_at}

-- ---- codes of literals, by their parts

pub plain_literal : (v : Value) → is_plain (S.Literal v) ≡ true
plain_literal v = plain_at (S.Literal v) (C.Literal v) (S.outs-Literal v)

pub plain_list : (xs : List (Code Slot)) → is_plain (S.List xs) ≡ list_all is_plain xs
plain_list xs = plain_at (S.List xs) (C.List xs) (S.outs-List xs) ∙ along xs where
  along : (xs : List (Code Slot)) → level_plain (map-Code Slot (Code Slot) Bool is_plain (C.List xs)) ≡ list_all is_plain xs
  along [] = refl
  along (x ∷ xs) = ap (λ b. is_plain x && b) (along xs)

abbrev pub plain_pair : Code Slot × Code Slot → Bool
plain_pair p = is_plain p.0 && is_plain p.1

pub plain_map : (ps : List (Code Slot × Code Slot)) → is_plain (S.Map ps) ≡ list_all plain_pair ps
plain_map ps = plain_at (S.Map ps) (C.Map ps) (S.outs-Map ps) ∙ along ps where
  along : (ps : List (Code Slot × Code Slot)) → level_plain (map-Code Slot (Code Slot) Bool is_plain (C.Map ps)) ≡ list_all plain_pair ps
  along [] = refl
  along (p ∷ ps) = ap (λ b. plain_pair p && b) (along ps)

abbrev pub plain_field : ℕ × Code Slot → Bool
plain_field f = is_plain f.1

pub plain_tuple : (fs : List (ℕ × Code Slot)) → is_plain (S.Tuple fs) ≡ list_all plain_field fs
plain_tuple fs = plain_at (S.Tuple fs) (C.Tuple fs) (S.outs-Tuple fs) ∙ along fs where
  along : (fs : List (ℕ × Code Slot)) → level_plain (map-Code Slot (Code Slot) Bool is_plain (C.Tuple fs)) ≡ list_all plain_field fs
  along [] = refl
  along (f ∷ fs) = ap (λ b. is_plain f.1 && b) (along fs)

pub plain_unary : (ops : List UnaryCode) (x : Code Slot) → is_plain (S.Unary ops x) ≡ (list_all is_minus ops && is_plain x)
plain_unary ops x = plain_at (S.Unary ops x) (C.Unary ops x) (S.outs-Unary ops x)

pub ruleset plain_laws = (plain_literal, plain_list, plain_map, plain_tuple, plain_unary)

-- ---- what has the same result wherever it is evaluated

-- whatever calls return, in every world: an answer with all turns left, or being stuck
abbrev Settled : {A : Type 0} → (Calls → World Slot → ℕ → Outcome A) → Type 0
Settled {A} f = (o : Option A) × ((calls : Calls) (w : World Slot) (turns : ℕ) → f calls w turns ≡ need o (λ x. Done x turns))

settled_done : {A : Type 0} (x : A) → Settled (λ calls w turns. Done x turns)
settled_done x = (Some x, λ calls w turns. refl)

settled_need : {A B : Type 0} (o : Option A) (f : A → B) → Settled (λ calls w turns. need o (λ x. Done (f x) turns))
settled_need None f = (None, λ calls w turns. refl)
settled_need (Some x) f = (Some (f x), λ calls w turns. refl)

settled_followed : {A B : Type 0} (f : Calls → World Slot → ℕ → Outcome A) (g : A → Calls → World Slot → ℕ → Outcome B) → Settled f → ((x : A) → Settled (g x))
    → Settled (λ calls w turns. followed (f calls w turns) (λ x turns. g x calls w turns))
settled_followed f g h k = by_case h.0 h.1 where
  by_case : (o : Option _) → ((calls : Calls) (w : World Slot) (turns : ℕ) → f calls w turns ≡ need o (λ x. Done x turns))
      → Settled (λ calls w turns. followed (f calls w turns) (λ x turns. g x calls w turns))
  by_case None e = (None, λ calls w turns. ap (λ o. followed o (λ x turns. g x calls w turns)) (e calls w turns))
  by_case (Some x) e = ((k x).0, λ calls w turns. ap (λ o. followed o (λ x turns. g x calls w turns)) (e calls w turns) ∙ (k x).1 calls w turns)

settled_by : {A : Type 0} (f g : Calls → World Slot → ℕ → Outcome A) → ((calls : Calls) (w : World Slot) (turns : ℕ) → f calls w turns ≡ g calls w turns) → Settled g → Settled f
settled_by f g e h = (h.0, λ calls w turns. e calls w turns ∙ h.1 calls w turns)

-- ---- rows of codes

abbrev Plain : Code Slot → Type 0
Plain x = is_plain x ≡ true → Settled (λ calls. code_value calls x)

values_settled : (xs : List (Code Slot)) → AllByRecursion Plain xs → list_all is_plain xs ≡ true → Settled (λ calls. values_of calls xs)
values_settled [] h is = settled_done []
values_settled (x ∷ xs) h is =
    settled_followed (λ calls. code_value calls x) _ (h.0 (and_left (is_plain x) (list_all is_plain xs) is)) (λ v.
    settled_followed (λ calls. values_of calls xs) _ (values_settled xs h.1 (and_right (is_plain x) (list_all is_plain xs) is)) (λ vs. settled_done (v ∷ vs)))

pairs_settled : (ps : List (Code Slot × Code Slot)) → AllByRecursion (OfPair Plain) ps → list_all plain_pair ps ≡ true → Settled (λ calls. pair_values calls ps)
pairs_settled [] h is = settled_done []
pairs_settled (p ∷ ps) h is =
    let both = and_left (plain_pair p) (list_all plain_pair ps) is in
    settled_followed (λ calls. code_value calls p.0) _ (h.0.0 (and_left (is_plain p.0) (is_plain p.1) both)) (λ k.
    settled_followed (λ calls. code_value calls p.1) _ (h.0.1 (and_right (is_plain p.0) (is_plain p.1) both)) (λ v.
    settled_followed (λ calls. pair_values calls ps) _ (pairs_settled ps h.1 (and_right (plain_pair p) (list_all plain_pair ps) is)) (λ qs. settled_done ((k, v) ∷ qs))))

fields_settled : (fs : List (ℕ × Code Slot)) → AllByRecursion (OfField Plain) fs → list_all plain_field fs ≡ true → Settled (λ calls. field_values calls fs)
fields_settled [] h is = settled_done []
fields_settled (f ∷ fs) h is =
    settled_followed (λ calls. code_value calls f.1) _ (h.0 (and_left (is_plain f.1) (list_all plain_field fs) is)) (λ v.
    settled_followed (λ calls. field_values calls fs) _ (fields_settled fs h.1 (and_right (is_plain f.1) (list_all plain_field fs) is)) (λ gs. settled_done ((f.0, v) ∷ gs)))

-- ---- `-`

negated : (kind : IntKind) (y : Value-F Value) → Settled (λ calls w turns. settled (level_unary (U.Negate kind) y) turns)
negated kind (O.Int n) = (Some _, λ calls w turns. refl)
negated kind _ = (None, λ calls w turns. refl)

minus_settled : (op : UnaryCode) (v : Value) → is_minus op ≡ true → Settled (λ calls w turns. settled (unary_of op v) turns)
minus_settled (U.Negate kind) v is = negated kind (out-Value v)
minus_settled _ v is = absurd cc

unaries_settled : (ops : List UnaryCode) (v : Value) → list_all is_minus ops ≡ true → Settled (λ calls w turns. unaries_of ops v turns)
unaries_settled [] v is = settled_done v
unaries_settled (op ∷ ops) v is =
    settled_followed (λ calls w turns. unaries_of ops v turns) _ (unaries_settled ops v (and_right (is_minus op) (list_all is_minus ops) is)) (λ u.
    minus_settled op u (and_left (is_minus op) (list_all is_minus ops) is))

-- ---- codes

list_settled : (xs : List (Code Slot)) → AllByRecursion Plain xs → Plain (S.List xs)
list_settled xs h is =
    settled_by (λ calls. code_value calls (S.List xs)) _ (λ calls. list_is calls xs)
    (settled_followed (λ calls. values_of calls xs) _ (values_settled xs h (sym (plain_list xs) ∙ is)) (λ vs. settled_done (V.List vs)))

map_settled : (ps : List (Code Slot × Code Slot)) → AllByRecursion (OfPair Plain) ps → Plain (S.Map ps)
map_settled ps h is =
    settled_by (λ calls. code_value calls (S.Map ps)) _ (λ calls. map_is calls ps)
    (settled_followed (λ calls. pair_values calls ps) _ (pairs_settled ps h (sym (plain_map ps) ∙ is)) (λ qs. settled_done (V.Map (map_of qs))))

tuple_settled : (fs : List (ℕ × Code Slot)) → AllByRecursion (OfField Plain) fs → Plain (S.Tuple fs)
tuple_settled fs h is =
    settled_by (λ calls. code_value calls (S.Tuple fs)) _ (λ calls. tuple_is calls fs)
    (settled_followed (λ calls. field_values calls fs) _ (fields_settled fs h (sym (plain_tuple fs) ∙ is)) (λ gs. settled_need (tuple_of gs) (λ vs. V.Tuple vs)))

unary_settled : (ops : List UnaryCode) (x : Code Slot) → Plain x → Plain (S.Unary ops x)
unary_settled ops x h is =
    let both : (list_all is_minus ops && is_plain x) ≡ true = sym (plain_unary ops x) ∙ is in
    settled_by (λ calls. code_value calls (S.Unary ops x)) _ (λ calls. unary_is calls ops x)
    (settled_followed (λ calls. code_value calls x) _ (h (and_right (list_all is_minus ops) (is_plain x) both)) (λ v.
    unaries_settled ops v (and_left (list_all is_minus ops) (is_plain x) both)))

plain_steps : CodeSteps Plain
plain_steps = record {
  literal = λ v is. settled_by (λ calls. code_value calls (S.Literal v)) _ (λ calls. literal_is calls v) (settled_done v);
  name = λ n is. false_true (is_plain (S.Name n)) (plain_at (S.Name n) (C.Name n) (S.outs-Name n)) is;
  list = list_settled;
  map_of = map_settled;
  tuple = tuple_settled;
  select = λ x ts f h is. false_true (is_plain (S.Select x ts)) (plain_at (S.Select x ts) (C.Select x ts) (S.outs-Select x ts)) is;
  unary = unary_settled;
  binary = λ op x y f g is. false_true (is_plain (S.Binary op x y)) (plain_at (S.Binary op x y) (C.Binary op x y) (S.outs-Binary op x y)) is;
  conditional = λ c x y e f g is. false_true (is_plain (S.Conditional c x y)) (plain_at (S.Conditional c x y) (C.Conditional c x y) (S.outs-Conditional c x y)) is;
  built_in = λ call xs h is. false_true (is_plain (S.BuiltIn call xs)) (plain_at (S.BuiltIn call xs) (C.BuiltIn call xs) (S.outs-BuiltIn call xs)) is;
  call = λ i xs h is. false_true (is_plain (S.Call i xs)) (plain_at (S.Call i xs) (C.Call i xs) (S.outs-Call i xs)) is;
  is_marker = λ m is. false_true (is_plain (S.IsMarker m)) (plain_at (S.IsMarker m) (C.IsMarker m) (S.outs-IsMarker m)) is;
  is_not_marker = λ m is. false_true (is_plain (S.IsNotMarker m)) (plain_at (S.IsNotMarker m) (C.IsNotMarker m) (S.outs-IsNotMarker m)) is;
}

-- ---- the law

-- where there is nothing, it fits
nowhere : (code : Code Slot) (t : SplType) → CodeFits no_names code t → Fits [] code (function_env []) t
nowhere code t h = record {
  scope = no_names;
  code_fits = h;
  env_fits = record { variables = λ i x at. absurd cc; inputs = λ i p at. absurd cc; marker = λ is. absurd cc };
  functions_fit = λ i s at. absurd cc;
}

pub literal_law : LiteralLaw
literal_law code t h plain = by_case is.0 is.1 where
  is : Settled (λ calls. code_value calls code)
  is = code_ind Plain plain_steps code plain

  comes : ComesTo t (code_value (calls_of [] 0) code (world_of (function_env [])) 0)
  comes = never_stuck_law [] code (function_env []) t (nowhere code t h) 0 0

  by_case : (o : Option Value) → ((calls : Calls) (w : World Slot) (turns : ℕ) → code_value calls code w turns ≡ need o (λ v. Done v turns))
      → (v : Value) × IsTrue (fits t v) × IsAlways code v
  by_case None e = absurd (subst (ComesTo t) (e (calls_of [] 0) (world_of (function_env [])) 0) comes)
  by_case (Some v) e = (v, subst (ComesTo t) (e (calls_of [] 0) (world_of (function_env [])) 0) comes, λ functions w turns. e (calls_of functions turns) w turns)
