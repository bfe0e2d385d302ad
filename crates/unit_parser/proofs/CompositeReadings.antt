-- Rules that go on as others do, and the rests of the rules of composites after a name.
use Rattle.std.proofs.Common.{◌≡◌, ◌∙◌, ℕ, zero, suc, ◌<◌, ◌≤◌, Bool, true, false, if◌then◌else◌, List, [], ◌∷◌, ◌++◌, length, Option, Err, refl, sym, ap, subst, arith}
use Rattle.spl_tree.specs.declared.keyword.Keyword.TheVariants as K
use Rattle.spl_tree.specs.declared.symbol.Symbol.TheVariants as S
use Rattle.spl_tree.specs.declared.token.Token.{Token}
use Rattle.spl_tree.specs.declared.unit.Composite.{Composite}
use Rattle.spl_tree.specs.declared.unit.HeadPort.{HeadPort}
use Rattle.spl_tree.specs.declared.unit.TypeDefinition.{TypeDefinition}
use Rattle.spl_tree.specs.Trees.{Shape}
use Rattle.expr_parser.specs.declared.stop.Stop.{Stop}
use Rattle.expr_parser.specs.declared.stop.Stop.TheVariants as E
use Rattle.expr_parser.specs.Lines.{is_name}
use Rattle.expr_parser.proofs.Locality.{rest_of, run_shrinks}
use Rattle.expr_parser.proofs.RuleLaws.{line, Settled, runs_last}
use Rattle.expr_parser.specs.Taken.{begins_with, Taken}
use Rattle.expr_parser.specs.Rules.{done, look, call, RuleResult, Took, Refused, Spent, run, read, RunsTo, Reads}
use Rattle.statement_parser.proofs.StatementReadings.{behind, part_read}
use Rattle.statement_parser.specs.Gives.{Comes, Gives}
use Rattle.statement_parser.specs.Lines.{Line, Value, Name, rule, R, expect, expect_name, name_at, HeadPorts, CompositeParameterClause, TypeClause, GraphClause, ParameterClause, TypeOf, Types, Shaped}

-- one that begins with a name takes a token
pub name_takes : {A : Type 0} (k : Name → R A) (ts mid : List Token) (v : A) → RunsTo rule (expect_name k) ts (Took v mid) → length mid < length ts
name_takes k [] mid v r = let e = r.is in absurd (cc)
name_takes {A} k (t ∷ ts) mid v r = by (is_name t) r.is
  where
    by : (b : Bool) → (if b then run (read rule r.depth) (k (name_at t)) ts else Refused (t ∷ ts)) ≡ Took v mid → length mid < length (t ∷ ts)
    by true e = let le = subst (λ o. length (rest_of o) ≤ length ts) e (run_shrinks rule r.depth (k (name_at t)) ts) in omega arith
    by false e = absurd (cc)

-- a value or a refusal that a line gives is given by its rule
pub by_rule : {x : Line} {ts : List Token} {o : RuleResult (Value x)} → Settled o → Reads rule x ts o → RunsTo rule (rule x) ts o
unfolding read
by_rule {x} {ts} {o} s r = at_depth r.depth r.is
  where
    at_depth : (n : ℕ) → read rule n x ts ≡ o → RunsTo rule (rule x) ts o
    at_depth zero e = absurd (subst Settled (sym e) s)
    at_depth (suc n) e = record { depth = n; is = e }

-- the same of what is answered
pub rule_comes : (x : Line) (ts : List Token) (e : Stop) → Gives x ts (Err e) → Comes (rule x) ts (Err e)
rule_comes x ts (E.At rest) g = by_rule tt g
rule_comes x ts E.Memory g = tt

-- a choice by a test that passes
first_way : {X : Type 0} (b : Bool) (x y z : X) → b ≡ true → (if b then x else y) ≡ (if b then x else z)
first_way true x y z e = refl
first_way false x y z e = absurd (cc)

-- where the first token passes, it doesn't matter how a rule would go on without
pub passing : {A : Type 0} {p : Token → Bool} {f : Token → R A} {d d' : R A} {ts : List Token} {o : RuleResult A} → begins_with p ts ≡ true
    → RunsTo rule (look p f d) ts o → RunsTo rule (look p f d') ts o
passing {ts = []} begins r = absurd (cc)
passing {ts = t ∷ ts} begins r = record { depth = r.depth; is = first_way _ _ _ _ begins ∙ r.is }

-- any line is read in no depth to nothing
pub spent : {x : Line} {ts : List Token} → Reads rule x ts Spent
unfolding read
spent = record { depth = 0; is = refl }

-- ---- after a name

abbrev pub port_named : Option Shape → Name → R HeadPort
port_named h n = done (record { shape = h; name = n })

abbrev pub composite_named : Name → R Composite
composite_named n =
    call HeadPorts (λ h. expect S.LeftBrace (call CompositeParameterClause (λ ps. call TypeClause (λ ts. call GraphClause (λ xs.
    call (ParameterClause K.Config) (λ gs. expect S.RightBrace
    (done (record { name = n; outputs = h.0; inputs = h.1; parameters = ps; types = ts; graph = xs; config = gs }))))))))

abbrev pub type_named : Name → R TypeDefinition
type_named n = expect S.Assign (call (Shaped S.Semicolon) (λ h. done (record { name = n; shape = h })))

-- ---- types

-- one more type
abbrev pub one_more : List TypeDefinition → TypeDefinition → R (List TypeDefinition)
one_more xs d = call (Types (xs ++ d ∷ [])) done

-- a token that is taken passes
pub taken_begins : {p : Token → Bool} {ts rest : List Token} {t : Token} → Taken p ts t rest → begins_with p ts ≡ true
taken_begins {p} h = ap (begins_with p) h.here ∙ h.passes

-- with a name a definition comes
pub more_types : {xs : List TypeDefinition} {ts : List Token} {o : RuleResult (List TypeDefinition)} → begins_with is_name ts ≡ true
    → RunsTo rule (behind (rule TypeOf) (one_more xs)) ts o → Reads rule (Types xs) ts o
unfolding rule
more_types begins r = line (passing begins r)

pub type_read : {xs : List TypeDefinition} {d : TypeDefinition} {ts mid : List Token} {o : RuleResult (List TypeDefinition)} → begins_with is_name ts ≡ true
    → Reads rule TypeOf ts (Took d mid) → Reads rule (Types (xs ++ d ∷ [])) mid o → Reads rule (Types xs) ts o
type_read {xs} begins first q = more_types begins (part_read (rule TypeOf) (one_more xs) (by_rule tt first) (runs_last q))

-- a definition takes tokens
pub type_shrinks : {ts mid : List Token} {d : TypeDefinition} → Reads rule TypeOf ts (Took d mid) → length mid < length ts
unfolding rule
type_shrinks {ts} {mid} {d} r = name_takes type_named ts mid d (by_rule tt r)

-- ---- heads

abbrev pub outputs_first : List HeadPort → List HeadPort → R (List HeadPort × List HeadPort)
outputs_first outs ins = done (outs, ins)

abbrev pub inputs_first : List HeadPort → List HeadPort → R (List HeadPort × List HeadPort)
inputs_first ins outs = done (outs, ins)
