-- What calls that read definitions answer.
use Rattle.std.proofs.Common.{◌≡◌, ◌∙◌, ◌<◌, ◌≤◌, arith, Bool, true, false, if◌then◌else◌, List, [], ◌∷◌, ◌++◌, length, Option, Some, None, Result, Ok, Err, refl}
use Rattle.std.specs.Prelude.{IsErrAnd}
use Rattle.std.specs.Option.{is_some}
use Rattle.std.specs.Borrow.{Bor}
use Rattle.spl_tree.specs.declared.keyword.Keyword.{Keyword}
use Rattle.spl_tree.specs.declared.keyword.Keyword.TheVariants as K
use Rattle.spl_tree.specs.declared.symbol.Symbol.TheVariants as Y
use Rattle.spl_tree.specs.declared.token.Token.{Token}
use Rattle.spl_tree.specs.declared.token.TokenKind.{TokenKind}
use Rattle.spl_tree.specs.declared.token.TokenKind.TheVariants as T
use Rattle.spl_tree.specs.declared.unit.Composite.{Composite}
use Rattle.spl_tree.specs.declared.unit.Definition.{Definition}
use Rattle.spl_tree.specs.declared.unit.Definition.TheVariants as D
use Rattle.spl_tree.specs.declared.unit.FunctionDefinition.{FunctionDefinition}
use Rattle.spl_tree.specs.Trees.{TypeExpr}
use Rattle.expr_parser.specs.declared.stop.Stop.{Stop}
use Rattle.expr_parser.specs.declared.stop.Stop.TheVariants as S
use Rattle.expr_parser.specs.Gives.{Passes}
use Rattle.expr_parser.specs.Lines.{is}
use Rattle.expr_parser.proofs.RuleLaws.{line}
use Rattle.expr_parser.specs.Taken.{begins_with}
use Rattle.expr_parser.specs.Rules.{done, stop, look, call, RuleResult, Took, Refused, RunsTo, Reads}
use Rattle.unit_parser.proofs.CompositeReadings.{by_rule, composite_named, name_takes}
use Rattle.statement_parser.proofs.Readings.{finished, skipped, passed, says_on, pass_fails}
use Rattle.statement_parser.specs.Gives.{Answered, Comes, Gives}
use Rattle.expr_parser.proofs.Derive.{exit}
use Rattle.unit_parser.specs.steps.GivesComposites.{Defines, DefinesOn, PassesNames, begins_type, function_behind, is_type_front, word_begins_type}
use Rattle.statement_parser.specs.Lines.{Name, rule, R, expect, a_type, is_word, word_kind, is_type, type_kind, TypeExpression, TypeOf, CompositeOf, FunctionOf, FunctionParameters, Block, Definitions, Namespace}
use Rattle.statement_parser.proofs.StatementReadings.{behind, part_read}

-- ---- names of a namespace

abbrev pub namespace_named : Name → R (Unit {0})
namespace_named name = look (is Y.Dot) (λ _. call Namespace done) (expect Y.Semicolon (done tt))

pub names_stop : (ts : List Token) (e : Stop) → Gives Namespace ts (Err e) → PassesNames ts (Err e)
names_stop ts (S.At rest) g = g
names_stop ts S.Memory g = tt

pub names_stopped : (ts : List Token) (e : Stop) → PassesNames ts (Err e) → Gives Namespace ts (Err e)
names_stopped ts (S.At rest) g = g
names_stopped ts S.Memory g = tt

-- names whose answer is that of a rule that stops
pub names_fail : (ts mid : List Token) (r : R (Unit {0})) (res : Result (Bor (List Token)) Stop) (e : Stop) → IsErrAnd res (λ y. y ≡ e)
    → ((o : RuleResult (Unit {0})) → RunsTo rule r mid o → Reads rule Namespace ts o) → Comes r mid (Err e) → PassesNames ts res
names_fail ts mid r res e h on c =
    exit (PassesNames ts) res e h (names_stop ts e (says_on {P = RunsTo rule r mid} {Q = Reads rule Namespace ts} on (Err e) c))

-- names that end with `;`
pub names_end : (ts mid : List Token) (res : Result (Bor (List Token)) Stop)
    → ((o : RuleResult (Unit {0})) → RunsTo rule (expect Y.Semicolon (done tt)) mid o → Reads rule Namespace ts o) → Passes Y.Semicolon mid res → PassesNames ts res
names_end ts mid (Ok rest) on p = on (Took tt rest.now) (passed Y.Semicolon p finished)
names_end ts mid (Err e) on p =
    names_stop ts e (says_on {P = RunsTo rule (expect Y.Semicolon (done tt)) mid} {Q = Reads rule Namespace ts} on (Err e) (pass_fails mid Y.Semicolon (done tt) e p))

-- ---- rests of the rule of definitions

abbrev pub function_named : Option TypeExpr → Name → R FunctionDefinition
function_named result n =
    expect Y.LeftParen (call FunctionParameters (λ xs. call Block (λ ss.
    done (record { result = result; name = n; parameters = xs; body = ss }))))

abbrev pub type_behind : List Definition → R (List Definition)
type_behind xs = call TypeOf (λ x. call (Definitions (xs ++ D.Type x ∷ [])) done)

-- a definition whose answer is that of a rule that stops
define_stop : (ts : List Token) (e : Stop) → ((xs : List Definition) → Gives (Definitions xs) ts (Err e)) → DefinesOn ts (Err e)
define_stop ts (S.At rest) g = g
define_stop ts S.Memory g = tt

pub define_fails : (ts mid : List Token) (r : List Definition → R (List Definition)) (res : Answered (Option Definition)) (e : Stop) → IsErrAnd res (λ y. y ≡ e)
    → ((xs : List Definition) (o : RuleResult (List Definition)) → RunsTo rule (r xs) mid o → Reads rule (Definitions xs) ts o)
    → ((xs : List Definition) → Comes (r xs) mid (Err e)) → DefinesOn ts res
define_fails ts mid r res e h on c =
    exit (DefinesOn ts) res e h (define_stop ts e (λ xs. says_on {P = RunsTo rule (r xs) mid} {Q = Reads rule (Definitions xs) ts} (on xs) (Err e) (c xs)))

-- where a rule has one definition first, it stands among the definitions from some tokens before that on
pub defines : (ts mid : List Token) (r : List Definition → R (List Definition)) (res : Answered (Option Definition)) → length mid ≤ length ts
    → ((xs : List Definition) (o : RuleResult (List Definition)) → RunsTo rule (r xs) mid o → Reads rule (Definitions xs) ts o)
    → Defines r mid res → DefinesOn ts res
defines ts mid r (Ok (Some x, rest)) h on d = ((let lt = d.0 in omega arith), λ xs o q. on xs o (d.1 xs o q))
defines ts mid r (Ok (None, rest)) h on d = absurd d
defines ts mid r (Err (S.At rest)) h on d = λ xs. on xs (Refused rest.now) (d xs)
defines ts mid r (Err S.Memory) h on d = tt

-- a rule that stops has no definition first
define_none : (ts : List Token) (r : List Definition → R (List Definition)) (e : Stop) → ((xs : List Definition) → Comes (r xs) ts (Err e)) → Defines r ts (Err e)
define_none ts r (S.At rest) g = g
define_none ts r S.Memory g = tt

pub defines_none : (ts : List Token) (r : List Definition → R (List Definition)) (res : Answered (Option Definition)) (e : Stop) → IsErrAnd res (λ y. y ≡ e)
    → ((xs : List Definition) → Comes (r xs) ts (Err e)) → Defines r ts res
defines_none ts r res e h c = exit (Defines r ts) res e h (define_none ts r e c)

pub composite_shrinks : {ts mid : List Token} {x : Composite} → Reads rule CompositeOf ts (Took x mid) → length mid < length ts
unfolding rule
composite_shrinks {ts} {mid} {x} r = name_takes composite_named ts mid x (by_rule tt r)

pub function_shrinks : {kind : Option TypeExpr} {ts mid : List Token} {f : FunctionDefinition} → Reads rule (FunctionOf kind) ts (Took f mid) → length mid < length ts
unfolding rule
function_shrinks {kind} {ts} {mid} {f} r = name_takes (function_named kind) ts mid f (by_rule tt r)

-- ---- types

-- a token that begins a type begins one of four
one_begins : (k : TokenKind) → begins_type k ≡ true → is_some (type_kind k) ≡ false → word_kind K.List k ≡ false → word_kind K.Map k ≡ false → word_kind K.Tuple k ≡ true
one_begins (T.Word n) begins e f g = absurd (cc)
one_begins (T.Keyword k) begins e f g = by k begins e f g
  where
    by : (k : Keyword) → word_begins_type k ≡ true → is_some (type_kind (T.Keyword k)) ≡ false → word_kind K.List (T.Keyword k) ≡ false → word_kind K.Map (T.Keyword k) ≡ false
        → word_kind K.Tuple (T.Keyword k) ≡ true
    by K.Tuple begins e f g = refl
    by K.List begins e f g = absurd (cc)
    by K.Map begins e f g = absurd (cc)
    by K.Boolean begins e f g = absurd (cc)
    by K.Rstring begins e f g = absurd (cc)
    by (K.Int kind) begins e f g = absurd (cc)
    by (K.LeftOut word) begins e f g = absurd (cc)
    by _ begins e f g = absurd (cc)
one_begins _ begins e f g = absurd (cc)

-- one that begins none begins none of them
none_begins : (k : TokenKind) → begins_type k ≡ false
    → (is_some (type_kind k) ≡ false) × ((word_kind K.List k ≡ false) × ((word_kind K.Map k ≡ false) × (word_kind K.Tuple k ≡ false)))
none_begins (T.Word n) shut = absurd (cc)
none_begins (T.Keyword k) shut = by k shut
  where
    by : (k : Keyword) → word_begins_type k ≡ false
        → (is_some (type_kind (T.Keyword k)) ≡ false) × ((word_kind K.List (T.Keyword k) ≡ false) × ((word_kind K.Map (T.Keyword k) ≡ false) × (word_kind K.Tuple (T.Keyword k) ≡ false)))
    by K.Tuple shut = absurd (cc)
    by K.List shut = absurd (cc)
    by K.Map shut = absurd (cc)
    by K.Boolean shut = absurd (cc)
    by K.Rstring shut = absurd (cc)
    by (K.Int kind) shut = absurd (cc)
    by (K.LeftOut word) shut = absurd (cc)
    by _ shut = (refl, (refl, (refl, refl)))
none_begins _ shut = (refl, (refl, (refl, refl)))

-- of four tests one passes
four : {X : Type 0} (a b c d : Bool) (w x y z s o : X) → (a ≡ false → b ≡ false → c ≡ false → d ≡ true)
    → (if a then w else if b then x else if c then y else if d then z else o) ≡ (if a then w else if b then x else if c then y else if d then z else s)
four true b c d w x y z s o some = refl
four false true c d w x y z s o some = refl
four false false true d w x y z s o some = refl
four false false false true w x y z s o some = refl
four false false false false w x y z s o some = let clash = some refl refl refl in absurd (cc)

module _ {A : Type 0} {r : TypeExpr → R A} {ts : List Token} {o : RuleResult A} where
  -- where a type begins, it doesn't matter how a rule would go on without
  pub type_begins : {other : R A} → begins_with is_type_front ts ≡ true → RunsTo rule (a_type r stop) ts o → RunsTo rule (a_type r other) ts o
  type_begins {other} begins q = by ts begins q
    where
      by : (ts : List Token) → begins_with is_type_front ts ≡ true → RunsTo rule (a_type r stop) ts o → RunsTo rule (a_type r other) ts o
      by [] begins q = absurd (cc)
      by (t ∷ ts) begins q = record {
        depth = q.depth;
        is = four (is_type t) (is_word K.List t) (is_word K.Map t) (is_word K.Tuple t) _ _ _ _ _ _ (one_begins t.kind begins) ∙ q.is;
      }

  -- where none does it goes on without
  pub no_type_begins : {other : R A} → begins_with is_type_front ts ≡ false → RunsTo rule other ts o → RunsTo rule (a_type r other) ts o
  no_type_begins {other} shut q = by ts shut q
    where
      by : (ts : List Token) → begins_with is_type_front ts ≡ false → RunsTo rule other ts o → RunsTo rule (a_type r other) ts o
      by [] shut q = record { depth = q.depth; is = q.is }
      by (t ∷ ts) shut q = let none = none_begins t.kind shut in skipped none.0 (skipped none.1.0 (skipped none.1.1.0 (skipped none.1.1.1 q)))

-- ---- where no word begins a definition

-- none of the words that begin one is there
pub record NoWord (ts : List Token) : Type 0 where
  pub no_type : begins_with (is_word K.Type) ts ≡ false
  pub no_public : begins_with (is_word K.Public) ts ≡ false
  pub no_composite : begins_with (is_word K.Composite) ts ≡ false
  pub no_void : begins_with (is_word K.Void) ts ≡ false

module _ {ts : List Token} (w : NoWord ts) (xs : List Definition) where
  behind_words : {o : RuleResult (List Definition)} → RunsTo rule (a_type (λ k. function_behind (Some k) xs) (done xs)) ts o → Reads rule (Definitions xs) ts o
  unfolding rule
  behind_words q = line (skipped w.no_type (skipped w.no_public (skipped w.no_composite (skipped w.no_void q))))

  -- without a type there is no definition
  pub no_more : begins_with is_type_front ts ≡ false → Reads rule (Definitions xs) ts (Took xs ts)
  no_more shut = behind_words (no_type_begins {r = λ k. function_behind (Some k) xs} {other = done xs} shut finished)

  -- with one there is a function
  pub typed : begins_with is_type_front ts ≡ true → (o : RuleResult (List Definition))
      → RunsTo rule (behind (rule TypeExpression) (λ k. function_behind (Some k) xs)) ts o → Reads rule (Definitions xs) ts o
  unfolding rule
  typed begins o q = behind_words (type_begins {r = λ k. function_behind (Some k) xs} {other = done xs} begins q)

  -- its type is read, and what comes after it
  pub typed_read : {kind : TypeExpr} {mid : List Token} → begins_with is_type_front ts ≡ true → Reads rule TypeExpression ts (Took kind mid)
      → (o : RuleResult (List Definition)) → RunsTo rule (function_behind (Some kind) xs) mid o → Reads rule (Definitions xs) ts o
  typed_read begins first o q = typed begins o (part_read (rule TypeExpression) (λ k. function_behind (Some k) xs) (by_rule tt first) q)
