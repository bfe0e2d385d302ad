-- Rules by which the lines of a grammar are read, one token at a time, and what they take.
use Rattle.std.specs.Prelude.{◌≡◌, ℕ, zero, suc, Bool, List, [], ◌∷◌, if◌then◌else◌}
use Rattle.spl_tree.specs.declared.token.Token.{Token}

-- how a line is read, where a line x gives a value of the type Value x: a value is there; or reading is refused
-- here, whatever token stands here; or a first token that passes a test is taken, and without one it goes on
-- another way; or another line is read first
pub data Rule (Line : Type 0) (Value : Line → Type 0) (A : Type 0) : Type 0 where
  done : A → Rule Line Value A
  stop : Rule Line Value A
  look : (Token → Bool) → (Token → Rule Line Value A) → Rule Line Value A → Rule Line Value A
  call : (x : Line) → (Value x → Rule Line Value A) → Rule Line Value A

-- the result of reading: a value and the tokens after it; or a refusal, and the tokens from the refused one on; or
-- nothing yet, since it may go no deeper
pub data RuleResult (A : Type 0) : Type 0 where
  Took : A → List Token → RuleResult A
  Refused : List Token → RuleResult A
  Spent : RuleResult A

abbrev pub Reader : Type 0 → Type 0
Reader A = List Token → RuleResult A

abbrev pub and_then : {A B : Type 0} → RuleResult A → (A → Reader B) → RuleResult B
and_then (Took x rest) go = go x rest
and_then (Refused rest) go = Refused rest
and_then Spent go = Spent

-- what a rule gives, where the lines give what c says
abbrev pub run : {Line : Type 0} {Value : Line → Type 0} {A : Type 0} → ((x : Line) → Reader (Value x)) → Rule Line Value A → Reader A
run c (done x) ts = Took x ts
run c stop ts = Refused ts
run c (look p f d) [] = run c d []
run c (look p f d) (t ∷ ts) = if p t then run c (f t) ts else run c d (t ∷ ts)
run c (call x k) ts = and_then (c x ts) (λ y rest. run c (k y) rest)

-- what a line gives, where lines are read in one another to a given depth at most
unfoldable pub read : {Line : Type 0} {Value : Line → Type 0} → ((x : Line) → Rule Line Value (Value x)) → ℕ → (x : Line) → Reader (Value x)
read rule zero x ts = Spent
read rule (suc n) x ts = run (read rule n) (rule x) ts

module _ {Line : Type 0} {Value : Line → Type 0} (rule : (x : Line) → Rule Line Value (Value x)) where
  -- a rule gives an answer at some depth
  pub record RunsTo {A : Type 0} (r : Rule Line Value A) (ts : List Token) (answer : RuleResult A) : Type 0 where
    pub depth : ℕ
    pub is : run (read rule depth) r ts ≡ answer

  -- a line gives an answer at some depth
  pub record Reads (x : Line) (ts : List Token) (answer : RuleResult (Value x)) : Type 0 where
    pub depth : ℕ
    pub is : read rule depth x ts ≡ answer
