-- Each reading has an answer, since a line reads lines of lower rank alone until it takes a token.
use Rattle.std.proofs.Common.{◌≡◌, ◌<◌, ◌≤◌, ℕ, zero, suc, Bool, true, false, List, [], ◌∷◌, length, refl, arith}
use Rattle.spl_tree.specs.declared.token.Token.{Token}
use Rattle.expr_parser.specs.Rules.{Rule, done, stop, look, call, RuleResult, Took, Refused, Spent, RunsTo, Reads}
use Rattle.expr_parser.proofs.RuleLaws.{line, runs_done, runs_stop, runs_take, runs_skip, runs_call, runs_fail}
use Rattle.expr_parser.specs.Taken.{begins_with}

-- a number is less than another, or only no larger
abbrev pub Less : Bool → ℕ → ℕ → Type 0
Less true m n = m < n
Less false m n = m ≤ n

any_less : (strict : Bool) (m n : ℕ) → m < n → Less strict m n
any_less true m n less = less
any_less false m n less = omega (arith, less)

no_larger : (strict : Bool) (m n : ℕ) → Less strict m n → m ≤ n
no_larger true m n less = omega (arith, less)
no_larger false m n le = le

-- what has to hold where no token was taken
abbrev pub IfNone : Bool → Type 0 → Type 0
IfNone true P = Unit {0}
IfNone false P = P

-- an answer, where one is reached, leaves fewer tokens than these, or no more
abbrev pub Leaves : {A : Type 0} → Bool → List Token → RuleResult A → Type 0
Leaves strict from (Took v rest) = Less strict (length rest) (length from)
Leaves strict from (Refused rest) = Unit {0}
Leaves strict from Spent = ⊥

module _ {Line : Type 0} {Value : Line → Type 0} (rank : Line → ℕ) (takes : Line → Bool) where
  -- a rule reads lines below this rank alone until it takes a token, and takes one where it has to
  abbrev pub IsRanked : {A : Type 0} → ℕ → Bool → Rule Line Value A → Type 0
  IsRanked bound has_to (done v) = has_to ≡ false
  IsRanked bound has_to stop = Unit {0}
  IsRanked bound has_to (look p f d) = IsRanked bound has_to d
  IsRanked bound has_to (call x k) = (rank x < bound) × IfNone (takes x) ((v : Value x) → IsRanked bound has_to (k v))

module _ {Line : Type 0} {Value : Line → Type 0} (rule : (x : Line) → Rule Line Value (Value x)) where
  -- a rule reaches an answer
  record Answered {A : Type 0} (r : Rule Line Value A) (strict : Bool) (from ts : List Token) : Type 0 where
    answer : RuleResult A
    runs : RunsTo rule r ts answer
    leaves : Leaves strict from answer

  -- a line reaches an answer
  pub record LineAnswered (x : Line) (strict : Bool) (ts : List Token) : Type 0 where
    pub answer : RuleResult (Value x)
    pub reads : Reads rule x ts answer
    pub leaves : Leaves strict ts answer

  module _ {A : Type 0} {strict : Bool} {from : List Token} where
    look_taken : {p : Token → Bool} {f : Token → Rule Line Value A} {d : Rule Line Value A} (t : Token) (ts : List Token) → p t ≡ true → Answered (f t) strict from ts
        → Answered (look p f d) strict from (t ∷ ts)
    look_taken t ts passes c = record { answer = c.answer; runs = runs_take (t ∷ ts) t ts refl passes c.runs; leaves = c.leaves }

    look_skipped : {p : Token → Bool} {f : Token → Rule Line Value A} {d : Rule Line Value A} (ts : List Token) → begins_with p ts ≡ false → Answered d strict from ts
        → Answered (look p f d) strict from ts
    look_skipped ts none c = record { answer = c.answer; runs = runs_skip ts none c.runs; leaves = c.leaves }

    called : {x : Line} {k : Value x → Rule Line Value A} {taken : Bool} (ts : List Token) → LineAnswered x taken ts
        → ((v : Value x) (mid : List Token) → Less taken (length mid) (length ts) → Answered (k v) strict from mid) → Answered (call x k) strict from ts
    called {x} {k} {taken} ts c further = by c.answer c.reads c.leaves
      where
        by : (o : RuleResult (Value x)) → Reads rule x ts o → Leaves taken ts o → Answered (call x k) strict from ts
        by (Took v mid) reads less = let c = further v mid less in record { answer = c.answer; runs = runs_call reads c.runs; leaves = c.leaves }
        by (Refused rest) reads less = record { answer = Refused rest; runs = runs_fail reads; leaves = tt }
        by Spent reads less = absurd less

  module _ (rank : Line → ℕ) (takes : Line → Bool) (ranked : (x : Line) → IsRanked {Value = Value} rank takes (rank x) (takes x) (rule x)) where
    module _ (n : ℕ) (shorter : (x : Line) (us : List Token) → length us < n → LineAnswered x (takes x) us) where
      -- after a token that was taken, each rule reaches an answer
      answered_after : {A : Type 0} (r : Rule Line Value A) (strict : Bool) (from ts : List Token) → length ts < length from → length from ≤ n → Answered r strict from ts
      answered_after (done v) strict from ts less within = record { answer = Took v ts; runs = runs_done; leaves = any_less strict (length ts) (length from) less }
      answered_after stop strict from ts less within = record { answer = Refused ts; runs = runs_stop; leaves = tt }
      answered_after (look p f d) strict from [] less within = look_skipped [] refl (answered_after d strict from [] less within)
      answered_after {A} (look p f d) strict from (t ∷ ts) less within =
          by (p t) refl (answered_after (f t) strict from ts (omega (arith, less)) within) (answered_after d strict from (t ∷ ts) less within)
        where
          by : (b : Bool) → p t ≡ b → Answered (f t) strict from ts → Answered d strict from (t ∷ ts) → Answered (look p f d) strict from (t ∷ ts)
          by true passes taken skipped = look_taken t ts passes taken
          by false fails taken skipped = look_skipped (t ∷ ts) fails skipped
      answered_after (call x k) strict from ts less within =
          called ts (shorter x ts (omega (arith, less, within)))
          (λ v mid left. let le = no_larger (takes x) (length mid) (length ts) left in answered_after (k v) strict from mid (omega (arith, less, le)) within)

      module _ (bound : ℕ) (lower : (x : Line) (us : List Token) → rank x < bound → length us ≤ n → LineAnswered x (takes x) us) where
        answered : {A : Type 0} (r : Rule Line Value A) (strict : Bool) (from ts : List Token) → IsRanked {Value = Value} rank takes bound strict r → length ts ≤ length from → length from ≤ n
            → Answered r strict from ts
        answered (done v) true from ts is le within = absurd cc
        answered (done v) false from ts is le within = record { answer = Took v ts; runs = runs_done; leaves = le }
        answered stop strict from ts is le within = record { answer = Refused ts; runs = runs_stop; leaves = tt }
        answered (look p f d) strict from [] is le within = look_skipped [] refl (answered d strict from [] is le within)
        answered {A} (look p f d) strict from (t ∷ ts) is le within =
            by (p t) refl (answered_after (f t) strict from ts (omega (arith, le)) within) (answered d strict from (t ∷ ts) is le within)
          where
            by : (b : Bool) → p t ≡ b → Answered (f t) strict from ts → Answered d strict from (t ∷ ts) → Answered (look p f d) strict from (t ∷ ts)
            by true passes taken skipped = look_taken t ts passes taken
            by false fails taken skipped = look_skipped (t ∷ ts) fails skipped
        answered {A} (call x k) strict from ts is le within =
            called ts (lower x ts is.0 (omega (arith, le, within))) (by (takes x) is.1 (λ v mid on left. answered (k v) strict from mid on left within))
          where
            by : (taken : Bool) → IfNone taken ((v : Value x) → IsRanked {Value = Value} rank takes bound strict (k v))
                → ((v : Value x) (mid : List Token) → IsRanked {Value = Value} rank takes bound strict (k v) → length mid ≤ length from → Answered (k v) strict from mid)
                → (v : Value x) (mid : List Token) → Less taken (length mid) (length ts) → Answered (k v) strict from mid
            by true on further v mid less = answered_after (k v) strict from mid (omega (arith, less, le)) within
            by false on further v mid less = further v mid (on v) (omega (arith, less, le))

      by_rank : (m : ℕ) (x : Line) (ts : List Token) → rank x < m → length ts ≤ n → LineAnswered x (takes x) ts
      by_rank zero x ts below within = absurd (omega (arith, below))
      by_rank (suc m) x ts below within =
          let c = answered (rank x) (λ y us less le. by_rank m y us (omega (arith, less, below)) le) (rule x) (takes x) ts ts (ranked x) (omega arith) within in
          record { answer = c.answer; reads = line c.runs; leaves = c.leaves }

    by_length : (n : ℕ) (x : Line) (ts : List Token) → length ts < n → LineAnswered x (takes x) ts
    by_length zero x ts less = absurd (omega (arith, less))
    by_length (suc n) x ts less = by_rank n (by_length n) (suc (rank x)) x ts (omega arith) (omega (arith, less))

    -- each line reaches an answer
    pub line_answered : (x : Line) (ts : List Token) → LineAnswered x (takes x) ts
    line_answered x ts = by_length (suc (length ts)) x ts (omega arith)
