-- Which calls of an object in memory are to fail. They are numbered from 1.
use Rattle.std.specs.Prelude.{◌≡◌, ◌+◌, ℕ, List, [], ◌∷◌, Bool, true, false, if◌then◌else◌, nat_lt, min, ◌==◌, Option, Some, None, ◌⊎◌, ◌^◌, ◌-◌, Result, Ok, Err}
use Rattle.std.specs.List.{list_any}
use Rattle.feed_pour.specs.declared.outside.Opened.{Opened}
use Rattle.feed_pour.specs.declared.outside.Opened.TheVariants as O
use Rattle.feed_pour.specs.declared.outside.PourAnswer.{PourAnswer}
use Rattle.feed_pour.specs.declared.outside.PourAnswer.TheVariants as P

-- the number is one of those that are to fail
abbrev pub is_to_fail : ℕ → List ℕ → Bool
is_to_fail number failing = list_any (λ k. k == number) failing

-- the smaller of a number and one that there may be
abbrev pub sooner : ℕ → Option ℕ → Option ℕ
sooner k None = Some k
sooner k (Some j) = Some (min k j)

-- the first of these call numbers above a number of calls
abbrev pub next_failing : ℕ → List ℕ → Option ℕ
next_failing calls [] = None
next_failing calls (k ∷ ks) = if nat_lt calls k then sooner k (next_failing calls ks) else next_failing calls ks

-- a call was counted, and is to fail or not; after 2^64 - 1 calls none is
abbrev pub CallCounted : Bool → ℕ → ℕ → List ℕ → Type 0
CallCounted true old new failing = next_failing old failing ≡ Some (old + 1)
CallCounted false old new failing =
    ((new ≡ old + 1) × (next_failing new failing ≡ next_failing old failing)) ⊎ ((new ≡ old) × (next_failing old failing ≡ None))

-- how many calls there were after one more, up to 2^64 - 1
abbrev pub one_more : ℕ → ℕ
one_more made = min (made + 1) (2 ^ 64 - 1)

-- how many writes there were after this one; one that found no memory is none
abbrev pub writes_after : Result ℕ PourAnswer → ℕ → ℕ
writes_after (Ok n) made = one_more made
writes_after (Err P.Failed) made = one_more made
writes_after (Err P.Memory) made = made

-- how many calls of a shelf there were after this one; one that found no memory is none
abbrev pub calls_after : {T : Type 0} → Opened T → ℕ → ℕ
calls_after (O.Ok x) made = one_more made
calls_after O.Failed made = one_more made
calls_after O.Memory made = made
