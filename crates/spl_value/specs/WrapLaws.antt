-- What wraps to a number of a kind: it is of the kind, equal to n modulo 2^width, and the only
-- number of the kind that is.
use Rattle.std.specs.Prelude.{◌≡◌, ◌-◌, ℤ, IsTrue}
use Rattle.spl_value.specs.declared.types.IntKind.{IntKind}
use Rattle.spl_value.specs.Values.{modulus, kind_holds}
use Rattle.spl_value.specs.Wrap.{IsCongruent, wrapped}

-- what wraps to a number of a kind is of the kind
abbrev pub BelongsLaw : Type 0
BelongsLaw = (k : IntKind) (n : ℤ) → IsTrue (kind_holds k (wrapped k n))

-- it is equal to what it wraps modulo 2^bits of the kind
abbrev pub CongruentLaw : Type 0
CongruentLaw = (k : IntKind) (n : ℤ) → IsCongruent (modulus k) (wrapped k n) n

-- no other number of the kind is
abbrev pub OneWrappedLaw : Type 0
OneWrappedLaw = (k : IntKind) (m n : ℤ) → IsTrue (kind_holds k m) → IsCongruent (modulus k) m n → m ≡ wrapped k n

-- a number of the kind is left as it is
abbrev pub KeptLaw : Type 0
KeptLaw = (k : IntKind) (n : ℤ) → IsTrue (kind_holds k n) → wrapped k n ≡ n
