-- Conjunctions and disjunctions of truth values.
use Rattle.std.proofs.Common.{ap, arith, refl, sym, ◌∙◌, ◌≡◌, not}
use Rattle.std.specs.Prelude.{Bool, IsTrue, cond, false, nat_lt, true, ℕ, ◌&&◌, ◌<◌, ◌||◌, ◌↔◌}

pub and_left : (a b : Bool) → (a && b) ≡ true → a ≡ true
and_left true b is = refl
and_left false b is = absurd cc

pub and_right : (a b : Bool) → (a && b) ≡ true → b ≡ true
and_right true b is = is
and_right false b is = absurd cc

pub and_false : (a : Bool) → (a && false) ≡ false
and_false true = refl
and_false false = refl

pub or_false : (a : Bool) → (a || false) ≡ a
or_false true = refl
or_false false = refl

pub or_true : (a : Bool) → (a || true) ≡ true
or_true true = refl
or_true false = refl

pub both_true : (a b : Bool) (P : Type 0) → (IsTrue a ↔ P) → (IsTrue b ↔ P) → a ≡ b
both_true true true P f g = refl
both_true false false P f g = refl
both_true true false P f g = sym (g.1 (f.0 refl))
both_true false true P f g = f.1 (g.0 refl)

pub false_true : {A : Type 0} (b : Bool) → b ≡ false → b ≡ true → A
false_true b h e = let bad : false ≡ true = sym h ∙ e in cc

pub or_last : (b x : Bool) → x ≡ true → (b || x) ≡ true
or_last true x h = refl
or_last false x h = h

pub or_first : (a b : Bool) → (a || b) ≡ false → a ≡ false
or_first true b e = cc
or_first false b e = refl

pub or_second : (a b : Bool) → (a || b) ≡ false → b ≡ false
or_second true b e = cc
or_second false b e = e

pub or_left : (a b : Bool) → a ≡ true → (a || b) ≡ true
or_left a b e = ap (λ c. c || b) e

pub lt_true : (a b : ℕ) → a < b → nat_lt a b ≡ true
lt_true a b h = grind arith

pub true_lt : (a b : ℕ) → nat_lt a b ≡ true → a < b
true_lt a b h = grind arith

pub and_parts : (a b : Bool) → (a && b) ≡ true → (a ≡ true) × (b ≡ true)
and_parts true b q = (refl, q)
and_parts false b q = absurd (let no : false ≡ true = q in cc)

pub and_not_parts : (a b : Bool) → (a && not b) ≡ true → (a ≡ true) × (b ≡ false)
and_not_parts true true q = absurd (let no : false ≡ true = q in cc)
and_not_parts true false q = (refl, refl)
and_not_parts false b q = absurd (let no : false ≡ true = q in cc)

pub neither : (a b : Bool) → (a || b) ≡ false → (a ≡ false) × (b ≡ false)
neither true b e = absurd cc
neither false b e = (refl, e)

pub or_cond : (a b : Bool) → cond a true b ≡ (a || b)
or_cond true b = refl
or_cond false b = refl
