use Rattle.std.proofs.Common.{◌≡◌, ◌<◌, ◌≤◌, ◌+◌, ◌*◌, ℕ, zero, suc, true, false, List, [], ◌∷◌, refl, sym, ap, ◌∙◌, arith, slice_get, Some, None}
use Rattle.std.specs.Prelude.{Bool, ◌==◌, ◌||◌, map}
use Rattle.std.specs.List.{list_any}
use Rattle.std.proofs.lemmas.Bool.{eqb-true}
use Rattle.spl_value.specs.declared.item.Item.{Item}
use Rattle.spl_value.specs.declared.item.Item.TheVariants.{Window, Final}
use Rattle.spl_value.specs.Numbered.{is_pulse, Rises, items_of, numbers_of, NeverFalls, AreApart}
use Rattle.network_tests.specs.Premises.{in_turn, with_pulses}
use Rattle.network_tests.proofs.premises.packets_in_order.Goals as goal

one_at : (n k : ℕ) → ((k == n) || false) ≡ true → k ≡ n
one_at n k h = go (k == n) refl h where
  go : (b : Bool) → (k == n) ≡ b → (b || false) ≡ true → k ≡ n
  go true e h = eqb-true k n e
  go false e h = absurd cc

turns_apart : AreApart 2 in_turn
turns_apart = record { falls = falls; apart = apart } where
  falls : (c : ℕ) → c < 2 → NeverFalls 0 (numbers_of (in_turn c))
  falls zero l = (omega arith, tt)
  falls (suc c) l = (omega arith, tt)

  apart : (n c d : ℕ) → c < 2 → d < 2 → list_any (λ p. p.0 == n) (items_of (in_turn c)) ≡ true → list_any (λ p. p.0 == n) (items_of (in_turn d)) ≡ true → c ≡ d
  apart n zero zero l k h g = refl
  apart n zero (suc d) l k h g = let a : 0 ≡ n = one_at n 0 h in let b : 1 ≡ n = one_at n 1 g in absurd (omega arith)
  apart n (suc c) zero l k h g = let a : 1 ≡ n = one_at n 1 h in let b : 0 ≡ n = one_at n 0 g in absurd (omega arith)
  apart n (suc c) (suc d) l k h g = omega arith

number_is : (p q : ℕ × Item) → Some p ≡ Some q → p.0 ≡ q.0
number_is p q e = let same : p ≡ q = cc in ap (λ (z : ℕ × Item). z.0) same

none_is : (q : ℕ × Item) → None ≡ Some q → ⊥
none_is q e = absurd cc

pub returns-clause-turns : goal.returns-clause-turns
returns-clause-turns c = record { apart = turns_apart; no_pulses = no_pulses; turns = turns } where
  no_pulses : (c : ℕ) → c < 2 → list_any is_pulse (in_turn c) ≡ false
  no_pulses zero l = refl
  no_pulses (suc c) l = refl

  turns : (c k : ℕ) (p : ℕ × Item) → c < 2 → slice_get (items_of (in_turn c)) k ≡ Some p → p.0 ≡ k * 2 + c
  turns zero zero p l e = sym (number_is (0, Window) p e)
  turns zero (suc zero) p l e = absurd (none_is p e)
  turns zero (suc (suc k)) p l e = absurd (none_is p e)
  turns (suc c) zero p l e = sym (number_is (1, Final) p e) ∙ (let z : 1 ≡ 0 * 2 + suc c = omega arith in z)
  turns (suc c) (suc zero) p l e = absurd (none_is p e)
  turns (suc c) (suc (suc k)) p l e = absurd (none_is p e)

pub returns-clause-numbers : goal.returns-clause-numbers
returns-clause-numbers c = record { apart = turns_apart; no_pulses = no_pulses; rises = rises } where
  no_pulses : (c : ℕ) → c < 2 → list_any is_pulse (in_turn c) ≡ false
  no_pulses zero l = refl
  no_pulses (suc c) l = refl

  rises : (c : ℕ) → c < 2 → Rises 0 (map (λ p. p.0) (items_of (in_turn c)))
  rises zero l = (omega arith, tt)
  rises (suc c) l = (omega arith, tt)

pub returns-clause-pulses : goal.returns-clause-pulses
returns-clause-pulses c = record { falls = falls; apart = apart } where
  falls : (c : ℕ) → c < 2 → NeverFalls 0 (numbers_of (with_pulses c))
  falls zero l = (omega arith, (omega arith, (omega arith, tt)))
  falls (suc c) l = (omega arith, tt)

  apart : (n c d : ℕ) → c < 2 → d < 2 → list_any (λ p. p.0 == n) (items_of (with_pulses c)) ≡ true → list_any (λ p. p.0 == n) (items_of (with_pulses d)) ≡ true → c ≡ d
  apart n zero zero l k h g = refl
  apart n zero (suc d) l k h g = absurd cc
  apart n (suc c) d l k h g = absurd cc
