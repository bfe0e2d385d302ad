-- A program has no more tokens than bytes.
use Rattle.std.specs.Prelude.{◌≡◌, ◌≤◌, ◌+◌, ℕ, Bool, true, false, nat_lt, if◌then◌else◌, List, [], ◌∷◌, length, Ok, Err}
use Rattle.std.proofs.Common.{refl, arith}
use Rattle.std.proofs.lemmas.Bool.{ltb-false}
use Rattle.spl_tree.specs.declared.token.LexicalError.TheVariants as L
use Rattle.spl_tree.specs.declared.token.TheConstants.{MOST_BYTES}
use Rattle.spl_tree.specs.declared.token.Token.{Token}
use Rattle.spl_tree.specs.declared.token.Tokens.{Tokens}
use Rattle.spl_tree.specs.Laws.{Rise, RiseLaw}
use Rattle.spl_tree.specs.Tokens.{tokens, tokens_from, with_length}

rise_length : (at end : ℕ) (ts : List Token) → Rise at ts end → at + length ts ≤ end
rise_length at end [] rise = omega arith
rise_length at end (t ∷ ts) (starts, ends, more) = let rest = rise_length t.end end ts more in omega arith

-- a program that has tokens isn't too long
within_most : (bytes : List ℕ) (ts : Tokens) → tokens bytes ≡ Ok ts → length bytes ≤ MOST_BYTES
unfolding tokens
within_most bytes ts is = by (nat_lt MOST_BYTES (length bytes)) refl is
  where
    by : (b : Bool) → nat_lt MOST_BYTES (length bytes) ≡ b
        → (if b then Err (L.TooLong, MOST_BYTES) else with_length (length bytes) (tokens_from 0 0 bytes)) ≡ Ok ts → length bytes ≤ MOST_BYTES
    by true longer e = absurd cc
    by false within e = ltb-false MOST_BYTES (length bytes) within

pub few_tokens : RiseLaw → (bytes : List ℕ) (ts : Tokens) → tokens bytes ≡ Ok ts → length ts.list ≤ 1048576
few_tokens rises bytes ts is =
    let rise = rise_length 0 (length bytes) ts.list (rises bytes ts is) in
    let within = within_most bytes ts is in
    omega arith
