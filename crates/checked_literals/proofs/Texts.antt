-- The names of files are UTF-8.
use Rattle.std.specs.Prelude.{◌≡◌, ◌<◌, ℕ, zero, suc, true, List, [], ◌∷◌, nat_lt, codes}
use Rattle.std.specs.Cmp.{first_so, second_so}
use Rattle.std.specs.List.{list_all}
use Rattle.std.specs.Str.{is_utf8}
use Rattle.std.proofs.Common.{refl, arith, get_or}
use Rattle.std.proofs.lemmas.Str.{IsUtf8-from_ascii, is_utf8-from_IsUtf8}
use borrow.Author.Tests.{ltb-true}

each_ascii : (bytes : List ℕ) → list_all (λ b. nat_lt b 128) bytes ≡ true → (i : ℕ) → get_or bytes i 0 < 128
each_ascii [] h zero = omega arith
each_ascii [] h (suc i) = omega arith
each_ascii (b ∷ bytes) h zero = ltb-true b 128 (first_so (nat_lt b 128) (list_all (λ b. nat_lt b 128) bytes) h)
each_ascii (b ∷ bytes) h (suc i) = each_ascii bytes (second_so (nat_lt b 128) (list_all (λ b. nat_lt b 128) bytes) h) i

ascii : (bytes : List ℕ) → list_all (λ b. nat_lt b 128) bytes ≡ true → is_utf8 bytes ≡ true
ascii bytes h = is_utf8-from_IsUtf8 bytes (IsUtf8-from_ascii bytes (each_ascii bytes h))

pub t_is_text : is_utf8 (codes "t.csv") ≡ true
t_is_text = ascii (codes "t.csv") refl

pub u_is_text : is_utf8 (codes "u.csv") ≡ true
u_is_text = ascii (codes "u.csv") refl

pub o_is_text : is_utf8 (codes "o.csv") ≡ true
o_is_text = ascii (codes "o.csv") refl

pub ruleset text_laws = (t_is_text, u_is_text, o_is_text)
