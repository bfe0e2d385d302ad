-- The names of `$` parameters as the code has them.
use Rattle.std.specs.Prelude.{ℕ, List, map}
use Rattle.std.specs.Borrow.{Bor}
use Rattle.language_model.specs.Mentions.{Mentions, dollars}

abbrev pub names_seen : List (Bor (List ℕ)) → List (List ℕ)
names_seen ns = map (λ n. n.now) ns

-- those among what is mentioned
abbrev pub names_of : Mentions → List (List ℕ)
names_of ms = map (λ n. n.what) (dollars ms)
