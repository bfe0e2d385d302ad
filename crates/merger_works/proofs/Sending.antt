-- What is sent for all that an element gives.
use Rattle.std.proofs.Common.{ℕ, List, [], ◌∷◌, ◌++◌, ◌≡◌, refl}
use Rattle.language_model.specs.declared.outs.Output.{Output}
use Rattle.stream_model.specs.Fans.{ports_of_fans}
use Rattle.network_model.specs.Owed.{send_all}
use Rattle.network_model.proofs.Fans.{fans_law}
use Rattle.element_outboxes.specs.Waiting.{all_out}

-- by the number of connections of each port
pub all-sent : (counts : List ℕ) (outs : List Output) → send_all (ports_of_fans counts) outs ≡ all_out counts outs
all-sent counts [] = refl
all-sent counts (g ∷ outs) = λ i. fans_law counts g i ++ all-sent counts outs i
