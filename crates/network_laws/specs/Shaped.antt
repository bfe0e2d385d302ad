-- Networks whose links fit their elements.
use Rattle.std.specs.Prelude.{ℕ, ◌<◌, ◌≡◌}
use Rattle.network_model.specs.Networks.{inputs, outputs, Net}
use Rattle.network_model.specs.PartLaws.{IsPart}

-- links lead from outputs of earlier elements to inputs of later ones, and no input has two
pub record IsNet (net : Net) : Type 0 where
  pub parts : (e : ℕ) → e < net.size → IsPart (net.part e)
  pub earlier : (l : ℕ) → l < net.links → (net.link l).from < (net.link l).to
  pub within : (l : ℕ) → l < net.links → (net.link l).to < net.size
  pub output : (l : ℕ) → l < net.links → (net.link l).output < outputs (net.part (net.link l).from)
  pub input : (l : ℕ) → l < net.links → (net.link l).input < inputs (net.part (net.link l).to)
  pub one : (l m : ℕ) → l < net.links → m < net.links → (net.link l).to ≡ (net.link m).to
      → (net.link l).input ≡ (net.link m).input → l ≡ m
