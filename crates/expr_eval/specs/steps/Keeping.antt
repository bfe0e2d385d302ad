-- What the running of statements leaves as it was.
use Rattle.std.specs.Prelude.{◌≡◌, ◌≤◌, length}
use Rattle.language_model.specs.declared.env.Env.{Env}

-- nothing but the variables changes, and none of those goes
pub record Keeps (old new : Env) : Type 0 where
  pub inputs : new.inputs ≡ old.inputs
  pub punct : new.punct ≡ old.punct
  pub vars : length old.vars ≤ length new.vars
