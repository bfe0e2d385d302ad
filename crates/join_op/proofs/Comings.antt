-- The results of codes that fit.
use Rattle.std.proofs.Common.{◌≡◌, ℕ, IsTrue, subst}
use Rattle.spl_value.specs.declared.types.SplType.{SplType}
use Rattle.spl_value.specs.declared.value.Value.{Value}
use Rattle.spl_value.specs.Values.{fits}
use Rattle.language_model.specs.Outcomes.{Outcome, Done}
use Rattle.language_model.specs.WorldFits.{ComesTo}

-- a value is of the type of its outcome
pub comes_to : (t : SplType) (o : Outcome Value) (v : Value) (turns : ℕ) → o ≡ Done v turns → ComesTo t o → IsTrue (fits t v)
comes_to t o v turns e h = subst (ComesTo t) e h
