-- What refusals are answered.
use Rattle.std.specs.Prelude.{◌≡◌}
use Rattle.language_model.specs.declared.scope.CheckRefusal.{CheckRefusal}
use Rattle.language_model.specs.declared.answer.TypeAnswer.{TypeAnswer}
use Rattle.language_model.specs.declared.answer.TypeAnswer.TheVariants.{Refused, Memory}

-- the same refusal. Of a lack of memory nothing is said
abbrev pub Copies : CheckRefusal → TypeAnswer → Type 0
Copies refusal (Refused copy) = copy ≡ refusal
Copies refusal Memory = Unit {0}
