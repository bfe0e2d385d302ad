-- Words for parts of the rules of a Custom's logic, for proofs that go through them step by step.
use Rattle.language_model.specs.BodyFits.{OfHandler}
use Rattle.language_model.specs.BodyTyping.{Setting}
use Rattle.language_model.specs.LogicTyping.{Surroundings}

abbrev pub handler_setting : Surroundings → Setting
handler_setting around = record { types = around.types; purpose = OfHandler around.schemas; outputs = around.outputs }
