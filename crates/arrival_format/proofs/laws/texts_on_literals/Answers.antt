use Rattle.arrival_format.proofs.SomeTexts.{no_number, text_is, text_spells, third_input, two_blanks}
use Rattle.arrival_format.proofs.laws.texts_on_literals.Goals as goal

pub returns-clause-text : goal.returns-clause-text
returns-clause-text c = text_is

pub returns-clause-spelled : goal.returns-clause-spelled
returns-clause-spelled c = text_spells

pub returns-clause-no_number : goal.returns-clause-no_number
returns-clause-no_number c = no_number

pub returns-clause-two_blanks : goal.returns-clause-two_blanks
returns-clause-two_blanks c = two_blanks

pub returns-clause-third_input : goal.returns-clause-third_input
returns-clause-third_input c = third_input
