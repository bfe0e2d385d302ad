use Rattle.spl_tree.proofs.WordLaws.{symbols_law, keywords_law}
use Rattle.spl_tree.proofs.laws.texts_law.Goals as goal

pub returns-clause-symbols : goal.returns-clause-symbols
returns-clause-symbols c = symbols_law

pub returns-clause-keywords : goal.returns-clause-keywords
returns-clause-keywords c = keywords_law
