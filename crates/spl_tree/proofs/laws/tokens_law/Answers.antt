use Rattle.spl_tree.proofs.CutLaws.{cut_law, one_cut_law, rise_law, own_bytes_law}
use Rattle.spl_tree.proofs.LexedLaws.{lexed_law}
use Rattle.spl_tree.proofs.laws.tokens_law.Goals as goal

pub returns-clause-lexed : goal.returns-clause-lexed
returns-clause-lexed c = lexed_law

pub returns-clause-cut : goal.returns-clause-cut
returns-clause-cut c = cut_law

pub returns-clause-one : goal.returns-clause-one
returns-clause-one c = one_cut_law

pub returns-clause-rise : goal.returns-clause-rise
returns-clause-rise c = rise_law

pub returns-clause-own : goal.returns-clause-own
returns-clause-own c = own_bytes_law
