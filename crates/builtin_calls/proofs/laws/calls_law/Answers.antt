use Rattle.spl_value.proofs.CallsLaws.{length_law, size_law, has_law, append_law, remove_law, clear_law, abs_law, min_law, max_law, substring_law}
use Rattle.builtin_calls.proofs.laws.calls_law.Goals as goal

pub returns-clause-length : goal.returns-clause-length
returns-clause-length c = length_law

pub returns-clause-size : goal.returns-clause-size
returns-clause-size c = size_law

pub returns-clause-has : goal.returns-clause-has
returns-clause-has c = has_law

pub returns-clause-append : goal.returns-clause-append
returns-clause-append c = append_law

pub returns-clause-remove : goal.returns-clause-remove
returns-clause-remove c = remove_law

pub returns-clause-clear : goal.returns-clause-clear
returns-clause-clear c = clear_law

pub returns-clause-abs : goal.returns-clause-abs
returns-clause-abs c = abs_law

pub returns-clause-min : goal.returns-clause-min
returns-clause-min c = min_law

pub returns-clause-max : goal.returns-clause-max
returns-clause-max c = max_law

pub returns-clause-substring : goal.returns-clause-substring
returns-clause-substring c = substring_law
