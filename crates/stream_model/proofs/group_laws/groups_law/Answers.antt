use Rattle.stream_model.proofs.Groups.{ascending_law, group_law, member_law, mapped_groups_law, key_behind_law}
use Rattle.stream_model.proofs.group_laws.groups_law.Goals as goal

pub returns-clause-ascending : goal.returns-clause-ascending
returns-clause-ascending c = ascending_law

pub returns-clause-group : goal.returns-clause-group
returns-clause-group c = group_law

pub returns-clause-member : goal.returns-clause-member
returns-clause-member c = member_law

pub returns-clause-mapped : goal.returns-clause-mapped
returns-clause-mapped c = mapped_groups_law

pub returns-clause-behind : goal.returns-clause-behind
returns-clause-behind c = key_behind_law
