use Rattle.std.proofs.Common.{sym, ap, ◌∙◌}
use Rattle.spl_value.specs.KeyOrder.{same_key}
use Rattle.spl_value.proofs.KeyOrder.{same_key-equal, same_key-itself}
use Rattle.stream_model.proofs.Contents.{port_law, one_key_law, own_key_law}
use Rattle.stream_model.proofs.window_laws.window_keys_law.Goals as goal

pub returns-clause-port : goal.returns-clause-port
returns-clause-port c = port_law

pub returns-clause-one : goal.returns-clause-one
returns-clause-one c = one_key_law

pub returns-clause-own : goal.returns-clause-own
returns-clause-own c = own_key_law

pub returns-clause-same : goal.returns-clause-same
returns-clause-same c k q = (same_key-equal k q, λ e. ap (same_key k) (sym e) ∙ same_key-itself k)
