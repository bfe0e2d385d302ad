use Rattle.spl_value.specs.declared.value.Value.TheVariants as V
use Rattle.spl_value.proofs.OrderLaws.{order_laws}
use Rattle.stream_model.proofs.window_laws.windows_on_literals.Goals as goal

pub returns-clause-flushed_at_second : goal.returns-clause-flushed_at_second
returns-clause-flushed_at_second c = simp order_laws

pub returns-clause-begun_anew : goal.returns-clause-begun_anew
returns-clause-begun_anew c = simp order_laws

pub returns-clause-empty_when_full : goal.returns-clause-empty_when_full
returns-clause-empty_when_full c = simp order_laws

pub returns-clause-last_three : goal.returns-clause-last_three
returns-clause-last_three c = simp order_laws

pub returns-clause-by_marker : goal.returns-clause-by_marker
returns-clause-by_marker c = simp order_laws

pub returns-clause-by_next_marker : goal.returns-clause-by_next_marker
returns-clause-by_next_marker c = simp order_laws

pub returns-clause-two_places : goal.returns-clause-two_places
returns-clause-two_places c = simp order_laws

pub returns-clause-tuple_of_port : goal.returns-clause-tuple_of_port
returns-clause-tuple_of_port c = simp order_laws

pub returns-clause-marker_of_port : goal.returns-clause-marker_of_port
returns-clause-marker_of_port c = simp order_laws

pub returns-clause-limit_reached : goal.returns-clause-limit_reached
returns-clause-limit_reached c = simp V.outs-Int

pub returns-clause-limit_exceeded : goal.returns-clause-limit_exceeded
returns-clause-limit_exceeded c = simp V.outs-Int

pub returns-clause-new_start : goal.returns-clause-new_start
returns-clause-new_start c = simp V.outs-Int

pub returns-clause-from_start : goal.returns-clause-from_start
returns-clause-from_start c = simp V.outs-Int

pub returns-clause-not_wrapped : goal.returns-clause-not_wrapped
returns-clause-not_wrapped c = simp V.outs-Int

pub returns-clause-within_limit : goal.returns-clause-within_limit
returns-clause-within_limit c = simp V.outs-Int

pub returns-clause-evicted : goal.returns-clause-evicted
returns-clause-evicted c = simp V.outs-Int

pub returns-clause-evicted_between : goal.returns-clause-evicted_between
returns-clause-evicted_between c = simp V.outs-Int

pub returns-clause-late : goal.returns-clause-late
returns-clause-late c = simp V.outs-Int

pub returns-clause-no_integer : goal.returns-clause-no_integer
returns-clause-no_integer c = simp V.outs-Text
