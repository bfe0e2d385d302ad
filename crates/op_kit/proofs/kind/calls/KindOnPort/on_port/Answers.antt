use Rattle.std.proofs.Common.{rules, sym}
use Rattle.op_kit.proofs.kind.calls.KindOnPort.on_port.Goals as goal

pub on_port-requires-in-Aggregate : goal.on_port-requires-in-Aggregate
on_port-requires-in-Aggregate c = rw c.deref_mut-in-Aggregate.ensures.value (search rules)

pub on_port-requires-in-Join : goal.on_port-requires-in-Join
on_port-requires-in-Join c = rw c.deref_mut-in-Join.ensures.value (search rules)

pub returns-in-Sink-clause-same : goal.returns-in-Sink-clause-same
returns-in-Sink-clause-same c = rw c.in-Sink.is (rw (sym c.deref_mut.ensures.value) c.on_port.ensures.same)

pub returns-in-Sink-clause-replies : goal.returns-in-Sink-clause-replies
returns-in-Sink-clause-replies c = rw c.in-Sink.is (rw (sym c.deref_mut.ensures.value) c.on_port.ensures.replies)

pub returns-in-Sink-clause-stands : goal.returns-in-Sink-clause-stands
returns-in-Sink-clause-stands c = rw c.in-Sink.is (rw (sym c.deref_mut.ensures.value) c.on_port.ensures.stands)

pub returns-in-Sink-clause-fits : goal.returns-in-Sink-clause-fits
returns-in-Sink-clause-fits c = rw c.in-Sink.is (rw (sym c.deref_mut.ensures.value) c.on_port.ensures.fits)

pub returns-in-Filter-clause-replies : goal.returns-in-Filter-clause-replies
returns-in-Filter-clause-replies c = rw c.in-Filter.is (rw (sym c.deref_mut-in-Filter.ensures.value) c.on_port-in-Filter.ensures.replies)

pub returns-in-Filter-clause-stands : goal.returns-in-Filter-clause-stands
returns-in-Filter-clause-stands c = rw c.in-Filter.is (rw (sym c.deref_mut-in-Filter.ensures.value) c.on_port-in-Filter.ensures.stands)

pub returns-in-Filter-clause-fits : goal.returns-in-Filter-clause-fits
returns-in-Filter-clause-fits c = rw c.in-Filter.is (rw (sym c.deref_mut-in-Filter.ensures.value) c.on_port-in-Filter.ensures.fits)

pub returns-in-Functor-clause-replies : goal.returns-in-Functor-clause-replies
returns-in-Functor-clause-replies c = rw c.in-Functor.is (rw (sym c.deref_mut-in-Functor.ensures.value) c.on_port-in-Functor.ensures.replies)

pub returns-in-Functor-clause-stands : goal.returns-in-Functor-clause-stands
returns-in-Functor-clause-stands c = rw c.in-Functor.is (rw (sym c.deref_mut-in-Functor.ensures.value) c.on_port-in-Functor.ensures.stands)

pub returns-in-Functor-clause-fits : goal.returns-in-Functor-clause-fits
returns-in-Functor-clause-fits c = rw c.in-Functor.is (rw (sym c.deref_mut-in-Functor.ensures.value) c.on_port-in-Functor.ensures.fits)

pub returns-in-Punctor-clause-replies : goal.returns-in-Punctor-clause-replies
returns-in-Punctor-clause-replies c = rw c.in-Punctor.is (rw (sym c.deref_mut-in-Punctor.ensures.value) c.on_port-in-Punctor.ensures.replies)

pub returns-in-Punctor-clause-stands : goal.returns-in-Punctor-clause-stands
returns-in-Punctor-clause-stands c = rw c.in-Punctor.is (rw (sym c.deref_mut-in-Punctor.ensures.value) c.on_port-in-Punctor.ensures.stands)

pub returns-in-Punctor-clause-fits : goal.returns-in-Punctor-clause-fits
returns-in-Punctor-clause-fits c = rw c.in-Punctor.is (rw (sym c.deref_mut-in-Punctor.ensures.value) c.on_port-in-Punctor.ensures.fits)

pub returns-in-Split-clause-replies : goal.returns-in-Split-clause-replies
returns-in-Split-clause-replies c = rw c.in-Split.is (rw (sym c.deref_mut-in-Split.ensures.value) c.on_port-in-Split.ensures.replies)

pub returns-in-Split-clause-stands : goal.returns-in-Split-clause-stands
returns-in-Split-clause-stands c = rw c.in-Split.is (rw (sym c.deref_mut-in-Split.ensures.value) c.on_port-in-Split.ensures.stands)

pub returns-in-Split-clause-fits : goal.returns-in-Split-clause-fits
returns-in-Split-clause-fits c = rw c.in-Split.is (rw (sym c.deref_mut-in-Split.ensures.value) c.on_port-in-Split.ensures.fits)

pub returns-in-Union-clause-same : goal.returns-in-Union-clause-same
returns-in-Union-clause-same c = rw c.in-Union.is (rw (sym c.deref_mut-in-Union.ensures.value) c.on_port-in-Union.ensures.same)

pub returns-in-Union-clause-replies : goal.returns-in-Union-clause-replies
returns-in-Union-clause-replies c = rw c.in-Union.is (rw (sym c.deref_mut-in-Union.ensures.value) c.on_port-in-Union.ensures.replies)

pub returns-in-Union-clause-stands : goal.returns-in-Union-clause-stands
returns-in-Union-clause-stands c = rw c.in-Union.is (rw (sym c.deref_mut-in-Union.ensures.value) c.on_port-in-Union.ensures.stands)

pub returns-in-Union-clause-fits : goal.returns-in-Union-clause-fits
returns-in-Union-clause-fits c = rw c.in-Union.is (rw (sym c.deref_mut-in-Union.ensures.value) c.on_port-in-Union.ensures.fits)

pub returns-in-Custom-clause-replies : goal.returns-in-Custom-clause-replies
returns-in-Custom-clause-replies c = rw c.in-Custom.is (rw (sym c.deref_mut-in-Custom.ensures.value) c.on_port-in-Custom.ensures.replies)

pub returns-in-Custom-clause-stands : goal.returns-in-Custom-clause-stands
returns-in-Custom-clause-stands c = rw c.in-Custom.is (rw (sym c.deref_mut-in-Custom.ensures.value) c.on_port-in-Custom.ensures.stands)

pub returns-in-Custom-clause-fits : goal.returns-in-Custom-clause-fits
returns-in-Custom-clause-fits c = rw c.in-Custom.is (rw (sym c.deref_mut-in-Custom.ensures.value) c.on_port-in-Custom.ensures.fits)

pub returns-in-Aggregate-clause-replies : goal.returns-in-Aggregate-clause-replies
returns-in-Aggregate-clause-replies c = rw c.in-Aggregate.is (rw (sym c.deref_mut-in-Aggregate.ensures.value) c.on_port-in-Aggregate.ensures.replies)

pub returns-in-Aggregate-clause-stands : goal.returns-in-Aggregate-clause-stands
returns-in-Aggregate-clause-stands c = rw c.in-Aggregate.is (rw (sym c.deref_mut-in-Aggregate.ensures.value) c.on_port-in-Aggregate.ensures.stands)

pub returns-in-Aggregate-clause-fits : goal.returns-in-Aggregate-clause-fits
returns-in-Aggregate-clause-fits c = rw c.in-Aggregate.is (rw (sym c.deref_mut-in-Aggregate.ensures.value) c.on_port-in-Aggregate.ensures.fits)

pub returns-in-Join-clause-replies : goal.returns-in-Join-clause-replies
returns-in-Join-clause-replies c = rw c.in-Join.is (rw (sym c.deref_mut-in-Join.ensures.value) c.on_port-in-Join.ensures.replies)

pub returns-in-Join-clause-stands : goal.returns-in-Join-clause-stands
returns-in-Join-clause-stands c = rw c.in-Join.is (rw (sym c.deref_mut-in-Join.ensures.value) c.on_port-in-Join.ensures.stands)

pub returns-in-Join-clause-fits : goal.returns-in-Join-clause-fits
returns-in-Join-clause-fits c = rw c.in-Join.is (rw (sym c.deref_mut-in-Join.ensures.value) c.on_port-in-Join.ensures.fits)
