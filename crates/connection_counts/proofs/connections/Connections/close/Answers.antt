use Rattle.std.proofs.Common.{rules, arith}
use Rattle.connection_counts.proofs.Ends.{count_there, counts_moved, last_by, last_not, read_at, some_open, waits_by, waits_not}
use Rattle.connection_counts.proofs.connections.Connections.close.Goals as goal

pub unreachable-requires : goal.unreachable-requires
unreachable-requires c =
    let s = c.args.self.now in
    let r = c.requires in
    count_there r.0 r.1 c.args.input s.ports s.open s.left r.2 r.3 r.4 (read_at s.ports s.open c.args.input c.port-port.result _ c.port-port.ensures (search rules))

pub overflow_sub-open : goal.overflow_sub-open
overflow_sub-open c =
    let s = c.args.self.now in
    let r = c.requires in
    let both = some_open r.0 r.1 c.args.input c.in-Some.open.now s.ports s.open s.left r.2 r.3 r.4
    (read_at s.ports s.open c.args.input c.port-port.result _ c.port-port.ensures (search rules)) in
    let e = both.0 in omega (arith, e)

pub overflow_sub-self : goal.overflow_sub-self
overflow_sub-self c =
    let s = c.args.self.now in
    let r = c.requires in
    let both = some_open r.0 r.1 c.args.input c.in-Some.open.now s.ports s.open s.left r.2 r.3 r.4
    (read_at s.ports s.open c.args.input c.port-port.result _ c.port-port.ensures (search rules)) in
    let e = both.1 in omega (arith, e)

pub returns-then-open-gt0-clause-closes : goal.returns-then-open-gt0-clause-closes
returns-then-open-gt0-clause-closes c op h counts lt was =
    let s = c.args.self.now in
    let both = some_open op h c.args.input c.in-Some.open.now s.ports s.open s.left counts lt was
    (read_at s.ports s.open c.args.input c.port-port.result _ c.port-port.ensures (search rules)) in
    let e = both.0 in
    let f = both.1 in
    let more = c.if-open-gt0.true in
    waits_by op h c.args.input (omega (arith, e, more))

pub returns-then-open-gt0-clause-counts : goal.returns-then-open-gt0-clause-counts
returns-then-open-gt0-clause-counts c op h counts lt was =
    let s = c.args.self.now in
    counts_moved op h c.args.input c.in-Some.open.now c.port-port.result s.ports s.open s.left _ counts lt was c.port-port.ensures
    (read_at s.ports s.open c.args.input c.port-port.result _ c.port-port.ensures (search rules)) c.set.ensures

pub returns-then-self-gt0-clause-closes : goal.returns-then-self-gt0-clause-closes
returns-then-self-gt0-clause-closes c op h counts lt was =
    let s = c.args.self.now in
    let both = some_open op h c.args.input c.in-Some.open.now s.ports s.open s.left counts lt was
    (read_at s.ports s.open c.args.input c.port-port.result _ c.port-port.ensures (search rules)) in
    let e = both.0 in
    let f = both.1 in
    let none = c.if-open-gt0.false in
    let more = c.if-self-gt0.true in
    (waits_not op h c.args.input (omega (arith, e, none)), last_not op h c.args.input (omega (arith, f, more)))

pub returns-then-self-gt0-clause-counts : goal.returns-then-self-gt0-clause-counts
returns-then-self-gt0-clause-counts c op h counts lt was =
    let s = c.args.self.now in
    counts_moved op h c.args.input c.in-Some.open.now c.port-port.result s.ports s.open s.left _ counts lt was c.port-port.ensures
    (read_at s.ports s.open c.args.input c.port-port.result _ c.port-port.ensures (search rules)) c.set.ensures

pub returns-else-self-gt0-clause-closes : goal.returns-else-self-gt0-clause-closes
returns-else-self-gt0-clause-closes c op h counts lt was =
    let s = c.args.self.now in
    let both = some_open op h c.args.input c.in-Some.open.now s.ports s.open s.left counts lt was
    (read_at s.ports s.open c.args.input c.port-port.result _ c.port-port.ensures (search rules)) in
    let e = both.0 in
    let f = both.1 in
    let none = c.if-open-gt0.false in
    let all = c.if-self-gt0.false in
    (waits_not op h c.args.input (omega (arith, e, none)), last_by op h c.args.input (omega (arith, f, all)))

pub returns-else-self-gt0-clause-counts : goal.returns-else-self-gt0-clause-counts
returns-else-self-gt0-clause-counts c op h counts lt was =
    let s = c.args.self.now in
    counts_moved op h c.args.input c.in-Some.open.now c.port-port.result s.ports s.open s.left _ counts lt was c.port-port.ensures
    (read_at s.ports s.open c.args.input c.port-port.result _ c.port-port.ensures (search rules)) c.set.ensures
