-- What a chain has for its sink.
use Rattle.std.proofs.Common.{List, [], refl, sym, ap, ◌∙◌, map}
use Rattle.language_model.specs.declared.outs.Output.{Output}
use Rattle.stream_model.specs.Stream.{IsPrefix}
use Rattle.stream_model.specs.Bodies.{output}
use Rattle.stream_model.specs.Meaning.{arrive}
use Rattle.stream_model.specs.Operators.{Operator}
use Rattle.stream_model.specs.Stages.{start, gives_all}
use Rattle.network_model.specs.Networks.{FromSource, FromLinks, Splitter, Replica, Merger, last_of}
use Rattle.network_model.specs.Receipts.{read_in}
use Rattle.network_model.specs.Owed.{given, item_lists, taken_of}
use Rattle.network_model.specs.Sinks.{for_sink}
use Rattle.network_model.specs.States.{all_taken}
use Rattle.network_model.specs.Joined.{taken_at}
use Rattle.network_model.proofs.Packets.{front-map}
use Rattle.network_model.proofs.Chains.{front-gives_all, front-passed, front-arrive}
use Rattle.network_model.proofs.Adds.{for_sink-append}
use Rattle.network_laws.specs.JoinedLaws.{PouredLaw}
use Rattle.network_model.proofs.ElementLists.{taken-at}

for_sink-front : (last : Operator) (a b : List Output) → IsPrefix a b → IsPrefix (for_sink last a) (for_sink last b)
for_sink-front last a b p = (for_sink last p.0, sym (for_sink-append last a p.0) ∙ ap (for_sink last) p.1)

pub poured_law : PouredLaw
poured_law (FromSource source ops outs) a =
    for_sink-front (last_of source ops) (given (FromSource source ops outs) (taken_of (FromSource source ops outs) a.kept)) (given (FromSource source ops outs) (taken_at (FromSource source ops outs) a))
    (front-passed ops (map (output 0) (read_in a.kept)) (map (output 0) (read_in (all_taken a)))
    (front-map (output 0) (read_in a.kept) (read_in (all_taken a)) (taken-at (FromSource source ops outs) a).items))
poured_law (FromLinks op ops outs) a =
    let t = taken_of (FromLinks op ops outs) a.kept in
    let u = taken_at (FromLinks op ops outs) a in
    for_sink-front (last_of op ops) (given (FromLinks op ops outs) t) (given (FromLinks op ops outs) u)
    (front-passed ops (gives_all (start op) (arrive (item_lists t) t.entries)) (gives_all (start op) (arrive (item_lists u) u.entries))
    (front-gives_all (start op) (arrive (item_lists t) t.entries) (arrive (item_lists u) u.entries) (front-arrive t u (taken-at (FromLinks op ops outs) a))))
poured_law (Splitter region) a = ([], refl)
poured_law (Replica region channel) a = ([], refl)
poured_law (Merger region outs) a = ([], refl)
