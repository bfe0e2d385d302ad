-- A longer list of events gives a longer stream.
use Rattle.std.proofs.Common.{[], ◌∷◌, sym, ap, ◌∙◌, map}
use Rattle.std.proofs.lemmas.List.{map-append}
use Rattle.stream_model.specs.Stream.{came}
use Rattle.stream_model.specs.Stages.{start, gives_all, stage_after, on_port, out}
use Rattle.stream_model.proofs.StageLaws.{gives_all-append, on_port-append}
use Rattle.stream_model.specs.Laws.{OutGrows, ChainGrows}

pub out_grows : OutGrows
out_grows op p some all prefix = (
  on_port p (gives_all (stage_after (start op) some) prefix.0),
  sym (on_port-append p (gives_all (start op) some) (gives_all (stage_after (start op) some) prefix.0))
      ∙ ap (on_port p) (sym (gives_all-append (start op) some prefix.0))
      ∙ ap (out op p) prefix.1,
)

pub chain_grows : ChainGrows
chain_grows [] some all prefix = prefix
chain_grows (op ∷ ops) some all prefix =
    chain_grows ops (out op 0 (map (came 0) some)) (out op 0 (map (came 0) all))
    (out_grows op 0 (map (came 0) some) (map (came 0) all)
    (map (came 0) prefix.0, sym (map-append (came 0) some prefix.0) ∙ ap (map (came 0)) prefix.1))
