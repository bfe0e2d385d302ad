-- What operators one behind the other give for events in two parts.
use Rattle.std.proofs.Common.{List, [], ◌∷◌, ◌++◌, ◌≡◌, map, sym, ap, ◌∙◌, refl}
use Rattle.std.proofs.lemmas.List.{map-append}
use Rattle.language_model.specs.declared.outs.Output.{Output}
use Rattle.stream_model.specs.Bodies.{output}
use Rattle.stream_model.specs.Chains.{chain_after, chain_gives, onward, passed, stages_passed}
use Rattle.stream_model.specs.Stages.{Stage, gives_all, stage_after, on_port}
use Rattle.stream_model.specs.Stream.{Event, came}
use Rattle.stream_model.proofs.StageLaws.{gives_all-append, after-append, on_port-append}

pub onward-append : (outs more : List Output) → onward (outs ++ more) ≡ onward outs ++ onward more
onward-append outs more = ap (map (came 0)) (on_port-append 0 outs more) ∙ map-append (came 0) (on_port 0 outs) (on_port 0 more)

pub passed-append : (ss : List Stage) (outs more : List Output)
    → passed ss (outs ++ more) ≡ passed ss outs ++ passed (stages_passed ss outs) more
passed-append [] outs more = refl
passed-append (s ∷ ss) outs more =
    ap (λ es. passed ss (gives_all s es)) (onward-append outs more)
    ∙ ap (passed ss) (gives_all-append s (onward outs) (onward more))
    ∙ passed-append ss (gives_all s (onward outs)) (gives_all (stage_after s (onward outs)) (onward more))

pub stages_passed-append : (ss : List Stage) (outs more : List Output)
    → stages_passed ss (outs ++ more) ≡ stages_passed (stages_passed ss outs) more
stages_passed-append [] outs more = refl
stages_passed-append (s ∷ ss) outs more =
    ap (λ es. stage_after s es ∷ stages_passed ss (gives_all s es)) (onward-append outs more)
    ∙ ap (λ (t : Stage). t ∷ stages_passed ss (gives_all s (onward outs ++ onward more))) (after-append s (onward outs) (onward more))
    ∙ ap (λ given. stage_after (stage_after s (onward outs)) (onward more) ∷ stages_passed ss given) (gives_all-append s (onward outs) (onward more))
    ∙ ap (λ ts. stage_after (stage_after s (onward outs)) (onward more) ∷ ts)
    (stages_passed-append ss (gives_all s (onward outs)) (gives_all (stage_after s (onward outs)) (onward more)))

pub chain_gives-append : (ss : List Stage) (first second : List Event)
    → chain_gives ss (first ++ second) ≡ chain_gives ss first ++ chain_gives (chain_after ss first) second
chain_gives-append [] first second = map-append (λ (e : Event). output 0 e.item) first second
chain_gives-append (s ∷ ss) first second =
    ap (passed ss) (gives_all-append s first second) ∙ passed-append ss (gives_all s first) (gives_all (stage_after s first) second)

pub chain_after-append : (ss : List Stage) (first second : List Event)
    → chain_after ss (first ++ second) ≡ chain_after (chain_after ss first) second
chain_after-append [] first second = refl
chain_after-append (s ∷ ss) first second =
    ap (λ (t : Stage). t ∷ stages_passed ss (gives_all s (first ++ second))) (after-append s first second)
    ∙ ap (λ outs. stage_after (stage_after s first) second ∷ stages_passed ss outs) (gives_all-append s first second)
    ∙ ap (λ ts. stage_after (stage_after s first) second ∷ ts)
    (stages_passed-append ss (gives_all s first) (gives_all (stage_after s first) second))
