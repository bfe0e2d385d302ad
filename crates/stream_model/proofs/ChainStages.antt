-- What stages give one after another, by the parts of the list of items.
use Rattle.std.specs.Prelude.{List, [], ◌∷◌, ◌++◌, ◌≡◌, map}
use Rattle.std.proofs.Common.{refl, ap, ◌∙◌}
use Rattle.std.proofs.lemmas.List.{map-append}
use Rattle.spl_value.specs.declared.item.Item.{Item}
use Rattle.stream_model.specs.Operators.{Operator}
use Rattle.stream_model.specs.Sending.{stages_give, stages_after}
use Rattle.stream_model.specs.Stages.{Stage, start, gives_all, stage_after, on_port, chain}
use Rattle.stream_model.specs.Stream.{came}
use Rattle.stream_model.proofs.StageLaws.{after-append, gives_all-append, on_port-append}

-- what a stage gives on its first port for items, and where it stands then
abbrev pub passed_on : Stage → List Item → List Item
passed_on s items = on_port 0 (gives_all s (map (came 0) items))

abbrev pub moved : Stage → List Item → Stage
moved s items = stage_after s (map (came 0) items)

pub passed_on-append : (s : Stage) (xs ys : List Item) → passed_on s (xs ++ ys) ≡ passed_on s xs ++ passed_on (moved s xs) ys
passed_on-append s xs ys =
    ap (λ es. on_port 0 (gives_all s es)) (map-append (came 0) xs ys)
    ∙ ap (on_port 0) (gives_all-append s (map (came 0) xs) (map (came 0) ys))
    ∙ on_port-append 0 (gives_all s (map (came 0) xs)) (gives_all (moved s xs) (map (came 0) ys))

pub moved-append : (s : Stage) (xs ys : List Item) → moved s (xs ++ ys) ≡ moved (moved s xs) ys
moved-append s xs ys = ap (stage_after s) (map-append (came 0) xs ys) ∙ after-append s (map (came 0) xs) (map (came 0) ys)

-- no item gives nothing and moves no stage
pub stages_give-none : (stages : List Stage) → stages_give stages [] ≡ []
stages_give-none [] = refl
stages_give-none (s ∷ stages) = stages_give-none stages

pub stages_after-none : (stages : List Stage) → stages_after stages [] ≡ stages
stages_after-none [] = refl
stages_after-none (s ∷ stages) = ap (λ rest. s ∷ rest) (stages_after-none stages)

-- items in two lists: what is given for the first, and for the second after it
pub stages_give-append : (stages : List Stage) (xs ys : List Item)
    → stages_give stages (xs ++ ys) ≡ stages_give stages xs ++ stages_give (stages_after stages xs) ys
stages_give-append [] xs ys = refl
stages_give-append (s ∷ stages) xs ys =
    ap (stages_give stages) (passed_on-append s xs ys) ∙ stages_give-append stages (passed_on s xs) (passed_on (moved s xs) ys)

pub stages_after-append : (stages : List Stage) (xs ys : List Item)
    → stages_after stages (xs ++ ys) ≡ stages_after (stages_after stages xs) ys
stages_after-append [] xs ys = refl
stages_after-append (s ∷ stages) xs ys =
    let rest = ap (stages_after stages) (passed_on-append s xs ys) ∙ stages_after-append stages (passed_on s xs) (passed_on (moved s xs) ys) in
    λ i. moved-append s xs ys i ∷ rest i

-- from the start they give what the chain gives
pub chain-stages : (ops : List Operator) (items : List Item) → chain ops items ≡ stages_give (map start ops) items
chain-stages [] items = refl
chain-stages (op ∷ ops) items = chain-stages ops (passed_on (start op) items)
