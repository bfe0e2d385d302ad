-- What a replica gives, operator by operator: each on all that the one before it gives.
use Rattle.std.proofs.Common.{◌≡◌, ℕ, List, [], ◌∷◌, ◌++◌, map, refl, sym, ap, ◌∙◌, append_assoc, append-nil}
use Rattle.spl_value.specs.declared.item.Item.{Item}
use Rattle.stream_model.specs.Operators.{Operator}
use Rattle.stream_model.specs.Replicas.{numbered_gives, replica, under}
use Rattle.stream_model.specs.Sending.{stages_after, stages_give}
use Rattle.stream_model.specs.Stages.{Stage, next, on_port, start}
use Rattle.stream_model.specs.Stream.{came}
use Rattle.stream_model.proofs.ChainStages.{stages_after-append, stages_after-none, stages_give-append, stages_give-none}
use Rattle.stream_model.proofs.parts.Stages.{stage_outputs}
use Rattle.channel_heads.proofs.ByNumber.{Tagged}

-- what an operator gives on its first port for numbered items
abbrev pub stage_gives : Stage → List Tagged → List Tagged
stage_gives s [] = []
stage_gives s (p ∷ ps) = under p.0 (on_port 0 (stage_outputs s (came 0 p.1))) ++ stage_gives (next s (came 0 p.1)) ps

abbrev pub staged : List Operator → List Tagged → List Tagged
staged [] ps = ps
staged (op ∷ ops) ps = staged ops (stage_gives (start op) ps)

under-append : (n : ℕ) (xs ys : List Item) → under n (xs ++ ys) ≡ under n xs ++ under n ys
under-append n [] ys = refl
under-append n (x ∷ xs) ys = ap (λ z. (n, x) ∷ z) (under-append n xs ys)

-- items under one number, before others
pub numbered-under : (stages : List Stage) (n : ℕ) (xs : List Item) (ps : List Tagged)
    → numbered_gives stages (under n xs ++ ps) ≡ under n (stages_give stages xs) ++ numbered_gives (stages_after stages xs) ps
numbered-under stages n [] ps =
    ap (λ ss. numbered_gives ss ps) (sym (stages_after-none stages))
    ∙ ap (λ z. under n z ++ numbered_gives (stages_after stages []) ps) (sym (stages_give-none stages))
numbered-under stages n (x ∷ xs) ps =
    ap (λ z. under n (stages_give stages (x ∷ [])) ++ z) (numbered-under (stages_after stages (x ∷ [])) n xs ps)
    ∙ sym (append_assoc (under n (stages_give stages (x ∷ []))) (under n (stages_give (stages_after stages (x ∷ [])) xs)) (numbered_gives (stages_after (stages_after stages (x ∷ [])) xs) ps))
    ∙ ap (λ z. z ++ numbered_gives (stages_after (stages_after stages (x ∷ [])) xs) ps)
    (sym (under-append n (stages_give stages (x ∷ [])) (stages_give (stages_after stages (x ∷ [])) xs)) ∙ ap (under n) (sym (stages_give-append stages (x ∷ []) xs)))
    ∙ ap (λ ss. under n (stages_give stages (x ∷ xs)) ++ numbered_gives ss ps) (sym (stages_after-append stages (x ∷ []) xs))

by_stage : (s : Stage) (stages : List Stage) (ps : List Tagged) → numbered_gives (s ∷ stages) ps ≡ numbered_gives stages (stage_gives s ps)
by_stage s stages [] = refl
by_stage s stages (p ∷ ps) =
    ap (λ z. under p.0 (stages_give stages (on_port 0 z)) ++ numbered_gives (next s (came 0 p.1) ∷ stages_after stages (on_port 0 z)) ps) (append-nil (stage_outputs s (came 0 p.1)))
    ∙ ap (λ z. under p.0 (stages_give stages (on_port 0 (stage_outputs s (came 0 p.1)))) ++ z) (by_stage (next s (came 0 p.1)) (stages_after stages (on_port 0 (stage_outputs s (came 0 p.1)))) ps)
    ∙ sym (numbered-under stages p.0 (on_port 0 (stage_outputs s (came 0 p.1))) (stage_gives (next s (came 0 p.1)) ps))

no_stages : (ps : List Tagged) → numbered_gives [] ps ≡ ps
no_stages [] = refl
no_stages (p ∷ ps) = ap (λ z. p ∷ z) (no_stages ps)

pub by_operators : (ops : List Operator) (ps : List Tagged) → replica ops ps ≡ staged ops ps
by_operators [] ps = no_stages ps
by_operators (op ∷ ops) ps = by_stage (start op) (map start ops) ps ∙ by_operators ops (stage_gives (start op) ps)
