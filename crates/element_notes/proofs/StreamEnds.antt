-- Streams end as the operators that make them.
use Rattle.std.proofs.Common.{ℕ, ◌<◌, false, List, [], ◌∷◌, ◌++◌, ◌≡◌, length, map, refl, sym, ap, ◌∙◌, subst, append-nil, arith, Option, Some, None, is_some}
use Rattle.std.specs.Option.{option_or}
use Rattle.std.proofs.lemmas.Bool.{cond-false}
use Rattle.spl_value.specs.declared.item.Item.{Item}
use Rattle.spl_value.specs.declared.item.Item.TheVariants as I
use Rattle.spl_value.specs.Numbered.{merged}
use Rattle.stream_model.specs.Bodies.{output}
use Rattle.stream_model.specs.Chains.{onward, passed}
use Rattle.stream_model.specs.Ends.{end_from}
use Rattle.stream_model.specs.Operators.{Operator}
use Rattle.stream_model.specs.React.{ended, react}
use Rattle.stream_model.specs.Stages.{Stage, start, next, gives_all, on_port}
use Rattle.stream_model.specs.Stream.{Event, any_closes}
use Rattle.stream_model.proofs.Closings.{end_gives_law}
use Rattle.stream_model.proofs.StageLaws.{gives_all-over, on_port-append}
use Rattle.network_model.specs.Networks.{FromSource, FromLinks, Splitter, Replica, Merger, last_of}
use Rattle.network_model.specs.Receipts.{item_events, popped, read_in}
use Rattle.network_model.proofs.Adds.{given-links}
use Rattle.operator_chains.proofs.Inner.{next_op}
use Rattle.operator_chains.specs.Hows.{how_by, how_of, stream_how}
use Rattle.element_notes.specs.EndLaws.{StreamEndsLaw}
use Rattle.element_notes.specs.Endings.{how_passed, last_in}

stream_how-open : (xs ys : List Item) → any_closes xs ≡ false → stream_how (xs ++ ys) ≡ stream_how ys
stream_how-open [] ys h = refl
stream_how-open (I.Tuple vs ∷ xs) ys h = stream_how-open xs ys h
stream_how-open (I.Window ∷ xs) ys h = stream_how-open xs ys h
stream_how-open (I.Final ∷ xs) ys h = cc
stream_how-open (I.Bad f ∷ xs) ys h = cc

stream_how-one : (x : Item) → stream_how (x ∷ []) ≡ how_of x
stream_how-one (I.Tuple vs) = refl
stream_how-one I.Window = refl
stream_how-one I.Final = refl
stream_how-one (I.Bad f) = refl

-- what an operator gives on a port
stage_ends : (s : Stage) (p : ℕ) (events : List Event) → s.over ≡ false → p < length s.op.outs → stream_how (on_port p (gives_all s events)) ≡ how_by (end_from s events)
stage_ends s p [] q l = refl
stage_ends s p (e ∷ events) q l =
    ap (λ outs. stream_how (on_port p (outs ++ gives_all (next s e) events))) (cond-false s.over [] (react s.op s.seen e) q)
    ∙ ap stream_how (on_port-append p (react s.op s.seen e) (gives_all (next s e) events))
    ∙ go (ended s.op s.seen e) refl (stage_ends (next s e) p events)
  where
    over : (x : Option Item) → ended s.op s.seen e ≡ x → (next s e).over ≡ is_some x
    over x is = ap (λ (t : Stage). t.over) (cond-false s.over s (record { op = s.op; seen = e ∷ s.seen; over = is_some (ended s.op s.seen e) }) q) ∙ ap is_some is

    go : (x : Option Item) → ended s.op s.seen e ≡ x
        → ((next s e).over ≡ false → p < length (next s e).op.outs → stream_how (on_port p (gives_all (next s e) events)) ≡ how_by (end_from (next s e) events))
        → stream_how (on_port p (react s.op s.seen e) ++ on_port p (gives_all (next s e) events)) ≡ how_by (option_or x (end_from (next s e) events))
    go None is later =
        stream_how-open (on_port p (react s.op s.seen e)) (on_port p (gives_all (next s e) events)) ((end_gives_law s.op p s.seen e l).1 is)
        ∙ later (over None is) (subst (λ (o : Operator). p < length o.outs) (sym (next_op s e)) l)
    go (Some x) is later =
        let r = (end_gives_law s.op p s.seen e l).0 x is in
        ap (λ xs. stream_how (xs ++ on_port p (gives_all (next s e) events))) r.1
        ∙ ap (λ outs. stream_how ((r.0 ++ x ∷ []) ++ on_port p outs)) (gives_all-over (next s e) events (over (Some x) is))
        ∙ ap stream_how (append-nil (r.0 ++ x ∷ [])) ∙ stream_how-open r.0 (x ∷ []) r.2 ∙ stream_how-one x

-- what the last of some gives
passed_ends : (op : Operator) (ops : List Operator) (p : ℕ) (events : List Event) → p < length (last_of op ops).outs
    → stream_how (on_port p (passed (map start ops) (gives_all (start op) events))) ≡ how_passed (how_by (end_from (start op) events)) ops (gives_all (start op) events)
passed_ends op [] p events l = stage_ends (start op) p events refl l
passed_ends op (other ∷ ops) p events l = passed_ends other ops p (onward (gives_all (start op) events)) l

-- a stream by itself
alone : (items : List Item) → on_port 0 (map (output 0) items) ≡ items
alone [] = refl
alone (x ∷ items) = ap (λ z. x ∷ z) (alone items)

stream_alone : (p s : ℕ) (streams : List ℕ) (items : List Item) → streams ≡ s ∷ [] → p < length streams → stream_how (on_port p (map (output 0) items)) ≡ stream_how items
stream_alone p s streams items one l =
    let n : length streams ≡ 1 = ap length one in
    let zero : p ≡ 0 = omega (arith, l, n) in
    ap (λ k. stream_how (on_port k (map (output 0) items))) zero ∙ ap stream_how (alone items)

pub stream_ends_law : StreamEndsLaw
stream_ends_law g (FromSource source [] outs) op p T fits last l =
    let same : source ≡ op = cc in
    stream_alone p fits.stream source.outs (read_in T) fits.one_stream (subst (λ (o : Operator). p < length o.outs) (sym same) l)
stream_ends_law g (FromSource source (other ∷ ops) outs) op p T fits last l =
    let same : last_of other ops ≡ op = cc in
    passed_ends other ops p (onward (map (output 0) (read_in T))) (subst (λ (o : Operator). p < length o.outs) (sym same) l)
stream_ends_law g (FromLinks first ops outs) op p T fits last l =
    let same : last_of first ops ≡ op = cc in
    ap (λ outputs. stream_how (on_port p outputs)) (given-links first ops outs T)
    ∙ passed_ends first ops p (item_events T) (subst (λ (o : Operator). p < length o.outs) (sym same) l)
stream_ends_law g (Splitter region) op p T fits last l = cc
stream_ends_law g (Replica region channel) op p T fits last l = cc
stream_ends_law g (Merger region outs) op p T fits last l =
    let fit = fits.0 in
    let is : Some (last_of fit.op fit.ops) ≡ Some op = ap last_in (sym fit.are) ∙ last in
    let same : last_of fit.op fit.ops ≡ op = cc in
    stream_alone p region.exit op.outs (merged region.rule region.width (λ c. popped c T)) (ap (λ (o : Operator). o.outs) (sym same) ∙ fit.makes) l
