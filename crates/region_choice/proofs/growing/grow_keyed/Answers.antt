use Rattle.std.proofs.Common.{◌≡◌, ◌++◌, ◌∷◌, [], List, true, false, ◌∙◌, ap}
use Rattle.stream_model.specs.Regions.{entry_attributes, ops_of}
use Rattle.region_choice.specs.declared.keys.KeySource.{KeySource}
use Rattle.region_choice.specs.steps.Growing.{key_with}
use Rattle.region_choice.proofs.Growth.{key_is, keyed_longer, no_key}
use Rattle.region_choice.proofs.growing.grow_keyed.Goals as goal

pub returns-then-is_empty-clause-grows : goal.returns-then-is_empty-clause-grows
returns-then-is_empty-clause-grows c = λ g o e at is h.
    no_key g c.args.growing.now c.args.op o c.args.places.now c.in_ok-key.key at is
    (key_is g c.args.growing.now c.args.op o c.args.places.now c.in_ok-sources.sources c.in_ok-key.key at is h (c.in_ok-sources.ensures g e h.leads_back)
    (c.in_ok-key.ensures g o e at h.numbers
    ∙ ap (λ (xs : List KeySource). key_with c.args.growing.now xs (entry_attributes (ops_of g (c.args.growing.now.ops ++ c.args.op ∷ [])))) c.as_slice.ensures))
    (c.is_empty.ensures.0 c.if-is_empty.true)

pub returns-clause-grows : goal.returns-clause-grows
returns-clause-grows c = λ g o e at is h.
    keyed_longer g c.args.growing.now c.args.op o c.args.places.now c.in_ok-sources.sources c.in_ok-key.key c.clear.new.self c.add.new.growing at is h
    (c.in_ok-sources.ensures g e h.leads_back)
    (key_is g c.args.growing.now c.args.op o c.args.places.now c.in_ok-sources.sources c.in_ok-key.key at is h (c.in_ok-sources.ensures g e h.leads_back)
    (c.in_ok-key.ensures g o e at h.numbers
    ∙ ap (λ (xs : List KeySource). key_with c.args.growing.now xs (entry_attributes (ops_of g (c.args.growing.now.ops ++ c.args.op ∷ [])))) c.as_slice.ensures))
    (λ none. absurd (let empty : c.is_empty.result ≡ true = c.is_empty.ensures.1 none in let not_empty : c.is_empty.result ≡ false = c.if-is_empty.false in cc))
    c.clear.ensures (c.in_ok-add.ensures g o e at)
