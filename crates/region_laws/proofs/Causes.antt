-- What one item more adds to what a replica gives.
use Rattle.std.proofs.Common.{◌≡◌, List, [], ◌∷◌, ◌++◌, map, sym, ap, ◌∙◌, append_assoc, append-nil}
use Rattle.spl_value.specs.declared.item.Item.{Item}
use Rattle.stream_model.specs.Replicas.{numbered_gives, replica, under}
use Rattle.stream_model.specs.Sending.{stages_after, stages_give}
use Rattle.stream_model.specs.Stages.{Stage, chain, start}
use Rattle.stream_model.proofs.ChainStages.{chain-stages, stages_after-append, stages_after-none, stages_give-append}
use Rattle.channel_heads.proofs.ByNumber.{Tagged}
use Rattle.region_laws.specs.NumberLaws.{CauseLaw, ItemsLaw}
use Rattle.region_laws.proofs.NumberedItems.{items}
use Rattle.region_laws.proofs.Unended.{items-replica}

-- numbered items in two lists: what stages give for the first, and for the second after it
pub numbered-append : (ss : List Stage) (ps qs : List Tagged)
    → numbered_gives ss (ps ++ qs) ≡ numbered_gives ss ps ++ numbered_gives (stages_after ss (items ps)) qs
numbered-append ss [] qs = ap (λ stages. numbered_gives stages qs) (sym (stages_after-none ss))
numbered-append ss (p ∷ ps) qs =
    ap (λ z. under p.0 (stages_give ss (p.1 ∷ [])) ++ z) (numbered-append (stages_after ss (p.1 ∷ [])) ps qs)
    ∙ sym (append_assoc (under p.0 (stages_give ss (p.1 ∷ []))) (numbered_gives (stages_after ss (p.1 ∷ [])) ps) (numbered_gives (stages_after (stages_after ss (p.1 ∷ [])) (items ps)) qs))
    ∙ ap (λ stages. numbered_gives ss (p ∷ ps) ++ numbered_gives stages qs) (sym (stages_after-append ss (p.1 ∷ []) (items ps)))

pub items_law : ItemsLaw
items_law ops ps = items-replica ops ps

pub cause_law : CauseLaw
cause_law ops ps n x = (added, in_chain, more) where
  added : List Item
  added = stages_give (stages_after (map start ops) (items ps)) (x ∷ [])

  more : replica ops (ps ++ (n, x) ∷ []) ≡ replica ops ps ++ under n added
  more =
      numbered-append (map start ops) ps ((n, x) ∷ [])
      ∙ ap (λ z. numbered_gives (map start ops) ps ++ z) (append-nil (under n (stages_give (stages_after (map start ops) (items ps)) (x ∷ []))))

  in_chain : chain ops (items ps ++ x ∷ []) ≡ chain ops (items ps) ++ added
  in_chain =
      chain-stages ops (items ps ++ x ∷ [])
      ∙ stages_give-append (map start ops) (items ps) (x ∷ [])
      ∙ ap (λ z. z ++ stages_give (stages_after (map start ops) (items ps)) (x ∷ [])) (sym (chain-stages ops (items ps)))
