-- Each tuple that enters a region of a plan has the region's key.
use Rattle.std.proofs.Common.{ℕ, List, [], ◌∷◌, ◌≡◌, IsTrue, refl, sym, ap, ◌∙◌, subst, Some, slice_get}
use Rattle.spl_value.specs.declared.item.Item.{Item}
use Rattle.spl_value.specs.declared.item.Item.TheVariants as I
use Rattle.spl_value.specs.declared.value.Value.{Value}
use Rattle.spl_value.specs.Key.{are_key_places}
use Rattle.spl_value.specs.Values.{tuple_fits}
use Rattle.spl_value.proofs.FitsLaws.{fits_tuple}
use Rattle.hash_splitter.specs.Splitting.{IsRoutable}
use Rattle.language_model.specs.CheckedGraph.{CheckedGraph}
use Rattle.language_model.specs.Keeping.{Keeps}
use Rattle.language_model.specs.StreamTypes.{Attributes}
use Rattle.stream_model.specs.declared.plan.Region.{Region}
use Rattle.stream_model.specs.CheckedMeaning.{graph_of}
use Rattle.stream_model.specs.Operators.{Operator, input_attributes}
use Rattle.stream_model.specs.Regions.{IsPlan, ops_of, routing_by}
use Rattle.stream_model.specs.Replies.{ItemHas}
use Rattle.network_model.specs.Networks.{RegionPart}
use Rattle.pe_fusion.specs.FusedNets.{region_part}
use Rattle.region_laws.specs.RegionProper.{entry_schema}
use Rattle.region_laws.proofs.KeyPlaces.{has_key_law}

routable : (key : List ℕ) (x : Item) → ((vs : List Value) → x ≡ I.Tuple vs → IsTrue (are_key_places vs key)) → IsRoutable (routing_by key) x
routable [] x keys = tt
routable (p ∷ key) (I.Tuple vs) keys = keys vs refl
routable (p ∷ key) I.Window keys = tt
routable (p ∷ key) I.Final keys = tt
routable (p ∷ key) (I.Bad f) keys = tt

pub routes-key : (c : CheckedGraph) → Keeps c → (plan : List Region) → IsPlan (graph_of c) plan → (width : ℕ) (region : RegionPart) (place : ℕ) (own : Region) → slice_get plan place ≡ Some own
    → region ≡ region_part (graph_of c) width own → (op : Operator) (ops : List Operator) → region.ops ≡ op ∷ ops → (x : Item) → ItemHas (input_attributes op 0) x → IsRoutable region.routing x
routes-key c k plan is width region place own at runs op ops are x has =
    subst (λ routing. IsRoutable routing x) (ap (λ (r : RegionPart). r.routing) (sym runs)) (routable own.key x (λ vs e. has_key_law c plan place own vs k is at (fits vs e)))
  where
    entry : input_attributes op 0 ≡ entry_schema (ops_of (graph_of c) own.ops)
    entry = ap entry_schema (sym are ∙ ap (λ (r : RegionPart). r.ops) runs)

    fits : (vs : List Value) → x ≡ I.Tuple vs → IsTrue (tuple_fits (entry_schema (ops_of (graph_of c) own.ops)) vs)
    fits vs e =
        let own_fits : ItemHas (input_attributes op 0) (I.Tuple vs) = subst (ItemHas (input_attributes op 0)) e has in
        subst (λ (schema : Attributes). IsTrue (tuple_fits schema vs)) entry (sym (fits_tuple (input_attributes op 0) vs) ∙ own_fits)
