-- What an element has noted.
use Prim.Native.Nat.{suc}
use Rattle.std.specs.Prelude.{ℕ, ◌≡◌, ◌<◌, ◌==◌, Bool, true, List, [], ◌∷◌, ◌++◌, length, slice_get, vec_len, vec_capacity, Option, Some, option_map, if◌then◌else◌}
use Rattle.spl_value.specs.declared.value.Value.{Value}
use Rattle.stream_model.specs.Fans.{ports_of_fans}
use Rattle.stream_model.specs.Operators.{Operator}
use Rattle.stream_model.specs.declared.outgoing.Outgoing.{Outgoing}
use Rattle.network_model.specs.Networks.{Part, outputs}
use Rattle.network_model.specs.Receipts.{Receipt}
use Rattle.operator_chains.specs.declared.how.How.{How}
use Rattle.operator_chains.specs.declared.how.How.TheVariants as H
use Rattle.element_notes.specs.declared.ending.End.{End}
use Rattle.element_notes.specs.declared.notes.Notes.{Notes}
use Rattle.element_notes.specs.Endings.{arrivals_of, ends_as, how_ended, is_recorded, last_operator, ports_out, poured_count, sent_on}

-- what an element has noted that has taken, put and poured this
pub record HasNoted (part : Part) (notes : Notes) (kept : List Receipt) (pushed : List Outgoing)
    (poured : List (List Value)) : Type 0 where
  pub records : notes.records ≡ is_recorded part
  pub arrivals : notes.arrivals.items ≡ arrivals_of part kept
  pub how : notes.how ≡ how_ended part kept
  pub ends : notes.ends ≡ ends_as part H.Live
  pub sent_count : length notes.sent ≡ outputs part
  pub sent : (o n : ℕ) → slice_get notes.sent o ≡ Some n → n ≡ sent_on o pushed
  pub tuples : notes.poured ≡ poured_count poured

-- there is room for one entry more of the record, where there is to be one
abbrev pub HasRoom : Bool → Notes → Type 0
HasRoom recorded notes = recorded ≡ true → vec_len notes.arrivals < vec_capacity notes.arrivals

-- the ends of an element are those of the operator with this number, which has so many connections at each output port
pub record HasEnds (part : Part) (last : Option ℕ) (counts : List ℕ) : Type 0 where
  pub number : option_map (λ (op : Operator). op.number) (last_operator part) ≡ last
  pub outs : (op : Operator) → last_operator part ≡ Some op → ports_out part ≡ ports_of_fans counts
  pub count : (op : Operator) → last_operator part ≡ Some op → length counts ≡ length op.outs

-- ---- the ends of an operator by its connections

-- at a port with so many connections
abbrev pub end_at : ℕ → ℕ → ℕ → List End
end_at op port count = if count == 0 then record { op = op; port = port; how = H.Live } ∷ [] else []

-- at ports from one on
abbrev pub ends_from : ℕ → ℕ → List ℕ → List End
ends_from op port [] = []
ends_from op port (count ∷ counts) = end_at op port count ++ ends_from op (suc port) counts

abbrev pub ends_at : ℕ → List ℕ → List End
ends_at op [] = end_at op 0 0
ends_at op (count ∷ counts) = ends_from op 0 (count ∷ counts)

-- an end that stands so
abbrev pub with_how : How → End → End
with_how how end = record { op = end.op; port = end.port; how = how }
