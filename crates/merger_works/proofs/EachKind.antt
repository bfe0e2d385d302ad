-- What holds of each kind of merger: a new one has taken nothing, which packets one wants, and how many heads it holds.
use Rattle.std.proofs.Common.{ℕ, ◌<◌, ◌^◌, false, List, [], ◌≡◌, refl, sym, ap, ◌∙◌, subst, arith}
use Rattle.std.specs.Prelude.{◌&&◌, ◌||◌, not}
use Rattle.std.specs.List.{list_all, list_any}
use Rattle.spl_value.specs.declared.item.Item.{Item}
use Rattle.spl_value.specs.declared.packet.Packet.{Packet}
use Rattle.spl_value.specs.Numbered.{Rule, ByTurns, ByNumbers, ByPulses, InOrder, is_last, items_of, known, merged}
use Rattle.stream_model.specs.Stream.{is_closed}
use Rattle.channel_heads.specs.Held.{Held, MergerHolds, MergerHolds.New, new_held}
use Rattle.channel_heads.proofs.Facts.{facts}
use Rattle.order_merger.specs.Merging.{Turning, TurnStands, new_turning, Numbering, NumberStands, new_numbering}
use Rattle.network_model.specs.Receipts.{popped}
use Rattle.network_model.proofs.RegionParts.{merged-none}
use Rattle.element_outboxes.specs.Waiting.{fans_from, outputs_in}
use Rattle.merger_works.specs.Merging.{MergerAt}
use Rattle.merger_works.specs.Laws.{BeginLaw, WantsAt, WantsLaw, WidthAt, WidthLaw}
use Rattle.merger_works.proofs.Wanting.{wants_is}

begins : {M : Type 0} (held : M → Held) (stands : ℕ → M → (ℕ → List Packet) → List Item → Type 0) (rule : Rule) (width : ℕ) (counts : List ℕ) (m : M)
    → stands width m (λ c. []) [] → (held m).cut ≡ false → outputs_in counts < 2 ^ 32 → MergerAt held stands rule width counts [] m (fans_from 0 counts)
begins held stands rule width counts m stood uncut few = record {
  given = [];
  stood = stood;
  uncut = uncut;
  all = λ order. sym (merged-none rule width);
  fans_are = refl;
  few = few;
}

pub begin_law : BeginLaw
begin_law width counts some few = (
  begins (λ (m : Turning). m.held) TurnStands ByTurns width counts (new_turning width) (record { held = New some; rounds = 0; turn = omega arith }) refl few,
  begins (λ (m : Numbering). m.held) NumberStands ByNumbers width counts (new_numbering width) (record { held = New some; next = refl }) refl few,
  begins (λ (m : Held). m) (MergerHolds ByPulses) ByPulses width counts (new_held width) (New some) refl few,
)

-- what stands holds
abbrev AreHeld : {M : Type 0} → (M → Held) → (ℕ → M → (ℕ → List Packet) → List Item → Type 0) → Rule → Type 0
AreHeld {M = M} held stands rule = (width : ℕ) (m : M) (taken : ℕ → List Packet) (given : List Item) → stands width m taken given → MergerHolds rule width (held m) taken given

wants-at : {M : Type 0} (held : M → Held) (stands : ℕ → M → (ℕ → List Packet) → List Item → Type 0) (rule : Rule) → AreHeld held stands rule → WantsAt held stands rule
wants-at held stands rule are region outs counts receipts m fans channel same at in_order within =
    let order : InOrder rule region.width (λ c. popped c receipts) = subst (λ r. InOrder r region.width (λ c. popped c receipts)) same in_order in
    wants_is rule region.width (held m) (λ c. popped c receipts) at.given (are region.width m (λ c. popped c receipts) at.given at.stood) order (at.all order) at.uncut channel within
    ∙ ap (λ r. not (list_any is_last (popped channel receipts)) && (is_closed (merged r region.width (λ c. popped c receipts)) || list_all (λ (p : ℕ × Item). known r region.width (λ c. popped c receipts) p.0) (items_of (popped channel receipts))))
    (sym same)

width-at : {M : Type 0} (held : M → Held) (stands : ℕ → M → (ℕ → List Packet) → List Item → Type 0) (rule : Rule) → AreHeld held stands rule → WidthAt held stands rule
width-at held stands rule are width counts receipts m fans at =
    (facts rule width (held m) (λ c. popped c receipts) at.given (are width m (λ c. popped c receipts) at.given at.stood)).size_heads

pub wants_law : WantsLaw
wants_law = (
  wants-at (λ (m : Turning). m.held) TurnStands ByTurns (λ width m taken given s. s.held),
  wants-at (λ (m : Numbering). m.held) NumberStands ByNumbers (λ width m taken given s. s.held),
  wants-at (λ (m : Held). m) (MergerHolds ByPulses) ByPulses (λ width m taken given s. s),
)

pub width_law : WidthLaw
width_law = (
  width-at (λ (m : Turning). m.held) TurnStands ByTurns (λ width m taken given s. s.held),
  width-at (λ (m : Numbering). m.held) NumberStands ByNumbers (λ width m taken given s. s.held),
  width-at (λ (m : Held). m) (MergerHolds ByPulses) ByPulses (λ width m taken given s. s),
)
