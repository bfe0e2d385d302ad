use Rattle.std.proofs.Common.{◌≡◌, ◌≢◌, ◌<◌, ◌^◌, ℕ, Some, subst, sym, false}
use Rattle.std.specs.Option.{MatchOption}
use Rattle.spl_value.specs.declared.item.Item.{Item}
use Rattle.channel_heads.specs.Held.{Held, IsLeast, head_at, is_waiting, width_of}
use Rattle.pulse_rule.specs.Merging.{IsHeldBack}
use Rattle.pulse_rule.proofs.Standing.{held_none, held_waiting, next_found}
use Rattle.pulse_rule.proofs.merger.PulseMerger.next.Goals as goal

pub returns-then-is_awaited : goal.returns-then-is_awaited
returns-then-is_awaited c =
    let waiting = c.if-is_awaited.ensures in
    subst IsHeldBack c.self.view_is (held_waiting c.self.inside.heads c.in-Some.number waiting.0 (sym c.in-Some.ensures) waiting.1 waiting.2)

pub returns-else-is_awaited : goal.returns-else-is_awaited
returns-else-is_awaited c =
    let h = c.self.inside.heads in
    let found = subst (λ n. MatchOption c.with_number.result ((d k : ℕ) (x : Item) → head_at h d ≡ Some (k, x) → k ≢ n) (λ d. (d < width_of h) × (n < 2 ^ 64) × (x : Item) × (head_at h d ≡ Some (n, x))))
    c.from.ensures c.with_number.ensures in
    subst (λ (g : Held). MatchOption c.with_number.result (IsHeldBack g)
    (λ d. (d < width_of g) × (k : ℕ) × (x : Item) × (head_at g d ≡ Some (k, x)) × IsLeast g k × ((e : ℕ) → e < width_of g → is_waiting g k e ≡ false)))
    c.self.view_is (next_found h c.in-Some.number c.with_number.result (sym c.in-Some.ensures) c.if-is_awaited.ensures found)

pub returns-in-None : goal.returns-in-None
returns-in-None c = subst IsHeldBack c.self.view_is (held_none c.self.inside.heads (sym c.in-None.ensures))
