-- A splitter goes on from item to item.
use Rattle.std.proofs.Common.{ℕ, ◌+◌, ◌≤◌, Bool, true, false, cond, List, [], ◌∷◌, ◌++◌, ◌≡◌, inl, inr, length, refl, sym, ap, ◌∙◌, subst, arith}
use Rattle.std.specs.Prelude.{IsTrue, not}
use Rattle.std.proofs.lemmas.List.{length-append}
use Rattle.spl_value.specs.declared.item.Item.{Item}
use Rattle.spl_value.specs.declared.item.Item.TheVariants as I
use Rattle.spl_value.specs.declared.packet.Packet.TheVariants as P
use Rattle.spl_value.specs.declared.routing.Routing.{Routing}
use Rattle.spl_value.specs.declared.routing.Routing.TheVariants.{Key, Turns}
use Rattle.spl_value.specs.Numbered.{ByPulses, closes}
use Rattle.stream_model.specs.Stream.{any_closes}
use Rattle.hash_splitter.specs.Splitting.{IsRoutable, Splitting, new_splitting}
use Rattle.network_model.specs.Networks.{RegionPart}
use Rattle.network_model.specs.Packets.{items_in}
use Rattle.network_model.specs.Receipts.{Receipt, Popped, popped}
use Rattle.network_model.proofs.Packets.{items_in-append}
use Rattle.network_model.proofs.Receipts.{popped-append}
use Rattle.element_works.specs.Works.{SplitterAt}
use Rattle.element_tests.specs.Driving.{IsRouted, Splits}

unclosed_more : (xs : List Item) (x : Item) → any_closes xs ≡ false → closes x ≡ false → any_closes (xs ++ x ∷ []) ≡ false
unclosed_more [] x h e = ap (λ b. cond b true false) e
unclosed_more (y ∷ xs) x h e = go (closes y) h (λ open_. unclosed_more xs x open_ e)
  where
    go : (b : Bool) → cond b true (any_closes xs) ≡ false → (any_closes xs ≡ false → any_closes (xs ++ x ∷ []) ≡ false) → cond b true (any_closes (xs ++ x ∷ [])) ≡ false
    go true h rest = absurd (let clash : true ≡ false = h in cc)
    go false h rest = rest h

-- by turns any item may come
pub may_route : (routing : Routing) (x : Item) → IsRouted routing → IsRoutable (Key (0 ∷ [])) x → IsRoutable routing x
may_route routing x (inl turns) h = subst (λ r. IsRoutable r x) (sym turns) (any_item x)
  where
    any_item : (x : Item) → IsRoutable Turns x
    any_item (I.Tuple values) = tt
    any_item I.Window = tt
    any_item I.Final = tt
    any_item (I.Bad fault) = tt
may_route routing x (inr key) h = subst (λ r. IsRoutable r x) (sym key) h

pub still_open : (last closed : Bool) → IsTrue (not last) → last ≡ closed → closed ≡ false
still_open true closed more e = absurd (cc)
still_open false closed more e = sym e

pub one_split : (width sent : ℕ) (x : Item) (s s2 : Splitting) → Splits width sent s → closes x ≡ false
    → ((region : RegionPart) (receipts : List Receipt) → SplitterAt region receipts s → any_closes (items_in (popped 0 receipts)) ≡ false → SplitterAt region (receipts ++ Popped 0 (P.Item 0 x) ∷ []) s2)
    → Splits width (sent + 1) s2
one_split width sent x s s2 on open_ more =
    let items : items_in (popped 0 (on.receipts ++ Popped 0 (P.Item 0 x) ∷ [])) ≡ items_in (popped 0 on.receipts) ++ x ∷ [] =
    ap items_in (popped-append 0 on.receipts (Popped 0 (P.Item 0 x) ∷ [])) ∙ items_in-append (popped 0 on.receipts) (P.Item 0 x ∷ []) in
    record {
      region = on.region;
      receipts = on.receipts ++ Popped 0 (P.Item 0 x) ∷ [];
      at = more on.region on.receipts on.at on.unclosed;
      unclosed = ap any_closes items ∙ unclosed_more (items_in (popped 0 on.receipts)) x on.unclosed open_;
      routed = on.routed;
      same_width = on.same_width;
      same_sent = ap length items ∙ length-append (items_in (popped 0 on.receipts)) (x ∷ []) ∙ ap (λ n. n + 1) on.same_sent;
    }

pub first_split : (routing : Routing) (width : ℕ) → IsRouted routing → Splits width 0 (new_splitting width routing true)
first_split routing width routed = record {
  region = record { entry = 0; exit = 0; ops = []; routing = routing; rule = ByPulses; width = width };
  receipts = [];
  at = record { same_routing = refl; same_width = refl; same_pulses = refl; count = refl; earlier = (let l : 0 ≤ 0 = omega arith in l) };
  unclosed = refl;
  routed = routed;
  same_width = refl;
  same_sent = refl;
}
