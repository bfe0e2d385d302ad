-- A merger takes a packet and gives item by item.
use Rattle.std.proofs.Common.{ℕ, zero, suc, ◌+◌, ◌<◌, ◌==◌, Bool, true, false, cond, List, [], ◌∷◌, ◌++◌, ◌≡◌, inl, inr, map, drop, length, refl, sym, ap, ◌∙◌, subst, append-nil, append_assoc, is_some, Option, Some, None, slice_get, arith}
use Rattle.std.specs.Prelude.{slice_set}
use Rattle.std.specs.Option.{unwrap_or}
use Rattle.std.proofs.lemmas.List.{map-append, drop_at}
use Rattle.std.proofs.lemmas.List.Concat.{flat_map-append}
use Rattle.std.proofs.lemmas.Bool.{cases_eq, eq-eqb, ne_eqb}
use Rattle.spl_value.specs.declared.item.Item.{Item}
use Rattle.spl_value.specs.declared.packet.Packet.{Packet}
use Rattle.spl_value.specs.declared.packet.Packet.TheVariants as P
use Rattle.spl_value.specs.Numbered.{Rule, InOrder, closes, is_cut, merged, with_packet}
use Rattle.stream_model.specs.Bodies.{output}
use Rattle.stream_model.specs.Fans.{fans_out, ports_of_fans}
use Rattle.channel_heads.specs.Held.{Held, head_at, no_heads, takes, gives_head}
use Rattle.channel_heads.proofs.Fronts.{order_law}
use Rattle.network_model.specs.Networks.{RegionPart, Merger}
use Rattle.network_model.specs.Receipts.{Receipt, Popped, popped}
use Rattle.network_model.specs.Adds.{adds, merged_for}
use Rattle.network_model.specs.Owed.{send_all}
use Rattle.network_model.proofs.Receipts.{popped-append}
use Rattle.operator_chains.specs.declared.how.How.{How}
use Rattle.operator_chains.specs.Hows.{how_behind, stream_how}
use Rattle.operator_chains.proofs.Ending.{stream_how-more}
use Rattle.element_outboxes.specs.declared.fan.Fan.{Fan}
use Rattle.element_outboxes.specs.declared.outbox.Outbox.{Outbox}
use Rattle.element_outboxes.specs.Waiting.{all_out, fans_from, waits}
use Rattle.merger_works.specs.Merging.{MergerAt}
use Rattle.merger_works.proofs.Sending.{all-sent}

-- ---- fewer heads

-- how many heads there are
abbrev pub heads_in : List (Option (ℕ × Item)) → ℕ
heads_in [] = 0
heads_in (h ∷ heads) = cond (is_some h) 1 0 + heads_in heads

none_left : (heads : List (Option (ℕ × Item))) → heads_in (no_heads heads) ≡ 0
none_left [] = refl
none_left (h ∷ heads) = ap (λ n. 0 + n) (none_left heads)

one_less : (heads : List (Option (ℕ × Item))) (c : ℕ) (p : ℕ × Item) → unwrap_or (slice_get heads c) None ≡ Some p → heads_in (slice_set heads c None) + 1 ≡ heads_in heads
one_less [] c p e = cc
one_less (h ∷ heads) zero p e =
    let one : cond {A = ℕ} (is_some h) 1 0 ≡ 1 = ap (λ x. cond {A = ℕ} (is_some x) 1 0) e in omega (arith, one)
one_less (h ∷ heads) (suc c) p e = let r : heads_in (slice_set heads c None) + 1 ≡ heads_in heads = one_less heads c p e in omega arith

pub fewer : (c n : ℕ) (x : Item) (h : Held) → head_at h c ≡ Some (n, x) → heads_in (gives_head c x h).heads < heads_in h.heads
fewer c n x h e = go (closes x)
  where
    go : (b : Bool) → heads_in (cond b (no_heads (slice_set h.heads c None)) (slice_set h.heads c None)) < heads_in h.heads
    go true = let r : heads_in (slice_set h.heads c None) + 1 ≡ heads_in h.heads = one_less h.heads c (n, x) e in let z : heads_in (no_heads (slice_set h.heads c None)) ≡ 0 = none_left (slice_set h.heads c None) in omega arith
    go false = let r : heads_in (slice_set h.heads c None) + 1 ≡ heads_in h.heads = one_less h.heads c (n, x) e in omega arith

-- ---- what is popped

same_test : (a b : ℕ) → (a == b) ≡ (b == a)
same_test a b = elim (cases_eq a b) [ inl e ↦ eq-eqb a b e ∙ sym (eq-eqb b a (sym e)) | inr n ↦ ne_eqb a b n ∙ sym (ne_eqb b a (λ e. n (sym e))) ]

-- a packet more is popped on its channel
with_popped : (receipts : List Receipt) (channel : ℕ) (p : Packet) → with_packet (λ c. popped c receipts) channel p ≡ (λ c. popped c (receipts ++ Popped channel p ∷ []))
with_popped receipts channel p = λ i c. each c i
  where
    go : (b : Bool) (packets : List Packet) → cond b (packets ++ p ∷ []) packets ≡ packets ++ cond b (p ∷ []) []
    go true packets = refl
    go false packets = sym (append-nil packets)

    each : (c : ℕ) → with_packet (λ c. popped c receipts) channel p c ≡ popped c (receipts ++ Popped channel p ∷ [])
    each c =
        ap (λ b. cond b (popped c receipts ++ p ∷ []) (popped c receipts)) (same_test c channel)
        ∙ go (channel == c) (popped c receipts)
        ∙ sym (popped-append c receipts (Popped channel p ∷ []))

-- the packets before it are in order too
order_before : (rule : Rule) (width : ℕ) (receipts : List Receipt) (receipt : Receipt) → InOrder rule width (λ c. popped c (receipts ++ receipt ∷ [])) → InOrder rule width (λ c. popped c receipts)
order_before rule width receipts receipt order =
    order_law rule width (λ c. popped c receipts) (λ c. popped c (receipts ++ receipt ∷ [])) order (λ c l. (popped c (receipt ∷ []), sym (popped-append c receipts (receipt ∷ []))))

-- ---- what is given

-- while it gives: these items besides those that it had given
pub record IsGiving {M : Type 0} (held : M → Held) (stands : ℕ → M → (ℕ → List Packet) → List Item → Type 0) (width : ℕ) (counts : List ℕ) (taken : ℕ → List Packet) (given : List Item) (m : M) (before now : Outbox) (stood_so stands_so : How) : Type 0 where
  pub more : List Item
  pub stood : stands width m taken (given ++ more)
  pub uncut : (held m).cut ≡ false
  pub sends : waits now ≡ waits before ++ all_out counts (map (output 0) more)
  pub how : stood_so ≡ stream_how given → stands_so ≡ stream_how (given ++ more)

-- whatever it had taken before the packet
abbrev pub Giving : {M : Type 0} → (M → Held) → (ℕ → M → (ℕ → List Packet) → List Item → Type 0) → Rule → M → List Fan → ℕ → Packet → M → Outbox → Outbox → How → How → Type 0
Giving held stands rule old fans channel packet m before now h j =
    (width : ℕ) (counts : List ℕ) (receipts : List Receipt) (at : MergerAt held stands rule width counts receipts old fans)
    → IsGiving held stands width counts (with_packet (λ c. popped c receipts) channel packet) at.given m before now h j

uncut_takes : (c : ℕ) (p : Packet) (h : Held) → is_cut p ≡ false → (takes c p h).cut ≡ h.cut
uncut_takes c (P.Item n x) h e = refl
uncut_takes c (P.Pulse n) h e = refl
uncut_takes c P.Close h e = refl
uncut_takes c P.Cut h e = let clash : true ≡ false = e in cc

module _ {M : Type 0} (held : M → Held) (stands : ℕ → M → (ℕ → List Packet) → List Item → Type 0) (rule : Rule) where
  pub first_giving : (old new : M) (fans : List Fan) (channel : ℕ) (p : Packet) (before : Outbox) (h : How) → is_cut p ≡ false → held new ≡ takes channel p (held old)
      → ((width : ℕ) (taken : ℕ → List Packet) (given : List Item) → stands width old taken given → stands width new (with_packet taken channel p) given)
      → Giving held stands rule old fans channel p new before before h h
  first_giving old new fans channel p before h uncut is took width counts receipts at = record {
    more = [];
    stood = subst (λ given. stands width new (with_packet (λ c. popped c receipts) channel p) given) (sym (append-nil at.given)) (took width (λ c. popped c receipts) at.given at.stood);
    uncut = ap (λ (h : Held). h.cut) is ∙ uncut_takes channel p (held old) uncut ∙ at.uncut;
    sends = sym (append-nil (waits before));
    how = λ q. q ∙ ap stream_how (sym (append-nil at.given));
  }

  pub giving_more : (old : M) (fans : List Fan) (channel : ℕ) (p : Packet) (m n : M) (before now after : Outbox) (x : Item) (h j : How) → Giving held stands rule old fans channel p m before now h j
      → ((width : ℕ) (taken : ℕ → List Packet) (given : List Item) → stands width m taken given → stands width n taken (given ++ x ∷ []))
      → (held n).cut ≡ (held m).cut
      → ((counts : List ℕ) → fans ≡ fans_from 0 counts → waits after ≡ waits now ++ fans_out counts (output 0 x))
      → Giving held stands rule old fans channel p n before after h (how_behind j x)
  giving_more old fans channel p m n before now after x h j g gave cut sent width counts receipts at =
      let is = g width counts receipts at in
      let taken = with_packet (λ c. popped c receipts) channel p in
      record {
        more = is.more ++ x ∷ [];
        stood = subst (λ given. stands width n taken given) (append_assoc at.given is.more (x ∷ [])) (gave width taken (at.given ++ is.more) is.stood);
        uncut = cut ∙ is.uncut;
        sends = sent counts at.fans_are ∙ ap (λ z. z ++ fans_out counts (output 0 x)) is.sends ∙ append_assoc (waits before) (all_out counts (map (output 0) is.more)) (fans_out counts (output 0 x))
            ∙ ap (λ z. waits before ++ z) (ap (λ z. all_out counts (map (output 0) is.more) ++ z) (sym (append-nil (fans_out counts (output 0 x))))
            ∙ sym (flat_map-append (fans_out counts) (map (output 0) is.more) (output 0 x ∷ [])) ∙ ap (all_out counts) (sym (map-append (output 0) is.more (x ∷ []))));
        how = λ q. ap (λ k. how_behind k x) (is.how q) ∙ sym (stream_how-more (at.given ++ is.more) x) ∙ ap stream_how (append_assoc at.given is.more (x ∷ []));
      }

  -- it has given all that is merged then
  pub has_given : (old m n : M) (fans : List Fan) (channel : ℕ) (p : Packet) (before now : Outbox) (h j : How) → Giving held stands rule old fans channel p m before now h j
      → ((width : ℕ) (taken : ℕ → List Packet) (given : List Item) → stands width m taken given → InOrder rule width taken → (held m).cut ≡ false → given ≡ merged rule width taken)
      → n ≡ m
      → (region : RegionPart) (counts : List ℕ) (receipts : List Receipt) → region.rule ≡ rule → MergerAt held stands rule region.width counts receipts old fans
      → InOrder region.rule region.width (λ c. popped c (receipts ++ Popped channel p ∷ []))
      → MergerAt held stands rule region.width counts (receipts ++ Popped channel p ∷ []) n fans × (waits now ≡ waits before ++ adds (Merger region (ports_of_fans counts)) receipts (Popped channel p))
      × (h ≡ stream_how (merged_for region receipts) → j ≡ stream_how (merged_for region (receipts ++ Popped channel p ∷ [])))
  has_given old m n fans channel p before now h j g whole still region counts receipts same_rule at in_order =
      let width = region.width in
      let is = g width counts receipts at in
      let taken : ℕ → List Packet = λ c. popped c (receipts ++ Popped channel p ∷ []) in
      let order : InOrder rule width taken = subst (λ r. InOrder r width taken) same_rule in_order in
      let stood : stands width m taken (at.given ++ is.more) = subst (λ taken. stands width m taken (at.given ++ is.more)) (with_popped receipts channel p) is.stood in
      let all : at.given ++ is.more ≡ merged rule width taken = whole width taken (at.given ++ is.more) stood order is.uncut in
      let first : at.given ≡ merged rule width (λ c. popped c receipts) = at.all (order_before rule width receipts (Popped channel p) order) in
      let rest : drop (length (merged rule width (λ c. popped c receipts))) (merged rule width taken) ≡ is.more =
      ap (λ xs. drop (length xs) (merged rule width taken)) (sym first) ∙ ap (drop (length at.given)) (sym all) ∙ drop_at at.given is.more (length at.given) refl in
      let rest_too : drop (length (merged region.rule width (λ c. popped c receipts))) (merged region.rule width taken) ≡ is.more =
      ap (λ r. drop (length (merged r width (λ c. popped c receipts))) (merged r width taken)) same_rule ∙ rest in (
        record {
          given = at.given ++ is.more;
          stood = subst (λ m. stands width m taken (at.given ++ is.more)) (sym still) stood;
          uncut = ap (λ m. (held m).cut) still ∙ is.uncut;
          all = λ o. all;
          fans_are = at.fans_are;
          few = at.few;
        },
        is.sends ∙ ap (λ z. waits before ++ z) (sym (all-sent counts (map (output 0) is.more)) ∙ ap (λ xs. send_all (ports_of_fans counts) (map (output 0) xs)) (sym rest_too)),
        λ q. is.how (q ∙ ap (λ r. stream_how (merged r width (λ c. popped c receipts))) same_rule ∙ ap stream_how (sym first))
            ∙ ap stream_how all ∙ ap (λ r. stream_how (merged r width taken)) (sym same_rule),
      )
