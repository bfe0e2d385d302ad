-- Outputs by their ports, and by the number of connections of each port.
use Prim.Native.Nat.{zero, suc}
use Rattle.std.proofs.Common.{ℕ, ◌+◌, ◌<◌, ◌≤◌, ◌==◌, Bool, true, false, cond, List, [], ◌∷◌, ◌++◌, ◌≡◌, map, refl, sym, ap, ◌∙◌, arith}
use Rattle.std.specs.Prelude.{replicate}
use Rattle.std.proofs.lemmas.Bool.{cond-true, cond-false, eq-eqb, ne_eqb}
use Rattle.spl_value.specs.declared.packet.Packet.{Packet}
use Rattle.spl_value.specs.declared.packet.Packet.TheVariants as P
use Rattle.language_model.specs.Numbering.{numbers_from}
use Rattle.spl_value.specs.Numbered.{closes}
use Rattle.stream_model.specs.Sending.{outgoing}
use Rattle.network_model.specs.Owed.{to_port}
use Rattle.stream_model.specs.Fans.{fan_ports_from, ports_of_fans, outputs_from, outputs_of_port, on_outputs}
use Rattle.network_model.specs.PartLaws.{FansLaw}

-- outputs of another port are passed over
passed-over : (o n q p : ℕ) (outs : List ℕ) (packet : Packet) → (p ≡ q → ⊥) → to_port o (replicate n q ++ outs) p packet ≡ to_port (o + n) outs p packet
passed-over o zero q p outs packet ne = ap (λ k. to_port k outs p packet) (let e : o ≡ o + 0 = omega arith in e)
passed-over o (suc n) q p outs packet ne =
    cond-false (p == q) (outgoing o packet ∷ to_port (suc o) (replicate n q ++ outs) p packet) (to_port (suc o) (replicate n q ++ outs) p packet) (ne_eqb p q ne)
    ∙ passed-over (suc o) n q p outs packet ne
    ∙ ap (λ k. to_port k outs p packet) (let e : suc o + n ≡ o + suc n = omega arith in e)

-- those of its own port are taken
taken-all : (o n q p : ℕ) (outs : List ℕ) (packet : Packet) → p ≡ q → to_port o (replicate n q ++ outs) p packet ≡ on_outputs (numbers_from o n) packet ++ to_port (o + n) outs p packet
taken-all o zero q p outs packet is = ap (λ k. to_port k outs p packet) (let e : o ≡ o + 0 = omega arith in e)
taken-all o (suc n) q p outs packet is =
    cond-true (p == q) (outgoing o packet ∷ to_port (suc o) (replicate n q ++ outs) p packet) (to_port (suc o) (replicate n q ++ outs) p packet) (eq-eqb p q is)
    ∙ ap (λ z. outgoing o packet ∷ z) (taken-all (suc o) n q p outs packet is)
    ∙ ap (λ k. outgoing o packet ∷ (on_outputs (numbers_from (suc o) n) packet ++ to_port k outs p packet)) (let e : suc o + n ≡ o + suc n = omega arith in e)

-- a port before the first one has none
none-before : (o q p : ℕ) (fans : List ℕ) (packet : Packet) → p < q → to_port o (fan_ports_from q fans) p packet ≡ []
none-before o q p [] packet lt = refl
none-before o q p (n ∷ fans) packet lt =
    passed-over o n q p (fan_ports_from (suc q) fans) packet (λ e. absurd (omega (arith, lt, e)))
    ∙ none-before (o + n) (suc q) p fans packet (omega (arith, lt))

append-none : {A : Type 0} (xs ys : List A) → ys ≡ [] → xs ++ ys ≡ xs
append-none xs ys e = ap (λ z. xs ++ z) e ∙ Rattle.std.proofs.Common.append-nil xs

to_port-fans : (o q port : ℕ) (fans : List ℕ) (packet : Packet) → to_port o (fan_ports_from q fans) (q + port) packet ≡ on_outputs (outputs_from o fans port) packet
to_port-fans o q port [] packet = refl
to_port-fans o q zero (n ∷ fans) packet =
    taken-all o n q (q + 0) (fan_ports_from (suc q) fans) packet (omega arith)
    ∙ append-none (on_outputs (numbers_from o n) packet) (to_port (o + n) (fan_ports_from (suc q) fans) (q + 0) packet)
    (none-before (o + n) (suc q) (q + 0) fans packet (omega arith))
to_port-fans o q (suc port) (n ∷ fans) packet =
    passed-over o n q (q + suc port) (fan_ports_from (suc q) fans) packet (λ e. absurd (omega (arith, e)))
    ∙ ap (λ p. to_port (o + n) (fan_ports_from (suc q) fans) p packet) (let e : q + suc port ≡ suc q + port = omega arith in e)
    ∙ to_port-fans (o + n) (suc q) port fans packet

on-fans : (port : ℕ) (fans : List ℕ) (packet : Packet) → to_port 0 (ports_of_fans fans) port packet ≡ on_outputs (outputs_of_port fans port) packet
on-fans port fans packet = ap (λ p. to_port 0 (ports_of_fans fans) p packet) (let e : port ≡ 0 + port = omega arith in e) ∙ to_port-fans 0 0 port fans packet

pub fans_law : FansLaw
fans_law fans given = go (closes given.item)
  where
    go : (b : Bool) → to_port 0 (ports_of_fans fans) given.port (P.Item 0 given.item) ++ cond b (to_port 0 (ports_of_fans fans) given.port P.Close) []
        ≡ on_outputs (outputs_of_port fans given.port) (P.Item 0 given.item) ++ cond b (on_outputs (outputs_of_port fans given.port) P.Close) []
    go true = λ i. on-fans given.port fans (P.Item 0 given.item) i ++ on-fans given.port fans P.Close i
    go false = λ i. on-fans given.port fans (P.Item 0 given.item) i ++ []
