-- What a chain sends on each of its outputs.
use Rattle.std.proofs.Common.{ℕ, zero, suc, ◌+◌, ◌<◌, ◌==◌, Bool, true, false, cond, List, [], ◌∷◌, ◌++◌, ◌≡◌, refl, sym, ap, ◌∙◌, arith, Option, Some, None}
use Rattle.std.specs.Prelude.{slice_get}
use Rattle.std.proofs.lemmas.Bool.{cond-true, cond-false, eq-eqb, ne_eqb}
use Rattle.std.proofs.lemmas.Grind.{flat_map-append}
use Rattle.spl_value.specs.declared.packet.Packet.{Packet}
use Rattle.spl_value.specs.declared.packet.Packet.TheVariants as P
use Rattle.language_model.specs.declared.outs.Output.{Output}
use Rattle.stream_model.specs.Stream.{IsPrefix}
use Rattle.spl_value.specs.Numbered.{closes}
use Rattle.stream_model.specs.Stages.{on_port}
use Rattle.stream_model.specs.Sending.{outgoing, on_output}
use Rattle.network_model.specs.Packets.{packets_of}
use Rattle.network_model.specs.Owed.{to_port, sends, send_all}
use Rattle.stream_model.proofs.Outputs.{on_output-append}

-- an output of this port, where there is one
abbrev is_of : Option ℕ → ℕ → Bool
is_of None p = false
is_of (Some q) p = p == q

-- outputs before the first one get nothing
to_port-before : (outs : List ℕ) (o j p : ℕ) (packet : Packet) → j < o → on_output j (to_port o outs p packet) ≡ []
to_port-before [] o j p packet lt = refl
to_port-before (q ∷ outs) o j p packet lt = go (p == q) (to_port-before outs (suc o) j p packet (omega (arith, lt)))
  where
    go : (b : Bool) → on_output j (to_port (suc o) outs p packet) ≡ [] → on_output j (cond b (outgoing o packet ∷ to_port (suc o) outs p packet) (to_port (suc o) outs p packet)) ≡ []
    go true rest = cond-false (o == j) (packet ∷ on_output j (to_port (suc o) outs p packet)) (on_output j (to_port (suc o) outs p packet)) (ne_eqb o j (λ (e : o ≡ j). omega (arith, e, lt))) ∙ rest
    go false rest = rest

on_output-to_port : (outs : List ℕ) (o k j p : ℕ) (packet : Packet) → j ≡ o + k → on_output j (to_port o outs p packet) ≡ cond (is_of (slice_get outs k) p) (packet ∷ []) []
on_output-to_port [] o k j p packet e = refl
on_output-to_port (q ∷ outs) o zero j p packet e = go (p == q) (to_port-before outs (suc o) j p packet (omega (arith, e)))
  where
    go : (b : Bool) → on_output j (to_port (suc o) outs p packet) ≡ []
        → on_output j (cond b (outgoing o packet ∷ to_port (suc o) outs p packet) (to_port (suc o) outs p packet)) ≡ cond b (packet ∷ []) []
    go true rest =
        cond-true (o == j) (packet ∷ on_output j (to_port (suc o) outs p packet)) (on_output j (to_port (suc o) outs p packet)) (eq-eqb o j (let f : o ≡ j = omega (arith, e) in f))
        ∙ ap (λ z. packet ∷ z) rest
    go false rest = rest
on_output-to_port (q ∷ outs) o (suc k) j p packet e = go (p == q) (on_output-to_port outs (suc o) k j p packet (omega (arith, e)))
  where
    go : (b : Bool) → on_output j (to_port (suc o) outs p packet) ≡ cond (is_of (slice_get outs k) p) (packet ∷ []) []
        → on_output j (cond b (outgoing o packet ∷ to_port (suc o) outs p packet) (to_port (suc o) outs p packet)) ≡ cond (is_of (slice_get outs k) p) (packet ∷ []) []
    go true rest = cond-false (o == j) (packet ∷ on_output j (to_port (suc o) outs p packet)) (on_output j (to_port (suc o) outs p packet)) (ne_eqb o j (λ (f : o ≡ j). omega (arith, e, f))) ∙ rest
    go false rest = rest

-- an output that carries no port gets nothing, one that carries a port its packets
on_output-sends : (outs : List ℕ) (o : ℕ) (g : Output)
    → on_output o (sends outs g) ≡ cond (is_of (slice_get outs o) g.port) (P.Item 0 g.item ∷ cond (closes g.item) (P.Close ∷ []) []) []
on_output-sends outs o g =
    on_output-append o (to_port 0 outs g.port (P.Item 0 g.item)) (cond (closes g.item) (to_port 0 outs g.port P.Close) [])
    ∙ ap (λ z. z ++ on_output o (cond (closes g.item) (to_port 0 outs g.port P.Close) [])) (on_output-to_port outs 0 o o g.port (P.Item 0 g.item) (omega arith))
    ∙ go (closes g.item)
  where
    both : (b : Bool) → cond b (P.Item 0 g.item ∷ []) [] ++ cond b (P.Close ∷ []) [] ≡ cond b (P.Item 0 g.item ∷ P.Close ∷ []) []
    both true = refl
    both false = refl

    one : (b : Bool) → cond b (P.Item 0 g.item ∷ []) [] ++ [] ≡ cond b (P.Item 0 g.item ∷ []) []
    one true = refl
    one false = refl

    go : (c : Bool) → cond (is_of (slice_get outs o) g.port) (P.Item 0 g.item ∷ []) [] ++ on_output o (cond c (to_port 0 outs g.port P.Close) [])
        ≡ cond (is_of (slice_get outs o) g.port) (P.Item 0 g.item ∷ cond c (P.Close ∷ []) []) []
    go true =
        ap (λ z. cond (is_of (slice_get outs o) g.port) (P.Item 0 g.item ∷ []) [] ++ z) (on_output-to_port outs 0 o o g.port P.Close (omega arith))
        ∙ both (is_of (slice_get outs o) g.port)
    go false = one (is_of (slice_get outs o) g.port)

-- an output carries the stream of its port
pub on_output-send_all : (outs : List ℕ) (o p : ℕ) (given : List Output) → slice_get outs o ≡ Some p → on_output o (send_all outs given) ≡ packets_of (on_port p given)
on_output-send_all outs o p [] at = refl
on_output-send_all outs o p (g ∷ given) at =
    on_output-append o (sends outs g) (send_all outs given)
    ∙ ap (λ z. z ++ on_output o (send_all outs given)) (on_output-sends outs o g ∙ ap (λ found. cond (is_of found g.port) (P.Item 0 g.item ∷ cond (closes g.item) (P.Close ∷ []) []) []) at)
    ∙ ap (λ z. cond (g.port == p) (P.Item 0 g.item ∷ cond (closes g.item) (P.Close ∷ []) []) [] ++ z) (on_output-send_all outs o p given at)
    ∙ go (g.port == p) (closes g.item) refl
  where
    go : (b c : Bool) → closes g.item ≡ c → cond b (P.Item 0 g.item ∷ cond c (P.Close ∷ []) []) [] ++ packets_of (on_port p given) ≡ packets_of (cond b (g.item ∷ on_port p given) (on_port p given))
    go true true q = ap (λ d. P.Item 0 g.item ∷ cond d (P.Close ∷ packets_of (on_port p given)) (packets_of (on_port p given))) (sym q)
    go true false q = ap (λ d. P.Item 0 g.item ∷ cond d (P.Close ∷ packets_of (on_port p given)) (packets_of (on_port p given))) (sym q)
    go false c q = refl

pub on_output-no_output : (outs : List ℕ) (o : ℕ) (given : List Output) → slice_get outs o ≡ None → on_output o (send_all outs given) ≡ []
on_output-no_output outs o [] at = refl
on_output-no_output outs o (g ∷ given) at =
    on_output-append o (sends outs g) (send_all outs given)
    ∙ ap (λ z. z ++ on_output o (send_all outs given)) (on_output-sends outs o g ∙ ap (λ found. cond (is_of found g.port) (P.Item 0 g.item ∷ cond (closes g.item) (P.Close ∷ []) []) []) at)
    ∙ on_output-no_output outs o given at

pub front-send_all : (outs : List ℕ) (a b : List Output) → IsPrefix a b → IsPrefix (send_all outs a) (send_all outs b)
front-send_all outs a b p = (send_all outs p.0, sym (flat_map-append (sends outs) a p.0) ∙ ap (send_all outs) p.1)
