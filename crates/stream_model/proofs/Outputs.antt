-- The packets for one output.
use Rattle.std.specs.Prelude.{ℕ, zero, suc, ◌<◌, ◌≤◌, ◌==◌, ◌⊎◌, Bool, true, false, cond, List, [], ◌∷◌, ◌++◌, ◌≡◌}
use Rattle.std.proofs.Common.{refl, ap, ◌∙◌, append-nil, inl, inr, arith}
use Rattle.std.proofs.lemmas.Bool.{cases_eq, cond-true, cond-false, eq-eqb, ne_eqb}
use Rattle.spl_value.specs.declared.packet.Packet.{Packet}
use Rattle.stream_model.specs.declared.outgoing.Outgoing.{Outgoing}
use Rattle.stream_model.specs.Sending.{on_output, outgoing, to_each}

pub on_output-append : (o : ℕ) (first second : List Outgoing) → on_output o (first ++ second) ≡ on_output o first ++ on_output o second
on_output-append o [] second = refl
on_output-append o (sent ∷ first) second = go (sent.output == o) (on_output-append o first second) where
  go : (b : Bool) → on_output o (first ++ second) ≡ on_output o first ++ on_output o second
      → cond b (sent.packet ∷ on_output o (first ++ second)) (on_output o (first ++ second)) ≡ cond b (sent.packet ∷ on_output o first) (on_output o first) ++ on_output o second
  go true e = ap (λ packets. sent.packet ∷ packets) e
  go false e = e

each-past : (o width : ℕ) (packet : Packet) → width ≤ o → on_output o (to_each width packet) ≡ []
each-past o zero packet le = refl
each-past o (suc width) packet le =
    on_output-append o (to_each width packet) (outgoing width packet ∷ [])
    ∙ ap (λ packets. packets ++ on_output o (outgoing width packet ∷ [])) (each-past o width packet (omega arith))
    ∙ cond-false (width == o) (packet ∷ []) [] (ne_eqb width o (λ (e : width ≡ o). omega arith))

-- a packet for each output below the width is one for each of them
pub on_output-each : (o width : ℕ) (packet : Packet) → o < width → on_output o (to_each width packet) ≡ packet ∷ []
on_output-each o zero packet lt = absurd (omega arith)
on_output-each o (suc width) packet lt =
    on_output-append o (to_each width packet) (outgoing width packet ∷ []) ∙ go (cases_eq width o) (on_output-each o width packet)
  where
    go : (width ≡ o) ⊎ (width ≡ o → ⊥) → (o < width → on_output o (to_each width packet) ≡ packet ∷ [])
        → on_output o (to_each width packet) ++ on_output o (outgoing width packet ∷ []) ≡ packet ∷ []
    go (inl e) below =
        ap (λ packets. packets ++ on_output o (outgoing width packet ∷ [])) (each-past o width packet (omega arith))
        ∙ cond-true (width == o) (packet ∷ []) [] (eq-eqb width o e)
    go (inr other) below =
        ap (λ packets. on_output o (to_each width packet) ++ packets) (cond-false (width == o) (packet ∷ []) [] (ne_eqb width o other))
        ∙ append-nil (on_output o (to_each width packet)) ∙ below (omega arith)
