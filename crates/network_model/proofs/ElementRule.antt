-- Each step of an element keeps its rule.
use Rattle.std.proofs.Common.{Bool, true, false, cond, List, [], ◌∷◌, ◌++◌, ◌≡◌, refl, sym, ap, ◌∙◌, append_assoc, drop}
use Rattle.stream_model.specs.declared.outgoing.Outgoing.{Outgoing}
use Rattle.network_model.specs.Networks.{Part, FromSource, FromLinks, Splitter, Replica, Merger, outputs}
use Rattle.network_model.specs.Receipts.{Receipt}
use Rattle.network_model.specs.Owed.{Binds, taken_of}
use Rattle.network_model.specs.Adds.{adds}
use Rattle.network_model.specs.States.{At, cuts_from, cut_off, drops, keeps, is_cut_receipt, puts}
use Rattle.network_model.specs.PartLaws.{Merges}
use Rattle.network_model.specs.ElementRule.{BeginsLaw, CutsLaw, KeepsRule, PutsLaw, TakesLaw}
use Rattle.network_model.proofs.Adds.{adds_law, nothing_law}
use Rattle.network_model.proofs.Receipts.{taken-less}
use Rattle.network_model.proofs.RegionParts.{merger-part}

-- ---- mergers

pub binds-merges : (part : Part) (T : List Receipt) → Binds part (taken_of part T) → Merges part T
binds-merges (FromSource source ops outs) T b = tt
binds-merges (FromLinks op ops outs) T b = tt
binds-merges (Splitter region) T b = tt
binds-merges (Replica region channel) T b = tt
binds-merges (Merger region outs) T b = b

-- where the packets of a merger are in order, so are those that it took before
pub merges-before : (part : Part) (T : List Receipt) (r : Receipt) → Merges part (T ++ r ∷ []) → Merges part T
merges-before (FromSource source ops outs) T r m = tt
merges-before (FromLinks op ops outs) T r m = tt
merges-before (Splitter region) T r m = tt
merges-before (Replica region channel) T r m = tt
merges-before (Merger region outs) T r m =
    (merger-part region outs).binds (taken_of (Merger region outs) T) (taken_of (Merger region outs) (T ++ r ∷ [])) (taken-less (Merger region outs) T (r ∷ [])) m

-- ---- steps

pub rule-begins : BeginsLaw
rule-begins part = record { whole = λ c m. sym (nothing_law part); off = λ c. absurd (cc) }

-- what is pushed was owed first
same-puts : (a : At) (s : Outgoing) (rest : List Outgoing) → a.outbox ≡ s ∷ rest → (a.pushed ++ s ∷ []) ++ drop 1 a.outbox ≡ a.pushed ++ a.outbox
same-puts a s rest o = append_assoc a.pushed (s ∷ []) (drop 1 a.outbox) ∙ ap (λ z. a.pushed ++ s ∷ drop 1 z) o ∙ ap (λ z. a.pushed ++ z) (sym o)

pub rule-puts : PutsLaw
rule-puts part a s rest o k = record {
  whole = λ c m. same-puts a s rest o ∙ k.whole c m;
  off = λ c. record { front = (k.off c).front; is_front = (k.off c).is_front; owes = same-puts a s rest o ∙ (k.off c).owes };
}

-- and what is given back is owed again
pub rule-unputs : (part : Part) (a : At) (s : Outgoing) (rest : List Outgoing) → a.outbox ≡ s ∷ rest → KeepsRule part (puts a s) → KeepsRule part a
rule-unputs part a s rest o k = record {
  whole = λ c m. sym (same-puts a s rest o) ∙ k.whole c m;
  off = λ c. record { front = (k.off c).front; is_front = (k.off c).is_front; owes = sym (same-puts a s rest o) ∙ (k.off c).owes };
}

pub rule-drops : (part : Part) (a : At) (taken : Receipt) → KeepsRule part a → KeepsRule part (drops a taken)
rule-drops part a taken k = record {
  whole = k.whole;
  off = λ c. record { front = (k.off c).front; is_front = (k.off c).is_front; owes = (k.off c).owes };
}

pub rule-keeps : (part : Part) (a : At) (taken : Receipt) → a.cut ≡ false → KeepsRule part a → KeepsRule part (keeps part a taken)
rule-keeps part a taken c k = record {
  whole = λ d m. sym (append_assoc a.pushed a.outbox (adds part a.kept taken))
      ∙ ap (λ z. z ++ adds part a.kept taken) (k.whole c (merges-before part a.kept taken m)) ∙ sym (adds_law part a.kept taken m);
  off = λ d. let clash : false ≡ true = sym c ∙ d in absurd (cc);
}

pub rule-cut : (part : Part) (a : At) → a.cut ≡ false → KeepsRule part a
    → KeepsRule part (record { kept = a.kept; dropped = a.dropped; pushed = a.pushed; outbox = cuts_from 0 (outputs part) a.pushed; cut = true })
rule-cut part a c k = record {
  whole = λ d m. absurd (cc);
  off = λ d. record { front = a.pushed; is_front = λ m. (a.outbox, k.whole c m); owes = refl };
}

pub rule-cuts : CutsLaw
rule-cuts part a k = go a.cut refl
  where
    go : (b : Bool) → a.cut ≡ b → KeepsRule part (cond b a (record { kept = a.kept; dropped = a.dropped; pushed = a.pushed; outbox = cuts_from 0 (outputs part) a.pushed; cut = true }))
    go true c = k
    go false c = rule-cut part a c k

pub rule-takes : TakesLaw
rule-takes part a taken k = (go a.cut (is_cut_receipt taken) refl, rule-cuts part (drops a taken) (rule-drops part a taken k))
  where
    go : (b d : Bool) → a.cut ≡ b → KeepsRule part (cond b (drops a taken) (cond d (cut_off part (drops a taken)) (keeps part a taken)))
    go true d c = rule-drops part a taken k
    go false true c = rule-cuts part (drops a taken) (rule-drops part a taken k)
    go false false c = rule-keeps part a taken c k
