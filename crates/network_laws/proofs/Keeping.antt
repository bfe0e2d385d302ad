-- What every legal list of events keeps of each element by itself.
use Rattle.std.proofs.Common.{ℕ, ◌≤◌, Bool, true, false, cond, List, [], ◌∷◌, ◌++◌, ◌≡◌, refl, sym, ap, ◌∙◌, append_assoc, append-nil}
use Rattle.stream_model.specs.declared.outgoing.Outgoing.{Outgoing}
use Rattle.network_model.specs.Packets.{is_stream}
use Rattle.network_model.specs.Networks.{Part, inputs, outputs}
use Rattle.network_model.specs.Receipts.{Receipt, popped, read_in}
use Rattle.network_model.specs.States.{At, all_taken, new_element, cuts_from, cut_off, drops, keeps, is_cut_receipt, takes, lacks, puts}
use Rattle.network_model.specs.ElementRule.{KeepsRule, TakesInRange}
use Rattle.network_model.proofs.ElementRule.{rule-begins, rule-cuts, rule-puts, rule-takes}
use Rattle.network_model.proofs.Receipts.{popped-append}

-- ---- what an element keeps

pub record KeepsElement (part : Part) (a : At) : Type 0 where
  pub rule : KeepsRule part a
  pub range : TakesInRange part a
  pub streams : is_stream (read_in (all_taken a)) ≡ true

pub keep-new : (part : Part) → KeepsElement part new_element
keep-new part = record {
  rule = rule-begins part;
  range = record { in_range = λ i le. refl; none_dropped = λ c. refl };
  streams = refl;
}

-- what it pushes leaves it so
pub keep-puts : (part : Part) (a : At) (s : Outgoing) (others : List Outgoing) → a.outbox ≡ s ∷ others → KeepsElement part a → KeepsElement part (puts a s)
keep-puts part a s others o k = record {
  rule = rule-puts part a s others o k.rule;
  range = record { in_range = k.range.in_range; none_dropped = k.range.none_dropped };
  streams = k.streams;
}

-- ---- what it takes

-- what may be taken: at an input that it has, or an item behind a stream that is open
pub record IsFair (part : Part) (a : At) (taken : Receipt) : Type 0 where
  pub in_range : (i : ℕ) → inputs part ≤ i → popped i (taken ∷ []) ≡ []
  pub streams : is_stream (read_in (all_taken a ++ taken ∷ [])) ≡ true

-- an element whose lists are those of another, and which has taken something more
pub record TakesMore (a : At) (taken : Receipt) (b : At) : Type 0 where
  pub all : all_taken b ≡ all_taken a ++ taken ∷ []
  pub none : b.cut ≡ false → b.dropped ≡ []

keep-more : (part : Part) (a b : At) (taken : Receipt) → KeepsRule part b → TakesMore a taken b → IsFair part a taken → KeepsElement part a → KeepsElement part b
keep-more part a b taken rule more f k = record {
  rule = rule;
  range = record {
    in_range = λ i le. ap (popped i) more.all ∙ popped-append i (all_taken a) (taken ∷ []) ∙ ap (λ z. z ++ popped i (taken ∷ [])) (k.range.in_range i le) ∙ f.in_range i le;
    none_dropped = more.none;
  };
  streams = ap (λ T. is_stream (read_in T)) more.all ∙ f.streams;
}

taken-append : (a : At) (taken : Receipt) → a.kept ++ (a.dropped ++ taken ∷ []) ≡ all_taken a ++ taken ∷ []
taken-append a taken = sym (append_assoc a.kept a.dropped (taken ∷ []))

kept-all : (a : At) (taken : Receipt) → a.dropped ≡ [] → (a.kept ++ taken ∷ []) ++ a.dropped ≡ all_taken a ++ taken ∷ []
kept-all a taken none =
    ap (λ z. (a.kept ++ taken ∷ []) ++ z) none ∙ append-nil (a.kept ++ taken ∷ [])
    ∙ ap (λ z. z ++ taken ∷ []) (sym (append-nil a.kept)) ∙ ap (λ z. (a.kept ++ z) ++ taken ∷ []) (sym none)

pub keep-cut_off : (part : Part) (a : At) → KeepsElement part a → KeepsElement part (cut_off part a)
keep-cut_off part a k = go a.cut (rule-cuts part a k.rule)
  where
    off : At
    off = record { kept = a.kept; dropped = a.dropped; pushed = a.pushed; outbox = cuts_from 0 (outputs part) a.pushed; cut = true }

    go : (b : Bool) → KeepsRule part (cond b a off) → KeepsElement part (cond b a off)
    go true rule = k
    go false rule = record { rule = rule; range = record { in_range = k.range.in_range; none_dropped = λ c. absurd (cc) }; streams = k.streams }

cuts-more : (part : Part) (a : At) (taken : Receipt) → TakesMore a taken (lacks part a taken)
cuts-more part a taken = go a.cut refl
  where
    go : (b : Bool) → a.cut ≡ b
        → TakesMore a taken (cond b (drops a taken) (record { kept = a.kept; dropped = a.dropped ++ taken ∷ []; pushed = a.pushed; outbox = cuts_from 0 (outputs part) a.pushed; cut = true }))
    go true c = record { all = taken-append a taken; none = λ d. let clash : true ≡ false = sym c ∙ d in absurd (cc) }
    go false c = record { all = taken-append a taken; none = λ d. absurd (cc) }

pub keep-lacks : (part : Part) (a : At) (taken : Receipt) → IsFair part a taken → KeepsElement part a → KeepsElement part (lacks part a taken)
keep-lacks part a taken f k = keep-more part a (lacks part a taken) taken (rule-takes part a taken k.rule).1 (cuts-more part a taken) f k

takes-more : (part : Part) (a : At) (taken : Receipt) → (a.cut ≡ false → a.dropped ≡ []) → TakesMore a taken (takes part a taken)
takes-more part a taken none = go a.cut (is_cut_receipt taken) refl
  where
    go : (b d : Bool) → a.cut ≡ b → TakesMore a taken (cond b (drops a taken) (cond d (cut_off part (drops a taken)) (keeps part a taken)))
    go true d c = record { all = taken-append a taken; none = λ e. let clash : true ≡ false = sym c ∙ e in absurd (cc) }
    go false true c = cuts-more part a taken
    go false false c = record { all = kept-all a taken (none c); none = none }

pub keep-takes : (part : Part) (a : At) (taken : Receipt) → IsFair part a taken → KeepsElement part a → KeepsElement part (takes part a taken)
keep-takes part a taken f k = keep-more part a (takes part a taken) taken (rule-takes part a taken k.rule).0 (takes-more part a taken k.range.none_dropped) f k
