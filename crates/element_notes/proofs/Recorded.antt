-- One entry more of a record.
use Rattle.std.proofs.Common.{ℕ, not, Bool, true, false, cond, List, [], ◌∷◌, ◌++◌, ◌≡◌, refl, sym, ap, ◌∙◌, append-nil}
use Rattle.std.proofs.lemmas.Bool.{cond-true, cond-false}
use Rattle.stream_model.specs.Inputs.{inputs_of}
use Rattle.stream_model.specs.Operators.{Operator}
use Rattle.stream_model.specs.Records.{up_to_end}
use Rattle.stream_model.specs.Stages.{Stage, start, next, stage_after}
use Rattle.stream_model.specs.Stream.{Event}
use Rattle.stream_model.proofs.StageLaws.{after-over}
use Rattle.network_model.specs.Networks.{FromLinks}
use Rattle.network_model.specs.Owed.{entries_of}
use Rattle.network_model.specs.Receipts.{Receipt, item_events}
use Rattle.network_model.proofs.Receipts.{item_events-append}

-- an event more stands in the record where the operator hadn't ended
to_end-more : (s : Stage) (events : List Event) (e : Event) → s.over ≡ false
    → inputs_of (up_to_end s (events ++ e ∷ [])) ≡ cond (stage_after s events).over (inputs_of (up_to_end s events)) (inputs_of (up_to_end s events) ++ e.input ∷ [])
to_end-more s [] e q = ap (λ es. e.input ∷ inputs_of es) (either (next s e).over) ∙ sym (cond-false s.over [] (e.input ∷ []) q)
  where
    either : (b : Bool) → cond {A = List Event} b [] [] ≡ []
    either true = refl
    either false = refl
to_end-more s (d ∷ events) e q = go (next s d).over refl (to_end-more (next s d) events e)
  where
    go : (b : Bool) → (next s d).over ≡ b
        → ((next s d).over ≡ false → inputs_of (up_to_end (next s d) (events ++ e ∷ []))
        ≡ cond (stage_after (next s d) events).over (inputs_of (up_to_end (next s d) events)) (inputs_of (up_to_end (next s d) events) ++ e.input ∷ []))
        → d.input ∷ inputs_of (cond b [] (up_to_end (next s d) (events ++ e ∷ [])))
        ≡ cond (stage_after (next s d) events).over (d.input ∷ inputs_of (cond b [] (up_to_end (next s d) events))) ((d.input ∷ inputs_of (cond b [] (up_to_end (next s d) events))) ++ e.input ∷ [])
    go true r later =
        sym (cond-true (stage_after (next s d) events).over (d.input ∷ []) (d.input ∷ e.input ∷ []) (ap (λ (t : Stage). t.over) (after-over (next s d) events r) ∙ r))
    go false r later = ap (λ is. d.input ∷ is) (later r) ∙ outside (stage_after (next s d) events).over
      where
        outside : (c : Bool) → d.input ∷ cond c (inputs_of (up_to_end (next s d) events)) (inputs_of (up_to_end (next s d) events) ++ e.input ∷ [])
            ≡ cond c (d.input ∷ inputs_of (up_to_end (next s d) events)) ((d.input ∷ inputs_of (up_to_end (next s d) events)) ++ e.input ∷ [])
        outside true = refl
        outside false = refl

-- so does an item that is popped, and no other packet
pub entries-item : (op : Operator) (ops : List Operator) (outs : List ℕ) (T : List Receipt) (i : ℕ) (e : Event) (r : Receipt) → item_events (r ∷ []) ≡ e ∷ []
    → entries_of (FromLinks op ops outs) (T ++ r ∷ [])
    ≡ cond (not (stage_after (start op) (item_events T)).over) (entries_of (FromLinks op ops outs) T ++ e.input ∷ []) (entries_of (FromLinks op ops outs) T)
entries-item op ops outs T i e r one =
    ap (λ es. inputs_of (up_to_end (start op) es)) (item_events-append T (r ∷ []) ∙ ap (λ es. item_events T ++ es) one)
    ∙ to_end-more (start op) (item_events T) e refl ∙ turned (stage_after (start op) (item_events T)).over
  where
    turned : (c : Bool) → cond c (entries_of (FromLinks op ops outs) T) (entries_of (FromLinks op ops outs) T ++ e.input ∷ [])
        ≡ cond (not c) (entries_of (FromLinks op ops outs) T ++ e.input ∷ []) (entries_of (FromLinks op ops outs) T)
    turned true = refl
    turned false = refl

pub entries-other : (op : Operator) (ops : List Operator) (outs : List ℕ) (T : List Receipt) (r : Receipt) → item_events (r ∷ []) ≡ []
    → entries_of (FromLinks op ops outs) (T ++ r ∷ []) ≡ entries_of (FromLinks op ops outs) T
entries-other op ops outs T r none =
    ap (λ es. inputs_of (up_to_end (start op) es)) (item_events-append T (r ∷ []) ∙ ap (λ es. item_events T ++ es) none ∙ append-nil (item_events T))
