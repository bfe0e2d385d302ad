-- One operator and some events.
use Rattle.std.proofs.Common.{zero, suc, true, false, cond, List, [], ◌∷◌, ◌++◌, ◌≡◌, refl, sym, ap, ◌∙◌, subst, append-nil, append_assoc, is_some, Option, Some, None}
use Rattle.std.proofs.lemmas.Bool.{cond-false}
use Rattle.spl_value.specs.declared.item.Fault.{Fault}
use Rattle.spl_value.specs.declared.item.Item.{Item}
use Rattle.language_model.specs.declared.outs.Output.{Output}
use Rattle.stream_model.specs.Operators.{Operator}
use Rattle.stream_model.specs.React.{react, ended}
use Rattle.stream_model.specs.Replies.{AllFit, MayTake, end_by}
use Rattle.stream_model.specs.Stages.{Stage, gives_all, next, stage_after}
use Rattle.stream_model.specs.Stream.{Event}
use Rattle.stream_model.proofs.StageLaws.{gives_all-over, after-over, gives_all-append, after-append}
use Rattle.operator_chains.specs.declared.how.How.{How}
use Rattle.operator_chains.specs.declared.how.How.TheVariants as H
use Rattle.operator_chains.specs.declared.slot.Slot.{Slot}
use Rattle.stream_model.specs.Chains.{onward}
use Rattle.stream_model.proofs.ChainParts.{onward-append}
use Rattle.operator_chains.specs.steps.Rest.{HasEntered}
use Rattle.operator_chains.specs.Hows.{how_by, how_of}
use Rattle.operator_chains.specs.Standing.{AtStage, Enters, is_over}

pub none_fit : (op : Operator) → AllFit op []
none_fit op i o at = absurd (cc)

pub both_fit : (op : Operator) (xs ys : List Output) → AllFit op xs → AllFit op ys → AllFit op (xs ++ ys)
both_fit op [] ys h k i o at = k i o at
both_fit op (x ∷ xs) ys h k zero o at = h zero o at
both_fit op (x ∷ xs) ys h k (suc i) o at = both_fit op xs ys (λ j p q. h (suc j) p q) k i o at

pub enters_both : (s : Stage) (first second : List Event) → Enters s (first ++ second) → Enters s first × Enters (stage_after s first) second
enters_both s [] second h = (tt, h)
enters_both s (e ∷ first) second h = let rest = enters_both (next s e) first second h.1 in ((h.0, rest.0), rest.1)

-- it ends where there is an item with which it does
pub some_how : (x : Option Item) → cond (is_some x) (how_by x) H.Live ≡ how_by x
some_how None = refl
some_how (Some x) = refl

-- an operator that ends does so with the final marker or a fault
pub ends_over : (fault : Option Fault) → is_over (how_of (end_by fault)) ≡ true
ends_over None = refl
ends_over (Some f) = refl

module _ {R : Type 0} (spec : R → Operator) (stands : R → List Event → Type 0) where
  -- an operator that hasn't ended, and its reply
  pub taken_in : (old : Slot R) (operator : R) (how : How) (s : Stage) (e : Event) (outs : List Output) (x : Option Item)
      → is_over old.how ≡ false → AtStage spec stands old s → spec operator ≡ spec old.operator
      → (MayTake (spec old.operator) s.seen e → stands old.operator s.seen → (outs ≡ react (spec old.operator) s.seen e) × (ended (spec old.operator) s.seen e ≡ x) × stands operator (e ∷ s.seen))
      → is_over how ≡ is_some x → how ≡ how_by x → Enters s (e ∷ [])
      → (outs ≡ gives_all s (e ∷ [])) × AtStage spec stands (record { operator = operator; how = how }) (stage_after s (e ∷ []))
  taken_in old operator how s e outs x open_is at same reply over by en =
      let live : s.over ≡ false = sym at.over ∙ open_is in
      let r = reply (subst (λ (o : Operator). MayTake o s.seen e) (sym at.operator) (en.0 live)) (at.state live) in (
        r.0 ∙ ap (λ (o : Operator). react o s.seen e) at.operator ∙ sym (append-nil (react s.op s.seen e)) ∙ ap (λ outs. outs ++ []) (sym (cond-false s.over [] (react s.op s.seen e) live)),
        subst (λ (t : Stage). AtStage spec stands (record { operator = operator; how = how }) t) (sym (cond-false s.over s (record { op = s.op; seen = e ∷ s.seen; over = is_some (ended s.op s.seen e) }) live))
            (record {
              operator = same ∙ at.operator;
              over = over ∙ ap is_some (sym r.1) ∙ ap (λ (o : Operator). is_some (ended o s.seen e)) at.operator;
              how = by ∙ ap how_by (sym r.1) ∙ ap (λ (o : Operator). how_by (ended o s.seen e)) at.operator ∙ sym (some_how (ended s.op s.seen e));
              state = λ q. r.2;
            }),
      )

  -- one that has ended
  pub dropped : (slot : Slot R) (s : Stage) (events : List Event) → is_over slot.how ≡ true → AtStage spec stands slot s
      → ([] ≡ gives_all s events) × AtStage spec stands slot (stage_after s events)
  dropped slot s events q at =
      let over : s.over ≡ true = sym at.over ∙ q in
      (sym (gives_all-over s events over), subst (λ (t : Stage). AtStage spec stands slot t) (sym (after-over s events over)) at)

  -- the first of the rest
  pub entered_none : (slot : Slot R) (given rest : List Output) → HasEntered spec stands slot given rest [] slot given
  entered_none slot given rest s at en = (sym (append-nil given), at)

  pub entered_ready : (old : Slot R) (before rest taken left : List Output) (o : Output) (new : Slot R) (given : List Output) (s : Stage) → rest ≡ taken ++ o ∷ left → HasEntered spec stands old before rest taken new given
      → AtStage spec stands old s → Enters s (onward rest) → AtStage spec stands new (stage_after s (onward taken)) × Enters (stage_after s (onward taken)) (onward (o ∷ []))
  entered_ready old before rest taken left o new given s split has at en =
      let all : Enters s (onward taken ++ (onward (o ∷ []) ++ onward left)) = subst (Enters s) (ap onward split ∙ onward-append taken (o ∷ left) ∙ ap (λ es. onward taken ++ es) (onward-append (o ∷ []) left)) en in
      ((has s at en).1, (enters_both (stage_after s (onward taken)) (onward (o ∷ [])) (onward left) (enters_both s (onward taken) (onward (o ∷ []) ++ onward left) all).1).0)

  pub entered_more : (old : Slot R) (before rest taken left : List Output) (o : Output) (middle new : Slot R) (given more all : List Output) → rest ≡ taken ++ o ∷ left
      → HasEntered spec stands old before rest taken middle given
      → ((s : Stage) → AtStage spec stands middle s → Enters s (onward (o ∷ [])) → (more ≡ gives_all s (onward (o ∷ []))) × AtStage spec stands new (stage_after s (onward (o ∷ []))))
      → all ≡ given ++ more
      → HasEntered spec stands old before rest (taken ++ o ∷ []) new all
  entered_more old before rest taken left o middle new given more all split has step sum s at en =
      let ready = entered_ready old before rest taken left o middle given s split has at en in
      let r = step (stage_after s (onward taken)) ready.0 ready.1 in
      let both = onward-append taken (o ∷ []) in (
        sum ∙ ap (λ xs. xs ++ more) (has s at en).0 ∙ ap (λ xs. (before ++ gives_all s (onward taken)) ++ xs) r.0 ∙ append_assoc before (gives_all s (onward taken)) (gives_all (stage_after s (onward taken)) (onward (o ∷ [])))
            ∙ ap (λ xs. before ++ xs) (sym (gives_all-append s (onward taken) (onward (o ∷ []))) ∙ ap (gives_all s) (sym both)),
        subst (λ (t : Stage). AtStage spec stands new t) (sym (after-append s (onward taken) (onward (o ∷ []))) ∙ ap (stage_after s) (sym both)) r.1,
      )

  -- ---- the first of all that is given, and the rest

  pub pass_ready : (old middle : Slot R) (caused rest given : List Output) (o : Output) → caused ≡ o ∷ rest
      → ((s : Stage) → AtStage spec stands old s → Enters s (onward (o ∷ [])) → (given ≡ gives_all s (onward (o ∷ []))) × AtStage spec stands middle (stage_after s (onward (o ∷ []))))
      → (s : Stage) → AtStage spec stands old s → Enters s (onward caused) → (t : Stage) × AtStage spec stands middle t × Enters t (onward rest)
  pass_ready old middle caused rest given o split step s at en =
      let both = enters_both s (onward (o ∷ [])) (onward rest) (subst (Enters s) (ap onward split ∙ onward-append (o ∷ []) rest) en) in
      (stage_after s (onward (o ∷ [])), (step s at both.0).1, both.1)

  pub pass_all : (old middle new : Slot R) (caused rest given outs : List Output) (o : Output) → caused ≡ o ∷ rest
      → ((s : Stage) → AtStage spec stands old s → Enters s (onward (o ∷ [])) → (given ≡ gives_all s (onward (o ∷ []))) × AtStage spec stands middle (stage_after s (onward (o ∷ []))))
      → ((s : Stage) → AtStage spec stands middle s → Enters s (onward rest) → (outs ≡ given ++ gives_all s (onward rest)) × AtStage spec stands new (stage_after s (onward rest)))
      → (s : Stage) → AtStage spec stands old s → Enters s (onward caused) → (outs ≡ gives_all s (onward caused)) × AtStage spec stands new (stage_after s (onward caused))
  pass_all old middle new caused rest given outs o split step others s at en =
      let all : onward caused ≡ onward (o ∷ []) ++ onward rest = ap onward split ∙ onward-append (o ∷ []) rest in
      let both = enters_both s (onward (o ∷ [])) (onward rest) (subst (Enters s) all en) in
      let one = step s at both.0 in
      let then_all = others (stage_after s (onward (o ∷ []))) one.1 both.1 in (
        then_all.0 ∙ ap (λ xs. xs ++ gives_all (stage_after s (onward (o ∷ []))) (onward rest)) one.0
            ∙ sym (gives_all-append s (onward (o ∷ [])) (onward rest)) ∙ ap (gives_all s) (sym all),
        subst (λ (t : Stage). AtStage spec stands new t) (sym (after-append s (onward (o ∷ [])) (onward rest)) ∙ ap (stage_after s) (sym all)) then_all.1,
      )
