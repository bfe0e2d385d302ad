-- One event more.
use Rattle.std.proofs.Common.{ℕ, Bool, true, false, List, [], ◌∷◌, ◌++◌, ◌≡◌, refl, sym, ap, ◌∙◌, append-nil, append_assoc, reverse, is_some, is_none, not, ◌&&◌, Option, None, Some, cond, if◌then◌else◌}
use Rattle.std.proofs.lemmas.Bool.{cond-true, cond-false}
use Rattle.std.proofs.lemmas.List.{reverse-append, reverse-reverse}
use Rattle.stream_model.specs.Stream.{Event}
use Rattle.stream_model.specs.Operators.{Operator}
use Rattle.stream_model.specs.React.{react, ended}
use Rattle.spl_value.specs.declared.item.Item.{Item}
use Rattle.stream_model.specs.Stages.{Stage, start, next, gives_all, stage_after, on_port, out}
use Rattle.stream_model.proofs.parts.Stages.{stage_outputs}
use Rattle.stream_model.proofs.StageLaws.{stage_at, gives_all-append, after-append, on_port-append, after-over}
use Rattle.stream_model.specs.Laws.{StartLaw, HistoryLaw, EndLaw, LiveLaw, has_ended}

pub start_law : StartLaw
start_law op = (λ p. refl, refl)

pub out-more : (op : Operator) (p : ℕ) (events : List Event) (e : Event)
    → out op p (events ++ e ∷ []) ≡ out op p events ++ on_port p (stage_outputs (stage_after (start op) events) e)
out-more op p events e =
    ap (on_port p) (gives_all-append (start op) events (e ∷ []) ∙ ap (λ outs. gives_all (start op) events ++ outs) (append-nil (stage_outputs (stage_after (start op) events) e)))
    ∙ on_port-append p (gives_all (start op) events) (stage_outputs (stage_after (start op) events) e)

after-op : (op : Operator) (seen events : List Event) (over : Bool) → (stage_after (stage_at op seen over) events).op ≡ op
after-op op seen [] over = refl
after-op op seen (e ∷ events) true = after-op op seen events true
after-op op seen (e ∷ events) false = after-op op (e ∷ seen) events (is_some (ended op seen e))

-- a stage that isn't over has seen all events
after-seen : (op : Operator) (seen events : List Event) → (stage_after (stage_at op seen false) events).over ≡ false
    → (stage_after (stage_at op seen false) events).seen ≡ reverse events ++ seen
after-seen op seen [] q = refl
after-seen op seen (e ∷ events) q =
    go (is_some (ended op seen e)) q (after-seen op (e ∷ seen) events)
    ∙ sym (append_assoc (reverse events) (e ∷ []) seen)
    ∙ ap (λ xs. xs ++ seen) (sym (reverse-append (e ∷ []) events))
  where
    go : (b : Bool) → (stage_after (stage_at op (e ∷ seen) b) events).over ≡ false
        → ((stage_after (stage_at op (e ∷ seen) false) events).over ≡ false → (stage_after (stage_at op (e ∷ seen) false) events).seen ≡ reverse events ++ e ∷ seen)
        → (stage_after (stage_at op (e ∷ seen) b) events).seen ≡ reverse events ++ e ∷ seen
    go true q rest = let z = after-over (stage_at op (e ∷ seen) true) events refl in let w = ap (λ (s : Stage). s.over) z in absurd (cc)
    go false q rest = rest q

pub history_law : HistoryLaw
history_law op p events e = (
  λ q. out-more op p events e ∙ ap (λ outs. out op p events ++ on_port p outs)
      (cond-false (stage_after (start op) events).over [] _ q
      ∙ ap (λ (o : Operator). react o (stage_after (start op) events).seen e) (after-op op [] events false)
      ∙ ap (λ (seen : List Event). react op seen e) (after-seen op [] events q ∙ append-nil (reverse events))),
  λ q. out-more op p events e ∙ ap (λ outs. out op p events ++ on_port p outs) (cond-true (stage_after (start op) events).over [] _ q)
      ∙ append-nil (out op p events),
)

next-over : (s : Stage) (e : Event) → (next s e).over ≡ (if s.over then true else is_some (ended s.op s.seen e))
next-over s e = go s.over refl
  where
    go : (b : Bool) → s.over ≡ b → (cond b s (record { op = s.op; seen = e ∷ s.seen; over = is_some (ended s.op s.seen e) })).over ≡ cond b true (is_some (ended s.op s.seen e))
    go true q = q
    go false q = refl

pub end_law : EndLaw
end_law op events e =
    ap (λ (s : Stage). s.over) (after-append (start op) events (e ∷ []))
    ∙ next-over (stage_after (start op) events) e
    ∙ go (stage_after (start op) events).over refl
  where
    go : (b : Bool) → (stage_after (start op) events).over ≡ b
        → cond b true (is_some (ended (stage_after (start op) events).op (stage_after (start op) events).seen e)) ≡ cond b true (is_some (ended op (reverse events) e))
    go true q = refl
    go false q =
        ap (λ (o : Operator). is_some (ended o (stage_after (start op) events).seen e)) (after-op op [] events false)
        ∙ ap (λ (seen : List Event). is_some (ended op seen e)) (after-seen op [] events q ∙ append-nil (reverse events))

pub live_law : LiveLaw
live_law op [] = refl
live_law op (e ∷ h) =
    ap (λ b. b && is_none (ended op h e)) (live_law op h)
    ∙ go (has_ended op (reverse h)) (ended op h e)
    ∙ ap (λ seen. not (if has_ended op (reverse h) then true else is_some (ended op seen e))) (sym (reverse-reverse h))
    ∙ ap not (sym (end_law op (reverse h) e))
    ∙ ap (λ events. not (has_ended op events)) (sym (reverse-append (e ∷ []) h))
  where
    go : (b : Bool) (x : Option Item) → (not b && is_none x) ≡ not (if b then true else is_some x)
    go true x = refl
    go false None = refl
    go false (Some x) = refl
