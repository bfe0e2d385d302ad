-- What a stage gives for a list of events, by the list's parts.
use Rattle.std.specs.Prelude.{ℕ, ◌==◌, Bool, true, false, cond, List, [], ◌∷◌, ◌++◌, ◌≡◌}
use Rattle.std.proofs.Common.{refl, sym, ap, ◌∙◌, append_assoc}
use Rattle.std.proofs.lemmas.Bool.{cond-true}
use Rattle.spl_value.specs.declared.item.Item.{Item}
use Rattle.spl_tree.specs.declared.body.Function.{Function}
use Rattle.language_model.specs.declared.outs.Output.{Output}
use Rattle.stream_model.specs.Stream.{Event}
use Rattle.language_model.specs.declared.checked.CheckedClauses.{CheckedClauses}
use Rattle.language_model.specs.declared.checked.PortTypes.{PortTypes}
use Rattle.stream_model.specs.Operators.{Operator}
use Rattle.stream_model.specs.Stages.{Stage, next, gives_all, stage_after, on_port}
use Rattle.stream_model.proofs.parts.Stages.{stage_outputs}

-- an operator after these events, the newest first, over or not
abbrev pub stage_at : Operator → List Event → Bool → Stage
stage_at op seen over = record { op = op; seen = seen; over = over }

-- an operator with these clauses and one connection
abbrev pub one_in : ℕ → CheckedClauses → List Function → PortTypes → ℕ → List ℕ → Operator
one_in number clauses functions types s outs = record { number = number; clauses = clauses; functions = functions; types = types; ins = (s ∷ []) ∷ []; outs = outs }

-- its parts are all of it
pub one_in-parts : (op : Operator) (clauses : CheckedClauses) (s : ℕ) (outs : List ℕ) → op.clauses ≡ clauses → op.ins ≡ (s ∷ []) ∷ [] → op.outs ≡ outs
    → op ≡ one_in op.number clauses op.functions op.types s outs
one_in-parts op clauses s outs k i o = rw (← k, ← i, ← o)

-- events in two lists: what the first gives, and what the second gives after it
pub gives_all-append : (s : Stage) (first second : List Event) → gives_all s (first ++ second) ≡ gives_all s first ++ gives_all (stage_after s first) second
gives_all-append s [] second = refl
gives_all-append s (e ∷ first) second =
    ap (λ outs. stage_outputs s e ++ outs) (gives_all-append (next s e) first second)
    ∙ sym (append_assoc (stage_outputs s e) (gives_all (next s e) first) (gives_all (stage_after (next s e) first) second))

-- the stage after two lists of events
pub after-append : (s : Stage) (first second : List Event) → stage_after s (first ++ second) ≡ stage_after (stage_after s first) second
after-append s [] second = refl
after-append s (e ∷ first) second = after-append (next s e) first second

onto : (b : Bool) (x : Item) (xs ys all : List Item) → all ≡ xs ++ ys → cond b (x ∷ all) all ≡ cond b (x ∷ xs) xs ++ ys
onto true x xs ys all e = ap (λ zs. x ∷ zs) e
onto false x xs ys all e = e

-- the items on a port, of two lists of outputs
pub on_port-append : (p : ℕ) (first second : List Output) → on_port p (first ++ second) ≡ on_port p first ++ on_port p second
on_port-append p [] second = refl
on_port-append p (o ∷ first) second = onto (o.port == p) o.item (on_port p first) (on_port p second) (on_port p (first ++ second)) (on_port-append p first second)

next-over : (s : Stage) (e : Event) → s.over ≡ true → next s e ≡ s
next-over s e q = cond-true s.over s _ q

-- an operator that is over gives nothing more
pub gives_all-over : (s : Stage) (events : List Event) → s.over ≡ true → gives_all s events ≡ []
gives_all-over s [] q = refl
gives_all-over s (e ∷ events) q =
    ap (λ outs. outs ++ gives_all (next s e) events) (cond-true s.over [] _ q)
    ∙ ap (λ (t : Stage). gives_all t events) (next-over s e q)
    ∙ gives_all-over s events q

-- and stands where it stood
pub after-over : (s : Stage) (events : List Event) → s.over ≡ true → stage_after s events ≡ s
after-over s [] q = refl
after-over s (e ∷ events) q = ap (λ (t : Stage). stage_after t events) (next-over s e q) ∙ after-over s events q
