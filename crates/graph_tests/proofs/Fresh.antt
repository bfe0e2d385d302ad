-- The operators of the worked graph are fresh.
use Rattle.std.proofs.Common.{◌≡◌, ℕ, zero, suc, Bool, true, false, [], ◌∷◌, refl, ap, ◌∙◌, slice_get, Some, None}
use Rattle.std.specs.Prelude.{⊤}
use Rattle.stream_model.specs.Operators.{Operator}
use Rattle.list_engine.specs.Runs.{AreOperators, is_source}
use Rattle.graph_tests.specs.Copying.{copying_graph, writer}

pub fresh : {S : Type 0} → (s : S) → AreOperators {S = S} (λ x. writer) (λ x h. ⊤) copying_graph (None ∷ Some s ∷ [])
fresh {S = S} s = record { count = refl; sources = sources; others = others }
  where
    kind_of : (b : Bool) (x op : Operator) → Some x ≡ Some op → is_source op.clauses ≡ b → is_source x.clauses ≡ b
    kind_of b x op e h = let same : x ≡ op = cc in ap (λ (o : Operator). is_source o.clauses) same ∙ h

    one : (x op : Operator) → Some x ≡ Some op → x ≡ op
    one x op e = cc

    sources : (n : ℕ) (op : Operator) → slice_get copying_graph.ops n ≡ Some op → is_source op.clauses ≡ true → slice_get (None ∷ Some s ∷ []) n ≡ Some None
    sources zero op e h = refl
    sources (suc zero) op e h = absurd (let clash : false ≡ true = kind_of true _ op e h in cc)
    sources (suc (suc n)) op e h = absurd cc

    others : (n : ℕ) (op : Operator) → slice_get copying_graph.ops n ≡ Some op → is_source op.clauses ≡ false
        → (t : S) × (slice_get (None ∷ Some s ∷ []) n ≡ Some (Some t)) × (writer ≡ op) × ⊤
    others zero op e h = absurd (let clash : true ≡ false = kind_of false _ op e h in cc)
    others (suc zero) op e h = (s, refl, one writer op e, tt)
    others (suc (suc n)) op e h = absurd cc
