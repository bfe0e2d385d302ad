-- A line whose rule takes only phrases, and takes each phrase whole, takes the longest front that it can.
use Rattle.std.proofs.Common.{◌≡◌, ◌∙◌, ℕ, ◌+◌, List, [], ◌∷◌, ◌++◌, refl, sym, subst, arith, append_assoc, append-nil, inl, inr}
use Rattle.std.proofs.lemmas.List.{append_cancel_right}
use Rattle.spl_tree.specs.declared.token.Token.{Token}
use Rattle.expr_parser.specs.Rules.{Rule, RuleResult, Took, Refused, Spent, read, Reads}
use Rattle.expr_parser.proofs.RuleLaws.{Settled, read_more, reads_one}
use Rattle.expr_parser.proofs.Locality.{rest_of, leaving, Keeps, leaves, keeps}
use Rattle.spl_tree.specs.Fronts.{Starts, Longest, IsPhrase, IsUnexpected}
use Rattle.expr_parser.specs.Parts.{Takes, Begins}
use Rattle.expr_parser.proofs.Soundness.{Sound}

module _ {Line : Type 0} {Value : Line → Type 0} (rule : (x : Line) → Rule Line Value (Value x)) (whole : Line)
    (Spells : Value whole → List Token → Type 0)
    (sound : (n : ℕ) (ts : List Token) → Sound Spells ts (read rule n whole ts))
    (complete : (v : Value whole) (a : List Token) → Spells v a → Reads rule whole a (Took v [])) where
  -- tokens spell one value at most
  pub one : (v w : Value whole) (a : List Token) → Spells v a → Spells w a → v ≡ w
  one v w a s t = let both : Took v [] ≡ Took w [] = reads_one (complete v a s) (complete w a t) tt tt in cc

  -- what spells a phrase is not read with a token left
  no_token_left : (a : List Token) (v : Value whole) (t : Token) (us : List Token) (o : RuleResult (Value whole)) → Settled o
      → Spells v a → Reads rule whole a (leaving o (t ∷ us)) → ⊥
  no_token_left a v t us (Took w rest) settled s r = let both : Took v [] ≡ Took w (t ∷ us) = reads_one (complete v a s) r tt tt in cc
  no_token_left a v t us (Refused rest) settled s r = let both : Took v [] ≡ Refused (t ∷ us) = reads_one (complete v a s) r tt tt in cc
  no_token_left a v t us Spent settled s r = absurd settled

  -- what is taken, or passed before a refusal, is the longest front that starts a phrase
  longest : (ts front : List Token) (o : RuleResult (Value whole)) → Settled o → Reads rule whole ts o → ts ≡ front ++ rest_of o → Starts Spells front
      → Longest Spells ts front (rest_of o)
  longest ts front o settled r splits starts = record { splits = splits; starts = starts; stops = stops }
    where
      stops : (t : Token) (others : List Token) → rest_of o ≡ t ∷ others → Starts Spells (front ++ t ∷ []) → ⊥
      stops t others is s =
          let l = leaves rule r.depth whole ts o r.is in
          let same : front ≡ l.front = append_cancel_right front l.front (rest_of o) (sym splits ∙ l.splits) in
          let stands = l.stands (t ∷ s.behind) (rw is refl) in
          no_token_left ((front ++ t ∷ []) ++ s.behind) s.value t s.behind o settled s.spells
          (record { depth = r.depth; is = rw (append_assoc front (t ∷ []) s.behind, same) stands })

  -- a value that is taken
  pub exact_phrase : (ts : List Token) (v : Value whole) (rest : List Token) → Reads rule whole ts (Took v rest) → IsPhrase Spells ts v rest
  exact_phrase ts v rest r =
      let s : Takes Spells ts v rest = subst (Sound Spells ts) r.is (sound r.depth ts) in
      record {
        front = s.front;
        longest = longest ts s.front (Took v rest) tt r s.splits (record { behind = []; value = v; spells = rw append-nil s.spells });
        spells = s.spells;
      }

  -- a refusal
  pub exact_unexpected : (ts rest : List Token) → Reads rule whole ts (Refused rest) → IsUnexpected Spells ts rest
  exact_unexpected ts rest r =
      let s : Begins Spells ts rest = subst (Sound Spells ts) r.is (sound r.depth ts) in
      record { front = s.front; longest = longest ts s.front (Refused rest) tt r s.splits s.starts; none = none s.front s.splits }
    where
      clash : (v : Value whole) → Keeps v rest (Refused rest) → ⊥
      clash v (inl same) = cc
      clash v (inr less) = omega arith

      none : (front : List Token) → ts ≡ front ++ rest → (v : Value whole) → Spells v front → ⊥
      none front splits v s =
          let q = complete v front s in
          let n = r.depth + q.depth in
          let all = read_more rule q.depth n whole front (Took v []) (omega arith) q.is tt in
          let refused = read_more rule r.depth n whole ts (Refused rest) (omega arith) r.is tt in
          let k : Keeps v rest (read rule n whole ts) = rw splits (keeps rule n whole front rest v all) in
          clash v (rw refused at k)
