-- The result of reading, by the places of tokens in the list.
use Rattle.std.proofs.Common.{◌≡◌, ◌∙◌, ℕ, ◌+◌, ◌-◌, ◌≤◌, List, ◌++◌, length, take, drop, None, Err, sym, ap, subst, arith, length-append, length-drop}
use Rattle.std.proofs.Math.Seq.{drop-append_seam}
use Rattle.std.proofs.lemmas.List.{take_rest, drop-drop}
use Rattle.spl_tree.specs.declared.token.Token.{Token}
use Rattle.spl_tree.specs.declared.token.Tokens.{Tokens}
use Rattle.spl_tree.specs.Trees.{Expr}
use Rattle.spl_tree.specs.spellings.Grammar.{Spells}
use Rattle.spl_tree.specs.Weights.{too_deep_from}
use Rattle.expr_parser.specs.Rules.{Took, Refused, Reads}
use Rattle.expr_parser.specs.Lines.{Whole, rule}
use Rattle.spl_tree.specs.Fronts.{IsPhrase, IsUnexpected}
use Rattle.expr_parser.proofs.Expressions.{exact_refused, took_expression, refused_expression}
use Rattle.expr_parser.specs.declared.stop.Stop.{Stop}
use Rattle.expr_parser.specs.declared.stop.Stop.TheVariants as S
use Rattle.expr_parser.specs.Gives.{Gives, Begun}
use Rattle.spl_tree.specs.Units.{place_of}
use Rattle.expr_parser.specs.Parses.{SpellsExpr, IsParsed, IsUnexpectedAt}

-- what comes after a front of the tokens from a place on
record Ends (list : List Token) (from : ℕ) (rest : List Token) : Type 0 where
  pub within : length rest + from ≤ length list
  pub is : rest ≡ drop (length list - length rest) list

ends : (list : List Token) (from : ℕ) (front rest : List Token) → from ≤ length list → drop from list ≡ front ++ rest → Ends list from rest
ends list from front rest le splits =
    let all : length list - from ≡ length front + length rest = sym (length-drop from list) ∙ ap length splits ∙ length-append front rest in
    let behind : from + length front ≡ length list - length rest = omega arith in
    record {
      within = omega arith;
      is = sym (drop-append_seam front rest) ∙ ap (drop (length front)) (sym splits) ∙ drop-drop (length front) from list ∙ ap (λ n. drop n list) behind;
    }

module _ (tokens : Tokens) (from : ℕ) (list rest : List Token) (same : list ≡ tokens.list) (le : from ≤ length tokens.list) where
  given : take (length list - from) (drop from list) ≡ drop from tokens.list
  given = take_rest list from ∙ ap (drop from) same

  module _ {e : Expr} (reads : Reads rule Whole (take (length list - from) (drop from list)) (Took e rest)) where
    phrase : IsPhrase SpellsExpr (drop from tokens.list) e rest
    phrase = subst (λ us. IsPhrase SpellsExpr us e rest) given (took_expression reads)

    took_ends : Ends tokens.list from rest
    took_ends = let p = phrase in ends tokens.list from p.front rest le p.longest.splits

    pub took_within : length rest ≤ length list
    took_within = let w = took_ends.within in omega (arith, ap length same)

    pub parsed : too_deep_from from tokens.list ≡ None → IsParsed tokens from (record { expr = e; next = length list - length rest })
    parsed shallow =
        let n = ap length same in
        let w = took_ends.within in
        record {
          shallow = shallow;
          from_there = omega arith;
          within = omega arith;
          phrase = subst (λ us. IsPhrase SpellsExpr (drop from tokens.list) e us) (took_ends.is ∙ ap (λ n. drop (n - length rest) tokens.list) (sym n)) phrase;
        }

  module _ (reads : Reads rule Whole (take (length list - from) (drop from list)) (Refused rest)) where
    unexpected : IsUnexpected SpellsExpr (drop from tokens.list) rest
    unexpected = subst (λ us. IsUnexpected SpellsExpr us rest) given (refused_expression reads)

    refused_ends : Ends tokens.list from rest
    refused_ends = let u = unexpected in ends tokens.list from u.front rest le u.longest.splits

    pub refused_within : length rest ≤ length list
    refused_within = let w = refused_ends.within in omega (arith, ap length same)

    pub refused : (at : ℕ) → too_deep_from from tokens.list ≡ None → at ≡ place_of tokens (length list - length rest) → IsUnexpectedAt tokens from at
    refused at shallow place =
        let n = ap length same in
        let w = refused_ends.within in
        record {
          shallow = shallow;
          token = length list - length rest;
          from_there = omega arith;
          within = omega arith;
          place = place;
          unexpected = subst (λ us. IsUnexpected SpellsExpr (drop from tokens.list) us) (refused_ends.is ∙ ap (λ n. drop (n - length rest) tokens.list) (sym n)) unexpected;
        }

-- a refusal of an expression
pub begun_stop : (ts : List Token) (e : Stop) → Gives Whole ts (Err e) → Begun Spells ts (Err e)
begun_stop ts (S.At rest) g = exact_refused g
begun_stop ts S.Memory g = tt
