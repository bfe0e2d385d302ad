-- The result of reading a unit, by the places of tokens in the list.
use Rattle.std.proofs.Common.{◌≡◌, ◌∙◌, nat_eq, true, false, ◌-◌, ◌≤◌, List, [], ◌∷◌, ◌++◌, length, take, drop, None, refl, sym, ap, subst, arith, length-append, append_assoc, append-nil}
use Rattle.std.proofs.Math.Seq.{take-append_seam, drop-append_seam}
use Rattle.std.proofs.lemmas.Bool.{eqb-true}
use Rattle.std.proofs.lemmas.List.{nil_from_length}
use Rattle.spl_tree.specs.declared.token.Token.{Token}
use Rattle.spl_tree.specs.declared.token.Tokens.{Tokens}
use Rattle.spl_tree.specs.declared.unit.Definition.{Definition}
use Rattle.spl_tree.specs.Weights.{too_deep_from}
use Rattle.expr_parser.specs.Rules.{Took, Refused, Reads}
use Rattle.spl_tree.specs.Units.{place_of, SpellsProgram}
use Rattle.spl_tree.specs.Fronts.{Longest, IsPhrase, IsUnexpected}
use Rattle.statement_parser.specs.Lines.{Whole, rule}
use Rattle.spl_tree.specs.Units.{IsUnit, IsUnexpectedAt}
use Rattle.unit_parser.proofs.WholeUnits.{exact_took, exact_refused}

-- with a token left after the longest front, the tokens spell no unit
none_left : (ts front rest : List Token) → Longest SpellsProgram ts front rest → (t : Token) (others : List Token) → rest ≡ t ∷ others
    → (unit : List Definition) → SpellsProgram unit ts → ⊥
none_left ts front rest l t others is unit s =
    l.stops t others is (record {
      behind = others;
      value = unit;
      spells = subst (SpellsProgram unit) (l.splits ∙ ap (λ us. front ++ us) is ∙ sym (append_assoc front (t ∷ []) others)) s;
    })

-- nor where that front spells none
none_refused : (ts rest : List Token) → IsUnexpected SpellsProgram ts rest → (unit : List Definition) → SpellsProgram unit ts → ⊥
none_refused ts rest u = by rest refl
  where
    by : (us : List Token) → rest ≡ us → (unit : List Definition) → SpellsProgram unit ts → ⊥
    by [] is unit s = u.none unit (subst (SpellsProgram unit) (u.longest.splits ∙ ap (λ us. u.front ++ us) is ∙ append-nil u.front) s)
    by (t ∷ others) is unit s = none_left ts u.front rest u.longest t others is unit s

-- a list of no length is empty
pub empty : (us : List Token) → nat_eq (length us) 0 ≡ true → us ≡ []
empty us e = nil_from_length us (eqb-true (length us) 0 e)

pub not_empty : (us : List Token) → nat_eq (length us) 0 ≡ false → us ≡ [] → ⊥
not_empty us e none = let both = sym e ∙ ap (λ vs. nat_eq (length vs) 0) none in absurd (cc)

shorter : (ts front rest : List Token) → ts ≡ front ++ rest → length rest ≤ length ts
shorter ts front rest splits = let both = ap length splits ∙ length-append front rest in omega arith

module _ (tokens : Tokens) (rest : List Token) where
  module _ (front : List Token) (l : Longest SpellsProgram tokens.list front rest) where
    many : length front ≡ length tokens.list - length rest
    many = let both = ap length l.splits ∙ length-append front rest in omega arith

    fronts : front ≡ take (length tokens.list - length rest) tokens.list
    fronts = sym (take-append_seam front rest) ∙ ap (take (length front)) (sym l.splits) ∙ ap (λ n. take n tokens.list) many

    rests : rest ≡ drop (length tokens.list - length rest) tokens.list
    rests = sym (drop-append_seam front rest) ∙ ap (drop (length front)) (sym l.splits) ∙ ap (λ n. drop n tokens.list) many

    unexpected : ((unit : List Definition) → SpellsProgram unit tokens.list → ⊥) → too_deep_from 0 tokens.list ≡ None
        → IsUnexpectedAt tokens (place_of tokens (length tokens.list - length rest))
    unexpected none shallow = record {
      shallow = shallow;
      token = length tokens.list - length rest;
      within = omega arith;
      place = refl;
      longest = subst (λ us. Longest SpellsProgram tokens.list (take (length tokens.list - length rest) tokens.list) us) rests (subst (λ us. Longest SpellsProgram tokens.list us rest) fronts l);
      none = none;
    }

  module _ (list : List Token) (same : list ≡ tokens.list) where
    module _ {u : List Definition} (reads : Reads rule Whole list (Took u rest)) where
      phrase : IsPhrase SpellsProgram tokens.list u rest
      phrase = subst (λ us. IsPhrase SpellsProgram us u rest) same (exact_took reads)

      pub took_within : length rest ≤ length tokens.list
      took_within = let p = phrase in shorter tokens.list p.front rest p.longest.splits

      -- all tokens are taken
      pub all_taken : rest ≡ [] → too_deep_from 0 tokens.list ≡ None → IsUnit tokens u
      all_taken none shallow =
          let p = phrase in
          let is : tokens.list ≡ p.front = p.longest.splits ∙ ap (λ us. p.front ++ us) none ∙ append-nil p.front in
          record { shallow = shallow; spells = subst (SpellsProgram u) (sym is) p.spells }

      -- some are left
      pub some_left : (rest ≡ [] → ⊥) → too_deep_from 0 tokens.list ≡ None → IsUnexpectedAt tokens (place_of tokens (length tokens.list - length rest))
      some_left some = let p = phrase in unexpected p.front p.longest (by rest refl p.front p.longest)
        where
          by : (us : List Token) → rest ≡ us → (front : List Token) → Longest SpellsProgram tokens.list front rest
              → (unit : List Definition) → SpellsProgram unit tokens.list → ⊥
          by [] is front l = absurd (some is)
          by (t ∷ others) is front l = none_left tokens.list front rest l t others is

    module _ (reads : Reads rule Whole list (Refused rest)) where
      refusal : IsUnexpected SpellsProgram tokens.list rest
      refusal = subst (λ us. IsUnexpected SpellsProgram us rest) same (exact_refused reads)

      pub refused_within : length rest ≤ length tokens.list
      refused_within = let p = refusal in shorter tokens.list p.front rest p.longest.splits

      pub refused : too_deep_from 0 tokens.list ≡ None → IsUnexpectedAt tokens (place_of tokens (length tokens.list - length rest))
      refused = let p = refusal in unexpected p.front p.longest (none_refused tokens.list rest p)
