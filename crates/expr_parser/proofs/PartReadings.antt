-- What is read of parts that hold expressions is spelled so.
use Rattle.std.proofs.Common.{◌≡◌, ℕ, false, List, [], ◌∷◌, Err, refl, subst, arith, append-nil}
use Rattle.spl_tree.specs.declared.symbol.Symbol.{Symbol}
use Rattle.spl_tree.specs.declared.symbol.Symbol.TheVariants as S
use Rattle.spl_tree.specs.declared.token.Token.{Token}
use Rattle.spl_tree.specs.spellings.Phrases.{Phrase}
use Rattle.spl_tree.specs.Trees.{Expr}
use Rattle.spl_tree.specs.spellings.Grammar.{Elements, Items, first_item, no_steps}
use Rattle.expr_parser.specs.declared.stop.Stop.{Stop}
use Rattle.expr_parser.specs.declared.stop.Stop.TheVariants as R
use Rattle.expr_parser.specs.Rules.{RuleResult, Took, Refused, Spent, read, Reads}
use Rattle.expr_parser.proofs.RuleLaws.{runs_done}
use Rattle.expr_parser.specs.Lines as lines
use Rattle.expr_parser.specs.Lines.{Line, Value, rule}
use Rattle.expr_parser.specs.Parts.{Takes, Closed, closed, SpellsSteps, alone, selects, goes_on}
use Rattle.expr_parser.specs.Gives.{Gives, Begun, Spelled}
use Rattle.spl_tree.specs.Fronts.{IsPhrase}
use Rattle.expr_parser.proofs.Soundness.{Sound}
use Rattle.expr_parser.proofs.Sound.{Phrases, sound}
use Rattle.expr_parser.proofs.Complete.{Closes, skips, takes, steps_end, elements_reads, items_reads, steps_reads}
use Rattle.expr_parser.proofs.Exactness.{exact_phrase, exact_unexpected}

-- a line whose phrases are those of P
module _ (x : Line) (P : Phrase (Value x)) (means : (v : Value x) (a : List Token) → Phrases x v a → P v a) where
  sound_part : (n : ℕ) (ts : List Token) → Sound P ts (read rule n x ts)
  sound_part n ts = by (read rule n x ts) (sound n x ts)
    where
      by : (o : RuleResult (Value x)) → Sound (Phrases x) ts o → Sound P ts o
      by (Took v rest) s = record { front = s.front; splits = s.splits; spells = means v s.front s.spells }
      by (Refused rest) s = record {
        front = s.front;
        splits = s.splits;
        starts = record { behind = s.starts.behind; value = s.starts.value; spells = means s.starts.value _ s.starts.spells };
      }
      by Spent s = tt

  -- what is taken spells one
  spelled_took : {v : Value x} {ts rest : List Token} → Reads rule x ts (Took v rest) → Takes P ts v rest
  spelled_took {v} {ts} {rest} r = subst (Sound P ts) r.is (sound_part r.depth ts)

  -- what is taken before a refusal starts one
  spelled_stop : (ts : List Token) (e : Stop) → Gives x ts (Err e) → Spelled P ts (Err e)
  spelled_stop ts (R.At rest) r = subst (Sound P ts) r.is (sound_part r.depth ts)
  spelled_stop ts R.Memory r = tt

  -- where each phrase is read, that is the longest front
  module _ (complete : (v : Value x) (a : List Token) → P v a → Reads rule x a (Took v [])) where
    begun_took : {v : Value x} {ts rest : List Token} → Reads rule x ts (Took v rest) → IsPhrase P ts v rest
    begun_took {v} {ts} {rest} r = exact_phrase rule x P sound_part complete ts v rest r

    begun_stop : (ts : List Token) (e : Stop) → Gives x ts (Err e) → Begun P ts (Err e)
    begun_stop ts (R.At rest) r = exact_unexpected rule x P sound_part complete ts rest.now r
    begun_stop ts R.Memory r = tt

-- a symbol that ends a list
closes_list : (s : Symbol) → goes_on s ≡ false → Closes s
closes_list S.LeftParen e = absurd (cc)
closes_list S.LeftBracket e = absurd (cc)
closes_list S.LeftBrace e = absurd (cc)
closes_list S.Dot e = absurd (cc)
closes_list S.Question e = absurd (cc)
closes_list S.Comma e = absurd (cc)
closes_list S.Exclamation e = absurd (cc)
closes_list S.Tilde e = absurd (cc)
closes_list S.Minus e = absurd (cc)
closes_list S.Plus e = absurd (cc)
closes_list S.Star e = absurd (cc)
closes_list S.Slash e = absurd (cc)
closes_list S.Percent e = absurd (cc)
closes_list S.Less e = absurd (cc)
closes_list S.LessOrEqual e = absurd (cc)
closes_list S.Greater e = absurd (cc)
closes_list S.GreaterOrEqual e = absurd (cc)
closes_list S.Equal e = absurd (cc)
closes_list S.NotEqual e = absurd (cc)
closes_list S.Ampersand e = absurd (cc)
closes_list S.Caret e = absurd (cc)
closes_list S.Pipe e = absurd (cc)
closes_list S.DoubleAmpersand e = absurd (cc)
closes_list S.DoublePipe e = absurd (cc)
closes_list _ e = record { opens_none = refl; stops = omega arith; no_comma = refl; itself = refl }

-- Elements

elements_complete : {close : Symbol} {es : List Expr} {a : List Token} → goes_on close ≡ false → Closed Elements close es a
    → Reads rule (lines.Elements close) a (Took es [])
elements_complete {close} ends (closed es c b d right) = elements_reads d close (closes_list close ends) c [] right

module _ (close : Symbol) where
  pub elements_spelled : {es : List Expr} {ts rest : List Token} → Reads rule (lines.Elements close) ts (Took es rest) → Takes (Closed Elements close) ts es rest
  elements_spelled r = spelled_took (lines.Elements close) (Closed Elements close) (λ v a d. d) r

  pub elements_spelled_stop : (ts : List Token) (e : Stop) → Gives (lines.Elements close) ts (Err e) → Spelled (Closed Elements close) ts (Err e)
  elements_spelled_stop ts e g = spelled_stop (lines.Elements close) (Closed Elements close) (λ v a d. d) ts e g

  pub elements_begun : {es : List Expr} {ts rest : List Token} → Reads rule (lines.Elements close) ts (Took es rest) → goes_on close ≡ false
      → IsPhrase (Closed Elements close) ts es rest
  elements_begun r ends = begun_took (lines.Elements close) (Closed Elements close) (λ v a d. d) (λ v a d. elements_complete ends d) r

  pub elements_begun_stop : (ts : List Token) (e : Stop) → Gives (lines.Elements close) ts (Err e) → goes_on close ≡ false
      → Begun (Closed Elements close) ts (Err e)
  elements_begun_stop ts e g ends = begun_stop (lines.Elements close) (Closed Elements close) (λ v a d. d) (λ v a d. elements_complete ends d) ts e g

-- Items

items_complete : {close : Symbol} {es : List Expr} {a : List Token} → goes_on close ≡ false → Closed Items close es a
    → Reads rule (lines.Items close []) a (Took es [])
items_complete {close} ends (closed es c b d right) =
    let closes = closes_list close ends in
    items_reads d close (c ∷ []) (rw right closes.stops) (skips (rw right closes.no_comma) (takes (rw right closes.itself) runs_done))

module _ (close : Symbol) where
  items_mean : (es : List Expr) (a : List Token) → Phrases (lines.Items close []) es a → Closed Items close es a
  items_mean es a d = d [] first_item

  pub items_spelled : {es : List Expr} {ts rest : List Token} → Reads rule (lines.Items close []) ts (Took es rest) → Takes (Closed Items close) ts es rest
  items_spelled r = spelled_took (lines.Items close []) (Closed Items close) items_mean r

  pub items_spelled_stop : (ts : List Token) (e : Stop) → Gives (lines.Items close []) ts (Err e) → Spelled (Closed Items close) ts (Err e)
  items_spelled_stop ts e g = spelled_stop (lines.Items close []) (Closed Items close) items_mean ts e g

  pub items_begun : {es : List Expr} {ts rest : List Token} → Reads rule (lines.Items close []) ts (Took es rest) → goes_on close ≡ false
      → IsPhrase (Closed Items close) ts es rest
  items_begun r ends = begun_took (lines.Items close []) (Closed Items close) items_mean (λ v a d. items_complete ends d) r

  pub items_begun_stop : (ts : List Token) (e : Stop) → Gives (lines.Items close []) ts (Err e) → goes_on close ≡ false
      → Begun (Closed Items close) ts (Err e)
  items_begun_stop ts e g ends = begun_stop (lines.Items close []) (Closed Items close) items_mean (λ v a d. items_complete ends d) ts e g

-- Steps

module _ (base : Expr) where
  steps_mean : (e : Expr) (a : List Token) → Phrases (lines.Steps base []) e a → SpellsSteps base e a
  steps_mean e a d = d [] no_steps

  steps_complete : {e : Expr} {a : List Token} → SpellsSteps base e a → Reads rule (lines.Steps base []) a (Took e [])
  steps_complete alone = steps_end base [] [] tt
  steps_complete {e = e} (selects s ss b ds) =
      subst (λ us. Reads rule (lines.Steps base []) us (Took e [])) (append-nil b) (steps_reads ds base [] (steps_end base (s ∷ ss) [] tt))

  pub steps_begun : {e : Expr} {ts rest : List Token} → Reads rule (lines.Steps base []) ts (Took e rest) → IsPhrase (SpellsSteps base) ts e rest
  steps_begun r = begun_took (lines.Steps base []) (SpellsSteps base) steps_mean (λ v a d. steps_complete d) r

  pub steps_begun_stop : (ts : List Token) (e : Stop) → Gives (lines.Steps base []) ts (Err e) → Begun (SpellsSteps base) ts (Err e)
  steps_begun_stop ts e g = begun_stop (lines.Steps base []) (SpellsSteps base) steps_mean (λ v a d. steps_complete d) ts e g
