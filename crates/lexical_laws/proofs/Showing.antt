-- What stands at the front is refused exactly where the bytes show why.
use Rattle.std.proofs.Common.{◌≡◌, ◌∙◌, ℕ, ◌==◌, ◌&&◌, Bool, true, false, List, [], ◌∷◌, drop, refl, sym, ap, ap₂, subst, true≢false}
use Rattle.std.proofs.lemmas.Bool.{and_parts, eqb-true, eq-eqb}
use Rattle.spl_value.specs.Decimal.{is_digit}
use Rattle.spl_tree.specs.declared.token.LexicalError.{LexicalError}
use Rattle.spl_tree.specs.declared.token.LexicalError.TheVariants as E
use Rattle.spl_tree.specs.Bytes.{is_blank, is_letter, is_quote, begins}
use Rattle.spl_tree.specs.Tokens.{Pass, Refuse, front}
use Rattle.spl_tree.proofs.GapLaws.{begins-is}
use Rattle.spl_lexer.proofs.Fronts.{blank_front, line_front, word_front, dollar_front, dollar_none}
use Rattle.lexical_laws.specs.Refusals.{dollar, other, Shows, open_comment, open_text, bad_escape, bad_number, bad_byte}
use Rattle.lexical_laws.proofs.Comments.{comment_shows, comment_refused}
use Rattle.lexical_laws.proofs.Texts.{text_shows, open_refused, escape_refused}
use Rattle.lexical_laws.proofs.Numbers.{number_shows, number_refused}
use Rattle.lexical_laws.proofs.Symbols.{symbol_shows, symbol_refused}

-- a dollar that is refused has no letter after it
dollar_shows : (bs : List ℕ) (e : LexicalError) (i : ℕ) → front (36 ∷ bs) ≡ Refuse e i → Shows (36 ∷ bs) e i
dollar_shows bs e i r = by (begins is_letter bs) refl
  where
    by : (t : Bool) → begins is_letter bs ≡ t → Shows (36 ∷ bs) e i
    by true letter = let clash = sym (dollar_front bs letter) ∙ r in absurd (cc)
    by false letter =
        let same : Refuse E.BadByte 0 ≡ Refuse e i = sym (dollar_none bs letter) ∙ r in
        let why : E.BadByte ≡ e = cc in
        let place : 0 ≡ i = cc in
        rw (← why, ← place) (bad_byte (36 ∷ bs) (dollar bs letter))

-- bytes at whose front nothing may stand show why
front_shows : (b : ℕ) (bs : List ℕ) (e : LexicalError) (i : ℕ) → front (b ∷ bs) ≡ Refuse e i → Shows (b ∷ bs) e i
front_shows b bs e i r =
    by (is_blank b) refl (is_letter b) refl (is_digit b) refl (is_quote b) refl (b == 36) refl ((b == 47) && begins (λ c. c == 47) bs) refl
    ((b == 47) && begins (λ c. c == 42) bs) refl
  where
    by : (blank : Bool) → is_blank b ≡ blank → (letter : Bool) → is_letter b ≡ letter → (digit : Bool) → is_digit b ≡ digit → (quote : Bool) → is_quote b ≡ quote
        → (cash : Bool) → (b == 36) ≡ cash → (line : Bool) → ((b == 47) && begins (λ c. c == 47) bs) ≡ line
        → (comment : Bool) → ((b == 47) && begins (λ c. c == 42) bs) ≡ comment → Shows (b ∷ bs) e i
    by true h letter l digit d quote q cash c line n comment m = let clash : Pass 1 ≡ Refuse e i = sym (blank_front b bs h) ∙ r in absurd (cc)
    by false h true l digit d quote q cash c line n comment m = let clash = sym (word_front b bs l) ∙ r in absurd (cc)
    by false h false l true d quote q cash c line n comment m = number_shows (b ∷ bs) e i d r
    by false h false l false d true q cash c line n comment m = text_shows b q bs e i r
    by false h false l false d false q true c line n comment m =
        let cash : b ≡ 36 = eqb-true b 36 c in subst (λ x. Shows (x ∷ bs) e i) (sym cash) (dollar_shows bs e i (ap (λ x. front (x ∷ bs)) (sym cash) ∙ r))
    by false h false l false d false q false c true n comment m =
        let both = and_parts (b == 47) (begins (λ c. c == 47) bs) n in
        let are : b ∷ bs ≡ 47 ∷ 47 ∷ drop 1 bs = ap₂ (λ x xs. x ∷ xs) (eqb-true b 47 both.0) (begins-is 47 bs both.1) in
        let clash = sym (line_front (drop 1 bs)) ∙ ap front (sym are) ∙ r in
        absurd (cc)
    by false h false l false d false q false c false n true m =
        let both = and_parts (b == 47) (begins (λ c. c == 42) bs) m in
        let are : b ∷ bs ≡ 47 ∷ 42 ∷ drop 1 bs = ap₂ (λ x xs. x ∷ xs) (eqb-true b 47 both.0) (begins-is 42 bs both.1) in
        subst (λ cs. Shows cs e i) (sym are) (comment_shows (drop 1 bs) e i (ap front (sym are) ∙ r))
    by false h false l false d false q false c false n false m =
        symbol_shows b bs h l d q (λ same. true≢false (sym (eq-eqb b 36 same) ∙ c)) n m e i r

-- of any bytes
pub refused_shows : (bs : List ℕ) (e : LexicalError) (i : ℕ) → front bs ≡ Refuse e i → Shows bs e i
unfolding front
refused_shows [] e i r = absurd (cc)
refused_shows (b ∷ bs) e i r = front_shows b bs e i r

-- and bytes that show why are refused
pub shown_refused : {bs : List ℕ} {e : LexicalError} {i : ℕ} → Shows bs e i → front bs ≡ Refuse e i
shown_refused (open_comment bs none) = comment_refused bs none
shown_refused (open_text quote bs quotes none) = open_refused quote quotes bs none
shown_refused (bad_escape quote c good more after quotes d feed none others) = escape_refused quote quotes c good more after d feed none others
shown_refused (bad_number run after h words stops none) = number_refused run after h words stops none
shown_refused (bad_byte bs (dollar cs letter)) = dollar_none cs letter
shown_refused (bad_byte bs (other b cs blank letter digit quote cash none)) = symbol_refused b cs blank letter digit quote cash none
