-- The tokens of bytes cut them, and only they do.
use Rattle.std.proofs.Common.{◌≡◌, ◌∙◌, ℕ, zero, suc, ◌+◌, ◌-◌, ◌<◌, ◌≤◌, nat_lt, Bool, true, false, cond, List, [], ◌∷◌, ◌++◌, length, take, drop, All, Ok, Err, refl, sym, ap, subst, subst₂, true≢false, arith, length-append, length-drop, length-take-le, take-append-drop, drop-drop, append-nil, zero-add, le-ltb, ltb-false}
use Rattle.std.proofs.Math.Seq.{take-append_seam, drop-append_seam}
use Rattle.std.proofs.lemmas.Bool.{and_right}
use Rattle.std.proofs.lemmas.List.Elements.{All-nil, All-cons}
use Rattle.spl_value.specs.Decimal.{is_digit}
use Rattle.spl_tree.specs.declared.token.TokenKind.{TokenKind}
use Rattle.spl_tree.specs.declared.token.Token.{Token}
use Rattle.spl_tree.specs.declared.token.Tokens.{Tokens}
use Rattle.spl_tree.specs.declared.token.LexicalError.TheVariants as E
use Rattle.spl_tree.specs.declared.token.TheConstants.{MOST_BYTES}
use Rattle.spl_tree.specs.Bytes.{begins}
use Rattle.spl_tree.specs.Tokens.{Front, Take, Pass, Refuse, front, Lexed, with_front, by_front, tokens_from, with_length, tokens}
use Rattle.spl_tree.specs.Laws.{Gap, blank, line, block, IsToken, Cut, done, gap, token, CutLaw, OneCutLaw, Rise, RiseLaw, own_bytes, alone, OwnBytesLaw}
use Rattle.spl_tree.specs.TokenLaws.{Fits}
use Rattle.spl_tree.proofs.TokenLaws.{front_fits, tokens_step}
use Rattle.spl_tree.proofs.GapLaws.{gap_front}
use Rattle.spl_tree.proofs.FrontLaws.{Stands, front_stands, token_front-is}

-- a gap is not empty
pub gap-some : {text rest : List ℕ} → Gap text rest → 0 < length text
gap-some (blank b rest e) = omega arith
gap-some (line inside rest all stops) = omega arith
gap-some (block inside rest none) = omega arith

-- nor is a token
token-some : (kind : TokenKind) (text rest : List ℕ) → IsToken kind text rest → 0 < length text
token-some kind [] rest t = absurd (true≢false (sym t.formed))
token-some kind (b ∷ bs) rest t = omega arith

-- a cut of the bytes after a gap, and that gap
Cut-gap : (at n : ℕ) (bs : List ℕ) (ts : List Token) → n ≤ length bs → Gap (take n bs) (drop n bs) → Cut (at + n) (drop n bs) ts → Cut at bs ts
Cut-gap at n bs ts le g c =
    let count = length-take-le n bs le in
    subst (λ cs. Cut at cs ts) (take-append-drop n bs) (gap at (take n bs) (drop n bs) ts g (rw count c))

-- a cut of the bytes after a token, and that token
Cut-token : (at n : ℕ) (kind : TokenKind) (bs : List ℕ) (ts : List Token) → n ≤ length bs → IsToken kind (take n bs) (drop n bs)
    → Cut (at + n) (drop n bs) ts → Cut at bs (record { kind = kind; start = at; end = at + n } ∷ ts)
Cut-token at n kind bs ts le t c =
    let count = length-take-le n bs le in
    subst₂ (λ (m : ℕ) (cs : List ℕ). Cut at cs (record { kind = kind; start = at; end = at + m } ∷ ts)) count (take-append-drop n bs)
    (token at kind (take n bs) (drop n bs) ts t (rw count c))

-- the tokens of bytes that begin at a place cut them
cut_from : (most at : ℕ) (bs : List ℕ) (ts : List Token) → length bs ≤ most → tokens_from 0 at bs ≡ Ok ts → Cut at bs ts
cut_from most at [] ts le e = let none : [] ≡ ts = cc in rw (← none) (done at)
cut_from zero at (b ∷ bs) ts le e = absurd (omega arith)
cut_from (suc most) at (b ∷ bs) ts le e =
    by (front (b ∷ bs)) (front_fits (b ∷ bs) (omega arith)) (front_stands (b ∷ bs) (omega arith))
    (λ n us some. cut_from most (at + n) (drop n (b ∷ bs)) us (omega (arith, length-drop n (b ∷ bs))))
    (sym (tokens_step at (b ∷ bs) (omega arith)) ∙ e)
  where
    Behind : Type 0
    Behind = (n : ℕ) (us : List Token) → 0 < n → tokens_from 0 (at + n) (drop n (b ∷ bs)) ≡ Ok us → Cut (at + n) (drop n (b ∷ bs)) us

    by_token : (kind : TokenKind) (n : ℕ) → (0 < n) × (n ≤ suc (length bs)) → IsToken kind (take n (b ∷ bs)) (drop n (b ∷ bs)) → Behind
        → (r : Lexed) → tokens_from 0 (at + n) (drop n (b ∷ bs)) ≡ r → with_front (record { kind = kind; start = at; end = at + n } ∷ []) r ≡ Ok ts → Cut at (b ∷ bs) ts
    by_token kind n fits t behind (Ok us) is e =
        let all : record { kind = kind; start = at; end = at + n } ∷ us ≡ ts = cc in
        subst (Cut at (b ∷ bs)) all (Cut-token at n kind (b ∷ bs) us fits.1 t (behind n us fits.0 is))
    by_token kind n fits t behind (Err refusal) is e = absurd (cc)

    by : (f : Front) → Fits (suc (length bs)) f → Stands (b ∷ bs) f → Behind
        → by_front f at (λ n. tokens_from 0 (at + n) (drop n (b ∷ bs))) ≡ Ok ts → Cut at (b ∷ bs) ts
    by (Take kind n) fits t behind e = by_token kind n fits t behind (tokens_from 0 (at + n) (drop n (b ∷ bs))) refl e
    by (Pass n) fits g behind e = Cut-gap at n (b ∷ bs) ts fits.1 g (behind n ts fits.0 e)
    by (Refuse why i) fits s behind e = absurd (cc)

-- tokens that are counted are those, and their bytes aren't too many
counted_parts : (most n : ℕ) (long : Bool) (r : Lexed) (ts : Tokens) → cond long (Err (E.TooLong, most)) (with_length n r) ≡ Ok ts
    → (long ≡ false) × (r ≡ Ok ts.list) × (ts.length ≡ n)
counted_parts most n true r ts e = absurd (cc)
counted_parts most n false (Err refusal) ts e = absurd (cc)
counted_parts most n false (Ok us) ts e =
    let same : record { list = us; length = n } ≡ ts = cc in
    (refl, ap (λ (all : Tokens). Ok all.list) same, ap (λ (all : Tokens). all.length) (sym same))

-- a program with tokens isn't too long, and they are the tokens of its bytes
tokens_parts : (bytes : List ℕ) (ts : Tokens) → tokens bytes ≡ Ok ts
    → (nat_lt MOST_BYTES (length bytes) ≡ false) × (tokens_from 0 0 bytes ≡ Ok ts.list) × (ts.length ≡ length bytes)
unfolding tokens
tokens_parts bytes ts e = counted_parts MOST_BYTES (length bytes) (nat_lt MOST_BYTES (length bytes)) (tokens_from 0 0 bytes) ts e

-- a program's tokens cut its bytes
pub cut_law : CutLaw
cut_law bytes ts e = let parts = tokens_parts bytes ts e in (cut_from (length bytes) 0 bytes ts.list (omega arith) parts.1, parts.2)

-- Only they do

-- tokens that cut bytes are the tokens of the bytes
one_from : {at : ℕ} {bs : List ℕ} {ts : List Token} → Cut at bs ts → tokens_from 0 at bs ≡ Ok ts
one_from (done at) = refl
one_from (gap at text rest ts g c) =
    let some = gap-some g in
    tokens_step at (text ++ rest) (omega (arith, length-append text rest))
    ∙ rw (gap_front g, drop-append_seam text rest) (one_from c)
one_from (token at kind text rest ts t c) =
    let some = token-some kind text rest t in
    tokens_step at (text ++ rest) (omega (arith, length-append text rest))
    ∙ rw (token_front-is kind text rest t, drop-append_seam text rest, one_from c)

-- tokens that cut a program's bytes are its tokens
pub one_cut_law : OneCutLaw
unfolding tokens
one_cut_law bytes ts le c = rw (le-ltb MOST_BYTES (length bytes) le, one_from c)

-- The places

-- tokens from a later place on are tokens from an earlier one on
Rise-earlier : (at later : ℕ) (ts : List Token) (end : ℕ) → at ≤ later → Rise later ts end → Rise at ts end
Rise-earlier at later [] end le rise = omega arith
Rise-earlier at later (t ∷ ts) end le rise = (omega arith, rise.1, rise.2)

-- tokens that cut bytes stand one after another
Rise-from_cut : {at : ℕ} {bs : List ℕ} {ts : List Token} → Cut at bs ts → Rise at ts (at + length bs)
Rise-from_cut (done at) = omega arith
Rise-from_cut (gap at text rest ts g c) =
    let end : (at + length text) + length rest ≡ at + length (text ++ rest) = omega (arith, length-append text rest) in
    Rise-earlier at (at + length text) ts (at + length (text ++ rest)) (omega arith) (rw end at (Rise-from_cut c))
Rise-from_cut (token at kind text rest ts t c) =
    let some = token-some kind text rest t in
    let end : (at + length text) + length rest ≡ at + length (text ++ rest) = omega (arith, length-append text rest) in
    (omega arith, omega arith, rw end at (Rise-from_cut c))

-- a program's tokens stand one after another in it
pub rise_law : RiseLaw
rise_law bytes ts e = rw zero-add at (Rise-from_cut (cut_law bytes ts e).0)

-- A token alone

-- a token is one where nothing follows it
IsToken-alone : (kind : TokenKind) (text rest : List ℕ) → IsToken kind text rest → IsToken kind text []
IsToken-alone kind text rest t = record {
  formed = t.formed;
  longest = λ n some none. absurd (omega arith);
  apart = and_right (begins is_digit text) false refl;
  no_comment = λ e. refl;
  is = t.is;
}

-- so its bytes alone have it for their token
token_alone : (kind : TokenKind) (text rest : List ℕ) → length text ≤ MOST_BYTES → IsToken kind text rest
    → tokens text ≡ Ok (record { list = record { kind = kind; start = 0; end = length text } ∷ []; length = length text })
token_alone kind text rest short t =
    let c = token 0 kind text [] [] (IsToken-alone kind text rest t) (done (0 + length text)) in
    one_cut_law text (record { kind = kind; start = 0; end = length text } ∷ []) short (rw (append-nil, zero-add) at c)

-- what comes after a text
pub behind : (at : ℕ) (text rest bytes : List ℕ) → text ++ rest ≡ drop at bytes → rest ≡ drop (at + length text) bytes
behind at text rest bytes here =
    sym (drop-append_seam text rest) ∙ ap (drop (length text)) here ∙ drop-drop (length text) at bytes

-- each token of bytes that stand at a place has its own bytes there
own_from : {at : ℕ} {bs : List ℕ} {ts : List Token} → Cut at bs ts → (bytes : List ℕ) → bs ≡ drop at bytes → length bs ≤ MOST_BYTES
    → All (λ t. tokens (own_bytes bytes t) ≡ Ok (alone t)) ts
own_from (done at) bytes here short = All-nil (λ t. tokens (own_bytes bytes t) ≡ Ok (alone t))
own_from (gap at text rest ts g c) bytes here short =
    own_from c bytes (behind at text rest bytes here) (omega (arith, length-append text rest))
own_from (token at kind text rest ts t c) bytes here short =
    let count : at + length text - at ≡ length text = omega arith in
    All-cons (λ t. tokens (own_bytes bytes t) ≡ Ok (alone t)) (record { kind = kind; start = at; end = at + length text }) ts
    (rw (count, ← here, take-append_seam text rest) (token_alone kind text rest (omega (arith, length-append text rest)) t))
    (own_from c bytes (behind at text rest bytes here) (omega (arith, length-append text rest)))

-- each token's own bytes alone are that token
pub own_bytes_law : OwnBytesLaw
own_bytes_law bytes ts e =
    own_from (cut_law bytes ts e).0 bytes refl (ltb-false MOST_BYTES (length bytes) (tokens_parts bytes ts e).0)
