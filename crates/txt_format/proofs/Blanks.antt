-- Blanks between tokens, and what stands behind them.
use Rattle.std.specs.Prelude.{◌≡◌, ◌≤◌, ◌==◌, ◌||◌, ◌&&◌, ◌⊎◌, not, nat_eq, suc, ℕ, Bool, cond, true, false, List, [], ◌∷◌, ◌++◌, length, take, drop, Option, Some, None}
use Rattle.std.specs.Option.{option_and_then}
use Rattle.std.specs.List.{join_with_byte}
use Rattle.std.specs.Cmp.Lexicographic.{pointwise}
use Rattle.std.specs.Cmp.{first_so, second_so}
use Rattle.std.specs.Cmp.Derive.{both_true}
use Rattle.std.proofs.Common.{refl, sym, ap, ◌∙◌, append_assoc, arith, inl, inr}
use Rattle.spl_value.proofs.SegmentLaws.{not_true}
use Rattle.std.proofs.lemmas.Bool.{cases_Bool, eq-eqb, eqb-true}
use Rattle.std.proofs.Math.Seq.{drop-append_seam}
use Rattle.txt_format.specs.TxtSpelling.{are_blanks, is_blank}
use Rattle.txt_format.specs.steps.Bytes.{is_part, past_blanks, past_byte, past_mark, past_name}

-- the blanks at the front of a text
pub record Front (bytes : List ℕ) : Type 0 where
  pub blanks : List ℕ
  pub all : are_blanks blanks ≡ true
  pub are : bytes ≡ blanks ++ past_blanks bytes

pub front : (bytes : List ℕ) → Front bytes
front [] = record { blanks = []; all = refl; are = refl }
front (b ∷ bs) = by (is_blank b) refl (front bs)
  where
    by : (x : Bool) → is_blank b ≡ x → Front bs → Front (b ∷ bs)
    by true e f = record {
      blanks = b ∷ f.blanks;
      all = both_true e f.all;
      are = ap (λ z. b ∷ z) f.are ∙ ap (λ z. b ∷ (f.blanks ++ z)) (sym (ap (λ x. cond x (past_blanks bs) (b ∷ bs)) e));
    }
    by false e f = record { blanks = []; all = refl; are = sym (ap (λ x. cond x (past_blanks bs) (b ∷ bs)) e) }

pub past_all : (blanks rest : List ℕ) → are_blanks blanks ≡ true → past_blanks (blanks ++ rest) ≡ past_blanks rest
past_all [] rest h = refl
past_all (b ∷ bs) rest h =
    ap (λ x. cond x (past_blanks (bs ++ rest)) (b ∷ (bs ++ rest))) (first_so (is_blank b) (are_blanks bs) h) ∙ past_all bs rest (second_so (is_blank b) (are_blanks bs) h)

-- no blank is at the front
unfoldable pub begins : List ℕ → Bool
begins [] = true
begins (b ∷ bs) = not (is_blank b)

pub past_none : (bytes : List ℕ) → begins bytes ≡ true → past_blanks bytes ≡ bytes
unfolding begins
past_none [] h = refl
past_none (b ∷ bs) h = ap (λ x. cond x (past_blanks bs) (b ∷ bs)) (not_true (is_blank b) h)

pub past_to : (blanks rest : List ℕ) → are_blanks blanks ≡ true → begins rest ≡ true → past_blanks (blanks ++ rest) ≡ rest
past_to blanks rest h g = past_all blanks rest h ∙ past_none rest g

pub past_fresh : (bytes : List ℕ) → begins (past_blanks bytes) ≡ true
unfolding begins
past_fresh [] = refl
past_fresh (b ∷ bs) = by (is_blank b) refl (past_fresh bs)
  where
    by : (x : Bool) → is_blank b ≡ x → begins (past_blanks bs) ≡ true → begins (cond x (past_blanks bs) (b ∷ bs)) ≡ true
    by true e h = h
    by false e h = ap not e

-- no part of an integer is at the front
unfoldable pub ends : List ℕ → Bool
ends [] = true
ends (b ∷ bs) = not (is_part b)

-- neither
unfoldable pub stops : List ℕ → Bool
stops [] = true
stops (b ∷ bs) = not (is_blank b) && not (is_part b)

pub stop_begins : (rest : List ℕ) → stops rest ≡ true → begins rest ≡ true
unfolding stops begins
stop_begins [] h = refl
stop_begins (b ∷ bs) h = first_so (not (is_blank b)) (not (is_part b)) h

blank_no_part : (b : ℕ) → is_blank b ≡ true → not (is_part b) ≡ true
blank_no_part b h = by (cases_Bool (b == 32)) (cases_Bool (b == 9)) (cases_Bool (b == 13))
  where
    by : ((b == 32) ≡ true) ⊎ ((b == 32) ≡ false) → ((b == 9) ≡ true) ⊎ ((b == 9) ≡ false) → ((b == 13) ≡ true) ⊎ ((b == 13) ≡ false) → not (is_part b) ≡ true
    by (inl e) y z = ap (λ c. not (is_part c)) (eqb-true b 32 e)
    by (inr e) (inl f) z = ap (λ c. not (is_part c)) (eqb-true b 9 f)
    by (inr e) (inr f) (inl g) = ap (λ c. not (is_part c)) (eqb-true b 13 g)
    by (inr e) (inr f) (inr g) = absurd (let no : false ≡ true = sym (λ i. e i || (f i || g i)) ∙ h in cc)

pub ends_behind : (blanks rest : List ℕ) → are_blanks blanks ≡ true → stops rest ≡ true → ends (blanks ++ rest) ≡ true
unfolding stops ends
ends_behind [] [] h g = refl
ends_behind [] (b ∷ bs) h g = second_so (not (is_blank b)) (not (is_part b)) g
ends_behind (b ∷ bs) rest h g = blank_no_part b (first_so (is_blank b) (are_blanks bs) h)

pub stop_comma : (rest : List ℕ) → stops (44 ∷ rest) ≡ true
unfolding stops
stop_comma rest = refl

pub stop_colon : (rest : List ℕ) → stops (58 ∷ rest) ≡ true
unfolding stops
stop_colon rest = refl

pub stop_square : (rest : List ℕ) → stops (93 ∷ rest) ≡ true
unfolding stops
stop_square rest = refl

pub stop_curly : (rest : List ℕ) → stops (125 ∷ rest) ≡ true
unfolding stops
stop_curly rest = refl

pub stop_nothing : stops [] ≡ true
unfolding stops
stop_nothing = refl

-- ---- a byte, a mark, a name

pub byte_here : (c : ℕ) (rest : List ℕ) → past_byte c (c ∷ rest) ≡ Some rest
byte_here c rest = ap (λ x. cond x (Some rest) None) (eq-eqb c c refl)

pub byte_was : (c : ℕ) (bytes rest : List ℕ) → past_byte c bytes ≡ Some rest → bytes ≡ c ∷ rest
byte_was c [] rest e = absurd (cc)
byte_was c (b ∷ bs) rest e = by (b == c) refl e
  where
    by : (x : Bool) → (b == c) ≡ x → cond x (Some bs) None ≡ Some rest → b ∷ bs ≡ c ∷ rest
    by true i h = let s : bs ≡ rest = cc in λ t. eqb-true b c i t ∷ s t
    by false i h = absurd (cc)

pub mark_here : (c : ℕ) (bytes rest : List ℕ) → past_blanks bytes ≡ c ∷ rest → past_mark c bytes ≡ Some (past_blanks rest)
mark_here c bytes rest e = ap (λ z. option_and_then (λ behind. Some (past_blanks behind)) (past_byte c z)) e ∙ ap (option_and_then (λ behind. Some (past_blanks behind))) (byte_here c rest)

-- a mark with the blanks around it
pub record Mark (c : ℕ) (bytes rest : List ℕ) : Type 0 where
  pub before : List ℕ
  pub behind : List ℕ
  pub blank : are_blanks before ≡ true
  pub blank_behind : are_blanks behind ≡ true
  pub are : bytes ≡ before ++ (c ∷ (behind ++ rest))

pub mark_was : (c : ℕ) (bytes rest : List ℕ) → past_mark c bytes ≡ Some rest → Mark c bytes rest
mark_was c bytes rest e = by (past_byte c (past_blanks bytes)) refl e
  where
    by : (o : Option (List ℕ)) → past_byte c (past_blanks bytes) ≡ o → option_and_then (λ behind. Some (past_blanks behind)) o ≡ Some rest → Mark c bytes rest
    by None i h = absurd (cc)
    by (Some from) i h =
        let f = front bytes in
        let g = front from in
        let last : past_blanks from ≡ rest = cc in
        record {
          before = f.blanks;
          behind = g.blanks;
          blank = f.all;
          blank_behind = g.all;
          are = f.are ∙ ap (λ z. f.blanks ++ z) (byte_was c (past_blanks bytes) from i ∙ ap (λ z. c ∷ z) (g.are ∙ ap (λ z. g.blanks ++ z) last));
        }

pub mark_fresh : (c : ℕ) (bytes rest : List ℕ) → past_mark c bytes ≡ Some rest → begins rest ≡ true
mark_fresh c bytes rest e = by (past_byte c (past_blanks bytes)) e
  where
    by : (o : Option (List ℕ)) → option_and_then (λ behind. Some (past_blanks behind)) o ≡ Some rest → begins rest ≡ true
    by None h = absurd (cc)
    by (Some from) h = let last : past_blanks from ≡ rest = cc in ap begins (sym last) ∙ past_fresh from

same_bytes : (name rest : List ℕ) → pointwise nat_eq name (take (length name) (name ++ rest)) ≡ true
same_bytes [] rest = refl
same_bytes (b ∷ bs) rest = both_true (eq-eqb b b refl) (same_bytes bs rest)

pub name_here : (name rest : List ℕ) → past_name name (name ++ rest) ≡ Some rest
name_here name rest =
    ap (λ x. cond x (Some (drop (length name) (name ++ rest))) None) (same_bytes name rest) ∙ ap Some (drop-append_seam name rest)

same_front : (name bytes : List ℕ) → pointwise nat_eq name (take (length name) bytes) ≡ true → bytes ≡ name ++ drop (length name) bytes
same_front [] bytes h = refl
same_front (c ∷ name) [] h = absurd (cc)
same_front (c ∷ name) (b ∷ bytes) h =
    let one = sym (eqb-true c b (first_so (nat_eq c b) (pointwise nat_eq name (take (length name) bytes)) h)) in
    let others = same_front name bytes (second_so (nat_eq c b) (pointwise nat_eq name (take (length name) bytes)) h) in
    λ i. one i ∷ others i

pub name_was : (name bytes rest : List ℕ) → past_name name bytes ≡ Some rest → bytes ≡ name ++ rest
name_was name bytes rest e = by (pointwise nat_eq name (take (length name) bytes)) refl e
  where
    by : (x : Bool) → pointwise nat_eq name (take (length name) bytes) ≡ x → cond x (Some (drop (length name) bytes)) None ≡ Some rest → bytes ≡ name ++ rest
    by true i h = let s : drop (length name) bytes ≡ rest = cc in same_front name bytes i ∙ ap (λ z. name ++ z) s
    by false i h = absurd (cc)

-- ---- pieces

-- what is behind a piece: the other pieces with a comma before each, and the closing bracket
pub behind_piece : ℕ → List (List ℕ) → List ℕ → List ℕ
behind_piece close [] rest = close ∷ rest
behind_piece close (p ∷ ps) rest = 44 ∷ (join_with_byte 44 (p ∷ ps) ++ close ∷ rest)

pub joined : (close : ℕ) (p : List ℕ) (ps : List (List ℕ)) (rest : List ℕ) → join_with_byte 44 (p ∷ ps) ++ close ∷ rest ≡ p ++ behind_piece close ps rest
unfolding behind_piece
joined close p [] rest = refl
joined close p (q ∷ ps) rest = append_assoc p (44 ∷ join_with_byte 44 (q ∷ ps)) (close ∷ rest)

pub behind_none : (close : ℕ) (rest : List ℕ) → behind_piece close [] rest ≡ close ∷ rest
unfolding behind_piece
behind_none close rest = refl

pub behind_some : (close : ℕ) (p : List ℕ) (ps : List (List ℕ)) (rest : List ℕ) → behind_piece close (p ∷ ps) rest ≡ 44 ∷ (p ++ behind_piece close ps rest)
unfolding behind_piece
behind_some close p ps rest = ap (λ z. 44 ∷ z) (joined close p ps rest)

-- the bytes that are no blanks
solid : List ℕ → ℕ
solid [] = 0
solid (b ∷ bs) = cond (is_blank b) (solid bs) (suc (solid bs))

solid_past : (bytes : List ℕ) → solid (past_blanks bytes) ≡ solid bytes
unfolding solid
solid_past [] = refl
solid_past (b ∷ bs) = by (is_blank b) refl (solid_past bs)
  where
    by : (x : Bool) → is_blank b ≡ x → solid (past_blanks bs) ≡ solid bs → solid (cond x (past_blanks bs) (b ∷ bs)) ≡ cond x (solid bs) (suc (solid bs))
    by true e h = h
    by false e h = ap (λ x. cond x (solid bs) (suc (solid bs))) e

solid_most : (bytes : List ℕ) → solid bytes ≤ length bytes
unfolding solid
solid_most [] = omega arith
solid_most (b ∷ bs) = by (is_blank b) (solid_most bs)
  where
    by : (x : Bool) → solid bs ≤ length bs → cond x (solid bs) (suc (solid bs)) ≤ suc (length bs)
    by true h = omega (arith, h)
    by false h = omega (arith, h)

solid_back : (xs ys : List ℕ) → solid ys ≤ solid (xs ++ ys)
unfolding solid
solid_back [] ys = omega arith
solid_back (b ∷ bs) ys = by (is_blank b) (solid_back bs ys)
  where
    by : (x : Bool) → solid ys ≤ solid (bs ++ ys) → solid ys ≤ cond x (solid (bs ++ ys)) (suc (solid (bs ++ ys)))
    by true h = h
    by false h = omega (arith, h)

-- there are as many bytes behind the first piece as there are pieces
solid_pieces : (close : ℕ) → is_blank close ≡ false → (ps : List (List ℕ)) (rest : List ℕ) → suc (length ps) ≤ solid (behind_piece close ps rest)
unfolding solid behind_piece
solid_pieces close h [] rest = let e : cond (is_blank close) (solid rest) (suc (solid rest)) ≡ suc (solid rest) = ap (λ x. cond x (solid rest) (suc (solid rest))) h in omega (arith, e)
solid_pieces close h (p ∷ ps) rest =
    let later = solid_pieces close h ps rest in
    let back = solid_back p (behind_piece close ps rest) in
    let is : solid (join_with_byte 44 (p ∷ ps) ++ close ∷ rest) ≡ solid (p ++ behind_piece close ps rest) = ap solid (joined close p ps rest) in
    omega (arith, later, back, is)

pub enough : (close : ℕ) → is_blank close ≡ false → (p : List ℕ) (ps : List (List ℕ)) (rest : List ℕ) → suc (length ps) ≤ length (past_blanks (join_with_byte 44 (p ∷ ps) ++ close ∷ rest))
enough close h p ps rest =
    let all = join_with_byte 44 (p ∷ ps) ++ close ∷ rest in
    let is : solid all ≡ solid (p ++ behind_piece close ps rest) = ap solid (joined close p ps rest) in
    let a = solid_pieces close h ps rest in
    let b = solid_back p (behind_piece close ps rest) in
    let c = solid_past all in
    let d = solid_most (past_blanks all) in
    omega (arith, is, a, b, c, d)
