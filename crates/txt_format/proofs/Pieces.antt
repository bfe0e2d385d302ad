-- Pieces written one after another, and texts byte by byte.
use Rattle.std.specs.Prelude.{◌≡◌, ◌<◌, ◌+◌, ◌==◌, ◌||◌, not, ℕ, Bool, cond, true, false, List, [], ◌∷◌, ◌++◌, length, drop, map}
use Rattle.std.specs.List.{join_with_byte, list_all}
use Rattle.std.specs.Cmp.{first_so, second_so}
use Rattle.std.proofs.Common.{refl, sym, ap, ◌∙◌, append_assoc, get_or, arith}
use Rattle.std.proofs.lemmas.List.{append-nil}
use Rattle.spl_value.specs.declared.types.Named.{Named}
use Rattle.spl_value.specs.declared.value.Value.{Value}
use Rattle.spl_value.proofs.Lists.{drop_at}
use Rattle.txt_format.specs.Escapes.{escaped, written}
use Rattle.txt_format.specs.TxtText.{attribute_texts, bracketed, pair_text}
use Rattle.txt_format.specs.steps.Writing.{comma, is_kept, pieces_from}

-- pieces behind the first have a comma each
later_join : (p : List ℕ) (ps : List (List ℕ)) → p ++ pieces_from true ps ≡ join_with_byte 44 (p ∷ ps)
later_join p [] = append-nil p
later_join p (q ∷ qs) = ap (λ z. p ++ 44 ∷ z) (later_join q qs)

pub pieces_join : (ps : List (List ℕ)) → pieces_from false ps ≡ join_with_byte 44 ps
pieces_join [] = refl
pieces_join (p ∷ ps) = later_join p ps

-- one more piece
piece_step : (later : Bool) (text t1 t2 p : List ℕ) (ps : List (List ℕ)) → t1 ≡ text ++ comma later → t2 ≡ t1 ++ p
    → t2 ++ pieces_from true ps ≡ text ++ pieces_from later (p ∷ ps)
piece_step later text t1 t2 p ps e f =
    ap (λ z. z ++ pieces_from true ps) (f ∙ ap (λ z. z ++ p) e)
    ∙ append_assoc (text ++ comma later) p (pieces_from true ps)
    ∙ append_assoc text (comma later) (p ++ pieces_from true ps)

-- the closing bracket
pub pieces_end : (later : Bool) (base text t2 : List ℕ) (ps rest : List (List ℕ)) (left right : ℕ) → rest ≡ [] → text ++ pieces_from later rest ≡ (base ++ left ∷ []) ++ pieces_from false ps
    → t2 ≡ text ++ right ∷ [] → t2 ≡ base ++ bracketed left right ps
pieces_end later base text t2 ps rest left right none e f =
    let all : text ≡ (base ++ left ∷ []) ++ join_with_byte 44 ps =
    sym (append-nil text) ∙ ap (λ z. text ++ pieces_from later z) (sym none) ∙ e ∙ ap (λ z. (base ++ left ∷ []) ++ z) (pieces_join ps) in
    f ∙ ap (λ z. z ++ right ∷ []) all ∙ append_assoc (base ++ left ∷ []) (join_with_byte 44 ps) (right ∷ []) ∙ append_assoc base (left ∷ []) (join_with_byte 44 ps ++ right ∷ [])

-- one more element
pub element_step : (f : Value → List ℕ) (vs : List Value) (i : ℕ) (v : Value) (later : Bool) (text t1 t2 whole : List ℕ) → i < length vs → v ≡ get_or vs i v
    → text ++ pieces_from later (map f (drop i vs)) ≡ whole → t1 ≡ text ++ comma later → t2 ≡ t1 ++ f v → t2 ++ pieces_from true (map f (drop (i + 1) vs)) ≡ whole
element_step f vs i v later text t1 t2 whole within is e p q =
    piece_step later text t1 t2 (f v) (map f (drop (i + 1) vs)) p q
    ∙ ap (λ z. text ++ pieces_from later (map f z)) (sym (drop_at vs i v within is)) ∙ e

-- one more pair
pub pair_step : (f g : Value → List ℕ) (p : Value × Value) (ps : List (Value × Value)) (later : Bool) (text t1 t2 t3 t4 whole : List ℕ)
    → text ++ pieces_from later (map (pair_text f g) (p ∷ ps)) ≡ whole → t1 ≡ text ++ comma later → t2 ≡ t1 ++ f p.0 → t3 ≡ t2 ++ 58 ∷ [] → t4 ≡ t3 ++ g p.1
    → t4 ++ pieces_from true (map (pair_text f g) ps) ≡ whole
pair_step f g p ps later text t1 t2 t3 t4 whole e a b c d =
    piece_step later text t1 t4 (pair_text f g p) (map (pair_text f g) ps) a
    (d ∙ ap (λ z. z ++ g p.1) (c ∙ ap (λ z. z ++ 58 ∷ []) b) ∙ append_assoc (t1 ++ f p.0) (58 ∷ []) (g p.1) ∙ append_assoc t1 (f p.0) (58 ∷ g p.1))
    ∙ e

-- one more attribute
pub attribute_step : {A : Type 0} (f : A → Value → List ℕ) (vs : List Value) (i : ℕ) (v : Value) (a : Named A) (schema : List (Named A)) (later : Bool) (text t1 t2 t3 t4 whole : List ℕ)
    → i < length vs → v ≡ get_or vs i v → text ++ pieces_from later (attribute_texts f (a ∷ schema) (drop i vs)) ≡ whole → t1 ≡ text ++ comma later → t2 ≡ t1 ++ a.name → t3 ≡ t2 ++ 61 ∷ []
    → t4 ≡ t3 ++ f a.kind v → t4 ++ pieces_from true (attribute_texts f schema (drop (i + 1) vs)) ≡ whole
attribute_step f vs i v a schema later text t1 t2 t3 t4 whole within is e p q r s =
    piece_step later text t1 t4 (a.name ++ 61 ∷ f a.kind v) (attribute_texts f schema (drop (i + 1) vs)) p
    (s ∙ ap (λ z. z ++ f a.kind v) (r ∙ ap (λ z. z ++ 61 ∷ []) q) ∙ append_assoc (t1 ++ a.name) (61 ∷ []) (f a.kind v) ∙ append_assoc t1 a.name (61 ∷ f a.kind v))
    ∙ ap (λ z. text ++ pieces_from later (attribute_texts f (a ∷ schema) z)) (sym (drop_at vs i v within is)) ∙ e

pub no_attributes : {A : Type 0} (f : A → Value → List ℕ) (schema : List (Named A)) → attribute_texts f schema [] ≡ []
no_attributes f [] = refl
no_attributes f (a ∷ schema) = refl

pub no_more : {A : Type 0} (f : A → Value → List ℕ) (schema : List (Named A)) (vs : List Value) → length schema < 1 → attribute_texts f schema vs ≡ []
no_more f [] vs h = refl
no_more f (a ∷ schema) vs h = absurd (omega (arith, h))

-- a byte that is kept is written as it is
kept_byte : (b : ℕ) → is_kept b ≡ true → written b ≡ b ∷ []
kept_byte b h = by (b == 34) (b == 92) (b == 10) (b == 9) (b == 13) h
  where
    by : (p q r s t : Bool) → not (p || (q || (r || (s || t)))) ≡ true
        → (cond p (92 ∷ 34 ∷ []) (cond q (92 ∷ 92 ∷ []) (cond r (92 ∷ 110 ∷ []) (cond s (92 ∷ 116 ∷ []) (cond t (92 ∷ 114 ∷ []) (b ∷ [])))))) ≡ b ∷ []
    by true q r s t h = absurd cc
    by false true r s t h = absurd cc
    by false false true s t h = absurd cc
    by false false false true t h = absurd cc
    by false false false false true h = absurd cc
    by false false false false false h = refl

pub kept_escaped : (bs : List ℕ) → list_all is_kept bs ≡ true → escaped bs ≡ bs
kept_escaped [] h = refl
kept_escaped (b ∷ bs) h =
    let here : is_kept b ≡ true = first_so (is_kept b) (list_all is_kept bs) h in
    let rest : list_all is_kept bs ≡ true = second_so (is_kept b) (list_all is_kept bs) h in
    λ i. kept_byte b here i ++ kept_escaped bs rest i
