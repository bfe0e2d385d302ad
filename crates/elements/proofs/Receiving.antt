-- One receipt more, and what an element notes of it.
use Rattle.std.proofs.Common.{ℕ, ◌==◌, ◌||◌, Bool, true, false, cond, List, [], ◌∷◌, ◌++◌, ◌≡◌, drop, length, refl, sym, ap, ◌∙◌, subst, append-nil, append_assoc, Some, slice_get}
use Rattle.std.proofs.lemmas.Bool.{eqb-true}
use Rattle.std.proofs.Math.Seq.{drop-append_seam}
use Rattle.spl_value.specs.declared.item.Item.{Item}
use Rattle.spl_value.specs.declared.packet.Packet.{Packet}
use Rattle.spl_value.specs.declared.packet.Packet.TheVariants as P
use Rattle.spl_value.specs.declared.types.Named.{Named}
use Rattle.spl_value.specs.declared.types.SplType.{SplType}
use Rattle.spl_value.specs.Numbered.{IsProper, closes}
use Rattle.stream_model.specs.Stream.{any_closes, is_closed, is_empty}
use Rattle.network_model.specs.Packets.{has_last}
use Rattle.network_model.specs.Receipts.{Receipt, Popped, WasRead, popped, read_in}
use Rattle.network_model.proofs.Receipts.{popped-append, read_in-append}
use Rattle.elements.specs.declared.input.Input.{Input}
use Rattle.elements.specs.Inputs.{IsNoted, noted, noted_all, new_input}

-- ---- inputs

noted_all-more : (i : Input) (ps : List Packet) (p : Packet) → noted_all i (ps ++ p ∷ []) ≡ noted (noted_all i ps) p
noted_all-more i [] p = refl
noted_all-more i (q ∷ ps) p = noted_all-more (noted i q) ps p

pub inputs_more : (at : ℕ) (p : Packet) (old new : List Input) (T U : List Receipt) → IsNoted at p old new → U ≡ T ++ Popped at p ∷ []
    → ((i : ℕ) (x : Input) → slice_get old i ≡ Some x → x ≡ noted_all new_input (popped i T)) → (i : ℕ) (y : Input) → slice_get new i ≡ Some y → y ≡ noted_all new_input (popped i U)
inputs_more at p old new T U is u was i y got =
    let x = is.each i y got in
    x.2 ∙ ap (λ z. cond (at == i) (noted z p) z) (was i x.0 x.1) ∙ go (at == i)
    ∙ ap (noted_all new_input) (sym (popped-append i T (Popped at p ∷ [])) ∙ ap (popped i) (sym u))
  where
    go : (b : Bool) → cond b (noted (noted_all new_input (popped i T)) p) (noted_all new_input (popped i T)) ≡ noted_all new_input (popped i T ++ cond b (p ∷ []) [])
    go true = sym (noted_all-more new_input (popped i T) p)
    go false = ap (noted_all new_input) (sym (append-nil (popped i T)))

pub not-popped : (i : ℕ) (T : List Receipt) (x : Item) → popped i (T ++ WasRead x ∷ []) ≡ popped i T
not-popped i T x = popped-append i T (WasRead x ∷ []) ∙ append-nil (popped i T)

ended-by : (i : Input) (ps : List Packet) → (noted_all i ps).ended ≡ (i.ended || has_last ps)
ended-by i [] = go i.ended
  where
    go : (b : Bool) → b ≡ (b || false)
    go true = refl
    go false = refl
ended-by i (P.Item n x ∷ ps) = ended-by (noted i (P.Item n x)) ps
ended-by i (P.Pulse n ∷ ps) = ended-by (noted i (P.Pulse n)) ps
ended-by i (P.Close ∷ ps) = ended-by (noted i P.Close) ps ∙ go i.ended
  where
    go : (b : Bool) → true ≡ (b || true)
    go true = refl
    go false = refl
ended-by i (P.Cut ∷ ps) = ended-by (noted i P.Cut) ps ∙ go i.ended
  where
    go : (b : Bool) → true ≡ (b || true)
    go true = refl
    go false = refl

-- `Close` or `Cut` was taken
pub ended-is : (ps : List Packet) → (noted_all new_input ps).ended ≡ has_last ps
ended-is ps = ended-by new_input ps

-- ---- sources

pub not-read : (T : List Receipt) (i : ℕ) (p : Packet) → read_in (T ++ Popped i p ∷ []) ≡ read_in T
not-read T i p = read_in-append T (Popped i p ∷ []) ∙ append-nil (read_in T)

pub closes-last : (xs : List Item) (x : Item) → any_closes xs ≡ false → (any_closes (xs ++ x ∷ []) ≡ closes x) × (is_closed (xs ++ x ∷ []) ≡ closes x)
closes-last [] x h = (go (closes x), go (closes x))
  where
    go : (b : Bool) → cond b true false ≡ b
    go true = refl
    go false = refl
closes-last (y ∷ xs) x h = go (closes y) h (λ k. closes-last xs x k)
  where
    go : (b : Bool) → cond b true (any_closes xs) ≡ false → (any_closes xs ≡ false → (any_closes (xs ++ x ∷ []) ≡ closes x) × (is_closed (xs ++ x ∷ []) ≡ closes x))
        → (cond b true (any_closes (xs ++ x ∷ [])) ≡ closes x) × (cond b (is_empty (xs ++ x ∷ [])) (is_closed (xs ++ x ∷ [])) ≡ closes x)
    go true k ih = let clash : true ≡ false = k in cc
    go false k ih = ih k

-- ---- fronts

-- what stands behind a front
pub behind : {A : Type 0} (xs ys zs : List A) → xs ++ ys ≡ zs → drop (length xs) zs ≡ ys
behind xs ys zs e = ap (drop (length xs)) (sym e) ∙ drop-append_seam xs ys

pub front-more : {A : Type 0} (xs ys zs more all : List A) → xs ++ ys ≡ zs → all ≡ zs ++ more → xs ++ (ys ++ more) ≡ all
front-more xs ys zs more all p e = sym (append_assoc xs ys more) ∙ ap (λ z. z ++ more) p ∙ sym e

-- ---- proper packets

-- one packet more on an input
pub proper_more : (schemas : List (List (Named SplType))) (T U : List Receipt) (i : ℕ) (p : Packet) → U ≡ T ++ Popped i p ∷ []
    → ((j : ℕ) (s : List (Named SplType)) → slice_get schemas j ≡ Some s → IsProper s (popped j T))
    → ((s : List (Named SplType)) → slice_get schemas i ≡ Some s → IsProper s (popped i T ++ p ∷ []))
    → (j : ℕ) (s : List (Named SplType)) → slice_get schemas j ≡ Some s → IsProper s (popped j U)
proper_more schemas T U i p u was next j s got =
    subst (IsProper s) (sym (ap (popped j) u ∙ popped-append j T (Popped i p ∷ []))) (go (i == j) refl)
  where
    go : (b : Bool) → (i == j) ≡ b → IsProper s (popped j T ++ cond b (p ∷ []) [])
    go true q = let same : i ≡ j = eqb-true i j q in subst (λ k. IsProper s (popped k T ++ p ∷ [])) same (next s (ap (slice_get schemas) same ∙ got))
    go false q = subst (IsProper s) (sym (append-nil (popped j T))) (was j s got)
