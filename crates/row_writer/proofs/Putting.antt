-- The rows' text while a sink is written.
use Rattle.std.proofs.Common.{◌≡◌, ℕ, ◌+◌, ◌<◌, ◌≤◌, List, [], ◌∷◌, ◌++◌, length, take, drop, get_or, sym, ap, ◌∙◌, append_assoc, arith, Option, Some, None, Err, length-append}
use Rattle.std.proofs.lemmas.List.{append-nil, take_more, take-append-drop, take-append-le}
use Rattle.std.proofs.Math.Seq.{take-append-add}
use Rattle.spl_value.specs.declared.item.Item.{Item}
use Rattle.feed_pour.specs.declared.outside.PourAnswer.{PourAnswer}
use Rattle.feed_pour.specs.Contents.{AllPoured, PouredSoFar}
use Rattle.stream_model.specs.Rows.{item_text, text_of}
use Rattle.stream_model.proofs.PathLaws.{text_of-append}
use Rattle.row_writer.specs.Writing.{RowsPoured}

-- the text of the rows before place i, of the row there, and of the rows after it
pub text_cut : (items : List Item) (i : ℕ) (x : Item) → i < length items → x ≡ get_or items i x
    → text_of items ≡ text_of (take i items) ++ (item_text x ++ text_of (drop (i + 1) items))
text_cut items i x lt is =
    ap text_of (sym (take-append-drop (i + 1) items))
    ∙ text_of-append (take (i + 1) items) (drop (i + 1) items)
    ∙ ap (λ (t : List Item). text_of t ++ text_of (drop (i + 1) items)) (take_more items i x lt ∙ ap (λ (y : Item). take i items ++ y ∷ []) (sym is))
    ∙ ap (λ (t : List ℕ). t ++ text_of (drop (i + 1) items)) (text_of-append (take i items) (x ∷ []) ∙ ap (λ (t : List ℕ). text_of (take i items) ++ t) (append-nil (item_text x)))
    ∙ append_assoc (text_of (take i items)) (item_text x) (text_of (drop (i + 1) items))

-- a front of the row after the rows before it is a front of all
pub front_of : (a b c : List ℕ) (n : ℕ) → n ≤ length b → take (length a + n) (a ++ (b ++ c)) ≡ a ++ take n b
front_of a b c n h = take-append-add a (b ++ c) n ∙ ap (λ (t : List ℕ). a ++ t) (take-append-le n b c h)

pub rows_failed : (old mid now : Option (List ℕ)) (items : List Item) (i : ℕ) (x : Item) (e : PourAnswer) → i < length items → x ≡ get_or items i x
    → PouredSoFar old mid (text_of (take i items)) → AllPoured mid now (Err e) (item_text x) → RowsPoured {A = ℕ} old now (Err e) (text_of items)
rows_failed None mid now items i x e lt is so_far poured = tt
rows_failed (Some old) mid now items i x e lt is so_far poured =
    let poured' : AllPoured (Some (old ++ text_of (take i items))) now (Err e) (item_text x) = rw so_far at poured in
    let a = text_of (take i items) in
    let b = item_text x in
    let c = text_of (drop (i + 1) items) in
    let n = poured'.0 in
    let cut : text_of items ≡ a ++ (b ++ c) = text_cut items i x lt is in
    let small : n ≤ length b = poured'.1 in (
      length a + n,
      (let size : length (text_of items) ≡ length a + (length b + length c) = ap length cut ∙ length-append a (b ++ c) ∙ ap (λ (k : ℕ). length a + k) (length-append b c) in omega arith),
      poured'.2 ∙ ap (λ (t : List ℕ). Some t) (append_assoc old a (take n b) ∙ ap (λ (t : List ℕ). old ++ t) (sym (ap (take (length a + n)) cut ∙ front_of a b c n small))),
    )
