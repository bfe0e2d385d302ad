-- An option may be given in one word or in two.
use Rattle.std.proofs.Common.{◌≡◌, ◌<◌, ◌+◌, ◌||◌, ℕ, Bool, true, false, not, cond, List, [], ◌∷◌, ◌++◌, length, nat_lt, codes, refl, sym, ap, ◌∙◌, arith, append_assoc, append-nil, add-zero, Some, None}
use Rattle.std.specs.Prelude.{Option, position, if◌then◌else◌}
use Rattle.std.specs.List.{list_any, position_or_len}
use Rattle.std.specs.Str.{bytes_eq}
use Rattle.std.proofs.Math.Seq.{take-append_seam, drop-append-add}
use Rattle.std.proofs.lemmas.List.{length-append}
use Rattle.std.proofs.lemmas.Slice.Eq.{bytes_eq-Decides}
use Rattle.std.proofs.lemmas.Bool.{false_from_ne_true, lt-ltb, le-ltb}
use Rattle.command_line.specs.declared.arguments.Word.{Word}
use Rattle.command_line.specs.declared.arguments.Word.TheVariants.{Whole, Named}
use Rattle.command_line.specs.declared.arguments.Argument.TheVariants.{Counts}
use Rattle.command_line.specs.Arguments.{is_equals, valued, cut_at, option_of, arguments}
use Rattle.command_line.specs.RequestLaws.{TwoFormsLaw}
use Rattle.command_line.proofs.Reading.{first_word}
use Rattle.spl_value.proofs.Bools.{or_first as first_false, or_second as second_false}

-- a name without `=`, and what is after it
passes_name : (name behind : List ℕ) → list_any is_equals name ≡ false → position_or_len is_equals (name ++ behind) ≡ length name + position_or_len is_equals behind
passes_name [] behind h = omega arith
passes_name (b ∷ name) behind h =
    let n = passes_name name behind (second_false (is_equals b) (list_any is_equals name) h) in
    ap (λ test. cond (not test) (1 + position_or_len is_equals (name ++ behind)) 0) (first_false (is_equals b) (list_any is_equals name) h) ∙ omega (arith, n)

has_equals : (name value : List ℕ) → list_any is_equals (name ++ 61 ∷ value) ≡ true
has_equals [] value = refl
has_equals (b ∷ name) value = rw (has_equals name value) (or_true (is_equals b))
  where
    or_true : (a : Bool) → (a || true) ≡ true
    or_true true = refl
    or_true false = refl

place_in : (text : List ℕ) (n : ℕ) → position_or_len is_equals text ≡ n → n < length text → position is_equals text ≡ Some n
place_in text n e h =
    ap (λ k. cond (nat_lt k (length text)) (Some k) None) e ∙ ap (λ test. cond test (Some n) None) (lt-ltb n (length text) h)

no_place : (text : List ℕ) → position_or_len is_equals text ≡ length text → position is_equals text ≡ None
no_place text e =
    ap (λ k. cond (nat_lt k (length text)) (Some k) None) e
    ∙ ap (λ test. cond test (Some (length text)) None) (le-ltb (length text) (length text) (omega arith))

-- the words `--counts` and any other option
abbrev by_flag : List ℕ → Bool → Option ℕ → Word
by_flag text test at = if test then Whole (Some Counts) else cut_at text at

option_named : (name : List ℕ) → list_any is_equals name ≡ false → bytes_eq name (codes "counts") ≡ false → option_of name ≡ Named name
option_named name h other =
    let passed : position_or_len is_equals name ≡ length name = ap (position_or_len is_equals) (sym (append-nil name)) ∙ passes_name name [] h ∙ add-zero (length name) in
    λ i. by_flag name (other i) (no_place name passed i)

no_flag : (name value : List ℕ) → bytes_eq (name ++ 61 ∷ value) (codes "counts") ≡ false
no_flag name value =
    false_from_ne_true (bytes_eq (name ++ 61 ∷ value) (codes "counts"))
    (λ e.
    let same = ap (list_any is_equals) ((bytes_eq-Decides (name ++ 61 ∷ value) (codes "counts")).0 e) in
    let has = has_equals name value in
    cc)

option_valued : (name value : List ℕ) → list_any is_equals name ≡ false → option_of (name ++ 61 ∷ value) ≡ Whole (valued name value)
option_valued name value h =
    let at : position is_equals (name ++ 61 ∷ value) ≡ Some (length name) =
    place_in (name ++ 61 ∷ value) (length name) (passes_name name (61 ∷ value) h ∙ add-zero (length name)) (omega (arith, length-append name (61 ∷ value))) in
    (λ i. by_flag (name ++ 61 ∷ value) (no_flag name value i) (at i))
    ∙ (λ i. Whole (valued (take-append_seam name (61 ∷ value) i) (drop-append-add name (61 ∷ value) 1 i)))

pub two_forms : TwoFormsLaw
two_forms name value words h other =
    sym (first_word (codes "--" ++ name) (value ∷ words) (Named name) (sym (option_named name h other)))
    ∙ first_word (codes "--" ++ (name ++ 61 ∷ value)) words (Whole (valued name value)) (sym (option_valued name value h))
    ∙ ap (λ text. arguments ((codes "--" ++ text) ∷ words)) (sym (append_assoc name (61 ∷ []) value))
