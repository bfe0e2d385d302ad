-- The files of sinks: which names they are, and that no two sinks have one.
use Rattle.std.proofs.Common.{◌≡◌, ◌≢◌, ℕ, slice_get, subst, ◌+◌, ◌-◌, ◌<◌, ◌≤◌, List, [], ◌∷◌, ◌++◌, length, take, drop, get_or, map, true, false, Option, Some, None, refl, sym, ◌∙◌, ap, arith, length-drop}
use Rattle.std.specs.Option.{option_map}
use Rattle.std.specs.Bool.{Decides}
use Rattle.std.specs.Str.{bytes_eq}
use Rattle.std.proofs.lemmas.Bool.{or_parts}
use Rattle.std.proofs.lemmas.Option.{slice_get-map}
use Rattle.std.specs.List.{All}
use Rattle.std.proofs.lemmas.List.{take-append-drop, take-append-le, take-map, drop_more, get_or-map, get_or-drop, get_or-take, length-map, length-take}
use Rattle.std.proofs.lemmas.List.Elements.{All-map}
use Rattle.std.proofs.lemmas.List.Folds.{list_any-append, list_any_at, list_any_none, list_any_more}
use Rattle.std.proofs.lemmas.Slice.Eq.{bytes_eq-Decides}
use Rattle.feed_pour.specs.Contents.{Told, WhereTold}
use Rattle.file_adapters.specs.Sinks.{AreDistinct, EmptyBefore, HasOwnFile, names_of, sink_names}
use Rattle.language_model.specs.Names.{is_named}
use Rattle.file_adapters.specs.steps.Steps.{SinksEmptied, is_file}
use Rattle.file_adapters.specs.declared.text.TextFile.{TextFile}
use Rattle.file_adapters.specs.declared.sinks.Sink.{Sink}
use Rattle.spl_value.proofs.Lists.{any_map, append_front, append_last}

same_name : (a b : List ℕ) → a ≡ b → bytes_eq a b ≡ true
same_name a b same = (bytes_eq-Decides a b).1 same

other_name : (a b : List ℕ) → a ≢ b → bytes_eq a b ≡ false
other_name a b differs = elim (bytes_eq a b) as (λ r. Decides r (a ≡ b) → r ≡ false) [
  | true ↦ λ d. absurd (differs (d.0 refl))
  | false ↦ λ d. refl
] (bytes_eq-Decides a b)

from_test : (a b : List ℕ) → bytes_eq a b ≡ false → a ≢ b
from_test a b e same = let one = same_name a b same in cc

-- a name that no sink's file has
pub not_among : (sinks : List Sink) (n : List ℕ) → ((i : ℕ) (d : Sink) → i < length sinks → (get_or sinks i d).file ≢ n) → is_file sinks n ≡ false
not_among sinks n others = list_any_none (λ s. bytes_eq s.file n) sinks (λ i d within. other_name (get_or sinks i d).file n (others i d within))

pub among_not : (sinks : List Sink) (n : List ℕ) (i : ℕ) (d : Sink) → is_file sinks n ≡ false → i < length sinks → (get_or sinks i d).file ≢ n
among_not sinks n i d out within same =
    let one = list_any_at (λ s. bytes_eq s.file n) sinks i d within (same_name (get_or sinks i d).file n same) in
    cc

-- a name that none of one more sinks has
pub out_of_more : (sinks : List Sink) (n : List ℕ) (i : ℕ) (d : Sink) → i < length sinks → is_file (take (i + 1) sinks) n ≡ false
    → (is_file (take i sinks) n ≡ false) × (n ≢ (get_or sinks i d).file)
out_of_more sinks n i d within out =
    let p = or_parts (is_file (take i sinks) n) (bytes_eq (get_or sinks i d).file n) (sym (list_any_more (λ s. bytes_eq s.file n) sinks i d within) ∙ out) in
    (p.0, λ same. from_test (get_or sinks i d).file n p.1 (sym same))

-- no two files of distinct ones are the same
pub apart : (sinks : List Sink) (i j : ℕ) (d e : Sink) → AreDistinct (map (λ s. s.file) sinks) → i < j → j < length sinks → (get_or sinks i d).file ≢ (get_or sinks j e).file
apart sinks i j d e distinct before within same =
    let files : List (List ℕ) = map (λ (s : Sink). s.file) sinks in
    let size : length files ≡ length sinks = length-map sinks (λ (s : Sink). s.file) in
    let split : files ≡ take i files ++ get_or files i [] ∷ drop (i + 1) files =
    sym (take-append-drop i files) ∙ ap (λ (rest : List (List ℕ)). take i files ++ rest) (drop_more files i [] (omega arith)) in
    let none = distinct (take i files) (drop (i + 1) files) (get_or files i []) split in
    let here : i + 1 + (j - (i + 1)) ≡ j = omega arith in
    let there : get_or (drop (i + 1) files) (j - (i + 1)) [] ≡ get_or files j [] = get_or-drop (i + 1) files (j - (i + 1)) [] ∙ ap (λ (k : ℕ). get_or files k []) here in
    let first : get_or files i [] ≡ (get_or sinks i d).file = get_or-map (λ (s : Sink). s.file) sinks i d [] (omega arith) in
    let second : get_or files j [] ≡ (get_or sinks j e).file = get_or-map (λ (s : Sink). s.file) sinks j e [] within in
    let long : j - (i + 1) < length (drop (i + 1) files) = let h = length-drop (i + 1) files in omega (arith, h, size) in
    let found = list_any_at (λ n. bytes_eq n (get_or files i [])) (drop (i + 1) files) (j - (i + 1)) [] long
    (same_name _ _ (there ∙ second ∙ sym same ∙ sym first)) in
    cc

-- the file of a later sink is none of those before
pub later_out : (sinks : List Sink) (i j : ℕ) (e : Sink) → AreDistinct (map (λ s. s.file) sinks) → i ≤ j → j < length sinks → is_file (take i sinks) (get_or sinks j e).file ≡ false
later_out sinks i j e distinct before within =
    not_among (take i sinks) (get_or sinks j e).file (λ k d small.
    let size = length-take i sinks in
    let below : k < i = omega (arith, size, small) in
    λ same. apart sinks k j d e distinct (omega arith) within (sym (ap (λ (s : Sink). s.file) (get_or-take i sinks k d below)) ∙ same))

-- the file of all sinks, and of their front
pub out_of_front : (sinks : List Sink) (count : ℕ) (n : List ℕ) → is_file sinks n ≡ false → is_file (take count sinks) n ≡ false
out_of_front sinks count n out = not_among (take count sinks) n (λ i d small same.
    let size = length-take count sinks in
    among_not sinks n i d out (omega (arith, size, small)) (ap (λ (s : Sink). s.file) (sym (get_or-take count sinks i d (omega (arith, size, small)))) ∙ same))

-- ---- the names of sinks and of the text after them

pub named : (sinks : List Sink) (n : List ℕ) → is_named (sink_names sinks) n ≡ is_file sinks n
named sinks n = any_map (λ (m : List ℕ). bytes_eq m n) (λ (s : Sink). s.file) sinks

-- a name that none of more names is
pub with_text : (names : List (List ℕ)) (x n : List ℕ) → is_named (names ++ x ∷ []) n ≡ false → (is_named names n ≡ false) × (n ≢ x)
with_text names x n out =
    let p = or_parts (is_named names n) (is_named (x ∷ []) n) (sym (list_any-append (λ (m : List ℕ). bytes_eq m n) names (x ∷ [])) ∙ out) in
    let q = or_parts (bytes_eq x n) false p.1 in
    (p.0, λ same. from_test x n q.0 (sym same))

pub outside : (sinks : List Sink) (last : Option TextFile) (n : List ℕ) → is_named (names_of sinks last) n ≡ false → is_file sinks n ≡ false
outside sinks None n out = sym (named sinks n) ∙ out
outside sinks (Some text) n out = sym (named sinks n) ∙ (with_text (sink_names sinks) text.file n out).0

-- the first names are those of the first sinks
pub taken : (sinks : List Sink) (last : Option TextFile) (place : ℕ) → place ≤ length sinks → take place (names_of sinks last) ≡ sink_names (take place sinks)
taken sinks None place within = take-map (λ (s : Sink). s.file) place sinks
taken sinks (Some text) place within =
    take-append-le place (sink_names sinks) (text.file ∷ []) (let size = length-map sinks (λ (s : Sink). s.file) in omega (arith, size, within))
    ∙ take-map (λ (s : Sink). s.file) place sinks

pub named_at : (sinks : List Sink) (place : ℕ) (s : Sink) → slice_get sinks place ≡ Some s → slice_get (sink_names sinks) place ≡ Some s.file
named_at sinks place s e = slice_get-map (λ (s : Sink). s.file) sinks place ∙ ap (option_map (λ (s : Sink). s.file)) e

pub named_of : (sinks : List Sink) (last : Option TextFile) (place : ℕ) (s : Sink) → slice_get sinks place ≡ Some s → slice_get (names_of sinks last) place ≡ Some s.file
named_of sinks None place s e = named_at sinks place s e
named_of sinks (Some text) place s e = append_front (sink_names sinks) (text.file ∷ []) place s.file (named_at sinks place s e)

pub named_last : (sinks : List Sink) (text : TextFile) → slice_get (names_of sinks (Some text)) (length sinks) ≡ Some text.file
named_last sinks text =
    ap (λ (k : ℕ). slice_get (names_of sinks (Some text)) k) (sym (length-map sinks (λ (s : Sink). s.file))) ∙ append_last (sink_names sinks) text.file

-- a sink's file isn't that of the text
pub apart_from : (sinks : List Sink) (text : TextFile) (k : ℕ) (d : Sink) → HasOwnFile sinks (Some text) → k < length sinks → (get_or sinks k d).file ≢ text.file
apart_from sinks text k d free within = among_not sinks text.file k d (sym (named sinks text.file) ∙ free) within

-- the files of the first sinks are those of the first names
pub emptied : (sinks : List Sink) (last : Option TextFile) (place : ℕ) (old new : Told) → place ≤ length sinks → SinksEmptied place sinks old new → EmptyBefore place (names_of sinks last) old new
emptied sinks last place old new within h =
    let same : take place (names_of sinks last) ≡ sink_names (take place sinks) = taken sinks last place within in
    record {
      empty = subst (All (λ n. new.holds n ≡ Some [])) (sym same) (All-map (λ n. new.holds n ≡ Some []) (λ (s : Sink). s.file) (take place sinks) h.empty);
      others = λ n out. h.others n (sym (named (take place sinks) n) ∙ ap (λ (ns : List (List ℕ)). is_named ns n) (sym same) ∙ out);
      scripts = λ n out. h.scripts n (sym (named (take place sinks) n) ∙ ap (λ (ns : List (List ℕ)). is_named ns n) (sym same) ∙ out);
    }

-- ---- what is told, one change after another

pub told_then : {A : Type 0} (a b c : Option A) (R S T : A → A → Type 0) → WhereTold a b R → WhereTold b c S → ((x y z : A) → R x y → S y z → T x z) → WhereTold a c T
told_then None b c R S T r s then_ = tt
told_then (Some x) None c R S T r s then_ = absurd r
told_then (Some x) (Some y) None R S T r s then_ = absurd s
told_then (Some x) (Some y) (Some z) R S T r s then_ = then_ x y z r s

pub told_itself : {A : Type 0} (a : Option A) (R : A → A → Type 0) → ((x : A) → R x x) → WhereTold a a R
told_itself None R same = tt
told_itself (Some x) R same = same x
