-- Arguments are read one after another.
use Rattle.std.proofs.Common.{◌≡◌, ◌<◌, ◌+◌, ℕ, List, ◌∷◌, length, map, get_or, drop, sym, ap, ◌∙◌, arith}
use Rattle.std.specs.Prelude.{Option}
use Rattle.std.specs.String.{string_bytes}
use Rattle.std.specs.declared.string.String.{String}
use Rattle.std.specs.declared.alloc.Global.{Global}
use Rattle.std.proofs.lemmas.List.{drop-map, drop_more}
use Rattle.command_line.specs.declared.arguments.Argument.{Argument}
use Rattle.command_line.specs.declared.arguments.Word.{Word}
use Rattle.command_line.specs.declared.arguments.Word.TheVariants.{Whole, Named}
use Rattle.command_line.specs.Arguments.{valued, word_of, onto, texts, arguments, with_value}

-- the texts from a word on
pub texts_at : (ws : List (String Global)) (at : ℕ) (w : String Global) → at < length ws → w ≡ get_or ws at w
    → drop at (texts ws) ≡ string_bytes w ∷ drop (at + 1) (texts ws)
texts_at ws at w h e =
    let f : String Global → List ℕ = string_bytes in
    drop-map f at ws ∙ ap (map f) (drop_more ws at w h) ∙ (λ i. f (sym e i) ∷ sym (drop-map f (at + 1) ws) i)

-- what the first word is, in front of what the others are
abbrev pub in_front : List (List ℕ) → Word → Option (List Argument)
in_front words (Whole argument) = onto argument (arguments words)
in_front words (Named name) = with_value name words

pub first_word : (word : List ℕ) (words : List (List ℕ)) (w : Word) → w ≡ word_of word → in_front words w ≡ arguments (word ∷ words)
first_word word words w is = ap (in_front words) is

first_at : (ws : List (String Global)) (at : ℕ) (w : String Global) (found : Word) → at < length ws → w ≡ get_or ws at w → found ≡ word_of (string_bytes w)
    → in_front (drop (at + 1) (texts ws)) found ≡ arguments (drop at (texts ws))
first_at ws at w found h e is = first_word (string_bytes w) (drop (at + 1) (texts ws)) found is ∙ ap arguments (sym (texts_at ws at w h e))

-- a word that is an argument by itself
pub whole_at : (ws : List (String Global)) (at : ℕ) (w : String Global) (found : Option Argument) → at < length ws → w ≡ get_or ws at w
    → Whole found ≡ word_of (string_bytes w) → onto found (arguments (drop (at + 1) (texts ws))) ≡ arguments (drop at (texts ws))
whole_at ws at w found h e is = first_at ws at w (Whole found) h e is

-- an option whose value is the next word
pub valued_at : (ws : List (String Global)) (at : ℕ) (w v : String Global) (name : List ℕ) → at + 1 < length ws → w ≡ get_or ws at w → v ≡ get_or ws (at + 1) v
    → Named name ≡ word_of (string_bytes w) → onto (valued name (string_bytes v)) (arguments (drop (at + 2) (texts ws))) ≡ arguments (drop at (texts ws))
valued_at ws at w v name h e g is =
    let behind : at + 2 ≡ at + 1 + 1 = omega arith in
    ap (λ n. onto (valued name (string_bytes v)) (arguments (drop n (texts ws)))) behind
    ∙ ap (with_value name) (sym (texts_at ws (at + 1) v h g))
    ∙ first_at ws at w (Named name) (omega arith) e is
