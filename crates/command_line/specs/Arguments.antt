-- The arguments that the words after a command are.
use Rattle.std.specs.Prelude.{◌+◌, ◌==◌, ℕ, Bool, false, not, List, [], ◌∷◌, map, take, drop, position, codes, Option, Some, None, if◌then◌else◌}
use Rattle.std.specs.String.{string_bytes}
use Rattle.std.specs.Str.{bytes_eq}
use Rattle.std.specs.declared.string.String.{String}
use Rattle.std.specs.declared.alloc.Global.{Global}
use Rattle.command_line.specs.declared.arguments.Argument.{Argument}
use Rattle.command_line.specs.declared.arguments.Argument.TheVariants.{File, Valued, Counts}
use Rattle.command_line.specs.declared.arguments.Word.{Word}
use Rattle.command_line.specs.declared.arguments.Word.TheVariants.{Whole, Named}

-- the bytes `-` and `=`
abbrev pub is_dash : ℕ → Bool
is_dash b = b == 45

abbrev pub is_equals : ℕ → Bool
is_equals b = b == 61

-- a file name or a value isn't empty and doesn't begin with `-`
abbrev pub is_plain : List ℕ → Bool
is_plain [] = false
is_plain (b ∷ bytes) = not (is_dash b)

-- an option with this value
abbrev pub valued : List ℕ → List ℕ → Option Argument
valued name value = if is_plain value then Some (Valued name value) else None

-- `name=VALUE`, where the first `=` ends the name, or `name`, whose value is the next word
abbrev pub cut_at : List ℕ → Option ℕ → Word
cut_at text None = Named text
cut_at text (Some at) = Whole (valued (take at text) (drop (at + 1) text))

-- what comes after `--`: `counts` alone has no value. A name that no command has, also the empty one, is refused with
-- the options of the command.
abbrev pub option_of : List ℕ → Word
option_of text = if bytes_eq text (codes "counts") then Whole (Some Counts) else cut_at text (position is_equals text)

-- what a word is by itself: a file name, what begins with `--`, or neither
abbrev pub word_of : List ℕ → Word
word_of word =
    if is_plain word then Whole (Some (File word)) else
    if bytes_eq (take 2 word) (codes "--") then option_of (drop 2 word) else Whole None

-- an argument in front of others
abbrev pub onto : Option Argument → Option (List Argument) → Option (List Argument)
onto None others = None
onto (Some argument) None = None
onto (Some argument) (Some others) = Some (argument ∷ others)

abbrev mutual
  -- the arguments that words are, if each is one by itself or belongs to one
  pub arguments : List (List ℕ) → Option (List Argument)
  arguments [] = Some []
  arguments (word ∷ words) =
      elim (word_of word) [ Whole argument ↦ onto argument (arguments words) | Named name ↦ with_value name words ]

  -- the word after `--name` is its value, whatever it looks like
  pub with_value : List ℕ → List (List ℕ) → Option (List Argument)
  with_value name [] = None
  with_value name (value ∷ words) = onto (valued name value) (arguments words)

-- the bytes of words
abbrev pub texts : List (String Global) → List (List ℕ)
texts words = map string_bytes words
