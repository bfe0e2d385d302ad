-- The order of arguments doesn't matter.
use Rattle.std.proofs.Common.{◌≡◌, ◌≤◌, ◌&&◌, ℕ, Bool, true, false, List, [], ◌∷◌, ◌++◌, length, filter, refl, sym, ap, subst, ◌∙◌, arith, append_assoc, Some, None}
use Rattle.std.specs.Prelude.{Option, IfSome, is_some, option_and_then, codes, if◌then◌else◌}
use Rattle.std.specs.Option.{option_map, option_flatten}
use Rattle.std.specs.List.{filter_map, list_all}
use Rattle.std.proofs.lemmas.List.{length-append}
use Rattle.std.proofs.lemmas.List.Elements.{filter-append, filter_map-append}
use Rattle.std.proofs.lemmas.List.Folds.{list_all-append}
use Rattle.command_line.specs.declared.arguments.Argument.{Argument}
use Rattle.command_line.specs.declared.arguments.Word.{Word}
use Rattle.command_line.specs.declared.arguments.Word.TheVariants.{Whole, Named}
use Rattle.command_line.specs.declared.commands.Command.{Command}
use Rattle.command_line.specs.declared.commands.Command.TheVariants as C
use Rattle.command_line.specs.declared.request.Request.TheVariants.{Replay}
use Rattle.command_line.specs.Arguments.{valued, word_of, onto, arguments, with_value}
use Rattle.command_line.specs.Commands.{command_of, is_of}
use Rattle.command_line.specs.Options.{file_of, value_of, is_counts, at_most_one, read_by, number_within}
use Rattle.command_line.specs.Request.{other_than, run_of, simulate_of, make_of, request_with, request_given}
use Rattle.command_line.specs.RequestLaws.{AnyOrderLaw}
use Rattle.command_line.specs.steps.Steps.{with_front}
use Rattle.command_line.proofs.Reading.{in_front}

-- ---- arguments are read one after another

front_nil : (others : Option (List Argument)) → others ≡ with_front [] others
front_nil None = refl
front_nil (Some others) = refl

onto_front : (argument : Argument) (read : List Argument) (others : Option (List Argument)) → onto (Some argument) (with_front read others) ≡ with_front (argument ∷ read) others
onto_front argument read None = refl
onto_front argument read (Some others) = refl

-- words that are these arguments, and what they are with others after them
abbrev GoesOn : Option (List Argument) → Option (List Argument) → Option (List Argument) → Type 0
GoesOn here both others = IfSome here (λ read. both ≡ with_front read others)

onto_goes_on : (argument : Option Argument) (here both others : Option (List Argument)) → GoesOn here both others → GoesOn (onto argument here) (onto argument both) others
onto_goes_on None here both others h = tt
onto_goes_on (Some argument) None both others h = tt
onto_goes_on (Some argument) (Some read) both others h = ap (onto (Some argument)) h ∙ onto_front argument read others

by_word : (word : Word) (words others : List (List ℕ)) → GoesOn (arguments words) (arguments (words ++ others)) (arguments others)
    → ((name : List ℕ) → GoesOn (with_value name words) (with_value name (words ++ others)) (arguments others))
    → GoesOn (in_front words word) (in_front (words ++ others) word) (arguments others)
by_word (Whole argument) words others h valued = onto_goes_on argument (arguments words) (arguments (words ++ others)) (arguments others) h
by_word (Named name) words others h valued = valued name

mutual
  goes_on : (words others : List (List ℕ)) → GoesOn (arguments words) (arguments (words ++ others)) (arguments others)
  goes_on [] others = front_nil (arguments others)
  goes_on (word ∷ words) others = by_word (word_of word) words others (goes_on words others) (λ name. value_goes_on words others name)

  value_goes_on : (words others : List (List ℕ)) (name : List ℕ) → GoesOn (with_value name words) (with_value name (words ++ others)) (arguments others)
  value_goes_on [] others name = tt
  value_goes_on (value ∷ words) others name = onto_goes_on (valued name value) (arguments words) (arguments (words ++ others)) (arguments others) (goes_on words others)

append_arguments : (words others : List (List ℕ)) (read : List Argument) → arguments words ≡ Some read → arguments (words ++ others) ≡ with_front read (arguments others)
append_arguments words others read e = let P : Option (List Argument) → Type 0 = λ here. GoesOn here (arguments (words ++ others)) (arguments others) in subst P e (goes_on words others)

-- ---- what is given at most once

several : {A : Type 0} (xs : List A) → 2 ≤ length xs → at_most_one xs ≡ None
several [] h = absurd (omega arith)
several (x ∷ []) h = absurd (omega arith)
several (x ∷ y ∷ xs) h = refl

two_within : {A : Type 0} (us xs ys vs : List A) (x y : A) → at_most_one (us ++ (x ∷ xs ++ (y ∷ ys ++ vs))) ≡ None
two_within us xs ys vs x y =
    several (us ++ (x ∷ xs ++ (y ∷ ys ++ vs))) (omega (arith, length-append us (x ∷ xs ++ (y ∷ ys ++ vs)), length-append xs (y ∷ ys ++ vs)))

swapped_at_most_one : {A : Type 0} (us xs ys vs : List A) → at_most_one (us ++ (xs ++ (ys ++ vs))) ≡ at_most_one (us ++ (ys ++ (xs ++ vs)))
swapped_at_most_one us [] ys vs = refl
swapped_at_most_one us (x ∷ xs) [] vs = refl
swapped_at_most_one us (x ∷ xs) (y ∷ ys) vs = two_within us xs ys vs x y ∙ sym (two_within us ys xs vs y x)

and_swapped : (a b c d : Bool) → (a && (b && (c && d))) ≡ (a && (c && (b && d)))
and_swapped false b c d = refl
and_swapped true false false d = refl
and_swapped true false true d = refl
and_swapped true true false d = refl
and_swapped true true true d = refl

-- ---- requests

module _ (us xs ys vs : List Argument) where
  abbrev one : List Argument
  one = us ++ (xs ++ (ys ++ vs))

  abbrev other : List Argument
  other = us ++ (ys ++ (xs ++ vs))

  parts : {B : Type 0} (pick : Argument → Option B) (a b c d : List Argument)
      → filter_map pick (a ++ (b ++ (c ++ d))) ≡ filter_map pick a ++ (filter_map pick b ++ (filter_map pick c ++ filter_map pick d))
  parts pick a b c d = simp filter_map-append

  picked : {B : Type 0} (pick : Argument → Option B) → at_most_one (filter_map pick one) ≡ at_most_one (filter_map pick other)
  picked pick =
      ap at_most_one (parts pick us xs ys vs)
      ∙ swapped_at_most_one (filter_map pick us) (filter_map pick xs) (filter_map pick ys) (filter_map pick vs)
      ∙ sym (ap at_most_one (parts pick us ys xs vs))

  kept : (test : Argument → Bool) (a b c d : List Argument) → filter test (a ++ (b ++ (c ++ d))) ≡ filter test a ++ (filter test b ++ (filter test c ++ filter test d))
  kept test a b c d = simp filter-append

  flags : at_most_one (filter is_counts one) ≡ at_most_one (filter is_counts other)
  flags =
      ap at_most_one (kept is_counts us xs ys vs)
      ∙ swapped_at_most_one (filter is_counts us) (filter is_counts xs) (filter is_counts ys) (filter is_counts vs)
      ∙ sym (ap at_most_one (kept is_counts us ys xs vs))

  all : (test : Argument → Bool) → list_all test one ≡ list_all test other
  all test = simp list_all-append (and_swapped (list_all test us) (list_all test xs) (list_all test ys) (list_all test vs))

  same_with : (command : Command) (file : List ℕ) → request_with command one file ≡ request_with command other file
  same_with C.Check file = refl
  same_with C.Plan file = refl
  same_with C.Run file = λ i.
      run_of
      file
      (option_and_then (read_by (number_within 1 16)) (picked (value_of (codes "width")) i))
      (option_and_then (read_by (number_within 1 64)) (picked (value_of (codes "workers")) i))
      (option_and_then (read_by (number_within 18 4096)) (picked (value_of (codes "capacity")) i))
      (option_and_then (read_by (other_than file)) (picked (value_of (codes "arrivals")) i))
      (option_map is_some (flags i))
  same_with C.Replay file = λ i. option_map (Replay file) (option_flatten (option_and_then (read_by (other_than file)) (picked (value_of (codes "arrivals")) i)))
  same_with C.Simulate file = λ i.
      simulate_of
      file
      (option_flatten (option_and_then (read_by (number_within 1 16)) (picked (value_of (codes "width")) i)))
      (option_flatten (option_and_then (read_by (number_within 0 2147483647)) (picked (value_of (codes "schedule")) i)))
      (option_and_then (read_by (number_within 1 1000000000)) (picked (value_of (codes "steps")) i))
  same_with C.Make file = λ i.
      make_of
      file
      (option_flatten (option_and_then (read_by (number_within 0 10000000)) (picked (value_of (codes "rows")) i)))
      (option_flatten (option_and_then (read_by (number_within 0 2147483647)) (picked (value_of (codes "start")) i)))

  same_given : (command : Command) → request_given command one ≡ request_given command other
  same_given command = λ i. if all (λ argument. is_of command argument) i then option_and_then (λ file. same_with command file i) (option_flatten (picked file_of i)) else None

fronts : (us xs ys : List Argument) (others : Option (List Argument)) (command : Command)
    → option_and_then (request_given command) (with_front us (with_front xs (with_front ys others)))
    ≡ option_and_then (request_given command) (with_front us (with_front ys (with_front xs others)))
fronts us xs ys None command = refl
fronts us xs ys (Some vs) command = same_given us xs ys vs command

-- the arguments of words in four parts
in_parts : (before ones others behind : List (List ℕ)) (us xs ys : List Argument) → arguments before ≡ Some us → arguments ones ≡ Some xs → arguments others ≡ Some ys
    → arguments (before ++ ones ++ others ++ behind) ≡ with_front us (with_front xs (with_front ys (arguments behind)))
in_parts before ones others behind us xs ys e f g =
    ap arguments (append_assoc (before ++ ones) others behind ∙ append_assoc before ones (others ++ behind))
    ∙ append_arguments before (ones ++ (others ++ behind)) us e
    ∙ ap (with_front us) (append_arguments ones (others ++ behind) xs f ∙ ap (with_front xs) (append_arguments others behind ys g))

pub any_order : AnyOrderLaw
any_order word before ones others behind us xs ys e f g =
    ap (λ found. option_and_then (λ command. option_and_then (request_given command) found) (command_of word)) (in_parts before ones others behind us xs ys e f g)
    ∙ (λ i. option_and_then (λ command. fronts us xs ys (arguments behind) command i) (command_of word))
    ∙ ap (λ found. option_and_then (λ command. option_and_then (request_given command) found) (command_of word)) (sym (in_parts before others ones behind us ys xs e g f))
