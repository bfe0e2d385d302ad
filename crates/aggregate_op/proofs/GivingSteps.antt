-- Groups and contents one by one.
use Rattle.std.proofs.Common.{◌≡◌, List, [], ◌∷◌, ◌++◌, length, map, Option, Some, None, refl, sym, ap, ◌∙◌, append_assoc, append-nil}
use Rattle.std.specs.Option.{option_and_then, option_map}
use Rattle.spl_value.specs.declared.item.Item.TheVariants as I
use Rattle.spl_value.specs.declared.value.Value.{Value}
use Rattle.language_model.specs.declared.outs.Output.{Output}
use Rattle.stream_model.specs.Bodies.{on_first}
use Rattle.stream_model.specs.Groups.{groups}
use Rattle.tuple_groups.proofs.Gathered.{one_group}
use Rattle.window_policy.specs.declared.fired.FlushedContent.{FlushedContent}
use Rattle.window_policy.specs.Answers.{entry_of}
use Rattle.aggregate_op.specs.declared.clauses.Clauses.{Clauses}
use Rattle.aggregate_op.specs.steps.Giving.{content_given, contents_given, groups_given, tuple_given}
use Rattle.aggregate_op.specs.steps.Summing.{answers_given, sums_given}

-- the first of several is there, where all are
first_there : {X : Type 0} (f : X → List Output) (o : Option X) (rest : Option (List Output)) (outs all : List Output)
    → option_map (λ more. outs ++ more) (option_and_then (λ x. option_map (λ more. f x ++ more) rest) o) ≡ Some all → (x : X) × (o ≡ Some x)
first_there f None rest outs all e = absurd cc
first_there f (Some x) rest outs all e = (x, refl)

first_more : {X : Type 0} (f : X → List Output) (o : Option X) (rest : Option (List Output)) (outs new all : List Output) (x : X) → o ≡ Some x → new ≡ outs ++ f x
    → option_map (λ more. outs ++ more) (option_and_then (λ x. option_map (λ more. f x ++ more) rest) o) ≡ Some all → option_map (λ more. new ++ more) rest ≡ Some all
first_more f o rest outs new all x is added e =
    by rest (sym (ap (λ p. option_map (λ more. outs ++ more) (option_and_then (λ x. option_map (λ more. f x ++ more) rest) p)) is) ∙ e)
  where
    by : (rest : Option (List Output)) → option_map (λ more. outs ++ more) (option_map (λ more. f x ++ more) rest) ≡ Some all → option_map (λ more. new ++ more) rest ≡ Some all
    by None e = absurd cc
    by (Some more) e = ap (λ os. Some (os ++ more)) added ∙ ap Some (append_assoc outs (f x) more) ∙ e

module _ (clauses : Clauses) where
  pub group_there : (g : List Value × List (List Value)) (gs rest : List (List Value × List (List Value))) (outs all : List Output) → gs ≡ g ∷ rest
      → option_map (λ more. outs ++ more) (groups_given clauses gs) ≡ Some all → (vs : List Value) × (tuple_given clauses g.1 ≡ Some vs)
  group_there g gs rest outs all is e =
      first_there (λ t. on_first (I.Tuple t)) (tuple_given clauses g.1) (groups_given clauses rest) outs all
      (ap (λ hs. option_map (λ more. outs ++ more) (groups_given clauses hs)) (sym is) ∙ e)

  pub group_more : (g : List Value × List (List Value)) (gs rest : List (List Value × List (List Value))) (outs new all : List Output) (vs : List Value) → gs ≡ g ∷ rest
      → tuple_given clauses g.1 ≡ Some vs → new ≡ outs ++ on_first (I.Tuple vs) → option_map (λ more. outs ++ more) (groups_given clauses gs) ≡ Some all
      → option_map (λ more. new ++ more) (groups_given clauses rest) ≡ Some all
  group_more g gs rest outs new all vs is t added e =
      first_more (λ t. on_first (I.Tuple t)) (tuple_given clauses g.1) (groups_given clauses rest) outs new all vs t added
      (ap (λ hs. option_map (λ more. outs ++ more) (groups_given clauses hs)) (sym is) ∙ e)

  -- all tuples as one group give one tuple, where there are some
  pub together_there : (us : List (List Value)) (given : List Output) → (length us ≡ 0 → ⊥) → groups_given clauses (groups [] us) ≡ Some given
      → (vs : List Value) × (tuple_given clauses us ≡ Some vs) × (on_first (I.Tuple vs) ++ [] ≡ given)
  together_there us given some e = by (tuple_given clauses us) (sym (ap (groups_given clauses) (one_group us some)) ∙ e)
    where
      by : (o : Option (List Value)) → option_and_then (λ t. option_map (λ outs. on_first (I.Tuple t) ++ outs) (Some [])) o ≡ Some given
          → (vs : List Value) × (o ≡ Some vs) × (on_first (I.Tuple vs) ++ [] ≡ given)
      by None e = absurd cc
      by (Some vs) e = (vs, refl, let same : on_first (I.Tuple vs) ++ [] ≡ given = cc in same)

  pub content_there : (us : List (List Value)) (cs rest : List (List (List Value))) (outs all : List Output) → cs ≡ us ∷ rest
      → option_map (λ more. outs ++ more) (contents_given clauses cs) ≡ Some all → (given : List Output) × (content_given clauses us ≡ Some given)
  content_there us cs rest outs all is e =
      first_there (λ os. os) (content_given clauses us) (contents_given clauses rest) outs all
      (ap (λ ds. option_map (λ more. outs ++ more) (contents_given clauses ds)) (sym is) ∙ e)

  pub content_more : (us : List (List Value)) (cs rest : List (List (List Value))) (outs new all given : List Output) → cs ≡ us ∷ rest
      → content_given clauses us ≡ Some given → new ≡ outs ++ given → option_map (λ more. outs ++ more) (contents_given clauses cs) ≡ Some all
      → option_map (λ more. new ++ more) (contents_given clauses rest) ≡ Some all
  content_more us cs rest outs new all given is t added e =
      first_more (λ os. os) (content_given clauses us) (contents_given clauses rest) outs new all given t added
      (ap (λ ds. option_map (λ more. outs ++ more) (contents_given clauses ds)) (sym is) ∙ e)

  -- the same by the answers of the folds
  pub answers_there : (answers : List Value) (cs rest : List (List Value)) (outs all : List Output) → cs ≡ answers ∷ rest
      → option_map (λ more. outs ++ more) (sums_given clauses cs) ≡ Some all → (given : List Output) × (answers_given clauses answers ≡ Some given)
  answers_there answers cs rest outs all is e =
      first_there (λ os. os) (answers_given clauses answers) (sums_given clauses rest) outs all
      (ap (λ ds. option_map (λ more. outs ++ more) (sums_given clauses ds)) (sym is) ∙ e)

  pub answers_more : (answers : List Value) (cs rest : List (List Value)) (outs new all given : List Output) → cs ≡ answers ∷ rest
      → answers_given clauses answers ≡ Some given → new ≡ outs ++ given → option_map (λ more. outs ++ more) (sums_given clauses cs) ≡ Some all
      → option_map (λ more. new ++ more) (sums_given clauses rest) ≡ Some all
  answers_more answers cs rest outs new all given is t added e =
      first_more (λ os. os) (answers_given clauses answers) (sums_given clauses rest) outs new all given t added
      (ap (λ ds. option_map (λ more. outs ++ more) (sums_given clauses ds)) (sym is) ∙ e)

-- the contents that a marker flushes
abbrev pub tuples_in : List FlushedContent → List (List (List Value))
tuples_in flushed = map (λ (e : FlushedContent). e.tuples) flushed

pub flushed_tuples : (flushed : List FlushedContent) (es : List (List Value × List (List Value))) → map entry_of flushed ≡ es → tuples_in flushed ≡ map (λ e. e.1) es
flushed_tuples flushed es is = by flushed ∙ ap (map (λ e. e.1)) is
  where
    by : (flushed : List FlushedContent) → tuples_in flushed ≡ map (λ e. e.1) (map entry_of flushed)
    by [] = refl
    by (e ∷ flushed) = ap (λ cs. e.tuples ∷ cs) (by flushed)

-- one content alone
abbrev alone : Option (List Output) → Option (List Output)
alone o = option_and_then (λ outs. option_map (λ more. outs ++ more) (Some [])) o

alone_there : (o : Option (List Output)) (given : List Output) → alone o ≡ Some given → (outs : List Output) × (o ≡ Some outs)
alone_there None given e = absurd cc
alone_there (Some outs) given e = (outs, refl)

alone_given : (o : Option (List Output)) (outs old new : List Output) → o ≡ Some outs → old ≡ [] → new ≡ old ++ outs → alone o ≡ Some new
alone_given o outs old new e none added = ap alone e ∙ ap Some (append-nil outs ∙ sym (added ∙ ap (λ os. os ++ outs) none))

module _ (clauses : Clauses) where
  pub one_there : (us : List (List Value)) (given : List Output) → contents_given clauses (us ∷ []) ≡ Some given → (outs : List Output) × (content_given clauses us ≡ Some outs)
  one_there us given e = alone_there (content_given clauses us) given e

  pub one_given : (us : List (List Value)) (outs old new : List Output) → content_given clauses us ≡ Some outs → old ≡ [] → new ≡ old ++ outs
      → contents_given clauses (us ∷ []) ≡ Some new
  one_given us outs old new e none added = alone_given (content_given clauses us) outs old new e none added

  pub one_answer_there : (answers : List Value) (given : List Output) → sums_given clauses (answers ∷ []) ≡ Some given → (outs : List Output) × (answers_given clauses answers ≡ Some outs)
  one_answer_there answers given e = alone_there (answers_given clauses answers) given e

  pub one_answer_given : (answers : List Value) (outs old new : List Output) → answers_given clauses answers ≡ Some outs → old ≡ [] → new ≡ old ++ outs
      → sums_given clauses (answers ∷ []) ≡ Some new
  one_answer_given answers outs old new e none added = alone_given (answers_given clauses answers) outs old new e none added
