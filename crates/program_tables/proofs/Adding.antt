-- One row of mentions after another.
use Rattle.std.proofs.Common.{◌≡◌, ◌∙◌, List, ◌++◌, Result, Ok, Err, ap, sym, append_assoc}
use Rattle.spl_value.specs.declared.memory.NoMemory.{NoMemory}
use Rattle.spl_tree.specs.declared.expression.Placed.{Placed}
use Rattle.language_model.specs.Mentions.{Mentions}
use Rattle.program_tables.specs.declared.mentions.Mention.{Mention}
use Rattle.program_tables.specs.Mentioned.{mentions_seen}
use Rattle.program_tables.specs.steps.MentionParts.{Adds}

-- what is added after rows that were added before
pub adds_behind : (before between after : List (Placed Mention)) (front ms all : Mentions) (r : Result (Unit {0}) NoMemory)
    → mentions_seen between ≡ mentions_seen before ++ front → Adds between after ms r → all ≡ front ++ ms → Adds before after all r
adds_behind before between after front ms all (Ok u) f a e =
    a ∙ ap (λ xs. xs ++ ms) f ∙ append_assoc (mentions_seen before) front ms ∙ ap (λ xs. mentions_seen before ++ xs) (sym e)
adds_behind before between after front ms all (Err x) f a e = tt

pub both_behind : (before between after front more : Mentions) → between ≡ before ++ front → after ≡ between ++ more
    → after ≡ before ++ (front ++ more)
both_behind before between after front more f m = m ∙ ap (λ xs. xs ++ more) f ∙ append_assoc before front more
