-- Blocks, choices and loops, by what stands in them.
use Rattle.std.specs.Prelude.{Bool, true, List, Option, Ok}
use Rattle.spl_tree.specs.declared.body.Statement.{Statement}
use Rattle.spl_tree.specs.declared.body.Statement.TheVariants as T
use Rattle.spl_tree.specs.declared.expression.Placed.{Placed}
use Rattle.spl_tree.specs.Trees.{Expr}
use Rattle.language_model.specs.declared.scope.Scope.{Scope}
use Rattle.language_model.specs.BodyTyping.{Setting, Stated, alone, arms_typing, condition_typing, row_typing}
use Rattle.language_model.specs.parts.BodyTyping.{other_typing}
use Rattle.language_model.specs.Typing.{Found, after}

abbrev pub block_typing : Setting → Bool → Scope → List (Placed Stated) → Found Statement
block_typing setting inside scope ss = after (row_typing setting inside scope ss) (λ row. Ok (T.Block row))

abbrev pub if_typing : Setting → Bool → Scope → List (Expr × Placed Stated) → Option (Placed Stated) → Found Statement
if_typing setting inside scope arms other =
    after (arms_typing setting inside scope arms) (λ xs. after (other_typing setting inside scope other) (λ row. Ok (T.If xs row)))

abbrev pub while_typing : Setting → Scope → Expr → Placed Stated → Found Statement
while_typing setting scope c s = after (condition_typing scope c) (λ code. after (alone setting true scope s) (λ row. Ok (T.While code row)))
