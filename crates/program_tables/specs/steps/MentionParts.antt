-- What the calls that collect mentions add, against the definition.
use Rattle.std.specs.Prelude.{◌≡◌, List, [], ◌++◌, flat_map, Option, Result, Ok, Err}
use Rattle.std.specs.Option.{option_map_or}
use Rattle.spl_value.specs.declared.memory.NoMemory.{NoMemory}
use Rattle.spl_tree.specs.declared.expression.Placed.{Placed}
use Rattle.spl_tree.specs.declared.expression.Field.{Field}
use Rattle.spl_tree.specs.declared.expression.Step.{Step}
use Rattle.spl_tree.specs.declared.expression.Step.TheVariants as N
use Rattle.spl_tree.specs.declared.unit.Handler.{Handler}
use Rattle.spl_tree.specs.declared.unit.Logic.{Logic}
use Rattle.spl_tree.specs.declared.unit.OutputAssignments.{OutputAssignments}
use Rattle.spl_tree.specs.declared.unit.PortWindow.{PortWindow}
use Rattle.spl_tree.specs.Trees.{Expr, Stmt}
use Rattle.language_model.specs.Mentions.{Mentions, expr_mentions, block_mentions, logic_mentions}
use Rattle.language_model.specs.parts.Mentions.{statement_mentions, window_mentions, assignment_mentions}
use Rattle.program_tables.specs.declared.mentions.Mention.{Mention}
use Rattle.program_tables.specs.Mentioned.{mentions_seen}

-- these come after what was there
abbrev pub Adds : List (Placed Mention) → List (Placed Mention) → Mentions → Result (Unit {0}) NoMemory → Type 0
Adds before after ms (Ok u) = mentions_seen after ≡ mentions_seen before ++ ms
Adds before after ms (Err e) = Unit {0}

abbrev pub entry_mentions : Expr × Expr → Mentions
entry_mentions e = expr_mentions e.0 ++ expr_mentions e.1

abbrev pub field_mentions : Field Expr → Mentions
field_mentions f = expr_mentions f.value

abbrev pub step_mentions : Step Expr → Mentions
step_mentions (N.Member m) = []
step_mentions (N.Index e) = expr_mentions e

abbrev pub arm_mentions : Expr × Stmt → Mentions
arm_mentions a = expr_mentions a.0 ++ statement_mentions a.1.what

abbrev pub other_mentions : Option Stmt → Mentions
other_mentions s = option_map_or (λ s. statement_mentions s.what) s []

abbrev pub handler_mentions : Placed Handler → Mentions
handler_mentions h = block_mentions h.what.body

abbrev pub some_logic_mentions : Option (Placed Logic) → Mentions
some_logic_mentions l = option_map_or (λ l. logic_mentions l.what) l []

abbrev pub some_window_mentions : Option (Placed (List PortWindow)) → Mentions
some_window_mentions w = option_map_or (λ w. flat_map window_mentions w.what) w []

abbrev pub some_output_mentions : Option (Placed (List OutputAssignments)) → Mentions
some_output_mentions o = option_map_or (λ o. flat_map assignment_mentions o.what) o []
