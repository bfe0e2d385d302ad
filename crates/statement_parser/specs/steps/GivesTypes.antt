-- What the call answers that looks for a type of one token.
use Rattle.std.specs.Prelude.{◌≡◌, false, List, Option, Some, None, Result, Ok, Err}
use Rattle.std.specs.Borrow.{Bor}
use Rattle.spl_tree.specs.declared.token.Token.{Token}
use Rattle.expr_parser.specs.declared.stop.Stop.{Stop}
use Rattle.expr_parser.specs.declared.stop.Stop.TheVariants as S
use Rattle.expr_parser.specs.Taken.{begins_with, TakenAs}
use Rattle.spl_tree.specs.Trees.{TypeExpr}
use Rattle.statement_parser.specs.Lines.{is_type, type_of}

-- a token that is a type by itself comes first, with these tokens after it, or none does
abbrev pub TypeFirst : List Token → Result (Option (TypeExpr × Bor (List Token))) Stop → Type 0
TypeFirst ts (Ok (Some found)) = TakenAs is_type type_of ts found.0 found.1.now
TypeFirst ts (Ok None) = begins_with is_type ts ≡ false
TypeFirst ts (Err (S.At rest)) = ⊥
TypeFirst ts (Err S.Memory) = Unit {0}
