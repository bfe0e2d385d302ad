-- The refusals of programs, and what is told of them.
use Rattle.std.specs.Prelude.{ℕ, Bool, true, false, List, codes, Some, None}
use Rattle.spl_tree.specs.declared.expression.Placed.{Placed}
use Rattle.spl_tree.specs.declared.token.LexicalError.TheVariants as L
use Rattle.language_model.specs.declared.expansion.ExpansionError.{ExpansionError}
use Rattle.language_model.specs.declared.expansion.ExpansionError.TheVariants as E
use Rattle.language_model.specs.declared.expansion.ExpansionRefusal.{ExpansionRefusal}
use Rattle.language_model.specs.declared.refusal.Code.{Code}
use Rattle.language_model.specs.declared.refusal.Code.TheVariants as C
use Rattle.language_model.specs.declared.refusal.Refusal.{Refusal}
use Rattle.language_model.specs.declared.scope.CheckError.TheVariants as Q
use Rattle.language_model.specs.declared.scope.CheckRefusal.{CheckRefusal}

-- ---- refusals by the expansion: about a name at its place, and about none

abbrev pub named_refusal : ExpansionError → Placed (List ℕ) → ExpansionRefusal
named_refusal error p = record { error = error; at = p.at; name = Some p.what }

abbrev pub unnamed_refusal : ExpansionError → ℕ → ExpansionRefusal
unnamed_refusal error at = record { error = error; at = at; name = None }

-- ---- refusals of programs: by the tokens and the grammar, by the expansion, and by the checks

abbrev pub refusal_by : Code → ℕ → Refusal
refusal_by code at = record { code = code; at = at; name = None }

abbrev pub expansion_refusal : ExpansionRefusal → Refusal
expansion_refusal r = record { code = C.Expansion r.error; at = r.at; name = r.name }

abbrev pub check_refusal : CheckRefusal → Refusal
check_refusal r = record { code = C.Check r.error; at = r.at; name = r.name }

-- ---- what is told

-- the letter and the digit of a code, and whether a refusal with it is told with its name
abbrev pub told_code : Code → List ℕ × Bool
told_code (C.Lexical L.BadByte) = (codes "L1", false)
told_code (C.Lexical L.OpenText) = (codes "L2", false)
told_code (C.Lexical L.OpenComment) = (codes "L3", false)
told_code (C.Lexical L.BadNumber) = (codes "L4", false)
told_code (C.Lexical L.TooLong) = (codes "L5", false)
told_code C.Unexpected = (codes "S1", false)
told_code C.TooDeep = (codes "S2", false)
told_code (C.Expansion E.NoMain) = (codes "E1", false)
told_code (C.Expansion E.Recursive) = (codes "E2", true)
told_code (C.Expansion E.Twice) = (codes "E3", true)
told_code (C.Expansion E.Loop) = (codes "E4", true)
told_code (C.Expansion E.SameFile) = (codes "E5", true)
told_code (C.Expansion E.TooMany) = (codes "E6", false)
told_code (C.Expansion E.Unknown) = (codes "E7", true)
told_code (C.Expansion E.Ports) = (codes "E8", true)
told_code (C.Check Q.Unknown) = (codes "Y1", true)
told_code (C.Check Q.Mismatch) = (codes "Y2", false)
told_code (C.Check Q.NotMutable) = (codes "Y3", false)
told_code (C.Check Q.WrongCall) = (codes "Y4", false)
told_code (C.Check Q.LeftOut) = (codes "Y5", true)
told_code (C.Check Q.NoReturn) = (codes "Y6", true)
told_code (C.Check Q.MissingParameter) = (codes "C1", true)
told_code (C.Check Q.ExtraParameter) = (codes "C2", true)
told_code (C.Check Q.BadWindow) = (codes "C3", false)
told_code (C.Check Q.BadOutput) = (codes "C4", false)
told_code (C.Check Q.PortCount) = (codes "C5", false)
told_code (C.Check Q.NoTextForm) = (codes "C6", false)
