-- The variable that a statement declares.
use Rattle.std.specs.Prelude.{Option, Some, None}
use Rattle.spl_tree.specs.declared.statement.StmtKind.{StmtKind}
use Rattle.spl_tree.specs.declared.statement.StmtKind.TheOpen as Z
use Rattle.spl_tree.specs.declared.statement.StmtKind.TheOpen.{StmtKind-F}
use Rattle.spl_tree.specs.declared.statement.StmtKind.TheViews.{out-StmtKind}
use Rattle.language_model.specs.Declarations.{Name}

abbrev pub level_variable : {A : Type 0} → StmtKind-F A → Option Name
level_variable (Z.Declare d) = Some d.name
level_variable _ = None

abbrev pub own_variable : StmtKind → Option Name
own_variable s = level_variable (out-StmtKind s)
