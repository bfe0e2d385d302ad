-- What a code takes of another one.
use Rattle.std.specs.Prelude.{List, Option, Some, None}
use Rattle.spl_tree.specs.declared.code.Code.{Code-F}
use Rattle.spl_tree.specs.declared.code.Code.TheOpen as O
use Rattle.spl_tree.specs.declared.code.Selector.{Selector}

-- Of which code members, elements or values are taken, and these in turn.
abbrev pub selection : {N C : Type 0} → Code-F N C → Option (C × List (Selector C))
selection (O.Select base selectors) = Some (base, selectors)
selection _ = None
