-- Composites are equal in one way at most.
use Rattle.std.specs.Prelude.{List}
use Rattle.std.specs.Coded.{Coded-set, coded_list}
use Rattle.spl_tree.specs.contracts.unit.Composite as row
use Rattle.spl_tree.specs.declared.unit.Composite.{Composite}

pub same_composite : IsSet Composite
same_composite = Coded-set row.the_row.coded

pub same_composites : IsSet (List Composite)
same_composites = Coded-set (coded_list row.the_row.coded)
