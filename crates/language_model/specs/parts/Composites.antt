-- Words for parts of the rules of composites, each of which says what one function gives.
use Rattle.std.specs.Prelude.{Bool, ◌&&◌, is_some}
use Rattle.std.specs.List.{list_all}
use Rattle.spl_tree.specs.declared.unit.Composite.{Composite}
use Rattle.language_model.specs.Composites.{has_no_ports}

-- a main composite has no ports, and each of its parameters has a default
abbrev pub may_be_main : Composite → Bool
may_be_main c = has_no_ports c && list_all (λ p. is_some p.default) c.parameters
