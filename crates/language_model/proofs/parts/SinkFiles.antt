-- Words for parts of the rules of files.
use Rattle.std.specs.Prelude.{◌==◌, Bool}
use Rattle.spl_tree.specs.declared.graph.OpKind.{OpKind}
use Rattle.language_model.specs.Kinds.{rules_of}

-- an operator without inputs
abbrev pub is_source : OpKind → Bool
is_source kind = (rules_of kind).inputs.most == 0
