-- What the table of kinds says, kind by kind.
use Rattle.std.proofs.Common.{refl}
use Rattle.spl_tree.specs.declared.graph.OpKind.TheVariants as O
use Rattle.language_model.specs.Keeping as F
use Rattle.language_laws.specs.KindLaws.{KindNamesLaw, KindRowsLaw}

pub kind_names : KindNamesLaw
kind_names O.FileSource = refl
kind_names _ = refl

pub kind_rows : KindRowsLaw
kind_rows scope kind ins outs part (F.file_source file strict schema named text) = record { windows = refl; output = refl; logic = refl }
kind_rows scope kind ins outs part _ = record { windows = refl; output = refl; logic = refl }
