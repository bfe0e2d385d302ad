-- The files of operators that calls answer, as the definitions see them.
use Rattle.spl_tree.specs.Trees.{placed}
use Rattle.language_model.specs.SinkFiles.{OpFile}
use Rattle.duplicate_rules.specs.declared.files.UsedFile.{UsedFile}

abbrev pub file_seen : UsedFile → OpFile
file_seen f = record { sink = f.sink; file = placed f.at f.bytes.now }
