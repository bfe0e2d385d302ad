-- Files that are used already, by those before them.
use Rattle.std.specs.Prelude.{◌≡◌, ℕ, Bool, false, ◌&&◌, ◌||◌, List, map, reverse}
use Rattle.std.specs.List.{list_any}
use Rattle.std.specs.Str.{bytes_eq}
use Rattle.std.proofs.Common.{ap, sym, ◌∙◌}
use Rattle.language_model.specs.Declarations.{is_same}
use Rattle.language_model.specs.SinkFiles.{OpFile, is_had}
use Rattle.duplicate_rules.specs.declared.files.UsedFile.{UsedFile}
use Rattle.duplicate_rules.specs.steps.Seen.{file_seen}
use Rattle.spl_value.proofs.Lists.{any_map, any_reverse}

-- ---- those before a file

-- the files so far, the last one first
abbrev pub before : List UsedFile → List OpFile
before files = reverse (map file_seen files)

pub had_is : (names : List (List ℕ)) (files : List UsedFile) (file : UsedFile) (shared : Bool)
    → (file.sink && list_any (λ n. bytes_eq n file.bytes.now) names) ≡ false
    → shared ≡ list_any (λ g. bytes_eq g.bytes.now file.bytes.now && (file.sink || g.sink)) files
    → shared ≡ is_had names (before files) (file_seen file)
had_is names files file shared n s =
    s
    ∙ sym (any_reverse (λ g. is_same g.file (file_seen file).file && (file.sink || g.sink)) (map file_seen files)
    ∙ any_map (λ g. is_same g.file (file_seen file).file && (file.sink || g.sink)) file_seen files)
    ∙ ap (λ b. b || list_any (λ g. is_same g.file (file_seen file).file && (file.sink || g.sink)) (before files)) (sym n)
