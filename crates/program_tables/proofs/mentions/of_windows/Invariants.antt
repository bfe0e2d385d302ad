use Rattle.std.proofs.Common.{◌≡◌, ◌++◌, flat_map, take}
use Rattle.language_model.specs.parts.Mentions.{window_mentions}
use Rattle.program_tables.specs.Mentioned.{mentions_seen}
use Rattle.program_tables.proofs.mentions.of_windows.Given as goal

abbrev pub invariant-loop-window : goal.invariant-loop-window
invariant-loop-window l = mentions_seen l.out.items ≡ mentions_seen l.fn.out.items ++ flat_map window_mentions (take l.window-index l.windows)
