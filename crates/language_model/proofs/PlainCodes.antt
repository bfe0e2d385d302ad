-- Plain codes, form by form.
use Rattle.std.specs.Prelude.{◌≡◌, Bool}
use Rattle.std.proofs.Common.{ap, ◌∙◌}
use Rattle.spl_tree.specs.declared.code.Code.{Code}
use Rattle.spl_tree.specs.declared.code.Code.TheOpen.{Code-F}
use Rattle.spl_tree.specs.declared.code.Code.TheViews.{out-Code}
use Rattle.spl_tree.specs.declared.code.Code.TheFolds.{fold_out-Code, map-Code}
use Rattle.spl_tree.specs.declared.code.Slot.{Slot}
use Rattle.language_model.specs.LogicTyping.{level_plain}
use Rattle.language_model.specs.parts.LogicTyping.{is_plain}

pub plain_at : (code : Code Slot) (form : Code-F Slot (Code Slot)) → out-Code Slot code ≡ form → is_plain code ≡ level_plain (map-Code Slot (Code Slot) Bool is_plain form)
plain_at code form e = fold_out-Code Slot Bool level_plain code ∙ ap (λ y. level_plain (map-Code Slot (Code Slot) Bool is_plain y)) e
