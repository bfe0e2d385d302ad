-- The sources in expressions, an equation for each form that has one.
use Rattle.std.specs.Prelude.{◌≡◌, ℕ, List}
use Rattle.std.proofs.Common.{ap}
use Rattle.spl_tree.specs.declared.code.Code.{Code}
use Rattle.spl_tree.specs.declared.code.Code.TheVariants as V
use Rattle.spl_tree.specs.declared.code.Code.TheOpen as C
use Rattle.spl_tree.specs.declared.code.Slot.{Slot}
use Rattle.stream_model.specs.Copies.{attribute_alone, level_attribute, level_source, tuple_source}

pub name_alone : (slot : Slot) → attribute_alone (V.Name slot) ≡ level_attribute {A = Code Slot} (C.Name slot)
name_alone slot = ap level_attribute (V.outs-Name slot)

pub name_source : (a : ℕ) (slot : Slot) → tuple_source a (V.Name slot) ≡ level_source a (C.Name slot)
name_source a slot = ap (level_source a) (V.outs-Name slot)

pub literal_source : (a : ℕ) (fields : List (ℕ × Code Slot)) → tuple_source a (V.Tuple fields) ≡ level_source a (C.Tuple fields)
literal_source a fields = ap (level_source a) (V.outs-Tuple fields)

pub ruleset form_laws = (name_alone, name_source, literal_source)
