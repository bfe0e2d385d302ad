-- Programs that are refused, each with its graph.
use Rattle.std.specs.Prelude.{◌≡◌, List, [], ◌∷◌, Some, None, Ok, Err, codes}
use Rattle.std.proofs.Common.{refl}
use Rattle.spl_tree.specs.declared.graph.Graph.{Graph}
use Rattle.spl_tree.specs.declared.graph.OpKind.TheVariants as O
use Rattle.spl_tree.specs.declared.unit.Composite.{Composite}
use Rattle.spl_tree.specs.declared.unit.Definition.{Definition}
use Rattle.language_model.specs.declared.scope.CheckError.TheVariants as E
use Rattle.language_model.specs.declared.scope.CheckRefusal.{CheckRefusal}
use Rattle.language_model.specs.Checking.{checked}
use Rattle.language_model.specs.Declarations.{declared_twice}
use Rattle.language_model.specs.Flat.{IsMain, flat_from}
use Rattle.language_model.specs.Recursion.{IsNotRecursive}
use Rattle.language_model.specs.Scopes.{At}
use Rattle.language_model.specs.examples.FlatGraphs.{only_composite}
use Rattle.checked_literals.specs.examples.Refused.{IsRefused, graph_of, graph_with, refusal, sink_first, sink_first_graph, with_function, with_middle, another_type, another_width, break_alone, constant_changed, list_row, no_attribute, no_port, no_position, no_value, no_window, other_config, other_logic, other_state, other_window, two_inputs, unknown_name, unknown_parameter, unknown_without_position, config_without_index, no_group_attribute, partition_alone}
use Rattle.checked_literals.proofs.Falling.{not_recursive}
use Rattle.checked_literals.proofs.Flattened.{flat_as}
use Rattle.checked_literals.proofs.Rules.{computing}
use Rattle.checked_literals.proofs.Texts.{text_laws}

refused_as : (unit : List Definition) (main : At Composite) (g : Graph) (r : CheckRefusal) → IsMain unit main → IsNotRecursive unit → declared_twice unit ≡ None
    → flat_from unit [] main ≡ Ok g → checked unit g ≡ Err r → IsRefused unit g r
refused_as unit main g r is_main not_recursive none_twice expands found = (flat_as unit main g is_main not_recursive none_twice expands, found)

pub ports_refused : IsRefused (with_middle two_inputs) (graph_of O.Filter ((0 ∷ []) ∷ (0 ∷ []) ∷ [])) (refusal E.PortCount 108 None)
ports_refused =
    let unit = with_middle two_inputs in
    refused_as unit (only_composite unit) (graph_of O.Filter ((0 ∷ []) ∷ (0 ∷ []) ∷ [])) (refusal E.PortCount 108 None) (refl, refl) (not_recursive unit refl refl) (simp computing) (simp computing) (simp (computing, text_laws))

pub types_refused : IsRefused (with_middle another_type) (graph_with O.Filter) (refusal E.Mismatch 115 None)
types_refused =
    let unit = with_middle another_type in
    refused_as unit (only_composite unit) (graph_with O.Filter) (refusal E.Mismatch 115 None) (refl, refl) (not_recursive unit refl refl) (simp computing) (simp computing) (simp (computing, text_laws))

pub rows_refused : IsRefused (with_middle list_row) (graph_with O.Custom) (refusal E.NoTextForm 177 None)
rows_refused =
    let unit = with_middle list_row in
    refused_as unit (only_composite unit) (graph_with O.Custom) (refusal E.NoTextForm 177 None) (refl, refl) (not_recursive unit refl refl) (simp computing) (simp computing) (simp (computing, text_laws))

pub unknown_refused : IsRefused (with_middle unknown_name) (graph_with O.Filter) (refusal E.Unknown 158 (Some (codes "cost")))
unknown_refused =
    let unit = with_middle unknown_name in
    refused_as unit (only_composite unit) (graph_with O.Filter) (refusal E.Unknown 158 (Some (codes "cost"))) (refl, refl) (not_recursive unit refl refl) (simp computing) (simp computing) (simp (computing, text_laws))

pub width_refused : IsRefused (with_middle another_width) (graph_with O.Filter) (refusal E.Mismatch 166 None)
width_refused =
    let unit = with_middle another_width in
    refused_as unit (only_composite unit) (graph_with O.Filter) (refusal E.Mismatch 166 None) (refl, refl) (not_recursive unit refl refl) (simp computing) (simp computing) (simp (computing, text_laws))

pub parameter_refused : IsRefused (with_middle unknown_parameter) (graph_with O.Filter) (refusal E.ExtraParameter 150 (Some (codes "index")))
parameter_refused =
    let unit = with_middle unknown_parameter in
    refused_as unit (only_composite unit) (graph_with O.Filter) (refusal E.ExtraParameter 150 (Some (codes "index"))) (refl, refl) (not_recursive unit refl refl) (simp computing) (simp computing) (simp (computing, text_laws))

pub missing_refused : IsRefused (with_middle no_position) (graph_with O.Punctor) (refusal E.MissingParameter 108 (Some (codes "position")))
missing_refused =
    let unit = with_middle no_position in
    refused_as unit (only_composite unit) (graph_with O.Punctor) (refusal E.MissingParameter 108 (Some (codes "position"))) (refl, refl) (not_recursive unit refl refl) (simp computing) (simp computing) (simp (computing, text_laws))

pub window_refused : IsRefused (with_middle no_window) (graph_with O.Aggregate) (refusal E.BadWindow 108 None)
window_refused =
    let unit = with_middle no_window in
    refused_as unit (only_composite unit) (graph_with O.Aggregate) (refusal E.BadWindow 108 None) (refl, refl) (not_recursive unit refl refl) (simp computing) (simp computing) (simp (computing, text_laws))

pub partition_refused : IsRefused (with_middle partition_alone) (graph_with O.Aggregate) (refusal E.ExtraParameter 183 (Some (codes "partitionBy")))
partition_refused =
    let unit = with_middle partition_alone in
    refused_as unit (only_composite unit) (graph_with O.Aggregate) (refusal E.ExtraParameter 183 (Some (codes "partitionBy"))) (refl, refl) (not_recursive unit refl refl) (simp computing) (simp computing) (simp (computing, text_laws))

pub group_refused : IsRefused (with_middle no_group_attribute) (graph_with O.Aggregate) (refusal E.BadOutput 187 None)
group_refused =
    let unit = with_middle no_group_attribute in
    refused_as unit (only_composite unit) (graph_with O.Aggregate) (refusal E.BadOutput 187 None) (refl, refl) (not_recursive unit refl refl) (simp computing) (simp computing) (simp (computing, text_laws))

pub config_refused : IsRefused (with_middle other_config) (graph_with O.Filter) (refusal E.LeftOut 190 (Some (codes "host")))
config_refused =
    let unit = with_middle other_config in
    refused_as unit (only_composite unit) (graph_with O.Filter) (refusal E.LeftOut 190 (Some (codes "host"))) (refl, refl) (not_recursive unit refl refl) (simp computing) (simp computing) (simp (computing, text_laws))

pub extra_window_refused : IsRefused (with_middle other_window) (graph_with O.Filter) (refusal E.ExtraParameter 144 (Some (codes "window")))
extra_window_refused =
    let unit = with_middle other_window in
    refused_as unit (only_composite unit) (graph_with O.Filter) (refusal E.ExtraParameter 144 (Some (codes "window"))) (refl, refl) (not_recursive unit refl refl) (simp computing) (simp computing) (simp (computing, text_laws))

pub value_refused : IsRefused (with_middle no_value) (graph_with O.Functor) (refusal E.BadOutput 108 None)
value_refused =
    let unit = with_middle no_value in
    refused_as unit (only_composite unit) (graph_with O.Functor) (refusal E.BadOutput 108 None) (refl, refl) (not_recursive unit refl refl) (simp computing) (simp computing) (simp (computing, text_laws))

pub attribute_refused : IsRefused (with_middle no_attribute) (graph_with O.Functor) (refusal E.BadOutput 155 None)
attribute_refused =
    let unit = with_middle no_attribute in
    refused_as unit (only_composite unit) (graph_with O.Functor) (refusal E.BadOutput 155 None) (refl, refl) (not_recursive unit refl refl) (simp computing) (simp computing) (simp (computing, text_laws))

pub logic_refused : IsRefused (with_middle other_logic) (graph_with O.Filter) (refusal E.LeftOut 144 (Some (codes "logic")))
logic_refused =
    let unit = with_middle other_logic in
    refused_as unit (only_composite unit) (graph_with O.Filter) (refusal E.LeftOut 144 (Some (codes "logic"))) (refl, refl) (not_recursive unit refl refl) (simp computing) (simp computing) (simp (computing, text_laws))

pub state_refused : IsRefused (with_middle other_state) (graph_with O.Custom) (refusal E.LeftOut 167 (Some (codes "state")))
state_refused =
    let unit = with_middle other_state in
    refused_as unit (only_composite unit) (graph_with O.Custom) (refusal E.LeftOut 167 (Some (codes "state"))) (refl, refl) (not_recursive unit refl refl) (simp computing) (simp computing) (simp (computing, text_laws))

pub mutable_refused : IsRefused (with_middle constant_changed) (graph_with O.Custom) (refusal E.NotMutable 184 None)
mutable_refused =
    let unit = with_middle constant_changed in
    refused_as unit (only_composite unit) (graph_with O.Custom) (refusal E.NotMutable 184 None) (refl, refl) (not_recursive unit refl refl) (simp computing) (simp computing) (simp (computing, text_laws))

pub statement_refused : IsRefused (with_middle break_alone) (graph_with O.Custom) (refusal E.WrongCall 163 None)
statement_refused =
    let unit = with_middle break_alone in
    refused_as unit (only_composite unit) (graph_with O.Custom) (refusal E.WrongCall 163 None) (refl, refl) (not_recursive unit refl refl) (simp computing) (simp computing) (simp (computing, text_laws))

pub submit_refused : IsRefused (with_middle no_port) (graph_with O.Custom) (refusal E.Unknown 187 (Some (codes "C")))
submit_refused =
    let unit = with_middle no_port in
    refused_as unit (only_composite unit) (graph_with O.Custom) (refusal E.Unknown 187 (Some (codes "C"))) (refl, refl) (not_recursive unit refl refl) (simp computing) (simp computing) (simp (computing, text_laws))

pub types_first_refused : IsRefused (with_middle unknown_without_position) (graph_with O.Punctor) (refusal E.Unknown 164 (Some (codes "cost")))
types_first_refused =
    let unit = with_middle unknown_without_position in
    refused_as unit (only_composite unit) (graph_with O.Punctor) (refusal E.Unknown 164 (Some (codes "cost"))) (refl, refl) (not_recursive unit refl refl) (simp computing) (simp computing) (simp (computing, text_laws))

pub config_first_refused : IsRefused (with_middle config_without_index) (graph_with O.Split) (refusal E.LeftOut 150 (Some (codes "host")))
config_first_refused =
    let unit = with_middle config_without_index in
    refused_as unit (only_composite unit) (graph_with O.Split) (refusal E.LeftOut 150 (Some (codes "host"))) (refl, refl) (not_recursive unit refl refl) (simp computing) (simp computing) (simp (computing, text_laws))

pub function_refused : IsRefused (with_function unknown_name) (graph_with O.Filter) (refusal E.NoReturn 306 (Some (codes "f")))
function_refused =
    let unit = with_function unknown_name in
    refused_as unit (only_composite unit) (graph_with O.Filter) (refusal E.NoReturn 306 (Some (codes "f"))) (refl, refl) (not_recursive unit refl refl) (simp computing) (simp computing) (simp computing)

pub in_text_refused : IsRefused (sink_first unknown_name) sink_first_graph (refusal E.MissingParameter 177 (Some (codes "file")))
in_text_refused =
    let unit = sink_first unknown_name in
    refused_as unit (only_composite unit) sink_first_graph (refusal E.MissingParameter 177 (Some (codes "file"))) (refl, refl) (not_recursive unit refl refl) (simp computing) (simp computing) (simp (computing, text_laws))
