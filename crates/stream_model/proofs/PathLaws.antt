-- What a filter and a sink give for a stream, item by item: the proofs of the laws on paths.
use Rattle.std.specs.Prelude.{ℕ, Bool, true, false, List, [], ◌∷◌, ◌++◌, ◌≡◌, map, length, Option, is_some, if◌then◌else◌}
use Rattle.std.specs.Option.{option_and_then}
use Rattle.std.proofs.Common.{refl, sym, ap, ◌∙◌, suc, zero}
use Rattle.std.proofs.lemmas.Grind.{flat_map-append}
use Rattle.spl_value.specs.declared.item.Item.{Item}
use Rattle.spl_value.specs.declared.item.Item.TheVariants as I
use Rattle.spl_tree.specs.declared.body.Function.{Function}
use Rattle.spl_tree.specs.declared.code.Code.{Code}
use Rattle.spl_tree.specs.declared.code.Slot.{Slot}
use Rattle.stream_model.specs.Stream.{Event, came}
use Rattle.language_model.specs.Outcomes.{Outcome, Done, Faulted, Stuck, followed}
use Rattle.spl_value.specs.declared.item.FaultKind.{FaultKind}
use Rattle.spl_value.specs.declared.item.FaultKind.TheVariants as K
use Rattle.language_model.specs.declared.checked.CheckedClauses.TheVariants as A
use Rattle.language_model.specs.declared.checked.PortTypes.{PortTypes}
use Rattle.language_model.specs.StreamTypes.{Attributes}
use Rattle.stream_model.specs.Operators.{Operator}
use Rattle.stream_model.specs.Bodies.{Makes, at_tuple, most_turns, passes, on_first, on_each}
use Rattle.stream_model.specs.React.{answer, answered, ended_by}
use Rattle.stream_model.specs.Stages.{gives_all, on_port, out}
use Rattle.stream_model.specs.Laws.{is_made, IsOrdered, IsNumbered}
use Rattle.stream_model.proofs.OrderLaws.{IsOrdered-nil, IsOrdered-cons, at_only}
use Rattle.stream_model.specs.Rows.{item_text, text_of}
use Rattle.stream_model.specs.Ends.{fault_of, stream_fault, end_from}
use Rattle.stream_model.specs.parts.Ends.{operator_fault}
use Rattle.stream_model.proofs.StageLaws.{stage_at, one_in, one_in-parts, gives_all-over}
use Rattle.stream_model.specs.PathLaws.{fault_by, pass, passed, path_filter, path_graph, path_sink, path_source, written}

filter_from : (n s t : ℕ) (functions : List Function) (types : PortTypes) (condition : Option (Code Slot)) (seen : List Event) (items : List Item)
    → on_port 0 (gives_all (stage_at (one_in n (A.Filter condition) functions types s (t ∷ [])) seen false) (map (came 0) items)) ≡ passed n functions condition items
filter_from n s t functions types condition seen [] = refl
filter_from n s t functions types condition seen (I.Tuple vs ∷ items) =
    go (one_in n (A.Filter condition) functions types s (t ∷ [])) (came 0 (I.Tuple vs) ∷ seen) refl refl (passes functions condition (at_tuple vs) most_turns)
    (filter_from n s t functions types condition (came 0 (I.Tuple vs) ∷ seen) items)
  where
    made : Outcome Bool → Makes
    made o = followed o (λ b turns. Done (if b then on_first (I.Tuple vs) else []) turns)

    fault : (op : Operator) (next : List Event) → op.number ≡ n → op.outs ≡ t ∷ [] → (kind : FaultKind)
        → on_port 0 (on_each (length op.outs) (I.Bad (fault_by op.number kind)) ++ gives_all (stage_at op next true) (map (came 0) items)) ≡ I.Bad (fault_by n kind) ∷ []
    fault op next number outs kind =
        ap (λ (ts : List ℕ). on_port 0 (on_each (length ts) (I.Bad (fault_by op.number kind)) ++ gives_all (stage_at op next true) (map (came 0) items))) outs
        ∙ (λ i. I.Bad (fault_by (number i) kind) ∷ on_port 0 (gives_all-over (stage_at op next true) (map (came 0) items) refl i))

    go : (op : Operator) (next : List Event) → op.number ≡ n → op.outs ≡ t ∷ [] → (o : Outcome Bool)
        → on_port 0 (gives_all (stage_at op next false) (map (came 0) items)) ≡ passed n functions condition items
        → on_port 0 (answered op false (answer (made o)) ++ gives_all (stage_at op next (is_some (ended_by op false (answer (made o))))) (map (came 0) items))
        ≡ pass n o vs (passed n functions condition items)
    go op next number outs (Done true turns) more = ap (λ xs. I.Tuple vs ∷ xs) more
    go op next number outs (Done false turns) more = more
    go op next number outs (Faulted kind) more = fault op next number outs kind
    go op next number outs Stuck more = fault op next number outs K.BadRow
filter_from n s t functions types condition seen (I.Window ∷ items) = ap (λ xs. I.Window ∷ xs) (filter_from n s t functions types condition (came 0 I.Window ∷ seen) items)
filter_from n s t functions types condition seen (I.Final ∷ items) =
    ap (λ outs. I.Final ∷ on_port 0 outs) (gives_all-over (stage_at (one_in n (A.Filter condition) functions types s (t ∷ [])) (came 0 I.Final ∷ seen) true) (map (came 0) items) refl)
filter_from n s t functions types condition seen (I.Bad f ∷ items) =
    ap (λ outs. I.Bad f ∷ on_port 0 outs) (gives_all-over (stage_at (one_in n (A.Filter condition) functions types s (t ∷ [])) (came 0 (I.Bad f) ∷ seen) true) (map (came 0) items) refl)

-- what a filter gives for a stream
pub filter_out : (op : Operator) (condition : Option (Code Slot)) (s t : ℕ) (items : List Item)
    → op.clauses ≡ A.Filter condition → op.ins ≡ (s ∷ []) ∷ [] → op.outs ≡ t ∷ [] → out op 0 (map (came 0) items) ≡ passed op.number op.functions condition items
filter_out op condition s t items k i o =
    ap (λ (one : Operator). out one 0 (map (came 0) items)) (one_in-parts op (A.Filter condition) s (t ∷ []) k i o)
    ∙ filter_from op.number s t op.functions op.types condition [] items

sink_from : (n s : ℕ) (functions : List Function) (types : PortTypes) (file : List ℕ) (seen : List Event) (items : List Item)
    → on_port 0 (gives_all (stage_at (one_in n (A.FileSink file) functions types s []) seen false) (map (came 0) items)) ≡ written items
sink_from n s functions types file seen [] = refl
sink_from n s functions types file seen (I.Tuple vs ∷ items) = ap (λ xs. I.Tuple vs ∷ xs) (sink_from n s functions types file (came 0 (I.Tuple vs) ∷ seen) items)
sink_from n s functions types file seen (I.Window ∷ items) = sink_from n s functions types file (came 0 I.Window ∷ seen) items
sink_from n s functions types file seen (I.Final ∷ items) =
    ap (on_port 0) (gives_all-over (stage_at (one_in n (A.FileSink file) functions types s []) (came 0 I.Final ∷ seen) true) (map (came 0) items) refl)
sink_from n s functions types file seen (I.Bad f ∷ items) =
    ap (on_port 0) (gives_all-over (stage_at (one_in n (A.FileSink file) functions types s []) (came 0 (I.Bad f) ∷ seen) true) (map (came 0) items) refl)

-- what a sink gives to its writer for a stream
pub sink_out : (op : Operator) (file : List ℕ) (s : ℕ) (items : List Item)
    → op.clauses ≡ A.FileSink file → op.ins ≡ (s ∷ []) ∷ [] → op.outs ≡ [] → out op 0 (map (came 0) items) ≡ written items
sink_out op file s items k i o =
    ap (λ (one : Operator). out one 0 (map (came 0) items)) (one_in-parts op (A.FileSink file) s [] k i o)
    ∙ sink_from op.number s op.functions op.types file [] items

-- the text of two lists of items is the first one's and then the second one's
pub text_of-append : (first second : List Item) → text_of (first ++ second) ≡ text_of first ++ text_of second
text_of-append first second = flat_map-append item_text first second

-- each operator reads only what an earlier one makes
pub path_is_ordered : (schema : Attributes) (source : List ℕ) (strict : Bool) (condition : Option (Code Slot)) (sink : List ℕ)
    → IsOrdered (path_graph schema source strict condition sink).ops
path_is_ordered schema source strict condition sink =
    IsOrdered-cons (path_source schema source strict) (path_filter schema condition ∷ path_sink schema sink ∷ [])
    (at_only 0 (λ s. is_made (path_filter schema condition ∷ path_sink schema sink ∷ []) s ≡ false) refl) (λ s r. cc)
    (IsOrdered-cons (path_filter schema condition) (path_sink schema sink ∷ [])
    (λ s m. refl) (at_only 0 (λ s. is_made (path_filter schema condition ∷ path_sink schema sink ∷ []) s ≡ false) refl)
    (IsOrdered-cons (path_sink schema sink) [] (λ s m. cc) (λ s r. refl) IsOrdered-nil))

-- the operators are numbered in the order of declaration
pub path_is_numbered : (schema : Attributes) (source : List ℕ) (strict : Bool) (condition : Option (Code Slot)) (sink : List ℕ)
    → IsNumbered (path_graph schema source strict condition sink)
path_is_numbered schema source strict condition sink zero op e = let same : path_source schema source strict ≡ op = cc in ap (λ (o : Operator). o.number) (sym same)
path_is_numbered schema source strict condition sink (suc zero) op e = let same : path_filter schema condition ≡ op = cc in ap (λ (o : Operator). o.number) (sym same)
path_is_numbered schema source strict condition sink (suc (suc zero)) op e = let same : path_sink schema sink ≡ op = cc in ap (λ (o : Operator). o.number) (sym same)
path_is_numbered schema source strict condition sink (suc (suc (suc n))) op e = absurd cc

-- a sink ends with the fault that its stream does
sink_fault_from : (n s : ℕ) (functions : List Function) (types : PortTypes) (file : List ℕ) (seen : List Event) (items : List Item)
    → option_and_then fault_of (end_from (stage_at (one_in n (A.FileSink file) functions types s []) seen false) (map (came 0) items)) ≡ stream_fault items
sink_fault_from n s functions types file seen [] = refl
sink_fault_from n s functions types file seen (I.Tuple vs ∷ items) = sink_fault_from n s functions types file (came 0 (I.Tuple vs) ∷ seen) items
sink_fault_from n s functions types file seen (I.Window ∷ items) = sink_fault_from n s functions types file (came 0 I.Window ∷ seen) items
sink_fault_from n s functions types file seen (I.Final ∷ items) = refl
sink_fault_from n s functions types file seen (I.Bad f ∷ items) = refl

-- the fault of a sink's operator is the one that ends its stream
pub sink_fault : (op : Operator) (file : List ℕ) (s : ℕ) (items : List Item)
    → op.clauses ≡ A.FileSink file → op.ins ≡ (s ∷ []) ∷ [] → op.outs ≡ [] → operator_fault op (map (came 0) items) ≡ stream_fault items
sink_fault op file s items k i o =
    ap (λ (one : Operator). operator_fault one (map (came 0) items)) (one_in-parts op (A.FileSink file) s [] k i o)
    ∙ sink_fault_from op.number s op.functions op.types file [] items
