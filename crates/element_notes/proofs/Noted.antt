-- What an element has noted.
use Rattle.std.proofs.Common.{ℕ, ◌+◌, ◌-◌, ◌<◌, ◌≤◌, ◌^◌, min, nat_lt, Bool, true, false, cond, List, [], ◌∷◌, ◌++◌, ◌≡◌, length, map, replicate, set, take, refl, sym, ap, ◌∙◌, arith, None, Some, slice_get}
use Rattle.std.proofs.lemmas.List.{length-replicate, length-set}
use Rattle.std.proofs.lemmas.Option.{slice_get-get_or, slice_get_within}
use Rattle.spl_value.specs.declared.packet.Packet.{Packet}
use Rattle.spl_value.specs.declared.value.Value.{Value}
use Rattle.stream_model.specs.Operators.{Operator, ports}
use Rattle.stream_model.specs.Sending.{on_output, outgoing}
use Rattle.stream_model.specs.declared.outgoing.Outgoing.{Outgoing}
use Rattle.network_model.specs.Networks.{Part, FromSource, FromLinks, Splitter, Replica, Merger, outputs}
use Rattle.network_model.specs.Packets.{items_in}
use Rattle.network_model.specs.Receipts.{Receipt}
use Rattle.network_model.proofs.RegionParts.{merged-none}
use Rattle.operator_chains.specs.declared.how.How.TheVariants as H
use Rattle.operator_chains.specs.Hows.{stream_how}
use Rattle.element_notes.specs.declared.ending.Ending.{Ending}
use Rattle.element_notes.specs.declared.notes.Notes.{Notes}
use Rattle.element_notes.specs.Endings.{IsEnding, arrivals_of, ends_as, how_ended, how_passed, is_recorded, sent_on}
use Rattle.element_notes.specs.Noting.{HasNoted, with_how}
use Rattle.element_notes.proofs.Counting.{Counts, counts_all, counts_back, counts_kept, counts_more, counts_none, counts_past, counts_same, poured-more}
use Rattle.element_notes.proofs.UnreadPorts.{ends_stand}

-- what is put changes the counts alone
abbrev pub with_sent : Notes → List ℕ → Notes
with_sent notes sent = record { records = notes.records; arrivals = notes.arrivals; how = notes.how; ends = notes.ends; sent = sent; poured = notes.poured }

counted : (part : Part) (notes : Notes) (sent : List ℕ) (kept : List Receipt) (pushed after : List Outgoing) (poured : List (List Value))
    → HasNoted part notes kept pushed poured → length sent ≡ length notes.sent → Counts sent after → HasNoted part (with_sent notes sent) kept after poured
counted part notes sent kept pushed after poured has count is = record {
  records = has.records;
  arrivals = has.arrivals;
  how = has.how;
  ends = has.ends;
  sent_count = count ∙ has.sent_count;
  sent = is;
  tuples = has.tuples;
}

pub put_item : (notes : Notes) (o m : ℕ) (p : Packet) → length (items_in (p ∷ [])) ≡ 1 → slice_get notes.sent o ≡ Some m
    → (part : Part) (kept : List Receipt) (pushed : List Outgoing) (poured : List (List Value)) → HasNoted part notes kept pushed poured
    → HasNoted part (with_sent notes (set notes.sent o (min (m + 1) (2 ^ 64 - 1)))) kept (pushed ++ outgoing o p ∷ []) poured
put_item notes o m p one had part kept pushed poured has =
    counted part notes (set notes.sent o (min (m + 1) (2 ^ 64 - 1))) kept pushed (pushed ++ outgoing o p ∷ []) poured has (length-set notes.sent o (min (m + 1) (2 ^ 64 - 1)))
    (counts_more notes.sent o m p pushed has.sent had (slice_get_within notes.sent o m had) one)

pub put_other : (notes : Notes) (o : ℕ) (p : Packet) → length (items_in (p ∷ [])) ≡ 0
    → (part : Part) (kept : List Receipt) (pushed : List Outgoing) (poured : List (List Value)) → HasNoted part notes kept pushed poured
    → HasNoted part notes kept (pushed ++ outgoing o p ∷ []) poured
put_other notes o p none part kept pushed poured has = record {
  records = has.records;
  arrivals = has.arrivals;
  how = has.how;
  ends = has.ends;
  sent_count = has.sent_count;
  sent = counts_same notes.sent o p pushed has.sent none;
  tuples = has.tuples;
}

-- on an output that there isn't
pub put_past : (notes : Notes) (o : ℕ) (p : Packet) → None ≡ slice_get notes.sent o
    → (part : Part) (kept : List Receipt) (pushed : List Outgoing) (poured : List (List Value)) → HasNoted part notes kept pushed poured
    → HasNoted part notes kept (pushed ++ outgoing o p ∷ []) poured
put_past notes o p none part kept pushed poured has =
    counted part notes notes.sent kept pushed (pushed ++ outgoing o p ∷ []) poured has refl
    (counts_past notes.sent o p pushed has.sent (λ n got. let clash : None ≡ Some n = none ∙ got in cc))

-- the count of an output before
pub was_sent : (notes : Notes) (o m : ℕ) → slice_get notes.sent o ≡ Some m → (part : Part) (kept : List Receipt) (pushed : List Outgoing) (poured : List (List Value))
    → HasNoted part notes kept pushed poured → m ≡ sent_on o pushed
was_sent notes o m had part kept pushed poured has = has.sent o m had

pub none_sent : (notes : Notes) (o m : ℕ) → None ≡ slice_get notes.sent o → (part : Part) (kept : List Receipt) (pushed : List Outgoing) (poured : List (List Value))
    → HasNoted part notes kept pushed poured → o < outputs part → m ≡ sent_on o pushed
none_sent notes o m none part kept pushed poured has within =
    let l : o < length notes.sent = (let count = has.sent_count in omega (arith, within, count)) in
    let clash = none ∙ slice_get-get_or notes.sent o 0 l in cc

-- a packet is given back
pub given_back : (notes : Notes) (o m : ℕ) → o < length notes.sent
    → (part : Part) (kept : List Receipt) (pushed : List Outgoing) (poured : List (List Value)) (p : Packet) → HasNoted part notes kept (pushed ++ outgoing o p ∷ []) poured
    → (o < outputs part → m ≡ sent_on o pushed) → HasNoted part (with_sent notes (set notes.sent o m)) kept pushed poured
given_back notes o m l part kept pushed poured p has was =
    counted part notes (set notes.sent o m) kept (pushed ++ outgoing o p ∷ []) pushed poured has (length-set notes.sent o m)
    (counts_back notes.sent o m p pushed has.sent (was (let count = has.sent_count in omega (arith, l, count))) l)

pub not_given_back : (notes : Notes) (o : ℕ) → (o < length notes.sent → ⊥)
    → (part : Part) (kept : List Receipt) (pushed : List Outgoing) (poured : List (List Value)) (p : Packet) → HasNoted part notes kept (pushed ++ outgoing o p ∷ []) poured
    → HasNoted part notes kept pushed poured
not_given_back notes o past part kept pushed poured p has =
    counted part notes notes.sent kept (pushed ++ outgoing o p ∷ []) pushed poured has refl
    (counts_kept notes.sent o p pushed has.sent (λ n got. past (slice_get_within notes.sent o n got)))

-- ---- the ending

-- a list that was written over whole
take_front : {A : Type 0} (xs ys : List A) → take (length xs) (xs ++ ys) ≡ xs
take_front [] ys = refl
take_front (x ∷ xs) ys = ap (λ z. x ∷ z) (take_front xs ys)

pub written : {A : Type 0} (xs ys : List A) (n : ℕ) → length xs ≡ n → take n (xs ++ ys) ≡ xs
written xs ys n l = ap (λ k. take k (xs ++ ys)) (sym l) ∙ take_front xs ys

pub ends_so : (part : Part) (notes : Notes) (kept : List Receipt) (pushed : List Outgoing) (poured : List (List Value)) (cut : Bool) (ending : Ending) → HasNoted part notes kept pushed poured
    → ending.arrivals ≡ notes.arrivals.items → ending.ends ≡ map (with_how notes.how) notes.ends → ending.sent ≡ notes.sent → ending.tuples ≡ notes.poured → ending.cut ≡ cut
    → IsEnding part kept pushed poured cut ending
ends_so part notes kept pushed poured cut ending has arrivals ends sent tuples was_cut = record {
  arrivals = arrivals ∙ has.arrivals;
  ends = ends ∙ ap (map (with_how notes.how)) has.ends ∙ ends_stand part notes.how ∙ ap (ends_as part) has.how;
  sent = sent ∙ counts_all (outputs part) notes.sent pushed has.sent_count has.sent;
  tuples = tuples ∙ has.tuples;
  was_cut = was_cut;
}

-- ---- the beginning

-- nothing is taken
nothing_recorded : (part : Part) → [] ≡ arrivals_of part []
nothing_recorded (FromSource source ops outs) = refl
nothing_recorded (FromLinks op ops outs) = go (nat_lt 1 (length (ports op)))
  where
    go : (b : Bool) → [] ≡ cond {A = List ℕ} b [] []
    go true = refl
    go false = refl
nothing_recorded (Splitter region) = refl
nothing_recorded (Replica region channel) = refl
nothing_recorded (Merger region outs) = refl

still_live : (ops : List Operator) → H.Live ≡ how_passed H.Live ops []
still_live [] = refl
still_live (op ∷ ops) = still_live ops

nothing_ended : (part : Part) → H.Live ≡ how_ended part []
nothing_ended (FromSource source ops outs) = still_live ops
nothing_ended (FromLinks op ops outs) = still_live ops
nothing_ended (Splitter region) = refl
nothing_ended (Replica region channel) = refl
nothing_ended (Merger region outs) = ap stream_how (sym (merged-none region.rule region.width))

pub noted_first : (part : Part) (notes : Notes) → notes.records ≡ is_recorded part → notes.arrivals.items ≡ [] → notes.how ≡ H.Live → notes.ends ≡ ends_as part H.Live
    → notes.sent ≡ replicate (outputs part) 0 → notes.poured ≡ 0 → HasNoted part notes [] [] []
noted_first part notes records arrivals how ends sent poured = record {
  records = records;
  arrivals = arrivals ∙ nothing_recorded part;
  how = how ∙ nothing_ended part;
  ends = ends;
  sent_count = ap length sent ∙ length-replicate (outputs part) 0;
  sent = λ o n got. counts_none (outputs part) o n (ap (λ ns. slice_get ns o) (sym sent) ∙ got);
  tuples = poured;
}

-- ---- what is taken and poured

-- the same but for the room
pub same_noted : (old new : Notes) → new.records ≡ old.records → new.arrivals.items ≡ old.arrivals.items → new.how ≡ old.how → new.ends ≡ old.ends → new.sent ≡ old.sent → new.poured ≡ old.poured
    → (part : Part) (kept : List Receipt) (pushed : List Outgoing) (poured : List (List Value)) → HasNoted part old kept pushed poured → HasNoted part new kept pushed poured
same_noted old new records arrivals how ends sent count part kept pushed poured has = record {
  records = records ∙ has.records;
  arrivals = arrivals ∙ has.arrivals;
  how = how ∙ has.how;
  ends = ends ∙ has.ends;
  sent_count = ap length sent ∙ has.sent_count;
  sent = λ o n got. has.sent o n (ap (λ ns. slice_get ns o) (sym sent) ∙ got);
  tuples = count ∙ has.tuples;
}

pub taken_noted : (old new : Notes) (recorded : Bool) (input : ℕ) → new.records ≡ old.records → new.arrivals.items ≡ cond recorded (old.arrivals.items ++ input ∷ []) old.arrivals.items
    → new.ends ≡ old.ends → new.sent ≡ old.sent → new.poured ≡ old.poured
    → (part : Part) (kept more : List Receipt) (pushed : List Outgoing) (poured : List (List Value)) → HasNoted part old kept pushed poured
    → arrivals_of part more ≡ cond recorded (arrivals_of part kept ++ input ∷ []) (arrivals_of part kept) → new.how ≡ how_ended part more → HasNoted part new more pushed poured
taken_noted old new recorded input records arrivals ends sent count part kept more pushed poured has entries how = record {
  records = records ∙ has.records;
  arrivals = arrivals ∙ ap (λ is. cond recorded (is ++ input ∷ []) is) has.arrivals ∙ sym entries;
  how = how;
  ends = ends ∙ has.ends;
  sent_count = ap length sent ∙ has.sent_count;
  sent = λ o n got. has.sent o n (ap (λ ns. slice_get ns o) (sym sent) ∙ got);
  tuples = count ∙ has.tuples;
}

pub poured_noted : (old new : Notes) → new.records ≡ old.records → new.arrivals.items ≡ old.arrivals.items → new.how ≡ old.how → new.ends ≡ old.ends → new.sent ≡ old.sent
    → new.poured ≡ min (old.poured + 1) (2 ^ 64 - 1)
    → (part : Part) (kept : List Receipt) (pushed : List Outgoing) (poured : List (List Value)) (tuple : List Value) → HasNoted part old kept pushed poured
    → HasNoted part new kept pushed (poured ++ tuple ∷ [])
poured_noted old new records arrivals how ends sent count part kept pushed poured tuple has = record {
  records = records ∙ has.records;
  arrivals = arrivals ∙ has.arrivals;
  how = how ∙ has.how;
  ends = ends ∙ has.ends;
  sent_count = ap length sent ∙ has.sent_count;
  sent = λ o n got. has.sent o n (ap (λ ns. slice_get ns o) (sym sent) ∙ got);
  tuples = count ∙ poured-more old.poured poured tuple has.tuples;
}
