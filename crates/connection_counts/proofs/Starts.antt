-- The connections of an operator before any event: their ports, and that all are open.
use Rattle.std.proofs.Common.{◌≡◌, ◌<◌, ◌≤◌, ℕ, suc, ◌+◌, List, [], ◌∷◌, ◌++◌, map, length, slice_get, drop, Some, sym, ap, ◌∙◌, append_assoc, arith}
use Rattle.std.specs.Option.{option_map}
use Rattle.std.proofs.lemmas.Option.{slice_get-map}
use Rattle.spl_value.proofs.Lists.{get_below, next_rest, drop_past}
use Rattle.stream_model.specs.Operators.{Operator, ports, ports_from}
use Rattle.connection_counts.specs.Counting.{CountsOpen, open_at}
use Rattle.connection_counts.proofs.Counting.{all_open, port_open}
use Rattle.std.proofs.lemmas.List.{append-nil}

-- the inputs of a port so far and those to come are all
pub one_more_input : (before after xs : List ℕ) (port i j : ℕ) → i < length xs → j ≡ suc i → after ≡ before ++ port ∷ []
    → after ++ map (λ s. port) (drop j xs) ≡ before ++ map (λ s. port) (drop i xs)
one_more_input before after xs port i j lt next is =
    let there = get_below xs i lt in
    ap (λ k. after ++ map (λ s. port) (drop k xs)) next
    ∙ ap (λ ps. ps ++ map (λ s. port) (drop (suc i) xs)) is
    ∙ append_assoc before (port ∷ []) (map (λ s. port) (drop (suc i) xs))
    ∙ ap (λ rest. before ++ map (λ s. port) rest) (sym (next_rest xs i there.0 there.1))

-- the ports so far and those to come are all
pub one_more_port : (before after streams : List ℕ) (k j : ℕ) (ins : List (List ℕ)) → slice_get ins k ≡ Some streams → j ≡ suc k → after ≡ before ++ map (λ s. k) streams
    → after ++ ports_from j (drop j ins) ≡ before ++ ports_from k (drop k ins)
one_more_port before after streams k j ins at next is =
    ap (λ n. after ++ ports_from n (drop n ins)) next
    ∙ ap (λ ps. ps ++ ports_from (suc k) (drop (suc k) ins)) is
    ∙ append_assoc before (map (λ s. k) streams) (ports_from (suc k) (drop (suc k) ins))
    ∙ ap (λ rest. before ++ ports_from k rest) (sym (next_rest ins k streams at))

pub one_more_count : (before after : List ℕ) (streams : List ℕ) (k j : ℕ) (ins : List (List ℕ)) → slice_get ins k ≡ Some streams → j ≡ suc k → after ≡ before ++ length streams ∷ []
    → after ++ map length (drop j ins) ≡ before ++ map length (drop k ins)
one_more_count before after streams k j ins at next is =
    ap (λ n. after ++ map length (drop n ins)) next
    ∙ ap (λ ns. ns ++ map length (drop (suc k) ins)) is
    ∙ append_assoc before (length streams ∷ []) (map length (drop (suc k) ins))
    ∙ ap (λ rest. before ++ map length rest) (sym (next_rest ins k streams at))

-- where none are to come, these are all
pub no_more_inputs : (own initial xs : List ℕ) (port i : ℕ) → length xs ≤ i → own ++ map (λ s. port) (drop i xs) ≡ initial ++ map (λ s. port) xs → own ≡ initial ++ map (λ s. port) xs
no_more_inputs own initial xs port i all is = sym (append-nil own) ∙ ap (λ rest. own ++ map (λ s. port) rest) (sym (drop_past xs i all)) ∙ is

pub no_more_ports : (own : List ℕ) (k : ℕ) (ins : List (List ℕ)) → length ins ≤ k → own ++ ports_from k (drop k ins) ≡ ports_from 0 ins → own ≡ ports_from 0 ins
no_more_ports own k ins all is = sym (append-nil own) ∙ ap (λ rest. own ++ ports_from k rest) (sym (drop_past ins k all)) ∙ is

pub no_more_counts : (open_of : List ℕ) (k : ℕ) (ins : List (List ℕ)) → length ins ≤ k → open_of ++ map length (drop k ins) ≡ map length ins → open_of ≡ map length ins
no_more_counts open_of k ins all is = sym (append-nil open_of) ∙ ap (λ rest. open_of ++ map length rest) (sym (drop_past ins k all)) ∙ is

-- all connections are open, at each port and in all
pub counts_start : (op : Operator) (ins : List (List ℕ)) (own open_of : List ℕ) (left : ℕ) → op.ins ≡ ins → own ≡ ports_from 0 ins → open_of ≡ map length ins → left ≡ length own
    → CountsOpen op [] own open_of left
counts_start op ins own open_of left same ports_are open_are all = record {
  ports_are = ports_are ∙ ap (ports_from 0) (sym same);
  each = λ p below.
      let there = get_below op.ins p below in
      let here : 0 + p ≡ p = omega arith in
      ap (λ ns. slice_get ns p) (open_are ∙ ap (map length) (sym same)) ∙ slice_get-map length op.ins p ∙ ap (option_map length) there.1
      ∙ ap (λ n. Some n) (sym (ap (λ n. open_at op n []) (sym here) ∙ port_open op.ins 0 p 0 there.0 there.1));
  all = all ∙ ap length (ports_are ∙ ap (ports_from 0) (sym same)) ∙ sym (all_open (ports op) 0);
}
