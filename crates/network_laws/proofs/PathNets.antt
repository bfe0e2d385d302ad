-- The network of a source, a filter and a sink is wired, and its lists of events are legal and come to their end.
use Rattle.std.proofs.Common.{ℕ, zero, suc, ◌<◌, true, [], ◌∷◌, ◌≡◌, inl, inr, refl, sym, arith, subst, length, Some, None, slice_get, codes}
use Rattle.stream_model.specs.Operators.{Operator}
use Rattle.stream_model.specs.examples.CheckedGraphs.{texts}
use Rattle.stream_model.proofs.PathLaws.{path_is_ordered, path_is_numbered}
use Rattle.network_model.specs.Packets.{has_last}
use Rattle.network_model.specs.Networks.{RegionPart, Splitter, inputs, outputs}
use Rattle.network_model.specs.Receipts.{popped}
use Rattle.network_model.specs.States.{State, begin, all_taken, after_all}
use Rattle.network_model.specs.Legal.{IsLegal, AllDone, Clean}
use Rattle.network_model.specs.Joined.{lists_of}
use Rattle.network_model.specs.Wiring.{PortsFit, PartFits, LinkFits, Fed, Led, IsWired}
use Rattle.network_model.specs.Flow.{IsUnder}
use Rattle.network_laws.specs.RegionStreams.{RegionsHold}
use Rattle.stream_model.specs.Meaning.{Meaning}
use Rattle.network_laws.specs.examples.PathNet.{file_sink, file_source, plain_filter, some_graph, path_net, path_part, path_link, path_list, cut_list, path_rows, no_entries}

one-port : (op : Operator) → (s : ℕ) → op.outs ≡ s ∷ [] → PortsFit op (0 ∷ [])
one-port op s e zero p at = let first : 0 ≡ p = cc in subst (λ outs. p < length outs) (sym e) (omega (arith, first))
one-port op s e (suc o) p at = absurd (cc)

pub parts : (e : ℕ) → e < 3 → PartFits some_graph (path_part e)
parts zero lt = record {
  stands = record { before = []; behind = plain_filter ∷ file_sink ∷ []; are = refl };
  reads = refl;
  stream = 0;
  one_stream = refl;
  path = tt;
  fit = one-port file_source 0 refl;
}
parts (suc zero) lt = record {
  stands = record { before = file_source ∷ []; behind = file_sink ∷ []; are = refl };
  no_source = refl;
  reads = omega arith;
  path = tt;
  fit = one-port plain_filter 1 refl;
}
parts (suc (suc n)) lt = record {
  stands = record { before = file_source ∷ plain_filter ∷ []; behind = []; are = refl };
  no_source = refl;
  reads = omega arith;
  path = tt;
  fit = λ o p at. absurd (none o p at);
}
  where
    none : (o p : ℕ) → slice_get {X = ℕ} [] o ≡ Some p → ⊥
    none o p at = absurd (cc)

links : (l : ℕ) → l < 2 → LinkFits path_net l
links zero lt = record { ends = inl (record { stream = 0; carried = (0, refl, refl); connected = refl }); earlier = omega arith; within = omega arith }
links (suc n) lt = record { ends = inl (record { stream = 1; carried = (0, refl, refl); connected = refl }); earlier = omega arith; within = omega arith }

fed : (e i : ℕ) → e < 3 → i < inputs (path_part e) → Fed path_net e i
fed zero i lt within = absurd (omega (arith, within))
fed (suc zero) i lt within = record { link = 0; within = omega arith; to = refl; input = omega (arith, within) }
fed (suc (suc zero)) i lt within = record { link = 1; within = omega arith; to = refl; input = omega (arith, within) }
fed (suc (suc (suc n))) i lt within = absurd (omega (arith, lt))

led : (e o : ℕ) → e < 3 → o < outputs (path_part e) → Led path_net e o
led zero o lt within = record { link = 0; within = omega arith; from = refl; output = omega (arith, within) }
led (suc zero) o lt within = record { link = 1; within = omega arith; from = refl; output = omega (arith, within) }
led (suc (suc n)) o lt within = absurd (omega (arith, within))

one : (l m : ℕ) → l < 2 → m < 2 → (path_link l).to ≡ (path_link m).to → (path_link l).input ≡ (path_link m).input → l ≡ m
one zero zero a b to input = refl
one zero (suc m) a b to input = absurd (omega (arith, to))
one (suc l) zero a b to input = absurd (omega (arith, to))
one (suc l) (suc m) a b to input = omega (arith, a, b)

no_splitter : (e : ℕ) (region : RegionPart) → path_part e ≡ Splitter region → ⊥
no_splitter zero region p = absurd (cc)
no_splitter (suc zero) region p = absurd (cc)
no_splitter (suc (suc n)) region p = absurd (cc)

pub path_wired : IsWired some_graph path_net
path_wired = record {
  ordered = path_is_ordered texts (codes "in") true None (codes "out");
  numbered = path_is_numbered texts (codes "in") true None (codes "out");
  parts = parts;
  links = links;
  led = led;
  fed = fed;
  one = one;
  one_splitter = λ e d region a b p q. absurd (no_splitter e region p);
}

pub path_legal : IsLegal path_net path_list
path_legal = record {
  legal = (
    record { element = omega arith; idle = refl; sourced = refl; whole = refl; is_open = refl },
    (
      record { link = omega arith; others = _; first = refl; room = omega arith },
      (
        record { link = omega arith; others = _; first = refl; room = omega arith },
        (
          record { link = omega arith; idle = refl; front = refl; is_open = refl; wanted = inr refl },
          (
            record { link = omega arith; others = _; first = refl; room = omega arith },
            (
              record { link = omega arith; others = _; first = refl; room = omega arith },
              (
                record { link = omega arith; idle = refl; front = refl; is_open = refl; wanted = inr refl },
                (
                  record { link = omega arith; idle = refl; front = refl; is_open = refl; wanted = inr refl },
                  (record { link = omega arith; idle = refl; front = refl; is_open = refl; wanted = inr refl }, tt),
                ),
              ),
            ),
          ),
        ),
      ),
    ),
  );
  short = omega arith;
}

pub first-input : (i : ℕ) (taken : State) (e : ℕ) → i < 1 → has_last (popped 0 (all_taken (taken e))) ≡ true → has_last (popped i (all_taken (taken e))) ≡ true
first-input i taken e lt h = let is : 0 ≡ i = omega (arith, lt) in subst (λ k. has_last (popped k (all_taken (taken e))) ≡ true) is h

pub path_done : AllDone path_net (after_all path_net begin path_list)
path_done zero lt = record { inputs_end = λ i within. absurd (omega (arith, within)); source_ends = λ s. inr refl; pushed = refl }
path_done (suc zero) lt = record { inputs_end = λ i within. first-input i (after_all path_net begin path_list) 1 within refl; source_ends = λ s. absurd (cc); pushed = refl }
path_done (suc (suc zero)) lt = record { inputs_end = λ i within. first-input i (after_all path_net begin path_list) 2 within refl; source_ends = λ s. absurd (cc); pushed = refl }
path_done (suc (suc (suc n))) lt = absurd (omega (arith, lt))

pub path_clean : Clean path_net (after_all path_net begin path_list)
path_clean zero lt = refl
path_clean (suc zero) lt = refl
path_clean (suc (suc zero)) lt = refl
path_clean (suc (suc (suc n))) lt = absurd (omega (arith, lt))

pub path_under : IsUnder path_net (lists_of path_net (after_all path_net begin path_list)) path_rows no_entries
path_under zero lt = (([], refl), refl)
path_under (suc zero) lt = λ several. absurd (cc)
path_under (suc (suc zero)) lt = λ several. absurd (cc)
path_under (suc (suc (suc n))) lt = absurd (omega (arith, lt))

pub cut_legal : IsLegal path_net cut_list
cut_legal = record {
  legal = (
    record { element = omega arith; idle = refl; sourced = refl; whole = refl; is_open = refl },
    (
      omega arith,
      (
        record { link = omega arith; others = _; first = refl; room = omega arith },
        (
          record { link = omega arith; idle = refl; front = refl; is_open = refl; wanted = inr refl },
          (
            record { link = omega arith; others = _; first = refl; room = omega arith },
            (record { link = omega arith; idle = refl; front = refl; is_open = refl; wanted = inr refl }, tt),
          ),
        ),
      ),
    ),
  );
  short = omega arith;
}

pub cut_done : AllDone path_net (after_all path_net begin cut_list)
cut_done zero lt = record { inputs_end = λ i within. absurd (omega (arith, within)); source_ends = λ s. inl refl; pushed = refl }
cut_done (suc zero) lt = record { inputs_end = λ i within. first-input i (after_all path_net begin cut_list) 1 within refl; source_ends = λ s. absurd (cc); pushed = refl }
cut_done (suc (suc zero)) lt = record { inputs_end = λ i within. first-input i (after_all path_net begin cut_list) 2 within refl; source_ends = λ s. absurd (cc); pushed = refl }
cut_done (suc (suc (suc n))) lt = absurd (omega (arith, lt))

pub cut_under : IsUnder path_net (lists_of path_net (after_all path_net begin cut_list)) path_rows no_entries
cut_under zero lt = (([], refl), refl)
cut_under (suc zero) lt = λ several. absurd (cc)
cut_under (suc (suc zero)) lt = λ several. absurd (cc)
cut_under (suc (suc (suc n))) lt = absurd (omega (arith, lt))

pub path_regions : (m : Meaning) → RegionsHold path_net m
path_regions m zero lt = tt
path_regions m (suc zero) lt = tt
path_regions m (suc (suc n)) lt = tt
