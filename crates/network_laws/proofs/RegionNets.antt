-- The network with a region of two channels is wired, its region holds, and its list of events is legal and comes to its end.
use Rattle.std.proofs.Common.{ℕ, zero, suc, ◌+◌, ◌*◌, ◌<◌, ◌==◌, true, false, [], ◌∷◌, ◌≡◌, inl, inr, refl, sym, ap, ◌∙◌, arith, Some, None, slice_get, codes}
use Rattle.std.specs.List.{list_any}
use Rattle.spl_value.specs.declared.item.Item.{Item}
use Rattle.spl_value.specs.declared.item.Item.TheVariants as I
use Rattle.spl_value.specs.Numbered.{items_of, numbers_of, is_pulse, NeverFalls}
use Rattle.stream_model.specs.examples.CheckedGraphs.{texts}
use Rattle.stream_model.proofs.PathLaws.{path_is_ordered, path_is_numbered}
use Rattle.network_model.specs.Packets.{has_last}
use Rattle.network_model.specs.Networks.{RegionPart, Splitter, inputs, outputs}
use Rattle.network_model.specs.Receipts.{popped}
use Rattle.network_model.specs.States.{State, begin, all_taken, after_all}
use Rattle.network_model.specs.Legal.{IsLegal, AllDone, Clean}
use Rattle.network_model.specs.Joined.{lists_of}
use Rattle.network_model.specs.Wiring.{PartFits, RegionFits, LinkFits, Fed, Led, IsWired}
use Rattle.network_model.specs.Flow.{channel_flow, IsUnder}
use Rattle.network_laws.specs.RegionStreams.{MergerHolds, RegionsHold}
use Rattle.network_laws.specs.examples.PathNet.{file_sink, file_source, no_entries, path_rows, plain_filter, some_graph}
use Rattle.network_laws.specs.examples.RegionNet.{filter_region, region_part, region_link, region_net, region_meaning, region_list}
use Rattle.network_laws.proofs.PathNets.{parts as path_parts, first-input}

fits : RegionFits some_graph filter_region
fits = record {
  op = plain_filter;
  ops = [];
  are = refl;
  stands = record { before = file_source ∷ []; behind = file_sink ∷ []; are = refl };
  no_source = refl;
  reads = refl;
  path = tt;
  makes = refl;
  some = omega arith;
}

pub first-port : (o p : ℕ) → slice_get (0 ∷ []) o ≡ Some p → p ≡ 0
first-port zero p e = let same : 0 ≡ p = cc in sym same
first-port (suc o) p e = absurd (cc)

parts : (e : ℕ) → e < 6 → PartFits some_graph (region_part e)
parts zero lt = path_parts 0 (omega arith)
parts (suc zero) lt = fits
parts (suc (suc zero)) lt = (fits, omega arith)
parts (suc (suc (suc zero))) lt = (fits, omega arith)
parts (suc (suc (suc (suc zero)))) lt = (fits, first-port)
parts (suc (suc (suc (suc (suc n))))) lt = path_parts 2 (omega arith)

links : (l : ℕ) → l < 6 → LinkFits region_net l
links zero lt = record { ends = inl (record { stream = 0; carried = (0, refl, refl); connected = (refl, refl) }); earlier = omega arith; within = omega arith }
links (suc zero) lt = record { ends = inr (inl (record { region = filter_region; from = refl; within = omega arith; to = refl; input = refl })); earlier = omega arith; within = omega arith }
links (suc (suc zero)) lt = record { ends = inr (inl (record { region = filter_region; from = refl; within = omega arith; to = refl; input = refl })); earlier = omega arith; within = omega arith }
links (suc (suc (suc zero))) lt = record { ends = inr (inr (record { region = filter_region; outs = 0 ∷ []; from = refl; within = omega arith; output = refl; to = refl })); earlier = omega arith; within = omega arith }
links (suc (suc (suc (suc zero)))) lt = record { ends = inr (inr (record { region = filter_region; outs = 0 ∷ []; from = refl; within = omega arith; output = refl; to = refl })); earlier = omega arith; within = omega arith }
links (suc (suc (suc (suc (suc n))))) lt = record { ends = inl (record { stream = 1; carried = (refl, refl); connected = refl }); earlier = omega arith; within = omega arith }

fed : (e i : ℕ) → e < 6 → i < inputs (region_part e) → Fed region_net e i
fed zero i lt within = absurd (omega (arith, within))
fed (suc zero) i lt within = record { link = 0; within = omega arith; to = refl; input = omega (arith, within) }
fed (suc (suc zero)) i lt within = record { link = 1; within = omega arith; to = refl; input = omega (arith, within) }
fed (suc (suc (suc zero))) i lt within = record { link = 2; within = omega arith; to = refl; input = omega (arith, within) }
fed (suc (suc (suc (suc zero)))) zero lt within = record { link = 3; within = omega arith; to = refl; input = refl }
fed (suc (suc (suc (suc zero)))) (suc i) lt within = record { link = 4; within = omega arith; to = refl; input = omega (arith, within) }
fed (suc (suc (suc (suc (suc zero))))) i lt within = record { link = 5; within = omega arith; to = refl; input = omega (arith, within) }
fed (suc (suc (suc (suc (suc (suc n)))))) i lt within = absurd (omega (arith, lt))

-- no two links have the same end
one : (l m : ℕ) → l < 6 → m < 6 → (region_link l).to ≡ (region_link m).to → (region_link l).input ≡ (region_link m).input → l ≡ m
one l m a b to input = is l m a b (λ i. to i * 2 + input i)
  where
    link_at : ℕ → ℕ
    link_at zero = 0
    link_at (suc zero) = 0
    link_at (suc (suc zero)) = 0
    link_at (suc (suc (suc zero))) = 0
    link_at (suc (suc (suc (suc zero)))) = 1
    link_at (suc (suc (suc (suc (suc zero))))) = 0
    link_at (suc (suc (suc (suc (suc (suc zero)))))) = 2
    link_at (suc (suc (suc (suc (suc (suc (suc zero))))))) = 0
    link_at (suc (suc (suc (suc (suc (suc (suc (suc zero)))))))) = 3
    link_at (suc (suc (suc (suc (suc (suc (suc (suc (suc zero))))))))) = 4
    link_at (suc (suc (suc (suc (suc (suc (suc (suc (suc (suc n)))))))))) = 5

    back : (k : ℕ) → k < 6 → link_at ((region_link k).to * 2 + (region_link k).input) ≡ k
    back zero lt = refl
    back (suc zero) lt = refl
    back (suc (suc zero)) lt = refl
    back (suc (suc (suc zero))) lt = refl
    back (suc (suc (suc (suc zero)))) lt = refl
    back (suc (suc (suc (suc (suc zero))))) lt = refl
    back (suc (suc (suc (suc (suc (suc n)))))) lt = absurd (omega (arith, lt))

    is : (l m : ℕ) → l < 6 → m < 6 → (region_link l).to * 2 + (region_link l).input ≡ (region_link m).to * 2 + (region_link m).input → l ≡ m
    is l m a b e = sym (back l a) ∙ ap link_at e ∙ back m b

at_one : (e : ℕ) (region : RegionPart) → region_part e ≡ Splitter region → e ≡ 1
at_one zero region p = absurd (cc)
at_one (suc zero) region p = refl
at_one (suc (suc zero)) region p = absurd (cc)
at_one (suc (suc (suc zero))) region p = absurd (cc)
at_one (suc (suc (suc (suc zero)))) region p = absurd (cc)
at_one (suc (suc (suc (suc (suc n))))) region p = absurd (cc)

led : (e o : ℕ) → e < 6 → o < outputs (region_part e) → Led region_net e o
led zero o lt within = record { link = 0; within = omega arith; from = refl; output = omega (arith, within) }
led (suc zero) zero lt within = record { link = 1; within = omega arith; from = refl; output = refl }
led (suc zero) (suc o) lt within = record { link = 2; within = omega arith; from = refl; output = omega (arith, within) }
led (suc (suc zero)) o lt within = record { link = 3; within = omega arith; from = refl; output = omega (arith, within) }
led (suc (suc (suc zero))) o lt within = record { link = 4; within = omega arith; from = refl; output = omega (arith, within) }
led (suc (suc (suc (suc zero)))) o lt within = record { link = 5; within = omega arith; from = refl; output = omega (arith, within) }
led (suc (suc (suc (suc (suc n))))) o lt within = absurd (omega (arith, within))

pub region_wired : IsWired some_graph region_net
region_wired = record { ordered = path_is_ordered texts (codes "in") true None (codes "out"); numbered = path_is_numbered texts (codes "in") true None (codes "out"); parts = parts; links = links; led = led; fed = fed; one = one; one_splitter = λ e d region a b p q. at_one e region p ∙ sym (at_one d region q) }

-- ---- the region

falls : (c : ℕ) → c < 2 → NeverFalls 0 (numbers_of (channel_flow filter_region region_meaning c))
falls zero lt = (omega arith, tt)
falls (suc zero) lt = tt
falls (suc (suc c)) lt = absurd (omega (arith, lt))

no-pulses : (c : ℕ) → c < 2 → list_any is_pulse (channel_flow filter_region region_meaning c) ≡ false
no-pulses zero lt = refl
no-pulses (suc zero) lt = refl
no-pulses (suc (suc c)) lt = absurd (omega (arith, lt))

turns : (c k : ℕ) (p : ℕ × Item) → c < 2 → slice_get (items_of (channel_flow filter_region region_meaning c)) k ≡ Some p → p.0 ≡ k * 2 + c
turns zero zero p lt e = let same : (0, I.Final) ≡ p = cc in ap (λ (z : ℕ × Item). z.0) (sym same)
turns zero (suc k) p lt e = absurd (cc)
turns (suc zero) k p lt e = absurd (cc)
turns (suc (suc c)) k p lt e = absurd (omega (arith, lt))

alone : (n c : ℕ) → c < 2 → list_any (λ p. p.0 == n) (items_of (channel_flow filter_region region_meaning c)) ≡ true → c ≡ 0
alone n zero lt h = refl
alone n (suc zero) lt h = absurd (cc)
alone n (suc (suc c)) lt h = absurd (omega (arith, lt))

merger : MergerHolds region_meaning filter_region
merger = record {
  in_order = record {
    apart = record { falls = falls; apart = λ n c d lt below h k. alone n c lt h ∙ sym (alone n d below k) };
    no_pulses = no-pulses;
    turns = turns;
  };
  front = ([], refl);
  whole = λ closed. refl;
}

pub region_holds : RegionsHold region_net region_meaning
region_holds zero lt = tt
region_holds (suc zero) lt = tt
region_holds (suc (suc zero)) lt = tt
region_holds (suc (suc (suc zero))) lt = tt
region_holds (suc (suc (suc (suc zero)))) lt = merger
region_holds (suc (suc (suc (suc (suc n))))) lt = tt

-- ---- events

pub region_legal : IsLegal region_net region_list
region_legal = record {
  legal = (
    record { element = omega arith; idle = refl; sourced = refl; whole = refl; is_open = refl },
    (
      record { link = omega arith; others = _; first = refl; room = omega arith },
      (
        record { link = omega arith; others = _; first = refl; room = omega arith },
        (
          record { link = omega arith; idle = refl; front = refl; is_open = refl; wanted = inr refl },
          (
            record { link = omega arith; others = _; first = refl; room = omega arith },
            (
              record { link = omega arith; others = _; first = refl; room = omega arith },
              (
                record { link = omega arith; others = _; first = refl; room = omega arith },
                (
                  record { link = omega arith; idle = refl; front = refl; is_open = refl; wanted = inr refl },
                  (
                    record { link = omega arith; idle = refl; front = refl; is_open = refl; wanted = inr refl },
                    (
                      record { link = omega arith; others = _; first = refl; room = omega arith },
                      (
                        record { link = omega arith; idle = refl; front = refl; is_open = refl; wanted = inr refl },
                        (
                          record { link = omega arith; idle = refl; front = refl; is_open = refl; wanted = inr refl },
                          (
                            record { link = omega arith; others = _; first = refl; room = omega arith },
                            (
                              record { link = omega arith; idle = refl; front = refl; is_open = refl; wanted = inr refl },
                              (
                                record { link = omega arith; others = _; first = refl; room = omega arith },
                                (
                                  record { link = omega arith; idle = refl; front = refl; is_open = refl; wanted = inr refl },
                                  (
                                    record { link = omega arith; others = _; first = refl; room = omega arith },
                                    (
                                      record { link = omega arith; others = _; first = refl; room = omega arith },
                                      (
                                        record { link = omega arith; idle = refl; front = refl; is_open = refl; wanted = inr refl },
                                        (
                                          record { link = omega arith; idle = refl; front = refl; is_open = refl; wanted = inr refl },
                                          (record { link = omega arith; idle = refl; front = refl; is_open = refl; wanted = inr refl }, tt),
                                        ),
                                      ),
                                    ),
                                  ),
                                ),
                              ),
                            ),
                          ),
                        ),
                      ),
                    ),
                  ),
                ),
              ),
            ),
          ),
        ),
      ),
    ),
  );
  short = omega arith;
}

ends : State
ends = after_all region_net begin region_list

pub region_clean : Clean region_net (after_all region_net begin region_list)
region_clean zero lt = refl
region_clean (suc zero) lt = refl
region_clean (suc (suc zero)) lt = refl
region_clean (suc (suc (suc zero))) lt = refl
region_clean (suc (suc (suc (suc zero)))) lt = refl
region_clean (suc (suc (suc (suc (suc zero))))) lt = refl
region_clean (suc (suc (suc (suc (suc (suc n)))))) lt = absurd (omega (arith, lt))

pub region_done : AllDone region_net (after_all region_net begin region_list)
region_done zero lt = record { inputs_end = λ i within. absurd (omega (arith, within)); source_ends = λ s. inr refl; pushed = refl }
region_done (suc zero) lt = record { inputs_end = λ i within. first-input i (after_all region_net begin region_list) 1 within refl; source_ends = λ s. absurd (cc); pushed = refl }
region_done (suc (suc zero)) lt = record { inputs_end = λ i within. first-input i (after_all region_net begin region_list) 2 within refl; source_ends = λ s. absurd (cc); pushed = refl }
region_done (suc (suc (suc zero))) lt = record { inputs_end = λ i within. first-input i (after_all region_net begin region_list) 3 within refl; source_ends = λ s. absurd (cc); pushed = refl }
region_done (suc (suc (suc (suc zero)))) lt = record { inputs_end = both; source_ends = λ s. absurd (cc); pushed = refl }
  where
    both : (i : ℕ) → i < 2 → has_last (popped i (all_taken (after_all region_net begin region_list 4))) ≡ true
    both zero within = refl
    both (suc zero) within = refl
    both (suc (suc i)) within = absurd (omega (arith, within))
region_done (suc (suc (suc (suc (suc zero))))) lt = record { inputs_end = λ i within. first-input i (after_all region_net begin region_list) 5 within refl; source_ends = λ s. absurd (cc); pushed = refl }
region_done (suc (suc (suc (suc (suc (suc n)))))) lt = absurd (omega (arith, lt))

pub region_under : IsUnder region_net (lists_of region_net (after_all region_net begin region_list)) path_rows no_entries
region_under zero lt = (([], refl), refl)
region_under (suc zero) lt = tt
region_under (suc (suc zero)) lt = tt
region_under (suc (suc (suc zero))) lt = tt
region_under (suc (suc (suc (suc zero)))) lt = tt
region_under (suc (suc (suc (suc (suc zero))))) lt = λ several. absurd (cc)
region_under (suc (suc (suc (suc (suc (suc n)))))) lt = absurd (omega (arith, lt))
