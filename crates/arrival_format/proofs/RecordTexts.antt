-- A text spells one record, which is read back.
use Rattle.std.specs.List.{flat_map}
use Rattle.std.proofs.Common.{◌≡◌, ◌∙◌, ◌++◌, ◌∷◌, [], ℕ, List, Ok, Err, map, codes, refl, sym, ap, append-nil, inl, inr}
use Rattle.std.proofs.lemmas.List.{append_cancel_left}
use Rattle.stream_model.specs.declared.record.ArrivalList.{ArrivalList}
use Rattle.arrival_format.specs.declared.answer.ArrivalsAnswer.TheVariants as A
use Rattle.arrival_format.specs.ArrivalTexts.{arrivals_text, line_text}
use Rattle.arrival_format.specs.FormatLaws.{OneRecordLaw, ReadBackLaw}
use Rattle.arrival_format.proofs.Lines.{HaveInputs, front_lines}

abbrev head : List ℕ
head = codes "arrivals 1\n"

pub one_record : OneRecordLaw
one_record c bytes one other keeps h g =
    go (front_lines c keeps one.lists other.lists [] [] h.made.inputs g.made.inputs
    (append-nil (map (λ (l : ArrivalList). l.op) one.lists) ∙ h.made.lists ∙ sym g.made.lists)
    (append-nil (flat_map (line_text c) one.lists)
    ∙ append_cancel_left head (flat_map (line_text c) one.lists) (flat_map (line_text c) other.lists) (sym h.text ∙ g.text)))
  where
    go : (more : List ArrivalList) × (other.lists ≡ one.lists ++ more) × ([] ≡ map (λ (l : ArrivalList). l.op) more) × ([] ≡ flat_map (line_text c) more) × HaveInputs c more → one ≡ other
    go ([], is, ops, text, inputs) = ap (λ lists. record { lists = lists }) (sym (is ∙ append-nil one.lists))
    go (l ∷ more, is, ops, text, inputs) = absurd cc

pub read_back : ReadBackLaw
read_back c arrivals (Ok other) keeps made short h =
    inl (ap Ok (one_record c (arrivals_text c arrivals) other arrivals keeps h (record { made = made; text = refl; short = short })))
read_back c arrivals (Err A.Bad) keeps made short h = absurd (h arrivals (record { made = made; text = refl; short = short }))
read_back c arrivals (Err A.Memory) keeps made short h = inr refl
