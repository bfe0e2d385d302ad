use Rattle.std.proofs.Common.{◌≡◌, ◌∙◌, List, [], ◌∷◌, ◌++◌, map, subst, sym, refl, ap}
use Rattle.file_adapters.specs.Sinks.{AreDistinct}
use Rattle.file_adapters.specs.declared.sinks.Sink.{Sink}
use Rattle.outside_tests.proofs.adapters.two_sinks.Goals as goal

-- the names `a` and `b`
two : AreDistinct ((97 ∷ []) ∷ (98 ∷ []) ∷ [])
two [] after file e =
    let first : file ≡ 97 ∷ [] = cc in
    let rest : after ≡ (98 ∷ []) ∷ [] = cc in
    rw (first, rest) refl
two (x ∷ []) after file e = let rest : after ≡ [] = cc in rw rest refl
two (x ∷ y ∷ []) after file e = absurd cc
two (x ∷ y ∷ z ∷ before) after file e = absurd cc

pub returns : goal.returns
returns c =
    let first : Sink = record { file = c.in_ok-file.file; stream = c.args.first } in
    let second : Sink = record { file = c.in_ok-file-2.file; stream = c.args.second } in
    let one : c.push.new.self ≡ first ∷ [] = c.in_ok-push.ensures.ok ∙ ap (λ (sinks : List Sink). sinks ++ first ∷ []) c.new-sinks.ensures in
    let both : c.push-2.new.self ≡ first ∷ second ∷ [] = c.in_ok-push-2.ensures.ok ∙ ap (λ (sinks : List Sink). sinks ++ second ∷ []) one in
    let names : map (λ (s : Sink). s.file) c.push-2.new.self ≡ (97 ∷ []) ∷ (98 ∷ []) ∷ [] =
    ap (map (λ (s : Sink). s.file)) both ∙ (λ i. c.in_ok-file.ensures i ∷ c.in_ok-file-2.ensures i ∷ []) in
    subst AreDistinct (sym names) two
