-- One output more.
use Rattle.std.proofs.Common.{ℕ, List, [], ◌∷◌, ◌++◌, ◌≡◌, map, sym, ap, ◌∙◌, append_assoc}
use Rattle.std.proofs.lemmas.List.{map-append}
use Rattle.spl_value.specs.declared.packet.Packet.TheVariants as P
use Rattle.language_model.specs.declared.outs.Output.{Output}
use Rattle.stream_model.specs.Sending.{outgoing}
use Rattle.stream_model.specs.Stages.{on_port}
use Rattle.stream_model.proofs.StageLaws.{on_port-append}
use Rattle.network_model.specs.Sinks.{tuples_in}
use Rattle.network_model.proofs.Adds.{tuples_in-append}
use Rattle.element_works.specs.Tuples.{for_writer}
use Rattle.element_works.specs.Works.{answers}

pub more : {A : Type 0} (f : List Output → List A) → ((xs ys : List Output) → f (xs ++ ys) ≡ f xs ++ f ys)
    → (front : List Output) (o : Output) (S B C : List A) → B ≡ S ++ f front → C ≡ B ++ f (o ∷ []) → C ≡ S ++ f (front ++ o ∷ [])
more f adds front o S B C b c = c ∙ ap (λ z. z ++ f (o ∷ [])) b ∙ append_assoc S (f front) (f (o ∷ [])) ∙ ap (λ z. S ++ z) (sym (adds front (o ∷ [])))

pub for_writer-append : (xs ys : List Output) → for_writer (xs ++ ys) ≡ for_writer xs ++ for_writer ys
for_writer-append xs ys = ap tuples_in (on_port-append 0 xs ys) ∙ tuples_in-append (on_port 0 xs) (on_port 0 ys)

pub answers-append : (n : ℕ) (xs ys : List Output) → answers n (xs ++ ys) ≡ answers n xs ++ answers n ys
answers-append n xs ys =
    ap (λ zs. map (outgoing 0) (map (P.Item n) zs)) (on_port-append 0 xs ys) ∙ ap (map (outgoing 0)) (map-append (P.Item n) (on_port 0 xs) (on_port 0 ys))
    ∙ map-append (outgoing 0) (map (P.Item n) (on_port 0 xs)) (map (P.Item n) (on_port 0 ys))
