use Rattle.std.proofs.Common.{◌-◌, ◌++◌, length, take, drop, sym, ap, subst, ◌∙◌, arith, length-take}
use Rattle.std.proofs.Math.Seq.{take-add, take-take}
use Rattle.std.specs.Io.KnownBytes.{Appends}
use Rattle.std.proofs.KnownBytes.{Appends-trans}
use Rattle.feed_pour.proofs.files.write_front.Goals as goal

pub fronts-preserved : goal.fronts-preserved
fronts-preserved g c =
    let done = c.fronts.written in
    let n = c.in-Ok.n in
    let xs = c.args.bytes.now in
    let before = c.fronts.invariant in
    let fits = c.in-Ok.ensures.bound in
    let within = before.within in
    let most = length-take (length xs - done) (drop done xs) in
    let joined = ap (λ l. take done xs ++ l) (take-take n (length xs - done) (drop done xs) (omega arith)) ∙ sym (take-add done n xs) in
    record { within = omega arith; bytes = subst (Appends _ _) joined (Appends-trans _ _ _ _ _ before.bytes c.in-Ok.ensures.bytes) }
