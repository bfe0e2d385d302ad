use Rattle.std.proofs.Common.{◌≡◌, Some, true, refl}
use Rattle.std.specs.Prelude.{slice_get}
use Rattle.place_sets.proofs.Widening.{widens_by}
use Rattle.place_sets.proofs.place_set.PlaceSet.add.Goals as goal

pub returns : goal.returns
returns c =
    let other : slice_get c.args.self.now.marks.items c.args.place ≡ Some true → ⊥ = λ e. let h = c.has.ensures.1 e in let f = c.if-has.false in cc in
    widens_by _ _ c.args.place c.requires.set other c.requires.below refl c.in_ok-push.ensures.items
