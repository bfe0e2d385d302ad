-- Which of two values `min` and `max` give.
use Rattle.std.proofs.Common.{◌≡◌, ◌∙◌, Bool, true, false, ap, subst, sym, if◌then◌else◌}
use Rattle.spl_value.specs.declared.item.Evaluated.{Evaluated}
use Rattle.spl_value.specs.declared.value.Value.{Value}
use Rattle.spl_value.specs.Calls.{Answers, Gives, FitOrdered, lesser, greater, min_of, max_of}
use Rattle.spl_value.proofs.CallsLaws.{min_of_alike, max_of_alike}

pub when_true : (b : Bool) (v u w : Value) → b ≡ true → v ≡ u → v ≡ (if b then u else w)
when_true b v u w t e = e ∙ sym (ap (λ c. if c then u else w) t)

pub when_false : (b : Bool) (v u w : Value) → b ≡ false → v ≡ w → v ≡ (if b then u else w)
when_false b v u w t e = e ∙ sym (ap (λ c. if c then u else w) t)

module _ (a b : Value) (f : FitOrdered a b) (r : Evaluated) (v : Value) where
  pub answers_min : v ≡ lesser a b → Answers r (Gives v) → Answers r (min_of a b)
  answers_min e h = subst (Answers r) (ap Gives e ∙ sym (min_of_alike a b f)) h

  pub answers_max : v ≡ greater a b → Answers r (Gives v) → Answers r (max_of a b)
  answers_max e h = subst (Answers r) (ap Gives e ∙ sym (max_of_alike a b f)) h
