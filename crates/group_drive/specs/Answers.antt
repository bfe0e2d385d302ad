-- What workers give back, and what is out with them.
use Rattle.std.specs.Prelude.{◌≡◌, ℕ, true, List, map}
use Rattle.std.specs.List.{sum_by}
use Rattle.std.specs.declared.thread.PromisedHandle.{PromisedHandle}
use Rattle.network_model.specs.Networks.{Part}
use Rattle.ordered_link.specs.declared.ends.Link.{Link}
use Rattle.group_drive.specs.Groups.{AllOf, AllRun, Parts, weigh}
use Rattle.group_drive.specs.declared.answer.Answer.{Answer}
use Rattle.group_drive.specs.declared.answer.Back.{Back}

-- the same nodes, which run what they ran, and have ended it where they were driven
pub record IsAnswer {N : Type 0} (number : N → ℕ) (runs ended : N → Part → List Link → Type 0) (links : List Link)
    (was : List N) (answer : Answer N) : Type 0 where
  pub numbers : map number answer.nodes.items ≡ map number was
  pub runs_on : (parts : Parts) → AllRun number runs parts links was → AllRun number runs parts links answer.nodes.items
  pub done : answer.driven ≡ true → (parts : Parts) → AllRun number runs parts links was
      → AllRun number ended parts links answer.nodes.items

-- the workers that nodes are out with
abbrev pub Handles : Type 0 → Type 0
Handles N = List (PromisedHandle (Answer N) (Back N))

-- what these nodes weigh
abbrev pub weigh_out : {N : Type 0} → (N → ℕ) → (ℕ → ℕ) → Handles N → ℕ
weigh_out number h handles = sum_by (λ p. weigh number h p.promise.was.value.items) handles

-- they have the ends of these links
abbrev pub AllAmong : {N : Type 0} → List Link → Handles N → Type 0
AllAmong links handles = AllOf (λ p. p.promise.links.value.items ≡ links) handles

-- each of them ran the part of its number
abbrev pub OutRun : {N : Type 0} → (N → ℕ) → (N → Part → List Link → Type 0) → Parts → List Link → Handles N → Type 0
OutRun number runs parts links handles = AllOf (λ p. AllRun number runs parts links p.promise.was.value.items) handles
