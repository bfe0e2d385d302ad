-- What lists of nodes weigh as they are put together and taken apart.
use Rattle.std.proofs.Common.{◌≡◌, ◌+◌, ℕ, List, [], ◌∷◌, ◌++◌, length, map, refl, ap, ◌∙◌, arith, Vec}
use Rattle.std.proofs.lemmas.List.{map-append}
use Rattle.std.proofs.lemmas.List.Sums.{sum_by-append, sum_by-cons, sum_by_push}
use Rattle.std.specs.List.{sum_by}
use Rattle.std.specs.declared.thread.PromisedHandle.{PromisedHandle}
use Rattle.std.specs.declared.alloc.Global.{Global}
use Rattle.group_drive.specs.Groups.{weigh, weigh_all}
use Rattle.group_drive.specs.Answers.{Handles, weigh_out}
use Rattle.group_drive.specs.declared.answer.Answer.{Answer}
use Rattle.group_drive.specs.declared.answer.Back.{Back}

pub weigh_append : {N : Type 0} (number : N → ℕ) (h : ℕ → ℕ) (xs ys : List N)
    → weigh number h (xs ++ ys) ≡ weigh number h xs + weigh number h ys
weigh_append number h xs ys =
    ap (sum_by h) (map-append number xs ys) ∙ sum_by-append h (map number xs) (map number ys)

pub weigh_push : {N : Type 0} (number : N → ℕ) (h : ℕ → ℕ) (ns : List N) (n : N)
    → weigh number h (ns ++ n ∷ []) ≡ weigh number h ns + h (number n)
weigh_push number h ns n = ap (sum_by h) (map-append number ns (n ∷ [])) ∙ sum_by_push h (map number ns) (number n)

pub weigh_one : {N : Type 0} (number : N → ℕ) (xs : List N) → weigh number (λ _. 1) xs ≡ length xs
weigh_one number [] = refl
weigh_one number (x ∷ xs) = omega (arith, weigh_one number xs, sum_by-cons (λ _. 1) (number x) (map number xs))

-- the last thread's nodes are taken out
pub out_last : {N : Type 0} (number : N → ℕ) (h : ℕ → ℕ) (before after : Handles N)
    (p : PromisedHandle (Answer N) (Back N)) → before ≡ after ++ p ∷ []
    → weigh_out number h before ≡ weigh_out number h after + weigh number h p.promise.was.value.items
out_last {N} number h before after p e =
    ap (weigh_out number h) e
    ∙ sum_by_push (λ (q : PromisedHandle (Answer N) (Back N)). weigh number h q.promise.was.value.items) after p

-- the last group is taken out
pub all_last : {N : Type 0} (number : N → ℕ) (h : ℕ → ℕ) (before after : List (Vec N Global)) (g : Vec N Global)
    → before ≡ after ++ g ∷ [] → weigh_all number h before ≡ weigh_all number h after + weigh number h g.items
all_last {N} number h before after g e =
    ap (weigh_all number h) e ∙ sum_by_push (λ (q : Vec N Global). weigh number h q.items) after g
