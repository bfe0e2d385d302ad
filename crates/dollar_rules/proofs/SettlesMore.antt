-- One more parameter is settled: where it stands among the others.
use Rattle.std.specs.Prelude.{◌≡◌, ◌<◌, ◌≤◌, ℕ, zero, suc, Bool, true, false, List, [], ◌∷◌, length, replicate, take, Some, slice_get}
use Rattle.std.specs.List.{insert}
use Rattle.std.proofs.Common.{refl, ap, sym, ◌∙◌, arith}
use Rattle.std.proofs.Math.ListN.{set}
use Rattle.spl_tree.specs.declared.unit.CompositeParameter.{CompositeParameter}
use Rattle.language_model.specs.declared.scope.Dollar.{Dollar}
use Rattle.language_model.specs.declared.scope.Scope.{Scope}
use Rattle.language_model.specs.declared.scope.Typed.{Typed}
use Rattle.language_model.specs.DollarLaws.{MentionedLaw}
use Rattle.language_model.specs.Parameters.{constant_scope}
use Rattle.language_model.specs.Typing.{Found}
use Rattle.dollar_rules.specs.steps.Given.{AreSettled, Given, IsReady, found_at_last, found_in, is_marked, marked, marks_in, means, settled_table}
use Rattle.dollar_rules.proofs.Marks.{marked_more}
use Rattle.dollar_rules.proofs.SettledOnes.{found_now}

-- no flag is set at first
down : (n k : ℕ) → is_marked (replicate n false) k ≡ false
down zero k = refl
down (suc n) zero = refl
down (suc n) (suc k) = down n k

pub none_up : (flags : List Bool) (n : ℕ) → flags ≡ replicate n false → (k : ℕ) → is_marked flags k ≡ false
none_up flags n e k = ap (λ bs. is_marked bs k) e ∙ down n k

replicated : (n : ℕ) → length (replicate n false) ≡ n
replicated zero = refl
replicated (suc n) = ap suc (replicated n)

pub as_many : (flags : List Bool) (n : ℕ) → flags ≡ replicate n false → length flags ≡ n
as_many flags n e = ap length e ∙ replicated n

abbrev with_own : List Dollar → Scope → Scope
with_own dollars scope = record scope { dollars = dollars }

behind_marks : (found : CompositeParameter → Found Typed) (marks : List Bool) (ps : List CompositeParameter) (place : ℕ) → length marks ≡ length ps
    → marks_in (take place marks) ≤ length (marked found marks ps)
behind_marks found [] ps zero size = omega arith
behind_marks found [] ps (suc place) size = omega arith
behind_marks found (b ∷ bs) [] place size = absurd (omega (arith, size))
behind_marks found (b ∷ bs) (p ∷ ps) zero size = omega arith
behind_marks found (true ∷ bs) (p ∷ ps) (suc place) size = let h = behind_marks found bs ps place (omega (arith, size)) in omega (arith, h)
behind_marks found (false ∷ bs) (p ∷ ps) (suc place) size = behind_marks found bs ps place (omega (arith, size))

pub before_at_most : (found : CompositeParameter → Found Typed) (marks : List Bool) (ps : List CompositeParameter) (place : ℕ) (scope : Scope) → length marks ≡ length ps
    → scope ≡ constant_scope (marked found marks ps) → marks_in (take place marks) ≤ length scope.dollars
before_at_most found marks ps place scope size kept =
    let same : length scope.dollars ≡ length (marked found marks ps) = ap (λ s. length s.dollars) kept in
    omega (arith, behind_marks found marks ps place size, same)

pub kept_more : (g : Given) (marks : List Bool) (are : AreSettled g marks) (mentioned : MentionedLaw) (place : ℕ) (p : CompositeParameter) (is : slice_get g.parameters place ≡ Some p)
    (meant : means g place p ≡ true) (unset : is_marked marks place ≡ false) (ready : IsReady g marks place) (scope : Scope) (kept : scope ≡ constant_scope (settled_table g marks))
    (name : List ℕ) (found : Found Typed) (count : ℕ) (dollars : List Dollar) → place < length marks
    → name ≡ p.name.what → found ≡ found_in g scope.dollars p → count ≡ marks_in (take place marks) → dollars ≡ insert scope.dollars count (record { name = name; found = found })
    → record scope { dollars = dollars } ≡ constant_scope (settled_table g (set marks place true))
kept_more g marks are mentioned place p is meant unset ready scope kept name found count dollars within named finds counted inserted =
    let own : scope.dollars ≡ settled_table g marks = ap (λ s. s.dollars) kept in
    let last : found ≡ found_at_last g p = finds ∙ ap (λ ds. found_in g ds p) own ∙ found_now g marks are mentioned place p is meant unset ready in
    let row : dollars ≡ settled_table g (set marks place true) =
    inserted ∙ (λ i. insert (own i) (counted i) (record { name = named i; found = last i })) ∙ sym (marked_more (found_at_last g) marks g.parameters place p is within unset) in
    ap (with_own dollars) kept ∙ ap constant_scope row
