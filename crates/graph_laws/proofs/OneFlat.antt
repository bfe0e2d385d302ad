-- A unit has one answer.
use Rattle.std.specs.Prelude.{◌≡◌, ◌<◌, ℕ, List, Some, Err, slice_get}
use Rattle.std.specs.List.{Contains}
use Rattle.std.proofs.Common.{refl, sym, ap, ◌∙◌, subst, arith, inl, inr}
use Rattle.std.proofs.lemmas.Bool.{cases_lt}
use Rattle.std.proofs.lemmas.Option.{same_Some, slice_get_within, get_or_from_slice_get}
use Rattle.spl_tree.specs.declared.expression.Placed.{Placed}
use Rattle.spl_tree.specs.declared.unit.Composite.{Composite}
use Rattle.spl_tree.specs.declared.unit.Definition.{Definition}
use Rattle.spl_tree.specs.Trees.{placed}
use Rattle.language_model.specs.declared.expansion.ExpansionError.TheVariants as E
use Rattle.language_model.specs.Refusals.{named_refusal}
use Rattle.language_model.specs.Composites.{composites}
use Rattle.language_model.specs.Flat.{IsMain, flat_from, twice, no_main, recursive, expands}
use Rattle.language_model.specs.FlatLaws.{OneFlatLaw}
use Rattle.language_model.specs.Recursion.{Caller, Calls, calls_among, IsCall, Leads, directly, through, IsBack, IsFirstRecursion, IsFirstIn, HasNoRecursion, IsRecursive, in_functions, in_composites, IsNotRecursive}
use Rattle.language_model.specs.Scopes.{At, at_place}

-- ---- numbers

-- of two numbers neither of which is below the other
equal : (m n : ℕ) → (m < n → ⊥) → (n < m → ⊥) → m ≡ n
equal m n a b = elim (cases_lt m n) [ inl lt ↦ absurd (a lt) | inr le ↦ (elim (cases_lt n m) [ inl lt ↦ absurd (b lt) | inr ge ↦ omega arith ]) ]

pub there : {A : Type 0} (xs : List A) (i : ℕ) (x : A) → slice_get xs i ≡ Some x → Contains xs x
there xs i x e = (i, slice_get_within xs i x e, get_or_from_slice_get xs i x x e)

-- ---- the first recursion

-- what is the first to reach itself does
leads_back : (calls : Calls) (place at : ℕ) → IsFirstRecursion calls place at → Leads calls place place
leads_back calls place at f =
    let call : IsCall calls place f.call.what = record { list = f.list; call = f.call; of_caller = f.of_caller; among = there f.list f.number f.call f.is_call; callee = refl } in
    elim f.back [
      | inl same ↦ directly place place (subst (IsCall calls place) same call)
      | inr on ↦ through place f.call.what place call on
    ]

one_place : (calls : Calls) (p q at to : ℕ) → IsFirstRecursion calls p at → IsFirstRecursion calls q to → p ≡ q
one_place calls p q at to f g = equal p q (λ lt. g.before p lt (leads_back calls p at f)) (λ lt. f.before q lt (leads_back calls q to g))

one_call : (calls : Calls) (p q at to : ℕ) → IsFirstRecursion calls p at → IsFirstRecursion calls q to → at ≡ to
one_call calls p q at to f g =
    let place : p ≡ q = one_place calls p q at to f g in
    let lists : f.list ≡ g.list = same_Some f.list g.list (sym f.of_caller ∙ ap (slice_get calls) place ∙ g.of_caller) in
    let g_call : slice_get f.list g.number ≡ Some g.call = ap (λ (l : List (Placed ℕ)). slice_get l g.number) lists ∙ g.is_call in
    let f_call : slice_get g.list f.number ≡ Some f.call = ap (λ (l : List (Placed ℕ)). slice_get l f.number) (sym lists) ∙ f.is_call in
    let g_back : IsBack calls p g.call = subst (λ i. IsBack calls i g.call) (sym place) g.back in
    let f_back : IsBack calls q f.call = subst (λ i. IsBack calls i f.call) place f.back in
    let number : f.number ≡ g.number = equal f.number g.number (λ lt. g.first f.number f.call lt f_call f_back) (λ lt. f.first g.number g.call lt g_call g_back) in
    let calls_same : f.call ≡ g.call = same_Some f.call g.call (sym f.is_call ∙ ap (slice_get f.list) number ∙ g_call) in
    sym f.place_of ∙ ap (λ (c : Placed ℕ). c.at) calls_same ∙ g.place_of

one_first : (callers : List Caller) (m n : Placed (List ℕ)) → IsFirstIn callers m → IsFirstIn callers n → m ≡ n
one_first callers m n f g =
    let place : f.place ≡ g.place = one_place (calls_among callers) f.place g.place m.at n.at f.is_first g.is_first in
    let caller : f.caller ≡ g.caller = same_Some f.caller g.caller (sym f.found ∙ ap (slice_get callers) place ∙ g.found) in
    let what : m.what ≡ n.what = sym f.name ∙ ap (λ (c : Caller). c.name) caller ∙ g.name in
    let at : m.at ≡ n.at = one_call (calls_among callers) f.place g.place m.at n.at f.is_first g.is_first in
    ap (λ (a : ℕ). placed a m.what) at ∙ ap (placed n.at) what

not_acyclic : (callers : List Caller) (n : Placed (List ℕ)) → HasNoRecursion callers → IsFirstIn callers n → ⊥
not_acyclic callers n none f = none f.place (leads_back (calls_among callers) f.place n.at f.is_first)

one_recursion : (unit : List Definition) (m n : Placed (List ℕ)) → IsRecursive unit m → IsRecursive unit n → m ≡ n
one_recursion unit m n (in_functions f) (in_functions g) = one_first _ m n f g
one_recursion unit m n (in_functions f) (in_composites none g) = absurd (not_acyclic _ m none f)
one_recursion unit m n (in_composites none f) (in_functions g) = absurd (not_acyclic _ n none g)
one_recursion unit m n (in_composites none f) (in_composites none' g) = one_first _ m n f g

not_both : (unit : List Definition) (n : Placed (List ℕ)) → IsRecursive unit n → IsNotRecursive unit → ⊥
not_both unit n (in_functions f) none = not_acyclic _ n none.functions f
not_both unit n (in_composites other f) none = not_acyclic _ n none.composites f

-- ---- the main composite

one_main : (unit : List Definition) (main other : At Composite) → IsMain unit main → IsMain unit other → main ≡ other
one_main unit main other h k =
    let place : main.place ≡ other.place = same_Some main.place other.place (sym h.0 ∙ k.0) in
    let what : main.what ≡ other.what = same_Some main.what other.what (sym h.1 ∙ ap (slice_get (composites unit)) place ∙ k.1) in
    ap (λ (p : ℕ). at_place p main.what) place ∙ ap (at_place other.place) what

-- ---- the whole

-- what is declared twice, and where the main composite is, determine which answer it is
pub one_flat_law : OneFlatLaw
one_flat_law unit names x y (twice n e) (twice m f) = let same : n ≡ m = same_Some n m (sym e ∙ f) in ap (λ (p : Placed (List ℕ)). Err (named_refusal E.Twice p)) same
one_flat_law unit names x y (twice n e) (no_main f g) = absurd cc
one_flat_law unit names x y (twice n e) (recursive main m f g r) = absurd cc
one_flat_law unit names x y (twice n e) (expands main f g r) = absurd cc
one_flat_law unit names x y (no_main e g) (twice m f) = absurd cc
one_flat_law unit names x y (no_main e g) (no_main f h) = refl
one_flat_law unit names x y (no_main e g) (recursive main m f h r) = absurd cc
one_flat_law unit names x y (no_main e g) (expands main f h r) = absurd cc
one_flat_law unit names x y (recursive main n e g r) (twice m f) = absurd cc
one_flat_law unit names x y (recursive main n e g r) (no_main f h) = absurd cc
one_flat_law unit names x y (recursive main n e g r) (recursive other m f h s) = ap (λ (p : Placed (List ℕ)). Err (named_refusal E.Recursive p)) (one_recursion unit n m r s)
one_flat_law unit names x y (recursive main n e g r) (expands other f h s) = absurd (not_both unit n r s)
one_flat_law unit names x y (expands main e g r) (twice m f) = absurd cc
one_flat_law unit names x y (expands main e g r) (no_main f h) = absurd cc
one_flat_law unit names x y (expands main e g r) (recursive other m f h s) = absurd (not_both unit m s r)
one_flat_law unit names x y (expands main e g r) (expands other f h s) = ap (flat_from unit names) (one_main unit main other g h)
