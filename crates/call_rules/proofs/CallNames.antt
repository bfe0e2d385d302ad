-- The call of a name, among those of each kind in turn.
use Rattle.std.specs.Prelude.{◌≡◌, ℕ, List, Bool, true, false, codes, if◌then◌else◌, Option, Some, None}
use Rattle.std.specs.Str.{bytes_eq}
use Rattle.std.proofs.Common.{refl, ap, ◌∙◌}
use Rattle.spl_tree.specs.declared.code.CallName.{CallName}
use Rattle.spl_tree.specs.declared.code.CallName.TheVariants as A
use Rattle.language_model.specs.Typing.{call_of}
use Rattle.std.specs.Option.{option_or}
use Rattle.call_rules.specs.steps.CallNames.{changing, computing, looking}

passed_on : (b : Bool) (c : CallName) (o p : Option CallName) → (if b then Some c else option_or o p) ≡ option_or (if b then Some c else o) p
passed_on true c o p = refl
passed_on false c o p = refl

-- three tests in front of others
three : (a b c : Bool) (x y z : CallName) (p : Option CallName)
    → (if a then Some x else (if b then Some y else (if c then Some z else p))) ≡ option_or (if a then Some x else (if b then Some y else (if c then Some z else None))) p
three a b c x y z p =
    ap (λ q. if a then Some x else (if b then Some y else q)) (passed_on c z None p)
    ∙ ap (λ q. if a then Some x else q) (passed_on b y (if c then Some z else None) p)
    ∙ passed_on a x (if b then Some y else (if c then Some z else None)) p

pub call_by_name : (name : List ℕ) → call_of name ≡ option_or (looking name) (option_or (changing name) (computing name))
call_by_name name =
    three (bytes_eq name (codes "length")) (bytes_eq name (codes "size")) (bytes_eq name (codes "has")) A.Length A.Size A.Has _
    ∙ ap (option_or (looking name))
    (three (bytes_eq name (codes "appendM")) (bytes_eq name (codes "removeM")) (bytes_eq name (codes "clearM")) A.AppendM A.RemoveM A.ClearM (computing name))
