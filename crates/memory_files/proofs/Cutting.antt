-- Which script a feed in memory has, by the first of its calls that is to fail.
use Rattle.std.proofs.Common.{◌≡◌, ℕ, ◌+◌, ◌-◌, ◌*◌, ◌<◌, ◌≤◌, min, List, [], ◌∷◌, length, Bool, true, false, ◌||◌, ◌==◌, if◌then◌else◌, nat_lt, Option, Some, None, refl, sym, ◌∙◌, ap, arith}
use Rattle.spl_value.specs.Script.{Script}
use Rattle.memory_files.specs.Failing.{sooner, next_failing, is_to_fail}
use Rattle.memory_files.specs.Memory.{script_up_to, script_of, FirstToFail, IsBehindEnd, cut_before}
use Rattle.memory_files.specs.Plain.{plain_script}
use Rattle.memory_files.proofs.Failing.{Above, above, not_lt}
use Rattle.spl_value.proofs.Bools.{or_last as or_more, or_left as or_first}
use Rattle.std.proofs.lemmas.Bool.{eq-eqb}

-- what is found is one of the numbers
abbrev Among : List ℕ → Option ℕ → Type 0
Among f None = Unit {0}
Among f (Some k) = is_to_fail k f ≡ true

only_first : (b m : Bool) → m ≡ false → (b || m) ≡ true → b ≡ true
only_first true m none any = refl
only_first false m none any = sym none ∙ any

true_equal : (x y : ℕ) → (x == y) ≡ true → x ≡ y
true_equal x y e = grind arith

more : (x : ℕ) (f : List ℕ) (o : Option ℕ) → Among f o → Among (x ∷ f) o
more x f None h = tt
more x f (Some k) h = or_more (x == k) (is_to_fail k f) h

smaller : (t : Bool) (x j : ℕ) (f : List ℕ) → nat_lt x j ≡ t → is_to_fail j f ≡ true → is_to_fail (min x j) (x ∷ f) ≡ true
smaller true x j f is h =
    let e : x ≡ min x j = grind arith in
    or_first (x == min x j) (is_to_fail (min x j) f) (eq-eqb x (min x j) e)
smaller false x j f is h =
    let e : j ≡ min x j = grind arith in
    or_more (x == min x j) (is_to_fail (min x j) f) (ap (λ (k : ℕ). is_to_fail k f) (sym e) ∙ h)

sooner_among : (x : ℕ) (f : List ℕ) (o : Option ℕ) → Among f o → Among (x ∷ f) (sooner x o)
sooner_among x f None h = or_first (x == x) (is_to_fail x f) (eq-eqb x x refl)
sooner_among x f (Some j) h = smaller (nat_lt x j) x j f refl h

among_at : (t : Bool) (c x : ℕ) (f : List ℕ) → Among f (next_failing c f) → Among (x ∷ f) (if t then sooner x (next_failing c f) else next_failing c f)
among_at true c x f h = sooner_among x f (next_failing c f) h
among_at false c x f h = more x f (next_failing c f) h

among : (c : ℕ) (f : List ℕ) → Among f (next_failing c f)
among c [] = tt
among c (x ∷ f) = among_at (nat_lt c x) c x f (among c f)

-- a number that is found is at least this one
abbrev AtLeast : ℕ → Option ℕ → Type 0
AtLeast k None = Unit {0}
AtLeast k (Some j) = k ≤ j

at_least : (c k : ℕ) (f : List ℕ) (o : Option ℕ) → Among f o → Above c o → ((j : ℕ) → is_to_fail j f ≡ true → c < j → k ≤ j) → AtLeast k o
at_least c k f None among above least = tt
at_least c k f (Some j) among above least = least j among above

sooner_is : (k x : ℕ) (o : Option ℕ) → x ≡ k → AtLeast k o → sooner x o ≡ Some k
sooner_is k x None is h = ap (λ (n : ℕ). Some n) is
sooner_is k x (Some j) is h = ap (λ (n : ℕ). Some n) (let e : min x j ≡ k = omega arith in e)

first_at : (t m : Bool) (c k x : ℕ) (f : List ℕ) → nat_lt c x ≡ t → is_to_fail k f ≡ m → ((x == k) || is_to_fail k f) ≡ true → c < k →
    ((j : ℕ) → ((x == j) || is_to_fail j f) ≡ true → c < j → k ≤ j) → (is_to_fail k f ≡ true → next_failing c f ≡ Some k) →
    (if t then sooner x (next_failing c f) else next_failing c f) ≡ Some k
first_at true true c k x f lt listed mem below least ih =
    let le : k ≤ x = least x (or_first (x == x) (is_to_fail x f) (eq-eqb x x refl)) (grind arith) in
    ap (sooner x) (ih listed) ∙ ap (λ (n : ℕ). Some n) (let e : min x k ≡ k = omega arith in e)
first_at false true c k x f lt listed mem below least ih = ih listed
first_at true false c k x f lt listed mem below least ih =
    sooner_is k x (next_failing c f) (true_equal x k (only_first (x == k) (is_to_fail k f) listed mem))
    (at_least c k f (next_failing c f) (among c f) (above c f) (λ j h. least j (or_more (x == j) (is_to_fail j f) h)))
first_at false false c k x f lt listed mem below least ih =
    let e : x ≡ k = true_equal x k (only_first (x == k) (is_to_fail k f) listed mem) in
    absurd (grind arith)

first_is : (c k : ℕ) (f : List ℕ) → is_to_fail k f ≡ true → c < k → ((j : ℕ) → is_to_fail j f ≡ true → c < j → k ≤ j) → next_failing c f ≡ Some k
first_is c k [] mem below least = cc
first_is c k (x ∷ f) mem below least = first_at (nat_lt c x) (is_to_fail k f) c k x f refl refl mem below least
    (λ m. first_is c k f m below (λ j h. least j (or_more (x == j) (is_to_fail j f) h)))

up_to_call : (t : Bool) (k : ℕ) (bytes : List ℕ) → nat_lt ((k - 1) * 8192) (length bytes + 8192) ≡ t → (IsBehindEnd bytes k → ⊥) → script_up_to 0 (Some k) bytes ≡ cut_before k bytes
up_to_call true k bytes is reached = ap (λ (t : Bool). if t then cut_before k bytes else plain_script bytes) is
up_to_call false k bytes is reached = absurd (reached (grind arith))

pub cut_script : (f bytes : List ℕ) (k : ℕ) → FirstToFail f k → (IsBehindEnd bytes k → ⊥) → script_of 0 f bytes ≡ cut_before k bytes
cut_script f bytes k first reached =
    ap (λ (o : Option ℕ). script_up_to 0 o bytes) (first_is 0 k f first.listed first.counted first.first)
    ∙ up_to_call (nat_lt ((k - 1) * 8192) (length bytes + 8192)) k bytes refl reached

whole_at : (f bytes : List ℕ) (o : Option ℕ) → Among f o → Above 0 o → ((k : ℕ) → is_to_fail k f ≡ true → 0 < k → IsBehindEnd bytes k) → script_up_to 0 o bytes ≡ plain_script bytes
whole_at f bytes None among above behind = refl
whole_at f bytes (Some k) among above behind =
    ap (λ (t : Bool). if t then cut_before k bytes else plain_script bytes) (not_lt ((k - 1) * 8192) (length bytes + 8192) (behind k among above))

pub whole_script : (f bytes : List ℕ) → ((k : ℕ) → is_to_fail k f ≡ true → 0 < k → IsBehindEnd bytes k) → script_of 0 f bytes ≡ plain_script bytes
whole_script f bytes behind = whole_at f bytes (next_failing 0 f) (among 0 f) (above 0 f) behind

-- at the first call
pub at_start : (c : ℕ) (f g bytes : List ℕ) (s : Script) → c ≡ 0 → g ≡ f → script_of 0 f bytes ≡ s → Some (script_of c g bytes) ≡ Some s
at_start c f g bytes s first same is =
    ap (λ (x : Script). Some x) (ap (λ (n : ℕ). script_of n g bytes) first ∙ ap (λ (l : List ℕ). script_of 0 l bytes) same ∙ is)

-- such a call there is, as where one number alone is listed
pub alone : (k : ℕ) → 0 < k → FirstToFail (k ∷ []) k
alone k some = record {
  listed = or_first (k == k) false (eq-eqb k k refl);
  counted = some;
  first = λ j listed positive. let e : k ≡ j = true_equal k j (only_first (k == j) false refl listed) in omega arith;
}
