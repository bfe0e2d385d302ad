-- Numbered items: up to the first that closes, those of a channel, and numbers that never fall.
use Rattle.std.proofs.Common.{◌≡◌, ◌≤◌, ◌⊎◌, inl, inr, ℕ, ◌+◌, Bool, true, false, List, [], ◌∷◌, ◌++◌, map, refl, sym, ap, ◌∙◌, append_assoc, arith, cond}
use Rattle.std.specs.Prelude.{◌==◌, filter}
use Rattle.std.specs.List.{enumerate_from}
use Rattle.std.proofs.lemmas.List.Elements.{filter-append}
use Rattle.spl_value.specs.declared.item.Item.{Item}
use Rattle.spl_value.specs.declared.item.Item.TheVariants as I
use Rattle.spl_value.specs.Numbered.{IsPrefix, NeverFalls, closes, cut}
use Rattle.stream_model.specs.Stream.{any_closes, is_closed}
use Rattle.channel_heads.proofs.ByNumber.{Tagged}
use Rattle.stream_model.specs.Replicas.{under}

-- without their numbers
abbrev pub items : List Tagged → List Item
items ps = map (λ (p : Tagged). p.1) ps

-- up to and with the first that closes
abbrev pub cut_tagged : List Tagged → List Tagged
cut_tagged [] = []
cut_tagged (p ∷ ps) = p ∷ cond (closes p.1) [] (cut_tagged ps)

-- one of them closes
abbrev pub any_ends : List Tagged → Bool
any_ends [] = false
any_ends (p ∷ ps) = cond (closes p.1) true (any_ends ps)

-- ---- items under one number

pub items-under : (n : ℕ) (xs : List Item) (ps : List Tagged) → items (under n xs ++ ps) ≡ xs ++ items ps
items-under n [] ps = refl
items-under n (x ∷ xs) ps = ap (λ z. x ∷ z) (items-under n xs ps)

pub cut-open : (n : ℕ) (xs : List Item) (ps : List Tagged) → any_closes xs ≡ false → cut_tagged (under n xs ++ ps) ≡ under n xs ++ cut_tagged ps
cut-open n [] ps h = refl
cut-open n (I.Tuple vs ∷ xs) ps h = ap (λ z. (n, I.Tuple vs) ∷ z) (cut-open n xs ps h)
cut-open n (I.Window ∷ xs) ps h = ap (λ z. (n, I.Window) ∷ z) (cut-open n xs ps h)
cut-open n (I.Final ∷ xs) ps h = absurd (let no : true ≡ false = h in cc)
cut-open n (I.Bad f ∷ xs) ps h = absurd (let no : true ≡ false = h in cc)

pub cut-closed : (n : ℕ) (xs : List Item) (ps : List Tagged) → is_closed xs ≡ true → cut_tagged (under n xs ++ ps) ≡ under n xs
cut-closed n [] ps h = absurd (let no : false ≡ true = h in cc)
cut-closed n (I.Tuple vs ∷ xs) ps h = ap (λ z. (n, I.Tuple vs) ∷ z) (cut-closed n xs ps h)
cut-closed n (I.Window ∷ xs) ps h = ap (λ z. (n, I.Window) ∷ z) (cut-closed n xs ps h)
cut-closed n (I.Final ∷ []) ps h = refl
cut-closed n (I.Final ∷ (y ∷ ys)) ps h = absurd (let no : false ≡ true = h in cc)
cut-closed n (I.Bad f ∷ []) ps h = refl
cut-closed n (I.Bad f ∷ (y ∷ ys)) ps h = absurd (let no : false ≡ true = h in cc)

-- ---- lists up to the first that closes

pub cut-congr : (os bs cs : List Tagged) → cut_tagged bs ≡ cut_tagged cs → cut_tagged (os ++ bs) ≡ cut_tagged (os ++ cs)
cut-congr [] bs cs h = h
cut-congr (p ∷ os) bs cs h = ap (λ z. p ∷ cond (closes p.1) [] z) (cut-congr os bs cs h)

pub cut-cut : (ps : List Tagged) → cut_tagged (cut_tagged ps) ≡ cut_tagged ps
cut-cut [] = refl
cut-cut (p ∷ ps) = go (closes p.1) (cut-cut ps) where
  go : (b : Bool) → cut_tagged (cut_tagged ps) ≡ cut_tagged ps → p ∷ cond b [] (cut_tagged (cond b [] (cut_tagged ps))) ≡ p ∷ cond b [] (cut_tagged ps)
  go true h = refl
  go false h = ap (λ z. p ∷ z) h

pub items-cut : (ps : List Tagged) → items (cut_tagged ps) ≡ cut (items ps)
items-cut [] = refl
items-cut (p ∷ ps) = go (closes p.1) (items-cut ps) where
  go : (b : Bool) → items (cut_tagged ps) ≡ cut (items ps) → p.1 ∷ items (cond b [] (cut_tagged ps)) ≡ p.1 ∷ cond b [] (cut (items ps))
  go true h = refl
  go false h = ap (λ z. p.1 ∷ z) h

pub cut-none : (ps : List Tagged) → any_ends ps ≡ false → cut_tagged ps ≡ ps
cut-none [] h = refl
cut-none (p ∷ ps) h = go (closes p.1) h (cut-none ps) where
  go : (b : Bool) → cond b true (any_ends ps) ≡ false → (any_ends ps ≡ false → cut_tagged ps ≡ ps) → p ∷ cond b [] (cut_tagged ps) ≡ p ∷ ps
  go true h ih = absurd (let no : true ≡ false = h in cc)
  go false h ih = ap (λ z. p ∷ z) (ih h)

pub cut-append : (xs ys : List Tagged) → any_ends xs ≡ false → cut_tagged (xs ++ ys) ≡ xs ++ cut_tagged ys
cut-append [] ys h = refl
cut-append (p ∷ xs) ys h = go (closes p.1) h (cut-append xs ys) where
  go : (b : Bool) → cond b true (any_ends xs) ≡ false → (any_ends xs ≡ false → cut_tagged (xs ++ ys) ≡ xs ++ cut_tagged ys)
      → p ∷ cond b [] (cut_tagged (xs ++ ys)) ≡ p ∷ (xs ++ cut_tagged ys)
  go true h ih = absurd (let no : true ≡ false = h in cc)
  go false h ih = ap (λ z. p ∷ z) (ih h)

-- where one closes, a list is an open one, that one, and what comes behind
pub record Ended (ps : List Tagged) : Type 0 where
  pub before : List Tagged
  pub last : Tagged
  pub behind : List Tagged
  pub parts : ps ≡ before ++ last ∷ behind
  pub is_open : any_ends before ≡ false
  pub ends : closes last.1 ≡ true

pub ended_at : (ps : List Tagged) → (any_ends ps ≡ false) ⊎ Ended ps
ended_at [] = inl refl
ended_at (p ∷ ps) = go (closes p.1) refl (ended_at ps) where
  go : (b : Bool) → closes p.1 ≡ b → (any_ends ps ≡ false) ⊎ Ended ps → (cond b true (any_ends ps) ≡ false) ⊎ Ended (p ∷ ps)
  go true e rest = inr (record { before = []; last = p; behind = ps; parts = refl; is_open = refl; ends = e })
  go false e (inl h) = inl h
  go false e (inr r) = inr (record {
    before = p ∷ r.before;
    last = r.last;
    behind = r.behind;
    parts = ap (λ z. p ∷ z) r.parts;
    is_open = ap (λ b. cond b true (any_ends r.before)) e ∙ r.is_open;
    ends = r.ends;
  })

-- ---- channels

abbrev pub on_channel : (ℕ → ℕ) → ℕ → List Tagged → List Tagged
on_channel channel_at c ps = filter (λ (p : Tagged). channel_at p.0 == c) ps

pub on_channel-append : (channel_at : ℕ → ℕ) (c : ℕ) (ps qs : List Tagged) → on_channel channel_at c (ps ++ qs) ≡ on_channel channel_at c ps ++ on_channel channel_at c qs
on_channel-append channel_at c ps qs = filter-append (λ (p : Tagged). channel_at p.0 == c) ps qs

pub channel-kept : (channel_at : ℕ → ℕ) (c n : ℕ) (xs : List Item) → (channel_at n == c) ≡ true → on_channel channel_at c (under n xs) ≡ under n xs
channel-kept channel_at c n [] e = refl
channel-kept channel_at c n (x ∷ xs) e = ap (λ b. cond b ((n, x) ∷ on_channel channel_at c (under n xs)) (on_channel channel_at c (under n xs))) e ∙ ap (λ z. (n, x) ∷ z) (channel-kept channel_at c n xs e)

pub channel-left : (channel_at : ℕ → ℕ) (c n : ℕ) (xs : List Item) → (channel_at n == c) ≡ false → on_channel channel_at c (under n xs) ≡ []
channel-left channel_at c n [] e = refl
channel-left channel_at c n (x ∷ xs) e = ap (λ b. cond b ((n, x) ∷ on_channel channel_at c (under n xs)) (on_channel channel_at c (under n xs))) e ∙ channel-left channel_at c n xs e

-- ---- numbers

-- the numbers never fall
abbrev pub Rising : ℕ → List Tagged → Type 0
Rising lo [] = Unit {0}
Rising lo (p ∷ ps) = (lo ≤ p.0) × Rising p.0 ps

pub rising-weak : (lo hi : ℕ) (ps : List Tagged) → lo ≤ hi → Rising hi ps → Rising lo ps
rising-weak lo hi [] l r = tt
rising-weak lo hi (p ∷ ps) l r = (let m : hi ≤ p.0 = r.0 in omega arith, r.1)

pub rising-under : (lo n : ℕ) (xs : List Item) (ps : List Tagged) → lo ≤ n → Rising n ps → Rising lo (under n xs ++ ps)
rising-under lo n [] ps l r = rising-weak lo n ps l r
rising-under lo n (x ∷ xs) ps l r = (l, rising-under n n xs ps (omega arith) r)

pub rising-numbered : (n : ℕ) (xs : List Item) → Rising n (enumerate_from n xs)
rising-numbered n [] = tt
rising-numbered n (x ∷ xs) = (omega arith, rising-weak n (n + 1) (enumerate_from (n + 1) xs) (omega arith) (rising-numbered (n + 1) xs))

pub rising-channel : (channel_at : ℕ → ℕ) (c lo : ℕ) (ps : List Tagged) → Rising lo ps → Rising lo (on_channel channel_at c ps)
rising-channel channel_at c lo [] r = tt
rising-channel channel_at c lo (p ∷ ps) r = go (channel_at p.0 == c) r.0 (rising-channel channel_at c p.0 ps r.1) where
  go : (b : Bool) → lo ≤ p.0 → Rising p.0 (on_channel channel_at c ps) → Rising lo (cond b (p ∷ on_channel channel_at c ps) (on_channel channel_at c ps))
  go true l r = (l, r)
  go false l r = rising-weak lo p.0 (on_channel channel_at c ps) l r

pub rising-cut : (lo : ℕ) (ps : List Tagged) → Rising lo ps → Rising lo (cut_tagged ps)
rising-cut lo [] r = tt
rising-cut lo (p ∷ ps) r = (r.0, go (closes p.1) (rising-cut p.0 ps r.1)) where
  go : (b : Bool) → Rising p.0 (cut_tagged ps) → Rising p.0 (cond b [] (cut_tagged ps))
  go true r = tt
  go false r = r

pub rising-before : (lo : ℕ) (xs ys : List Tagged) → Rising lo (xs ++ ys) → Rising lo xs
rising-before lo [] ys r = tt
rising-before lo (p ∷ xs) ys r = (r.0, rising-before p.0 xs ys r.1)

-- of a list in two parts, the second never falls below the last of the first
pub rising-behind : (lo : ℕ) (xs : List Tagged) (p : Tagged) (ys : List Tagged) → Rising lo (xs ++ p ∷ ys) → Rising p.0 ys
rising-behind lo [] p ys r = r.1
rising-behind lo (x ∷ xs) p ys r = rising-behind x.0 xs p ys r.1

-- the items without numbers of a numbered list
pub items-numbered : (n : ℕ) (xs : List Item) → items (enumerate_from n xs) ≡ xs
items-numbered n [] = refl
items-numbered n (x ∷ xs) = ap (λ z. x ∷ z) (items-numbered (n + 1) xs)

-- ---- numbers that never fall, and fronts

pub falls-weak : (lo hi : ℕ) (ns : List ℕ) → lo ≤ hi → NeverFalls hi ns → NeverFalls lo ns
falls-weak lo hi [] l f = tt
falls-weak lo hi (n ∷ ns) l f = (let m : hi ≤ n = f.0 in omega arith, f.1)

pub front_trans : {A : Type 0} (xs ys zs : List A) → IsPrefix xs ys → IsPrefix ys zs → IsPrefix xs zs
front_trans xs ys zs a b = (a.0 ++ b.0, sym (append_assoc xs a.0 b.0) ∙ ap (λ z. z ++ b.0) a.1 ∙ b.1)
