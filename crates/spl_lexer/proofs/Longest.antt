-- Where the longest front that has the form of a token ends, and what stands there then.
use Rattle.std.proofs.Common.{ℕ, zero, suc, ◌≡◌, ◌<◌, ◌≤◌, ◌==◌, ◌&&◌, true, false, List, ◌∷◌, length, take, refl, arith}
use Rattle.spl_tree.specs.Bytes.{is_blank, begins}
use Rattle.spl_tree.specs.Tokens.{is_formed, longest_front, token_front, front}
use Rattle.spl_tree.proofs.FrontLaws.{longest_front-is}

-- of at most k bytes no front has the form of a token
none_of : (k : ℕ) (bs : List ℕ) → ((m : ℕ) → 0 < m → m ≤ k → is_formed (take m bs) ≡ false) → longest_front k bs ≡ 0
none_of zero bs none = refl
none_of (suc k) bs none = rw (none (suc k) (omega arith) (omega arith)) (none_of k bs (λ m a b. none m a (omega arith)))

-- the first byte and n after it have the form of a token, and no more do
longest_behind : (b : ℕ) (bs : List ℕ) (n : ℕ) → n ≤ length bs → is_formed (b ∷ take n bs) ≡ true
    → ((m : ℕ) → n < m → m ≤ length bs → is_formed (b ∷ take m bs) ≡ false) → longest_front (length (b ∷ bs)) (b ∷ bs) ≡ suc n
longest_behind b bs n within formed beyond = longest_front-is (suc (length bs)) (suc n) (b ∷ bs) (omega arith) formed each
  where
    each : (m : ℕ) → suc n < m → m ≤ suc (length bs) → is_formed (take m (b ∷ bs)) ≡ false
    each zero more most = absurd (omega arith)
    each (suc m) more most = beyond m (omega arith) (omega arith)

-- the first byte begins none
none_behind : (b : ℕ) (bs : List ℕ) → ((m : ℕ) → m ≤ length bs → is_formed (b ∷ take m bs) ≡ false) → longest_front (length (b ∷ bs)) (b ∷ bs) ≡ 0
none_behind b bs none = none_of (suc (length bs)) (b ∷ bs) each
  where
    each : (m : ℕ) → 0 < m → m ≤ suc (length bs) → is_formed (take m (b ∷ bs)) ≡ false
    each zero more most = absurd (omega arith)
    each (suc m) more most = none m (omega arith)

-- no gap begins at the byte b, which is followed by bs
pub record IsDense (b : ℕ) (bs : List ℕ) : Type 0 where
  pub blank : is_blank b ≡ false
  pub line : ((b == 47) && begins (λ c. c == 47) bs) ≡ false
  pub comment : ((b == 47) && begins (λ c. c == 42) bs) ≡ false

-- none begins at a byte that is no blank and no slash
pub dense : (b : ℕ) (bs : List ℕ) → is_blank b ≡ false → (b == 47) ≡ false → IsDense b bs
dense b bs blank slash = record { blank = blank; line = rw slash refl; comment = rw slash refl }

-- where no gap begins, the longest front is a token
pub front_at : (b : ℕ) (bs : List ℕ) (n : ℕ) → IsDense b bs → longest_front (length (b ∷ bs)) (b ∷ bs) ≡ n → front (b ∷ bs) ≡ token_front (b ∷ bs) n
unfolding front
front_at b bs n h e = rw (h.blank, h.line, h.comment, e) refl

-- a token of n bytes and the first one stands there
pub front_token : (b : ℕ) (bs : List ℕ) (n : ℕ) → IsDense b bs → n ≤ length bs → is_formed (b ∷ take n bs) ≡ true
    → ((m : ℕ) → n < m → m ≤ length bs → is_formed (b ∷ take m bs) ≡ false) → front (b ∷ bs) ≡ token_front (b ∷ bs) (suc n)
front_token b bs n h within formed beyond = front_at b bs (suc n) h (longest_behind b bs n within formed beyond)

-- no token stands there
pub front_none : (b : ℕ) (bs : List ℕ) → IsDense b bs → ((m : ℕ) → m ≤ length bs → is_formed (b ∷ take m bs) ≡ false)
    → front (b ∷ bs) ≡ token_front (b ∷ bs) 0
front_none b bs h none = front_at b bs 0 h (none_behind b bs none)
