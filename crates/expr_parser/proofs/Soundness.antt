-- What is taken is a phrase, and what is taken up to a refusal starts one.
use Rattle.std.proofs.Common.{◌≡◌, ◌∙◌, ℕ, zero, suc, Bool, true, false, if◌then◌else◌, List, [], ◌∷◌, ◌++◌, refl, sym, ap, append_assoc}
use Rattle.spl_tree.specs.declared.token.Token.{Token}
use Rattle.expr_parser.specs.Rules.{Rule, done, stop, look, call, RuleResult, Took, Refused, Spent, Reader, and_then, run, read}
use Rattle.spl_tree.specs.spellings.Phrases.{Phrase}
use Rattle.spl_tree.specs.Fronts.{Starts}
use Rattle.expr_parser.specs.Parts.{Takes, Begins}

-- what completes a token to a phrase
abbrev pub Behind : {A : Type 0} → Token → Phrase A → Phrase A
Behind t U v b = U v (t ∷ b)

-- what completes each phrase of a value to another phrase
abbrev pub After : {A B : Type 0} → Phrase A → Phrase B → A → Phrase B
After P U y v b = (a : List Token) → P y a → U v (a ++ b)

-- a value that is taken has its phrase, and a refusal stands where a phrase was started
abbrev pub Sound : {A : Type 0} → Phrase A → List Token → RuleResult A → Type 0
Sound P ts (Took v rest) = Takes P ts v rest
Sound P ts (Refused rest) = Begins P ts rest
Sound P ts Spent = Unit {0}

-- each line has a phrase
abbrev pub EachStarts : {Line : Type 0} {Value : Line → Type 0} → ((x : Line) → Phrase (Value x)) → Type 0
EachStarts {Line} Phrases = (x : Line) → Starts (Phrases x) []

module _ {Line : Type 0} {Value : Line → Type 0} (Phrases : (x : Line) → Phrase (Value x)) where
  -- each way through a rule completes a phrase of U, and where it stops, some tokens would complete one
  abbrev pub Leads : {A : Type 0} → Phrase A → Rule Line Value A → Type 0
  Leads U (done v) = U v []
  Leads U stop = Starts U []
  Leads U (look p f d) = ((t : Token) → p t ≡ true → Leads (Behind t U) (f t)) × Leads U d
  Leads U (call x k) = (y : Value x) → Leads (After (Phrases x) U y) (k y)

-- an answer after a token
behind_token : {A : Type 0} (U : Phrase A) (t : Token) (ts : List Token) (o : RuleResult A) → Sound (Behind t U) ts o → Sound U (t ∷ ts) o
behind_token U t ts (Took v rest) s = record { front = t ∷ s.front; splits = ap (λ us. t ∷ us) s.splits; spells = s.spells }
behind_token U t ts (Refused rest) s = record {
  front = t ∷ s.front;
  splits = ap (λ us. t ∷ us) s.splits;
  starts = record { behind = s.starts.behind; value = s.starts.value; spells = s.starts.spells };
}
behind_token U t ts Spent s = tt

module _ {A B : Type 0} (P : Phrase A) (U : Phrase B) where
  -- an answer after a phrase
  after_phrase : (y : A) (ts mid : List Token) (o : RuleResult B) → Takes P ts y mid → Sound (After P U y) mid o → Sound U ts o
  after_phrase y ts mid (Took v rest) t s = record {
    front = t.front ++ s.front;
    splits = t.splits ∙ ap (λ us. t.front ++ us) s.splits ∙ sym (append_assoc t.front s.front rest);
    spells = s.spells t.front t.spells;
  }
  after_phrase y ts mid (Refused rest) t s = record {
    front = t.front ++ s.front;
    splits = t.splits ∙ ap (λ us. t.front ++ us) s.splits ∙ sym (append_assoc t.front s.front rest);
    starts = record {
      behind = s.starts.behind;
      value = s.starts.value;
      spells = rw append_assoc (s.starts.spells t.front t.spells);
    };
  }
  after_phrase y ts mid Spent t s = tt

  -- what starts a phrase starts what that phrase begins
  starts_longer : (front : List Token) (s : Starts P front) → Starts (After P U s.value) [] → Starts U front
  starts_longer front s more = record {
    behind = s.behind ++ more.behind;
    value = more.value;
    spells = rw (← append_assoc) (more.spells (front ++ s.behind) s.spells);
  }

module _ {Line : Type 0} {Value : Line → Type 0} (Phrases : (x : Line) → Phrase (Value x)) (has : EachStarts Phrases) where
  -- a rule that leads to phrases leads to at least one
  pub leads_some : {A : Type 0} (U : Phrase A) (r : Rule Line Value A) → Leads Phrases U r → Starts U []
  leads_some U (done v) q = record { behind = []; value = v; spells = q }
  leads_some U stop q = q
  leads_some U (look p f d) q = leads_some U d q.1
  leads_some U (call x k) q =
      let h = has x in
      starts_longer (Phrases x) U [] h (leads_some (After (Phrases x) U h.value) (k h.value) (q h.value))

  module _ (c : (x : Line) → Reader (Value x)) (sound : (x : Line) (ts : List Token) → Sound (Phrases x) ts (c x ts)) where
    -- what a rule gives, where the lines give phrases
    sound_run : {A : Type 0} (U : Phrase A) (r : Rule Line Value A) → Leads Phrases U r → (ts : List Token) → Sound U ts (run c r ts)
    sound_run U (done v) q ts = record { front = []; splits = refl; spells = q }
    sound_run U stop q ts = record { front = []; splits = refl; starts = q }
    sound_run U (look p f d) q [] = sound_run U d q.1 []
    sound_run U (look p f d) q (t ∷ ts) = by (p t) (λ e. sound_run (Behind t U) (f t) (q.0 t e) ts) (sound_run U d q.1 (t ∷ ts))
      where
        by : (b : Bool) → (b ≡ true → Sound (Behind t U) ts (run c (f t) ts)) → Sound U (t ∷ ts) (run c d (t ∷ ts))
            → Sound U (t ∷ ts) (if b then run c (f t) ts else run c d (t ∷ ts))
        by true taken skipped = behind_token U t ts (run c (f t) ts) (taken refl)
        by false taken skipped = skipped
    sound_run {A} U (call x k) q ts = by (c x ts) (sound x ts) (λ y. sound_run (After (Phrases x) U y) (k y) (q y))
      where
        by : (o : RuleResult (Value x)) → Sound (Phrases x) ts o
            → ((y : Value x) (mid : List Token) → Sound (After (Phrases x) U y) mid (run c (k y) mid))
            → Sound U ts (and_then o (λ y rest. run c (k y) rest))
        by (Took y mid) s behind = after_phrase (Phrases x) U y ts mid (run c (k y) mid) s (behind y mid)
        by (Refused rest) s behind =
            let y = s.starts.value in
            record {
              front = s.front;
              splits = s.splits;
              starts = starts_longer (Phrases x) U s.front s.starts (leads_some (After (Phrases x) U y) (k y) (q y));
            }
        by Spent s behind = tt

  module _ (rule : (x : Line) → Rule Line Value (Value x)) (leads : (x : Line) → Leads Phrases (Phrases x) (rule x)) where
    -- what a line gives, where its rule leads to its phrases
    pub sound : (n : ℕ) (x : Line) (ts : List Token) → Sound (Phrases x) ts (read rule n x ts)
    unfolding read
    sound zero x ts = tt
    sound (suc n) x ts = sound_run (read rule n) (sound n) (Phrases x) (rule x) (leads x) ts
