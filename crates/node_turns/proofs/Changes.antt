-- What the changes of an element's state leave of it.
use Rattle.std.proofs.Common.{Bool, true, false, ◌||◌, List, [], ◌∷◌, ◌++◌, ◌≡◌, refl, sym, ap, ◌∙◌, append_assoc}
use Rattle.std.proofs.Common.{append-nil}
use Rattle.std.proofs.lemmas.Bool.{cond_both}
use Rattle.std.specs.List.{list_any}
use Rattle.network_model.specs.Networks.{Part}
use Rattle.network_model.specs.Receipts.{Receipt}
use Rattle.network_model.specs.States.{At, all_taken, cut_off, drops, is_cut_receipt, keeps, lacks, takes}
use Rattle.node_turns.specs.Notes.{is_stopping, worse}
use Rattle.node_turns.specs.declared.note.Note.{Note}
use Rattle.node_turns.specs.declared.note.Note.TheVariants as N

pub or_true : (a : Bool) → a || true ≡ true
or_true true = refl
or_true false = refl

pub or_nothing : (a : Bool) → a || false ≡ a
or_nothing true = refl
or_nothing false = refl

or_assoc : (a b c : Bool) → (a || b) || c ≡ a || (b || c)
or_assoc true b c = refl
or_assoc false b c = refl

pub any_more : (receipts : List Receipt) (r : Receipt)
    → list_any is_cut_receipt (receipts ++ r ∷ []) ≡ list_any is_cut_receipt receipts || is_cut_receipt r
any_more [] r = or_nothing (is_cut_receipt r)
any_more (x ∷ receipts) r =
    ap (λ b. is_cut_receipt x || b) (any_more receipts r)
    ∙ sym (or_assoc (is_cut_receipt x) (list_any is_cut_receipt receipts) (is_cut_receipt r))

-- it has taken one thing more
pub record IsAfter (a b : At) (r : Receipt) : Type 0 where
  pub all : all_taken b ≡ all_taken a ++ r ∷ []
  pub pushed : b.pushed ≡ a.pushed
  pub whole : b.cut ≡ false → b.dropped ≡ []

-- it is cut, and all else is as it was
pub record IsCutOf (a b : At) : Type 0 where
  pub all : all_taken b ≡ all_taken a
  pub pushed : b.pushed ≡ a.pushed
  pub cut : b.cut ≡ true

pub cut_of : (part : Part) (a : At) → IsCutOf a (cut_off part a)
cut_of part a =
    cond_both a.cut a _ (λ b. IsCutOf a b)
    (λ cut. record { all = refl; pushed = refl; cut = cut })
    (λ uncut. record { all = refl; pushed = refl; cut = refl })

dropped_one : (a : At) (r : Receipt) → all_taken (drops a r) ≡ all_taken a ++ r ∷ []
dropped_one a r = sym (append_assoc a.kept a.dropped (r ∷ []))

pub after_lacks : (part : Part) (a : At) (r : Receipt) → IsAfter a (lacks part a r) r × ((lacks part a r).cut ≡ true)
after_lacks part a r =
    let c = cut_of part (drops a r) in (
      record {
        all = c.all ∙ dropped_one a r;
        pushed = c.pushed;
        whole = λ uncut. absurd (let clash : true ≡ false = sym c.cut ∙ uncut in cc);
      },
      c.cut,
    )

-- it takes a thing
pub record IsTakenBy (a b : At) (r : Receipt) : Type 0 where
  pub after : IsAfter a b r
  pub cut : b.cut ≡ a.cut || is_cut_receipt r

after_drops : (a : At) (r : Receipt) → a.cut ≡ true → IsTakenBy a (drops a r) r
after_drops a r cut = record {
  after = record {
    all = dropped_one a r;
    pushed = refl;
    whole = λ uncut. absurd (let clash : true ≡ false = sym cut ∙ uncut in cc);
  };
  cut = cut ∙ ap (λ b. b || is_cut_receipt r) (sym cut);
}

after_keeps : (part : Part) (a : At) (r : Receipt) → (a.cut ≡ false → a.dropped ≡ []) → a.cut ≡ false
    → is_cut_receipt r ≡ false
    → IsTakenBy a (keeps part a r) r
after_keeps part a r whole uncut other = record {
  after = record {
    all = ap (λ xs. (a.kept ++ r ∷ []) ++ xs) (whole uncut) ∙ append-nil (a.kept ++ r ∷ [])
        ∙ ap (λ xs. xs ++ r ∷ []) (sym (ap (λ xs. a.kept ++ xs) (whole uncut) ∙ append-nil a.kept));
    pushed = refl;
    whole = λ _. whole uncut;
  };
  cut = sym (or_nothing a.cut) ∙ ap (λ b. a.cut || b) (sym other);
}

pub after_takes : (part : Part) (a : At) (r : Receipt) → (a.cut ≡ false → a.dropped ≡ [])
    → IsTakenBy a (takes part a r) r
after_takes part a r whole =
    cond_both a.cut (drops a r) _ (λ b. IsTakenBy a b r)
    (λ cut. after_drops a r cut)
    (λ uncut. cond_both (is_cut_receipt r) (cut_off part (drops a r)) (keeps part a r) (λ b. IsTakenBy a b r)
    (λ cutting. let l = after_lacks part a r in record {
      after = l.0;
      cut = l.1 ∙ sym (or_true a.cut) ∙ ap
          (λ b. a.cut || b) (sym cutting);
    })
    (λ other. after_keeps part a r whole uncut other))

-- ---- notes

-- what cuts the element weighs enough to be noted as such
pub stops : (note why : Note) → is_stopping why ≡ true → is_stopping (worse note why) ≡ true
stops N.Nothing N.Nothing h = h
stops N.Nothing N.Write h = h
stops N.Nothing (N.Worn l) h = refl
stops N.Nothing N.Memory h = refl
stops N.Nothing N.Improper h = refl
stops N.Write N.Nothing h = absurd (let clash : false ≡ true = h in cc)
stops N.Write N.Write h = h
stops N.Write (N.Worn l) h = refl
stops N.Write N.Memory h = refl
stops N.Write N.Improper h = refl
stops (N.Worn k) N.Nothing h = refl
stops (N.Worn k) N.Write h = refl
stops (N.Worn k) (N.Worn l) h = refl
stops (N.Worn k) N.Memory h = refl
stops (N.Worn k) N.Improper h = refl
stops N.Memory N.Nothing h = refl
stops N.Memory N.Write h = refl
stops N.Memory (N.Worn l) h = refl
stops N.Memory N.Memory h = refl
stops N.Memory N.Improper h = refl
stops N.Improper N.Nothing h = refl
stops N.Improper N.Write h = refl
stops N.Improper (N.Worn l) h = refl
stops N.Improper N.Memory h = refl
stops N.Improper N.Improper h = refl
