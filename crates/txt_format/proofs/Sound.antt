-- What is read is spelled.
use Rattle.std.specs.Prelude.{◌≡◌, ◌==◌, ◌||◌, not, zero, suc, ℕ, ℤ, Bool, cond, true, false, codes, List, [], ◌∷◌, ◌++◌, length, take, drop, fold, Option, Some, None, option_map}
use Rattle.std.specs.Option.{option_and_then, option_map_or}
use Rattle.std.specs.List.{join_with_byte, prefix_len, AllByRecursion}
use Rattle.std.proofs.Common.{refl, sym, ap, subst, ◌∙◌, append_assoc}
use Rattle.std.proofs.lemmas.Bool.{eqb-true}
use Rattle.std.proofs.lemmas.List.{append-nil, take-append-drop}
use Rattle.spl_value.specs.declared.types.IntKind.{IntKind}
use Rattle.spl_value.specs.declared.types.Named.{Named}
use Rattle.spl_value.specs.declared.types.SplType.{SplType}
use Rattle.spl_value.specs.declared.types.SplType.TheVariants as T
use Rattle.spl_value.specs.declared.value.Value.{Value}
use Rattle.spl_value.specs.declared.value.Value.TheVariants as V
use Rattle.spl_value.specs.Decimal.{integer_of}
use Rattle.spl_value.proofs.Induction.{type_ind}
use Rattle.txt_format.specs.Escapes.{Escapes, Means}
use Rattle.txt_format.specs.Escapes.Escapes.{double_quote, single_quote, backslash, line_feed, tab, carriage_return}
use Rattle.txt_format.specs.TxtSpelling.{Inside, SpellAttributes, SpellElements, SpellPairs, Spells, SpellsValue, are_blanks, begins_blank, is_blank}
use Rattle.txt_format.specs.steps.Bytes.{is_part, past_blanks, past_byte, past_mark, past_name}
use Rattle.txt_format.specs.steps.Reading.{as_other, meant, past_equals, past_separator, push, put, read_fields, read_inside, read_int, read_items, read_opened, read_pair, read_text, read_truth, read_value}
use Rattle.txt_format.proofs.Blanks.{behind_none, behind_piece, behind_some, byte_was, begins, front, joined, mark_fresh, mark_was, name_was, past_fresh}
use Rattle.txt_format.proofs.Complete.{pushed}
use Rattle.txt_format.proofs.Steps.{then_other}
use Rattle.txt_format.proofs.ReadingLaws.{read_of_bool, read_of_int, read_of_list, read_of_map, read_of_text, read_of_tuple}

-- ---- answers

-- what was there before, where something comes of it
pub then_some : {A B : Type 0} (f : A → Option B) (o : Option A) (y : B) → option_and_then f o ≡ Some y → (x : A) × (o ≡ Some x) × (f x ≡ Some y)
then_some f None y e = absurd (cc)
then_some f (Some x) y e = (x, refl, e)

-- ---- integers, booleans, texts

-- the value is spelled by the front of the text, and the rest is behind it
pub record Taken (t : SplType) (bytes : List ℕ) (v : Value) (rest : List ℕ) : Type 0 where
  pub own : List ℕ
  pub are : bytes ≡ own ++ rest
  pub spells : SpellsValue t own v

int_taken : (k : IntKind) (bytes : List ℕ) (v : Value) (rest : List ℕ) → read_int k bytes ≡ Some (v, rest) → Taken (T.Int k) bytes v rest
int_taken k bytes v rest e = by (integer_of k (take (prefix_len is_part bytes) bytes)) refl e
  where
    by : (o : Option ℤ) → integer_of k (take (prefix_len is_part bytes) bytes) ≡ o → option_map {U = Value × List ℕ} (λ n. (V.Int n, drop (prefix_len is_part bytes) bytes)) o ≡ Some (v, rest) → Taken (T.Int k) bytes v rest
    by None i h = absurd (cc)
    by (Some n) i h =
        let both : ◌≡◌ {A = Value × List ℕ} (V.Int n, drop (prefix_len is_part bytes) bytes) (v, rest) = cc in
        record {
          own = take (prefix_len is_part bytes) bytes;
          are = sym (take-append-drop (prefix_len is_part bytes) bytes) ∙ (λ j. take (prefix_len is_part bytes) bytes ++ (both j).1);
          spells = subst (SpellsValue (T.Int k) (take (prefix_len is_part bytes) bytes)) (λ j. (both j).0) (SpellsValue.integer k (take (prefix_len is_part bytes) bytes) n i);
        }

truth_taken : (bytes : List ℕ) (v : Value) (rest : List ℕ) → read_truth bytes ≡ Some (v, rest) → Taken T.Bool bytes v rest
truth_taken bytes v rest e = by (past_name (codes "true") bytes) refl (past_name (codes "false") bytes) refl e
  where
    by : (o : Option (List ℕ)) → past_name (codes "true") bytes ≡ o → (u : Option (List ℕ)) → past_name (codes "false") bytes ≡ u
        → option_map_or {U = Option (Value × List ℕ)} (λ behind. Some (V.Bool true, behind)) o (option_map_or (λ behind. Some (V.Bool false, behind)) u None) ≡ Some (v, rest) → Taken T.Bool bytes v rest
    by (Some x) i u j h =
        let both : ◌≡◌ {A = Value × List ℕ} (V.Bool true, x) (v, rest) = cc in
        record { own = codes "true"; are = name_was (codes "true") bytes x i ∙ (λ k. codes "true" ++ (both k).1); spells = subst (SpellsValue T.Bool (codes "true")) (λ k. (both k).0) SpellsValue.yes }
    by None i (Some x) j h =
        let both : ◌≡◌ {A = Value × List ℕ} (V.Bool false, x) (v, rest) = cc in
        record { own = codes "false"; are = name_was (codes "false") bytes x j ∙ (λ k. codes "false" ++ (both k).1); spells = subst (SpellsValue T.Bool (codes "false")) (λ k. (both k).0) SpellsValue.no }
    by None i None j h = absurd (cc)

meant_escape : (c m : ℕ) → meant c ≡ Some m → Escapes c m
meant_escape c m e = by (c == 34) refl (c == 39) refl (c == 92) refl (c == 110) refl (c == 116) refl (c == 114) refl e
  where
    is : (a b : ℕ) → Escapes a b → c ≡ a → Some b ≡ Some m → Escapes c m
    is a b x i h = let s : b ≡ m = cc in subst (λ d. Escapes d m) (sym i) (subst (Escapes a) s x)

    by : (p : Bool) → (c == 34) ≡ p → (q : Bool) → (c == 39) ≡ q → (r : Bool) → (c == 92) ≡ r → (s : Bool) → (c == 110) ≡ s → (t : Bool) → (c == 116) ≡ t
        → (u : Bool) → (c == 114) ≡ u
        → cond p (Some 34) (cond q (Some 39) (cond r (Some 92) (cond s (Some 10) (cond t (Some 9) (cond u (Some 13) None))))) ≡ Some m → Escapes c m
    by true i q j r k s l t m2 u n h = is 34 34 double_quote (eqb-true c 34 i) h
    by false i true j r k s l t m2 u n h = is 39 39 single_quote (eqb-true c 39 j) h
    by false i false j true k s l t m2 u n h = is 92 92 backslash (eqb-true c 92 k) h
    by false i false j false k true l t m2 u n h = is 110 10 line_feed (eqb-true c 110 l) h
    by false i false j false k false l true m2 u n h = is 116 9 tab (eqb-true c 116 m2) h
    by false i false j false k false l false m2 true n h = is 114 13 carriage_return (eqb-true c 114 n) h
    by false i false j false k false l false m2 false n h = absurd (cc)

-- the bytes up to the closing quote, and what they mean
record InsideTaken (read bytes text rest : List ℕ) : Type 0 where
  inside : List ℕ
  own : List ℕ
  are : bytes ≡ inside ++ 34 ∷ rest
  text_is : text ≡ read ++ own
  means : Means inside own

-- the same behind a backslash
record SlashTaken (read bytes text rest : List ℕ) : Type 0 where
  c : ℕ
  m : ℕ
  others : List ℕ
  are : bytes ≡ c ∷ others
  escape : Escapes c m
  later : InsideTaken (read ++ m ∷ []) others text rest

mutual
  inside_taken : (bytes read text rest : List ℕ) → read_inside false read bytes ≡ Some (text, rest) → InsideTaken read bytes text rest
  inside_taken [] read text rest e = absurd (cc)
  inside_taken (b ∷ bytes) read text rest e = by (b == 34) refl (b == 92) refl (b == 10) refl (slash_taken bytes read text rest) (inside_taken bytes (read ++ b ∷ []) text rest) e
    where
      by : (p : Bool) → (b == 34) ≡ p → (q : Bool) → (b == 92) ≡ q → (r : Bool) → (b == 10) ≡ r
          → (read_inside true read bytes ≡ Some (text, rest) → SlashTaken read bytes text rest)
          → (read_inside false (read ++ b ∷ []) bytes ≡ Some (text, rest) → InsideTaken (read ++ b ∷ []) bytes text rest)
          → cond p (Some (read, bytes)) (cond q (read_inside true read bytes) (cond r None (read_inside false (read ++ b ∷ []) bytes))) ≡ Some (text, rest)
          → InsideTaken read (b ∷ bytes) text rest
      by true i q j r k slash later h =
          let both : ◌≡◌ {A = List ℕ × List ℕ} (read, bytes) (text, rest) = cc in
          let quote = eqb-true b 34 i in
          record { inside = []; own = []; are = (λ n. quote n ∷ (both n).1); text_is = sym (λ n. (both n).0) ∙ sym (append-nil read); means = Means.nothing }
      by false i true j r k slash later h =
          let s = slash h in
          let w = s.later in
          let back = eqb-true b 92 j in
          record {
            inside = 92 ∷ s.c ∷ w.inside;
            own = s.m ∷ w.own;
            are = (λ n. back n ∷ (s.are ∙ ap (λ z. s.c ∷ z) w.are) n);
            text_is = w.text_is ∙ append_assoc read (s.m ∷ []) w.own;
            means = Means.escape s.c s.m w.inside w.own s.escape w.means;
          }
      by false i false j true k slash later h = absurd (cc)
      by false i false j false k slash later h =
          let w = later h in
          record {
            inside = b ∷ w.inside;
            own = b ∷ w.own;
            are = ap (λ z. b ∷ z) w.are;
            text_is = w.text_is ∙ append_assoc read (b ∷ []) w.own;
            means = Means.plain b w.inside w.own (λ n. not (i n || (j n || k n))) w.means;
          }

  slash_taken : (bytes read text rest : List ℕ) → read_inside true read bytes ≡ Some (text, rest) → SlashTaken read bytes text rest
  slash_taken [] read text rest e = absurd (cc)
  slash_taken (c ∷ bytes) read text rest e = by (meant c) refl (λ m. inside_taken bytes (read ++ m ∷ []) text rest) e
    where
      by : (o : Option ℕ) → meant c ≡ o → ((m : ℕ) → read_inside false (read ++ m ∷ []) bytes ≡ Some (text, rest) → InsideTaken (read ++ m ∷ []) bytes text rest)
          → option_and_then (λ m. read_inside false (read ++ m ∷ []) bytes) o ≡ Some (text, rest) → SlashTaken read (c ∷ bytes) text rest
      by None i later h = absurd (cc)
      by (Some m) i later h = record { c = c; m = m; others = bytes; are = refl; escape = meant_escape c m i; later = later m h }

-- what stands between two brackets and its closing one, behind the opening one
closed : (left right : ℕ) (bytes inside rest : List ℕ) → bytes ≡ left ∷ (inside ++ right ∷ rest) → bytes ≡ (left ∷ (inside ++ right ∷ [])) ++ rest
closed left right bytes inside rest e = e ∙ ap (λ z. left ∷ z) (sym (append_assoc inside (right ∷ []) rest))

text_taken : (bytes : List ℕ) (v : Value) (rest : List ℕ) → read_text bytes ≡ Some (v, rest) → Taken T.Text bytes v rest
text_taken bytes v rest e =
    let opened = then_some (λ behind. as_other V.Text (read_inside false [] behind)) (past_byte 34 bytes) (v, rest) e in
    let was = then_other V.Text (read_inside false [] opened.0) v rest opened.2 in
    let w = inside_taken opened.0 [] was.0 rest was.1 in
    record {
      own = 34 ∷ (w.inside ++ 34 ∷ []);
      are = closed 34 34 bytes w.inside rest (byte_was 34 bytes opened.0 opened.1 ∙ ap (λ z. 34 ∷ z) w.are);
      spells = subst (SpellsValue T.Text (34 ∷ (w.inside ++ 34 ∷ []))) (ap V.Text (sym w.text_is) ∙ was.2) (SpellsValue.text w.inside w.own w.means);
    }

-- ---- elements

abbrev AllSpell : {A : Type 0} → (List ℕ → A → Type 0) → List (List ℕ) → List A → Type 0
AllSpell E [] [] = Unit {0}
AllSpell E [] (x ∷ xs) = ⊥
AllSpell E (p ∷ ps) [] = ⊥
AllSpell E (p ∷ ps) (x ∷ xs) = E p x × AllSpell E ps xs

-- what a separator was: a comma, or the closing bracket
comma_was : (close : ℕ) (bytes rest : List ℕ) → past_separator close bytes ≡ Some (true, rest) → (from : List ℕ) × (bytes ≡ 44 ∷ from) × (past_blanks from ≡ rest)
comma_was close [] rest e = absurd (cc)
comma_was close (b ∷ bytes) rest e = by (b == 44) refl (b == close) e
  where
    by : (p : Bool) → (b == 44) ≡ p → (q : Bool) → cond {A = Option (Bool × List ℕ)} p (Some (true, past_blanks bytes)) (cond q (Some (false, bytes)) None) ≡ Some (true, rest)
        → (from : List ℕ) × (b ∷ bytes ≡ 44 ∷ from) × (past_blanks from ≡ rest)
    by true i q h =
        let both : ◌≡◌ {A = Bool × List ℕ} (true, past_blanks bytes) (true, rest) = cc in
        (bytes, ap (λ z. z ∷ bytes) (eqb-true b 44 i), (λ n. (both n).1))
    by false i true h = absurd (let both : ◌≡◌ {A = Bool × List ℕ} (false, bytes) (true, rest) = cc in let no : false ≡ true = (λ n. (both n).0) in cc no)
    by false i false h = absurd (cc)

close_was : (close : ℕ) (bytes rest : List ℕ) → past_separator close bytes ≡ Some (false, rest) → bytes ≡ close ∷ rest
close_was close [] rest e = absurd (cc)
close_was close (b ∷ bytes) rest e = by (b == 44) (b == close) refl e
  where
    by : (p : Bool) (q : Bool) → (b == close) ≡ q → cond {A = Option (Bool × List ℕ)} p (Some (true, past_blanks bytes)) (cond q (Some (false, bytes)) None) ≡ Some (false, rest) → b ∷ bytes ≡ close ∷ rest
    by true q i h = absurd (let both : ◌≡◌ {A = Bool × List ℕ} (true, past_blanks bytes) (false, rest) = cc in let no : true ≡ false = (λ n. (both n).0) in cc no)
    by false true i h =
        let both : ◌≡◌ {A = Bool × List ℕ} (false, bytes) (false, rest) = cc in
        let one = eqb-true b close i in
        λ n. one n ∷ (both n).1
    by false false i h = absurd (cc)

-- pieces that spell elements make up a text, up to the closing bracket
record ItemsTaken {A S : Type 0} (E : List ℕ → A → Type 0) (add : S → A → S) (close : ℕ) (s : S) (bytes : List ℕ) (now : S) (rest : List ℕ) : Type 0 where
  piece : List ℕ
  pieces : List (List ℕ)
  item : A
  items : List A
  spells : AllSpell E (piece ∷ pieces) (item ∷ items)
  are : bytes ≡ piece ++ behind_piece close pieces rest
  folded : fold add s (item ∷ items) ≡ now

-- what f reads, with blanks around it, is spelled
abbrev Spelling : {A : Type 0} → (List ℕ → Option (A × List ℕ)) → (List ℕ → A → Type 0) → Type 0
Spelling {A} f E = (before bytes : List ℕ) (x : A) (behind rest : List ℕ) → are_blanks before ≡ true → are_blanks behind ≡ true → f bytes ≡ Some (x, behind ++ rest)
    → (own : List ℕ) × (before ++ bytes ≡ own ++ rest) × E own x

module _ {A S : Type 0} (f : List ℕ → Option (A × List ℕ)) (E : List ℕ → A → Type 0) (spelling : Spelling f E) (add : S → A → S) (close : ℕ) where
  items_taken : (n : ℕ) (s : S) (before bytes : List ℕ) (now : S) (rest : List ℕ) → are_blanks before ≡ true → read_items f add close n s bytes ≡ Some (now, rest)
      → ItemsTaken E add close s (before ++ bytes) now rest
  items_taken zero s before bytes now rest b e = absurd (cc)
  items_taken (suc n) s before bytes now rest b e =
      let one = then_some (λ r. option_and_then (λ q. cond q.0 (read_items f add close n (add s r.0) q.1) (Some (add s r.0, q.1))) (past_separator close (past_blanks r.1))) (f bytes) (now, rest) e in
      let x = one.0.0 in
      let two = then_some (λ q. cond q.0 (read_items f add close n (add s x) q.1) (Some (add s x, q.1))) (past_separator close (past_blanks one.0.1)) (now, rest) one.2 in
      let g = front one.0.1 in
      let spelled = spelling before bytes x g.blanks (past_blanks one.0.1) b g.all (one.1 ∙ ap (λ z. Some (x, z)) g.are) in
      by x spelled.0 (past_blanks one.0.1) spelled.1 spelled.2 two.0.0 two.0.1 two.1 two.2 (items_taken n (add s x))
    where
      by : (x : A) (own past : List ℕ) → before ++ bytes ≡ own ++ past → E own x → (comma : Bool) (from : List ℕ) → past_separator close past ≡ Some (comma, from)
          → cond comma (read_items f add close n (add s x) from) (Some (add s x, from)) ≡ Some (now, rest)
          → ((before2 bytes2 : List ℕ) (now2 : S) (rest2 : List ℕ) → are_blanks before2 ≡ true → read_items f add close n (add s x) bytes2 ≡ Some (now2, rest2)
          → ItemsTaken E add close (add s x) (before2 ++ bytes2) now2 rest2)
          → ItemsTaken E add close s (before ++ bytes) now rest
      by x own past are spells true from sep h later =
          let was = comma_was close past from sep in
          let g = front was.0 in
          let w = later g.blanks (past_blanks was.0) now rest g.all (ap (read_items f add close n (add s x)) was.2 ∙ h) in
          record {
            piece = own;
            pieces = w.piece ∷ w.pieces;
            item = x;
            items = w.item ∷ w.items;
            spells = (spells, w.spells);
            are = are ∙ ap (λ z. own ++ z) (was.1 ∙ ap (λ z. 44 ∷ z) (g.are ∙ w.are) ∙ sym (behind_some close w.piece w.pieces rest));
            folded = w.folded;
          }
      by x own past are spells false from sep h later =
          let both : ◌≡◌ {A = S × List ℕ} (add s x, from) (now, rest) = cc in
          record {
            piece = own;
            pieces = [];
            item = x;
            items = [];
            spells = (spells, tt);
            are = are ∙ ap (λ z. own ++ z) (close_was close past from sep ∙ (λ i. close ∷ (both i).1) ∙ sym (behind_none close rest));
            folded = (λ i. (both i).0);
          }

  -- also where there is none
  record OpenedTaken (s : S) (bytes : List ℕ) (now : S) (rest : List ℕ) : Type 0 where
    pub pieces : List (List ℕ)
    pub items : List A
    pub inside : List ℕ
    pub spells : AllSpell E pieces items
    pub stand : Inside pieces inside
    pub are : bytes ≡ inside ++ close ∷ rest
    pub folded : fold add s items ≡ now

  opened_taken : (s : S) (bytes : List ℕ) (now : S) (rest : List ℕ) → read_opened f add close s (past_blanks bytes) ≡ Some (now, rest) → OpenedTaken s bytes now rest
  opened_taken s bytes now rest e = by (past_byte close (past_blanks bytes)) refl e
    where
      by : (o : Option (List ℕ)) → past_byte close (past_blanks bytes) ≡ o
          → option_map_or (λ behind. Some (s, behind)) o (read_items f add close (length (past_blanks bytes)) s (past_blanks bytes)) ≡ Some (now, rest) → OpenedTaken s bytes now rest
      by (Some from) i h =
          let both : ◌≡◌ {A = S × List ℕ} (s, from) (now, rest) = cc in
          let g = front bytes in
          record {
            pieces = [];
            items = [];
            inside = g.blanks;
            spells = tt;
            stand = Inside.nothing g.blanks g.all;
            are = g.are ∙ ap (λ z. g.blanks ++ z) (byte_was close (past_blanks bytes) from i ∙ (λ j. close ∷ (both j).1));
            folded = (λ j. (both j).0);
          }
      by None i h =
          let g = front bytes in
          let w = items_taken (length (past_blanks bytes)) s g.blanks (past_blanks bytes) now rest g.all h in
          record {
            pieces = w.piece ∷ w.pieces;
            items = w.item ∷ w.items;
            inside = join_with_byte 44 (w.piece ∷ w.pieces);
            spells = w.spells;
            stand = Inside.pieces w.piece w.pieces;
            are = g.are ∙ w.are ∙ sym (joined close w.piece w.pieces rest);
            folded = w.folded;
          }

-- ---- attributes

-- what f reads of a type is spelled
abbrev pub Known : SplType → Type 0
Known t = (bytes : List ℕ) (v : Value) (rest : List ℕ) → read_value t bytes ≡ Some (v, rest) → Taken t bytes v rest

-- attributes with a comma before each, up to the closing bracket
record LaterTaken (schema : List (Named SplType)) (read : List Value) (bytes : List ℕ) (now : List Value) (rest : List ℕ) : Type 0 where
  blanks : List ℕ
  blank : are_blanks blanks ≡ true
  pieces : List (List ℕ)
  own : List Value
  spells : SpellAttributes schema pieces own
  are : bytes ≡ blanks ++ behind_piece 125 pieces rest
  values : now ≡ read ++ own

-- an attribute, and those behind it
record FirstTaken (schema : List (Named SplType)) (read : List Value) (bytes : List ℕ) (now : List Value) (rest : List ℕ) : Type 0 where
  piece : List ℕ
  pieces : List (List ℕ)
  own : List Value
  spells : SpellAttributes schema (piece ∷ pieces) own
  are : bytes ≡ piece ++ behind_piece 125 pieces rest
  values : now ≡ read ++ own

fresh_name : (name rest : List ℕ) → begins (name ++ rest) ≡ true → begins_blank name ≡ false
unfolding begins
fresh_name [] rest h = refl
fresh_name (b ∷ bs) rest h = by (is_blank b) h
  where
    by : (x : Bool) → not x ≡ true → x ≡ false
    by true g = absurd (cc)
    by false g = refl

field_bytes : (before name eq_before eq_behind own blanks rest : List ℕ)
    → before ++ (name ++ (eq_before ++ (61 ∷ (eq_behind ++ (own ++ (blanks ++ rest)))))) ≡ (before ++ (name ++ (eq_before ++ 61 ∷ (eq_behind ++ (own ++ blanks))))) ++ rest
field_bytes before name eq_before eq_behind own blanks rest = simp append_assoc

first_taken : (a : Named SplType) (schema : List (Named SplType)) → Known a.kind
    → ((read : List Value) (bytes : List ℕ) (now : List Value) (rest : List ℕ) → read_fields read_value true schema read bytes ≡ Some (now, rest) → LaterTaken schema read bytes now rest)
    → (before from : List ℕ) (read now : List Value) (rest at : List ℕ) → are_blanks before ≡ true → begins from ≡ true → option_and_then (past_mark 61) (past_name a.name from) ≡ Some at
    → option_and_then (λ r. read_fields read_value true schema (push read r.0) r.1) (read_value a.kind at) ≡ Some (now, rest)
    → FirstTaken (a ∷ schema) read (before ++ from) now rest
first_taken a schema known later before from read now rest at b fresh e g =
    let name = then_some (past_mark 61) (past_name a.name from) at e in
    let from_is = name_was a.name from name.0 name.1 in
    let m = mark_was 61 name.0 at name.2 in
    let value = then_some (λ r. read_fields read_value true schema (push read r.0) r.1) (read_value a.kind at) (now, rest) g in
    let v = value.0.0 in
    let t = known at v value.0.1 value.1 in
    let w = later (push read v) value.0.1 now rest value.2 in
    record {
      piece = before ++ (a.name ++ (m.before ++ 61 ∷ (m.behind ++ (t.own ++ w.blanks))));
      pieces = w.pieces;
      own = v ∷ w.own;
      spells = SpellAttributes.attribute a schema before m.before (m.behind ++ (t.own ++ w.blanks)) v w.pieces w.own (fresh_name a.name name.0 (ap begins (sym from_is) ∙ fresh)) b m.blank
          (Spells.between a.kind m.behind t.own w.blanks v m.blank_behind t.spells w.blank) w.spells;
      are = ap (λ z. before ++ z) (from_is ∙ ap (λ z. a.name ++ z) (m.are ∙ ap (λ z. m.before ++ 61 ∷ (m.behind ++ z)) (t.are ∙ ap (λ z. t.own ++ z) w.are)))
          ∙ field_bytes before a.name m.before m.behind t.own w.blanks (behind_piece 125 w.pieces rest);
      values = w.values ∙ append_assoc read (v ∷ []) w.own;
    }

closed_fields : (read : List Value) (bytes : List ℕ) (now : List Value) (rest : List ℕ) → option_map {U = List Value × List ℕ} (λ behind. (read, behind)) (past_byte 125 (past_blanks bytes)) ≡ Some (now, rest)
    → (read ≡ now) × (past_blanks bytes ≡ 125 ∷ rest)
closed_fields read bytes now rest e = by (past_byte 125 (past_blanks bytes)) refl e
  where
    by : (o : Option (List ℕ)) → past_byte 125 (past_blanks bytes) ≡ o → option_map {U = List Value × List ℕ} (λ behind. (read, behind)) o ≡ Some (now, rest) → (read ≡ now) × (past_blanks bytes ≡ 125 ∷ rest)
    by None i h = absurd (cc)
    by (Some from) i h =
        let both : ◌≡◌ {A = List Value × List ℕ} (read, from) (now, rest) = cc in
        ((λ j. (both j).0), byte_was 125 (past_blanks bytes) from i ∙ (λ j. 125 ∷ (both j).1))

later_taken : (schema : List (Named SplType)) → AllByRecursion (λ a. Known a.kind) schema
    → (read : List Value) (bytes : List ℕ) (now : List Value) (rest : List ℕ) → read_fields read_value true schema read bytes ≡ Some (now, rest) → LaterTaken schema read bytes now rest
later_taken [] known read bytes now rest e =
    let g = front bytes in
    let was = closed_fields read bytes now rest e in
    record {
      blanks = g.blanks;
      blank = g.all;
      pieces = [];
      own = [];
      spells = SpellAttributes.no_attribute;
      are = g.are ∙ ap (λ z. g.blanks ++ z) (was.1 ∙ sym (behind_none 125 rest));
      values = sym was.0 ∙ sym (append-nil read);
    }
later_taken (a ∷ schema) known read bytes now rest e =
    let one = then_some (λ behind. option_and_then (λ r. read_fields read_value true schema (push read r.0) r.1) (read_value a.kind behind)) (past_equals true a.name bytes) (now, rest) e in
    let two = then_some (λ behind. option_and_then (past_mark 61) (past_name a.name behind)) (past_mark 44 bytes) one.0 one.1 in
    let m = mark_was 44 bytes two.0 two.1 in
    let w = first_taken a schema known.0 (later_taken schema known.1) m.behind two.0 read now rest one.0 m.blank_behind (mark_fresh 44 bytes two.0 two.1) two.2 one.2 in
    record {
      blanks = m.before;
      blank = m.blank;
      pieces = w.piece ∷ w.pieces;
      own = w.own;
      spells = w.spells;
      are = m.are ∙ ap (λ z. m.before ++ z) (ap (λ z. 44 ∷ z) w.are ∙ sym (behind_some 125 w.piece w.pieces rest));
      values = w.values;
    }

record TupleTaken (schema : List (Named SplType)) (bytes : List ℕ) (vs : List Value) (rest : List ℕ) : Type 0 where
  pieces : List (List ℕ)
  inside : List ℕ
  spells : SpellAttributes schema pieces vs
  stand : Inside pieces inside
  are : bytes ≡ inside ++ 125 ∷ rest

fields_taken : (schema : List (Named SplType)) → AllByRecursion (λ a. Known a.kind) schema → (bytes : List ℕ) (vs : List Value) (rest : List ℕ)
    → read_fields read_value false schema [] bytes ≡ Some (vs, rest) → TupleTaken schema bytes vs rest
fields_taken [] known bytes vs rest e =
    let g = front bytes in
    let was = closed_fields [] bytes vs rest e in
    record {
      pieces = [];
      inside = g.blanks;
      spells = subst (SpellAttributes [] []) was.0 SpellAttributes.no_attribute;
      stand = Inside.nothing g.blanks g.all;
      are = g.are ∙ ap (λ z. g.blanks ++ z) was.1;
    }
fields_taken (a ∷ schema) known bytes vs rest e =
    let one = then_some (λ behind. option_and_then (λ r. read_fields read_value true schema (push [] r.0) r.1) (read_value a.kind behind)) (past_equals false a.name bytes) (vs, rest) e in
    let g = front bytes in
    let w = first_taken a schema known.0 (later_taken schema known.1) g.blanks (past_blanks bytes) [] vs rest one.0 g.all (past_fresh bytes) one.1 one.2 in
    record {
      pieces = w.piece ∷ w.pieces;
      inside = join_with_byte 44 (w.piece ∷ w.pieces);
      spells = subst (SpellAttributes (a ∷ schema) (w.piece ∷ w.pieces)) (sym w.values) w.spells;
      stand = Inside.pieces w.piece w.pieces;
      are = g.are ∙ w.are ∙ sym (joined 125 w.piece w.pieces rest);
    }

-- ---- values

around_bytes : (before own behind rest : List ℕ) → before ++ (own ++ (behind ++ rest)) ≡ (before ++ (own ++ behind)) ++ rest
around_bytes before own behind rest = simp append_assoc

element_spelling : (t : SplType) → Known t → Spelling (read_value t) (Spells t)
element_spelling t known before bytes x behind rest b c e =
    let w = known bytes x (behind ++ rest) e in
    (before ++ (w.own ++ behind), ap (λ z. before ++ z) w.are ∙ around_bytes before w.own behind rest, Spells.between t before w.own behind x b w.spells c)

-- `key:value`
record IsPair (k t : SplType) (piece : List ℕ) (p : Value × Value) : Type 0 where
  key : List ℕ
  value : List ℕ
  is : piece ≡ key ++ 58 ∷ value
  spells_key : Spells k key p.0
  spells_value : Spells t value p.1

pair_bytes : (before own before2 behind2 own2 behind rest : List ℕ)
    → before ++ (own ++ (before2 ++ (58 ∷ (behind2 ++ (own2 ++ (behind ++ rest)))))) ≡ ((before ++ (own ++ before2)) ++ 58 ∷ (behind2 ++ (own2 ++ behind))) ++ rest
pair_bytes before own before2 behind2 own2 behind rest = simp append_assoc

pair_spelling : (k t : SplType) → Known k → Known t → Spelling (read_pair (read_value k) (read_value t)) (IsPair k t)
pair_spelling k t known_key known before bytes x behind rest b c e =
    let one = then_some (λ r. option_and_then (λ at. as_other (λ v. (r.0, v)) (read_value t at)) (past_mark 58 r.1)) (read_value k bytes) (x, behind ++ rest) e in
    let u = one.0.0 in
    let two = then_some (λ at. as_other (λ v. (u, v)) (read_value t at)) (past_mark 58 one.0.1) (x, behind ++ rest) one.2 in
    let three = then_other (λ v. (u, v)) (read_value t two.0) x (behind ++ rest) two.2 in
    let first = known_key bytes u one.0.1 one.1 in
    let m = mark_was 58 one.0.1 two.0 two.1 in
    let second = known two.0 three.0 (behind ++ rest) three.1 in
    let key = before ++ (first.own ++ m.before) in
    let value = m.behind ++ (second.own ++ behind) in (
      key ++ 58 ∷ value,
      ap (λ z. before ++ z) (first.are ∙ ap (λ z. first.own ++ z) (m.are ∙ ap (λ z. m.before ++ 58 ∷ (m.behind ++ z)) second.are))
          ∙ pair_bytes before first.own m.before m.behind second.own behind rest,
      subst (IsPair k t (key ++ 58 ∷ value)) three.2 (record {
        key = key;
        value = value;
        is = refl;
        spells_key = Spells.between k before first.own m.before u b first.spells m.blank;
        spells_value = Spells.between t m.behind second.own behind three.0 m.blank_behind second.spells c;
      }),
    )

elements_of : (t : SplType) (pieces : List (List ℕ)) (vs : List Value) → AllSpell (Spells t) pieces vs → SpellElements t pieces vs
elements_of t [] [] all = SpellElements.no_element t
elements_of t [] (v ∷ vs) all = absurd all
elements_of t (p ∷ ps) [] all = absurd all
elements_of t (p ∷ ps) (v ∷ vs) all = SpellElements.element t p v ps vs all.0 (elements_of t ps vs all.1)

pairs_of : (k t : SplType) (pieces : List (List ℕ)) (ps : List (Value × Value)) → AllSpell (IsPair k t) pieces ps → SpellPairs k t pieces ps
pairs_of k t [] [] all = SpellPairs.no_pair k t
pairs_of k t [] (p ∷ ps) all = absurd all
pairs_of k t (q ∷ qs) [] all = absurd all
pairs_of k t (q ∷ qs) (p ∷ ps) all =
    let one = all.0 in
    subst (λ z. SpellPairs k t (z ∷ qs) (p ∷ ps)) (sym one.is) (SpellPairs.pair k t one.key one.value p.0 p.1 qs ps one.spells_key one.spells_value (pairs_of k t qs ps all.1))

list_known : (t : SplType) → Known t → Known (T.List t)
list_known t known bytes v rest e =
    let opened = then_some (λ behind. as_other V.List (read_opened (read_value t) push 93 [] (past_blanks behind))) (past_byte 91 bytes) (v, rest) (sym (read_of_list t bytes) ∙ e) in
    let was = then_other V.List (read_opened (read_value t) push 93 [] (past_blanks opened.0)) v rest opened.2 in
    let w = opened_taken (read_value t) (Spells t) (element_spelling t known) push 93 [] opened.0 was.0 rest was.1 in
    record {
      own = 91 ∷ (w.inside ++ 93 ∷ []);
      are = closed 91 93 bytes w.inside rest (byte_was 91 bytes opened.0 opened.1 ∙ ap (λ z. 91 ∷ z) w.are);
      spells = subst (SpellsValue (T.List t) (91 ∷ (w.inside ++ 93 ∷ []))) (ap V.List (sym (pushed [] w.items) ∙ w.folded) ∙ was.2)
          (SpellsValue.list t w.pieces w.inside w.items (elements_of t w.pieces w.items w.spells) w.stand);
    }

map_known : (k t : SplType) → Known k → Known t → Known (T.Map k t)
map_known k t known_key known bytes v rest e =
    let f = read_pair (read_value k) (read_value t) in
    let opened = then_some (λ behind. as_other V.Map (read_opened f put 125 [] (past_blanks behind))) (past_byte 123 bytes) (v, rest) (sym (read_of_map k t bytes) ∙ e) in
    let was = then_other V.Map (read_opened f put 125 [] (past_blanks opened.0)) v rest opened.2 in
    let w = opened_taken f (IsPair k t) (pair_spelling k t known_key known) put 125 [] opened.0 was.0 rest was.1 in
    record {
      own = 123 ∷ (w.inside ++ 125 ∷ []);
      are = closed 123 125 bytes w.inside rest (byte_was 123 bytes opened.0 opened.1 ∙ ap (λ z. 123 ∷ z) w.are);
      spells = subst (SpellsValue (T.Map k t) (123 ∷ (w.inside ++ 125 ∷ []))) (ap V.Map w.folded ∙ was.2)
          (SpellsValue.map_of k t w.pieces w.inside w.items (pairs_of k t w.pieces w.items w.spells) w.stand);
    }

pub tuple_taken : (schema : List (Named SplType)) → AllByRecursion (λ a. Known a.kind) schema → (bytes : List ℕ) (vs : List Value) (rest from : List ℕ) → past_byte 123 bytes ≡ Some from
    → read_fields read_value false schema [] from ≡ Some (vs, rest) → Taken (T.Tuple schema) bytes (V.Tuple vs) rest
tuple_taken schema known bytes vs rest from opened e =
    let w = fields_taken schema known from vs rest e in
    record {
      own = 123 ∷ (w.inside ++ 125 ∷ []);
      are = closed 123 125 bytes w.inside rest (byte_was 123 bytes from opened ∙ ap (λ z. 123 ∷ z) w.are);
      spells = SpellsValue.tuple schema w.pieces w.inside vs w.spells w.stand;
    }

tuple_known : (schema : List (Named SplType)) → AllByRecursion (λ a. Known a.kind) schema → Known (T.Tuple schema)
tuple_known schema known bytes v rest e =
    let opened = then_some (λ behind. as_other V.Tuple (read_fields read_value false schema [] behind)) (past_byte 123 bytes) (v, rest) (sym (read_of_tuple schema bytes) ∙ e) in
    let was = then_other V.Tuple (read_fields read_value false schema [] opened.0) v rest opened.2 in
    subst (λ z. Taken (T.Tuple schema) bytes z rest) was.2 (tuple_taken schema known bytes was.0 rest opened.0 opened.1 was.1)

pub all_known : (t : SplType) → Known t
all_known = type_ind Known (record {
  int = λ k bytes v rest e. int_taken k bytes v rest (sym (read_of_int k bytes) ∙ e);
  bool = λ bytes v rest e. truth_taken bytes v rest (sym (read_of_bool bytes) ∙ e);
  text = λ bytes v rest e. text_taken bytes v rest (sym (read_of_text bytes) ∙ e);
  list = list_known;
  map_of = map_known;
  tuple = tuple_known;
})
