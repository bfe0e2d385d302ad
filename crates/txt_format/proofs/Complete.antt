-- What is spelled is read.
use Rattle.std.specs.Prelude.{◌≡◌, ◌≤◌, ◌+◌, ◌==◌, ◌||◌, ◌⊎◌, not, zero, suc, ℕ, ℤ, pos, neg_ℤ, Bool, cond, true, false, codes, List, [], ◌∷◌, ◌++◌, length, take, drop, fold, Option, Some, None, option_map}
use Rattle.std.specs.Option.{option_and_then, option_map_or}
use Rattle.std.specs.List.{list_all, prefix_len, join_with_byte}
use Rattle.std.specs.Cmp.{first_so, second_so}
use Rattle.std.specs.Cmp.Derive.{both_true}
use Rattle.std.proofs.Common.{refl, sym, ap, ◌∙◌, append_assoc, arith, inl, inr}
use Rattle.std.proofs.lemmas.Bool.{cases_Bool, eq-eqb, eqb-true}
use Rattle.std.proofs.lemmas.List.{append-nil}
use Rattle.std.proofs.Math.Seq.{drop-append_seam, take-append_seam}
use Rattle.spl_value.specs.declared.types.IntKind.{IntKind}
use Rattle.spl_value.specs.declared.types.Named.{Named}
use Rattle.spl_value.specs.declared.types.SplType.{SplType}
use Rattle.spl_value.specs.declared.value.Value.{Value}
use Rattle.spl_value.specs.declared.value.Value.TheVariants as V
use Rattle.spl_value.specs.Decimal.{digit_step, in_kind, integer, integer_of, is_digit, natural}
use Rattle.spl_value.proofs.Induction.{TypeSteps, type_ind}
use Rattle.txt_format.specs.Escapes.{Escapes, Means, is_plain}
use Rattle.txt_format.specs.Escapes.Escapes.{double_quote, single_quote, backslash, line_feed, tab, carriage_return}
use Rattle.txt_format.specs.Escapes.Means.{nothing, plain, escape}
use Rattle.txt_format.specs.TxtSpelling.{Inside, SpellAttributes, SpellElements, SpellPairs, Spells, SpellsValue, are_blanks, begins_blank, is_blank}
use Rattle.txt_format.specs.steps.Bytes.{is_part, past_blanks, past_byte, past_mark, past_name}
use Rattle.txt_format.specs.steps.Reading.{as_other, meant, past_separator, push, put, read_fields, read_inside, read_int, read_items, read_list, read_map, read_opened, read_pair, read_text, read_tuple, read_value}
use Rattle.spl_value.proofs.SegmentLaws.{not_true}
use Rattle.txt_format.proofs.Blanks.{begins, behind_none, behind_piece, behind_some, byte_here, ends, ends_behind, enough, joined, mark_here, name_here, past_all, past_to, stop_begins, stop_colon, stop_comma, stop_curly, stop_square, stops}
use Rattle.txt_format.proofs.ReadingLaws.{read_of_bool, read_of_int, read_of_list, read_of_map, read_of_text, read_of_tuple}
use Rattle.txt_format.proofs.Steps.{items_close, items_more}

-- ---- integers

bool_cases : (b : Bool) → (b ≡ true) ⊎ (b ≡ false)
bool_cases = cases_Bool

digit_part : (b : ℕ) → is_digit b ≡ true → is_part b ≡ true
digit_part b h = ap (λ x. x || (b == 45)) h

digits_parts : (bs : List ℕ) → list_all is_digit bs ≡ true → list_all is_part bs ≡ true
digits_parts [] h = refl
digits_parts (b ∷ bs) h = both_true (digit_part b (first_so (is_digit b) (list_all is_digit bs) h)) (digits_parts bs (second_so (is_digit b) (list_all is_digit bs) h))

natural_parts : (bs : List ℕ) (n : ℕ) → natural bs ≡ Some n → list_all is_part bs ≡ true
natural_parts [] n h = refl
natural_parts (b ∷ bs) n h = elim (cases_Bool (list_all is_digit (b ∷ bs))) [
  | inl all ↦ digits_parts (b ∷ bs) all
  | inr other ↦ absurd (let no : None ≡ Some n = sym (ap (λ x. cond x (Some (fold digit_step 0 (b ∷ bs))) None) other) ∙ h in cc no)
]

mapped : (f : ℕ → ℤ) (o : Option ℕ) (z : ℤ) → option_map f o ≡ Some z → (n : ℕ) × (o ≡ Some n)
mapped f None z e = absurd (cc)
mapped f (Some n) z e = (n, refl)

integer_parts : (bs : List ℕ) (z : ℤ) → integer bs ≡ Some z → list_all is_part bs ≡ true
integer_parts [] z h = absurd (cc)
integer_parts (b ∷ bs) z h = by (b == 45) refl h
  where
    by : (x : Bool) → (b == 45) ≡ x → cond x (option_map (λ n. neg_ℤ (pos n)) (natural bs)) (option_map pos (natural (b ∷ bs))) ≡ Some z → list_all is_part (b ∷ bs) ≡ true
    by true e g =
        let was = mapped (λ n. neg_ℤ (pos n)) (natural bs) z g in
        both_true (ap is_part (eqb-true b 45 e)) (natural_parts bs was.0 was.1)
    by false e g = let was = mapped pos (natural (b ∷ bs)) z g in natural_parts (b ∷ bs) was.0 was.1

of_kind : (k : IntKind) (o : Option ℤ) (z : ℤ) → in_kind k o ≡ Some z → (y : ℤ) × (o ≡ Some y)
of_kind k None z e = absurd (cc)
of_kind k (Some y) z e = (y, refl)

spelled_parts : (k : IntKind) (bs : List ℕ) (z : ℤ) → integer_of k bs ≡ Some z → list_all is_part bs ≡ true
spelled_parts k bs z e = let was = of_kind k (integer bs) z e in integer_parts bs was.0 was.1

parts_front : (bs rest : List ℕ) → list_all is_part bs ≡ true → ends rest ≡ true → prefix_len is_part (bs ++ rest) ≡ length bs
unfolding ends
parts_front [] [] h g = refl
parts_front [] (c ∷ rest) h g = ap (λ x. cond x (1 + prefix_len is_part rest) 0) (not_true (is_part c) g)
parts_front (b ∷ bs) rest h g =
    let later = parts_front bs rest (second_so (is_part b) (list_all is_part bs) h) g in
    ap (λ x. cond x (1 + prefix_len is_part (bs ++ rest)) 0) (first_so (is_part b) (list_all is_part bs) h) ∙ omega (arith, later)

int_read : (k : IntKind) (bs rest : List ℕ) (z : ℤ) → integer_of k bs ≡ Some z → ends rest ≡ true → read_int k (bs ++ rest) ≡ Some (V.Int z, rest)
int_read k bs rest z e g =
    let n = parts_front bs rest (spelled_parts k bs z e) g in
    ap (λ m. option_map (λ i. (V.Int i, drop m (bs ++ rest))) (integer_of k (take m (bs ++ rest)))) n
    ∙ (λ i. option_map (λ j. (V.Int j, drop-append_seam bs rest i)) (integer_of k (take-append_seam bs rest i)))
    ∙ ap (option_map (λ j. (V.Int j, rest))) e

part_begins : (b : ℕ) → is_part b ≡ true → not (is_blank b) ≡ true
part_begins b h = by (cases_Bool (b == 32)) (cases_Bool (b == 9)) (cases_Bool (b == 13))
  where
    no : (c : ℕ) → b ≡ c → is_part c ≡ false → not (is_blank b) ≡ true
    no c e f = absurd (let bad : false ≡ true = sym f ∙ ap is_part (sym e) ∙ h in cc bad)

    by : ((b == 32) ≡ true) ⊎ ((b == 32) ≡ false) → ((b == 9) ≡ true) ⊎ ((b == 9) ≡ false) → ((b == 13) ≡ true) ⊎ ((b == 13) ≡ false) → not (is_blank b) ≡ true
    by (inl e) y z = no 32 (eqb-true b 32 e) refl
    by (inr e) (inl f) z = no 9 (eqb-true b 9 f) refl
    by (inr e) (inr f) (inl g) = no 13 (eqb-true b 13 g) refl
    by (inr e) (inr f) (inr g) = λ i. not (e i || (f i || g i))

int_begins : (k : IntKind) (bs rest : List ℕ) (z : ℤ) → integer_of k bs ≡ Some z → begins (bs ++ rest) ≡ true
unfolding begins
int_begins k [] rest z e = absurd (let was = of_kind k (integer []) z e in cc was.1)
int_begins k (b ∷ bs) rest z e = part_begins b (first_so (is_part b) (list_all is_part bs) (spelled_parts k (b ∷ bs) z e))

-- ---- texts

escape_meant : (c b : ℕ) → Escapes c b → meant c ≡ Some b
escape_meant c b double_quote = refl
escape_meant c b single_quote = refl
escape_meant c b backslash = refl
escape_meant c b line_feed = refl
escape_meant c b tab = refl
escape_meant c b carriage_return = refl

plain_step : (b : ℕ) (read bytes : List ℕ) → is_plain b ≡ true → read_inside false read (b ∷ bytes) ≡ read_inside false (read ++ b ∷ []) bytes
plain_step b read bytes h = by (b == 34) (b == 92) (b == 10) h
  where
    by : (p q r : Bool) → not (p || (q || r)) ≡ true
        → cond p (Some (read, bytes)) (cond q (read_inside true read bytes) (cond r None (read_inside false (read ++ b ∷ []) bytes))) ≡ read_inside false (read ++ b ∷ []) bytes
    by true q r g = absurd (cc)
    by false true r g = absurd (cc)
    by false false true g = absurd (cc)
    by false false false g = refl

-- the bytes of a text, whose closing quote is next
inside_read : (inside bytes : List ℕ) → Means inside bytes → (read rest : List ℕ) → read_inside false read (inside ++ 34 ∷ rest) ≡ Some (read ++ bytes, rest)
inside_read inside bytes nothing read rest = ap (λ z. Some (z, rest)) (sym (append-nil read))
inside_read inside bytes (plain b bs cs p m) read rest =
    plain_step b read (bs ++ 34 ∷ rest) p ∙ inside_read bs cs m (read ++ b ∷ []) rest ∙ ap (λ z. Some (z, rest)) (append_assoc read (b ∷ []) cs)
inside_read inside bytes (escape c b bs cs e m) read rest =
    ap (option_and_then (λ d. read_inside false (read ++ d ∷ []) (bs ++ 34 ∷ rest))) (escape_meant c b e)
    ∙ inside_read bs cs m (read ++ b ∷ []) rest ∙ ap (λ z. Some (z, rest)) (append_assoc read (b ∷ []) cs)

-- ---- pieces

-- f reads a piece, up to blanks that are followed by a byte that ends it
pub record IsRead {A : Type 0} (f : List ℕ → Option (A × List ℕ)) (piece : List ℕ) (x : A) (rest : List ℕ) : Type 0 where
  pub behind : List ℕ
  pub read : f (past_blanks (piece ++ rest)) ≡ Some (x, behind)
  pub past : past_blanks behind ≡ rest

abbrev Reads : {A : Type 0} → (List ℕ → Option (A × List ℕ)) → List ℕ → A → Type 0
Reads f piece x = (rest : List ℕ) → stops rest ≡ true → IsRead f piece x rest

abbrev ReadsAll : {A : Type 0} → (List ℕ → Option (A × List ℕ)) → List (List ℕ) → List A → Type 0
ReadsAll f [] [] = Unit {0}
ReadsAll f [] (x ∷ xs) = ⊥
ReadsAll f (p ∷ ps) [] = ⊥
ReadsAll f (p ∷ ps) (x ∷ xs) = Reads f p x × ReadsAll f ps xs

-- a bracket that closes
record IsClose (close : ℕ) : Type 0 where
  blank : is_blank close ≡ false
  comma : (close == 44) ≡ false
  stop : (rest : List ℕ) → stops (close ∷ rest) ≡ true

behind_stops : (close : ℕ) → IsClose close → (ps : List (List ℕ)) (rest : List ℕ) → stops (behind_piece close ps rest) ≡ true
behind_stops close c [] rest = ap stops (behind_none close rest) ∙ c.stop rest
behind_stops close c (p ∷ ps) rest = ap stops (behind_some close p ps rest) ∙ stop_comma (p ++ behind_piece close ps rest)

separator_close : (close : ℕ) (rest : List ℕ) → (close == 44) ≡ false → past_separator close (close ∷ rest) ≡ Some (false, rest)
separator_close close rest h =
    ap (λ x. cond x (Some (true, past_blanks rest)) (cond (close == close) (Some (false, rest)) None)) h ∙ ap (λ x. cond x (Some (false, rest)) None) (eq-eqb close close refl)

module _ {A S : Type 0} (f : List ℕ → Option (A × List ℕ)) (add : S → A → S) (close : ℕ) (c : IsClose close) where
  items_all : (p : List ℕ) (ps : List (List ℕ)) (x : A) (xs : List A) → Reads f p x → ReadsAll f ps xs → (n : ℕ) (s : S) (rest : List ℕ) → suc (length ps) ≤ n
      → read_items f add close n s (past_blanks (p ++ behind_piece close ps rest)) ≡ Some (fold add s (x ∷ xs), rest)
  items_all p ps x xs r rs zero s rest h = absurd (omega (arith, h))
  items_all p [] x [] r rs (suc n) s rest h =
      let is = r (behind_piece close [] rest) (behind_stops close c [] rest) in
      items_close f add close n s (past_blanks (p ++ behind_piece close [] rest)) x is.behind is.read rest
      (ap (past_separator close) (is.past ∙ behind_none close rest) ∙ separator_close close rest c.comma)
  items_all p [] x (y ∷ xs) r rs (suc n) s rest h = absurd rs
  items_all p (q ∷ ps) x [] r rs (suc n) s rest h = absurd rs
  items_all p (q ∷ ps) x (y ∷ xs) r rs (suc n) s rest h =
      let is = r (behind_piece close (q ∷ ps) rest) (behind_stops close c (q ∷ ps) rest) in
      items_more f add close n s (past_blanks (p ++ behind_piece close (q ∷ ps) rest)) x is.behind is.read (past_blanks (q ++ behind_piece close ps rest))
      (ap (past_separator close) (is.past ∙ behind_some close q ps rest))
      ∙ items_all q ps y xs rs.0 rs.1 n (add s x) rest (omega (arith, h))

  -- where f reads nothing that begins with the bracket
  opened_some : ((rest : List ℕ) → f (close ∷ rest) ≡ None) → (bytes : List ℕ) (x : A) (behind : List ℕ) (s : S) → f bytes ≡ Some (x, behind)
      → read_opened f add close s bytes ≡ read_items f add close (length bytes) s bytes
  opened_some never [] x behind s e = refl
  opened_some never (b ∷ bytes) x behind s e = by (b == close) refl
    where
      by : (t : Bool) → (b == close) ≡ t
          → option_map_or (λ rest. Some (s, rest)) (cond t (Some bytes) None) (read_items f add close (length (b ∷ bytes)) s (b ∷ bytes)) ≡ read_items f add close (length (b ∷ bytes)) s (b ∷ bytes)
      by true i = absurd (let no : None ≡ Some (x, behind) = sym (never bytes) ∙ ap (λ d. f (d ∷ bytes)) (sym (eqb-true b close i)) ∙ e in cc no)
      by false i = refl

  opened_all : ((rest : List ℕ) → f (close ∷ rest) ≡ None) → (ps : List (List ℕ)) (xs : List A) (inside : List ℕ) → ReadsAll f ps xs → Inside ps inside → (s : S) (rest : List ℕ)
      → read_opened f add close s (past_blanks (inside ++ close ∷ rest)) ≡ Some (fold add s xs, rest)
  opened_all never [] [] inside rs (Inside.nothing blanks h) s rest =
      ap (read_opened f add close s) (past_to inside (close ∷ rest) h (stop_begins (close ∷ rest) (c.stop rest)))
      ∙ ap (λ o. option_map_or (λ behind. Some (s, behind)) o (read_items f add close (length (close ∷ rest)) s (close ∷ rest))) (byte_here close rest)
  opened_all never [] (x ∷ xs) inside rs i s rest = absurd rs
  opened_all never (p ∷ ps) [] inside rs i s rest = absurd rs
  opened_all never (p ∷ ps) (x ∷ xs) inside rs (Inside.pieces q qs) s rest =
      let all = join_with_byte 44 (p ∷ ps) ++ close ∷ rest in
      let is = rs.0 (behind_piece close ps rest) (behind_stops close c ps rest) in
      let split : past_blanks all ≡ past_blanks (p ++ behind_piece close ps rest) = ap past_blanks (joined close p ps rest) in
      opened_some never (past_blanks all) x is.behind s (ap f split ∙ is.read)
      ∙ ap (read_items f add close (length (past_blanks all)) s) split
      ∙ items_all p ps x xs rs.0 rs.1 (length (past_blanks all)) s rest (enough close c.blank p ps rest)

-- ---- attributes

-- `name=value` is read
pub record IsFieldRead (name : List ℕ) (kind : SplType) (piece : List ℕ) (v : Value) (rest : List ℕ) : Type 0 where
  pub at : List ℕ
  pub behind : List ℕ
  pub equals : option_and_then (past_mark 61) (past_name name (past_blanks (piece ++ rest))) ≡ Some at
  pub read : read_value kind at ≡ Some (v, behind)
  pub past : past_blanks behind ≡ rest

abbrev ReadsField : Named SplType → List ℕ → Value → Type 0
ReadsField a piece v = (rest : List ℕ) → stops rest ≡ true → IsFieldRead a.name a.kind piece v rest

abbrev ReadsFields : List (Named SplType) → List (List ℕ) → List Value → Type 0
ReadsFields [] [] [] = Unit {0}
ReadsFields (a ∷ schema) (p ∷ ps) (v ∷ vs) = ReadsField a p v × ReadsFields schema ps vs
ReadsFields schema ps vs = ⊥

curly : IsClose 125
curly = record { blank = refl; comma = refl; stop = stop_curly }

square : IsClose 93
square = record { blank = refl; comma = refl; stop = stop_square }

-- where the next attribute begins
abbrev begun : Bool → List ℕ → Option (List ℕ)
begun later bytes = cond later (past_mark 44 bytes) (Some (past_blanks bytes))

fields_step : (later : Bool) (a : Named SplType) (schema : List (Named SplType)) (vs : List Value) (bytes from at : List ℕ) (v : Value) (behind : List ℕ)
    → begun later bytes ≡ Some from → option_and_then (past_mark 61) (past_name a.name from) ≡ Some at → read_value a.kind at ≡ Some (v, behind)
    → read_fields read_value later (a ∷ schema) vs bytes ≡ read_fields read_value true schema (push vs v) behind
fields_step later a schema vs bytes from at v behind e f g =
    ap (option_and_then (λ at2. option_and_then (λ r. read_fields read_value true schema (push vs r.0) r.1) (read_value a.kind at2)))
    (ap (option_and_then (λ from2. option_and_then (past_mark 61) (past_name a.name from2))) e ∙ f)
    ∙ ap (option_and_then (λ r. read_fields read_value true schema (push vs r.0) r.1)) g

fields_end : (later : Bool) (vs : List Value) (bytes rest : List ℕ) → past_blanks bytes ≡ 125 ∷ rest → read_fields read_value later [] vs bytes ≡ Some (vs, rest)
fields_end later vs bytes rest e = ap (λ z. option_map (λ behind. (vs, behind)) (past_byte 125 z)) e

fields_all : (later : Bool) (a : Named SplType) (schema : List (Named SplType)) (p : List ℕ) (ps : List (List ℕ)) (v : Value) (vs : List Value) → ReadsField a p v → ReadsFields schema ps vs
    → (read : List Value) (bytes rest : List ℕ) → begun later bytes ≡ Some (past_blanks (p ++ behind_piece 125 ps rest))
    → read_fields read_value later (a ∷ schema) read bytes ≡ Some (read ++ v ∷ vs, rest)
fields_all later a [] p [] v [] r rs read bytes rest e =
    let is = r (behind_piece 125 [] rest) (behind_stops 125 curly [] rest) in
    fields_step later a [] read bytes _ is.at v is.behind e is.equals is.read
    ∙ fields_end true (push read v) is.behind rest (is.past ∙ behind_none 125 rest)
fields_all later a (b ∷ schema) p (q ∷ ps) v (w ∷ vs) r rs read bytes rest e =
    let is = r (behind_piece 125 (q ∷ ps) rest) (behind_stops 125 curly (q ∷ ps) rest) in
    fields_step later a (b ∷ schema) read bytes _ is.at v is.behind e is.equals is.read
    ∙ fields_all true b schema q ps w vs rs.0 rs.1 (push read v) is.behind rest (mark_here 44 is.behind (q ++ behind_piece 125 ps rest) (is.past ∙ behind_some 125 q ps rest))
    ∙ ap (λ z. Some (z, rest)) (append_assoc read (v ∷ []) (w ∷ vs))
fields_all later a [] p [] v (w ∷ vs) r rs read bytes rest e = absurd rs
fields_all later a [] p (q ∷ ps) v vs r rs read bytes rest e = absurd rs
fields_all later a (b ∷ schema) p [] v vs r rs read bytes rest e = absurd rs
fields_all later a (b ∷ schema) p (q ∷ ps) v [] r rs read bytes rest e = absurd rs

tuple_all : (schema : List (Named SplType)) (ps : List (List ℕ)) (vs : List Value) (inside : List ℕ) → ReadsFields schema ps vs → Inside ps inside → (rest : List ℕ)
    → read_fields read_value false schema [] (inside ++ 125 ∷ rest) ≡ Some (vs, rest)
tuple_all [] [] [] inside rs (Inside.nothing blanks h) rest = fields_end false [] (inside ++ 125 ∷ rest) rest (past_to inside (125 ∷ rest) h (stop_begins (125 ∷ rest) (stop_curly rest)))
tuple_all (a ∷ schema) (p ∷ ps) (v ∷ vs) inside rs (Inside.pieces q qs) rest =
    fields_all false a schema p ps v vs rs.0 rs.1 [] (join_with_byte 44 (p ∷ ps) ++ 125 ∷ rest) rest (ap (λ z. Some (past_blanks z)) (joined 125 p ps rest))
tuple_all [] [] (v ∷ vs) inside rs i rest = absurd rs
tuple_all [] (p ∷ ps) vs inside rs i rest = absurd rs
tuple_all (a ∷ schema) [] vs inside rs i rest = absurd rs
tuple_all (a ∷ schema) (p ∷ ps) [] inside rs i rest = absurd rs

-- ---- values

-- no value begins with a closing bracket
no_square : TypeSteps (λ t. (rest : List ℕ) → read_value t (93 ∷ rest) ≡ None)
no_square = record {
  int = λ k rest. read_of_int k (93 ∷ rest);
  bool = λ rest. read_of_bool (93 ∷ rest);
  text = λ rest. read_of_text (93 ∷ rest);
  list = λ t h rest. read_of_list t (93 ∷ rest);
  map_of = λ k t h g rest. read_of_map k t (93 ∷ rest);
  tuple = λ schema h rest. read_of_tuple schema (93 ∷ rest);
}

no_curly : TypeSteps (λ t. (rest : List ℕ) → read_value t (125 ∷ rest) ≡ None)
no_curly = record {
  int = λ k rest. read_of_int k (125 ∷ rest);
  bool = λ rest. read_of_bool (125 ∷ rest);
  text = λ rest. read_of_text (125 ∷ rest);
  list = λ t h rest. read_of_list t (125 ∷ rest);
  map_of = λ k t h g rest. read_of_map k t (125 ∷ rest);
  tuple = λ schema h rest. read_of_tuple schema (125 ∷ rest);
}

no_element : (t : SplType) (rest : List ℕ) → read_value t (93 ∷ rest) ≡ None
no_element = type_ind (λ t. (rest : List ℕ) → read_value t (93 ∷ rest) ≡ None) no_square

no_pair : (k t : SplType) (rest : List ℕ) → read_pair (read_value k) (read_value t) (125 ∷ rest) ≡ None
no_pair k t rest =
    ap (option_and_then (λ r. option_and_then (λ behind. as_other (λ v. (r.0, v)) (read_value t behind)) (past_mark 58 r.1)))
    (type_ind (λ t. (rest : List ℕ) → read_value t (125 ∷ rest) ≡ None) no_curly k rest)

pub pushed : (read vs : List Value) → fold push read vs ≡ read ++ vs
pushed read [] = sym (append-nil read)
pushed read (v ∷ vs) = pushed (push read v) vs ∙ append_assoc read (v ∷ []) vs

-- the bytes between brackets, and what is behind them
inner : (left right : ℕ) (inside rest : List ℕ) → (left ∷ (inside ++ right ∷ [])) ++ rest ≡ left ∷ (inside ++ right ∷ rest)
inner left right inside rest = ap (λ z. left ∷ z) (append_assoc inside (right ∷ []) rest)

value_begins : (t : SplType) (bytes : List ℕ) (v : Value) → SpellsValue t bytes v → (rest : List ℕ) → begins (bytes ++ rest) ≡ true
unfolding begins
value_begins t bytes v (SpellsValue.integer k bs n e) rest = int_begins k bs rest n e
value_begins t bytes v SpellsValue.yes rest = refl
value_begins t bytes v SpellsValue.no rest = refl
value_begins t bytes v (SpellsValue.text inside bs m) rest = refl
value_begins t bytes v (SpellsValue.list u pieces inside vs es i) rest = refl
value_begins t bytes v (SpellsValue.map_of k u pieces inside ps es i) rest = refl
value_begins t bytes v (SpellsValue.tuple schema pieces inside vs es i) rest = refl

field_read : (name before behind bytes : List ℕ) (kind : SplType) (v : Value) → begins_blank name ≡ false → are_blanks before ≡ true → are_blanks behind ≡ true → Reads (read_value kind) bytes v
    → (rest : List ℕ) → stops rest ≡ true → IsFieldRead name kind (before ++ (name ++ (behind ++ 61 ∷ bytes))) v rest
field_read name before behind bytes kind v n b c r rest h =
    let is = r rest h in
    let from = behind ++ 61 ∷ (bytes ++ rest) in
    let all : (before ++ (name ++ (behind ++ 61 ∷ bytes))) ++ rest ≡ before ++ (name ++ from) =
    append_assoc before (name ++ (behind ++ 61 ∷ bytes)) rest ∙ ap (λ z. before ++ z) (append_assoc name (behind ++ 61 ∷ bytes) rest ∙ ap (λ z. name ++ z) (append_assoc behind (61 ∷ bytes) rest)) in
    record {
      at = past_blanks (bytes ++ rest);
      behind = is.behind;
      equals = ap (λ z. option_and_then (past_mark 61) (past_name name (past_blanks z))) all
          ∙ ap (λ z. option_and_then (past_mark 61) (past_name name z)) (past_all before (name ++ from) b)
          ∙ named name n;
      read = is.read;
      past = is.past;
    }
  where
    mark : past_mark 61 (behind ++ 61 ∷ (bytes ++ rest)) ≡ Some (past_blanks (bytes ++ rest))
    mark = mark_here 61 (behind ++ 61 ∷ (bytes ++ rest)) (bytes ++ rest) (past_all behind (61 ∷ (bytes ++ rest)) c)

    named : (name : List ℕ) → begins_blank name ≡ false → option_and_then (past_mark 61) (past_name name (past_blanks (name ++ (behind ++ 61 ∷ (bytes ++ rest))))) ≡ Some (past_blanks (bytes ++ rest))
    named [] n2 = ap (past_mark 61) (past_all behind (61 ∷ (bytes ++ rest)) c)
    named (d ∷ ds) n2 =
        ap (λ z. option_and_then (past_mark 61) (past_name (d ∷ ds) z)) (ap (λ x. cond x (past_blanks (ds ++ (behind ++ 61 ∷ (bytes ++ rest)))) (d ∷ (ds ++ (behind ++ 61 ∷ (bytes ++ rest))))) n2)
        ∙ ap (option_and_then (past_mark 61)) (name_here (d ∷ ds) (behind ++ 61 ∷ (bytes ++ rest)))
        ∙ mark

pair_read_of : (k t : SplType) (key value : List ℕ) (u v : Value) → Reads (read_value k) key u → Reads (read_value t) value v → Reads (read_pair (read_value k) (read_value t)) (key ++ 58 ∷ value) (u, v)
pair_read_of k t key value u v r s rest h =
    let first = r (58 ∷ (value ++ rest)) (stop_colon (value ++ rest)) in
    let second = s rest h in
    record {
      behind = second.behind;
      read = ap (λ z. read_pair (read_value k) (read_value t) (past_blanks z)) (append_assoc key (58 ∷ value) rest)
          ∙ ap (option_and_then (λ q. option_and_then (λ behind. as_other (λ w. (q.0, w)) (read_value t behind)) (past_mark 58 q.1))) first.read
          ∙ ap (option_and_then (λ behind. as_other (λ w. (u, w)) (read_value t behind))) (mark_here 58 first.behind (value ++ rest) first.past)
          ∙ ap (as_other (λ w. (u, w))) second.read;
      past = second.past;
    }

mutual
  value_read : (t : SplType) (bytes : List ℕ) (v : Value) → SpellsValue t bytes v → (rest : List ℕ) → ends rest ≡ true → read_value t (bytes ++ rest) ≡ Some (v, rest)
  value_read t bytes v (SpellsValue.integer k bs n e) rest h = read_of_int k (bs ++ rest) ∙ int_read k bs rest n e h
  value_read t bytes v SpellsValue.yes rest h = read_of_bool (codes "true" ++ rest)
  value_read t bytes v SpellsValue.no rest h = read_of_bool (codes "false" ++ rest)
  value_read t bytes v (SpellsValue.text inside bs m) rest h =
      read_of_text ((34 ∷ (inside ++ 34 ∷ [])) ++ rest) ∙ ap read_text (inner 34 34 inside rest) ∙ ap (as_other V.Text) (inside_read inside bs m [] rest)
  value_read t bytes v (SpellsValue.list u pieces inside vs es i) rest h =
      read_of_list u ((91 ∷ (inside ++ 93 ∷ [])) ++ rest) ∙ ap (read_list (read_value u)) (inner 91 93 inside rest)
      ∙ ap (as_other V.List) (opened_all (read_value u) push 93 square (no_element u) pieces vs inside (elements_read u pieces vs es) i [] rest ∙ ap (λ z. Some (z, rest)) (pushed [] vs))
  value_read t bytes v (SpellsValue.map_of k u pieces inside ps es i) rest h =
      read_of_map k u ((123 ∷ (inside ++ 125 ∷ [])) ++ rest) ∙ ap (read_map (read_pair (read_value k) (read_value u))) (inner 123 125 inside rest)
      ∙ ap (as_other V.Map) (opened_all (read_pair (read_value k) (read_value u)) put 125 curly (no_pair k u) pieces ps inside (pairs_read k u pieces ps es) i [] rest)
  value_read t bytes v (SpellsValue.tuple schema pieces inside vs es i) rest h =
      read_of_tuple schema ((123 ∷ (inside ++ 125 ∷ [])) ++ rest) ∙ ap (read_tuple read_value schema) (inner 123 125 inside rest)
      ∙ ap (as_other V.Tuple) (tuple_all schema pieces vs inside (fields_read schema pieces vs es) i rest)

  pub spelled_read : (t : SplType) (bytes : List ℕ) (v : Value) → Spells t bytes v → Reads (read_value t) bytes v
  spelled_read t bytes v (Spells.between u before own behind w b s c) rest h =
      let all : (before ++ (own ++ behind)) ++ rest ≡ before ++ (own ++ (behind ++ rest)) = append_assoc before (own ++ behind) rest ∙ ap (λ z. before ++ z) (append_assoc own behind rest) in
      record {
        behind = behind ++ rest;
        read = ap (λ z. read_value u (past_blanks z)) all
            ∙ ap (read_value u) (past_to before (own ++ (behind ++ rest)) b (value_begins u own w s (behind ++ rest)))
            ∙ value_read u own w s (behind ++ rest) (ends_behind behind rest c h);
        past = past_to behind rest c (stop_begins rest h);
      }

  elements_read : (t : SplType) (pieces : List (List ℕ)) (vs : List Value) → SpellElements t pieces vs → ReadsAll (read_value t) pieces vs
  elements_read t pieces vs (SpellElements.no_element u) = tt
  elements_read t pieces vs (SpellElements.element u bytes v ps ws s es) = (spelled_read u bytes v s, elements_read u ps ws es)

  pairs_read : (k t : SplType) (pieces : List (List ℕ)) (ps : List (Value × Value)) → SpellPairs k t pieces ps → ReadsAll (read_pair (read_value k) (read_value t)) pieces ps
  pairs_read k t pieces ps (SpellPairs.no_pair j u) = tt
  pairs_read k t pieces ps (SpellPairs.pair j u key value w v qs rs s z es) = (pair_read_of j u key value w v (spelled_read j key w s) (spelled_read u value v z), pairs_read j u qs rs es)

  fields_read : (schema : List (Named SplType)) (pieces : List (List ℕ)) (vs : List Value) → SpellAttributes schema pieces vs → ReadsFields schema pieces vs
  fields_read schema pieces vs SpellAttributes.no_attribute = tt
  fields_read schema pieces vs (SpellAttributes.attribute a others before behind bytes v ps ws n b c s es) =
      (field_read a.name before behind bytes a.kind v n b c (spelled_read a.kind bytes v s), fields_read others ps ws es)
