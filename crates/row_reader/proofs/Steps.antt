-- Steps of reading a source.
use Rattle.std.specs.Prelude.{IfSome, IsTrue, option_map}
use Rattle.std.proofs.Common.{◌≡◌, ◌++◌, ◌∷◌, ◌∙◌, ◌≤◌, ◌<◌, ◌+◌, ◌-◌, [], ℕ, List, Option, Some, None, Ok, Err, refl, sym, ap, subst, true, false, length, take, drop, length-take, append_assoc, arith}
use Rattle.std.proofs.lemmas.List.{append-nil}
use Rattle.spl_value.specs.Script.{End, Failed, Script}
use Rattle.spl_value.specs.Values.{tuple_fits}
use Rattle.spl_value.specs.declared.item.Item.{Item}
use Rattle.spl_value.specs.declared.item.Item.TheVariants as I
use Rattle.spl_value.specs.declared.item.FaultKind.{FaultKind}
use Rattle.spl_value.specs.declared.item.FaultKind.TheVariants as K
use Rattle.spl_value.specs.declared.value.Value.{Value}
use Rattle.spl_value.proofs.FitsLaws.{fits_tuple}
use Rattle.csv.specs.Reading.{default_config, records, strip_bom}
use Rattle.feed_pour.specs.Contents.{PieceGiven}
use Rattle.feed_pour.specs.declared.outside.Failed as F
use Rattle.stream_model.specs.Fields.{tuple_of}
use Rattle.stream_model.specs.Rows.{Bad, Given, Row, checked_items, closing, items_from, last_items, line_gives, line_items, of_records, source_fault, too_long}
use Rattle.stream_model.proofs.parts.Rows.{fitting}
use Rattle.stream_model.specs.parts.Rows.{pieces}
use Rattle.spl_value.specs.Numbered.{closes}
use Rattle.row_reader.specs.declared.columns.Column.{Column}
use Rattle.row_reader.specs.declared.rows.Rows.{Rows}
use Rattle.row_reader.specs.declared.rows.Stage.{Stage}
use Rattle.row_reader.specs.declared.rows.Stage.TheVariants as S
use Rattle.row_reader.specs.Columns.{attributes}
use Rattle.row_reader.specs.Reading.{Gives, FitsSetting, by_stage, held, is_done, setting_of, to_come, unread}
use Rattle.row_reader.specs.steps.Finding.{IsFirstAt}
use Rattle.row_reader.specs.steps.Steps.{GaveItem, GaveNone, IsBehind, IsKept, IsRead, Moves, Stays}
use Rattle.row_reader.proofs.FieldValues.{row_fits}
use Rattle.row_reader.proofs.Moves.{come_line, cut_part, fits_left, last_empty, last_some, last_step, long_step, no_bytes}

-- ---- what is to come

pub gives_reading : (r r2 : Rows) (item : Item) → r.stage ≡ S.Reading → r2.stage ≡ S.Reading → ((s : Script) → unread r s ≡ item ∷ unread r2 s)
    → (s : Option Script) → Gives (to_come r s) item (to_come r2 s)
gives_reading r r2 item a b h None = rw a tt
gives_reading r r2 item a b h (Some s) = rw (a, b) (h s)

pub stays_reading : (r r2 : Rows) → r.stage ≡ S.Reading → r2.stage ≡ S.Reading → ((s : Script) → unread r s ≡ unread r2 s) → (s : Option Script) → Stays (to_come r s) (to_come r2 s)
stays_reading r r2 a b h None = rw a tt
stays_reading r r2 a b h (Some s) = rw (a, b) (ap Some (sym (h s)))

-- the rest doesn't depend on what the feed has left
abbrev pub Settles : Stage → List Item → Type 0
Settles stage rest = (coming : Option (List Item)) → by_stage stage coming ≡ Some rest

pub gives_settled : (r r2 : Rows) (item : Item) (rest : List Item) (s after : Option Script) → r.stage ≡ S.Reading → Settles r2.stage rest → ((t : Script) → s ≡ Some t → unread r t ≡ item ∷ rest)
    → Gives (to_come r s) item (to_come r2 after)
gives_settled r r2 item rest None after a b h = rw a tt
gives_settled r r2 item rest (Some s) after a b h = rw (a, b (option_map (unread r2) after)) (h s refl)

pub stays_gives : (a b c : Option (List Item)) (item : Item) → Stays a b → Gives b item c → Gives a item c
stays_gives None b c item h g = tt
stays_gives (Some items) b c item h g = subst (λ z. Gives z item c) h g

pub stays_moves : (a b c : Option (List Item)) (o : Option Item) → Stays a b → Moves b o c → Moves a o c
stays_moves a b c (Some item) h g = stays_gives a b c item h g
stays_moves None b c None h g = tt
stays_moves (Some items) b c None h g = subst (λ z. Stays z c) h g

-- ---- a fault

pub stopped : (r r2 : Rows) (item : Item) (kind : FaultKind) (line : ℕ) → r.stage ≡ S.Reading → setting_of r2 ≡ setting_of r → r2.stage ≡ S.Done → item ≡ source_fault (setting_of r) kind line
    → GaveItem r r2 item
stopped r r2 item kind line a o b is = record {
  setting = o;
  over = ap is_done b ∙ ap closes (sym is);
  fewer = rw (a, b) (omega arith);
  has = subst (FitsSetting (setting_of r)) (sym is) refl;
}

done_settles : (stage : Stage) → stage ≡ S.Done → Settles stage []
done_settles stage e coming = ap (λ z. by_stage z coming) e

pub stopped_coming : (r r2 : Rows) (item : Item) (kind : FaultKind) (line : ℕ) (s after : Option Script) → r.stage ≡ S.Reading → r2.stage ≡ S.Done → item ≡ source_fault (setting_of r) kind line
    → ((t : Script) → s ≡ Some t → unread r t ≡ source_fault (setting_of r) kind line ∷ []) → Gives (to_come r s) item (to_come r2 after)
stopped_coming r r2 item kind line s after a b is h = gives_settled r r2 item [] s after a (done_settles r2.stage b) (λ t e. h t e ∙ ap (λ z. z ∷ []) (sym is))

-- ---- a row has its values

abbrev pub columns_in : Rows → List Column
columns_in r = r.lines.columns.items

given_fits : (columns : List Column) (recs : List (List (List ℕ))) (values : List Value) → Row values ≡ of_records (attributes columns) recs → IsTrue (tuple_fits (attributes columns) values)
given_fits columns [] values e = absurd (cc e)
given_fits columns (fields ∷ []) values e = of_tuple (tuple_of (attributes columns) fields) refl e where
  of_tuple : (t : Option (List Value)) → tuple_of (attributes columns) fields ≡ t → Row values ≡ fitting (tuple_of (attributes columns) fields) → IsTrue (tuple_fits (attributes columns) values)
  of_tuple None h g = absurd (let z = rw h at g in cc z)
  of_tuple (Some vs) h g =
      let same : values ≡ vs = let z : Row values ≡ Row vs = g ∙ ap fitting h in cc z in
      row_fits columns fields values (h ∙ ap Some (sym same))
given_fits columns (fields ∷ more ∷ rest) values e = absurd (cc e)

pub row_has : (r : Rows) (line : List ℕ) (values : List Value) → Row values ≡ line_gives (attributes (columns_in r)) line → FitsSetting (setting_of r) (I.Tuple values)
row_has r line values e = fits_tuple (attributes (columns_in r)) values ∙ given_fits (columns_in r) (records default_config (strip_bom line)) values e

-- ---- a line that a line feed ends

-- the line that is ended i bytes further on: it isn't too long, and gives this
pub record LineGiven (r : Rows) (n i : ℕ) (given : Given) : Type 0 where
  pub feed : IsFirstAt 10 (take (r.filled - r.at) (drop r.at r.piece.items)) i
  pub size : n ≡ length r.carry.items + i
  pub short : too_long n (n + 1) r.left ≡ None
  pub is : given ≡ line_gives (attributes (columns_in r)) (r.carry.items ++ take (r.at + i - r.at) (drop r.at r.piece.items))

unread_behind : (r r2 : Rows) (n i : ℕ) (s : Script) → IsBehind r r2 n i
    → unread r2 s ≡ items_from (setting_of r) s.ending (r.line + 1) (r.left - (n + 1)) (pieces (([] ++ take (r.filled - (r.at + i + 1)) (drop (r.at + i + 1) r.piece.items)) ++ s.bytes))
unread_behind r r2 n i s b =
    λ k. items_from (b.setting k) s.ending (b.line k) (b.left k) (pieces ((b.carry k ++ take (b.filled k - b.at k) (drop (b.at k) (b.piece k))) ++ s.bytes))

-- the items of the line, and those after it
pub line_unread : (r r2 : Rows) (n i : ℕ) (given : Given) (s : Script) → LineGiven r n i given → IsBehind r r2 n i → unread r s ≡ line_items (setting_of r) r.line given (unread r2 s)
line_unread r r2 n i given s l b =
    let same : line_gives (attributes (columns_in r)) (r.carry.items ++ take i (take (r.filled - r.at) (drop r.at r.piece.items))) ≡ given =
    ap (λ z. line_gives (attributes (columns_in r)) (r.carry.items ++ z)) (sym (cut_part r.piece.items r.at r.filled i l.feed)) ∙ sym l.is in
    come_line (setting_of r) s.ending r.line r.left r.carry.items r.piece.items s.bytes r.at r.filled i r.unbroken l.feed
    ∙ ap (λ m. checked_items (setting_of r) r.line (too_long m (m + 1) r.left) (r.carry.items ++ take i (take (r.filled - r.at) (drop r.at r.piece.items)))
    (items_from (setting_of r) s.ending (r.line + 1) (r.left - (m + 1)) (pieces (([] ++ take (r.filled - (r.at + i + 1)) (drop (r.at + i + 1) r.piece.items)) ++ s.bytes)))) (sym l.size)
    ∙ ap (λ k. checked_items (setting_of r) r.line k (r.carry.items ++ take i (take (r.filled - r.at) (drop r.at r.piece.items)))
    (items_from (setting_of r) s.ending (r.line + 1) (r.left - (n + 1)) (pieces (([] ++ take (r.filled - (r.at + i + 1)) (drop (r.at + i + 1) r.piece.items)) ++ s.bytes)))) l.short
    ∙ (λ k. line_items (setting_of r) r.line (same k) (sym (unread_behind r r2 n i s b) k))

-- the line's feed stands within the piece
feed_within : (r : Rows) (i : ℕ) → IsFirstAt 10 (take (r.filled - r.at) (drop r.at r.piece.items)) i → i < r.filled - r.at
feed_within r i f = let h = f.within in omega (arith, h, length-take (r.filled - r.at) (drop r.at r.piece.items))

pub row_given : (r r2 : Rows) (n i : ℕ) (values : List Value) → r.stage ≡ S.Reading → LineGiven r n i (Row values) → IsBehind r r2 n i → GaveItem r r2 (I.Tuple values)
row_given r r2 n i values a l b =
    let small : n + 1 ≤ r.left = fits_left n (n + 1) r.left l.short in
    let left = b.left in
    record {
      setting = b.setting;
      over = ap is_done (b.stage ∙ a);
      fewer = rw (b.stage, a) (omega (arith, small, left));
      has = row_has r (r.carry.items ++ take (r.at + i - r.at) (drop r.at r.piece.items)) values l.is;
    }

pub row_coming : (r r2 : Rows) (n i : ℕ) (values : List Value) → r.stage ≡ S.Reading → LineGiven r n i (Row values) → IsBehind r r2 n i
    → (s : Option Script) → Gives (to_come r s) (I.Tuple values) (to_come r2 s)
row_coming r r2 n i values a l b = gives_reading r r2 (I.Tuple values) a (b.stage ∙ a) (λ s. line_unread r r2 n i (Row values) s l b)

pub none_given : (r r2 : Rows) (n i : ℕ) (given : Given) → r.stage ≡ S.Reading → LineGiven r n i given → IsBehind r r2 n i → GaveNone r r2
none_given r r2 n i given a l b =
    let small : n + 1 ≤ r.left = fits_left n (n + 1) r.left l.short in
    let left = b.left in
    let feed = feed_within r i l.feed in
    let size = l.size in
    let at = b.at in
    let filled = b.filled in
    let room = r.held in
    let none : length r2.carry.items ≡ 0 = ap length b.carry in
    record {
      setting = b.setting;
      reading = b.stage ∙ a;
      work = omega (arith, small, left, feed, size, at, filled, room, none);
      left = omega (arith, left);
    }

pub none_coming : (r r2 : Rows) (n i : ℕ) (given : Given) → r.stage ≡ S.Reading → LineGiven r n i given → IsBehind r r2 n i
    → ((more : List Item) → line_items (setting_of r) r.line given more ≡ more) → (s : Option Script) → Stays (to_come r s) (to_come r2 s)
none_coming r r2 n i given a l b none = stays_reading r r2 a (b.stage ∙ a) (λ s. line_unread r r2 n i given s l b ∙ none (unread r2 s))

-- a bad line
pub bad_unread : (r r2 : Rows) (n i : ℕ) (s : Script) → LineGiven r n i Bad → IsBehind r r2 n i → r.strict ≡ true → unread r s ≡ source_fault (setting_of r) K.BadRow r.line ∷ []
bad_unread r r2 n i s l b e = line_unread r r2 n i Bad s l b ∙ rw e refl

pub bad_passes : (r : Rows) → r.strict ≡ false → (more : List Item) → line_items (setting_of r) r.line Bad more ≡ more
bad_passes r e more = rw e refl

-- a line that is too long
pub long_unread : (r : Rows) (n i : ℕ) (kind : FaultKind) (s : Script) → IsFirstAt 10 (take (r.filled - r.at) (drop r.at r.piece.items)) i → n ≡ length r.carry.items + i
    → too_long n (n + 1) r.left ≡ Some kind → unread r s ≡ source_fault (setting_of r) kind r.line ∷ []
long_unread r n i kind s f is e =
    let long : too_long (length r.carry.items + i) (length r.carry.items + i + 1) r.left ≡ Some kind = ap (λ m. too_long m (m + 1) r.left) (sym is) ∙ e in
    come_line (setting_of r) s.ending r.line r.left r.carry.items r.piece.items s.bytes r.at r.filled i r.unbroken f ∙ rw long refl

-- ---- the bytes that are held

unread_kept : (r r2 : Rows) (s : Script) → IsKept r r2 → unread r s ≡ unread r2 s
unread_kept r r2 s k =
    let none : take (r2.filled - r2.at) (drop r2.at r2.piece.items) ≡ [] = no_bytes r2.at r2.filled r2.piece.items k.filled in
    let same : held r ≡ held r2 = sym (append-nil (held r)) ∙ (λ i. sym k.carry i ++ sym none i) in
    λ i. items_from (sym k.setting i) s.ending (sym k.line i) (sym k.left i) (pieces (same i ++ s.bytes))

pub kept_stays : (r r2 : Rows) (s : Option Script) → r.stage ≡ S.Reading → IsKept r r2 → Stays (to_come r s) (to_come r2 s)
kept_stays r r2 s a k = stays_reading r r2 a (k.stage ∙ a) (λ t. unread_kept r r2 t k) s

-- where the piece is free, what is to come begins with the line that is kept
free_unread : (r : Rows) (s : Script) → r.filled ≡ 0 → unread r s ≡ items_from (setting_of r) s.ending r.line r.left (pieces (r.carry.items ++ s.bytes))
free_unread r s f =
    ap (λ z. items_from (setting_of r) s.ending r.line r.left (pieces ((r.carry.items ++ z) ++ s.bytes))) (no_bytes r.at r.filled r.piece.items f)
    ∙ ap (λ z. items_from (setting_of r) s.ending r.line r.left (pieces (z ++ s.bytes))) (append-nil r.carry.items)

pub long_held : (r : Rows) (kind : FaultKind) (s : Script) → r.filled ≡ 0 → too_long (length r.carry.items) (length r.carry.items) r.left ≡ Some kind
    → unread r s ≡ source_fault (setting_of r) kind r.line ∷ []
long_held r kind s f e = free_unread r s f ∙ long_step (setting_of r) s.ending r.line r.left r.carry.items s.bytes kind r.unbroken e

ended_unread : (r : Rows) (s : Script) → r.filled ≡ 0 → s.bytes ≡ [] → unread r s ≡ last_items (setting_of r) s.ending r.line r.left r.carry.items
ended_unread r s f b =
    free_unread r s f ∙ ap (λ z. items_from (setting_of r) s.ending r.line r.left (pieces (r.carry.items ++ z))) b ∙ last_step (setting_of r) s.ending r.line r.left r.carry.items r.unbroken

pub failed_unread : (r : Rows) (s : Script) → r.filled ≡ 0 → too_long (length r.carry.items) (length r.carry.items) r.left ≡ None → s ≡ record { bytes = []; ending = Failed }
    → unread r s ≡ source_fault (setting_of r) K.ReadFailed r.line ∷ []
failed_unread r s f short e =
    ended_unread r s f (ap (λ z. z.bytes) e) ∙ ap (λ z. last_items (setting_of r) z r.line r.left r.carry.items) (ap (λ z. z.ending) e) ∙ rw short refl

pub end_unread : (r : Rows) (s : Script) → r.filled ≡ 0 → s ≡ record { bytes = []; ending = End } → unread r s ≡ last_items (setting_of r) End r.line r.left r.carry.items
end_unread r s f e = ended_unread r s f (ap (λ z. z.bytes) e) ∙ ap (λ z. last_items (setting_of r) z r.line r.left r.carry.items) (ap (λ z. z.ending) e)

-- ---- a read

whole_front : (n : ℕ) (piece : List ℕ) (from to : ℕ) → from ≡ 0 → to ≡ n → take n piece ≡ take (to - from) (drop from piece)
whole_front n piece from to f t = let e : n ≡ to - from = omega (arith, f, t) in ap (λ k. take k piece) e ∙ ap (λ k. take (to - from) (drop k piece)) (sym f)

read_unread : (r r2 : Rows) (n : ℕ) (s t : Script) (rest : List ℕ) → r.filled ≡ 0 → IsRead r r2 n → s.bytes ≡ take n r2.piece.items ++ rest → t ≡ record { bytes = rest; ending = s.ending } → unread r s ≡ unread r2 t
read_unread r r2 n s t rest f k b e =
    let all = whole_front n r2.piece.items r2.at r2.filled k.at k.filled in
    let bytes : r.carry.items ++ s.bytes ≡ held r2 ++ t.bytes =
    ap (λ z. r.carry.items ++ z) (b ∙ ap (λ z. z ++ rest) all) ∙ sym (append_assoc r.carry.items (take (r2.filled - r2.at) (drop r2.at r2.piece.items)) rest)
    ∙ (λ i. (sym k.carry i ++ take (r2.filled - r2.at) (drop r2.at r2.piece.items)) ++ (sym e i).bytes) in
    free_unread r s f ∙ (λ i. items_from (sym k.setting i) ((sym e i).ending) (sym k.line i) (sym k.left i) (pieces (bytes i)))

none_unread : (r r2 : Rows) (s : Script) → r.filled ≡ 0 → IsRead r r2 0 → unread r s ≡ unread r2 s
none_unread r r2 s f k = read_unread r r2 0 s s s.bytes f k refl refl

pub none_stays : (r r2 : Rows) (n : ℕ) (s : Option Script) → n ≡ 0 → r.stage ≡ S.Reading → r.filled ≡ 0 → IsRead r r2 n → Stays (to_come r s) (to_come r2 s)
none_stays r r2 n s e a f k = let k0 = subst (IsRead r r2) e k in stays_reading r r2 a (k0.stage ∙ a) (λ t. none_unread r r2 t f k0) s

pub some_stays : (r r2 : Rows) (n : ℕ) (s now : Option Script) → 0 < n → r.stage ≡ S.Reading → r.filled ≡ 0 → IsRead r r2 n → PieceGiven s now (Ok n) r2.piece.items → Stays (to_come r s) (to_come r2 now)
some_stays r r2 n None now h a f k g = rw a tt
some_stays r r2 n (Some s) now h a f k g = rw (k.stage ∙ a, a, g.left h) (ap Some (sym (read_unread r r2 n s (record { bytes = g.rest; ending = s.ending }) g.rest f k g.front refl)))

pub piece_over : (s now : Option Script) (n : ℕ) (piece : List ℕ) → n ≡ 0 → PieceGiven s now (Ok n) piece → IfSome s (λ t. t ≡ record { bytes = []; ending = End })
piece_over None now n piece e g = tt
piece_over (Some s) now n piece e g = g.over e

pub piece_failed : (s now : Option Script) (e : F.Failed) (piece : List ℕ) (t : Script) → PieceGiven s now (Err e) piece → s ≡ Some t → t ≡ record { bytes = []; ending = Failed }
piece_failed None now e piece t g h = absurd (cc h)
piece_failed (Some s) now e piece t g h = let same : s ≡ t = cc h in sym same ∙ g

pub stays_stays : (a b c : Option (List Item)) → Stays a b → Stays b c → Stays a c
stays_stays None b c h g = tt
stays_stays (Some items) b c h g = subst (λ z. Stays z c) h g

-- ---- the last line

some_is : (s : Option Script) (t : Script) (P : Script → Type 0) → IfSome s P → s ≡ Some t → P t
some_is None t P h e = absurd (cc e)
some_is (Some s) t P h e = let same : s ≡ t = cc e in subst P same h

last_unread : (r : Rows) (s : Script) → r.filled ≡ 0 → (length r.carry.items ≡ 0 → ⊥) → too_long (length r.carry.items) (length r.carry.items) r.left ≡ None → s ≡ record { bytes = []; ending = End }
    → unread r s ≡ line_items (setting_of r) r.line (line_gives (attributes (columns_in r)) r.carry.items) closing
last_unread r s f n short e = end_unread r s f e ∙ last_some (setting_of r) r.line r.left r.carry.items n short

some_left : (r : Rows) → (length r.carry.items ≡ 0 → ⊥) → too_long (length r.carry.items) (length r.carry.items) r.left ≡ None → 0 < r.left
some_left r n short = let h = fits_left (length r.carry.items) (length r.carry.items) r.left short in omega (arith, h, n)

pub last_given : (r r2 : Rows) (values : List Value) → r.stage ≡ S.Reading → (length r.carry.items ≡ 0 → ⊥) → too_long (length r.carry.items) (length r.carry.items) r.left ≡ None
    → setting_of r2 ≡ setting_of r → r2.stage ≡ S.Ended → Row values ≡ line_gives (attributes (columns_in r)) r.carry.items → GaveItem r r2 (I.Tuple values)
last_given r r2 values a n short o b g = record {
  setting = o;
  over = ap is_done b;
  fewer = let h = some_left r n short in rw (a, b) (omega (arith, h));
  has = row_has r r.carry.items values g;
}

end_settles : (stage : Stage) → stage ≡ S.Ended → Settles stage closing
end_settles stage e coming = ap (λ z. by_stage z coming) e

mark_settles : (stage : Stage) → stage ≡ S.Marked → Settles stage (I.Final ∷ [])
mark_settles stage e coming = ap (λ z. by_stage z coming) e

pub last_coming : (r r2 : Rows) (values : List Value) (s after : Option Script) → r.stage ≡ S.Reading → r.filled ≡ 0 → (length r.carry.items ≡ 0 → ⊥)
    → too_long (length r.carry.items) (length r.carry.items) r.left ≡ None → r2.stage ≡ S.Ended → Row values ≡ line_gives (attributes (columns_in r)) r.carry.items
    → IfSome s (λ t. t ≡ record { bytes = []; ending = End }) → Gives (to_come r s) (I.Tuple values) (to_come r2 after)
last_coming r r2 values s after a f n short b g h =
    gives_settled r r2 (I.Tuple values) closing s after a (end_settles r2.stage b)
    (λ t e. last_unread r t f n short (some_is s t (λ t. t ≡ record { bytes = []; ending = End }) h e) ∙ ap (λ z. line_items (setting_of r) r.line z closing) (sym g))

-- a last line that gives nothing
pub mark_coming : (r r2 : Rows) (item : Item) (given : Given) (s after : Option Script) → r.stage ≡ S.Reading → r.filled ≡ 0 → (length r.carry.items ≡ 0 → ⊥)
    → too_long (length r.carry.items) (length r.carry.items) r.left ≡ None → r2.stage ≡ S.Marked → item ≡ I.Window → given ≡ line_gives (attributes (columns_in r)) r.carry.items
    → ((more : List Item) → line_items (setting_of r) r.line given more ≡ more)
    → IfSome s (λ t. t ≡ record { bytes = []; ending = End }) → Gives (to_come r s) item (to_come r2 after)
mark_coming r r2 item given s after a f n short b is g passes h =
    gives_settled r r2 item (I.Final ∷ []) s after a (mark_settles r2.stage b)
    (λ t e. last_unread r t f n short (some_is s t (λ t. t ≡ record { bytes = []; ending = End }) h e) ∙ ap (λ z. line_items (setting_of r) r.line z closing) (sym g) ∙ passes closing
    ∙ ap (λ z. z ∷ I.Final ∷ []) (sym is))

-- no last line
pub empty_coming : (r r2 : Rows) (item : Item) (s after : Option Script) → r.stage ≡ S.Reading → r.filled ≡ 0 → length r.carry.items ≡ 0 → r2.stage ≡ S.Marked → item ≡ I.Window
    → IfSome s (λ t. t ≡ record { bytes = []; ending = End }) → Gives (to_come r s) item (to_come r2 after)
empty_coming r r2 item s after a f n b is h =
    gives_settled r r2 item (I.Final ∷ []) s after a (mark_settles r2.stage b)
    (λ t e. end_unread r t f (some_is s t (λ t. t ≡ record { bytes = []; ending = End }) h e) ∙ last_empty (setting_of r) r.line r.left r.carry.items n ∙ ap (λ z. z ∷ I.Final ∷ []) (sym is))

-- a last line that is bad
pub last_bad_coming : (r r2 : Rows) (item : Item) (s after : Option Script) → r.stage ≡ S.Reading → r.filled ≡ 0 → (length r.carry.items ≡ 0 → ⊥)
    → too_long (length r.carry.items) (length r.carry.items) r.left ≡ None → r2.stage ≡ S.Done → item ≡ source_fault (setting_of r) K.BadRow r.line → Bad ≡ line_gives (attributes (columns_in r)) r.carry.items
    → r.strict ≡ true → IfSome s (λ t. t ≡ record { bytes = []; ending = End }) → Gives (to_come r s) item (to_come r2 after)
last_bad_coming r r2 item s after a f n short b is g strict h =
    stopped_coming r r2 item K.BadRow r.line s after a b is
    (λ t e. last_unread r t f n short (some_is s t (λ t. t ≡ record { bytes = []; ending = End }) h e) ∙ ap (λ z. line_items (setting_of r) r.line z closing) (sym g) ∙ rw strict refl)
