-- The rows of a file are a closed stream.
use Rattle.std.proofs.Common.{ℕ, ◌+◌, ◌-◌, ◌==◌, Bool, true, false, cond, List, [], ◌∷◌, ◌≡◌, refl, ap, ◌∙◌, length, Option, Some, None}
use Rattle.spl_value.specs.Script.{Ending, End, Failed}
use Rattle.spl_value.specs.declared.item.Item.{Item}
use Rattle.spl_value.specs.declared.item.FaultKind.{FaultKind}
use Rattle.spl_value.specs.declared.item.FaultKind.TheVariants as K
use Rattle.stream_model.specs.Stream.{is_closed}
use Rattle.stream_model.specs.Rows.{Setting, Given, Row, Nothing, Bad, line_gives, line_items, checked_items, too_long, last_items, items_from, closing, source_fault}
use Rattle.stream_model.specs.parts.Rows.{pieces}
use Rattle.std.specs.List.{onto_first}
use Rattle.stream_model.proofs.parts.Rows.{cut_short}
use Rattle.stream_model.specs.Laws.{RowsClose}

line_items-closed : (o : Setting) (line : ℕ) (given : Given) (more : List Item) → is_closed more ≡ true → is_closed (line_items o line given more) ≡ true
line_items-closed o line (Row values) more h = h
line_items-closed o line Nothing more h = h
line_items-closed o line Bad more h = go o.strict
  where
    go : (b : Bool) → is_closed (cond b (source_fault o K.BadRow line ∷ []) more) ≡ true
    go true = refl
    go false = h

checked_items-closed : (o : Setting) (line : ℕ) (fault : Option FaultKind) (bytes : List ℕ) (more : List Item) → is_closed more ≡ true
    → is_closed (checked_items o line fault bytes more) ≡ true
checked_items-closed o line (Some kind) bytes more h = refl
checked_items-closed o line None bytes more h = line_items-closed o line (line_gives o.schema bytes) more h

cut_short-closed : (o : Setting) (line : ℕ) (fault : Option FaultKind) → is_closed (cut_short o line fault) ≡ true
cut_short-closed o line (Some kind) = refl
cut_short-closed o line None = refl

last_items-closed : (o : Setting) (ending : Ending) (line left : ℕ) (bytes : List ℕ) → is_closed (last_items o ending line left bytes) ≡ true
last_items-closed o End line left [] = refl
last_items-closed o End line left (b ∷ bytes) = checked_items-closed o line (too_long (length (b ∷ bytes)) (length (b ∷ bytes)) left) (b ∷ bytes) closing refl
last_items-closed o Failed line left bytes = cut_short-closed o line (too_long (length bytes) (length bytes) left)

items_from-closed : (o : Setting) (ending : Ending) (line left : ℕ) (bytes : List ℕ) (rest : List (List ℕ)) → is_closed (items_from o ending line left (bytes ∷ rest)) ≡ true
items_from-closed o ending line left bytes [] = last_items-closed o ending line left bytes
items_from-closed o ending line left bytes (next ∷ rest) =
    checked_items-closed o line (too_long (length bytes) (length bytes + 1) left) bytes (items_from o ending (line + 1) (left - (length bytes + 1)) (next ∷ rest))
    (items_from-closed o ending (line + 1) (left - (length bytes + 1)) next rest)

-- there is always a piece
pub record Pieces (all : List (List ℕ)) : Type 0 where
  pub first : List ℕ
  pub others : List (List ℕ)
  pub are : all ≡ first ∷ others

onto_first-pieces : (b : ℕ) (all : List (List ℕ)) → Pieces (onto_first b all)
onto_first-pieces b [] = record { first = b ∷ []; others = []; are = refl }
onto_first-pieces b (piece ∷ more) = record { first = b ∷ piece; others = more; are = refl }

pub some_pieces : (bytes : List ℕ) → Pieces (pieces bytes)
some_pieces [] = record { first = []; others = []; are = refl }
some_pieces (b ∷ bytes) = go (b == 10)
  where
    go : (feed : Bool) → Pieces (cond feed ([] ∷ pieces bytes) (onto_first b (pieces bytes)))
    go true = record { first = []; others = pieces bytes; are = refl }
    go false = onto_first-pieces b (pieces bytes)

pub rows_close : RowsClose
rows_close o bytes ending =
    let p = some_pieces bytes in
    ap (λ (all : List (List ℕ)). is_closed (items_from o ending 1 o.limit all)) p.are ∙ items_from-closed o ending 1 o.limit p.first p.others
