-- What is spelled as an invocation of an operator is read.
use Rattle.std.proofs.Common.{◌≡◌, ℕ, Bool, false, List, [], ◌∷◌, ◌++◌, Option, is_some, refl, sym, ap, append_assoc}
use Rattle.spl_tree.specs.declared.keyword.Keyword.TheVariants as K
use Rattle.spl_tree.specs.declared.symbol.Symbol.{Symbol}
use Rattle.spl_tree.specs.declared.symbol.Symbol.TheVariants as S
use Rattle.spl_tree.specs.declared.token.Token.{Token}
use Rattle.spl_tree.specs.declared.token.TokenKind.{TokenKind}
use Rattle.spl_tree.specs.declared.unit.InputPort.{InputPort}
use Rattle.spl_tree.specs.declared.unit.Invocation.{Invocation}
use Rattle.spl_tree.specs.declared.unit.OutputStream.{OutputStream}
use Rattle.spl_tree.specs.spellings.Grammar.{Is}
use Rattle.spl_tree.specs.spellings.Phrases.{IsKeyword, Phrase, Row, Separated, first, next, Listed, empty, some}
use Rattle.spl_tree.specs.spellings.StatementGrammar.{BeginsAt, begins}
use Rattle.spl_tree.specs.spellings.UnitGrammar.{SpellsName, name, SpellsAlias, no_alias, alias, stream, SpellsOutputStream, output, SpellsHead, one_stream, streams, no_stream, SpellsInput, input, SpellsInvocation, invocation}
use Rattle.expr_parser.specs.Rules.{done, look, call, Took, RunsTo, Reads}
use Rattle.expr_parser.proofs.RuleLaws.{line, runs_done, runs_call}
use Rattle.expr_parser.specs.Taken.{begins_with}
use Rattle.expr_parser.specs.Lines.{is, name_kind}
use Rattle.statement_parser.specs.Lines.{rule, Name, is_word, word_kind, expect, Alias, Stream, Streams, StreamHead, ListHead, Invoked, Inputs, MoreInputs, InputStreams, Graph}
use Rattle.statement_parser.proofs.CompleteParts.{Heads, no_symbol, takes, skips, expects, expects_word, only, row, separated}
use Rattle.unit_parser.proofs.CompleteTypes.{shape_reads}
use Rattle.unit_parser.proofs.CompleteClauses.{end_reads}

-- Names and aliases

-- `as` and a name, or neither
alias_reads : {l : Option Name} {a : List Token} → SpellsAlias l a → (rest : List Token) → begins_with (is_word K.As) rest ≡ false
    → Reads rule Alias (a ++ rest) (Took l rest)
unfolding rule
alias_reads no_alias rest front = line (skips front runs_done)
alias_reads (alias k t n e named) rest front = line (takes (rw e refl) (takes (rw named refl) (rw named runs_done)))

-- an alias begins with no comma
alias_front : {l : Option Name} {a : List Token} → SpellsAlias l a → (rest : List Token) → begins_with (is S.Comma) rest ≡ false
    → begins_with (is S.Comma) (a ++ rest) ≡ false
alias_front no_alias rest e = e
alias_front (alias k t n e named) rest front = rw e refl

-- phrases with a symbol between them begin as the first one does
pub separated_begins : {A : Type 0} {s : Symbol} {P : Phrase A} (q : TokenKind → Bool) → ((x : A) (b ts : List Token) → P x b → Heads q (b ++ ts))
    → {xs : List A} {a : List Token} → Separated s P xs a → (rest : List Token) → Heads q (a ++ rest)
separated_begins q all (first x a d) rest = all x a rest d
separated_begins q all (next xs x t a b ds e d) rest = rw (append_assoc a (t ∷ b) rest) (separated_begins q all ds (t ∷ (b ++ rest)))

-- Streams

-- how a stream begins: with its word, and the line after that word gives it
data StreamFront (x : OutputStream) : List Token → List Token → Type 0 where
  behind_word : (t : Token) (ts rest : List Token) → IsKeyword K.Stream t → Reads rule Stream ts (Took x rest) → StreamFront x (t ∷ ts) rest

stream_front : {x : OutputStream} {a : List Token} → SpellsOutputStream x a → (rest : List Token) → StreamFront x (a ++ rest) rest
unfolding rule
stream_front (output h t n b (stream w o c h' a e left d right) named) rest =
    rw (append_assoc (a ++ c ∷ []) (t ∷ []) rest, append_assoc a (c ∷ []) (t ∷ rest))
    (behind_word w (o ∷ (a ++ c ∷ t ∷ rest)) rest e
    (line (expects left (runs_call (shape_reads d S.Greater c (t ∷ rest) refl right) (takes (rw named refl) (rw named runs_done))))))

-- a stream begins with its word
stream_begins : (x : OutputStream) (b ts : List Token) → SpellsOutputStream x b → Heads (word_kind K.Stream) (b ++ ts)
stream_begins x b ts (output h t n b' (stream w o c h' a e left d right) named) = rw e refl

-- streams up to the closing parenthesis
streams_reads : {xs : List OutputStream} {a : List Token} → Separated S.Semicolon SpellsOutputStream xs a → (c : Token) (rest : List Token) → Is S.RightParen c
    → Reads rule (Streams []) (a ++ c ∷ rest) (Took xs rest)
unfolding rule
streams_reads {xs = all} ds c rest right =
    separated (λ ts. Unit {0}) Before Behind (λ t ts semi. tt) element (λ xs t ts semi r. takes (rw semi refl) (only r)) ds
    (c ∷ rest) tt (skips (rw right refl) (expects right runs_done))
  where
    Before : List OutputStream → List Token → Type 0
    Before xs ts = Reads rule (Streams xs) ts (Took all rest)

    Behind : List OutputStream → List Token → Type 0
    Behind xs ts = RunsTo rule (look (is S.Semicolon) (λ _. call (Streams xs) done) (expect S.RightParen (done xs))) ts (Took all rest)

    by : (xs : List OutputStream) (x : OutputStream) (ts us : List Token) → StreamFront x ts us → Behind (xs ++ x ∷ []) us → Before xs ts
    by xs x ts us (behind_word t vs us' e d) r = line (expects_word e (runs_call d r))

    element : (xs : List OutputStream) (x : OutputStream) (b ts : List Token) → SpellsOutputStream x b → Unit {0} → Behind (xs ++ x ∷ []) ts → Before xs (b ++ ts)
    element xs x b ts d end r = by xs x (b ++ ts) ts (stream_front d ts) r

-- Heads

-- how a head begins at a place: with `stream` or an opening parenthesis, and the line after that token gives it
data HeadFront (xs : List OutputStream) (l : Option Name) : ℕ → List Token → List Token → Type 0 where
  by_stream : (t : Token) (ts rest : List Token) → IsKeyword K.Stream t → Reads rule StreamHead ts (Took (xs, l) rest) → HeadFront xs l t.start (t ∷ ts) rest
  by_list : (t : Token) (ts rest : List Token) → Is S.LeftParen t → Reads rule ListHead ts (Took (xs, l) rest) → HeadFront xs l t.start (t ∷ ts) rest

-- tokens begin where the first of them does
first_at : {at : ℕ} (t : Token) (ts : List Token) → BeginsAt at (t ∷ ts) → t.start ≡ at
first_at t ts place = by place refl
  where
    by : {n : ℕ} {us : List Token} → BeginsAt n us → us ≡ t ∷ ts → t.start ≡ n
    by (begins u vs) same = let token : u ≡ t = cc in sym (ap (λ x. x.start) token)

-- and so do more tokens
longer_at : {at : ℕ} {a : List Token} (b : List Token) → BeginsAt at a → BeginsAt at (a ++ b)
longer_at b (begins t a) = begins t (a ++ b)

-- a stream alone, and perhaps an alias
one_front : {x : OutputStream} {l : Option Name} {ts us b : List Token} {at : ℕ} (rest : List Token) → StreamFront x ts us → BeginsAt at ts → us ≡ b ++ rest
    → SpellsAlias l b → begins_with (is_word K.As) rest ≡ false → HeadFront (x ∷ []) l at ts rest
unfolding rule
one_front {x = x} {l = l} {b = b} rest (behind_word t ts us e d) place same dl front =
    rw (← first_at t ts place) (by_stream t ts rest e
    (line (runs_call d (rw same (runs_call (alias_reads dl rest front) runs_done)))))

head_front : {xs : List OutputStream} {l : Option Name} {at : ℕ} {a : List Token} → SpellsHead xs l a → BeginsAt at a → (rest : List Token)
    → begins_with (is_word K.As) rest ≡ false → HeadFront xs l at (a ++ rest) rest
unfolding rule
head_front (one_stream x l a b d dl) place rest front = rw (append_assoc a b rest)
    (one_front rest (stream_front d (b ++ rest)) (rw (← append_assoc a b rest) (longer_at rest place)) refl dl front)
head_front (streams o c xs l a b left ds right dl) place rest front =
    rw (append_assoc a (c ∷ b) rest, ← first_at o (a ++ c ∷ b) place)
    (by_list o (a ++ c ∷ (b ++ rest)) rest left
    (line (skips (no_symbol (word_kind K.Stream) S.RightParen refl (a ++ c ∷ (b ++ rest)) (separated_begins (word_kind K.Stream) stream_begins ds (c ∷ (b ++ rest))))
    (runs_call (streams_reads ds c (b ++ rest) right) (runs_call (alias_reads dl rest front) runs_done)))))
head_front (no_stream o c n a left right (alias k t m e named)) place rest front =
    rw (← first_at o (c ∷ k ∷ t ∷ []) place)
    (by_list o (c ∷ k ∷ t ∷ rest) rest left (line (takes (rw right refl) (expects_word e (takes (rw named refl) (rw named runs_done))))))

-- Input ports

-- the streams of a port, up to what is no comma
names_reads : {ns : List Name} {a : List Token} → Separated S.Comma SpellsName ns a → (rest : List Token) → begins_with (is S.Comma) rest ≡ false
    → Reads rule (InputStreams []) (a ++ rest) (Took ns rest)
unfolding rule
names_reads {ns = ns} ds rest front =
    separated (λ ts. Unit {0}) Before Behind (λ t ts comma. tt) element (λ xs t ts comma r. takes (rw comma refl) (only r)) ds rest tt (skips front runs_done)
  where
    Before : List Name → List Token → Type 0
    Before xs ts = Reads rule (InputStreams xs) ts (Took ns rest)

    Behind : List Name → List Token → Type 0
    Behind xs ts = RunsTo rule (look (is S.Comma) (λ _. call (InputStreams xs) done) (done xs)) ts (Took ns rest)

    element : (xs : List Name) (x : Name) (b ts : List Token) → SpellsName x b → Unit {0} → Behind (xs ++ x ∷ []) ts → Before xs (b ++ ts)
    element xs x b ts (name t n named) end r = line (takes (rw named refl) (rw named r))

-- a name passes the test of a name
abbrev name_kinds : TokenKind → Bool
name_kinds k = is_some (name_kind k)

name_begins : (x : Name) (b ts : List Token) → SpellsName x b → Heads name_kinds (b ++ ts)
name_begins x b ts (name t n named) = rw named refl

-- a port begins with a name
input_begins : (x : InputPort) (b ts : List Token) → SpellsInput x b → Heads name_kinds (b ++ ts)
input_begins x b' ts (input ns l a b ds dl) = rw (append_assoc a b ts) (separated_begins name_kinds name_begins ds (b ++ ts))

-- what may follow a port
record EndsPort (rest : List Token) : Type 0 where
  no_alias : begins_with (is_word K.As) rest ≡ false
  no_comma : begins_with (is S.Comma) rest ≡ false

-- input ports, up to the closing parenthesis
inputs_reads : {ps : List InputPort} {a : List Token} → Listed S.Semicolon SpellsInput ps a → (c : Token) (rest : List Token) → Is S.RightParen c
    → Reads rule Inputs (a ++ c ∷ rest) (Took ps rest)
unfolding rule
inputs_reads empty c rest right = line (takes (rw right refl) runs_done)
inputs_reads (some ps a ds) c rest right =
    line (skips (no_symbol name_kinds S.RightParen refl (a ++ c ∷ rest) (separated_begins name_kinds input_begins ds (c ∷ rest)))
    (only (separated EndsPort Before Behind (λ t ts semi. record { no_alias = rw semi refl; no_comma = rw semi refl }) element
    (λ xs t ts semi r. takes (rw semi refl) (only r)) ds (c ∷ rest) (record { no_alias = rw right refl; no_comma = rw right refl })
    (skips (rw right refl) (expects right runs_done)))))
  where
    Before : List InputPort → List Token → Type 0
    Before xs ts = Reads rule (MoreInputs xs) ts (Took ps rest)

    Behind : List InputPort → List Token → Type 0
    Behind xs ts = RunsTo rule (look (is S.Semicolon) (λ _. call (MoreInputs xs) done) (expect S.RightParen (done xs))) ts (Took ps rest)

    element : (xs : List InputPort) (x : InputPort) (b ts : List Token) → SpellsInput x b → EndsPort ts → Behind (xs ++ x ∷ []) ts → Before xs (b ++ ts)
    element xs x b' ts (input ns l a b ds dl) end r = rw (append_assoc a b ts)
        (line (runs_call (names_reads ds (b ++ ts) (alias_front dl ts end.no_comma)) (runs_call (alias_reads dl ts end.no_alias) r)))

-- Invocations

-- an invocation, from its head and what comes after it
head_reads : {xs : List OutputStream} {l : Option Name} {at : ℕ} {ts rest mid out : List Token} {x : Invocation} {zs w : List Invocation}
    → HeadFront xs l at ts rest → Reads rule (Invoked at xs l) rest (Took x mid) → Reads rule (Graph (zs ++ x ∷ [])) mid (Took w out)
    → Reads rule (Graph zs) ts (Took w out)
unfolding rule
head_reads (by_stream t ts rest e d) i r = line (takes (rw e refl) (runs_call d (runs_call i (only r))))
head_reads (by_list t ts rest e d) i r = line (skips (rw e refl) (takes (rw e refl) (runs_call d (runs_call i (only r)))))

-- invocations in a row
pub graph_reads : {xs : List Invocation} {a : List Token} → Row SpellsInvocation xs a → (rest : List Token) → begins_with (is_word K.Stream) rest ≡ false
    → begins_with (is S.LeftParen) rest ≡ false → Reads rule (Graph []) (a ++ rest) (Took xs rest)
unfolding rule
graph_reads {xs = all} ds rest no_word no_paren = row Behind step ds rest (line (skips no_word (skips no_paren runs_done)))
  where
    Behind : List Invocation → List Token → Type 0
    Behind xs ts = Reads rule (Graph xs) ts (Took all rest)

    step : (xs : List Invocation) (x : Invocation) (b ts : List Token) → SpellsInvocation x b → Behind (xs ++ x ∷ []) ts → Behind xs (b ++ ts)
    step xs x b' ts (invocation at ys l q t o c n ps y a b d head place assign named left inputs right end) r =
        rw (append_assoc a (q ∷ t ∷ o ∷ (b ++ c ∷ d)) ts, append_assoc b (c ∷ d) ts)
        (head_reads (head_front head place (q ∷ t ∷ o ∷ (b ++ c ∷ (d ++ ts))) (rw assign refl))
        (line (expects assign (takes (rw named refl) (rw named (expects left
        (runs_call (inputs_reads inputs c (d ++ ts) right) (runs_call (end_reads end ts) runs_done))))))) r)
