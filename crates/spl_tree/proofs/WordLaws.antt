-- Each symbol and each reserved word has a text of its own.
use Rattle.std.proofs.Common.{◌≡◌, Some, refl}
use Rattle.spl_value.specs.declared.types.IntKind.{IntKind}
use Rattle.spl_value.specs.declared.types.IntKind.TheVariants.{I8}
use Rattle.spl_tree.specs.declared.keyword.Keyword.TheVariants as K
use Rattle.spl_tree.specs.declared.keyword.LeftOut.{LeftOut}
use Rattle.spl_tree.specs.declared.keyword.LeftOut.TheVariants as L
use Rattle.spl_tree.specs.declared.symbol.Symbol.TheVariants as S
use Rattle.spl_tree.specs.Words.{keyword_word, keyword_of}
use Rattle.spl_tree.specs.Laws.{SymbolsLaw, KeywordsLaw}

-- the text of each symbol is that symbol's alone
pub symbols_law : SymbolsLaw
symbols_law S.LeftParen = refl
symbols_law _ = refl

-- the words of whole numbers
kinds_law : (kind : IntKind) → keyword_of (keyword_word (K.Int kind)) ≡ Some (K.Int kind)
kinds_law I8 = refl
kinds_law _ = refl

-- the words of what is left out
left_out_law : (kind : LeftOut) → keyword_of (keyword_word (K.LeftOut kind)) ≡ Some (K.LeftOut kind)
left_out_law L.Float32 = refl
left_out_law _ = refl

-- the word of each reserved word is that one's alone
pub keywords_law : KeywordsLaw
keywords_law (K.Int kind) = kinds_law kind
keywords_law (K.LeftOut kind) = left_out_law kind
keywords_law _ = refl
