use Rattle.std.proofs.Common.{pos, negsuc, true, false, [], codes}
use Rattle.spl_value.specs.declared.types.IntKind.TheVariants as N
use Rattle.spl_value.specs.declared.types.SplType.TheVariants as S
use Rattle.spl_value.specs.declared.value.Value.TheVariants as V
use Rattle.spl_value.proofs.FitsLaws.{fits_int, fits_bool, fits_text}
use Rattle.spl_value.proofs.key.key_on_literals.Goals as goal

pub returns-clause-minus_one : goal.returns-clause-minus_one
returns-clause-minus_one c = rw (V.outs-Int (negsuc 0))

pub returns-clause-largest : goal.returns-clause-largest
returns-clause-largest c = rw (V.outs-Int (pos 0xffffffffffffffff))

pub returns-clause-lowest_first : goal.returns-clause-lowest_first
returns-clause-lowest_first c = rw (V.outs-Int (pos 0x0102))

pub returns-clause-yes : goal.returns-clause-yes
returns-clause-yes c = rw (V.outs-Bool true)

pub returns-clause-no_bytes : goal.returns-clause-no_bytes
returns-clause-no_bytes c = rw (V.outs-Text [])

pub returns-clause-two_places : goal.returns-clause-two_places
returns-clause-two_places c = rw (V.outs-Int (pos 7), V.outs-Text (codes "ab"))

pub returns-clause-twice_counts_once : goal.returns-clause-twice_counts_once
returns-clause-twice_counts_once c = rw (V.outs-Int (pos 7), V.outs-Text (codes "ab"))

pub returns-clause-fitting : goal.returns-clause-fitting
returns-clause-fitting c =
    rw (
      fits_text (codes "ab"),
      fits_bool false,
      fits_int N.I8 (negsuc 127),
      S.outs-Text,
      S.outs-Bool,
      S.outs-Int N.I8,
      V.outs-Text (codes "ab"),
      V.outs-Bool false,
      V.outs-Int (negsuc 127),
    )
