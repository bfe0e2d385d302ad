use Rattle.std.proofs.Common.{refl}
use Rattle.spl_driver.proofs.Fetching.{first_opening, first_reading, quiet_fetch}
use Rattle.spl_driver.proofs.Programs.{compiled_long, own_files, refused_bytes, some_long}
use Rattle.spl_driver.proofs.compiled.compile_file.Goals as goal

pub returns-in-Memory-clause-cause : goal.returns-in-Memory-clause-cause
returns-in-Memory-clause-cause g c = quiet_fetch _ _ _ _ refl refl c.in-Memory.ensures.cause

pub returns-in-TooLong-clause-made : goal.returns-in-TooLong-clause-made
returns-in-TooLong-clause-made g c =
    compiled_long _ c.args.program.now c.args.names.now c.too_long.result c.accepted_law.ensures.too_long c.in-TooLong.ensures.read c.too_long.ensures

pub returns-in-TooLong-clause-cause : goal.returns-in-TooLong-clause-cause
returns-in-TooLong-clause-cause g c = quiet_fetch _ _ _ _ refl refl c.in-TooLong.ensures.cause

pub returns-in-Err-Memory-clause-cause : goal.returns-in-Err-Memory-clause-cause
returns-in-Err-Memory-clause-cause g c = quiet_fetch _ _ _ _ refl refl c.in-Whole.ensures.cause

pub returns-in-Err-Refused-clause-cause : goal.returns-in-Err-Refused-clause-cause
returns-in-Err-Refused-clause-cause g c = quiet_fetch _ _ _ _ refl refl c.in-Whole.ensures.cause

pub returns-in-OpenFailed-clause-cause : goal.returns-in-OpenFailed-clause-cause
returns-in-OpenFailed-clause-cause g c = first_opening _ _ _ _ refl c.in-OpenFailed.ensures.cause

pub returns-in-ReadFailed-clause-cause : goal.returns-in-ReadFailed-clause-cause
returns-in-ReadFailed-clause-cause g c = first_reading _ _ _ _ refl c.in-ReadFailed.ensures.cause

pub returns-clause-from : goal.returns-clause-from
returns-clause-from g c = (c.as_slice.result.now, c.in-Ok.ensures)

pub returns-clause-own : goal.returns-clause-own
returns-clause-own g c = own_files _ c.args.names.now c.in-Ok.checked c.own_files_law.ensures.own c.in-Ok.ensures

pub returns-clause-cause : goal.returns-clause-cause
returns-clause-cause g c = quiet_fetch _ _ _ _ refl refl c.in-Whole.ensures.cause

pub returns-in-TooLong-clause-from : goal.returns-in-TooLong-clause-from
returns-in-TooLong-clause-from g c = some_long c.args.names.now c.too_long.result c.accepted_law.ensures.too_long c.too_long.ensures

pub returns-in-Err-Refused-clause-from : goal.returns-in-Err-Refused-clause-from
returns-in-Err-Refused-clause-from g c = refused_bytes c.as_slice.result.now c.args.names.now c.in-Err-Refused.field-0 c.in-Err-Refused.refusal c.in-Err-Refused.field-0-is c.in-Err-Refused.ensures
