use Rattle.source_rows.proofs.Reading.{closed_grows, grows_twice, opened_grows, opened_quiet, wanting_counted}
use Rattle.source_rows.proofs.file.read_file.Goals as goal

pub returns-in-Memory-clause-cause : goal.returns-in-Memory-clause-cause
returns-in-Memory-clause-cause g c = opened_quiet _ _ _ c.in-Memory.ensures.cause

pub returns-in-Err-clause-cause : goal.returns-in-Err-clause-cause
returns-in-Err-clause-cause g c = wanting_counted _ _ _ _ _ _ c.in-Ok.ensures.feed c.in-Err.ensures.cause c.in-Ok.ensures.cause c.close_in.ensures.cause

pub returns-in-Failed-clause-grows : goal.returns-in-Failed-clause-grows
returns-in-Failed-clause-grows g c = opened_grows _ _ _ _ c.in-Failed.ensures.cause

pub returns-in-Memory-clause-grows : goal.returns-in-Memory-clause-grows
returns-in-Memory-clause-grows g c = opened_grows _ _ _ _ c.in-Memory.ensures.cause

pub returns-in-Err-clause-grows : goal.returns-in-Err-clause-grows
returns-in-Err-clause-grows g c = grows_twice ((g.H.Shelf).counts c.args.shelf.now) ((g.H.Shelf).counts c.open_in.new.self) ((g.H.Shelf).counts c.close_in.new.self) (opened_grows _ _ _ _ c.in-Ok.ensures.cause) (closed_grows _ _ _ _ c.close_in.ensures.cause)
