use Rattle.attribute_flow.proofs.CopyTypes.{copy_types}
use Rattle.attribute_flow.proofs.KindCopies.{copies_hold, custom_copies_hold, trace_holds}
use Rattle.attribute_flow.proofs.laws.copies_law.Goals as goal

pub returns : goal.returns
returns c = record { copies = copies_hold; custom = custom_copies_hold; types = copy_types; traced = trace_holds }
