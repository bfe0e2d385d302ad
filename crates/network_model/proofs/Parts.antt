-- Each element of a network that runs a graph is a part.
use Rattle.network_model.specs.Networks.{FromSource, FromLinks, Splitter, Replica, Merger}
use Rattle.network_model.specs.PartLaws.{PartLaw}
use Rattle.network_model.proofs.Chains.{links-part, source-part}
use Rattle.network_model.proofs.RegionParts.{splitter-part, replica-part, merger-part}

pub is-part : PartLaw
is-part g (FromSource source ops outs) fits = source-part source ops outs fits.fit
is-part g (FromLinks op ops outs) fits = links-part op ops outs fits.fit
is-part g (Splitter region) fits = splitter-part region
is-part g (Replica region channel) fits = replica-part region channel
is-part g (Merger region outs) fits = merger-part region outs
