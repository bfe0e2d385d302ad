mod PlainStates
mod DollarTables
pub mod SignedFunctions
mod UnitGraphs
mod DollarsMeant
mod SourceCounts
mod GraphLimits
mod StreamSchemas
mod ExpansionBodies
mod CheckedOperators
mod KeptGraphs
mod Accepting
mod ParametersFit
mod WindowsFit
mod AssignedOnce
mod OutputsFit
mod LogicFits
mod PartsFit
pub mod FollowedTexts
pub mod FileParameters
mod FileParts
mod FreeFiles
mod OwnFiles
mod SomeFiles
