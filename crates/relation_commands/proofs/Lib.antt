mod Paths
mod Counting
mod Surveyed
mod GivingBack
pub mod GivenFiles
mod Putting
pub mod Stepping
mod Listed
pub mod IoLines
mod FoundBlocks
mod PassesBeside
mod Fronts
mod RewriteLeaves
mod RewriteWhole
mod RewriteCauses
mod RewritePasses
mod RewriteChecks
mod RewriteStores
mod RewriteOutcome
mod RewriteUntouched
mod PagesAfter
mod Sampled
mod WholePages
mod RecoverNames
mod Redone
mod RedoEnds
pub mod RecoverGiven
mod RecoverCauses
mod LostLogs
mod WrittenImages
mod ToldLogs
mod RecoverRewrite
mod RecoveredPages
