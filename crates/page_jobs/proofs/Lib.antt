mod Staying
mod JobPlaces
mod Blocks
mod FoundReads
mod Sums
mod BlockWork
pub mod Deals
mod ChunkSums
mod WorkerBlocks
mod ClaimedChunks
mod RewriteSums
mod Measures
mod ListedChunks
mod Delivered
mod Ascending
pub mod BesideWork
mod Texts
mod FoundPasses
mod Whole
pub mod Origin
mod ListedForks
mod Crossing
pub mod ReadersLeave
pub mod Backends
pub mod Counted
pub mod Starting
mod TornBlocks
mod BlockRewrites
mod RewriteTotals
mod RewrittenBlocks
mod RewrittenChunks
mod RewriteWorkers
mod RewrittenForks
mod RewriteCounts
mod RewriteClosed
mod RewriteLanes
mod RewriteOrder
mod RewriteCourse
mod RewriteDevices
mod RewriteFull
pub mod RewriteDown
pub mod RewriteBackends
mod Completing
mod ClosedResidents
mod Prewarmed
mod LoadedBlocks
mod LoadedChunks
mod LoadWorkers
mod LoadedLists
pub mod LoadBackends
