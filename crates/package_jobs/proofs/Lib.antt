mod FileSteps
mod FilesPerformed
mod FilesFew
mod FollowedNames
mod NeedByNeed
mod NeededSets
mod Plans
mod WrittenTurns
