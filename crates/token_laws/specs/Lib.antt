pub mod Moved
pub mod LongestRuns
pub mod SpelledBegins
pub mod Laws
pub mod PrintedLaws
