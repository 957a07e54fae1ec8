mod AnyOffset
mod BeforeNewline
mod BytesSeen
mod LongestRuns
mod MovedReadings
pub mod PrintedNotes
mod PrintedOperators
mod PrintedParams
mod PrintedQuotes
pub mod PrintedRuns
mod PrintedTokens
pub mod PrintedWords
mod QuotedBytes
mod SpelledBegins
mod TwoCuts
