mod MemberReads
mod ReadNode
mod Lasts
mod Fills
mod Shapes
mod PartsKnown
mod Known
mod ProgramLaw
