-- Faults but want of memory.
use Rattle.shell_lexer.specs.declared.fault.LexFault.{LexFault}
use Rattle.shell_lexer.specs.declared.fault.LexFault.TheVariants.{Nul, Interpreter, OpenQuote, OpenSubstitution, Unsupported, Deep, Memory}
use Rattle.shell_lexer.specs.Lexed.{Caused}

pub caused : (P : LexFault → Type 0) (f : LexFault) → P f → Caused P f
caused P (Nul at) p = p
caused P (Interpreter at) p = p
caused P (OpenQuote at) p = p
caused P (OpenSubstitution at) p = p
caused P (Unsupported form at) p = p
caused P (Deep at) p = p
caused P Memory p = tt

pub caused_map : (P Q : LexFault → Type 0) (f : LexFault) → ((g : LexFault) → P g → Q g) → Caused P f → Caused Q f
caused_map P Q (Nul at) h p = h _ p
caused_map P Q (Interpreter at) h p = h _ p
caused_map P Q (OpenQuote at) h p = h _ p
caused_map P Q (OpenSubstitution at) h p = h _ p
caused_map P Q (Unsupported form at) h p = h _ p
caused_map P Q (Deep at) h p = h _ p
caused_map P Q Memory h p = tt
