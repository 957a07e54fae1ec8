-- How a command's tree is made from those of its members.
use Rattle.std.specs.Prelude.{ℕ, Bool, List, [], ◌∷◌, ◌++◌, if◌then◌else◌, eqb}
use Rattle.script_names.specs.Ascii.{equals}
use Rattle.shell_syntax.specs.declared.redirect.Redirect.{Redirect}
use Rattle.shell_syntax.specs.declared.syntax.Command.{Command}
use Rattle.shell_syntax.specs.declared.syntax.Command.TheVariants as c
use Rattle.shell_syntax.specs.declared.syntax.Command.TheOpen as o
use Rattle.shell_syntax.specs.declared.syntax.Word.{Word, roll-Word}
use Rattle.shell_syntax.specs.declared.syntax.Part.{Part, out-Part}
use Rattle.shell_syntax.specs.declared.syntax.Part.TheVariants as part
use Rattle.shell_syntax.specs.declared.syntax.Assign.{Assign, roll-Assign}
use Rattle.shell_syntax.specs.declared.syntax.Link.{Link}
use Rattle.shell_syntax.specs.declared.syntax.IfArm.{IfArm}
use Rattle.shell_syntax.specs.declared.syntax.CaseArm.{CaseArm}
pub use Rattle.shell_syntax.specs.Members.{link, if_arm, case_arm}
use Rattle.shell_grammar.specs.declared.items.Items.{Items}
use Rattle.shell_grammar.specs.Look.{Text, up_to_equals}

-- ---- a node of a list, a pipeline, a chain or redirections is made only where it has two members, or a redirection

-- a list of commands
abbrev pub seq_of : List Command → Command
seq_of (x ∷ []) = x
seq_of xs = c.Seq xs

-- a pipeline
abbrev pub pipe_of : ℕ → List Command → Command
pipe_of at (x ∷ []) = x
pipe_of at xs = c.Pipe at xs

-- an and-or list
abbrev pub chain_of : Command → List Link → Command
chain_of x [] = x
chain_of x links = c.Chain x links

-- a command with its redirections
abbrev pub redirected : ℕ → Command → List Redirect → Command
redirected at x [] = x
redirected at x redirects = c.Redirected at x redirects

-- ---- members

-- a word at its offset
abbrev pub word_at : ℕ → List Part → Word
word_at at parts = roll-Word (record { at = at; parts = parts })

-- ---- simple commands

-- no items
abbrev pub no_items : Items
no_items = record { assigns = []; words = []; redirects = [] }

-- one assignment
abbrev pub an_assign : Assign → Items
an_assign x = record { assigns = x ∷ []; words = []; redirects = [] }

-- one word
abbrev pub a_word : Word → Items
a_word x = record { assigns = []; words = x ∷ []; redirects = [] }

-- one redirection
abbrev pub a_redirect : Redirect → Items
a_redirect x = record { assigns = []; words = []; redirects = x ∷ [] }

-- the first ones, then the others
abbrev pub joined : Items → Items → Items
joined x y =
    record { assigns = x.assigns ++ y.assigns; words = x.words ++ y.words; redirects = x.redirects ++ y.redirects }

-- a simple command, with the redirections among its items round it
abbrev pub simple : ℕ → Items → Command
simple at items = redirected at (c.Simple at items.assigns items.words) items.redirects

-- ---- the text of a word: that of its first part, where that part is plain

-- the bytes of a plain part
abbrev pub plain_text : o.Part-F Command Part Assign CaseArm IfArm Link Word → Text
plain_text (o.Plain text) = text
plain_text _ = []

-- the bytes of the first part
abbrev pub first_text : List Part → Text
first_text [] = []
first_text (p ∷ ps) = plain_text (out-Part p)

-- the bytes that a word begins with, if it begins with plain ones
abbrev pub word_text : Word → Text
word_text w = first_text w.parts

-- ---- a word NAME=.. as an assignment

-- the bytes behind the first `=`
abbrev pub behind_equals : Text → Text
behind_equals [] = []
behind_equals (b ∷ bs) = if eqb b equals then bs else behind_equals bs

-- a plain part, if it has a byte
abbrev pub plain_part_of : Text → List Part
plain_part_of [] = []
plain_part_of (b ∷ bs) = part.Plain (b ∷ bs) ∷ []

-- all but the first
abbrev pub rest_of : {A : Type 0} → List A → List A
rest_of [] = []
rest_of (x ∷ xs) = xs

-- the name is what stands before the `=`, the value the word behind it
abbrev pub assigned : Word → Assign
assigned w = roll-Assign (record {
  name = up_to_equals (word_text w);
  value = word_at w.at (plain_part_of (behind_equals (word_text w)) ++ rest_of w.parts);
})

-- ---- a command that begins with a name

-- what stands behind the name: the body of a function, or the rest of a simple command
pub data Tail : Type 0 where
  Defines : (body : Command) → Tail
  Continues : (items : Items) → Tail

-- the command, from its first word and what stands behind that
abbrev pub named : ℕ → Word → Tail → Command
named at w (Defines body) = c.Define at (word_text w) body
named at w (Continues items) = simple at (joined (a_word w) items)
