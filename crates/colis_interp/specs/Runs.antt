-- What the functions of the interpreter say of the meaning.
use Rattle.std.specs.Prelude.{◌≡◌, Result, Ok, Err}
use Rattle.shell_rules.specs.State as st
use Rattle.colis_interp.specs.declared.shell.Shell.{Shell}
use Rattle.colis_interp.specs.declared.halt.Halt.{Halt}
use Rattle.colis_interp.specs.declared.halt.Halt.TheVariants as halt

-- the state of a shell
abbrev pub state_of : Shell → st.State
state_of s = record { conc = s.conc; tree = s.root.tree; trace = s.trace; acts = s.acts; substituted = s.substituted }

-- The run goes on with the answer's value, or is left as the answer says, in the state of the shell. Want of memory
-- says nothing.
abbrev pub Runs : {A : Type 0} → st.Run A → Result A Halt → Shell → Type 0
Runs run (Ok value) s = run ≡ st.Go value (state_of s)
Runs run (Err (halt.Left how)) s = run ≡ st.Left how (state_of s)
Runs run (Err halt.Memory) s = Unit {0}
