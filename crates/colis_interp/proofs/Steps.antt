-- What the answer of a run says of the one round it.
use Rattle.std.proofs.Common.{◌≡◌, Bool, true, false, Result, Ok, Err, if◌then◌else◌, refl, sym, ap, ◌∙◌, subst}
use Rattle.shell_rules.specs.declared.leave.Leave.{Leave}
use Rattle.shell_rules.specs.declared.leave.Leave.TheVariants as leave
use Rattle.shell_rules.specs.State as st
use Rattle.shell_rules.specs.State.{Run, then_do, closed_off, by_exit, by_return, by_nothing, no_value}
use Rattle.shell_rules.specs.Loops.{after_body, after_condition}
use Rattle.colis_interp.specs.declared.shell.Shell.{Shell}
use Rattle.colis_interp.specs.declared.halt.Halt.{Halt}
use Rattle.colis_interp.specs.declared.halt.Halt.TheVariants as halt
use Rattle.colis_interp.specs.declared.halt.Behind.{Behind}
use Rattle.colis_interp.specs.declared.halt.Behind.TheVariants.{Holds, Ends, Again}
use Rattle.colis_interp.specs.Halts.{Answer, ended_by_exit, ended_by_return, behind_body, by_status, behind_condition}
use Rattle.colis_interp.specs.Runs.{Runs, state_of}

-- what halts halts what follows
pub halts : {A B : Type 0} (run : Run A) (next : A → st.State → Run B) (h : Halt) (s : Shell) → Runs run (Err h) s → Runs (then_do run next) (Err h) s
halts run next (halt.Left how) s e = ap (λ q. then_do q next) e
halts run next halt.Memory s e = tt

-- what goes on goes on with what follows
pub goes_on : {A B : Type 0} (run : Run A) (next : A → st.State → Run B) (value : A) (t : st.State) (r : Result B Halt) (s : Shell) → run ≡ st.Go value t → Runs (next value t) r s → Runs (then_do run next) r s
goes_on run next value t r s e h = subst (λ q. Runs (then_do q next) r s) (sym e) h

-- what `exit` ends; `back` is the state of the shell behind it
pub exited : (run : Run (Unit {0})) (back : st.State → st.State) (r : Answer) (s t : Shell) → state_of t ≡ back (state_of s) → Runs run r s → Runs (closed_off by_exit no_value back run) (ended_by_exit r) t
exited run back (Ok v) s t b e = ap (closed_off by_exit no_value back) e ∙ ap (st.Go tt) (sym b)
exited run back (Err (halt.Left leave.Exited)) s t b e = ap (closed_off by_exit no_value back) e ∙ ap (st.Go tt) (sym b)
exited run back (Err (halt.Left leave.Broke)) s t b e = ap (closed_off by_exit no_value back) e ∙ ap (st.Left leave.Broke) (sym b)
exited run back (Err (halt.Left leave.Continued)) s t b e = ap (closed_off by_exit no_value back) e ∙ ap (st.Left leave.Continued) (sym b)
exited run back (Err (halt.Left leave.Returned)) s t b e = ap (closed_off by_exit no_value back) e ∙ ap (st.Left leave.Returned) (sym b)
exited run back (Err (halt.Left (leave.Stopped reason site))) s t b e = ap (closed_off by_exit no_value back) e ∙ ap (st.Left (leave.Stopped reason site)) (sym b)
exited run back (Err (halt.Left (leave.Bound site))) s t b e = ap (closed_off by_exit no_value back) e ∙ ap (st.Left (leave.Bound site)) (sym b)
exited run back (Err halt.Memory) s t b e = tt

-- what `return` ends
pub returned : (run : Run (Unit {0})) (back : st.State → st.State) (r : Answer) (s t : Shell) → state_of t ≡ back (state_of s) → Runs run r s → Runs (closed_off by_return no_value back run) (ended_by_return r) t
returned run back (Ok v) s t b e = ap (closed_off by_return no_value back) e ∙ ap (st.Go tt) (sym b)
returned run back (Err (halt.Left leave.Returned)) s t b e = ap (closed_off by_return no_value back) e ∙ ap (st.Go tt) (sym b)
returned run back (Err (halt.Left leave.Broke)) s t b e = ap (closed_off by_return no_value back) e ∙ ap (st.Left leave.Broke) (sym b)
returned run back (Err (halt.Left leave.Continued)) s t b e = ap (closed_off by_return no_value back) e ∙ ap (st.Left leave.Continued) (sym b)
returned run back (Err (halt.Left leave.Exited)) s t b e = ap (closed_off by_return no_value back) e ∙ ap (st.Left leave.Exited) (sym b)
returned run back (Err (halt.Left (leave.Stopped reason site))) s t b e = ap (closed_off by_return no_value back) e ∙ ap (st.Left (leave.Stopped reason site)) (sym b)
returned run back (Err (halt.Left (leave.Bound site))) s t b e = ap (closed_off by_return no_value back) e ∙ ap (st.Left (leave.Bound site)) (sym b)
returned run back (Err halt.Memory) s t b e = tt

-- what nothing ends
pub closed : (run : Run (Unit {0})) (back : st.State → st.State) (r : Answer) (s t : Shell) → state_of t ≡ back (state_of s) → Runs run r s → Runs (closed_off by_nothing no_value back run) r t
closed run back (Ok v) s t b e = ap (closed_off by_nothing no_value back) e ∙ ap (st.Go tt) (sym b)
closed run back (Err (halt.Left how)) s t b e = ap (closed_off by_nothing no_value back) e ∙ ap (st.Left how) (sym b)
closed run back (Err halt.Memory) s t b e = tt

-- a substitution that ended, and one that was left
pub output_ended : (run : Run (Unit {0})) (value : st.State → st.Text) (back : st.State → st.State) (r : Answer) (s : Shell) → ended_by_exit r ≡ Ok tt → Runs run r s → closed_off by_exit value back run ≡ st.Go (value (state_of s)) (back (state_of s))
output_ended run value back (Ok v) s o e = ap (closed_off by_exit value back) e
output_ended run value back (Err (halt.Left leave.Exited)) s o e = ap (closed_off by_exit value back) e
output_ended run value back (Err (halt.Left leave.Broke)) s o e = absurd (cc)
output_ended run value back (Err (halt.Left leave.Continued)) s o e = absurd (cc)
output_ended run value back (Err (halt.Left leave.Returned)) s o e = absurd (cc)
output_ended run value back (Err (halt.Left (leave.Stopped reason site))) s o e = absurd (cc)
output_ended run value back (Err (halt.Left (leave.Bound site))) s o e = absurd (cc)
output_ended run value back (Err halt.Memory) s o e = absurd (cc)

output_as : (how : Leave) (h : Halt) (run : Run st.Text) (t : Shell) → ◌≡◌ {A = Answer} (Err (halt.Left how)) (Err h) → run ≡ st.Left how (state_of t) → Runs run (Err h) t
output_as how (halt.Left other) run t o e = let same : how ≡ other = cc in subst (λ l. run ≡ st.Left l (state_of t)) same e
output_as how halt.Memory run t o e = tt

nothing : (h : Halt) (run : Run st.Text) (t : Shell) → ◌≡◌ {A = Answer} (Err halt.Memory) (Err h) → Runs run (Err h) t
nothing (halt.Left other) run t o = absurd (cc)
nothing halt.Memory run t o = tt

pub output_left : (run : Run (Unit {0})) (value : st.State → st.Text) (back : st.State → st.State) (r : Answer) (s t : Shell) (h : Halt) → ended_by_exit r ≡ Err h → state_of t ≡ back (state_of s) → Runs run r s → Runs {A = st.Text} (closed_off by_exit value back run) (Err h) t
output_left run value back (Ok v) s t h o b e = absurd (cc)
output_left run value back (Err (halt.Left leave.Exited)) s t h o b e = absurd (cc)
output_left run value back (Err (halt.Left leave.Broke)) s t h o b e = output_as leave.Broke h (closed_off by_exit value back run) t o (ap (closed_off by_exit value back) e ∙ ap (st.Left leave.Broke) (sym b))
output_left run value back (Err (halt.Left leave.Continued)) s t h o b e = output_as leave.Continued h (closed_off by_exit value back run) t o (ap (closed_off by_exit value back) e ∙ ap (st.Left leave.Continued) (sym b))
output_left run value back (Err (halt.Left leave.Returned)) s t h o b e = output_as leave.Returned h (closed_off by_exit value back run) t o (ap (closed_off by_exit value back) e ∙ ap (st.Left leave.Returned) (sym b))
output_left run value back (Err (halt.Left (leave.Stopped reason site))) s t h o b e = output_as (leave.Stopped reason site) h (closed_off by_exit value back run) t o (ap (closed_off by_exit value back) e ∙ ap (st.Left (leave.Stopped reason site)) (sym b))
output_left run value back (Err (halt.Left (leave.Bound site))) s t h o b e = output_as (leave.Bound site) h (closed_off by_exit value back run) t o (ap (closed_off by_exit value back) e ∙ ap (st.Left (leave.Bound site)) (sym b))
output_left run value back (Err halt.Memory) s t h o b e = nothing h (closed_off by_exit value back run) t o

-- behind a body
pub body_done : (run : Run (Unit {0})) (next : st.State → Run (Unit {0})) (r : Answer) (s : Shell) → behind_body r ≡ Ok true → Runs run r s → after_body run next ≡ next (state_of s)
body_done run next (Ok v) s o e = ap (λ q. after_body q next) e
body_done run next (Err (halt.Left leave.Continued)) s o e = ap (λ q. after_body q next) e
body_done run next (Err (halt.Left leave.Broke)) s o e = let no : false ≡ true = cc in absurd (cc)
body_done run next (Err (halt.Left leave.Returned)) s o e = absurd (cc)
body_done run next (Err (halt.Left leave.Exited)) s o e = absurd (cc)
body_done run next (Err (halt.Left (leave.Stopped reason site))) s o e = absurd (cc)
body_done run next (Err (halt.Left (leave.Bound site))) s o e = absurd (cc)
body_done run next (Err halt.Memory) s o e = absurd (cc)

pub body_broke : (run : Run (Unit {0})) (next : st.State → Run (Unit {0})) (r : Answer) (s : Shell) → behind_body r ≡ Ok false → Runs run r s → after_body run next ≡ st.Go tt (state_of s)
body_broke run next (Ok v) s o e = let no : true ≡ false = cc in absurd (cc)
body_broke run next (Err (halt.Left leave.Continued)) s o e = let no : true ≡ false = cc in absurd (cc)
body_broke run next (Err (halt.Left leave.Broke)) s o e = ap (λ q. after_body q next) e
body_broke run next (Err (halt.Left leave.Returned)) s o e = absurd (cc)
body_broke run next (Err (halt.Left leave.Exited)) s o e = absurd (cc)
body_broke run next (Err (halt.Left (leave.Stopped reason site))) s o e = absurd (cc)
body_broke run next (Err (halt.Left (leave.Bound site))) s o e = absurd (cc)
body_broke run next (Err halt.Memory) s o e = absurd (cc)

left_as : (how : Leave) (h : Halt) (run : Run (Unit {0})) (t : Shell) → ◌≡◌ {A = Answer} (Err (halt.Left how)) (Err h) → run ≡ st.Left how (state_of t) → Runs run (Err h) t
left_as how (halt.Left other) run t o e = let same : how ≡ other = cc in subst (λ l. run ≡ st.Left l (state_of t)) same e
left_as how halt.Memory run t o e = tt

as_answer : {A : Type 0} (g h : Halt) → ◌≡◌ {A = Result A Halt} (Err g) (Err h) → ◌≡◌ {A = Answer} (Err g) (Err h)
as_answer g h o = let same : g ≡ h = cc in ap (λ x. Err x) same

no_run : (h : Halt) (run : Run (Unit {0})) (t : Shell) → ◌≡◌ {A = Answer} (Err halt.Memory) (Err h) → Runs run (Err h) t
no_run (halt.Left other) run t o = absurd (cc)
no_run halt.Memory run t o = tt

pub body_left : (run : Run (Unit {0})) (next : st.State → Run (Unit {0})) (r : Answer) (s : Shell) (h : Halt) → behind_body r ≡ Err h → Runs run r s → Runs (after_body run next) (Err h) s
body_left run next (Ok v) s h o e = absurd (cc)
body_left run next (Err (halt.Left leave.Continued)) s h o e = absurd (cc)
body_left run next (Err (halt.Left leave.Broke)) s h o e = absurd (cc)
body_left run next (Err (halt.Left leave.Returned)) s h o e = left_as leave.Returned h _ s (as_answer _ h o) (ap (λ q. after_body q next) e)
body_left run next (Err (halt.Left leave.Exited)) s h o e = left_as leave.Exited h _ s (as_answer _ h o) (ap (λ q. after_body q next) e)
body_left run next (Err (halt.Left (leave.Stopped reason site))) s h o e = left_as (leave.Stopped reason site) h _ s (as_answer _ h o) (ap (λ q. after_body q next) e)
body_left run next (Err (halt.Left (leave.Bound site))) s h o e = left_as (leave.Bound site) h _ s (as_answer _ h o) (ap (λ q. after_body q next) e)
body_left run next (Err halt.Memory) s h o e = no_run h _ s (as_answer halt.Memory h o)

-- behind a condition
module _ (run : Run (Unit {0})) (last : Bool) (holds again : st.State → Run (Unit {0})) where
  status_holds : (b : Bool) → ◌≡◌ {A = Result Behind Halt} (by_status b) (Ok Holds) → b ≡ true
  status_holds true o = refl
  status_holds false o = let no : Ends ≡ Holds = cc in absurd (cc)

  status_ends : (b : Bool) → ◌≡◌ {A = Result Behind Halt} (by_status b) (Ok Ends) → b ≡ false
  status_ends true o = let no : Holds ≡ Ends = cc in absurd (cc)
  status_ends false o = refl

  status_again : (b : Bool) → ◌≡◌ {A = Result Behind Halt} (by_status b) (Ok Again) → ⊥
  status_again true o = let no : Holds ≡ Again = cc in cc
  status_again false o = let no : Ends ≡ Again = cc in cc

  status_halts : (b : Bool) (h : Halt) → ◌≡◌ {A = Result Behind Halt} (by_status b) (Err h) → ⊥
  status_halts true h o = cc
  status_halts false h o = cc

  pub condition_holds : (r : Answer) (s : Shell) → behind_condition r s.conc.status ≡ Ok Holds → Runs run r s → after_condition run last holds again ≡ holds (state_of s)
  condition_holds (Ok v) s o e = ap (λ q. after_condition q last holds again) e ∙ ap (λ b. if b then holds (state_of s) else st.Go tt (st.with_status last (state_of s))) (status_holds s.conc.status o)
  condition_holds (Err (halt.Left leave.Continued)) s o e = let no : Again ≡ Holds = cc in absurd (cc)
  condition_holds (Err (halt.Left leave.Broke)) s o e = let no : Ends ≡ Holds = cc in absurd (cc)
  condition_holds (Err (halt.Left leave.Returned)) s o e = absurd (cc)
  condition_holds (Err (halt.Left leave.Exited)) s o e = absurd (cc)
  condition_holds (Err (halt.Left (leave.Stopped reason site))) s o e = absurd (cc)
  condition_holds (Err (halt.Left (leave.Bound site))) s o e = absurd (cc)
  condition_holds (Err halt.Memory) s o e = absurd (cc)

  pub condition_ends : (r : Answer) (s : Shell) → behind_condition r s.conc.status ≡ Ok Ends → Runs run r s → after_condition run last holds again ≡ st.Go tt (st.with_status last (state_of s))
  condition_ends (Ok v) s o e = ap (λ q. after_condition q last holds again) e ∙ ap (λ b. if b then holds (state_of s) else st.Go tt (st.with_status last (state_of s))) (status_ends s.conc.status o)
  condition_ends (Err (halt.Left leave.Continued)) s o e = let no : Again ≡ Ends = cc in absurd (cc)
  condition_ends (Err (halt.Left leave.Broke)) s o e = ap (λ q. after_condition q last holds again) e
  condition_ends (Err (halt.Left leave.Returned)) s o e = absurd (cc)
  condition_ends (Err (halt.Left leave.Exited)) s o e = absurd (cc)
  condition_ends (Err (halt.Left (leave.Stopped reason site))) s o e = absurd (cc)
  condition_ends (Err (halt.Left (leave.Bound site))) s o e = absurd (cc)
  condition_ends (Err halt.Memory) s o e = absurd (cc)

  pub condition_again : (r : Answer) (s : Shell) → behind_condition r s.conc.status ≡ Ok Again → Runs run r s → after_condition run last holds again ≡ again (state_of s)
  condition_again (Ok v) s o e = absurd (status_again s.conc.status o)
  condition_again (Err (halt.Left leave.Continued)) s o e = ap (λ q. after_condition q last holds again) e
  condition_again (Err (halt.Left leave.Broke)) s o e = let no : Ends ≡ Again = cc in absurd (cc)
  condition_again (Err (halt.Left leave.Returned)) s o e = absurd (cc)
  condition_again (Err (halt.Left leave.Exited)) s o e = absurd (cc)
  condition_again (Err (halt.Left (leave.Stopped reason site))) s o e = absurd (cc)
  condition_again (Err (halt.Left (leave.Bound site))) s o e = absurd (cc)
  condition_again (Err halt.Memory) s o e = absurd (cc)

  pub condition_left : (r : Answer) (s : Shell) (h : Halt) → behind_condition r s.conc.status ≡ Err h → Runs run r s → Runs (after_condition run last holds again) (Err h) s
  condition_left (Ok v) s h o e = absurd (status_halts s.conc.status h o)
  condition_left (Err (halt.Left leave.Continued)) s h o e = absurd (cc)
  condition_left (Err (halt.Left leave.Broke)) s h o e = absurd (cc)
  condition_left (Err (halt.Left leave.Returned)) s h o e = left_as leave.Returned h _ s (as_answer _ h o) (ap (λ q. after_condition q last holds again) e)
  condition_left (Err (halt.Left leave.Exited)) s h o e = left_as leave.Exited h _ s (as_answer _ h o) (ap (λ q. after_condition q last holds again) e)
  condition_left (Err (halt.Left (leave.Stopped reason site))) s h o e = left_as (leave.Stopped reason site) h _ s (as_answer _ h o) (ap (λ q. after_condition q last holds again) e)
  condition_left (Err (halt.Left (leave.Bound site))) s h o e = left_as (leave.Bound site) h _ s (as_answer _ h o) (ap (λ q. after_condition q last holds again) e)
  condition_left (Err halt.Memory) s h o e = no_run h _ s (as_answer halt.Memory h o)
