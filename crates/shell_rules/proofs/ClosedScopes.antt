-- What goes out of a subshell, a command substitution, a function and a command without output.
use Rattle.std.proofs.Common.{◌≡◌, Bool, true, false, None, refl, sym, subst, ◌∙◌, if◌then◌else◌}
use Rattle.std.specs.Prelude.{not, ◌&&◌}
use Rattle.shell_rules.specs.State as st
use Rattle.shell_rules.specs.State.{Text, State, Leave, Run, Go, Left, then_do, closed_off, Place, Action}
use Rattle.shell_rules.specs.Expansion.{capturing, after_output, output_of}
use Rattle.shell_rules.specs.Commands as c
use Rattle.shell_rules.specs.Laws.{state_of}
use Rattle.shell_rules.specs.Scopes.{IsBehindSubshell, IsBehindOutput, IsBehindBody, IsBehindQuiet}
use Rattle.shell_rules.specs.Scopes.{SubshellsClose, OutputsClose, FunctionsClose, QuietsClose}

if_state : {A : Type 0} (b : Bool) (v : A) (how : Leave) (s : State) → state_of (if b then Go v s else Left how s) ≡ s
if_state true v how s = refl
if_state false v how s = refl

if_left : {A : Type 0} (b : Bool) (v : A) (how : Leave) (s : State) → state_of (if b then Left how s else Go v s) ≡ s
if_left true v how s = refl
if_left false v how s = refl

-- the state behind what is closed off
closed_state : {A : Type 0} (ends : Leave → Bool) (value : State → A) (back : State → State) (q : Run (Unit {0}))
    → state_of (closed_off ends value back q) ≡ back (state_of q)
closed_state ends value back (Go v t) = refl
closed_state ends value back (Left how t) = if_state (ends how) (value t) how (back t)

-- a check changes no state
checked_state : (p : Place) (q : Run (Unit {0})) → state_of (then_do q (λ _ s. c.checked p s)) ≡ state_of q
checked_state p (Go v t) =
    if_left {A = Unit {0}} (t.conc.strict && not t.conc.status && not p.excepted) tt (c.left_by_failure p) t
checked_state p (Left how t) = refl

pub subshells_close : SubshellsClose
subshells_close at body p s =
    let e = checked_state (st.at_command at p) (closed_off st.by_exit st.no_value (c.after_subshell s) (body p s))
    ∙ closed_state st.by_exit st.no_value (c.after_subshell s) (body p s) in
    subst (λ t. IsBehindSubshell s (state_of (body p s)) t) (sym e) (record {
      variables = refl;
      arguments = refl;
      flag = refl;
      status = refl;
      output = refl;
      turns = refl;
      premises = refl;
      tree = refl;
      trace = refl;
      acts = refl;
    })

pub outputs_close : OutputsClose
outputs_close body p s =
    let q : Run (Unit {0}) = body (st.in_substitution p) (capturing s) in
    subst (λ t. IsBehindOutput s (state_of q) t) (sym (closed_state st.by_exit output_of (after_output s) q)) (record {
      variables = refl;
      arguments = refl;
      flag = refl;
      status = refl;
      output = refl;
      turns = refl;
      premises = refl;
      tree = refl;
      trace = refl;
      acts = refl;
    })

pub functions_close : FunctionsClose
functions_close body fields p s =
    let q : Run (Unit {0}) = body p (st.with_arguments fields s) in
    subst (λ t. IsBehindBody s (state_of q) t)
    (sym (closed_state st.by_return st.no_value (st.with_arguments s.conc.args) q)) (record {
      arguments = refl;
      variables = refl;
      flag = refl;
      status = refl;
      output = refl;
      turns = refl;
      premises = refl;
      tree = refl;
      trace = refl;
      acts = refl;
    })

pub quiets_close : QuietsClose
quiets_close body p s =
    let q : Run (Unit {0}) = body p (c.with_captured None s) in
    subst (λ t. IsBehindQuiet s (state_of q) t)
    (sym (closed_state st.by_nothing st.no_value (c.with_captured s.conc.captured) q)) (record {
      output = refl;
      variables = refl;
      arguments = refl;
      flag = refl;
      status = refl;
      turns = refl;
      premises = refl;
      tree = refl;
      trace = refl;
      acts = refl;
    })
