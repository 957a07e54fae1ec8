-- What each rule runs is a decision where what its parts run is.
use Rattle.std.proofs.Common.{◌≡◌, ℕ, zero, suc, Bool, true, false, not, List, [], ◌∷◌, ◌++◌, Option, All}
use Rattle.std.proofs.Common.{Some, None, Result, Ok, Err, refl, if◌then◌else◌, arith, ◌-◌, length}
use Rattle.std.specs.Prelude.{◌&&◌, nat_eq, slice_get, option_map}
use Rattle.std.specs.Fmt.{decimal}
use Rattle.std.specs.List.{list_any}
use Rattle.std.specs.Str.{bytes_eq}
use Rattle.std.specs.FinMap as map
use Rattle.script_names.specs.declared.mark.Mark.{Mark}
use Rattle.script_names.specs.declared.reason.Reason.{Reason}
use Rattle.script_names.specs.declared.reason.Done.{Done}
use Rattle.script_names.specs.declared.reason.Done.TheVariants as done
use Rattle.script_names.specs.declared.reason.Reason.TheVariants as reason
use Rattle.feature_trees.specs.declared.value.Value.{Value}
use Rattle.shell_words.specs.declared.fault.WordFault.{WordFault}
use Rattle.shell_words.specs.declared.letter.Letter.{Letter}
use Rattle.shell_words.specs.Pieces.{PieceParts}
use Rattle.shell_words.specs.Words.{word}
use Rattle.shell_words.specs.Fields.{fields_of, short}
use Rattle.shell_words.specs.Patterns.{pattern_letters, is_left_out, items}
use Rattle.utility_calls.specs.declared.acts.Act.{Act}
use Rattle.utility_calls.specs.declared.planned.Planned.{Planned}
use Rattle.utility_calls.specs.declared.planned.Planned.TheVariants.{Known, Ask, Print, Change, Unspecified}
use Rattle.utility_calls.specs.Acts.{row, tree_after, IsPerformed}
use Rattle.utility_calls.specs.Performed.{HasPerformedActs}
use Rattle.utility_calls.specs.Decisions.{Decided, Asks, mark_at}
use Rattle.shell_rules.specs.declared.state.Conc.{Conc}
use Rattle.shell_rules.specs.declared.leave.Leave.{Leave}
use Rattle.shell_rules.specs.declared.leave.Leave.TheVariants as leave
use Rattle.shell_rules.specs.declared.spelled.Spelled.{Spelled}
use Rattle.shell_rules.specs.OwnNames.{is_shells_own}
use Rattle.shell_rules.specs.State as st
use Rattle.shell_rules.specs.State.{Text, State, Run, Go, Left, then_do, closed_off, Place, Doing, Action}
use Rattle.shell_rules.specs.State.{at_command, except}
use Rattle.shell_rules.specs.Expansion as w
use Rattle.shell_rules.specs.Commands as c
use Rattle.shell_rules.specs.Loops as l
use Rattle.shell_rules.specs.Cases as k
use Rattle.shell_rules.specs.Planned.{spelled_by, planned}
use Rattle.shell_rules.specs.Calls as u
use Rattle.shell_rules.specs.Parts.{Property, Each, EachLink, EachArm, EachPattern, EachCaseArm, EachSet}
use Rattle.shell_rules.specs.RuleLaws.{ExpansionsKeep, CommandsKeep, LoopsKeep, CallsKeep}
use Rattle.shell_rules.proofs.PlannedActs.{planned_performed}
use Rattle.colis_meaning.proofs.Playing.{Came, On, Off, at, came, Decides, IsDecision, stays, if_plays}
use Rattle.colis_meaning.proofs.Playing.{then_decides, closed_plays, turn_decided, body_plays, condition_plays}

-- as a property
abbrev pub Decisiveness : Property
Decisiveness A doing = IsDecision doing

-- ---- expansions

given_decided : {A : Type 0} (q : Result A WordFault) → IsDecision (w.given q)
given_decided (Ok value) p c b = stays (On value c b)
given_decided (Err fault) p c b = stays (Off (leave.Stopped (w.reason_of fault) (st.site_of p)) c b)

pub literal_decided : (text : Text) → IsDecision (w.do_literal text)
literal_decided text p c b = stays (On text c b)

pub variable_decided : (name : Text) → IsDecision (w.do_variable name)
variable_decided name p c b =
    if_plays (is_shells_own name) (came (Off (leave.Stopped reason.Call (st.site_of p)) c b))
    (came (On (w.or_empty (map.get c.vars name)) c b)) (stays (Off (leave.Stopped reason.Call (st.site_of p)) c b))
    (stays (On (w.or_empty (map.get c.vars name)) c b))

pub argument_decided : (number : ℕ) → IsDecision (w.do_argument number)
argument_decided number p c b = stays (On (w.or_empty (slice_get c.args (number - 1))) c b)

pub count_decided : IsDecision w.do_count
count_decided p c b = stays (On (decimal (length c.args)) c b)

pub default_decided : (string : Doing Text) (other : Text) → IsDecision string
    → IsDecision (w.do_default string other)
default_decided string other h p =
    then_decides (string p) (λ text s. Go (w.unless_empty text other) s) (h p)
    (λ text c b. stays (On (w.unless_empty text other) c b))

join_behind_decided : (strings : List (Doing Text)) → Each Decisiveness strings → (before : Text)
    → IsDecision (w.join_behind before strings)
join_behind_decided [] h before p = λ c b. stays (On before c b)
join_behind_decided (string ∷ strings) h before p =
    then_decides (string p) (λ text s. w.join_behind (before ++ text) strings p s) (h.0 p)
    (λ text. join_behind_decided strings h.1 (before ++ text) p)

pub join_decided : (strings : List (Doing Text)) → Each Decisiveness strings → IsDecision (w.do_join strings)
join_decided strings h = join_behind_decided strings h []

pub short_decided : (string : Doing Text) → IsDecision string → IsDecision (w.do_short string)
short_decided string h p =
    then_decides (string p) (λ text s. w.given (short text) p s) (h p) (λ text. given_decided (short text) p)

pub output_decided : (body : Action) → IsDecision body → IsDecision (w.do_output body)
output_decided body h p c b =
    let q : Place = st.in_substitution p in
    closed_plays st.by_exit w.output_of
    (λ s. record {
      conc = record c { turns = s.conc.turns };
      tree = s.tree;
      trace = s.trace;
      acts = s.acts;
      substituted = s.conc.status;
    })
    (λ tree trace acts. body q (at (record c { captured = Some [] }) b tree trace acts))
    (record {
      conc = λ d e. record c { turns = d.turns };
      substituted = λ d e. d.status;
      gives = λ d e. w.trimmed (w.or_empty d.captured);
      is_state = λ d e tree trace acts. refl;
      is_value = λ d e tree trace acts. refl;
    })
    (h q (record c { captured = Some [] }) b)

pub plain_decided : (string : Doing Text) → IsDecision string → IsDecision (w.do_plain string)
plain_decided string h p =
    then_decides (string p) (λ text s. Go (w.plain_piece text) s) (h p)
    (λ text c b. stays (On (w.plain_piece text) c b))

pub quoted_decided : (string : Doing Text) → IsDecision string → IsDecision (w.do_quoted string)
quoted_decided string h p =
    then_decides (string p) (λ text s. Go (w.quoted_piece text) s) (h p)
    (λ text c b. stays (On (w.quoted_piece text) c b))

pub split_decided : (string : Doing Text) → IsDecision string → IsDecision (w.do_split string)
split_decided string h p =
    then_decides (string p) (λ text s. Go (w.split_piece text) s) (h p)
    (λ text c b. stays (On (w.split_piece text) c b))

pieces_behind_decided : (pieces : List (Doing PieceParts)) → Each Decisiveness pieces → (before : List PieceParts)
    → IsDecision (w.pieces_behind before pieces)
pieces_behind_decided [] h before p = λ c b. stays (On before c b)
pieces_behind_decided (piece ∷ pieces) h before p =
    then_decides (piece p) (λ parts s. w.pieces_behind (before ++ parts ∷ []) pieces p s) (h.0 p)
    (λ parts. pieces_behind_decided pieces h.1 (before ++ parts ∷ []) p)

pieces_decided : (pieces : List (Doing PieceParts)) → Each Decisiveness pieces → IsDecision (w.do_pieces pieces)
pieces_decided pieces h = pieces_behind_decided pieces h []

pub word_decided : (pieces : List (Doing PieceParts)) → Each Decisiveness pieces → IsDecision (w.do_word pieces)
word_decided pieces h p =
    then_decides (w.do_pieces pieces p) (λ parts s. w.given (fields_of (word parts)) p s) (pieces_decided pieces h p)
    (λ parts. given_decided (fields_of (word parts)) p)

pub arguments_decided : IsDecision w.do_arguments
arguments_decided p c b = stays (On c.args c b)

fields_behind_decided : (words : List (Doing (List Text))) → Each Decisiveness words → (before : List Text)
    → IsDecision (w.fields_behind before words)
fields_behind_decided [] h before p = λ c b. stays (On before c b)
fields_behind_decided (words ∷ more) h before p =
    then_decides (words p) (λ fields s. w.fields_behind (before ++ fields) more p s) (h.0 p)
    (λ fields. fields_behind_decided more h.1 (before ++ fields) p)

fields_decided : (words : List (Doing (List Text))) → Each Decisiveness words → IsDecision (w.do_fields words)
fields_decided words h = fields_behind_decided words h []

-- ---- lists, conditions, subshells and redirections

pub skip_decided : IsDecision c.do_skip
skip_decided p s b = stays (On tt (record s { status = true }) b)

pub strict_decided : IsDecision c.do_strict
strict_decided p s b = stays (On tt (record s { strict = true; status = true }) b)

pub lax_decided : IsDecision c.do_lax
lax_decided p s b = stays (On tt (record s { strict = false; status = true }) b)

pub stop_decided : (at : ℕ) (why : Reason) → IsDecision (c.do_stop at why)
stop_decided at why p s b = stays (Off (leave.Stopped why (st.site_of (at_command at p))) s b)

checked_decided : IsDecision c.checked
checked_decided p s b =
    if_plays (s.strict && not s.status && not p.excepted) (came (Off (c.left_by_failure p) s b)) (came (On tt s b))
    (stays (Off (c.left_by_failure p) s b)) (stays (On tt s b))

rest_decided : (commands : List Action) → Each Decisiveness commands → IsDecision (c.do_rest commands)
rest_decided [] h p = λ s b. stays (On tt s b)
rest_decided (command ∷ commands) h p =
    then_decides (command p) (λ _ s. c.do_rest commands p s) (h.0 p) (λ _. rest_decided commands h.1 p)

pub all_decided : (commands : List Action) → Each Decisiveness commands → IsDecision (c.do_all commands)
all_decided [] h p s b = stays (On tt (record s { status = true }) b)
all_decided (command ∷ commands) h p s b = rest_decided (command ∷ commands) h p s b

links_decided : (links : List (Bool × Action)) → EachLink Decisiveness links → IsDecision (c.do_links links)
links_decided [] h p s b = stays (On tt s b)
links_decided ((and, command) ∷ []) h p s b =
    if_plays (if and then s.status else not s.status) (λ tree trace acts. command p (at s b tree trace acts))
    (came (On tt s b)) (h.0 p s b) (stays (On tt s b))
links_decided ((and, command) ∷ link ∷ links) h p s b =
    let rest : Action = c.do_links (link ∷ links) in
    if_plays (if and then s.status else not s.status)
    (λ tree trace acts. then_do (command (except p) (at s b tree trace acts)) (λ _ s. rest p s))
    (λ tree trace acts. rest p (at s b tree trace acts))
    (then_decides (command (except p)) (λ _ s. rest p s) (h.0 (except p)) (λ _. links_decided (link ∷ links) h.1 p) s b)
    (links_decided (link ∷ links) h.1 p s b)

pub chain_decided : (first : Action) (links : List (Bool × Action)) → IsDecision first → EachLink Decisiveness links
    → IsDecision (c.do_chain first links)
chain_decided first [] h k p = h p
chain_decided first (link ∷ links) h k p =
    then_decides (first (except p)) (λ _ s. c.do_links (link ∷ links) p s) (h (except p))
    (λ _. links_decided (link ∷ links) k p)

pub not_decided : (command : Action) → IsDecision command → IsDecision (c.do_not command)
not_decided command h p =
    then_decides (command (except p)) (λ _ s. Go tt (st.with_status (not s.conc.status) s)) (h (except p))
    (λ _ s b. stays (On tt (record s { status = not s.status }) b))

pub if_decided : (arms : List (Action × Action)) (otherwise : Action) → EachArm Decisiveness arms → IsDecision otherwise
    → IsDecision (c.do_if arms otherwise)
if_decided [] otherwise h k p = k p
if_decided ((condition, body) ∷ arms) otherwise h k p =
    then_decides (condition (except p)) (λ _ s. if s.conc.status then body p s else c.do_if arms otherwise p s)
    (h.0 (except p)) (λ _ s b.
    if_plays s.status (λ tree trace acts. body p (at s b tree trace acts))
    (λ tree trace acts. c.do_if arms otherwise p (at s b tree trace acts)) (h.1 p s b)
    (if_decided arms otherwise h.2 k p s b))

pub subshell_decided : (at : ℕ) (body : Action) → IsDecision body → IsDecision (c.do_subshell at body)
subshell_decided offset body h p =
    then_decides (λ s. closed_off st.by_exit st.no_value (c.after_subshell s) (body p s))
    (λ _ s. c.checked (at_command offset p) s)
    (λ s b.
    closed_plays st.by_exit st.no_value
    (λ t. record t { conc = record t.conc { vars = s.vars; args = s.args; strict = s.strict } })
    (λ tree trace acts. body p (at s b tree trace acts))
    (record {
      conc = λ d e. record d { vars = s.vars; args = s.args; strict = s.strict };
      substituted = λ d e. e;
      gives = λ d e. tt;
      is_state = λ d e tree trace acts. refl;
      is_value = λ d e tree trace acts. refl;
    })
    (h p s b))
    (λ _. checked_decided (at_command offset p))

pub quiet_decided : (body : Action) → IsDecision body → IsDecision (c.do_quiet body)
quiet_decided body h p s b =
    closed_plays st.by_nothing st.no_value (c.with_captured s.captured)
    (λ tree trace acts. body p (at (record s { captured = None }) b tree trace acts))
    (record {
      conc = λ d e. record d { captured = s.captured };
      substituted = λ d e. e;
      gives = λ d e. tt;
      is_state = λ d e tree trace acts. refl;
      is_value = λ d e tree trace acts. refl;
    })
    (h p (record s { captured = None }) b)

joined_decided : (o : Option Text) (body : Action) → IsDecision body → IsDecision (c.joined_error o body)
joined_decided None body h p s b = h p s b
joined_decided (Some text) body h p s b = stays (Off (leave.Stopped reason.Message (st.site_of p)) s b)

pub error_decided : (at : ℕ) (body : Action) → IsDecision body → IsDecision (c.do_error_joined at body)
error_decided at body h p s b = joined_decided s.captured body h (at_command at p) s b

-- ---- loops

pub break_decided : IsDecision l.do_break
break_decided p s b = stays (Off leave.Broke (record s { status = true }) b)

pub continue_decided : IsDecision l.do_continue
continue_decided p s b = stays (Off leave.Continued (record s { status = true }) b)

each_decided : (name : Text) (body : Action) (fields : List Text) → IsDecision body
    → IsDecision (l.for_each name body fields)
each_decided name body [] h p = λ s b. stays (On tt s b)
each_decided name body (field ∷ fields) h p =
    let next : State → Run (Unit {0}) = l.for_each name body fields p in
    then_decides (l.take_turn p) (λ _ s. l.after_body (body p (l.assign name field s)) next) (turn_decided p)
    (λ _ s b.
    body_plays (λ tree trace acts. body p (l.assign name field (at s b tree trace acts))) next
    (h p (record s { vars = map.insert s.vars name field }) b) (each_decided name body fields h p))

some_fields_decided : (name : Text) (body : Action) (fields : List Text) (p : Place) → IsDecision body
    → Decides (λ s. l.for_each name body fields p (st.success_if_none fields s))
some_fields_decided name body [] p h s b = stays (On tt (record s { status = true }) b)
some_fields_decided name body (field ∷ fields) p h s b = each_decided name body (field ∷ fields) h p s b

pub for_decided : (at : ℕ) (name : Text) (words : List (Doing (List Text))) (body : Action) → Each Decisiveness words
    → IsDecision body → IsDecision (l.do_for at name words body)
for_decided at name words body hw hb p =
    let q : Place = at_command at p in
    then_decides (w.do_fields words q) (λ fields s. l.for_each name body fields q (st.success_if_none fields s))
    (fields_decided words hw q) (λ fields. some_fields_decided name body fields q hb)

round_decided : (condition body : Action) (p : Place) (next : Bool → State → Run (Unit {0})) (last : Bool)
    → IsDecision condition → IsDecision body → ((last : Bool) → Decides (next last))
    → Decides (l.while_round condition body p next last)
round_decided condition body p next last hc hb h s b =
    let turn : State → Run (Unit {0}) = λ t. l.after_body (body p t) (λ u. next u.conc.status u) in
    condition_plays last (λ tree trace acts. condition (except p) (at s b tree trace acts))
    (λ t. then_do (l.take_turn p t) (λ _. turn)) (λ t. then_do (l.take_turn p t) (λ _ t. next last t))
    (hc (except p) s b)
    (then_decides (l.take_turn p) (λ _. turn) (turn_decided p) (λ _ t e.
    body_plays (λ tree trace acts. body p (at t e tree trace acts)) (λ u. next u.conc.status u) (hb p t e)
    (λ u e. h u.status u e)))
    (then_decides (l.take_turn p) (λ _ t. next last t) (turn_decided p) (λ _. h last))

rounds_decided : (n : ℕ) (condition body : Action) (p : Place) (last : Bool) → IsDecision condition → IsDecision body
    → Decides (l.while_rounds n condition body p last)
rounds_decided zero condition body p last hc hb =
    round_decided condition body p (λ last s. Left (leave.Bound (st.site_of p)) s) last hc hb
    (λ last s b. stays (Off (leave.Bound (st.site_of p)) s b))
rounds_decided (suc n) condition body p last hc hb =
    round_decided condition body p (l.while_rounds n condition body p) last hc hb
    (λ last. rounds_decided n condition body p last hc hb)

pub while_decided : (at : ℕ) (condition body : Action) → IsDecision condition → IsDecision body
    → IsDecision (l.do_while at condition body)
while_decided at condition body hc hb p s b = rounds_decided s.turns condition body (at_command at p) true hc hb s b

-- ---- `case`

answer_decided : (subject : Text) (letters : List Letter) → IsDecision (k.pattern_answer subject letters)
answer_decided subject letters p s b =
    if_plays (is_left_out letters) (came (Off (leave.Stopped reason.Pattern (st.site_of p)) s b))
    (came (On (k.matches (items letters) subject) s b)) (stays (Off (leave.Stopped reason.Pattern (st.site_of p)) s b))
    (stays (On (k.matches (items letters) subject) s b))

patterns_decided : (subject : Text) (patterns : List (List (Doing PieceParts))) → EachPattern Decisiveness patterns
    → IsDecision (k.some_pattern subject patterns)
patterns_decided subject [] h p = λ s b. stays (On false s b)
patterns_decided subject (pattern ∷ patterns) h p =
    let rest : Bool → State → Run Bool = λ fits s. if fits then Go true s else k.some_pattern subject patterns p s in
    then_decides (w.do_pieces pattern p)
    (λ parts s. then_do (k.pattern_answer subject (pattern_letters parts) p s) rest)
    (pieces_decided pattern h.0 p)
    (λ parts. then_decides (k.pattern_answer subject (pattern_letters parts) p) rest
    (answer_decided subject (pattern_letters parts) p)
    (λ fits s b. if_plays fits (came (On true s b))
    (λ tree trace acts. k.some_pattern subject patterns p (at s b tree trace acts)) (stays (On true s b))
    (patterns_decided subject patterns h.1 p s b)))

case_arms_decided : (subject : Text) (arms : List (List (List (Doing PieceParts)) × Action)) → EachCaseArm Decisiveness arms
    → IsDecision (k.first_arm subject arms)
case_arms_decided subject [] h p = λ s b. stays (On tt (record s { status = true }) b)
case_arms_decided subject ((patterns, body) ∷ arms) h p =
    then_decides (k.some_pattern subject patterns p) (λ fits s. if fits then body p s else k.first_arm subject arms p s)
    (patterns_decided subject patterns h.0 p)
    (λ fits s b. if_plays fits (λ tree trace acts. body p (at s b tree trace acts))
    (λ tree trace acts. k.first_arm subject arms p (at s b tree trace acts)) (h.1 p s b)
    (case_arms_decided subject arms h.2 p s b))

pub case_decided : (at : ℕ) (subject : Doing Text) (arms : List (List (List (Doing PieceParts)) × Action))
    → IsDecision subject → EachCaseArm Decisiveness arms → IsDecision (k.do_case at subject arms)
case_decided at subject arms h ha p =
    let q : Place = at_command at p in
    then_decides (w.do_short subject q) (λ text s. k.first_arm text arms q s) (short_decided subject h q)
    (λ text. case_arms_decided text arms ha q)

-- ---- calls

-- what a run comes to behind an act with this answer
abbrev came_of : Done → Place → Conc → Bool → Came Bool
came_of done.Ok p s b = On true s b
came_of done.Failed p s b = On false s b
came_of (done.Stopped why) p s b = Off (leave.Stopped why (st.site_of p)) s b

answered_is : (answer : Done) (p : Place) (s : Conc) (b : Bool) (tree : Value) (trace : List Mark) (acts : List Act)
    → u.answered answer p (at s b tree trace acts) ≡ came (came_of answer p s b) tree trace acts
answered_is done.Ok p s b tree trace acts = refl
answered_is done.Failed p s b tree trace acts = refl
answered_is (done.Stopped why) p s b tree trace acts = refl

act_decided : (act : Act) → IsPerformed act → IsDecision (u.do_act act)
act_decided act h p s b = record {
  decision = Asks (st.site_of p) act (λ answer. Decided (came_of answer p s b));
  performed = (h, λ answer. tt);
  plays = λ tree trace acts.
      answered_is (row act tree).answer p s b (tree_after act tree)
      (trace ++ mark_at (st.site_of p) act tree ∷ []) (acts ++ act ∷ []);
}

acts_decided : (acts : List Act) → All IsPerformed acts → IsDecision (u.do_acts acts)
acts_decided [] h p = λ s b. stays (On true s b)
acts_decided (act ∷ acts) h p =
    let rest : All IsPerformed acts = λ i d lt. h (suc i) d (omega (arith, lt)) in
    then_decides (u.do_act act p) (λ ok s. if ok then u.do_acts acts p s else Go false s)
    (act_decided act (h 0 act (omega arith)) p)
    (λ ok s b. if_plays ok (λ tree trace more. u.do_acts acts p (at s b tree trace more)) (came (On false s b))
    (acts_decided acts rest p s b) (stays (On false s b)))

operands_decided : (all : Bool) (lists : List (List Act)) → All (λ acts. All IsPerformed acts) lists
    → IsDecision (u.do_operands all lists)
operands_decided all [] h p = λ s b. stays (On all s b)
operands_decided all (acts ∷ lists) h p =
    let rest : All (λ acts. All IsPerformed acts) lists = λ i d lt. h (suc i) d (omega (arith, lt)) in
    then_decides (u.do_acts acts p) (λ ok s. u.do_operands (all && ok) lists p s)
    (acts_decided acts (h 0 acts (omega arith)) p) (λ ok. operands_decided (all && ok) lists rest p)

planned_decided : (planned : Planned) → HasPerformedActs planned → IsDecision (u.do_planned planned)
planned_decided (Known ok) h p s b = stays (On tt (record s { status = ok }) b)
planned_decided (Ask act negate) h p s b =
    then_decides (u.do_act act p) (λ ok s. Go tt (st.with_status (u.negated_if negate ok) s)) (act_decided act h p)
    (λ ok s b. stays (On tt (record s { status = u.negated_if negate ok }) b)) s b
planned_decided (Print text) h p s b =
    stays (On tt (record s { captured = option_map (λ before. before ++ text) s.captured; status = true }) b)
planned_decided (Change lists) h p s b =
    then_decides (u.do_operands true lists p) (λ ok s. Go tt (st.with_status ok s)) (operands_decided true lists h p)
    (λ ok s b. stays (On tt (record s { status = ok }) b)) s b
planned_decided (Unspecified why) h p s b = stays (Off (leave.Stopped why (st.site_of p)) s b)

call_of_decided : (spelled : Spelled) (fields : List Text) → IsDecision (u.do_call_of spelled fields)
call_of_decided spelled [] p s b = stays (On tt (record s { status = b }) b)
call_of_decided spelled (name ∷ words) p s b =
    planned_decided (planned s.premises p.functions spelled (name ∷ words))
    (planned_performed s.premises p.functions spelled (name ∷ words)) p s b

pub call_decided : (at : ℕ) (static : List Bool) (words : List (Doing (List Text))) → Each Decisiveness words
    → IsDecision (u.do_call at static words)
call_decided at static words h p =
    let q : Place = at_command at p in
    let calls : List Text → Action = u.do_call_of (spelled_by static) in
    then_decides (λ s. w.do_fields words q (u.no_substitution s))
    (λ fields s. then_do (calls fields q s) (λ _ s. c.checked q s))
    (λ s b. fields_decided words h q s true)
    (λ fields. then_decides (calls fields q) (λ _ s. c.checked q s) (call_of_decided (spelled_by static) fields q)
    (λ _. checked_decided q))

assignments_decided : (sets : List (Text × Doing Text)) → EachSet Decisiveness sets → IsDecision (u.do_assignments sets)
assignments_decided [] h p = λ s b. stays (On tt s b)
assignments_decided ((name, value) ∷ sets) h p =
    then_decides (w.do_short value p) (λ text s. u.do_assignments sets p (l.assign name text s))
    (short_decided value h.0 p)
    (λ text s b. assignments_decided sets h.1 p (record s { vars = map.insert s.vars name text }) b)

pub set_decided : (at : ℕ) (sets : List (Text × Doing Text)) → EachSet Decisiveness sets → IsDecision (u.do_set at sets)
set_decided at sets h p =
    let q : Place = at_command at p in
    then_decides (λ s. u.do_assignments sets q (u.no_substitution s))
    (λ _ s. c.checked q (st.with_status s.substituted s))
    (λ s b. assignments_decided sets h q s true)
    (λ _ s b. checked_decided q (record s { status = b }) b)

body_decided : (body : Option Action) (fields : List Text) → ((a : Action) → body ≡ Some a → IsDecision a)
    → IsDecision (u.do_body body fields)
body_decided None fields h p s b = stays (Off (leave.Stopped reason.Call (st.site_of p)) s b)
body_decided (Some body) fields h p s b =
    closed_plays st.by_return st.no_value (st.with_arguments s.args)
    (λ tree trace acts. body p (at (record s { args = fields }) b tree trace acts))
    (record {
      conc = λ d e. record d { args = s.args };
      substituted = λ d e. e;
      gives = λ d e. tt;
      is_state = λ d e tree trace acts. refl;
      is_value = λ d e tree trace acts. refl;
    })
    (h body refl p (record s { args = fields }) b)

pub function_decided : (at : ℕ) (body : Option Action) (words : List (Doing (List Text)))
    → ((a : Action) → body ≡ Some a → IsDecision a) → Each Decisiveness words → IsDecision (u.do_function at body words)
function_decided at body words hb hw p =
    let q : Place = at_command at p in
    then_decides (w.do_fields words q) (λ fields s. then_do (u.do_body body fields q s) (λ _ s. c.checked q s))
    (fields_decided words hw q)
    (λ fields. then_decides (u.do_body body fields q) (λ _ s. c.checked q s) (body_decided body fields hb q)
    (λ _. checked_decided q))

leave_with_decided : (how : Leave) (fields : List Text) → IsDecision (u.leave_with how fields)
leave_with_decided how [] p s b = stays (Off how s b)
leave_with_decided how (text ∷ []) p s b =
    let ok : Bool = nat_eq (u.number_behind 0 text) 0 in
    if_plays (u.is_status text) (came (Off how (record s { status = ok }) b))
    (came (Off (leave.Stopped reason.Status (st.site_of p)) s b)) (stays (Off how (record s { status = ok }) b))
    (stays (Off (leave.Stopped reason.Status (st.site_of p)) s b))
leave_with_decided how (text ∷ other ∷ more) p s b = stays (Off (leave.Stopped reason.Status (st.site_of p)) s b)

leave_decided : (how : Leave) (words : List (Doing (List Text))) → Each Decisiveness words
    → IsDecision (u.do_leave how words)
leave_decided how words h p =
    then_decides (w.do_fields words p) (λ fields s. u.leave_with how fields p s) (fields_decided words h p)
    (λ fields. leave_with_decided how fields p)

pub exit_decided : (at : ℕ) (words : List (Doing (List Text))) → Each Decisiveness words → IsDecision (u.do_exit at words)
exit_decided at words h p = leave_decided leave.Exited words h (at_command at p)

pub return_decided : (at : ℕ) (words : List (Doing (List Text))) → Each Decisiveness words
    → IsDecision (u.do_return at words)
return_decided at words h p = leave_decided leave.Returned words h (at_command at p)

assign_some_decided : (name : Text) (o : Option Text)
    → Decides {A = Unit {0}} (λ s. Go tt (u.assign_some name o s))
assign_some_decided name None s b = stays (On tt s b)
assign_some_decided name (Some value) s b = stays (On tt (record s { vars = map.insert s.vars name value }) b)

export_one_decided : (operand : Text × Option Text) → IsDecision (u.export_one operand)
export_one_decided operand p s b =
    if_plays (u.is_changeable operand.0)
    (λ tree trace acts. Go tt (u.assign_some operand.0 operand.1 (at s b tree trace acts)))
    (came (Off (leave.Stopped reason.Call (st.site_of p)) s b)) (assign_some_decided operand.0 operand.1 s b)
    (stays (Off (leave.Stopped reason.Call (st.site_of p)) s b))

export_each_decided : (fields : List Text) → IsDecision (u.export_each fields)
export_each_decided [] p = λ s b. stays (On tt s b)
export_each_decided (field ∷ fields) p =
    then_decides (u.export_one (u.cut_at_equals field) p) (λ _ s. u.export_each fields p s)
    (export_one_decided (u.cut_at_equals field) p) (λ _. export_each_decided fields p)

pub export_decided : (at : ℕ) (words : List (Doing (List Text))) → Each Decisiveness words
    → IsDecision (u.do_export at words)
export_decided at words h p =
    let q : Place = at_command at p in
    then_decides (w.do_fields words q)
    (λ fields s. then_do (u.export_each fields q s) (λ _ s. Go tt (st.with_status true s))) (fields_decided words h q)
    (λ fields. then_decides (u.export_each fields q) (λ _ s. Go tt (st.with_status true s))
    (export_each_decided fields q) (λ _ s b. stays (On tt (record s { status = true }) b)))

unset_one_decided : (name : Text) → IsDecision (u.unset_one name)
unset_one_decided name p s b =
    let gone : Conc = record s { vars = map.remove s.vars name } in
    if_plays (u.is_changeable name && not (list_any (bytes_eq name) p.functions)) (came (On tt gone b))
    (came (Off (leave.Stopped reason.Call (st.site_of p)) s b)) (stays (On tt gone b))
    (stays (Off (leave.Stopped reason.Call (st.site_of p)) s b))

unset_each_decided : (fields : List Text) → IsDecision (u.unset_each fields)
unset_each_decided [] p = λ s b. stays (On tt s b)
unset_each_decided (field ∷ fields) p =
    then_decides (u.unset_one field p) (λ _ s. u.unset_each fields p s) (unset_one_decided field p)
    (λ _. unset_each_decided fields p)

pub unset_decided : (at : ℕ) (words : List (Doing (List Text))) → Each Decisiveness words
    → IsDecision (u.do_unset at words)
unset_decided at words h p =
    let q : Place = at_command at p in
    then_decides (w.do_fields words q)
    (λ fields s. then_do (u.unset_each fields q s) (λ _ s. Go tt (st.with_status true s))) (fields_decided words h q)
    (λ fields. then_decides (u.unset_each fields q) (λ _ s. Go tt (st.with_status true s))
    (unset_each_decided fields q) (λ _ s b. stays (On tt (record s { status = true }) b)))

-- ---- all rules

pub expansions_decided : ExpansionsKeep Decisiveness
expansions_decided = record {
  literal = literal_decided;
  variable = variable_decided;
  argument = argument_decided;
  count = count_decided;
  default = default_decided;
  join = join_decided;
  output = output_decided;
  plain = plain_decided;
  quoted = quoted_decided;
  split = split_decided;
  fields = word_decided;
  arguments = arguments_decided;
}

pub commands_decided : CommandsKeep Decisiveness
commands_decided = record {
  skip = skip_decided;
  stop = stop_decided;
  strict = strict_decided;
  lax = lax_decided;
  list = all_decided;
  chain = chain_decided;
  negation = not_decided;
  conditional = if_decided;
  subshell = subshell_decided;
  quiet = quiet_decided;
  error_joined = error_decided;
}

pub loops_decided : LoopsKeep Decisiveness
loops_decided = record {
  breaks = break_decided;
  continues = continue_decided;
  for_loop = for_decided;
  while_loop = while_decided;
  cases = case_decided;
}

pub calls_decided : CallsKeep Decisiveness
calls_decided = record {
  utility = call_decided;
  assignments = set_decided;
  function = function_decided;
  exits = exit_decided;
  returns = return_decided;
  exports = export_decided;
  unsets = unset_decided;
}
