-- Each rule keeps the four laws where its parts do.
use Rattle.std.proofs.Common.{◌≡◌, ◌≤◌, ◌<◌, ◌+◌, ℕ, zero, suc, Bool, true, false, not, List, [], ◌∷◌, ◌++◌, Option}
use Rattle.std.proofs.Common.{Some, None, Result, Ok, Err, refl, sym, if◌then◌else◌, arith, IsTrue, inr}
use Rattle.std.specs.Prelude.{◌&&◌, nat_eq}
use Rattle.std.specs.List.{list_any}
use Rattle.std.specs.Str.{bytes_eq}
use Rattle.std.specs.FinMap as map
use Rattle.script_names.specs.declared.mark.Mark.{Mark}
use Rattle.script_names.specs.declared.reason.Reason.{Reason}
use Rattle.script_names.specs.declared.reason.Done.{Done}
use Rattle.script_names.specs.declared.reason.Done.TheVariants as done
use Rattle.script_names.specs.declared.reason.Reason.TheVariants as reason
use Rattle.shell_words.specs.declared.fault.WordFault.{WordFault}
use Rattle.shell_words.specs.declared.letter.Letter.{Letter}
use Rattle.shell_words.specs.Pieces.{PieceParts}
use Rattle.shell_words.specs.Words.{word}
use Rattle.shell_words.specs.Fields.{fields_of, short}
use Rattle.shell_words.specs.Patterns.{pattern_letters, is_left_out, items}
use Rattle.utility_calls.specs.declared.acts.Act.{Act}
use Rattle.utility_calls.specs.declared.planned.Planned.{Planned}
use Rattle.utility_calls.specs.declared.planned.Planned.TheVariants.{Known, Ask, Print, Change, Unspecified}
use Rattle.utility_calls.specs.Acts.{row}
use Rattle.shell_rules.specs.declared.spelled.Spelled.{Spelled}
use Rattle.shell_rules.specs.OwnNames.{is_shells_own}
use Rattle.shell_rules.specs.State as st
use Rattle.shell_rules.specs.State.{Text, State, Leave, Run, Go, Left, then_do, closed_off, Place, Doing, Action}
use Rattle.shell_rules.specs.State.{at_command, except}
use Rattle.shell_rules.specs.Expansion as w
use Rattle.shell_rules.specs.Commands as c
use Rattle.shell_rules.specs.Loops as l
use Rattle.shell_rules.specs.Cases as k
use Rattle.shell_rules.specs.Planned.{spelled_by, planned}
use Rattle.shell_rules.specs.Calls as u
use Rattle.shell_rules.specs.Parts.{Each, EachLink, EachArm, EachPattern, EachCaseArm, EachSet}
use Rattle.shell_rules.specs.Laws.{state_of, run_with_more, more_turns, is_bound, Keeps, Lawful, IsLawful}
use Rattle.shell_rules.specs.Laws.{Lawfulness}
use Rattle.shell_rules.specs.RuleLaws.{ExpansionsKeep, CommandsKeep, LoopsKeep, CallsKeep}
use Rattle.shell_rules.proofs.Keeping.{stays, from_same, then_lawful, if_keeps, closed_keeps, turn_keeps}
use Rattle.shell_rules.proofs.Keeping.{body_keeps, condition_keeps}

-- an act: one mark more
adds_one : {A : Type 0} {n : ℕ} {s : State} {q r : Run A} (m : Mark) → (state_of q).trace ≡ s.trace ++ m ∷ []
    → (state_of q).conc.turns ≡ s.conc.turns → (state_of q).conc.premises ≡ s.conc.premises → r ≡ run_with_more n q
    → Keeps n s q r
adds_one m e f g h = record {
  trace = record { more = m ∷ []; is = e };
  turns = omega (arith, f);
  premises = g;
  same = inr h;
}

pub stopped_lawful : {A : Type 0} (why : Reason) → IsLawful {A = A} (st.stopped why)
stopped_lawful why p n s = stays refl refl refl refl

-- ---- expansions

pub given_lawful : {A : Type 0} (q : Result A WordFault) → IsLawful (w.given q)
given_lawful (Ok value) p n s = stays refl refl refl refl
given_lawful (Err fault) p n s = stays refl refl refl refl

pub literal_lawful : (text : Text) → IsLawful (w.do_literal text)
literal_lawful text p n s = stays refl refl refl refl

pub variable_lawful : (name : Text) → IsLawful (w.do_variable name)
variable_lawful name p n s =
    let value : Run Text = Go (w.or_empty (map.get s.conc.vars name)) s in
    let other : Run Text = Go (w.or_empty (map.get s.conc.vars name)) (more_turns n s) in
    if_keeps (is_shells_own name) (st.stopped reason.Call p s) value (st.stopped reason.Call p (more_turns n s)) other
    (stays refl refl refl refl) (stays refl refl refl refl)

pub argument_lawful : (number : ℕ) → IsLawful (w.do_argument number)
argument_lawful number p n s = stays refl refl refl refl

pub count_lawful : IsLawful w.do_count
count_lawful p n s = stays refl refl refl refl

pub default_lawful : (string : Doing Text) (other : Text) → IsLawful string → IsLawful (w.do_default string other)
default_lawful string other h p =
    then_lawful (string p) (λ text s. Go (w.unless_empty text other) s) (h p) (λ text n s. stays refl refl refl refl)

join_lawful_behind : (strings : List (Doing Text)) → Each Lawfulness strings → (before : Text)
    → IsLawful (w.join_behind before strings)
join_lawful_behind [] h before p = λ n s. stays refl refl refl refl
join_lawful_behind (string ∷ strings) h before p =
    then_lawful (string p) (λ text s. w.join_behind (before ++ text) strings p s) (h.0 p)
    (λ text. join_lawful_behind strings h.1 (before ++ text) p)

pub join_lawful : (strings : List (Doing Text)) → Each Lawfulness strings → IsLawful (w.do_join strings)
join_lawful strings h = join_lawful_behind strings h []

pub short_lawful : (string : Doing Text) → IsLawful string → IsLawful (w.do_short string)
short_lawful string h p =
    then_lawful (string p) (λ text s. w.given (short text) p s) (h p) (λ text. given_lawful (short text) p)

exit_not_bound : (how : Leave) → IsTrue (is_bound how) → st.by_exit how ≡ false
exit_not_bound st.Broke b = refl
exit_not_bound st.Continued b = refl
exit_not_bound st.Returned b = refl
exit_not_bound st.Exited b = absurd (cc b)
exit_not_bound (st.Stopped why site) b = refl
exit_not_bound (st.Bound site) b = refl

return_not_bound : (how : Leave) → IsTrue (is_bound how) → st.by_return how ≡ false
return_not_bound st.Broke b = refl
return_not_bound st.Continued b = refl
return_not_bound st.Returned b = absurd (cc b)
return_not_bound st.Exited b = refl
return_not_bound (st.Stopped why site) b = refl
return_not_bound (st.Bound site) b = refl

pub output_lawful : (body : Action) → IsLawful body → IsLawful (w.do_output body)
output_lawful body h p n s =
    let q : Place = st.in_substitution p in
    closed_keeps st.by_exit w.output_of (w.after_output s) (w.after_output (more_turns n s))
    (body q (w.capturing s)) (body q (w.capturing (more_turns n s)))
    (record {
      trace = λ t. refl;
      turns = λ t. refl;
      premises = λ t same. sym same;
      more = λ t. refl;
      same_value = λ t. refl;
      bound = exit_not_bound;
    })
    (from_same refl (omega arith) refl (h q n (w.capturing s)))

pub plain_lawful : (string : Doing Text) → IsLawful string → IsLawful (w.do_plain string)
plain_lawful string h p =
    then_lawful (string p) (λ text s. Go (w.plain_piece text) s) (h p) (λ text n s. stays refl refl refl refl)

pub quoted_lawful : (string : Doing Text) → IsLawful string → IsLawful (w.do_quoted string)
quoted_lawful string h p =
    then_lawful (string p) (λ text s. Go (w.quoted_piece text) s) (h p) (λ text n s. stays refl refl refl refl)

pub split_lawful : (string : Doing Text) → IsLawful string → IsLawful (w.do_split string)
split_lawful string h p =
    then_lawful (string p) (λ text s. Go (w.split_piece text) s) (h p) (λ text n s. stays refl refl refl refl)

pieces_lawful_behind : (pieces : List (Doing PieceParts)) → Each Lawfulness pieces → (before : List PieceParts)
    → IsLawful (w.pieces_behind before pieces)
pieces_lawful_behind [] h before p = λ n s. stays refl refl refl refl
pieces_lawful_behind (piece ∷ pieces) h before p =
    then_lawful (piece p) (λ parts s. w.pieces_behind (before ++ parts ∷ []) pieces p s) (h.0 p)
    (λ parts. pieces_lawful_behind pieces h.1 (before ++ parts ∷ []) p)

pub pieces_lawful : (pieces : List (Doing PieceParts)) → Each Lawfulness pieces → IsLawful (w.do_pieces pieces)
pieces_lawful pieces h = pieces_lawful_behind pieces h []

pub word_lawful : (pieces : List (Doing PieceParts)) → Each Lawfulness pieces → IsLawful (w.do_word pieces)
word_lawful pieces h p =
    then_lawful (w.do_pieces pieces p) (λ parts s. w.given (fields_of (word parts)) p s) (pieces_lawful pieces h p)
    (λ parts. given_lawful (fields_of (word parts)) p)

pub arguments_lawful : IsLawful w.do_arguments
arguments_lawful p n s = stays refl refl refl refl

fields_lawful_behind : (words : List (Doing (List Text))) → Each Lawfulness words → (before : List Text)
    → IsLawful (w.fields_behind before words)
fields_lawful_behind [] h before p = λ n s. stays refl refl refl refl
fields_lawful_behind (words ∷ more) h before p =
    then_lawful (words p) (λ fields s. w.fields_behind (before ++ fields) more p s) (h.0 p)
    (λ fields. fields_lawful_behind more h.1 (before ++ fields) p)

pub fields_lawful : (words : List (Doing (List Text))) → Each Lawfulness words → IsLawful (w.do_fields words)
fields_lawful words h = fields_lawful_behind words h []

-- ---- lists, conditions, subshells and redirections

pub skip_lawful : IsLawful c.do_skip
skip_lawful p n s = stays refl refl refl refl

pub strict_lawful : IsLawful c.do_strict
strict_lawful p n s = stays refl refl refl refl

pub lax_lawful : IsLawful c.do_lax
lax_lawful p n s = stays refl refl refl refl

pub stop_lawful : (at : ℕ) (why : Reason) → IsLawful (c.do_stop at why)
stop_lawful at why p n s = stays refl refl refl refl

pub checked_lawful : IsLawful c.checked
checked_lawful p n s =
    let left : Run (Unit {0}) = Left (c.left_by_failure p) s in
    let other : Run (Unit {0}) = Left (c.left_by_failure p) (more_turns n s) in
    if_keeps (s.conc.strict && not s.conc.status && not p.excepted) left (Go tt s) other (Go tt (more_turns n s))
    (stays refl refl refl refl) (stays refl refl refl refl)

pub rest_lawful : (commands : List Action) → Each Lawfulness commands → IsLawful (c.do_rest commands)
rest_lawful [] h p = λ n s. stays refl refl refl refl
rest_lawful (command ∷ commands) h p =
    then_lawful (command p) (λ _ s. c.do_rest commands p s) (h.0 p) (λ _. rest_lawful commands h.1 p)

pub all_lawful : (commands : List Action) → Each Lawfulness commands → IsLawful (c.do_all commands)
all_lawful [] h p n s = stays refl refl refl refl
all_lawful (command ∷ commands) h p n s = rest_lawful (command ∷ commands) h p n s

pub links_lawful : (links : List (Bool × Action)) → EachLink Lawfulness links → IsLawful (c.do_links links)
links_lawful [] h p n s = stays refl refl refl refl
links_lawful ((and, command) ∷ []) h p n s =
    if_keeps (c.is_reached and s) (command p s) (Go tt s) (command p (more_turns n s)) (Go tt (more_turns n s))
    (h.0 p n s) (stays refl refl refl refl)
links_lawful ((and, command) ∷ link ∷ links) h p n s =
    let rest : Action = c.do_links (link ∷ links) in
    if_keeps (c.is_reached and s) (then_do (command (except p) s) (λ _ s. rest p s)) (rest p s)
    (then_do (command (except p) (more_turns n s)) (λ _ s. rest p s)) (rest p (more_turns n s))
    (then_lawful (command (except p)) (λ _ s. rest p s) (h.0 (except p)) (λ _. links_lawful (link ∷ links) h.1 p) n s)
    (links_lawful (link ∷ links) h.1 p n s)

pub chain_lawful : (first : Action) (links : List (Bool × Action)) → IsLawful first → EachLink Lawfulness links
    → IsLawful (c.do_chain first links)
chain_lawful first [] h k p = h p
chain_lawful first (link ∷ links) h k p =
    then_lawful (first (except p)) (λ _ s. c.do_links (link ∷ links) p s) (h (except p))
    (λ _. links_lawful (link ∷ links) k p)

pub not_lawful : (command : Action) → IsLawful command → IsLawful (c.do_not command)
not_lawful command h p =
    then_lawful (command (except p)) (λ _ s. Go tt (st.with_status (not s.conc.status) s)) (h (except p))
    (λ _ n s. stays refl refl refl refl)

pub if_lawful : (arms : List (Action × Action)) (otherwise : Action) → EachArm Lawfulness arms → IsLawful otherwise
    → IsLawful (c.do_if arms otherwise)
if_lawful [] otherwise h k p = k p
if_lawful ((condition, body) ∷ arms) otherwise h k p =
    then_lawful (condition (except p)) (λ _ s. if s.conc.status then body p s else c.do_if arms otherwise p s)
    (h.0 (except p)) (λ _ n s.
    if_keeps s.conc.status (body p s) (c.do_if arms otherwise p s) (body p (more_turns n s))
    (c.do_if arms otherwise p (more_turns n s)) (h.1 p n s) (if_lawful arms otherwise h.2 k p n s))

pub subshell_lawful : (at : ℕ) (body : Action) → IsLawful body → IsLawful (c.do_subshell at body)
subshell_lawful at body h p =
    then_lawful (λ s. closed_off st.by_exit st.no_value (c.after_subshell s) (body p s))
    (λ _ s. c.checked (at_command at p) s)
    (λ n s. closed_keeps st.by_exit st.no_value (c.after_subshell s) (c.after_subshell (more_turns n s)) (body p s)
    (body p (more_turns n s))
    (record {
      trace = λ t. refl;
      turns = λ t. refl;
      premises = λ t same. refl;
      more = λ t. refl;
      same_value = λ t. refl;
      bound = exit_not_bound;
    })
    (h p n s))
    (λ _. checked_lawful (at_command at p))

pub quiet_lawful : (body : Action) → IsLawful body → IsLawful (c.do_quiet body)
quiet_lawful body h p n s =
    closed_keeps st.by_nothing st.no_value (c.with_captured s.conc.captured) (c.with_captured s.conc.captured)
    (body p (c.with_captured None s)) (body p (c.with_captured None (more_turns n s)))
    (record {
      trace = λ t. refl;
      turns = λ t. refl;
      premises = λ t same. refl;
      more = λ t. refl;
      same_value = λ t. refl;
      bound = λ how b. refl;
    })
    (from_same refl (omega arith) refl (h p n (c.with_captured None s)))

joined_keeps : (n : ℕ) (s : State) (p : Place) (o : Option Text) (body : Action) → IsLawful body
    → Keeps n s (c.joined_error o body p s) (c.joined_error o body p (more_turns n s))
joined_keeps n s p None body h = h p n s
joined_keeps n s p (Some text) body h = stays refl refl refl refl

pub error_lawful : (at : ℕ) (body : Action) → IsLawful body → IsLawful (c.do_error_joined at body)
error_lawful at body h p n s = joined_keeps n s (at_command at p) s.conc.captured body h

-- ---- loops

pub break_lawful : IsLawful l.do_break
break_lawful p n s = stays refl refl refl refl

pub continue_lawful : IsLawful l.do_continue
continue_lawful p n s = stays refl refl refl refl

pub each_lawful : (name : Text) (body : Action) (fields : List Text) → IsLawful body
    → IsLawful (l.for_each name body fields)
each_lawful name body [] h p n s = stays refl refl refl refl
each_lawful name body (field ∷ fields) h p n s =
    let next : State → Run (Unit {0}) = l.for_each name body fields p in
    let turn : State → Run (Unit {0}) = λ t. l.after_body (body p (l.assign name field t)) next in
    turn_keeps p turn turn (λ t lt.
    body_keeps (body p (l.assign name field t)) (body p (l.assign name field (more_turns n t))) next next
    (from_same refl (omega arith) refl (h p n (l.assign name field t)))
    (λ t le. each_lawful name body fields h p n t))

some_fields_lawful : (name : Text) (body : Action) (fields : List Text) (p : Place) → IsLawful body
    → Lawful (λ s. l.for_each name body fields p (st.success_if_none fields s))
some_fields_lawful name body [] p h n s = stays refl refl refl refl
some_fields_lawful name body (field ∷ fields) p h n s = each_lawful name body (field ∷ fields) h p n s

pub for_lawful : (at : ℕ) (name : Text) (words : List (Doing (List Text))) (body : Action) → Each Lawfulness words
    → IsLawful body → IsLawful (l.do_for at name words body)
for_lawful at name words body hw hb p =
    let q : Place = at_command at p in
    then_lawful (w.do_fields words q) (λ fields s. l.for_each name body fields q (st.success_if_none fields s))
    (fields_lawful words hw q) (λ fields. some_fields_lawful name body fields q hb)

-- what follows a round that took a turn
abbrev NextRound : ℕ → ℕ → (Bool → State → Run (Unit {0})) → (Bool → State → Run (Unit {0})) → Type 0
NextRound n m next other =
    (last : Bool) (t : State) → t.conc.turns < m → Keeps n t (next last t) (other last (more_turns n t))

round_keeps : (n : ℕ) (condition body : Action) (p : Place) (next other : Bool → State → Run (Unit {0})) (last : Bool)
    (s : State) → IsLawful condition → IsLawful body → NextRound n s.conc.turns next other
    → Keeps n s (l.while_round condition body p next last s)
    (l.while_round condition body p other last (more_turns n s))
round_keeps n condition body p next other last s hc hb h =
    let turn : State → Run (Unit {0}) = λ t. l.after_body (body p t) (λ u. next u.conc.status u) in
    let turn' : State → Run (Unit {0}) = λ t. l.after_body (body p t) (λ u. other u.conc.status u) in
    condition_keeps last (condition (except p) s) (condition (except p) (more_turns n s))
    (λ t. then_do (l.take_turn p t) (λ _. turn)) (λ t. then_do (l.take_turn p t) (λ _ t. next last t))
    (λ t. then_do (l.take_turn p t) (λ _. turn')) (λ t. then_do (l.take_turn p t) (λ _ t. other last t))
    (hc (except p) n s)
    (λ t le. turn_keeps p turn turn' (λ u lt.
    body_keeps (body p u) (body p (more_turns n u)) (λ v. next v.conc.status v) (λ v. other v.conc.status v)
    (hb p n u) (λ v lv. h v.conc.status v (omega (arith, le, lt, lv)))))
    (λ t le. turn_keeps p (λ t. next last t) (λ t. other last t) (λ u lt. h last u (omega (arith, le, lt))))

rounds_keep : (n a b : ℕ) (condition body : Action) (p : Place) (last : Bool) (s : State) → IsLawful condition
    → IsLawful body → s.conc.turns ≤ a → s.conc.turns + n ≤ b
    → Keeps n s (l.while_rounds a condition body p last s) (l.while_rounds b condition body p last (more_turns n s))
rounds_keep n zero zero condition body p last s hc hb le le' =
    round_keeps n condition body p (λ last t. Left (st.Bound (st.site_of p)) t)
    (λ last t. Left (st.Bound (st.site_of p)) t) last s hc hb (λ last t lt. absurd (omega (arith, le, lt)))
rounds_keep n zero (suc b) condition body p last s hc hb le le' =
    round_keeps n condition body p (λ last t. Left (st.Bound (st.site_of p)) t) (l.while_rounds b condition body p)
    last s hc hb (λ last t lt. absurd (omega (arith, le, lt)))
rounds_keep n (suc a) zero condition body p last s hc hb le le' =
    round_keeps n condition body p (l.while_rounds a condition body p) (λ last t. Left (st.Bound (st.site_of p)) t)
    last s hc hb (λ last t lt. absurd (omega (arith, le', lt)))
rounds_keep n (suc a) (suc b) condition body p last s hc hb le le' =
    round_keeps n condition body p (l.while_rounds a condition body p) (l.while_rounds b condition body p) last s hc hb
    (λ last t lt. rounds_keep n a b condition body p last t hc hb (omega (arith, le, lt)) (omega (arith, le', lt)))

pub while_lawful : (at : ℕ) (condition body : Action) → IsLawful condition → IsLawful body
    → IsLawful (l.do_while at condition body)
while_lawful at condition body hc hb p n s =
    rounds_keep n s.conc.turns (s.conc.turns + n) condition body (at_command at p) true s hc hb (omega arith)
    (omega arith)

-- ---- `case`

answer_lawful : (subject : Text) (letters : List Letter) → IsLawful (k.pattern_answer subject letters)
answer_lawful subject letters p n s =
    let answer : Run Bool = Go (k.matches (items letters) subject) s in
    let other : Run Bool = Go (k.matches (items letters) subject) (more_turns n s) in
    if_keeps (is_left_out letters) (st.stopped reason.Pattern p s) answer
    (st.stopped reason.Pattern p (more_turns n s)) other (stays refl refl refl refl) (stays refl refl refl refl)

pub patterns_lawful : (subject : Text) (patterns : List (List (Doing PieceParts))) → EachPattern Lawfulness patterns
    → IsLawful (k.some_pattern subject patterns)
patterns_lawful subject [] h p = λ n s. stays refl refl refl refl
patterns_lawful subject (pattern ∷ patterns) h p =
    let rest : Bool → State → Run Bool = λ fits s. if fits then Go true s else k.some_pattern subject patterns p s in
    then_lawful (w.do_pieces pattern p)
    (λ parts s. then_do (k.pattern_answer subject (pattern_letters parts) p s) rest)
    (pieces_lawful pattern h.0 p)
    (λ parts. then_lawful (k.pattern_answer subject (pattern_letters parts) p) rest
    (answer_lawful subject (pattern_letters parts) p)
    (λ fits n s. if_keeps fits (Go true s) (k.some_pattern subject patterns p s) (Go true (more_turns n s))
    (k.some_pattern subject patterns p (more_turns n s)) (stays refl refl refl refl)
    (patterns_lawful subject patterns h.1 p n s)))

case_arms_lawful : (subject : Text) (arms : List (List (List (Doing PieceParts)) × Action)) → EachCaseArm Lawfulness arms
    → IsLawful (k.first_arm subject arms)
case_arms_lawful subject [] h p = λ n s. stays refl refl refl refl
case_arms_lawful subject ((patterns, body) ∷ arms) h p =
    then_lawful (k.some_pattern subject patterns p) (λ fits s. if fits then body p s else k.first_arm subject arms p s)
    (patterns_lawful subject patterns h.0 p)
    (λ fits n s. if_keeps fits (body p s) (k.first_arm subject arms p s) (body p (more_turns n s))
    (k.first_arm subject arms p (more_turns n s)) (h.1 p n s) (case_arms_lawful subject arms h.2 p n s))

pub case_lawful : (at : ℕ) (subject : Doing Text) (arms : List (List (List (Doing PieceParts)) × Action))
    → IsLawful subject → EachCaseArm Lawfulness arms → IsLawful (k.do_case at subject arms)
case_lawful at subject arms h ha p =
    let q : Place = at_command at p in
    then_lawful (w.do_short subject q) (λ text s. k.first_arm text arms q s) (short_lawful subject h q)
    (λ text. case_arms_lawful text arms ha q)

-- ---- calls

answered_keeps : (n : ℕ) (s : State) (p : Place) (act : Act) (done : Done)
    → Keeps n s (u.answered done p (u.acted act p s)) (u.answered done p (u.acted act p (more_turns n s)))
answered_keeps n s p act done.Ok = adds_one (u.mark_of act p s) refl refl refl refl
answered_keeps n s p act done.Failed = adds_one (u.mark_of act p s) refl refl refl refl
answered_keeps n s p act (done.Stopped why) = adds_one (u.mark_of act p s) refl refl refl refl

pub act_lawful : (act : Act) → IsLawful (u.do_act act)
act_lawful act p n s = answered_keeps n s p act (row act s.tree).answer

acts_lawful : (acts : List Act) → IsLawful (u.do_acts acts)
acts_lawful [] p = λ n s. stays refl refl refl refl
acts_lawful (act ∷ acts) p =
    then_lawful (u.do_act act p) (λ ok s. if ok then u.do_acts acts p s else Go false s) (act_lawful act p)
    (λ ok n s. if_keeps ok (u.do_acts acts p s) (Go false s) (u.do_acts acts p (more_turns n s))
    (Go false (more_turns n s)) (acts_lawful acts p n s) (stays refl refl refl refl))

operands_lawful : (all : Bool) (lists : List (List Act)) → IsLawful (u.do_operands all lists)
operands_lawful all [] p = λ n s. stays refl refl refl refl
operands_lawful all (acts ∷ lists) p =
    then_lawful (u.do_acts acts p) (λ ok s. u.do_operands (all && ok) lists p s) (acts_lawful acts p)
    (λ ok. operands_lawful (all && ok) lists p)

pub planned_lawful : (planned : Planned) → IsLawful (u.do_planned planned)
planned_lawful (Known ok) p n s = stays refl refl refl refl
planned_lawful (Ask act negate) p n s =
    then_lawful (u.do_act act p) (λ ok s. Go tt (st.with_status (u.negated_if negate ok) s)) (act_lawful act p)
    (λ ok n s. stays refl refl refl refl) n s
planned_lawful (Print text) p n s = stays refl refl refl refl
planned_lawful (Change lists) p n s =
    then_lawful (u.do_operands true lists p) (λ ok s. Go tt (st.with_status ok s)) (operands_lawful true lists p)
    (λ ok n s. stays refl refl refl refl) n s
planned_lawful (Unspecified why) p n s = stays refl refl refl refl

pub call_of_lawful : (spelled : Spelled) (fields : List Text) → IsLawful (u.do_call_of spelled fields)
call_of_lawful spelled [] p n s = stays refl refl refl refl
call_of_lawful spelled (name ∷ words) p n s =
    planned_lawful (planned s.conc.premises p.functions spelled (name ∷ words)) p n s

pub call_lawful : (at : ℕ) (static : List Bool) (words : List (Doing (List Text))) → Each Lawfulness words
    → IsLawful (u.do_call at static words)
call_lawful at static words h p =
    let q : Place = at_command at p in
    let calls : List Text → Action = u.do_call_of (spelled_by static) in
    then_lawful (λ s. w.do_fields words q (u.no_substitution s))
    (λ fields s. then_do (calls fields q s) (λ _ s. c.checked q s))
    (λ n s. from_same refl (omega arith) refl (fields_lawful words h q n (u.no_substitution s)))
    (λ fields. then_lawful (calls fields q) (λ _ s. c.checked q s) (call_of_lawful (spelled_by static) fields q)
    (λ _. checked_lawful q))

assignments_lawful : (sets : List (Text × Doing Text)) → EachSet Lawfulness sets → IsLawful (u.do_assignments sets)
assignments_lawful [] h p = λ n s. stays refl refl refl refl
assignments_lawful ((name, value) ∷ sets) h p =
    then_lawful (w.do_short value p) (λ text s. u.do_assignments sets p (l.assign name text s))
    (short_lawful value h.0 p)
    (λ text n s. from_same refl (omega arith) refl (assignments_lawful sets h.1 p n (l.assign name text s)))

pub set_lawful : (at : ℕ) (sets : List (Text × Doing Text)) → EachSet Lawfulness sets → IsLawful (u.do_set at sets)
set_lawful at sets h p =
    let q : Place = at_command at p in
    then_lawful (λ s. u.do_assignments sets q (u.no_substitution s))
    (λ _ s. c.checked q (st.with_status s.substituted s))
    (λ n s. from_same refl (omega arith) refl (assignments_lawful sets h q n (u.no_substitution s)))
    (λ _ n s. from_same refl (omega arith) refl (checked_lawful q n (st.with_status s.substituted s)))

body_lawful : (body : Option Action) (fields : List Text) → ((a : Action) → body ≡ Some a → IsLawful a)
    → IsLawful (u.do_body body fields)
body_lawful None fields h p n s = stays refl refl refl refl
body_lawful (Some body) fields h p n s =
    closed_keeps st.by_return st.no_value (st.with_arguments s.conc.args) (st.with_arguments s.conc.args)
    (body p (st.with_arguments fields s)) (body p (st.with_arguments fields (more_turns n s)))
    (record {
      trace = λ t. refl;
      turns = λ t. refl;
      premises = λ t same. refl;
      more = λ t. refl;
      same_value = λ t. refl;
      bound = return_not_bound;
    })
    (from_same refl (omega arith) refl (h body refl p n (st.with_arguments fields s)))

pub function_lawful : (at : ℕ) (body : Option Action) (words : List (Doing (List Text)))
    → ((a : Action) → body ≡ Some a → IsLawful a) → Each Lawfulness words → IsLawful (u.do_function at body words)
function_lawful at body words hb hw p =
    let q : Place = at_command at p in
    then_lawful (w.do_fields words q) (λ fields s. then_do (u.do_body body fields q s) (λ _ s. c.checked q s))
    (fields_lawful words hw q)
    (λ fields. then_lawful (u.do_body body fields q) (λ _ s. c.checked q s) (body_lawful body fields hb q)
    (λ _. checked_lawful q))

leave_with_lawful : (how : Leave) (fields : List Text) → IsLawful (u.leave_with how fields)
leave_with_lawful how [] p n s = stays refl refl refl refl
leave_with_lawful how (text ∷ []) p n s =
    let ok : Bool = nat_eq (u.number_behind 0 text) 0 in
    let left : Run (Unit {0}) = Left how (st.with_status ok s) in
    let other : Run (Unit {0}) = Left how (st.with_status ok (more_turns n s)) in
    if_keeps (u.is_status text) left (st.stopped reason.Status p s) other
    (st.stopped reason.Status p (more_turns n s)) (stays refl refl refl refl) (stays refl refl refl refl)
leave_with_lawful how (text ∷ other ∷ more) p n s = stays refl refl refl refl

leave_lawful : (how : Leave) (words : List (Doing (List Text))) → Each Lawfulness words → IsLawful (u.do_leave how words)
leave_lawful how words h p =
    then_lawful (w.do_fields words p) (λ fields s. u.leave_with how fields p s) (fields_lawful words h p)
    (λ fields. leave_with_lawful how fields p)

pub exit_lawful : (at : ℕ) (words : List (Doing (List Text))) → Each Lawfulness words → IsLawful (u.do_exit at words)
exit_lawful at words h p = leave_lawful st.Exited words h (at_command at p)

pub return_lawful : (at : ℕ) (words : List (Doing (List Text))) → Each Lawfulness words → IsLawful (u.do_return at words)
return_lawful at words h p = leave_lawful st.Returned words h (at_command at p)

assign_some_keeps : (n : ℕ) (s : State) (name : Text) (o : Option Text)
    → Keeps {A = Unit {0}} n s (Go tt (u.assign_some name o s)) (Go tt (u.assign_some name o (more_turns n s)))
assign_some_keeps n s name None = stays refl refl refl refl
assign_some_keeps n s name (Some value) = stays refl refl refl refl

export_one_lawful : (operand : Text × Option Text) → IsLawful (u.export_one operand)
export_one_lawful operand p n s =
    if_keeps (u.is_changeable operand.0) (Go tt (u.assign_some operand.0 operand.1 s)) (st.stopped reason.Call p s)
    (Go tt (u.assign_some operand.0 operand.1 (more_turns n s))) (st.stopped reason.Call p (more_turns n s))
    (assign_some_keeps n s operand.0 operand.1) (stays refl refl refl refl)

export_each_lawful : (fields : List Text) → IsLawful (u.export_each fields)
export_each_lawful [] p = λ n s. stays refl refl refl refl
export_each_lawful (field ∷ fields) p =
    then_lawful (u.export_one (u.cut_at_equals field) p) (λ _ s. u.export_each fields p s)
    (export_one_lawful (u.cut_at_equals field) p) (λ _. export_each_lawful fields p)

pub export_lawful : (at : ℕ) (words : List (Doing (List Text))) → Each Lawfulness words → IsLawful (u.do_export at words)
export_lawful at words h p =
    let q : Place = at_command at p in
    then_lawful (w.do_fields words q)
    (λ fields s. then_do (u.export_each fields q s) (λ _ s. Go tt (st.with_status true s))) (fields_lawful words h q)
    (λ fields. then_lawful (u.export_each fields q) (λ _ s. Go tt (st.with_status true s))
    (export_each_lawful fields q) (λ _ n s. stays refl refl refl refl))

unset_one_lawful : (name : Text) → IsLawful (u.unset_one name)
unset_one_lawful name p n s =
    if_keeps (u.is_changeable name && not (list_any (bytes_eq name) p.functions)) (Go tt (u.unassign name s))
    (st.stopped reason.Call p s) (Go tt (u.unassign name (more_turns n s)))
    (st.stopped reason.Call p (more_turns n s)) (stays refl refl refl refl) (stays refl refl refl refl)

unset_each_lawful : (fields : List Text) → IsLawful (u.unset_each fields)
unset_each_lawful [] p = λ n s. stays refl refl refl refl
unset_each_lawful (field ∷ fields) p =
    then_lawful (u.unset_one field p) (λ _ s. u.unset_each fields p s) (unset_one_lawful field p)
    (λ _. unset_each_lawful fields p)

pub unset_lawful : (at : ℕ) (words : List (Doing (List Text))) → Each Lawfulness words → IsLawful (u.do_unset at words)
unset_lawful at words h p =
    let q : Place = at_command at p in
    then_lawful (w.do_fields words q)
    (λ fields s. then_do (u.unset_each fields q s) (λ _ s. Go tt (st.with_status true s))) (fields_lawful words h q)
    (λ fields. then_lawful (u.unset_each fields q) (λ _ s. Go tt (st.with_status true s))
    (unset_each_lawful fields q) (λ _ n s. stays refl refl refl refl))

-- ---- all rules

pub expansions_lawful : ExpansionsKeep Lawfulness
expansions_lawful = record {
  literal = literal_lawful;
  variable = variable_lawful;
  argument = argument_lawful;
  count = count_lawful;
  default = default_lawful;
  join = join_lawful;
  output = output_lawful;
  plain = plain_lawful;
  quoted = quoted_lawful;
  split = split_lawful;
  fields = word_lawful;
  arguments = arguments_lawful;
}

pub commands_lawful : CommandsKeep Lawfulness
commands_lawful = record {
  skip = skip_lawful;
  stop = stop_lawful;
  strict = strict_lawful;
  lax = lax_lawful;
  list = all_lawful;
  chain = chain_lawful;
  negation = not_lawful;
  conditional = if_lawful;
  subshell = subshell_lawful;
  quiet = quiet_lawful;
  error_joined = error_lawful;
}

pub loops_lawful : LoopsKeep Lawfulness
loops_lawful = record {
  breaks = break_lawful;
  continues = continue_lawful;
  for_loop = for_lawful;
  while_loop = while_lawful;
  cases = case_lawful;
}

pub calls_lawful : CallsKeep Lawfulness
calls_lawful = record {
  utility = call_lawful;
  assignments = set_lawful;
  function = function_lawful;
  exits = exit_lawful;
  returns = return_lawful;
  exports = export_lawful;
  unsets = unset_lawful;
}
