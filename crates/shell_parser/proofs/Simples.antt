-- Steps of simple commands and definitions.
use Rattle.std.proofs.Common.{◌≡◌, ℕ, ◌+◌, Bool, true, false, [], ◌∷◌, ◌++◌, Some, None, refl, sym, ap, ◌∙◌, subst, drop, append-nil, append_assoc}
use Rattle.shell_grammar.specs.declared.fault.ParseFault.{ParseFault}
use Rattle.shell_grammar.specs.declared.fault.ParseFault.TheVariants.{Syntax, Deep, Memory}
use Rattle.shell_grammar.specs.declared.look.Look.{Look}
use Rattle.shell_grammar.specs.declared.look.Look.TheVariants.{AtEnd, LeftParen, RightParen, Redirection, Assignment}
use Rattle.shell_grammar.specs.declared.form.CommandForm.TheVariants as command
use Rattle.shell_grammar.specs.declared.form.Item.TheVariants as an
use Rattle.shell_grammar.specs.declared.items.Items.{Items}
use Rattle.shell_syntax.specs.declared.syntax.Command.{Command}
use Rattle.shell_syntax.specs.declared.syntax.Command.TheVariants as c
use Rattle.shell_syntax.specs.declared.syntax.Word.{Word}
use Rattle.shell_syntax.specs.declared.syntax.Assign.{Assign}
use Rattle.shell_syntax.specs.declared.redirect.Redirect.{Redirect}
use Rattle.shell_grammar.specs.Look.{Text, Tokens, look, place}
use Rattle.shell_grammar.specs.Forms as form
use Rattle.shell_grammar.specs.Trees as tree
use Rattle.shell_grammar.specs.Grammar as g
use Rattle.shell_grammar.specs.Grammar.{Rule, Sign, Is, Opens, AWord, Here, Never, Of, Inside, Tree, Value, Values, Production, production}
use Rattle.shell_grammar.specs.Reading.{Whole, Stop, IsRule, IsSign, here, of}
use Rattle.shell_grammar.specs.Spelling.{deep_64}
use Rattle.shell_parser.specs.Reads.{Caused, Stops}
use Rattle.shell_parser.specs.Reads.{ItemsGiven, ItemsFrom, Assigns}
use Rattle.shell_parser.proofs.Steps.{made, ruled, made_stops, rule_stops, more_of, stop_later, stop_here, all_done, there}

-- ---- what an item is

pub assign_look : (b : Bool) (l : Look) → form.item b l ≡ Some an.Assignment → l ≡ Assignment
assign_look b Assignment e = refl
assign_look true l e = absurd (cc (e))
assign_look false l e = absurd (cc (e))

pub redirect_look : (b : Bool) (l : Look) (which : Redirect) → form.item b l ≡ Some (an.Redirection which) → l ≡ Redirection which
redirect_look true (Redirection w) which e = ap Redirection (cc e)
redirect_look false (Redirection w) which e = ap Redirection (cc e)
redirect_look true l which e = absurd (cc e)
redirect_look false l which e = absurd (cc e)

pub item_end : (b : Bool) → form.item b AtEnd ≡ None
item_end true = refl
item_end false = refl

named_simple : (l : Look) → (l ≡ LeftParen → ⊥) → production g.Named l ≡ record { signs = Of (g.SimpleItems true) ∷ []; tree = λ v. tree.Continues v.0 }
named_simple LeftParen e = absurd (e refl)
named_simple l e = refl

-- ---- items, before further ones

joined_nothing : (x : Items) → tree.joined x tree.no_items ≡ x
joined_nothing x = ap (λ l. record { assigns = l; words = x.words ++ []; redirects = x.redirects ++ [] }) (append-nil x.assigns) ∙ ap (λ l. record { assigns = x.assigns; words = l; redirects = x.redirects ++ [] }) (append-nil x.words) ∙ ap (λ l. record { assigns = x.assigns; words = x.words; redirects = l }) (append-nil x.redirects)

joined_on : (x y z : Items) → tree.joined (tree.joined x y) z ≡ tree.joined x (tree.joined y z)
joined_on x y z = ap (λ l. record { assigns = l; words = (x.words ++ y.words) ++ z.words; redirects = (x.redirects ++ y.redirects) ++ z.redirects }) (append_assoc x.assigns y.assigns z.assigns) ∙ ap (λ l. record { assigns = x.assigns ++ (y.assigns ++ z.assigns); words = l; redirects = (x.redirects ++ y.redirects) ++ z.redirects }) (append_assoc x.words y.words z.words) ∙ ap (λ l. record { assigns = x.assigns ++ (y.assigns ++ z.assigns); words = x.words ++ (y.words ++ z.words); redirects = l }) (append_assoc x.redirects y.redirects z.redirects)

module _ {d end : ℕ} where
  pub items_begin : (b : Bool) (begun now : Items) (ts : Tokens) → now ≡ begun → ItemsFrom d end b begun ts b now ts
  items_begin b begun now ts e = record { whole = λ items rest x. record { items = items; reads = x; joins = ap (λ i. tree.joined i items) e }; stops = λ f rest x. x }

  pub items_on : (b b2 b3 : Bool) (begun now now2 : Items) (ts ts2 ts3 : Tokens) → ItemsFrom d end b begun ts b2 now ts2 → ItemsFrom d end b2 now ts2 b3 now2 ts3 → ItemsFrom d end b begun ts b3 now2 ts3
  items_on b b2 b3 begun now now2 ts ts2 ts3 x y = record { whole = λ items rest z. (let u = y.whole items rest z in let v = x.whole u.items rest u.reads in record { items = v.items; reads = v.reads; joins = u.joins ∙ v.joins }); stops = λ f rest z. x.stops f rest (y.stops f rest z) }

  pub items_end : (b b2 : Bool) (begun now : Items) (ts ts2 : Tokens) → ItemsFrom d end b begun ts b2 now ts2 → form.item b2 (look ts2) ≡ None → ItemsGiven d end b begun ts now ts2
  items_end b b2 begun now ts ts2 x e = (let u = x.whole tree.no_items ts2 (made (g.production_items b2 None) (ap (g.production_items b2) e) (Whole tt ts2) all_done) in record { items = u.items; reads = u.reads; joins = sym (joined_nothing now) ∙ u.joins })

  pub items_stop : (b b2 : Bool) (begun now : Items) (ts ts2 : Tokens) → ItemsFrom d end b begun ts b2 now ts2 → (fault : ParseFault) → Caused (Stops d end (g.SimpleItems b2) ts2) fault → Caused (Stops d end (g.SimpleItems b) ts) fault
  items_stop b b2 begun now ts ts2 x (Syntax at) y = record { rest = y.rest; reads = x.stops _ _ y.reads }
  items_stop b b2 begun now ts ts2 x (Deep at) y = record { rest = y.rest; reads = x.stops _ _ y.reads }
  items_stop b b2 begun now ts ts2 x Memory y = tt

  -- whether a word stands behind, by what the item is
  pub items_by : (b b2 b3 : Bool) (begun now : Items) (ts ts2 : Tokens) → b3 ≡ b2 → ItemsFrom d end b begun ts b2 now ts2 → ItemsFrom d end b begun ts b3 now ts2
  items_by b b2 b3 begun now ts ts2 e x = subst (λ k. ItemsFrom d end b begun ts k now ts2) (sym e) x

  -- an item y, of which the production says that it stands before the further ones
  one_before : (b b2 : Bool) (begun now y : Items) (ts ts2 : Tokens) → now ≡ tree.joined begun y → ((items : Items) (rest : Tokens) → IsRule deep_64 d end (g.SimpleItems b2) ts2 (Whole items rest) → IsRule deep_64 d end (g.SimpleItems b) ts (Whole (tree.joined y items) rest)) → ((f : ParseFault) (rest : Tokens) → IsRule deep_64 d end (g.SimpleItems b2) ts2 (Stop f rest) → IsRule deep_64 d end (g.SimpleItems b) ts (Stop f rest)) → ItemsFrom d end b begun ts b2 now ts2
  one_before b b2 begun now y ts ts2 e h k = record { whole = λ items rest x. record { items = tree.joined y items; reads = h items rest x; joins = ap (λ i. tree.joined i items) e ∙ joined_on begun y items }; stops = k }

  pub item_assign : (b : Bool) (begun now : Items) (ts r : Tokens) (a : Assign) → form.item b (look ts) ≡ Some an.Assignment → Assigns d end ts a r → now ≡ tree.joined begun (tree.an_assign a) → ItemsFrom d end b begun ts b now r
  item_assign b begun now ts r a e x f = one_before b b begun now (tree.an_assign (tree.assigned x.word)) ts r (f ∙ ap (λ a. tree.joined begun (tree.an_assign a)) x.assigns)
      (λ items rest y. made (g.production_items b (Some an.Assignment)) (ap (g.production_items b) e) (Whole (x.word, (items, tt)) rest) (more_of x.word (items, tt) x.reads (more_of items tt (of y) all_done)))
      (λ f rest y. made_stops (g.production_items b (Some an.Assignment)) (ap (g.production_items b) e) (stop_later x.word x.reads (stop_here (of y))))

  pub item_assign_stops : (b : Bool) (ts r : Tokens) (f : ParseFault) → form.item b (look ts) ≡ Some an.Assignment → IsSign deep_64 d end AWord ts (Stop f r) → IsRule deep_64 d end (g.SimpleItems b) ts (Stop f r)
  item_assign_stops b ts r f e x = made_stops (g.production_items b (Some an.Assignment)) (ap (g.production_items b) e) (stop_here x)

  pub item_word : (b : Bool) (begun now : Items) (ts r : Tokens) (w : Word) → form.item b (look ts) ≡ Some an.Word → IsSign deep_64 d end AWord ts (Whole w r) → now ≡ tree.joined begun (tree.a_word w) → ItemsFrom d end b begun ts true now r
  item_word b begun now ts r w e x f = one_before b true begun now (tree.a_word w) ts r f
      (λ items rest y. made (g.production_items b (Some an.Word)) (ap (g.production_items b) e) (Whole (w, (items, tt)) rest) (more_of w (items, tt) x (more_of items tt (of y) all_done)))
      (λ f rest y. made_stops (g.production_items b (Some an.Word)) (ap (g.production_items b) e) (stop_later w x (stop_here (of y))))

  pub item_word_stops : (b : Bool) (ts r : Tokens) (f : ParseFault) → form.item b (look ts) ≡ Some an.Word → IsSign deep_64 d end AWord ts (Stop f r) → IsRule deep_64 d end (g.SimpleItems b) ts (Stop f r)
  item_word_stops b ts r f e x = made_stops (g.production_items b (Some an.Word)) (ap (g.production_items b) e) (stop_here x)

  pub item_redirect : (b : Bool) (begun now : Items) (ts : Tokens) (at : ℕ) (which : Redirect) → form.item b (look (drop at ts)) ≡ Some (an.Redirection which) → now ≡ tree.joined begun (tree.a_redirect which) → ItemsFrom d end b begun (drop at ts) b now (drop (at + 1) ts)
  item_redirect b begun now ts at which e f = one_before b b begun now (tree.a_redirect which) (drop at ts) (drop (at + 1) ts) f
      (λ items rest y. made (g.production_items b (Some (an.Redirection which))) (ap (g.production_items b) e) (Whole (place end (drop at ts), (items, tt)) rest) (more_of _ (items, tt) (there ts at (redirect_look b _ which e)) (more_of items tt (of y) all_done)))
      (λ f rest y. made_stops (g.production_items b (Some (an.Redirection which))) (ap (g.production_items b) e) (stop_later _ (there ts at (redirect_look b _ which e)) (stop_here (of y))))

  -- ---- simple commands

  pub simple_ok : {ts r : Tokens} (none all : Items) (n : ℕ) (t : Command) → none ≡ tree.no_items → n ≡ place end ts → t ≡ tree.simple n all → form.command_form (look ts) ≡ Some command.Simple → ItemsGiven d end false none ts all r → IsRule deep_64 d end g.ACommand ts (Whole t r)
  simple_ok {ts = ts} {r = r} none all n t i h k e x = subst (λ t. IsRule deep_64 d end g.ACommand ts (Whole t r)) (ap (λ n. tree.simple n x.items) (sym h) ∙ ap (tree.simple n) (sym (x.joins ∙ ap (λ i. tree.joined i x.items) i)) ∙ sym k) (made (g.production_command (Some command.Simple)) (ap g.production_command e) (Whole (place end ts, (x.items, tt)) r) (more_of _ (x.items, tt) (here refl) (more_of x.items tt (of x.reads) all_done)))

  pub simple_stops : {ts r : Tokens} (f : ParseFault) → form.command_form (look ts) ≡ Some command.Simple → IsRule deep_64 d end (g.SimpleItems false) ts (Stop f r) → IsRule deep_64 d end g.ACommand ts (Stop f r)
  simple_stops {ts = ts} f e x = made_stops (g.production_command (Some command.Simple)) (ap g.production_command e) (stop_later (place end ts) (here refl) (stop_here (of x)))

  -- ---- commands that begin with a name

  by_name : {ts r r2 : Tokens} (w : Word) (x : tree.Tail) → form.command_form (look ts) ≡ Some command.Named → IsSign deep_64 d end AWord ts (Whole w r) → IsRule deep_64 d end g.Named r (Whole x r2) → IsRule deep_64 d end g.ACommand ts (Whole (tree.named (place end ts) w x) r2)
  by_name {ts = ts} {r2 = r2} w x e s m = made (g.production_command (Some command.Named)) (ap g.production_command e) (Whole (place end ts, (w, (x, tt))) r2) (more_of _ (w, (x, tt)) (here refl) (more_of w (x, tt) s (more_of x tt (of m) all_done)))

  pub named_word : {ts r : Tokens} (f : ParseFault) → form.command_form (look ts) ≡ Some command.Named → IsSign deep_64 d end AWord ts (Stop f r) → IsRule deep_64 d end g.ACommand ts (Stop f r)
  named_word {ts = ts} f e s = made_stops (g.production_command (Some command.Named)) (ap g.production_command e) (stop_later (place end ts) (here refl) (stop_here s))

  named_stops : {ts r r2 : Tokens} (w : Word) (f : ParseFault) → form.command_form (look ts) ≡ Some command.Named → IsSign deep_64 d end AWord ts (Whole w r) → IsRule deep_64 d end g.Named r (Stop f r2) → IsRule deep_64 d end g.ACommand ts (Stop f r2)
  named_stops {ts = ts} w f e s m = made_stops (g.production_command (Some command.Named)) (ap g.production_command e) (stop_later (place end ts) (here refl) (stop_later w s (stop_here (of m))))

  pub define_ok : {ts r r2 : Tokens} (w : Word) (x : Command) (n : ℕ) (name : Text) → n ≡ place end ts → name ≡ tree.word_text w → form.command_form (look ts) ≡ Some command.Named → IsSign deep_64 d end AWord ts (Whole w r) → IsRule deep_64 d end g.Named r (Whole (tree.Defines x) r2) → IsRule deep_64 d end g.ACommand ts (Whole (c.Define n name x) r2)
  define_ok {ts = ts} {r2 = r2} w x n name h i e s m = subst (λ t. IsRule deep_64 d end g.ACommand ts (Whole t r2)) (ap (λ n. c.Define n (tree.word_text w) x) (sym h) ∙ ap (λ t. c.Define n t x) (sym i)) (by_name w (tree.Defines x) e s m)

  pub define_stops : {ts r r2 : Tokens} (w : Word) (f : ParseFault) → form.command_form (look ts) ≡ Some command.Named → IsSign deep_64 d end AWord ts (Whole w r) → IsRule deep_64 d end g.Named r (Stop f r2) → IsRule deep_64 d end g.ACommand ts (Stop f r2)
  define_stops w f e s m = named_stops w f e s m

  pub continue_ok : {ts r r2 : Tokens} (w : Word) (none begun all : Items) (n : ℕ) (t : Command) → none ≡ tree.no_items → begun ≡ tree.joined none (tree.a_word w) → n ≡ place end ts → t ≡ tree.simple n all → form.command_form (look ts) ≡ Some command.Named → IsSign deep_64 d end AWord ts (Whole w r) → (look r ≡ LeftParen → ⊥) → ItemsGiven d end true begun r all r2 → IsRule deep_64 d end g.ACommand ts (Whole t r2)
  continue_ok {ts = ts} {r2 = r2} w none begun all n t i j h k e s p x = subst (λ t. IsRule deep_64 d end g.ACommand ts (Whole t r2)) (ap (λ n. tree.simple n (tree.joined (tree.a_word w) x.items)) (sym h) ∙ ap (tree.simple n) (sym (x.joins ∙ ap (λ i. tree.joined i x.items) (j ∙ ap (λ i. tree.joined i (tree.a_word w)) i))) ∙ sym k) (by_name w (tree.Continues x.items) e s (made _ (named_simple _ p) (Whole (x.items, tt) r2) (more_of x.items tt (of x.reads) all_done)))

  pub continue_stops : {ts r r2 : Tokens} (w : Word) (f : ParseFault) → form.command_form (look ts) ≡ Some command.Named → IsSign deep_64 d end AWord ts (Whole w r) → (look r ≡ LeftParen → ⊥) → IsRule deep_64 d end (g.SimpleItems true) r (Stop f r2) → IsRule deep_64 d end g.ACommand ts (Stop f r2)
  continue_stops w f e s p m = named_stops w f e s (made_stops _ (named_simple _ p) (stop_here (of m)))

  -- ---- the body of a function

  pub definition_ok : {ts r r2 r3 r4 : Tokens} (v v2 : ℕ) (x : Command) → look ts ≡ LeftParen → IsSign deep_64 d end (Is LeftParen) ts (Whole v r) → IsSign deep_64 d end (Is RightParen) r (Whole v2 r2) → IsRule deep_64 d end g.Newlines r2 (Whole tt r3) → IsRule deep_64 d end g.Braces r3 (Whole x r4) → IsRule deep_64 d end g.Named ts (Whole (tree.Defines x) r4)
  definition_ok {r4 = r4} v v2 x l s s2 n m = ruled LeftParen l (Whole (v, (v2, (tt, (x, tt)))) r4) (more_of v (v2, (tt, (x, tt))) s (more_of v2 (tt, (x, tt)) s2 (more_of tt (x, tt) (of n) (more_of x tt (of m) all_done))))

  pub definition_open : {ts r : Tokens} (f : ParseFault) → look ts ≡ LeftParen → IsSign deep_64 d end (Is LeftParen) ts (Stop f r) → IsRule deep_64 d end g.Named ts (Stop f r)
  definition_open f l s = rule_stops LeftParen l (stop_here s)

  pub definition_close : {ts r r2 : Tokens} (v : ℕ) (f : ParseFault) → look ts ≡ LeftParen → IsSign deep_64 d end (Is LeftParen) ts (Whole v r) → IsSign deep_64 d end (Is RightParen) r (Stop f r2) → IsRule deep_64 d end g.Named ts (Stop f r2)
  definition_close v f l s s2 = rule_stops LeftParen l (stop_later v s (stop_here s2))

  pub definition_body : {ts r r2 r3 r4 : Tokens} (v v2 : ℕ) (f : ParseFault) → look ts ≡ LeftParen → IsSign deep_64 d end (Is LeftParen) ts (Whole v r) → IsSign deep_64 d end (Is RightParen) r (Whole v2 r2) → IsRule deep_64 d end g.Newlines r2 (Whole tt r3) → IsRule deep_64 d end g.Braces r3 (Stop f r4) → IsRule deep_64 d end g.Named ts (Stop f r4)
  definition_body v v2 f l s s2 n m = rule_stops LeftParen l (stop_later v s (stop_later v2 s2 (stop_later tt (of n) (stop_here (of m)))))
