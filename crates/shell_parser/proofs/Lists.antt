-- Steps over newlines, lists, and-or lists, pipelines and redirections, and a script as a whole.
use Rattle.std.proofs.Common.{◌≡◌, ◌≤◌, ℕ, ◌+◌, Result, Ok, Err, arith, Bool, true, false, List, [], ◌∷◌, ◌++◌, Some, None, refl, sym, ap, ◌∙◌, subst, drop, append-nil}
use Rattle.shell_grammar.specs.declared.fault.ParseFault.{ParseFault}
use Rattle.shell_grammar.specs.declared.fault.ParseFault.TheVariants.{Syntax}
use Rattle.shell_grammar.specs.declared.look.Look.{Look}
use Rattle.shell_grammar.specs.declared.look.Look.TheVariants.{AtEnd, Newline, Bar, Redirection, Keyword}
use Rattle.shell_grammar.specs.declared.look.Reserved.TheVariants.{Bang}
use Rattle.shell_syntax.specs.declared.syntax.Command.{Command}
use Rattle.shell_syntax.specs.declared.syntax.Command.TheVariants as c
use Rattle.shell_syntax.specs.declared.syntax.Link.{Link}
use Rattle.shell_syntax.specs.declared.redirect.Redirect.{Redirect}
use Rattle.shell_grammar.specs.Look.{Tokens, look, behind, place}
use Rattle.shell_grammar.specs.Forms as form
use Rattle.shell_grammar.specs.Trees as tree
use Rattle.shell_grammar.specs.Grammar as g
use Rattle.shell_grammar.specs.Grammar.{Rule, Sign, Is, Opens, AWord, Here, Never, Of, Inside, Tree, Value, Values, Production, production}
use Rattle.shell_grammar.specs.Reading.{Out, Whole, Stop, turned, IsRule, rule, is, is_not, here, of}
use Rattle.shell_grammar.specs.Spelling.{deep_64}
use Rattle.shell_parser.specs.Reads.{Stops, Gives, Reads}
use Rattle.shell_parser.specs.Reads.{MembersFrom, LinksFrom, BarsFrom, RedirectsFrom}
use Rattle.shell_parser.proofs.Steps.{list_begins, list_goes, made, ruled, made_stops, rule_stops, more_of, stop_later, stop_here, all_done, there, passed_on}

redirect_at : (l : Look) (which : Redirect) → form.redirection l ≡ Some which → l ≡ Redirection which
redirect_at (Redirection w) which e = ap Redirection (cc e)
redirect_at _ which e = absurd (cc e)

plain_pipeline : (l : Look) → (l ≡ Keyword Bang → ⊥) → production g.Pipeline l ≡ record { signs = Of g.Piped ∷ []; tree = λ v. v.0 }
plain_pipeline (Keyword Bang) e = absurd (e refl)
plain_pipeline l e = refl

no_bars : (l : Look) → (l ≡ Bar → ⊥) → production g.Bars l ≡ record { signs = []; tree = λ v. [] }
no_bars Bar e = absurd (e refl)
no_bars l e = refl

a_body : (l : Look) → (l ≡ AtEnd → ⊥) → production g.Body l ≡ record { signs = Of g.Members ∷ []; tree = λ v. v.0 }
a_body AtEnd h = absurd (h refl)
a_body l h = refl

module _ {d end : ℕ} where
  -- ---- newlines

  pub newline_more : (ts : Tokens) (at : ℕ) (q : Out (Unit {0})) → look (drop at ts) ≡ Newline → IsRule deep_64 d end g.Newlines (drop (at + 1) ts) q → IsRule deep_64 d end g.Newlines (drop at ts) q
  newline_more ts at (Whole v r) e x = ruled Newline e (Whole (place end (drop at ts), (v, tt)) r) (more_of _ (v, tt) (there ts at e) (more_of v tt (of x) all_done))
  newline_more ts at (Stop f r) e x = rule_stops Newline e (stop_later _ (there ts at e) (stop_here (of x)))

  pub newlines_end : (l : Look) (ts : Tokens) → look ts ≡ l → (l ≡ Newline → ⊥) → IsRule deep_64 d end g.Newlines ts (Whole tt ts)
  newlines_end Newline ts e h = absurd (h refl)
  newlines_end l ts e h = ruled l e (Whole tt ts) all_done

  -- ---- a list

  members_first : {ts r : Tokens} (x : Command) (q : Out (List Command)) → IsRule deep_64 d end g.AndOr ts (Whole x r) → IsRule deep_64 d end g.More r q → IsRule deep_64 d end g.Members ts (turned (λ us. tree.seq_of (x ∷ us)) q)
  members_first {ts = ts} x (Whole us r2) a m = rule (Whole (x, (us, tt)) r2) (more_of x (us, tt) (of a) (more_of us tt (of m) all_done)) refl
  members_first {ts = ts} x (Stop f r2) a m = rule (Stop f r2) (stop_later x (of a) (stop_here (of m))) refl

  pub members_stop : {ts r : Tokens} {f : ParseFault} → IsRule deep_64 d end g.AndOr ts (Stop f r) → IsRule deep_64 d end g.Members ts (Stop f r)
  members_stop {r = r} {f = f} a = rule (Stop f r) (stop_here (of a)) refl

  -- behind a separator and newlines
  behind_goes : {ts r : Tokens} → form.starts (look ts) ≡ true → (x : Command) (q : Out (List Command)) → IsRule deep_64 d end g.AndOr ts (Whole x r) → IsRule deep_64 d end g.More r q → IsRule deep_64 d end g.Behind ts (turned (λ us. x ∷ us) q)
  behind_goes {ts} s x (Whole us r2) a m = made (g.production_behind true) (ap g.production_behind s) (Whole (x, (us, tt)) r2) (more_of x (us, tt) (of a) (more_of us tt (of m) all_done))
  behind_goes {ts} s x (Stop f r2) a m = made_stops (g.production_behind true) (ap g.production_behind s) (stop_later x (of a) (stop_here (of m)))

  behind_stops : {ts r : Tokens} {f : ParseFault} → form.starts (look ts) ≡ true → IsRule deep_64 d end g.AndOr ts (Stop f r) → IsRule deep_64 d end g.Behind ts (Stop f r)
  behind_stops s a = made_stops (g.production_behind true) (ap g.production_behind s) (stop_here (of a))

  behind_ends : {ts : Tokens} → form.starts (look ts) ≡ false → IsRule deep_64 d end g.Behind ts (Whole [] ts)
  behind_ends {ts} s = made (g.production_behind false) (ap g.production_behind s) (Whole tt ts) all_done

  more_by : (ts : Tokens) (at : ℕ) (r : Tokens) (q : Out (List Command)) → form.is_separator (look (drop at ts)) ≡ true → IsRule deep_64 d end g.Newlines (drop (at + 1) ts) (Whole tt r) → IsRule deep_64 d end g.Behind r q → IsRule deep_64 d end g.More (drop at ts) q
  more_by ts at r (Whole us r2) s n b = made (g.production_more (look (drop at ts)) true) (ap (g.production_more (look (drop at ts))) s) (Whole (place end (drop at ts), (tt, (us, tt))) r2) (more_of _ (tt, (us, tt)) (there ts at refl) (more_of tt (us, tt) (of n) (more_of us tt (of b) all_done)))
  more_by ts at r (Stop f r2) s n b = made_stops (g.production_more (look (drop at ts)) true) (ap (g.production_more (look (drop at ts))) s) (stop_later _ (there ts at refl) (stop_later tt (of n) (stop_here (of b))))

  more_none : (ts : Tokens) → form.is_separator (look ts) ≡ false → IsRule deep_64 d end g.More ts (Whole [] ts)
  more_none ts s = made (g.production_more (look ts) false) (ap (g.production_more (look ts)) s) (Whole tt ts) all_done

  pub members_begin : (all r : Tokens) (x : Command) (none xs : List Command) → none ≡ [] → xs ≡ none ++ x ∷ [] → IsRule deep_64 d end g.AndOr all (Whole x r) → MembersFrom d end all r xs
  members_begin all r x none xs e f a q m = subst (λ xs. IsRule deep_64 d end g.Members all (turned (λ us. tree.seq_of (xs ++ us)) q)) (sym (f ∙ ap (λ l. l ++ x ∷ []) e)) (members_first x q a m)

  pub members_goes : (all ts : Tokens) (at : ℕ) (r r2 : Tokens) (x : Command) (xs ys : List Command) → MembersFrom d end all (drop at ts) xs → form.is_separator (look (drop at ts)) ≡ true → IsRule deep_64 d end g.Newlines (drop (at + 1) ts) (Whole tt r)
      → form.starts (look r) ≡ true → IsRule deep_64 d end g.AndOr r (Whole x r2) → ys ≡ xs ++ x ∷ [] → MembersFrom d end all r2 ys
  members_goes all ts at r r2 x xs ys inv s n st a f q m = list_goes (IsRule deep_64 d end g.Members all) tree.seq_of xs ys x f q (inv (turned (λ us. x ∷ us) q) (more_by ts at r _ s n (behind_goes st x q a m)))

  pub members_stops : (all ts : Tokens) (at : ℕ) (r r2 : Tokens) (f : ParseFault) (xs : List Command) → MembersFrom d end all (drop at ts) xs → form.is_separator (look (drop at ts)) ≡ true → IsRule deep_64 d end g.Newlines (drop (at + 1) ts) (Whole tt r)
      → form.starts (look r) ≡ true → IsRule deep_64 d end g.AndOr r (Stop f r2) → IsRule deep_64 d end g.Members all (Stop f r2)
  members_stops all ts at r r2 f xs inv s n st a = inv (Stop f r2) (more_by ts at r _ s n (behind_stops st a))

  pub members_last : (all ts : Tokens) (at : ℕ) (r : Tokens) (xs : List Command) (t : Command) → t ≡ tree.seq_of xs → MembersFrom d end all (drop at ts) xs → form.is_separator (look (drop at ts)) ≡ true → IsRule deep_64 d end g.Newlines (drop (at + 1) ts) (Whole tt r)
      → form.starts (look r) ≡ false → IsRule deep_64 d end g.Members all (Whole t r)
  members_last all ts at r xs t h inv s n st = subst (λ t. IsRule deep_64 d end g.Members all (Whole t r)) (ap tree.seq_of (append-nil xs) ∙ sym h) (inv (Whole [] r) (more_by ts at r _ s n (behind_ends st)))

  pub members_end : (all ts : Tokens) (xs : List Command) (t : Command) → t ≡ tree.seq_of xs → MembersFrom d end all ts xs → form.is_separator (look ts) ≡ false → IsRule deep_64 d end g.Members all (Whole t ts)
  members_end all ts xs t h inv s = subst (λ t. IsRule deep_64 d end g.Members all (Whole t ts)) (ap tree.seq_of (append-nil xs) ∙ sym h) (inv (Whole [] ts) (more_none ts s))

  -- ---- and-or lists

  pub links_begin : (all r : Tokens) (x : Command) (xs : List Link) → xs ≡ [] → IsRule deep_64 d end g.Pipeline all (Whole x r) → LinksFrom d end all r x xs
  links_begin all r x xs e a (Whole us r2) m = subst (λ xs. IsRule deep_64 d end g.AndOr all (Whole (tree.chain_of x (xs ++ us)) r2)) (sym e) (rule (Whole (x, (us, tt)) r2) (more_of x (us, tt) (of a) (more_of us tt (of m) all_done)) refl)
  links_begin all r x xs e a (Stop f r2) m = rule (Stop f r2) (stop_later x (of a) (stop_here (of m))) refl

  pub and_or_stops : {ts r : Tokens} {f : ParseFault} → IsRule deep_64 d end g.Pipeline ts (Stop f r) → IsRule deep_64 d end g.AndOr ts (Stop f r)
  and_or_stops {r = r} {f = f} a = rule (Stop f r) (stop_here (of a)) refl

  links_by : (ts : Tokens) (at : ℕ) (r r2 : Tokens) (b : Bool) (x : Command) (q : Out (List Link)) → form.link_and (look (drop at ts)) ≡ Some b → IsRule deep_64 d end g.Newlines (drop (at + 1) ts) (Whole tt r) → IsRule deep_64 d end g.Pipeline r (Whole x r2) → IsRule deep_64 d end g.Links r2 q → IsRule deep_64 d end g.Links (drop at ts) (turned (λ us. tree.link b x ∷ us) q)
  links_by ts at r r2 b x (Whole us r3) s n a m = made (g.production_links (look (drop at ts)) (Some b)) (ap (g.production_links (look (drop at ts))) s) (Whole (place end (drop at ts), (tt, (x, (us, tt)))) r3) (more_of _ (tt, (x, (us, tt))) (there ts at refl) (more_of tt (x, (us, tt)) (of n) (more_of x (us, tt) (of a) (more_of us tt (of m) all_done))))
  links_by ts at r r2 b x (Stop f r3) s n a m = made_stops (g.production_links (look (drop at ts)) (Some b)) (ap (g.production_links (look (drop at ts))) s) (stop_later _ (there ts at refl) (stop_later tt (of n) (stop_later x (of a) (stop_here (of m)))))

  links_none : (ts : Tokens) → form.link_and (look ts) ≡ None → IsRule deep_64 d end g.Links ts (Whole [] ts)
  links_none ts s = made (g.production_links (look ts) None) (ap (g.production_links (look ts)) s) (Whole tt ts) all_done

  pub links_goes : (all ts : Tokens) (at : ℕ) (r r2 : Tokens) (b : Bool) (x y : Command) (xs ys : List Link) → LinksFrom d end all (drop at ts) x xs → form.link_and (look (drop at ts)) ≡ Some b → IsRule deep_64 d end g.Newlines (drop (at + 1) ts) (Whole tt r)
      → IsRule deep_64 d end g.Pipeline r (Whole y r2) → ys ≡ xs ++ tree.link b y ∷ [] → LinksFrom d end all r2 x ys
  links_goes all ts at r r2 b x y xs ys inv s n a f q m = list_goes (IsRule deep_64 d end g.AndOr all) (tree.chain_of x) xs ys (tree.link b y) f q (inv (turned (λ us. tree.link b y ∷ us) q) (links_by ts at r r2 b y q s n a m))

  pub links_stops : (all ts : Tokens) (at : ℕ) (r r2 : Tokens) (b : Bool) (f : ParseFault) (x : Command) (xs : List Link) → LinksFrom d end all (drop at ts) x xs → form.link_and (look (drop at ts)) ≡ Some b → IsRule deep_64 d end g.Newlines (drop (at + 1) ts) (Whole tt r)
      → IsRule deep_64 d end g.Pipeline r (Stop f r2) → IsRule deep_64 d end g.AndOr all (Stop f r2)
  links_stops all ts at r r2 b f x xs inv s n a = inv (Stop f r2) (made_stops (g.production_links (look (drop at ts)) (Some b)) (ap (g.production_links (look (drop at ts))) s) (stop_later _ (there ts at refl) (stop_later tt (of n) (stop_here (of a)))))

  pub links_end : (all ts : Tokens) (x : Command) (xs : List Link) (t : Command) → t ≡ tree.chain_of x xs → LinksFrom d end all ts x xs → form.link_and (look ts) ≡ None → IsRule deep_64 d end g.AndOr all (Whole t ts)
  links_end all ts x xs t h inv s = subst (λ t. IsRule deep_64 d end g.AndOr all (Whole t ts)) (ap (tree.chain_of x) (append-nil xs) ∙ sym h) (inv (Whole [] ts) (links_none ts s))

  -- ---- pipelines

  pub bars_begin : (all r : Tokens) (x : Command) (none xs : List Command) → none ≡ [] → xs ≡ none ++ x ∷ [] → IsRule deep_64 d end g.ACommand all (Whole x r) → BarsFrom d end all r xs
  bars_begin all r x none xs e f a (Whole us r2) m =
      subst (λ xs. IsRule deep_64 d end g.Piped all (Whole (tree.pipe_of (place end all) (xs ++ us)) r2)) (sym (f ∙ ap (λ l. l ++ x ∷ []) e)) (rule (Whole (place end all, (x, (us, tt))) r2) (more_of _ (x, (us, tt)) (here refl) (more_of x (us, tt) (of a) (more_of us tt (of m) all_done))) refl)
  bars_begin all r x none xs e f a (Stop h r2) m = rule (Stop h r2) (stop_later (place end all) (here refl) (stop_later x (of a) (stop_here (of m)))) refl

  pub piped_stops : {ts r : Tokens} {f : ParseFault} → IsRule deep_64 d end g.ACommand ts (Stop f r) → IsRule deep_64 d end g.Piped ts (Stop f r)
  piped_stops {ts = ts} {r = r} {f = f} a = rule (Stop f r) (stop_later (place end ts) (here refl) (stop_here (of a))) refl

  bars_by : (ts : Tokens) (at : ℕ) (r r2 : Tokens) (x : Command) (q : Out (List Command)) → look (drop at ts) ≡ Bar → IsRule deep_64 d end g.Newlines (drop (at + 1) ts) (Whole tt r) → IsRule deep_64 d end g.ACommand r (Whole x r2) → IsRule deep_64 d end g.Bars r2 q → IsRule deep_64 d end g.Bars (drop at ts) (turned (λ us. x ∷ us) q)
  bars_by ts at r r2 x (Whole us r3) e n a m = ruled Bar e (Whole (place end (drop at ts), (tt, (x, (us, tt)))) r3) (more_of _ (tt, (x, (us, tt))) (there ts at e) (more_of tt (x, (us, tt)) (of n) (more_of x (us, tt) (of a) (more_of us tt (of m) all_done))))
  bars_by ts at r r2 x (Stop f r3) e n a m = rule_stops Bar e (stop_later _ (there ts at e) (stop_later tt (of n) (stop_later x (of a) (stop_here (of m)))))

  pub bars_goes : (all ts : Tokens) (at : ℕ) (r r2 : Tokens) (x : Command) (xs ys : List Command) → BarsFrom d end all (drop at ts) xs → look (drop at ts) ≡ Bar → IsRule deep_64 d end g.Newlines (drop (at + 1) ts) (Whole tt r)
      → IsRule deep_64 d end g.ACommand r (Whole x r2) → ys ≡ xs ++ x ∷ [] → BarsFrom d end all r2 ys
  bars_goes all ts at r r2 x xs ys inv s n a f q m = list_goes (IsRule deep_64 d end g.Piped all) (tree.pipe_of (place end all)) xs ys x f q (inv (turned (λ us. x ∷ us) q) (bars_by ts at r r2 x q s n a m))

  pub bars_stops : (all ts : Tokens) (at : ℕ) (r r2 : Tokens) (f : ParseFault) (xs : List Command) → BarsFrom d end all (drop at ts) xs → look (drop at ts) ≡ Bar → IsRule deep_64 d end g.Newlines (drop (at + 1) ts) (Whole tt r)
      → IsRule deep_64 d end g.ACommand r (Stop f r2) → IsRule deep_64 d end g.Piped all (Stop f r2)
  bars_stops all ts at r r2 f xs inv s n a = inv (Stop f r2) (rule_stops Bar s (stop_later _ (there ts at s) (stop_later tt (of n) (stop_here (of a)))))

  pub bars_end : (all ts : Tokens) (xs : List Command) (n : ℕ) (t : Command) → n ≡ place end all → t ≡ tree.pipe_of n xs → BarsFrom d end all ts xs → (look ts ≡ Bar → ⊥) → IsRule deep_64 d end g.Piped all (Whole t ts)
  bars_end all ts xs n t h k inv s = subst (λ t. IsRule deep_64 d end g.Piped all (Whole t ts)) (ap (tree.pipe_of (place end all)) (append-nil xs) ∙ ap (λ n. tree.pipe_of n xs) (sym h) ∙ sym k) (inv (Whole [] ts) (made _ (no_bars _ s) (Whole tt ts) all_done))

  pub piped_one : (all ts : Tokens) (x : Command) → IsRule deep_64 d end g.ACommand all (Whole x ts) → (look ts ≡ Bar → ⊥) → IsRule deep_64 d end g.Piped all (Whole x ts)
  piped_one all ts x a s = bars_end all ts (x ∷ []) (place end all) x refl refl (bars_begin all ts x [] (x ∷ []) refl refl a) s

  pub pipeline_bang : (ts : Tokens) (at : ℕ) (r : Tokens) (x : Command) (n : ℕ) → n ≡ place end (drop at ts) → look (drop at ts) ≡ Keyword Bang → IsRule deep_64 d end g.Piped (drop (at + 1) ts) (Whole x r) → IsRule deep_64 d end g.Pipeline (drop at ts) (Whole (c.Not n x) r)
  pipeline_bang ts at r x n h e a = subst (λ n. IsRule deep_64 d end g.Pipeline (drop at ts) (Whole (c.Not n x) r)) (sym h) (ruled (Keyword Bang) e (Whole (place end (drop at ts), (x, tt)) r) (more_of _ (x, tt) (there ts at e) (more_of x tt (of a) all_done)))

  pub bang_stops : (ts : Tokens) (at : ℕ) (r : Tokens) (f : ParseFault) → look (drop at ts) ≡ Keyword Bang → IsRule deep_64 d end g.Piped (drop (at + 1) ts) (Stop f r) → IsRule deep_64 d end g.Pipeline (drop at ts) (Stop f r)
  bang_stops ts at r f e a = rule_stops (Keyword Bang) e (stop_later _ (there ts at e) (stop_here (of a)))

  pipeline_plain : {ts r : Tokens} (x : Command) → (look ts ≡ Keyword Bang → ⊥) → IsRule deep_64 d end g.Piped ts (Whole x r) → IsRule deep_64 d end g.Pipeline ts (Whole x r)
  pipeline_plain {r = r} x e a = made _ (plain_pipeline _ e) (Whole (x, tt) r) (more_of x tt (of a) all_done)

  plain_stops : {ts r : Tokens} (f : ParseFault) → (look ts ≡ Keyword Bang → ⊥) → IsRule deep_64 d end g.Piped ts (Stop f r) → IsRule deep_64 d end g.Pipeline ts (Stop f r)
  plain_stops {r = r} f e a = made _ (plain_pipeline _ e) (Stop f r) (stop_here (of a))

  -- ---- redirections

  redirects_by : (ts : Tokens) (at : ℕ) (which : Redirect) (q : Out (List Redirect)) → look (drop at ts) ≡ Redirection which → IsRule deep_64 d end g.Redirects (drop (at + 1) ts) q → IsRule deep_64 d end g.Redirects (drop at ts) (turned (λ us. which ∷ us) q)
  redirects_by ts at which (Whole us r) e m = ruled (Redirection which) e (Whole (place end (drop at ts), (us, tt)) r) (more_of _ (us, tt) (there ts at e) (more_of us tt (of m) all_done))
  redirects_by ts at which (Stop f r) e m = rule_stops (Redirection which) e (stop_later _ (there ts at e) (stop_here (of m)))

  pub redirects_begin : (all : Tokens) (xs : List Redirect) → xs ≡ [] → RedirectsFrom d end all all xs
  redirects_begin all xs e q m = list_begins (IsRule deep_64 d end g.Redirects all) xs e q m

  pub redirects_goes : (all ts : Tokens) (at : ℕ) (which : Redirect) (xs ys : List Redirect) → RedirectsFrom d end all (drop at ts) xs → form.redirection (look (drop at ts)) ≡ Some which → ys ≡ xs ++ which ∷ [] → RedirectsFrom d end all (drop (at + 1) ts) ys
  redirects_goes all ts at which xs ys inv e f q m = list_goes (IsRule deep_64 d end g.Redirects all) (λ l. l) xs ys which f q (inv (turned (λ us. which ∷ us) q) (redirects_by ts at which q (redirect_at _ which e) m))

  pub redirects_end : (all ts : Tokens) (xs : List Redirect) → RedirectsFrom d end all ts xs → form.redirection (look ts) ≡ None → IsRule deep_64 d end g.Redirects all (Whole xs ts)
  redirects_end all ts xs inv e = subst (λ ys. IsRule deep_64 d end g.Redirects all (Whole ys ts)) (append-nil xs) (inv (Whole [] ts) (made (g.production_redirects None) (ap g.production_redirects e) (Whole tt ts) all_done))

  -- ---- blocks and scripts

  block_ok : {ts r r2 : Tokens} (x : Command) → IsRule deep_64 d end g.Newlines ts (Whole tt r) → IsRule deep_64 d end g.Members r (Whole x r2) → IsRule deep_64 d end g.Block ts (Whole x r2)
  block_ok {r2 = r2} x n m = rule (Whole (tt, (x, tt)) r2) (more_of tt (x, tt) (of n) (more_of x tt (of m) all_done)) refl

  block_stops : {ts r r2 : Tokens} (f : ParseFault) → IsRule deep_64 d end g.Newlines ts (Whole tt r) → IsRule deep_64 d end g.Members r (Stop f r2) → IsRule deep_64 d end g.Block ts (Stop f r2)
  block_stops {r2 = r2} f n m = rule (Stop f r2) (stop_later tt (of n) (stop_here (of m))) refl

  script_empty : (ts r : Tokens) → IsRule deep_64 d end g.Newlines ts (Whole tt r) → look r ≡ AtEnd → IsRule deep_64 d end g.Script ts (Whole (c.Seq []) (behind r))
  script_empty ts r n e = rule (Whole (tt, (c.Seq [], (place end r, tt))) (behind r)) (more_of tt _ (of n) (more_of (c.Seq []) (place end r, tt) (of (ruled AtEnd e (Whole tt r) all_done)) (more_of (place end r) tt (is e refl) all_done))) refl

  pub script_none : (ts r : Tokens) (xs : List Command) (t : Command) → xs ≡ [] → t ≡ tree.seq_of xs → IsRule deep_64 d end g.Newlines ts (Whole tt r) → look r ≡ AtEnd → Gives d end g.Script ts t
  script_none ts r xs t f h n e = record { rest = behind r; reads = subst (λ t. IsRule deep_64 d end g.Script ts (Whole t (behind r))) (ap tree.seq_of (sym f) ∙ sym h) (script_empty ts r n e) }

  pub script_ok : (ts r r2 : Tokens) (x : Command) → IsRule deep_64 d end g.Newlines ts (Whole tt r) → (look r ≡ AtEnd → ⊥) → IsRule deep_64 d end g.Members r (Whole x r2) → look r2 ≡ AtEnd → Gives d end g.Script ts x
  script_ok ts r r2 x n h m e = record { rest = behind r2; reads = rule (Whole (tt, (x, (place end r2, tt))) (behind r2)) (more_of tt _ (of n) (more_of x (place end r2, tt) (of (made _ (a_body _ h) (Whole (x, tt) r2) (more_of x tt (of m) all_done))) (more_of (place end r2) tt (is e refl) all_done))) refl }

  pub script_stops : (ts r r2 : Tokens) (f : ParseFault) → IsRule deep_64 d end g.Newlines ts (Whole tt r) → (look r ≡ AtEnd → ⊥) → IsRule deep_64 d end g.Members r (Stop f r2) → IsRule deep_64 d end g.Script ts (Stop f r2)
  script_stops ts r r2 f n h m = rule (Stop f r2) (stop_later tt (of n) (stop_here (of (made _ (a_body _ h) (Stop f r2) (stop_here (of m)))))) refl

  pub script_more : (ts r r2 : Tokens) (x : Command) (n : ℕ) → IsRule deep_64 d end g.Newlines ts (Whole tt r) → (look r ≡ AtEnd → ⊥) → IsRule deep_64 d end g.Members r (Whole x r2) → (look r2 ≡ AtEnd → ⊥) → n ≡ place end r2 → Stops d end g.Script ts (Syntax n)
  script_more ts r r2 x n nl h m e f = record { rest = r2; reads = rule (Stop (Syntax n) r2) (stop_later tt (of nl) (stop_later x (of (made _ (a_body _ h) (Whole (x, tt) r2) (more_of x tt (of m) all_done))) (stop_here (is_not e (ap (λ n. Stop (Syntax n) r2) f))))) refl }

-- ---- what is read as what one of its signs is read as, with either outcome

-- a block is read as the list behind its newlines
pub block_reads : (d end : ℕ) (ts : Tokens) (at first : ℕ) (result : Result (Command × ℕ) ParseFault) → at ≤ first → IsRule deep_64 d end g.Newlines (drop at ts) (Whole tt (drop first ts)) → Reads d end g.Members ts first result → Reads d end g.Block ts at result
block_reads d end ts at first (Ok v) le n x = (omega (arith, le, x.0), x.1, block_ok v.0 n x.2)
block_reads d end ts at first (Err fault) le n x = passed_on (λ f r x. block_stops f n x) fault x

-- a pipeline without `!` is read as its commands are
pub plain_reads : (d end : ℕ) (ts : Tokens) (at : ℕ) (result : Result (Command × ℕ) ParseFault) → (look (drop at ts) ≡ Keyword Bang → ⊥) → Reads d end g.Piped ts at result → Reads d end g.Pipeline ts at result
plain_reads d end ts at (Ok v) e x = (x.0, x.1, pipeline_plain v.0 e x.2)
plain_reads d end ts at (Err fault) e x = passed_on (λ f r x. plain_stops f e x) fault x
