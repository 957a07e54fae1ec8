-- The first tokens of those that begin a rule begin it.
use Rattle.std.proofs.Common.{◌≡◌, ℕ, suc, List, [], ◌∷◌, ◌++◌, inl, inr, refl, sym, ap, ◌∙◌, subst, arith, length, length-append}
use Rattle.shell_lexer.specs.declared.token.Token.{Token}
use Rattle.shell_grammar.specs.Look.{Tokens, look, word, behind}
use Rattle.shell_grammar.specs.Grammar.{Rule, Sign, Of, Inside, Tree, Value, Values, production}
use Rattle.shell_grammar.specs.Reading.{Out, Whole, IsRule, rule, IsAll, no_more, one_more, one_stops, IsSign, is, is_not, opens, opens_not, too_deep, a_word, a_word_stops, no_word, here, never, of, inside}
use Rattle.shell_grammar.specs.Begins.{BeginsAll, begins_none, begins_first, begins_later, BeginsSign, begins_is, begins_opens, begins_word, begins_of, begins_inside, BeginsRule, begins_rule, Begins}
use Rattle.shell_grammar.proofs.Begun.{rest_of, rest_turned, again_sign, begun_sign}
use Rattle.shell_grammar.specs.WithoutRuns.{without_runs}
use Rattle.shell_grammar.specs.Spelling.{no_limit}
use Rattle.shell_grammar.proofs.Fronts.{tails, same_front, compare}
use Rattle.shell_grammar.proofs.RunsLeftOut.{append_without_runs}

nothing_left : (u w w1 ts : Tokens) → ts ≡ u ++ w → w ≡ w1 ++ ts → u ≡ []
nothing_left [] w w1 ts e f = refl
nothing_left (t ∷ u) w w1 ts e f = absurd (let g = ap length e ∙ length-append (t ∷ u) w in let h = ap length f ∙ length-append w1 ts in omega (arith, g, h))

nil_behind : (w : Tokens) → w ≡ w ++ []
nil_behind [] = refl
nil_behind (a ∷ w) = ap (λ x. a ∷ x) (nil_behind w)

no_tokens : (u w : Tokens) → [] ≡ u ++ w → u ≡ []
no_tokens [] w e = refl
no_tokens (a ∷ u) w e = absurd (cc e)

module _ (end : ℕ) where
  pub record First (d : ℕ) (ss : List Sign) (u : Tokens) : Type 0 where
    pub level : ℕ
    pub begins : BeginsAll end d ss u level

  first_none : (d : ℕ) (ss : List Sign) (u : Tokens) → u ≡ [] → First d ss u
  first_none d ss u e = record { level = d; begins = begins_none e refl }

  -- nothing or one token
  first_one : (d l : ℕ) (s : Sign) (ss : List Sign) (ts u w w1 : Tokens) → ts ≡ u ++ w → w ≡ w1 ++ behind ts → ((t : Token) (r : Tokens) → ts ≡ t ∷ r → BeginsSign end d s (t ∷ []) l) → First d (s ∷ ss) u
  first_one d l s ss ts [] w w1 e f make = first_none d (s ∷ ss) [] refl
  first_one d l s ss [] (t ∷ u) w w1 e f make = absurd (cc e)
  first_one d l s ss (a ∷ ts) (t ∷ u) w w1 e f make =
      let h = tails e in
      let none = nothing_left u w w1 ts h.1 f in
      record { level = l; begins = subst (λ x. BeginsAll end d (s ∷ ss) x l) (ap (λ a. a ∷ []) h.0 ∙ ap (λ u. t ∷ u) (sym none)) (begins_first (make a ts refl)) }

  first_of : (d : ℕ) (n : Rule) (ss : List Sign) (ts u w : Tokens) → ts ≡ u ++ w → First d (production n (look ts)).signs u → First d (Of n ∷ ss) u
  first_of d n ss ts [] w e x = first_none d (Of n ∷ ss) [] refl
  first_of d n ss ts (t ∷ u) w e x = record { level = x.level; begins = begins_first (begins_of (begins_rule (subst (λ y. BeginsAll end d (production n (look y)).signs (t ∷ u) x.level) e x.begins))) }

  first_inside : (d : ℕ) (n : Rule) (ss : List Sign) (ts u w : Tokens) → ts ≡ u ++ w → First (suc d) (production n (look ts)).signs u → First d (Inside n ∷ ss) u
  first_inside d n ss ts [] w e x = first_none d (Inside n ∷ ss) [] refl
  first_inside d n ss ts (t ∷ u) w e x = record { level = x.level; begins = begins_first (begins_inside (begins_rule (subst (λ y. BeginsAll end (suc d) (production n (look y)).signs (t ∷ u) x.level) e x.begins))) }

  -- behind a whole sign
  first_later : (d : ℕ) (s : Sign) (ss : List Sign) (ts f r0 u : Tokens) (v : Value s) → ts ≡ f ++ r0 → IsSign no_limit d end s ts (Whole v r0) → (t : Token) (u2 w : Tokens) → u ≡ f ++ t ∷ u2 → r0 ≡ t ∷ (u2 ++ w) → First d ss (t ∷ u2) → First d (s ∷ ss) u
  first_later d s ss ts f r0 u v e x t u2 w g h y =
      let a = again_sign x v t (u2 ++ w) (ap (Whole v) h) in
      let same = same_front a.front f (t ∷ (u2 ++ w)) (sym a.split ∙ e ∙ ap (λ r. f ++ r) h) in
      record { level = y.level; begins = subst (λ z. BeginsAll end d (s ∷ ss) z y.level) (ap (λ x. x ++ t ∷ u2) same ∙ sym g) (begins_later v t u2 (a.again u2) y.begins) }

  first_both : (d : ℕ) (s : Sign) (ss : List Sign) (ts r0 u w w1 rest : Tokens) (v : Value s) → IsSign no_limit d end s ts (Whole v r0) → ts ≡ u ++ w → w ≡ w1 ++ rest → ((w2 : Tokens) → w ≡ w2 ++ r0 → First d (s ∷ ss) u) → ((u2 : Tokens) → r0 ≡ u2 ++ w → First d ss u2) → First d (s ∷ ss) u
  first_both d s ss ts r0 u w w1 rest v x e f inner later =
      let b = begun_sign x in
      elim (compare u w b.front r0 (sym e ∙ b.split)) as (λ _. First d (s ∷ ss) u) [
        | inl k ↦ inner k.0 k.1
        | inr k ↦ first_later d s ss ts b.front r0 u v b.split x k.0 k.1 w k.2 k.3 (later (k.0 ∷ k.1) k.3)
      ]

  mutual
    pub whole_rule : {d : ℕ} {n : Rule} {ts : Tokens} {q : Out (Tree n)} → IsRule no_limit d end n ts q → (u w w1 : Tokens) → ts ≡ u ++ w → w ≡ w1 ++ rest_of q → First d (production n (look ts)).signs u
    whole_rule {n = n} {ts = ts} (rule q1 x e) u w w1 h k = whole_all x u w w1 h (k ∙ ap (λ r. w1 ++ r) (ap rest_of e ∙ rest_turned (production n (look ts)).tree q1))

    whole_all : {d : ℕ} {ss : List Sign} {ts : Tokens} {q : Out (Values ss)} → IsAll no_limit d end ss ts q → (u w w1 : Tokens) → ts ≡ u ++ w → w ≡ w1 ++ rest_of q → First d ss u
    whole_all {d} {ss} {ts} (no_more e) u w w1 h k = first_none d ss u (nothing_left u w w1 ts h (k ∙ ap (λ r. w1 ++ r) (ap rest_of e)))
    whole_all {d} {ts = ts} (one_more {s = s} {ss = ss} v r0 q1 s0 x e) u w w1 h k =
        first_both d s ss ts r0 u w w1 (rest_of q1) v s0 h (k ∙ ap (λ r. w1 ++ r) (ap rest_of e ∙ rest_turned (λ vs. (v, vs)) q1)) (λ w2 m. whole_sign s0 u w w2 h m ss)
        (λ u2 m. whole_all x u2 w w1 m (k ∙ ap (λ r. w1 ++ r) (ap rest_of e ∙ rest_turned (λ vs. (v, vs)) q1)))
    whole_all (one_stops {ss = ss} f r0 s0 e) u w w1 h k = whole_sign s0 u w w1 h (k ∙ ap (λ r. w1 ++ r) (ap rest_of e)) ss

    whole_sign : {d : ℕ} {s : Sign} {ts : Tokens} {q : Out (Value s)} → IsSign no_limit d end s ts q → (u w w1 : Tokens) → ts ≡ u ++ w → w ≡ w1 ++ rest_of q → (ss : List Sign) → First d (s ∷ ss) u
    whole_sign {d} {s} {ts} (is c e) u w w1 h k ss = first_one d d s ss ts u w w1 h (k ∙ ap (λ r. w1 ++ r) (ap rest_of e)) (λ t r g. begins_is t refl (ap look (sym g) ∙ c) refl)
    whole_sign {d} {s} {ts} (is_not c e) u w w1 h k ss = first_none d (s ∷ ss) u (nothing_left u w w1 ts h (k ∙ ap (λ r. w1 ++ r) (ap rest_of e)))
    whole_sign {d} {s} {ts} (opens c g e) u w w1 h k ss = first_one d (suc d) s ss ts u w w1 h (k ∙ ap (λ r. w1 ++ r) (ap rest_of e)) (λ t r m. begins_opens t refl (ap look (sym m) ∙ c) refl)
    whole_sign {d} {s} {ts} (opens_not c e) u w w1 h k ss = first_none d (s ∷ ss) u (nothing_left u w w1 ts h (k ∙ ap (λ r. w1 ++ r) (ap rest_of e)))
    whole_sign {d} {s} {ts} (too_deep c g e) u w w1 h k ss = first_none d (s ∷ ss) u (nothing_left u w w1 ts h (k ∙ ap (λ r. w1 ++ r) (ap rest_of e)))
    whole_sign {d} {s} {ts} (a_word raws ps c x e) u w w1 h k ss = first_one d d s ss ts u w w1 h (k ∙ ap (λ r. w1 ++ r) (ap rest_of e)) (λ t r m. begins_word t raws refl (ap word (sym m) ∙ c) refl)
    whole_sign {d} {s} {ts} (a_word_stops raws f c x e) u w w1 h k ss = first_one d d s ss ts u w w1 h (k ∙ ap (λ r. w1 ++ r) (ap rest_of e)) (λ t r m. begins_word t raws refl (ap word (sym m) ∙ c) refl)
    whole_sign {d} {s} {ts} (no_word c e) u w w1 h k ss = first_none d (s ∷ ss) u (nothing_left u w w1 ts h (k ∙ ap (λ r. w1 ++ r) (ap rest_of e)))
    whole_sign {d} {s} {ts} (here e) u w w1 h k ss = first_none d (s ∷ ss) u (nothing_left u w w1 ts h (k ∙ ap (λ r. w1 ++ r) (ap rest_of e)))
    whole_sign {d} {s} {ts} (never e) u w w1 h k ss = first_none d (s ∷ ss) u (nothing_left u w w1 ts h (k ∙ ap (λ r. w1 ++ r) (ap rest_of e)))
    whole_sign {d} {ts = ts} (of {n = n} x) u w w1 h k ss = first_of d n ss ts u w h (whole_rule x u w w1 h k)
    whole_sign {d} {ts = ts} (inside {n = n} x) u w w1 h k ss = first_inside d n ss ts u w h (whole_rule x u w w1 h k)

  one_first : (d l : ℕ) (s : Sign) (ss : List Sign) (t : Token) (x u w : Tokens) → x ≡ t ∷ [] → x ≡ u ++ w → BeginsSign end d s (t ∷ []) l → First d (s ∷ ss) u
  one_first d l s ss t x u w e h b = first_one d l s ss (t ∷ []) u w w (sym e ∙ h) (nil_behind w) (λ t2 r g. subst (λ y. BeginsSign end d s y l) (ap (λ a. a ∷ []) (tails g).0) b)

  mutual
    pub prefix_all : {d l : ℕ} {ss : List Sign} {x : Tokens} → BeginsAll end d ss x l → (u w : Tokens) → x ≡ u ++ w → First d ss u
    prefix_all {d} {ss = ss} (begins_none e g) u w h = first_none d ss u (no_tokens u w (sym e ∙ h))
    prefix_all (begins_first {ss = ss} b) u w h = prefix_sign b u w h ss
    prefix_all {d} {x = x} (begins_later {s = s} {ss = ss} v t rest s0 b) u w h =
        first_both d s ss x (t ∷ rest) u w w [] v s0 h (nil_behind w) (λ w2 m. whole_sign s0 u w w2 h m ss) (λ u2 m. prefix_all b u2 w m)

    pub prefix_sign : {d l : ℕ} {s : Sign} {x : Tokens} → BeginsSign end d s x l → (u w : Tokens) → x ≡ u ++ w → (ss : List Sign) → First d (s ∷ ss) u
    prefix_sign {d} {l} {s} {x} (begins_is t e k g) u w h ss = one_first d l s ss t x u w e h (begins_is t refl (ap look (sym e) ∙ k) g)
    prefix_sign {d} {l} {s} {x} (begins_opens t e k g) u w h ss = one_first d l s ss t x u w e h (begins_opens t refl (ap look (sym e) ∙ k) g)
    prefix_sign {d} {l} {s} {x} (begins_word t raws e k g) u w h ss = one_first d l s ss t x u w e h (begins_word t raws refl (ap word (sym e) ∙ k) g)
    prefix_sign {d} {x = x} (begins_of {n = n} b) u w h ss = first_of d n ss x u w h (prefix_rule b u w h)
    prefix_sign {d} {x = x} (begins_inside {n = n} b) u w h ss = first_inside d n ss x u w h (prefix_rule b u w h)

    pub prefix_rule : {d l : ℕ} {n : Rule} {x : Tokens} → BeginsRule end d n x l → (u w : Tokens) → x ≡ u ++ w → First d (production n (look x)).signs u
    prefix_rule (begins_rule b) u w h = prefix_all b u w h

-- what begins a script does so with its last tokens taken away
pub fewer_begin : (d end : ℕ) (u w : Tokens) (l : ℕ) → Begins d end (u ++ w) l → (l2 : ℕ) × Begins d end u l2
fewer_begin d end [] w l b = (d, begins_rule (begins_none refl refl))
fewer_begin d end (t ∷ u) w l b = let f = prefix_rule end b (without_runs (t ∷ u)) (without_runs w) (append_without_runs (t ∷ u) w) in (f.level, begins_rule f.begins)
