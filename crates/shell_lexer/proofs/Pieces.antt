-- What stands in a word, by the byte at a place.
use Rattle.std.proofs.Common.{◌≡◌, ℕ, ◌+◌, ◌<◌, Bool, true, false, None, [], ◌∷◌, refl, sym, ap, ◌∙◌, drop, take, length, get_or, IfOk, Result, Ok, Err}
use Rattle.std.proofs.lemmas.Bool.{false≢true}
use Rattle.shell_syntax.specs.declared.key.Key.{Key}
use Rattle.shell_lexer.specs.declared.token.RawPart.TheVariants.{Quoted}
use Rattle.shell_lexer.specs.declared.byte_kind.ByteKind.{ByteKind}
use Rattle.shell_lexer.specs.declared.byte_kind.ByteKind.TheVariants.{Blank, Newline, Semi, Amp, Bar, Open, Close, Less, Greater, Single, Double, Back, Tick, Dollar, Hash, Brace, At, Special, Digit, Name}
use Rattle.shell_lexer.specs.declared.sight.Look.{Look}
use Rattle.shell_lexer.specs.Seen.{seen_look}
use Rattle.shell_lexer.specs.Text.{Bytes, kind, skip, head_is, tail}
use Rattle.shell_lexer.specs.Parts as table
use Rattle.shell_lexer.proofs.Fronts.{Here, front, skip_front}

pub key_colon : (quoted : Bool) (dollar : ℕ) (key : Key) (t u : Bytes) → head_is 58 t ≡ true → u ≡ tail t → table.behind_colon quoted dollar key (skip u) ≡ table.behind_key quoted dollar key t
key_colon quoted dollar key t u e r = ap (λ u. table.behind_colon quoted dollar key (skip u)) r ∙ colon t e where
  colon : (t : Bytes) → head_is 58 t ≡ true → table.behind_colon quoted dollar key (skip (tail t)) ≡ table.behind_key quoted dollar key t
  colon [] e = absurd (false≢true e)
  colon (b ∷ rest) e = rw e

pub key_plain : (quoted : Bool) (dollar : ℕ) (key : Key) (t : Bytes) → head_is 58 t ≡ false → table.closed quoted dollar key None t ≡ table.behind_key quoted dollar key t
key_plain quoted dollar key [] e = refl
key_plain quoted dollar key (b ∷ rest) e = rw e

pub escaped_one : (s body : Bytes) (p q n b : ℕ) → p < length s → body ≡ take n (drop p s) → q ≡ p + 1 → n ≡ 1 → table.Piece (Quoted body) (drop q s) ≡ table.escaped b (drop p s)
escaped_one s body p q n b lt t e f =
    let g : drop p s ≡ get_or s p 0 ∷ drop (p + 1) s = front s p lt in
    let one : body ≡ get_or s p 0 ∷ [] = t ∙ ap (λ n. take n (drop p s)) f ∙ ap (λ (t : Bytes). take 1 t) g in
    ap (λ (t : Bytes). table.Piece (Quoted t) (drop q s)) one ∙ ap (λ q. table.Piece (Quoted (get_or s p 0 ∷ [])) (drop q s)) e ∙ sym (ap (table.escaped b) g)

pub look_front : (s : Bytes) (at : ℕ) (k : ByteKind) → at < length s → k ≡ kind (get_or s at 0) → table.look_by at (get_or s at 0) k (drop (at + 1) s) ≡ table.look_at at (drop at s)
look_front s at k lt e = ap (λ k. table.look_by at (get_or s at 0) k (drop (at + 1) s)) e ∙ sym (ap (table.look_at at) (front s at lt))

-- a byte of no other kind stands for itself
pub other_byte : (at b : ℕ) (rest : Bytes) (k : ByteKind) → (k ≡ Blank → ⊥) → (k ≡ Newline → ⊥) → (k ≡ Semi → ⊥) → (k ≡ Amp → ⊥) → (k ≡ Bar → ⊥) → (k ≡ Open → ⊥) → (k ≡ Close → ⊥) → (k ≡ Less → ⊥) → (k ≡ Greater → ⊥) → (k ≡ Single → ⊥) → (k ≡ Double → ⊥) → (k ≡ Back → ⊥) → (k ≡ Tick → ⊥) → (k ≡ Dollar → ⊥) → table.Byte b rest ≡ table.look_by at b k rest
other_byte at b rest Blank n _ _ _ _ _ _ _ _ _ _ _ _ _ = absurd (n refl)
other_byte at b rest Newline _ n _ _ _ _ _ _ _ _ _ _ _ _ = absurd (n refl)
other_byte at b rest Semi _ _ n _ _ _ _ _ _ _ _ _ _ _ = absurd (n refl)
other_byte at b rest Amp _ _ _ n _ _ _ _ _ _ _ _ _ _ = absurd (n refl)
other_byte at b rest Bar _ _ _ _ n _ _ _ _ _ _ _ _ _ = absurd (n refl)
other_byte at b rest Open _ _ _ _ _ n _ _ _ _ _ _ _ _ = absurd (n refl)
other_byte at b rest Close _ _ _ _ _ _ n _ _ _ _ _ _ _ = absurd (n refl)
other_byte at b rest Less _ _ _ _ _ _ _ n _ _ _ _ _ _ = absurd (n refl)
other_byte at b rest Greater _ _ _ _ _ _ _ _ n _ _ _ _ _ = absurd (n refl)
other_byte at b rest Single _ _ _ _ _ _ _ _ _ n _ _ _ _ = absurd (n refl)
other_byte at b rest Double _ _ _ _ _ _ _ _ _ _ n _ _ _ = absurd (n refl)
other_byte at b rest Back _ _ _ _ _ _ _ _ _ _ _ n _ _ = absurd (n refl)
other_byte at b rest Tick _ _ _ _ _ _ _ _ _ _ _ _ n _ = absurd (n refl)
other_byte at b rest Dollar _ _ _ _ _ _ _ _ _ _ _ _ _ n = absurd (n refl)
other_byte at b rest _ _ _ _ _ _ _ _ _ _ _ _ _ _ _ = refl

-- ---- the same in double quotes, behind `$` and behind `${`

pub inner_front : (s : Bytes) (at : ℕ) (k : ByteKind) → at < length s → k ≡ kind (get_or s at 0) → table.inner_by at (get_or s at 0) k (drop (at + 1) s) ≡ table.inner_at at (drop at s)
inner_front s at k lt e = ap (λ k. table.inner_by at (get_or s at 0) k (drop (at + 1) s)) e ∙ sym (ap (table.inner_at at) (front s at lt))

pub other_inner : (at b : ℕ) (rest : Bytes) (k : ByteKind) → (k ≡ Double → ⊥) → (k ≡ Back → ⊥) → (k ≡ Tick → ⊥) → (k ≡ Dollar → ⊥) → table.Byte b rest ≡ table.inner_by at b k rest
other_inner at b rest Double n _ _ _ = absurd (n refl)
other_inner at b rest Back _ n _ _ = absurd (n refl)
other_inner at b rest Tick _ _ n _ = absurd (n refl)
other_inner at b rest Dollar _ _ _ n = absurd (n refl)
other_inner at b rest _ _ _ _ _ = refl

pub dollar_front : (s : Bytes) (quoted : Bool) (dollar p here : ℕ) (k : ByteKind) → Here s p here → here < length s → k ≡ kind (get_or s here 0) → table.dollar_by quoted dollar (drop p s) (get_or s here 0) k (drop (here + 1) s) ≡ table.dollar quoted dollar (drop p s) (skip (drop p s))
dollar_front s quoted dollar p here k h lt e = ap (λ k. table.dollar_by quoted dollar (drop p s) (get_or s here 0) k (drop (here + 1) s)) e ∙ sym (ap (table.dollar quoted dollar (drop p s)) (skip_front s p here h lt))

pub other_dollar : (quoted : Bool) (at : ℕ) (rest : Bytes) (b : ℕ) (more : Bytes) (k : ByteKind) → (k ≡ Open → ⊥) → (k ≡ Brace → ⊥) → (k ≡ Name → ⊥) → (k ≡ Digit → ⊥) → (k ≡ Hash → ⊥) → (k ≡ At → ⊥) → (k ≡ Special → ⊥) → (k ≡ Dollar → ⊥) → (k ≡ Single → ⊥) → (k ≡ Double → ⊥) → table.Byte 36 rest ≡ table.dollar_by quoted at rest b k more
other_dollar quoted at rest b more Open n _ _ _ _ _ _ _ _ _ = absurd (n refl)
other_dollar quoted at rest b more Brace _ n _ _ _ _ _ _ _ _ = absurd (n refl)
other_dollar quoted at rest b more Name _ _ n _ _ _ _ _ _ _ = absurd (n refl)
other_dollar quoted at rest b more Digit _ _ _ n _ _ _ _ _ _ = absurd (n refl)
other_dollar quoted at rest b more Hash _ _ _ _ n _ _ _ _ _ = absurd (n refl)
other_dollar quoted at rest b more At _ _ _ _ _ n _ _ _ _ = absurd (n refl)
other_dollar quoted at rest b more Special _ _ _ _ _ _ n _ _ _ = absurd (n refl)
other_dollar quoted at rest b more Dollar _ _ _ _ _ _ _ n _ _ = absurd (n refl)
other_dollar quoted at rest b more Single _ _ _ _ _ _ _ _ n _ = absurd (n refl)
other_dollar quoted at rest b more Double _ _ _ _ _ _ _ _ _ n = absurd (n refl)
other_dollar quoted at rest b more _ _ _ _ _ _ _ _ _ _ _ = refl

pub braced_front : (s : Bytes) (quoted : Bool) (dollar p here : ℕ) (k : ByteKind) → Here s p here → here < length s → k ≡ kind (get_or s here 0) → table.braced_by quoted dollar (get_or s here 0) k (drop (here + 1) s) ≡ table.braced quoted dollar (skip (drop p s))
braced_front s quoted dollar p here k h lt e = ap (λ k. table.braced_by quoted dollar (get_or s here 0) k (drop (here + 1) s)) e ∙ sym (ap (table.braced quoted dollar) (skip_front s p here h lt))

pub other_braced : (quoted : Bool) (at b : ℕ) (rest : Bytes) (k : ByteKind) → (k ≡ Name → ⊥) → (k ≡ Digit → ⊥) → (k ≡ Hash → ⊥) → table.bad_param at ≡ table.braced_by quoted at b k rest
other_braced quoted at b rest Name n _ _ = absurd (n refl)
other_braced quoted at b rest Digit _ n _ = absurd (n refl)
other_braced quoted at b rest Hash _ _ n = absurd (n refl)
other_braced quoted at b rest _ _ _ _ = refl

-- ---- what is seen where memory suffices

pub seen_ok : {E : Type 0} (r : Result Look E) (s : Bytes) (t u : table.Look) → t ≡ u → IfOk r (λ l. seen_look s l ≡ t) → IfOk r (λ l. seen_look s l ≡ u)
seen_ok (Ok l) s t u e h = h ∙ e
seen_ok (Err x) s t u e h = tt

pub seen_any : {E : Type 0} (r : Result Look E) (s : Bytes) (f : ℕ → table.Look) (u : table.Look) (b : ℕ) → f b ≡ u → IfOk r (λ l. (b : ℕ) → seen_look s l ≡ f b) → IfOk r (λ l. seen_look s l ≡ u)
seen_any (Ok l) s f u b e h = h b ∙ e
seen_any (Err x) s f u b e h = tt
