-- The forms of each command, as those of its parts.
use Rattle.std.proofs.Common.{◌≡◌, ℕ, ◌+◌, ◌<◌, Bool, not, ◌&&◌, ◌||◌, List, [], ◌∷◌, ◌++◌, length, map, take, get_or, Option, Some, None, codes, refl, sym, ap, ◌∙◌, add-one}
use Rattle.std.proofs.Math.Seq.{take-suc}
use Rattle.std.proofs.lemmas.List.{append-nil, map-append}
use Rattle.std.proofs.lemmas.Grind.{flat_map-append}
use Rattle.std.specs.List.{flat_map}
use Rattle.std.specs.Str.{bytes_eq}
use Rattle.shell_syntax.specs.declared.form.Form.{Form}
use Rattle.shell_syntax.specs.declared.form.Form.TheVariants as form
use Rattle.shell_syntax.specs.declared.redirect.Redirect.{Redirect}
use Rattle.shell_syntax.specs.declared.key.Key.{Key}
use Rattle.shell_syntax.specs.declared.syntax.Command.{Command}
use Rattle.shell_syntax.specs.declared.syntax.Command.TheVariants as v
use Rattle.shell_syntax.specs.declared.syntax.Part.{Part}
use Rattle.shell_syntax.specs.declared.syntax.Part.TheVariants as part
use Rattle.shell_syntax.specs.declared.syntax.Assign.{Assign}
use Rattle.shell_syntax.specs.declared.syntax.CaseArm.{CaseArm, out-CaseArm}
use Rattle.shell_syntax.specs.declared.syntax.IfArm.{IfArm}
use Rattle.shell_syntax.specs.declared.syntax.Link.{Link}
use Rattle.shell_syntax.specs.declared.syntax.Word.{Word}
use Rattle.shell_syntax.specs.declared.syntax.Command.TheOpen as o
use Rattle.shell_syntax.specs.declared.syntax.Command.TheFolds.{fold-roll-Command, fold-roll-Part, fold_out-Assign, fold_out-CaseArm, fold_out-IfArm, fold_out-Link, fold_out-Word}
use Rattle.shell_forms.specs.declared.place.Place.{Place}
use Rattle.shell_forms.specs.Names.{Text}
use Rattle.shell_forms.specs.Words.{PartSays, WordSays, AssignSays, command_of, commands_of}
use Rattle.shell_forms.specs.Forms.{Found, Forms, command_layer, part_layer, assign_layer, case_arm_layer, if_arm_layer, link_layer, word_layer, forms_of, part_says, assign_says, case_arm_says, if_arm_says, link_says, word_says, within, member, looped, apart, function_body, when, in_word, in_words, in_assigns, in_pattern, in_arms, in_case_arms, all_of, simple_forms, define_forms, is_name, is_named, static_name, operands, is_one_flag, sets_ifs, is_prefix, some_unquoted, are_any, calls_later}
use Rattle.shell_forms.specs.Seen.{in_part}
use Rattle.shell_forms.specs.Soonest.{soonest, sooner}

module _ (first : Text → Option ℕ) where
  pub forms_simple : (at : ℕ) (assigns : List Assign) (words : List Word) (p : Place) → forms_of first (v.Simple at assigns words) p ≡ simple_forms first at (map (assign_says first) assigns) (map (word_says first) words) p ++ (in_assigns (map (assign_says first) assigns) p ++ in_words (map (word_says first) words) p)
  forms_simple at assigns words p = ap (λ c. forms_of first c p) (sym (v.rolls-Simple at assigns words)) ∙ ap (λ (g : Forms). g p) (fold-roll-Command Forms (PartSays Forms) (AssignSays Forms) (List (WordSays Forms) × Forms) (Forms × Forms) Forms (WordSays Forms) (command_layer first) (part_layer first) (assign_layer first) (case_arm_layer first) (if_arm_layer first) (link_layer first) (word_layer first) (o.Simple at assigns words))

  pub forms_redirected : (at : ℕ) (body : Command) (redirects : List Redirect) (p : Place) → forms_of first (v.Redirected at body redirects) p ≡ forms_of first body (within p)
  forms_redirected at body redirects p = ap (λ c. forms_of first c p) (sym (v.rolls-Redirected at body redirects)) ∙ ap (λ (g : Forms). g p) (fold-roll-Command Forms (PartSays Forms) (AssignSays Forms) (List (WordSays Forms) × Forms) (Forms × Forms) Forms (WordSays Forms) (command_layer first) (part_layer first) (assign_layer first) (case_arm_layer first) (if_arm_layer first) (link_layer first) (word_layer first) (o.Redirected at body redirects))

  pub forms_pipe : (at : ℕ) (parts : List Command) (p : Place) → forms_of first (v.Pipe at parts) p ≡ all_of (map (forms_of first) parts) (within p)
  forms_pipe at parts p = ap (λ c. forms_of first c p) (sym (v.rolls-Pipe at parts)) ∙ ap (λ (g : Forms). g p) (fold-roll-Command Forms (PartSays Forms) (AssignSays Forms) (List (WordSays Forms) × Forms) (Forms × Forms) Forms (WordSays Forms) (command_layer first) (part_layer first) (assign_layer first) (case_arm_layer first) (if_arm_layer first) (link_layer first) (word_layer first) (o.Pipe at parts))

  pub forms_not : (at : ℕ) (body : Command) (p : Place) → forms_of first (v.Not at body) p ≡ forms_of first body (within p)
  forms_not at body p = ap (λ c. forms_of first c p) (sym (v.rolls-Not at body)) ∙ ap (λ (g : Forms). g p) (fold-roll-Command Forms (PartSays Forms) (AssignSays Forms) (List (WordSays Forms) × Forms) (Forms × Forms) Forms (WordSays Forms) (command_layer first) (part_layer first) (assign_layer first) (case_arm_layer first) (if_arm_layer first) (link_layer first) (word_layer first) (o.Not at body))

  pub forms_chain : (head : Command) (rest : List Link) (p : Place) → forms_of first (v.Chain head rest) p ≡ forms_of first head (within p) ++ all_of (map (link_says first) rest) (within p)
  forms_chain head rest p = ap (λ c. forms_of first c p) (sym (v.rolls-Chain head rest)) ∙ ap (λ (g : Forms). g p) (fold-roll-Command Forms (PartSays Forms) (AssignSays Forms) (List (WordSays Forms) × Forms) (Forms × Forms) Forms (WordSays Forms) (command_layer first) (part_layer first) (assign_layer first) (case_arm_layer first) (if_arm_layer first) (link_layer first) (word_layer first) (o.Chain head rest))

  pub forms_seq : (parts : List Command) (p : Place) → forms_of first (v.Seq parts) p ≡ all_of (map (forms_of first) parts) (member p)
  forms_seq parts p = ap (λ c. forms_of first c p) (sym (v.rolls-Seq parts)) ∙ ap (λ (g : Forms). g p) (fold-roll-Command Forms (PartSays Forms) (AssignSays Forms) (List (WordSays Forms) × Forms) (Forms × Forms) Forms (WordSays Forms) (command_layer first) (part_layer first) (assign_layer first) (case_arm_layer first) (if_arm_layer first) (link_layer first) (word_layer first) (o.Seq parts))

  pub forms_while : (at : ℕ) (until : Bool) (condition : Command) (body : Command) (p : Place) → forms_of first (v.While at until condition body) p ≡ forms_of first condition (looped p) ++ forms_of first body (looped p)
  forms_while at until condition body p = ap (λ c. forms_of first c p) (sym (v.rolls-While at until condition body)) ∙ ap (λ (g : Forms). g p) (fold-roll-Command Forms (PartSays Forms) (AssignSays Forms) (List (WordSays Forms) × Forms) (Forms × Forms) Forms (WordSays Forms) (command_layer first) (part_layer first) (assign_layer first) (case_arm_layer first) (if_arm_layer first) (link_layer first) (word_layer first) (o.While at until condition body))

  pub forms_case : (at : ℕ) (subject : Word) (arms : List CaseArm) (p : Place) → forms_of first (v.Case at subject arms) p ≡ in_pattern (word_says first subject) p ++ in_case_arms (map (case_arm_says first) arms) (within p)
  forms_case at subject arms p = ap (λ c. forms_of first c p) (sym (v.rolls-Case at subject arms)) ∙ ap (λ (g : Forms). g p) (fold-roll-Command Forms (PartSays Forms) (AssignSays Forms) (List (WordSays Forms) × Forms) (Forms × Forms) Forms (WordSays Forms) (command_layer first) (part_layer first) (assign_layer first) (case_arm_layer first) (if_arm_layer first) (link_layer first) (word_layer first) (o.Case at subject arms))

  pub forms_sub : (at : ℕ) (body : Command) (p : Place) → forms_of first (v.Sub at body) p ≡ forms_of first body (apart p)
  forms_sub at body p = ap (λ c. forms_of first c p) (sym (v.rolls-Sub at body)) ∙ ap (λ (g : Forms). g p) (fold-roll-Command Forms (PartSays Forms) (AssignSays Forms) (List (WordSays Forms) × Forms) (Forms × Forms) Forms (WordSays Forms) (command_layer first) (part_layer first) (assign_layer first) (case_arm_layer first) (if_arm_layer first) (link_layer first) (word_layer first) (o.Sub at body))

  pub forms_define : (at : ℕ) (name : Text) (body : Command) (p : Place) → forms_of first (v.Define at name body) p ≡ define_forms first at name p ++ forms_of first body (function_body at)
  forms_define at name body p = ap (λ c. forms_of first c p) (sym (v.rolls-Define at name body)) ∙ ap (λ (g : Forms). g p) (fold-roll-Command Forms (PartSays Forms) (AssignSays Forms) (List (WordSays Forms) × Forms) (Forms × Forms) Forms (WordSays Forms) (command_layer first) (part_layer first) (assign_layer first) (case_arm_layer first) (if_arm_layer first) (link_layer first) (word_layer first) (o.Define at name body))

  pub forms_if_alone : (at : ℕ) (arms : List IfArm) (p : Place) → forms_of first (v.If at arms None) p ≡ in_arms (map (if_arm_says first) arms) (within p) ++ []
  forms_if_alone at arms p = ap (λ c. forms_of first c p) (sym (v.rolls-If at arms None)) ∙ ap (λ (g : Forms). g p) (fold-roll-Command Forms (PartSays Forms) (AssignSays Forms) (List (WordSays Forms) × Forms) (Forms × Forms) Forms (WordSays Forms) (command_layer first) (part_layer first) (assign_layer first) (case_arm_layer first) (if_arm_layer first) (link_layer first) (word_layer first) (o.If at arms None))

  pub forms_if : (at : ℕ) (arms : List IfArm) (body : Command) (p : Place) → forms_of first (v.If at arms (Some body)) p ≡ in_arms (map (if_arm_says first) arms) (within p) ++ forms_of first body (within p)
  forms_if at arms body p = ap (λ c. forms_of first c p) (sym (v.rolls-If at arms (Some body))) ∙ ap (λ (g : Forms). g p) (fold-roll-Command Forms (PartSays Forms) (AssignSays Forms) (List (WordSays Forms) × Forms) (Forms × Forms) Forms (WordSays Forms) (command_layer first) (part_layer first) (assign_layer first) (case_arm_layer first) (if_arm_layer first) (link_layer first) (word_layer first) (o.If at arms (Some body)))

  pub forms_for_none : (at : ℕ) (name : Text) (body : Command) (p : Place)
      → forms_of first (v.For at name None body) p ≡ when (bytes_eq name (codes "IFS")) form.Ifs at ++ forms_of first body (looped p)
  forms_for_none at name body p = ap (λ c. forms_of first c p) (sym (v.rolls-For at name None body)) ∙ ap (λ (g : Forms). g p) (fold-roll-Command Forms (PartSays Forms) (AssignSays Forms) (List (WordSays Forms) × Forms) (Forms × Forms) Forms (WordSays Forms) (command_layer first) (part_layer first) (assign_layer first) (case_arm_layer first) (if_arm_layer first) (link_layer first) (word_layer first) (o.For at name None body))

  pub forms_for_some : (at : ℕ) (name : Text) (words : List Word) (body : Command) (p : Place)
      → forms_of first (v.For at name (Some words) body) p
      ≡ when (bytes_eq name (codes "IFS")) form.Ifs at ++ (in_words (map (word_says first) words) p ++ forms_of first body (looped p))
  forms_for_some at name words body p = ap (λ c. forms_of first c p) (sym (v.rolls-For at name (Some words) body)) ∙ ap (λ (g : Forms). g p) (fold-roll-Command Forms (PartSays Forms) (AssignSays Forms) (List (WordSays Forms) × Forms) (Forms × Forms) Forms (WordSays Forms) (command_layer first) (part_layer first) (assign_layer first) (case_arm_layer first) (if_arm_layer first) (link_layer first) (word_layer first) (o.For at name (Some words) body))

  says_plain : (bytes : Text) → part_says first (part.Plain bytes) ≡ part_layer first (o.Plain bytes)
  says_plain bytes = ap (part_says first) (sym (part.rolls-Plain bytes)) ∙ fold-roll-Part Forms (PartSays Forms) (AssignSays Forms) (List (WordSays Forms) × Forms) (Forms × Forms) Forms (WordSays Forms) (command_layer first) (part_layer first) (assign_layer first) (case_arm_layer first) (if_arm_layer first) (link_layer first) (word_layer first) (o.Plain bytes)

  says_quoted : (bytes : Text) → part_says first (part.Quoted bytes) ≡ part_layer first (o.Quoted bytes)
  says_quoted bytes = ap (part_says first) (sym (part.rolls-Quoted bytes)) ∙ fold-roll-Part Forms (PartSays Forms) (AssignSays Forms) (List (WordSays Forms) × Forms) (Forms × Forms) Forms (WordSays Forms) (command_layer first) (part_layer first) (assign_layer first) (case_arm_layer first) (if_arm_layer first) (link_layer first) (word_layer first) (o.Quoted bytes)

  says_param : (key : Key) (default : Option Text) (quoted : Bool) → part_says first (part.Param key default quoted) ≡ part_layer first (o.Param key default quoted)
  says_param key default quoted = ap (part_says first) (sym (part.rolls-Param key default quoted)) ∙ fold-roll-Part Forms (PartSays Forms) (AssignSays Forms) (List (WordSays Forms) × Forms) (Forms × Forms) Forms (WordSays Forms) (command_layer first) (part_layer first) (assign_layer first) (case_arm_layer first) (if_arm_layer first) (link_layer first) (word_layer first) (o.Param key default quoted)

  says_all : part_says first part.All ≡ part_layer first o.All
  says_all = ap (part_says first) (sym part.rolls-All) ∙ fold-roll-Part Forms (PartSays Forms) (AssignSays Forms) (List (WordSays Forms) × Forms) (Forms × Forms) Forms (WordSays Forms) (command_layer first) (part_layer first) (assign_layer first) (case_arm_layer first) (if_arm_layer first) (link_layer first) (word_layer first) o.All

  says_run : (at : ℕ) (body : Command) (quoted : Bool) → part_says first (part.Run at body quoted) ≡ part_layer first (o.Run at (forms_of first body) quoted)
  says_run at body quoted = ap (part_says first) (sym (part.rolls-Run at body quoted)) ∙ fold-roll-Part Forms (PartSays Forms) (AssignSays Forms) (List (WordSays Forms) × Forms) (Forms × Forms) Forms (WordSays Forms) (command_layer first) (part_layer first) (assign_layer first) (case_arm_layer first) (if_arm_layer first) (link_layer first) (word_layer first) (o.Run at body quoted)

  pub none_in_plain : (bytes : Text) (p : Place) → in_part first (part.Plain bytes) p ≡ []
  none_in_plain bytes p = ap (λ (s : PartSays Forms). all_of (command_of s.runs) (apart p)) (says_plain bytes)

  pub none_in_quoted : (bytes : Text) (p : Place) → in_part first (part.Quoted bytes) p ≡ []
  none_in_quoted bytes p = ap (λ (s : PartSays Forms). all_of (command_of s.runs) (apart p)) (says_quoted bytes)

  pub none_in_param : (key : Key) (default : Option Text) (quoted : Bool) (p : Place) → in_part first (part.Param key default quoted) p ≡ []
  none_in_param key default quoted p = ap (λ (s : PartSays Forms). all_of (command_of s.runs) (apart p)) (says_param key default quoted)

  pub none_in_all : (p : Place) → in_part first part.All p ≡ []
  none_in_all p = ap (λ (s : PartSays Forms). all_of (command_of s.runs) (apart p)) says_all

  pub in_run : (at : ℕ) (body : Command) (quoted : Bool) (p : Place) → in_part first (part.Run at body quoted) p ≡ forms_of first body (apart p)
  in_run at body quoted p = ap (λ (s : PartSays Forms). all_of (command_of s.runs) (apart p)) (says_run at body quoted) ∙ append-nil (forms_of first body (apart p))

  pub says_assign : (assign : Assign) → assign_says first assign ≡ record { name = assign.name; value = word_says first assign.value }
  says_assign assign = fold_out-Assign Forms (PartSays Forms) (AssignSays Forms) (List (WordSays Forms) × Forms) (Forms × Forms) Forms (WordSays Forms) (command_layer first) (part_layer first) (assign_layer first) (case_arm_layer first) (if_arm_layer first) (link_layer first) (word_layer first) assign

  pub says_case_arm : (arm : CaseArm) → case_arm_says first arm ≡ (map (word_says first) (out-CaseArm arm).patterns, forms_of first (out-CaseArm arm).body)
  says_case_arm arm = fold_out-CaseArm Forms (PartSays Forms) (AssignSays Forms) (List (WordSays Forms) × Forms) (Forms × Forms) Forms (WordSays Forms) (command_layer first) (part_layer first) (assign_layer first) (case_arm_layer first) (if_arm_layer first) (link_layer first) (word_layer first) arm

  pub says_if_arm : (arm : IfArm) → if_arm_says first arm ≡ (forms_of first arm.cond, forms_of first arm.body)
  says_if_arm arm = fold_out-IfArm Forms (PartSays Forms) (AssignSays Forms) (List (WordSays Forms) × Forms) (Forms × Forms) Forms (WordSays Forms) (command_layer first) (part_layer first) (assign_layer first) (case_arm_layer first) (if_arm_layer first) (link_layer first) (word_layer first) arm

  pub says_link : (link : Link) → link_says first link ≡ forms_of first link.command
  says_link link = fold_out-Link Forms (PartSays Forms) (AssignSays Forms) (List (WordSays Forms) × Forms) (Forms × Forms) Forms (WordSays Forms) (command_layer first) (part_layer first) (assign_layer first) (case_arm_layer first) (if_arm_layer first) (link_layer first) (word_layer first) link

  pub says_word : (word : Word) → word_says first word ≡ record { at = word.at; parts = map (part_says first) word.parts }
  says_word word = fold_out-Word Forms (PartSays Forms) (AssignSays Forms) (List (WordSays Forms) × Forms) (Forms × Forms) Forms (WordSays Forms) (command_layer first) (part_layer first) (assign_layer first) (case_arm_layer first) (if_arm_layer first) (link_layer first) (word_layer first) word

  -- the forms of a word, part by part
  in_all_parts : (parts : List Part) (p : Place) → all_of (commands_of (map (part_says first) parts)) (apart p) ≡ flat_map (λ part. in_part first part p) parts
  in_all_parts [] p = refl
  in_all_parts (part ∷ parts) p =
      flat_map-append (λ (g : Forms). g (apart p)) (command_of (part_says first part).runs) (commands_of (map (part_says first) parts))
      ∙ ap (λ l. in_part first part p ++ l) (in_all_parts parts p)

  pub in_parts : (word : Word) (p : Place) → in_word (word_says first word) p ≡ flat_map (λ part. in_part first part p) word.parts
  in_parts word p = ap (λ (w : WordSays Forms). in_word w p) (says_word word) ∙ in_all_parts word.parts p

-- the first of some and of more
pub soonest-append : (so_far : Option Found) (all more : List Found) → soonest so_far (all ++ more) ≡ soonest (soonest so_far all) more
soonest-append so_far [] more = refl
soonest-append so_far (one ∷ all) more = soonest-append (sooner so_far one) all more

-- first these, then those
pub then_more : (a b c : Option Found) (xs ys all : List Found) → all ≡ xs ++ ys → b ≡ soonest a xs → c ≡ soonest b ys → c ≡ soonest a all
then_more a b c xs ys all is before behind =
    behind ∙ ap (λ o. soonest o ys) before ∙ sym (soonest-append a xs ys) ∙ ap (soonest a) (sym is)

-- the same forms, otherwise written
pub same_forms : (a b : Option Found) (xs all : List Found) → all ≡ xs → b ≡ soonest a xs → b ≡ soonest a all
same_forms a b xs all is found = found ∙ ap (soonest a) (sym is)

-- a loop over parts, one part further on
module _ {A B : Type 0} (h : B → List Found) (g : A → B) where
  taken : (xs : List A) (i : ℕ) (x : A) → i < length xs → x ≡ get_or xs i x
      → flat_map h (map g (take (i + 1) xs)) ≡ flat_map h (map g (take i xs)) ++ h (g x)
  taken xs i x lt is =
      ap (λ n. flat_map h (map g (take n xs))) (add-one i) ∙ ap (λ ys. flat_map h (map g ys)) (take-suc xs i x lt)
      ∙ ap (flat_map h) (map-append g (take i xs) (get_or xs i x ∷ []))
      ∙ flat_map-append h (map g (take i xs)) (g (get_or xs i x) ∷ [])
      ∙ ap (λ l. flat_map h (map g (take i xs)) ++ l) (append-nil (h (g (get_or xs i x))) ∙ ap (λ y. h (g y)) (sym is))

  pub one_more : (a b c : Option Found) (xs : List A) (i : ℕ) (x : A) → i < length xs → x ≡ get_or xs i x
      → b ≡ soonest a (flat_map h (map g (take i xs))) → c ≡ soonest b (h (g x)) → c ≡ soonest a (flat_map h (map g (take (i + 1) xs)))
  one_more a b c xs i x lt is before here =
      then_more a b c (flat_map h (map g (take i xs))) (h (g x)) (flat_map h (map g (take (i + 1) xs))) (taken xs i x lt is) before here

-- likewise where the parts themselves are gone over
module _ {A : Type 0} (h : A → List Found) where
  taken_part : (xs : List A) (i : ℕ) (x : A) → i < length xs → x ≡ get_or xs i x
      → flat_map h (take (i + 1) xs) ≡ flat_map h (take i xs) ++ h x
  taken_part xs i x lt is =
      ap (λ n. flat_map h (take n xs)) (add-one i) ∙ ap (flat_map h) (take-suc xs i x lt)
      ∙ flat_map-append h (take i xs) (get_or xs i x ∷ [])
      ∙ ap (λ l. flat_map h (take i xs) ++ l) (append-nil (h (get_or xs i x)) ∙ ap h (sym is))

  pub one_more_part : (a b c : Option Found) (xs : List A) (i : ℕ) (x : A) → i < length xs → x ≡ get_or xs i x
      → b ≡ soonest a (flat_map h (take i xs)) → c ≡ soonest b (h x) → c ≡ soonest a (flat_map h (take (i + 1) xs))
  one_more_part a b c xs i x lt is before here =
      then_more a b c (flat_map h (take i xs)) (h x) (flat_map h (take (i + 1) xs)) (taken_part xs i x lt is) before here

-- the same, of what is equal, at a place that is equal
pub moved : {A : Type 0} (a b : Option Found) (g : A → Place → List Found) (x y : A) (p q : Place)
    → b ≡ soonest a (g x p) → x ≡ y → p ≡ q → b ≡ soonest a (g y q)
moved a b g x y p q found is place = found ∙ ap (λ z. soonest a (g z p)) is ∙ ap (λ r. soonest a (g y r)) place

-- seven one after another
pub seven : (a b c d e f g h : Option Found) (ks ls ms ns os ps qs : List Found)
    → b ≡ soonest a ks → c ≡ soonest b ls → d ≡ soonest c ms → e ≡ soonest d ns → f ≡ soonest e os → g ≡ soonest f ps → h ≡ soonest g qs
    → h ≡ soonest a (ks ++ (ls ++ (ms ++ (ns ++ (os ++ (ps ++ qs))))))
seven a b c d e f g h ks ls ms ns os ps qs one two three four five six last =
    then_more a b h ks (ls ++ (ms ++ (ns ++ (os ++ (ps ++ qs))))) _ refl one
    (then_more b c h ls (ms ++ (ns ++ (os ++ (ps ++ qs)))) _ refl two
    (then_more c d h ms (ns ++ (os ++ (ps ++ qs))) _ refl three
    (then_more d e h ns (os ++ (ps ++ qs)) _ refl four
    (then_more e f h os (ps ++ qs) _ refl five
    (then_more f g h ps qs _ refl six last)))))

-- a form, by an equal test
pub found_when : (a b : Option Found) (what : Form) (at : ℕ) (test other : Bool) → b ≡ soonest a (when test what at) → test ≡ other → b ≡ soonest a (when other what at)
found_when a b what at test other found is = found ∙ ap (λ t. soonest a (when t what at)) is

-- the forms that a simple command itself is, one after another
pub simple_found : (first : Text → Option ℕ) (at : ℕ) (assigns : List (AssignSays Forms)) (words : List (WordSays Forms)) (p : Place)
    (a b c d e f g h : Option Found)
    → b ≡ soonest a (when (is_name (static_name words) (codes "set") && not (is_one_flag (operands words))) form.Option at)
    → c ≡ soonest b (when (sets_ifs assigns) form.Ifs at)
    → d ≡ soonest c (when (is_prefix first assigns words) form.Prefix at)
    → e ≡ soonest d (when (is_name (static_name words) (codes "export") && some_unquoted (operands words)) form.Export at)
    → f ≡ soonest e (when (is_named (static_name words) (codes "break" ∷ codes "continue" ∷ []) && (are_any (operands words) || not p.in_loop)) form.LoopExit at)
    → g ≡ soonest f (when (is_name (static_name words) (codes "return") && not p.may_return) form.Return at)
    → h ≡ soonest g (when (calls_later first p.defined_at (static_name words)) form.CallOrder at)
    → h ≡ soonest a (simple_forms first at assigns words p)
simple_found first at assigns words p a b c d e f g h one two three four five six last =
    seven a b c d e f g h
    (when (is_name (static_name words) (codes "set") && not (is_one_flag (operands words))) form.Option at)
    (when (sets_ifs assigns) form.Ifs at) (when (is_prefix first assigns words) form.Prefix at)
    (when (is_name (static_name words) (codes "export") && some_unquoted (operands words)) form.Export at)
    (when (is_named (static_name words) (codes "break" ∷ codes "continue" ∷ []) && (are_any (operands words) || not p.in_loop)) form.LoopExit at)
    (when (is_name (static_name words) (codes "return") && not p.may_return) form.Return at)
    (when (calls_later first p.defined_at (static_name words)) form.CallOrder at)
    one two three four five six last
