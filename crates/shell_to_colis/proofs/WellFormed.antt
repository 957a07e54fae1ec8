-- The program of a script without unsupported forms is well formed.
use Rattle.std.proofs.Common.{◌≡◌, ℕ, Bool, true, false, not, List, [], ◌∷◌, ◌++◌, map, Option, Some, None, refl, sym, ap, ◌∙◌, subst, if◌then◌else◌, append_assoc, append-nil}
use Rattle.std.proofs.lemmas.Bool.{and_from, and_parts}
use Rattle.shell_syntax.specs.declared.script.Script.{Script}
use Rattle.shell_syntax.specs.declared.syntax.Command.{Command, roll-Command, out-Command, roll-out-Command}
use Rattle.shell_syntax.specs.declared.syntax.Part.{Part}
use Rattle.shell_syntax.specs.declared.syntax.Assign.{Assign}
use Rattle.shell_syntax.specs.declared.syntax.CaseArm.{CaseArm}
use Rattle.shell_syntax.specs.declared.syntax.IfArm.{IfArm}
use Rattle.shell_syntax.specs.declared.syntax.Link.{Link}
use Rattle.shell_syntax.specs.declared.syntax.Word.{Word}
use Rattle.shell_syntax.specs.declared.syntax.Command.TheOpen as o
use Rattle.shell_syntax.specs.declared.syntax.Command.TheFolds.{fold-roll-Command}
use Rattle.shell_forms.specs.Names.{Text}
use Rattle.shell_forms.specs.Words.{PartSays, WordSays, AssignSays}
use Rattle.shell_forms.specs.Forms as form
use Rattle.shell_forms.specs.Forms.{Forms, forms_of, script_place, member, function_body, all_of}
use Rattle.shell_forms.specs.First.{script_forms}
use Rattle.shell_forms.specs.Functions.{definitions, first_of}
use Rattle.shell_forms.specs.declared.place.Place.{Place}
use Rattle.colis_syntax.specs.declared.def.Def.{Def}
use Rattle.colis_syntax.specs.WellFormed.{is_def, def_passes, defs_pass, def_scope, body_scope, stmt_passes, is_well_formed, program_of as checked}
use Rattle.shell_to_colis.specs.Members.{layer_defines, defined_by, layer_members, members_of}
use Rattle.shell_to_colis.specs.Translated.{translated, def_to, defs_behind, defs_to, body_statements, seq_to, program_of}
use Rattle.shell_to_colis.proofs.Passes.{no_front, no_back, all_stmts, seq_passes, scope, Known}
use Rattle.shell_to_colis.proofs.InPlace.{command_passes}
use Rattle.shell_to_colis.proofs.SameScript.{any_more}

-- ---- functions

known_more : (xs ys : List Def) → Known xs (xs ++ ys)
known_more xs ys x e = any_more _ xs ys e

known_later : (cs : List Command) (defs : List Def) → Known defs (defs_to cs defs)
known_later [] defs x e = e
known_later (c ∷ cs) defs x e = known_later cs (defs_behind c defs) x (known_more defs (def_to (defined_by c) defs) x e)

defs_pass_end : (earlier xs : List Def) (d : Def) → defs_pass earlier xs ≡ true → def_passes (earlier ++ xs) d ≡ true → defs_pass earlier (xs ++ d ∷ []) ≡ true
defs_pass_end earlier [] d e h = and_from (def_passes earlier d) true (subst (λ ds. def_passes ds d ≡ true) (append-nil earlier) h) refl
defs_pass_end earlier (x ∷ xs) d e h =
    let t = and_parts (def_passes earlier x) (defs_pass (earlier ++ x ∷ []) xs) e in
    and_from (def_passes earlier x) (defs_pass (earlier ++ x ∷ []) (xs ++ d ∷ [])) t.0
    (defs_pass_end (earlier ++ x ∷ []) xs d t.1 (subst (λ ds. def_passes ds d ≡ true) (sym (append_assoc earlier (x ∷ []) xs)) h))

-- the body of a definition, if there is one, may stand behind these definitions
abbrev BodyPasses : Option (Text × Command) → List Def → Type 0
BodyPasses None defs = Unit {0}
BodyPasses (Some d) defs = stmt_passes (translated d.1 defs) (def_scope defs) ≡ true

def_if : (b : Bool) (d : Text × Command) (defs : List Def) → is_def d.0 defs ≡ b → BodyPasses (Some d) defs → defs_pass [] defs ≡ true
    → defs_pass [] (defs ++ (if b then [] else record { name = d.0; body = translated d.1 defs } ∷ [])) ≡ true
def_if true d defs is h e = subst (λ ds. defs_pass [] ds ≡ true) (sym (append-nil defs)) e
def_if false d defs is h e = defs_pass_end [] defs (record { name = d.0; body = translated d.1 defs }) e (and_from _ _ (ap not is) h)

one_def : (what : Option (Text × Command)) (defs : List Def) → BodyPasses what defs → defs_pass [] defs ≡ true → defs_pass [] (defs ++ def_to what defs) ≡ true
one_def None defs h e = subst (λ ds. defs_pass [] ds ≡ true) (sym (append-nil defs)) e
one_def (Some d) defs h e = def_if (is_def d.0 defs) d defs refl h e

-- ---- members

module _ (first : Text → Option ℕ) where
  layer_body_passes : (x : o.Command-F Command Part Assign CaseArm IfArm Link Word) (p : Place) (defs : List Def) → forms_of first (roll-Command x) p ≡ [] → BodyPasses (layer_defines x) defs
  layer_body_passes (o.Define at name body) p defs e =
      let f = sym (ap (λ (f : Forms). f p) (fold-roll-Command Forms (PartSays Forms) (AssignSays Forms) (List (WordSays Forms) × Forms) (Forms × Forms) Forms (WordSays Forms) (form.command_layer first) (form.part_layer first) (form.assign_layer first) (form.case_arm_layer first) (form.if_arm_layer first) (form.link_layer first) (form.word_layer first) (o.Define at name body))) ∙ e in
      command_passes first body (function_body at) defs defs (λ x h. h) (no_back (form.define_forms first at name p) (forms_of first body (function_body at)) f)
  layer_body_passes (o.Seq parts) p defs e = tt
  layer_body_passes (o.Simple at assigns words) p defs e = tt
  layer_body_passes (o.Redirected at body redirects) p defs e = tt
  layer_body_passes (o.Pipe at parts) p defs e = tt
  layer_body_passes (o.Not at body) p defs e = tt
  layer_body_passes (o.Chain head rest) p defs e = tt
  layer_body_passes (o.If at arms otherwise) p defs e = tt
  layer_body_passes (o.For at name words body) p defs e = tt
  layer_body_passes (o.While at until cond body) p defs e = tt
  layer_body_passes (o.Case at subject arms) p defs e = tt
  layer_body_passes (o.Sub at body) p defs e = tt

  defined_body_passes : (x : Command) (p : Place) (defs : List Def) → forms_of first x p ≡ [] → BodyPasses (defined_by x) defs
  defined_body_passes x p defs e = layer_body_passes (out-Command x) p defs (ap (λ x. forms_of first x p) (roll-out-Command x) ∙ e)

  all_defs_pass : (cs : List Command) (p : Place) (defs : List Def) → all_of (map (forms_of first) cs) p ≡ [] → defs_pass [] defs ≡ true → defs_pass [] (defs_to cs defs) ≡ true
  all_defs_pass [] p defs e h = h
  all_defs_pass (x ∷ cs) p defs e h =
      let a = forms_of first x p in let b = all_of (map (forms_of first) cs) p in
      all_defs_pass cs p (defs_behind x defs) (no_back a b e) (one_def (defined_by x) defs (defined_body_passes x p defs (no_front a b e)) h)

  statements_pass : (cs : List Command) (p : Place) (defs all : List Def) → Known (defs_to cs defs) all → all_of (map (forms_of first) cs) p ≡ [] → all_stmts (scope p all) (body_statements cs defs) ≡ true
  statements_pass [] p defs all known e = refl
  statements_pass (x ∷ cs) p defs all known e =
      let a = forms_of first x p in let b = all_of (map (forms_of first) cs) p in
      and_from (stmt_passes (translated x defs) (scope p all)) (all_stmts (scope p all) (body_statements cs (defs_behind x defs)))
      (command_passes first x p defs all (λ n h. known n (known_later (x ∷ cs) defs n h)) (no_front a b e))
      (statements_pass cs p (defs_behind x defs) all known (no_back a b e))

  abbrev Whole : List Command → Type 0
  Whole cs = is_well_formed (defs_to cs []) (seq_to (body_statements cs [])) ≡ true

  whole_script : (cs : List Command) → all_of (map (forms_of first) cs) script_place ≡ [] → Whole cs
  whole_script cs e =
      let ds = defs_to cs [] in
      and_from (defs_pass [] ds) (stmt_passes (seq_to (body_statements cs [])) (body_scope ds)) (all_defs_pass cs script_place [] e refl)
      (seq_passes (body_scope ds) (body_statements cs []) (statements_pass cs script_place [] ds (λ x h. h) e))

  whole_members : (cs : List Command) → all_of (map (forms_of first) cs) (member script_place) ≡ [] → Whole cs
  whole_members cs e =
      let ds = defs_to cs [] in
      and_from (defs_pass [] ds) (stmt_passes (seq_to (body_statements cs [])) (body_scope ds)) (all_defs_pass cs (member script_place) [] e refl)
      (seq_passes (body_scope ds) (body_statements cs []) (statements_pass cs (member script_place) [] ds (λ x h. h) e))

  whole_one : (x : Command) → forms_of first x script_place ≡ [] → Whole (x ∷ [])
  whole_one x e = whole_script (x ∷ []) (ap (λ l. l ++ []) e)

  layer_whole : (x : o.Command-F Command Part Assign CaseArm IfArm Link Word) → forms_of first (roll-Command x) script_place ≡ [] → Whole (layer_members (roll-Command x) x)
  layer_whole (o.Seq parts) e = whole_members parts (sym (ap (λ (f : Forms). f script_place) (fold-roll-Command Forms (PartSays Forms) (AssignSays Forms) (List (WordSays Forms) × Forms) (Forms × Forms) Forms (WordSays Forms) (form.command_layer first) (form.part_layer first) (form.assign_layer first) (form.case_arm_layer first) (form.if_arm_layer first) (form.link_layer first) (form.word_layer first) (o.Seq parts))) ∙ e)
  layer_whole (o.Simple at assigns words) e = whole_one (roll-Command (o.Simple at assigns words)) e
  layer_whole (o.Redirected at body redirects) e = whole_one (roll-Command (o.Redirected at body redirects)) e
  layer_whole (o.Pipe at parts) e = whole_one (roll-Command (o.Pipe at parts)) e
  layer_whole (o.Not at body) e = whole_one (roll-Command (o.Not at body)) e
  layer_whole (o.Chain head rest) e = whole_one (roll-Command (o.Chain head rest)) e
  layer_whole (o.If at arms otherwise) e = whole_one (roll-Command (o.If at arms otherwise)) e
  layer_whole (o.For at name words body) e = whole_one (roll-Command (o.For at name words body)) e
  layer_whole (o.While at until cond body) e = whole_one (roll-Command (o.While at until cond body)) e
  layer_whole (o.Case at subject arms) e = whole_one (roll-Command (o.Case at subject arms)) e
  layer_whole (o.Sub at body) e = whole_one (roll-Command (o.Sub at body)) e
  layer_whole (o.Define at name body) e = whole_one (roll-Command (o.Define at name body)) e

  whole : (x : Command) → forms_of first x script_place ≡ [] → Whole (members_of x)
  whole x e = subst (λ y. Whole (layer_members y (out-Command x))) (roll-out-Command x) (layer_whole (out-Command x) (ap (λ y. forms_of first y script_place) (roll-out-Command x) ∙ e))

-- a script in which no unsupported form stands has well formed parts
pub are_parts : (script : Script) → script_forms script.body ≡ [] → is_well_formed (defs_to (members_of script.body) []) (seq_to (body_statements (members_of script.body) [])) ≡ true
are_parts script e = whole (first_of (definitions script.body)) script.body e

-- and so has a program
pub is_program : (script : Script) → script_forms script.body ≡ [] → checked script.strict (defs_to (members_of script.body) []) (seq_to (body_statements (members_of script.body) [])) ≡ Some (program_of script)
is_program script e = ap (λ b. if b then Some (program_of script) else None) (are_parts script e)
