-- A package whose only script is a postinst.
use Rattle.std.proofs.Common.{◌≡◌, ℕ, List, [], Option, Some, None, codes, subst, ◌∙◌}
use Rattle.shell_syntax.specs.declared.script.Script.{Script}
use Rattle.package_lists.specs.Entries.{EntryParts}
use Rattle.checker_input.specs.declared.package.Package.{Package}
use Rattle.checker_input.specs.Script.{IsAccepted}
use Rattle.load_maker.specs.LoadText.{load_text}
use Rattle.load_maker.specs.Loaded.{only_postinst, IsLoaded}

module _ (n : ℕ) (version : List ℕ) (entries : List EntryParts) (preinst postinst prerm postrm : Option Script) where
  abbrev whole : Package
  whole = record {
    version = version;
    entries = entries;
    scripts = record { preinst = preinst; postinst = postinst; prerm = prerm; postrm = postrm };
  }

  pub is_loaded : (text shown : List ℕ) (script : Script) → version ≡ codes "0" → entries ≡ [] → preinst ≡ None
      → postinst ≡ Some script → prerm ≡ None → postrm ≡ None → shown ≡ text → text ≡ load_text n → IsAccepted shown script
      → IsLoaded n whole
  is_loaded text shown script v e a b c d same is accepted =
      let made : whole ≡ only_postinst script = λ i. record {
        version = v i;
        entries = e i;
        scripts = record { preinst = a i; postinst = b i; prerm = c i; postrm = d i };
      } in
      record { script = script; accepted = subst (λ t. IsAccepted t script) (same ∙ is) accepted; is = made }
