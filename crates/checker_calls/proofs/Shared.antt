-- Packages, and the programs of their scripts, may be shared by threads.
use denote.Param.Send.{IsSync, sendable, recorded_sync, struct_sync}
use denote.Struct.Declared.{shape}
use Rattle.script_names.proofs.boxed.Boxed.TheSendSync as boxed
use Rattle.script_names.proofs.list.List.TheSendSync as list
use Rattle.script_names.proofs.bytes.Bytes.TheSendSync as bytes
use Rattle.script_names.proofs.slot.Slot.TheSendSync as slot
use Rattle.script_names.proofs.reason.Reason.TheSendSync as reason
use Rattle.shell_syntax.proofs.syntax.Command.TheLaws.TheKnot as knot
use Rattle.shell_syntax.specs.contracts.script.Script as Script
use Rattle.shell_syntax.proofs.key.Key.TheSendSync as key
use Rattle.shell_syntax.proofs.redirect.Redirect.TheSendSync as redirect
use Rattle.std.proofs.Crossing as heap
use Rattle.dpkg_scenarios.specs.contracts.scripts.Scripts as Scripts
use Rattle.system_base.proofs.base.Base.TheSendSync as base
use Rattle.package_lists.proofs.file_list.FileList.TheSendSync as file_list
use Rattle.checker_input.specs.contracts.package.Packages as Packages
use Rattle.checker_input.specs.contracts.package.Package as Package
use Rattle.shell_forms.specs.contracts.accepted.Accepted as Accepted
use Rattle.colis_syntax.proofs.syntax.Fields.TheLaws.TheKnot as statements
use Rattle.colis_syntax.specs.contracts.def.Def as Def
use Rattle.colis_syntax.specs.contracts.syntax.Stmt as Stmt
use Rattle.colis_syntax.specs.contracts.program.Program as Program
use Rattle.package_jobs.specs.contracts.programs.Programs as Programs

script_sync : IsSync Script.the_row
script_sync =
    search (
      sendable,
      heap.crosses,
      knot.crosses,
      boxed.the_sync,
      bytes.the_sync,
      list.the_sync,
      key.the_field_sync,
      redirect.the_sync,
    ) depth 20

accepted_sync : IsSync Accepted.the_row
accepted_sync =
    search (
      sendable,
      heap.crosses,
      knot.crosses,
      boxed.the_sync,
      bytes.the_sync,
      list.the_sync,
      key.the_field_sync,
      redirect.the_sync,
    ) depth 20

scripts_field : IsSync (Scripts.the_field Accepted.the_row).row
scripts_field = let a = accepted_sync in search (sendable, slot.the_sync) depth 30 fits 5000

package_field : IsSync Package.the_field.row
package_field =
    struct_sync (shape Package.the_type)
    (search (sendable, bytes.the_sync) depth 20, (search (sendable, file_list.the_sync) depth 20, (scripts_field, tt)))

packages_field : IsSync Packages.the_field.row
packages_field = struct_sync (shape Packages.the_type) (package_field, (let p = package_field in search (sendable, heap.crosses) depth 10, (base.the_field_sync, (search (sendable, bytes.the_sync) depth 20, tt))))

pub packages_sync : IsSync Packages.the_row
packages_sync = recorded_sync Packages.the_field.row _ _ Packages.the_type.to_one packages_field

-- ---- programs, whose statements are a cycle of types

stmt_field : IsSync Stmt.the_field.row
stmt_field =
    search (
      sendable,
      heap.crosses,
      statements.crosses,
      boxed.the_sync,
      bytes.the_sync,
      list.the_sync,
      reason.the_field_sync,
    ) depth 20

def_field : IsSync Def.the_field.row
def_field = struct_sync (shape Def.the_type) (search (sendable, bytes.the_sync) depth 20, (stmt_field, tt))

program_given : IsSync Stmt.the_field.row → IsSync Def.the_field.row → IsSync Program.the_row
program_given s d = search (sendable, list.the_sync) depth 30 fits 5000

programs_given : IsSync Program.the_row → IsSync (Scripts.the_field Program.the_row).row
programs_given p = search (sendable, slot.the_sync) depth 30 fits 5000

both_given : IsSync (Scripts.the_field Program.the_row).row → IsSync Programs.the_row
both_given s = recorded_sync Programs.the_field.row _ _ Programs.the_type.to_one (struct_sync (shape Programs.the_type) (s, (s, tt)))

pub programs_sync : IsSync Programs.the_row
programs_sync = both_given (programs_given (program_given stmt_field def_field))
