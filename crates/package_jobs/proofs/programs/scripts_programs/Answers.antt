use Rattle.package_jobs.proofs.Plans.{kinds_same}
use Rattle.package_jobs.proofs.programs.scripts_programs.Goals as goal

pub returns : goal.returns
returns c =
    kinds_same c.args.scripts.now c.in_ok-preinst.preinst c.in_ok-postinst.postinst c.in_ok-prerm.prerm c.in_ok-postrm.postrm
    c.in_ok-preinst.ensures c.in_ok-postinst.ensures c.in_ok-prerm.ensures c.in_ok-postrm.ensures
