-- What the parts of a statement do, from their own parts.
use Rattle.std.proofs.Common.{◌≡◌, map, ap}
use Rattle.colis_syntax.specs.declared.syntax.SetTo.{SetTo}
use Rattle.colis_syntax.specs.declared.syntax.ChainPart.{ChainPart}
use Rattle.colis_syntax.specs.declared.syntax.StmtArm.{StmtArm}
use Rattle.colis_syntax.specs.declared.syntax.PatArm.{PatArm}
use Rattle.colis_syntax.specs.declared.syntax.Fields.TheFolds.{fold_out-SetTo, fold_out-ChainPart, fold_out-StmtArm, fold_out-PatArm}
use Rattle.shell_rules.specs.State.{Funs, Does}
use Rattle.colis_meaning.specs.Meaning.{FieldsDo, StrDoes, PieceDoes, LinkDoes, CaseArmDoes, SetDoes, ArmDoes, fields_layer, stmt_layer, str_layer, piece_layer, link_layer, case_arm_layer, set_layer, arm_layer, co_stmt, co_str, co_piece, co_link, co_arm, co_set, co_case_arm, pieces_with}

pub link_at : (link : ChainPart) (f : Funs) → co_link link f ≡ (link.and, co_stmt link.stmt f)
link_at link f = ap (λ (d : LinkDoes). d f) (fold_out-ChainPart FieldsDo Does StrDoes PieceDoes LinkDoes CaseArmDoes SetDoes ArmDoes fields_layer stmt_layer str_layer piece_layer link_layer case_arm_layer set_layer arm_layer link)

pub set_at : (set : SetTo) (f : Funs) → co_set set f ≡ (set.name, (co_str set.value).value f)
set_at set f = ap (λ (d : SetDoes). d f) (fold_out-SetTo FieldsDo Does StrDoes PieceDoes LinkDoes CaseArmDoes SetDoes ArmDoes fields_layer stmt_layer str_layer piece_layer link_layer case_arm_layer set_layer arm_layer set)

pub arm_at : (arm : StmtArm) (f : Funs) → co_arm arm f ≡ (co_stmt arm.cond f, co_stmt arm.body f)
arm_at arm f = ap (λ (d : ArmDoes). d f) (fold_out-StmtArm FieldsDo Does StrDoes PieceDoes LinkDoes CaseArmDoes SetDoes ArmDoes fields_layer stmt_layer str_layer piece_layer link_layer case_arm_layer set_layer arm_layer arm)

pub case_arm_at : (arm : PatArm) (f : Funs) → co_case_arm arm f ≡ (map (pieces_with f) (map (λ pieces. map co_piece pieces) arm.patterns), co_stmt arm.body f)
case_arm_at arm f = ap (λ (d : CaseArmDoes). d f) (fold_out-PatArm FieldsDo Does StrDoes PieceDoes LinkDoes CaseArmDoes SetDoes ArmDoes fields_layer stmt_layer str_layer piece_layer link_layer case_arm_layer set_layer arm_layer arm)
