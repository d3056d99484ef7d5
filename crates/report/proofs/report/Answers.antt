-- `report::report` meets its contract: the lines, or a refusal. Assumes nothing.
use Rattle.std.proofs.Common.{◌∙◌, sym}
use Rattle.report.proofs.Reported.{prints, printed_lines, printed_refusal, printed_report}
use Rattle.report.proofs.report.Goals as goal

pub returns-in-Ok : goal.returns-in-Ok
returns-in-Ok c =
    prints c.put_lines.ensures (printed_lines (sym c.in-Ok.ensures) ∙ printed_report c.args.input.now)

pub returns-in-Err : goal.returns-in-Err
returns-in-Err c =
    prints c.put_refused.ensures (printed_refusal (sym c.in-Err.ensures) ∙ printed_report c.args.input.now)
