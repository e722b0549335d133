use Rattle.report.specs.Report.{numbers_of}
use Rattle.koskorbelu.specs.Face.{report_numbers}
use Rattle.koskorbelu.proofs.kos_report.Goals as goal

pub returns : goal.returns
unfolding report_numbers
returns c = record { findings = numbers_of c.report.result; reported = c.report.ensures; written = c.numbers.ensures }
