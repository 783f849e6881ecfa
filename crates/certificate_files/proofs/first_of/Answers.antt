use Rattle.std.proofs.Common.{subst}
use Rattle.csv_rows.specs.Rows.{records_in}
use Rattle.certificate_check.specs.Verdicts.{IsVerdict}
use Rattle.certificate_labels.specs.Labels.{due_labels, IsWrongLabel}
use Rattle.certificate_files.proofs.FileVerdicts.{labels_due, record_first, label_first, label_alone}
use Rattle.certificate_files.proofs.first_of.Goals as goal

pub returns-in_default : goal.returns-in_default
returns-in_default c = λ inputs bytes certificate labels verdict.
    labels_due inputs bytes certificate c.args.verdict
    (subst (IsWrongLabel (due_labels inputs) (records_in bytes)) c.in_default.is labels) verdict

pub returns-in-No : goal.returns-in-No
returns-in-No c = λ inputs bytes certificate labels verdict.
    record_first inputs bytes certificate c.in-Some.row c.in-No.failed c.in-No.reason
    (subst (IsWrongLabel (due_labels inputs) (records_in bytes)) c.in-Some.is labels)
    (subst (IsVerdict inputs certificate) c.in-No.is verdict) c.if-failed-row.true

pub returns-in_default-verdict : goal.returns-in_default-verdict
returns-in_default-verdict c = λ inputs bytes certificate labels verdict.
    label_first inputs bytes certificate c.in-Some.row c.in-No.failed c.in-No.reason
    (subst (IsWrongLabel (due_labels inputs) (records_in bytes)) c.in-Some.is labels)
    (subst (IsVerdict inputs certificate) c.in-No.is verdict) c.if-failed-row.false

pub returns-in_default-verdict-2 : goal.returns-in_default-verdict-2
returns-in_default-verdict-2 c = λ inputs bytes certificate labels verdict.
    label_alone inputs bytes certificate c.in-Some.row
    (subst (IsWrongLabel (due_labels inputs) (records_in bytes)) c.in-Some.is labels)
    (subst (IsVerdict inputs certificate) c.in_default-verdict.is verdict)
