use Rattle.certificate_files.proofs.judge.Goals as goal

pub returns : goal.returns
returns g c =
    c.first_of.ensures c.args.inputs.now c.args.bytes.now c.args.certificate.now c.in_ok-wrong.ensures
    c.in_ok-verdict.ensures
