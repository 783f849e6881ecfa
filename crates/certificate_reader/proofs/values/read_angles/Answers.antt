use Rattle.std.specs.Fmt.{decimal}
use Rattle.number_lists.specs.Lists.{numbers_text}
use Rattle.certificate_reader.proofs.Leaves.{kappa_is_word}
use Rattle.certificate_reader.proofs.values.read_angles.Goals as goal

pub returns-in_default : goal.returns-in_default
returns-in_default c = record { spelled = λ x g e. c.in_default.ensures.none.none (decimal x.kappa) (numbers_text x.w) (kappa_is_word x.kappa g.kappa) e }

pub returns-in_default-read_kappa : goal.returns-in_default-read_kappa
returns-in_default-read_kappa c = record {
  spelled = λ x g e. c.in_default-read_kappa.ensures.spelled x.kappa g.kappa (c.in-Some.ensures.some.only_first (decimal x.kappa) (numbers_text x.w) (kappa_is_word x.kappa g.kappa) e);
}

pub returns-in_default-2 : goal.returns-in_default-2
returns-in_default-2 c = record {
  spelled = λ x g e. (rw c.in_default-2.is at c.in_ok-w.ensures.spelled) x.w g.w (c.in-Some.ensures.some.only_rest (decimal x.kappa) (numbers_text x.w) (kappa_is_word x.kappa g.kappa) e);
}
